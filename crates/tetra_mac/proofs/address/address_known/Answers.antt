use Prim.Native.Nat.{ℕ, zero, suc}
use mathlib.Core.Path.{◌≡◌, refl, sym, ap, ◌∙◌}
use mathlib.Core.List.{[], ◌∷◌}
use mathlib.Core.Bool.{Bool, true, false}
use native.Mathlib.Omega.{arith}
use lib.ListN.{get_or}
use lib.Dec.{ltb}
use borrow.Author.Tests.{lt-ltb, le-ltb}
use Rattle.codec.proofs.Laws.Cases.{last_case}
use Rattle.tetra_mac.specs.Address.{address_knowns, address_known}
use Rattle.tetra_mac.proofs.address.address_known.Goals as goal

-- with a good kind each of the eight types is known
eight : (v : ℕ) → ltb v 8 ≡ get_or (true ∷ true ∷ true ∷ true ∷ true ∷ true ∷ true ∷ true ∷ []) v false
eight zero = refl
eight (suc zero) = refl
eight (suc (suc zero)) = refl
eight (suc (suc (suc zero))) = refl
eight (suc (suc (suc (suc zero)))) = refl
eight (suc (suc (suc (suc (suc zero))))) = refl
eight (suc (suc (suc (suc (suc (suc zero)))))) = refl
eight (suc (suc (suc (suc (suc (suc (suc zero))))))) = refl
eight (suc (suc (suc (suc (suc (suc (suc (suc v)))))))) = le-ltb (suc (suc (suc (suc (suc (suc (suc (suc v)))))))) 8 (omega arith)

pub returns-then-kind-lt3 : goal.returns-then-kind-lt3
unfolding address_known
returns-then-kind-lt3 c =
    let a = c.args in
    eight a.addr_type
    ∙ ap (λ (b : Bool). get_or (true ∷ b ∷ true ∷ true ∷ true ∷ b ∷ b ∷ true ∷ []) a.addr_type false) (sym (lt-ltb a.kind 3 c.if-kind-lt3.true))

pub returns-in-0 : goal.returns-in-0
unfolding address_known
returns-in-0 c = rw c.in-0.is

pub returns-in-1 : goal.returns-in-1
unfolding address_known
returns-in-1 c = rw (c.in-1.is, le-ltb c.args.kind 3 c.if-kind-lt3.false)

pub returns-in-2 : goal.returns-in-2
unfolding address_known
returns-in-2 c = rw c.in-2.is

pub returns-in-3 : goal.returns-in-3
unfolding address_known
returns-in-3 c = rw c.in-3.is

pub returns-in-4 : goal.returns-in-4
unfolding address_known
returns-in-4 c = rw c.in-4.is

pub returns-in-5 : goal.returns-in-5
unfolding address_known
returns-in-5 c = rw (c.in-5.is, le-ltb c.args.kind 3 c.if-kind-lt3.false)

pub returns-in-6 : goal.returns-in-6
unfolding address_known
returns-in-6 c = rw (c.in-6.is, le-ltb c.args.kind 3 c.if-kind-lt3.false)

pub returns-in-7 : goal.returns-in-7
unfolding address_known
returns-in-7 c = rw c.in-7.is

pub returns-in_default : goal.returns-in_default
unfolding address_known
returns-in_default c = last_case (address_knowns c.args.kind) _ _ c.in_default.in_default-own.rest
