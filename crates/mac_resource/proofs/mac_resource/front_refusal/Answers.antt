use mathlib.Core.List.{[], ◌∷◌}
use mathlib.Core.Path.{◌≡◌, refl}
use native.Mathlib.Omega.{arith}
use borrow.Author.Tests.{lt-ltb, le-ltb}
use Rattle.tetra_core.specs.Refusal.{refused_by, first, first_skip, first-here, first-and, stopped, went_on}
use Rattle.codec.specs.Width.{too_wide}
use Rattle.mac_resource.specs.MacResource.{front_refusal}
use Rattle.mac_resource.proofs.mac_resource.front_refusal.Goals.{In_ok-encrypted_refusal}
use Rattle.mac_resource.proofs.mac_resource.front_refusal.Goals as goal

-- behind the encryption
front : (c : In_ok-encrypted_refusal) → let d = c.args in
    front_refusal d.h (refused_by d.length) (refused_by d.address)
    ≡ first (too_wide 1 d.h.pos_of_grant ∷ too_wide 2 d.h.encryption_mode ∷ refused_by d.length ∷ refused_by d.address ∷ [])
unfolding front_refusal
front c = went_on _ c.encrypted_refusal.ensures c.in_ok-encrypted_refusal.was

pub returns-in_err-encrypted_refusal : goal.returns-in_err-encrypted_refusal
unfolding front_refusal
returns-in_err-encrypted_refusal c =
    stopped c.from_residual.result _ c.encrypted_refusal.ensures c.in_err-encrypted_refusal.was c.from_residual.ensures.1

pub returns-then-h-gt1 : goal.returns-then-h-gt1
returns-then-h-gt1 c =
    rw (front (goal.at.returns-then-h-gt1 c).In_ok-encrypted_refusal, le-ltb c.args.h.pos_of_grant 2 (omega arith), first-here 3 _ (λ z. omega arith))

pub returns-then-h-gt3 : goal.returns-then-h-gt3
returns-then-h-gt3 c =
    let h = c.args.h in
    rw (
      front (goal.at.returns-then-h-gt3 c).In_ok-encrypted_refusal,
      lt-ltb h.pos_of_grant 2 (omega arith),
      first_skip 0 _ refl,
      le-ltb h.encryption_mode 4 (omega arith),
      first-here 3 _ (λ z. omega arith),
    )

pub returns : goal.returns
returns c =
    let h = c.args.h in
    rw (
      front (goal.at.returns c).In_ok-encrypted_refusal,
      lt-ltb h.pos_of_grant 2 (omega arith),
      first_skip 0 _ refl,
      lt-ltb h.encryption_mode 4 (omega arith),
      first_skip 0 _ refl,
      c.and.ensures,
      first-and,
    )
