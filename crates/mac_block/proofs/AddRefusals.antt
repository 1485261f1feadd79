-- The ways out of an add's refusal, as the code takes them: of a header of m bits, which j refuses or 0, with k bits of content.
use mathlib.Core.Path.{◌≡◌, sym, ◌∙◌}
use mathlib.Core.Bool.{Bool, true, false}
use mathlib.Core.List.{List, [], ◌∷◌}
use Prim.Native.Nat.{ℕ, ◌+◌, ◌-◌, ◌*◌, ◌≤◌, ◌<◌}
use borrow.Author.Tests.{le-leb, lt-leb}
use lib.Dec.{leb}
use Rattle.tetra_core.specs.Refusal.{number, numbered, unless, first, first-here, first_skip, first_last}
use Rattle.tetra_core.specs.declared.refusal.Reason.{Reason}
use Rattle.block_rules.specs.Walk.{good_block}
use Rattle.block_rules.specs.Writer.{good_bit, finish_refusal, check_of, refusal_of}
use Rattle.block_rules.proofs.Laws.Refusals.{finish_tests}

module _ (m j k bytes n p slice : ℕ) where
  abbrev last : List ℕ
  last = unless (leb (m + k) (n - p)) 2 ∷ []

  pub not_there : (r : Reason) → number r ≡ finish_refusal bytes n p → number r ≡ refusal_of bytes n p m j slice k
  unfolding finish_refusal refusal_of first
  not_there r e = go (good_block n bytes) (good_bit n p) e
    where
      go : (x y : Bool) → number r ≡ first (unless x 13 ∷ unless y 13 ∷ [])
          → number r ≡ first (unless x 13 ∷ unless y 13 ∷ unless (leb k (8 * slice)) 13 ∷ check_of m j k ∷ last)
      go true true e = absurd ((numbered r).some e)
      go true false e = e
      go false y e = e

  module _ (there : finish_refusal bytes n p ≡ 0) where
    tests : (good_block n bytes ≡ true) × (good_bit n p ≡ true)
    tests = finish_tests bytes n p there

    pub not_given : 8 * slice < k → 13 ≡ refusal_of bytes n p m j slice k
    unfolding refusal_of first
    not_given g = rw (tests.0, tests.1, lt-leb k (8 * slice) g)

    pub not_fine : (r : Reason) → k ≤ 8 * slice → number r ≡ check_of m j k → number r ≡ refusal_of bytes n p m j slice k
    unfolding refusal_of first
    not_fine r g e = rw (tests.0, tests.1, le-leb k (8 * slice) g) (e ∙ sym (first-here (check_of m j k) last (λ y. (numbered r).some (e ∙ y))))

    pub by_room : k ≤ 8 * slice → check_of m j k ≡ 0 → refusal_of bytes n p m j slice k ≡ unless (leb (m + k) (n - p)) 2
    unfolding refusal_of first
    by_room g e = rw (tests.0, tests.1, le-leb k (8 * slice) g) (first_skip (check_of m j k) last e ∙ first_last _)
