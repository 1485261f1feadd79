-- The walk of a block in lent bytes.
use Rattle.std.proofs.lemmas.Option.{same_Some}
use Rattle.std.specs.Prelude.{◌≡◌, Bool, List, ℕ, ◌+◌, ◌-◌, ◌/◌, ◌≤◌, length, drop, Some, slice_get}
use Rattle.std.proofs.Math.Path.{sym, ap, fun_ext, subst}
use Rattle.std.proofs.Common.{ap₂, ◌∙◌, arith}
use Rattle.std.proofs.Math.ListN.{take}
use Rattle.bits.specs.Bits.{bits_at}
use Rattle.block_rules.specs.Numbers.{least_bits}
use Rattle.block_rules.specs.Codec.{HeaderReader, Inside}
use Rattle.block_rules.specs.Read.{Reading}
use Rattle.block_rules.specs.Walk.{Pdu, Entry, own_size, size_in, own_bits, first_pdu, step, follow, walk_from, walk}
use Rattle.block_rules.specs.Altered.{IsPdu}
use Rattle.block_rules.specs.Demand3.{IsBlock, Covers}
use Rattle.block_rules.proofs.Laws.Walks.{from, from_step, covered}
use Rattle.block_rules.proofs.Laws.Covering.{lies, at_most}
use Rattle.block_rules.proofs.Laws.Own.{own_in, Alone, alone, Parts, PartsOf, parts_in}
use Rattle.block_rules.proofs.Laws.Blocks.{block, part-part, length-block, step_block, walk_block, own_block}

module _ {H : Type 0} (R : HeaderReader H) where
  module _ (n : ℕ) (v : List ℕ) (holds : IsBlock n v) where
    pub steps : (p : ℕ) → p ≤ n → walk_from R v n p ≡ follow (walk_from R v n) p (step R v n p)
    steps p h =
        let lb : length (block n v) ≡ n = length-block holds in
        walk_block holds R p ∙ from_step R (block n v) p (omega arith)
        ∙ ap₂ (λ f s. follow f p s) (sym (fun_ext (walk_block holds R))) (sym (step_block holds R p))

    pub walk_is : walk R v n ≡ from R (block n v) 0
    unfolding walk
    walk_is = walk_block holds R 0

    pdu_in : (k : ℕ) (e : Entry H) → IsPdu R n v k e → slice_get (from R (block n v) 0).entries k ≡ Some e
    pdu_in k e x = rw walk_is at x

    pub covers : Covers n 0 (walk R v n).entries (walk R v n).rest_at
    covers = rw walk_is (rw (length-block holds) at (covered R (block n v) 0 (omega arith)))

    pub count : length (walk R v n).entries ≤ n / least_bits
    count = omega (arith, at_most n covers)

    pub own_is : (k : ℕ) (e : Entry H) → IsPdu R n v k e → own_bits n v e ≡ own_in (block n v) e
    own_is k e x = own_block holds e (lies n covers k e x).within

    -- what an entry says of its PDU, from the PDU's bits
    read-alone : (k : ℕ) (e : Entry H) → IsPdu R n v k e → first_pdu R (own_bits n v e) ≡ Some e.pdu
    unfolding Alone
    read-alone k e x = rw (own_is k e x) (alone R (block n v) 0 (omega arith) k e (pdu_in k e x))

    pub parts : Inside R → (k : ℕ) (e : Entry H) → IsPdu R n v k e
        → (s m fill : ℕ) (h : H) (content : List Bool) → e.pdu ≡ Pdu.sized s (Reading.read h m content fill)
        → (m + (length content + fill) ≡ s) × (bits_at v (e.bit + m) (length content) ≡ content)
    unfolding PartsOf Parts own_bits own_size
    parts inside k e x s m f h c y =
        let q : (m + (length c + f) ≡ s) × (take (length c) (drop m (own_in (block n v) e)) ≡ c) =
        subst (PartsOf (own_in (block n v) e)) y (parts_in R inside (block n v) 0 (omega arith) k e (pdu_in k e x)) in
        let size : size_in n e ≡ s = ap (own_size (n - e.bit)) y in (
          q.0,
          sym (part-part v e.bit (size_in n e) m (length c) (omega (arith, q.0)))
              ∙ ap (λ l. take (length c) (drop m l)) (own_is k e x) ∙ q.1,
        )

  pub own_bits-alone : (n n' : ℕ) (v v' : List ℕ) → IsBlock n v → IsBlock n' v'
      → (k k' : ℕ) (e e' : Entry H) → IsPdu R n v k e → IsPdu R n' v' k' e' → own_bits n v e ≡ own_bits n' v' e' → e.pdu ≡ e'.pdu
  own_bits-alone n n' v v' holds holds' k k' e e' x x' same =
      same_Some e.pdu e'.pdu (sym (read-alone n v holds k e x) ∙ ap (first_pdu R) same ∙ read-alone n' v' holds' k' e' x')
