use Rattle.std.proofs.Common.{◌≡◌, ℕ, ◌-◌, ◌/◌, ◌%◌, ◌^◌, length, map, arith, sym, ◌∙◌}
use Rattle.std.proofs.Math.ListN.{length-map}
use Rattle.std.proofs.lemmas.List.FromFn.{fill_by_all}
use Rattle.bits.specs.Bits.{digit, bits_of_nat}
use Rattle.bits.proofs.Laws.Values.{length-bits_of_nat}
use Rattle.tetra_core.proofs.BitBytes.{bit_at}
use Rattle.tetra_core.proofs.bitarr.spread.Goals as goal

pub returns : goal.returns
returns c =
    let n = length c.args.buf.now in
    let x = c.args.x in
    let xs = map digit (bits_of_nat n x) in
    let l : length xs ≡ n = length-map (bits_of_nat n x) digit ∙ length-bits_of_nat n x in
    let bit = λ (k : ℕ). x / 2 ^ (n - 1 - k) % 2 in
    fill_by_all bit c.loop-i.buf n 0 (omega arith) (λ k h. c.loop-i.invariant k (omega arith))
    ∙ sym (fill_by_all bit xs n 0 l (λ k h. bit_at n k x h))
