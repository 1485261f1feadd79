use Prim.Native.Nat.{ℕ, ◌*◌, ◌%◌, ◌^◌}
use mathlib.Core.Path.{◌≡◌, ◌∙◌}
use native.Mathlib.Omega.{arith}
use borrow.Author.Rules.{rules}
use lib.Bits.{bit_or}
use lib.ListN.{length}
use Rattle.std.proofs.Common.{take_all}
use Rattle.std.specs.List.{fold}
use Rattle.bits.proofs.Words.{get_bits-all}
use Rattle.bits.proofs.word.load_all.Goals as goal

pub returns : goal.returns
returns c =
    let s = c.args.s.now in
    let e : c.fold.result ≡ fold (λ (x b : ℕ). bit_or ((x * 2 ^ 8) % 2 ^ 64) b) 0 s = search rules in
    e ∙ rw (take_all (length s) s (omega arith)) at (get_bits-all s (length s) (λ i. omega (arith, c.type_inv.s i)) (omega arith) (omega arith))
