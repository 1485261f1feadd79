use Prim.Native.Nat.{◌+◌, ◌-◌}
use mathlib.Core.Path.{◌≡◌, ◌∙◌}
use native.Mathlib.Omega.{arith}
use borrow.Author.Rules.{rules}
use Rattle.std.specs.Int.{bytes_high_first}
use Rattle.bits.proofs.Laws.Writes.{put_bytes}
use Rattle.bits.proofs.Laws.Bytes.{bits_of_high_first}
use Rattle.bits.proofs.word.store8.Goals as goal

pub returns : goal.returns
returns c =
    let a = c.args in
    let ys : c.copy_from_slice.new.self ≡ bytes_high_first 8 a.x = search rules in
    put_bytes a.s.now c.copy_from_slice.new.self a.at (a.at + 8 - a.at) (omega arith) (omega arith) (λ i. omega (arith, c.type_inv.s i))
    ∙ rw (ys, bits_of_high_first 8 a.x)
