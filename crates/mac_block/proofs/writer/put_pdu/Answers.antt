use Prim.Native.Nat.{◌+◌, ◌-◌, ◌/◌}
use mathlib.Core.Path.{◌≡◌, ◌∙◌}
use native.Mathlib.Omega.{arith}
use borrow.Rule.Slice.PartMut.{put_mid}
use lib.ListN.{length}
use Rattle.bits.specs.Bits.{put_bits}
use Rattle.bits.proofs.Laws.Reads.{length_bits_at}
use Rattle.codec.specs.Encoded.{size_of, bits_with}
use Rattle.codec.proofs.Laws.Encoded.{with_size}
use Rattle.block_rules.specs.Writer.{flag_of, fill_bits}
use Rattle.block_rules.proofs.Laws.Lists.{length-fill}
use Rattle.mac_block.proofs.Puts.{flag_is, put-part, put_three}
use borrow.Author.Rules.{rules}
use Rattle.mac_block.proofs.writer.put_pdu.Goals as goal

pub returns : goal.returns
returns c =
    let a = c.args in
    let n = c.size-header_bits.ensures in
    let header : put_mid (a.bit / 8) (length a.block.now - a.bit / 8) a.block.now c.put_header.new.s
    ≡ put_bits a.block.now a.bit (bits_with a.header a.length_ind (flag_of a.fill)) =
    put-part a.block.now (a.bit / 8) 0 a.bit (bits_with a.header a.length_ind (flag_of a.fill))
    (λ i. search rules) (omega arith)
    (omega (arith, with_size a.header a.length_ind (flag_of a.fill))) (rw (flag_is a.fill) at c.put_header.ensures) in
    put-part _ (a.bit / 8) _ (a.bit + (size_of a.header + a.content_bits)) (fill_bits a.fill) (λ i. search rules)
    (omega (arith, n)) (omega (arith, length-fill a.fill, c.requires.room)) c.put_fill.ensures
    ∙ rw (c.copy_span.ensures, header, n)
    (put_three a.block.now a.bit (size_of a.header) a.content_bits _ _ _ (with_size a.header a.length_ind (flag_of a.fill))
    (length_bits_at _ 0 _ (omega arith)) (omega arith))
