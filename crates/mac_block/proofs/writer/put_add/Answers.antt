use Prim.Native.Nat.{◌+◌, ◌-◌, ◌≤◌}
use mathlib.Core.Path.{◌≡◌, refl, sym, ap, ◌∙◌}
use mathlib.Core.Logic.{⊎_elim}
use native.Mathlib.Omega.{arith}
use lib.ListN.{length}
use Rattle.tetra_core.specs.Refusal.{refused_by, refused-none}
use Rattle.codec.specs.Encoded.{size_of}
use Rattle.block_rules.specs.Ending.{pdu_size}
use Rattle.block_rules.specs.Writer.{writer_at, refusal_of, added_of}
use Rattle.block_rules.specs.Downlink.{ending_of}
use Rattle.mac_block.specs.Added.{encoded_to}
use Rattle.block_rules.proofs.Laws.Refusals.{Roomy, roomy}
use Rattle.block_rules.proofs.Laws.WrittenBack.{size-bounds}
use Rattle.block_rules.proofs.Laws.Calls.{after-zero, after-refused}
use Rattle.mac_block.proofs.Judged.{refused-some}
use Rattle.mac_block.proofs.writer.put_add.Goals.{After-pdu_size-size, Else-is_err}
use Rattle.mac_block.proofs.writer.put_add.Goals as goal

pub returns-then-is_err : goal.returns-then-is_err
unfolding encoded_to
returns-then-is_err c =
    rw (after-refused _ (writer_at _ _) (added_of _ _ _ _ _ _ _) (λ z. refused-some _ (sym c.is_err.ensures.value ∙ c.if-is_err.true) (c.requires.1 ∙ z))) (refl, refl)

none : (c : Else-is_err)
    → let a = c.args in
    refusal_of (length a.block.now) a.bits a.bit (size_of a.header) (refused_by a.header.judged) (length a.content.now) a.content_bits ≡ 0
none c = sym c.requires.1 ∙ refused-none _ (sym c.is_err.ensures.value ∙ c.if-is_err.false)

accepted : (c : Else-is_err)
    → let a = c.args in
    Roomy (size_of a.header) (refused_by a.header.judged) a.content_bits a.block.now a.bits a.bit (length a.content.now)
accepted c = roomy _ _ _ _ _ _ _ (none c)

-- the size has room for header and content
fits : (c : After-pdu_size-size)
    → let a = c.args in
    size_of a.header + a.content_bits ≤ a.bits - a.bit → (size_of a.header + a.content_bits ≤ c.pdu_size-size.result) × (c.pdu_size-size.result ≤ a.bits - a.bit)
fits c h =
    let a = c.args in
    rw (c.pdu_size-size.ensures, c.size.ensures) (size-bounds (ending_of a.indication) (a.bits - a.bit) (size_of a.header + a.content_bits) h)

pub put_pdu-requires : goal.put_pdu-requires
put_pdu-requires c =
    let f = accepted (goal.at.put_pdu-requires c).Else-is_err in
    let p = c.requires.0 in
    let s = fits (goal.at.put_pdu-requires c).After-pdu_size-size f.fits in
    let e = c.size.ensures in
    record {
      octet = ⊎_elim (λ e. absurd (omega (arith, p.placed.some, f.fits))) (λ e. e) f.at.octet;
      fine = p;
      free = f.fine;
      length = c.length_of-length_ind.ensures.1;
      given = f.there;
      room = omega (arith, s, e, f.holds);
      small = omega (arith, s, e, f.holds);
    }

pub returns : goal.returns
unfolding encoded_to added_of
returns c =
    let a = c.args in
    rw (after-zero _ (writer_at _ _) (added_of _ (writer_at _ _) _ _ _ _ _) (none (goal.at.returns c).Else-is_err)) (
      ap (λ m. a.bit + m) (c.pdu_size-size.ensures ∙ ap (λ m. pdu_size (ending_of a.indication) (a.bits - a.bit) (m + a.content_bits)) c.size.ensures),
      c.put_pdu.ensures ∙ rw (c.length_of-length_ind.ensures.0, c.pdu_size-size.ensures, c.size.ensures),
    )

pub overflow_add-total : goal.overflow_add-total
overflow_add-total c = let f = accepted (goal.at.overflow_add-total c).Else-is_err in omega (arith, f.small, c.size.ensures)

pub overflow_sub-bits : goal.overflow_sub-bits
overflow_sub-bits c = (accepted (goal.at.overflow_sub-bits c).Else-is_err).at.inside

pub pdu_size-size-requires : goal.pdu_size-size-requires
pdu_size-size-requires c = let f = accepted (goal.at.pdu_size-size-requires c).Else-is_err in omega (arith, f.small, c.size.ensures)

pub length_of-length_ind-requires : goal.length_of-length_ind-requires
length_of-length_ind-requires c = let f = accepted (goal.at.length_of-length_ind-requires c).Else-is_err in omega (arith, f.small, c.size.ensures)

pub overflow_sub-size : goal.overflow_sub-size
overflow_sub-size c = let f = accepted (goal.at.overflow_sub-size c).Else-is_err in omega (arith, fits (goal.at.overflow_sub-size c).After-pdu_size-size f.fits, c.size.ensures)

pub overflow_add-result : goal.overflow_add-result
overflow_add-result c = let f = accepted (goal.at.overflow_add-result c).Else-is_err in let s = fits (goal.at.overflow_add-result c).After-pdu_size-size f.fits in omega (arith, s, f.holds, f.at)
