use Rattle.codec.proofs.Laws.Header.{alone}
use Rattle.codec.proofs.Laws.Ahead.{onward, ahead_field-short}
use Rattle.tetra_fields.specs.UplinkAddress.{uplink_most, read_uplink_address}
use Rattle.tetra_fields.proofs.fields.uplink_address.read_uplink_address.Goals as goal

pub returns-then-a-n : goal.returns-then-a-n
unfolding read_uplink_address
returns-then-a-n c = record {
  of = λ h e. record { means = rw (c.field_past_end.ensures, ← c.width-n.ensures.0, ahead_field-short c.width-n.result e c.if-a-n.true) };
  onward = tt;
}

pub returns : goal.returns
unfolding read_uplink_address
returns c =
    let i = c.if-a-n.false in
    record {
      of = λ h e. record { means = rw (c.uplink_of.ensures, c.advance.ensures, ← c.width-n.ensures.0, alone (c.next_bits-v.ensures.word h e i)) };
      onward = rw c.advance.ensures (onward c.width-n.result uplink_most c.width-n.ensures.2 i);
    }
