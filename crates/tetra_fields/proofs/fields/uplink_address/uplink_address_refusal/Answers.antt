use borrow.Author.Tests.{lt-ltb, le-ltb}
use Rattle.tetra_fields.specs.UplinkAddress.{uplink_address_refusal}
use Rattle.tetra_fields.specs.Laws.UplinkAddress.{too_wide_lem, narrow}
use Rattle.tetra_fields.proofs.fields.uplink_address.uplink_address_refusal.Goals as goal

pub returns-then-v-n-ne0 : goal.returns-then-v-n-ne0
unfolding uplink_address_refusal
returns-then-v-n-ne0 c =
    rw (← c.uplink_number-v.ensures.0, ← c.of.ensures, ← c.width-n.ensures.0, le-ltb _ _ (too_wide_lem _ _ c.if-v-n-ne0.true))

pub returns : goal.returns
unfolding uplink_address_refusal
returns c =
    rw (← c.uplink_number-v.ensures.0, ← c.of.ensures, ← c.width-n.ensures.0, lt-ltb _ _ (narrow _ _ c.if-v-n-ne0.false))
