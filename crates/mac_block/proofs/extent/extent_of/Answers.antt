use borrow.Author.Tests.{lt-ltb, le-ltb, le-leb, lt-leb, eq-eqb, ne_eqb}
use Rattle.block_rules.specs.Extent.{extent_of, resource_extent}
use Rattle.mac_block.proofs.extent.extent_of.Goals as goal

pub returns-then-left-lt-LEAST_BITS : goal.returns-then-left-lt-LEAST_BITS
unfolding extent_of
returns-then-left-lt-LEAST_BITS c = rw (lt-ltb _ _ c.if-left-lt-LEAST_BITS.true)

pub returns-then-pdu_type-ne0 : goal.returns-then-pdu_type-ne0
unfolding extent_of
returns-then-pdu_type-ne0 c = rw (c.wrong_type.ensures, le-ltb _ _ c.if-left-lt-LEAST_BITS.false, ne_eqb _ _ c.if-pdu_type-ne0.true)

pub returns-then-address_type-eq0 : goal.returns-then-address_type-eq0
unfolding extent_of
returns-then-address_type-eq0 c = rw (le-ltb _ _ c.if-left-lt-LEAST_BITS.false, eq-eqb _ _ c.if-pdu_type-ne0.false, eq-eqb _ _ c.if-address_type-eq0.true)

pub returns-then-length-ge-MAC_RESOURCE_LENGTH_2ND_SLOT_STOLEN : goal.returns-then-length-ge-MAC_RESOURCE_LENGTH_2ND_SLOT_STOLEN
unfolding extent_of resource_extent
returns-then-length-ge-MAC_RESOURCE_LENGTH_2ND_SLOT_STOLEN c =
    rw (le-ltb _ _ c.if-left-lt-LEAST_BITS.false, eq-eqb _ _ c.if-pdu_type-ne0.false, ne_eqb _ _ c.if-address_type-eq0.false, le-leb _ _ c.if-length-ge-MAC_RESOURCE_LENGTH_2ND_SLOT_STOLEN.true)

pub returns : goal.returns
unfolding extent_of resource_extent
returns c =
    rw (
      c.counted_extent.ensures,
      le-ltb _ _ c.if-left-lt-LEAST_BITS.false,
      eq-eqb _ _ c.if-pdu_type-ne0.false,
      ne_eqb _ _ c.if-address_type-eq0.false,
      lt-leb _ _ c.if-length-ge-MAC_RESOURCE_LENGTH_2ND_SLOT_STOLEN.false,
    )
