-- specs/Examples.antt, computed.
use mathlib.Core.Path.{◌≡◌, refl}
use Rattle.text.specs.Decimal.{decimal_by, decimal}
use Rattle.bits.specs.Bits.{odd, val, bits_of_nat, bits_of, bits_at}
use Rattle.codec.specs.Reader.{field_at}
use Rattle.mac_resource.specs.Address.{addr_type_of, read_address, one}
use Rattle.mac_resource.specs.Fixed.{read_behind_type, read_fixed}
use Rattle.optional_elements.specs.Optional.{optional}
use Rattle.optional_elements.specs.PowerControl.{read_power}
use Rattle.optional_elements.specs.SlotGranting.{read_granting}
use Rattle.optional_elements.specs.Allocation.{read_allocation}
use Rattle.optional_elements.specs.GrantAndAllocation.{read_grant_and_allocation}
use Rattle.optional_elements.specs.Elements.{read_elements}
use Rattle.mac_resource.specs.MacResource.{read_mac_resource}
use Rattle.block_rules.specs.Extent.{field, counted_extent, resource_extent, extent_of, extent}
use Rattle.block_rules.specs.Read.{extend, before_last_one, behind_header, read_own, read_pdu}
use Rattle.block_rules.specs.Walk.{good_block, step_of, pdu_of, first_pdu, step_at, step, go_on, follow, walk_by, walk_from}
use Rattle.mac_block.specs.Answers.{sized_entry, entry_of}
use Rattle.block_walk.specs.Positions.{walk_on, rest_from}
use Rattle.block_lines.specs.Address.{second_text}
use Rattle.block_lines.specs.Line.{resource_line, entry_line, line_text, lines_from}
use Rattle.block_lines.specs.Listing.{lines_text}
use Rattle.block_lines.specs.File.{file_text}
use Rattle.block_lines.specs.Examples.{file_01, text_01}

pub listing_01 : file_text file_01 ≡ text_01
unfolding odd val bits_of_nat bits_of bits_at field_at addr_type_of read_address one read_behind_type read_fixed optional read_power read_granting read_allocation read_elements read_mac_resource field counted_extent resource_extent extent_of extent extend before_last_one behind_header read_own read_pdu good_block step_of pdu_of first_pdu step_at step go_on follow walk_by walk_from sized_entry entry_of walk_on rest_from resource_line entry_line lines_from read_grant_and_allocation decimal_by decimal second_text line_text lines_text
listing_01 = refl
