-- Every row of specs/Cases.antt, specs/BlockRules.antt and specs/BitCalls.antt, computed.
use mathlib.Core.Path.{refl}
use mathlib.Core.Logic.{inl, inr}
use mathlib.Core.List.{◌++◌}
use native.Mathlib.Omega.{arith}
use Rattle.bits.specs.Bits.{odd, val, bits_of_nat, bits_of, pack, splice, bits_at, get_bits, put_bits}
use Rattle.tetra_core.specs.BitBuffer.{good_window, read_refusal, read_bits, peek_at, place_of, into_slice_refusal, read_bits_into_slice, sliced_bits, room_refusal, to_bitarr, bitarr, bitvec_refusal, into_bitvec, bitvec, write_refusal, write_bits, written, write_run, run_written, copy_refusal, copy_bits, copied, from_bitarr_refusal, copy_bits_from_bitarr, from_bitarr, window_count, changed, seek_rel, opened}
use Rattle.tetra_core.specs.Quantity.{octet_count}
use Rattle.tetra_core.specs.Refusal.{first}
use Rattle.codec.specs.Reader.{field_at}
use Rattle.codec.specs.Header.{within}
use Rattle.codec.specs.Row.{row_bits}
use Rattle.codec.specs.Write.{refusal_at, write_at, written_at}
use Rattle.channel_allocation.specs.ChannelAllocation.{alloc_type_of, ul_dl_of, read_mon_patterns, read_channel_allocation, channel_allocation_at, frame18_refusal, len_refusal, channel_allocation_refusal, head_row, patterns_row, channel_allocation_bits, channel_allocation_len, compute_len}
use Rattle.tetra_fields.specs.BasicSlotgrant.{slotgrant_refusal, slotgrant_row}
use Rattle.tetra_fields.specs.UplinkAddress.{uplink_width, uplink_of, read_uplink_address, uplink_address_refusal, uplink_address_row}
use Rattle.tetra_fields.specs.UplinkHead.{read_uplink_body, read_uplink_head, uplink_refusal, uplink_body_row, uplink_row}
use Rattle.access_assign.specs.AccessField.{access_code_of, base_frame_length_of, access_field_of}
use Rattle.access_assign.specs.Usage.{traffic_refusal, dl_usage_of, ul_usage_of}
use Rattle.access_assign.specs.AccessAssign.{access_assign_of, read_access_assign, access_assign_at, access_assign_row}
use Rattle.mac_access.specs.MacAccess as access
use Rattle.mac_access.specs.MacAccess.{read_mac_access, mac_access_at, mac_access_refusal, mac_access_row}
use Rattle.mac_data.specs.MacData as data'
use Rattle.mac_data.specs.MacData.{read_mac_data, mac_data_at, mac_data_refusal, mac_data_row}
use Rattle.mac_resource.specs.Address.{addr_type_of, read_address, one}
use Rattle.mac_resource.specs.Fixed.{read_behind_type, read_fixed, fixed_row}
use Rattle.optional_elements.specs.Optional.{optional}
use Rattle.optional_elements.specs.PowerControl.{read_power}
use Rattle.optional_elements.specs.SlotGranting.{read_granting}
use Rattle.optional_elements.specs.Allocation.{read_allocation}
use Rattle.optional_elements.specs.GrantAndAllocation.{read_grant_and_allocation, grant_and_allocation_refusal, grant_and_allocation_bits}
use Rattle.optional_elements.specs.Elements.{read_elements, elements_refusal, elements_bits}
use Rattle.mac_resource.specs.MacResource as resource
use Rattle.mac_resource.specs.MacResource.{read_mac_resource, mac_resource_at, encrypted_refusal, null_refusal, fields_refusal, mac_resource_refusal, header_bits, header_len, length_refusal, compute_header_len, update_len_and_fill_ind}
use Rattle.block_rules.specs.Extent.{field, counted_extent, resource_extent, extent_of, extent}
use Rattle.block_rules.specs.Read.{extend, before_last_one, behind_header, read_own, read_pdu}
use Rattle.block_rules.specs.Walk.{good_block, end_from, place, step_of, pdu_of, first_pdu, step_at, step, go_on, follow, walk_by, walk_from, walk}
use Rattle.block_rules.specs.Ending.{length_of, pdu_size}
use Rattle.block_rules.specs.Writer.{flag_of, fill_bits, null_bits, finish_bits, good_bit, after, finish_refusal, finished, finish_to, check_of, refusal_of, add_refusal, added_bits, added, add_to}
use Rattle.block_rules.specs.Run.{perform, run}
use Rattle.block_rules.specs.Downlink.{ending_of}
use Rattle.mac_block.specs.Answers.{sized_entry, entry_of, step_answer, finish_answer, add_answer}
use Rattle.cases.specs.Cases.{Hold, answers, block_from, cases}
use Rattle.cases.specs.BlockRules.{block_rules, NoMoreSpared}
use Rattle.cases.specs.BitCalls.{BitCallsHold}

pub cases_hold : Hold (cases ++ block_rules)
unfolding odd val bits_of_nat bits_of pack splice bits_at get_bits put_bits good_window read_refusal read_bits opened octet_count first field_at within row_bits refusal_at write_at written_at alloc_type_of ul_dl_of read_mon_patterns read_channel_allocation channel_allocation_at frame18_refusal len_refusal channel_allocation_refusal channel_allocation_bits channel_allocation_len compute_len slotgrant_refusal slotgrant_row uplink_width uplink_of read_uplink_address uplink_address_refusal uplink_address_row read_uplink_body read_uplink_head uplink_refusal uplink_body_row uplink_row access_code_of base_frame_length_of access_field_of traffic_refusal dl_usage_of ul_usage_of access_assign_of read_access_assign access_assign_at access_assign_row access.read_option read_mac_access mac_access_at mac_access_refusal mac_access_row data'.read_option read_mac_data mac_data_at mac_data_refusal mac_data_row addr_type_of read_address one read_behind_type read_fixed fixed_row optional read_power read_granting read_allocation read_elements elements_refusal elements_bits read_mac_resource mac_resource_at encrypted_refusal null_refusal fields_refusal resource.add_refusal mac_resource_refusal header_bits header_len length_refusal compute_header_len update_len_and_fill_ind field counted_extent resource_extent extent_of extent extend before_last_one behind_header read_own read_pdu good_block end_from place step_of pdu_of first_pdu step_at step go_on follow walk_by walk_from walk length_of pdu_size flag_of fill_bits null_bits finish_bits good_bit after finish_refusal finished finish_to finish_answer check_of refusal_of add_refusal added_bits added add_to add_answer perform run ending_of sized_entry entry_of step_answer answers block_from head_row patterns_row read_grant_and_allocation grant_and_allocation_refusal grant_and_allocation_bits
cases_hold = (refl, (refl, (refl, (refl, (refl, (refl, (refl, (refl, (refl, (refl, (refl, (refl, (refl, (refl, (refl, (refl, (refl, (refl, (refl, (refl, (refl, (refl, (refl, (refl, (refl, tt)))))))))))))))))))))))))

pub no_more_spared : NoMoreSpared
no_more_spared bits i lo (inl h) (inl s) = omega arith
no_more_spared bits i lo (inl h) (inr s) = omega arith
no_more_spared bits i lo (inr h) (inl s) = omega arith
no_more_spared bits i lo (inr h) (inr s) = omega arith

pub bit-calls_hold : BitCallsHold
unfolding odd val bits_of_nat bits_of pack splice bits_at get_bits put_bits good_window first read_refusal read_bits peek_at place_of into_slice_refusal read_bits_into_slice sliced_bits room_refusal to_bitarr bitarr bitvec_refusal into_bitvec bitvec write_refusal write_bits written write_run run_written copy_refusal copy_bits copied from_bitarr_refusal copy_bits_from_bitarr from_bitarr window_count changed seek_rel opened octet_count
bit-calls_hold = refl
