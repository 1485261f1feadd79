-- The headers of a downlink block: what is read, and what is added. Today they are of one kind, MAC-RESOURCE; another kind comes in here and in
-- Extent.
use Rattle.codec.specs.Reader.{parse}
use Rattle.mac_resource.specs.declared.mac_resource.MacResource.{MacResource}
use Rattle.mac_resource.specs.MacResource.{read_mac_resource, header_bits, header_len, add_refusal, normal_mac_resource}
use Rattle.block_rules.specs.declared.to_add.LengthIndication.{LengthIndication}
use Rattle.block_rules.specs.declared.to_add.ResourceToAdd.{ResourceToAdd}
use Rattle.block_rules.specs.Numbers.{second_slot_stolen, frag_start}
use Rattle.block_rules.specs.Ending.{Ending}
use Rattle.block_rules.specs.Codec.{HeaderReader, HeaderWriter, Codec}

-- ---- what is read

abbrev pub DownlinkHeader : Type 0
DownlinkHeader = MacResource

abbrev pub downlink_reader : HeaderReader DownlinkHeader
downlink_reader = record { read_header = λ bits. parse read_mac_resource bits 0; fill_flag = λ h. h.fill_bits }

-- ---- what is added

abbrev pub HeaderToAdd : Type 0
HeaderToAdd = ResourceToAdd

abbrev pub resource_to_add : MacResource → LengthIndication → HeaderToAdd
resource_to_add h i = record { header = h; indication = i }

-- "a counted length or mark 62 or 63"
unfoldable pub ending_of : LengthIndication → Ending
ending_of LengthIndication.Counted = Ending.Counted
ending_of LengthIndication.SecondSlotStolen = Ending.WithBlock second_slot_stolen
ending_of LengthIndication.FragStart = Ending.WithBlock frag_start

abbrev pub downlink_writer : HeaderWriter HeaderToAdd
downlink_writer = record {
  write_header = λ a. header_bits a.header;
  header_len = λ a. header_len a.header;
  check = λ a. add_refusal a.header;
  ending = λ a. ending_of a.indication;
}

abbrev pub downlink_codec : Codec HeaderToAdd DownlinkHeader
downlink_codec = record { reader = downlink_reader; writer = downlink_writer; normal = λ a. normal_mac_resource a.header }
