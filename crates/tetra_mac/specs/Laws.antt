-- Laws of the interface. Of each record: its words are known and give the value back (..-of-words; ..-kept of a part), a record that is known is
-- long enough (..-long), it is refused only at offsets that were reached (..-placed), and the bit of its refusal fits a status (..-bit).
--
-- Placed   offset-fits     a refused field begins inside the window, so its bit fits a status
-- Reply    read-..         the returns of a call that reads
--          write-.., record-..   of a call that writes
--          count-..        of a call that counts bits
pub mod Placed
pub mod Reply
pub mod Bits
pub mod Slotgrant
pub mod ChannelAllocation
pub mod Address
pub mod AccessAssign
pub mod MacAccess
pub mod MacData
