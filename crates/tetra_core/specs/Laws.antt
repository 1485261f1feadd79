-- The laws that other crates cite.
--
-- Windows  good_facts       what a good window gives, and good_test back
--          readable         what is known where a read is not refused; writable where a write is not
--          read-refused, read_done, move_refused, move_done, bytes-refused, bytes-stay, bytes-done    the ends of a call
--          read_back        what was written is read back
-- Loan     lends, comes_back    a local that is lent by `&mut` for one call
pub mod Windows
pub mod Loan
