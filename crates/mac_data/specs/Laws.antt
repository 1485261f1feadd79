-- What a MAC-DATA that is written has for length, what it is read back as, and what is written again of one that was read.
pub mod MacData
