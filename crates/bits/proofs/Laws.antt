-- The laws of bits that other crates cite, by what they speak of. Each is stated once, over the width, the place or the list.
--
-- Values  val_inj          lists of bits of one length that read as one number are one list
--         val-bits_of_nat  the number that the low bits of v read as is v % 2 ^ n; bits_of_nat-val goes back
--         bits_of_nat-add  the bits of a wider number are those of its two parts
-- Bytes   bits_of_inj      lists of bytes with the same bits are one list; bits_of_append, take_bits_of, drop_bits_of cut them
--         bits_of_high_first  the bits of a number's bytes are those of the number
-- Splice  splice_mid       a part put in the place of one as long
-- Reads   length_bits_at   a read inside the bytes has as many bits as asked; bits_at_add, get_bits-add cut it
--         get_bits_lt      and is a number of that width; get_bits-part is a part of it; bits_at_bytes is one of whole bytes
-- Writes  put_bits-append  a write behind a write is one write; length-put_bits, bytes-put_bits hold always
--         put_bytes        whole bytes put in the place of others are a write of their bits
--         bits_at_put_bits  what was written is read, bits_at_inside: any part of it; bits_at_after: what is behind it is as it was
-- Shifts  one_shl, within-is, replaced_is, ..  what shifts and masks are in plain arithmetic
-- Spans   goes_on          a write that the code does 64 bits a turn; span_grows, copy_grows of bits that are alike, and of bits that are read
pub mod Values
pub mod Bytes
pub mod Splice
pub mod Reads
pub mod Writes
pub mod Shifts
pub mod Spans
