-- Puts      then                          text behind text is one text, and their bounds add up
--           within, wider, reads          another bound; the same text, said otherwise
--           put_at                        what a text puts, as bytes and a place
--           sized, whole                  as many bytes as before; where there is room, the text at its place and all else as it was
--           at-start, start-counts        the same at the start of the bytes
--           put_one, put-none, put_nothing, put_more  a byte, none, and the bytes of a word one after the other
-- Decimals  decimal-one, decimal_more     a digit, or the digits of the tenth and then the last one
--           decimal-short, decimal-value  how many digits there are, and that they say the number
--           number-one, number_more       the same of digits that are put
pub mod Puts
pub mod Decimals
