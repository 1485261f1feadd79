-- What a header codec cites of the definitions in specs/. A definition reads and writes field by field; code reads and writes several fields
-- as one word. These laws close the gap, so that each return of a codec is a line.
--
-- Reader     parse_bind    a reader with a part of its own: parse the part, then what follows by its value
--            inside        a reader stops inside the bits that it is given and leaves those from there on
--            again         a reader uses no bit outside what it read: it gives the same value whatever stands behind
-- Words      parse-word    a reader of bits that begin with a word computes past every field in the word
--            short         a reader is refused 1 at the first field that the bits do not reach to the end of
-- Header     parsed_word   parse-word at an offset of a header where a word was read
--            alone         a word that is one field
--            read          what a part's own function answered, as the part's outcome
--            next-part     what follows a part that answered with a refusal of its own
--            bad-seen, good-seen  what `if !good_window(..)` told
--            ends          a header that is read ends inside its window
-- Ahead      held_ahead    a word that `load` loaded holds the bits ahead; held_on, ready_on: some bits on, after `advance`;
--                          held_cut, ready-cut: of a header that ends sooner, after `ending_in`
--            ahead_short   short where too few bits are ahead, which the code answers by `fields_past_end`; ahead_field-short for one field
--            next-read     what a part's own function answered of what is ahead, as the part's outcome
--            onward        what is ahead some bits on; onward-none: none; onward_then: one part behind another
--            read-there    what was read of it was there, with no header at hand
-- Row        row_is        the number of a row whose values fit
--            length_row    the bits of a row are as many as its widths together
--            join_rows     a row and a tail as one number; rows_append, rows_joined: two rows are one
-- Width      fits-field    a value that is not refused fits its field
-- Write      free, free_test  what is known where nothing refuses a write, and back
--            write_refused  the refused return of a call that writes, its answer and its bytes
--            write_done    the last return of one
-- Piece      row_holds     a row that is one number, as a piece; join_holds: two pieces joined
-- Encoded    front-set     a front with a length and a fill flag set is the front that is defined with them
--            refused-encodes, piece_encodes  what is refused, and what is one piece, each with its size
--            encoded_written  what is encoded is written as what it is the encoding of
--            whole-encodes  front, rest and tail are a header on its way out; no_tail_encodes: none
--            header-writable, header-written  it can be written, and is written as defined; settable: with any length and either flag
-- RoundTrip  parse_row_lem  a reader of bits that begin with a row computes past every cell of the row
--            written_back  what a call wrote at a cursor is read there: value and cursor
-- WrittenAgain  every_read  what holds of a reader's value and bits whatever its fields hold (`Every`) holds of what is read
--            every_bind    `Every` of a reader with a part of its own
--            written-again  what a call read at a cursor and writes there again changes no byte
-- LentPart   lent          bits put into a lent part of a block are bits put into the block
-- AllBelow   below         a test that computes true for each number below a bound holds for all of them
--            numbers       the number of the case of a number is that number
-- Cases      last_case     the last arm of a match from number to case
--            flag-back     a flag that was written is read back
--            flag-again    the bit of a flag that was read
pub mod Ahead
pub mod AllBelow
pub mod Cases
pub mod Encoded
pub mod Header
pub mod LentPart
pub mod Piece
pub mod Reader
pub mod RoundTrip
pub mod Row
pub mod Width
pub mod Words
pub mod Write
pub mod WrittenAgain
