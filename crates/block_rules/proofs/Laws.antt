-- The laws of the block, of every codec of headers unless they say otherwise.
--
-- Lists            parts, fields and fill in lists of bits
-- Extents          what an extent says of the bits left (`bounds`), and which bits it goes by (`extent-spared`)
-- Walks            the walk of a list of bits, with no count of steps
-- Covering         what a cover of a block says of its entries
-- Own              what an entry says of its PDU is what the PDU's bits say
-- Isolation        two blocks that agree in the spared bits of each PDU have walks alike
-- Blocks, Held     the same of a block in lent bytes; `step_there`: a step, by the extent there
-- Altered          altered PDUs of a block in lent bytes
-- Refusals         what is known where nothing refuses a call of the writer
-- WrittenBack      a PDU that was written has the extent and the reading that it must have
-- Calls, Runs      one call of the writer, and a run
-- Demand3          demand 3, of every codec that keeps its laws
-- Downlink         the headers of a downlink block keep them
-- Demand3Downlink  demand 3, of downlink blocks
pub mod Lists
pub mod Extents
pub mod Walks
pub mod Covering
pub mod Own
pub mod Isolation
pub mod Blocks
pub mod Held
pub mod Altered
pub mod Refusals
pub mod WrittenBack
pub mod Calls
pub mod Runs
pub mod Demand3
pub mod Downlink
pub mod Demand3Downlink
