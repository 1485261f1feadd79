-- Going  walk_on_lem         the walk from a position on is what the step there gives (`given_from`), and the walk from the position after it
--        same_rest           a step leaves the rest as it is
--        fewer, fewer-entry  fewer steps are left (`steps_left`) after each step of a walk that has not ended, and after each that gives an entry
--        null-fits           a null PDU that a step gives begins in a block
pub mod Going
