use Prim.Native.Nat.{◌+◌, ◌-◌}
use mathlib.Core.Path.{◌≡◌, sym, ◌∙◌}
use native.Mathlib.Omega.{arith}
use borrow.Author.Tests.{not-true, not-false}
use lib.ListN.{drop}
use Rattle.bits.specs.Bits.{bits_at}
use Rattle.bits.proofs.Laws.Reads.{length_bits_at}
use Rattle.block_rules.specs.Read.{before_last_one}
use Rattle.mac_block.specs.LastOne.{last_one}
use Rattle.block_rules.proofs.Laws.Blocks.{behind-part}
use Rattle.mac_block.proofs.Stepping.{unfilled, filled, no_fill}
use Rattle.mac_block.proofs.reader.behind_header.Goals.{After-last_one_of}
use Rattle.mac_block.proofs.reader.behind_header.Goals as goal

pub returns-then-not-header : goal.returns-then-not-header
returns-then-not-header c =
    let a = c.args in
    rw (behind-part _ _ _ _ c.requires.0 c.requires.2)
    (unfilled _ _ _ _ _ _ (not-true _ c.if-not-header.true)
    (omega (arith, length_bits_at a.block.now (a.bit + a.header_bits) (a.size - a.header_bits) (omega arith))))

-- the last 1 of the bits behind the header
last : (c : After-last_one_of)
    → let a = c.args in
    c.last_one_of.result ≡ last_one (a.bit + a.header_bits) (before_last_one (drop a.header_bits (bits_at a.block.now a.bit a.size)))
last c =
    let a = c.args in
    let e : a.bit + a.size - (a.bit + a.header_bits) ≡ a.size - a.header_bits = omega arith in
    rw (behind-part _ _ _ _ c.requires.0 c.requires.2) (rw e at c.last_one_of.ensures)

pub returns-in-Some : goal.returns-in-Some
returns-in-Some c =
    filled _ _ _ _ _ _ (not-false _ c.if-not-header.false) (sym c.in-Some.is ∙ last (goal.at.returns-in-Some c).After-last_one_of)

pub returns-in-None : goal.returns-in-None
returns-in-None c =
    no_fill _ _ _ _ _ _ (not-false _ c.if-not-header.false) (sym c.in-None.is ∙ last (goal.at.returns-in-None c).After-last_one_of)
