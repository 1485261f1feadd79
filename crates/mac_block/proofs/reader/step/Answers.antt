use mathlib.Core.Path.{◌≡◌, sym, ◌∙◌}
use mathlib.Core.List.{List}
use Prim.Native.Nat.{ℕ, ◌-◌}
use native.Mathlib.Omega.{arith}
use borrow.Author.Rules.{rules}
use Rattle.bits.specs.Bits.{bits_at}
use Rattle.tetra_core.specs.Refusal.{numbered}
use Rattle.codec.specs.Header.{within}
use Rattle.codec.specs.declared.Ahead.{Ahead}
use Rattle.codec.specs.Ahead.{Held}
use Rattle.codec.proofs.Laws.Ahead.{ready_less, ready-cut}
use Rattle.block_rules.specs.Numbers.{least_bits}
use Rattle.block_rules.specs.Extent.{extent}
use Rattle.block_rules.specs.Walk.{step_of, pdu_of, step}
use Rattle.block_rules.specs.Downlink.{downlink_reader}
use Rattle.mac_block.specs.Answers.{entry_of, step_answer}
use Rattle.block_rules.specs.Demand3.{IsBlock}
use Rattle.block_rules.proofs.Laws.Blocks.{held, step_there}
use Rattle.mac_block.proofs.Stepping.{step_bad, step_past, left_there, own_there, size-there, pdu-there}
use Rattle.mac_block.proofs.reader.step.Goals.{After-extent_at, Else-not-good_block}
use Rattle.mac_block.proofs.reader.step.Goals as goal

pub returns-then-not-good_block : goal.returns-then-not-good_block
returns-then-not-good_block c = step_bad _ _ _ (sym c.good_block.ensures ∙ c.if-not-good_block.true)

holds : (c : Else-not-good_block) → let a = c.args in IsBlock a.bits a.block.now
holds c = held _ _ (sym c.good_block.ensures ∙ c.if-not-good_block.false)

pub returns-then-bits-bit : goal.returns-then-bits-bit
returns-then-bits-bit c = step_past (holds (goal.at.returns-then-bits-bit c).Else-not-good_block) _ c.if-bits-bit.true

pub load-a-requires : goal.load-a-requires
load-a-requires c = let h = holds (goal.at.load-a-requires c).Else-not-good_block in search rules

-- the rest of the block, which was loaded
ahead : (v : List ℕ) (p n : ℕ) {a : Ahead} → Held (within v (record { start = p; pos = p; end = n })) a → Held (bits_at v p (n - p)) a
unfolding within
ahead v p n h = h

pub extent_at-requires : goal.extent_at-requires
extent_at-requires c =
    let e = c.load-a.ensures in (
      ready_less least_bits e.1 (omega arith),
      left_there (holds (goal.at.extent_at-requires c).Else-not-good_block) _ c.if-bits-bit.false (ahead _ _ _ e.0) e.2,
    )

ends : (c : After-extent_at) → let a = c.args in c.extent_at.result ≡ extent (bits_at a.block.now a.bit (a.bits - a.bit))
ends c = rw c.load-a.ensures.2 at (c.extent_at.ensures _ (ahead _ _ _ c.load-a.ensures.0))

-- the step, by the extent
stepped : (c : After-extent_at)
    → let a = c.args in
    IsBlock a.bits a.block.now
    → step downlink_reader a.block.now a.bits a.bit ≡ step_of a.bit (pdu_of downlink_reader (bits_at a.block.now a.bit (a.bits - a.bit)) c.extent_at.result)
stepped c h = step_there h downlink_reader _ c.if-bits-bit.false (ends c)

pub read_pdu-requires : goal.read_pdu-requires
read_pdu-requires c =
    let h = holds (goal.at.read_pdu-requires c).Else-not-good_block in
    let i = c.if-bits-bit.false in
    let e = c.load-a.ensures in
    let n = left_there h _ i (ahead _ _ _ e.0) e.2 in
    let s = size-there h _ i (ends (goal.at.read_pdu-requires c).After-extent_at) c.in-Sized.is in
    rw c.ending_in-own.ensures (omega arith, omega arith, own_there h _ i (ahead _ _ _ e.0) e.2 s, ready-cut _ e.1 (omega arith), e.2)

pub returns-in-End : goal.returns-in-End
unfolding step_of pdu_of step_answer
returns-in-End c = rw (stepped (goal.at.returns-in-End c).After-extent_at (holds (goal.at.returns-in-End c).Else-not-good_block), c.in-End.is)

pub returns-in-Unsized : goal.returns-in-Unsized
unfolding step_of pdu_of step_answer entry_of
returns-in-Unsized c = rw (stepped (goal.at.returns-in-Unsized c).After-extent_at (holds (goal.at.returns-in-Unsized c).Else-not-good_block), c.in-Unsized.is, (numbered c.in-Unsized.refusal.reason).back)

pub returns-in-Null : goal.returns-in-Null
unfolding step_of pdu_of step_answer entry_of
returns-in-Null c = rw (stepped (goal.at.returns-in-Null c).After-extent_at (holds (goal.at.returns-in-Null c).Else-not-good_block), c.in-Null.is)

pub returns-in-Sized : goal.returns-in-Sized
unfolding step_of pdu_of step_answer entry_of
returns-in-Sized c =
    let f = (goal.at.returns-in-Sized c).After-extent_at in
    let h = holds (goal.at.returns-in-Sized c).Else-not-good_block in
    let s = size-there h _ c.if-bits-bit.false (ends f) c.in-Sized.is in
    rw (stepped f h, c.in-Sized.is, pdu-there h _ s, c.read_pdu.ensures)
