use native.Mathlib.Omega.{arith}
use borrow.Author.Tests.{le-leb, lt-leb}
use Rattle.tetra_fields.specs.BasicSlotgrant.{slotgrant_refusal}
use Rattle.tetra_fields.proofs.fields.basic_slotgrant.slotgrant_refusal.Goals as goal

pub returns-then-n-lt1 : goal.returns-then-n-lt1
unfolding slotgrant_refusal
returns-then-n-lt1 c = rw (c.in-DelayNOpportunities.is, lt-leb 1 c.in-DelayNOpportunities.n (omega arith))

pub returns-then-n-gt13 : goal.returns-then-n-gt13
unfolding slotgrant_refusal
returns-then-n-gt13 c = rw (c.in-DelayNOpportunities.is, le-leb 1 c.in-DelayNOpportunities.n (omega arith), lt-leb c.in-DelayNOpportunities.n 13 (omega arith))

pub returns-in-CapAllocAtNextOpportunity : goal.returns-in-CapAllocAtNextOpportunity
unfolding slotgrant_refusal
returns-in-CapAllocAtNextOpportunity c = rw c.in-CapAllocAtNextOpportunity.is

pub returns-else-n-gt13 : goal.returns-else-n-gt13
unfolding slotgrant_refusal
returns-else-n-gt13 c = rw (c.in-DelayNOpportunities.is, le-leb 1 c.in-DelayNOpportunities.n (omega arith), le-leb c.in-DelayNOpportunities.n 13 (omega arith))

pub returns-in-AllocStartsAtOpportunityInFr18 : goal.returns-in-AllocStartsAtOpportunityInFr18
unfolding slotgrant_refusal
returns-in-AllocStartsAtOpportunityInFr18 c = rw c.in-AllocStartsAtOpportunityInFr18.is

pub returns-in-WaitForAnotherSlotgrantMessage : goal.returns-in-WaitForAnotherSlotgrantMessage
unfolding slotgrant_refusal
returns-in-WaitForAnotherSlotgrantMessage c = rw c.in-WaitForAnotherSlotgrantMessage.is
