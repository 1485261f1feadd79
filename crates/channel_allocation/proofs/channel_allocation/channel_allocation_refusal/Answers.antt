use mathlib.Core.Path.{◌≡◌, refl}
use mathlib.Core.List.{[], ◌∷◌}
use native.Mathlib.Omega.{arith}
use borrow.Author.Tests.{lt-ltb, le-ltb}
use Rattle.tetra_core.specs.Refusal.{first, first_skip, first_last, stopped, went_on}
use Rattle.channel_allocation.specs.ChannelAllocation.{frame18_refusal, len_refusal, channel_allocation_refusal}
use Rattle.channel_allocation.proofs.channel_allocation.channel_allocation_refusal.Goals.{Else-e-gt3}
use Rattle.channel_allocation.proofs.channel_allocation.channel_allocation_refusal.Goals as goal

pub returns-then-e-gt4095 : goal.returns-then-e-gt4095
unfolding channel_allocation_refusal first
returns-then-e-gt4095 c = let e = c.args.e in rw (le-ltb e.carrier_num 4096 (omega arith))

pub returns-then-e-gt3 : goal.returns-then-e-gt3
unfolding channel_allocation_refusal first
returns-then-e-gt3 c =
    let e = c.args.e in
    rw (lt-ltb e.carrier_num 4096 (omega arith), le-ltb e.mon_pattern 4 (omega arith))

-- carrier and pattern fit: the other checks decide
others : (c : Else-e-gt3)
    → let e = c.args.e in channel_allocation_refusal e ≡ first (frame18_refusal e.mon_pattern e.frame18_mon_pattern ∷ len_refusal e ∷ [])
unfolding channel_allocation_refusal
others c =
    let e = c.args.e in
    rw (lt-ltb e.carrier_num 4096 (omega arith), lt-ltb e.mon_pattern 4 (omega arith), first_skip 0 _ refl, first_skip 0 _ refl)

pub returns-in_err-frame18_refusal : goal.returns-in_err-frame18_refusal
returns-in_err-frame18_refusal c =
    rw (others (goal.at.returns-in_err-frame18_refusal c).Else-e-gt3)
    (stopped c.from_residual.result _ c.frame18_refusal.ensures c.in_err-frame18_refusal.was c.from_residual.ensures.1)

pub returns : goal.returns
returns c =
    rw (others (goal.at.returns c).Else-e-gt3, went_on _ c.frame18_refusal.ensures c.in_ok-frame18_refusal.was, first_last) c.len_refusal.ensures
