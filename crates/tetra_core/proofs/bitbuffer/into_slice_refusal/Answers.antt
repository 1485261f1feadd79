use Prim.Native.Nat.{ℕ}
use mathlib.Core.Path.{◌≡◌, sym}
use mathlib.Core.List.{[], ◌∷◌}
use native.Mathlib.Omega.{arith}
use lib.Dec.{leb}
use borrow.Author.Tests.{le-leb, lt-leb}
use Rattle.tetra_core.specs.declared.bitbuffer.Cursor.{Cursor}
use Rattle.tetra_core.specs.Quantity.{octets_of}
use Rattle.tetra_core.specs.Refusal.{unless, first, first_last, first-parts, stopped, went_on}
use Rattle.tetra_core.specs.BitBuffer.{good_window, remaining, room_refusal, into_slice_refusal}
use Rattle.tetra_core.specs.Laws.Windows.{roomy}
use Rattle.tetra_core.proofs.bitbuffer.into_slice_refusal.Goals as goal

-- the room for what is read stands behind what the window has
parts : (len : ℕ) (c : Cursor) (n room : ℕ) → into_slice_refusal len c n room ≡ first (room_refusal 1 len c n ∷ unless (leb (octets_of n) room) 2 ∷ [])
unfolding into_slice_refusal room_refusal
parts len c n room = first-parts (unless (good_window len c) 13 ∷ unless (leb n (remaining c)) 1 ∷ []) (unless (leb (octets_of n) room) 2 ∷ [])

pub returns-in_err-room_refusal : goal.returns-in_err-room_refusal
returns-in_err-room_refusal c =
    rw (parts _ _ _ _) (stopped c.from_residual.result _ c.room_refusal.ensures c.in_err-room_refusal.was c.from_residual.ensures.1)

pub overflow_add-num_bits : goal.overflow_add-num_bits
overflow_add-num_bits c = let r = roomy 0 _ _ _ (sym c.in_ok-room_refusal.ensures) in let g = r.good in omega arith

pub returns-then-room-num_bits : goal.returns-then-room-num_bits
returns-then-room-num_bits c = rw (parts _ _ _ _, went_on _ c.room_refusal.ensures c.in_ok-room_refusal.was, lt-leb _ _ c.if-room-num_bits.true, first_last)

pub returns : goal.returns
returns c = rw (parts _ _ _ _, went_on _ c.room_refusal.ensures c.in_ok-room_refusal.was, le-leb _ _ c.if-room-num_bits.false, first_last)
