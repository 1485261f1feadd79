use Prim.Native.Nat.{◌+◌, ◌≤◌, ◌<◌}
use mathlib.Core.Path.{◌≡◌, sym, ◌∙◌}
use mathlib.Core.Bool.{true}
use native.Mathlib.Omega.{arith}
use borrow.Author.Tests.{le-leb, lt-leb}
use Rattle.tetra_core.specs.Refusal.{first}
use Rattle.tetra_core.specs.BitBuffer.{good_window, read_refusal}
use Rattle.tetra_core.proofs.bitbuffer.read_refusal.Goals.{Else-not-good_window}
use Rattle.tetra_core.proofs.bitbuffer.read_refusal.Goals as goal

good : (c : Else-not-good_window) → good_window c.args.len c.args.c ≡ true
good c = sym c.good_window.ensures ∙ c.if-not-good_window.false

pub returns-then-not-good_window : goal.returns-then-not-good_window
unfolding read_refusal first
returns-then-not-good_window c = rw (sym c.good_window.ensures ∙ c.if-not-good_window.true)

pub returns-then-num_bits-gt64 : goal.returns-then-num_bits-gt64
unfolding read_refusal first
returns-then-num_bits-gt64 c = rw (good (goal.at.returns-then-num_bits-gt64 c).Else-not-good_window, lt-leb _ _ c.if-num_bits-gt64.true)

pub returns-then-p-c : goal.returns-then-p-c
unfolding read_refusal first
returns-then-p-c c = rw (good (goal.at.returns-then-p-c c).Else-not-good_window, le-leb _ _ c.if-num_bits-gt64.false, lt-leb _ _ c.if-p-c.true)

pub returns-then-c-p : goal.returns-then-c-p
unfolding read_refusal first
returns-then-c-p c =
    let a = c.args in
    let h : a.c.end < a.p + a.num_bits = omega arith in
    rw (good (goal.at.returns-then-c-p c).Else-not-good_window, le-leb _ _ c.if-num_bits-gt64.false, le-leb _ _ c.if-p-c.false, lt-leb _ _ h)

pub returns-then-c-p-2 : goal.returns-then-c-p-2
unfolding read_refusal first
returns-then-c-p-2 c =
    let a = c.args in
    let h : a.c.end < a.p + a.num_bits = omega arith in
    rw (good (goal.at.returns-then-c-p-2 c).Else-not-good_window, le-leb _ _ c.if-num_bits-gt64.false, le-leb _ _ c.if-p-c.false, lt-leb _ _ h)

pub returns : goal.returns
unfolding read_refusal first
returns c =
    let a = c.args in
    let h : a.p + a.num_bits ≤ a.c.end = omega arith in
    rw (good (goal.at.returns c).Else-not-good_window, le-leb _ _ c.if-num_bits-gt64.false, le-leb _ _ c.if-p-c.false, le-leb _ _ h)
