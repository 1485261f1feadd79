use Prim.Native.Nat.{◌*◌, ◌≤◌, ◌<◌}
use native.Mathlib.Omega.{arith}
use borrow.Author.Tests.{le-leb, lt-leb}
use Rattle.tetra_core.specs.BitBuffer.{good_window}
use Rattle.tetra_core.proofs.bitbuffer.good_window.Goals as goal

pub returns-then-c : goal.returns-then-c
unfolding good_window
returns-then-c c = simp (lt-leb _ _ c.if-c.true)

pub returns-then-c-2 : goal.returns-then-c-2
unfolding good_window
returns-then-c-2 c = simp (le-leb _ _ c.if-c.false, lt-leb _ _ c.if-c-2.true)

pub returns-then-c-gt65536 : goal.returns-then-c-gt65536
unfolding good_window
returns-then-c-gt65536 c = simp (le-leb _ _ c.if-c.false, le-leb _ _ c.if-c-2.false, lt-leb _ _ c.if-c-gt65536.true)

pub returns-then-len-c : goal.returns-then-len-c
unfolding good_window
returns-then-len-c c =
    let a = c.args in
    let h : 8 * a.len < a.c.end = omega arith in
    simp (le-leb _ _ c.if-c.false, le-leb _ _ c.if-c-2.false, le-leb _ _ c.if-c-gt65536.false, lt-leb _ _ h)

pub returns : goal.returns
unfolding good_window
returns c =
    let a = c.args in
    let h : a.c.end ≤ 8 * a.len = omega arith in
    simp (le-leb _ _ c.if-c.false, le-leb _ _ c.if-c-2.false, le-leb _ _ c.if-c-gt65536.false, le-leb _ _ h)
