use native.Mathlib.Nat.{add-sub_of_le}
use native.Mathlib.Omega.{arith}
use Prim.Native.Nat.{◌+◌, ◌-◌, ◌*◌, ◌≤◌}
use Rattle.bits.proofs.Words.{leading_all, leading_word, leading_nine}
use Rattle.bits.proofs.word.get_ahead.Goals.{After-word_start-at}
use Rattle.bits.proofs.word.get_ahead.Goals as goal

pub returns-then-len-lt8 : goal.returns-then-len-lt8
returns-then-len-lt8 c =
    rw c.load_all.ensures (leading_all c.args.s.now c.args.pos c.if-len-lt8.true c.requires.0)

-- the word starts no later than the bits
inside : (c : After-word_start-at) → 8 * c.word_start-at.result ≤ c.args.pos
inside c = omega arith

pub returns-then-at-len : goal.returns-then-at-len
returns-then-at-len c =
    let a = c.args in
    let at = c.word_start-at.result in
    rw (c.from.ensures, c.load8.ensures)
    (rw (add-sub_of_le (inside (goal.at.returns-then-at-len c).After-word_start-at)) at (leading_nine a.s.now at (a.pos - 8 * at) (omega arith) (omega arith) (omega (arith, c.type_inv.s (at + 8)))))

pub returns : goal.returns
returns c =
    let a = c.args in
    let at = c.word_start-at.result in
    rw c.load8.ensures
    (rw (add-sub_of_le (inside (goal.at.returns c).After-word_start-at)) at (leading_word a.s.now at (a.pos - 8 * at) (omega arith) (omega arith)))
