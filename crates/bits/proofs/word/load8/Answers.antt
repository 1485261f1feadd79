use native.Mathlib.Omega.{arith}
use native.Mathlib.Nat.{add-zero}
use Rattle.std.proofs.lemmas.List.{get_or-drop}
use Rattle.bits.proofs.Words.{word_of_bytes}
use Rattle.bits.proofs.word.load8.Goals as goal

pub returns : goal.returns
returns c =
    let a = c.args in
    word_of_bytes a.s.now a.at _ (omega arith) (λ i. omega (arith, c.type_inv.s i)) (omega arith) (simp (get_or-drop, add-zero) c.from_be_bytes.ensures)
