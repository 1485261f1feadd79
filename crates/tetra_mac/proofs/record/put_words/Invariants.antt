use Rattle.std.proofs.Common.{◌≡◌, ◌+◌, drop}
use Rattle.std.proofs.lemmas.List.Edits.{sets}
use Rattle.tetra_mac.proofs.record.put_words.Given as goal

-- the words that are left, put from here on, give the whole
abbrev pub invariant-loop-i : goal.invariant-loop-i
invariant-loop-i l = sets l.out (l.at + l.i) (drop l.i l.words) ≡ sets l.initial.out l.at l.words
