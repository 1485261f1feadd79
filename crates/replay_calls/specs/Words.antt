-- The words of an answer.
use Rattle.std.specs.Prelude.{ℕ, List, ◌++◌, length, take, drop}

-- what out holds once the words xs are put at its start, as many as there is room for
abbrev pub put : List ℕ → List ℕ → List ℕ
put out xs = take (length out) xs ++ drop (length xs) out
