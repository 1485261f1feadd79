-- Quoted text as bytes, and lines of fields.
use Rattle.std.specs.Prelude.{List, [], ◌∷◌, ◌++◌, ℕ}
use Prim.Native.Char.{code}
use Prim.Native.String.{String, [] as none, ◌∷◌ as ◌then◌}

abbrev pub ascii : String → List ℕ
ascii none = []
ascii (c then s) = code c ∷ ascii s

abbrev pub space : ℕ
space = 32

abbrev pub line_feed : ℕ
line_feed = 10

-- fields with a space between each and the next, and a line feed behind the last
abbrev pub line : List (List ℕ) → List ℕ
line [] = line_feed ∷ []
line (x ∷ []) = x ++ (line_feed ∷ [])
line (x ∷ y ∷ fields) = x ++ (space ∷ line (y ∷ fields))
