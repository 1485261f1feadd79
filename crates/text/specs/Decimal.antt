-- A number in decimal, in ASCII, without leading zeros.
use Rattle.std.specs.Prelude.{cond, List, [], ◌∷◌, ◌++◌, ℕ, zero, suc, ◌+◌, ◌-◌, ◌*◌, ◌/◌, ◌%◌, ltb}

abbrev pub digit : ℕ → ℕ
digit n = 48 + n

-- a digit, or the digits of the tenth and then the last one; by at most so many steps
unfoldable pub decimal_by : ℕ → ℕ → List ℕ
decimal_by zero n = []
decimal_by (suc k) n = cond (ltb n 10) (digit n ∷ []) (decimal_by k (n / 10) ++ (digit (n % 10) ∷ []))

-- a tenth is less than the number, so that n + 1 steps are enough
unfoldable pub decimal : ℕ → List ℕ
decimal n = decimal_by (suc n) n

-- the digits of a number of 64 bits, at most
abbrev pub decimal_most : ℕ
decimal_most = 20

-- the number that digits say, behind those of the number a
unfoldable pub value_from : ℕ → List ℕ → ℕ
value_from a [] = a
value_from a (x ∷ xs) = value_from (a * 10 + (x - 48)) xs
