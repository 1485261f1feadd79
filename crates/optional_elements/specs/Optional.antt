-- A flag, and the element if it is set.
use Rattle.std.specs.Prelude.{ℕ, ◌+◌, ◌≡◌, List, [], ◌∷◌, ◌++◌, Bool, None, Option, Some}
use Rattle.codec.specs.Reader.{Reader, done, field, choose, ◌>>=◌}
use Rattle.codec.specs.Row.{cell, row_bits}
use Rattle.codec.specs.Cases.{flag}

unfoldable pub optional : {A : Type 0} → Reader A → Reader (Option A)
optional element = do
  present ← field 1 done
  choose (flag present)
      (do
        e ← element
        done (Some e))
      (done None)

-- ---- what is written: by what refuses an element, or 0, how many bits it has, and which

module _ {A : Type 0} where
  abbrev pub optional_refusal : (A → ℕ) → Option A → ℕ
  optional_refusal refused None = 0
  optional_refusal refused (Some e) = refused e

  abbrev pub optional_len : (A → ℕ) → Option A → ℕ
  optional_len size None = 1
  optional_len size (Some e) = 1 + size e

  abbrev pub optional_bits : (A → List Bool) → Option A → List Bool
  optional_bits bits None = row_bits (cell 1 0 ∷ [])
  optional_bits bits (Some e) = row_bits (cell 1 1 ∷ []) ++ bits e

-- the optional element v is refused by j or, if that is 0, has the n bits xs: by r, s and b of the element
pub record IsOptional {A : Type 0} (r s : A → ℕ) (b : A → List Bool) (v : Option A) (j n : ℕ) (xs : List Bool) : Type 0 where
  pub refusal : optional_refusal r v ≡ j
  pub size : optional_len s v ≡ n
  pub bits : optional_bits b v ≡ xs
