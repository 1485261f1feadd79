-- Refusals by number: 0 says that nothing is refused, and each reason has a number of its own. The order of refusals is a list: the first
-- number in it that is not 0 is the call's.
use Rattle.std.specs.Prelude.{ℕ, zero, suc, ◌+◌, ◌-◌, ◌≤◌, ◌<◌, ◌≡◌, refl, List, [], ◌∷◌, ◌++◌, Bool, true, false, length, Result, Ok, Err, IsErrAnd}
use Rattle.std.specs.Result.{result_and, is_err}
use Rattle.std.proofs.Common.{sym, ap, ◌∙◌, arith}
use Rattle.tetra_core.specs.declared.refusal.Reason.{Reason}
use Rattle.tetra_core.specs.declared.refusal.Reason.TheVariants.{ReadPastEnd, WritePastEnd, ValueTooWide, WrongPduType, ExtendedCarrier, Augmented, UsageMarker, Length, NullPdu, EncryptedAddress, NoFrame18Pattern, NoFillBit, BadWindow, DelayCount}

-- the numbers of document 01, "Refusal table"
abbrev pub number : Reason → ℕ
number ReadPastEnd = 1
number WritePastEnd = 2
number ValueTooWide = 3
number WrongPduType = 4
number ExtendedCarrier = 5
number Augmented = 6
number UsageMarker = 7
number Length = 8
number NullPdu = 9
number EncryptedAddress = 10
number NoFrame18Pattern = 11
number NoFillBit = 12
number BadWindow = 13
number DelayCount = 14

-- the reason of a number, 1 to 14
abbrev pub reasons : List Reason
reasons =
    ReadPastEnd
    ∷ WritePastEnd
    ∷ ValueTooWide
    ∷ WrongPduType
    ∷ ExtendedCarrier
    ∷ Augmented
    ∷ UsageMarker
    ∷ Length
    ∷ NullPdu
    ∷ EncryptedAddress
    ∷ NoFrame18Pattern
    ∷ NoFillBit
    ∷ BadWindow
    ∷ DelayCount
    ∷ []

abbrev pub reason_in : List Reason → ℕ → Reason
reason_in [] n = DelayCount
reason_in (r ∷ rs) zero = r
reason_in (r ∷ rs) (suc n) = reason_in rs n

abbrev pub reason : ℕ → Reason
reason j = reason_in reasons (j - 1)

-- the number that an answer is refused by, or 0
abbrev pub refused_by : {A : Type 0} → Result A Reason → ℕ
refused_by (Ok a) = 0
refused_by (Err r) = number r

-- n, unless the test holds
abbrev pub unless : Bool → ℕ → ℕ
unless true n = 0
unless false n = n

-- the first number that is not 0
unfoldable pub first : List ℕ → ℕ
first [] = 0
first (zero ∷ ns) = first ns
first (suc n ∷ ns) = suc n

-- ---- laws

-- a reason has a number, and is the reason of it
pub record Numbered (r : Reason) : Type 0 where
  pub some : number r ≡ 0 → ⊥
  pub back : reason (number r) ≡ r

pub numbered : (r : Reason) → Numbered r
numbered ReadPastEnd = record { some = λ e. absurd (omega arith); back = refl }
numbered WritePastEnd = record { some = λ e. absurd (omega arith); back = refl }
numbered ValueTooWide = record { some = λ e. absurd (omega arith); back = refl }
numbered WrongPduType = record { some = λ e. absurd (omega arith); back = refl }
numbered ExtendedCarrier = record { some = λ e. absurd (omega arith); back = refl }
numbered Augmented = record { some = λ e. absurd (omega arith); back = refl }
numbered UsageMarker = record { some = λ e. absurd (omega arith); back = refl }
numbered Length = record { some = λ e. absurd (omega arith); back = refl }
numbered NullPdu = record { some = λ e. absurd (omega arith); back = refl }
numbered EncryptedAddress = record { some = λ e. absurd (omega arith); back = refl }
numbered NoFrame18Pattern = record { some = λ e. absurd (omega arith); back = refl }
numbered NoFillBit = record { some = λ e. absurd (omega arith); back = refl }
numbered BadWindow = record { some = λ e. absurd (omega arith); back = refl }
numbered DelayCount = record { some = λ e. absurd (omega arith); back = refl }

-- reasons whose numbers go up from k
abbrev Counted : List Reason → ℕ → Type 0
Counted [] k = Unit {0}
Counted (r ∷ rs) k = (number r ≡ k) × Counted rs (suc k)

counted : (rs : List Reason) (k j : ℕ) → Counted rs k → j < length rs → number (reason_in rs j) ≡ k + j
counted [] k j c h = absurd (omega arith)
counted (r ∷ rs) k zero c h = c.0 ∙ omega arith
counted (r ∷ rs) k (suc j) c h = counted rs (suc k) j c.1 (omega arith) ∙ omega arith

-- and each of the numbers 1 to 14 is its reason's
pub reason-numbered : (j : ℕ) → 1 ≤ j → j ≤ 14 → number (reason j) ≡ j
reason-numbered j l h =
    counted reasons 1 (j - 1) (refl, (refl, (refl, (refl, (refl, (refl, (refl, (refl, (refl, (refl, (refl, (refl, (refl, (refl, tt)))))))))))))) (omega arith) ∙ omega arith

-- where nothing is refused, the first entry refuses nothing, and neither do the others
pub first-none : (n : ℕ) (ns : List ℕ) → first (n ∷ ns) ≡ 0 → (n ≡ 0) × (first ns ≡ 0)
unfolding first
first-none zero ns e = (refl, e)
first-none (suc n) ns e = absurd (omega arith)

-- an entry that refuses nothing is passed over
pub first_skip : (n : ℕ) (ns : List ℕ) → n ≡ 0 → first (n ∷ ns) ≡ first ns
unfolding first
first_skip zero ns e = refl
first_skip (suc n) ns e = absurd (omega arith)

-- an entry that refuses is the answer
pub first-here : (n : ℕ) (ns : List ℕ) → (n ≡ 0 → ⊥) → first (n ∷ ns) ≡ n
unfolding first
first-here zero ns h = absurd (h refl)
first-here (suc n) ns h = refl

-- the last entry is the answer in any case
pub first_last : (n : ℕ) → first (n ∷ []) ≡ n
unfolding first
first_last zero = refl
first_last (suc n) = refl

-- the entries of a list in two parts
pub first-parts : (ms ns : List ℕ) → first (ms ++ ns) ≡ first (first ms ∷ ns)
unfolding first
first-parts [] ns = refl
first-parts (zero ∷ ms) ns = first-parts ms ns
first-parts (suc m ∷ ms) ns = refl

-- entries that are a list's own answer
pub first-behind : (ms ns : List ℕ) → first (ms ++ (first ns ∷ [])) ≡ first (ms ++ ns)
unfolding first
first-behind [] ns = first_last (first ns)
first-behind (zero ∷ ms) ns = first-behind ms ns
first-behind (suc m ∷ ms) ns = refl

-- ---- of an answer

-- the exit of `?`, by the answer b: the entry j that is refused, as a is, is the call's, whatever stands behind it
pub stopped : {A B : Type 0} (b : Result B Reason) (ns : List ℕ) {a : Result A Reason} {r : Reason} {j : ℕ} → refused_by a ≡ j → a ≡ Err r
    → IsErrAnd b (λ q. q ≡ r) → refused_by b ≡ first (j ∷ ns)
stopped (Ok x) ns e w k = absurd k
stopped (Err q) ns {r = r} e w k =
    let n : number q ≡ number r = ap number k in
    let m = n ∙ sym (ap refused_by w) ∙ e in
    m ∙ sym (first-here _ ns (λ z. (numbered q).some (m ∙ z)))

-- and past it
pub went_on : {A : Type 0} {a : Result A Reason} (ns : List ℕ) {x : A} {j : ℕ} → refused_by a ≡ j → a ≡ Ok x → first (j ∷ ns) ≡ first ns
went_on ns e w = first_skip _ ns (sym e ∙ ap refused_by w)

-- of two answers the first refusal
pub first-and : (a b : Result (Unit {0}) Reason) → refused_by (result_and a b) ≡ first (refused_by a ∷ refused_by b ∷ [])
first-and (Ok t) b = sym (first_skip 0 _ refl ∙ first_last _)
first-and (Err r) b = sym (first-here _ _ (numbered r).some)

-- what is no error is refused by nothing
pub refused-none : (b : Result (Unit {0}) Reason) → is_err b ≡ false → refused_by b ≡ 0
refused-none (Ok t) e = refl
refused-none (Err r) e = absurd (let n : ◌≡◌ {A = Bool} true false = e in cc)

-- a test that refuses nothing holds
pub passed : (b : Bool) (n : ℕ) → unless b (suc n) ≡ 0 → b ≡ true
passed true n e = refl
passed false n e = absurd (omega arith)
