-- A reader of two parts, one behind the other, by what the function of each answered.
use Rattle.std.specs.Prelude.{ℕ, ◌+◌, ◌≤◌, ◌≡◌, Result, Ok, Err}
use Rattle.tetra_core.specs.declared.refusal.Refusal.{Refusal}
use Rattle.codec.specs.declared.Ahead.{Ahead}
use Rattle.codec.specs.Ahead.{ReadsNext}
use Rattle.codec.specs.Reader.{Reader, done, ◌>>=◌}
use Rattle.codec.proofs.Laws.Reader.{parse_bind}
use Rattle.codec.proofs.Laws.Header.{read}
use Rattle.codec.proofs.Laws.Ahead.{on-from, onward_then}

abbrev both : {A B C : Type 0} → Reader A → Reader B → (A → B → C) → Reader C
both p q f = p >>= (λ v. q >>= (λ w. done (f v w)))

module _ {A B C : Type 0} (p : Reader A) (q : Reader B) (f : A → B → C) (k : ℕ) {a : Ahead} {m : ℕ} {x : Result (Ahead × A) Refusal} (first : ReadsNext p a m x) where
  pub first_refused : {r : Refusal} → x ≡ Err r → ReadsNext (both p q f) a k (Err r)
  first_refused e = record { of = λ h t. record { means = rw (parse_bind, read (first.of h t) e) }; onward = tt }

  module _ {b : Ahead} {v : A} (e : x ≡ Ok (b, v)) {n : ℕ} {y : Result (Ahead × B) Refusal} (second : ReadsNext q b n y) where
    pub second_refused : {r : Refusal} → y ≡ Err r → ReadsNext (both p q f) a k (Err r)
    second_refused z = record {
      of = λ h t. record { means = rw (parse_bind, read (first.of h t) e, parse_bind, read (second.of h ((on-from first e).held h t)) z) };
      onward = tt;
    }

    pub both_read : {d : Ahead} {w : B} → y ≡ Ok (d, w) → m + n ≤ k → ReadsNext (both p q f) a k (Ok (d, f v w))
    both_read z l = record {
      of = λ h t. record { means = rw (parse_bind, read (first.of h t) e, parse_bind, read (second.of h ((on-from first e).held h t)) z) };
      onward = onward_then k (on-from first e) (on-from second z) l;
    }
