-- Laws of a reading that stops at a line: its refusal with the place of the line, and without it.
use mathlib.Core.Path.{◌≡◌, refl, ap, sym, subst, ◌∙◌}
use Prim.Native.Nat.{ℕ}
use Rattle.std.specs.Prelude.{Result, Ok, Err, IsErrAnd, MatchResult}
use Rattle.rules.specs.Refusals.{number_of}
use Rattle.rules.specs.declared.refusal.Refusal.{Refusal}
use Rattle.lines.specs.Told.{told}
use Rattle.lines.specs.declared.Stop.{Stop}

-- ---- a reader's answer, its refusal with the place of its line, by `map_err`
pub read_kept : {T : Type 0} (r : Result T Refusal) (n : Result T ℕ) → told r ≡ n → (v : T) → MatchResult r (λ x. ◌≡◌ {A = Result T Stop} (Ok v) (Ok x)) (λ e. ⊥) → Ok v ≡ n
read_kept (Ok x) n h v k = let q : v ≡ x = cc in ap Ok q ∙ h
read_kept (Err e) n h v k = absurd k

-- it stopped for that refusal, at that line
pub record StopTold {T : Type 0} (n : Result T ℕ) (at : ℕ) (s : Stop) : Type 0 where
  pub refused : Err (number_of s.refusal) ≡ n
  pub place : s.at ≡ at

pub stop_told : {T : Type 0} (r : Result T Refusal) (n : Result T ℕ) → told r ≡ n → (s : Stop) (P : Refusal → Type 0) → MatchResult r (λ x. ◌≡◌ {A = Result T Stop} (Err s) (Ok x)) P
    → (at : ℕ) → ((e : Refusal) → P e → s ≡ record { refusal = e; at = at }) → StopTold n at s
stop_told (Ok x) n h s P k at q = cc
stop_told (Err e) n h s P k at q = record { refused = ap (λ (d : Stop). Err (number_of d.refusal)) (q e k) ∙ h; place = ap (λ (d : Stop). d.at) (q e k) }

-- what holds of its refusal at that line holds of where it stopped
pub at_stop : (P : Stop → Type 0) (s : Stop) (at : ℕ) → s.at ≡ at → P (record { refusal = s.refusal; at = at }) → P s
at_stop P s at e h = subst (λ (k : ℕ). P (record { refusal = s.refusal; at = k })) (sym e) h

-- ---- another error for the same reading, by `map_err`
-- what was read stays
pub mapped_ok : {T E : Type 0} (F : Type 0) (r : Result T E) (v : T) → MatchResult r (λ x. ◌≡◌ {A = Result T F} (Ok v) (Ok x)) (λ e. ⊥) → r ≡ Ok v
mapped_ok F (Ok x) v k = let q : x ≡ v = cc in ap Ok q
mapped_ok F (Err e) v k = absurd k

-- there was an error, and this one is made of it
pub record Mapped {T E F : Type 0} (r : Result T E) (f : E → F) (made : F) : Type 0 where
  pub error : E
  pub is : r ≡ Err error
  pub gives : made ≡ f error

pub mapped_err : {T E F : Type 0} (r : Result T E) (made : F) (P : E → Type 0) → MatchResult r (λ x. ◌≡◌ {A = Result T F} (Err made) (Ok x)) P
    → (f : E → F) → ((e : E) → P e → made ≡ f e) → Mapped r f made
mapped_err (Ok x) made P k f q = cc
mapped_err (Err e) made P k f q = record { error = e; is = refl; gives = q e k }

-- ---- an answer without the place of its line, by `map_err`
pub place_dropped : {T E : Type 0} (refusal : E → Refusal) (r : Result T E) (x : Result T Refusal) (P : E → Refusal → Type 0) → MatchResult r (λ v. x ≡ Ok v) (λ s. IsErrAnd x (P s))
    → ((s : E) (e : Refusal) → P s e → e ≡ refusal s) → MatchResult r (λ v. x ≡ Ok v) (λ s. x ≡ Err (refusal s))
place_dropped refusal (Ok v) x P h q = h
place_dropped refusal (Err s) (Ok v) P h q = absurd h
place_dropped refusal (Err s) (Err e) P h q = ap Err (q s e h)
