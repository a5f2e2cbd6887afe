-- What the gauge lines give: at most 8 atoms, each in its limits, "with distinct atoms"; and so the finished word of an accepted line, bit by bit.
use mathlib.Core.Path.{◌≡◌, refl, sym}
use Prim.Native.Nat.{ℕ, zero, suc, ◌<◌, ◌≤◌}
use mathlib.Core.Bool.{Bool, true, false, not, ◌&&◌}
use mathlib.Core.List.{List, [], ◌∷◌}
use lib.ListN.{length, get_or}
use lib.Dec.{eqb, ltb}
use lib.IntN.{ℤ}
use native.Mathlib.Omega.{arith}
use borrow.Author.Tests.{eqb-false, ltb-true, not-true}
use Rattle.definitions.specs.Bounded.{pick}
use Rattle.definitions.specs.Limits.{max_gauges, atom_count, recording_form, recording_lines}
use Rattle.definitions.specs.Measures.{in_limits}
use Rattle.definitions.specs.Gauges.{Gauge, among, gauge_form, gauge_refusal}
use Rattle.definitions.specs.RecordingText.{gauge_line, GaugeScan, is_gauge, scan_gauges}
use Rattle.theorems.proofs.Choice.{by_test, both_true, both_false, pick_must, pick_other}
use Rattle.theorems.proofs.FinishedWords.{Distinct, FinishedWord, finished_word}
use Rattle.theorems.proofs.NextLines.{on_next_lem, next_back}

-- atoms in their limits, none among the earlier ones, none twice
unfoldable pub fresh : (earlier atoms : List ℕ) → Bool
fresh earlier [] = true
fresh earlier (a ∷ rest) = ltb a atom_count && (not (among a earlier) && fresh (a ∷ earlier) rest)

-- ---- a gauge line that is accepted
record Apart (earlier : List ℕ) (g : Gauge) : Type 0 where
  below : ltb g.atom atom_count ≡ true
  apart : among g.atom earlier ≡ false

gauge_apart : (earlier : List ℕ) (g : Gauge) → gauge_refusal earlier g ≡ 0 → Apart earlier g
unfolding gauge_refusal
gauge_apart earlier g e =
    let p = pick_must 0 (ltb g.atom atom_count && in_limits g.threshold) _ 6 e (λ q. omega arith) in
    let q = both_true (ltb g.atom atom_count) (in_limits g.threshold) p.0 in
    let r = pick_other 0 (among g.atom earlier) 19 0 p.1 (λ q. omega arith) in
    record { below = q.0; apart = r.0 }

-- ---- the gauge lines
pub scan_fresh : (lines : ℕ) (earlier t : List ℕ) → fresh earlier (scan_gauges lines earlier t).gauges.atoms ≡ true
unfolding scan_gauges fresh pick
scan_fresh zero earlier t = refl
scan_fresh (suc lines) earlier t =
    by_test (is_gauge t)
    (λ z. rw z (on_next_lem (λ (s : GaugeScan). fresh earlier s.gauges.atoms ≡ true) (gauge_line earlier t) _ _ (λ k e. refl)
    (λ g rest e.
    let a = gauge_apart earlier g (next_back recording_lines recording_form gauge_form (gauge_refusal earlier) t g rest e).fine in
    rw (a.below, a.apart) (scan_fresh lines (g.atom ∷ earlier) rest))))
    (λ z. rw z)

-- "up to 8", and as many thresholds as atoms
pub record Few (lines : ℕ) (s : GaugeScan) : Type 0 where
  pub few : length s.gauges.atoms ≤ lines
  pub paired : length s.gauges.thresholds ≡ length s.gauges.atoms

pub scan_few : (lines : ℕ) (earlier t : List ℕ) → Few lines (scan_gauges lines earlier t)
unfolding scan_gauges pick
scan_few zero earlier t = record { few = omega arith; paired = refl }
scan_few (suc lines) earlier t =
    by_test (is_gauge t)
    (λ z. rw z (on_next_lem (Few (suc lines)) (gauge_line earlier t) _ _ (λ k e. record { few = omega arith; paired = refl })
    (λ g rest e. let f = scan_few lines (g.atom ∷ earlier) rest in record { few = omega (arith, f.few); paired = omega (arith, f.paired) })))
    (λ z. rw z (record { few = omega arith; paired = refl }))

-- ---- what that says of each atom
module _ (earlier : List ℕ) (a : ℕ) (rest : List ℕ) (h : fresh earlier (a ∷ rest) ≡ true) where
  first_below : a < atom_count
  unfolding fresh
  first_below = ltb-true a atom_count (both_true (ltb a atom_count) _ h).0

  first_apart : among a earlier ≡ false
  unfolding fresh
  first_apart = not-true (among a earlier) (both_true (not (among a earlier)) _ (both_true (ltb a atom_count) _ h).1).0

  others_fresh : fresh (a ∷ earlier) rest ≡ true
  unfolding fresh
  others_fresh = (both_true (not (among a earlier)) _ (both_true (ltb a atom_count) _ h).1).1

pub fresh_below : (l earlier : List ℕ) → fresh earlier l ≡ true → (i : ℕ) → i < length l → get_or l i 0 < atom_count
fresh_below [] earlier h i k = absurd (omega arith)
fresh_below (a ∷ rest) earlier h zero k = first_below earlier a rest h
fresh_below (a ∷ rest) earlier h (suc i) k = fresh_below rest (a ∷ earlier) (others_fresh earlier a rest h) i (omega arith)

fresh_apart : (l earlier : List ℕ) → fresh earlier l ≡ true → (i : ℕ) → i < length l → among (get_or l i 0) earlier ≡ false
unfolding among
fresh_apart [] earlier h i k = absurd (omega arith)
fresh_apart (a ∷ rest) earlier h zero k = first_apart earlier a rest h
fresh_apart (a ∷ rest) earlier h (suc i) k =
    (both_false (eqb (get_or rest i 0) a) (among (get_or rest i 0) earlier) (fresh_apart rest (a ∷ earlier) (others_fresh earlier a rest h) i (omega arith))).1

not_first : (l : List ℕ) (a : ℕ) (earlier : List ℕ) → fresh (a ∷ earlier) l ≡ true → (i : ℕ) → i < length l → a ≡ get_or l i 0 → ⊥
unfolding among
not_first l a earlier h i k e =
    eqb-false (get_or l i 0) a (both_false (eqb (get_or l i 0) a) (among (get_or l i 0) earlier) (fresh_apart l (a ∷ earlier) h i k)).0 (sym e)

pub fresh_distinct : (l earlier : List ℕ) → fresh earlier l ≡ true → (i j : ℕ) → i < j → j < length l → get_or l i 0 ≡ get_or l j 0 → ⊥
fresh_distinct [] earlier h i j b k e = absurd (omega arith)
fresh_distinct (a ∷ rest) earlier h i zero b k e = absurd (omega arith)
fresh_distinct (a ∷ rest) earlier h zero (suc j) b k e = not_first rest a earlier (others_fresh earlier a rest h) j (omega arith) e
fresh_distinct (a ∷ rest) earlier h (suc i) (suc j) b k e = fresh_distinct rest (a ∷ earlier) (others_fresh earlier a rest h) i j (omega arith) (omega arith) e

-- "A gauge's bit is 0 in the word and becomes 1 exactly when the value is at least the threshold", and every other bit stays: by the gauges of a text
pub gauges_finish : (t : List ℕ) (values : List ℤ) (w : ℕ) (s : GaugeScan) → s ≡ scan_gauges max_gauges [] t → length values ≤ length s.gauges.atoms
    → FinishedWord s.gauges.atoms s.gauges.thresholds values w
unfolding Distinct
gauges_finish t values w s e h =
    let f : fresh [] s.gauges.atoms ≡ true = rw e (scan_fresh max_gauges [] t) in
    finished_word s.gauges.atoms s.gauges.thresholds values w (λ i j l k. fresh_distinct s.gauges.atoms [] f i j l (omega arith))
