-- The local trace of a controller stands to the recording as a rewriting needs it.
use mathlib.Core.Path.{◌≡◌, refl, sym, ap, ◌∙◌}
use Prim.Native.Nat.{ℕ, zero, suc, ◌-◌, ◌/◌, ◌%◌, ◌^◌, ◌≤◌, ◌<◌}
use native.Mathlib.Omega.{arith}
use native.Mathlib.Decide.{ℕ_discrete, dec_lt}
use borrow.Author.Tests.{not-false}
use mathlib.Core.Bool.{Bool, true, false, not, ◌&&◌, and-true, true≢false}
use mathlib.Core.List.{List, [], ◌∷◌, ◌++◌, map, append-nil}
use lib.ListN.{length, get_or, length-append, get_or-append}
use lib.Seq.{get_or_at}
use lib.Dec.{eqb}
use lib.Bits.{bit_and, and_shr, and_mod}
use Rattle.definitions.specs.Bounded.{pick, bit_of}
use Rattle.definitions.specs.Projection.{run_states, after_last, places_of, end_at}
use Rattle.theorems.proofs.Choice.{every_yes, every_at}
use Rattle.theorems.proofs.Recursions.{prev_b}
use Rattle.theorems.proofs.Walk.{count, count_mono, count_lt, down}
use Rattle.theorems.proofs.Faithful.{Law}
use Rattle.theorems.proofs.RecordingLaws.{Recorded}
use Rattle.theorems.proofs.RunStates.{after_snoc}

length_map : (f : ℕ → ℕ) (l : List ℕ) → length (map f l) ≡ length l
length_map f [] = refl
length_map f (x ∷ l) = ap suc (length_map f l)

map_at : (f : ℕ → ℕ) (l : List ℕ) (i : ℕ) → i < length l → get_or (map f l) i 0 ≡ f (get_or l i 0)
map_at f [] i h = absurd (omega arith)
map_at f (x ∷ l) zero h = refl
map_at f (x ∷ l) (suc i) h = map_at f l i (omega arith)

-- the runs below n, and the state after the last of them
module _ (run : ℕ → Bool) where
  -- the state of the last place, of the states below n
  pub last_state : ℕ → ℕ
  last_state n = after_last (run_states run n)

  last_zero : last_state 0 ≡ 0
  unfolding last_state
  last_zero = refl

  last_run : (n : ℕ) → run n ≡ true → last_state (suc n) ≡ suc n
  unfolding last_state pick
  last_run n r = rw r (after_snoc (run_states run n) n)

  last_idle_lem : (n : ℕ) → run n ≡ false → last_state (suc n) ≡ last_state n
  unfolding last_state pick
  last_idle_lem n r = rw (r, append-nil)

  -- what holds of 0 and after each run holds of the state of the last place
  last_of : (P : ℕ → Type 0) → P 0 → ((k : ℕ) → run k ≡ true → P (suc k)) → (n : ℕ) → P (last_state n)
  last_of P z s zero = rw last_zero z
  last_of P z s (suc n) = go (run n) refl (last_of P z s n)
    where
      go : (c : Bool) → run n ≡ c → P (last_state n) → P (last_state (suc n))
      go true r ih = rw (last_run n r) (s n r)
      go false r ih = rw (last_idle_lem n r) ih

  last_le : (n : ℕ) → last_state n ≤ n
  last_le zero = rw last_zero (omega arith)
  last_le (suc n) = go (run n) refl (last_le n)
    where
      go : (c : Bool) → run n ≡ c → last_state n ≤ n → last_state (suc n) ≤ suc n
      go true r ih = rw (last_run n r) (omega arith)
      go false r ih = rw (last_idle_lem n r) (omega arith)

  last_after : (n k : ℕ) → k < n → run k ≡ true → k < last_state n
  last_after zero k h r = absurd (omega arith)
  last_after (suc n) k h r = go (run n) refl (last_after n k)
    where
      earlier : run n ≡ false → Dec (k ≡ n) → k < n
      earlier e (yes q) = absurd (true≢false (sym r ∙ (ap run q ∙ e)))
      earlier e (no q) = omega arith

      go : (c : Bool) → run n ≡ c → (k < n → run k ≡ true → k < last_state n) → k < last_state (suc n)
      go true e ih = rw (last_run n e) h
      go false e ih = rw (last_idle_lem n e) (ih (earlier e (ℕ_discrete k n)) r)

  last_entry : (n : ℕ) → prev_b (λ j. not (run j)) (last_state n) ≡ false
  last_entry = last_of (λ (e : ℕ). prev_b (λ j. not (run j)) e ≡ false) refl (λ k r. rw r)

  pub run_count : (n : ℕ) → length (run_states run n) ≡ count run n
  unfolding pick
  run_count zero = refl
  run_count (suc n) = go (run n) (run_count n)
    where
      go : (c : Bool) → length (run_states run n) ≡ count run n → length (run_states run n ++ pick c (n ∷ []) []) ≡ pick c (suc (count run n)) (count run n)
      go true h = omega (arith, length-append (run_states run n) (n ∷ []))
      go false h = rw append-nil h

  -- the run in state k is the place of k
  run_at : (n k : ℕ) → k < n → run k ≡ true → get_or (run_states run n) (count run k) 0 ≡ k
  unfolding pick
  run_at zero k h r = absurd (omega arith)
  run_at (suc n) k h r = split (ℕ_discrete k n) (λ b. run_at n k b r)
    where
      later : (c : Bool) → count run k < length (run_states run n) → get_or (run_states run n) (count run k) 0 ≡ k →
          get_or (run_states run n ++ pick c (n ∷ []) []) (count run k) 0 ≡ k
      later true b ih = rw (get_or-append (run_states run n) (n ∷ []) 0 (count run k) b) ih
      later false b ih = rw append-nil ih

      split : Dec (k ≡ n) → (k < n → get_or (run_states run n) (count run k) 0 ≡ k) → get_or (run_states run (suc n)) (count run k) 0 ≡ k
      split (yes q) ih = let rn : run n ≡ true = rw q at r in rw (q, rn) (get_or_at (run_states run n) n [] 0 (count run n) (run_count n))
      split (no q) ih =
          let m : count run (suc k) ≤ count run n = count_mono run (suc k) n (omega arith) in
          let m2 : suc (count run k) ≤ count run n = rw r at m in
          later (run n) (omega (arith, run_count n)) (ih (omega arith))

bit_small : (x y : ℕ) → x < 2 → y < 2 → eqb (bit_and x y) 1 ≡ (eqb x 1 && eqb y 1)
bit_small zero zero a b = refl
bit_small zero (suc zero) a b = refl
bit_small zero (suc (suc y)) a b = absurd (omega arith)
bit_small (suc zero) zero a b = refl
bit_small (suc zero) (suc zero) a b = refl
bit_small (suc zero) (suc (suc y)) a b = absurd (omega arith)
bit_small (suc (suc x)) y a b = absurd (omega arith)

pub bit_and_lem : (w m a : ℕ) → bit_of (bit_and w m) a ≡ (bit_of w a && bit_of m a)
unfolding bit_of
bit_and_lem w m a = rw (and_shr w m a, and_mod (w / 2 ^ a) (m / 2 ^ a) 1) (bit_small (w / 2 ^ a % 2) (m / 2 ^ a % 2) (omega arith) (omega arith))

-- the run before the state of the last place, where there is one
entry_run : (run : ℕ → Bool) (e : ℕ) → prev_b (λ j. not (run j)) e ≡ false → (k : ℕ) → k < e → (j : ℕ) × (suc j ≡ e) × (run j ≡ true)
entry_run run zero h k b = absurd (omega arith)
entry_run run (suc j) h k b = (j, refl, not-false (run j) h)

count_idle : (run : ℕ → Bool) (e : ℕ) → ((k : ℕ) → e ≤ k → run k ≡ false) → (n : ℕ) → e ≤ n → count run n ≡ count run e
unfolding pick
count_idle run e off zero h = let q : e ≡ 0 = omega arith in rw q
count_idle run e off (suc n) h = go (ℕ_discrete e (suc n)) (λ b. count_idle run e off n b)
  where
    go : Dec (e ≡ suc n) → (e ≤ n → count run n ≡ count run e) → count run (suc n) ≡ count run e
    go (yes q) ih = rw q
    go (no q) ih = rw (off n (omega arith)) (ih (omega arith))

module _ (run : ℕ → Bool) (word : ℕ → ℕ) (mask N : ℕ) (R : Recorded run word mask N) where
  e : ℕ
  e = last_state run N

  e_in : e < N
  unfolding e
  e_in = go (ℕ_discrete (last_state run N) N)
    where
      go : Dec (last_state run N ≡ N) → last_state run N < N
      go (no q) = omega (arith, last_le run N)
      go (yes q) =
          let l : 0 < last_state run N = rw q R.some in
          let (j, s, r) = entry_run run (last_state run N) (last_entry run N) 0 l in
          absurd (true≢false (sym r ∙ R.last_idle j (s ∙ q)))

  e_before : (k : ℕ) → run k ≡ true → k < e
  unfolding e
  e_before k r = go (dec_lt k N)
    where
      go : Dec (k < N) → k < last_state run N
      go (yes b) = last_after run N k b r
      go (no b) = absurd (true≢false (sym r ∙ R.off k (omega arith)))

  e_idle : (k : ℕ) → e ≤ k → run k ≡ false
  e_idle k h = go (run k) refl
    where
      go : (c : Bool) → run k ≡ c → run k ≡ false
      go true r = let z : k < e = e_before k r in absurd (omega arith)
      go false r = r

  e_entry : prev_b (λ j. not (run j)) e ≡ false
  unfolding e
  e_entry = last_entry run N

  abbrev runs : List ℕ
  runs = run_states run N

  abbrev loc : List ℕ
  loc = places_of word mask runs

  places : length (map word runs) ≡ count run e
  places = length_map word runs ∙ (run_count run N ∙ count_idle run e e_idle N (omega (arith, e_in)))

  any_at_lem : (a k : ℕ) → run k ≡ true → bit_of (word k) a ≡ bit_of (get_or loc (count run k) 0) a
  any_at_lem a k r =
      let b : count run k < length (map word runs) = omega (arith, places, count_lt run e k (e_before k r) r) in
      rw (
        get_or-append (map word runs) (bit_and (word (after_last runs)) mask ∷ []) 0 (count run k) b,
        map_at word runs (count run k) (omega (arith, length_map word runs)),
        run_at run N k (omega (arith, e_before k r, e_in)) r,
      )

  own_step : (a k : ℕ) → bit_of mask a ≡ true → suc k < N → run k ≡ false → bit_of (word k) a ≡ bit_of (word (suc k)) a
  own_step a k o b r =
      let p : bit_of (bit_and (word k) mask) a ≡ bit_of (bit_and (word (suc k)) mask) a = ap (λ (w : ℕ). bit_of w a) (R.output k b r) in
      simp (bit_and_lem, o, and-true) at p

  own_last_lem : (a : ℕ) → bit_of mask a ≡ true → bit_of (word e) a ≡ bit_of (get_or loc (count run e) 0) a
  unfolding e last_state
  own_last_lem a o = rw (get_or_at (map word runs) (bit_and (word (after_last runs)) mask) [] 0 (count run e) places, bit_and_lem, o, and-true)

  own_at_lem : (a k : ℕ) → bit_of mask a ≡ true → k ≤ e → bit_of (word k) a ≡ bit_of (get_or loc (count run k) 0) a
  own_at_lem a k o b = down run e (λ k. bit_of (word k) a) (λ i. bit_of (get_or loc i 0) a) (own_last_lem a o)
      (λ k b r. own_step a k o (omega (arith, e_in)) r) (λ k b r _. any_at_lem a k r) k b

  -- `end` is no before e, where a run is still to come, and yes from e on
  end_not_yet : (k : ℕ) → k < e → end_at run N k ≡ false
  end_not_yet k b = go (end_at run N k) refl
    where
      go : (c : Bool) → end_at run N k ≡ c → end_at run N k ≡ false
      go false q = q
      go true q =
          let (j, s, r) = entry_run run e e_entry k b in
          let z : not (run j) ≡ true = every_at (λ i. not (run i)) (N - k) k j q (omega arith) (omega (arith, e_in)) in
          let y : false ≡ true = rw r at z in
          absurd (true≢false (sym y))

  end_reached : (k : ℕ) → e ≤ k → end_at run N k ≡ true
  end_reached k b = every_yes (λ i. not (run i)) (N - k) k (λ j c d. rw (e_idle j (omega arith)))

  pub law : Law run (end_at run N) mask (λ a k. bit_of (word k) a) (λ a i. bit_of (get_or (places_of word mask (run_states run N)) i 0) a) (last_state run N) N
  unfolding e
  law = record {
    inside = e_in;
    before = e_before;
    entry = e_entry;
    not_yet = end_not_yet;
    ended = end_reached;
    own_at = own_at_lem;
    any_at = any_at_lem;
  }

  pub trace_length : length (places_of word mask (run_states run N)) ≡ suc (count run (last_state run N))
  unfolding e
  trace_length = omega (arith, places, length-append (map word runs) (bit_and (word (after_last runs)) mask ∷ []))
