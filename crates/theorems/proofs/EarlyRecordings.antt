-- Verdicts that may be announced early, over recordings: the local trace of a recording that begins as another one goes on from that one's.
use mathlib.Core.Path.{◌≡◌, refl, sym, ap, ◌∙◌}
use Prim.Native.Nat.{ℕ, zero, suc, ◌+◌, ◌-◌, ◌≤◌, ◌<◌}
use native.Mathlib.Omega.{arith}
use mathlib.Core.Bool.{Bool, true, false, not, ◌&&◌, ◌||◌, and-true, true≢false}
use mathlib.Core.List.{List, [], ◌∷◌, ◌++◌, map, append-nil, append_assoc, map-append}
use lib.ListN.{length, get_or, length-map, length-append, get_or-append}
use lib.Seq.{get_or-take}
use lib.Dec.{eqb, ltb, leb}
use lib.Bits.{bit_and}
use borrow.Author.Tests.{lt-ltb, leb-true, leb-false, le-leb, eqb-true, eq-eqb}
use Rattle.definitions.specs.Bounded.{pick, bit, bit_of, every}
use Rattle.definitions.specs.Recordings.{Recording, recording_refusal, atoms_of, marks_of, marked, states_of, mask_of, state_at, word_at, runs_at}
use Rattle.definitions.specs.Projection.{run_states, after_last, places_of, local_trace}
use Rattle.definitions.specs.Early.{begins, same_mask, same_marks, same_words, same_own_last, begins_for}
use Rattle.theorems.proofs.Choice.{by_test, both_true, bit_injective, every_at, every_yes}
use Rattle.theorems.proofs.Walk.{count}
use Rattle.theorems.proofs.RunStates.{runs_same, words_same}
use Rattle.theorems.proofs.RecordingLaws.{Recorded, recorded}
use Rattle.theorems.proofs.Beginnings.{Beginning}
use Rattle.theorems.proofs.ProjectionLaws.{last_state, law, run_count, bit_and_lem}
use Rattle.theorems.proofs.Early.{GoesOn}

-- ---- runs and words that agree below n
module _ (run run' : ℕ → Bool) where
  count_same : (n : ℕ) → ((k : ℕ) → k < n → run k ≡ run' k) → count run n ≡ count run' n
  count_same zero h = refl
  count_same (suc n) h = rw (h n (omega arith), count_same n (λ k l. h k (omega arith)))

-- the runs of more states
states_more : (run : ℕ → Bool) (n j : ℕ) → (more : List ℕ) × (run_states run (j + n) ≡ (run_states run n ++ more))
states_more run n zero = let e : 0 + n ≡ n = omega arith in ([], rw (e, append-nil))
states_more run n (suc j) =
    let (more, q) = states_more run n j in
    let e : suc j + n ≡ suc (j + n) = omega arith in
    (more ++ pick (run (j + n)) ((j + n) ∷ []) [], rw (e, q, append_assoc))

-- ---- own atoms after the last run stay
module _ (run : ℕ → Bool) (word : ℕ → ℕ) (mask N : ℕ) (R : Recorded run word mask N) (a : ℕ) (o : bit_of mask a ≡ true) where
  abbrev loc : List ℕ
  loc = places_of word mask (run_states run N)

  own_equal : (w v : ℕ) → bit_and w mask ≡ bit_and v mask → bit_of w a ≡ bit_of v a
  own_equal w v e = let p : bit_of (bit_and w mask) a ≡ bit_of (bit_and v mask) a = ap (λ (x : ℕ). bit_of x a) e in simp (bit_and_lem, o, and-true) at p

  own_after : (j k : ℕ) → k ≡ last_state run N + j → k < N → bit_of (word k) a ≡ bit_of (get_or loc (count run k) 0) a
  unfolding pick
  own_after zero k e l = (law run word mask N R).own_at a k o (omega arith)
  own_after (suc j) zero e l = absurd (omega arith)
  own_after (suc j) (suc k) e l =
      let idle : run k ≡ false = by_test (run k) (λ r. absurd (omega (arith, (law run word mask N R).before k r))) (λ r. r) in
      sym (own_equal (word k) (word (suc k)) (R.output k l idle)) ∙ (own_after j k (omega arith) (omega arith) ∙ rw idle)

  -- in every state the own atoms are those of the place of its controller
  own_anywhere : (k : ℕ) → k < N → bit_of (word k) a ≡ bit_of (get_or loc (count run k) 0) a
  own_anywhere k l = by_test (leb k (last_state run N))
      (λ z. (law run word mask N R).own_at a k o (leb-true k (last_state run N) z))
      (λ z. own_after (k - last_state run N) k (omega (arith, leb-false k (last_state run N) z)) l)

-- ---- B goes on from A
module _ (run run' : ℕ → Bool) (word word' : ℕ → ℕ) (mask K N : ℕ) (A : Recorded run word mask K) (B : Recorded run' word' mask N) (longer : K ≤ N)
    (runs : (k : ℕ) → suc k < K → run k ≡ run' k) (words : (k : ℕ) → suc k < K → run k ≡ true → word k ≡ word' k)
    (own_last : bit_and (word (K - 1)) mask ≡ bit_and (word' (K - 1)) mask) where
  abbrev loc_a : List ℕ
  loc_a = places_of word mask (run_states run K)

  abbrev loc_b : List ℕ
  loc_b = places_of word' mask (run_states run' N)

  abbrev front_a : List ℕ
  front_a = map word (run_states run K)

  abbrev front_b : List ℕ
  front_b = map word' (run_states run' N)

  abbrev last_a : List ℕ
  last_a = bit_and (word (after_last (run_states run K))) mask ∷ []

  abbrev last_b : List ℕ
  last_b = bit_and (word' (after_last (run_states run' N))) mask ∷ []

  -- the runs of A are those of B below its last state
  runs_first : run_states run K ≡ run_states run' (K - 1)
  unfolding pick
  runs_first =
      let e : K ≡ suc (K - 1) = omega (arith, A.some) in
      ap (run_states run) e ∙ (rw (A.last_idle (K - 1) (sym e), append-nil) (runs_same run run' (K - 1) (λ k l. runs k (omega arith))))

  front : front_a ≡ map word' (run_states run' (K - 1))
  front = rw runs_first (words_same run' word word' (K - 1) (λ k l r. words k (omega arith) (runs k (omega arith) ∙ r)))

  front_more : (more : List ℕ) × (front_b ≡ (front_a ++ more))
  front_more =
      let (more, q) = states_more run' (K - 1) (N - (K - 1)) in
      let e : (N - (K - 1)) + (K - 1) ≡ N = omega arith in
      let q' : run_states run' N ≡ (run_states run' (K - 1) ++ more) = rw e at q in
      (map word' more, ap (map word') q' ∙ (map-append word' (run_states run' (K - 1)) more ∙ rw front))

  -- the last place of A
  last_place_lem : length front_a ≡ count run (K - 1)
  unfolding pick
  last_place_lem =
      let e : K ≡ suc (K - 1) = omega (arith, A.some) in
      length-map (run_states run K) word ∙ (run_count run K ∙ (ap (count run) e ∙ rw (A.last_idle (K - 1) (sym e))))

  last_own_lem : (a : ℕ) → bit_of mask a ≡ true → bit_of (get_or loc_a (count run (K - 1)) 0) a ≡ bit_of (get_or loc_b (count run (K - 1)) 0) a
  last_own_lem a o =
      let c : count run (K - 1) ≡ count run' (K - 1) = count_same run run' (K - 1) (λ k l. runs k (omega arith)) in
      sym (own_anywhere run word mask K A a o (K - 1) (omega (arith, A.some)))
      ∙ (own_equal run word mask K A a o (word (K - 1)) (word' (K - 1)) own_last
      ∙ (own_anywhere run' word' mask N B a o (K - 1) (omega (arith, A.some)) ∙ rw c))

  trace_goes_on : GoesOn mask loc_a loc_b
  trace_goes_on =
      let (more, q) = front_more in
      let a = length-append front_a last_a in
      let b = length-append front_b last_b in
      let m : length front_b ≡ length front_a + length more = ap length q ∙ length-append front_a more in
      record {
        longer = omega (arith, a, b, m);
        before = λ i l. let x : i < length front_a = omega (arith, a) in
            rw (
              get_or-append front_a last_a 0 i x,
              get_or-append front_b last_b 0 i (omega (arith, m)),
              q,
              get_or-append front_a more 0 i x,
            );
        last_own = λ i x s o. let at : i ≡ count run (K - 1) = omega (arith, a, s, last_place_lem) in rw at (last_own_lem x o);
      }

-- ---- what the tests say
-- B begins like A as far as controller c goes, each thing that is asked by itself
pub record BeginsFor (c : ℕ) (A B : Recording) : Type 0 where
  pub longer : A.count ≤ B.count
  pub mask : mask_of A c ≡ mask_of B c
  pub marks : (k : ℕ) → suc k < A.count → marked c (state_at A k) ≡ marked c (state_at B k)
  pub words : (k : ℕ) → suc k < A.count → marked c (state_at A k) ≡ true → word_at A k ≡ word_at B k
  pub own_last : bit_and (word_at A (A.count - 1)) (mask_of A c) ≡ bit_and (word_at B (A.count - 1)) (mask_of A c)

if_true : (x y : Bool) → (not x || y) ≡ true → x ≡ true → y ≡ true
if_true true y h e = h
if_true false y h e = absurd (true≢false (sym e))

if_intro : (x y : Bool) → (x ≡ true → y ≡ true) → (not x || y) ≡ true
if_intro true y h = h refl
if_intro false y h = refl

module _ (c : ℕ) (A B : Recording) where
  abbrev few : Bool
  few = leb A.count B.count

  pub begins_for_lem : begins_for c A B ≡ true → BeginsFor c A B
  begins_for_lem e =
      let (abcd, own) = both_true (few && same_mask c A B && same_marks c A B && same_words c A B) (same_own_last c A B) e in
      let (abc, words) = both_true (few && same_mask c A B && same_marks c A B) (same_words c A B) abcd in
      let (ab, marks) = both_true (few && same_mask c A B) (same_marks c A B) abc in
      let (l, mask) = both_true few (same_mask c A B) ab in
      record {
        longer = leb-true A.count B.count l;
        mask = eqb-true (mask_of A c) (mask_of B c) mask;
        marks = λ k h. bit_injective (marked c (state_at A k)) (marked c (state_at B k)) (eqb-true (bit (marked c (state_at A k))) (bit (marked c (state_at B k)))
            (every_at (λ k. eqb (bit (marked c (state_at A k))) (bit (marked c (state_at B k)))) (A.count - 1 - 0) 0 k marks (omega arith) (omega arith)));
        words = λ k h r. eqb-true (word_at A k) (word_at B k) (if_true (marked c (state_at A k)) (eqb (word_at A k) (word_at B k))
            (every_at (λ k. not (marked c (state_at A k)) || eqb (word_at A k) (word_at B k)) (A.count - 1 - 0) 0 k words (omega arith) (omega arith)) r);
        own_last = eqb-true (bit_and (word_at A (A.count - 1)) (mask_of A c)) (bit_and (word_at B (A.count - 1)) (mask_of A c)) own;
      }

  for_begins : BeginsFor c A B → begins_for c A B ≡ true
  for_begins b =
      rw (
        le-leb A.count B.count b.longer,
        eq-eqb (mask_of A c) (mask_of B c) b.mask,
        every_yes (λ k. eqb (bit (marked c (state_at A k))) (bit (marked c (state_at B k)))) (A.count - 1 - 0) 0
            (λ k x y. eq-eqb (bit (marked c (state_at A k))) (bit (marked c (state_at B k))) (ap bit (b.marks k (omega arith)))),
        every_yes (λ k. not (marked c (state_at A k)) || eqb (word_at A k) (word_at B k)) (A.count - 1 - 0) 0
            (λ k x y. if_intro (marked c (state_at A k)) (eqb (word_at A k) (word_at B k)) (λ r. eq-eqb (word_at A k) (word_at B k) (b.words k (omega arith) r))),
        eq-eqb (bit_and (word_at A (A.count - 1)) (mask_of A c)) (bit_and (word_at B (A.count - 1)) (mask_of A c)) b.own_last,
      )

  -- the own mask, c's marks and the words are enough
  pub same_words_begin : 0 < A.count → A.count ≤ B.count → mask_of A c ≡ mask_of B c →
      ((k : ℕ) → suc k < A.count → marked c (state_at A k) ≡ marked c (state_at B k)) → ((k : ℕ) → k < A.count → word_at A k ≡ word_at B k) → begins_for c A B ≡ true
  same_words_begin some longer mask marks words = for_begins (record {
    longer = longer;
    mask = mask;
    marks = marks;
    words = λ k l r. words k (omega arith);
    own_last = ap (λ (w : ℕ). bit_and w (mask_of A c)) (words (A.count - 1) (omega arith));
  })

  -- so what document 02 asks, of all controllers and atoms, is
  pub begins_each : begins A B ≡ true → 0 < A.count → c < A.controllers → begins_for c A B ≡ true
  begins_each e some has =
      let masked : Bool = every 0 A.controllers (λ c. eqb (mask_of A c) (mask_of B c)) in
      let worded : Bool = every 0 A.count (λ k. eqb (word_at A k) (word_at B k)) in
      let (abcd, marks) = both_true (few && eqb A.controllers B.controllers && masked && worded)
      (every 0 (A.count - 1) (λ k. eqb (marks_of (state_at A k)) (marks_of (state_at B k)))) e in
      let (abc, words) = both_true (few && eqb A.controllers B.controllers && masked) worded abcd in
      let (ab, masks) = both_true (few && eqb A.controllers B.controllers) masked abc in
      same_words_begin some (leb-true A.count B.count (both_true few (eqb A.controllers B.controllers) ab).0)
      (eqb-true (mask_of A c) (mask_of B c) (every_at (λ c. eqb (mask_of A c) (mask_of B c)) (A.controllers - 0) 0 c masks (omega arith) (omega arith)))
      (λ k l. ap (λ (m : ℕ). bit_of m c) (eqb-true (marks_of (state_at A k)) (marks_of (state_at B k))
      (every_at (λ k. eqb (marks_of (state_at A k)) (marks_of (state_at B k))) (A.count - 1 - 0) 0 k marks (omega arith) (omega arith))))
      (λ k l. eqb-true (word_at A k) (word_at B k) (every_at (λ k. eqb (word_at A k) (word_at B k)) (A.count - 0) 0 k words (omega arith) (omega arith)))

-- ---- a beginning of a recording, and so "the first K states" of it, begin it
module _ (S R : Recording) (B : Beginning S R) where
  state_first : (k : ℕ) → k < S.count → state_at S k ≡ state_at R k
  state_first k l = ap (λ (ss : List ℕ). get_or ss k 0) B.states ∙ get_or-take S.count (states_of R) k 0 l

  pub beginning_begins : (c : ℕ) → begins_for c S R ≡ true
  beginning_begins c =
      same_words_begin c S R B.some B.few (ap (λ (ms : List ℕ). get_or ms c 0) B.masks)
      (λ k l. ap (marked c) (state_first k (omega arith))) (λ k l. ap (λ (s : ℕ). atoms_of s) (state_first k l))

-- ---- the local trace of a controller goes on
module _ (A B : Recording) (c : ℕ) (good_a : recording_refusal A ≡ 0) (good_b : recording_refusal B ≡ 0) (has_a : c < A.controllers) (has_b : c < B.controllers)
    (b : BeginsFor c A B) where
  same_run : (k : ℕ) → suc k < A.count → runs_at A c k ≡ runs_at B c k
  same_run k l = rw (lt-ltb (suc k) A.count l, lt-ltb (suc k) B.count (omega (arith, b.longer))) (b.marks k l)

  kept_b : Recorded (runs_at B c) (word_at B) (mask_of A c) B.count
  kept_b = rw (sym b.mask) at (recorded B c good_b has_b)

  goes_on_lem : GoesOn (mask_of A c) (local_trace A c) (places_of (word_at B) (mask_of A c) (run_states (runs_at B c) B.count))
  goes_on_lem =
      trace_goes_on (runs_at A c) (runs_at B c) (word_at A) (word_at B) (mask_of A c) A.count B.count (recorded A c good_a has_a) kept_b b.longer same_run
      (λ k l r. b.words k l (both_true (ltb (suc k) A.count) (marked c (state_at A k)) r).1) b.own_last

  pub local_trace_goes_on : GoesOn (mask_of A c) (local_trace A c) (local_trace B c)
  local_trace_goes_on = rw (← b.mask) goes_on_lem
