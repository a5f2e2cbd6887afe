-- Laws of the state of a place: one for each turn of the loop and each return, and how large it is.
use Rattle.std.proofs.Common.{rules, ℕ, zero, suc, ◌+◌, ◌-◌, ◌<◌, ◌≤◌, ◌≡◌, refl, sym, ap, ◌∙◌, Bool, true, false, ◌&&◌, List, [], ◌∷◌, ◌++◌, append-nil, length, take, get_or, length-append, length-take, get_or-take, arith, add-one, eqb, lt-ltb, eqb-true, Fits, w64}
use borrow.Author.Tests.{eqb-false}
use lib.ListN.{get_or-append, get_or-eq_default}
use lib.Seq.{get_or_at}
use Rattle.definitions.specs.Bounded.{pick}
use Rattle.definitions.specs.Recordings.{Recording, marked, runs_at}
use Rattle.definitions.specs.Projection.{run_states, after_last}
use Rattle.definitions.specs.Why.{state_of_place}
use Rattle.theorems.proofs.Choice.{by_test, both_true}
use Rattle.theorems.proofs.LastMarks.{last_adds_none}
use Rattle.projection.specs.Places.{states_only, Countable}
use Rattle.theorems.proofs.RunStates.{runs_on, runs_off, few_runs, after_snoc, after_near}

-- ---- the states in which a controller runs
module _ (run : ℕ → Bool) where
  longer : (m j n : ℕ) → n ≡ m + j → length (run_states run m) ≤ length (run_states run n)
  longer m zero n e = let q : n ≡ m = omega arith in rw q (omega arith)
  longer m (suc j) zero e = absurd (omega arith)
  longer m (suc j) (suc n) e = omega (arith, length-append (run_states run n) (pick (run n) (n ∷ []) []), longer m j n (omega arith))

  kept_by : (k d m j n : ℕ) → n ≡ m + j → k < length (run_states run m) → get_or (run_states run n) k d ≡ get_or (run_states run m) k d
  kept_by k d m zero n e h = let q : n ≡ m = omega arith in rw q
  kept_by k d m (suc j) zero e h = absurd (omega arith)
  kept_by k d m (suc j) (suc n) e h =
      get_or-append (run_states run n) (pick (run n) (n ∷ []) []) d k (omega (arith, longer m j n (omega arith))) ∙ kept_by k d m j n (omega arith) h

  -- each is kept by more states
  runs_kept : (k d m n : ℕ) → m ≤ n → k < length (run_states run m) → get_or (run_states run n) k d ≡ get_or (run_states run m) k d
  runs_kept k d m n l h = kept_by k d m (n - m) n (omega arith) h

  -- none is later than the last state
  runs_near : (b n : ℕ) → n ≤ b → (k d : ℕ) → d ≤ b → get_or (run_states run n) k d ≤ b
  unfolding pick
  runs_near b zero l k d h = h
  runs_near b (suc n) l k d h = go (run n) (λ j. runs_near b n (omega arith) j d h)
    where
      end : (xs : List ℕ) → ((j : ℕ) → get_or xs j d ≤ b) → (j : ℕ) → get_or (xs ++ (n ∷ [])) j d ≤ b
      end [] f zero = omega arith
      end [] f (suc j) = h
      end (x ∷ xs) f zero = f 0
      end (x ∷ xs) f (suc j) = end xs (λ i. f (suc i)) j

      go : (r : Bool) → ((j : ℕ) → get_or (run_states run n) j d ≤ b) → get_or (run_states run n ++ pick r (n ∷ []) []) k d ≤ b
      go true f = end (run_states run n) f k
      go false f = rw append-nil (f k)

-- a place's state is one of the N states
pub state_low : (R : Recording) (c k : ℕ) → 0 < R.count → state_of_place R c k < R.count
unfolding state_of_place
state_low R c k h =
    let run : ℕ → Bool = runs_at R c in
    let n : ℕ = R.count - 1 in
    let e : run_states run R.count ≡ run_states run n = last_adds_none R c h in
    let l : get_or (run_states run n) k (after_last (run_states run n)) ≤ n = runs_near run n n (omega arith) k (after_last (run_states run n)) (after_near run n) in
    rw e (omega arith)

-- ---- the loop
abbrev run_in : ℕ → ℕ → List ℕ → ℕ → Bool
run_in N c states k = runs_at (states_only N states) c k

-- before state s, the last one at most: so many runs, place k is none of them, and the state after the last of them
pub record Counted (N c k : ℕ) (states : List ℕ) (here after s : ℕ) : Type 0 where
  pub within : s < N
  pub few : here ≤ k
  pub count : here ≡ length (run_states (run_in N c states) s)
  pub next : after ≡ after_last (run_states (run_in N c states) s)

module _ (N c k : ℕ) (states : List ℕ) (C : Countable N c states) (here after s : ℕ) (so : Counted N c k states here after s) where
  module _ (h : s < length (take (N - 1) states)) (ran : Bool) (is : ran ≡ marked c (get_or (take (N - 1) states) s 0)) where
    low : s < N - 1
    low = omega (arith, length-take (N - 1) states)

    run_is : ran ≡ run_in N c states s
    run_is = rw (lt-ltb (suc s) N (omega (arith, low))) (is ∙ ap (marked c) (get_or-take (N - 1) states s 0 low ∙ sym (get_or-take N states s 0 (omega (arith, low)))))

    counted_idle : ran ≡ false → Counted N c k states here after (s + 1)
    counted_idle z =
        let e : run_states (run_in N c states) (s + 1) ≡ run_states (run_in N c states) s = runs_off (run_in N c states) s (sym run_is ∙ z) in
        record { within = omega (arith, low); few = so.few; count = so.count ∙ ap length (sym e); next = so.next ∙ ap after_last (sym e) }

    one_more_lem : ran ≡ true → run_states (run_in N c states) (s + 1) ≡ run_states (run_in N c states) s ++ (s ∷ [])
    one_more_lem z = runs_on (run_in N c states) s (sym run_is ∙ z)

    counted_run : ran ≡ true → (here ≡ k → ⊥) → Counted N c k states (here + 1) (s + 1) (s + 1)
    counted_run z n = record {
      within = omega (arith, low);
      few = omega (arith, so.few);
      count = rw (one_more_lem z) (omega (arith, so.count, length-append (run_states (run_in N c states) s) (s ∷ [])));
      next = rw (one_more_lem z) (add-one s ∙ sym (after_snoc (run_states (run_in N c states) s) s));
    }

    -- `state_of_place`, a turn: the runs up to state s are counted, and none is place k (`Counted`)
    pub counted_next : (ran && eqb here k) ≡ false → (here' : ℕ) → here' ≡ pick ran (here + 1) here → (after' : ℕ) → after' ≡ pick ran (s + 1) after →
        Counted N c k states here' after' (s + 1)
    unfolding pick
    counted_next other here' p after' q =
        by_test ran
        (λ z. let p₁ : here' ≡ here + 1 = rw z at p in let q₁ : after' ≡ s + 1 = rw z at q in rw (p₁, q₁) (counted_run z (eqb-false here k (rw z at other))))
        (λ z. let p₁ : here' ≡ here = rw z at p in let q₁ : after' ≡ after = rw z at q in rw (p₁, q₁) (counted_idle z))

    -- place k is this run
    -- `state_of_place`, state s is the run of place k: s is `state_of_place`
    pub place_run : (ran && eqb here k) ≡ true → s ≡ state_of_place (states_only N states) c k
    unfolding state_of_place
    place_run this =
        let (z, t) = both_true ran (eqb here k) this in
        let e : here ≡ k = eqb-true here k t in
        let run : ℕ → Bool = run_in N c states in
        let d : ℕ = after_last (run_states run N) in
        let more : length (run_states run (s + 1)) ≡ length (run_states run s) + 1 = ap length (one_more_lem z) ∙ length-append (run_states run s) (s ∷ []) in
        let at : get_or (run_states run (s + 1)) k d ≡ s = rw (one_more_lem z) (get_or_at (run_states run s) s [] d k (sym so.count ∙ e)) in
        sym (runs_kept run k d (s + 1) N (omega (arith, low)) (omega (arith, so.count)) ∙ at)

    pub counted_fits : Fits w64 (here + 1)
    counted_fits = record { fits = omega (arith, so.count, few_runs (run_in N c states) s, C.few_states) }

  -- place k is the one after all runs
  -- `state_of_place`, no run is place k: the state after the last run is `state_of_place`
  pub place_last : length (take (N - 1) states) ≤ s → after ≡ state_of_place (states_only N states) c k
  unfolding state_of_place
  place_last h =
      let run : ℕ → Bool = run_in N c states in
      let e : s ≡ N - 1 = omega (arith, so.within, C.all_there, length-take (N - 1) states) in
      let whole : run_states run N ≡ run_states run s = last_adds_none (states_only N states) c C.some_state ∙ ap (λ (x : ℕ). run_states run x) (sym e) in
      rw whole (so.next ∙ sym (get_or-eq_default (run_states run s) (after_last (run_states run s)) {n = k} (omega (arith, so.few, so.count))))

pub ruleset state_laws = (rules, counted_next, counted_fits, place_run, place_last)
