-- Each operator's image over the whole recording, read at a state of the local trace, is the operator on the local trace.
use mathlib.Core.Path.{◌≡◌, refl, sym, ◌∙◌}
use Prim.Native.Nat.{ℕ, zero, suc, ◌+◌, ◌-◌, ◌≤◌, ◌<◌}
use native.Mathlib.Omega.{arith}
use mathlib.Core.Bool.{Bool, true, false, not, ◌&&◌, ◌||◌, or-false, and-false, true≢false}
use lib.Dec.{ltb}
use borrow.Author.Tests.{lt-ltb, le-ltb}
use native.Mathlib.Decide.{ℕ_discrete}
use Rattle.definitions.specs.Bounded.{pick}
use Rattle.theorems.proofs.Recursions.{until_n, since_b, prev_b}
use Rattle.theorems.proofs.Walk.{count, down, up, count_mono, count_lt, until_end, until_step}

-- the states of the local trace: where c runs, and e
pub record States (run st : ℕ → Bool) (e : ℕ) : Type 0 where
  pub runs : (k : ℕ) → run k ≡ true → st k ≡ true
  pub at_end : st e ≡ true
  pub skips : (k : ℕ) → k < e → run k ≡ false → st k ≡ false
  pub past : (k : ℕ) → e < k → st k ≡ false

module _ (run st : ℕ → Bool) (e N : ℕ) (s : States run st e) (l : e < N) where
  -- no *state* until a *state* with h: h at the next one, and no where there is none
  module _ (h lo : ℕ → Bool)
      (at : (k : ℕ) → k ≤ e → st k ≡ true → h k ≡ lo (count run k))
      (off : (k : ℕ) → st k ≡ false → h k ≡ false) where
    find : ℕ → Bool
    find k = until_n false (λ k. not (st k)) h (N - k) k

    find_at : (k : ℕ) → k ≤ e → st k ≡ true → find k ≡ lo (count run k)
    unfolding find
    find_at k b t = rw (until_step N false (λ k. not (st k)) h k (omega arith), t, or-false) (at k b t)

    find_off : (k : ℕ) → k < e → run k ≡ false → find k ≡ find (suc k)
    unfolding find
    find_off k b r = rw (until_step N false (λ k. not (st k)) h k (omega arith), off k (s.skips k b r), s.skips k b r)

    pub find_is : (k : ℕ) → k ≤ e → until_n false (λ k. not (st k)) h (N - k) k ≡ lo (count run k)
    unfolding find
    find_is k b = down run e find lo (find_at e (omega arith) s.at_end) find_off (λ k b r _. find_at k (omega arith) (s.runs k r)) k b

    pub find_past : (j k : ℕ) → e < k → until_n false (λ k. not (st k)) h j k ≡ false
    find_past zero k b = refl
    find_past (suc j) k b = rw (off k (s.past k b), s.past k b) (find_past j (suc k) (omega arith))

  -- until
  module _ (d : Bool) (g h p q : ℕ → Bool)
      (at_g : (k : ℕ) → k ≤ e → st k ≡ true → g k ≡ p (count run k))
      (at_h : (k : ℕ) → k ≤ e → st k ≡ true → h k ≡ q (count run k))
      (off_g : (k : ℕ) → k ≤ e → st k ≡ false → g k ≡ true)
      (off_h : (k : ℕ) → k ≤ e → st k ≡ false → h k ≡ false)
      (after : until_n d g h (N - suc e) (suc e) ≡ d) where
    glo : ℕ → Bool
    glo k = until_n d g h (N - k) k

    loc : ℕ → Bool
    loc i = until_n d p q (suc (count run e) - i) i

    until_last : glo e ≡ loc (count run e)
    unfolding glo loc
    until_last = rw (until_step N d g h e l, after, until_step (suc (count run e)) d p q (count run e) (omega arith), until_end, at_g e (omega arith) s.at_end, at_h e (omega arith) s.at_end)

    until_skip : (k : ℕ) → k < e → run k ≡ false → glo k ≡ glo (suc k)
    unfolding glo
    until_skip k b r = rw (until_step N d g h k (omega arith), off_g k (omega arith) (s.skips k b r), off_h k (omega arith) (s.skips k b r))

    until_run : (k : ℕ) → k < e → run k ≡ true → glo (suc k) ≡ loc (suc (count run k)) → glo k ≡ loc (count run k)
    unfolding glo loc
    until_run k b r ih =
        rw (until_step N d g h k (omega arith), ih, until_step (suc (count run e)) d p q (count run k) (omega (arith, count_lt run e k b r)), at_g k (omega arith) (s.runs k r), at_h k (omega arith) (s.runs k r))

    pub until_is : (k : ℕ) → k ≤ e → until_n d g h (N - k) k ≡ until_n d p q (suc (count run e) - count run k) (count run k)
    unfolding glo loc
    until_is = down run e glo loc until_last until_skip until_run

-- prev: c has not run since a run with h, before state k
module _ (run : ℕ → Bool) (e : ℕ) where
  module _ (h lo : ℕ → Bool)
      (at : (k : ℕ) → k < e → run k ≡ true → h k ≡ lo (count run k))
      (off : (k : ℕ) → k < e → run k ≡ false → h k ≡ false) where
    seen : ℕ → Bool
    seen k = since_b (λ k. not (run k)) h k

    pub seen_is : (k : ℕ) → k ≤ e → since_b (λ k. not (run k)) h k ≡ prev_b lo (count run k)
    unfolding seen
    seen_is = up run e seen (prev_b lo) refl (λ k b r. rw (off k b r, r)) (λ k b r _. rw (r, or-false) (at k b r))

  module _ (st : ℕ → Bool) (s : States run st e) (g h p q : ℕ → Bool)
      (at_g : (k : ℕ) → k ≤ e → st k ≡ true → g k ≡ p (count run k))
      (at_h : (k : ℕ) → k ≤ e → st k ≡ true → h k ≡ q (count run k))
      (off_g : (k : ℕ) → k ≤ e → st k ≡ false → g k ≡ true)
      (off_h : (k : ℕ) → k ≤ e → st k ≡ false → h k ≡ false) where
    since_before_lem : (k : ℕ) → k ≤ e → since_b g h k ≡ since_b p q (count run k)
    since_before_lem = up run e (since_b g h) (since_b p q) refl
        (λ k b r. rw (off_g k (omega arith) (s.skips k b r), off_h k (omega arith) (s.skips k b r)))
        (λ k b r ih. rw (at_g k (omega arith) (s.runs k r), at_h k (omega arith) (s.runs k r), ih))

    pub since_is : (k : ℕ) → k ≤ e → st k ≡ true → since_b g h (suc k) ≡ since_b p q (suc (count run k))
    since_is k b t = rw (at_g k b t, at_h k b t, since_before_lem k b)

-- a state is not the last place just where c runs in it
module _ (run st : ℕ → Bool) (e : ℕ) (s : States run st e) where
  pub at_end_lem : (k : ℕ) → k ≤ e → st k ≡ true → run k ≡ false → k ≡ e
  at_end_lem k b t r = go (ℕ_discrete k e)
    where
      go : Dec (k ≡ e) → k ≡ e
      go (yes q) = q
      go (no n) = let z : ◌≡◌ {A = Bool} true false = sym t ∙ s.skips k (omega arith) r in absurd (true≢false z)

  pub place_last : (e_before : (k : ℕ) → run k ≡ true → k < e) (k : ℕ) → k ≤ e → st k ≡ true →
      ltb (suc (count run k)) (suc (count run e)) ≡ run k
  place_last eb k b t = go (run k) refl
    where
      go : (c : Bool) → run k ≡ c → ltb (suc (count run k)) (suc (count run e)) ≡ c
      go true r = lt-ltb (suc (count run k)) (suc (count run e)) (omega (arith, count_lt run e k (eb k r) r))
      go false r = let q : k ≡ e = at_end_lem k b t r in rw q (le-ltb (suc (count run e)) (suc (count run e)) (omega arith))

  -- next
  module _ (eb : (k : ℕ) → run k ≡ true → k < e) (N : ℕ) (l : e < N) (d : Bool) (F lo : ℕ → Bool)
      (at : (k : ℕ) → k ≤ e → F k ≡ lo (count run k))
      (past : F (suc e) ≡ d) where
    same : (c : Bool) → pick c d d ≡ d
    unfolding pick
    same true = refl
    same false = refl

    pub next_is : (k : ℕ) → k ≤ e → st k ≡ true →
        pick (ltb (suc k) N) (F (suc k)) d ≡ pick (ltb (suc (count run k)) (suc (count run e))) (lo (suc (count run k))) d
    unfolding pick
    next_is k b t = rw (place_last eb k b t) (go (run k) refl)
      where
        go : (c : Bool) → run k ≡ c → pick (ltb (suc k) N) (F (suc k)) d ≡ pick c (lo (suc (count run k))) d
        go true r = let a : F (suc k) ≡ lo (count run (suc k)) = at (suc k) (eb k r) in
            rw (lt-ltb (suc k) N (omega (arith, eb k r))) (rw r at a)
        go false r = let q : k ≡ e = at_end_lem k b t r in rw (q, past) (same (ltb (suc e) N))

-- past e: yes where h is met at once, no where it never is
pub after_weak : (g h : ℕ → Bool) (n k : ℕ) → h k ≡ true → until_n true g h n k ≡ true
after_weak g h zero k t = refl
after_weak g h (suc n) k t = rw t

pub after_strong : (e : ℕ) (g h : ℕ → Bool) → ((k : ℕ) → e < k → h k ≡ false) → (n k : ℕ) → e < k → until_n false g h n k ≡ false
after_strong e g h off zero k b = refl
after_strong e g h off (suc n) k b = rw (off k b, after_strong e g h off n (suc k) (omega arith), and-false)

absorb : (p q r : Bool) → (q || (p && (q || (p && r)))) ≡ (q || (p && r))
absorb p true r = refl
absorb true false r = refl
absorb false false r = refl

-- until of two operands that keep their value up to the next state
module _ (run : ℕ → Bool) (e N : ℕ) (l : e < N) (d : Bool) (g h p q : ℕ → Bool)
    (at_g : (k : ℕ) → k ≤ e → g k ≡ p (count run k))
    (at_h : (k : ℕ) → k ≤ e → h k ≡ q (count run k))
    (after : until_n d g h (N - suc e) (suc e) ≡ d) where
  tglo : ℕ → Bool
  tglo k = until_n d g h (N - k) k

  tloc : ℕ → Bool
  tloc i = until_n d p q (suc (count run e) - i) i

  tol_last : tglo e ≡ tloc (count run e)
  unfolding tglo tloc
  tol_last = rw (until_step N d g h e l, after, until_step (suc (count run e)) d p q (count run e) (omega arith), until_end, at_g e (omega arith), at_h e (omega arith))

  -- one step down, whether or not c runs
  tol_down : (j k : ℕ) → k + j ≡ e → tglo k ≡ tloc (count run k)
  unfolding tglo tloc pick
  tol_down zero k s = let z : k ≡ e = omega arith in rw z tol_last
  tol_down (suc j) k s = go (run k) refl (tol_down j (suc k) (omega arith))
    where
      go : (c : Bool) → run k ≡ c → tglo (suc k) ≡ tloc (count run (suc k)) → tglo k ≡ tloc (count run k)
      go true r ih =
          let i : tglo (suc k) ≡ tloc (suc (count run k)) = rw r at ih in
          rw (until_step N d g h k (omega arith), i, until_step (suc (count run e)) d p q (count run k) (omega (arith, count_lt run e k (omega arith) r)), at_g k (omega arith), at_h k (omega arith))
      go false r ih =
          let i : tglo (suc k) ≡ tloc (count run k) = rw r at ih in
          rw (until_step N d g h k (omega arith), i, until_step (suc (count run e)) d p q (count run k) (omega (arith, count_mono run k e (omega arith))), at_g k (omega arith), at_h k (omega arith))
          (absorb (p (count run k)) (q (count run k)) (until_n d p q (suc (count run e) - suc (count run k)) (suc (count run k))))

  pub until_tol : (k : ℕ) → k ≤ e → until_n d g h (N - k) k ≡ until_n d p q (suc (count run e) - count run k) (count run k)
  unfolding tglo tloc
  until_tol k b = tol_down (e - k) k (omega arith)

-- since of two operands that keep their value up to the next state
pub since_tol : (run : ℕ → Bool) (e : ℕ) (g h p q : ℕ → Bool) → ((k : ℕ) → k ≤ e → g k ≡ p (count run k)) → ((k : ℕ) → k ≤ e → h k ≡ q (count run k)) →
    (k : ℕ) → k ≤ e → since_b g h (suc k) ≡ since_b p q (suc (count run k))
unfolding pick
since_tol run e g h p q at_g at_h zero b = rw (at_g 0 b, at_h 0 b)
since_tol run e g h p q at_g at_h (suc k) b = go (run k) refl (at_g (suc k) b) (at_h (suc k) b) (since_tol run e g h p q at_g at_h k (omega arith))
  where
    go : (c : Bool) → run k ≡ c → g (suc k) ≡ p (count run (suc k)) → h (suc k) ≡ q (count run (suc k)) →
        since_b g h (suc k) ≡ since_b p q (suc (count run k)) → since_b g h (suc (suc k)) ≡ since_b p q (suc (count run (suc k)))
    go true r eg eh ih = rw (eg, eh, ih, r)
    go false r eg eh ih = rw (eg, eh, ih, r) (absorb (p (count run k)) (q (count run k)) (since_b p q (count run k)))
