-- A rewritten rule reads over the whole recording as the rule reads on the local trace.
use mathlib.Core.Path.{◌≡◌, refl, sym, ap, subst, ◌∙◌}
use Prim.Native.Nat.{ℕ, zero, suc, ◌-◌, ◌≤◌, ◌<◌}
use native.Mathlib.Omega.{arith}
use mathlib.Core.Bool.{Bool, true, false, not, ◌&&◌, ◌||◌, and-false, or-false, or-true, true≢false, not-not}
use mathlib.Core.List.{List, [], ◌∷◌, ◌++◌}
use lib.ListN.{length, get_or, length-append, get_or-append}
use lib.Seq.{get_or_at}
use lib.Dec.{ltb}
use native.Mathlib.Decide.{dec_lt}
use borrow.Author.Tests.{lt-ltb}
use Rattle.definitions.specs.Bounded.{pick, bit_of}
use Rattle.definitions.specs.Nodes.{Kind, True, Atom, Not, Or, Next, Until, Prev, Since, Run, End, Unknown, Node}
use Rattle.definitions.specs.Readings.{Trace}
use Rattle.definitions.specs.Rewriting.{opening, Image, no_image, image_of, image, tolerant_at, tolerant_of, Draft, step, steps, Rewritten, closed, rewriting}
use Rattle.theorems.proofs.RuleNodes.{RuleNode, RuleNodes}
use Rattle.theorems.proofs.Recursions.{since_b, prev_b}
use Rattle.theorems.proofs.Counts.{opened}
use Rattle.theorems.proofs.Walk.{count}
use Rattle.theorems.proofs.Operators.{States, find_is, until_is, until_tol, seen_is, since_is, since_tol, place_last, next_is, after_weak, after_strong, at_end_lem}
use Rattle.theorems.proofs.Semantics.{Row, no_row, nth, ev, ev_node, rows_on, rows, val}
use Rattle.theorems.proofs.Terms.{Term, ref, yes₀, atom₀, one, two, next₁, or₂, comp, top, den, Below, length_rows, comp_length, comp_old, comp_size, top_lt, comp_den}
use Rattle.theorems.proofs.Images.{find_x, itself_x, foreign_x, until_x, prev_x, since_x, short_next_x, short_until_x, short_since_x, image_x, term_of, weak_some, step_terms, closed_x, closed_terms}

-- the top of one reading
abbrev pub top_of : (weak : Bool) → (w : Rewritten) → ℕ
top_of true w = w.weak_top
top_of false w = w.strong_top

-- the marks of a recording for a controller, as the opening has them
abbrev pub st_of : (ℕ → Bool) → (ℕ → Bool) → ℕ → Bool
st_of run ends k = run k || not (prev_b (λ j. not (run j)) k || not (ends k))

-- what the recording and the local trace have to do with one another; e is the state of the last place
pub record Law (run ends : ℕ → Bool) (mask : ℕ) (bit lbit : ℕ → ℕ → Bool) (e N : ℕ) : Type 0 where
  pub inside : e < N
  pub before : (k : ℕ) → run k ≡ true → k < e
  pub entry : prev_b (λ j. not (run j)) e ≡ false
  pub not_yet : (k : ℕ) → k < e → ends k ≡ false
  pub ended : (k : ℕ) → e ≤ k → ends k ≡ true
  pub own_at : (a k : ℕ) → bit_of mask a ≡ true → k ≤ e → bit a k ≡ lbit a (count run k)
  pub any_at : (a k : ℕ) → run k ≡ true → bit a k ≡ lbit a (count run k)

orl : (a s b c : Bool) → (a || (s && (b && c))) ≡ true → (a || (s && b)) ≡ true
orl true s b c h = refl
orl false true true c h = refl
orl false true false c h = h
orl false false b c h = h

orr : (a s b c : Bool) → (a || (s && (b && c))) ≡ true → (a || (s && c)) ≡ true
orr true s b c h = refl
orr false true true c h = h
orr false true false c h = absurd (true≢false (sym h))
orr false false b c h = h

below_pick : (c : Bool) (n : ℕ) (x y : Term) → Below n x → Below n y → Below n (pick c x y)
unfolding pick
below_pick true n x y p q = p
below_pick false n x y p q = q

below_find : (d : Bool) (n i : ℕ) → 11 ≤ n → i < n → Below n (find_x d (ref i))
below_find true n i h l = omega arith
below_find false n i h l = omega arith

below_foreign : (d : Bool) (n x a : ℕ) → 11 ≤ n → (d ≡ false → x < n) → Below n (foreign_x d x a)
below_foreign true n x a h l = (omega arith, tt)
below_foreign false n x a h l = (omega arith, l refl)

below_itself : (d : Bool) (n : ℕ) (leaf : Term) (x : ℕ) → Below n leaf → (d ≡ false → x < n) → Below n (itself_x d leaf x)
below_itself true n leaf x h l = h
below_itself false n leaf x h l = l refl

below_until : (d : Bool) (n i j : ℕ) → 11 ≤ n → i < n → j < n → Below n (until_x d (ref i) (ref j))
below_until true n i j h l m = omega arith
below_until false n i j h l m = omega arith

below_short_next : (d : Bool) (n i : ℕ) → 11 ≤ n → i < n → Below n (short_next_x d (ref i))
below_short_next true n i h l = omega arith
below_short_next false n i h l = omega arith

below_short_until : (d : Bool) (n i j : ℕ) → 11 ≤ n → i < n → j < n → Below n (short_until_x d (ref i) (ref j))
below_short_until true n i j h l m = omega arith
below_short_until false n i j h l m = omega arith

-- what holds of two lists place by place, and of one more at the end of each
two_snoc : {A B : Type 0} (P : A → B → Type 0) (xs : List A) (ys : List B) (x : A) (y : B) (dx : A) (dy : B) → length xs ≡ length ys →
    ((i : ℕ) → i < length ys → P (get_or xs i dx) (get_or ys i dy)) → P x y → (i : ℕ) → i < length (ys ++ (y ∷ [])) →
    P (get_or (xs ++ (x ∷ [])) i dx) (get_or (ys ++ (y ∷ [])) i dy)
two_snoc P xs ys x y dx dy s all here i h = go (dec_lt i (length ys))
  where
    go : Dec (i < length ys) → P (get_or (xs ++ (x ∷ [])) i dx) (get_or (ys ++ (y ∷ [])) i dy)
    go (yes l) = rw (get_or-append xs (x ∷ []) dx i (omega arith), get_or-append ys (y ∷ []) dy i l) (all i l)
    go (no n) =
        let q : length ys ≡ i = omega (arith, length-append ys (y ∷ [])) in
        rw (get_or_at xs x [] dx i (omega arith), get_or_at ys y [] dy i q) here

or_of : (a b : Bool) → a ≡ true → (a || b) ≡ true
or_of a b h = rw h

module _ (run ends : ℕ → Bool) (mask : ℕ) (bit lbit : ℕ → ℕ → Bool) (e N : ℕ) (law : Law run ends mask bit lbit e N) (short : Bool) where
  st : ℕ → Bool
  st k = st_of run ends k

  idle : (k : ℕ) → e ≤ k → run k ≡ false
  idle k h = go (run k) refl
    where
      go : (c : Bool) → run k ≡ c → run k ≡ false
      go true r = let z : k < e = law.before k r in absurd (omega arith)
      go false r = r

  st_past : (k : ℕ) → e < k → st k ≡ false
  unfolding st
  st_past zero h = absurd (omega arith)
  st_past (suc k) h = rw (idle (suc k) (omega arith), idle k (omega arith))

  states : States run st e
  unfolding st
  states = record {
    runs = λ k r. rw r;
    at_end = rw (law.entry, law.ended e (omega arith), or-true);
    skips = λ k b r. rw (r, law.not_yet k b, or-true);
    past = st_past;
  }

  early : (k : ℕ) → k ≤ e → prev_b ends k ≡ false
  early zero b = refl
  early (suc k) b = law.not_yet k b

  late : (k : ℕ) → e < k → prev_b ends k ≡ true
  late zero b = absurd (omega arith)
  late (suc k) b = law.ended k (omega arith)

  -- prev and since, of any operands that are right at the states
  prev_core : (f lo : ℕ → Bool) → ((k : ℕ) → k ≤ e → st k ≡ true → f k ≡ lo (count run k)) → (k : ℕ) → k ≤ e →
      prev_b (λ j. since_b (λ i. not (run i)) (λ i. not (not (run i) || not (f i))) (suc j)) k ≡ prev_b lo (count run k)
  prev_core f lo at k b =
      shift k ∙ seen_is run e (λ i. not (not (run i) || not (f i))) lo (λ k b r. rw (r, at k (omega arith) (states.runs k r), not-not)) (λ k b r. rw r) k b
    where
      shift : (k : ℕ) → prev_b (λ j. since_b (λ i. not (run i)) (λ i. not (not (run i) || not (f i))) (suc j)) k
          ≡ since_b (λ i. not (run i)) (λ i. not (not (run i) || not (f i))) k
      shift zero = refl
      shift (suc k) = refl

  since_core : (f g p q : ℕ → Bool) → ((k : ℕ) → k ≤ e → st k ≡ true → f k ≡ p (count run k)) →
      ((k : ℕ) → k ≤ e → st k ≡ true → g k ≡ q (count run k)) → (k : ℕ) → k ≤ e → st k ≡ true →
      since_b (λ i. not (st i) || f i) (λ i. not (not (st i) || not (g i))) (suc k) ≡ since_b p q (suc (count run k))
  since_core f g p q at bt = since_is run e st states (λ i. not (st i) || f i) (λ i. not (not (st i) || not (g i))) p q
      (λ k b t. rw t (at k b t)) (λ k b t. rw (t, bt k b t, not-not)) (λ k b z. rw z) (λ k b z. rw z)

  abbrev gt : Trace
  gt = record { places = N; atom = λ a d k. bit a k; run = run; end = ends }

  abbrev lt : Trace
  lt = record {
    places = suc (count run e);
    atom = λ a d i. pick (bit_of mask a) (lbit a i) (pick (ltb (suc i) (suc (count run e))) (lbit a i) d);
    run = λ k. false;
    end = λ k. false;
  }

  -- the draft of a rewriting, and the local rows so far: an image is right at the states, and in the short rewriting a tolerant one up to the last place's
  record Sound (T : List Node) (is : List Image) (rs : List Row) : Type 0 where
    big : 11 ≤ length T
    r1 : val gt T 1 ≡ (λ d k. not (run k))
    r3 : val gt T 3 ≡ (λ d k. ends k)
    r8 : val gt T 8 ≡ (λ d k. not (st k))
    r9 : val gt T 9 ≡ (λ d k. prev_b ends k)
    sizes : length is ≡ length rs
    low : (d : Bool) (i : ℕ) → i < length rs → image d is i < length T
    good : (d : Bool) (i k : ℕ) → i < length rs → k ≤ e → (st k || (short && tolerant_at is i)) ≡ true →
        val gt T (image d is i) d k ≡ nth rs i d (count run k)

  sound_comp : (x : Term) (T : List Node) (is : List Image) (rs : List Row) → Sound T is rs → Sound (comp x T) is rs
  sound_comp x T is rs S = record {
    big = omega (arith, S.big, comp_length x T);
    r1 = comp_old gt x T 1 (omega (arith, S.big)) ∙ S.r1;
    r3 = comp_old gt x T 3 (omega (arith, S.big)) ∙ S.r3;
    r8 = comp_old gt x T 8 (omega (arith, S.big)) ∙ S.r8;
    r9 = comp_old gt x T 9 (omega (arith, S.big)) ∙ S.r9;
    sizes = S.sizes;
    low = λ d i h. omega (arith, S.low d i h, comp_length x T);
    good = λ d i k h b t. rw (comp_old gt x T (image d is i) (S.low d i h)) (S.good d i k h b t);
  }

  sound_opening : Sound opening [] []
  unfolding st
  sound_opening = record {
    big = omega arith;
    r1 = refl;
    r3 = refl;
    r8 = refl;
    r9 = refl;
    sizes = refl;
    low = λ d i h. absurd (omega arith);
    good = λ d i k h b t. absurd (omega arith);
  }

  module _ (T : List Node) (is : List Image) (rs : List Row) (S : Sound T is rs) where
    -- the value at the next state
    module _ (n : ℕ) (lo : ℕ → Bool) where
      find_den : (d : Bool) → ((k : ℕ) → k ≤ e → st k ≡ true → val gt T n d k ≡ lo (count run k)) →
          (k : ℕ) → k ≤ e → den gt (find_x d (ref n)) (val gt T) d k ≡ lo (count run k)
      find_den true at k b = rw (
        S.r8,
        find_is run st e N states law.inside (λ k. not (not (st k) || val gt T n true k)) (λ i. not (lo i))
            (λ k b t. rw (t, at k b t)) (λ k z. rw z) k b,
        not-not,
      )
      find_den false at k b = rw S.r8 (find_is run st e N states law.inside (λ k. not (not (st k) || not (val gt T n false k))) lo
          (λ k b t. rw (t, at k b t, not-not)) (λ k z. rw z) k b)

    find_den_past : (n : ℕ) (d : Bool) → den gt (find_x d (ref n)) (val gt T) d (suc e) ≡ d
    find_den_past n true = rw (S.r8, after_strong e (λ k. not (st k)) (λ k. not (not (st k) || val gt T n true k)) (λ k b. rw (st_past k b)) (N - suc e) (suc e) (omega arith))
    find_den_past n false = rw S.r8 (after_strong e (λ k. not (st k)) (λ k. not (not (st k) || not (val gt T n false k))) (λ k b. rw (st_past k b)) (N - suc e) (suc e) (omega arith))

    abbrev F : ℕ → Row
    F = val gt T

    at : (d : Bool) (a : ℕ) → a < length rs → (k : ℕ) → k ≤ e → st k ≡ true → F (image d is a) d k ≡ nth rs a d (count run k)
    at d a h k b t = S.good d a k h b (or_of (st k) (short && tolerant_at is a) t)

    at_tol : (d : Bool) (a : ℕ) → a < length rs → (short && tolerant_at is a) ≡ true → (k : ℕ) → k ≤ e → F (image d is a) d k ≡ nth rs a d (count run k)
    at_tol d a h t k b = S.good d a k h b (rw (t, or-true))

    -- the strong image of a leaf finds it at x
    abbrev LeafAt : Bool → ℕ → Row → Type 0
    LeafAt d x r = d ≡ false → F x ≡ r

    true_is : (x : ℕ) (d : Bool) (k : ℕ) → LeafAt d x (λ d k. true) → den gt (itself_x d yes₀ x) F d k ≡ true
    true_is x true k hx = refl
    true_is x false k hx = rw (hx refl)

    own_is : (a x : ℕ) (d : Bool) (k : ℕ) → LeafAt d x (gt.atom a) → den gt (itself_x d (atom₀ a) x) F d k ≡ bit a k
    own_is a x true k hx = refl
    own_is a x false k hx = rw (hx refl)

    foreign_is : (a x : ℕ) (d : Bool) (k : ℕ) → LeafAt d x (gt.atom a) → den gt (foreign_x d x a) F d k ≡ pick (run k) (lbit a (count run k)) d
    unfolding pick
    foreign_is a x true k hx = rw S.r1 (go (run k) refl)
      where
        go : (c : Bool) → run k ≡ c → (not c || bit a k) ≡ pick c (lbit a (count run k)) true
        go true r = law.any_at a k r
        go false r = refl
    foreign_is a x false k hx = rw (S.r1, hx refl) (go (run k) refl)
      where
        go : (c : Bool) → run k ≡ c → not (not c || not (bit a k)) ≡ pick c (lbit a (count run k)) false
        go true r = rw not-not (law.any_at a k r)
        go false r = refl

    atom_is : (a x : ℕ) (d : Bool) (k : ℕ) → LeafAt d x (gt.atom a) → k ≤ e → (st k || (short && bit_of mask a)) ≡ true →
        den gt (pick (bit_of mask a) (itself_x d (atom₀ a) x) (foreign_x d x a)) F d k ≡ lt.atom a d (count run k)
    unfolding pick
    atom_is a x d k hx b t = go (bit_of mask a) refl
      where
        go : (c : Bool) → bit_of mask a ≡ c → den gt (pick (bit_of mask a) (itself_x d (atom₀ a) x) (foreign_x d x a)) F d k ≡ lt.atom a d (count run k)
        go true o = rw o (own_is a x d k hx ∙ law.own_at a k o b)
        go false o = let q : st k ≡ true = rw (o, and-false, or-false) at t in
            rw (o, place_last run st e states law.before k b q) (foreign_is a x d k hx)

    next_plain : (d : Bool) (a : ℕ) → a < length rs → (k : ℕ) → k ≤ e → st k ≡ true →
        den gt (one next₁ (find_x d (image_x d is a))) F d k ≡ ev lt (nth rs) Next a 0 d (count run k)
    next_plain d a h = next_is run st e states law.before N law.inside d (den gt (find_x d (image_x d is a)) F d) (nth rs a d)
        (find_den (image d is a) (nth rs a d) d (at d a h)) (find_den_past (image d is a) d)

    next_short : (d : Bool) (a : ℕ) → a < length rs → (short && tolerant_at is a) ≡ true → (k : ℕ) → k ≤ e → st k ≡ true →
        den gt (short_next_x d (image_x d is a)) F d k ≡ ev lt (nth rs) Next a 0 d (count run k)
    unfolding pick
    next_short d a h o k b t = rw (place_last run st e states law.before k b t) (go d (run k) refl)
      where
        go : (d c : Bool) → run k ≡ c → den gt (short_next_x d (image_x d is a)) F d k ≡ pick c (nth rs a d (suc (count run k))) d
        go true true r = let i : F (image true is a) true (suc k) ≡ nth rs a true (count run (suc k)) = at_tol true a h o (suc k) (law.before k r) in
            rw (S.r3, law.not_yet k (law.before k r), lt-ltb (suc k) N (omega (arith, law.before k r, law.inside))) (rw r at i)
        go false true r = let i : F (image false is a) false (suc k) ≡ nth rs a false (count run (suc k)) = at_tol false a h o (suc k) (law.before k r) in
            rw (S.r3, law.not_yet k (law.before k r), lt-ltb (suc k) N (omega (arith, law.before k r, law.inside)), not-not) (rw r at i)
        go true false r = let q : k ≡ e = at_end_lem run st e states k b t r in rw (S.r3, q, law.ended e (omega arith))
        go false false r = let q : k ≡ e = at_end_lem run st e states k b t r in rw (S.r3, q, law.ended e (omega arith))

    until_plain : (d : Bool) (a b : ℕ) → a < length rs → b < length rs → (k : ℕ) → k ≤ e →
        den gt (until_x d (image_x d is a) (image_x d is b)) F d k ≡ ev lt (nth rs) Until a b d (count run k)
    until_plain true a b ha hb k l = rw (S.r8, S.r9) (until_is run st e N states law.inside true
        (λ i. not (st i) || F (image true is a) true i)
        (λ i. not (not (st i) || not (F (image true is b) true i)) || prev_b ends i)
        (nth rs a true) (nth rs b true)
        (λ k l t. rw t (at true a ha k l t))
        (λ k l t. rw (t, early k l, or-false, not-not) (at true b hb k l t))
        (λ k l z. rw z)
        (λ k l z. rw (z, early k l))
        (after_weak (λ i. not (st i) || F (image true is a) true i) (λ i. not (not (st i) || not (F (image true is b) true i)) || prev_b ends i)
        (N - suc e) (suc e) (rw (law.ended e (omega arith), or-true)))
        k l)
    until_plain false a b ha hb k l = rw S.r8 (until_is run st e N states law.inside false
        (λ i. not (st i) || F (image false is a) false i)
        (λ i. not (not (st i) || not (F (image false is b) false i)))
        (nth rs a false) (nth rs b false)
        (λ k l t. rw t (at false a ha k l t))
        (λ k l t. rw (t, not-not) (at false b hb k l t))
        (λ k l z. rw z)
        (λ k l z. rw z)
        (after_strong e (λ i. not (st i) || F (image false is a) false i) (λ i. not (not (st i) || not (F (image false is b) false i)))
        (λ k m. rw (st_past k m)) (N - suc e) (suc e) (omega arith))
        k l)

    until_short : (d : Bool) (a b : ℕ) → a < length rs → b < length rs → (short && tolerant_at is a) ≡ true → (short && tolerant_at is b) ≡ true → (k : ℕ) → k ≤ e →
        den gt (short_until_x d (image_x d is a) (image_x d is b)) F d k ≡ ev lt (nth rs) Until a b d (count run k)
    until_short true a b ha hb ta tb k l = rw S.r9 (until_tol run e N law.inside true
        (F (image true is a) true) (λ i. prev_b ends i || F (image true is b) true i)
        (nth rs a true) (nth rs b true) (at_tol true a ha ta) (λ k l. rw (early k l) (at_tol true b hb tb k l))
        (after_weak (F (image true is a) true) (λ i. prev_b ends i || F (image true is b) true i) (N - suc e) (suc e) (rw (law.ended e (omega arith))))
        k l)
    until_short false a b ha hb ta tb k l = rw S.r9 (until_tol run e N law.inside false
        (F (image false is a) false) (λ i. not (prev_b ends i || not (F (image false is b) false i)))
        (nth rs a false) (nth rs b false) (at_tol false a ha ta) (λ k l. rw (early k l, not-not) (at_tol false b hb tb k l))
        (after_strong e (F (image false is a) false) (λ i. not (prev_b ends i || not (F (image false is b) false i)))
        (λ k m. rw (late k m)) (N - suc e) (suc e) (omega arith))
        k l)

    prev_is : (d : Bool) (a : ℕ) → a < length rs → (k : ℕ) → k ≤ e → den gt (prev_x (image_x d is a)) F d k ≡ ev lt (nth rs) Prev a 0 d (count run k)
    prev_is true a h k b = rw S.r1 (prev_core (F (image true is a) true) (nth rs a true) (at true a h) k b)
    prev_is false a h k b = rw S.r1 (prev_core (F (image false is a) false) (nth rs a false) (at false a h) k b)

    since_plain : (d : Bool) (a b : ℕ) → a < length rs → b < length rs → (k : ℕ) → k ≤ e → st k ≡ true →
        den gt (since_x (image_x d is a) (image_x d is b)) F d k ≡ ev lt (nth rs) Since a b d (count run k)
    since_plain true a b ha hb k l t = subst
        (λ (r : Row). since_b (λ i. r true i || F (image true is a) true i) (λ i. not (r false i || not (F (image true is b) true i))) (suc k) ≡ ev lt (nth rs) Since a b true (count run k))
        (sym S.r8)
        (since_core (F (image true is a) true) (F (image true is b) true) (nth rs a true) (nth rs b true) (at true a ha) (at true b hb) k l t)
    since_plain false a b ha hb k l t = subst
        (λ (r : Row). since_b (λ i. r false i || F (image false is a) false i) (λ i. not (r true i || not (F (image false is b) false i))) (suc k) ≡ ev lt (nth rs) Since a b false (count run k))
        (sym S.r8)
        (since_core (F (image false is a) false) (F (image false is b) false) (nth rs a false) (nth rs b false) (at false a ha) (at false b hb) k l t)

    since_short : (d : Bool) (a b : ℕ) → a < length rs → b < length rs → (short && tolerant_at is a) ≡ true → (short && tolerant_at is b) ≡ true → (k : ℕ) → k ≤ e →
        den gt (short_since_x (image_x d is a) (image_x d is b)) F d k ≡ ev lt (nth rs) Since a b d (count run k)
    since_short d a b ha hb ta tb = since_tol run e (F (image d is a) d) (F (image d is b) d) (nth rs a d) (nth rs b d) (at_tol d a ha ta) (at_tol d b hb tb)

    next_is' : (d : Bool) (a : ℕ) → a < length rs → (k : ℕ) → k ≤ e → st k ≡ true →
        den gt (pick (short && tolerant_at is a) (short_next_x d (image_x d is a)) (one next₁ (find_x d (image_x d is a)))) F d k ≡ ev lt (nth rs) Next a 0 d (count run k)
    unfolding pick
    next_is' d a h k b t = go (short && tolerant_at is a) refl
      where
        go : (c : Bool) → (short && tolerant_at is a) ≡ c → den gt (pick c (short_next_x d (image_x d is a)) (one next₁ (find_x d (image_x d is a)))) F d k ≡ ev lt (nth rs) Next a 0 d (count run k)
        go true o = next_short d a h o k b t
        go false o = next_plain d a h k b t

    until_is' : (d : Bool) (a b : ℕ) → a < length rs → b < length rs → (k : ℕ) → k ≤ e →
        den gt (pick (short && (tolerant_at is a && tolerant_at is b)) (short_until_x d (image_x d is a) (image_x d is b)) (until_x d (image_x d is a) (image_x d is b))) F d k
        ≡ ev lt (nth rs) Until a b d (count run k)
    unfolding pick
    until_is' d a b ha hb k l = go (short && (tolerant_at is a && tolerant_at is b)) refl
      where
        go : (c : Bool) → (short && (tolerant_at is a && tolerant_at is b)) ≡ c →
            den gt (pick c (short_until_x d (image_x d is a) (image_x d is b)) (until_x d (image_x d is a) (image_x d is b))) F d k ≡ ev lt (nth rs) Until a b d (count run k)
        go true o = until_short d a b ha hb (orl false short (tolerant_at is a) (tolerant_at is b) o) (orr false short (tolerant_at is a) (tolerant_at is b) o) k l
        go false o = until_plain d a b ha hb k l

    since_is' : (d : Bool) (a b : ℕ) → a < length rs → b < length rs → (k : ℕ) → k ≤ e → (st k || (short && (tolerant_at is a && tolerant_at is b))) ≡ true →
        den gt (pick (short && (tolerant_at is a && tolerant_at is b)) (short_since_x (image_x d is a) (image_x d is b)) (since_x (image_x d is a) (image_x d is b))) F d k
        ≡ ev lt (nth rs) Since a b d (count run k)
    unfolding pick
    since_is' d a b ha hb k l = go (short && (tolerant_at is a && tolerant_at is b)) refl
      where
        go : (c : Bool) → (short && (tolerant_at is a && tolerant_at is b)) ≡ c → (st k || c) ≡ true →
            den gt (pick c (short_since_x (image_x d is a) (image_x d is b)) (since_x (image_x d is a) (image_x d is b))) F d k ≡ ev lt (nth rs) Since a b d (count run k)
        go true o t = since_short d a b ha hb (orl false short (tolerant_at is a) (tolerant_at is b) o) (orr false short (tolerant_at is a) (tolerant_at is b) o) k l
        go false o t = since_plain d a b ha hb k l (rw or-false at t)

    -- what the strong image of a leaf needs
    abbrev LeafOf : Bool → ℕ → Kind → ℕ → Type 0
    LeafOf d x True a = LeafAt d x (λ d k. true)
    LeafOf d x Atom a = LeafAt d x (gt.atom a)
    LeafOf d x Not a = Unit {0}
    LeafOf d x Or a = Unit {0}
    LeafOf d x Next a = Unit {0}
    LeafOf d x Until a = Unit {0}
    LeafOf d x Prev a = Unit {0}
    LeafOf d x Since a = Unit {0}
    LeafOf d x Run a = Unit {0}
    LeafOf d x End a = Unit {0}
    LeafOf d x Unknown a = Unit {0}

    image_is : (n : Kind) (a c : ℕ) → RuleNode (length rs) n a c → (x : ℕ) (d : Bool) → LeafOf d x n a → (k : ℕ) → k ≤ e →
        (st k || (short && tolerant_of mask is n a c)) ≡ true → den gt (term_of short mask is x d n a c) F d k ≡ ev lt (nth rs) n a c d (count run k)
    image_is True a c r x d hx k b t = true_is x d k hx
    image_is Atom a c r x d hx k b t = atom_is a x d k hx b t
    image_is Not a c r x d hx k b t = ap not (S.good (not d) a k r b t)
    image_is Or a c r x d hx k b t =
        rw (S.good d a k r.0 b (orl (st k) short (tolerant_at is a) (tolerant_at is c) t), S.good d c k r.1 b (orr (st k) short (tolerant_at is a) (tolerant_at is c) t))
    image_is Next a c r x d hx k b t = next_is' d a r k b (rw (and-false, or-false) at t)
    image_is Until a c r x d hx k b t = until_is' d a c r.0 r.1 k b
    image_is Prev a c r x d hx k b t = prev_is d a r k b
    image_is Since a c r x d hx k b t = since_is' d a c r.0 r.1 k b t
    image_is Run a c r x d hx k b t = absurd r
    image_is End a c r x d hx k b t = absurd r
    image_is Unknown a c r x d hx k b t = absurd r

    image_below : (n : Kind) (a b : ℕ) → RuleNode (length rs) n a b → (x : ℕ) (d : Bool) → (d ≡ false → x < length T) →
        Below (length T) (term_of short mask is x d n a b)
    image_below True a b r x d h = below_itself d (length T) yes₀ x tt h
    image_below Atom a b r x d h =
        below_pick (bit_of mask a) (length T) (itself_x d (atom₀ a) x) (foreign_x d x a)
        (below_itself d (length T) (atom₀ a) x tt h) (below_foreign d (length T) x a S.big h)
    image_below Not a b r x d h = S.low (not d) a r
    image_below Or a b r x d h = (S.low d a r.0, S.low d b r.1)
    image_below Next a b r x d h =
        below_pick (short && tolerant_at is a) (length T) (short_next_x d (image_x d is a)) (one next₁ (find_x d (image_x d is a)))
        (below_short_next d (length T) (image d is a) S.big (S.low d a r)) (below_find d (length T) (image d is a) S.big (S.low d a r))
    image_below Until a b r x d h =
        below_pick (short && (tolerant_at is a && tolerant_at is b)) (length T)
        (short_until_x d (image_x d is a) (image_x d is b)) (until_x d (image_x d is a) (image_x d is b))
        (below_short_until d (length T) (image d is a) (image d is b) S.big (S.low d a r.0) (S.low d b r.1))
        (below_until d (length T) (image d is a) (image d is b) S.big (S.low d a r.0) (S.low d b r.1))
    image_below Prev a b r x d h = omega (arith, S.big, S.low d a r)
    image_below Since a b r x d h =
        below_pick (short && (tolerant_at is a && tolerant_at is b)) (length T)
        (short_since_x (image_x d is a) (image_x d is b)) (since_x (image_x d is a) (image_x d is b))
        (S.low d a r.0, S.low d b r.1) (omega (arith, S.big, S.low d a r.0, S.low d b r.1))
    image_below Run a b r x d h = absurd r
    image_below End a b r x d h = absurd r
    image_below Unknown a b r x d h = absurd r

  -- one more image and one more local row
  sound_snoc : (T : List Node) (is : List Image) (rs : List Row) → Sound T is rs → (j : Image) (r : Row) → ((d : Bool) → image_of d j < length T) →
      ((d : Bool) (k : ℕ) → k ≤ e → (st k || (short && j.tolerant)) ≡ true → val gt T (image_of d j) d k ≡ r d (count run k)) → Sound T (is ++ (j ∷ [])) (rs ++ (r ∷ []))
  sound_snoc T is rs S j r lj gj = record {
    big = S.big;
    r1 = S.r1;
    r3 = S.r3;
    r8 = S.r8;
    r9 = S.r9;
    sizes = omega (arith, S.sizes, length-append is (j ∷ []), length-append rs (r ∷ []));
    low = λ d i h. two_snoc (λ (j : Image) (r : Row). image_of d j < length T) is rs j r no_image no_row S.sizes (λ i h. S.low d i h) (lj d) i h;
    good = λ d i k h b. two_snoc (λ (j : Image) (r : Row). (st k || (short && j.tolerant)) ≡ true → val gt T (image_of d j) d k ≡ r d (count run k)) is rs j r no_image no_row S.sizes
        (λ i h. S.good d i k h b) (gj d k b) i h;
  }

  -- the weak image of a leaf has the leaf at its first number
  atom_at : (T : List Node) (a : ℕ) (c : Bool) →
      val gt (comp (pick c (itself_x true (atom₀ a) (length T)) (foreign_x true (length T) a)) T) (length T) ≡ gt.atom a
  unfolding pick
  atom_at T a true = comp_den gt (atom₀ a) T tt
  atom_at T a false =
      comp_old gt (two or₂ (ref 1) (ref (length T))) (comp (atom₀ a) T) (length T) (top_lt (atom₀ a) T tt) ∙ comp_den gt (atom₀ a) T tt

  -- the first node emitted is in the table
  first_in : (T : List Node) (is : List Image) (rs : List Row) → Sound T is rs → (k : Kind) (a c : ℕ) → RuleNode (length rs) k a c →
      length T < length (comp (term_of short mask is (length T) true k a c) T)
  first_in T is rs S k a c r =
      omega (arith, weak_some short mask is (length rs) (length T) k a c r, comp_size (term_of short mask is (length T) true k a c) T)

  no_leaf : (T : List Node) (is : List Image) (rs : List Row) (S : Sound T is rs) (k : Kind) (a : ℕ) → LeafOf T is rs S true (length T) k a
  no_leaf T is rs S True a = λ e. absurd (true≢false e)
  no_leaf T is rs S Atom a = λ e. absurd (true≢false e)
  no_leaf T is rs S Not a = tt
  no_leaf T is rs S Or a = tt
  no_leaf T is rs S Next a = tt
  no_leaf T is rs S Until a = tt
  no_leaf T is rs S Prev a = tt
  no_leaf T is rs S Since a = tt
  no_leaf T is rs S Run a = tt
  no_leaf T is rs S End a = tt
  no_leaf T is rs S Unknown a = tt

  leaf_in : (T : List Node) (is : List Image) (rs : List Row) (S : Sound T is rs) (k : Kind) (a c : ℕ)
      (S1 : Sound (comp (term_of short mask is (length T) true k a c) T) is rs) →
      LeafOf (comp (term_of short mask is (length T) true k a c) T) is rs S1 false (length T) k a
  leaf_in T is rs S True a c S1 = λ e. comp_den gt yes₀ T tt
  leaf_in T is rs S Atom a c S1 = λ e. atom_at T a (bit_of mask a)
  leaf_in T is rs S Not a c S1 = tt
  leaf_in T is rs S Or a c S1 = tt
  leaf_in T is rs S Next a c S1 = tt
  leaf_in T is rs S Until a c S1 = tt
  leaf_in T is rs S Prev a c S1 = tt
  leaf_in T is rs S Since a c S1 = tt
  leaf_in T is rs S Run a c S1 = tt
  leaf_in T is rs S End a c S1 = tt
  leaf_in T is rs S Unknown a c S1 = tt

  sound_step : (D : Draft) (rs : List Row) (n : Node) → Sound D.nodes D.images rs → RuleNode (length rs) n.kind n.first n.second →
      Sound (step short mask D n).nodes (step short mask D n).images (rs ++ (ev_node lt rs n ∷ []))
  sound_step D rs n S r =
      let is : List Image = D.images in
      let T : List Node = D.nodes in
      let k : Kind = n.kind in
      let a : ℕ = n.first in
      let c : ℕ = n.second in
      let x : ℕ = length T in
      let iw : Term = term_of short mask is x true k a c in
      let T1 : List Node = comp iw T in
      let iS : Term = term_of short mask is x false k a c in
      let T2 : List Node = comp iS T1 in
      let S1 : Sound T1 is rs = sound_comp iw T is rs S in
      let S2 : Sound T2 is rs = sound_comp iS T1 is rs S1 in
      let bw : Below (length T) iw = image_below T is rs S k a c r x true (λ e. absurd (true≢false e)) in
      let hx : x < length T1 = first_in T is rs S k a c r in
      let bs : Below (length T1) iS = image_below T1 is rs S1 k a c r x false (λ e. hx) in
      let lw : top iw T < length T1 = top_lt iw T bw in
      let ew : val gt T2 (top iw T) ≡ den gt iw (val gt T) = comp_old gt iS T1 (top iw T) lw ∙ comp_den gt iw T bw in
      let es : val gt T2 (top iS T1) ≡ den gt iS (val gt T1) = comp_den gt iS T1 bs in
      subst (λ (E : Draft). Sound E.nodes E.images (rs ++ (ev_node lt rs n ∷ []))) (sym (step_terms short mask (length rs) D n r))
      (sound_snoc T2 is rs S2 (record { weak = top iw T; strong = top iS T1; tolerant = tolerant_of mask is k a c }) (ev_node lt rs n)
      (elim [ true ↦ omega (arith, lw, comp_length iS T1) | false ↦ top_lt iS T1 bs ])
      (elim [
        | true ↦ λ j b t. rw ew (image_is T is rs S k a c r x true (no_leaf T is rs S k a) j b t)
        | false ↦ λ j b t. rw es (image_is T1 is rs S1 k a c r x false (leaf_in T is rs S k a c S1) j b t)
      ]))

  sound_steps : (D : Draft) (rs : List Row) (ns : List Node) → Sound D.nodes D.images rs → RuleNodes (length rs) ns →
      Sound (steps short mask D ns).nodes (steps short mask D ns).images (rows_on lt rs ns)
  sound_steps D rs [] S r = S
  sound_steps D rs (n ∷ ns) S r =
      sound_steps (step short mask D n) (rs ++ (ev_node lt rs n ∷ [])) ns (sound_step D rs n S r.0)
      (let l : length (rs ++ (ev_node lt rs n ∷ [])) ≡ suc (length rs) = omega (arith, length-append rs (ev_node lt rs n ∷ [])) in rw l r.1)

  -- the closing
  closed_is : (T : List Node) (is : List Image) (rs : List Row) → Sound T is rs → (i : ℕ) → i < length rs → (c : Bool) → (c ≡ true → (short && tolerant_at is i) ≡ true) →
      (d : Bool) → val gt (closed c T (get_or is i no_image)).nodes (top_of d (closed c T (get_or is i no_image))) d 0 ≡ nth rs i d 0
  closed_is T is rs S i h true t true = S.good true i 0 h (omega arith) (rw (t refl, or-true))
  closed_is T is rs S i h true t false = S.good false i 0 h (omega arith) (rw (t refl, or-true))
  closed_is T is rs S i h false t d =
      subst (λ (w : Rewritten). val gt w.nodes (top_of d w) d 0 ≡ nth rs i d 0) (sym (closed_terms T (get_or is i no_image))) (go d)
    where
      go : (d : Bool) → val gt (closed_x T (get_or is i no_image)).nodes (top_of d (closed_x T (get_or is i no_image))) d 0 ≡ nth rs i d 0
      go true =
          let b : Below (length T) (find_x true (ref (image true is i))) = below_find true (length T) (image true is i) S.big (S.low true i h) in
          rw (
            comp_old gt (find_x false (ref (image false is i))) (comp (find_x true (ref (image true is i))) T) (top (find_x true (ref (image true is i))) T)
                (top_lt (find_x true (ref (image true is i))) T b),
            comp_den gt (find_x true (ref (image true is i))) T b,
          )
          (find_den T is rs S (image true is i) (nth rs i true) true (at T is rs S true i h) 0 (omega arith))
      go false =
          let T1 : List Node = comp (find_x true (ref (image true is i))) T in
          let S1 : Sound T1 is rs = sound_comp (find_x true (ref (image true is i))) T is rs S in
          let b : Below (length T1) (find_x false (ref (image false is i))) = below_find false (length T1) (image false is i) S1.big (S1.low false i h) in
          rw (comp_den gt (find_x false (ref (image false is i))) T1 b)
          (find_den T1 is rs S1 (image false is i) (nth rs i false) false (at T1 is rs S1 false i h) 0 (omega arith))

  -- the rule's verdict on the local trace is the rewritten rule's over the whole recording
  pub faithful : (ns : List Node) → 0 < length ns → RuleNodes 0 ns → (d : Bool) →
      val gt (rewriting short mask ns).nodes (top_of d (rewriting short mask ns)) d 0 ≡ val lt ns (length ns - 1) d 0
  unfolding rewriting
  faithful ns h r d =
      let D : Draft = steps short mask opened ns in
      let S : Sound D.nodes D.images (rows lt ns) = sound_steps opened [] ns sound_opening r in
      let l : length (rows lt ns) ≡ length ns = length_rows lt ns in
      let q : length D.images ≡ length ns = omega (arith, S.sizes) in
      rw q (closed_is D.nodes D.images (rows lt ns) S (length ns - 1) (omega arith) (short && tolerant_at D.images (length ns - 1))
      (λ e. e) d)
