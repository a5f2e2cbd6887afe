-- The operators by recursion on the marks are the readings, which document 01 says by "some" and "every" over places.
use Rattle.std.proofs.Common.{◌≡◌, ℕ, zero, suc, ◌+◌, ◌-◌, ◌<◌, ◌≤◌, Bool, true, false, not, ◌&&◌, ◌||◌, ltb, ◌⊎◌, List, [], ◌∷◌, map, length, get_or, replicate, sym, refl, ap, ◌∙◌, inl, inr, ⊎_elim, le_of_suc-le-suc, not-suc-le-zero, arith, ltb-false, ltb-true, le-ltb, lt-ltb}
use mathlib.Core.Bool.{and-false, or-false}
use lib.ListN.{length-map, length-replicate, get_or-replicate, get_or-eq_default}
use Rattle.std.proofs.lemmas.List.{get_or_default}
use Rattle.definitions.specs.Bounded.{pick, tabulate}
use Rattle.definitions.specs.Readings.{next_at, until_at, prev_at, since_at}
use Rattle.theorems.proofs.Recursions.{until_end, until_step, since_start, since_step}
use Rattle.theorems.proofs.Tabulations.{tabulated}
use Rattle.mark_words.specs.Marks.{mark_at}
use Rattle.mark_words.specs.Lists.{head_d, zip, last_only, next_row, until_row, prev_row, since_row}

pub lt_or_le : (a b : ℕ) → (a < b) ⊎ (b ≤ a)
lt_or_le a b = from (ltb a b) refl where
  from : (t : Bool) → ltb a b ≡ t → (a < b) ⊎ (b ≤ a)
  from true e = inl (ltb-true a b e)
  from false e = inr (ltb-false a b e)

pub and_join : (a b c : Bool) → (a && (b && c)) ≡ ((a && b) && c)
and_join true b c = refl
and_join false b c = refl

pub same_list : (b : Bool) (n : ℕ) → replicate n b ≡ tabulate n (λ k. b)
same_list b n = tabulated (replicate n b) n (λ k. b) (length-replicate n b) (λ i h. get_or-replicate n i b false h)

-- ---- until

pub until_length : (w : Bool) (ps qs : List Bool) → length ps ≡ length qs → length (until_row w ps qs) ≡ length ps
until_length w [] qs h = refl
until_length w (p ∷ ps) [] h = sym h
until_length w (p ∷ ps) (q ∷ qs) h = ap suc (until_length w ps qs (omega arith))

head_at : (l : List Bool) (d : Bool) → head_d l d ≡ get_or l 0 d
head_at [] d = refl
head_at (b ∷ l) d = refl

-- past the last place it is w
pub until_at_lem : (w : Bool) (ps qs : List Bool) (k : ℕ) → length ps ≡ length qs → k < length ps
    → get_or (until_row w ps qs) k w ≡ (mark_at qs k || (mark_at ps k && get_or (until_row w ps qs) (suc k) w))
until_at_lem w [] qs k h l = absurd (not-suc-le-zero l)
until_at_lem w (p ∷ ps) [] k h l = absurd (omega arith)
until_at_lem w (p ∷ ps) (q ∷ qs) zero h l = rw head_at
until_at_lem w (p ∷ ps) (q ∷ qs) (suc k) h l = until_at_lem w ps qs k (omega arith) (le_of_suc-le-suc l)

module _ (w : Bool) (ps qs : List Bool) (h : length ps ≡ length qs) where
  until_places : (j k : ℕ) → k + j ≡ length ps → get_or (until_row w ps qs) k w ≡ until_at w (length ps) (mark_at ps) (mark_at qs) k
  until_places zero k e =
      let n : k ≡ length ps = omega arith in
      get_or-eq_default (until_row w ps qs) w (rw (until_length w ps qs h) (omega arith))
      ∙ sym (ap (until_at w (length ps) (mark_at ps) (mark_at qs)) n ∙ until_end w (length ps) (mark_at ps) (mark_at qs))
  until_places (suc j) k e =
      until_at_lem w ps qs k h (omega arith)
      ∙ ap (λ (b : Bool). mark_at qs k || (mark_at ps k && b)) (until_places j (suc k) (omega arith))
      ∙ sym (until_step w (length ps) (mark_at ps) (mark_at qs) k (omega arith))

  pub until_is : until_row w ps qs ≡ tabulate (length ps) (until_at w (length ps) (mark_at ps) (mark_at qs))
  until_is =
      tabulated (until_row w ps qs) (length ps) (until_at w (length ps) (mark_at ps) (mark_at qs)) (until_length w ps qs h)
      (λ i hi. get_or_default (until_row w ps qs) i false w (rw (until_length w ps qs h) hi) ∙ until_places (length ps - i) i (omega arith))

-- ---- since

pub since_length : (c : Bool) (ps qs : List Bool) → length ps ≡ length qs → length (since_row c ps qs) ≡ length ps
since_length c [] qs h = refl
since_length c (p ∷ ps) [] h = sym h
since_length c (p ∷ ps) (q ∷ qs) h = ap suc (since_length (q || (p && c)) ps qs (omega arith))

since_at_lem : (c : Bool) (ps qs : List Bool) (k : ℕ) → length ps ≡ length qs → suc k < length ps
    → mark_at (since_row c ps qs) (suc k) ≡ (mark_at qs (suc k) || (mark_at ps (suc k) && mark_at (since_row c ps qs) k))
since_at_lem c [] qs k h l = absurd (not-suc-le-zero l)
since_at_lem c (p ∷ ps) [] k h l = absurd (omega arith)
since_at_lem c (p ∷ []) (q ∷ qs) k h l = absurd (omega arith)
since_at_lem c (p ∷ x ∷ ps) (q ∷ []) k h l = absurd (omega arith)
since_at_lem c (p ∷ x ∷ ps) (q ∷ y ∷ qs) zero h l = refl
since_at_lem c (p ∷ x ∷ ps) (q ∷ y ∷ qs) (suc k) h l = since_at_lem (q || (p && c)) (x ∷ ps) (y ∷ qs) k (omega arith) (le_of_suc-le-suc l)

since_first_lem : (ps qs : List Bool) → length ps ≡ length qs → 0 < length ps → mark_at (since_row false ps qs) 0 ≡ mark_at qs 0
since_first_lem [] qs h l = absurd (not-suc-le-zero l)
since_first_lem (p ∷ ps) [] h l = absurd (omega arith)
since_first_lem (p ∷ ps) (q ∷ qs) h l = ap (λ (b : Bool). q || b) (and-false p) ∙ or-false q

module _ (ps qs : List Bool) (h : length ps ≡ length qs) where
  since_places : (i : ℕ) → i < length ps → mark_at (since_row false ps qs) i ≡ since_at (mark_at ps) (mark_at qs) i
  since_places zero l = since_first_lem ps qs h l ∙ sym (since_start (mark_at ps) (mark_at qs))
  since_places (suc i) l =
      since_at_lem false ps qs i h l
      ∙ ap (λ (b : Bool). mark_at qs (suc i) || (mark_at ps (suc i) && b)) (since_places i (omega arith))
      ∙ sym (since_step (mark_at ps) (mark_at qs) i)

  pub since_is : since_row false ps qs ≡ tabulate (length ps) (since_at (mark_at ps) (mark_at qs))
  since_is = tabulated (since_row false ps qs) (length ps) (since_at (mark_at ps) (mark_at qs)) (since_length false ps qs h) since_places

-- ---- prev and next

pub prev_length : (c : Bool) (l : List Bool) → length (prev_row c l) ≡ length l
prev_length c [] = refl
prev_length c (p ∷ l) = ap suc (prev_length p l)

prev_at_lem : (c : Bool) (l : List Bool) (k : ℕ) → suc k < length l → mark_at (prev_row c l) (suc k) ≡ mark_at l k
prev_at_lem c [] k h = absurd (not-suc-le-zero h)
prev_at_lem c (p ∷ []) k h = absurd (omega arith)
prev_at_lem c (p ∷ x ∷ l) zero h = refl
prev_at_lem c (p ∷ x ∷ l) (suc k) h = prev_at_lem p (x ∷ l) k (le_of_suc-le-suc h)

prev_first : (l : List Bool) → mark_at (prev_row false l) 0 ≡ false
prev_first [] = refl
prev_first (p ∷ l) = refl

prev_places : (l : List Bool) (i : ℕ) → i < length l → mark_at (prev_row false l) i ≡ prev_at (mark_at l) i
prev_places l zero h = prev_first l ∙ rw (le-ltb 0 0 (omega arith))
prev_places l (suc i) h =
    let e : suc i - 1 ≡ i = omega arith in
    prev_at_lem false l i h ∙ rw (lt-ltb 0 (suc i) (omega arith), e)

pub prev_is : (l : List Bool) → prev_row false l ≡ tabulate (length l) (prev_at (mark_at l))
prev_is l = tabulated (prev_row false l) (length l) (prev_at (mark_at l)) (prev_length false l) (prev_places l)

pub next_length : (w : Bool) (l : List Bool) → length (next_row w l) ≡ length l
next_length w [] = refl
next_length w (b ∷ l) = ap suc (next_length w l)

next_on : (w : Bool) (l : List Bool) (k : ℕ) → suc k < length l → mark_at (next_row w l) k ≡ mark_at l (suc k)
next_on w [] k h = absurd (not-suc-le-zero h)
next_on w (p ∷ []) k h = absurd (omega arith)
next_on w (p ∷ x ∷ l) zero h = refl
next_on w (p ∷ x ∷ l) (suc k) h = next_on w (x ∷ l) k (le_of_suc-le-suc h)

next_end : (w : Bool) (l : List Bool) (k : ℕ) → suc k ≡ length l → mark_at (next_row w l) k ≡ w
next_end w [] k h = absurd (omega arith)
next_end w (p ∷ []) zero h = refl
next_end w (p ∷ []) (suc k) h = absurd (omega arith)
next_end w (p ∷ x ∷ l) zero h = absurd (omega arith)
next_end w (p ∷ x ∷ l) (suc k) h = next_end w (x ∷ l) k (omega arith)

-- what holds before the last place and what holds there, told as one test
by_place : (r : List Bool) (L : ℕ) (f : ℕ → Bool) (w : Bool) → ((k : ℕ) → suc k < L → mark_at r k ≡ f k) → ((k : ℕ) → suc k ≡ L → mark_at r k ≡ w)
    → (i : ℕ) → i < L → mark_at r i ≡ pick (ltb (suc i) L) (f i) w
unfolding pick
by_place r L f w before last i h =
    ⊎_elim
    (λ (x : suc i < L). before i x ∙ rw (lt-ltb (suc i) L x))
    (λ (x : L ≤ suc i). last i (omega arith) ∙ rw (le-ltb (suc i) L x))
    (lt_or_le (suc i) L)

pub next_is : (w : Bool) (l : List Bool) → next_row w l ≡ tabulate (length l) (next_at w (length l) (mark_at l))
next_is w l =
    tabulated (next_row w l) (length l) (next_at w (length l) (mark_at l)) (next_length w l)
    (by_place (next_row w l) (length l) (λ k. mark_at l (suc k)) w (next_on w l) (next_end w l))

-- ---- marks joined place by place

map_at : (f : Bool → Bool) (l : List Bool) (k : ℕ) → k < length l → mark_at (map f l) k ≡ f (mark_at l k)
map_at f [] k h = absurd (not-suc-le-zero h)
map_at f (x ∷ l) zero h = refl
map_at f (x ∷ l) (suc k) h = map_at f l k (le_of_suc-le-suc h)

pub not_is : (l : List Bool) → map not l ≡ tabulate (length l) (λ k. not (mark_at l k))
not_is l = tabulated (map not l) (length l) (λ k. not (mark_at l k)) (length-map l not) (map_at not l)

pub zip_length : (f : Bool → Bool → Bool) (ps qs : List Bool) → length ps ≡ length qs → length (zip f ps qs) ≡ length ps
zip_length f [] qs h = refl
zip_length f (p ∷ ps) [] h = sym h
zip_length f (p ∷ ps) (q ∷ qs) h = ap suc (zip_length f ps qs (omega arith))

zip_at : (f : Bool → Bool → Bool) (ps qs : List Bool) (k : ℕ) → length ps ≡ length qs → k < length ps → mark_at (zip f ps qs) k ≡ f (mark_at ps k) (mark_at qs k)
zip_at f [] qs k h l = absurd (not-suc-le-zero l)
zip_at f (p ∷ ps) [] k h l = absurd (omega arith)
zip_at f (p ∷ ps) (q ∷ qs) zero h l = refl
zip_at f (p ∷ ps) (q ∷ qs) (suc k) h l = zip_at f ps qs k (omega arith) (le_of_suc-le-suc l)

pub zip_is : (f : Bool → Bool → Bool) (ps qs : List Bool) → length ps ≡ length qs → zip f ps qs ≡ tabulate (length ps) (λ k. f (mark_at ps k) (mark_at qs k))
zip_is f ps qs h =
    tabulated (zip f ps qs) (length ps) (λ k. f (mark_at ps k) (mark_at qs k)) (zip_length f ps qs h) (λ i l. zip_at f ps qs i h l)

-- ---- the last place

pub only_length : (w : Bool) (n : ℕ) → length (last_only w n) ≡ n
only_length w zero = refl
only_length w (suc zero) = refl
only_length w (suc (suc n)) = ap suc (only_length w (suc n))

only_before : (w : Bool) (n k : ℕ) → suc k < n → mark_at (last_only w n) k ≡ false
only_before w zero k h = absurd (omega arith)
only_before w (suc zero) k h = absurd (omega arith)
only_before w (suc (suc n)) zero h = refl
only_before w (suc (suc n)) (suc k) h = only_before w (suc n) k (le_of_suc-le-suc h)

only_last : (w : Bool) (n k : ℕ) → suc k ≡ n → mark_at (last_only w n) k ≡ w
only_last w zero k h = absurd (omega arith)
only_last w (suc zero) zero h = refl
only_last w (suc zero) (suc k) h = absurd (omega arith)
only_last w (suc (suc n)) zero h = absurd (omega arith)
only_last w (suc (suc n)) (suc k) h = only_last w (suc n) k (omega arith)

pub only_at : (w : Bool) (n k : ℕ) → k < n → mark_at (last_only w n) k ≡ pick (ltb (suc k) n) false w
only_at w n = by_place (last_only w n) n (λ k. false) w (only_before w n) (only_last w n)

no_either : (z : Bool) → pick z false false ≡ false
unfolding pick
no_either true = refl
no_either false = refl

pub only_none : (n : ℕ) → last_only false n ≡ tabulate n (λ k. false)
only_none n = tabulated (last_only false n) n (λ k. false) (only_length false n) (λ i h. only_at false n i h ∙ no_either (ltb (suc i) n))
