-- The output rule is broken where a held atom differs, and the tables of four controllers give the held atoms.
use Rattle.std.proofs.Common.{rules, ℕ, zero, suc, ◌+◌, ◌-◌, ◌*◌, ◌/◌, ◌%◌, ◌^◌, ◌≤◌, ◌<◌, min, ◌≡◌, refl, sym, ap, ◌∙◌, Bool, true, false, not, ◌&&◌, ◌||◌, List, [], ◌∷◌, length, take, get_or, replicate, length-take, get_or-take, arith, add-one, eqb, leb, eq-eqb, ne_eqb, leb-true, le-leb}
use Rattle.std.specs.Int.Bits.{bit_and, bit_or, bit_xor, xor_add_and, xor_self, and_le_l, and_le_r}
use Rattle.std.proofs.Math.Bool.{or_comm, or_assoc, or-false, and-false}
use Rattle.std.proofs.lemmas.Nat.{and_comm}
use Rattle.std.proofs.lemmas.Bool.{lt-leb}
use lib.Bits.{or_zero_r}
use lib.ListN.{get_or-eq_default}
use Rattle.std.proofs.lemmas.Nat.Bits.{same_from_bits, bit_at_and, bit_at_xor}
use native.Mathlib.Decide.{ℕ_discrete, dec_lt}
use Rattle.definitions.specs.Limits.{max_controllers}
use Rattle.definitions.specs.Bounded.{pick, bit_of, some_of}
use Rattle.definitions.specs.Recordings.{atoms_of, marks_of, marked, output_broken}
use Rattle.theorems.proofs.Choice.{by_test, pick_true, pick_false}
use Rattle.theorems.proofs.Recursions.{some_cong}
use Rattle.mark_words.proofs.WordLaws.{bit_shr}
use Rattle.recordings.specs.Held.{held_with, held_from, held_by, held_entries, held_table, held_group, held_of_eight, held_at, held_changed, TablesOf}
use Rattle.recordings.specs.declared.held.Tables.{Tables}
use Rattle.recordings.proofs.MaskLaws.{and_or, some_atom}

-- ---- own atoms differ where the difference meets the mask
and_xor : (a b m : ℕ) → bit_and (bit_xor a b) m ≡ bit_xor (bit_and a m) (bit_and b m)
and_xor a b m = same_from_bits _ _ (λ i. rw (bit_at_and (bit_xor a b) m i, bit_at_xor a b i, bit_at_xor (bit_and a m) (bit_and b m) i, bit_at_and a m i, bit_at_and b m i) (omega arith))

xor_none : (x y : ℕ) → eqb x y ≡ eqb (bit_xor x y) 0
xor_none x y = go (ℕ_discrete x y)
  where
    go : Dec (x ≡ y) → eqb x y ≡ eqb (bit_xor x y) 0
    go (yes p) = eq-eqb x y p ∙ sym (eq-eqb (bit_xor x y) 0 (rw p (xor_self y)))
    go (no p) = rw (ne_eqb x y p, ne_eqb (bit_xor x y) 0 (λ e. p (omega (arith, xor_add_and x y, and_le_l x y, and_le_r x y))))

-- atoms of a mask are among those that differ
abbrev touched : ℕ → ℕ → Bool
touched m d = not (eqb (bit_and m d) 0)

own_touched : (a b m : ℕ) → not (eqb (bit_and a m) (bit_and b m)) ≡ touched m (bit_xor a b)
own_touched a b m =
    ap not (xor_none (bit_and a m) (bit_and b m) ∙ ap (λ (w : ℕ). eqb w 0) (sym (and_xor a b m) ∙ and_comm (bit_xor a b) m))

touched_or : (x y d : ℕ) → touched (bit_or x y) d ≡ (touched x d || touched y d)
touched_or x y d =
    ap (λ (w : ℕ). not (eqb w 0)) (and_or x y d) ∙ (sym (some_atom (bit_and x d) (bit_and y d)) ∙ or_comm (touched y d) (touched x d))

-- ---- what the controllers hold, one after the other
touched_with : (held m d : ℕ) (ran : Bool) → touched (held_with held m ran) d ≡ (touched held d || (not ran && touched m d))
unfolding held_with pick
touched_with held m d true = sym (or-false (touched held d))
touched_with held m d false = touched_or held m d

touched_from : (n c held : ℕ) (masks : List ℕ) (marks d : ℕ) →
    touched (held_from n c held masks marks) d ≡ (touched held d || some_of n c (λ (j : ℕ). not (bit_of marks j) && touched (get_or masks j 0) d))
unfolding held_from
touched_from zero c held masks marks d = sym (or-false (touched held d))
touched_from (suc n) c held masks marks d =
    let g : ℕ → Bool = λ j. not (bit_of marks j) && touched (get_or masks j 0) d in
    rw (add-one c) (touched_from n (suc c) (held_with held (get_or masks c 0) (bit_of marks c)) masks marks d)
    ∙ (ap (λ (z : Bool). z || some_of n (suc c) g) (touched_with held (get_or masks c 0) d (bit_of marks c))
    ∙ or_assoc (touched held d) (g c) (some_of n (suc c) g))

-- the output rule, read by the atoms that differ
broken_touched : (C : ℕ) (masks : List ℕ) (prior s : ℕ) →
    output_broken C masks prior s ≡ some_of C 0 (λ (j : ℕ). not (marked j prior) && touched (get_or masks j 0) (bit_xor (atoms_of prior) (atoms_of s)))
broken_touched C masks prior s =
    let z : C - 0 ≡ C = omega arith in
    rw z
    (some_cong
    (λ (j : ℕ). not (marked j prior) && not (eqb (bit_and (atoms_of prior) (get_or masks j 0)) (bit_and (atoms_of s) (get_or masks j 0))))
    (λ (j : ℕ). not (marked j prior) && touched (get_or masks j 0) (bit_xor (atoms_of prior) (atoms_of s)))
    C 0 (λ j a b. ap (λ (z : Bool). not (marked j prior) && z) (own_touched (atoms_of prior) (atoms_of s) (get_or masks j 0))))

-- ---- the tables
-- `held_table`: the sixteen unions of four masks are `held_table`
pub table_is : (a b c d : ℕ) →
    (bit_or (bit_or (bit_or a b) c) d ∷ bit_or (bit_or b c) d ∷ bit_or (bit_or a c) d ∷ bit_or c d ∷ bit_or (bit_or a b) d ∷ bit_or b d ∷ bit_or a d ∷ d
    ∷ bit_or (bit_or a b) c ∷ bit_or b c ∷ bit_or a c ∷ c ∷ bit_or a b ∷ b ∷ a ∷ 0 ∷ []) ≡ held_table a b c d
unfolding held_table held_entries held_by held_from held_with pick bit_of
table_is a b c d = refl

own_past : (C : ℕ) (masks : List ℕ) (c : ℕ) → C ≤ c → 0 ≡ get_or (take C masks) c 0
own_past C masks c h = sym (get_or-eq_default (take C masks) 0 (omega (arith, length-take C masks)))

-- `held_group`: the table of the four masks from `first` on is `held_group`
pub group_is : (C : ℕ) (masks own : List ℕ) → own ≡ take C masks → (first a b c d : ℕ) (r : List ℕ) → a ≡ get_or own first 0 → b ≡ get_or own (first + 1) 0 →
    c ≡ get_or own (first + 2) 0 → d ≡ get_or own (first + 3) 0 → r ≡ held_table a b c d → r ≡ held_group (take C masks) first
unfolding held_group
group_is C masks own o first a b c d r p q s t e = e ∙ rw (p, q, s, t, o)

-- no controller from `first` on
-- `held_top`, at most eight controllers: sixteen zeros are `held_group`
pub group_none : (C : ℕ) (masks : List ℕ) (first : ℕ) → C ≤ first → replicate 16 0 ≡ held_group (take C masks) first
unfolding held_group
group_none C masks first h =
    let past : (c : ℕ) → C ≤ c → get_or (take C masks) c 0 ≡ 0 = λ c k. get_or-eq_default (take C masks) 0 (omega (arith, length-take C masks)) in
    rw (past first h, past (first + 1) (omega arith), past (first + 2) (omega arith), past (first + 3) (omega arith)) (table_is 0 0 0 0)

entry_at : (n marks : ℕ) (masks : List ℕ) (i : ℕ) → i < n → get_or (held_entries n marks masks) i 0 ≡ held_by 4 masks (marks + i)
unfolding held_entries
entry_at zero marks masks i h = absurd (omega arith)
entry_at (suc n) marks masks zero h = let e : marks ≡ marks + 0 = omega arith in ap (held_by 4 masks) e
entry_at (suc n) marks masks (suc i) h =
    let e : suc marks + i ≡ marks + suc i = omega arith in
    entry_at n (suc marks) masks i (omega arith) ∙ ap (held_by 4 masks) e

group_at : (masks : List ℕ) (c i : ℕ) → i < 16 →
    get_or (held_group masks c) i 0 ≡ held_by 4 (get_or masks c 0 ∷ get_or masks (c + 1) 0 ∷ get_or masks (c + 2) 0 ∷ get_or masks (c + 3) 0 ∷ []) i
unfolding held_group held_table
group_at masks c i h =
    let four : List ℕ = get_or masks c 0 ∷ get_or masks (c + 1) 0 ∷ get_or masks (c + 2) 0 ∷ get_or masks (c + 3) 0 ∷ [] in
    let e : 0 + i ≡ i = omega arith in
    entry_at 16 0 four i h ∙ ap (held_by 4 four) e

-- the four low marks of a word
low_bits : (w : ℕ) → (bit_of (w % 16) 0 ≡ bit_of w 0) × (bit_of (w % 16) 1 ≡ bit_of w 1) × (bit_of (w % 16) 2 ≡ bit_of w 2) × (bit_of (w % 16) 3 ≡ bit_of w 3)
unfolding bit_of
low_bits w =
    let b0 : w % 16 / 1 % 2 ≡ w / 1 % 2 = omega arith in
    let e1 : w / 2 ≡ w / 16 * 8 + w % 16 / 2 = omega arith in
    let b1 : w % 16 / 2 % 2 ≡ w / 2 % 2 = rw e1 (omega arith) in
    let e2 : w / 4 ≡ w / 16 * 4 + w % 16 / 4 = omega arith in
    let b2 : w % 16 / 4 % 2 ≡ w / 4 % 2 = rw e2 (omega arith) in
    let e3 : w / 8 ≡ w / 16 * 2 + w % 16 / 8 = omega arith in
    let b3 : w % 16 / 8 % 2 ≡ w / 8 % 2 = rw e3 (omega arith) in
    (ap (λ (m : ℕ). eqb m 1) b0, ap (λ (m : ℕ). eqb m 1) b1, ap (λ (m : ℕ). eqb m 1) b2, ap (λ (m : ℕ). eqb m 1) b3)

-- more places at which f fails
some_more : (f : ℕ → Bool) (n m c : ℕ) → n ≤ m → ((j : ℕ) → c + n ≤ j → f j ≡ false) → some_of n c f ≡ some_of m c f
some_more f zero zero c h none = refl
some_more f zero (suc m) c h none = rw (none c (omega arith)) (some_more f zero m (suc c) (omega arith) (λ j k. none j (omega arith)))
some_more f (suc n) zero c h none = absurd (omega arith)
some_more f (suc n) (suc m) c h none = ap (λ (z : Bool). f c || z) (some_more f n m (suc c) (omega arith) (λ j k. none j (omega arith)))

module _ (C : ℕ) (masks : List ℕ) (prior s : ℕ) where
  abbrev marks : ℕ
  marks = marks_of prior

  abbrev differing : ℕ
  differing = bit_xor (atoms_of prior) (atoms_of s)

  abbrev own : List ℕ
  own = take C masks

  -- controller j doesn't run, and its own atoms differ
  abbrev broke : ℕ → Bool
  broke j = not (bit_of marks j) && touched (get_or own j 0) differing

  -- controllers past the last have no atoms
  broken_of : (n : ℕ) → C ≤ n → output_broken C masks prior s ≡ some_of n 0 broke
  broken_of n few =
      broken_touched C masks prior s
      ∙ (some_cong (λ (j : ℕ). not (bit_of marks j) && touched (get_or masks j 0) differing) broke C 0 (λ j a b. rw (get_or-take C masks j 0 (omega arith)))
      ∙ some_more broke C n 0 few (λ j h. rw (← own_past C masks j (omega arith)) (and-false (not (bit_of marks j)))))

  -- the table of the four controllers from `first` on, looked up by their marks w
  group_broken : (first w : ℕ) → ((k : ℕ) → bit_of w k ≡ bit_of marks (first + k)) → touched (get_or (held_group own first) (w % 16) 0) differing ≡ some_of 4 first broke
  unfolding held_by
  group_broken first w shifted =
      let bits = low_bits w in
      let z : first + 0 ≡ first = omega arith in
      let one : first + 1 ≡ suc first = omega arith in
      let two : first + 2 ≡ suc (suc first) = omega arith in
      let three : first + 3 ≡ suc (suc (suc first)) = omega arith in
      rw (group_at own first (w % 16) (omega arith))
      (touched_from 4 0 0 (get_or own first 0 ∷ get_or own (first + 1) 0 ∷ get_or own (first + 2) 0 ∷ get_or own (first + 3) 0 ∷ []) (w % 16) differing
      ∙ rw (bits.0, bits.1, bits.2, bits.3, shifted 0, shifted 1, shifted 2, shifted 3, z, one, two, three))

  low_four : touched (get_or (held_group own 0) (marks % 16) 0) differing ≡ some_of 4 0 broke
  low_four = group_broken 0 marks (λ k. let z : 0 + k ≡ k = omega arith in rw z)

  high_four : touched (get_or (held_group own 4) (marks / 16 % 16) 0) differing ≡ some_of 4 4 broke
  high_four = group_broken 4 (marks / 16) (λ k. bit_shr k 4 marks)

  top_four : touched (get_or (held_group own 8) (marks / 256 % 16) 0) differing ≡ some_of 4 8 broke
  top_four = group_broken 8 (marks / 256) (λ k. bit_shr k 8 marks)

  eight_broken : touched (held_of_eight (held_group own 0) (held_group own 4) marks) differing ≡ some_of 8 0 broke
  eight_broken =
      touched_or (get_or (held_group own 0) (marks % 16) 0) (get_or (held_group own 4) (marks / 16 % 16) 0) differing
      ∙ rw (low_four, high_four) (simp or_assoc)

  twelve_broken : touched (bit_or (held_of_eight (held_group own 0) (held_group own 4) marks) (get_or (held_group own 8) (marks / 256 % 16) 0)) differing ≡ some_of 12 0 broke
  twelve_broken =
      touched_or (held_of_eight (held_group own 0) (held_group own 4) marks) (get_or (held_group own 8) (marks / 256 % 16) 0) differing
      ∙ rw (eight_broken, top_four) (simp or_assoc)

  tables_broken : C ≤ max_controllers → (t : Tables) → TablesOf own t → held_changed (held_at C t marks) prior s ≡ output_broken C masks prior s
  unfolding held_at held_changed
  tables_broken few t of =
      rw (of.low, of.high, of.top)
      (by_test (leb C 8)
      (λ e. rw (pick_true {A = ℕ} (leb C 8) (held_of_eight (held_group own 0) (held_group own 4) marks) _ e) (eight_broken ∙ sym (broken_of 8 (leb-true C 8 e))))
      (λ e. rw (pick_false {A = ℕ} (leb C 8) (held_of_eight (held_group own 0) (held_group own 4) marks) _ e) (twelve_broken ∙ sym (broken_of 12 (omega arith)))))

  masks_broken : held_changed (held_by C masks marks) prior s ≡ output_broken C masks prior s
  unfolding held_by held_changed
  masks_broken = touched_from C 0 0 masks marks differing ∙ sym (broken_touched C masks prior s)

-- the atoms that a state holds, of the tables of its recording
pub held_broken : (C : ℕ) (masks : List ℕ) (prior s : ℕ) → C ≤ max_controllers → (t : Tables) → TablesOf (take C masks) t →
    (marks held : ℕ) → marks ≡ marks_of prior → held ≡ held_at C t marks → held_changed held prior s ≡ output_broken C masks prior s
held_broken C masks prior s few t of marks held m e = rw (e, m) (tables_broken C masks prior s few t of)

-- `output_broken`: that an atom held by the prior state differs is `output_broken`
pub broken_is : (C : ℕ) (masks : List ℕ) (prior s marks held : ℕ) → marks ≡ marks_of prior → held ≡ held_by C masks marks →
    (r : Bool) → r ≡ held_changed held prior s → r ≡ output_broken C masks prior s
broken_is C masks prior s marks held m e r d = d ∙ rw (e, m) (masks_broken C masks prior s)

-- ---- `Tables::at`
-- `Tables::at`, at most eight controllers: two tables give `held_at`
pub at_few : (C : ℕ) (t : Tables) (marks : ℕ) → C ≤ 8 → bit_or (get_or t.low (marks % 16) 0) (get_or t.high (marks / 16 % 16) 0) ≡ held_at C t marks
unfolding held_at pick
at_few C t marks h = rw (le-leb C 8 h)

-- `Tables::at`, more than eight controllers: three tables give `held_at`
pub at_many : (C : ℕ) (t : Tables) (marks : ℕ) → 8 < C →
    bit_or (bit_or (get_or t.low (marks % 16) 0) (get_or t.high (marks / 16 % 16) 0)) (get_or t.top (marks / 256 % 16) 0) ≡ held_at C t marks
unfolding held_at pick
at_many C t marks h = rw (lt-leb C 8 h)

-- ---- the function `held_by`
-- what is left to hold at controller c
pub record HeldLeft (C : ℕ) (masks : List ℕ) (marks held c : ℕ) : Type 0 where
  pub within : c ≤ C
  pub left : held_by C masks marks ≡ held_from (C - c) c held masks marks

-- the function, before controller 0: all of the definition `held_by` is left
pub by_start : (C : ℕ) (masks : List ℕ) (marks : ℕ) → HeldLeft C masks marks 0 0
unfolding held_by
by_start C masks marks = let z : C - 0 ≡ C = omega arith in record { within = omega arith; left = rw z }

all_held : (C : ℕ) (masks : List ℕ) (marks held c : ℕ) → HeldLeft C masks marks held c → C ≤ c → held ≡ held_by C masks marks
unfolding held_from
all_held C masks marks held c inv h = let z : C - c ≡ 0 = omega arith in sym (inv.left ∙ rw z)

pick_same : (z : Bool) (a : ℕ) → pick z a a ≡ a
unfolding pick
pick_same true a = refl
pick_same false a = refl

-- masks that aren't there hold nothing
none_held : (n c held : ℕ) (masks : List ℕ) (marks : ℕ) → length masks ≤ c → held_from n c held masks marks ≡ held
unfolding held_from held_with
none_held zero c held masks marks h = refl
none_held (suc n) c held masks marks h =
    rw (get_or-eq_default masks 0 h, or_zero_r held, pick_same (bit_of marks c) held) (none_held n (c + 1) held masks marks (omega arith))

module _ (C : ℕ) (masks own : List ℕ) (o : own ≡ take C masks) (marks held c : ℕ) (inv : HeldLeft C masks marks held c) where
  there : length own ≡ min C (length masks)
  there = ap length o ∙ length-take C masks

  -- the function, a turn: with controller c, the definition `held_by` is left from the next one on
  pub by_next : c < length own → (held' : ℕ) → held' ≡ pick (eqb (marks / 2 ^ c % 2) 1) held (bit_or held (get_or own c 0)) → HeldLeft C masks marks held' (c + 1)
  unfolding held_from held_with bit_of
  by_next h held' e =
      let few : c < C = omega (arith, there) in
      let one : C - c ≡ suc (C - (c + 1)) = omega arith in
      let same : get_or own c 0 ≡ get_or masks c 0 = rw o (get_or-take C masks c 0 few) in
      let step : held' ≡ pick (eqb (marks / 2 ^ c % 2) 1) held (bit_or held (get_or masks c 0)) = e ∙ rw same in
      record { within = omega arith; left = inv.left ∙ rw (one, step) }

  -- the function, no mask is left: what is held is the definition `held_by`
  pub by_end : length own ≤ c → held ≡ held_by C masks marks
  by_end h = go (dec_lt c C)
    where
      go : Dec (c < C) → held ≡ held_by C masks marks
      go (yes l) = sym (inv.left ∙ none_held (C - c) c held masks marks (omega (arith, there)))
      go (no l) = all_held C masks marks held c inv (omega arith)

pub ruleset held_laws = (rules, table_is, group_is, group_none)

pub ruleset by_laws = (rules, by_start, by_next, by_end)
