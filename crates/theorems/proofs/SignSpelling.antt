-- The signs that are computed of a line are those that it spells, and there are none where it spells none.
use mathlib.Core.Path.{◌≡◌, refl, sym, ap, ◌∙◌}
use Prim.Native.Nat.{ℕ, zero, suc, ◌+◌, ◌/◌, ◌%◌, ◌<◌, ◌≤◌}
use native.Mathlib.Omega.{arith}
use mathlib.Core.Bool.{false}
use mathlib.Core.List.{List, [], ◌∷◌, ◌++◌, append_assoc, append-nil}
use lib.ListN.{length, take, drop, length-append, take-append-drop}
use lib.Seq.{take_at, drop_at}
use lib.Dec.{eqb, ltb}
use borrow.Author.Tests.{eqb-true, ne_eqb, le-leb, ltb-true, ltb-false}
use Rattle.definitions.specs.Bounded.{pick, within}
use Rattle.definitions.specs.Lines.{bytes, is_empty, Parsed, formed, malformed, on_parsed, decimal, digits}
use Rattle.definitions.specs.OneLineSigns.{Not, Next, Prev, Future, Always, Implies, Or, And, Until, Since, Sign, true_sign, atom_sign, prefix_sign, infix_sign, open_bracket, close_bracket, sign_bytes, space, Spells, last, next, spaced}
use Rattle.definitions.specs.OneLineReading.{past, Taken, taken, word_signs, sign_among, digits_ahead, atom_first, sign_first, after_space, signs_by, signs_of}
use Rattle.theorems.proofs.Choice.{by_test, pick_true, pick_false, pick_must}
use Rattle.theorems.proofs.Inversions.{never_formed, formed_same, parsed_must}
use Rattle.theorems.proofs.DecimalLaws.{tenth_below, digits_small, digits_step, printed_reads, read_prints}

-- the first byte, 0 where there is none
abbrev pub first_byte : List ℕ → ℕ
first_byte [] = 0
first_byte (x ∷ t) = x

-- no digit comes first
abbrev pub NoDigit : List ℕ → Type 0
NoDigit t = within 48 57 (first_byte t) ≡ false

-- ---- what is read is spelled so

pub past_begins : (w t u : List ℕ) → past w t ≡ formed u → t ≡ w ++ u
unfolding past
past_begins [] t u e = formed_same t u e
past_begins (x ∷ w) [] u e = absurd (never_formed u e)
past_begins (x ∷ w) (y ∷ t) u e =
    let p = pick_must (formed u) (eqb x y) (past w t) malformed e (never_formed u) in
    let q : x ≡ y = eqb-true x y p.0 in
    rw (q, ← (past_begins w t u p.1))

among_begins : (xs : List Sign) (t : List ℕ) (f : Taken) → sign_among xs t ≡ formed f → t ≡ sign_bytes f.named ++ f.rest
unfolding sign_among on_parsed
among_begins [] t f e = absurd (never_formed f e)
among_begins (x ∷ xs) t f e = go (past (sign_bytes x) t) refl e (λ q. among_begins xs t f q)
  where
    go : (p : Parsed (List ℕ)) → past (sign_bytes x) t ≡ p → on_parsed p (sign_among xs t) (λ u. formed (taken x u)) ≡ formed f
        → (sign_among xs t ≡ formed f → t ≡ sign_bytes f.named ++ f.rest) → t ≡ sign_bytes f.named ++ f.rest
    go (formed u) q e on = let z = formed_same (taken x u) f e in rw (← z) (past_begins (sign_bytes x) t u q)
    go malformed q e on = on e

atom_begins : (t : List ℕ) (f : Taken) → atom_first t ≡ formed f → t ≡ sign_bytes f.named ++ f.rest
unfolding atom_first
atom_begins t f e =
    let p = parsed_must (formed f) (past (bytes "a") t) malformed _ e (never_formed f) in
    let u = p.value in
    let q = parsed_must (formed f) (decimal (take (digits_ahead u) u)) malformed _ p.gives (never_formed f) in
    let z = formed_same (taken (atom_sign q.value) (drop (digits_ahead u) u)) f q.gives in
    let d = read_prints (take (digits_ahead u) u) q.value q.read in
    rw (← z, d) (past_begins (bytes "a") t u p.read ∙ ap (λ (l : List ℕ). bytes "a" ++ l) (sym (take-append-drop (digits_ahead u) u)))

first_begins : (t : List ℕ) (f : Taken) → sign_first t ≡ formed f → t ≡ sign_bytes f.named ++ f.rest
unfolding sign_first on_parsed
first_begins t f e = go (atom_first t) refl e
  where
    go : (p : Parsed Taken) → atom_first t ≡ p → on_parsed p (sign_among word_signs t) formed ≡ formed f → t ≡ sign_bytes f.named ++ f.rest
    go (formed g) q e = atom_begins t f (q ∙ e)
    go malformed q e = among_begins word_signs t f e

-- what follows a sign, and a space where there is one
after_space_lem : (x : Sign) (b : ℕ) (u : List ℕ) (r : List Sign) → Spells (after_space (b ∷ u)) r → Spells (sign_bytes x ++ (b ∷ u)) (x ∷ r)
unfolding after_space pick
after_space_lem x b u r h =
    by_test (eqb b space)
    (λ e. let k : Spells u r = rw e at h in rw (eqb-true b space e) (spaced x k))
    (λ e. let k : Spells (b ∷ u) r = rw e at h in next x k)

-- a sign alone, or with what follows it
after_one : (x : Sign) (u : List ℕ) (s : List Sign) (n : ℕ)
    → ((v : List ℕ) (r : List Sign) → signs_by n v ≡ formed r → Spells v r)
    → pick (is_empty u) (formed (x ∷ [])) (on_parsed (signs_by n (after_space u)) malformed (λ r. formed (x ∷ r))) ≡ formed s → Spells (sign_bytes x ++ u) s
unfolding pick
after_one x [] s n more e = rw (append-nil (sign_bytes x), ← (formed_same (x ∷ []) s e)) (last x)
after_one x (b ∷ u) s n more e =
    let z : eqb (suc (length u)) 0 ≡ false = ne_eqb (suc (length u)) 0 (λ q. omega arith) in
    let f : on_parsed (signs_by n (after_space (b ∷ u))) malformed (λ r. formed (x ∷ r)) ≡ formed s = rw z at e in
    let p = parsed_must (formed s) (signs_by n (after_space (b ∷ u))) malformed _ f (never_formed s) in
    rw (← (formed_same (x ∷ p.value) s p.gives)) (after_space_lem x b u p.value (more (after_space (b ∷ u)) p.value p.read))

spell : (n : ℕ) (t : List ℕ) (s : List Sign) → signs_by n t ≡ formed s → Spells t s
unfolding signs_by
spell zero t s e = absurd (never_formed s e)
spell (suc n) t s e =
    let p = parsed_must (formed s) (sign_first t) malformed _ e (never_formed s) in
    rw (first_begins t p.value p.read) (after_one p.value.named p.value.rest s n (λ v r h. spell n v r h) p.gives)

-- the signs that are computed are spelled by the line
pub signs_spelled : (line : List ℕ) (s : List Sign) → signs_of line ≡ formed s → Spells line s
unfolding signs_of
signs_spelled line s e = spell (length line) line s e

-- ---- what is spelled is read so

digit_ahead : (x : ℕ) (u : List ℕ) → 48 ≤ x → x ≤ 57 → digits_ahead (x ∷ u) ≡ suc (digits_ahead u)
unfolding digits_ahead
digit_ahead x u l h = pick_true (within 48 57 x) (suc (digits_ahead u)) 0 (rw (le-leb 48 x l, le-leb x 57 h))

no_digit_ahead : (u : List ℕ) → NoDigit u → digits_ahead u ≡ 0
unfolding digits_ahead
no_digit_ahead [] h = refl
no_digit_ahead (x ∷ u) h = pick_false (within 48 57 x) (suc (digits_ahead u)) 0 h

one_digit : (n : ℕ) (u : List ℕ) → n < 10 → digits_ahead (digits n ++ u) ≡ length (digits n) + digits_ahead u
one_digit n u l = rw (digits_small n l) (digit_ahead (48 + n) u (omega arith) (omega arith) ∙ omega arith)

-- a printed number is all digits
digits_ahead_lem : (f n : ℕ) → n ≤ f → (u : List ℕ) → digits_ahead (digits n ++ u) ≡ length (digits n) + digits_ahead u
digits_ahead_lem zero n h u = one_digit n u (omega arith)
digits_ahead_lem (suc f) n h u =
    by_test (ltb n 10)
    (λ e. one_digit n u (ltb-true n 10 e))
    (λ e.
    let l = ltb-false n 10 e in
    let d = 48 + n % 10 in
    let one = digit_ahead d u (omega arith) (omega arith) in
    let more = digits_ahead_lem f (n / 10) (tenth_below n f l h) (d ∷ u) in
    rw (digits_step n l, append_assoc (digits (n / 10)) (d ∷ []) u) (more ∙ omega (arith, one, length-append (digits (n / 10)) (d ∷ []))))

-- an atom is read with its whole number
atom_first_lem : (n : ℕ) (u : List ℕ) → NoDigit u → atom_first (sign_bytes (atom_sign n) ++ u) ≡ formed (taken (atom_sign n) u)
unfolding atom_first past pick on_parsed
atom_first_lem n u h =
    let a : digits_ahead (digits n ++ u) ≡ length (digits n) = digits_ahead_lem n n (omega arith) u ∙ omega (arith, no_digit_ahead u h) in
    let t : take (digits_ahead (digits n ++ u)) (digits n ++ u) ≡ digits n = rw a (take_at (digits n) u (length (digits n)) refl) in
    let d : drop (digits_ahead (digits n ++ u)) (digits n ++ u) ≡ u = rw a (drop_at (digits n) u (length (digits n)) refl) in
    rw (t, d, printed_reads n)

-- a sign is read where it stands
pub sign_first_lem : (x : Sign) (u : List ℕ) → NoDigit u → sign_first (sign_bytes x ++ u) ≡ formed (taken x u)
unfolding sign_first sign_among atom_first past pick on_parsed
sign_first_lem true_sign u h = refl
sign_first_lem (atom_sign n) u h = ap (λ (p : Parsed Taken). on_parsed p (sign_among word_signs (sign_bytes (atom_sign n) ++ u)) formed) (atom_first_lem n u h)
sign_first_lem (prefix_sign Not) u h = refl
sign_first_lem (prefix_sign Next) u h = refl
sign_first_lem (prefix_sign Prev) u h = refl
sign_first_lem (prefix_sign Future) u h = refl
sign_first_lem (prefix_sign Always) u h = refl
sign_first_lem (infix_sign Implies) u h = refl
sign_first_lem (infix_sign Or) u h = refl
sign_first_lem (infix_sign And) u h = refl
sign_first_lem (infix_sign Until) u h = refl
sign_first_lem (infix_sign Since) u h = refl
sign_first_lem open_bracket u h = refl
sign_first_lem close_bracket u h = refl

-- a sign has a first byte, which is no digit and no space
pub record Begins (t : List ℕ) : Type 0 where
  pub some : 0 < length t
  pub no_digit : NoDigit t
  pub no_space : eqb (first_byte t) space ≡ false

pub sign_begins : (x : Sign) (u : List ℕ) → Begins (sign_bytes x ++ u)
sign_begins true_sign u = record { some = omega arith; no_digit = refl; no_space = refl }
sign_begins (atom_sign n) u = record { some = omega arith; no_digit = refl; no_space = refl }
sign_begins (prefix_sign Not) u = record { some = omega arith; no_digit = refl; no_space = refl }
sign_begins (prefix_sign Next) u = record { some = omega arith; no_digit = refl; no_space = refl }
sign_begins (prefix_sign Prev) u = record { some = omega arith; no_digit = refl; no_space = refl }
sign_begins (prefix_sign Future) u = record { some = omega arith; no_digit = refl; no_space = refl }
sign_begins (prefix_sign Always) u = record { some = omega arith; no_digit = refl; no_space = refl }
sign_begins (infix_sign Implies) u = record { some = omega arith; no_digit = refl; no_space = refl }
sign_begins (infix_sign Or) u = record { some = omega arith; no_digit = refl; no_space = refl }
sign_begins (infix_sign And) u = record { some = omega arith; no_digit = refl; no_space = refl }
sign_begins (infix_sign Until) u = record { some = omega arith; no_digit = refl; no_space = refl }
sign_begins (infix_sign Since) u = record { some = omega arith; no_digit = refl; no_space = refl }
sign_begins open_bracket u = record { some = omega arith; no_digit = refl; no_space = refl }
sign_begins close_bracket u = record { some = omega arith; no_digit = refl; no_space = refl }

pub line_begins : {line : List ℕ} {s : List Sign} → Spells line s → Begins line
line_begins (last x) = rw (append-nil (sign_bytes x)) at (sign_begins x [])
line_begins (next x {line} p) = sign_begins x line
line_begins (spaced x {line} p) = sign_begins x (space ∷ line)

-- what begins with no space stays
no_space_lem : (t : List ℕ) → Begins t → after_space t ≡ t
unfolding after_space
no_space_lem [] b = refl
no_space_lem (x ∷ t) b = pick_false (eqb x space) t (x ∷ t) b.no_space

after_a_space : (t : List ℕ) → after_space (space ∷ t) ≡ t
unfolding after_space pick
after_a_space t = refl

-- one sign more
module _ (n : ℕ) (x : Sign) where
  signs_end : signs_by (suc n) (sign_bytes x) ≡ formed (x ∷ [])
  unfolding signs_by on_parsed pick
  signs_end =
      let e : sign_first (sign_bytes x) ≡ formed (taken x []) = rw (append-nil (sign_bytes x)) at (sign_first_lem x [] refl) in
      rw e

  signs_more : (u : List ℕ) (s : List Sign) → NoDigit u → 0 < length u → signs_by n (after_space u) ≡ formed s → signs_by (suc n) (sign_bytes x ++ u) ≡ formed (x ∷ s)
  unfolding signs_by on_parsed pick
  signs_more u s h k e = rw (sign_first_lem x u h, ne_eqb (length u) 0 (λ q. omega arith), e)

read : {line : List ℕ} {s : List Sign} → Spells line s → (n : ℕ) → length line ≤ n → signs_by n line ≡ formed s
read (last x) zero h = absurd (omega (arith, (line_begins (last x)).some))
read (last x) (suc n) h = signs_end n x
read (next x p) zero h = absurd (omega (arith, (line_begins (next x p)).some))
read (next x {line} {s} p) (suc n) h =
    let b = line_begins p in
    let z : length line ≤ n = omega (arith, length-append (sign_bytes x) line, (line_begins (last x)).some) in
    signs_more n x line s b.no_digit b.some (rw (no_space_lem line b) (read p n z))
read (spaced x p) zero h = absurd (omega (arith, (line_begins (spaced x p)).some))
read (spaced x {line} {s} p) (suc n) h =
    let z : length line ≤ n = omega (arith, length-append (sign_bytes x) (space ∷ line), (line_begins (last x)).some) in
    signs_more n x (space ∷ line) s refl (omega arith) (rw (after_a_space line) (read p n z))

-- the signs that a line spells are computed
pub spelled_signs : (line : List ℕ) (s : List Sign) → Spells line s → signs_of line ≡ formed s
unfolding signs_of
spelled_signs line s p = read p (length line) (omega arith)

-- a line spells one list of signs at most
pub spells_once : (line : List ℕ) (s s' : List Sign) → Spells line s → Spells line s' → s ≡ s'
spells_once line s s' p q = formed_same s s' (sym (spelled_signs line s p) ∙ spelled_signs line s' q)

-- ---- a line read on from a place

-- more steps than bytes change nothing
signs_enough : (n : ℕ) (t : List ℕ) → length t ≤ n → signs_by n t ≡ signs_of t
signs_enough n t h = go (signs_by n t) refl
  where
    go : (p : Parsed (List Sign)) → signs_by n t ≡ p → p ≡ signs_of t
    go (formed s) e = sym (spelled_signs t s (spell n t s e))
    go malformed e = none (signs_of t) refl e
      where
        none : (q : Parsed (List Sign)) → signs_of t ≡ q → signs_by n t ≡ malformed → malformed ≡ q
        none (formed s) f e = absurd (never_formed s (sym e ∙ read (signs_spelled t s f) n h))
        none malformed f e = refl

-- no sign comes first
pub signs_none : (t : List ℕ) → sign_first t ≡ malformed → signs_of t ≡ malformed
unfolding signs_of signs_by on_parsed
signs_none [] e = refl
signs_none (x ∷ t) e = rw e

pub signs_empty : signs_of [] ≡ malformed
unfolding signs_of signs_by
signs_empty = refl

first_some : (t : List ℕ) (x : Sign) (u : List ℕ) → sign_first t ≡ formed (taken x u) → length u < length t
first_some t x u e =
    let b = first_begins t (taken x u) e in
    omega (arith, ap length b, length-append (sign_bytes x) u, (line_begins (last x)).some)

-- a sign comes first, and nothing after it
pub signs_last : (t : List ℕ) (x : Sign) → sign_first t ≡ formed (taken x []) → signs_of t ≡ formed (x ∷ [])
unfolding signs_of signs_by on_parsed pick
signs_last [] x e = absurd (omega (arith, first_some [] x [] e))
signs_last (y ∷ t) x e = rw e

after_shorter : (u : List ℕ) → length (after_space u) ≤ length u
unfolding after_space pick
after_shorter [] = omega arith
after_shorter (x ∷ u) = by_test (eqb x space) (λ e. rw e (omega arith)) (λ e. rw e (omega arith))

-- a sign comes first, and more after it
pub signs_on : (t : List ℕ) (x : Sign) (u : List ℕ) → sign_first t ≡ formed (taken x u) → 0 < length u
    → signs_of t ≡ on_parsed (signs_of (after_space u)) malformed (λ s. formed (x ∷ s))
unfolding on_parsed pick signs_by
signs_on [] x u e h = absurd (omega (arith, first_some [] x u e))
signs_on (y ∷ t) x u e h =
    let l = first_some (y ∷ t) x u e in
    let f = signs_enough (length t) (after_space u) (omega (arith, after_shorter u)) in
    sym (signs_enough (suc (length t)) (y ∷ t) (omega arith)) ∙ rw (e, ne_eqb (length u) 0 (λ q. omega arith), f)
