-- Lines that end in byte 10 or in bytes 13 and 10: a line and its rest, and the text with byte 10 at each line.
use mathlib.Core.Path.{◌≡◌, refl, ap, sym, ◌∙◌}
use Prim.Native.Nat.{ℕ, zero, suc, ◌+◌, ◌<◌, ◌≤◌}
use mathlib.Core.Bool.{true, false}
use mathlib.Core.List.{List, [], ◌∷◌, ◌++◌}
use lib.ListN.{length, drop, get_or}
use lib.Seq.{take_at}
use native.Mathlib.Omega.{arith}
use lib.Dec.{eqb}
use borrow.Author.Tests.{eq-eqb, ne_eqb, eqb-true, eqb-false, lt-ltb, ltb-true, ltb-false}
use Rattle.definitions.specs.Bounded.{pick}
use Rattle.definitions.specs.Lines.{newline, carriage_return, before, up_to, newline_next, is_return, line_length, line_of, is_closed, rest_of, with_newlines}
use Rattle.theorems.proofs.Choice.{by_test, both_true}
use Rattle.theorems.proofs.SplitLaws.{Without, before_here, before_later, without_first, without_none, without_cons, join}

-- byte 10 comes next
next_is : (t : List ℕ) → newline_next t ≡ true → t ≡ newline ∷ drop 1 t
unfolding newline_next
next_is [] h = let z : ◌≡◌ {A = ℕ} 0 1 = cc in absurd (omega arith)
next_is (x ∷ t) h = rw (eqb-true x newline h)

module _ (x : ℕ) (t : List ℕ) where
  return_is : is_return x t ≡ true → (x ≡ carriage_return) × (t ≡ newline ∷ drop 1 t)
  unfolding is_return
  return_is h = let p = both_true (eqb x carriage_return) (newline_next t) h in (eqb-true x carriage_return p.0, next_is t p.1)

  pub not_return : (x ≡ carriage_return → ⊥) → is_return x t ≡ false
  unfolding is_return
  not_return n = rw (ne_eqb x carriage_return n)

  -- the first line, by its first byte
  pub length_here : eqb x newline ≡ true → line_length (x ∷ t) ≡ 0
  unfolding line_length pick
  length_here e = rw e

  pub length_return : is_return x t ≡ true → line_length (x ∷ t) ≡ 0
  unfolding line_length pick
  length_return e = by_test (eqb x newline) (λ z. rw z) (λ z. rw (z, e))

  pub length_later : eqb x newline ≡ false → is_return x t ≡ false → line_length (x ∷ t) ≡ suc (line_length t)
  unfolding line_length pick
  length_later e f = rw (e, f)

  -- byte 10 at each line, by the first byte
  pub with_return : is_return x t ≡ true → with_newlines (x ∷ t) ≡ with_newlines t
  unfolding with_newlines pick
  with_return e = rw e

  pub with_other_lem : is_return x t ≡ false → with_newlines (x ∷ t) ≡ x ∷ with_newlines t
  unfolding with_newlines pick
  with_other_lem e = rw e

with_newline : (t : List ℕ) → with_newlines (newline ∷ t) ≡ newline ∷ with_newlines t
with_newline t = with_other_lem newline t (not_return newline t (λ q. omega arith))

newline_first : (t : List ℕ) → t ≡ newline ∷ drop 1 t → before newline t ≡ 0
newline_first t e = ap (before newline) e ∙ before_here newline newline (drop 1 t) refl

-- byte 10 comes next in a closed text whatever follows its first line
next_front : (t u : List ℕ) → before newline t < length t → newline_next (up_to newline t ++ (newline ∷ u)) ≡ newline_next t
unfolding newline_next
next_front [] u h = absurd (omega arith)
next_front (y ∷ t) u h = by_test (eqb y newline) (λ e. rw (before_here newline y t e) (sym e)) (λ e. rw (before_later newline y t e))

return_front : (x : ℕ) (t u : List ℕ) → before newline t < length t → is_return x (up_to newline t ++ (newline ∷ u)) ≡ is_return x t
unfolding is_return
return_front x t u h = rw (next_front t u h)

return_newline : (x : ℕ) (u : List ℕ) → x ≡ carriage_return → is_return x (newline ∷ u) ≡ true
unfolding is_return newline_next
return_newline x u e = rw (eq-eqb x carriage_return e)

-- a closed line and its ending, whatever follows: with byte 10 at each line they are the line and byte 10
pub with_front : (t u : List ℕ) → before newline t < length t → with_newlines (up_to newline t ++ (newline ∷ u)) ≡ line_of t ++ (newline ∷ with_newlines u)
with_front [] u h = absurd (omega arith)
with_front (x ∷ t) u h =
    by_test (eqb x newline)
    (λ e. rw (length_here x t e, before_here newline x t e) (with_newline u))
    (λ e. let b = before_later newline x t e in
    by_test (is_return x t)
    (λ f. let r = return_is x t f in
    rw (b, length_return x t f, newline_first t r.1) (with_return x (newline ∷ u) (return_newline x u r.0) ∙ with_newline u))
    (λ f. let k : before newline t < length t = omega arith in
    rw (b, length_later x t e f) (with_other_lem x (up_to newline t ++ (newline ∷ u)) (return_front x t u k ∙ f) ∙ ap (λ (l : List ℕ). x ∷ l) (with_front t u k))))

-- the text with byte 10 at each line is the first line, byte 10, and the rest with byte 10 at each line
pub with_line : (t : List ℕ) → is_closed t ≡ true → with_newlines t ≡ line_of t ++ (newline ∷ with_newlines (rest_of t))
with_line t c = ap with_newlines (sym (join newline t c)) ∙ with_front t (rest_of t) (ltb-true (before newline t) (length t) c)

-- no more bytes than before
pub with_short : (t : List ℕ) → length (with_newlines t) ≤ length t
unfolding with_newlines
with_short [] = omega arith
with_short (x ∷ t) =
    by_test (is_return x t)
    (λ f. omega (arith, ap length (with_return x t f), with_short t))
    (λ f. omega (arith, ap length (with_other_lem x t f), with_short t))

-- a closed text is its first line, one of the two endings, and the rest
rest_later : (x : ℕ) (t : List ℕ) → eqb x newline ≡ false → rest_of (x ∷ t) ≡ rest_of t
rest_later x t e = let s : suc (before newline t) + 1 ≡ suc (before newline t + 1) = omega arith in rw (before_later newline x t e, s)

parts_newline : (x : ℕ) (t : List ℕ) → eqb x newline ≡ true → x ∷ t ≡ line_of (x ∷ t) ++ (newline ∷ rest_of (x ∷ t))
parts_newline x t e = rw (length_here x t e, before_here newline x t e, eqb-true x newline e)

parts_return : (x : ℕ) (t : List ℕ) → is_return x t ≡ true → x ∷ t ≡ line_of (x ∷ t) ++ (carriage_return ∷ newline ∷ rest_of (x ∷ t))
parts_return x t f =
    let r = return_is x t f in
    let e : eqb x newline ≡ false = ne_eqb x newline (λ q. omega (arith, r.0)) in
    let b = newline_first t r.1 in
    ap (λ (y : ℕ). y ∷ t) r.0 ∙ (ap (λ (l : List ℕ). carriage_return ∷ l) r.1 ∙ rw (length_return x t f, rest_later x t e, b))

parts_later : (x : ℕ) (t ending : List ℕ) → eqb x newline ≡ false → is_return x t ≡ false → t ≡ line_of t ++ (ending ++ rest_of t)
    → x ∷ t ≡ line_of (x ∷ t) ++ (ending ++ rest_of (x ∷ t))
parts_later x t ending e f q = ap (λ (l : List ℕ). x ∷ l) q ∙ rw (length_later x t e f, rest_later x t e)

pub by_ending : {P : Type 0} (t : List ℕ) → is_closed t ≡ true
    → (t ≡ line_of t ++ (newline ∷ rest_of t) → P) → (t ≡ line_of t ++ (carriage_return ∷ newline ∷ rest_of t) → P) → P
by_ending [] c f g = let h = ltb-true (before newline []) 0 c in absurd (omega arith)
by_ending (x ∷ t) c f g =
    by_test (eqb x newline)
    (λ e. f (parts_newline x t e))
    (λ e. by_test (is_return x t)
    (λ r. g (parts_return x t r))
    (λ r.
    let h = ltb-true (before newline (x ∷ t)) (suc (length t)) c in
    let d : is_closed t ≡ true = lt-ltb (before newline t) (length t) (omega (arith, before_later newline x t e)) in
    by_ending t d (λ q. f (parts_later x t (newline ∷ []) e r q)) (λ q. g (parts_later x t (carriage_return ∷ newline ∷ []) e r q))))

-- an unclosed text has no ending
open_front : (t : List ℕ) → length t ≤ before newline t → with_newlines t ≡ t
unfolding with_newlines
open_front [] h = refl
open_front (x ∷ t) h =
    by_test (eqb x newline)
    (λ e. absurd (omega (arith, before_here newline x t e)))
    (λ e. let b = before_later newline x t e in
    by_test (is_return x t)
    (λ f. let r = (return_is x t f).1 in absurd (omega (arith, newline_first t r, ap length r)))
    (λ f. with_other_lem x t f ∙ ap (λ (l : List ℕ). x ∷ l) (open_front t (omega arith))))

pub open_same : (t : List ℕ) → is_closed t ≡ false → with_newlines t ≡ t
open_same t c = open_front t (ltb-false (before newline t) (length t) c)

-- a text without byte 13 has byte 10 at each line
pub plain_same : (t : List ℕ) → Without carriage_return t → with_newlines t ≡ t
unfolding with_newlines
plain_same [] w = refl
plain_same (x ∷ t) w =
    let f = without_first carriage_return x t w in
    with_other_lem x t (not_return x t (eqb-false x carriage_return f.0)) ∙ ap (λ (l : List ℕ). x ∷ l) (plain_same t f.1)

-- byte 10 is in no line
pub line_without : (t : List ℕ) → Without newline (line_of t)
unfolding line_length
line_without [] = without_none newline
line_without (x ∷ t) =
    by_test (eqb x newline)
    (λ e. rw (length_here x t e) (without_none newline))
    (λ e. by_test (is_return x t)
    (λ f. rw (length_return x t f) (without_none newline))
    (λ f. rw (length_later x t e f) (without_cons newline x (line_of t) (eqb-false x newline e) (line_without t))))

-- a line that is written has neither byte, and its ending is byte 10
pub record Unbroken (line : List ℕ) : Type 0 where
  pub newlines : Without newline line
  pub returns : Without carriage_return line

length_seam : (line end : List ℕ) → line_length end ≡ 0 → Without newline line → Without carriage_return line → line_length (line ++ end) ≡ length line
length_seam [] end e n r = e
length_seam (x ∷ t) end e n r =
    let f = without_first newline x t n in
    let g = without_first carriage_return x t r in
    length_later x (t ++ end) f.0 (not_return x (t ++ end) (eqb-false x carriage_return g.0)) ∙ ap suc (length_seam t end e f.1 g.1)

-- such a line before an ending is the first one
line_before : (line end : List ℕ) → line_length end ≡ 0 → Unbroken line → line_of (line ++ end) ≡ line
line_before line end e u = take_at line end (line_length (line ++ end)) (sym (length_seam line end e u.newlines u.returns))

pub line_split : (line rest : List ℕ) → Unbroken line → line_of (line ++ (newline ∷ rest)) ≡ line
line_split line rest u = line_before line (newline ∷ rest) (length_here newline rest refl) u

-- and with the other ending
pub line_returned : (line rest : List ℕ) → Unbroken line → line_of (line ++ (carriage_return ∷ newline ∷ rest)) ≡ line
line_returned line rest u =
    line_before line (carriage_return ∷ newline ∷ rest) (length_return carriage_return (newline ∷ rest) (return_newline carriage_return rest refl)) u

-- the length of the first line, by the byte before its byte 10
pub length_open : (t : List ℕ) → length t ≤ before newline t → line_length t ≡ before newline t
unfolding line_length before
length_open [] h = refl
length_open (x ∷ t) h =
    by_test (eqb x newline)
    (λ e. absurd (omega (arith, before_here newline x t e)))
    (λ e. let b = before_later newline x t e in
    by_test (is_return x t)
    (λ f. let r = (return_is x t f).1 in absurd (omega (arith, newline_first t r, ap length r)))
    (λ f. length_later x t e f ∙ (ap suc (length_open t (omega arith)) ∙ sym b)))

pub length_empty : (t : List ℕ) → before newline t ≡ 0 → line_length t ≡ 0
unfolding line_length
length_empty [] h = refl
length_empty (x ∷ t) h = by_test (eqb x newline) (λ e. length_here x t e) (λ e. absurd (omega (arith, before_later newline x t e)))

-- byte 10 comes next exactly if no byte stands before the first
next_first : (t : List ℕ) → before newline t ≡ 0 → 0 < length t → newline_next t ≡ true
unfolding newline_next
next_first [] h l = absurd (omega arith)
next_first (x ∷ t) h l = by_test (eqb x newline) (λ e. e) (λ e. absurd (omega (arith, before_later newline x t e)))

next_later : (x : ℕ) (t : List ℕ) → (before newline t ≡ 0 → ⊥) → is_return x t ≡ false
next_later x t h = by_test (is_return x t) (λ f. absurd (h (newline_first t (return_is x t f).1))) (λ f. f)

module _ (x : ℕ) (t : List ℕ) (l : 0 < length t) (b : before newline t ≡ 0) where
  return_first : x ≡ carriage_return → line_length (x ∷ t) ≡ 0
  unfolding is_return
  return_first e = length_return x t (rw (eq-eqb x carriage_return e) (next_first t b l))

pub length_returned : (k : ℕ) (t : List ℕ) → before newline t ≡ suc k → suc k < length t → get_or t k 0 ≡ carriage_return → line_length t ≡ k
length_returned k [] b h e = absurd (omega arith)
length_returned zero (x ∷ t) b h e =
    by_test (eqb x newline)
    (λ z. absurd (omega (arith, before_here newline x t z)))
    (λ z. return_first x t (omega arith) (omega (arith, before_later newline x t z)) e)
length_returned (suc k) (x ∷ t) b h e =
    by_test (eqb x newline)
    (λ z. absurd (omega (arith, before_here newline x t z)))
    (λ z. let c : before newline t ≡ suc k = omega (arith, before_later newline x t z) in
    length_later x t z (next_later x t (λ q. omega arith)) ∙ ap suc (length_returned k t c (omega arith) e))

pub length_other : (k : ℕ) (t : List ℕ) → before newline t ≡ suc k → (get_or t k 0 ≡ carriage_return → ⊥) → line_length t ≡ suc k
length_other k [] b n = absurd (omega (arith, without_none newline))
length_other zero (x ∷ t) b n =
    by_test (eqb x newline)
    (λ z. absurd (omega (arith, before_here newline x t z)))
    (λ z. length_later x t z (not_return x t n) ∙ ap suc (length_empty t (omega (arith, before_later newline x t z))))
length_other (suc k) (x ∷ t) b n =
    by_test (eqb x newline)
    (λ z. absurd (omega (arith, before_here newline x t z)))
    (λ z. let c : before newline t ≡ suc k = omega (arith, before_later newline x t z) in
    length_later x t z (next_later x t (λ q. omega arith)) ∙ ap suc (length_other k t c n))

-- the line stands before its byte 10
pub length_within : (t : List ℕ) → line_length t ≤ before newline t
unfolding line_length before
length_within [] = omega arith
length_within (x ∷ t) =
    by_test (eqb x newline)
    (λ e. omega (arith, length_here x t e))
    (λ e. by_test (is_return x t)
    (λ f. omega (arith, length_return x t f))
    (λ f. omega (arith, length_later x t e f, before_later newline x t e, length_within t)))
