-- Laws of the next line of a text: what it is by the tests in their order, and what must hold where it is read or refused.
use mathlib.Core.Path.{◌≡◌, refl, ap, sym, ◌∙◌}
use Prim.Native.Nat.{ℕ, ◌<◌}
use mathlib.Core.Bool.{true, false}
use mathlib.Core.List.{List, ◌∷◌, ◌++◌}
use lib.Dec.{eqb}
use lib.ListN.{length}
use native.Mathlib.Omega.{arith}
use borrow.Author.Tests.{eq-eqb, ne_eqb, eqb-true, eqb-false, ltb-true}
use Rattle.definitions.specs.Limits.{accepted}
use Rattle.definitions.specs.Bounded.{pick}
use Rattle.definitions.specs.Lines.{newline, before, is_empty, is_closed, line_of, rest_of, Parsed, formed, malformed, on_parsed, NextLine, refused, read, on_next, next_line}
use Rattle.theorems.proofs.Choice.{by_test}
use Rattle.theorems.proofs.SplitLaws.{split_rest, split_found}
use Rattle.theorems.proofs.EndingLaws.{Unbroken, line_split}

-- by the cases of the next line, with which it is
pub by_next : {A P : Type 0} (n : NextLine A) → ((number : ℕ) → n ≡ refused number → P) → ((a : A) (rest : List ℕ) → n ≡ read a rest → P) → P
by_next (refused number) f g = f number refl
by_next (read a rest) f g = g a rest refl

pub one_next : {A P : Type 0} (a : A) (rest : List ℕ) (number : ℕ) → read a rest ≡ refused number → P
one_next a rest number e = let z : ◌≡◌ {A = ℕ} 0 1 = cc in absurd (omega arith)

pub same_refused : {A : Type 0} (j k : ℕ) → ◌≡◌ {A = NextLine A} (refused j) (refused k) → j ≡ k
same_refused j k e = cc

pub same_read : {A : Type 0} (a b : A) (s t : List ℕ) → read a s ≡ read b t → (a ≡ b) × (s ≡ t)
same_read a b s t e = let p : a ≡ b = cc in let q : s ≡ t = cc in (p, q)

pub by_form : {A P : Type 0} (p : Parsed A) → ((a : A) → p ≡ formed a → P) → (p ≡ malformed → P) → P
by_form (formed a) f g = f a refl
by_form malformed f g = g refl

-- what a line is that was read: closed, of its form, not refused; what is left is the text after it
pub record ReadAs {A : Type 0} (form : List ℕ → Parsed A) (check : A → ℕ) (t : List ℕ) (a : A) (rest : List ℕ) : Type 0 where
  pub closed : is_closed t ≡ true
  pub is : form (line_of t) ≡ formed a
  pub fine : check a ≡ accepted
  pub left : rest ≡ rest_of t

module _ {A : Type 0} (missing unformed : ℕ) (form : List ℕ → Parsed A) (check : A → ℕ) (t : List ℕ) where
  pub next_missing : length t ≡ 0 → next_line missing unformed form check t ≡ refused missing
  unfolding next_line pick
  next_missing e = rw (eq-eqb (length t) 0 e)

  pub next_open : (length t ≡ 0 → ⊥) → is_closed t ≡ false → next_line missing unformed form check t ≡ refused unformed
  unfolding next_line pick
  next_open z h = rw (ne_eqb (length t) 0 z, h)

  module _ (h : is_closed t ≡ true) where
    some : is_empty t ≡ false
    some = ne_eqb (length t) 0 (λ q. omega (arith, ltb-true (before newline t) (length t) h))

    pub next_malformed : form (line_of t) ≡ malformed → next_line missing unformed form check t ≡ refused unformed
    unfolding next_line pick on_parsed
    next_malformed f = rw (some, h, f)

    module _ (a : A) (f : form (line_of t) ≡ formed a) where
      pub next_denied : (k : ℕ) → check a ≡ k → (k ≡ 0 → ⊥) → next_line missing unformed form check t ≡ refused k
      unfolding next_line pick on_parsed
      next_denied k e z = rw (some, h, f, e, ne_eqb k 0 z)

      pub next_read : check a ≡ 0 → next_line missing unformed form check t ≡ read a (rest_of t)
      unfolding next_line pick on_parsed
      next_read e = rw (some, h, f, e)

  -- a law of the next line, from its case by each test
  pub by_tests : (P : NextLine A → Type 0) → P (refused missing) → P (refused unformed)
      → ((a : A) → (check a ≡ 0 → ⊥) → P (refused (check a)))
      → ((a : A) → ReadAs form check t a (rest_of t) → P (read a (rest_of t)))
      → P (next_line missing unformed form check t)
  by_tests P none other denied reads =
      by_test (eqb (length t) 0)
      (λ z. rw (next_missing (eqb-true (length t) 0 z)) none)
      (λ z. by_test (is_closed t)
      (λ h. by_form (form (line_of t))
      (λ a f. by_test (eqb (check a) 0)
      (λ y. let e = eqb-true (check a) 0 y in rw (next_read h a f e) (reads a (record { closed = h; is = f; fine = e; left = refl })))
      (λ y. let n = eqb-false (check a) 0 y in rw (next_denied h a f (check a) refl n) (denied a n)))
      (λ f. rw (next_malformed h f) other))
      (λ h. rw (next_open (eqb-false (length t) 0 z) h) other))

  -- what must hold of a line that was read
  pub next_back : (a : A) (rest : List ℕ) → next_line missing unformed form check t ≡ read a rest → ReadAs form check t a rest
  next_back a rest =
      by_tests (λ n. n ≡ read a rest → ReadAs form check t a rest)
      (λ e. one_next a rest missing (sym e))
      (λ e. one_next a rest unformed (sym e))
      (λ b z e. one_next a rest (check b) (sym e))
      (λ b r e.
      let q = same_read b a (rest_of t) rest e in
      record { closed = r.closed; is = r.is ∙ ap formed q.0; fine = ap check (sym q.0) ∙ r.fine; left = sym q.1 })

  -- what holds of both numbers and of every refusal of the check holds of the number of a refused line
  pub next_number : (P : ℕ → Type 0) → P missing → P unformed → ((a : A) → (check a ≡ 0 → ⊥) → P (check a))
      → (k : ℕ) → next_line missing unformed form check t ≡ refused k → P k
  next_number P none other denied k =
      by_tests (λ n. n ≡ refused k → P k)
      (λ e. rw (← same_refused missing k e) none)
      (λ e. rw (← same_refused unformed k e) other)
      (λ a z e. rw (← same_refused (check a) k e) (denied a z))
      (λ a r e. one_next a (rest_of t) k e)

  -- a refusal is not 0
  pub next_some : 0 < missing → 0 < unformed → (k : ℕ) → next_line missing unformed form check t ≡ refused k → k ≡ 0 → ⊥
  next_some h j = next_number (λ k. k ≡ 0 → ⊥) (λ q. omega arith) (λ q. omega arith) (λ a z. z)

-- a line without bytes 10 and 13 that is of its form and not refused is read, and then the rest
pub next_forth : {A : Type 0} (missing unformed : ℕ) (form : List ℕ → Parsed A) (check : A → ℕ) (line rest : List ℕ) (a : A) → Unbroken line
    → form line ≡ formed a → check a ≡ 0 → next_line missing unformed form check (line ++ (newline ∷ rest)) ≡ read a rest
next_forth missing unformed form check line rest a w f e =
    let t = line ++ (newline ∷ rest) in
    let g : form (line_of t) ≡ formed a = ap form (line_split line rest w) ∙ f in
    next_read missing unformed form check t (split_found newline rest line w.newlines) a g e ∙ ap (read a) (split_rest newline rest line w.newlines)

-- a law of a reading that goes by the next line, from its case where the line is refused and where it is read
pub on_next_lem : {A B : Type 0} (P : B → Type 0) (n : NextLine A) (stops : ℕ → B) (goes : A → List ℕ → B)
    → ((number : ℕ) → n ≡ refused number → P (stops number)) → ((a : A) (rest : List ℕ) → n ≡ read a rest → P (goes a rest)) → P (on_next n stops goes)
unfolding on_next
on_next_lem P (refused number) stops goes f g = f number refl
on_next_lem P (read a rest) stops goes f g = g a rest refl

-- readings that go by the same next line
pub same_next : {A B : Type 0} (n m : NextLine A) (stops : ℕ → B) (goes goes' : A → List ℕ → B) → n ≡ m → ((a : A) (rest : List ℕ) → goes a rest ≡ goes' a rest)
    → on_next n stops goes ≡ on_next m stops goes'
unfolding on_next
same_next n (refused number) stops goes goes' e h = rw e
same_next n (read a rest) stops goes goes' e h = rw e (h a rest)

same_parsed : {A B : Type 0} (p : Parsed A) (other : B) (f g : A → B) → ((a : A) → f a ≡ g a) → on_parsed p other f ≡ on_parsed p other g
unfolding on_parsed
same_parsed (formed a) other f g h = h a
same_parsed malformed other f g h = refl

-- checks that refuse the same
pub same_check : {A : Type 0} (missing unformed : ℕ) (form : List ℕ → Parsed A) (check check' : A → ℕ) (t : List ℕ) → ((a : A) → check a ≡ check' a)
    → next_line missing unformed form check t ≡ next_line missing unformed form check' t
unfolding next_line
same_check missing unformed form check check' t h =
    let q = same_parsed (form (line_of t)) (refused unformed)
    (λ a. pick (eqb (check a) accepted) (read a (rest_of t)) (refused (check a)))
    (λ a. pick (eqb (check' a) accepted) (read a (rest_of t)) (refused (check' a))) (λ a. rw (h a)) in
    rw q
