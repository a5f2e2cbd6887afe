-- Kinds and their words in texts.
use mathlib.Core.Path.{◌≡◌, refl, sym}
use Prim.Native.Nat.{ℕ, ◌<◌, ◌≤◌}
use mathlib.Core.List.{List, [], ◌∷◌}
use mathlib.Core.Bool.{true, false}
use native.Mathlib.Omega.{arith}
use lib.Dec.{eqb, leb}
use borrow.Author.Tests.{eqb-true, eq-eqb, leb-true}
use Rattle.definitions.specs.Bounded.{pick, within}
use Rattle.definitions.specs.Nodes.{Kind, True, Atom, Not, Or, Next, Until, Prev, Since, Run, End}
use Rattle.definitions.specs.Tables.{is_unknown}
use Rattle.definitions.specs.Lines.{same, letters}
use Rattle.definitions.specs.RuleText.{kind_word, word_kind, rule_word}
use Rattle.theorems.proofs.Choice.{both_true}
use Rattle.theorems.proofs.NodeWords.{by_kind, link, unknown_no}
use Rattle.theorems.proofs.SplitLaws.{Without, without_none, without_cons}

pub same_bytes : (a b : List ℕ) → same a b ≡ true → a ≡ b
unfolding same
same_bytes [] [] h = refl
same_bytes [] (y ∷ u) h = cc
same_bytes (x ∷ t) [] h = cc
same_bytes (x ∷ t) (y ∷ u) h =
    let p = both_true (eqb x y) (same t u) h in let q = eqb-true x y p.0 in let r = same_bytes t u p.1 in cc

pub same_itself : (a : List ℕ) → same a a ≡ true
unfolding same
same_itself [] = refl
same_itself (x ∷ t) = rw (eq-eqb x x refl) (same_itself t)

-- a kind is the kind of its word
pub word_kind_lem : (k : Kind) → word_kind (kind_word k) ≡ k
unfolding word_kind pick same
word_kind_lem = by_kind (λ k. word_kind (kind_word k) ≡ k) refl refl refl refl refl refl refl refl refl refl refl

-- "a kind word is one or more letters a to z"
kind_letters : (k : Kind) → letters (kind_word k) ≡ true
unfolding letters
kind_letters = by_kind (λ k. letters (kind_word k) ≡ true) refl refl refl refl refl refl refl refl refl refl refl

letters_without : (b : ℕ) (w : List ℕ) → b < 97 → letters w ≡ true → Without b w
unfolding letters
letters_without b [] h e = without_none b
letters_without b (x ∷ t) h e =
    let p = both_true (within 97 122 x) (letters t) e in
    let l : 97 ≤ x = leb-true 97 x (both_true (leb 97 x) (leb x 122) p.0).0 in
    without_cons b x t (λ q. omega arith) (letters_without b t h p.1)

-- a tab or the end of a line is in no word
pub kind_word_without : (b : ℕ) (k : Kind) → b < 97 → Without b (kind_word k)
kind_word_without b k h = letters_without b (kind_word k) h (kind_letters k)

pub rule_word_without : (b : ℕ) → b < 97 → Without b rule_word
unfolding letters
rule_word_without b h = letters_without b rule_word h refl

pub kind_word_lem : (w : List ℕ) → is_unknown (word_kind w) ≡ false → kind_word (word_kind w) ≡ w
unfolding word_kind
kind_word_lem w =
    let at : (k : Kind) → same w (kind_word k) ≡ true → kind_word k ≡ w = λ k e. sym (same_bytes w (kind_word k) e) in
    link kind_word w (same w (kind_word True)) True _ (at True) (
    link kind_word w (same w (kind_word Atom)) Atom _ (at Atom) (
    link kind_word w (same w (kind_word Not)) Not _ (at Not) (
    link kind_word w (same w (kind_word Or)) Or _ (at Or) (
    link kind_word w (same w (kind_word Next)) Next _ (at Next) (
    link kind_word w (same w (kind_word Until)) Until _ (at Until) (
    link kind_word w (same w (kind_word Prev)) Prev _ (at Prev) (
    link kind_word w (same w (kind_word Since)) Since _ (at Since) (
    link kind_word w (same w (kind_word Run)) Run _ (at Run) (
    link kind_word w (same w (kind_word End)) End _ (at End) unknown_no)))))))))
