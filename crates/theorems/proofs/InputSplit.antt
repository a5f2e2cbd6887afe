-- Laws of the split of the program's input at its first line `-`.
use mathlib.Core.Path.{◌≡◌, refl, ap, sym, ◌∙◌}
use mathlib.Core.Bool.{true, false}
use mathlib.Core.List.{List}
use Prim.Native.Nat.{ℕ, zero, suc, ◌+◌, ◌-◌, ◌≤◌}
use native.Mathlib.Omega.{arith}
use lib.ListN.{length, length-drop}
use borrow.Author.Tests.{le-ltb, ltb-true}
use Rattle.definitions.specs.Bounded.{pick}
use Rattle.definitions.specs.Lines.{newline, before, is_closed, line_of, rest_at, rest_of, same}
use Rattle.definitions.specs.Program.{split_line, rule_length}
use Rattle.theorems.proofs.Choice.{by_test}

-- ---- by the first line
pub split_open : (n : ℕ) (t : List ℕ) → is_closed t ≡ false → rule_length n t ≡ length t
unfolding rule_length pick
split_open zero t c = refl
split_open (suc n) t c = rw c

pub split_here : (n : ℕ) (t : List ℕ) → is_closed t ≡ true → same (line_of t) split_line ≡ true → rule_length (suc n) t ≡ 0
unfolding rule_length pick
split_here n t c s = rw (c, s)

pub split_later : (n : ℕ) (t : List ℕ) → is_closed t ≡ true → same (line_of t) split_line ≡ false → rule_length (suc n) t ≡ rest_at t + rule_length n (rest_of t)
unfolding rule_length pick
split_later n t c s = rw (c, s)

pub split_zero : (t : List ℕ) → rule_length zero t ≡ length t
unfolding rule_length
split_zero t = refl

pub empty_open : (t : List ℕ) → length t ≤ 0 → is_closed t ≡ false
empty_open t h = le-ltb (before newline t) (length t) (omega arith)

pub rest_length : (t : List ℕ) → length (rest_of t) ≡ length t - rest_at t
rest_length t = length-drop (rest_at t) t

-- no more lines than bytes
pub split_enough : (n m : ℕ) (t : List ℕ) → length t ≤ n → length t ≤ m → rule_length n t ≡ rule_length m t
split_enough zero m t h k = split_open zero t (empty_open t h) ∙ sym (split_open m t (empty_open t h))
split_enough (suc n) zero t h k = split_open (suc n) t (empty_open t k) ∙ sym (split_open zero t (empty_open t k))
split_enough (suc n) (suc m) t h k =
    by_test (is_closed t)
    (λ c. let l = ltb-true (before newline t) (length t) c in
    by_test (same (line_of t) split_line)
    (λ s. split_here n t c s ∙ sym (split_here m t c s))
    (λ s. split_later n t c s
    ∙ (ap (λ (x : ℕ). rest_at t + x) (split_enough n m (rest_of t) (omega (arith, rest_length t)) (omega (arith, rest_length t))) ∙ sym (split_later m t c s))))
    (λ c. split_open (suc n) t c ∙ sym (split_open (suc m) t c))

-- the rule text lies in the input
pub split_inside : (n : ℕ) (t : List ℕ) → rule_length n t ≤ length t
split_inside zero t = rw (split_zero t) (omega arith)
split_inside (suc n) t =
    by_test (is_closed t)
    (λ c. by_test (same (line_of t) split_line)
    (λ s. omega (arith, split_here n t c s))
    (λ s. omega (arith, split_later n t c s, split_inside n (rest_of t), rest_length t, ltb-true (before newline t) (length t) c)))
    (λ c. omega (arith, split_open (suc n) t c))
