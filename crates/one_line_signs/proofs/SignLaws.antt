-- Laws of signs whose atoms are told up to the limit.
use mathlib.Core.Path.{◌≡◌, refl, sym, ◌∙◌}
use native.Mathlib.Omega.{arith}
use Prim.Native.Nat.{ℕ, zero, suc, ◌+◌, ◌-◌}
use mathlib.Core.Bool.{true}
use mathlib.Core.List.{List, [], ◌∷◌}
use lib.Dec.{ltb}
use borrow.Author.Tests.{lt-ltb, le-ltb, ltb-true, ltb-false}
use Rattle.definitions.specs.Limits.{atom_count}
use Rattle.definitions.specs.OneLineSigns.{Sign, true_sign, atom_sign, prefix_sign, infix_sign, open_bracket, close_bracket}
use Rattle.definitions.specs.OneLineGrammar.{larger, most_open}
use Rattle.theorems.proofs.Choice.{by_test, both_true}
use Rattle.theorems.proofs.Phrases.{Due, operand, operator, flat, sign_nodes, weight, sign_low, low_atoms}
use Rattle.one_line_signs.specs.Signs.{cap_atom, capped, capped_signs}

cap_test : (n : ℕ) → ltb (cap_atom n) atom_count ≡ ltb n atom_count
cap_test n =
    by_test (ltb n atom_count)
    (λ e. lt-ltb (cap_atom n) atom_count (omega (arith, ltb-true n atom_count e)) ∙ sym e)
    (λ e. le-ltb (cap_atom n) atom_count (omega (arith, ltb-false n atom_count e)) ∙ sym e)

pub capped_low : (s : List Sign) → low_atoms (capped_signs s) ≡ low_atoms s
unfolding capped_signs capped low_atoms sign_low
capped_low [] = refl
capped_low (true_sign ∷ s) = capped_low s
capped_low (atom_sign n ∷ s) = rw (capped_low s, cap_test n)
capped_low (prefix_sign x ∷ s) = capped_low s
capped_low (infix_sign x ∷ s) = capped_low s
capped_low (open_bracket ∷ s) = capped_low s
capped_low (close_bracket ∷ s) = capped_low s

pub capped_weight : (s : List Sign) → weight (capped_signs s) ≡ weight s
unfolding capped_signs capped weight sign_nodes
capped_weight [] = refl
capped_weight (true_sign ∷ s) = rw (capped_weight s)
capped_weight (atom_sign n ∷ s) = rw (capped_weight s)
capped_weight (prefix_sign x ∷ s) = rw (capped_weight s)
capped_weight (infix_sign x ∷ s) = rw (capped_weight s)
capped_weight (open_bracket ∷ s) = rw (capped_weight s)
capped_weight (close_bracket ∷ s) = rw (capped_weight s)

pub capped_most : (s : List Sign) (most k : ℕ) → most_open most k (capped_signs s) ≡ most_open most k s
unfolding capped_signs capped most_open
capped_most [] most k = refl
capped_most (true_sign ∷ s) most k = capped_most s most k
capped_most (atom_sign n ∷ s) most k = capped_most s most k
capped_most (prefix_sign x ∷ s) most k = capped_most s most k
capped_most (infix_sign x ∷ s) most k = capped_most s most k
capped_most (open_bracket ∷ s) most k = capped_most s (larger most (k + 1)) (k + 1)
capped_most (close_bracket ∷ s) most k = capped_most s most (k - 1)

pub capped_flat : (s : List Sign) (due : Due) (k : ℕ) → flat (capped_signs s) due k ≡ flat s due k
unfolding capped_signs capped flat
capped_flat [] due k = refl
capped_flat (true_sign ∷ s) operand k = capped_flat s operator k
capped_flat (true_sign ∷ s) operator k = refl
capped_flat (atom_sign n ∷ s) operand k = capped_flat s operator k
capped_flat (atom_sign n ∷ s) operator k = refl
capped_flat (prefix_sign x ∷ s) operand k = capped_flat s operand k
capped_flat (prefix_sign x ∷ s) operator k = refl
capped_flat (infix_sign x ∷ s) operand k = refl
capped_flat (infix_sign x ∷ s) operator k = capped_flat s operand k
capped_flat (open_bracket ∷ s) operand k = capped_flat s operand (suc k)
capped_flat (open_bracket ∷ s) operator k = refl
capped_flat (close_bracket ∷ s) operand k = refl
capped_flat (close_bracket ∷ s) operator zero = refl
capped_flat (close_bracket ∷ s) operator (suc k) = capped_flat s operator k

-- signs whose atoms are low are told exactly
pub capped_same : (s : List Sign) → low_atoms s ≡ true → capped_signs s ≡ s
unfolding capped_signs capped low_atoms sign_low
capped_same [] e = refl
capped_same (true_sign ∷ s) e = rw (capped_same s e)
capped_same (atom_sign n ∷ s) e =
    let p = both_true (ltb n atom_count) (low_atoms s) e in
    let low : cap_atom n ≡ n = omega (arith, ltb-true n atom_count p.0) in
    rw (capped_same s p.1, low)
capped_same (prefix_sign x ∷ s) e = rw (capped_same s e)
capped_same (infix_sign x ∷ s) e = rw (capped_same s e)
capped_same (open_bracket ∷ s) e = rw (capped_same s e)
capped_same (close_bracket ∷ s) e = rw (capped_same s e)
