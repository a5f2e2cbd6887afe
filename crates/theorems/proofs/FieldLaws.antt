-- Lines and fields printed and read again, and read and printed again.
use mathlib.Core.Path.{◌≡◌}
use Prim.Native.Nat.{ℕ}
use mathlib.Core.Bool.{◌&&◌}
use mathlib.Core.List.{List, ◌∷◌, ◌++◌}
use native.Mathlib.Omega.{arith}
use Rattle.definitions.specs.Bounded.{pick}
use Rattle.definitions.specs.Lines.{tab, has, up_to, after, Parsed, formed, malformed, on_parsed, decimal, same, two_fields, worded, digits}
use Rattle.theorems.proofs.Choice.{both_true, pick_must}
use Rattle.theorems.proofs.Inversions.{parsed_must, never_formed, formed_same}
use Rattle.theorems.proofs.SplitLaws.{Without, split_front, split_rest, split_found, join}
use Rattle.theorems.proofs.DecimalLaws.{digits_without, printed_reads, read_prints}
use Rattle.theorems.proofs.WordLaws.{same_bytes, same_itself}

-- what was read of two decimal fields
pub record TwoRead {A : Type 0} (make : ℕ → ℕ → A) (x : A) (s : List ℕ) : Type 0 where
  pub first : ℕ
  pub second : ℕ
  pub text : digits first ++ (tab ∷ digits second) ≡ s
  pub made : make first second ≡ x

module _ {A : Type 0} (make : ℕ → ℕ → A) where
  pub two_fields_back : (x : A) (s : List ℕ) → two_fields decimal decimal make s ≡ formed x → TwoRead make x s
  unfolding two_fields
  two_fields_back x s e =
      let p = pick_must (formed x) (has tab s) _ malformed e (never_formed x) in
      let f = parsed_must (formed x) (decimal (up_to tab s)) malformed _ p.1 (never_formed x) in
      let g = parsed_must (formed x) (decimal (after tab s)) malformed _ f.gives (never_formed x) in
      record {
        first = f.value;
        second = g.value;
        text = rw (read_prints (up_to tab s) f.value f.read, read_prints (after tab s) g.value g.read) (join tab s p.0);
        made = formed_same (make f.value g.value) x g.gives;
      }

  pub two_fields_forth : (a b : ℕ) → two_fields decimal decimal make (digits a ++ (tab ∷ digits b)) ≡ formed (make a b)
  unfolding two_fields pick on_parsed
  two_fields_forth a b =
      let w = digits_without tab a (omega arith) in
      let s = digits a in
      rw (split_found tab (digits b) s w, split_front tab (digits b) s w, split_rest tab (digits b) s w, printed_reads a, printed_reads b)

-- a word and what follows its tab
module _ {A : Type 0} (word : List ℕ) (fields : List ℕ → Parsed A) where
  pub worded_back : (x : A) (s : List ℕ) → worded word fields s ≡ formed x → (word ++ (tab ∷ after tab s) ≡ s) × (fields (after tab s) ≡ formed x)
  unfolding worded
  worded_back x s e =
      let p = pick_must (formed x) (same (up_to tab s) word && has tab s) _ malformed e (never_formed x) in
      let q = both_true (same (up_to tab s) word) (has tab s) p.0 in
      (rw (← same_bytes (up_to tab s) word q.0) (join tab s q.1), p.1)

  pub worded_forth : (t : List ℕ) → Without tab word → worded word fields (word ++ (tab ∷ t)) ≡ fields t
  unfolding worded pick
  worded_forth t w = rw (split_front tab t word w, split_found tab t word w, same_itself word, split_rest tab t word w)
