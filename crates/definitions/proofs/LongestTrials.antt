-- Trials of the rule that grows most: for each number, edge and trap of the request.
use mathlib.Core.Path.{◌≡◌, refl}
use Prim.Native.Nat.{ℕ, zero, suc}
use Prim.Native.String.{String}
use mathlib.Core.Bool.{false}
use mathlib.Core.List.{List, [], ◌∷◌, ◌++◌}
use lib.ListN.{length, replicate}
use Rattle.definitions.specs.Limits.{max_input_bytes}
use Rattle.definitions.specs.Nodes.{Atom, Since, node}
use Rattle.definitions.specs.Rewriting.{rewriting}
use Rattle.definitions.specs.Lines.{bytes}
use Rattle.definitions.specs.RuleText.{scan_rule}
use Rattle.definitions.specs.LinePrograms.{input_refusal, refusal_text, refusal_or}
use Rattle.definitions.specs.Longest.{longest_nodes, longest_text, most_nodes, count_refusal, count_output, longest_output}
use Rattle.definitions.proofs.Samples.{computed, counts}

-- what the program prints of an input
abbrev prints : String → List ℕ
prints input = longest_output (bytes input)

-- so many lines `until 0 0`
abbrev untils : ℕ → List ℕ
untils zero = []
untils (suc n) = bytes "until\t0\t0\n" ++ untils n

-- node counts, with atom 0 foreign
pub record Counted : Type 0 where
  -- "24 for n = 1 and 717 for n = 64"
  pub one : length (rewriting false 0 (longest_nodes 1)).nodes ≡ 24
  pub all : length (rewriting false 0 (longest_nodes 64)).nodes ≡ 717
  -- "13 + 11 times n nodes", plain; the short table of an until has no closing
  pub most_of_one : counts 0 (longest_nodes 1) ≡ most_nodes 1 ∷ 24 ∷ []
  pub most_of_two : counts 0 (longest_nodes 2) ≡ most_nodes 2 ∷ 27 ∷ []
  pub most_of_all : counts 0 (longest_nodes 64) ≡ most_nodes 64 ∷ 709 ∷ []
  -- another kind, and the same with atom 0 own, stay below
  pub since : counts 0 (node Atom 0 0 ∷ node Since 0 0 ∷ []) ≡ 34 ∷ 34 ∷ []
  pub own : counts 1 (longest_nodes 2) ≡ 31 ∷ 18 ∷ []

counted : Counted
unfolding computed
counted = record { one = refl; all = refl; most_of_one = refl; most_of_two = refl; most_of_all = refl; since = refl; own = refl }

-- the program
pub record Printed : Type 0 where
  pub one : prints "1\n" ≡ bytes "rule\t0\t1\natom\t0\n"
  pub two : prints "2\n" ≡ bytes "rule\t0\t2\natom\t0\nuntil\t0\t0\n"
  pub all : prints "64\n" ≡ bytes "rule\t0\t64\natom\t0\n" ++ untils 63
  pub all_accepted : (scan_rule (prints "64\n")).number ≡ 0
  -- "2 for n = 0 or above 64"
  pub none : prints "0\n" ≡ bytes "refused\t2\n"
  pub above : prints "65\n" ≡ bytes "refused\t2\n"
  pub far_above : prints "99999999999999999999\n" ≡ bytes "refused\t2\n"
  -- "1 for other input that isn't one decimal line"
  pub leading_zero : prints "065\n" ≡ bytes "refused\t1\n"
  pub sign : prints "-1\n" ≡ bytes "refused\t1\n"
  pub field : prints "5\t5\n" ≡ bytes "refused\t1\n"
  pub empty_input : prints "" ≡ bytes "refused\t1\n"
  pub empty_line : prints "\n" ≡ bytes "refused\t1\n"
  pub unclosed : prints "5" ≡ bytes "refused\t1\n"
  pub two_lines : prints "5\n5\n" ≡ bytes "refused\t1\n"
  -- 1 before 2: this isn't one line
  pub none_twice : prints "0\n\n" ≡ bytes "refused\t1\n"
  -- "either ending", as of every line
  pub other_ending : prints "2\r\n" ≡ prints "2\n"
  pub return_twice : prints "2\r\r\n" ≡ bytes "refused\t1\n"
  pub unclosed_return : prints "2\r" ≡ bytes "refused\t1\n"
  -- "14 for over 16,384 bytes"
  pub longest : longest_output (replicate max_input_bytes 10) ≡ bytes "refused\t1\n"
  pub too_long : longest_output (replicate 16385 10) ≡ bytes "refused\t14\n"

printed : Printed
unfolding computed input_refusal refusal_text refusal_or longest_text count_refusal count_output longest_output
printed = record {
  one = refl;
  two = refl;
  all = refl;
  all_accepted = refl;
  none = refl;
  above = refl;
  far_above = refl;
  leading_zero = refl;
  sign = refl;
  field = refl;
  empty_input = refl;
  empty_line = refl;
  unclosed = refl;
  two_lines = refl;
  none_twice = refl;
  other_ending = refl;
  return_twice = refl;
  unclosed_return = refl;
  longest = refl;
  too_long = refl;
}
