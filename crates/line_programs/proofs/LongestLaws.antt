-- Laws of the program `longest`: one for each return.
use mathlib.Core.Path.{◌≡◌, refl, sym, ap, ◌∙◌}
use Prim.Native.Nat.{ℕ, zero, suc, ◌-◌, ◌<◌, ◌≤◌}
use native.Mathlib.Omega.{arith}
use mathlib.Core.Bool.{true, false}
use mathlib.Core.List.{List, ◌∷◌, map}
use lib.ListN.{take, set, replicate}
use lib.Dec.{leb}
use denote.Ref.{Bor}
use borrow.Author.Tests.{leb-true}
use Rattle.std.specs.Prelude.{Option, Result, Ok, Err}
use Rattle.std.specs.Option.{ok_or}
use Rattle.definitions.specs.Limits.{max_rule_nodes}
use Rattle.definitions.specs.Bounded.{pick, within, or_else}
use Rattle.definitions.specs.Nodes as table
use Rattle.definitions.specs.Nodes.{Atom, Until, node, node_word}
use Rattle.definitions.specs.Tables.{rule_of, rule_heading_refusal, rule_refusal}
use Rattle.definitions.specs.Lines.{on_parsed, decimal}
use Rattle.definitions.specs.LinePrograms.{input_refusal, refusal_text, refusal_or}
use Rattle.definitions.specs.Longest.{longest_nodes, longest_rule, longest_text, count_refusal, count_output, longest_output}
use Rattle.theorems.proofs.Choice.{by_test, both_true}
use Rattle.theorems.proofs.RoundTrips.{same_accepted}
use Rattle.theorems.proofs.Longest.{longest_accepted}
use Rattle.rules.specs.Refusals.{number_of}
use Rattle.rules.specs.declared.refusal.Refusal.{Refusal}
use Rattle.rules.specs.declared.refusal.Refusal.TheVariants.{RuleForm}
use Rattle.fields.specs.Fields.{cap, capped}
use Rattle.fields.proofs.FieldLaws.{cap_exact, cap_within_limits, taken_none, capped_read}
use Rattle.lines.proofs.ToldLaws.{some_given, none_given}
use Rattle.line_programs.specs.Printing.{OnlyLineOf, Written}
use Rattle.line_programs.specs.declared.input.RefusedInput.{RefusedInput}
use Rattle.line_programs.proofs.PrintLaws.{or_refused, written_of, input_whole}

-- ---- `write_count`
take_replicate : (m k x : ℕ) → m ≤ k → take m (replicate k x) ≡ replicate m x
take_replicate zero k x h = refl
take_replicate (suc m) zero x h = absurd (omega arith)
take_replicate (suc m) (suc k) x h = ap (λ (l : List ℕ). x ∷ l) (take_replicate m k x (omega arith))

map_replicate : (m : ℕ) (n : table.Node) → map node_word (replicate m n) ≡ replicate m (node_word n)
map_replicate zero n = refl
map_replicate (suc m) n = ap (λ (l : List ℕ). node_word n ∷ l) (map_replicate m n)

-- the first n of an atom and k untils are those of the rule
first_nodes : (n k : ℕ) → 0 < n → n ≤ suc k
    → take n (node_word (table.node Atom 0 0) ∷ replicate k (node_word (table.node Until 0 0))) ≡ map node_word (longest_nodes n)
first_nodes zero k h l = absurd (omega arith)
first_nodes (suc m) k h l =
    let e : suc m - 1 ≡ m = omega arith in
    rw e (ap (λ (ws : List ℕ). node_word (table.node Atom 0 0) ∷ ws)
    (take_replicate m k (node_word (table.node Until 0 0)) (omega arith) ∙ sym (map_replicate m (table.node Until 0 0))))

-- nodes that begin as the rule does
abbrev Begins : List ℕ → Type 0
Begins ws = (n : ℕ) → 0 < n → n ≤ max_rule_nodes → take n ws ≡ map node_word (longest_nodes n)

module _ (ws : List ℕ) (begins : Begins ws) (n : ℕ) where
  inside : within 1 max_rule_nodes n ≡ true → written_of (rule_of 0 n ws) ≡ refusal_or (count_refusal n) (longest_text n)
  unfolding count_refusal longest_text pick
  inside e =
      let b = both_true (leb 1 n) (leb n max_rule_nodes) e in
      let some = leb-true 1 n b.0 in
      let few = leb-true n max_rule_nodes b.1 in
      let t = begins n some few in
      rw (same_accepted (longest_rule n) ws t (longest_accepted n some few), t, e)

  outside : within 1 max_rule_nodes n ≡ false → written_of (rule_of 0 n ws) ≡ refusal_or (count_refusal n) (longest_text n)
  unfolding rule_refusal rule_heading_refusal count_refusal refusal_or or_else pick
  outside e = rw e

  rule_of_count : written_of (rule_of 0 n ws) ≡ refusal_or (count_refusal n) (longest_text n)
  rule_of_count = by_test (within 1 max_rule_nodes n) inside outside

-- a count that a field tells up to its largest number is refused as it is
cap_count : (n : ℕ) → refusal_or (count_refusal (cap n)) (longest_text (cap n)) ≡ refusal_or (count_refusal n) (longest_text n)
unfolding count_refusal refusal_or pick
cap_count n =
    let c : within 1 max_rule_nodes (cap n) ≡ within 1 max_rule_nodes n = cap_within_limits 1 max_rule_nodes n (omega arith) (omega arith) in
    by_test (within 1 max_rule_nodes (cap n))
    (λ e. let b = both_true (leb 1 (cap n)) (leb (cap n) max_rule_nodes) e in
    let x : cap n ≡ n = cap_exact n (omega (arith, leb-true (cap n) max_rule_nodes b.1)) in
    ap (λ (m : ℕ). refusal_or (count_refusal m) (longest_text m)) x)
    (λ e. rw (e, sym c ∙ e))

module _ (line : List ℕ) (f : Option ℕ) (is : f ≡ capped (decimal line)) where
  -- `write_count`, `count_output`: no decimal number
  pub count_malformed : (e : Refusal) → Err e ≡ ok_or f RuleForm → count_output line ≡ refusal_text (number_of e)
  unfolding count_output on_parsed
  count_malformed e h =
      let n = none_given f RuleForm e h in
      rw (taken_none cap (decimal line) (sym n.0 ∙ is), n.1)

  module _ (c : ℕ) (h : Ok c ≡ ok_or f RuleForm) (until atom : ℕ) (u : until ≡ node_word (node Until 0 0)) (a : atom ≡ node_word (node Atom 0 0)) where
    abbrev words : List ℕ
    words = set (replicate max_rule_nodes until) 0 atom

    -- `write_count`, `count_output`: so many nodes, or 2
    pub count_written : (w : Result ℕ Refusal) (o : List ℕ) → Written (written_of (rule_of 0 c words)) w o → Written (count_output line) w o
    unfolding count_output on_parsed
    count_written w o p =
        let z = capped_read (decimal line) c (sym (some_given f RuleForm c h) ∙ is) in
        let b : Begins words = λ n l k. rw (u, a) (first_nodes n 63 l k) in
        let q : written_of (rule_of 0 c words) ≡ refusal_or (count_refusal z.number) (longest_text z.number)
        = rule_of_count words b c ∙ (ap (λ (n : ℕ). refusal_or (count_refusal n) (longest_text n)) z.answered ∙ cap_count z.number) in
        rw z.is (rw q at p)

-- ---- `write_input`
module _ (input : List ℕ) where
  -- `write_input`, `longest_output`: a refused input
  pub longest_refused : (e : RefusedInput) → OnlyLineOf input (Err e) → longest_output input ≡ refusal_text (number_of e.refusal)
  unfolding longest_output
  longest_refused e is = or_refused (input_refusal input) _ e.refusal is.number

  -- `write_input`, `longest_output`: its only line
  pub longest_written : (line : Bor (List ℕ)) → OnlyLineOf input (Ok line) → (w : Result ℕ Refusal) (o : List ℕ) → Written (count_output line.now) w o → Written (longest_output input) w o
  unfolding longest_output
  longest_written line is w o p = input_whole input line is count_output w o p
