-- "The rule that grows most": its plain table has the most nodes that a rule of so many nodes can have, and the text that is printed reads as it.
use mathlib.Core.Path.{◌≡◌, refl, ap, sym, ◌∙◌}
use Prim.Native.Nat.{ℕ, zero, suc, ◌+◌, ◌-◌, ◌*◌, ◌≤◌, ◌<◌}
use native.Mathlib.Omega.{arith}
use mathlib.Core.Bool.{Bool, false, ◌&&◌}
use mathlib.Core.List.{List, [], ◌∷◌, ◌++◌, map, append_assoc}
use lib.ListN.{length, take, replicate, length-replicate, length-map, length-append}
use lib.Seq.{take_all}
use lib.Dec.{ltb}
use borrow.Author.Tests.{eqb-true, le-leb, lt-leb, le-ltb}
use Rattle.definitions.specs.Limits.{accepted, max_rule_nodes, max_input_bytes, rule_form, input_long}
use Rattle.definitions.specs.Bounded.{bit_of, pick, or_else}
use Rattle.definitions.specs.Nodes.{Atom, Until, Node, node, node_word, node_of, kind_of}
use Rattle.definitions.specs.Tables.{Rule, node_refusal, nodes_refusal, rule_heading_refusal, rule_refusal, nodes_in}
use Rattle.definitions.specs.Rewriting.{Draft, step, rewriting}
use Rattle.definitions.specs.RuleText.{scan_rule}
use Rattle.definitions.specs.Lines.{newline, carriage_return, is_empty, is_closed, line_of, rest_of, formed, on_parsed, decimal, digits}
use Rattle.definitions.specs.Operations.{rewritten_of}
use Rattle.definitions.specs.LinePrograms.{input_refusal, refusal_or}
use Rattle.definitions.specs.Longest.{longest_nodes, longest_rule, longest_text, most_nodes, count_refusal, count_output, longest_output}
use Rattle.theorems.proofs.Choice.{none_or_else, both_true, refuse_no, accept_yes}
use Rattle.theorems.proofs.SplitLaws.{Without, without_one, without_append, split_found, split_rest}
use Rattle.theorems.proofs.EndingLaws.{Unbroken, line_split, line_returned, by_ending}
use Rattle.theorems.proofs.DecimalLaws.{digits_without, two_digits, printed_reads, read_prints}
use Rattle.theorems.proofs.RuleNodes.{rule_some}
use Rattle.theorems.proofs.Counts.{cost, costs, opened, rewriting_count}
use Rattle.theorems.proofs.RewrittenAccepted.{rewritten_most}
use Rattle.theorems.proofs.RoundTrips.{written_then_read}

-- ---- its tables
untils_cost : (mask : ℕ) (D : Draft) (m : ℕ) → costs false mask D (replicate m (node Until 0 0)) ≡ 11 * m
unfolding pick
untils_cost mask D zero = omega arith
untils_cost mask D (suc m) = omega (arith, untils_cost mask (step false mask D (node Until 0 0)) m)

-- "Its plain table, with atom 0 foreign .. 13 + 11 times n nodes"
longest_count : (mask n : ℕ) → bit_of mask 0 ≡ false → 0 < n → length (rewriting false mask (longest_nodes n)).nodes ≡ most_nodes n
unfolding pick
longest_count mask n foreign h =
    let first : cost false mask [] Atom 0 0 ≡ 5 = rw foreign in
    omega (
      arith,
      rewriting_count false mask (longest_nodes n),
      untils_cost mask (step false mask opened (node Atom 0 0)) (n - 1),
    )

-- ---- it is accepted
until_accepted : (i : ℕ) → 0 < i → node_refusal false i (node Until 0 0) ≡ 0
unfolding node_refusal pick
until_accepted i h = rw (lt-leb i 0 h)

untils_accepted : (i m : ℕ) → 0 < i → nodes_refusal false i m (map node_word (replicate m (node Until 0 0))) ≡ 0
unfolding nodes_refusal kind_of pick
untils_accepted i zero h = refl
untils_accepted i (suc m) h =
    none_or_else (node_refusal false i (node Until 0 0)) (nodes_refusal false (i + 1) m (map node_word (replicate m (node Until 0 0)))) (until_accepted i h)
    (untils_accepted (i + 1) m (omega arith))

nodes_accepted : (m : ℕ) → nodes_refusal false 0 (suc m) (map node_word (node Atom 0 0 ∷ replicate m (node Until 0 0))) ≡ 0
unfolding nodes_refusal node_refusal or_else kind_of pick
nodes_accepted m = untils_accepted 1 m (omega arith)

heading_accepted : (n : ℕ) → 0 < n → n ≤ max_rule_nodes → rule_heading_refusal 0 n ≡ 0
unfolding rule_heading_refusal pick
heading_accepted n h l = rw (le-leb 1 n h, le-leb n max_rule_nodes l)

pub longest_accepted : (n : ℕ) → 0 < n → n ≤ max_rule_nodes → rule_refusal (longest_rule n) ≡ 0
unfolding rule_refusal
longest_accepted zero h l = absurd (omega arith)
longest_accepted (suc m) h l =
    let e : suc m - 1 ≡ m = omega arith in
    none_or_else (rule_heading_refusal 0 (suc m)) (nodes_refusal false 0 (suc m) (map node_word (longest_nodes (suc m)))) (heading_accepted (suc m) h l)
    (rw e (nodes_accepted m))

longest_length : (n : ℕ) → 0 < n → length (map node_word (longest_nodes n)) ≡ n
longest_length n h = omega (arith, length-map (longest_nodes n) node_word, length-replicate (n - 1) (node Until 0 0))

longest_words : (n : ℕ) → 0 < n → take n (map node_word (longest_nodes n)) ≡ map node_word (longest_nodes n)
longest_words n h = take_all n (map node_word (longest_nodes n)) (omega (arith, longest_length n h))

-- the text that is printed reads as the rule
pub longest_read : (n : ℕ) → 0 < n → n ≤ max_rule_nodes
    → scan_rule (longest_text n) ≡ record { number = 0; controller = 0; count = n; words = map node_word (longest_nodes n); rest = [] }
unfolding longest_text
longest_read n h l = rw (longest_words n h) at (written_then_read (longest_rule n) (longest_accepted n h l))

-- ---- the tables of the rule, as it is held
untils_back : (m : ℕ) → map node_of (map node_word (replicate m (node Until 0 0))) ≡ replicate m (node Until 0 0)
unfolding kind_of pick
untils_back zero = refl
untils_back (suc m) = ap (λ (l : List Node). node Until 0 0 ∷ l) (untils_back m)

nodes_back : (n : ℕ) → 0 < n → nodes_in n (map node_word (longest_nodes n)) ≡ longest_nodes n
unfolding kind_of pick
nodes_back n h = ap (map node_of) (longest_words n h) ∙ ap (λ (l : List Node). node Atom 0 0 ∷ l) (untils_back (n - 1))

-- "with atom 0 foreign": its plain table
pub longest_table : (mask n : ℕ) → bit_of mask 0 ≡ false → 0 < n → length (rewritten_of false (longest_rule n) mask).nodes ≡ most_nodes n
longest_table mask n foreign h = ap (λ (l : List Node). length (rewriting false mask l).nodes) (nodes_back n h) ∙ longest_count mask n foreign h

-- "24 for n = 1 and 717 for n = 64"
pub longest_of_one : length (rewritten_of false (longest_rule 1) 0).nodes ≡ 24
unfolding bit_of
longest_of_one = longest_table 0 1 refl (omega arith)

pub longest_of_all : length (rewritten_of false (longest_rule max_rule_nodes) 0).nodes ≡ 717
unfolding bit_of
longest_of_all = longest_table 0 max_rule_nodes refl (omega arith)

-- "the longest of all rules with n nodes under any masks": no table of an accepted rule, plain or short, has more nodes
pub none_longer : (short : Bool) (r : Rule) (mask foreign : ℕ) → rule_refusal r ≡ 0 → bit_of foreign 0 ≡ false
    → length (rewritten_of short r mask).nodes ≤ length (rewritten_of false (longest_rule r.count) foreign).nodes
none_longer short r mask foreign h f = omega (arith, rewritten_most short r mask h, longest_table foreign r.count f (rule_some r h))

-- ---- the program
no_bytes_lem : (l : List ℕ) → length l ≡ 0 → l ≡ []
no_bytes_lem [] h = refl
no_bytes_lem (x ∷ l) h = absurd (omega arith)

-- a line without byte 10, byte 10 and nothing more are an input of one line
line_accepted : (line : List ℕ) → Without newline line → length line < max_input_bytes → input_refusal (line ++ (newline ∷ [])) ≡ accepted
unfolding input_refusal pick
line_accepted line w l =
    rw (
      le-ltb max_input_bytes (length (line ++ (newline ∷ []))) (omega (arith, length-append line (newline ∷ []))),
      split_found newline [] line w,
      split_rest newline [] line w,
    )

digits_unbroken : (n : ℕ) → Unbroken (digits n)
digits_unbroken n = record { newlines = digits_without newline n (omega arith); returns = digits_without carriage_return n (omega arith) }

-- every n from 1 to 64 is answered with the text of its rule
module _ (n : ℕ) (some : 0 < n) (few : n ≤ max_rule_nodes) where
  of_digits : count_output (digits n) ≡ longest_text n
  unfolding count_output count_refusal refusal_or pick on_parsed
  of_digits = rw (printed_reads n, le-leb 1 n some, le-leb n max_rule_nodes few)

  of_input : (input : List ℕ) → input_refusal input ≡ accepted → line_of input ≡ digits n → longest_output input ≡ longest_text n
  unfolding longest_output refusal_or pick
  of_input input a l = rw (a, l) of_digits

  pub longest_answered : longest_output (digits n ++ (newline ∷ [])) ≡ longest_text n
  longest_answered =
      of_input (digits n ++ (newline ∷ [])) (line_accepted (digits n) (digits_unbroken n).newlines (omega (arith, two_digits n (omega arith))))
      (line_split (digits n) [] (digits_unbroken n))

  pub longest_answered_returned : longest_output (digits n ++ (carriage_return ∷ newline ∷ [])) ≡ longest_text n
  longest_answered_returned =
      let l = digits n ++ (carriage_return ∷ []) in
      let e : l ++ (newline ∷ []) ≡ digits n ++ (carriage_return ∷ newline ∷ []) = append_assoc (digits n) (carriage_return ∷ []) (newline ∷ []) in
      let w = without_append newline (digits n) (carriage_return ∷ []) (digits_unbroken n).newlines (without_one newline carriage_return (omega arith)) in
      of_input (digits n ++ (carriage_return ∷ newline ∷ []))
      (rw e at (line_accepted l w (omega (arith, length-append (digits n) (carriage_return ∷ []), two_digits n (omega arith)))))
      (line_returned (digits n) [] (digits_unbroken n))

-- an input of one decimal line is a printed number and one of the two endings
pub one_decimal_line : {P : Type 0} (input : List ℕ) (n : ℕ) → input_refusal input ≡ accepted → decimal (line_of input) ≡ formed n
    → (input ≡ digits n ++ (newline ∷ []) → P) → (input ≡ digits n ++ (carriage_return ∷ newline ∷ []) → P) → P
unfolding input_refusal
one_decimal_line input n a e f g =
    let p = refuse_no (ltb max_input_bytes (length input)) input_long _ (omega arith) a in
    let q = both_true (is_closed input) (is_empty (rest_of input)) (accept_yes (is_closed input && is_empty (rest_of input)) rule_form (omega arith) p.1) in
    let none : rest_of input ≡ [] = no_bytes_lem (rest_of input) (eqb-true (length (rest_of input)) 0 q.1) in
    let line : line_of input ≡ digits n = sym (read_prints (line_of input) n e) in
    by_ending input q.0 (λ t. f (rw (line, none) at t)) (λ t. g (rw (line, none) at t))
