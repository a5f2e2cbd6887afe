-- "The rule that grows most" (document 02): the rule, how long a rewritten table can be, and what the program `longest` prints.
use Rattle.std.specs.Prelude.{ℕ, ◌+◌, ◌-◌, ◌*◌, List, ◌∷◌, map, replicate}
use Rattle.definitions.specs.Limits.{accepted, max_rule_nodes, rule_form, rule_limits}
use Rattle.definitions.specs.Bounded.{pick, within}
use Rattle.definitions.specs.Nodes.{Atom, Until, Node, node, node_word}
use Rattle.definitions.specs.Tables.{Rule, rule_of}
use Rattle.definitions.specs.Lines.{line_of, on_parsed, decimal}
use Rattle.definitions.specs.RuleText.{rule_text}
use Rattle.definitions.specs.LinePrograms.{input_refusal, refusal_text, refusal_or}

-- "`atom 0` and n-1 lines `until 0 0`"
abbrev pub longest_nodes : (n : ℕ) → List Node
longest_nodes n = node Atom 0 0 ∷ replicate (n - 1) (node Until 0 0)

-- "`rule 0 n`"
abbrev pub longest_rule : (n : ℕ) → Rule
longest_rule n = rule_of 0 n (map node_word (longest_nodes n))

-- "the rule text `rule 0 n`, `atom 0` and n-1 lines `until 0 0`, tabs as ever"
unfoldable pub longest_text : (n : ℕ) → List ℕ
longest_text n = rule_text 0 n (map node_word (longest_nodes n))

-- "the longest of all rules with n nodes under any masks: 13 + 11 times n nodes"
abbrev pub most_nodes : (n : ℕ) → ℕ
most_nodes n = 13 + 11 * n

-- "2 for n = 0 or above 64"
unfoldable pub count_refusal : (n : ℕ) → ℕ
count_refusal n = pick (within 1 max_rule_nodes n) accepted rule_limits

-- what is printed of the line of the input: "1 for other input that isn't one decimal line"
unfoldable pub count_output : (line : List ℕ) → List ℕ
count_output line = on_parsed (decimal line) (refusal_text rule_form) (λ n. refusal_or (count_refusal n) (longest_text n))

-- "a program that reads n and prints the rule text": from the bytes of standard input to the bytes printed
unfoldable pub longest_output : (input : List ℕ) → List ℕ
longest_output input = refusal_or (input_refusal input) (count_output (line_of input))
