-- "Rules in one line" (document 02): what reading such a rule answers, and the program that makes a rule text of it.
use Rattle.std.specs.Prelude.{ℕ, ◌||◌, List, [], ◌∷◌, map, length, ltb, leb}
use Rattle.definitions.specs.Limits.{accepted, max_controllers, atom_count, max_rule_nodes, max_line_bytes, max_open_brackets, rule_form, rule_limits, lent_short, line_form, brackets_deep}
use Rattle.definitions.specs.Bounded.{pick}
use Rattle.definitions.specs.Nodes.{Node, node_word}
use Rattle.definitions.specs.Lines.{tab, has, up_to, after, line_of, on_parsed, decimal}
use Rattle.definitions.specs.RuleText.{rule_text}
use Rattle.definitions.specs.Operations.{Answer, answer, too_short, left}
use Rattle.definitions.specs.LinePrograms.{input_refusal, refusal_text, refusal_or}
use Rattle.definitions.specs.OneLineSigns.{Sign}
use Rattle.definitions.specs.OneLineGrammar.{Tree, open_at_once}
use Rattle.definitions.specs.OneLineNodes.{nodes_of, largest_atom}
use Rattle.definitions.specs.OneLineReading.{signs_of, tree_of}

-- "16, a sentence with over 16 brackets open at once; then 2, over 64 nodes, an atom above 31 or a controller above its limit"
unfoldable pub sentence_refusal : (controller : ℕ) (s : List Sign) (t : Tree) → ℕ
sentence_refusal controller s t =
    pick (ltb max_open_brackets (open_at_once s)) brackets_deep
    (pick (ltb max_rule_nodes (length (nodes_of t)) || leb atom_count (largest_atom t) || leb max_controllers controller) rule_limits accepted)

-- "15, over 1,024 bytes or no sentence of the grammar"
unfoldable pub line_refusal : (controller : ℕ) (line : List ℕ) → ℕ
line_refusal controller line =
    pick (ltb max_line_bytes (length line)) line_form
    (on_parsed (signs_of line) line_form (λ s. on_parsed (tree_of s) line_form (sentence_refusal controller s)))

-- the nodes of a line, none where it is no sentence
unfoldable pub line_nodes : (line : List ℕ) → List Node
line_nodes line = on_parsed (signs_of line) [] (λ s. on_parsed (tree_of s) [] nodes_of)

-- read a rule in one line, "the controller is given beside the line": 13, then the line
unfoldable pub read_line_number : (controller : ℕ) (line nodes : List ℕ) → ℕ
read_line_number controller line nodes = pick (too_short max_rule_nodes nodes) lent_short (line_refusal controller line)

-- its answer: controller and count
unfoldable pub read_line_answer : (controller : ℕ) (line nodes : List ℕ) → Answer
read_line_answer controller line nodes = answer (read_line_number controller line nodes) (controller ∷ length (line_nodes line) ∷ [])

-- its lent nodes
unfoldable pub read_line_nodes : (controller : ℕ) (line nodes : List ℕ) → List ℕ
read_line_nodes controller line nodes = left (read_line_number controller line nodes) max_rule_nodes (map node_word (line_nodes line)) nodes

-- what the program prints of a controller and a rule: the rule text, or the refusal
unfoldable pub line_output : (controller : ℕ) (line : List ℕ) → List ℕ
line_output controller line =
    refusal_or (line_refusal controller line) (rule_text controller (length (line_nodes line)) (map node_word (line_nodes line)))

-- what it prints of the line of its input: the controller, a tab, the rule
unfoldable pub typed_output : (typed : List ℕ) → List ℕ
typed_output typed =
    pick (has tab typed) (on_parsed (decimal (up_to tab typed)) (refusal_text rule_form) (λ c. line_output c (after tab typed))) (refusal_text rule_form)

-- the program, from the bytes of standard input to the bytes printed: the input is one line and its end
unfoldable pub rule_output : (input : List ℕ) → List ℕ
rule_output input = refusal_or (input_refusal input) (typed_output (line_of input))
