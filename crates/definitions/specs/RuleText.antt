-- "Rule: `rule`, controller .., node count; then a line per node" (document 01), the controller 0 to 10 (document 02): reading and writing.
use Rattle.std.specs.Prelude.{ℕ, zero, suc, ◌+◌, false, not, ◌||◌, List, [], ◌∷◌, ◌++◌, eqb}
use Rattle.definitions.specs.Limits.{accepted, rule_form, rule_lines}
use Rattle.definitions.specs.Bounded.{pick}
use Rattle.definitions.specs.Nodes.{Kind, True, Atom, Not, Or, Next, Until, Prev, Since, Run, End, Unknown, Node, node, operands, node_word, node_of}
use Rattle.definitions.specs.Tables.{is_unknown, node_refusal, rule_heading_refusal}
use Rattle.definitions.specs.Lines.{bytes, tab, newline, carriage_return, is_empty, has, up_to, after, Parsed, formed, malformed, on_parsed, decimal, same, letters, Heading, two_fields, heading_form, digits, NextLine, on_next, next_line, Scan, stop, more}

-- the word that opens its first line
abbrev pub rule_word : List ℕ
rule_word = bytes "rule"

-- "the kind word, spelt as above": true, atom, not, or, next, until, prev, since, run, end
abbrev pub kind_word : Kind → List ℕ
kind_word True = bytes "true"
kind_word Atom = bytes "atom"
kind_word Not = bytes "not"
kind_word Or = bytes "or"
kind_word Next = bytes "next"
kind_word Until = bytes "until"
kind_word Prev = bytes "prev"
kind_word Since = bytes "since"
kind_word Run = bytes "run"
kind_word End = bytes "end"
kind_word Unknown = []

-- the kind of a word
unfoldable pub word_kind : List ℕ → Kind
word_kind w =
    pick (same w (kind_word True)) True
    (pick (same w (kind_word Atom)) Atom
    (pick (same w (kind_word Not)) Not
    (pick (same w (kind_word Or)) Or
    (pick (same w (kind_word Next)) Next
    (pick (same w (kind_word Until)) Until
    (pick (same w (kind_word Prev)) Prev
    (pick (same w (kind_word Since)) Since
    (pick (same w (kind_word Run)) Run
    (pick (same w (kind_word End)) End Unknown)))))))))

-- "a kind word is one or more letters a to z"; "after an unknown kind word any fields without byte 13 do"
unfoldable pub unknown_form : List ℕ → Parsed Node
unknown_form s =
    pick (is_empty (up_to tab s) || not (letters (up_to tab s)) || has carriage_return s) malformed (formed (node Unknown 0 0))

-- "the kind word, spelt as above, and its operands, decimal"
unfoldable pub operands_form : Kind → List ℕ → Parsed Node
operands_form k s =
    pick (eqb (operands k) 0) (pick (has tab s) malformed (formed (node k 0 0)))
    (pick (has tab s)
    (pick (eqb (operands k) 1)
    (on_parsed (decimal (after tab s)) malformed (λ a. formed (node k a 0)))
    (two_fields decimal decimal (node k) (after tab s)))
    malformed)

-- a node line
unfoldable pub node_form : List ℕ → Parsed Node
node_form s = pick (is_unknown (word_kind (up_to tab s))) (unknown_form s) (operands_form (word_kind (up_to tab s)) s)

-- the next line, as that of node i
abbrev pub node_line : ℕ → List ℕ → NextLine Node
node_line i t = next_line rule_lines rule_form node_form (node_refusal false i) t

-- so many node lines, from node i on, and then the end: "a line missing or one too many"
unfoldable pub scan_nodes : (lines i : ℕ) → List ℕ → Scan
scan_nodes zero i t = stop (pick (is_empty t) accepted rule_lines) t
scan_nodes (suc lines) i t =
    on_next (node_line i t) (λ number. stop number t) (λ n rest. more (node_word n) (scan_nodes lines (i + 1) rest))

-- the first line: `rule`, controller, node count
abbrev pub rule_heading : List ℕ → Parsed Heading
rule_heading s = heading_form rule_word s

-- the next line, as the first of a rule
abbrev pub rule_heading_line : List ℕ → NextLine Heading
rule_heading_line t = next_line rule_lines rule_form rule_heading (λ h. rule_heading_refusal h.first h.second) t

-- what reading a rule text gives: the refusal or 0, controller, count and node words, and the text from the refused line on
pub record RuleScan : Type 0 where
  pub number : ℕ
  pub controller : ℕ
  pub count : ℕ
  pub words : List ℕ
  pub rest : List ℕ

-- a reading that stops at its first line
abbrev pub rule_stop : ℕ → List ℕ → RuleScan
rule_stop number t = record { number = number; controller = 0; count = 0; words = []; rest = t }

-- what the node lines gave, after the heading
abbrev pub rule_nodes : Heading → Scan → RuleScan
rule_nodes h s = record { number = s.number; controller = h.first; count = h.second; words = s.words; rest = s.rest }

-- reading a rule text
unfoldable pub scan_rule : List ℕ → RuleScan
scan_rule t = on_next (rule_heading_line t) (λ number. rule_stop number t) (λ h rest. rule_nodes h (scan_nodes h.second 0 rest))

-- the line of a node, without byte 10
unfoldable pub node_text : Node → List ℕ
node_text n =
    pick (eqb (operands n.kind) 0) (kind_word n.kind)
    (pick (eqb (operands n.kind) 1) (kind_word n.kind ++ (tab ∷ digits n.first))
    (kind_word n.kind ++ (tab ∷ (digits n.first ++ (tab ∷ digits n.second)))))

-- the node lines
unfoldable pub nodes_text : List ℕ → List ℕ
nodes_text [] = []
nodes_text (w ∷ ws) = node_text (node_of w) ++ (newline ∷ nodes_text ws)

-- "A writer gives this text from an accepted table"
unfoldable pub rule_text : (controller count : ℕ) (ws : List ℕ) → List ℕ
rule_text controller count ws = rule_word ++ (tab ∷ (digits controller ++ (tab ∷ (digits count ++ (newline ∷ nodes_text ws)))))
