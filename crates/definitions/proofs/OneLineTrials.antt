-- Trials of rules in one line: for each number, edge and trap of the request.
use mathlib.Core.Path.{◌≡◌, refl}
use Prim.Native.Nat.{ℕ, zero, suc}
use mathlib.Core.List.{List, [], ◌∷◌, ◌++◌, map}
use lib.ListN.{replicate}
use Rattle.definitions.specs.Limits.{max_rule_nodes}
use Rattle.definitions.specs.Bounded.{pick}
use Rattle.definitions.specs.Nodes.{True, Atom, Not, Or, Next, Until, Prev, Since, node, node_word, kind_of}
use Rattle.definitions.specs.Lines as lines
use Rattle.definitions.specs.Lines.{bytes, on_parsed, decimal_on, decimal, digits_by, digits}
use Rattle.definitions.specs.RuleText.{node_text, nodes_text, rule_text}
use Rattle.definitions.specs.Operations.{answer, left}
use Rattle.definitions.specs.LinePrograms.{input_refusal, refusal_text, refusal_or}
use Rattle.definitions.specs.OneLineSigns as sign
use Rattle.definitions.specs.OneLineSigns.{Sign, atom_sign, prefix_sign, infix_sign, open_bracket, close_bracket, Spells, last, next, spaced}
use Rattle.definitions.specs.OneLineGrammar.{atom, prefixed, joined, Sentence, arrow, no_arrow, or, no_or, and, no_and, until, since, no_until, prefix, no_prefix, atom_alone, bracketed, larger, most_open}
use Rattle.definitions.specs.OneLineNodes.{rule_tree_of, size, nodes_from, largest_atom}
use Rattle.definitions.specs.OneLineReading.{past, sign_among, digits_ahead, atom_first, sign_first, after_space, signs_by, signs_of, bracket_closed, operand_by, tree_at_end, tree_of}
use Rattle.definitions.specs.OneLine.{sentence_refusal, line_refusal, line_nodes, read_line_number, read_line_answer, read_line_nodes, line_output, typed_output, rule_output}

-- the word n times
abbrev times : ℕ → List ℕ → List ℕ
times zero w = []
times (suc n) w = w ++ times n w

-- `true` in n brackets
abbrev nested : ℕ → List ℕ
nested n = times n (bytes "(") ++ (bytes "true" ++ times n (bytes ")"))

-- lent nodes that are not zero
abbrev lent : List ℕ
lent = replicate max_rule_nodes 7

-- the signs of `G (a1 -> X a0)`, and of three atoms with two signs between
abbrev its_signs : List Sign
its_signs = prefix_sign sign.Always ∷ open_bracket ∷ atom_sign 1 ∷ infix_sign sign.Implies ∷ prefix_sign sign.Next ∷ atom_sign 0 ∷ close_bracket ∷ []

abbrev three_atoms : sign.Infix → sign.Infix → List Sign
three_atoms x y = atom_sign 0 ∷ infix_sign x ∷ atom_sign 1 ∷ infix_sign y ∷ atom_sign 2 ∷ []

-- derivations in the grammar
pub record Derivations : Type 0 where
  pub spelled : Spells (bytes "G (a1 -> X a0)") its_signs
  pub sentence : Sentence its_signs (prefixed sign.Always (joined sign.Implies (atom 1) (prefixed sign.Next (atom 0))))
  -- "to the right"
  pub arrows : Sentence (three_atoms sign.Implies sign.Implies) (joined sign.Implies (atom 0) (joined sign.Implies (atom 1) (atom 2)))
  pub untils : Sentence (three_atoms sign.Until sign.Since) (joined sign.Until (atom 0) (joined sign.Since (atom 1) (atom 2)))
  pub sinces : Sentence (three_atoms sign.Since sign.Until) (joined sign.Since (atom 0) (joined sign.Until (atom 1) (atom 2)))
  -- "to the left"
  pub ors : Sentence (three_atoms sign.Or sign.Or) (joined sign.Or (joined sign.Or (atom 0) (atom 1)) (atom 2))
  pub ands : Sentence (three_atoms sign.And sign.And) (joined sign.And (joined sign.And (atom 0) (atom 1)) (atom 2))
  -- a prefix binds more tightly than `U`
  pub not_until : Sentence (prefix_sign sign.Not ∷ atom_sign 0 ∷ infix_sign sign.Until ∷ atom_sign 1 ∷ []) (joined sign.Until (prefixed sign.Not (atom 0)) (atom 1))

derivations : Derivations
unfolding digits digits_by pick
derivations = record {
  spelled =
      spaced (prefix_sign sign.Always) (next open_bracket (spaced (atom_sign 1) (spaced (infix_sign sign.Implies) (spaced (prefix_sign sign.Next) (next (atom_sign 0) (last close_bracket))))));
  sentence =
      no_arrow (no_or (no_and (no_until (prefix sign.Always (no_prefix (bracketed
      (arrow (no_or (no_and (no_until (no_prefix (atom_alone 1)))))
      (no_arrow (no_or (no_and (no_until (prefix sign.Next (no_prefix (atom_alone 0))))))))))))));
  arrows =
      arrow (no_or (no_and (no_until (no_prefix (atom_alone 0)))))
      (arrow (no_or (no_and (no_until (no_prefix (atom_alone 1))))) (no_arrow (no_or (no_and (no_until (no_prefix (atom_alone 2)))))));
  untils = no_arrow (no_or (no_and (until (no_prefix (atom_alone 0)) (since (no_prefix (atom_alone 1)) (no_until (no_prefix (atom_alone 2)))))));
  sinces = no_arrow (no_or (no_and (since (no_prefix (atom_alone 0)) (until (no_prefix (atom_alone 1)) (no_until (no_prefix (atom_alone 2)))))));
  ors = no_arrow (or (or (no_or (no_and (no_until (no_prefix (atom_alone 0))))) (no_and (no_until (no_prefix (atom_alone 1))))) (no_and (no_until (no_prefix (atom_alone 2)))));
  ands = no_arrow (no_or (and (and (no_and (no_until (no_prefix (atom_alone 0)))) (no_until (no_prefix (atom_alone 1)))) (no_until (no_prefix (atom_alone 2)))));
  not_until = no_arrow (no_or (no_and (until (prefix sign.Not (no_prefix (atom_alone 0))) (no_until (no_prefix (atom_alone 1))))));
}

-- the nodes of trees
pub record Shapes : Type 0 where
  -- "`G (a1 -> X a0)`": true, atom 1, not, atom 0, next, or, not, until, not
  pub always : line_nodes (bytes "G (a1 -> X a0)")
      ≡ node True 0 0 ∷ node Atom 1 0 ∷ node Not 1 0 ∷ node Atom 0 0 ∷ node Next 3 0 ∷ node Or 2 4 ∷ node Not 5 0 ∷ node Until 0 6 ∷ node Not 7 0 ∷ []
  -- "`U` and `S` (to the right, alike in strength)"
  pub untils : line_nodes (bytes "a0 U a1 S a2") ≡ node Atom 0 0 ∷ node Atom 1 0 ∷ node Atom 2 0 ∷ node Since 1 2 ∷ node Until 0 3 ∷ []
  pub sinces : line_nodes (bytes "a0 S a1 U a2") ≡ node Atom 0 0 ∷ node Atom 1 0 ∷ node Atom 2 0 ∷ node Until 1 2 ∷ node Since 0 3 ∷ []
  -- "`->` (to the right)", "`p -> q` is `!p|q`"
  pub arrows : line_nodes (bytes "a0 -> a1 -> a2") ≡ node Atom 0 0 ∷ node Not 0 0 ∷ node Atom 1 0 ∷ node Not 2 0 ∷ node Atom 2 0 ∷ node Or 3 4 ∷ node Or 1 5 ∷ []
  -- "`|` (to the left)"
  pub ors : line_nodes (bytes "a0 | a1 | a2") ≡ node Atom 0 0 ∷ node Atom 1 0 ∷ node Or 0 1 ∷ node Atom 2 0 ∷ node Or 2 3 ∷ []
  -- "`&` (to the left)", "`p & q` is `!(!p|!q)`"
  pub ands : line_nodes (bytes "a0 & a1") ≡ node Atom 0 0 ∷ node Not 0 0 ∷ node Atom 1 0 ∷ node Not 2 0 ∷ node Or 1 3 ∷ node Not 4 0 ∷ []
  pub ands_left : line_nodes (bytes "a0 & a1 & a2") ≡ line_nodes (bytes "(a0 & a1) & a2")
  -- a prefix binds more tightly than `U`
  pub not_until : line_nodes (bytes "!a0 U a1") ≡ node Atom 0 0 ∷ node Not 0 0 ∷ node Atom 1 0 ∷ node Until 1 2 ∷ []
  -- "Loosest first"
  pub loosest : line_nodes (bytes "a0 -> a1 | a2 & a3 U a4") ≡ line_nodes (bytes "a0 -> (a1 | (a2 & (a3 U a4)))")
  pub tightest : line_nodes (bytes "a0 U a1 & a2 | a3 -> a4") ≡ line_nodes (bytes "(((a0 U a1) & a2) | a3) -> a4")
  -- "`F p` becomes true, p, until"; next and prev
  pub eventually : line_nodes (bytes "F Y X true") ≡ node True 0 0 ∷ node True 0 0 ∷ node Next 1 0 ∷ node Prev 2 0 ∷ node Until 0 3 ∷ []

shapes : Shapes
unfolding pick lines.before lines.newline_next lines.is_return lines.line_length on_parsed decimal_on decimal digits_by digits larger most_open rule_tree_of size nodes_from largest_atom past sign_among digits_ahead atom_first sign_first after_space signs_by signs_of bracket_closed operand_by tree_at_end tree_of sentence_refusal line_refusal line_nodes
shapes = record {
  always = refl;
  untils = refl;
  sinces = refl;
  arrows = refl;
  ors = refl;
  ands = refl;
  ands_left = refl;
  not_until = refl;
  loosest = refl;
  tightest = refl;
  eventually = refl;
}

-- the numbers, and the edges of their limits
pub record Numbers : Type 0 where
  -- "Single spaces may stand between signs", and none have to
  pub unspaced : line_refusal 0 (bytes "GFa0U trueUtrue") ≡ 0
  pub two_spaces : line_refusal 0 (bytes "a0  U a1") ≡ 15
  pub space_first : line_refusal 0 (bytes " a0") ≡ 15
  pub space_last : line_refusal 0 (bytes "a0 ") ≡ 15
  pub space_inside : line_refusal 0 (bytes "a 0") ≡ 15
  -- "`->`, `true` and `a` with its number are one sign each"
  pub space_in_arrow : line_refusal 0 (bytes "a0 - > a1") ≡ 15
  -- "the number has no leading zeros"
  pub leading_zero : line_refusal 0 (bytes "a01") ≡ 15
  pub empty_line : line_refusal 0 [] ≡ 15
  -- a line's end is no sign
  pub line_end : line_refusal 0 (bytes "a0\n") ≡ 15
  -- a sign too many, a bracket not closed
  pub trailing : line_refusal 0 (bytes "a0 a1") ≡ 15
  pub unclosed : line_refusal 0 (bytes "(a0") ≡ 15
  -- "at most 16 deep"
  pub brackets16 : line_refusal 0 (nested 16) ≡ 0
  pub brackets17 : line_refusal 0 (nested 17) ≡ 16
  -- 15 goes before 16 and before 2, 16 before 2
  pub brackets17_no_sentence : line_refusal 0 (nested 17 ++ bytes ")") ≡ 15
  pub high_atom_no_sentence : line_refusal 0 (bytes "a32 |") ≡ 15
  pub brackets17_high_atom : line_refusal 0 (times 17 (bytes "(") ++ (bytes "a32" ++ times 17 (bytes ")"))) ≡ 16
  -- brackets that are closed again are not open
  pub brackets_apart : line_refusal 0 (nested 16 ++ (bytes "|" ++ nested 16)) ≡ 0
  -- "over 64 nodes": counted in nodes, not in signs
  pub nodes64 : line_refusal 0 (times 63 (bytes "!") ++ bytes "a0") ≡ 0
  pub nodes65 : line_refusal 0 (times 64 (bytes "!") ++ bytes "a0") ≡ 2
  pub nodes65_in_few_signs : line_refusal 0 (times 16 (bytes "G") ++ bytes "a0") ≡ 2
  -- "an atom above 31", by a number of any length
  pub atom31 : line_refusal 0 (bytes "a31") ≡ 0
  pub atom32 : line_refusal 0 (bytes "a32") ≡ 2
  pub atom_long : line_refusal 0 (bytes "a4294967296") ≡ 2
  -- "a controller above its limit"
  pub controller10 : line_refusal 10 (bytes "a0") ≡ 0
  pub controller11 : line_refusal 11 (bytes "a0") ≡ 2
  pub controller11_no_sentence : line_refusal 11 (bytes "(") ≡ 15
  -- "over 1,024 bytes"
  pub bytes1024 : line_refusal 0 (times 13 (nested 16 ++ bytes " | ") ++ (times 13 (nested 16 ++ bytes "|") ++ nested 16)) ≡ 0
  pub bytes1025 : line_refusal 0 (times 13 (nested 16 ++ bytes " | ") ++ (nested 16 ++ (bytes " |" ++ (times 12 (nested 16 ++ bytes "|") ++ nested 16)))) ≡ 15

numbers : Numbers
unfolding pick lines.before lines.newline_next lines.is_return lines.line_length on_parsed decimal_on decimal digits_by digits larger most_open rule_tree_of size nodes_from largest_atom past sign_among digits_ahead atom_first sign_first after_space signs_by signs_of bracket_closed operand_by tree_at_end tree_of sentence_refusal line_refusal line_nodes
numbers = record {
  unspaced = refl;
  two_spaces = refl;
  space_first = refl;
  space_last = refl;
  space_inside = refl;
  space_in_arrow = refl;
  leading_zero = refl;
  empty_line = refl;
  line_end = refl;
  trailing = refl;
  unclosed = refl;
  brackets16 = refl;
  brackets17 = refl;
  brackets17_no_sentence = refl;
  high_atom_no_sentence = refl;
  brackets17_high_atom = refl;
  brackets_apart = refl;
  nodes64 = refl;
  nodes65 = refl;
  nodes65_in_few_signs = refl;
  atom31 = refl;
  atom32 = refl;
  atom_long = refl;
  controller10 = refl;
  controller11 = refl;
  controller11_no_sentence = refl;
  bytes1024 = refl;
  bytes1025 = refl;
}

-- the operation and the program
pub record Answers : Type 0 where
  pub accepts : read_line_answer 3 (bytes "!a0") lent ≡ answer 0 (3 ∷ 2 ∷ [])
  pub accepted_nodes : read_line_nodes 3 (bytes "!a0") (lent ++ (9 ∷ [])) ≡ map node_word (node Atom 0 0 ∷ node Not 0 0 ∷ []) ++ (replicate 62 0 ++ (9 ∷ []))
  pub refuses : read_line_answer 3 (bytes "!") lent ≡ answer 15 []
  pub refused_nodes : read_line_nodes 3 (bytes "!") (lent ++ (9 ∷ [])) ≡ replicate 64 0 ++ (9 ∷ [])
  -- after 16 and after 2 as after 15
  pub refused_nodes_deep : read_line_nodes 3 (nested 17) (lent ++ (9 ∷ [])) ≡ replicate 64 0 ++ (9 ∷ [])
  pub refused_nodes_high : read_line_nodes 3 (bytes "a32") (lent ++ (9 ∷ [])) ≡ replicate 64 0 ++ (9 ∷ [])
  -- 13 before 15, and nothing is touched
  pub lent_short : read_line_answer 3 (bytes "!") (replicate 63 7) ≡ answer 13 []
  pub untouched : read_line_nodes 3 (bytes "!") (replicate 63 7) ≡ replicate 63 7
  pub printed : rule_output (bytes "2\tX a31\n") ≡ bytes "rule\t2\t2\natom\t31\nnext\t0\n"
  pub refused : rule_output (bytes "2\tX a31 )\n") ≡ bytes "refused\t15\n"
  pub no_line : rule_output (bytes "2\tX a31") ≡ bytes "refused\t1\n"
  pub two_lines : rule_output (bytes "2\tX a31\n\n") ≡ bytes "refused\t1\n"
  pub no_controller : rule_output (bytes "X a31\n") ≡ bytes "refused\t1\n"
  -- "either ending", as of every line
  pub other_ending : rule_output (bytes "2\tX a31\r\n") ≡ bytes "rule\t2\t2\natom\t31\nnext\t0\n"
  pub return_twice : rule_output (bytes "2\tX a31\r\r\n") ≡ bytes "refused\t15\n"
  pub unclosed_return : rule_output (bytes "2\tX a31\r") ≡ bytes "refused\t1\n"

answers : Answers
unfolding pick lines.before lines.newline_next lines.is_return lines.line_length on_parsed decimal_on decimal digits_by digits larger most_open rule_tree_of size nodes_from largest_atom past sign_among digits_ahead atom_first sign_first after_space signs_by signs_of bracket_closed operand_by tree_at_end tree_of sentence_refusal line_refusal line_nodes read_line_number read_line_answer read_line_nodes answer left kind_of node_text nodes_text rule_text input_refusal refusal_text refusal_or line_output typed_output rule_output
answers = record {
  accepts = refl;
  accepted_nodes = refl;
  refuses = refl;
  refused_nodes = refl;
  refused_nodes_deep = refl;
  refused_nodes_high = refl;
  lent_short = refl;
  untouched = refl;
  printed = refl;
  refused = refl;
  no_line = refl;
  two_lines = refl;
  no_controller = refl;
  other_ending = refl;
  return_twice = refl;
  unclosed_return = refl;
}
