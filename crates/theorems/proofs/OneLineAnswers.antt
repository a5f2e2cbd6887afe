-- The reader of rules in one line "accepts exactly this grammar within the limits .., and the reading is unique"; its table is an accepted
-- rule, and comes back when it is written and read again.
use mathlib.Core.Path.{◌≡◌, refl, sym, ap, ◌∙◌}
use Prim.Native.Nat.{ℕ, ◌-◌, ◌<◌, ◌≤◌}
use native.Mathlib.Omega.{arith}
use mathlib.Core.Bool.{Bool, true, false, ◌||◌}
use mathlib.Core.List.{List, [], ◌++◌, map}
use lib.ListN.{length, take, drop, replicate, length-map}
use lib.Seq.{take_at}
use lib.Dec.{eqb, ltb, leb}
use borrow.Author.Tests.{eq-eqb, lt-ltb, le-ltb, ltb-true, ltb-false, le-leb, lt-leb, leb-true, leb-false}
use Rattle.definitions.specs.Limits.{max_controllers, atom_count, max_rule_nodes, max_line_bytes, max_open_brackets, rule_limits, line_form, brackets_deep, accepted, lent_short}
use Rattle.definitions.specs.Nodes.{node_word}
use Rattle.definitions.specs.Tables.{Rule, rule_refusal}
use Rattle.definitions.specs.Lines.{Parsed, formed, malformed, on_parsed}
use Rattle.definitions.specs.RuleText.{scan_rule, rule_text}
use Rattle.definitions.specs.Operations.{too_short, text_of}
use Rattle.definitions.specs.OneLineSigns.{Sign, Spells}
use Rattle.definitions.specs.OneLineGrammar.{Tree, Sentence, open_at_once}
use Rattle.definitions.specs.OneLineNodes.{nodes_of, largest_atom}
use Rattle.definitions.specs.OneLineReading.{signs_of, tree_of}
use Rattle.definitions.specs.LinePrograms.{refusal_or}
use Rattle.definitions.specs.OneLine.{sentence_refusal, line_refusal, line_nodes, read_line_number, read_line_nodes, line_output}
use Rattle.theorems.proofs.Choice.{by_test, pick_true, pick_false, pick_other}
use Rattle.theorems.proofs.Inversions.{formed_same, never_formed}
use Rattle.theorems.proofs.LentSpace.{left_accepted}
use Rattle.theorems.proofs.RoundTrips.{written_then_read}
use Rattle.theorems.proofs.PhraseUnique.{unique}
use Rattle.theorems.proofs.SentenceTrees.{tree_sentence, sentence_tree}
use Rattle.theorems.proofs.SignSpelling.{signs_spelled, spelled_signs, spells_once}
use Rattle.theorems.proofs.OneLineTables.{tree_accepted}

-- a line reads as a tree: it spells signs that are a sentence of the grammar
pub record Reads (line : List ℕ) (s : List Sign) (t : Tree) : Type 0 where
  pub spelled : Spells line s
  pub derived : Sentence s t

-- "the reading is unique"
pub record OneReading (s s' : List Sign) (t t' : Tree) : Type 0 where
  pub signs : s ≡ s'
  pub trees : t ≡ t'

pub reads_once : (line : List ℕ) (s s' : List Sign) (t t' : Tree) → Reads line s t → Reads line s' t' → OneReading s s' t t'
reads_once line s s' t t' p q =
    let e = spells_once line s s' p.spelled q.spelled in
    let d : Sentence s' t = rw e at p.derived in
    record { signs = e; trees = unique d q.derived }

-- 2, where it is not met
pub record Limits (controller : ℕ) (t : Tree) : Type 0 where
  pub nodes : length (nodes_of t) ≤ max_rule_nodes
  pub atoms : largest_atom t < atom_count
  pub controllers : controller < max_controllers

-- where it is
pub data Outside (controller : ℕ) (t : Tree) : Type 0 where
  many_nodes : max_rule_nodes < length (nodes_of t) → Outside controller t
  high_atom : atom_count ≤ largest_atom t → Outside controller t
  high_controller : max_controllers ≤ controller → Outside controller t

-- "Refused: 15, over 1,024 bytes or no sentence of the grammar; 16, a sentence with over 16 brackets open at once; then 2, over 64 nodes, an atom above 31 or
-- a controller above its limit"; 0 is no refusal
pub data Refusal (controller : ℕ) (line : List ℕ) : ℕ → Type 0 where
  too_long : max_line_bytes < length line → Refusal controller line line_form
  no_sentence : ((s : List Sign) (t : Tree) → Reads line s t → ⊥) → Refusal controller line line_form
  too_deep : (s : List Sign) (t : Tree) → length line ≤ max_line_bytes → Reads line s t → max_open_brackets < open_at_once s → Refusal controller line brackets_deep
  outside : (s : List Sign) (t : Tree) → length line ≤ max_line_bytes → Reads line s t → open_at_once s ≤ max_open_brackets → Outside controller t → Refusal controller line rule_limits
  none : (s : List Sign) (t : Tree) → length line ≤ max_line_bytes → Reads line s t → open_at_once s ≤ max_open_brackets → Limits controller t → Refusal controller line accepted

-- ---- the number

or_yes : (a : Bool) → (a || true) ≡ true
or_yes true = refl
or_yes false = refl

or_second_lem : (a b : Bool) → ((a || true) || b) ≡ true
or_second_lem true b = refl
or_second_lem false b = refl

pub long_refused : (controller : ℕ) (line : List ℕ) → max_line_bytes < length line → line_refusal controller line ≡ line_form
unfolding line_refusal
long_refused controller line h = pick_true _ _ _ (lt-ltb max_line_bytes (length line) h)

module _ (controller : ℕ) (line : List ℕ) (h : length line ≤ max_line_bytes) where
  pub short_refused : line_refusal controller line ≡ on_parsed (signs_of line) line_form (λ s. on_parsed (tree_of s) line_form (sentence_refusal controller s))
  unfolding line_refusal
  short_refused = pick_false _ _ _ (le-ltb max_line_bytes (length line) h)

  pub unspelled_refused : signs_of line ≡ malformed → line_refusal controller line ≡ line_form
  unfolding on_parsed
  unspelled_refused e = short_refused ∙ rw e

  underived_refused : (s : List Sign) → signs_of line ≡ formed s → tree_of s ≡ malformed → line_refusal controller line ≡ line_form
  unfolding on_parsed
  underived_refused s e f = short_refused ∙ rw (e, f)

  pub sentence_refused : (s : List Sign) (t : Tree) → Reads line s t → line_refusal controller line ≡ sentence_refusal controller s t
  unfolding on_parsed
  sentence_refused s t r = short_refused ∙ rw (spelled_signs line s r.spelled, sentence_tree s t r.derived)

module _ (controller : ℕ) (s : List Sign) (t : Tree) where
  deep_number : max_open_brackets < open_at_once s → sentence_refusal controller s t ≡ brackets_deep
  unfolding sentence_refusal
  deep_number h = pick_true _ _ _ (lt-ltb max_open_brackets (open_at_once s) h)

  module _ (h : open_at_once s ≤ max_open_brackets) where
    outside_number : Outside controller t → sentence_refusal controller s t ≡ rule_limits
    unfolding sentence_refusal
    outside_number (many_nodes e) = pick_false _ _ _ (le-ltb max_open_brackets (open_at_once s) h) ∙ pick_true _ _ _ (rw (lt-ltb max_rule_nodes (length (nodes_of t)) e))
    outside_number (high_atom e) =
        pick_false _ _ _ (le-ltb max_open_brackets (open_at_once s) h) ∙ pick_true _ _ _ (rw (le-leb atom_count (largest_atom t) e) (or_second_lem (ltb max_rule_nodes (length (nodes_of t))) (leb max_controllers controller)))
    outside_number (high_controller e) =
        pick_false _ _ _ (le-ltb max_open_brackets (open_at_once s) h)
        ∙ pick_true _ _ _ (rw (le-leb max_controllers controller e) (or_yes (ltb max_rule_nodes (length (nodes_of t)) || leb atom_count (largest_atom t))))

    within_number : Limits controller t → sentence_refusal controller s t ≡ accepted
    unfolding sentence_refusal
    within_number l =
        pick_false _ _ _ (le-ltb max_open_brackets (open_at_once s) h)
        ∙ pick_false _ _ _ (rw (le-ltb max_rule_nodes (length (nodes_of t)) l.nodes, lt-leb atom_count (largest_atom t) l.atoms, lt-leb max_controllers controller l.controllers))

-- what is refused, and what is not
pub refusal_only : (controller : ℕ) (line : List ℕ) (n : ℕ) → Refusal controller line n → line_refusal controller line ≡ n
refusal_only controller line n (too_long h) = long_refused controller line h
refusal_only controller line n (no_sentence never) =
    by_test (ltb max_line_bytes (length line))
    (λ e. long_refused controller line (ltb-true max_line_bytes (length line) e))
    (λ e. signs (ltb-false max_line_bytes (length line) e) (signs_of line) refl)
  where
    trees : length line ≤ max_line_bytes → (s : List Sign) → signs_of line ≡ formed s → (f : Parsed Tree) → tree_of s ≡ f → line_refusal controller line ≡ line_form
    trees h s e (formed t) g = absurd (never s t (record { spelled = signs_spelled line s e; derived = tree_sentence s t g }))
    trees h s e malformed g = underived_refused controller line h s e g

    signs : length line ≤ max_line_bytes → (f : Parsed (List Sign)) → signs_of line ≡ f → line_refusal controller line ≡ line_form
    signs h (formed s) e = trees h s e (tree_of s) refl
    signs h malformed e = unspelled_refused controller line h e
refusal_only controller line n (too_deep s t h r deep) = sentence_refused controller line h s t r ∙ deep_number controller s t deep
refusal_only controller line n (outside s t h r few o) = sentence_refused controller line h s t r ∙ outside_number controller s t few o
refusal_only controller line n (none s t h r few l) = sentence_refused controller line h s t r ∙ within_number controller s t few l

limits_or_outside : {P : Type 0} (controller : ℕ) (t : Tree) → (Outside controller t → P) → (Limits controller t → P) → P
limits_or_outside controller t out within =
    by_test (ltb max_rule_nodes (length (nodes_of t)))
    (λ e. out (many_nodes (ltb-true max_rule_nodes (length (nodes_of t)) e)))
    (λ e. by_test (leb atom_count (largest_atom t))
    (λ f. out (high_atom (leb-true atom_count (largest_atom t) f)))
    (λ f. by_test (leb max_controllers controller)
    (λ g. out (high_controller (leb-true max_controllers controller g)))
    (λ g. within (record {
      nodes = ltb-false max_rule_nodes (length (nodes_of t)) e;
      atoms = leb-false atom_count (largest_atom t) f;
      controllers = leb-false max_controllers controller g;
    }))))

-- every line is refused with one of these numbers, or not at all
line_met : {P : Type 0} (controller : ℕ) (line : List ℕ) → ((n : ℕ) → Refusal controller line n → P) → P
line_met {P} controller line on =
    by_test (ltb max_line_bytes (length line))
    (λ e. on line_form (too_long (ltb-true max_line_bytes (length line) e)))
    (λ e. signs (ltb-false max_line_bytes (length line) e) (signs_of line) refl)
  where
    read : length line ≤ max_line_bytes → (s : List Sign) (t : Tree) → Reads line s t → P
    read h s t r =
        by_test (ltb max_open_brackets (open_at_once s))
        (λ e. on brackets_deep (too_deep s t h r (ltb-true max_open_brackets (open_at_once s) e)))
        (λ e. limits_or_outside controller t
        (λ o. on rule_limits (outside s t h r (ltb-false max_open_brackets (open_at_once s) e) o))
        (λ l. on accepted (none s t h r (ltb-false max_open_brackets (open_at_once s) e) l)))

    underived : (s : List Sign) → signs_of line ≡ formed s → tree_of s ≡ malformed → (s' : List Sign) (t : Tree) → Reads line s' t → ⊥
    underived s e g s' t r =
        let z : s' ≡ s = formed_same s' s (sym (spelled_signs line s' r.spelled) ∙ e) in
        never_formed t (sym g ∙ (rw z at (sentence_tree s' t r.derived)))

    trees : length line ≤ max_line_bytes → (s : List Sign) → signs_of line ≡ formed s → (f : Parsed Tree) → tree_of s ≡ f → P
    trees h s e (formed t) g = read h s t (record { spelled = signs_spelled line s e; derived = tree_sentence s t g })
    trees h s e malformed g = on line_form (no_sentence (underived s e g))

    signs : length line ≤ max_line_bytes → (f : Parsed (List Sign)) → signs_of line ≡ f → P
    signs h (formed s) e = trees h s e (tree_of s) refl
    signs h malformed e = on line_form (no_sentence (λ s t r. never_formed s (sym e ∙ spelled_signs line s r.spelled)))

pub refusal_right : (controller : ℕ) (line : List ℕ) → Refusal controller line (line_refusal controller line)
refusal_right controller line = line_met controller line (λ n r. rw (refusal_only controller line n r) r)

-- ---- the nodes

-- a line's nodes are those of its tree
pub reads_nodes : (line : List ℕ) (s : List Sign) (t : Tree) → Reads line s t → line_nodes line ≡ nodes_of t
unfolding line_nodes on_parsed
reads_nodes line s t r = rw (spelled_signs line s r.spelled, sentence_tree s t r.derived)

-- an accepted line, its reading and its nodes
pub record AcceptedLine (controller : ℕ) (line : List ℕ) : Type 0 where
  pub signs : List Sign
  pub tree : Tree
  pub short : length line ≤ max_line_bytes
  pub reads : Reads line signs tree
  pub shallow : open_at_once signs ≤ max_open_brackets
  pub limits : Limits controller tree
  pub nodes : line_nodes line ≡ nodes_of tree

-- "The reader accepts exactly this grammar within the limits": what is accepted is derivable, with that tree's nodes
pub accepted_derivable : (controller : ℕ) (line : List ℕ) → line_refusal controller line ≡ accepted → AcceptedLine controller line
accepted_derivable controller line e = go (line_refusal controller line) (refusal_right controller line) e
  where
    go : (n : ℕ) → Refusal controller line n → n ≡ accepted → AcceptedLine controller line
    go n (too_long h) e = absurd (omega arith)
    go n (no_sentence f) e = absurd (omega arith)
    go n (too_deep s t h r d) e = absurd (omega arith)
    go n (outside s t h r few o) e = absurd (omega arith)
    go n (none s t h r few l) e = record { signs = s; tree = t; short = h; reads = r; shallow = few; limits = l; nodes = reads_nodes line s t r }

-- and what is derivable within the limits is accepted
pub derivable_accepted : (controller : ℕ) (line : List ℕ) (s : List Sign) (t : Tree) → length line ≤ max_line_bytes → Reads line s t → open_at_once s ≤ max_open_brackets → Limits controller t
    → line_refusal controller line ≡ accepted
derivable_accepted controller line s t h r few l = refusal_only controller line accepted (none s t h r few l)

-- ---- the table

-- the rule that reading a line answered, with its lent nodes
abbrev pub line_rule : ℕ → List ℕ → List ℕ → Rule
line_rule controller line nodes = record { controller = controller; count = length (line_nodes line); nodes = read_line_nodes controller line nodes }

pub line_number_lem : (controller : ℕ) (line nodes : List ℕ) → read_line_number controller line nodes ≡ accepted → line_refusal controller line ≡ accepted
unfolding read_line_number
line_number_lem controller line nodes e = (pick_other accepted (too_short max_rule_nodes nodes) lent_short (line_refusal controller line) e (λ q. omega arith)).1

line_holds : (controller : ℕ) (line nodes : List ℕ) → read_line_number controller line nodes ≡ accepted
    → read_line_nodes controller line nodes ≡ map node_word (line_nodes line) ++ (replicate (max_rule_nodes - length (map node_word (line_nodes line))) 0 ++ drop max_rule_nodes nodes)
unfolding read_line_nodes
line_holds controller line nodes e = rw e (left_accepted max_rule_nodes (map node_word (line_nodes line)) nodes)

line_words : (controller : ℕ) (line nodes : List ℕ) → read_line_number controller line nodes ≡ accepted
    → take (length (line_nodes line)) (read_line_nodes controller line nodes) ≡ map node_word (line_nodes line)
line_words controller line nodes e =
    rw (line_holds controller line nodes e) (take_at (map node_word (line_nodes line)) _ (length (line_nodes line)) (length-map (line_nodes line) node_word))

-- it is an accepted rule of that controller, so every operation takes it
pub line_rule_accepted : (controller : ℕ) (line nodes : List ℕ) → read_line_number controller line nodes ≡ accepted → rule_refusal (line_rule controller line nodes) ≡ 0
line_rule_accepted controller line nodes e =
    let a = accepted_derivable controller line (line_number_lem controller line nodes e) in
    let l = a.limits in
    rw (line_holds controller line nodes e, a.nodes) (tree_accepted controller a.tree _ l.nodes l.atoms l.controllers)

-- written by the writer and read again, it is the same table
pub line_rule_comes_back : (controller : ℕ) (line nodes : List ℕ) → read_line_number controller line nodes ≡ accepted
    → scan_rule (text_of (line_rule controller line nodes))
    ≡ record { number = 0; controller = controller; count = length (line_nodes line); words = map node_word (line_nodes line); rest = [] }
line_rule_comes_back controller line nodes e =
    let t = line_words controller line nodes e in
    written_then_read (line_rule controller line nodes) (line_rule_accepted controller line nodes e) ∙ rw t

-- its text is what the program prints of the line
pub line_rule_text : (controller : ℕ) (line nodes : List ℕ) → read_line_number controller line nodes ≡ accepted → text_of (line_rule controller line nodes) ≡ line_output controller line
unfolding line_output refusal_or
line_rule_text controller line nodes e =
    let t : take (length (line_nodes line)) (read_line_nodes controller line nodes) ≡ map node_word (line_nodes line) = line_words controller line nodes e in
    ap (rule_text controller (length (line_nodes line))) t ∙ sym (pick_true (eqb (line_refusal controller line) accepted) _ _ (eq-eqb (line_refusal controller line) accepted (line_number_lem controller line nodes e)))
