-- Reading and writing a rule undo each other: as text and table, and through the operations over lent space.
use mathlib.Core.Path.{◌≡◌, refl, ap, sym, subst, ◌∙◌}
use Prim.Native.Nat.{ℕ, zero, suc, ◌+◌, ◌-◌, ◌<◌, ◌≤◌}
use mathlib.Core.Bool.{Bool, false}
use mathlib.Core.List.{List, [], ◌∷◌, ◌++◌}
use lib.ListN.{length, take, drop, replicate, length-append}
use lib.Seq.{take_at}
use native.Mathlib.Omega.{arith}
use borrow.Author.Tests.{le-ltb}
use Rattle.definitions.specs.Limits.{lent_short, max_controllers, max_rule_nodes, max_rule_bytes}
use Rattle.definitions.specs.Bounded.{pick}
use Rattle.definitions.specs.Tables.{Rule, nodes_refusal, rule_heading_refusal, rule_refusal, rule_of}
use Rattle.definitions.specs.Lines.{newline, carriage_return, rest_of, with_newlines}
use Rattle.definitions.specs.RuleText.{RuleScan, scan_rule, scan_nodes, nodes_text, rule_text}
use Rattle.definitions.specs.Operations.{answer, too_short, read_rule_number, read_rule_answer, read_rule_nodes, text_of, write_rule_number, write_rule_answer, write_rule_text}
use Rattle.theorems.proofs.Choice.{pick_other, pick_false}
use Rattle.theorems.proofs.Inversions.{first_accepted}
use Rattle.theorems.proofs.LentSpace.{left_accepted}
use Rattle.theorems.proofs.SplitLaws.{Without}
use Rattle.theorems.proofs.EndingLaws.{with_line, plain_same}
use Rattle.theorems.proofs.NodeLaws.{accepted_heading, accepted_rule}
use Rattle.theorems.proofs.RuleTextSteps.{heading_text, rule_lines_lem}
use Rattle.theorems.proofs.RuleTextBack.{ReadNodes, nodes_back, FirstLine, first_line_lem}
use Rattle.theorems.proofs.RuleTextForth.{nodes_forth, heading_read, nodes_length, heading_length}

-- the rule that is read of a text
abbrev read_rule : List ℕ → Rule
read_rule t = rule_of (scan_rule t).controller (scan_rule t).count (scan_rule t).words

-- the rest of an accepted text is the text of its nodes
read_nodes : (t : List ℕ) (f : FirstLine t) → (scan_rule t).number ≡ 0
    → ReadNodes f.heading.second 0 (rest_of t) (scan_nodes f.heading.second 0 (rest_of t)).words
read_nodes t f e =
    nodes_back f.heading.second 0 (rest_of t)
    (omega (arith, (accepted_heading f.heading.first f.heading.second f.fine).1.1)) (rw f.scan at e)

-- a rule is accepted where its heading and its nodes are
refusal_of : (r : Rule) → rule_heading_refusal r.controller r.count ≡ 0 → nodes_refusal false 0 r.count r.nodes ≡ 0 → rule_refusal r ≡ 0
unfolding rule_refusal
refusal_of r h n = first_accepted _ _ h ∙ n

-- as many words are read as the heading says
pub read_count : (t : List ℕ) → (scan_rule t).number ≡ 0 → length (scan_rule t).words ≡ (scan_rule t).count
read_count t e = let f = first_line_lem t e in rw f.scan (read_nodes t f e).count

-- the table of an accepted text is accepted
pub read_accepted : (t : List ℕ) → (scan_rule t).number ≡ 0
    → rule_refusal (rule_of (scan_rule t).controller (scan_rule t).count (scan_rule t).words) ≡ 0
read_accepted t e =
    let f = first_line_lem t e in
    refusal_of (read_rule t) (rw f.scan f.fine) (rw f.scan (read_nodes t f e).fine)

-- an accepted text, with byte 10 at each line, is what is written of its table
pub read_then_written : (t : List ℕ) → (scan_rule t).number ≡ 0
    → rule_text (scan_rule t).controller (scan_rule t).count (scan_rule t).words ≡ with_newlines t
read_then_written t e =
    let f = first_line_lem t e in
    rw f.scan (rule_lines_lem f.heading.first f.heading.second _ ∙ rw (f.line, (read_nodes t f e).text) (sym (with_line t f.closed)))

-- what is written of an accepted rule reads as that rule
pub written_then_read : (r : Rule) → rule_refusal r ≡ 0
    → scan_rule (text_of r) ≡ record { number = 0; controller = r.controller; count = r.count; words = take r.count r.nodes; rest = [] }
written_then_read r e =
    let a = accepted_rule r e in
    ap scan_rule (rule_lines_lem r.controller r.count (take r.count r.nodes))
    ∙ (heading_read r.controller r.count (nodes_text (take r.count r.nodes)) a.0
    ∙ rw (nodes_forth r.count 0 r.nodes a.1))

-- "1,024 bytes of rule text" hold the text of every accepted rule
pub text_fits : (r : Rule) → rule_refusal r ≡ 0 → length (text_of r) ≤ max_rule_bytes
text_fits r e =
    let a = accepted_rule r e in
    let h = accepted_heading r.controller r.count a.0 in
    let c : r.controller < max_controllers = h.0 in
    let n : r.count ≤ max_rule_nodes = h.1.1 in
    let ws = take r.count r.nodes in
    let f = heading_length r.controller r.count (omega arith) (omega arith) in
    let l = nodes_length r.count 0 r.nodes (omega arith) a.1 in
    rw (rule_lines_lem r.controller r.count ws) (omega (arith, length-append (heading_text r.controller r.count) (newline ∷ nodes_text ws)))

-- what writing a rule leaves: the answer, and the lent bytes
pub record Written (r : Rule) (buffer text : List ℕ) : Type 0 where
  pub answered : write_rule_answer r buffer ≡ answer 0 (length text ∷ [])
  pub holds : write_rule_text r buffer ≡ text ++ (replicate (max_rule_bytes - length text) 0 ++ drop max_rule_bytes buffer)

-- what reading a rule leaves: the answer, and the lent nodes
pub record Read (text nodes : List ℕ) (r : Rule) : Type 0 where
  pub answered : read_rule_answer text nodes ≡ answer 0 (r.controller ∷ r.count ∷ [])
  pub holds : read_rule_nodes text nodes ≡ take r.count r.nodes ++ (replicate (max_rule_nodes - r.count) 0 ++ drop max_rule_nodes nodes)

-- lent space is not short: the number is the reader's, or the check's
enough : (full number : ℕ) (entry : List ℕ) → full ≤ length entry → pick (too_short full entry) lent_short number ≡ number
enough full number entry h = pick_false (too_short full entry) lent_short number (le-ltb (length entry) full h)

-- what writing an accepted rule leaves
written : (r : Rule) (buffer : List ℕ) → rule_refusal r ≡ 0 → max_rule_bytes ≤ length buffer → Written r buffer (text_of r)
unfolding write_rule_number write_rule_answer write_rule_text
written r buffer e h =
    let z = enough max_rule_bytes (rule_refusal r) buffer h ∙ e in
    record { answered = rw z; holds = rw z (left_accepted max_rule_bytes (text_of r) buffer) }

-- entries past the count are not read
pub nodes_past_lem : (b : Bool) (i n : ℕ) (ws : List ℕ) → nodes_refusal b i n (take n ws) ≡ nodes_refusal b i n ws
unfolding nodes_refusal
nodes_past_lem b i zero ws = refl
nodes_past_lem b i (suc n) [] = refl
nodes_past_lem b i (suc n) (w ∷ ws) = rw (nodes_past_lem b (i + 1) n ws)

-- an accepted rule is accepted with other entries past its count
pub same_accepted : (r : Rule) (ws : List ℕ) → take r.count ws ≡ r.nodes → rule_refusal r ≡ 0
    → rule_refusal (rule_of r.controller r.count ws) ≡ 0
same_accepted r ws t e =
    let a = accepted_rule r e in
    refusal_of (rule_of r.controller r.count ws) a.0 (sym (nodes_past_lem false 0 r.count ws) ∙ rw t a.1)

-- the lent nodes after a text was accepted
read_holds : (text nodes : List ℕ) → read_rule_number text nodes ≡ 0
    → read_rule_nodes text nodes ≡ (scan_rule text).words ++ (replicate (max_rule_nodes - length (scan_rule text).words) 0 ++ drop max_rule_nodes nodes)
unfolding read_rule_nodes
read_holds text nodes e = rw e (left_accepted max_rule_nodes (scan_rule text).words nodes)

-- the first of them, as many as the count, are the words that were read
read_words : (text nodes : List ℕ) → read_rule_number text nodes ≡ 0 → (scan_rule text).number ≡ 0
    → take (scan_rule text).count (read_rule_nodes text nodes) ≡ (scan_rule text).words
read_words text nodes e z = rw (read_holds text nodes e) (take_at (scan_rule text).words _ (scan_rule text).count (read_count text z))

-- a rule that is read and written again leaves the text with byte 10 at each line, its length, zeros and what was lent past 1,024 bytes
pub accepted_text_comes_back : (text nodes buffer : List ℕ) → read_rule_number text nodes ≡ 0 → max_rule_bytes ≤ length buffer
    → Written (rule_of (scan_rule text).controller (scan_rule text).count (read_rule_nodes text nodes)) buffer (with_newlines text)
unfolding read_rule_number
accepted_text_comes_back text nodes buffer e h =
    let p = pick_other 0 (too_short max_rule_nodes nodes) lent_short (scan_rule text).number e (λ q. omega arith) in
    let r : Rule = rule_of (scan_rule text).controller (scan_rule text).count (read_rule_nodes text nodes) in
    let t = read_words text nodes e p.1 in
    let f = same_accepted (read_rule text) r.nodes t (read_accepted text p.1) in
    subst (λ (x : List ℕ). Written r buffer x) (ap (rule_text r.controller r.count) t ∙ read_then_written text p.1) (written r buffer f h)

-- a text without byte 13 comes back byte for byte
pub plain_text_comes_back : (text nodes buffer : List ℕ) → Without carriage_return text → read_rule_number text nodes ≡ 0 → max_rule_bytes ≤ length buffer
    → Written (rule_of (scan_rule text).controller (scan_rule text).count (read_rule_nodes text nodes)) buffer text
plain_text_comes_back text nodes buffer w e h =
    let r : Rule = rule_of (scan_rule text).controller (scan_rule text).count (read_rule_nodes text nodes) in
    subst (λ (x : List ℕ). Written r buffer x) (plain_same text w) (accepted_text_comes_back text nodes buffer e h)

-- a rule that is written and read again leaves its controller, its count and its nodes, zeros and what was lent past 64 nodes
pub written_table_comes_back : (r : Rule) (buffer nodes : List ℕ) → write_rule_number r buffer ≡ 0 → max_rule_nodes ≤ length nodes → Read (text_of r) nodes r
unfolding write_rule_number read_rule_number read_rule_answer
written_table_comes_back r buffer nodes e h =
    let p = pick_other 0 (too_short max_rule_bytes buffer) lent_short (rule_refusal r) e (λ q. omega arith) in
    let s = written_then_read r p.1 in
    let z = enough max_rule_nodes (scan_rule (text_of r)).number nodes h ∙ ap (λ (x : RuleScan). x.number) s in
    let l : length (take r.count r.nodes) ≡ r.count = rw s at (read_count (text_of r) (ap (λ (x : RuleScan). x.number) s)) in
    record { answered = rw (z, s); holds = read_holds (text_of r) nodes z ∙ rw (s, l) }
