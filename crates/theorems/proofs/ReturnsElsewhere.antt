-- "A byte 13 anywhere else still makes the line malformed" (document 02): a line that is of its form holds none, so a line that holds one is refused
-- as malformed.
use mathlib.Core.Path.{◌≡◌, subst, sym, ◌∙◌}
use Prim.Native.Nat.{ℕ}
use mathlib.Core.Bool.{true, false, not, ◌||◌, true≢false}
use mathlib.Core.List.{List}
use lib.ListN.{length, length-take}
use native.Mathlib.Omega.{arith}
use borrow.Author.Tests.{ltb-true}
use Rattle.definitions.specs.Limits.{rule_form, rule_lines, recording_form, recording_lines}
use Rattle.definitions.specs.Nodes.{Unknown, Node, node}
use Rattle.definitions.specs.Tables.{is_unknown, node_refusal, rule_heading_refusal}
use Rattle.definitions.specs.Recordings.{mask_refusal, recording_heading_refusal}
use Rattle.definitions.specs.Lines.{tab, carriage_return, before, is_empty, has, up_to, is_closed, line_length, line_of, Parsed, formed, malformed, letters, Heading, refused, next_line}
use Rattle.definitions.specs.RuleText.{word_kind, unknown_form, node_form, node_line, rule_heading, rule_heading_line, node_text}
use Rattle.definitions.specs.Gauges.{Gauge, gauge_form, gauge_refusal, Gauges}
use Rattle.definitions.specs.RecordingText.{mask_form, Measured, at_form, at_refusal, mask_line, gauge_line, at_line, recording_heading, recording_heading_line}
use Rattle.theorems.proofs.Choice.{by_test, both_false, pick_other}
use Rattle.theorems.proofs.Inversions.{first_picked, second_picked, never_formed}
use Rattle.theorems.proofs.SplitLaws.{Without, without_whole}
use Rattle.theorems.proofs.WordLaws.{kind_word_lem}
use Rattle.theorems.proofs.NextLines.{by_form, next_open, next_malformed}
use Rattle.theorems.proofs.RuleTextSteps.{heading_text}
use Rattle.theorems.proofs.RuleTextBack.{operands_back, heading_back}
use Rattle.theorems.proofs.RuleTextForth.{node_unbroken, heading_unbroken}
use Rattle.theorems.proofs.AcceptedEndings.{heading_plain, mask_plain, gauge_plain, at_plain}

-- ---- of its form, a line holds no byte 13
text_plain : (written s : List ℕ) → written ≡ s → Without carriage_return written → has carriage_return s ≡ false
text_plain written s e w = without_whole carriage_return s (subst (λ (l : List ℕ). Without carriage_return l) e w)

-- "after an unknown kind word any fields without byte 13 do"
unknown_plain : (s : List ℕ) (n : Node) → unknown_form s ≡ formed n → has carriage_return s ≡ false
unfolding unknown_form
unknown_plain s n e =
    let p = pick_other (formed n) _ malformed (formed (node Unknown 0 0)) e (never_formed n) in
    (both_false (is_empty (up_to tab s) || not (letters (up_to tab s))) (has carriage_return s) p.0).1

node_plain : (s : List ℕ) (n : Node) → node_form s ≡ formed n → has carriage_return s ≡ false
unfolding node_form
node_plain s n e =
    let k = word_kind (up_to tab s) in
    by_test (is_unknown k)
    (λ z. unknown_plain s n (first_picked (formed n) _ _ _ z e))
    (λ z. text_plain (node_text n) s (operands_back k s (kind_word_lem (up_to tab s) z) n (second_picked (formed n) _ _ _ z e)) (node_unbroken n).returns)

rule_heading_plain : (s : List ℕ) (h : Heading) → rule_heading s ≡ formed h → has carriage_return s ≡ false
rule_heading_plain s h e = text_plain (heading_text h.first h.second) s (heading_back s h e) (heading_unbroken h.first h.second).returns

-- whichever line of a rule text or of a recording text it is, of a known kind or not
pub record OfItsForm (s : List ℕ) : Type 0 where
  pub as_rule_heading : (h : Heading) → rule_heading s ≡ formed h → has carriage_return s ≡ false
  pub as_node : (n : Node) → node_form s ≡ formed n → has carriage_return s ≡ false
  pub as_recording_heading : (h : Heading) → recording_heading s ≡ formed h → has carriage_return s ≡ false
  pub as_mask : (m : ℕ) → mask_form s ≡ formed m → has carriage_return s ≡ false
  pub as_gauge : (g : Gauge) → gauge_form s ≡ formed g → has carriage_return s ≡ false
  pub as_state : (C n : ℕ) (m : Measured) → at_form C n s ≡ formed m → has carriage_return s ≡ false

pub formed_lines_hold_no_return : (s : List ℕ) → OfItsForm s
formed_lines_hold_no_return s = record {
  as_rule_heading = rule_heading_plain s;
  as_node = node_plain s;
  as_recording_heading = λ h e. without_whole carriage_return s (heading_plain s h e);
  as_mask = λ m e. without_whole carriage_return s (mask_plain s m e);
  as_gauge = λ g e. without_whole carriage_return s (gauge_plain s g e);
  as_state = λ C n m e. without_whole carriage_return s (at_plain C n s m e);
}

-- ---- a line that holds one
module _ (t : List ℕ) (h : has carriage_return (line_of t) ≡ true) where
  some_line : length t ≡ 0 → ⊥
  some_line e =
      let l = ltb-true (before carriage_return (line_of t)) (length (line_of t)) h in
      omega (arith, length-take (line_length t) t)

  refused_unformed : {A : Type 0} (missing unformed : ℕ) (form : List ℕ → Parsed A) (check : A → ℕ)
      → ((a : A) → form (line_of t) ≡ formed a → has carriage_return (line_of t) ≡ false) → next_line missing unformed form check t ≡ refused unformed
  refused_unformed missing unformed form check plain =
      by_test (is_closed t)
      (λ c. by_form (form (line_of t))
      (λ a f. absurd (true≢false (sym h ∙ plain a f)))
      (λ f. next_malformed missing unformed form check t c f))
      (λ c. next_open missing unformed form check t some_line c)

-- the next line of a text, whichever line it is read as: 1 in a rule text, after an unknown kind word too, and 5 in a recording text
pub record Malformed (t : List ℕ) : Type 0 where
  pub as_rule_heading : rule_heading_line t ≡ refused rule_form
  pub as_node : (i : ℕ) → node_line i t ≡ refused rule_form
  pub as_recording_heading : recording_heading_line t ≡ refused recording_form
  pub as_mask : (earlier : List ℕ) → mask_line earlier t ≡ refused recording_form
  pub as_gauge : (earlier : List ℕ) → gauge_line earlier t ≡ refused recording_form
  pub as_state : (C : ℕ) (masks : List ℕ) (g : Gauges) (k prior : ℕ) → at_line C masks g k prior t ≡ refused recording_form

-- "A byte 13 anywhere else still makes the line malformed": the first line of t holds a byte 13, besides that of its ending
pub returns_elsewhere_are_malformed : (t : List ℕ) → has carriage_return (line_of t) ≡ true → Malformed t
returns_elsewhere_are_malformed t h =
    let of = formed_lines_hold_no_return (line_of t) in
    record {
      as_rule_heading = refused_unformed t h rule_lines rule_form rule_heading (λ x. rule_heading_refusal x.first x.second) of.as_rule_heading;
      as_node = λ i. refused_unformed t h rule_lines rule_form node_form (node_refusal false i) of.as_node;
      as_recording_heading = refused_unformed t h recording_lines recording_form recording_heading (λ x. recording_heading_refusal x.first x.second) of.as_recording_heading;
      as_mask = λ earlier. refused_unformed t h recording_lines recording_form mask_form (mask_refusal earlier) of.as_mask;
      as_gauge = λ earlier. refused_unformed t h recording_lines recording_form gauge_form (gauge_refusal earlier) of.as_gauge;
      as_state = λ C masks g k prior. refused_unformed t h recording_lines recording_form (at_form C (length g.atoms)) (at_refusal C masks g k prior) (of.as_state C (length g.atoms));
    }
