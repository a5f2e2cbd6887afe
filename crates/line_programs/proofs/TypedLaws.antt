-- Laws of the program `rule`: one for each return.
use mathlib.Core.Path.{◌≡◌, sym, ap, ◌∙◌}
use Prim.Native.Nat.{ℕ, ◌<◌, ◌≤◌}
use native.Mathlib.Omega.{arith}
use mathlib.Core.List.{List, [], ◌∷◌}
use lib.ListN.{length}
use lib.Dec.{eqb, ltb}
use denote.Ref.{Bor}
use borrow.Author.Tests.{eqb-true, le-ltb, ltb-true, ltb-false}
use Rattle.std.specs.Prelude.{Option, Result, Ok, Err}
use Rattle.std.specs.Option.{ok_or}
use Rattle.definitions.specs.Limits.{accepted, max_controllers, max_rule_nodes, lent_short, rule_form}
use Rattle.definitions.specs.Bounded.{pick}
use Rattle.definitions.specs.Tables.{rule_of}
use Rattle.definitions.specs.Lines.{tab, on_parsed, decimal}
use Rattle.definitions.specs.Operations.{Answer, answer, too_short}
use Rattle.definitions.specs.LinePrograms.{input_refusal, refusal_text, refusal_or}
use Rattle.definitions.specs.OneLineGrammar.{Tree}
use Rattle.definitions.specs.OneLine.{line_refusal, line_nodes, read_line_number, read_line_answer, line_output, typed_output, rule_output}
use Rattle.theorems.proofs.Choice.{by_test, pick_false}
use Rattle.theorems.proofs.OneLineAnswers as one
use Rattle.theorems.proofs.OneLineAnswers.{Outside, many_nodes, high_atom, high_controller, too_long, no_sentence, too_deep, outside, none, refusal_right, refusal_only, accepted_derivable, line_rule, line_rule_accepted, line_rule_text}
use Rattle.rules.specs.Refusals.{number_of}
use Rattle.rules.specs.declared.refusal.Refusal.{Refusal}
use Rattle.rules.specs.declared.refusal.Refusal.TheVariants.{RuleForm}
use Rattle.rules.specs.declared.rule.RuleHeading.{RuleHeading}
use Rattle.fields.specs.Fields.{largest, cap, capped}
use Rattle.fields.proofs.FieldLaws.{cap_over, cap_within, cap_exact, taken_none, capped_read}
use Rattle.lines.specs.Parts.{parts_in, split}
use Rattle.lines.proofs.PartLaws.{split_no, split_yes}
use Rattle.lines.proofs.ToldLaws.{some_given, none_given}
use Rattle.one_line.specs.Reading.{ReadLine}
use Rattle.line_programs.specs.Printing.{OnlyLineOf, Written}
use Rattle.line_programs.specs.declared.input.RefusedInput.{RefusedInput}
use Rattle.line_programs.proofs.PrintLaws.{or_refused, or_accepted, written_of, input_whole}

-- ---- `write_line`
module _ (controller : ℕ) (line nodes exit : List ℕ) where
  module _ (full : max_rule_nodes ≤ length nodes) where
    number_is : read_line_number controller line nodes ≡ line_refusal controller line
    unfolding read_line_number
    number_is = pick_false (too_short max_rule_nodes nodes) lent_short (line_refusal controller line) (le-ltb (length nodes) max_rule_nodes full)

    -- `write_line`, `line_output`: a refused line
    pub line_refused : (e : Refusal) → ReadLine controller line nodes (Err e) exit → line_output controller line ≡ refusal_text (number_of e)
    unfolding line_output read_line_answer answer
    line_refused e v = or_refused (line_refusal controller line) _ e (ap (λ (a : Answer). a.number) v.answered ∙ number_is)

  module _ (h : RuleHeading) (v : ReadLine controller line nodes (Ok h) exit) where
    read_number : read_line_number controller line nodes ≡ accepted
    unfolding read_line_answer answer
    read_number = sym (ap (λ (a : Answer). a.number) v.answered)

    read_values : h.controller ∷ h.count ∷ [] ≡ controller ∷ length (line_nodes line) ∷ []
    unfolding read_line_answer answer pick
    read_values = ap (λ (a : Answer). a.values) v.answered ∙ rw read_number

    read_rule_lem : rule_of h.controller h.count exit ≡ line_rule controller line nodes
    read_rule_lem =
        let q = read_values in
        let o : h.controller ≡ controller = cc in
        let c : h.count ≡ length (line_nodes line) = cc in
        rw (o, c, v.nodes)

    -- `write_line`, `line_output`: the rule
    pub line_written : (w : Result ℕ Refusal) (o : List ℕ) → Written (written_of (rule_of h.controller h.count exit)) w o → Written (line_output controller line) w o
    line_written w o p =
        let r = line_rule controller line nodes in
        let q : written_of (rule_of h.controller h.count exit) ≡ line_output controller line
        = ap written_of read_rule_lem ∙ (or_accepted _ _ (sym (line_rule_accepted controller line nodes read_number)) ∙ line_rule_text controller line nodes read_number) in
        rw q at p

-- ---- `write_typed`
-- a controller that a field tells up to its largest number is refused as it is
cap_low : (n : ℕ) → n < max_controllers → cap n < max_controllers
cap_low n h = omega (arith, cap_within n (omega arith))

cap_high : (n : ℕ) → max_controllers ≤ n → max_controllers ≤ cap n
cap_high n h = by_test (ltb largest n) (λ e. omega (arith, cap_over n (ltb-true largest n e))) (λ e. omega (arith, cap_within n (ltb-false largest n e)))

cap_outside : {n : ℕ} {t : Tree} → Outside n t → Outside (cap n) t
cap_outside (many_nodes h) = many_nodes h
cap_outside (high_atom h) = high_atom h
cap_outside {n = n} (high_controller h) = high_controller (cap_high n h)

cap_met : (n : ℕ) (line : List ℕ) (k : ℕ) → one.Refusal n line k → one.Refusal (cap n) line k
cap_met n line k (too_long h) = too_long h
cap_met n line k (no_sentence f) = no_sentence f
cap_met n line k (too_deep s t h r d) = too_deep s t h r d
cap_met n line k (outside s t h r few o) = outside s t h r few (cap_outside o)
cap_met n line k (none s t h r few l) = none s t h r few (record { nodes = l.nodes; atoms = l.atoms; controllers = cap_low n l.controllers })

cap_refusal : (n : ℕ) (line : List ℕ) → line_refusal (cap n) line ≡ line_refusal n line
cap_refusal n line = refusal_only (cap n) line (line_refusal n line) (cap_met n line (line_refusal n line) (refusal_right n line))

-- what is accepted is told exactly
cap_owner : (n : ℕ) (line : List ℕ) → line_refusal (cap n) line ≡ 0 → cap n ≡ n
cap_owner n line e = cap_exact n (omega (arith, (accepted_derivable (cap n) line e).limits.controllers))

cap_output : (n : ℕ) (line : List ℕ) → line_output (cap n) line ≡ line_output n line
unfolding line_output refusal_or
cap_output n line =
    by_test (eqb (line_refusal (cap n) line) accepted)
    (λ e. let o = cap_owner n line (eqb-true (line_refusal (cap n) line) accepted e) in ap (λ (c : ℕ). line_output c line) o)
    (λ e. pick_false _ _ _ e ∙ (ap refusal_text (cap_refusal n line) ∙ sym (pick_false _ _ _ (rw (cap_refusal n line) at e))))

module _ (line : List ℕ) (o : Option (Bor (List ℕ) × Bor (List ℕ))) (is : parts_in o ≡ split tab line) where
  -- `write_typed`, `typed_output`: no tab
  pub typed_missed : (e : Refusal) → Err e ≡ ok_or o RuleForm → typed_output line ≡ refusal_text (number_of e)
  unfolding typed_output pick
  typed_missed e h =
      let n = none_given o RuleForm e h in
      rw (split_no tab line (ap parts_in (sym n.0) ∙ is), n.1)

  module _ (x y : Bor (List ℕ)) (parts : Ok (x, y) ≡ ok_or o RuleForm) (f : Option ℕ) (field : f ≡ capped (decimal x.now)) where
    there : typed_output line ≡ on_parsed (decimal x.now) (refusal_text rule_form) (λ c. line_output c y.now)
    unfolding typed_output pick
    there =
        let p = split_yes tab line x.now y.now (ap parts_in (sym (some_given o RuleForm (x, y) parts)) ∙ is) in
        rw (p.there, p.front, p.back)

    -- `write_typed`, `typed_output`: no decimal controller
    pub typed_malformed : (e : Refusal) → Err e ≡ ok_or f RuleForm → typed_output line ≡ refusal_text (number_of e)
    unfolding on_parsed
    typed_malformed e h =
        let n = none_given f RuleForm e h in
        rw (there, taken_none cap (decimal x.now) (sym n.0 ∙ field), n.1)

    -- `write_typed`, `typed_output`: a controller and a line
    pub typed_written : (c : ℕ) → Ok c ≡ ok_or f RuleForm → (w : Result ℕ Refusal) (output : List ℕ) → Written (line_output c y.now) w output → Written (typed_output line) w output
    unfolding on_parsed
    typed_written c h w output p =
        let z = capped_read (decimal x.now) c (sym (some_given f RuleForm c h) ∙ field) in
        let q : line_output c y.now ≡ line_output z.number y.now = ap (λ (n : ℕ). line_output n y.now) z.answered ∙ cap_output z.number y.now in
        rw (there, z.is) (rw q at p)

-- ---- `write_input`
module _ (input : List ℕ) where
  -- `write_input`, `rule_output`: a refused input
  pub rule_refused : (e : RefusedInput) → OnlyLineOf input (Err e) → rule_output input ≡ refusal_text (number_of e.refusal)
  unfolding rule_output
  rule_refused e is = or_refused (input_refusal input) _ e.refusal is.number

  -- `write_input`, `rule_output`: its only line
  pub input_written : (line : Bor (List ℕ)) → OnlyLineOf input (Ok line) → (w : Result ℕ Refusal) (o : List ℕ) → Written (typed_output line.now) w o → Written (rule_output input) w o
  unfolding rule_output
  input_written line is w o p = input_whole input line is typed_output w o p
