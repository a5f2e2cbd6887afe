-- What a reading leaves unread is an end of its text, and the part that the joint reading hands back is the first line of such an end.
use mathlib.Core.Path.{◌≡◌, refl, ap, sym, ◌∙◌}
use Prim.Native.Nat.{ℕ, zero, suc, ◌+◌, ◌-◌}
use mathlib.Core.Bool.{true, false}
use mathlib.Core.List.{List, [], ◌∷◌}
use lib.ListN.{length, drop, length-drop, drop_of_length-le}
use lib.Seq.{drop-drop}
use lib.Dec.{eqb, leb}
use native.Mathlib.Omega.{arith}
use borrow.Author.Tests.{leb-true, leb-false}
use Rattle.definitions.specs.Limits.{max_gauges, accepted, no_controller, rule_form, rule_lines, recording_form, recording_lines}
use Rattle.definitions.specs.Bounded.{pick}
use Rattle.definitions.specs.Tables.{node_refusal, rule_heading_refusal}
use Rattle.definitions.specs.Recordings.{mask_refusal, recording_heading_refusal}
use Rattle.definitions.specs.Lines.{line_of, rest_at, Parsed, read, next_line, Scan}
use Rattle.definitions.specs.RuleText.{node_form, node_line, scan_nodes, rule_heading, rule_heading_line, RuleScan, scan_rule}
use Rattle.definitions.specs.Gauges.{gauge_form, gauge_refusal, Gauges}
use Rattle.definitions.specs.RecordingText.{mask_form, at_form, finished_state, at_refusal, mask_line, gauge_line, at_line, scan_masks, GaugeScan, is_gauge, scan_gauges, scan_states, recording_heading, recording_heading_line, RecordingScan, gauged_after_masks, opening_masks, scan_opening, scan_recording, line_in, joint_number, joint_part}
use Rattle.definitions.specs.Program.{bytes_of}
use Rattle.theorems.proofs.Choice.{by_test}
use Rattle.theorems.proofs.NextLines.{next_back, on_next_lem}

-- u is t from some byte on
pub record EndOf (t u : List ℕ) : Type 0 where
  pub at : ℕ
  pub is : drop at t ≡ u

pub end_whole : (t : List ℕ) → EndOf t t
end_whole t = record { at = 0; is = refl }

pub end_later : (t u v : List ℕ) → EndOf t u → EndOf u v → EndOf t v
end_later t u v a b = record { at = a.at + b.at; is = sym (drop-drop b.at a.at t) ∙ (ap (drop b.at) a.is ∙ b.is) }

-- an end begins where its length says
pub end_part : (t u : List ℕ) → EndOf t u → drop (length t - length u) t ≡ u
end_part t u e =
    let l : length u ≡ length t - e.at = ap length (sym e.is) ∙ length-drop e.at t in
    by_test (leb e.at (length t))
    (λ z. let q : length t - length u ≡ e.at = omega (arith, leb-true e.at (length t) z) in rw q e.is)
    (λ z. let h = leb-false e.at (length t) z in
    let q : drop (length t - length u) t ≡ [] = drop_of_length-le t {i = length t - length u} (omega arith) in
    q ∙ sym (sym e.is ∙ drop_of_length-le t {i = e.at} (omega arith)))

-- the text after a line that was read
next_end : {A : Type 0} (missing unformed : ℕ) (form : List ℕ → Parsed A) (check : A → ℕ) (t : List ℕ) (a : A) (rest : List ℕ)
    → next_line missing unformed form check t ≡ read a rest → EndOf t rest
next_end missing unformed form check t a rest e = record { at = rest_at t; is = sym (next_back missing unformed form check t a rest e).left }

-- ---- the readings
nodes_end : (lines i : ℕ) (t : List ℕ) → EndOf t (scan_nodes lines i t).rest
unfolding scan_nodes
nodes_end zero i t = end_whole t
nodes_end (suc lines) i t =
    on_next_lem (λ (s : Scan). EndOf t s.rest) (node_line i t) _ _ (λ k e. end_whole t)
    (λ n rest e. end_later t rest _ (next_end rule_lines rule_form node_form (node_refusal false i) t n rest e) (nodes_end lines (i + 1) rest))

pub rule_end : (t : List ℕ) → EndOf t (scan_rule t).rest
unfolding scan_rule
rule_end t =
    on_next_lem (λ (s : RuleScan). EndOf t s.rest) (rule_heading_line t) _ _ (λ k e. end_whole t)
    (λ h rest e. end_later t rest _ (next_end rule_lines rule_form rule_heading (λ x. rule_heading_refusal x.first x.second) t h rest e) (nodes_end h.second 0 rest))

pub masks_end : (lines : ℕ) (earlier t : List ℕ) → EndOf t (scan_masks lines earlier t).rest
unfolding scan_masks
masks_end zero earlier t = end_whole t
masks_end (suc lines) earlier t =
    on_next_lem (λ (s : Scan). EndOf t s.rest) (mask_line earlier t) _ _ (λ k e. end_whole t)
    (λ m rest e. end_later t rest _ (next_end recording_lines recording_form mask_form (mask_refusal earlier) t m rest e) (masks_end lines (m ∷ earlier) rest))

pub gauges_end : (lines : ℕ) (earlier t : List ℕ) → EndOf t (scan_gauges lines earlier t).rest
unfolding scan_gauges pick
gauges_end zero earlier t = end_whole t
gauges_end (suc lines) earlier t =
    by_test (is_gauge t)
    (λ z. rw z (on_next_lem (λ (s : GaugeScan). EndOf t s.rest) (gauge_line earlier t) _ _ (λ k e. end_whole t)
    (λ g rest e. end_later t rest _ (next_end recording_lines recording_form gauge_form (gauge_refusal earlier) t g rest e) (gauges_end lines (g.atom ∷ earlier) rest))))
    (λ z. rw z (end_whole t))

states_end : (C : ℕ) (masks : List ℕ) (g : Gauges) (lines k prior : ℕ) (t : List ℕ) → EndOf t (scan_states C masks g lines k prior t).rest
unfolding scan_states
states_end C masks g zero k prior t = end_whole t
states_end C masks g (suc lines) k prior t =
    on_next_lem (λ (s : Scan). EndOf t s.rest) (at_line C masks g k prior t) _ _ (λ j e. end_whole t)
    (λ m rest e. end_later t rest _ (next_end recording_lines recording_form (at_form C (length g.atoms)) (at_refusal C masks g k prior) t m rest e)
    (states_end C masks g lines (k + 1) (finished_state g m) rest))

pub gauged_end : (C N : ℕ) (masks t : List ℕ) → EndOf t (gauged_after_masks C N masks t).rest
unfolding gauged_after_masks pick
gauged_end C N masks t =
    let s = scan_gauges max_gauges [] t in
    let e = gauges_end max_gauges [] t in
    by_test (eqb s.number accepted)
    (λ z. rw z (end_later t s.rest _ e (states_end C masks s.gauges N 0 0 s.rest)))
    (λ z. rw z e)

-- whatever follows the `owns` lines
module _ (next : (C N : ℕ) (masks t : List ℕ) → RecordingScan) (ends : (C N : ℕ) (masks t : List ℕ) → EndOf t (next C N masks t).rest) where
  masked_end : (C N : ℕ) (m : Scan) (t : List ℕ) → EndOf t m.rest → EndOf t (opening_masks next C N m).rest
  unfolding pick
  masked_end C N m t e = by_test (eqb m.number accepted) (λ z. rw z (end_later t m.rest _ e (ends C N m.words m.rest))) (λ z. rw z e)

  pub opening_end : (t : List ℕ) → EndOf t (scan_opening next t).rest
  unfolding scan_opening
  opening_end t =
      on_next_lem (λ (s : RecordingScan). EndOf t s.rest) (recording_heading_line t) _ _ (λ k e. end_whole t)
      (λ h rest e. masked_end h.first h.second (scan_masks h.first [] rest) t
      (end_later t rest _ (next_end recording_lines recording_form recording_heading (λ x. recording_heading_refusal x.first x.second) t h rest e) (masks_end h.first [] rest)))

pub recording_end : (t : List ℕ) → EndOf t (scan_recording t).rest
unfolding scan_recording
recording_end t = opening_end gauged_after_masks gauged_end t

-- ---- the part handed back
-- the line at which the readings ended; for 11 the rule's first
unfoldable pub refused_line : (rule recording : List ℕ) → List ℕ
refused_line rule recording =
    pick (eqb (scan_rule rule).number accepted)
    (pick (eqb (joint_number rule recording) no_controller) (line_of rule) (line_of (scan_recording recording).rest))
    (line_of (scan_rule rule).rest)

of_rule_lem : (rule recording rest : List ℕ) → EndOf rule rest → bytes_of rule recording (line_in true rule rest) ≡ line_of rest
unfolding pick
of_rule_lem rule recording rest e = rw (end_part rule rest e)

of_recording : (rule recording rest : List ℕ) → EndOf recording rest → bytes_of rule recording (line_in false recording rest) ≡ line_of rest
unfolding pick
of_recording rule recording rest e = rw (end_part recording rest e)

-- "hands back the refused line itself"
pub part_line_lem : (rule recording : List ℕ) → bytes_of rule recording (joint_part rule recording) ≡ refused_line rule recording
unfolding joint_part refused_line pick
part_line_lem rule recording =
    by_test (eqb (scan_rule rule).number accepted)
    (λ z. by_test (eqb (joint_number rule recording) no_controller)
    (λ y. rw (z, y) (of_rule_lem rule recording rule (end_whole rule)))
    (λ y. rw (z, y) (of_recording rule recording (scan_recording recording).rest (recording_end recording))))
    (λ z. rw z (of_rule_lem rule recording (scan_rule rule).rest (rule_end rule)))
