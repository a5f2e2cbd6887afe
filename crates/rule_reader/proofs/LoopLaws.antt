-- Laws of the loop over node lines: one for each return and for a turn.
use mathlib.Core.Path.{◌≡◌, refl}
use mathlib.Core.List.{List}
use Prim.Native.Nat.{ℕ, zero, suc, ◌+◌, ◌-◌, ◌^◌, ◌<◌, ◌≤◌}
use mathlib.Core.Bool.{false}
use native.Mathlib.Omega.{arith}
use lib.ListN.{length, take, drop, set, length-drop}
use mir.Syntax.{w64}
use mir.Val.{Fits}
use Rattle.std.specs.Prelude.{Ok, Err}
use Rattle.definitions.specs.Limits.{accepted, rule_form, rule_lines, max_rule_nodes}
use Rattle.definitions.specs.Bounded.{pick}
use Rattle.definitions.specs.Nodes.{node_word}
use Rattle.definitions.specs.Tables.{node_refusal}
use Rattle.definitions.specs.Lines.{is_empty, rest_of, stop, more}
use Rattle.definitions.specs.RuleText.{node_form, node_line, scan_nodes}
use Rattle.theorems.proofs.Choice.{pick_true, pick_false}
use Rattle.theorems.proofs.NextLines.{on_next_lem, next_some}
use Rattle.theorems.proofs.RuleTextSteps.{nodes_stop, nodes_step}
use Rattle.rules.specs.Refusals.{number_of}
use Rattle.rules.specs.declared.refusal.Refusal.TheVariants.{RuleLines}
use Rattle.lines.specs.Reading.{FirstLine, LinesScanned}
use Rattle.lines.specs.Told.{next_told}
use Rattle.lines.specs.declared.Line.{Line}
use Rattle.lines.specs.declared.Stop.{Stop}
use Rattle.lines.proofs.PartLaws.{part_to_end, empty_yes, empty_no}
use Rattle.lines.proofs.LoopLaws.{Lines, lines_none, lines_done, lines_stop, lines_next, after_line, line_inside, Counted, counted_more, counted_stop, counted_end}
use Rattle.lines.proofs.StopLaws.{StopTold, at_stop}
use Rattle.lines.proofs.ToldLaws.{told_refused, told_back}

-- ---- how many words
pub nodes_counted : (lines i : ℕ) (t : List ℕ) → Counted lines (scan_nodes lines i t)
unfolding scan_nodes
nodes_counted zero i t = counted_end _ t
nodes_counted (suc lines) i t =
    on_next_lem (Counted (suc lines)) (node_line i t) _ _
    (λ k e. counted_stop (suc lines) k t (next_some rule_lines rule_form node_form (node_refusal false i) t (omega arith) (omega arith) k e))
    (λ n rest e. counted_more lines (node_word n) _ (nodes_counted lines (i + 1) rest))

nodes_end : (i k : ℕ) (t : List ℕ) → pick (is_empty t) accepted rule_lines ≡ k → scan_nodes 0 i t ≡ stop k t
unfolding scan_nodes
nodes_end i k t e = rw e

-- ---- `scan_nodes`
-- the first i nodes are read
pub record NodesLeft (count start : ℕ) (text o o' : List ℕ) (at i : ℕ) : Type 0 where
  pub within : i ≤ count
  pub lines : Lines (scan_nodes count 0 (drop start text)) text o o' at i (scan_nodes (count - i) i (drop at text))

-- `scan_nodes`, before the first turn: all of `scan_nodes` is left
pub nodes_start : (count start : ℕ) (text o : List ℕ) → start ≤ length text → NodesLeft count start text o o start 0
nodes_start count start text o h =
    let z : count - 0 ≡ count = omega arith in
    record { within = omega arith; lines = rw z (lines_none _ _ text o start h refl) }

module _ (count start : ℕ) (text o o' : List ℕ) (at i : ℕ) (inv : NodesLeft count start text o o' at i) (few : count ≤ max_rule_nodes) (room : max_rule_nodes ≤ length o) where
  -- `scan_nodes`, all nodes are read and no byte is left: `scan_nodes` is accepted
  pub nodes_done : count ≤ i → length text ≤ at → LinesScanned (scan_nodes count 0 (drop start text)) text o (Ok at) o'
  nodes_done h l =
      let z : count - i ≡ 0 = omega arith in
      let e = pick_true {A = ℕ} _ accepted rule_lines (empty_yes (drop at text) (omega (arith, length-drop at text))) in
      lines_done _ text o o' at i _ inv.lines (rw z (nodes_end i accepted (drop at text) e)) (omega (arith, inv.within))

  -- `scan_nodes`, all nodes are read and bytes are left: `scan_nodes` is refused
  pub nodes_over : count ≤ i → at < length text → LinesScanned (scan_nodes count 0 (drop start text)) text o (Err (record { refusal = RuleLines; at = at })) o'
  nodes_over h l =
      let z : count - i ≡ 0 = omega arith in
      let e = pick_false {A = ℕ} _ accepted rule_lines (empty_no (drop at text) (λ q. omega (arith, length-drop at text))) in
      lines_stop _ text o o' at i _ inv.lines RuleLines (rw z (nodes_end i rule_lines (drop at text) e)) (omega (arith, inv.within))

  module _ (h : i < count) (l : Line) (is : FirstLine (take (length text - at) (drop at text)) l) where
    one_fewer : count - i ≡ suc (count - (i + 1))
    one_fewer = omega arith

    ends : FirstLine (drop at text) l
    ends = rw (part_to_end text at) at is

    -- `scan_nodes`, a refused line: `scan_nodes` stops at that line with its refusal
    pub nodes_stopped : (s : Stop) → StopTold (next_told node_word (node_line i (take (length text - at) (drop at text)))) at s
        → LinesScanned (scan_nodes count 0 (drop start text)) text o (Err s) o'
    nodes_stopped s r =
        let n = told_refused node_word (node_line i (drop at text)) s.refusal (rw (part_to_end text at) at r.refused) in
        at_stop (λ (z : Stop). LinesScanned (scan_nodes count 0 (drop start text)) text o (Err z) o') s at r.place
        (lines_stop _ text o o' at i _ inv.lines s.refusal (rw one_fewer (nodes_stop (count - (i + 1)) i (drop at text) (number_of s.refusal) n)) (omega (arith, inv.within)))

    node_inside : at + l.next ≤ length text
    node_inside = line_inside text at l ends inv.lines.inside

    pub node_next_fits : length text < 2 ^ 64 → Fits w64 (at + l.next)
    node_next_fits f = record { fits = omega (arith, node_inside) }

    -- `scan_nodes`, a turn: `scan_nodes` has one word more, and goes on at the next line
    pub nodes_next : (w : ℕ) → Ok w ≡ next_told node_word (node_line i (take (length text - at) (drop at text))) → NodesLeft count start text o (set o' i w) (at + l.next) (i + 1)
    nodes_next w r =
        let n = told_back node_word rule_lines rule_form node_form (node_refusal false i) (drop at text) w (rw (part_to_end text at) at r) in
        let step : scan_nodes (count - i) i (drop at text) ≡ more w (scan_nodes (count - (i + 1)) (i + 1) (drop (at + l.next) text))
        = rw (one_fewer, ← after_line text at l ends, ← n.gives) (nodes_step (count - (i + 1)) i (drop at text) n.value (rest_of (drop at text)) n.is) in
        record { within = omega arith; lines = lines_next _ text o o' at i _ inv.lines w (at + l.next) _ step (omega arith) node_inside }
