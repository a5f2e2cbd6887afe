-- The check of a table, turn by turn and return by return.
use mathlib.Core.Bool.{Bool, true, ◌&&◌}
use mathlib.Core.List.{List}
use mathlib.Core.Path.{◌≡◌, refl, sym, ◌∙◌}
use Prim.Native.Nat.{ℕ, suc, ◌+◌, ◌-◌, ◌<◌, ◌≤◌}
use native.Mathlib.Nat.{sub-zero}
use native.Mathlib.Omega.{arith}
use borrow.Author.Rules.{rules}
use borrow.Author.Tests.{leb-true}
use lib.Dec.{leb}
use lib.ListN.{length, drop, get_or, drop_of_length-le}
use lib.Seq.{drop-cons}
use native.Mathlib.Numerals.{add-one}
use Rattle.definitions.specs.Limits.{max_table_nodes, accepted, rule_limits, rule_lines}
use Rattle.definitions.specs.Bounded.{pick, within, or_else}
use Rattle.definitions.specs.Nodes.{node_of}
use Rattle.definitions.specs.Tables.{node_refusal, nodes_refusal, rule_heading_refusal}
use Rattle.theorems.proofs.Choice.{both_true, accept_yes}
use Rattle.theorems.proofs.NodeLaws.{accepted_heading}
use Rattle.rules.specs.Meaning.{meaning, OfWord}
use Rattle.rules.specs.declared.node.Node.{Node}
use Rattle.rules.specs.Fits.{node_fits}
use Rattle.rules.specs.Refusals.{number_of}
use Rattle.rules.specs.declared.refusal.Refusal.{Refusal}
use Rattle.rules.proofs.RefusalLaws.{refusals, first_refusal, next_refusal}
use Rattle.rules.proofs.FitLaws.{fits_none}

-- what is left to test at node i is the answer
pub record Left (rewritten : Bool) (count : ℕ) (ws : List ℕ) (i : ℕ) : Type 0 where
  pub inside : i ≤ count
  pub rest : nodes_refusal rewritten 0 count ws ≡ nodes_refusal rewritten i (count - i) (drop i ws)

module _ (rewritten : Bool) (count : ℕ) (ws : List ℕ) where
  -- `check_each`, before node 0: all of `nodes_refusal` is left
  pub left_start : Left rewritten count ws 0
  left_start = record { inside = omega arith; rest = rw sub-zero }

  more : (i : ℕ) → i < count → count - i ≡ suc (count - (i + 1))
  more i h = omega arith

  -- `check_each`, node i is missing: `nodes_refusal` is the number of missing lines
  pub left_missing : (i : ℕ) → Left rewritten count ws i → i < count → length ws ≤ i → rule_lines ≡ nodes_refusal rewritten 0 count ws
  unfolding nodes_refusal
  left_missing i l h m = sym (l.rest ∙ rw (more i h, drop_of_length-le ws m))

  -- what is left at a node that is there
  at : (i : ℕ) → i < count → i < length ws →
      nodes_refusal rewritten i (count - i) (drop i ws) ≡
      or_else (node_refusal rewritten i (node_of (get_or ws i 0))) (nodes_refusal rewritten (i + 1) (count - (i + 1)) (drop (i + 1) ws))
  unfolding nodes_refusal
  at i h m = rw (more i h, drop-cons ws i 0 m, ← add-one i)

  -- `check_each`, node i is refused: its number is `nodes_refusal`
  pub left_refused : (i : ℕ) (e : Refusal) (n : Node) → Left rewritten count ws i → i < count → i < length ws → OfWord (get_or ws i 0) n →
      number_of e ≡ node_refusal rewritten i (meaning n) → number_of e ≡ nodes_refusal rewritten 0 count ws
  left_refused i e n l h m o r =
      let refused : number_of e ≡ node_refusal rewritten i (node_of (get_or ws i 0)) = rw (← o.meant) r in
      first_refusal e _ (nodes_refusal rewritten (i + 1) (count - (i + 1)) (drop (i + 1) ws)) refused ∙ sym (l.rest ∙ at i h m)

  -- `check_each`, node i is accepted: `nodes_refusal` is left from the next node on
  pub left_next : (i : ℕ) (n : Node) → Left rewritten count ws i → i < count → i < length ws → OfWord (get_or ws i 0) n →
      accepted ≡ node_refusal rewritten i (meaning n) → Left rewritten count ws (i + 1)
  left_next i n l h m o a =
      let passed : accepted ≡ node_refusal rewritten i (node_of (get_or ws i 0)) = rw (← o.meant) a in
      record { inside = omega arith; rest = l.rest ∙ at i h m ∙ sym (next_refusal _ _ (nodes_refusal rewritten (i + 1) (count - (i + 1)) (drop (i + 1) ws)) passed refl) }

  -- `check_each`, no node is left: `nodes_refusal` is 0
  pub left_done : (i : ℕ) → Left rewritten count ws i → count ≤ i → accepted ≡ nodes_refusal rewritten 0 count ws
  unfolding nodes_refusal
  left_done i l h = let z : count - i ≡ 0 = omega (arith, l.inside) in sym (l.rest ∙ rw z)

-- before node i: where all so far fit, what is left to test is the answer
pub record Fitting (rewritten : Bool) (count : ℕ) (ws : List ℕ) (fit : Bool) (i : ℕ) : Type 0 where
  pub inside : i ≤ count
  pub rest : fit ≡ true → Left rewritten count ws i

module _ (rewritten : Bool) (count : ℕ) (ws : List ℕ) where
  -- `all_fit`, before node 0: all of `nodes_refusal` is left
  pub fit_start : Fitting rewritten count ws true 0
  fit_start = record { inside = omega arith; rest = λ e. left_start rewritten count ws }

  module _ (fit : Bool) (i : ℕ) (so : Fitting rewritten count ws fit i) where
    -- `all_fit`, a turn: if node i and all before it fit, `nodes_refusal` is left from the next on
    pub fit_next : (z : Bool) (n : Node) → i < count → count ≤ length ws → OfWord (get_or ws i 0) n → z ≡ node_fits rewritten i (meaning n) → Fitting rewritten count ws (fit && z) (i + 1)
    fit_next z n h m o e = record {
      inside = omega arith;
      rest = λ b.
          let both = both_true fit z b in
          left_next rewritten count ws i n (so.rest both.0) h (omega arith) o (fits_none rewritten i (meaning n) z e both.1);
    }

    -- `all_fit`, no node is left: if all fit, `nodes_refusal` is 0
    pub fit_done : count ≤ i → fit ≡ true → nodes_refusal rewritten 0 count ws ≡ accepted
    fit_done h t = sym (left_done rewritten count ws i (so.rest t) h)

pub ruleset fit_laws = (rules, fit_start, fit_next, fit_done)

-- `check_nodes`, all nodes fit: `nodes_refusal` is 0
pub all_fit : (rewritten : Bool) (count : ℕ) (ws : List ℕ) (z : Bool) → (z ≡ true → nodes_refusal rewritten 0 count ws ≡ accepted) → z ≡ true → accepted ≡ nodes_refusal rewritten 0 count ws
all_fit rewritten count ws z h e = sym (h e)

pub ruleset node_laws = (rules, left_start, left_missing, left_refused, left_next, left_done)

-- `check_rule`, the heading is accepted: its count is within the limit
pub rule_few : (controller count : ℕ) → accepted ≡ rule_heading_refusal controller count → count ≤ max_table_nodes
rule_few controller count a = omega (arith, (accepted_heading controller count (sym a)).1.1)

-- `check_table`, the count is accepted: it is within the limit
pub table_few_lem : (count : ℕ) → accepted ≡ pick (within 1 max_table_nodes count) accepted rule_limits → count ≤ max_table_nodes
table_few_lem count a = leb-true count max_table_nodes (both_true (leb 1 count) (leb count max_table_nodes) (accept_yes (within 1 max_table_nodes count) rule_limits (omega arith) (sym a))).1

pub ruleset table_laws = (refusals, rule_few, table_few_lem)
