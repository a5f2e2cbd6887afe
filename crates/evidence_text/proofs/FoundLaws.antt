-- The lines of the pairs that are found, from the numbers that they are in lent space.
use mathlib.Core.Path.{◌≡◌, refl, sym, ap₂}
use mathlib.Core.Bool.{Bool, true, false, true≢false}
use mathlib.Core.List.{List, [], ◌∷◌, ◌++◌, map}
use Prim.Native.Nat.{ℕ, zero, suc, ◌+◌, ◌*◌, ◌/◌, ◌%◌, ◌<◌, ◌≤◌}
use native.Mathlib.Omega.{arith}
use lib.ListN.{length, drop, get_or, length-append, get_or-append, take-append-drop}
use Rattle.definitions.specs.Limits.{max_rule_nodes, max_pairs, atom_count}
use Rattle.definitions.specs.Bounded.{bit_of, bit}
use Rattle.definitions.specs.Nodes.{Kind, Node, node_of, node_at}
use Rattle.definitions.specs.Tables.{Rule, is_atom, nodes_in}
use Rattle.definitions.specs.Recordings.{Recording, mask_of}
use Rattle.definitions.specs.Projection.{local_trace}
use Rattle.definitions.specs.Evidence.{Found, pair_word}
use Rattle.definitions.specs.Operations.{evidence_of}
use Rattle.definitions.specs.Why.{state_of_place, found_text, found_lines}
use Rattle.theorems.proofs.NodeWords.{by_kind}
use Rattle.theorems.proofs.NodeLaws.{accepted_rule}
use Rattle.theorems.proofs.RuleNodes.{RuleNode, rule_nodes_lem, rule_length_lem, rule_few}
use Rattle.theorems.proofs.NodeReadings.{rule_at_lem}
use Rattle.theorems.proofs.ScheduleIndependence.{Accepted}
use Rattle.theorems.proofs.EvidencePairs.{Each, AtomAt, evidence_atoms}
use Rattle.theorems.proofs.EvidenceJudged.{pairs_few, pairs_low}
use Rattle.mark_words.proofs.WordLaws.{bit_few}
use Rattle.projection.specs.Places.{Countable}
use Rattle.projection.proofs.PlaceLaws.{countable}
use Rattle.walk.proofs.WalkLaws.{node_at_lem}
use Rattle.judges.proofs.CheckedNodes.{nodes_there_lem}
use Rattle.judges.specs.Local.{TraceIs}
use Rattle.judges.specs.declared.local.LocalTrace.{LocalTrace}
use Rattle.judges.proofs.LocalLaws.{trace_length}
use Rattle.evidence_text.specs.Pairs.{max_pair_bytes, pair_in, pairs_in, PairReady}
use Rattle.projection.proofs.StateLaws.{state_low}
use Rattle.evidence_text.proofs.LineLaws.{line_length_lem}

-- what holds of each pair holds of the number that it is in lent space
each_number : (P : ℕ → ℕ → Type 0) (fs : List Found) → Each (λ j k. j < max_rule_nodes) fs → Each P fs → (i : ℕ) → i < length fs →
    P (get_or (map pair_word fs) i 0 % max_rule_nodes) (get_or (map pair_word fs) i 0 / max_rule_nodes)
each_number P [] few each i h = absurd (omega arith)
each_number P (g ∷ gs) few each zero h =
    let low : g.atom_node < max_rule_nodes = few.0 in
    let k : (g.place * max_rule_nodes + g.atom_node) / max_rule_nodes ≡ g.place = omega arith in
    let j : (g.place * max_rule_nodes + g.atom_node) % max_rule_nodes ≡ g.atom_node = omega arith in
    rw (k, j) each.0
each_number P (g ∷ gs) few each (suc i) h = each_number P gs few.1 each.1 i (omega arith)

-- an atom's number in a rule
atom_first_lem : (i a b : ℕ) (k : Kind) → is_atom k ≡ true → RuleNode i k a b → a < atom_count
atom_first_lem i a b =
    by_kind (λ k. is_atom k ≡ true → RuleNode i k a b → a < atom_count)
    (λ e h. absurd (true≢false (sym e)))
    (λ e h. h)
    (λ e h. absurd (true≢false (sym e)))
    (λ e h. absurd (true≢false (sym e)))
    (λ e h. absurd (true≢false (sym e)))
    (λ e h. absurd (true≢false (sym e)))
    (λ e h. absurd (true≢false (sym e)))
    (λ e h. absurd (true≢false (sym e)))
    (λ e h. absurd (true≢false (sym e)))
    (λ e h. absurd (true≢false (sym e)))
    (λ e h. absurd (true≢false (sym e)))

-- an accepted rule and recording, and the local trace of the rule's controller
module _ (r : Rule) (R : Recording) (good : Accepted r R) (l : LocalTrace) (of : TraceIs R r.controller l) where
  abbrev c : ℕ
  c = r.controller

  abbrev ns : List Node
  ns = nodes_in r.count r.nodes

  abbrev trace : List ℕ
  trace = local_trace R c

  enough : r.count ≤ length r.nodes
  enough = nodes_there_lem false 0 r.count r.nodes (accepted_rule r good.rule).1

  runs : Countable R.count c R.states
  runs = countable R c good.recording good.controller

  places_few : length trace ≤ l.count
  places_few = omega (arith, trace_length R c l of)

  word_is : (k : ℕ) → k < length trace → get_or l.words k 0 ≡ get_or trace k 0
  word_is k h = rw (sym (take-append-drop l.count l.words), of.places) (get_or-append trace (drop l.count l.words) 0 k h)

  module _ (j k : ℕ) (is : AtomAt ns (length trace) j k) where
    node_counted : j < r.count
    node_counted = omega (arith, is.node, rule_length_lem r good.rule)

    node_is : node_at ns j ≡ node_of (get_or r.nodes j 0)
    node_is = node_at_lem r.count r.nodes j node_counted enough

    atom_fits : (node_at ns j).first < atom_count
    atom_fits =
        atom_first_lem (0 + j) (node_at ns j).first (node_at ns j).second (node_at ns j).kind is.atom (rule_at_lem 0 ns (rule_nodes_lem r good.rule) j is.node)

    atom_low : (node_of (get_or r.nodes j 0)).first < atom_count
    atom_low = rw node_is at atom_fits

    -- its line, from the tables in lent space
    found_line : (f : Found) → f.place ≡ k → f.atom_node ≡ j → found_text R c ns f ≡ pair_in r l R f
    unfolding pair_in state_of_place
    found_line f p q = rw (p, q, node_is, of.controller, word_is k is.place)

    line_short : (f : Found) → f.place ≡ k → f.atom_node ≡ j → length (found_text R c ns f) ≤ max_pair_bytes
    line_short f p q =
        let a : ℕ = (node_at ns j).first in
        rw (p, q)
        (line_length_lem (record { state = state_of_place R c k; step = k; atom = a; value = bit (bit_of (get_or trace k 0) a); node = j })
        (omega (arith, state_low R c k runs.some_state, runs.few_states))
        (omega (arith, is.place, places_few, of.few))
        (omega (arith, atom_fits))
        (omega (arith, bit_few (bit_of (get_or trace k 0) a)))
        (omega (arith, node_counted, rule_few r good.rule)))

  -- a line for each pair that is found, from their numbers
  lines_are : (fs : List Found) → Each (λ j k. j < max_rule_nodes) fs → Each (AtomAt ns (length trace)) fs →
      found_lines R c ns fs ≡ pairs_in r l R (map pair_word fs)
  lines_are [] few each = refl
  lines_are (f ∷ fs) few each =
      let low : f.atom_node < max_rule_nodes = few.0 in
      let k : (f.place * max_rule_nodes + f.atom_node) / max_rule_nodes ≡ f.place = omega arith in
      let j : (f.place * max_rule_nodes + f.atom_node) % max_rule_nodes ≡ f.atom_node = omega arith in
      rw (k, j)
      (ap₂ (λ (x y : List ℕ). x ++ y) (found_line f.atom_node f.place each.0 f refl refl) (lines_are fs few.1 each.1))

  lines_short : (fs : List Found) → Each (AtomAt ns (length trace)) fs → length (found_lines R c ns fs) ≤ length fs * max_pair_bytes
  lines_short [] each = omega arith
  lines_short (f ∷ fs) each =
      omega (
        arith,
        length-append (found_text R c ns f) (found_lines R c ns fs),
        line_short f.atom_node f.place each.0 f refl refl,
        lines_short fs each.1,
      )

  module _ (weak : Bool) where
    abbrev fs : List Found
    fs = evidence_of r R weak

    atoms : Each (AtomAt ns (length trace)) fs
    atoms = evidence_atoms (mask_of R c) trace ns weak

    pub evidence_lines : found_lines R c ns fs ≡ pairs_in r l R (map pair_word fs)
    evidence_lines = lines_are fs (pairs_low r R good weak) atoms

    pub evidence_short : length (found_lines R c ns fs) ≤ max_pairs * max_pair_bytes
    evidence_short = omega (arith, lines_short fs atoms, pairs_few r R good weak)

    pub evidence_ready : (i : ℕ) → i < length fs → PairReady r l R (get_or (map pair_word fs) i 0)
    evidence_ready i h =
        let w : ℕ = get_or (map pair_word fs) i 0 in
        let is : AtomAt ns (length trace) (w % max_rule_nodes) (w / max_rule_nodes) = each_number (AtomAt ns (length trace)) fs (pairs_low r R good weak) atoms i h in
        record {
          recording = rw of.controller runs;
          node = omega (arith, node_counted (w % max_rule_nodes) (w / max_rule_nodes) is, enough);
          atom = atom_low (w % max_rule_nodes) (w / max_rule_nodes) is;
          place = omega (arith, is.place, places_few, of.there);
          few = omega (arith, is.place, places_few, of.few);
        }
