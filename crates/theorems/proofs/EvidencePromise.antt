-- The promise of the readings behind a verdict: every local trace with those bits gets the same verdict. A settled verdict (strong yes, weak no) stays
-- even on every longer one.
use mathlib.Core.Path.{◌≡◌, refl, sym, ap, ◌∙◌}
use Prim.Native.Nat.{ℕ, zero, suc, ◌-◌, ◌≤◌, ◌<◌}
use native.Mathlib.Nat.{zero-add}
use native.Mathlib.Omega.{arith}
use mathlib.Core.Bool.{Bool, true, false, not, ◌||◌, or-true, true≢false}
use mathlib.Core.List.{List}
use lib.ListN.{length, get_or}
use lib.Dec.{ltb}
use borrow.Author.Tests.{lt-ltb, le-ltb, ltb-true, ltb-false, eq-eqb}
use Rattle.definitions.specs.Bounded.{pick, bit_of}
use Rattle.definitions.specs.Nodes.{Kind, True, Atom, Not, Or, Next, Until, Prev, Since, Run, End, Unknown, Node, node_at}
use Rattle.definitions.specs.Tables.{is_atom}
use Rattle.definitions.specs.Readings.{Trace, local_atom, local, until_at, prev_at, reading, read_from, rows_of, verdict}
use Rattle.theorems.proofs.Choice.{by_test, either_yes}
use Rattle.theorems.proofs.Recursions.{prev_recursion}
use Rattle.theorems.proofs.RuleNodes.{RuleNode, RuleNodes}
use Rattle.theorems.proofs.Semantics.{Row}
use Rattle.definitions.specs.Evidence.{takes_first, takes_second, under, wanted_rows, Found, decides, evidence}
use Rattle.theorems.proofs.EvidenceSteps.{until_same, since_same}
use Rattle.theorems.proofs.NodeReadings.{rule_at_lem, reading_of}
use Rattle.theorems.proofs.EvidencePairs.{Each, each_from}
use Rattle.theorems.proofs.EvidenceWalk.{Marked, ClosedNode, ClosedFrom, closed_at, wanted_closed, wanted_rule}

-- an or has the value of what it takes
or_same : (x y x' y' : Bool) → (pick (x || y) x true ≡ true → x ≡ (x || y) → x' ≡ x) → (pick (x || y) (not x) true ≡ true → y ≡ (x || y) → y' ≡ y) →
    (x' || y') ≡ (x || y)
unfolding pick
or_same true y x' y' first second = rw (first refl refl)
or_same false true x' y' first second = rw (second refl refl, or-true)
or_same false false x' y' first second = rw (first refl refl, second refl refl)

prev_same : (p p' : ℕ → Bool) (i : ℕ) → ((k : ℕ) → suc k ≡ i → p k ≡ prev_at p i → p' k ≡ p k) → prev_at p' i ≡ prev_at p i
prev_same p p' zero h = refl
prev_same p p' (suc i) h = prev_recursion p' (suc i) ∙ (h i refl (sym (prev_recursion p (suc i))) ∙ sym (prev_recursion p (suc i)))

not_settled : (d x : Bool) → not x ≡ not d → x ≡ not (not d)
not_settled true true e = refl
not_settled true false e = absurd (true≢false e)
not_settled false true e = absurd (true≢false (sym e))
not_settled false false e = refl

-- past the end a reading is not settled
pub unsettled : {P : Type 0} (d : Bool) → d ≡ not d → P
unsettled true e = absurd (true≢false e)
unsettled false e = absurd (true≢false (sym e))

-- A trace s, and a trace t of no fewer places; of more only where every value walked on is settled (`grew`).
module _ (s t : Trace) (longer : s.places ≤ t.places) (grew : Bool) (equal : grew ≡ false → s.places ≡ t.places) where
  abbrev pub Settled : Bool → Bool → Type 0
  Settled d x = grew ≡ true → x ≡ not d

  -- where the end decides, the traces are equally long
  ends : (d x : Bool) → Settled d x → x ≡ d → s.places ≡ t.places
  ends d x h e = by_test grew (λ z. unsettled d (sym e ∙ h z)) equal

  next_same : (d : Bool) (i : ℕ) (x y : Bool) → i < s.places → Settled d (pick (ltb (suc i) s.places) x d) →
      (suc i < s.places → x ≡ pick (ltb (suc i) s.places) x d → y ≡ x) →
      pick (ltb (suc i) t.places) y d ≡ pick (ltb (suc i) s.places) x d
  unfolding pick
  next_same d i x y l h f = by_test (ltb (suc i) s.places)
      (λ z. let b : suc i < s.places = ltb-true (suc i) s.places z in rw (z, lt-ltb (suc i) t.places (omega arith)) (f b (rw z)))
      (λ z. let m : s.places ≡ t.places = ends d (pick (ltb (suc i) s.places) x d) h (rw z) in
      let b : s.places ≤ suc i = ltb-false (suc i) s.places z in
      rw (z, le-ltb (suc i) t.places (omega arith)))

  -- a node has its value on t too, if what it takes has
  node_same : (of at : ℕ → Row) (m : ℕ) (K : Kind) (a b : ℕ) → RuleNode m K a b → (d : Bool) (i : ℕ) → i < s.places →
      ((k : ℕ) → k < s.places → a < m → takes_first s.places of K a b d i k ≡ true → Settled (under K d) (of a (under K d) k) → at a (under K d) k ≡ of a (under K d) k) →
      ((k : ℕ) → k < s.places → b < m → takes_second s.places of K a b d i k ≡ true → Settled (under K d) (of b (under K d) k) → at b (under K d) k ≡ of b (under K d) k) →
      (is_atom K ≡ true → Settled d (s.atom a d i) → t.atom a d i ≡ s.atom a d i) →
      Settled d (reading s of K a b d i) → reading t at K a b d i ≡ reading s of K a b d i
  node_same of at m True a b r d i l first second atom h = refl
  node_same of at m Atom a b r d i l first second atom h = atom refl h
  node_same of at m Not a b r d i l first second atom h = ap not (first i l r (eq-eqb i i refl) (λ z. not_settled d (of a (not d) i) (h z)))
  node_same of at m Or a b r d i l first second atom h =
      or_same (of a d i) (of b d i) (at a d i) (at b d i)
      (λ c e. first i l r.0 (rw (eq-eqb i i refl) c) (λ z. e ∙ h z))
      (λ c e. second i l r.1 (rw (eq-eqb i i refl) c) (λ z. e ∙ h z))
  node_same of at m Next a b r d i l first second atom h =
      next_same d i (of a d (suc i)) (at a d (suc i)) l h
      (λ n e. first (suc i) n r (rw (eq-eqb (suc i) (suc i) refl, lt-ltb (suc i) s.places n)) (λ z. e ∙ h z))
  node_same of at m Until a b r d i l first second atom h =
      until_same d s.places t.places i (of a d) (of b d) (at a d) (at b d) l longer (ends d (until_at d s.places (of a d) (of b d) i) h)
      (λ k x y c e. first k y r.0 c (λ z. e ∙ h z)) (λ k x y c e. second k y r.1 c (λ z. e ∙ h z))
  node_same of at m Prev a b r d i l first second atom h =
      prev_same (of a d) (at a d) i (λ k n e. first k (omega arith) r (eq-eqb (suc k) i n) (λ z. e ∙ h z))
  node_same of at m Since a b r d i l first second atom h =
      since_same i (of a d) (of b d) (at a d) (at b d)
      (λ k x c e. first k (omega arith) r.0 c (λ z. e ∙ h z)) (λ k x c e. second k (omega arith) r.1 c (λ z. e ∙ h z))
  node_same of at m Run a b r d i l first second atom h = absurd r
  node_same of at m End a b r d i l first second atom h = absurd r
  node_same of at m Unknown a b r d i l first second atom h = absurd r

  -- every reading that the walk comes to is the same on both traces, if those of atoms are
  module _ (ns : List Node) (nodes : RuleNodes 0 ns) (W : ℕ → Row)
      (closed : ClosedFrom s.places (read_from (rows_of s ns)) (length ns) (Marked W) 0 ns)
      (atoms : (m : ℕ) (d : Bool) (i : ℕ) → m < length ns → i < s.places → W m d i ≡ true → is_atom (node_at ns m).kind ≡ true →
      Settled d (s.atom (node_at ns m).first d i) → t.atom (node_at ns m).first d i ≡ s.atom (node_at ns m).first d i) where
    walk_same : (j m : ℕ) → m < j → m < length ns → (d : Bool) (i : ℕ) → i < s.places → W m d i ≡ true → Settled d (read_from (rows_of s ns) m d i) →
        read_from (rows_of t ns) m d i ≡ read_from (rows_of s ns) m d i
    walk_same zero m u l d i b w h = absurd (omega arith)
    walk_same (suc j) m u l d i b w h =
        let on : read_from (rows_of s ns) m d i ≡ reading s (read_from (rows_of s ns)) (node_at ns m).kind (node_at ns m).first (node_at ns m).second d i
        = reading_of s ns nodes m l d i b in
        let C : ClosedNode s.places (read_from (rows_of s ns)) (length ns) (Marked W) m (node_at ns m)
        = rw zero-add at (closed_at s.places (read_from (rows_of s ns)) (length ns) (Marked W) 0 ns closed m l) in
        let r : RuleNode m (node_at ns m).kind (node_at ns m).first (node_at ns m).second = rw zero-add at (rule_at_lem 0 ns nodes m l) in
        reading_of t ns nodes m l d i (omega arith)
        ∙ (node_same (read_from (rows_of s ns)) (read_from (rows_of t ns)) m (node_at ns m).kind (node_at ns m).first (node_at ns m).second r d i b
        (λ k c e z g. walk_same j (node_at ns m).first (omega arith) (omega arith) (under (node_at ns m).kind d) k c (C.first d i k b c w e z) g)
        (λ k c e z g. walk_same j (node_at ns m).second (omega arith) (omega arith) (under (node_at ns m).kind d) k c (C.second d i k b c w e z) g)
        (λ z g. atoms m d i l b w z g)
        (λ z. sym on ∙ h z)
        ∙ sym on)

    pub reached_same : (m : ℕ) (d : Bool) (i : ℕ) → m < length ns → i < s.places → W m d i ≡ true → Settled d (read_from (rows_of s ns) m d i) →
        read_from (rows_of t ns) m d i ≡ read_from (rows_of s ns) m d i
    reached_same m d i l b w h = walk_same (suc m) m (omega arith) l d i b w h

-- us has the bit of ws in node j, an atom, at place k
abbrev pub SameBit : List Node → List ℕ → List ℕ → ℕ → ℕ → Type 0
SameBit ns ws us j k = bit_of (get_or us k 0) (node_at ns j).first ≡ bit_of (get_or ws k 0) (node_at ns j).first

-- it has "those bits"
abbrev pub SameBits : List Node → List ℕ → List ℕ → List Found → Type 0
SameBits ns ws us fs = Each (SameBit ns ws us) fs

-- Local traces of one mask, the second no shorter; it has the bits of the first in the readings behind the first one's verdict.
module _ (mask : ℕ) (ws us : List ℕ) (ns : List Node) (weak : Bool) (nodes : RuleNodes 0 ns) (some_node : 0 < length ns) (some_place : 0 < length ws)
    (longer : length ws ≤ length us) (grew : Bool) (equal : grew ≡ false → length ws ≡ length us)
    (bits : SameBits ns ws us (evidence mask ws ns weak)) where
  bit_same : (j k : ℕ) → j < length ns → k < length ws → decides mask ws ns (wanted_rows (local mask ws) ns weak) j k ≡ true → SameBit ns ws us j k
  unfolding evidence
  bit_same j k l b e =
      each_from (SameBit ns ws us) (decides mask ws ns (wanted_rows (local mask ws) ns weak)) j k e (length ns) l (length ws) 0 (omega arith) (omega arith) bits

  atoms_same : (m : ℕ) (d : Bool) (i : ℕ) → m < length ns → i < length ws → read_from (wanted_rows (local mask ws) ns weak) m d i ≡ true →
      is_atom (node_at ns m).kind ≡ true → (grew ≡ true → local_atom mask ws (node_at ns m).first d i ≡ not d) →
      local_atom mask us (node_at ns m).first d i ≡ local_atom mask ws (node_at ns m).first d i
  unfolding pick
  atoms_same m d i l b w z h = by_test (bit_of mask (node_at ns m).first)
      (λ o. rw (o, bit_same m i l b (rw (z, o, wanted))))
      (λ o. by_test (ltb (suc i) (length ws))
      (λ c. let n : suc i < length ws = ltb-true (suc i) (length ws) c in
      rw (o, c, lt-ltb (suc i) (length us) (omega arith), bit_same m i l b (rw (z, o, c, wanted))))
      (λ c. let q : length ws ≡ length us = ends (local mask ws) (local mask us) longer grew equal d (local_atom mask ws (node_at ns m).first d i) h (rw (o, c)) in
      let n : length ws ≤ suc i = ltb-false (suc i) (length ws) c in
      rw (o, c, le-ltb (suc i) (length us) (omega arith))))
    where
      wanted : (read_from (wanted_rows (local mask ws) ns weak) m true i || read_from (wanted_rows (local mask ws) ns weak) m false i) ≡ true
      wanted = either_yes (λ d. read_from (wanted_rows (local mask ws) ns weak) m d i) d w

  -- every node that the walk comes to, at each place and in each reading, has the same value on both
  pub local_reached_same : (m : ℕ) (d : Bool) (i : ℕ) → m < length ns → i < length ws → read_from (wanted_rows (local mask ws) ns weak) m d i ≡ true →
      (grew ≡ true → read_from (rows_of (local mask ws) ns) m d i ≡ not d) →
      read_from (rows_of (local mask us) ns) m d i ≡ read_from (rows_of (local mask ws) ns) m d i
  local_reached_same =
      reached_same (local mask ws) (local mask us) longer grew equal ns nodes (read_from (wanted_rows (local mask ws) ns weak))
      (wanted_closed (local mask ws) ns weak) atoms_same

  pub verdict_same : (grew ≡ true → verdict (local mask ws) ns (length ns - 1) weak ≡ not weak) →
      verdict (local mask us) ns (length ns - 1) weak ≡ verdict (local mask ws) ns (length ns - 1) weak
  unfolding verdict
  verdict_same h = local_reached_same (length ns - 1) weak 0 (omega arith) some_place (wanted_rule (local mask ws) ns weak some_node some_place) h

-- "Every local trace of the same length and own mask with those bits must get the same verdict"
pub promise : (mask : ℕ) (ws us : List ℕ) (ns : List Node) (weak : Bool) → RuleNodes 0 ns → 0 < length ns → 0 < length ws →
    length ws ≡ length us → SameBits ns ws us (evidence mask ws ns weak) →
    verdict (local mask us) ns (length ns - 1) weak ≡ verdict (local mask ws) ns (length ns - 1) weak
promise mask ws us ns weak nodes some_node some_place q bits =
    verdict_same mask ws us ns weak nodes some_node some_place (omega arith) false (λ z. q) bits (λ z. absurd (true≢false (sym z)))

-- a strong yes, or a weak no, stays on every local trace of the same own mask with those bits that is no shorter
pub promise_longer : (mask : ℕ) (ws us : List ℕ) (ns : List Node) (weak : Bool) → RuleNodes 0 ns → 0 < length ns → 0 < length ws →
    length ws ≤ length us → SameBits ns ws us (evidence mask ws ns weak) →
    verdict (local mask ws) ns (length ns - 1) weak ≡ not weak → verdict (local mask us) ns (length ns - 1) weak ≡ not weak
promise_longer mask ws us ns weak nodes some_node some_place l bits e =
    verdict_same mask ws us ns weak nodes some_node some_place l true (λ z. absurd (true≢false z)) bits (λ z. e) ∙ e
