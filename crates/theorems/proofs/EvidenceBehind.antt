-- The pairs of the evidence are just the atoms to which the walk comes, but for a foreign atom at the last place.
use mathlib.Core.Path.{◌≡◌, refl, sym}
use Prim.Native.Nat.{ℕ, suc, ◌<◌}
use native.Mathlib.Omega.{arith}
use mathlib.Core.Bool.{Bool, true, false, ◌||◌, true≢false}
use mathlib.Core.List.{List, [], ◌∷◌}
use lib.ListN.{length}
use lib.Dec.{ltb}
use borrow.Author.Tests.{lt-ltb, ltb-true}
use Rattle.definitions.specs.Bounded.{bit_of}
use Rattle.definitions.specs.Nodes.{Kind, True, Atom, Not, Or, Next, Until, Prev, Since, Run, End, Unknown, Node, node_at}
use Rattle.definitions.specs.Tables.{Rule, rule_refusal, nodes_in, is_atom}
use Rattle.definitions.specs.Readings.{local, read_from}
use Rattle.definitions.specs.Reached.{Behind}
use Rattle.definitions.specs.Evidence.{wanted_rows, Found, decides, evidence}
use Rattle.theorems.proofs.Choice.{by_test, either_yes, both_true}
use Rattle.theorems.proofs.RuleNodes.{RuleNodes, rule_nodes_lem}
use Rattle.theorems.proofs.EvidencePairs.{Each, each_from, all_from, each_so}
use Rattle.theorems.proofs.ReachedWanted.{Wanted, come, reached_wanted, wanted_reached}

-- node m at place i is one of the pairs
pub data Listed (m i : ℕ) : List Found → Type 0 where
  here : {f : Found} {fs : List Found} → f.atom_node ≡ m → f.place ≡ i → Listed m i (f ∷ fs)
  later : {f : Found} {fs : List Found} → Listed m i fs → Listed m i (f ∷ fs)

-- each of them is
each_listed : (fs : List Found) → Each (λ m i. Listed m i fs) fs
each_listed [] = tt
each_listed (f ∷ fs) = (here refl refl, each_so (λ m i. Listed m i fs) (λ m i. Listed m i (f ∷ fs)) (λ m i l. later l) fs (each_listed fs))

-- what holds of each of them holds of one that is listed
listed_each : (P : ℕ → ℕ → Type 0) (m i : ℕ) (fs : List Found) → Each P fs → Listed m i fs → P m i
listed_each P m i [] h x = elim x [ ]
listed_each P m i (f ∷ fs) h (here a b) = rw (a, b) at h.0
listed_each P m i (f ∷ fs) h (later l) = listed_each P m i fs h.1 l

atom_is : (K : Kind) → is_atom K ≡ true → K ≡ Atom
atom_is True e = absurd (true≢false (sym e))
atom_is Atom e = refl
atom_is Not e = absurd (true≢false (sym e))
atom_is Or e = absurd (true≢false (sym e))
atom_is Next e = absurd (true≢false (sym e))
atom_is Until e = absurd (true≢false (sym e))
atom_is Prev e = absurd (true≢false (sym e))
atom_is Since e = absurd (true≢false (sym e))
atom_is Run e = absurd (true≢false (sym e))
atom_is End e = absurd (true≢false (sym e))
atom_is Unknown e = absurd (true≢false (sym e))

module _ (mask : ℕ) (places : List ℕ) (ns : List Node) (weak : Bool) (r : RuleNodes 0 ns) where
  abbrev adds : (m i : ℕ) → Bool
  adds m i = decides mask places ns (wanted_rows (local mask places) ns weak) m i

  abbrev marks : (m i : ℕ) → Bool → Bool
  marks m i d = read_from (wanted_rows (local mask places) ns weak) m d i

  decided_behind : (m i : ℕ) → adds m i ≡ true → Behind mask places ns weak m i
  decided_behind m i e =
      let a : ℕ = (node_at ns m).first in
      let (x, y) = both_true (is_atom (node_at ns m).kind) _ e in
      let (u, v) = both_true (bit_of mask a || ltb (suc i) (length places)) (marks m i true || marks m i false) y in
      let early : bit_of mask a ≡ false → suc i < length places = λ z. ltb-true (suc i) (length places) (rw z at u) in
      let made : (d : Bool) → marks m i d ≡ true → Behind mask places ns weak m i
      = λ d w. record { read_as = d; reached = wanted_reached (local mask places) ns weak r m i d w; of_atom = atom_is (node_at ns m).kind x; foreign_early = early } in
      by_test (marks m i true) (made true) (λ z. made false (rw z at v))

  behind_decided : (m i : ℕ) → Behind mask places ns weak m i → adds m i ≡ true
  behind_decided m i B =
      let a : ℕ = (node_at ns m).first in
      let w : (marks m i true || marks m i false) ≡ true
      = either_yes (marks m i) B.read_as (reached_wanted (local mask places) ns weak r m i B.read_as B.reached) in
      let c : (bit_of mask a || ltb (suc i) (length places)) ≡ true
      = by_test (bit_of mask a) (λ z. rw z) (λ z. rw (z, lt-ltb (suc i) (length places) (B.foreign_early z))) in
      rw (B.of_atom, c, w)

  pub listed_behind : (m i : ℕ) → Listed m i (evidence mask places ns weak) → Behind mask places ns weak m i
  unfolding evidence
  listed_behind m i l =
      listed_each (λ m i. Behind mask places ns weak m i) m i (evidence mask places ns weak)
      (all_from (λ m i. Behind mask places ns weak m i) adds (length ns) (length places) (λ m i a b e. decided_behind m i e) (length places) 0 (omega arith)) l

  pub behind_listed : (m i : ℕ) → Behind mask places ns weak m i → Listed m i (evidence mask places ns weak)
  unfolding evidence
  behind_listed m i B =
      let W : Wanted (local mask places) ns weak r m i B.read_as = come (local mask places) ns weak r B.reached in
      each_from (λ m i. Listed m i (evidence mask places ns weak)) adds m i (behind_decided m i B) (length ns) W.in_table
      (length places) 0 (omega arith) (omega (arith, W.in_trace)) (each_listed (evidence mask places ns weak))

-- For the nodes of an accepted rule, on every local trace and for either verdict: a pair is in the evidence exactly where it is an atom's, which the
-- walk comes to, but for "a foreign atom at the last place". That each is there "a single time, by place, then node" is `evidence_ordered`.
pub evidence_is_behind : (R : Rule) → rule_refusal R ≡ 0 → (mask : ℕ) (places : List ℕ) (weak : Bool) (m i : ℕ) →
    let ns : List Node = nodes_in R.count R.nodes in
    (Listed m i (evidence mask places ns weak) → Behind mask places ns weak m i)
    × (Behind mask places ns weak m i → Listed m i (evidence mask places ns weak))
evidence_is_behind R accepted mask places weak m i =
    let ns : List Node = nodes_in R.count R.nodes in
    let r : RuleNodes 0 ns = rule_nodes_lem R accepted in
    (listed_behind mask places ns weak r m i, behind_listed mask places ns weak r m i)
