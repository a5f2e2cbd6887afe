-- "The readings behind a verdict" (document 02): the walk from the rule as a relation, a constructor for each step that the request names, in its
-- order; and the readings that it adds. `Evidence` computes them; in theorems, `reached_is_wanted` and `evidence_is_behind` say that they are the same.
use Rattle.std.specs.Prelude.{◌≡◌, ℕ, suc, ◌-◌, ◌≤◌, ◌<◌, Bool, true, false, not, List, length}
use Rattle.definitions.specs.Bounded.{bit_of}
use Rattle.definitions.specs.Nodes.{Atom, Not, Or, Next, Until, Prev, Since, Node, node, node_at}
use Rattle.definitions.specs.Readings.{Trace, local, read_from, rows_of}

-- ---- where an until or a since at place i is decided; p and q are the rows of its operands

-- p is yes at each place from i on, below k
abbrev pub Holds : (p : ℕ → Bool) (i k : ℕ) → Type 0
Holds p i k = (j : ℕ) → i ≤ j → j < k → p j ≡ true

-- k fits an until: "q at some k ≥ i below L and p at i to k-1"
pub record Fits (L : ℕ) (p q : ℕ → Bool) (i k : ℕ) : Type 0 where
  pub not_before : i ≤ k
  pub below : k < L
  pub met : q k ≡ true
  pub meanwhile : Holds p i k

-- "the first fitting k"
pub record FirstFit (L : ℕ) (p q : ℕ → Bool) (i k : ℕ) : Type 0 where
  pub fitting : Fits L p q i k
  pub earliest : (j : ℕ) → j < k → Fits L p q i j → ⊥

-- no k fits
abbrev pub NoneFits : (L : ℕ) (p q : ℕ → Bool) (i : ℕ) → Type 0
NoneFits L p q i = (k : ℕ) → Fits L p q i k → ⊥

-- p "first fails" at k
pub record FirstFailure (L : ℕ) (p : ℕ → Bool) (i k : ℕ) : Type 0 where
  pub not_before : i ≤ k
  pub below : k < L
  pub failed : p k ≡ false
  pub meanwhile : Holds p i k

-- k fits a since: "q at some k ≤ i and p at k+1 to i"
pub record FitsBack (p q : ℕ → Bool) (i k : ℕ) : Type 0 where
  pub not_after : k ≤ i
  pub met : q k ≡ true
  pub meanwhile : Holds p (suc k) (suc i)

-- "the latest k"
pub record LatestFit (p q : ℕ → Bool) (i k : ℕ) : Type 0 where
  pub fitting : FitsBack p q i k
  pub latest : (j : ℕ) → k < j → FitsBack p q i j → ⊥

-- the mirror image of where p first fails: p fails at k, and from there up to i no more
pub record LatestFailure (p : ℕ → Bool) (i k : ℕ) : Type 0 where
  pub not_after : k ≤ i
  pub failed : p k ≡ false
  pub meanwhile : Holds p (suc k) (suc i)

-- ---- the walk, over a trace, for the nodes of a rule

module _ (t : Trace) (ns : List Node) where
  -- the row of node m in a reading
  abbrev pub row_in : (m : ℕ) (d : Bool) → ℕ → Bool
  row_in m d = read_from (rows_of t ns) m d

  -- node m at place i is yes in the reading d
  abbrev pub Yes : (m i : ℕ) (d : Bool) → Type 0
  Yes m i d = row_in m d i ≡ true

  -- it is no
  abbrev pub No : (m i : ℕ) (d : Bool) → Type 0
  No m i d = row_in m d i ≡ false

  -- `Reached weak m i d`: the walk for the verdict of the reading `weak` comes to node m at place i in the reading d. Operand a is p, operand b is q.
  pub data Reached (weak : Bool) : (m i : ℕ) (d : Bool) → Type 0 where
    -- "Walk from the rule": the last node at place 0, in the reading that is "chosen"
    from_rule : 0 < length ns → 0 < t.places → Reached weak (length ns - 1) 0 weak
    -- "a not passes on": its operand in the other reading
    not_passes : {m a b i : ℕ} {d : Bool} → node_at ns m ≡ node Not a b → Reached weak m i d → Reached weak a i (not d)
    -- "an or that is yes takes its first yes operand"
    or_first : {m a b i : ℕ} {d : Bool} → node_at ns m ≡ node Or a b → Reached weak m i d → Yes m i d → Yes a i d → Reached weak a i d
    or_second : {m a b i : ℕ} {d : Bool} → node_at ns m ≡ node Or a b → Reached weak m i d → Yes m i d → No a i d → Yes b i d → Reached weak b i d
    -- "one that is no takes both"
    or_no_first : {m a b i : ℕ} {d : Bool} → node_at ns m ≡ node Or a b → Reached weak m i d → No m i d → Reached weak a i d
    or_no_second : {m a b i : ℕ} {d : Bool} → node_at ns m ≡ node Or a b → Reached weak m i d → No m i d → Reached weak b i d
    -- "An until that is yes takes q at the first fitting k"
    until_fit : {m a b i k : ℕ} {d : Bool} → node_at ns m ≡ node Until a b → Reached weak m i d → Yes m i d →
        FirstFit t.places (row_in a d) (row_in b d) i k → Reached weak b k d
    -- "and p before it"
    until_before : {m a b i k : ℕ} {d : Bool} → node_at ns m ≡ node Until a b → Reached weak m i d → Yes m i d →
        FirstFit t.places (row_in a d) (row_in b d) i k → (j : ℕ) → i ≤ j → j < k → Reached weak a j d
    -- "or, where only the weak ending makes it yes, p at every place from its own on"
    until_ending : {m a b i : ℕ} {d : Bool} → node_at ns m ≡ node Until a b → Reached weak m i d → Yes m i d →
        NoneFits t.places (row_in a d) (row_in b d) i → (j : ℕ) → i ≤ j → j < t.places → Reached weak a j d
    -- "One that is no takes p where it first fails"
    until_fails : {m a b i k : ℕ} {d : Bool} → node_at ns m ≡ node Until a b → Reached weak m i d → No m i d →
        FirstFailure t.places (row_in a d) i k → Reached weak a k d
    -- "and q up to and at that place"
    until_up_to : {m a b i k : ℕ} {d : Bool} → node_at ns m ≡ node Until a b → Reached weak m i d → No m i d →
        FirstFailure t.places (row_in a d) i k → (j : ℕ) → i ≤ j → j ≤ k → Reached weak b j d
    -- "or q at every place from its own on if p never fails"
    until_never : {m a b i : ℕ} {d : Bool} → node_at ns m ≡ node Until a b → Reached weak m i d → No m i d →
        Holds (row_in a d) i t.places → (j : ℕ) → i ≤ j → j < t.places → Reached weak b j d
    -- "Since is the mirror image, with the latest k": q at the latest fitting k, and p after it
    since_fit : {m a b i k : ℕ} {d : Bool} → node_at ns m ≡ node Since a b → Reached weak m i d → Yes m i d →
        LatestFit (row_in a d) (row_in b d) i k → Reached weak b k d
    since_after : {m a b i k : ℕ} {d : Bool} → node_at ns m ≡ node Since a b → Reached weak m i d → Yes m i d →
        LatestFit (row_in a d) (row_in b d) i k → (j : ℕ) → k < j → j ≤ i → Reached weak a j d
    -- one that is no takes p where it fails latest, and q down to and at that place, or q at every place up to its own if p never fails
    since_fails : {m a b i k : ℕ} {d : Bool} → node_at ns m ≡ node Since a b → Reached weak m i d → No m i d →
        LatestFailure (row_in a d) i k → Reached weak a k d
    since_down_to : {m a b i k : ℕ} {d : Bool} → node_at ns m ≡ node Since a b → Reached weak m i d → No m i d →
        LatestFailure (row_in a d) i k → (j : ℕ) → k ≤ j → j ≤ i → Reached weak b j d
    since_never : {m a b i : ℕ} {d : Bool} → node_at ns m ≡ node Since a b → Reached weak m i d → No m i d →
        Holds (row_in a d) 0 (suc i) → (j : ℕ) → j ≤ i → Reached weak b j d
    -- "Next and prev take their operand's place if there is one"
    next_takes : {m a b i : ℕ} {d : Bool} → node_at ns m ≡ node Next a b → Reached weak m i d → suc i < t.places → Reached weak a (suc i) d
    prev_takes : {m a b i : ℕ} {d : Bool} → node_at ns m ≡ node Prev a b → Reached weak m (suc i) d → Reached weak a i d

-- ---- what it adds

-- "the readings, each a node of kind atom and a local place, that decide the weak or the strong verdict, as chosen": node m at place i, which the walk
-- comes to in some reading; "A foreign atom at the last place adds nothing"
pub record Behind (mask : ℕ) (places : List ℕ) (ns : List Node) (weak : Bool) (m i : ℕ) : Type 0 where
  pub read_as : Bool
  pub reached : Reached (local mask places) ns weak m i read_as
  pub of_atom : (node_at ns m).kind ≡ Atom
  pub foreign_early : bit_of mask (node_at ns m).first ≡ false → suc i < length places
