-- "The readings behind a verdict" (document 02), computed: rows of the places to which the walk comes, and the list of pairs. Who reads for meaning reads
-- `Reached`, and of this file the last part alone; in theorems, `reached_is_wanted` and `evidence_is_behind` say that they are the same.
use Rattle.std.specs.Prelude.{ℕ, zero, suc, ◌+◌, ◌-◌, ◌*◌, Bool, true, false, not, ◌&&◌, ◌||◌, List, [], ◌∷◌, ◌++◌, length, eqb, ltb, leb}
use Rattle.definitions.specs.Limits.{max_rule_nodes}
use Rattle.definitions.specs.Bounded.{pick, some, every, tabulate, bit_of}
use Rattle.definitions.specs.Nodes.{Kind, True, Atom, Not, Or, Next, Until, Prev, Since, Run, End, Unknown, Node, node_at}
use Rattle.definitions.specs.Tables.{is_atom}
use Rattle.definitions.specs.Readings.{Trace, local, until_at, Rows, read_from, rows_of}

-- ---- what an until or a since takes

-- a fitting place k of an until at place i: q at k, and p at i to k-1
abbrev pub fits : (p q : ℕ → Bool) (i k : ℕ) → Bool
fits p q i k = q k && every i k p

-- "the first fitting k"
abbrev pub first_fit : (p q : ℕ → Bool) (i k : ℕ) → Bool
first_fit p q i k = fits p q i k && not (some i k (fits p q i))

-- no place from i to k fits: k is "before" the first that does, or, "where only the weak ending makes it yes", any "place from its own on"
abbrev pub unfit : (p q : ℕ → Bool) (i k : ℕ) → Bool
unfit p q i k = not (some i (suc k) (fits p q i))

-- p "first fails" at k
abbrev pub first_failure : (p : ℕ → Bool) (i k : ℕ) → Bool
first_failure p i k = not (p k) && every i k p

-- k is "up to and at" the place where p first fails, or "at every place from its own on if p never fails"
abbrev pub unfailed : (p : ℕ → Bool) (i k : ℕ) → Bool
unfailed p i k = every i k p

-- an until at place i takes p at place k: "p before it, or, where only the weak ending makes it yes, p at every place from its own on";
-- "one that is no takes p where it first fails"
abbrev pub until_first : (weak : Bool) (L : ℕ) (p q : ℕ → Bool) (i k : ℕ) → Bool
until_first weak L p q i k = (leb i k && ltb k L) && pick (until_at weak L p q i) (unfit p q i k) (first_failure p i k)

-- it takes q at place k: "q at the first fitting k"; one that is no "q up to and at that place, or q at every place from its own on if p never fails"
abbrev pub until_second : (weak : Bool) (L : ℕ) (p q : ℕ → Bool) (i k : ℕ) → Bool
until_second weak L p q i k = (leb i k && ltb k L) && pick (until_at weak L p q i) (first_fit p q i k) (unfailed p i k)

-- the places from i backwards: place i is the first of them, place 0 the last
abbrev pub back : (i : ℕ) (p : ℕ → Bool) (j : ℕ) → Bool
back i p j = p (i - j)

-- "Since is the mirror image, with the latest k": a strong until backwards from place i
abbrev pub since_first : (p q : ℕ → Bool) (i k : ℕ) → Bool
since_first p q i k = leb k i && until_first false (suc i) (back i p) (back i q) 0 (i - k)

abbrev pub since_second : (p q : ℕ → Bool) (i k : ℕ) → Bool
since_second p q i k = leb k i && until_second false (suc i) (back i p) (back i q) 0 (i - k)

-- ---- what a node takes

-- A node at place i takes its first operand at place k; `of` are the readings of the nodes before it. "A not passes on; an or that is yes takes its
-- first yes operand, one that is no takes both"; "Next and prev take their operand's place if there is one".
abbrev pub takes_first : (L : ℕ) (of : ℕ → Bool → ℕ → Bool) (kind : Kind) (a b : ℕ) (weak : Bool) (i k : ℕ) → Bool
takes_first L of True a b weak i k = false
takes_first L of Atom a b weak i k = false
takes_first L of Not a b weak i k = eqb k i
takes_first L of Or a b weak i k = eqb k i && pick (of a weak i || of b weak i) (of a weak i) true
takes_first L of Next a b weak i k = eqb k (suc i) && ltb k L
takes_first L of Until a b weak i k = until_first weak L (of a weak) (of b weak) i k
takes_first L of Prev a b weak i k = eqb (suc k) i
takes_first L of Since a b weak i k = since_first (of a weak) (of b weak) i k
takes_first L of Run a b weak i k = false
takes_first L of End a b weak i k = false
takes_first L of Unknown a b weak i k = false

-- It takes its second operand at place k: an or that is yes, where the first operand is no.
abbrev pub takes_second : (L : ℕ) (of : ℕ → Bool → ℕ → Bool) (kind : Kind) (a b : ℕ) (weak : Bool) (i k : ℕ) → Bool
takes_second L of True a b weak i k = false
takes_second L of Atom a b weak i k = false
takes_second L of Not a b weak i k = false
takes_second L of Or a b weak i k = eqb k i && pick (of a weak i || of b weak i) (not (of a weak i)) true
takes_second L of Next a b weak i k = false
takes_second L of Until a b weak i k = until_second weak L (of a weak) (of b weak) i k
takes_second L of Prev a b weak i k = false
takes_second L of Since a b weak i k = since_second (of a weak) (of b weak) i k
takes_second L of Run a b weak i k = false
takes_second L of End a b weak i k = false
takes_second L of Unknown a b weak i k = false

-- the reading in which a node takes its operands, and the reading of a node that takes its operands in this one: the other one under a not
abbrev pub under : (kind : Kind) (weak : Bool) → Bool
under True weak = weak
under Atom weak = weak
under Not weak = not weak
under Or weak = weak
under Next weak = weak
under Until weak = weak
under Prev weak = weak
under Since weak = weak
under Run weak = weak
under End weak = weak
under Unknown weak = weak

-- ---- the walk

-- the rows of the n nodes from node j on, by what they say of node, reading and place
abbrev pub rows_by : (L n j : ℕ) (f : ℕ → Bool → ℕ → Bool) → List Rows
rows_by L zero j f = []
rows_by L (suc n) j f = record { weak = tabulate L (f j true); strong = tabulate L (f j false) } ∷ rows_by L n (suc j) f

-- node m, which is n, takes node j at place k, read in `weak`, from one of the places at which it is wanted itself
abbrev pub takes : (L : ℕ) (of wanted : ℕ → Bool → ℕ → Bool) (m : ℕ) (n : Node) (j : ℕ) (weak : Bool) (k : ℕ) → Bool
takes L of wanted m n j weak k =
    ltb j m
    && some 0 L (λ i. wanted m (under n.kind weak) i
    && ((eqb j n.first && takes_first L of n.kind n.first n.second (under n.kind weak) i k)
    || (eqb j n.second && takes_second L of n.kind n.first n.second (under n.kind weak) i k)))

-- the wanted places of all nodes, of which there are `count`, after node m: those before it and those that it takes
abbrev pub walk_node : (L : ℕ) (of : ℕ → Bool → ℕ → Bool) (count m : ℕ) (n : Node) (ws : List Rows) → List Rows
walk_node L of count m n ws = rows_by L count 0 (λ j weak k. read_from ws j weak k || takes L of (read_from ws) m n j weak k)

-- the nodes from node m on, from the last one back: a node is taken by later ones only
abbrev pub walk_nodes : (L : ℕ) (of : ℕ → Bool → ℕ → Bool) (count m : ℕ) (ns : List Node) (ws : List Rows) → List Rows
walk_nodes L of count m [] ws = ws
walk_nodes L of count m (n ∷ ns) ws = walk_node L of count m n (walk_nodes L of count (suc m) ns ws)

-- one reading is the other
abbrev pub same_reading : (weak other : Bool) → Bool
same_reading true other = other
same_reading false other = not other

-- "Walk from the rule": the last node at place 0, in the reading that was chosen
abbrev pub start_rows : (L count : ℕ) (weak : Bool) → List Rows
start_rows L count weak = rows_by L count 0 (λ j other k. eqb (suc j) count && (same_reading weak other && eqb k 0))

-- the places of each node to which the walk from the rule comes, in each reading
unfoldable pub wanted_rows : (t : Trace) (ns : List Node) (weak : Bool) → List Rows
wanted_rows t ns weak = walk_nodes t.places (read_from (rows_of t ns)) (length ns) 0 ns (start_rows t.places (length ns) weak)

-- ---- what it adds

-- "each a node of kind atom and a local place"
pub record Found : Type 0 where
  pub atom_node : ℕ
  pub place : ℕ

abbrev pub found : (j k : ℕ) → Found
found j k = record { atom_node = j; place = k }

-- node j at place k is added: an atom that the walk comes to; "A foreign atom at the last place adds nothing"
abbrev pub decides : (mask : ℕ) (places : List ℕ) (ns : List Node) (wanted : List Rows) (j k : ℕ) → Bool
decides mask places ns wanted j k =
    is_atom (node_at ns j).kind
    && ((bit_of mask (node_at ns j).first || ltb (suc k) (length places)) && (read_from wanted j true k || read_from wanted j false k))

-- of the n nodes from node j on, those found at place k; f says which node is found at which place
abbrev pub found_at : (f : ℕ → ℕ → Bool) (n j k : ℕ) → List Found
found_at f zero j k = []
found_at f (suc n) j k = pick (f j k) (found j k ∷ []) [] ++ found_at f n (suc j) k

-- of `count` nodes, those of the n places from place k on
abbrev pub found_from : (f : ℕ → ℕ → Bool) (count n k : ℕ) → List Found
found_from f count zero k = []
found_from f count (suc n) k = found_at f count 0 k ++ found_from f count n (suc k)

-- "the readings .. that decide the weak or the strong verdict, as chosen": "Each pair appears a single time, by place, then node"
unfoldable pub evidence : (mask : ℕ) (places : List ℕ) (ns : List Node) (weak : Bool) → List Found
evidence mask places ns weak = found_from (decides mask places ns (wanted_rows (local mask places) ns weak)) (length ns) (length places) 0

-- a pair in lent space is one number: the place times 64, and the node
abbrev pub pair_word : Found → ℕ
pair_word f = f.place * max_rule_nodes + f.atom_node
