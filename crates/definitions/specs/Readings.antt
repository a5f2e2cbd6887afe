-- "Weak and strong" (document 01): the readings of a table's nodes over a trace. A reading is a Bool: true is weak, false is strong.
use Rattle.std.specs.Prelude.{ℕ, suc, ◌+◌, ◌-◌, ◌*◌, Bool, true, false, not, ◌&&◌, ◌||◌, List, [], ◌∷◌, ◌++◌, length, get_or, take, drop, ltb}
use Rattle.definitions.specs.Limits.{word_marks}
use Rattle.definitions.specs.Bounded.{pick, some, every, tabulate, bit_of, bit}
use Rattle.definitions.specs.Nodes.{Kind, True, Atom, Not, Or, Next, Until, Prev, Since, Run, End, Unknown, Node}
use Rattle.definitions.specs.Recordings.{Recording, word_at, runs_at}
use Rattle.definitions.specs.Projection.{end_at}

-- "a trace of L places": how an atom is read at a place, and where run and end hold
pub record Trace : Type 0 where
  pub places : ℕ
  pub atom : (a : ℕ) (weak : Bool) (i : ℕ) → Bool
  pub run : ℕ → Bool
  pub end : ℕ → Bool

-- "Own atom: its bit. Foreign atom: its bit if i < L-1, else weak yes, strong no"
abbrev pub local_atom : (mask : ℕ) (ws : List ℕ) (a : ℕ) (weak : Bool) (i : ℕ) → Bool
local_atom mask ws a weak i =
    pick (bit_of mask a) (bit_of (get_or ws i 0) a) (pick (ltb (suc i) (length ws)) (bit_of (get_or ws i 0) a) weak)

-- a local trace of the places ws, for a controller that owns the atoms of the mask
abbrev pub local : (mask : ℕ) (ws : List ℕ) → Trace
local mask ws = record { places = length ws; atom = local_atom mask ws; run = λ i. false; end = λ i. false }

-- "Over the whole recording L is N, and every atom, run and end (of c) is read as recorded, in both readings and in the last state too"
abbrev pub whole : (R : Recording) (c : ℕ) → Trace
whole R c = record {
  places = R.count;
  atom = λ a weak k. bit_of (word_at R k) a;
  run = runs_at R c;
  end = end_at (runs_at R c) R.count;
}

-- "next p: p at i+1 if i < L-1; else weak yes, strong no"
abbrev pub next_at : (weak : Bool) (L : ℕ) (p : ℕ → Bool) (i : ℕ) → Bool
next_at weak L p i = pick (ltb (suc i) L) (p (suc i)) weak

-- "p until q: q at some k ≥ i below L and p at i to k-1; weak also if p holds at i to L-1"
abbrev pub until_at : (weak : Bool) (L : ℕ) (p q : ℕ → Bool) (i : ℕ) → Bool
until_at weak L p q i = some i L (λ k. q k && every i k p) || (weak && every i L p)

-- "prev p: i > 0 and p at i-1"
abbrev pub prev_at : (p : ℕ → Bool) (i : ℕ) → Bool
prev_at p i = ltb 0 i && p (i - 1)

-- "p since q: q at some k ≤ i and p at k+1 to i"
abbrev pub since_at : (p q : ℕ → Bool) (i : ℕ) → Bool
since_at p q i = some 0 (suc i) (λ k. q k && every (suc k) (suc i) p)

-- the reading of a node at place i, from the readings of the nodes before it
abbrev pub reading : (t : Trace) (of : ℕ → Bool → ℕ → Bool) (k : Kind) (a b : ℕ) (weak : Bool) (i : ℕ) → Bool
reading t of True a b weak i = true
reading t of Atom a b weak i = t.atom a weak i
reading t of Not a b weak i = not (of a (not weak) i)
reading t of Or a b weak i = of a weak i || of b weak i
reading t of Next a b weak i = next_at weak t.places (of a weak) i
reading t of Until a b weak i = until_at weak t.places (of a weak) (of b weak) i
reading t of Prev a b weak i = prev_at (of a weak) i
reading t of Since a b weak i = since_at (of a weak) (of b weak) i
reading t of Run a b weak i = t.run i
reading t of End a b weak i = t.end i
reading t of Unknown a b weak i = false

-- "a weak and a strong row for each node"
pub record Rows : Type 0 where
  pub weak : List Bool
  pub strong : List Bool

-- the rows of a node that is not there
abbrev pub no_rows : Rows
no_rows = record { weak = []; strong = [] }

-- the row of one reading
abbrev pub row_of : (weak : Bool) (r : Rows) → List Bool
row_of true r = r.weak
row_of false r = r.strong

-- what the rows of the nodes so far say of node a at place i
abbrev pub read_from : (rs : List Rows) (a : ℕ) (weak : Bool) (i : ℕ) → Bool
read_from rs a weak i = get_or (row_of weak (get_or rs a no_rows)) i false

-- the two rows of a node over the trace, from the rows of the nodes before it
abbrev pub node_rows : (t : Trace) (rs : List Rows) (n : Node) → Rows
node_rows t rs n = record {
  weak = tabulate t.places (reading t (read_from rs) n.kind n.first n.second true);
  strong = tabulate t.places (reading t (read_from rs) n.kind n.first n.second false);
}

-- the rows of a table, after those of the nodes before it
abbrev pub rows_after : (t : Trace) (rs : List Rows) (ns : List Node) → List Rows
rows_after t rs [] = rs
rows_after t rs (n ∷ ns) = rows_after t (rs ++ (node_rows t rs n ∷ [])) ns

-- the rows of a table over a trace
unfoldable pub rows_of : (t : Trace) (ns : List Node) → List Rows
rows_of t ns = rows_after t [] ns

-- "The verdict is the reading at place 0", of node `top`
unfoldable pub verdict : (t : Trace) (ns : List Node) (top : ℕ) (weak : Bool) → Bool
unfolding rows_of
verdict t ns top weak = read_from (rows_of t ns) top weak 0

-- a weak and a strong verdict
pub record Verdicts : Type 0 where
  pub weak : Bool
  pub strong : Bool

-- "the weak reading of the weak top in state 0", "the strong reading of the strong top there"
abbrev pub verdicts : (t : Trace) (ns : List Node) (weak_top strong_top : ℕ) → Verdicts
verdicts t ns weak_top strong_top = record { weak = verdict t ns weak_top true; strong = verdict t ns strong_top false }

-- of a rule on a local trace: "the last is the rule"
abbrev pub local_verdicts : (ns : List Node) (mask : ℕ) (places : List ℕ) → Verdicts
local_verdicts ns mask places = verdicts (local mask places) ns (length ns - 1) (length ns - 1)

-- "A row is 128 yes-or-no marks with the count of states it covers": two 64-bit words, mark k is bit k
abbrev pub marks_word : List Bool → ℕ
marks_word [] = 0
marks_word (m ∷ ms) = marks_word ms * 2 + bit m

-- a row in lent space: its two words and its count
abbrev pub row_words : List Bool → List ℕ
row_words ms = marks_word (take word_marks ms) ∷ marks_word (drop word_marks ms) ∷ length ms ∷ []

-- "row pairs" in lent space: of each node the weak row, then the strong one
abbrev pub pairs_words : List Rows → List ℕ
pairs_words [] = []
pairs_words (r ∷ rs) = row_words r.weak ++ (row_words r.strong ++ pairs_words rs)
