-- What a step has, and what it takes: the row forms of the walk (theorems, EvidenceRows) over rows of marks.
use Rattle.std.specs.Prelude.{◌≡◌, Bool, true, false, ◌&&◌, List, ℕ}
use Rattle.definitions.specs.Bounded.{tabulate}
use Rattle.definitions.specs.Nodes.{Kind, True, Atom, Not, Or, Next, Until, Prev, Since, Run, End, Unknown}
use Rattle.definitions.specs.Readings.{Rows, row_of}
use Rattle.definitions.specs.Evidence.{under}
use Rattle.theorems.proofs.EvidenceRows.{p_here, q_here, first_marks, second_marks}
use Rattle.mark_words.specs.Marks.{mark_at}
use Rattle.rows.specs.Marks.{marks, Whole, Made}
use Rattle.rows.specs.declared.Row.{Row}
use Rattle.rows.specs.declared.pair.Pair.{Pair}
use Rattle.rows.specs.Pairs.{rows_in, PairMade}
use Rattle.walk.specs.declared.step.Step.{Step}
use Rattle.walk.specs.declared.taken.Taken.{Taken}

-- two rows over the same places
pub record Twin (p q : Row) : Type 0 where
  pub first : Whole p
  pub second : Whole q
  pub count : p.count ≡ q.count

-- four rows over the same places
pub record Even (w u p q : Row) : Type 0 where
  pub wanted : Whole w
  pub own : Whole u
  pub first : Whole p
  pub second : Whole q
  pub own_count : u.count ≡ w.count
  pub first_count : p.count ≡ w.count
  pub second_count : q.count ≡ w.count

-- the marks of a row, place by place
abbrev pub mark_of : Row → ℕ → Bool
mark_of r k = mark_at (marks r) k

-- r marks f, place by place, over n places
abbrev pub Marks : Row → ℕ → (ℕ → Bool) → Type 0
Marks r n f = Made r n (tabulate n f)

-- these places of the first operand, and none of the second
pub record OfFirst (places : Row) (s : Step) : Type 0 where
  pub first : s.first ≡ places
  pub second : Marks s.second places.count (λ k. false)

-- what an until or a since takes at the places that it came to
pub record Reached (places u p q : Row) (s : Step) : Type 0 where
  pub first : Marks s.first places.count (λ k. mark_of places k && p_here (mark_of u) (mark_of p) (mark_of q) k)
  pub second : Marks s.second places.count (λ k. mark_of places k && q_here (mark_of u) (mark_of q) k)

-- what a node of kind K takes in one reading
pub record Stepped (K : Kind) (w u p q : Row) (s : Step) : Type 0 where
  pub first : Marks s.first w.count (first_marks w.count K (mark_of u) (mark_of p) (mark_of q) (mark_of w))
  pub second : Marks s.second w.count (second_marks w.count K (mark_of u) (mark_of p) (mark_of q) (mark_of w))

-- four pairs of rows over the same places
pub record PairsEven (w u p q : Pair) : Type 0 where
  pub weak : Even w.weak u.weak p.weak q.weak
  pub strong : Even w.strong u.strong p.strong q.strong
  pub count : w.strong.count ≡ w.weak.count

-- the rows of the two readings of a node, for the readings of its operands
unfoldable pub pair_under : Kind → Row → Row → Pair
pair_under True weak strong = record { weak = weak; strong = strong }
pair_under Atom weak strong = record { weak = weak; strong = strong }
pair_under Not weak strong = record { weak = strong; strong = weak }
pair_under Or weak strong = record { weak = weak; strong = strong }
pair_under Next weak strong = record { weak = weak; strong = strong }
pair_under Until weak strong = record { weak = weak; strong = strong }
pair_under Prev weak strong = record { weak = weak; strong = strong }
pair_under Since weak strong = record { weak = weak; strong = strong }
pair_under Run weak strong = record { weak = weak; strong = strong }
pair_under End weak strong = record { weak = weak; strong = strong }
pair_under Unknown weak strong = record { weak = weak; strong = strong }

-- what a node of kind K takes of its first operand, for reading e of that, and of its second
unfoldable pub taken_first : Kind → ℕ → (w u p q : Rows) (e : Bool) → List Bool
taken_first K n w u p q e =
    tabulate n (first_marks n K (mark_at (row_of (under K e) u)) (mark_at (row_of (under K e) p)) (mark_at (row_of (under K e) q)) (mark_at (row_of (under K e) w)))

unfoldable pub taken_second : Kind → ℕ → (w u p q : Rows) (e : Bool) → List Bool
taken_second K n w u p q e =
    tabulate n (second_marks n K (mark_at (row_of (under K e) u)) (mark_at (row_of (under K e) p)) (mark_at (row_of (under K e) q)) (mark_at (row_of (under K e) w)))

-- both readings of a row
abbrev pub both_of : (Bool → List Bool) → Rows
both_of f = record { weak = f true; strong = f false }

pub record TakenMade (K : Kind) (w u p q : Pair) (t : Taken) : Type 0 where
  pub first : PairMade t.first w.weak.count (both_of (taken_first K w.weak.count (rows_in w) (rows_in u) (rows_in p) (rows_in q)))
  pub second : PairMade t.second w.weak.count (both_of (taken_second K w.weak.count (rows_in w) (rows_in u) (rows_in p) (rows_in q)))
