-- One law for each return of a step in both readings.
use mathlib.Core.Path.{◌≡◌, refl}
use Rattle.definitions.specs.Nodes.{Kind, True, Atom, Not, Or, Next, Until, Prev, Since, Run, End, Unknown}
use Rattle.definitions.specs.Bounded.{tabulate}
use Rattle.theorems.proofs.EvidenceRows.{first_marks, second_marks}
use Rattle.rows.specs.declared.Row.{Row}
use Rattle.rows.proofs.PackedLaws.{recounted}
use Rattle.rows.specs.declared.pair.Pair.{Pair}
use Rattle.rows.specs.Pairs.{rows_in, PairMade}
use Rattle.rules.specs.Kinds.{kind_in}
use Rattle.rules.specs.declared.kind.Kind as told
use Rattle.rules.specs.declared.kind.Kind.TheVariants as code
use Rattle.walk.specs.declared.step.Step.{Step}
use Rattle.walk.specs.Steps.{mark_of, Marks, Stepped, PairsEven, pair_under, taken_first, taken_second, both_of, TakenMade}

-- `under`: not swaps the readings (`pair_under`), no other kind does
pub under_not : (kind : told.Kind) (weak strong : Row) → kind ≡ code.Not → record { weak = strong; strong = weak } ≡ pair_under (kind_in kind) weak strong
unfolding pair_under
under_not kind weak strong e = rw e

pub under_other : (kind : told.Kind) (weak strong : Row) → (kind ≡ code.Not → ⊥) → record { weak = weak; strong = strong } ≡ pair_under (kind_in kind) weak strong
unfolding pair_under
under_other code.True weak strong n = refl
under_other code.Atom weak strong n = refl
under_other code.Not weak strong n = absurd (n refl)
under_other code.Or weak strong n = refl
under_other code.Next weak strong n = refl
under_other code.Until weak strong n = refl
under_other code.Prev weak strong n = refl
under_other code.Since weak strong n = refl
under_other code.Run weak strong n = refl
under_other code.End weak strong n = refl
under_other (code.Unknown u) weak strong n = refl

-- the rows of both readings, for the readings of the operands
module _ (w u p q : Pair) (E : PairsEven w u p q) (a b : Step) where
  -- the strong rows, over as many places as the weak ones
  strong_first : (K : Kind) → Stepped K w.strong u.strong p.strong q.strong b
      → Marks b.first w.weak.count (first_marks w.weak.count K (mark_of u.strong) (mark_of p.strong) (mark_of q.strong) (mark_of w.strong))
  strong_first K y =
      recounted b.first w.strong.count w.weak.count
      (λ c. tabulate c (first_marks c K (mark_of u.strong) (mark_of p.strong) (mark_of q.strong) (mark_of w.strong))) y.first E.count

  strong_second : (K : Kind) → Stepped K w.strong u.strong p.strong q.strong b
      → Marks b.second w.weak.count (second_marks w.weak.count K (mark_of u.strong) (mark_of p.strong) (mark_of q.strong) (mark_of w.strong))
  strong_second K y =
      recounted b.second w.strong.count w.weak.count
      (λ c. tabulate c (second_marks c K (mark_of u.strong) (mark_of p.strong) (mark_of q.strong) (mark_of w.strong))) y.second E.count

  first_made : (K : Kind) → Stepped K w.weak u.weak p.weak q.weak a → Stepped K w.strong u.strong p.strong q.strong b
      → PairMade (pair_under K a.first b.first) w.weak.count (both_of (taken_first K w.weak.count (rows_in w) (rows_in u) (rows_in p) (rows_in q)))
  unfolding pair_under taken_first
  first_made True x y = record { weak = x.first; strong = strong_first True y }
  first_made Atom x y = record { weak = x.first; strong = strong_first Atom y }
  first_made Not x y = record { weak = strong_first Not y; strong = x.first }
  first_made Or x y = record { weak = x.first; strong = strong_first Or y }
  first_made Next x y = record { weak = x.first; strong = strong_first Next y }
  first_made Until x y = record { weak = x.first; strong = strong_first Until y }
  first_made Prev x y = record { weak = x.first; strong = strong_first Prev y }
  first_made Since x y = record { weak = x.first; strong = strong_first Since y }
  first_made Run x y = record { weak = x.first; strong = strong_first Run y }
  first_made End x y = record { weak = x.first; strong = strong_first End y }
  first_made Unknown x y = record { weak = x.first; strong = strong_first Unknown y }

  second_made : (K : Kind) → Stepped K w.weak u.weak p.weak q.weak a → Stepped K w.strong u.strong p.strong q.strong b
      → PairMade (pair_under K a.second b.second) w.weak.count (both_of (taken_second K w.weak.count (rows_in w) (rows_in u) (rows_in p) (rows_in q)))
  unfolding pair_under taken_second
  second_made True x y = record { weak = x.second; strong = strong_second True y }
  second_made Atom x y = record { weak = x.second; strong = strong_second Atom y }
  second_made Not x y = record { weak = strong_second Not y; strong = x.second }
  second_made Or x y = record { weak = x.second; strong = strong_second Or y }
  second_made Next x y = record { weak = x.second; strong = strong_second Next y }
  second_made Until x y = record { weak = x.second; strong = strong_second Until y }
  second_made Prev x y = record { weak = x.second; strong = strong_second Prev y }
  second_made Since x y = record { weak = x.second; strong = strong_second Since y }
  second_made Run x y = record { weak = x.second; strong = strong_second Run y }
  second_made End x y = record { weak = x.second; strong = strong_second End y }
  second_made Unknown x y = record { weak = x.second; strong = strong_second Unknown y }

  -- `take`: a step in each reading makes what is taken in both (`taken_first`, `taken_second`)
  pub taken_made : (K : Kind) → Stepped K w.weak u.weak p.weak q.weak a → Stepped K w.strong u.strong p.strong q.strong b
      → (f s : Pair) → f ≡ pair_under K a.first b.first → s ≡ pair_under K a.second b.second → TakenMade K w u p q (record { first = f; second = s })
  taken_made K x y f s e g = record { first = rw e (first_made K x y); second = rw g (second_made K x y) }
