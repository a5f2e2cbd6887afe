-- The verdicts at the tops are the marks at place 0 of rows that are laid.
use mathlib.Core.Path.{◌≡◌, refl, ap, ◌∙◌}
use mathlib.Core.Bool.{Bool}
use mathlib.Core.List.{List, ◌++◌}
use Prim.Native.Nat.{ℕ, ◌+◌, ◌*◌, ◌<◌, ◌≤◌}
use native.Mathlib.Omega.{arith}
use lib.ListN.{length, get_or, length-append}
use borrow.Author.Rules.{rules}
use Rattle.definitions.specs.Limits.{max_states, pair_words}
use Rattle.definitions.specs.Nodes.{Node}
use Rattle.definitions.specs.Readings.{Trace, no_rows, rows_of, verdict, pairs_words, verdicts}
use Rattle.rows.specs.declared.Row.{Row}
use Rattle.mark_words.specs.Marks.{mark_at}
use Rattle.rows.specs.Marks.{marks, Made}
use Rattle.rows.specs.Stored.{row_at}
use Rattle.rows.proofs.StoredLaws.{pairs_length}
use Rattle.rows.specs.Pairs.{pair_at, pair_of_node}
use Rattle.evaluation.proofs.TableLaws.{rows_length}
use Rattle.evaluation.proofs.EvaluateLaws.{pair_of_rows}
use Rattle.judges.specs.declared.verdicts.Verdicts.{Verdicts}
use Rattle.judges.specs.Verdicts.{meant, Topped, tops_in}

module _ (rows : List ℕ) (weak_top strong_top : ℕ) where
  -- `at_tops`: `tops_in`
  pub tops_read : (a b : Row) (x y : Bool) → a ≡ row_at rows (weak_top * pair_words) → b ≡ row_at rows (strong_top * pair_words + 3)
      → x ≡ mark_at (marks a) 0 → y ≡ mark_at (marks b) 0 → record { weak = x; strong = y } ≡ tops_in rows weak_top strong_top
  unfolding tops_in
  tops_read a b x y e f g h = cc

-- where the rows of a table are laid, its verdicts are the marks at its tops
module _ (t : Trace) (ns : List Node) (l rest : List ℕ) (weak_top strong_top : ℕ) (few : t.places ≤ max_states) (laid : l ≡ pairs_words (rows_of t ns) ++ rest)
    (weak_below : weak_top < length ns) (strong_below : strong_top < length ns) where
  words_length : length l ≡ length ns * pair_words + length rest
  words_length = ap length laid ∙ rw length-append (omega (arith, pairs_length (rows_of t ns), rows_length t ns))

  weak_made : Made (row_at l (weak_top * pair_words)) t.places (get_or (rows_of t ns) weak_top no_rows).weak
  unfolding pair_at
  weak_made = (pair_of_rows t ns l rest few laid weak_top weak_below (pair_of_node l weak_top) refl).weak

  strong_made : Made (row_at l (strong_top * pair_words + 3)) t.places (get_or (rows_of t ns) strong_top no_rows).strong
  unfolding pair_at
  strong_made = (pair_of_rows t ns l rest few laid strong_top strong_below (pair_of_node l strong_top) refl).strong

  pub topped : Topped l weak_top strong_top
  topped = record {
    weak_room = omega (arith, words_length);
    strong_room = omega (arith, words_length);
    weak = weak_made.whole;
    strong = strong_made.whole;
  }

  pub tops_verdicts : (r : Verdicts) → r ≡ tops_in l weak_top strong_top → meant r ≡ verdicts t ns weak_top strong_top
  unfolding tops_in verdict
  tops_verdicts r e = rw (e, weak_made.marked, strong_made.marked)

pub ruleset top_laws = (rules, tops_read)
