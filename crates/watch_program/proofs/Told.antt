-- What the lines of `watch` tell: of a session that its own calls made, the verdicts of judging the remaining states from the start (document 02).
use mathlib.Core.Path.{◌≡◌, ap, ◌∙◌}
use Prim.Native.Nat.{ℕ, ◌<◌}
use mathlib.Core.List.{List, [], ◌∷◌, ◌++◌}
use lib.ListN.{length}
use Rattle.definitions.specs.Lines.{tab, newline, digits}
use Rattle.definitions.specs.Bounded.{pick}
use Rattle.definitions.specs.Tables.{Rule}
use Rattle.definitions.specs.Operations.{answer, judge_local_answer}
use Rattle.definitions.specs.Sessions.{Space, recording_held, held_in, open_number, Call, Open, leaves, leaves_all, held_after_all, Made}
use Rattle.definitions.specs.Watching.{states_word, values_end, status_text, empty_space}
use Rattle.theorems.proofs.Sessions.{space_held, space_made}
use Rattle.theorems.proofs.SessionVerdicts.{Holds, made_holds, session_made}

-- the session that an accepted opening leaves is made by its own calls
pub opened_is_made : (C : ℕ) (masks : List ℕ) (r : Rule) → open_number C masks r empty_space ≡ 0 → Made (leaves (Open C masks r) empty_space)
unfolding leaves_all
opened_is_made C masks r e = session_made C masks r empty_space e []

-- and stays so after every event
pub stays_made : (h : Space) (m : Made h) (c : Call) → Made (leaves c h)
unfolding leaves_all held_after_all
stays_made h m c =
    let s : Holds (held_after_all (c ∷ []) m.held) h (leaves c h) = made_holds h m (c ∷ []) in
    rw s.contents (space_made (held_after_all (c ∷ []) m.held) h s.sound m.full)

module _ (h : Space) (m : Made h) where
  held_told : held_in h ≡ length m.held.states
  held_told = ap held_in m.is ∙ space_held m.held h

  holds : Holds m.held h h
  unfolding leaves_all held_after_all
  holds = made_holds h m []

  -- `states`, how many remain, and the verdicts of judging them from the start
  pub told_from_the_start : 0 < length m.held.states →
      status_text h ≡ states_word ++ (tab ∷ (digits (length m.held.states) ++ values_end (judge_local_answer m.held.rule (recording_held m.held)).values))
  unfolding status_text
  told_from_the_start p = rw (held_told, holds.verdicts p)

  -- `states`, `0`: "An empty session has no verdict, and its answer says so"
  pub told_of_none : length m.held.states ≡ 0 → status_text h ≡ states_word ++ (tab ∷ (digits 0 ++ (newline ∷ [])))
  unfolding status_text values_end answer pick
  told_of_none z = rw (held_told, z, holds.none z)
