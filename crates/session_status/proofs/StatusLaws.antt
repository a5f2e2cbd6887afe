-- The line of a session (`put_status`): a law for each return, and room for what is printed.
use mathlib.Core.Path.{◌≡◌, refl}
use Prim.Native.Nat.{ℕ, ◌+◌, ◌≤◌}
use native.Mathlib.Omega.{arith}
use mathlib.Core.Bool.{Bool, true, false}
use mathlib.Core.List.{List, [], ◌∷◌, ◌++◌}
use lib.Dec.{eqb}
use lib.ListN.{length, length-append}
use mir.Syntax.{w64}
use mir.Val.{Fits}
use Rattle.std.specs.Prelude.{Option, Some, None, Result, Ok, Err}
use Rattle.std.specs.Option.{option_flatten}
use Rattle.std.specs.Result.{result_ok}
use Rattle.definitions.specs.Limits.{accepted}
use Rattle.definitions.specs.Bounded.{pick, bit}
use Rattle.definitions.specs.Lines.{tab, newline, digits}
use Rattle.definitions.specs.Operations.{answer}
use Rattle.definitions.specs.Sessions.{Space, held_in, verdicts_answer}
use Rattle.definitions.specs.Watching.{states_word, verdict_word, verdict_fields, values_end, status_text}
use Rattle.theorems.proofs.Choice.{by_test}
use Rattle.printing.specs.Printing.{Printed, counted_line}
use Rattle.printing.proofs.PrintLaws.{digits_fit}
use Rattle.judges.specs.declared.verdicts.Verdicts.{Verdicts}
use Rattle.rules.specs.Refusals.{number_of}
use Rattle.rules.specs.declared.refusal.Refusal.{Refusal}
use Rattle.sessions.specs.Answers.{session_answer}
use Rattle.session_status.specs.Status.{max_printed}

-- how long the ends are
fields_short : (w s : Bool) → length (verdict_fields w s) ≤ 14
unfolding verdict_fields verdict_word pick
fields_short true true = omega arith
fields_short true false = omega arith
fields_short false true = omega arith
fields_short false false = omega arith

line_short : (held : ℕ) (end o : List ℕ) → Fits w64 held → length end ≤ 14 → max_printed ≤ length o → 0 + length (counted_line states_word held end) ≤ length o
unfolding counted_line
line_short held end o h l room =
    omega (arith, length-append states_word (tab ∷ (digits held ++ end)), length-append (digits held) end, digits_fit 19 held (omega (arith, h.fits)))

-- what the answer's values are
empty_values : (n : ℕ) → (answer n []).values ≡ []
unfolding answer pick
empty_values n = by_test (eqb n 0) (λ z. rw z) (λ z. rw z)

judged_values : (w s : Bool) → (answer accepted (bit w ∷ bit s ∷ [])).values ≡ bit w ∷ bit s ∷ []
unfolding answer pick
judged_values w s = refl

judged_end : (w s : Bool) → values_end (bit w ∷ bit s ∷ []) ≡ verdict_fields w s
unfolding values_end pick
judged_end true true = refl
judged_end true false = refl
judged_end false true = refl
judged_end false false = refl

empty_end : values_end [] ≡ newline ∷ []
unfolding values_end pick
empty_end = refl

-- the line ends in the verdicts, where there are any
unfoldable end_of : Option Verdicts → List ℕ
end_of (Some v) = verdict_fields v.weak v.strong
end_of None = newline ∷ []

end_is : (r : Result (Option Verdicts) Refusal) → values_end (session_answer r).values ≡ end_of (option_flatten (result_ok r))
unfolding end_of
end_is (Ok (Some v)) = rw (judged_values v.weak v.strong) (judged_end v.weak v.strong)
end_is (Ok None) = rw (empty_values accepted) empty_end
end_is (Err e) = rw (empty_values (number_of e)) empty_end

-- ---- `put_status`
module _ (h : Space) (text : List ℕ) where
  pub judged_room : (v : Verdicts) (end : List ℕ) → end ≡ verdict_fields v.weak v.strong → Fits w64 (held_in h) → max_printed ≤ length text →
      0 + length (counted_line states_word (held_in h) end) ≤ length text
  judged_room v end e f room = line_short (held_in h) end text f (rw e (fields_short v.weak v.strong)) room

  pub alone_room : Fits w64 (held_in h) → max_printed ≤ length text → 0 + length (counted_line states_word (held_in h) (newline ∷ [])) ≤ length text
  alone_room f room = line_short (held_in h) (newline ∷ []) text f (omega arith) room

  module _ (r : Result (Option Verdicts) Refusal) (is : session_answer r ≡ verdicts_answer h) (k : ℕ) (text' : List ℕ) where
    status_is : status_text h ≡ counted_line states_word (held_in h) (end_of (option_flatten (result_ok r)))
    unfolding status_text counted_line
    status_is = rw (← is, end_is r)

    -- `put_status`, verdicts: `status_text` ends in them
    pub status_judged : (v : Verdicts) → option_flatten (result_ok r) ≡ Some v → (end : List ℕ) → end ≡ verdict_fields v.weak v.strong →
        Printed (counted_line states_word (held_in h) end) text 0 k text' → Printed (status_text h) text 0 k text'
    unfolding end_of
    status_judged v e end d p = rw (status_is, e, ← d) p

    -- `put_status`, no verdicts: `status_text` is how many are held, alone
    pub status_alone : option_flatten (result_ok r) ≡ None → Printed (counted_line states_word (held_in h) (newline ∷ [])) text 0 k text' → Printed (status_text h) text 0 k text'
    unfolding end_of
    status_alone e p = rw (status_is, e) p
