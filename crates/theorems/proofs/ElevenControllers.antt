-- Document 02's eleven controllers: the digits hold every mark, and demand 3 between a recording of eight controllers and one of eleven.
use mathlib.Core.Path.{◌≡◌}
use Prim.Native.Nat.{ℕ, ◌^◌, ◌≤◌}
use native.Mathlib.Omega.{arith}
use lib.Dec.{ltb}
use lib.Pow.{pow_mono}
use borrow.Author.Tests.{ltb-false}
use Rattle.definitions.specs.Limits.{accepted, max_controllers, two_digit_controllers}
use Rattle.definitions.specs.Tables.{Rule, nodes_in}
use Rattle.definitions.specs.Recordings.{Recording, mask_of}
use Rattle.definitions.specs.RecordingText.{mark_digits}
use Rattle.definitions.specs.Projection.{local_trace}
use Rattle.definitions.specs.Readings.{local_verdicts}
use Rattle.definitions.specs.Operations.{answer, verdict_values}
use Rattle.theorems.proofs.Choice.{by_test, pick_true, pick_false}
use Rattle.theorems.proofs.ScheduleIndependence.{Accepted, Lent, OneAnswer, schedule_independence}

-- "Run marks are three hexadecimal digits where C is above 8 and two otherwise": they hold a mark of each of the C controllers
pub marks_fit : (C : ℕ) → C ≤ max_controllers → 2 ^ C ≤ 16 ^ mark_digits C
unfolding mark_digits
marks_fit C h =
    by_test (ltb two_digit_controllers C)
    (λ e. rw (pick_true {A = ℕ} (ltb two_digit_controllers C) 3 2 e) (omega (arith, pow_mono {i = C} {j = 11} h)))
    (λ e. rw (pick_false {A = ℕ} (ltb two_digit_controllers C) 3 2 e) (pow_mono {i = C} {j = 8} (ltb-false two_digit_controllers C e)))

-- "Equality of verdicts between recordings must hold between one of eight controllers and one of eleven": demand 3, which asks nothing of C
pub eight_and_eleven : (r : Rule) (R S : Recording) → R.controllers ≡ 8 → S.controllers ≡ 11 → Accepted r R → Accepted r S →
    local_trace R r.controller ≡ local_trace S r.controller → mask_of R r.controller ≡ mask_of S r.controller → (l₁ l₂ l₃ l₄ : Lent) →
    OneAnswer r R S l₁ l₂ l₃ l₄ (answer accepted (verdict_values (local_verdicts (nodes_in r.count r.nodes) (mask_of R r.controller) (local_trace R r.controller))))
eight_and_eleven r R S eight eleven = schedule_independence r R S
