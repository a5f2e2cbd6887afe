-- What an event is, what its call answers and leaves, and what is printed of it.
use Rattle.std.specs.Prelude.{◌≡◌, ℕ, ◌≤◌, List, length, Option, Some, None}
use Rattle.definitions.specs.Limits.{recording_form}
use Rattle.definitions.specs.Lines.{Parsed, formed, malformed}
use Rattle.definitions.specs.Sessions.{Space, Call, Arrive, Withdraw, number_of, leaves}
use Rattle.definitions.specs.Watching.{Running, line_step}
use Rattle.printing.specs.Printing.{Printed}
use Rattle.session_status.specs.Status.{max_printed}
use Rattle.watch_program.specs.declared.event.Event.{Event}
use Rattle.watch_program.specs.declared.event.Event.TheVariants.{Arrival, Withdrawal}

-- the call that each case is
unfoldable pub meant : Option Event → Parsed Call
meant (Some (Arrival s)) = formed (Arrive s)
meant (Some Withdrawal) = formed Withdraw
meant None = malformed

-- its number; 5 where the line is no event
unfoldable pub event_number : Option Event → Space → ℕ
event_number (Some (Arrival s)) h = number_of (Arrive s) h
event_number (Some Withdrawal) h = number_of Withdraw h
event_number None h = recording_form

-- what it leaves
unfoldable pub event_leaves : Option Event → Space → Space
event_leaves (Some (Arrival s)) h = leaves (Arrive s) h
event_leaves (Some Withdrawal) h = leaves Withdraw h
event_leaves None h = h

-- an event was taken or refused
pub record Taken (e : Option Event) (h : Space) (number : ℕ) (h' : Space) : Type 0 where
  pub answered : number ≡ event_number e h
  pub left : h' ≡ event_leaves e h

-- a line of a text, and space for what is printed of it
pub record RefusedRoom (at : ℕ) (text output : List ℕ) : Type 0 where
  pub inside : at ≤ length text
  pub room : max_printed ≤ length output

-- what is held afterwards, and what is printed
pub record EventIs (line : List ℕ) (h : Space) (text : List ℕ) (r : ℕ) (h' : Space) (text' : List ℕ) : Type 0 where
  pub watch : (line_step line h).watch ≡ Running h'
  pub printed : Printed (line_step line h).printed text 0 r text'
