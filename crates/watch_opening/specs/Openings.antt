-- What the text of an opening comes to.
use Rattle.std.specs.Prelude.{◌≡◌, ℕ, ◌≤◌, Bool, List, [], ◌++◌, length, take, drop, Result, Ok, Err}
use Rattle.definitions.specs.Limits.{accepted, max_controllers, max_input_bytes}
use Rattle.definitions.specs.Program.{refused_text}
use Rattle.definitions.specs.Sessions.{Space, leaves}
use Rattle.definitions.specs.Watching as watching
use Rattle.definitions.specs.Watching.{scan_session, Opened, Unfinished, Refuses, Opens, empty_space, status_text, Watch, opening_step}
use Rattle.lines.specs.declared.Stop.{Stop}
use Rattle.rules.specs.Refusals.{number_of}
use Rattle.printing.specs.Printing.{Printed, OutputIs}
use Rattle.session_status.specs.Status.{max_printed}
use Rattle.watch_opening.specs.declared.phase.Phase.{Phase}
use Rattle.watch_opening.specs.declared.phase.Phase.TheVariants.{Opening, Running, Ruling, Ended}
use Rattle.watch_opening.specs.declared.phase.Stepped.{Stepped}

-- the lines after the line `-` are accepted: their masks are laid over the start of lent space
pub record SessionRead (text : List ℕ) (C : ℕ) (owned' : List ℕ) : Type 0 where
  pub number : accepted ≡ (scan_session text).number
  pub controllers : C ≡ (scan_session text).controllers
  pub few : C ≤ max_controllers
  pub masks : take C owned' ≡ (scan_session text).masks

-- a line of them is refused
pub record SessionStopped (text : List ℕ) (stop : Stop) : Type 0 where
  pub number : number_of stop.refusal ≡ (scan_session text).number
  pub inside : stop.at ≤ length text
  pub rest : drop stop.at text ≡ (scan_session text).rest

-- they were read
abbrev pub SessionIs : List ℕ → Result ℕ Stop → List ℕ → Type 0
SessionIs text (Ok C) owned' = SessionRead text C owned'
SessionIs text (Err stop) owned' = SessionStopped text stop

-- a text, and space for what is printed of it
pub record OpenRoom (text output : List ℕ) : Type 0 where
  pub fits : length text ≤ max_input_bytes
  pub room : max_printed ≤ length output

-- the rule text and the session's lines likewise
pub record TextsRoom (rule session output : List ℕ) : Type 0 where
  pub opens : OpenRoom rule output
  pub fits : length session ≤ max_input_bytes

-- where the program is after the opening's next line
unfoldable pub opened_phase : Opened → Phase
opened_phase Unfinished = Opening
opened_phase (Refuses number line) = Ended
opened_phase (Opens c) = Running

-- what it prints
unfoldable pub opened_text : Opened → List ℕ
opened_text Unfinished = []
opened_text (Refuses number line) = refused_text number line
opened_text (Opens c) = status_text (leaves c empty_space)

-- what it leaves in lent space: nothing is changed before the session is opened
unfoldable pub opened_space : Opened → Space → Space
opened_space Unfinished h = h
opened_space (Refuses number line) h = h
opened_space (Opens c) h = leaves c empty_space

-- a line was refused
pub record RefusedIs (o : Opened) (output : List ℕ) (r : Stepped) (output' : List ℕ) : Type 0 where
  pub phase : r.phase ≡ opened_phase o
  pub printed : Printed (opened_text o) output 0 r.printed output'

-- the opening's next line was read
pub record OpenStep (o : Opened) (h : Space) (output : List ℕ) (r : Stepped) (h' : Space) (output' : List ℕ) : Type 0 where
  pub phase : r.phase ≡ opened_phase o
  pub printed : Printed (opened_text o) output 0 r.printed output'
  pub left : h' ≡ opened_space o h

-- the program that is in a phase, with the text so far of the opening or of a new rule, and the session in lent space
abbrev pub watch_of : Phase → (text : List ℕ) → Space → Watch
watch_of Opening text h = watching.Opening text
watch_of Running text h = watching.Running h
watch_of Ruling text h = watching.Ruling text h
watch_of Ended text h = watching.Ended

-- what stands in lent space after a line: the session, and else what stood there
abbrev pub space_after : Watch → Space → Space
space_after (watching.Opening text) h = h
space_after (watching.Running k) h = k
space_after (watching.Ruling text k) h = k
space_after watching.Ended h = h

-- the text so far with the next line; an event begins with its line
abbrev pub text_with : Phase → (text line : List ℕ) → List ℕ
text_with Opening text line = text ++ line
text_with Running text line = line
text_with Ruling text line = text ++ line
text_with Ended text line = []

-- a line was taken: what the program is afterwards, what it prints, and all of lent space
pub record SteppedIs (s : watching.Stepped) (text : List ℕ) (h : Space) (output : List ℕ) (r : Stepped) (h' : Space) (output' : List ℕ) : Type 0 where
  pub watch : s.watch ≡ watch_of r.phase text h'
  pub left : h' ≡ space_after s.watch h
  pub printed : OutputIs s.printed output r.printed output'

-- the opening's text so far
abbrev pub OpeningIs : (ended : Bool) (text : List ℕ) (h : Space) (output : List ℕ) (r : Stepped) (h' : Space) (output' : List ℕ) → Type 0
OpeningIs ended text h output r h' output' = SteppedIs (opening_step ended text) text h output r h' output'
