-- Two texts of one input, as tables: what `judge` and `why` share of reading them.
use Rattle.std.specs.Prelude.{◌≡◌, ℕ, ◌≤◌, List, length, take, Result, Ok, Err}
use Rattle.definitions.specs.Limits.{accepted, max_input_bytes, max_rule_nodes, max_controllers, max_states}
use Rattle.definitions.specs.Tables.{rule_of}
use Rattle.definitions.specs.Recordings.{recording_of}
use Rattle.definitions.specs.RuleText.{scan_rule}
use Rattle.definitions.specs.RecordingText.{scan_recording, joint_number, joint_part}
use Rattle.definitions.specs.Program.{refused_text, bytes_of, scanned}
use Rattle.theorems.proofs.ScheduleIndependence.{Accepted}
use Rattle.rules.specs.Handed.{rule_in}
use Rattle.recordings.specs.Heading.{recording_in}
use Rattle.joint_reading.specs.declared.scan.Joined.{Joined}
use Rattle.printing.specs.Printing.{Printed}
use Rattle.report.specs.Reporting.{max_output_bytes}
use Rattle.report.specs.declared.read.Tables.{Tables}
use Rattle.report.specs.declared.read.Read.{Read}

-- headings of what the space has room for
pub record Within (joined : Joined) : Type 0 where
  pub nodes : joined.rule.count ≤ max_rule_nodes
  pub masks : joined.recording.controllers ≤ max_controllers
  pub states : joined.recording.count ≤ max_states

-- the tables at the front of the space, by their headings
pub record ReadIs (joined : Joined) (tables : Tables) (r : Read) : Type 0 where
  pub rule : rule_in r.rule ≡ rule_of joined.rule.controller joined.rule.count (take joined.rule.count tables.nodes)
  pub recording :
      recording_in r.recording
      ≡ recording_of joined.recording.controllers joined.recording.count (take joined.recording.controllers tables.masks) (take joined.recording.count tables.states)

-- two texts of one input, and space for what is printed of them
pub record TextsRoom (rule recording text : List ℕ) : Type 0 where
  pub rule_fits : length rule ≤ max_input_bytes
  pub recording_fits : length recording ≤ max_input_bytes
  pub text_room : max_output_bytes ≤ length text

-- the texts are refused, and their refusal is printed
pub record RefusedTexts (rule recording text : List ℕ) (end : ℕ) (text' : List ℕ) : Type 0 where
  pub refused : joint_number rule recording ≡ accepted → ⊥
  pub printed : Printed (refused_text (joint_number rule recording) (bytes_of rule recording (joint_part rule recording))) text 0 end text'

-- the texts are accepted: these are the tables that they are read as, and nothing is printed
pub record AcceptedTexts (rule recording text : List ℕ) (r : Read) (text' : List ℕ) : Type 0 where
  pub accepts : joint_number rule recording ≡ accepted
  pub rule_is : rule_in r.rule ≡ rule_of (scan_rule rule).controller (scan_rule rule).count (scan_rule rule).words
  pub recording_is : recording_in r.recording ≡ scanned (scan_recording recording)
  pub both : Accepted (rule_in r.rule) (recording_in r.recording)
  pub unprinted : text' ≡ text

-- what reading them comes to
abbrev pub TextsRead : (rule recording text : List ℕ) → Result Read ℕ → (text' : List ℕ) → Type 0
TextsRead rule recording text (Ok r) text' = AcceptedTexts rule recording text r text'
TextsRead rule recording text (Err end) text' = RefusedTexts rule recording text end text'
