-- The values that are printed of an accepted rule and recording.
use Rattle.std.specs.Prelude.{◌≡◌, ℕ, ◌≤◌, List, length}
use Rattle.definitions.specs.Tables.{Rule, nodes_in}
use Rattle.definitions.specs.Recordings.{Recording}
use Rattle.definitions.specs.Program.{judged_text}
use Rattle.theorems.proofs.ScheduleIndependence.{Accepted}
use Rattle.report.specs.Reporting.{max_output_bytes, report_text}
use Rattle.report.specs.declared.Report.{Report}

-- what is printed of them
abbrev pub judged_of : Rule → Recording → List ℕ
judged_of r R = judged_text r.controller (nodes_in r.count r.nodes) R

-- they are accepted, and there is space for what is printed of them
pub record JudgedReady (r : Rule) (R : Recording) (text : List ℕ) : Type 0 where
  pub accepted : Accepted r R
  pub room : max_output_bytes ≤ length text

-- the values print as document 01 says, in few bytes
pub record ReportIs (r : Rule) (R : Recording) (v : Report) : Type 0 where
  pub text : report_text v ≡ judged_of r R
  pub fits : length (report_text v) ≤ max_output_bytes
