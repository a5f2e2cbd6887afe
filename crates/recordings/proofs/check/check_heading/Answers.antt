-- `check_heading` meets its contract: the definition, test by test.
use Rattle.std.proofs.Common.{rules}
use Rattle.definitions.specs.Recordings.{recording_heading_refusal}
use Rattle.recordings.proofs.check.check_heading.Goals as goal

pub returns : goal.returns
unfolding recording_heading_refusal
returns c = search rules
