-- `check_lines` meets its contract: the definition, its test turned round.
use Rattle.definitions.specs.Recordings.{recording_lines_refusal}
use Rattle.recordings.proofs.CheckLaws.{recording_laws}
use Rattle.recordings.proofs.check.check_lines.Goals as goal

pub returns : goal.returns
unfolding recording_lines_refusal
returns c = search recording_laws
