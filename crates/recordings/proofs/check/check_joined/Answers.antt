-- `check_joined` meets its contract: the recording, then the controller.
use Rattle.definitions.specs.Recordings.{controller_refusal}
use Rattle.rules.proofs.RefusalLaws.{refusals}
use Rattle.recordings.proofs.check.check_joined.Goals as goal

pub returns-in_err-check_recording : goal.returns-in_err-check_recording
returns-in_err-check_recording c = search refusals

pub returns : goal.returns
unfolding controller_refusal
returns c = search refusals
