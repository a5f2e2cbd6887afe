-- `check_recording` meets its contract: the definition, part by part (CheckLaws).
use Rattle.definitions.specs.Recordings.{recording_refusal}
use Rattle.recordings.proofs.CheckLaws.{recording_laws}
use Rattle.recordings.proofs.check.check_recording.Goals as goal

pub returns-in_err-check_heading : goal.returns-in_err-check_heading
unfolding recording_refusal
returns-in_err-check_heading c = search recording_laws

pub returns-in_err-check_masks : goal.returns-in_err-check_masks
unfolding recording_refusal
returns-in_err-check_masks c = search recording_laws

pub check_states-requires : goal.check_states-requires
check_states-requires c = search recording_laws

pub returns-in_err-check_states : goal.returns-in_err-check_states
unfolding recording_refusal
returns-in_err-check_states c = search recording_laws

pub returns : goal.returns
unfolding recording_refusal
returns c = search recording_laws
