-- `read_recording` meets its contract (ReadLaws).
use Rattle.std.proofs.Common.{rules}
use Rattle.lines.proofs.StopLaws.{place_dropped}
use Rattle.lines.specs.declared.CutShort.{CutShort}
use Rattle.recordings.specs.declared.heading.RecordingHeading.{RecordingHeading}
use Rattle.recording_reader.proofs.ReadLaws.{kept_is, masks_short_lem, states_short_lem, read_done}
use Rattle.recording_reader.proofs.read_recording.Goals as goal

pub returns-then-masks-lt-CONTROLLERS : goal.returns-then-masks-lt-CONTROLLERS
returns-then-masks-lt-CONTROLLERS c = search masks_short_lem

pub returns-then-states-lt-STATES : goal.returns-then-states-lt-STATES
returns-then-states-lt-STATES c = search states_short_lem

pub returns : goal.returns
returns c =
    read_done _ _ _ c.if-masks-lt-CONTROLLERS.false c.if-states-lt-STATES.false _ _ _ c.scan_recording-read.ensures
    _ (kept_is _ (λ h. h.controllers) _ _ c.map_or-masks_kept.ensures (λ h q. search rules)) _ (kept_is _ (λ h. h.count) _ _ c.map_or-states_kept.ensures (λ h q. search rules))
    _ _ c.clear.ensures c.clear-2.ensures _ (place_dropped (λ (cut : CutShort RecordingHeading). cut.stop.refusal) _ _ _ c.map_err.ensures.cases (λ s e q. search rules))
