-- `put_states`: the lines of the states passed lie in the text (LineLaws: lines_laws).
use Rattle.definitions.specs.RecordingWriting.{state_text}
use Rattle.recording_writer.proofs.LineLaws.{Written}
use Rattle.recording_writer.proofs.put_states.Given as goal

abbrev pub invariant-loop-state : goal.invariant-loop-state
invariant-loop-state l = Written (state_text l.controllers) l.states l.initial.text l.start l.text l.at l.state-index
