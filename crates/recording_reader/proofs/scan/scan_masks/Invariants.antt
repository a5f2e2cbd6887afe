-- `scan_masks` meets its contract (LoopLaws). The invariant: the first c masks are read, and `seen` is their union.
use Rattle.recording_reader.proofs.LoopLaws.{MasksLeft}
use Rattle.recording_reader.proofs.scan.scan_masks.Given as goal

abbrev pub invariant-loop-c : goal.invariant-loop-c
invariant-loop-c l = MasksLeft l.controllers l.start l.text l.initial.masks l.masks l.at l.seen l.c
