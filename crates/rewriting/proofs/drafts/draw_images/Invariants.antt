-- `draw_images` meets its contract (DraftLaws, `draft_laws`).
use Rattle.rewriting.proofs.DraftLaws.{Drafting}
use Rattle.rewriting.proofs.drafts.draw_images.Given as goal

abbrev pub invariant-loop-i : goal.invariant-loop-i
invariant-loop-i l = Drafting l.short l.mask l.nodes l.initial.table l.i l.at l.images l.last l.table
