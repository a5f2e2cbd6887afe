-- `draw_images` meets its contract (DraftLaws, `draft_laws`).
use Rattle.rewriting.proofs.DraftLaws.{draft_laws}
use Rattle.rewriting.proofs.drafts.draw_images.Goals as goal

pub loop-i-init : goal.loop-i-init
loop-i-init c = search draft_laws

pub is_own-own-requires : goal.is_own-own-requires
is_own-own-requires c = search draft_laws

pub bounds-images-a : goal.bounds-images-a
bounds-images-a c = search draft_laws

pub bounds-images-b : goal.bounds-images-b
bounds-images-b c = search draft_laws

pub listed : goal.listed
listed c = search draft_laws

pub listed-in-loop-i : goal.listed-in-loop-i
listed-in-loop-i c = search draft_laws

pub draw_image-last-requires : goal.draw_image-last-requires
draw_image-last-requires c = search draft_laws

pub loop-i-preserved : goal.loop-i-preserved
loop-i-preserved c = search draft_laws

pub returns : goal.returns
returns c = search draft_laws
