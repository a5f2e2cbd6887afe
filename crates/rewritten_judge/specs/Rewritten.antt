-- What judging a rewritten rule over the whole recording answers: the verdicts of the rule on its own local trace.
use Rattle.std.specs.Prelude.{◌≡◌, Bool, length}
use Rattle.definitions.specs.Tables.{Rule}
use Rattle.definitions.specs.Recordings.{Recording, mask_of}
use Rattle.definitions.specs.Rewriting as table
use Rattle.definitions.specs.Operations.{rewritten_of}
use Rattle.judges.specs.Verdicts.{meant, own_verdicts}
use Rattle.rewritten_judge.specs.declared.Rewritten.{Rewritten}

-- the rule rewritten for its controller's mask
abbrev pub rewritten_for : Bool → Rule → Recording → table.Rewritten
rewritten_for short r R = rewritten_of short r (mask_of R r.controller)

-- the rule rewritten: its node count, and verdicts that are the rule's own
pub record RewrittenIs (short : Bool) (r : Rule) (R : Recording) (v : Rewritten) : Type 0 where
  pub count : v.count ≡ length (rewritten_for short r R).nodes
  pub verdicts : meant v.verdicts ≡ own_verdicts r R
