-- What a call leaves, refused or taken.
use Rattle.std.proofs.Common.{◌≡◌, sym, ◌∙◌}
use Rattle.definitions.specs.Limits.{accepted}
use Rattle.definitions.specs.Sessions.{Space, Call, accepted_leaves, leaves}
use Rattle.definitions.specs.Sessions as calls
use Rattle.theorems.proofs.SessionCalls.{refused_changes_nothing, accepted_leaves_lem}
use Rattle.rules.specs.Refusals.{number_of}
use Rattle.rules.specs.declared.refusal.Refusal.{Refusal}
use Rattle.rules.proofs.RefusalLaws.{number_some}

-- a refused call changes nothing
pub refused_leaves : (c : Call) (h : Space) (k : Refusal) → number_of k ≡ calls.number_of c h → h ≡ leaves c h
refused_leaves c h k e = sym (refused_changes_nothing c h (λ z. number_some k (e ∙ z)))

-- a call that is taken
pub taken_leaves : (c : Call) (h : Space) → accepted ≡ calls.number_of c h → accepted_leaves c h ≡ leaves c h
taken_leaves c h e = sym (accepted_leaves_lem c h (sym e))
