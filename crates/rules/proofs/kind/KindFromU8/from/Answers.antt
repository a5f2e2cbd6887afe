-- `Kind::from` meets its contract: number by number (KindLaws, `unknown_kind_lem`).
use Rattle.std.proofs.Common.{rules}
use Rattle.definitions.specs.Bounded.{pick}
use Rattle.definitions.specs.Nodes.{kind_of}
use Rattle.rules.proofs.KindLaws.{unknown_kind_lem}
use Rattle.rules.proofs.kind.KindFromU8.from.Goals as goal

pub returns-in-0 : goal.returns-in-0
unfolding kind_of pick
returns-in-0 c = record { meant = rw c.in-0.is; kept = rw c.in-0.is }

pub returns-in-1 : goal.returns-in-1
unfolding kind_of pick
returns-in-1 c = record { meant = rw c.in-1.is; kept = rw c.in-1.is }

pub returns-in-2 : goal.returns-in-2
unfolding kind_of pick
returns-in-2 c = record { meant = rw c.in-2.is; kept = rw c.in-2.is }

pub returns-in-3 : goal.returns-in-3
unfolding kind_of pick
returns-in-3 c = record { meant = rw c.in-3.is; kept = rw c.in-3.is }

pub returns-in-4 : goal.returns-in-4
unfolding kind_of pick
returns-in-4 c = record { meant = rw c.in-4.is; kept = rw c.in-4.is }

pub returns-in-5 : goal.returns-in-5
unfolding kind_of pick
returns-in-5 c = record { meant = rw c.in-5.is; kept = rw c.in-5.is }

pub returns-in-6 : goal.returns-in-6
unfolding kind_of pick
returns-in-6 c = record { meant = rw c.in-6.is; kept = rw c.in-6.is }

pub returns-in-7 : goal.returns-in-7
unfolding kind_of pick
returns-in-7 c = record { meant = rw c.in-7.is; kept = rw c.in-7.is }

pub returns-in-8 : goal.returns-in-8
unfolding kind_of pick
returns-in-8 c = record { meant = rw c.in-8.is; kept = rw c.in-8.is }

pub returns-in-9 : goal.returns-in-9
unfolding kind_of pick
returns-in-9 c = record { meant = rw c.in-9.is; kept = rw c.in-9.is }

pub returns-in_default : goal.returns-in_default
returns-in_default c = search (rules, unknown_kind_lem)
