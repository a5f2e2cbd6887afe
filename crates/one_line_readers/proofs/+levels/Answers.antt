-- The cycle meets its contracts: a law for each call and each return (ReadLaws). `measure` falls by the laws whose names begin with `falls`.
use Rattle.std.proofs.Common.{rules, arith}
use Rattle.one_line_readers.proofs.ReadLaws.{falls, falls_after, falls_after_until, falls_after_prefix, read_last, arrows_stop, arrows_not, arrows_ready, arrows_join, arrows_read, ors_start, ors_stop, ors_ready, ors_join, ors_less, ors_again, ands_start, ands_stop, ands_not, ands_ready, ands_dual, ands_less, ands_again, untils_stop, untils_ready, untils_join, untils_read, prefixes_primed, prefixes_open, prefixes_ready, prefixes_close, prefixes_read, prefixes_primary, primaries_some, primaries_known, primaries_depth, primaries_falls, primaries_ready, primaries_closed, primaries_bracket, primaries_true_put, primaries_true, primaries_atom_put, primaries_atom}
use Rattle.one_line_readers.proofs.+levels.Goals as goal

pub arrows-ors-rest-requires : goal.arrows-ors-rest-requires
arrows-ors-rest-requires t c = (search (rules, falls), search rules)

pub arrows-returns-in_default : goal.arrows-returns-in_default
arrows-returns-in_default t c = search (arrows_stop, c.in_default.ensures)

pub arrows-not-requires : goal.arrows-not-requires
arrows-not-requires t c = search (arrows_not, c.in-Some.ensures)

pub arrows-arrows-end-requires : goal.arrows-arrows-end-requires
arrows-arrows-end-requires t c = (search (rules, falls_after, c.in-Some.ensures), search (arrows_ready, c.in-Some.ensures))

pub arrows-join-requires : goal.arrows-join-requires
arrows-join-requires t c = search (arrows_join, c.in-Some.ensures)

pub arrows-returns : goal.arrows-returns
arrows-returns t c = search (arrows_read, c.in-Some.ensures)

pub ors-ands-rest-requires : goal.ors-ands-rest-requires
ors-ands-rest-requires t c = (search (rules, falls), search rules)

pub ors-loop-after-init : goal.ors-loop-after-init
ors-loop-after-init t c = search ors_start

pub ors-last-p-requires : goal.ors-last-p-requires
ors-last-p-requires t c = search read_last

pub ors-ands-rest-requires-in-Some : goal.ors-ands-rest-requires-in-Some
ors-ands-rest-requires-in-Some t c = (search (rules, falls_after, c.in-Some.ensures), search (ors_ready, c.in-Some.ensures))

pub ors-join-requires : goal.ors-join-requires
ors-join-requires t c = search (ors_join, c.in-Some.ensures)

pub ors-loop-after-smaller : goal.ors-loop-after-smaller
ors-loop-after-smaller t c = search (ors_less, c.in-Some.ensures)

pub ors-loop-after-preserved : goal.ors-loop-after-preserved
ors-loop-after-preserved t c = search (ors_again, c.in-Some.ensures)

pub ors-returns : goal.ors-returns
ors-returns t c = search (ors_stop, c.in_default.ensures)

pub ands-untils-rest-requires : goal.ands-untils-rest-requires
ands-untils-rest-requires t c = (search (rules, falls), search rules)

pub ands-loop-after-init : goal.ands-loop-after-init
ands-loop-after-init t c = search ands_start

pub ands-not-requires : goal.ands-not-requires
ands-not-requires t c = search (ands_not, c.in-Some.ensures)

pub ands-untils-rest-requires-in-Some : goal.ands-untils-rest-requires-in-Some
ands-untils-rest-requires-in-Some t c = (search (rules, falls_after, c.in-Some.ensures), search (ands_ready, c.in-Some.ensures))

pub ands-dual-requires : goal.ands-dual-requires
ands-dual-requires t c = search (ands_dual, c.in-Some.ensures)

pub ands-loop-after-smaller : goal.ands-loop-after-smaller
ands-loop-after-smaller t c = search (ands_less, c.in-Some.ensures)

pub ands-loop-after-preserved : goal.ands-loop-after-preserved
ands-loop-after-preserved t c = search (ands_again, c.in-Some.ensures)

pub ands-returns : goal.ands-returns
ands-returns t c = search (ands_stop, c.in_default.ensures)

pub untils-prefixes-rest-requires : goal.untils-prefixes-rest-requires
untils-prefixes-rest-requires t c = (search (rules, falls), search rules)

pub untils-returns-in_default : goal.untils-returns-in_default
untils-returns-in_default t c = search (untils_stop, c.in_default.ensures)

pub untils-last-p-requires : goal.untils-last-p-requires
untils-last-p-requires t c = search read_last

pub untils-untils-end-requires : goal.untils-untils-end-requires
untils-untils-end-requires t c = (search (rules, falls_after_until, c.in-Some.ensures), search (untils_ready, c.in-Some.ensures))

pub untils-join-requires : goal.untils-join-requires
untils-join-requires t c = search (untils_join, c.in-Some.ensures)

pub untils-returns : goal.untils-returns
untils-returns t c = search (untils_read, c.in-Some.ensures)

pub prefixes-primaries-requires : goal.prefixes-primaries-requires
prefixes-primaries-requires t c = (search (rules, falls), search (prefixes_primed, c.in_default.ensures))

pub prefixes-returns-in_default : goal.prefixes-returns-in_default
prefixes-returns-in_default t c = search prefixes_primary

pub prefixes-open_prefix-b-requires : goal.prefixes-open_prefix-b-requires
prefixes-open_prefix-b-requires t c = search (prefixes_open, c.in-Some.ensures)

pub prefixes-prefixes-rest-requires : goal.prefixes-prefixes-rest-requires
prefixes-prefixes-rest-requires t c = (search (rules, falls_after_prefix, c.in-Some.ensures), search (prefixes_ready, c.in-Some.ensures))

pub prefixes-close_prefix-requires : goal.prefixes-close_prefix-requires
prefixes-close_prefix-requires t c = search (prefixes_close, c.in-Some.ensures)

pub prefixes-returns : goal.prefixes-returns
prefixes-returns t c = search (prefixes_read, c.in-Some.ensures)

pub primaries-tail-after-requires : goal.primaries-tail-after-requires
primaries-tail-after-requires t c = search primaries_some

pub primaries-bounds-0 : goal.primaries-bounds-0
primaries-bounds-0 t c = search primaries_some

pub primaries-overflow_sub-left : goal.primaries-overflow_sub-left
primaries-overflow_sub-left t c = search primaries_depth

pub primaries-arrows-requires : goal.primaries-arrows-requires
primaries-arrows-requires t c = (search primaries_falls, search primaries_ready)

pub primaries-tail-requires : goal.primaries-tail-requires
primaries-tail-requires t c = search primaries_closed

pub primaries-put-requires : goal.primaries-put-requires
primaries-put-requires t c = search primaries_true_put

pub primaries-put-requires-in-Atom : goal.primaries-put-requires-in-Atom
primaries-put-requires-in-Atom t c = primaries_atom_put c.requires _ _ _ c.in-Atom.is c.tail-after.ensures (omega arith)

pub primaries-unreachable-requires : goal.primaries-unreachable-requires
primaries-unreachable-requires t c = primaries_known c.requires _ c.in_default.not-Opening c.in_default.not-True c.in_default.not-Atom

pub primaries-returns-in-Opening : goal.primaries-returns-in-Opening
primaries-returns-in-Opening t c = search primaries_bracket

pub primaries-returns-in-True : goal.primaries-returns-in-True
primaries-returns-in-True t c = search primaries_true

pub primaries-returns-in-Atom : goal.primaries-returns-in-Atom
primaries-returns-in-Atom t c = search primaries_atom
