-- `all_fit` meets its contract (TableLaws, `fit_next`). The invariant: where all so far fit, what is left to test is the answer.
use Rattle.rules.proofs.TableLaws.{fit_laws, fit_next}
use Rattle.rules.proofs.table_check.all_fit.Goals as goal

pub loop-i-init : goal.loop-i-init
loop-i-init c = search fit_laws

pub overflow_cast-i : goal.overflow_cast-i
overflow_cast-i c = search fit_laws

pub offset_bounds-nodes-i : goal.offset_bounds-nodes-i
offset_bounds-nodes-i c = search fit_laws

pub bounds-nodes-i : goal.bounds-nodes-i
bounds-nodes-i c = search fit_laws

pub of_word-requires : goal.of_word-requires
of_word-requires c = search fit_laws

pub node_fits-fit-requires : goal.node_fits-fit-requires
node_fits-fit-requires c = search fit_laws

pub overflow_step-i : goal.overflow_step-i
overflow_step-i c = search fit_laws

pub loop-i-smaller : goal.loop-i-smaller
loop-i-smaller c = search fit_laws

pub loop-i-preserved : goal.loop-i-preserved
loop-i-preserved c =
    fit_next c.args.rewritten c.args.count c.args.nodes.now c.loop-i.fit c.loop-i.i c.loop-i.invariant c.node_fits-fit.result c.of_word.result
    c.loop-i-test.true c.requires.1 c.of_word.ensures c.node_fits-fit.ensures

pub returns : goal.returns
returns c = search fit_laws
