-- `node_rows` meets its contract: one law for each return (EvaluateLaws, `again_turn`, `operator_turn`).
use Rattle.evaluation.proofs.EvaluateLaws.{again_turn, again_room, operands_laid, operator_turn}
use Rattle.evaluation.proofs.node_rows.Goals as goal

pub pair_of_node-requires : goal.pair_of_node-requires
pair_of_node-requires c = search again_room

pub returns-then-is_again : goal.returns-then-is_again
returns-then-is_again c = search again_turn

pub operator-requires : goal.operator-requires
operator-requires c = search operands_laid

pub returns : goal.returns
returns c = search operator_turn
