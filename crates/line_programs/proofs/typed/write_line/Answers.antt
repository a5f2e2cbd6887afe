-- `write_line` meets its contract (TypedLaws: line_refused, line_written).
use Rattle.std.proofs.Common.{rules}
use Rattle.line_programs.proofs.PrintLaws.{passed_on, rule_written}
use Rattle.line_programs.proofs.TypedLaws.{line_refused, line_written}
use Rattle.line_programs.proofs.typed.write_line.Goals as goal

pub returns-in_err-heading : goal.returns-in_err-heading
returns-in_err-heading c = passed_on _ _ _ _ c.from_residual.ensures.1 (line_refused c.args.controller c.args.line.now _ _ (search rules) _ c.in_err-heading.ensures)

pub returns : goal.returns
returns c =
    line_written c.args.controller c.args.line.now _ _ _ c.in_ok-heading.ensures _ _
    (rule_written _ c.args.output.now (search rules) c.write_rule.new.text c.write_rule.result c.write_rule.ensures)
