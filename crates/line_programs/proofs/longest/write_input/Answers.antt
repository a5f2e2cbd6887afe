-- `write_input` meets its contract (LongestLaws: longest_refused, longest_written).
use Rattle.std.proofs.Common.{rules}
use Rattle.lines.proofs.StopLaws.{mapped_ok, mapped_err}
use Rattle.line_programs.specs.declared.input.RefusedInput.{RefusedInput}
use Rattle.line_programs.proofs.PrintLaws.{passed_on}
use Rattle.line_programs.proofs.LongestLaws.{longest_refused, longest_written}
use Rattle.line_programs.proofs.longest.write_input.Goals as goal

pub returns-in_err-line : goal.returns-in_err-line
returns-in_err-line c =
    let m = mapped_err c.only_line.result c.in_err-line.field-0.0 _ c.in_err-line.ensures.cases (λ (refused : RefusedInput). refused.refusal) (λ e q. search rules) in
    passed_on _ _ _ _ c.from_residual.ensures.1 (rw m.gives (longest_refused c.args.input.now _ (rw m.is at c.only_line.ensures)))

pub returns : goal.returns
returns c = longest_written c.args.input.now _ (rw (mapped_ok _ _ _ c.in_ok-line.ensures.cases) at c.only_line.ensures) _ _ c.write_count.ensures
