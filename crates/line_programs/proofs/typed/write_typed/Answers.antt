-- `write_typed` meets its contract (TypedLaws: typed_missed, typed_malformed, typed_written).
use Rattle.line_programs.proofs.PrintLaws.{passed_on}
use Rattle.line_programs.proofs.TypedLaws.{typed_missed, typed_malformed, typed_written}
use Rattle.line_programs.proofs.typed.write_typed.Goals as goal

pub returns-in_err-field : goal.returns-in_err-field
returns-in_err-field c = passed_on _ _ _ _ c.from_residual.ensures.1 (typed_missed c.args.line.now _ c.split.ensures.parts _ c.in_err-field.ensures.value)

pub returns-in_err-controller : goal.returns-in_err-controller
returns-in_err-controller c =
    passed_on _ _ _ _ c.from_residual-in_err-controller.ensures.1
    (typed_malformed c.args.line.now _ c.split.ensures.parts _ _ c.in_ok-field.ensures.value _ c.decimal.ensures _ c.in_err-controller.ensures.value)

pub returns : goal.returns
returns c =
    typed_written c.args.line.now _ c.split.ensures.parts _ _ c.in_ok-field.ensures.value _ c.decimal.ensures _ c.in_ok-controller.ensures.value _ _ c.write_line.ensures
