-- `first_sign`, no `rue` follows a `t`: `sign_first` is malformed (TokenLaws, `first_no_true`). TokenLaws, `first_laws`, carries the other returns.
use Rattle.one_line_signs.proofs.TokenLaws.{none_told, first_no_true}
use Rattle.one_line_signs.proofs.token.first_sign.Goals as goal

pub returns-in_err-strip_prefix-in-116 : goal.returns-in_err-strip_prefix-in-116
returns-in_err-strip_prefix-in-116 c =
    none_told _ c.from_residual-in_err-strip_prefix-in-116.ensures
    (first_no_true _ _ _ c.in_ok-first.ensures.cases.0 c.in-116.is c.in_err-strip_prefix-in-116.ensures.cases)
