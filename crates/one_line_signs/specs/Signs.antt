-- What the signs of the code mean, and signs whose atoms are told up to the limit.
use Rattle.std.specs.Prelude.{ℕ, List, [], ◌∷◌, map, min}
use Rattle.definitions.specs.Limits.{atom_count}
use Rattle.definitions.specs.OneLineSigns.{Prefix, Not, Next, Prev, Future, Always, Infix, Implies, Or, And, Until, Since}
use Rattle.definitions.specs.OneLineSigns.{Sign, true_sign, atom_sign, prefix_sign, infix_sign, open_bracket, close_bracket}
use Rattle.one_line_signs.specs.declared.sign.Prefix.{Prefix as PrefixCode}
use Rattle.one_line_signs.specs.declared.sign.Prefix.TheVariants as before
use Rattle.one_line_signs.specs.declared.sign.Infix.{Infix as InfixCode}
use Rattle.one_line_signs.specs.declared.sign.Infix.TheVariants as between
use Rattle.one_line_signs.specs.declared.sign.Sign.{Sign as SignCode}
use Rattle.one_line_signs.specs.declared.sign.Sign.TheVariants as code

-- the sign that is meant
abbrev pub prefix_in : PrefixCode → Prefix
prefix_in before.Not = Not
prefix_in before.Next = Next
prefix_in before.Prev = Prev
prefix_in before.Future = Future
prefix_in before.Always = Always

abbrev pub infix_in : InfixCode → Infix
infix_in between.Implies = Implies
infix_in between.Or = Or
infix_in between.And = And
infix_in between.Until = Until
infix_in between.Since = Since

abbrev pub sign_in : SignCode → Sign
sign_in code.True = true_sign
sign_in (code.Atom n) = atom_sign n
sign_in (code.Prefix x) = prefix_sign (prefix_in x)
sign_in (code.Infix x) = infix_sign (infix_in x)
sign_in code.Opening = open_bracket
sign_in code.Closing = close_bracket

abbrev pub signs_in : List SignCode → List Sign
signs_in xs = map sign_in xs

-- an atom's number, or the limit where it is above
abbrev pub cap_atom : ℕ → ℕ
cap_atom n = min n atom_count

-- signs as the code tells them: an atom above the limit is the limit
unfoldable pub capped : Sign → Sign
capped true_sign = true_sign
capped (atom_sign n) = atom_sign (cap_atom n)
capped (prefix_sign x) = prefix_sign x
capped (infix_sign x) = infix_sign x
capped open_bracket = open_bracket
capped close_bracket = close_bracket

unfoldable pub capped_signs : List Sign → List Sign
capped_signs [] = []
capped_signs (x ∷ s) = capped x ∷ capped_signs s
