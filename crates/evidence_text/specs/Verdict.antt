-- The line of a verdict.
use Rattle.std.specs.Prelude.{Bool, true, false}
use Rattle.judges.specs.declared.verdicts.Verdicts.{Verdicts}

-- the verdict of one reading
abbrev pub chosen : (weak : Bool) (v : Verdicts) → Bool
chosen true v = v.weak
chosen false v = v.strong
