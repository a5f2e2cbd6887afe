-- Laws of what the first line asks for: one for each return, and how long the parts of the input are.
use mathlib.Core.Path.{◌≡◌, sym, ◌∙◌}
use mathlib.Core.Bool.{Bool, true, false}
use mathlib.Core.List.{List}
use Prim.Native.Nat.{ℕ, ◌-◌}
use native.Mathlib.Omega.{arith}
use lib.ListN.{length, take, drop}
use borrow.Author.Rules.{rules}
use Rattle.std.specs.Prelude.{Ok, Err}
use Rattle.definitions.specs.Bounded.{pick}
use Rattle.definitions.specs.Lines.{is_closed, rest_of, same}
use Rattle.definitions.specs.Why.{reading_word, asks}
use Rattle.lines.specs.Reading.{FirstLine}
use Rattle.lines.specs.declared.Line.{Line}
use Rattle.lines.proofs.NextLaws.{short_closed, whole_open}
use Rattle.lines.proofs.PartLaws.{part_to_end}
use Rattle.program_input.specs.Asking.{asked_in}

module _ (input : List ℕ) (l : Line) (is : FirstLine input l) where
  -- `asked_by`, an unclosed line: `asked_in` is nothing
  pub asked_open : l.len ≡ length input → Err (take l.len input) ≡ asked_in input
  unfolding asked_in pick
  asked_open e = rw (whole_open input (omega (arith, is.length_is)), is.length_is)

  module _ (some : l.len ≡ length input → ⊥) where
    closed : is_closed input ≡ true
    closed = short_closed input (omega (arith, is.length_is, is.within))

    texts_are : take (length input - l.next) (drop l.next input) ≡ rest_of input
    texts_are = part_to_end input l.next ∙ is.rest

    asks_is : (weak b : Bool) → b ≡ same (take l.len input) (reading_word weak) → asks weak input ≡ b
    asks_is weak b e = rw (closed, ← is.length_is) (sym e)

    module _ (weakly : Bool) (w : weakly ≡ same (take l.len input) (reading_word true)) where
      -- `asked_by`, the line `weak`: `asked_in` is the weak reading of the rest
      pub asked_weak : weakly ≡ true → Ok (true, take (length input - l.next) (drop l.next input)) ≡ asked_in input
      unfolding asked_in pick
      asked_weak e = rw (asks_is true weakly w, e, texts_are)

      module _ (strongly : Bool) (s : strongly ≡ same (take l.len input) (reading_word false)) (n : weakly ≡ false) where
        -- `asked_by`, the line `strong`: `asked_in` is the strong reading of the rest
        pub asked_strong : strongly ≡ true → Ok (false, take (length input - l.next) (drop l.next input)) ≡ asked_in input
        unfolding asked_in pick
        asked_strong e = rw (asks_is true weakly w, n, asks_is false strongly s, e, texts_are)

        -- `asked_by`, another line: `asked_in` is nothing
        pub asked_nothing : strongly ≡ false → Err (take l.len input) ≡ asked_in input
        unfolding asked_in pick
        asked_nothing e = rw (asks_is true weakly w, n, asks_is false strongly s, e, is.length_is)

pub ruleset asked_laws = (rules, asked_open, asked_weak, asked_strong, asked_nothing)
