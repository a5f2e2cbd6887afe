-- Laws of where the next line of a text ends, and of how it is refused for that.
use mathlib.Core.Path.{◌≡◌, ap, sym, ◌∙◌}
use mathlib.Core.Bool.{Bool, true, false}
use mathlib.Core.List.{List}
use Prim.Native.Nat.{ℕ, suc, ◌+◌, ◌-◌, ◌<◌, ◌≤◌}
use native.Mathlib.Omega.{arith}
use lib.ListN.{length, take, drop, get_or, drop_of_length-le}
use lib.Seq.{length-take-le}
use borrow.Author.Rules.{rules}
use borrow.Author.Tests.{le-ltb, ltb-true, ltb-false}
use lib.Dec.{eqb, ltb}
use Rattle.definitions.specs.Limits.{accepted}
use Rattle.definitions.specs.Bounded.{pick}
use Rattle.definitions.specs.Lines.{newline, carriage_return, before, is_empty, line_length, line_of, is_closed, Parsed, NextLine, refused, next_line}
use Rattle.theorems.proofs.Choice.{by_test, pick_must, pick_other}
use Rattle.theorems.proofs.EndingLaws.{length_within, length_empty, length_open, length_returned, length_other}
use Rattle.lines.specs.Reading.{Ending, FirstLine, end_refusal}
use Rattle.lines.specs.Parts.{Located}
use Rattle.lines.proofs.ScanLaws.{before_le}
use Rattle.rules.specs.Refusals.{number_of}
use Rattle.rules.specs.declared.refusal.Refusal.{Refusal}
use Rattle.rules.proofs.RefusalLaws.{number_some}

-- ---- the first line, by the byte before its byte 10
pub length_le : (t : List ℕ) → line_length t ≤ length t
length_le t = omega (arith, length_within t, before_le newline t)

-- shorter than the text, the line is closed
pub short_closed : (t : List ℕ) → line_length t < length t → is_closed t ≡ true
short_closed t h = by_test (is_closed t) (λ c. c) (λ c. let l = ltb-false (before newline t) (length t) c in absurd (omega (arith, length_open t l)))

-- as long as the text, it is not
pub whole_open : (t : List ℕ) → length t ≤ line_length t → is_closed t ≡ false
whole_open t h = le-ltb (before newline t) (length t) (omega (arith, length_within t))

shorter_closed : (t : List ℕ) → ltb (line_length t) (length t) ≡ is_closed t
shorter_closed t = by_test (ltb (line_length t) (length t)) (λ e. rw (e, short_closed t (ltb-true _ _ e))) (λ e. rw (e, whole_open t (ltb-false _ _ e)))

-- ---- `before_ending`
module _ (t : List ℕ) (end : ℕ) (is : Ending t end) where
  -- `before_ending`, nothing before the newline: `line_length` is 0
  pub ending_none : end ≡ 0 → end ≡ line_length t
  ending_none e = e ∙ sym (length_empty t (sym is.stands ∙ e))

  module _ (n : end ≡ 0 → ⊥) where
    one_before : before newline t ≡ suc (end - 1)
    one_before = omega (arith, is.stands)

    -- `before_ending`, a carriage return before the newline: `line_length` is without it
    pub ending_return : get_or t (end - 1) 0 ≡ carriage_return → end - 1 ≡ line_length t
    ending_return e = sym (length_returned (end - 1) t one_before (omega (arith, is.inside)) e)

    -- `before_ending`, another byte before the newline: `line_length` is all before the newline
    pub ending_newline : (get_or t (end - 1) 0 ≡ carriage_return → ⊥) → end ≡ line_length t
    ending_newline e = is.stands ∙ (one_before ∙ sym (length_other (end - 1) t one_before e))

pub ruleset ending_laws = (rules, ending_none, ending_return, ending_newline)

-- ---- `first_line`
module _ (t : List ℕ) (end : ℕ) (is : Located newline t end) where
  -- `first_line`, no newline: the line is all of the text (`FirstLine`)
  pub line_open : length t ≤ end → FirstLine t (record { len = end; next = end })
  line_open e = record {
    length_is = is.place ∙ sym (length_open t (omega (arith, is.place)));
    within = is.within;
    inside = is.within;
    rest = drop_of_length-le t {i = end} (omega arith) ∙ sym (drop_of_length-le t {i = before newline t + 1} (omega (arith, is.place)));
  }

  module _ (h : end < length t) where
    -- `first_line`, a newline: `line_length` bytes, and the rest after the newline (`FirstLine`)
    pub line_closed : (len : ℕ) → len ≡ line_length t → FirstLine t (record { len = len; next = end + 1 })
    line_closed len e = record {
      length_is = e;
      within = omega (arith, length_le t);
      inside = omega arith;
      rest = ap (λ (k : ℕ). drop (k + 1) t) is.place;
    }

pub ruleset line_laws = (rules, line_open, line_closed)

-- ---- a caller's `&t[..len]`
module _ (t : List ℕ) (len : ℕ) (is : len ≡ line_length t) where
  pub line_within : len ≤ length t
  line_within = omega (arith, length_le t)

  pub line_counts : len ≡ length (take len t)
  line_counts = sym (length-take-le len t line_within)

  pub line_part : take len t ≡ line_of t
  line_part = rw is

pub ruleset line_part_laws = (rules, line_within, line_counts)

-- ---- `check_end`
module _ (missing unclosed : ℕ) (t : List ℕ) where
  -- `check_end`, no text: `end_refusal` is the number of a missing line
  pub end_missing : eqb (length t) 0 ≡ true → missing ≡ end_refusal missing unclosed t
  unfolding end_refusal pick
  end_missing e = rw e

  -- `check_end`, there is text: `end_refusal` is the number of an unclosed line where the line is not shorter than the text
  pub end_some : (len n : ℕ) → eqb (length t) 0 ≡ false → len ≡ line_length t → n ≡ pick (ltb len (length t)) accepted unclosed → n ≡ end_refusal missing unclosed t
  unfolding end_refusal pick
  end_some len n s is e =
      let closed : ltb len (length t) ≡ is_closed t = rw is (shorter_closed t) in
      rw s (rw closed at e)

pub ruleset end_laws = (rules, end_missing, end_some)

-- ---- what a caller has of an answer
unread : {A : Type 0} (none closed : Bool) (missing unclosed : ℕ) (e : Refusal) (other : NextLine A) → number_of e ≡ pick none missing (pick closed accepted unclosed)
    → pick none (refused missing) (pick closed other (refused unclosed)) ≡ refused (number_of e)
unfolding pick
unread true closed missing unclosed e other is = rw is
unread false true missing unclosed e other is = absurd (number_some e is)
unread false false missing unclosed e other is = rw is

module _ (missing unclosed : ℕ) (t : List ℕ) where
  -- the line is refused for how it ends
  pub next_unread : {A : Type 0} (form : List ℕ → Parsed A) (check : A → ℕ) (e : Refusal) → number_of e ≡ end_refusal missing unclosed t → next_line missing unclosed form check t ≡ refused (number_of e)
  unfolding next_line end_refusal
  next_unread form check e is = unread (is_empty t) (is_closed t) missing unclosed e _ is

  -- the line is there
  pub end_fine : 0 < missing → 0 < unclosed → accepted ≡ end_refusal missing unclosed t → is_closed t ≡ true
  unfolding end_refusal
  end_fine h k z =
      let p = pick_other 0 (is_empty t) missing (pick (is_closed t) accepted unclosed) (sym z) (λ q. omega arith) in
      (pick_must 0 (is_closed t) accepted unclosed p.1 (λ q. omega arith)).0
