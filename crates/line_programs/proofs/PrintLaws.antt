-- Laws of the only line of an input, and of what is printed: one for each call that wants room, and for each return.
use mathlib.Core.Path.{◌≡◌, sym, ap, ◌∙◌}
use Prim.Native.Nat.{ℕ, ◌+◌, ◌-◌, ◌^◌, ◌<◌, ◌≤◌}
use native.Mathlib.Omega.{arith}
use mathlib.Core.Bool.{◌&&◌}
use mathlib.Core.List.{List, [], ◌∷◌, ◌++◌, append-nil}
use lib.ListN.{length, take, drop, get_or, replicate, length-append, length-drop, length-replicate, drop_of_length-le}
use lib.Seq.{take_at}
use lib.Dec.{eqb, ltb, leb}
use denote.Ref.{Bor}
use borrow.Author.Rules.{rules}
use borrow.Author.Tests.{ne_eqb, eqb-true, eqb-false, le-ltb, lt-ltb, ltb-true, ltb-false, leb-true, leb-false, eq-eqb}
use Rattle.std.specs.Prelude.{Result, Ok, Err}
use Rattle.std.specs.Result.{IsErrAnd}
use Rattle.definitions.specs.Limits.{accepted, max_rule_bytes, max_input_bytes, lent_short, rule_form, input_long}
use Rattle.definitions.specs.Tables.{Rule, rule_refusal}
use Rattle.definitions.specs.Operations.{Answer, answer, too_short, text_of, write_rule_number, write_rule_answer, write_rule_text}
use Rattle.definitions.specs.Bounded.{pick}
use Rattle.definitions.specs.Lines.{tab, newline, is_empty, line_of, is_closed, rest_of, digits}
use Rattle.definitions.specs.Program.{refused_word}
use Rattle.definitions.specs.LinePrograms.{input_refusal, refusal_text, refusal_or}
use Rattle.theorems.proofs.Choice.{by_test, accept_yes, pick_false}
use Rattle.theorems.proofs.LentSpace.{left_accepted}
use Rattle.theorems.proofs.RoundTrips.{text_fits}
use Rattle.lent.specs.Space.{filled, cleared}
use Rattle.printing.specs.Printing.{laid_at, Printed}
use Rattle.printing.proofs.PrintLaws.{digits_fit, printed_seq}
use Rattle.lines.specs.Reading.{FirstLine}
use Rattle.lines.specs.declared.Line.{Line}
use Rattle.lines.proofs.NextLaws.{short_closed, whole_open}
use Rattle.rules.specs.Refusals.{number_of}
use Rattle.rules.specs.declared.refusal.Refusal.{Refusal}
use Rattle.rules.proofs.RefusalLaws.{number_some}
use Rattle.rule_writer.specs.Writing.{WroteRule, write_answer}
use Rattle.line_programs.specs.Printing.{OnlyLineOf, Prints, Written}

-- ---- `check_only` and `only_line`
module _ (input : List ℕ) (l : Line) (is : FirstLine input l) where
  whole_is : (ltb l.len (length input) && eqb l.next (length input)) ≡ (is_closed input && is_empty (rest_of input))
  whole_is = rw (closed_is, rest_is)
    where
      closed_is : ltb l.len (length input) ≡ is_closed input
      closed_is =
          by_test (ltb l.len (length input))
          (λ e. e ∙ sym (short_closed input (omega (arith, ltb-true l.len (length input) e, is.length_is))))
          (λ e. e ∙ sym (whole_open input (omega (arith, ltb-false l.len (length input) e, is.length_is))))

      rest_is : eqb l.next (length input) ≡ is_empty (rest_of input)
      rest_is =
          let n : length (rest_of input) ≡ length input - l.next = ap length (sym is.rest) ∙ length-drop l.next input in
          by_test (eqb l.next (length input))
          (λ e. e ∙ sym (eq-eqb (length (rest_of input)) 0 (omega (arith, eqb-true l.next (length input) e))))
          (λ e. e ∙ sym (ne_eqb (length (rest_of input)) 0 (λ z. eqb-false l.next (length input) e (omega (arith, is.inside)))))

  -- `check_only`, too long: `input_refusal` is 14
  pub only_long : (e : Refusal) → number_of e ≡ pick (leb (length input) max_input_bytes) accepted input_long → number_of e ≡ input_refusal input
  unfolding input_refusal pick
  only_long e n =
      by_test (leb (length input) max_input_bytes)
      (λ t. absurd (number_some e (rw t at n)))
      (λ f. rw (lt-ltb max_input_bytes (length input) (omega (arith, leb-false (length input) max_input_bytes f))) (rw f at n))

  module _ (short : accepted ≡ pick (leb (length input) max_input_bytes) accepted input_long) where
    fits : length input ≤ max_input_bytes
    fits = leb-true (length input) max_input_bytes (accept_yes (leb (length input) max_input_bytes) input_long (omega arith) (sym short))

    -- `check_only`, not too long: `input_refusal` is 1 where it isn't one line and its end
    pub only_short : (n : ℕ) → n ≡ pick (ltb l.len (length input) && eqb l.next (length input)) accepted rule_form → n ≡ input_refusal input
    unfolding input_refusal pick
    only_short n e = e ∙ rw (le-ltb max_input_bytes (length input) fits, whole_is)

  module _ (line : Bor (List ℕ)) (part : line.now ≡ take l.len input) where
    first_is : line.now ≡ line_of input
    first_is = part ∙ rw is.length_is

    -- `only_line`, its only line: nothing refuses the input
    pub only_whole : accepted ≡ input_refusal input → OnlyLineOf input (Ok line)
    only_whole n = record { number = n; line = first_is }

    -- `only_line`, refused: `input_refusal`, beside the first line
    pub only_denied : (e : Refusal) → number_of e ≡ input_refusal input → OnlyLineOf input (Err (record { refusal = e; line = line }))
    only_denied e n = record { number = n; line = first_is }

pub ruleset only_laws = (rules, only_long, only_short, only_whole, only_denied)

-- ---- `print_refusal`
-- the printed bytes and zeros are all of the output
pub all_printed : (w o : List ℕ) (r : ℕ) → r ≡ length w → length w ≤ max_rule_bytes → o ≡ w ++ replicate (max_rule_bytes - length w) 0 → Prints w r o
all_printed w o r n few e = record {
  count = n;
  whole = e;
  within = rw e (omega (arith, n, length-append w (replicate (max_rule_bytes - length w) 0), length-replicate {A = ℕ} (max_rule_bytes - length w) 0));
}

module _ (n : ℕ) (low : n < 2 ^ 8) (o : List ℕ) (room : length o ≡ max_rule_bytes) where
  number_short : length (digits n) ≤ 3
  number_short = digits_fit 2 n (omega arith)

  module _ (o₁ : List ℕ) (r₁ : ℕ) (word : Printed refused_word o 0 r₁ o₁) (k₁ : length o₁ ≡ length o) where
    pub refusal_field : r₁ + length (tab ∷ digits n) ≤ length o₁
    refusal_field = omega (arith, number_short, word.next)

    module _ (o₂ : List ℕ) (r₂ : ℕ) (field : Printed (tab ∷ digits n) o₁ r₁ r₂ o₂) (k₂ : length o₂ ≡ length o₁) where
      pub refusal_end : r₂ < length o₂
      refusal_end = omega (arith, number_short, word.next, field.next)

      module _ (o₃ : List ℕ) (r₃ : ℕ) (end : Printed (newline ∷ []) o₂ r₂ r₃ o₃) (k₃ : length o₃ ≡ length o₂) where
        refusal_put : Printed (refusal_text n) o 0 r₃ o₃
        unfolding refusal_text
        refusal_put =
            printed_seq refused_word ((tab ∷ digits n) ++ (newline ∷ [])) o o₁ o₃ 0 r₁ r₃ (omega arith) word
            (printed_seq (tab ∷ digits n) (newline ∷ []) o₁ o₂ o₃ r₁ r₂ r₃ refusal_field field end)

        pub refusal_fits : r₃ ≤ max_rule_bytes
        refusal_fits = omega (arith, number_short, word.next, field.next, end.next)

        -- `print_refusal`: the word, the number, the end of line and zeros after it are all of the output
        pub refusal_printed : (m : ℕ) → n ≡ m → (o₄ : List ℕ) → o₄ ≡ cleared o₃ r₃ max_rule_bytes → Prints (refusal_text m) r₃ o₄
        unfolding laid_at filled
        refusal_printed m e o₄ c =
            let w = refusal_text n in
            let l : r₃ ≡ length w = omega (arith, refusal_put.next) in
            let t : take r₃ o₃ ≡ w = rw refusal_put.lies (take_at w (drop (0 + length w) o) r₃ (sym l)) in
            let d : drop max_rule_bytes o₃ ≡ [] = drop_of_length-le o₃ {i = max_rule_bytes} (omega arith) in
            rw (← e) (all_printed w o₄ r₃ l (omega (arith, refusal_fits)) (c ∙ rw (t, d, l) (ap (λ (z : List ℕ). w ++ z) (append-nil (replicate (max_rule_bytes - length w) 0)))))

pub ruleset refusal_laws = (rules, refusal_field, refusal_end, refusal_fits, refusal_printed)

-- ---- what is to be printed
written_refusal : (text o : List ℕ) (e : Refusal) → text ≡ refusal_text (number_of e) → Written text (Err e) o
written_refusal text o e t = record { text = tt; refusal = t }

-- what the exit of a `?` passes on
pub passed_on : (text o : List ℕ) (r : Result ℕ Refusal) (e : Refusal) → IsErrAnd r (λ x. x ≡ e) → text ≡ refusal_text (number_of e) → Written text r o
passed_on text o (Ok end) e h t = elim h [ ]
passed_on text o (Err x) e h t = record { text = tt; refusal = rw h t }

written_same : (text other o : List ℕ) (w : Result ℕ Refusal) → text ≡ other → Written text w o → Written other w o
written_same text other o w e t = rw (← e) t

-- ---- a text that is written unless something is refused
pub or_refused : (n : ℕ) (text : List ℕ) (e : Refusal) → number_of e ≡ n → refusal_or n text ≡ refusal_text (number_of e)
unfolding refusal_or
or_refused n text e h = rw (← h, pick_false (eqb (number_of e) accepted) text (refusal_text (number_of e)) (ne_eqb (number_of e) accepted (number_some e)))

pub or_accepted : (n : ℕ) (text : List ℕ) → accepted ≡ n → refusal_or n text ≡ text
unfolding refusal_or pick
or_accepted n text h = rw (← h)

-- ---- what `write_rule` writes: the text of the rule, or its refusal
abbrev pub written_of : Rule → List ℕ
written_of rule = refusal_or (rule_refusal rule) (text_of rule)

module _ (rule : Rule) (o : List ℕ) (room : length o ≡ max_rule_bytes) (o' : List ℕ) where
  number_is : write_rule_number rule o ≡ rule_refusal rule
  unfolding write_rule_number
  number_is = pick_false (too_short max_rule_bytes o) lent_short (rule_refusal rule) (le-ltb (length o) max_rule_bytes (omega arith))

  answer_is : (w : Result ℕ Refusal) → WroteRule rule o w o' → write_answer w ≡ answer (rule_refusal rule) (length (text_of rule) ∷ [])
  unfolding write_rule_answer
  answer_is w t = rw number_is at t.answered

  pub rule_written : (w : Result ℕ Refusal) → WroteRule rule o w o' → Written (written_of rule) w o'
  unfolding answer pick write_rule_text
  rule_written (Err e) t = written_refusal (written_of rule) o' e (or_refused (rule_refusal rule) (text_of rule) e (ap (λ (a : Answer). a.number) (answer_is (Err e) t)))
  rule_written (Ok end) t = go (ap (λ (a : Answer). a.number) (answer_is (Ok end) t)) (answer_is (Ok end) t)
    where
      go : accepted ≡ rule_refusal rule → write_answer (Ok end) ≡ answer (rule_refusal rule) (length (text_of rule) ∷ []) → Written (written_of rule) (Ok end) o'
      go fine a =
          let x = text_of rule in
          let n : end ≡ length x = ap (λ (a : Answer). get_or a.values 0 0) (rw (← fine) at a) in
          let d : drop max_rule_bytes o ≡ [] = drop_of_length-le o {i = max_rule_bytes} (omega arith) in
          let e : o' ≡ x ++ replicate (max_rule_bytes - length x) 0
          = t.text ∙ rw (number_is, ← fine) (left_accepted max_rule_bytes x o ∙ rw d (ap (λ (l : List ℕ). x ++ l) (append-nil (replicate (max_rule_bytes - length x) 0)))) in
          record { text = rw (or_accepted (rule_refusal rule) x fine) (all_printed x o' end n (text_fits rule (sym fine)) e); refusal = tt }

-- ---- the only line of an input
module _ (input : List ℕ) where
  pub input_whole : (line : Bor (List ℕ)) → OnlyLineOf input (Ok line) → (printed : List ℕ → List ℕ) (w : Result ℕ Refusal) (o : List ℕ) → Written (printed line.now) w o
      → Written (refusal_or (input_refusal input) (printed (line_of input))) w o
  input_whole line is printed w o p =
      written_same (printed line.now) _ o w (sym (or_accepted (input_refusal input) (printed (line_of input)) is.number ∙ ap printed (sym is.line))) p
