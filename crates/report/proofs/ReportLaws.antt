-- Laws of what is printed: one for each call that wants room, and for each return.
use mathlib.Core.Path.{◌≡◌, refl, sym, ap}
use mathlib.Core.List.{List, [], ◌∷◌, ◌++◌, append_assoc}
use Prim.Native.Nat.{ℕ, ◌+◌, ◌-◌, ◌<◌, ◌≤◌}
use native.Mathlib.Omega.{arith}
use lib.ListN.{length, take, drop, length-append, length-take, length-drop}
use borrow.Author.Rules.{rules}
use Rattle.definitions.specs.Limits.{max_input_bytes}
use Rattle.definitions.specs.Lines.{tab, newline, digits, line_of}
use Rattle.definitions.specs.Program.{refused_word, local_word, own_word, plain_word, short_word, local_text, refused_text}
use Rattle.lines.specs.Reading.{FirstLine}
use Rattle.lines.specs.declared.Line.{Line}
use Rattle.lines.proofs.PartLaws.{part_to_end}
use Rattle.printing.specs.Printing.{Printed, counted_line}
use Rattle.printing.proofs.PrintLaws.{digits_fit}
use Rattle.printing.proofs.LineLaws.{first_room_lem, rest_room, both}
use Rattle.rules.specs.Refusals.{number_of}
use Rattle.rules.specs.declared.refusal.Refusal.{Refusal}
use Rattle.rules.specs.declared.refusal.Refusal.TheVariants.{RuleForm, RuleLimits, RuleOperand, RuleLines, RecordingForm, RecordingLimits, MasksMeet, RecordingLines}
use Rattle.rules.specs.declared.refusal.Refusal.TheVariants.{OutputRule, NoController, LentShort, InputLong, LineForm, BracketsDeep, SessionFull, SessionEmpty, SecondGauge, GaugeBitSet}
use Rattle.judges.specs.declared.verdicts.Verdicts.{Verdicts}
use Rattle.rewritten_judge.specs.declared.Rewritten.{Rewritten}
use Rattle.report.specs.Reporting.{max_output_bytes, verdicts_end, own_line, rewritten_line, report_text, LineRoom}
use Rattle.report.specs.declared.Report.{Report}

-- ---- `put_own`
module _ (v : Verdicts) (o : List ℕ) (at : ℕ) (room : at + length (own_line v) ≤ length o) where
  own_parts : at + length (own_word ++ verdicts_end v) ≤ length o
  unfolding own_line
  own_parts = room

  pub own_word_lem : at + 3 ≤ length o
  own_word_lem = first_room_lem own_word (verdicts_end v) o at own_parts

  module _ (end : List ℕ) (ended : end ≡ verdicts_end v) (o' : List ℕ) (p : ℕ) (word : Printed own_word o at p o') where
    pub own_end : length o' ≡ length o → p + length end ≤ length o'
    own_end kept = rw ended (rest_room own_word (verdicts_end v) o at own_parts o' p word kept)

    -- `put_own`: the word and the ending are `own_line`
    pub own_written : (o'' : List ℕ) (q : ℕ) → Printed end o' p q o'' → Printed (own_line v) o at q o''
    unfolding own_line
    own_written o'' q last = both own_word (verdicts_end v) o at own_parts o' p word o'' q (rw ended at last)

pub ruleset own_laws = (rules, own_word_lem, own_end, own_written)

-- ---- `put_rewritten`
module _ (word : List ℕ) (r : Rewritten) (end : List ℕ) (ended : end ≡ verdicts_end r.verdicts) (o : List ℕ) (at : ℕ) where
  pub rewritten_room : at + length (rewritten_line word r) ≤ length o → at + length (counted_line word r.count end) ≤ length o
  unfolding rewritten_line
  rewritten_room room = rw ended room

  -- `put_rewritten`: the word, the count and the ending are `rewritten_line`
  pub rewritten_written : (o' : List ℕ) (q : ℕ) → Printed (counted_line word r.count end) o at q o' → Printed (rewritten_line word r) o at q o'
  unfolding rewritten_line
  rewritten_written o' q p = rw ended at p

pub ruleset rewritten_laws = (rules, rewritten_room, rewritten_written)

-- ---- `put_report`
module _ (v : Report) (o : List ℕ) (room : length (report_text v) ≤ length o) where
  abbrev lines : List ℕ
  lines = rewritten_line plain_word v.plain ++ rewritten_line short_word v.short

  local_is : local_text v.places ≡ counted_line local_word v.places (newline ∷ [])
  unfolding local_text counted_line
  local_is = refl

  report_parts : 0 + length (counted_line local_word v.places (newline ∷ []) ++ (own_line v.own ++ lines)) ≤ length o
  unfolding report_text
  report_parts = let h : length (counted_line local_word v.places (newline ∷ []) ++ (own_line v.own ++ lines)) ≤ length o = rw local_is at room in omega arith

  pub report_local : 0 + length (counted_line local_word v.places (newline ∷ [])) ≤ length o
  report_local = first_room_lem (counted_line local_word v.places (newline ∷ [])) (own_line v.own ++ lines) o 0 report_parts

  module _ (o₁ : List ℕ) (p : ℕ) (one : Printed (counted_line local_word v.places (newline ∷ [])) o 0 p o₁) (kept₁ : length o₁ ≡ length o) where
    report_left : p + length (own_line v.own ++ lines) ≤ length o₁
    report_left = rest_room (counted_line local_word v.places (newline ∷ [])) (own_line v.own ++ lines) o 0 report_parts o₁ p one kept₁

    pub report_own : p + length (own_line v.own) ≤ length o₁
    report_own = first_room_lem (own_line v.own) lines o₁ p report_left

    module _ (o₂ : List ℕ) (q : ℕ) (two : Printed (own_line v.own) o₁ p q o₂) (kept₂ : length o₂ ≡ length o₁) where
      report_last : q + length lines ≤ length o₂
      report_last = rest_room (own_line v.own) lines o₁ p report_left o₂ q two kept₂

      pub report_plain : q + length (rewritten_line plain_word v.plain) ≤ length o₂
      report_plain = first_room_lem (rewritten_line plain_word v.plain) (rewritten_line short_word v.short) o₂ q report_last

      module _ (o₃ : List ℕ) (r : ℕ) (three : Printed (rewritten_line plain_word v.plain) o₂ q r o₃) where
        pub report_short : length o₃ ≡ length o₂ → r + length (rewritten_line short_word v.short) ≤ length o₃
        report_short kept₃ = rest_room (rewritten_line plain_word v.plain) (rewritten_line short_word v.short) o₂ q report_last o₃ r three kept₃

        -- `put_report`: the four lines are `report_text`
        pub report_written : (o₄ : List ℕ) (e : ℕ) → Printed (rewritten_line short_word v.short) o₃ r e o₄ → Printed (report_text v) o 0 e o₄
        unfolding report_text
        report_written o₄ e four =
            rw local_is (both (counted_line local_word v.places (newline ∷ [])) (own_line v.own ++ lines) o 0 report_parts o₁ p one o₄ e
            (both (own_line v.own) lines o₁ p report_left o₂ q two o₄ e
            (both (rewritten_line plain_word v.plain) (rewritten_line short_word v.short) o₂ q report_last o₃ r three o₄ e four)))

pub ruleset report_laws = (rules, report_local, report_own, report_plain, report_short, report_written)

-- ---- `put_refused`
module _ (m n : ℕ) (number : n ≡ m) (line o : List ℕ) (room : length (refused_text m line) ≤ length o) where
  refused_is : refused_text m line ≡ counted_line refused_word n (tab ∷ []) ++ (line ++ (newline ∷ []))
  unfolding refused_text counted_line
  refused_is = rw (← number) (ap (λ (l : List ℕ). refused_word ++ (tab ∷ l)) (sym (append_assoc (digits n) (tab ∷ []) (line ++ (newline ∷ [])))))

  refused_parts : 0 + length (counted_line refused_word n (tab ∷ []) ++ (line ++ (newline ∷ []))) ≤ length o
  refused_parts = let h : length (counted_line refused_word n (tab ∷ []) ++ (line ++ (newline ∷ []))) ≤ length o = rw refused_is at room in omega arith

  pub refused_number : 0 + length (counted_line refused_word n (tab ∷ [])) ≤ length o
  refused_number = first_room_lem (counted_line refused_word n (tab ∷ [])) (line ++ (newline ∷ [])) o 0 refused_parts

  module _ (o₁ : List ℕ) (p : ℕ) (one : Printed (counted_line refused_word n (tab ∷ [])) o 0 p o₁) (kept₁ : length o₁ ≡ length o) where
    refused_left : p + length (line ++ (newline ∷ [])) ≤ length o₁
    refused_left = rest_room (counted_line refused_word n (tab ∷ [])) (line ++ (newline ∷ [])) o 0 refused_parts o₁ p one kept₁

    pub refused_line_lem : p + length line ≤ length o₁
    refused_line_lem = first_room_lem line (newline ∷ []) o₁ p refused_left

    module _ (o₂ : List ℕ) (q : ℕ) (two : Printed line o₁ p q o₂) where
      pub refused_end : length o₂ ≡ length o₁ → q < length o₂
      refused_end kept₂ = omega (arith, rest_room line (newline ∷ []) o₁ p refused_left o₂ q two kept₂)

      -- `put_refused`: the number, the line and the end of line are `refused_text`
      pub refused_written : (o₃ : List ℕ) (e : ℕ) → Printed (newline ∷ []) o₂ q e o₃ → Printed (refused_text m line) o 0 e o₃
      refused_written o₃ e three =
          rw refused_is (both (counted_line refused_word n (tab ∷ [])) (line ++ (newline ∷ [])) o 0 refused_parts o₁ p one o₃ e
          (both line (newline ∷ []) o₁ p refused_left o₂ q two o₃ e three))

pub ruleset refused_laws = (rules, refused_number, refused_line_lem, refused_end, refused_written)

-- ---- how long a refusal is
pub number_few : (e : Refusal) → number_of e < 100
number_few RuleForm = omega arith
number_few RuleLimits = omega arith
number_few RuleOperand = omega arith
number_few RuleLines = omega arith
number_few RecordingForm = omega arith
number_few RecordingLimits = omega arith
number_few MasksMeet = omega arith
number_few RecordingLines = omega arith
number_few OutputRule = omega arith
number_few NoController = omega arith
number_few LentShort = omega arith
number_few InputLong = omega arith
number_few LineForm = omega arith
number_few BracketsDeep = omega arith
number_few SessionFull = omega arith
number_few SessionEmpty = omega arith
number_few SecondGauge = omega arith
number_few GaugeBitSet = omega arith

pub refused_length : (e : Refusal) (line : List ℕ) → length line ≤ max_input_bytes → length (refused_text (number_of e) line) ≤ max_output_bytes
unfolding refused_text
refused_length e line l =
    let n = number_of e in
    omega (
      arith,
      length-append refused_word (tab ∷ (digits n ++ (tab ∷ (line ++ (newline ∷ []))))),
      length-append (digits n) (tab ∷ (line ++ (newline ∷ []))),
      length-append line (newline ∷ []),
      digits_fit 1 n (number_few e),
    )

-- ---- `put_stopped`
module _ (text : List ℕ) (at : ℕ) (output : List ℕ) (room : LineRoom text at output) (l : Line) (first : FirstLine (take (length text - at) (drop at text)) l) where
  abbrev rest : List ℕ
  rest = take (length text - at) (drop at text)

  line_is : take l.len rest ≡ line_of (drop at text)
  line_is = let p = part_to_end text at in rw (first.length_is, p)

  pub stopped_room : (e : Refusal) → length (refused_text (number_of e) (take l.len rest)) ≤ length output
  stopped_room e = omega (arith, room.room, refused_length e (take l.len rest) (omega (arith, length-take l.len rest, length-take (length text - at) (drop at text), length-drop at text, room.fits)))

  -- `put_stopped`: what is printed is the refusal of the line that begins there
  pub stopped_written : (e : Refusal) (r : ℕ) (output' : List ℕ) → Printed (refused_text (number_of e) (take l.len rest)) output 0 r output' →
      Printed (refused_text (number_of e) (line_of (drop at text))) output 0 r output'
  stopped_written e r output' p = rw (← line_is) p

pub ruleset stopped_laws = (rules, stopped_room, stopped_written)
