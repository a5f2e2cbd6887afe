-- Verdicts that may be announced early, for those who read what the program prints: of a recording text that is cut after state K, with N lowered, and
-- of the whole text.
use mathlib.Core.Path.{◌≡◌, refl, sym, ap, ◌∙◌}
use Prim.Native.Nat.{ℕ, ◌≤◌}
use native.Mathlib.Omega.{arith}
use mathlib.Core.Bool.{Bool, true, false}
use mathlib.Core.List.{List, ◌∷◌, ◌++◌, [], append_assoc}
use lib.Dec.{eqb}
use lib.ListN.{length, take, get_or}
use lib.Seq.{take_at}
use borrow.Author.Tests.{eq-eqb, lt-ltb, le-ltb}
use Rattle.definitions.specs.Limits.{max_input_bytes}
use Rattle.definitions.specs.Bounded.{pick}
use Rattle.definitions.specs.Tables.{Rule, rule_of, nodes_in}
use Rattle.definitions.specs.Recordings.{Recording, mask_of, controller_refusal}
use Rattle.definitions.specs.Projection.{local_trace}
use Rattle.definitions.specs.Readings.{whole, Verdicts}
use Rattle.definitions.specs.Rewriting.{rewriting}
use Rattle.definitions.specs.Early.{announced}
use Rattle.definitions.specs.Lines.{tab, newline, rest_of, digits}
use Rattle.definitions.specs.RuleText.{scan_rule}
use Rattle.definitions.specs.RecordingText.{scan_recording, joint_number}
use Rattle.definitions.specs.Program.{rule_text_in, recording_text_in, local_word, own_word, plain_word, short_word, verdicts_text, local_text, own_text, rewritten_text, judged_text, scanned, texts_output, program_output}
use Rattle.theorems.proofs.SplitLaws.{Without, without_cons, split_rest}
use Rattle.theorems.proofs.DecimalLaws.{digits_without}
use Rattle.theorems.proofs.RoundTrips.{read_accepted}
use Rattle.theorems.proofs.ScheduleIndependence.{Accepted}
use Rattle.theorems.proofs.Beginnings.{Beginning}
use Rattle.theorems.proofs.TextBeginnings.{TextBeginning, text_beginning_accepted, text_beginning}
use Rattle.theorems.proofs.EarlyRecordings.{begins_for_lem, beginning_begins}
use Rattle.theorems.proofs.EarlyJudged.{verdicts_on, announced_same}
use Rattle.rewritten_judge.proofs.RewrittenLaws.{verdicts_agree}
use Rattle.printing.specs.Printing.{OutputIs}
use Rattle.report.proofs.RecordingAccepted.{texts_accepted, recording_fine}

-- a line of a rewriting: its word, its node count, the verdicts
abbrev pub counted_line : (word : List ℕ) (count : ℕ) (v : Verdicts) → List ℕ
counted_line word count v = word ++ (tab ∷ (digits count ++ (tab ∷ verdicts_text v)))

-- the lines `own`, `plain` and `short`, with the same verdicts
abbrev pub verdict_lines : (plain short : ℕ) (v : Verdicts) → List ℕ
verdict_lines plain short v = (own_word ++ (tab ∷ verdicts_text v)) ++ (counted_line plain_word plain v ++ counted_line short_word short v)

-- an answer: the line `local` with its places, and these
abbrev pub answer_lines : (places plain short : ℕ) (v : Verdicts) → List ℕ
answer_lines places plain short v = local_text places ++ verdict_lines plain short v

-- ---- an answer shows its verdicts
-- the verdicts that the line `own` shows: `yes` and `no` differ in their first bytes
abbrev is_yes : ℕ → Bool
is_yes byte = eqb byte 121

abbrev shown : List ℕ → Verdicts
shown l = record { weak = is_yes (get_or l 4 0); strong = is_yes (get_or l (pick (is_yes (get_or l 4 0)) 8 7) 0) }

shown_are : (plain short : ℕ) (weak strong : Bool) → shown (verdict_lines plain short (record { weak = weak; strong = strong })) ≡ record { weak = weak; strong = strong }
unfolding pick
shown_are plain short true true = refl
shown_are plain short true false = refl
shown_are plain short false true = refl
shown_are plain short false false = refl

places_without : (n : ℕ) → Without newline (local_word ++ (tab ∷ digits n))
places_without n =
    without_cons newline 108 _ (λ q. omega arith) (without_cons newline 111 _ (λ q. omega arith) (without_cons newline 99 _ (λ q. omega arith)
    (without_cons newline 97 _ (λ q. omega arith) (without_cons newline 108 _ (λ q. omega arith) (without_cons newline tab _ (λ q. omega arith)
    (digits_without newline n (omega arith)))))))

-- the text after the first line
after_first : (n : ℕ) (more : List ℕ) → rest_of (local_text n ++ more) ≡ more
unfolding local_text
after_first n more =
    let e : local_text n ++ more ≡ (local_word ++ (tab ∷ digits n)) ++ (newline ∷ more)
    = ap (λ (l : List ℕ). local_word ++ (tab ∷ l)) (append_assoc (digits n) (newline ∷ []) more) in
    ap rest_of e ∙ split_rest newline more (local_word ++ (tab ∷ digits n)) (places_without n)

-- ---- what is printed of two accepted texts
abbrev pub rule_of_text : List ℕ → Rule
rule_of_text rule = rule_of (scan_rule rule).controller (scan_rule rule).count (scan_rule rule).words

abbrev pub recording_of_text : List ℕ → Recording
recording_of_text t = scanned (scan_recording t)

-- the node count of a rewriting of the rule for an own mask
abbrev pub count_of : (short : Bool) (rule : List ℕ) (mask : ℕ) → ℕ
count_of short rule mask = length (rewriting short mask (nodes_in (scan_rule rule).count (scan_rule rule).words)).nodes

module _ (rule t : List ℕ) (e : joint_number rule t ≡ 0) where
  tables_accepted : Accepted (rule_of_text rule) (recording_of_text t)
  tables_accepted = let a = texts_accepted rule t e in record {
    rule = read_accepted rule a.rule_read;
    recording = recording_fine t a.recording_read;
    controller = a.controller;
  }

  abbrev pub mask : ℕ
  mask = mask_of (recording_of_text t) (scan_rule rule).controller

  abbrev pub places : ℕ
  places = length (local_trace (recording_of_text t) (scan_rule rule).controller)

  line_is : (short : Bool) (word : List ℕ) →
      rewritten_text word (whole (recording_of_text t) (scan_rule rule).controller) (rewriting short mask (nodes_in (scan_rule rule).count (scan_rule rule).words))
      ≡ counted_line word (count_of short rule mask) (verdicts_on (rule_of_text rule) (recording_of_text t))
  unfolding rewritten_text
  line_is short word = ap (counted_line word (count_of short rule mask)) (verdicts_agree short (rule_of_text rule) (recording_of_text t) tables_accepted)

  pub prints : texts_output rule t ≡ answer_lines places (count_of false rule mask) (count_of true rule mask) (verdicts_on (rule_of_text rule) (recording_of_text t))
  unfolding texts_output judged_text own_text pick
  prints = rw (eq-eqb (joint_number rule t) 0 e, line_is false plain_word, line_is true short_word)

-- ---- the text that is cut after state K
module _ (rule s t : List ℕ) (K : ℕ) (e : joint_number rule t ≡ 0) (b : TextBeginning s t K) where
  cut_reads : Beginning (recording_of_text s) (recording_of_text t)
  cut_reads = text_beginning s t K b (texts_accepted rule t e).recording_read

  cut_accepted : joint_number rule s ≡ 0
  unfolding joint_number controller_refusal pick
  cut_accepted = let a = texts_accepted rule t e in
      rw (
        eq-eqb (scan_rule rule).number 0 a.rule_read,
        eq-eqb (scan_recording s).number 0 (text_beginning_accepted s t K b a.recording_read),
        lt-ltb (scan_rule rule).controller (scan_recording s).controllers (omega (arith, a.controller, cut_reads.controllers)),
      )

  -- whatever it prints of the text so far, if these verdicts may be announced, of the whole text it prints the same lines after `local`
  pub announced_lines_stay : (places plain short : ℕ) (v : Verdicts) → texts_output rule s ≡ answer_lines places plain short v → announced v ≡ true →
      (places' : ℕ) × (texts_output rule t ≡ answer_lines places' plain short v)
  announced_lines_stay n plain short v is may =
      let r : Rule = rule_of_text rule in
      let S : Recording = recording_of_text s in
      let T : Recording = recording_of_text t in
      let begun = beginning_begins S T cut_reads r.controller in
      let lines_of : ℕ → Verdicts → List ℕ = λ m w. verdict_lines (count_of false rule m) (count_of true rule m) w in
      let lines : verdict_lines plain short v ≡ lines_of (mask rule s cut_accepted) (verdicts_on r S)
      = sym (after_first n (verdict_lines plain short v)) ∙ (ap rest_of (sym is ∙ prints rule s cut_accepted) ∙ after_first (places rule s cut_accepted) (lines_of (mask rule s cut_accepted) (verdicts_on r S))) in
      let same : v ≡ verdicts_on r S
      = sym (shown_are plain short v.weak v.strong) ∙ (ap shown lines ∙ shown_are (count_of false rule (mask rule s cut_accepted)) (count_of true rule (mask rule s cut_accepted)) (verdicts_on r S).weak (verdicts_on r S).strong) in
      let stays : verdicts_on r T ≡ verdicts_on r S
      = announced_same r S T (tables_accepted rule s cut_accepted) (tables_accepted rule t e) begun (sym (ap announced same) ∙ may) in
      let whole : lines_of (mask rule t e) (verdicts_on r T) ≡ verdict_lines plain short v
      = ap (λ (m : ℕ). lines_of m (verdicts_on r T)) (sym (begins_for_lem r.controller S T begun).mask) ∙ (ap (lines_of (mask rule s cut_accepted)) stays ∙ sym lines) in
      (places rule t e, prints rule t e ∙ ap (λ (l : List ℕ). local_text (places rule t e) ++ l) whole)

-- ---- the program, by its contract
-- a run of it: what it printed are the bytes of the output that it counts
pub record Printed (input printed : List ℕ) : Type 0 where
  pub output : List ℕ
  pub output' : List ℕ
  pub count : ℕ
  pub promised : OutputIs (program_output input) output count output'
  pub bytes : printed ≡ take count output'

module _ (input printed : List ℕ) (short : length input ≤ max_input_bytes) (p : Printed input printed) where
  pub printed_is : printed ≡ texts_output (rule_text_in input) (recording_text_in input)
  unfolding program_output pick
  printed_is =
      p.bytes ∙ (ap (take p.count) p.promised.lies ∙ (take_at (program_output input) _ p.count (sym p.promised.count) ∙ rw (le-ltb max_input_bytes (length input) short)))

-- Take two runs of the program with one rule text: on a recording text that is cut after state K, with N lowered, and on the whole text, which is
-- accepted with that rule. If the first prints verdicts that may be announced, the second prints the same verdicts: all its lines but `local` are the
-- same.
pub printed_verdicts_stay : (input input' : List ℕ) (K : ℕ) → length input ≤ max_input_bytes → length input' ≤ max_input_bytes → rule_text_in input ≡ rule_text_in input' →
    joint_number (rule_text_in input') (recording_text_in input') ≡ 0 → TextBeginning (recording_text_in input) (recording_text_in input') K →
    (printed printed' : List ℕ) → Printed input printed → Printed input' printed' →
    (places plain short : ℕ) (v : Verdicts) → printed ≡ answer_lines places plain short v → announced v ≡ true →
    (places' : ℕ) × (printed' ≡ answer_lines places' plain short v)
printed_verdicts_stay input input' K few few' rule e b printed printed' p p' places plain short v is may =
    let of : texts_output (rule_text_in input') (recording_text_in input) ≡ answer_lines places plain short v
    = ap (λ (l : List ℕ). texts_output l (recording_text_in input)) (sym rule) ∙ (sym (printed_is input printed few p) ∙ is) in
    let (places', q) = announced_lines_stay (rule_text_in input') (recording_text_in input) (recording_text_in input') K e b places plain short v of may in
    (places', printed_is input' printed' few' p' ∙ q)
