-- Laws of the values that are printed.
use mathlib.Core.Path.{◌≡◌, ap, sym, ◌∙◌}
use mathlib.Core.Bool.{Bool, true, false}
use mathlib.Core.List.{List, [], ◌∷◌, ◌++◌}
use Prim.Native.Nat.{ℕ, ◌+◌, ◌≤◌}
use native.Mathlib.Omega.{arith}
use lib.ListN.{length, length-append}
use mir.Syntax.{w32}
use mir.Val.{Fits}
use borrow.Author.Rules.{rules}
use Rattle.definitions.specs.Limits.{max_states, max_table_nodes}
use Rattle.definitions.specs.Nodes.{Node}
use Rattle.definitions.specs.Tables.{Rule, nodes_in}
use Rattle.definitions.specs.Recordings.{Recording, mask_of}
use Rattle.definitions.specs.Projection.{local_trace}
use Rattle.definitions.specs.Readings as readings
use Rattle.definitions.specs.Readings.{whole}
use Rattle.definitions.specs.Lines.{tab, newline, digits}
use Rattle.definitions.specs.Program.{yes_no, local_word, own_word, plain_word, short_word, local_text, verdicts_text, own_text, rewritten_text, judged_text}
use Rattle.theorems.proofs.RewrittenAccepted.{rewritten_size}
use Rattle.theorems.proofs.ScheduleIndependence.{Accepted}
use Rattle.printing.specs.Printing.{counted_line}
use Rattle.printing.proofs.PrintLaws.{digits_fit}
use Rattle.judges.specs.Verdicts.{meant, own_verdicts}
use Rattle.judges.specs.declared.verdicts.Verdicts.{Verdicts}
use Rattle.judges.specs.Local.{verdicts_on, TraceReady, TraceIs, LocalReady}
use Rattle.judges.specs.declared.local.LocalTrace.{LocalTrace}
use Rattle.judges.proofs.LocalLaws.{trace_length, trace_verdicts}
use Rattle.rewritten_judge.specs.Rewritten.{rewritten_for, RewrittenIs}
use Rattle.rewritten_judge.specs.declared.Rewritten.{Rewritten}
use Rattle.rewritten_judge.proofs.RewrittenLaws.{verdicts_agree}
use Rattle.report.specs.Reporting.{max_output_bytes, verdicts_end, own_line, rewritten_line, report_text}
use Rattle.report.specs.declared.Report.{Report}
use Rattle.report.specs.Judged.{ReportIs}

module _ (r : Rule) (R : Recording) (A : Accepted r R) where
  pub tables_traced : TraceReady R r.controller
  tables_traced = record { recording = A.recording; controller = A.controller }

  module _ (l : LocalTrace) (is : TraceIs R r.controller l) where
    pub tables_ready : LocalReady r l
    tables_ready = record { rule = A.rule; few = is.few; there = is.there }

    pub places_fit : Fits w32 l.count
    places_fit = record { fits = omega (arith, is.few) }

-- no line is long
yes_no_length : (v : Bool) → length (yes_no v) ≤ 3
yes_no_length true = omega arith
yes_no_length false = omega arith

digits_few : (n : ℕ) → n ≤ max_table_nodes → length (digits n) ≤ 4
digits_few n h = digits_fit 3 n (omega arith)

end_length : (v : Verdicts) → length (verdicts_end v) ≤ 9
unfolding verdicts_end
end_length v =
    omega (arith, length-append (yes_no v.weak) (tab ∷ (yes_no v.strong ++ (newline ∷ []))), length-append (yes_no v.strong) (newline ∷ []), yes_no_length v.weak, yes_no_length v.strong)

own_length : (v : Verdicts) → length (own_line v) ≤ 12
unfolding own_line
own_length v = omega (arith, length-append own_word (verdicts_end v), end_length v)

local_length_lem : (n : ℕ) → n ≤ max_table_nodes → length (local_text n) ≤ 11
unfolding local_text
local_length_lem n h = omega (arith, length-append local_word (tab ∷ (digits n ++ (newline ∷ []))), length-append (digits n) (newline ∷ []), digits_few n h)

rewritten_length : (word : List ℕ) (r : Rewritten) → r.count ≤ max_table_nodes → length (rewritten_line word r) ≤ length word + 14
unfolding rewritten_line counted_line
rewritten_length word r h =
    omega (arith, length-append word (tab ∷ (digits r.count ++ verdicts_end r.verdicts)), length-append (digits r.count) (verdicts_end r.verdicts), digits_few r.count h, end_length r.verdicts)

module _ (r : Rule) (R : Recording) (A : Accepted r R) (v : Report) where
  abbrev c : ℕ
  c = r.controller

  abbrev ns : List Node
  ns = nodes_in r.count r.nodes

  few : (z : Bool) → length (rewritten_for z r R).nodes ≤ max_table_nodes
  few z = rewritten_size z r (mask_of R c) A.rule

  module _ (L : v.places ≡ length (local_trace R c)) (short_trace : v.places ≤ max_states) (own : meant v.own ≡ own_verdicts r R) (plain : RewrittenIs false r R v.plain) (short : RewrittenIs true r R v.short) where
    line_is : (z : Bool) (word : List ℕ) (w : Rewritten) → RewrittenIs z r R w → rewritten_line word w ≡ rewritten_text word (whole R c) (rewritten_for z r R)
    unfolding rewritten_line counted_line verdicts_end rewritten_text
    line_is z word w is =
        rw is.count (ap (λ (v : readings.Verdicts). word ++ (tab ∷ (digits (length (rewritten_for z r R).nodes) ++ (tab ∷ verdicts_text v))))
        (is.verdicts ∙ sym (verdicts_agree z r R A)))

    own_is : own_line v.own ≡ own_text ns (mask_of R c) (local_trace R c)
    unfolding own_line verdicts_end own_text
    own_is = ap (λ (w : readings.Verdicts). own_word ++ (tab ∷ verdicts_text w)) own

    text_is : report_text v ≡ judged_text c ns R
    unfolding report_text judged_text
    text_is = rw (L, own_is, line_is false plain_word v.plain plain, line_is true short_word v.short short)

    fits : length (report_text v) ≤ max_output_bytes
    unfolding report_text
    fits =
        let m = local_text v.places in
        let b = own_line v.own in
        let d = rewritten_line plain_word v.plain in
        let e = rewritten_line short_word v.short in
        omega (
          arith,
          length-append m (b ++ (d ++ e)),
          length-append b (d ++ e),
          length-append d e,
          local_length_lem v.places (omega arith),
          own_length v.own,
          rewritten_length plain_word v.plain (omega (arith, plain.count, few false)),
          rewritten_length short_word v.short (omega (arith, short.count, few true)),
        )

-- `judge_tables`: the report of these values is `judged_text`, and it fits
pub reported : (r : Rule) (R : Recording) → Accepted r R → (l : LocalTrace) → TraceIs R r.controller l → (own : Verdicts) → meant own ≡ verdicts_on r l →
    (plain short : Rewritten) → RewrittenIs false r R plain → RewrittenIs true r R short →
    ReportIs r R (record { places = l.count; own = own; plain = plain; short = short })
reported r R A l is own o plain short p s =
    let v : Report = record { places = l.count; own = own; plain = plain; short = short } in
    let long : l.count ≡ length (local_trace R r.controller) = trace_length R r.controller l is in
    let same : meant own ≡ own_verdicts r R = o ∙ trace_verdicts r R l is in
    record { text = text_is r R A v long is.few same p s; fits = fits r R A v long is.few same p s }

pub ruleset table_laws = (rules, tables_traced, tables_ready, places_fit, reported)
