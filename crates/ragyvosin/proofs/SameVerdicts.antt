-- Demand 3 for a caller of the face, from the contracts in src/lib.rt alone: whatever answers and leaves what they say, gives the same verdicts.
use mathlib.Core.Path.{◌≡◌, sym, ap, ap₂, ◌∙◌}
use mathlib.Core.Bool.{Bool, true, false}
use mathlib.Core.List.{List, [], ◌∷◌}
use Prim.Native.Nat.{ℕ, ◌-◌, ◌≤◌}
use lib.ListN.{length, get_or}
use Rattle.definitions.specs.Limits.{accepted, max_table_nodes, max_row_words}
use Rattle.definitions.specs.Bounded.{pick, bit}
use Rattle.definitions.specs.Tables.{Rule, Table, table_of, nodes_in}
use Rattle.definitions.specs.Recordings.{Recording, mask_of}
use Rattle.definitions.specs.Projection.{local_trace}
use Rattle.definitions.specs.Readings.{local, verdict}
use Rattle.definitions.specs.Operations.{Answer, answer, rewrite_answer, rewrite_table, judge_recording_answer, judge_local_answer}
use Rattle.theorems.proofs.Choice.{bit_injective}
use Rattle.theorems.proofs.ScheduleIndependence.{Accepted, rewritten_judging, local_judging, local_judging_same}
use Rattle.judges.specs.Verdicts.{answer_of as judged}
use Rattle.judges.specs.declared.verdicts.Verdicts.{Verdicts}
use Rattle.std.specs.Prelude.{Ok, Err}
use Rattle.rules.proofs.RefusalLaws.{number_some}
use Rattle.ragyvosin.specs.Results.{Judgement, Rewriting}
use Rattle.ragyvosin.specs.Results.{rewritten}

-- "the table, count and tops that a rewriting answered"
abbrev pub table_by : Rewriting → List ℕ → Table
table_by answer table = table_of (get_or (rewritten answer).values 0 0) table (get_or (rewritten answer).values 1 0) (get_or (rewritten answer).values 2 0)

-- the rule judged over the whole recording, by two calls in lent space of full size, with what their contracts say:
-- `rewrite_plain` or `rewrite_short` for the controller's mask, then `judge_recording` by what that answered
pub record JudgedWhole (short : Bool) (r : Rule) (R : Recording) (v : Judgement) : Type 0 where
  pub table : List ℕ
  pub rows : List ℕ
  pub full_table : max_table_nodes ≤ length table
  pub full_rows : max_row_words ≤ length rows
  pub rewriting : Rewriting
  pub table' : List ℕ
  pub rewrites : rewritten rewriting ≡ rewrite_answer short r (mask_of R r.controller) table
  pub tables : table' ≡ rewrite_table short r (mask_of R r.controller) table
  pub judges : judged v ≡ judge_recording_answer (table_by rewriting table') R r.controller rows

-- the rule judged on its local trace, by one call, with what the contract of `judge_local` says
abbrev pub JudgedLocally : Rule → Recording → Judgement → Type 0
JudgedLocally r R v = judged v ≡ judge_local_answer r R

-- the two verdicts, by every call
pub record SameVerdicts (verdicts : Verdicts) (plain_r short_r plain_s short_s local_r local_s : Judgement) : Type 0 where
  pub plain_over_first : plain_r ≡ Ok verdicts
  pub short_over_first : short_r ≡ Ok verdicts
  pub plain_over_second : plain_s ≡ Ok verdicts
  pub short_over_second : short_s ≡ Ok verdicts
  pub local_of_first : local_r ≡ Ok verdicts
  pub local_of_second : local_s ≡ Ok verdicts

-- the verdicts of a rule itself on a local trace, for a mask of own atoms
abbrev pub own_verdicts : Rule → ℕ → List ℕ → Verdicts
own_verdicts r mask places = record {
  weak = verdict (local mask places) (nodes_in r.count r.nodes) (length (nodes_in r.count r.nodes) - 1) true;
  strong = verdict (local mask places) (nodes_in r.count r.nodes) (length (nodes_in r.count r.nodes) - 1) false;
}

-- ---- an answer of two verdicts is the case of them
pub judged_is : (v : Judgement) (u : Verdicts) → judged v ≡ answer accepted (bit u.weak ∷ bit u.strong ∷ []) → v ≡ Ok u
unfolding answer pick
judged_is (Ok v) u e =
    ap Ok (ap₂ (λ (weak strong : Bool). record { weak = weak; strong = strong })
    (bit_injective v.weak u.weak (ap (λ (a : Answer). get_or a.values 0 0) e))
    (bit_injective v.strong u.strong (ap (λ (a : Answer). get_or a.values 1 0) e)))
judged_is (Err refusal) u e = absurd (number_some refusal (ap (λ (a : Answer). a.number) e))

-- ---- judging over the whole recording answers what judging on the local trace answers
pub judged_whole_lem : (short : Bool) (r : Rule) (R : Recording) (v : Judgement) → Accepted r R → JudgedWhole short r R v → JudgedLocally r R v
judged_whole_lem short r R v A j =
    rw (j.rewrites, j.tables) at j.judges ∙ rewritten_judging short r R j.table j.rows A j.full_table j.full_rows

pub judged_locally_lem : (r : Rule) (R : Recording) (v : Judgement) → Accepted r R → JudgedLocally r R v →
    v ≡ Ok (own_verdicts r (mask_of R r.controller) (local_trace R r.controller))
judged_locally_lem r R v A e = judged_is v (own_verdicts r (mask_of R r.controller) (local_trace R r.controller)) (e ∙ local_judging r R A)

-- Take any accepted rule and any two accepted recordings R and S that both have its controller, with the same local trace and the same mask of own
-- atoms for it. Rewritten plain or short, and judged over the whole of the one recording or of the other, the rule gets the same weak verdict all four
-- times, and the same strong verdict all four times. These are the verdicts that `judge_local` answers, and exactly those of the rule itself on
-- that local trace.
pub same_verdicts_all_four_times : (r : Rule) (R S : Recording) → Accepted r R → Accepted r S →
    local_trace R r.controller ≡ local_trace S r.controller → mask_of R r.controller ≡ mask_of S r.controller →
    (plain_r short_r plain_s short_s local_r local_s : Judgement) →
    JudgedWhole false r R plain_r → JudgedWhole true r R short_r → JudgedWhole false r S plain_s → JudgedWhole true r S short_s →
    JudgedLocally r R local_r → JudgedLocally r S local_s →
    SameVerdicts
    (own_verdicts r (mask_of R r.controller) (local_trace R r.controller))
    plain_r short_r plain_s short_s local_r local_s
same_verdicts_all_four_times r R S A B places mask plain_r short_r plain_s short_s local_r local_s p s q t l m =
    let other : (v : Judgement) → JudgedLocally r S v → JudgedLocally r R v = λ v e. e ∙ sym (local_judging_same r R S A B places mask) in
    record {
      plain_over_first = judged_locally_lem r R plain_r A (judged_whole_lem false r R plain_r A p);
      short_over_first = judged_locally_lem r R short_r A (judged_whole_lem true r R short_r A s);
      plain_over_second = judged_locally_lem r R plain_s A (other plain_s (judged_whole_lem false r S plain_s B q));
      short_over_second = judged_locally_lem r R short_s A (other short_s (judged_whole_lem true r S short_s B t));
      local_of_first = judged_locally_lem r R local_r A l;
      local_of_second = judged_locally_lem r R local_s A (other local_s m);
    }

-- "Equality of verdicts between recordings must hold between one of eight controllers and one of eleven": nothing above asks how many there are
pub same_verdicts_of_eight_and_eleven : (r : Rule) (R S : Recording) → R.controllers ≡ 8 → S.controllers ≡ 11 → Accepted r R → Accepted r S →
    local_trace R r.controller ≡ local_trace S r.controller → mask_of R r.controller ≡ mask_of S r.controller →
    (plain_r short_r plain_s short_s local_r local_s : Judgement) →
    JudgedWhole false r R plain_r → JudgedWhole true r R short_r → JudgedWhole false r S plain_s → JudgedWhole true r S short_s →
    JudgedLocally r R local_r → JudgedLocally r S local_s →
    SameVerdicts
    (own_verdicts r (mask_of R r.controller) (local_trace R r.controller))
    plain_r short_r plain_s short_s local_r local_s
same_verdicts_of_eight_and_eleven r R S eight eleven = same_verdicts_all_four_times r R S
