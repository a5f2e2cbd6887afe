-- What the readings behind a verdict promise a caller of the face, from the contracts in src/lib.rt alone.
use mathlib.Core.Path.{◌≡◌, refl, ap, ◌∙◌}
use mathlib.Core.Bool.{Bool, true, false}
use mathlib.Core.List.{List, ◌++◌, map}
use Prim.Native.Nat.{ℕ, ◌-◌, ◌/◌, ◌%◌, ◌<◌, ◌≤◌}
use native.Mathlib.Omega.{arith}
use lib.ListN.{length, drop, get_or, replicate, length-map, get_or-append}
use borrow.Author.Tests.{le-ltb}
use Rattle.definitions.specs.Limits.{max_rule_nodes, max_pairs}
use Rattle.definitions.specs.Bounded.{pick}
use Rattle.definitions.specs.Tables.{Rule, nodes_in}
use Rattle.definitions.specs.Recordings.{Recording, mask_of}
use Rattle.definitions.specs.Projection.{local_trace}
use Rattle.definitions.specs.Readings.{local, verdict}
use Rattle.definitions.specs.Evidence.{Found, pair_word}
use Rattle.definitions.specs.Operations.{Answer, answer, evidence_of, evidence_number, evidence_answer, evidence_pairs}
use Rattle.theorems.proofs.LentSpace.{left_accepted}
use Rattle.theorems.proofs.ScheduleIndependence.{Accepted, local_accepted}
use Rattle.theorems.proofs.EvidencePairs.{each_word}
use Rattle.theorems.proofs.EvidencePromise.{SameBit, SameBits}
use Rattle.theorems.proofs.EvidenceJudged.{pairs_low, trace_promise}
use Rattle.judges.specs.declared.verdicts.Verdicts.{Verdicts}
use Rattle.std.specs.Prelude.{Ok}
use Rattle.ragyvosin.specs.Results.{Judgement, Explanation}
use Rattle.evidence.specs.Answers.{pairs_answer as explained}
use Rattle.ragyvosin.proofs.SameVerdicts.{JudgedWhole, JudgedLocally, own_verdicts, judged_whole_lem, judged_locally_lem}

-- the readings behind a verdict, by one call in lent space of full size, with what the contract of `evidence` says of its answer e and of the pairs
-- that it leaves
pub record Explained (weak : Bool) (r : Rule) (R : Recording) (e : Explanation) (pairs : List ℕ) : Type 0 where
  pub lent : List ℕ
  pub full : max_pairs ≤ length lent
  pub explains : explained e ≡ evidence_answer r R weak lent
  pub leaves : pairs ≡ evidence_pairs r R weak lent

-- how many pairs it answered
abbrev pub count_by : Explanation → ℕ
count_by e = get_or (explained e).values 0 0

-- "those bits": at the place and the node of each of the pairs, of which a word is the place times 64 and the node, the local trace of S has the bit
-- that R's has
abbrev pub BitsAt : (r : Rule) (R S : Recording) (count : ℕ) (pairs : List ℕ) → Type 0
BitsAt r R S count pairs = (i : ℕ) → i < count →
    SameBit (nodes_in r.count r.nodes) (local_trace R r.controller) (local_trace S r.controller) (get_or pairs i 0 % max_rule_nodes) (get_or pairs i 0 / max_rule_nodes)

-- S has the own mask and the local length of R, and "those bits"
pub record SameAt (r : Rule) (R S : Recording) (count : ℕ) (pairs : List ℕ) : Type 0 where
  pub mask : mask_of S r.controller ≡ mask_of R r.controller
  pub long : length (local_trace R r.controller) ≡ length (local_trace S r.controller)
  pub bits : BitsAt r R S count pairs

-- the verdict that was chosen
abbrev pub chosen_of : Bool → Verdicts → Bool
chosen_of true v = v.weak
chosen_of false v = v.strong

-- a judge answered verdicts, and the chosen one is `value`
pub record Gets (weak value : Bool) (j : Judgement) : Type 0 where
  pub verdicts : Verdicts
  pub judged : j ≡ Ok verdicts
  pub chosen : chosen_of weak verdicts ≡ value

-- the chosen verdict, by every call
pub record SameVerdict (weak value : Bool) (local_r local_s plain_s short_s : Judgement) : Type 0 where
  pub local_of_first : Gets weak value local_r
  pub local_of_second : Gets weak value local_s
  pub plain_over_second : Gets weak value plain_s
  pub short_over_second : Gets weak value short_s

-- the chosen verdict of a rule itself on a local trace, for a mask of own atoms
abbrev pub own_verdict : Bool → Rule → ℕ → List ℕ → Bool
own_verdict weak r mask places = verdict (local mask places) (nodes_in r.count r.nodes) (length (nodes_in r.count r.nodes) - 1) weak

-- ---- what the call answered and left are the pairs of the definition
module _ (weak : Bool) (r : Rule) (R : Recording) (e : Explanation) (pairs : List ℕ) (A : Accepted r R) (x : Explained weak r R e pairs) where
  abbrev fs : List Found
  fs = evidence_of r R weak

  number_none : evidence_number r R x.lent ≡ 0
  unfolding evidence_number pick
  number_none = rw (le-ltb (length x.lent) max_pairs x.full) (local_accepted r R A)

  count_is : count_by e ≡ length fs
  unfolding evidence_answer answer pick
  count_is = ap (λ (a : Answer). get_or a.values 0 0) x.explains ∙ rw number_none

  pairs_are : pairs ≡ map pair_word fs ++ (replicate (max_pairs - length (map pair_word fs)) 0 ++ drop max_pairs x.lent)
  unfolding evidence_pairs
  pairs_are = x.leaves ∙ rw number_none (left_accepted max_pairs (map pair_word fs) x.lent)

  word_at : (i : ℕ) → i < length fs → get_or pairs i 0 ≡ get_or (map pair_word fs) i 0
  word_at i h =
      ap (λ (l : List ℕ). get_or l i 0) pairs_are
      ∙ get_or-append (map pair_word fs) (replicate (max_pairs - length (map pair_word fs)) 0 ++ drop max_pairs x.lent) 0 i (omega (arith, length-map fs pair_word))

  -- the bits at those words are the bits of the definition's pairs
  pub bits_of : (S : Recording) → BitsAt r R S (count_by e) pairs →
      SameBits (nodes_in r.count r.nodes) (local_trace R r.controller) (local_trace S r.controller) fs
  bits_of S bits =
      each_word (SameBit (nodes_in r.count r.nodes) (local_trace R r.controller) (local_trace S r.controller)) fs (pairs_low r R A weak)
      (λ i h. rw (word_at i h) at (bits i (omega (arith, count_is))))

-- ---- a judgement with the verdicts of the rule itself has its chosen verdict
own_chosen : (weak : Bool) (r : Rule) (mask : ℕ) (places : List ℕ) → chosen_of weak (own_verdicts r mask places) ≡ own_verdict weak r mask places
own_chosen true r mask places = refl
own_chosen false r mask places = refl

pub gets : (weak : Bool) (r : Rule) (R : Recording) (v : Judgement) (value : Bool) → Accepted r R → JudgedLocally r R v →
    own_verdict weak r (mask_of R r.controller) (local_trace R r.controller) ≡ value → Gets weak value v
gets weak r R v value A j e = record {
  verdicts = own_verdicts r (mask_of R r.controller) (local_trace R r.controller);
  judged = judged_locally_lem r R v A j;
  chosen = own_chosen weak r (mask_of R r.controller) (local_trace R r.controller) ∙ e;
}

-- Take any accepted rule and recording R, and the pairs that `evidence` leaves of them for the weak or the strong verdict. Any accepted recording S in
-- which the controller has the same own mask, a local trace of the same length, and at those pairs the same bits, gets the same chosen verdict: on the
-- local trace, and over the whole recording, plain or short. It is that of the rule itself on the local trace of R.
pub same_bits_same_verdict : (weak : Bool) (r : Rule) (R S : Recording) → Accepted r R → Accepted r S →
    (e : Explanation) (pairs : List ℕ) → Explained weak r R e pairs → SameAt r R S (count_by e) pairs →
    (local_r local_s plain_s short_s : Judgement) → JudgedLocally r R local_r → JudgedLocally r S local_s → JudgedWhole false r S plain_s → JudgedWhole true r S short_s →
    SameVerdict weak (own_verdict weak r (mask_of R r.controller) (local_trace R r.controller)) local_r local_s plain_s short_s
same_bits_same_verdict weak r R S A B e pairs x s local_r local_s plain_s short_s l m p t =
    let same : own_verdict weak r (mask_of S r.controller) (local_trace S r.controller) ≡ own_verdict weak r (mask_of R r.controller) (local_trace R r.controller)
    = ap (λ (mask : ℕ). own_verdict weak r mask (local_trace S r.controller)) s.mask
    ∙ trace_promise r R A weak (local_trace S r.controller) s.long (bits_of weak r R e pairs A x S s.bits) in
    let value : Bool = own_verdict weak r (mask_of R r.controller) (local_trace R r.controller) in
    record {
      local_of_first = gets weak r R local_r value A l refl;
      local_of_second = gets weak r S local_s value B m same;
      plain_over_second = gets weak r S plain_s value B (judged_whole_lem false r S plain_s B p) same;
      short_over_second = gets weak r S short_s value B (judged_whole_lem true r S short_s B t) same;
    }
