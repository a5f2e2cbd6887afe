-- Trials of the readings behind a verdict: each case of the walk, yes and no, and the operation. Words of a local trace: bit 0 is p, bit 1 is q.
use mathlib.Core.Path.{◌≡◌, refl}
use Prim.Native.Nat.{ℕ}
use Prim.Native.String.{String}
use mathlib.Core.Bool.{Bool, true, false}
use mathlib.Core.List.{List, [], ◌∷◌, ◌++◌}
use lib.ListN.{replicate}
use Rattle.definitions.specs.Limits.{max_pairs}
use Rattle.definitions.specs.Nodes.{True, Atom, Not, Or, Next, Until, Prev, Since, Node, node}
use Rattle.definitions.specs.Evidence.{Found, found, wanted_rows, evidence}
use Rattle.definitions.specs.Lines.{bytes}
use Rattle.definitions.specs.Operations.{answer, evidence_number, evidence_answer, evidence_pairs}
use Rattle.definitions.specs.Why.{state_of_place, pair_text, verdict_text, behind_text, why_texts, why_output}
use Rattle.definitions.proofs.Samples.{computed, recorded, R, rule_for, rule}

-- node 0 is p, node 1 is q, then the others
abbrev over : List Node → List Node
over ns = node Atom 0 0 ∷ node Atom 1 0 ∷ ns

-- both atoms own
abbrev own : List ℕ → List Node → Bool → List Found
own places ns weak = evidence 3 places (over ns) weak

abbrev weakly : Bool
weakly = true

abbrev strongly : Bool
strongly = false

-- p since q, two places on
abbrev past : List Node
past = node Since 0 1 ∷ node Next 2 0 ∷ node Next 3 0 ∷ []

-- document 01's example: "after a feed order, its next step opens the gate"
abbrev response : List Node
response =
    node Atom 1 0 ∷ node Not 0 0 ∷ node Atom 0 0 ∷ node Next 2 0 ∷ node Or 1 3 ∷ node Not 4 0 ∷ node True 0 0 ∷ node Until 6 5 ∷ node Not 7 0 ∷ []

pub record Walks : Type 0 where
  -- "an or that is yes takes its first yes operand, one that is no takes both"
  pub or_first : own (3 ∷ []) (node Or 0 1 ∷ []) weakly ≡ found 0 0 ∷ []
  pub or_second : own (2 ∷ []) (node Or 0 1 ∷ []) strongly ≡ found 1 0 ∷ []
  pub or_no : own (0 ∷ []) (node Or 0 1 ∷ []) weakly ≡ found 0 0 ∷ found 1 0 ∷ []
  -- "An until that is yes takes q at the first fitting k and p before it"
  pub until_met : own (1 ∷ 1 ∷ 3 ∷ 2 ∷ []) (node Until 0 1 ∷ []) strongly ≡ found 0 0 ∷ found 0 1 ∷ found 1 2 ∷ []
  pub until_at_once : own (3 ∷ 2 ∷ []) (node Until 0 1 ∷ []) weakly ≡ found 1 0 ∷ []
  -- "or, where only the weak ending makes it yes, p at every place from its own on"
  pub until_by_ending : own (1 ∷ 1 ∷ []) (node Until 0 1 ∷ []) weakly ≡ found 0 0 ∷ found 0 1 ∷ []
  pub until_from_its_own : own (0 ∷ 1 ∷ 1 ∷ []) (node Until 0 1 ∷ node Next 2 0 ∷ []) weakly ≡ found 0 1 ∷ found 0 2 ∷ []
  -- "One that is no takes p where it first fails and q up to and at that place"
  pub until_fails : own (1 ∷ 0 ∷ 0 ∷ 2 ∷ []) (node Until 0 1 ∷ []) weakly ≡ found 1 0 ∷ found 0 1 ∷ found 1 1 ∷ []
  -- "or q at every place from its own on if p never fails"
  pub until_never : own (1 ∷ 1 ∷ []) (node Until 0 1 ∷ []) strongly ≡ found 1 0 ∷ found 1 1 ∷ []
  -- "Since is the mirror image, with the latest k"
  pub since_met : own (2 ∷ 3 ∷ 1 ∷ 0 ∷ []) past weakly ≡ found 1 1 ∷ found 0 2 ∷ []
  pub since_at_once : own (2 ∷ 3 ∷ 3 ∷ 0 ∷ []) past strongly ≡ found 1 2 ∷ []
  pub since_fails : own (2 ∷ 0 ∷ 1 ∷ 2 ∷ []) past strongly ≡ found 0 1 ∷ found 1 1 ∷ found 1 2 ∷ []
  pub since_never : own (1 ∷ 1 ∷ 1 ∷ 2 ∷ []) past weakly ≡ found 1 0 ∷ found 1 1 ∷ found 1 2 ∷ []
  pub since_at_first : own (0 ∷ 3 ∷ []) (node Since 0 1 ∷ []) weakly ≡ found 0 0 ∷ found 1 0 ∷ []
  -- "Next and prev take their operand's place if there is one"
  pub next : own (0 ∷ 1 ∷ []) (node Next 0 0 ∷ []) strongly ≡ found 0 1 ∷ []
  pub next_at_last : own (1 ∷ []) (node Next 0 0 ∷ []) weakly ≡ []
  pub prev : own (1 ∷ 0 ∷ []) (node Prev 0 0 ∷ node Next 2 0 ∷ []) weakly ≡ found 0 0 ∷ []
  pub prev_at_first : own (1 ∷ 0 ∷ []) (node Prev 0 0 ∷ []) strongly ≡ []
  -- "a not passes on", in the other reading
  pub not_passes_on : own (1 ∷ []) (node Not 0 0 ∷ []) weakly ≡ found 0 0 ∷ []
  pub not_flips_weak : own (1 ∷ 1 ∷ []) (node Until 0 1 ∷ node Not 2 0 ∷ []) weakly ≡ found 1 0 ∷ found 1 1 ∷ []
  pub not_flips_strong : own (1 ∷ 1 ∷ []) (node Until 0 1 ∷ node Not 2 0 ∷ []) strongly ≡ found 0 0 ∷ found 0 1 ∷ []
  -- "A foreign atom at the last place adds nothing": atom 1 is foreign
  pub foreign_at_last : evidence 1 (2 ∷ []) (over []) weakly ≡ []
  pub own_at_last : evidence 2 (2 ∷ []) (over []) weakly ≡ found 1 0 ∷ []
  pub foreign_before : evidence 1 (1 ∷ 1 ∷ []) (over (node Until 0 1 ∷ [])) strongly ≡ found 1 0 ∷ []
  pub foreign_witness : evidence 1 (1 ∷ 1 ∷ []) (over (node Until 0 1 ∷ [])) weakly ≡ found 0 0 ∷ []
  -- "Each pair appears a single time": a node of two parents, or taken twice
  pub two_parents : own (0 ∷ 0 ∷ []) (node Next 0 0 ∷ node Or 0 2 ∷ node Or 2 3 ∷ []) weakly ≡ found 0 0 ∷ found 0 1 ∷ []
  pub taken_twice : own (0 ∷ []) (node Or 0 0 ∷ []) strongly ≡ found 0 0 ∷ []
  pub both_readings : own (0 ∷ 1 ∷ []) (node Not 0 0 ∷ node Next 2 0 ∷ node Or 0 3 ∷ []) weakly ≡ found 0 0 ∷ found 0 1 ∷ []
  -- two nodes with one atom are two pairs, "by place, then node"
  pub one_atom : own (0 ∷ 0 ∷ []) (node Atom 0 0 ∷ node Or 0 2 ∷ node Until 2 3 ∷ []) strongly ≡ found 0 0 ∷ found 2 0 ∷ []
  -- document 01's example: yes since the order's next step opens the gate; the strong no comes of the end alone
  pub example_weak : evidence 1 (2 ∷ 1 ∷ 0 ∷ []) response weakly ≡ found 0 1 ∷ found 2 1 ∷ []
  pub example_strong : evidence 1 (2 ∷ 1 ∷ 0 ∷ []) response strongly ≡ []

walks : Walks
unfolding computed evidence wanted_rows
walks = record {
  or_first = refl;
  or_second = refl;
  or_no = refl;
  until_met = refl;
  until_at_once = refl;
  until_by_ending = refl;
  until_from_its_own = refl;
  until_fails = refl;
  until_never = refl;
  since_met = refl;
  since_at_once = refl;
  since_fails = refl;
  since_never = refl;
  since_at_first = refl;
  next = refl;
  next_at_last = refl;
  prev = refl;
  prev_at_first = refl;
  not_passes_on = refl;
  not_flips_weak = refl;
  not_flips_strong = refl;
  foreign_at_last = refl;
  own_at_last = refl;
  foreign_before = refl;
  foreign_witness = refl;
  two_parents = refl;
  taken_twice = refl;
  both_readings = refl;
  one_atom = refl;
  example_weak = refl;
  example_strong = refl;
}

pub record Behind : Type 0 where
  -- the example by the operation: place 1, nodes 0 and 2
  pub counted : evidence_answer (rule response) R weakly (replicate max_pairs 7) ≡ answer 0 (2 ∷ [])
  pub laid : evidence_pairs (rule response) R weakly (replicate max_pairs 7 ++ (7 ∷ [])) ≡ 64 ∷ 66 ∷ (replicate 8190 0 ++ (7 ∷ []))
  pub none : evidence_answer (rule response) R strongly (replicate max_pairs 7) ≡ answer 0 (0 ∷ [])
  -- "Lent space for fewer than 8,192 pairs is refused with 13", before the rule; then the rule, the recording, 11
  pub short : evidence_number (rule_for 11 []) (recorded [] []) (replicate 8191 7) ≡ 13
  pub untouched : evidence_pairs (rule response) R weakly (7 ∷ 7 ∷ []) ≡ 7 ∷ 7 ∷ []
  pub rule2 : evidence_number (rule_for 11 []) (recorded [] []) (replicate max_pairs 7) ≡ 2
  pub rule3 : evidence_answer (rule (node Not 0 0 ∷ [])) R weakly (replicate max_pairs 7) ≡ answer 3 []
  pub recording6 : evidence_number (rule response) (recorded [] []) (replicate max_pairs 7) ≡ 6
  pub joining : evidence_number (rule_for 2 response) R (replicate max_pairs 7) ≡ 11
  pub zeroed : evidence_pairs (rule_for 2 response) R weakly (replicate max_pairs 7 ++ (7 ∷ [])) ≡ replicate max_pairs 0 ++ (7 ∷ [])

behind : Behind
unfolding computed evidence wanted_rows evidence_number evidence_answer evidence_pairs
behind = record {
  counted = refl;
  laid = refl;
  none = refl;
  short = refl;
  untouched = refl;
  rule2 = refl;
  rule3 = refl;
  recording6 = refl;
  joining = refl;
  zeroed = refl;
}

-- document 01's input, after a line that asks for a reading
abbrev example : String → List ℕ
example reading =
    bytes reading
    ++ bytes "rule\t0\t9\natom\t1\nnot\t0\natom\t0\nnext\t2\nor\t1\t3\nnot\t4\ntrue\nuntil\t6\t5\nnot\t7\n-\nrecording\t2\t5\nowns\t00000001\nowns\t00000002\nat\t01\t00000002\nat\t02\t00000003\nat\t01\t00000001\nat\t02\t00000000\nat\t00\t00000002\n"

pub record Whys : Type 0 where
  -- place 1 is state 2; node 0 is atom 1, which is no there, node 2 is atom 0, which is yes
  pub weak : why_output (example "weak\n") ≡ bytes "weak\tyes\nstate\t2\tstep\t1\tatom\t1\tis\t0\tnode\t0\nstate\t2\tstep\t1\tatom\t0\tis\t1\tnode\t2\n"
  pub strong : why_output (example "strong\n") ≡ bytes "strong\tno\n"
  -- the last place is the state after the last step, or state 0
  pub last_place : why_output (bytes "strong\nrule\t0\t2\natom\t0\nnext\t0\n-\nrecording\t1\t4\nowns\t00000001\nat\t00\t00000000\nat\t01\t00000000\nat\t00\t00000001\nat\t00\t00000001\n") ≡ bytes "strong\tyes\nstate\t2\tstep\t1\tatom\t0\tis\t1\tnode\t0\n"
  pub only_place : why_output (bytes "strong\nrule\t0\t1\natom\t0\n-\nrecording\t1\t2\nowns\t00000001\nat\t00\t00000001\nat\t00\t00000001\n") ≡ bytes "strong\tyes\nstate\t0\tstep\t0\tatom\t0\tis\t1\tnode\t0\n"
  -- no reading is asked for
  pub another : why_output (example "Weak\n") ≡ bytes "refused\t1\tWeak\n"
  pub unclosed : why_output (bytes "weak") ≡ bytes "refused\t1\tweak\n"
  -- a refusal is that of the program `judge`
  pub refused : why_output (bytes "weak\nrule\t0\t1\nnot\t0\n-\n") ≡ bytes "refused\t3\tnot\t0\n"

whys : Whys
unfolding computed evidence wanted_rows state_of_place pair_text verdict_text behind_text why_texts why_output
whys = record { weak = refl; strong = refl; last_place = refl; only_place = refl; another = refl; unclosed = refl; refused = refl }
