-- Trials of document 02's sessions: "Take states as they arrive, and let the last one be withdrawn", and a new rule.
use mathlib.Core.Path.{◌≡◌, refl}
use Prim.Native.Nat.{ℕ}
use mathlib.Core.Bool.{Bool, true}
use mathlib.Core.List.{List, [], ◌∷◌, ◌++◌, map}
use lib.ListN.{take, replicate}
use Rattle.definitions.specs.Nodes.{True, Atom, Not, Or, Next, Until, node, node_word}
use Rattle.definitions.specs.Tables.{Rule, rule_of}
use Rattle.definitions.specs.Recordings.{state_of}
use Rattle.definitions.specs.Operations.{Answer}
use Rattle.definitions.specs.Sessions.{Space, space_of, controllers_refusal, open_masks_refusal, open_refusal, open_number, arrival_refusal, arrive_number, withdrawal_refusal, withdraw_number, replacement_refusal, replace_number, opened, arrived, withdrawn, replaced, Call, Open, Arrive, Withdraw, Replace, number_of, leaves, leaves_all, verdicts_answer, admits, held_after, held_after_all}
use Rattle.definitions.proofs.Samples.{computed, R, rule_for, rule, yes, no}

-- what these trials compute through
unfoldable calls : Bool
unfolding computed space_of controllers_refusal open_masks_refusal open_refusal open_number arrival_refusal arrive_number withdrawal_refusal withdraw_number replacement_refusal replace_number arrived withdrawn replaced leaves leaves_all verdicts_answer admits held_after held_after_all
calls = true

-- lent slices of these sizes: every entry is 7
abbrev lent_of : (masks nodes states : ℕ) → Space
lent_of masks nodes states = record { heading = replicate 4 7; masks = replicate masks 7; nodes = replicate nodes 7; states = replicate states 7 }

-- one entry more than each full size
abbrev lent : Space
lent = lent_of 12 65 129

-- document 01's example, "after a feed order, its next step opens the gate"; next of the foreign atom 1; next of the own atom 0
abbrev example : Rule
example =
    rule (node Atom 1 0 ∷ node Not 0 0 ∷ node Atom 0 0 ∷ node Next 2 0 ∷ node Or 1 3 ∷ node Not 4 0 ∷ node True 0 0 ∷ node Until 6 5 ∷ node Not 7 0 ∷ [])

abbrev next_order : Rule
next_order = rule (node Atom 1 0 ∷ node Next 0 0 ∷ [])

abbrev next_gate : Rule
next_gate = rule (node Atom 0 0 ∷ node Next 0 0 ∷ [])

-- a session on the masks of R
abbrev opening : Rule → Call
opening r = Open 2 (1 ∷ 2 ∷ []) r

-- the first states of R arrive
abbrev first : ℕ → List Call
first n = map Arrive (take n R.states)

-- the contents after the opening and these calls
abbrev session : Rule → List Call → Space
session r cs = leaves_all (opening r ∷ cs) lent

-- the numbers that calls answer, one after the other
abbrev numbers : List Call → Space → List ℕ
numbers [] h = []
numbers (c ∷ cs) h = number_of c h ∷ numbers cs (leaves c h)

-- the verdicts before the first of them, and after each
abbrev verdicts : List Call → Space → List Answer
verdicts [] h = verdicts_answer h ∷ []
verdicts (c ∷ cs) h = verdicts_answer h ∷ verdicts cs (leaves c h)

abbrev weak_strong : ℕ → ℕ → Answer
weak_strong weak strong = record { number = 0; values = weak ∷ strong ∷ [] }

-- "An empty session has no verdict, and its answer says so"
abbrev none : Answer
none = record { number = 0; values = [] }

-- ---- the worked sample, arriving: refused calls between, and a bench test withdrawn
abbrev arriving : List Call
arriving =
    Withdraw ∷ Arrive (state_of 1 2) ∷ Arrive (state_of 4 2) ∷ Arrive (state_of 2 3) ∷ Arrive (state_of 0 2) ∷ Open 12 (1 ∷ 2 ∷ []) next_gate
    ∷ Arrive (state_of 1 1) ∷ Withdraw ∷ Arrive (state_of 1 1) ∷ Arrive (state_of 2 0) ∷ Arrive (state_of 0 2) ∷ []

pub record Arriving : Type 0 where
  pub answered : numbers (opening example ∷ arriving) lent ≡ 0 ∷ 18 ∷ 0 ∷ 6 ∷ 0 ∷ 10 ∷ 6 ∷ 0 ∷ 0 ∷ 0 ∷ 0 ∷ 0 ∷ []
  -- "both verdicts equal those of judging the remaining states from the start", R's own at the end; none up to the first state that is taken
  pub of_example : verdicts arriving (session example []) ≡ none ∷ none ∷ replicate 10 (weak_strong yes no)
  -- next of atom 1: no with state 3
  pub of_next : verdicts arriving (session next_order []) ≡ none ∷ none ∷ (replicate 8 (weak_strong yes no) ++ replicate 2 (weak_strong no no))
  -- the contents are those of R's states
  pub contents : session example arriving ≡ session example (first 5)
  -- R alone, after each state: the run in state 0 has a result with state 1, that in state 2 with state 3
  pub of_next_order : verdicts (first 5) (session next_order []) ≡ none ∷ weak_strong yes no ∷ weak_strong yes no ∷ weak_strong yes no ∷ weak_strong no no ∷ weak_strong no no ∷ []
  -- "the last one be withdrawn": backwards
  pub backwards : verdicts (replicate 5 Withdraw) (session next_order (first 5))
      ≡ weak_strong no no ∷ weak_strong no no ∷ weak_strong yes no ∷ weak_strong yes no ∷ weak_strong yes no ∷ none ∷ []
  -- an arriving state's mark is no run until the next state comes: with state 0 there is one place, with state 1 a step
  pub of_next_gate : verdicts (first 2) (session next_gate []) ≡ none ∷ weak_strong yes no ∷ weak_strong yes yes ∷ []
  -- a withdrawn step is no step: another state after state 0 tells what it left
  pub other_step : verdicts (Withdraw ∷ Arrive (state_of 0 2) ∷ []) (session next_gate (first 2)) ≡ weak_strong yes yes ∷ weak_strong yes no ∷ weak_strong no no ∷ []
  -- the rule of the other controller: atom 1 is its own
  pub of_other : verdicts (first 3) (session (rule_for 1 (node Atom 1 0 ∷ node Next 0 0 ∷ [])) []) ≡ none ∷ weak_strong yes no ∷ weak_strong yes no ∷ weak_strong no no ∷ []

is_arriving : Arriving
unfolding calls
is_arriving = record {
  answered = refl;
  of_example = refl;
  of_next = refl;
  contents = refl;
  of_next_order = refl;
  backwards = refl;
  of_next_gate = refl;
  other_step = refl;
  of_other = refl;
}

-- ---- what each slice holds: C, controller, node count, states held; zero past what is used, and 7 past the full size
pub record InLentSpace : Type 0 where
  pub empty : session next_gate [] ≡ record {
    heading = 2 ∷ 0 ∷ 2 ∷ 0 ∷ [];
    masks = 1 ∷ 2 ∷ (replicate 9 0 ++ (7 ∷ []));
    nodes = node_word (node Atom 0 0) ∷ node_word (node Next 0 0) ∷ (replicate 62 0 ++ (7 ∷ []));
    states = replicate 128 0 ++ (7 ∷ []);
  }
  pub one : (session next_gate (first 1)).heading ≡ 2 ∷ 0 ∷ 2 ∷ 1 ∷ []
  pub one_state : (session next_gate (first 1)).states ≡ state_of 1 2 ∷ (replicate 127 0 ++ (7 ∷ []))
  -- "entries past the count aren't read": another node, and a second mask that meets the first
  pub entries_past : leaves (Open 1 (1 ∷ 1 ∷ []) (rule_of 0 1 (node_word (node True 0 0) ∷ 255 ∷ []))) lent ≡ record {
    heading = 1 ∷ 0 ∷ 1 ∷ 0 ∷ [];
    masks = 1 ∷ (replicate 10 0 ++ (7 ∷ []));
    nodes = node_word (node True 0 0) ∷ (replicate 63 0 ++ (7 ∷ []));
    states = replicate 128 0 ++ (7 ∷ []);
  }
  -- a withdrawal after an arrival leaves every entry as it was
  pub undone : leaves_all (Arrive (state_of 1 1) ∷ Withdraw ∷ []) (session next_gate (first 2)) ≡ session next_gate (first 2)
  pub undone_first : leaves_all (Arrive (state_of 1 1) ∷ Withdraw ∷ []) (session next_gate []) ≡ session next_gate []
  -- opening over an old session leaves nothing of it
  pub opened_over : leaves (Open 1 (4 ∷ []) next_gate) (session example (first 5)) ≡ leaves (Open 1 (4 ∷ []) next_gate) lent
  -- "the remaining states", by the checks of the whole
  pub remaining : space_of (held_after_all arriving (opened 2 (1 ∷ 2 ∷ []) example)) lent ≡ session example arriving

in_lent_space : InLentSpace
unfolding calls
in_lent_space = record { empty = refl; one = refl; one_state = refl; entries_past = refl; undone = refl; undone_first = refl; opened_over = refl; remaining = refl }

-- ---- every number
pub record OpeningRefused : Type 0 where
  -- 13 of each slice that is one entry short, before the rule
  pub masks_short : open_number 12 [] (rule []) (lent_of 10 64 128) ≡ 13
  pub nodes_short : open_number 12 [] (rule []) (lent_of 11 63 128) ≡ 13
  pub states_short : open_number 12 [] (rule []) (lent_of 11 64 127) ≡ 13
  pub full_sizes : open_number 2 (1 ∷ 2 ∷ []) example (lent_of 11 64 128) ≡ 0
  -- the rule, before C: 2, 3, 4
  pub no_nodes : open_number 12 [] (rule []) lent ≡ 2
  pub rule_of_eleven : open_number 12 [] (rule_for 11 (node True 0 0 ∷ [])) lent ≡ 2
  pub operand_late : open_number 12 [] (rule (node Not 0 0 ∷ [])) lent ≡ 3
  pub node_missing : open_number 12 [] (rule_of 0 1 []) lent ≡ 4
  -- C, before the masks: 6
  pub controllers0 : open_number 0 [] next_gate lent ≡ 6
  pub controllers12 : open_number 12 (1 ∷ 1 ∷ []) next_gate lent ≡ 6
  pub controllers11 : open_number 11 (replicate 11 0) next_gate lent ≡ 0
  -- the masks, before 11: 7, then 8
  pub masks_meet : open_number 3 (1 ∷ 2 ∷ 5 ∷ []) (rule_for 3 (node True 0 0 ∷ [])) lent ≡ 7
  pub masks_meet_first : open_number 3 (1 ∷ 1 ∷ []) (rule_for 3 (node True 0 0 ∷ [])) lent ≡ 7
  pub mask_missing : open_number 3 (1 ∷ 2 ∷ []) (rule_for 3 (node True 0 0 ∷ [])) lent ≡ 8
  -- 11
  pub no_controller : open_number 2 (1 ∷ 2 ∷ []) (rule_for 2 (node True 0 0 ∷ [])) lent ≡ 11

opening_refused : OpeningRefused
unfolding calls
opening_refused = record {
  masks_short = refl;
  nodes_short = refl;
  states_short = refl;
  full_sizes = refl;
  no_nodes = refl;
  rule_of_eleven = refl;
  operand_late = refl;
  node_missing = refl;
  controllers0 = refl;
  controllers12 = refl;
  controllers11 = refl;
  masks_meet = refl;
  masks_meet_first = refl;
  mask_missing = refl;
  no_controller = refl;
}

-- contents that no call made
abbrev saying : List ℕ → Space
saying heading = record { heading = heading; masks = replicate 12 0; nodes = replicate 65 7; states = replicate 129 0 }

-- a session of 128 states
abbrev holding128 : Space
holding128 = space_of (record { masks = 1 ∷ 2 ∷ []; rule = next_gate; states = replicate 128 0 }) lent

pub record CallsRefused : Type 0 where
  -- 13 of the states, which are written, before 17 and 18; a short slice that is only read is not 13
  pub arrival_states_short : arrive_number (state_of 2048 0) (record { heading = 1 ∷ 0 ∷ 1 ∷ 128 ∷ []; masks = []; nodes = []; states = replicate 127 0 }) ≡ 13
  pub withdrawal_states_short : withdraw_number (record { heading = 1 ∷ 0 ∷ 1 ∷ 0 ∷ []; masks = []; nodes = []; states = replicate 127 0 }) ≡ 13
  -- 6 before 10, 10 against the state before, none for the first state; then 128 are held and it is 17 "before 6 and 10", up to a withdrawal
  pub arrivals : numbers (Arrive (state_of 4 3) ∷ Arrive 3 ∷ Arrive (state_of 4 0) ∷ Arrive (state_of 0 1) ∷ Arrive 7 ∷ []) (session next_gate []) ≡ 6 ∷ 0 ∷ 6 ∷ 10 ∷ 0 ∷ []
  pub full : numbers (Arrive (state_of 4 0) ∷ Arrive 1 ∷ Arrive 0 ∷ Withdraw ∷ Arrive (state_of 4 0) ∷ Arrive 1 ∷ Arrive 0 ∷ Arrive 0 ∷ []) holding128
      ≡ 17 ∷ 17 ∷ 17 ∷ 0 ∷ 6 ∷ 10 ∷ 0 ∷ 17 ∷ []
  -- 18, in a new session and after the last state was withdrawn
  pub empty : numbers (Withdraw ∷ Arrive 0 ∷ Withdraw ∷ Withdraw ∷ []) (session next_gate []) ≡ 18 ∷ 0 ∷ 0 ∷ 18 ∷ []
  -- on other contents: C or the number of states outside its limits
  pub controllers0 : arrive_number 0 (saying (0 ∷ 0 ∷ 1 ∷ 0 ∷ [])) ≡ 6
  pub controllers12 : arrive_number 0 (saying (12 ∷ 0 ∷ 1 ∷ 0 ∷ [])) ≡ 6
  pub states200 : numbers (Arrive 0 ∷ Withdraw ∷ []) (saying (1 ∷ 0 ∷ 1 ∷ 200 ∷ [])) ≡ 17 ∷ 6 ∷ []
  pub verdicts_of_other : verdicts_answer (saying (1 ∷ 0 ∷ 0 ∷ 1 ∷ [])) ≡ record { number = 2; values = [] }

calls_refused : CallsRefused
unfolding calls
calls_refused = record {
  arrival_states_short = refl;
  withdrawal_states_short = refl;
  arrivals = refl;
  full = refl;
  empty = refl;
  controllers0 = refl;
  controllers12 = refl;
  states200 = refl;
  verdicts_of_other = refl;
}

-- "A refused call, the opening too, changes nothing, lent space included"
pub record Untouched : Type 0 where
  pub limits : leaves (Open 12 (1 ∷ 2 ∷ []) example) lent ≡ lent
  pub lent_short : leaves (Open 2 (1 ∷ 2 ∷ []) example) (lent_of 11 64 127) ≡ lent_of 11 64 127
  pub old_session : leaves (Open 2 (1 ∷ 3 ∷ []) next_gate) (session example (first 5)) ≡ session example (first 5)
  pub arrival : leaves (Arrive (state_of 4 0)) (session example (first 5)) ≡ session example (first 5)
  pub output_broken : leaves (Arrive 0) (session example (first 5)) ≡ session example (first 5)
  pub arrival_short : leaves (Arrive 0) (lent_of 11 64 127) ≡ lent_of 11 64 127
  pub arrival_full : leaves (Arrive 0) (saying (1 ∷ 0 ∷ 1 ∷ 128 ∷ [])) ≡ saying (1 ∷ 0 ∷ 1 ∷ 128 ∷ [])
  pub withdrawal : leaves Withdraw (session example []) ≡ session example []

untouched : Untouched
unfolding calls
untouched = record {
  limits = refl;
  lent_short = refl;
  old_session = refl;
  arrival = refl;
  output_broken = refl;
  arrival_short = refl;
  arrival_full = refl;
  withdrawal = refl;
}

-- ---- "A new rule without stopping the rack"
abbrev of_other : Rule
of_other = rule_for 1 (node Atom 1 0 ∷ node Next 0 0 ∷ [])

pub record Replaced : Type 0 where
  -- "From there its answers are those of a session that had the new rule from the first state": every entry is, with fewer nodes, more, another controller
  pub shorter : leaves (Replace next_order) (session example (first 4)) ≡ session next_order (first 4)
  pub longer : leaves (Replace example) (session next_order (first 4)) ≡ session example (first 4)
  pub other_controller : leaves (Replace of_other) (session example (first 3)) ≡ session of_other (first 3)
  -- the verdicts before and after: R's first four states keep the one rule open and break the other
  pub before : verdicts_answer (session example (first 4)) ≡ weak_strong yes no
  pub after : verdicts_answer (leaves (Replace next_order) (session example (first 4))) ≡ weak_strong no no
  -- and go on: states arrive and are withdrawn as before
  pub goes_on : verdicts (Replace next_order ∷ Arrive (state_of 2 0) ∷ Withdraw ∷ Replace example ∷ []) (session example (first 3))
      ≡ weak_strong yes no ∷ weak_strong yes no ∷ weak_strong no no ∷ weak_strong yes no ∷ weak_strong yes no ∷ []
  -- an empty session takes a new rule too, and a full one
  pub in_empty : leaves (Replace next_order) (session example []) ≡ session next_order []
  pub in_full : numbers (Replace next_order ∷ Arrive 0 ∷ []) holding128 ≡ 0 ∷ 17 ∷ []
  -- "entries past the count aren't read"
  pub entries_past : leaves (Replace (rule_of 0 1 (node_word (node True 0 0) ∷ 255 ∷ []))) (session example (first 2)) ≡ session (rule (node True 0 0 ∷ [])) (first 2)
  -- what is held, by the checks of the whole
  pub remaining : space_of (held_after_all (first 3 ++ (Replace of_other ∷ Withdraw ∷ [])) (opened 2 (1 ∷ 2 ∷ []) example)) lent ≡ session of_other (first 2)

is_replaced : Replaced
unfolding calls
is_replaced = record {
  shorter = refl;
  longer = refl;
  other_controller = refl;
  before = refl;
  after = refl;
  goes_on = refl;
  in_empty = refl;
  in_full = refl;
  entries_past = refl;
  remaining = refl;
}

pub record ReplacementRefused : Type 0 where
  -- 13 of the nodes, which are written, before the rule; a short slice that isn't written is not 13
  pub nodes_short : replace_number (rule_for 11 []) (lent_of 11 63 128) ≡ 13
  pub others_short : replace_number next_gate (record { heading = 2 ∷ 0 ∷ 1 ∷ 0 ∷ []; masks = []; nodes = replicate 64 0; states = [] }) ≡ 0
  -- 2, 3 and 4 as document 01 checks a rule, then 11: "a controller below C", by the new rule's controller and not by the former one
  pub no_nodes : replace_number (rule_of 2 0 []) (session example []) ≡ 2
  pub rule_of_eleven : replace_number (rule_for 11 (node True 0 0 ∷ [])) (session example []) ≡ 2
  pub operand_late : replace_number (rule_for 2 (node Not 0 0 ∷ [])) (session example []) ≡ 3
  pub node_missing : replace_number (rule_of 2 2 (node_word (node True 0 0) ∷ [])) (session example []) ≡ 4
  pub no_controller : replace_number (rule_for 2 (node True 0 0 ∷ [])) (session example []) ≡ 11
  pub last_controller : replace_number of_other (session example []) ≡ 0
  -- "leaves the former one in force", every entry as it was
  pub former_stays : leaves (Replace (rule_for 2 (node True 0 0 ∷ []))) (session example (first 5)) ≡ session example (first 5)
  pub half_rule : leaves (Replace (rule (node Atom 0 0 ∷ node Not 1 0 ∷ []))) (session example (first 5)) ≡ session example (first 5)
  -- on other contents 11 goes by the heading's C, whatever it is
  pub controllers0 : replace_number next_gate (saying (0 ∷ 0 ∷ 1 ∷ 0 ∷ [])) ≡ 11
  pub controllers200 : replace_number (rule_for 10 (node True 0 0 ∷ [])) (saying (200 ∷ 0 ∷ 1 ∷ 200 ∷ [])) ≡ 0

is_replacement_refused : ReplacementRefused
unfolding calls
is_replacement_refused = record {
  nodes_short = refl;
  others_short = refl;
  no_nodes = refl;
  rule_of_eleven = refl;
  operand_late = refl;
  node_missing = refl;
  no_controller = refl;
  last_controller = refl;
  former_stays = refl;
  half_rule = refl;
  controllers0 = refl;
  controllers200 = refl;
}
