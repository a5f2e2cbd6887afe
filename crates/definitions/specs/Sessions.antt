-- "The rack as it runs" and "A new rule without stopping the rack" (document 02): a session in lent space, what its calls answer and leave there on any
-- contents, and the same calls on what is held.
use Rattle.std.specs.Prelude.{◌≡◌, ℕ, ◌+◌, ◌-◌, ◌≤◌, ◌<◌, Bool, false, ◌||◌, List, [], ◌∷◌, ◌++◌, length, take, get_or, set, eqb, ltb, leb}
use Rattle.definitions.specs.Limits.{max_controllers, max_states, max_rule_nodes, accepted, recording_limits, recording_lines, lent_short, session_full, session_empty}
use Rattle.definitions.specs.Bounded.{pick, or_else, within}
use Rattle.definitions.specs.Tables.{Rule, rule_of, rule_refusal}
use Rattle.definitions.specs.Recordings.{Recording, recording_of, state_refusal, masks_refusal, recording_refusal, controller_refusal}
use Rattle.definitions.specs.Operations.{Answer, answer, too_short, left, judge_local_answer}

-- ---- what a session holds

-- the lent space of a session, whatever stands in it; the heading is an array of four: C, controller, node count, states held
pub record Space : Type 0 where
  pub heading : List ℕ
  pub masks : List ℕ
  pub nodes : List ℕ
  pub states : List ℕ

-- the space that a call is lent, part by part; a call that isn't lent a part doesn't read it (`arrival_unlent`, `withdrawal_unlent`)
abbrev pub lent_space : (heading masks nodes states : List ℕ) → Space
lent_space heading masks nodes states = record { heading = heading; masks = masks; nodes = nodes; states = states }

-- what a session holds: "masks, a rule and its controller", and the states that arrived and weren't withdrawn
pub record Held : Type 0 where
  pub masks : List ℕ
  pub rule : Rule
  pub states : List ℕ

-- its recording
abbrev pub recording_held : Held → Recording
recording_held a = recording_of (length a.masks) (length a.states) a.masks a.states

-- its heading
abbrev pub heading_of : Held → List ℕ
heading_of a = length a.masks ∷ a.rule.controller ∷ a.rule.count ∷ length a.states ∷ []

-- a session in lent space: "Accepted, unused entries are zero. What is lent past the full size is never touched"
unfoldable pub space_of : (a : Held) (h : Space) → Space
space_of a h = record {
  heading = heading_of a;
  masks = left accepted max_controllers a.masks h.masks;
  nodes = left accepted max_rule_nodes a.rule.nodes h.nodes;
  states = left accepted max_states a.states h.states;
}

-- C, as the heading says
abbrev pub controllers_in : Space → ℕ
controllers_in h = get_or h.heading 0 0

-- the number of states held, as the heading says
abbrev pub held_in : Space → ℕ
held_in h = get_or h.heading 3 0

-- the rule that the contents are
abbrev pub session_rule : Space → Rule
session_rule h = rule_of (get_or h.heading 1 0) (get_or h.heading 2 0) h.nodes

-- the recording that the contents are
abbrev pub session_recording : Space → Recording
session_recording h = recording_of (controllers_in h) (held_in h) h.masks h.states

-- ---- what a call is refused with, 0 for none

-- "6 a number outside its limits": C
unfoldable pub controllers_refusal : (C : ℕ) → ℕ
controllers_refusal C = pick (within 1 max_controllers C) accepted recording_limits

-- "7 mask meets an earlier mask", then 8: "masks or states, with fewer entries than its count has a line missing"
unfoldable pub open_masks_refusal : (C : ℕ) (masks : List ℕ) → ℕ
open_masks_refusal C masks = or_else (masks_refusal [] (take C masks)) (pick (ltb (length masks) C) recording_lines accepted)

-- "A session opens on masks, a rule and its controller, checked as document 01 checks them": the rule, C, the masks, 11
unfoldable pub open_refusal : (C : ℕ) (masks : List ℕ) (r : Rule) → ℕ
open_refusal C masks r =
    or_else (rule_refusal r) (or_else (controllers_refusal C) (or_else (open_masks_refusal C masks) (controller_refusal C r.controller)))

-- the opening: 13 for each of the three slices, then this
unfoldable pub open_number : (C : ℕ) (masks : List ℕ) (r : Rule) (h : Space) → ℕ
open_number C masks r h =
    pick (too_short max_controllers h.masks || too_short max_rule_nodes h.nodes || too_short max_states h.states) lent_short (open_refusal C masks r)

-- "17, an arrival when 128 states are held, tested before 6 and 10"; "Arriving states obey the output rule against the state before". C too has its
-- limits, in contents that no call made
unfoldable pub arrival_refusal : (C : ℕ) (masks : List ℕ) (held : ℕ) (states : List ℕ) (s : ℕ) → ℕ
arrival_refusal C masks held states s =
    pick (leb max_states held) session_full (or_else (controllers_refusal C) (state_refusal C (take C masks) held (get_or states (held - 1) 0) s))

-- an arrival: 13 for the states, the slice that it writes, then this
unfoldable pub arrive_number : (s : ℕ) (h : Space) → ℕ
arrive_number s h = pick (too_short max_states h.states) lent_short (arrival_refusal (controllers_in h) h.masks (held_in h) h.states s)

-- "18, a withdrawal from an empty session". Over 128 states, in contents that no call made, are outside their limits
unfoldable pub withdrawal_refusal : (held : ℕ) → ℕ
withdrawal_refusal held = pick (eqb held 0) session_empty (pick (ltb max_states held) recording_limits accepted)

-- a withdrawal: 13 for the states, then this
unfoldable pub withdraw_number : (h : Space) → ℕ
withdraw_number h = pick (too_short max_states h.states) lent_short (withdrawal_refusal (held_in h))

-- "another rule for a controller below C": "A rule refused with 2, 3, 4 or 11"
unfoldable pub replacement_refusal : (C : ℕ) (r : Rule) → ℕ
replacement_refusal C r = or_else (rule_refusal r) (controller_refusal C r.controller)

-- a new rule: 13 for the nodes, then this; C is the heading's, whatever it is
unfoldable pub replace_number : (r : Rule) (h : Space) → ℕ
replace_number r h = pick (too_short max_rule_nodes h.nodes) lent_short (replacement_refusal (controllers_in h) r)

-- ---- what an accepted call leaves

-- "entries past the count aren't read"
abbrev pub rule_read : Rule → Rule
rule_read r = rule_of r.controller r.count (take r.count r.nodes)

-- what a session holds that was just opened: no state
abbrev pub opened : (C : ℕ) (masks : List ℕ) (r : Rule) → Held
opened C masks r = record { masks = take C masks; rule = rule_read r; states = [] }

-- after an arrival: the state after the last one, and one more is held
unfoldable pub arrived : (s : ℕ) (h : Space) → Space
arrived s h = record {
  heading = set h.heading 3 (held_in h + 1);
  masks = h.masks;
  nodes = h.nodes;
  states = set h.states (held_in h) s;
}

-- after a withdrawal: zero for the last state, and one less is held
unfoldable pub withdrawn : (h : Space) → Space
withdrawn h = record {
  heading = set h.heading 3 (held_in h - 1);
  masks = h.masks;
  nodes = h.nodes;
  states = set h.states (held_in h - 1) 0;
}

-- after a new rule: its controller, count and nodes; it "carries its states over"
unfoldable pub replaced : (r : Rule) (h : Space) → Space
replaced r h = record {
  heading = set (set h.heading 1 r.controller) 2 r.count;
  masks = h.masks;
  nodes = left accepted max_rule_nodes (take r.count r.nodes) h.nodes;
  states = h.states;
}

-- ---- calls

pub data Call : Type 0 where
  Open : (C : ℕ) (masks : List ℕ) (r : Rule) → Call
  Arrive : (s : ℕ) → Call
  Withdraw : Call
  Replace : (r : Rule) → Call

-- what a call answers: the refusal number or 0
abbrev pub number_of : (c : Call) (h : Space) → ℕ
number_of (Open C masks r) h = open_number C masks r h
number_of (Arrive s) h = arrive_number s h
number_of Withdraw h = withdraw_number h
number_of (Replace r) h = replace_number r h

-- what it leaves where it is accepted
abbrev pub accepted_leaves : (c : Call) (h : Space) → Space
accepted_leaves (Open C masks r) h = space_of (opened C masks r) h
accepted_leaves (Arrive s) h = arrived s h
accepted_leaves Withdraw h = withdrawn h
accepted_leaves (Replace r) h = replaced r h

-- "A refused call, the opening too, changes nothing, lent space included"; a refused rule "leaves the former one in force"
unfoldable pub leaves : (c : Call) (h : Space) → Space
leaves c h = pick (eqb (number_of c h) accepted) (accepted_leaves c h) h

-- what a list of calls leaves, "refused ones included"
unfoldable pub leaves_all : (cs : List Call) (h : Space) → Space
leaves_all [] h = h
leaves_all (c ∷ cs) h = leaves_all cs (leaves c h)

-- both verdicts, as judging on the local trace answers them; "An empty session has no verdict, and its answer says so": 0 and no values
unfoldable pub verdicts_answer : (h : Space) → Answer
verdicts_answer h = pick (eqb (held_in h) 0) (answer accepted []) (judge_local_answer (session_rule h) (session_recording h))

-- ---- the same calls on what is held, by document 01's checks of the whole

-- other states
abbrev pub with_states : (a : Held) (ss : List ℕ) → Held
with_states a ss = record { masks = a.masks; rule = a.rule; states = ss }

-- a state more
abbrev pub one_more : (s : ℕ) (a : Held) → Held
one_more s a = with_states a (a.states ++ (s ∷ []))

-- without the last state
abbrev pub one_less : (a : Held) → Held
one_less a = with_states a (take (length a.states - 1) a.states)

-- another rule
abbrev pub with_rule : (a : Held) (r : Rule) → Held
with_rule a r = record { masks = a.masks; rule = r; states = a.states }

-- an arrival is taken where under 128 states are held and the recording with it is accepted
unfoldable pub admits : (s : ℕ) (a : Held) → Bool
admits s a = pick (ltb (length a.states) max_states) (eqb (recording_refusal (recording_held (one_more s a))) accepted) false

-- what is held after a call
unfoldable pub held_after : (c : Call) (a : Held) → Held
held_after (Open C masks r) a = pick (eqb (open_refusal C masks r) accepted) (opened C masks r) a
held_after (Arrive s) a = pick (admits s a) (one_more s a) a
held_after Withdraw a = one_less a
held_after (Replace r) a = pick (eqb (replacement_refusal (length a.masks) r) accepted) (with_rule a (rule_read r)) a

-- what is held after a list of calls: of the states "the remaining states"
unfoldable pub held_after_all : (cs : List Call) (a : Held) → Held
held_after_all [] a = a
held_after_all (c ∷ cs) a = held_after_all cs (held_after c a)

-- ---- a session "made by its own calls"

-- accepted masks, rule and states
pub record Sound (a : Held) : Type 0 where
  pub opens : open_refusal (length a.masks) a.masks a.rule ≡ accepted
  pub nodes : length a.rule.nodes ≡ a.rule.count
  pub states : 0 < length a.states → recording_refusal (recording_held a) ≡ accepted

-- each slice has its full size
pub record Full (h : Space) : Type 0 where
  pub masks : max_controllers ≤ length h.masks
  pub nodes : max_rule_nodes ≤ length h.nodes
  pub states : max_states ≤ length h.states

-- the contents are such, in lent space
pub record Made (h : Space) : Type 0 where
  pub held : Held
  pub sound : Sound held
  pub full : Full h
  pub is : h ≡ space_of held h
