-- Trials of the program `watch`: what is printed after each line of its input.
use mathlib.Core.Path.{◌≡◌, refl}
use mathlib.Core.Bool.{Bool, true}
use Prim.Native.Nat.{ℕ}
use mathlib.Core.List.{List, [], ◌∷◌, ◌++◌}
use Prim.Native.String.{String}
use lib.ListN.{replicate}
use Rattle.definitions.specs.Nodes.{Atom, Next, node}
use Rattle.definitions.specs.Lines.{bytes}
use Rattle.definitions.specs.Sessions.{Space, space_of, controllers_refusal, open_masks_refusal, open_refusal, open_number, arrival_refusal, arrive_number, withdrawal_refusal, withdraw_number, replacement_refusal, replace_number, arrived, withdrawn, replaced, leaves, verdicts_answer}
use Rattle.definitions.specs.Watching.{session_form, scan_session, opened_by, opened_on, opened_texts, opening_of, verdict_word, verdict_fields, values_end, status_text, call_of, Watch, Opening, Running, Ruling, Ended, stepped, opens_on, opening_step, calls, rule_so_far, rule_step, line_step, event_step, step, with_byte, lines_in, printed_of, watch_output, empty_space}
use Rattle.definitions.proofs.Samples.{computed, rule}

-- what these trials compute through
unfoldable watched : Bool
unfolding computed space_of controllers_refusal open_masks_refusal open_refusal open_number arrival_refusal arrive_number withdrawal_refusal withdraw_number replacement_refusal replace_number arrived withdrawn replaced leaves verdicts_answer session_form scan_session opened_by opened_on opened_texts opening_of verdict_word verdict_fields values_end status_text call_of opens_on opening_step calls rule_so_far rule_step line_step event_step step with_byte lines_in printed_of watch_output
watched = true

abbrev prints : String → List ℕ
prints input = watch_output (bytes input)

-- what is printed after each line, from the first on
abbrev each_of : List (List ℕ) → Watch → List (List ℕ)
each_of [] w = []
each_of (l ∷ lines) w = (step l w).printed ∷ each_of lines (step l w).watch

abbrev each : String → List (List ℕ)
each input = each_of (lines_in (bytes input) ++ ([] ∷ [])) (Opening [])

-- a session on next of the own atom 0, on the masks of document 01's recording; then these events
abbrev follows : String → List ℕ
follows events = watch_output (bytes "rule\t0\t2\natom\t0\nnext\t0\n-\nsession\t2\nowns\t00000001\nowns\t00000002\n" ++ bytes events)

-- ---- events
pub record Events : Type 0 where
  -- an empty session has no verdicts
  pub none : follows "" ≡ bytes "states\t0\n"
  -- a step keeps the rule; withdrawn, another one breaks it
  pub bench_test : follows "at\t01\t00000002\nat\t02\t00000003\nwithdraw\nat\t00\t00000002\n"
      ≡ bytes "states\t0\nstates\t1\tyes\tno\topen\nstates\t2\tyes\tyes\tkept\nstates\t1\tyes\tno\topen\nstates\t2\tno\tno\tbroken\n"
  -- 10, 6 and 18: what is held stays
  pub output_rule : follows "at\t00\t00000002\nat\t00\t00000003\nat\t01\t00000002\n"
      ≡ bytes "states\t0\nstates\t1\tyes\tno\topen\nrefused\t10\tat\t00\t00000003\nstates\t2\tyes\tno\topen\n"
  pub mark_of_two : follows "at\t04\t00000002\nat\t01\t00000002\n" ≡ bytes "states\t0\nrefused\t6\tat\t04\t00000002\nstates\t1\tyes\tno\topen\n"
  pub withdrawn_empty : follows "withdraw\nat\t01\t00000002\nwithdraw\nwithdraw\n"
      ≡ bytes "states\t0\nrefused\t18\twithdraw\nstates\t1\tyes\tno\topen\nstates\t0\nrefused\t18\twithdraw\n"
  -- 5: another form, another word, an empty line; run marks of three digits where C is 2
  pub malformed : follows "at\t1\t00000002\nwithdraw \nwithdraws\n\nat\t001\t00000002\n"
      ≡ bytes "states\t0\nrefused\t5\tat\t1\t00000002\nrefused\t5\twithdraw \nrefused\t5\twithdraws\nrefused\t5\t\nrefused\t5\tat\t001\t00000002\n"
  -- 5: the input ends in a line that is not closed
  pub unclosed : follows "at\t01\t00000002\nwithdraw" ≡ bytes "states\t0\nstates\t1\tyes\tno\topen\nrefused\t5\twithdraw\n"
  pub unclosed_arrival : follows "at\t01\t00000002" ≡ bytes "states\t0\nrefused\t5\tat\t01\t00000002\n"
  -- bytes 13 and 10, which are not printed
  pub returns : watch_output (
      bytes "rule\t0\t2\r\natom\t0\r\nnext\t0\r\n-\r\nsession\t2\r\nowns\t00000001\r\nowns\t00000002\r\n"
      ++ bytes "at\t01\t00000002\r\nwithdraw\r\nwithdraw\r\nat\t1\t2\r\nat\t01\t00000002\r"
      ) ≡ bytes "states\t0\nstates\t1\tyes\tno\topen\nstates\t0\nrefused\t18\twithdraw\nrefused\t5\tat\t1\t2\nrefused\t5\tat\t01\t00000002\r\n"

events : Events
unfolding watched
events = record {
  none = refl;
  bench_test = refl;
  output_rule = refl;
  mark_of_two = refl;
  withdrawn_empty = refl;
  malformed = refl;
  unclosed = refl;
  unclosed_arrival = refl;
  returns = refl;
}

-- ---- a new rule, the lines of its text
pub record NewRules : Type 0 where
  -- with its last line, and not before; the states are carried over: the step keeps next of atom 0 and breaks next of not atom 0
  pub at_once : each "rule\t0\t1\ntrue\n-\nsession\t1\nowns\t00000001\nat\t01\t00000000\nat\t00\t00000001\nrule\t0\t3\natom\t0\nnot\t0\nnext\t1\nwithdraw\n"
      ≡ [] ∷ [] ∷ [] ∷ [] ∷ bytes "states\t0\n" ∷ bytes "states\t1\tyes\tyes\tkept\n" ∷ bytes "states\t2\tyes\tyes\tkept\n" ∷ [] ∷ [] ∷ [] ∷ bytes "states\t2\tno\tno\tbroken\n"
      ∷ bytes "states\t1\tyes\tno\topen\n" ∷ [] ∷ []
  -- another controller below C; in an empty session
  pub other_controller : follows "rule\t1\t1\natom\t1\nat\t00\t00000000\n" ≡ bytes "states\t0\nstates\t0\nstates\t1\tno\tno\tbroken\n"
  -- refused: its number and the refused line, 1, 2, 3 at that line, for 11 the rule's first; the former rule stays
  pub no_controller : follows "at\t01\t00000002\nrule\t2\t1\ntrue\nat\t00\t00000003\n"
      ≡ bytes "states\t0\nstates\t1\tyes\tno\topen\nrefused\t11\trule\t2\t1\nstates\t2\tyes\tyes\tkept\n"
  pub bad_heading : follows "rule\t0\nrule\t0\t65\nrule\nwithdraw\n"
      ≡ bytes "states\t0\nrefused\t1\trule\t0\nrefused\t2\trule\t0\t65\nrefused\t1\trule\nrefused\t18\twithdraw\n"
  pub operand_late : follows "rule\t0\t2\nnot\t0\nat\t00\t00000001\n" ≡ bytes "states\t0\nrefused\t3\tnot\t0\nstates\t1\tyes\tno\topen\n"
  -- a line that can't be part of the rule text ends the event where it stands, and is not read as another one
  pub state_among : follows "at\t00\t00000001\nrule\t0\t2\ntrue\nat\t00\t00000001\nwithdraw\n"
      ≡ bytes "states\t0\nstates\t1\tyes\tno\topen\nrefused\t2\tat\t00\t00000001\nstates\t0\n"
  pub withdraw_among : follows "at\t00\t00000001\nrule\t0\t1\nwithdraw\nwithdraw\n"
      ≡ bytes "states\t0\nstates\t1\tyes\tno\topen\nrefused\t2\twithdraw\nstates\t0\n"
  pub rule_among : follows "rule\t0\t2\ntrue\nrule\t0\t1\ntrue\n" ≡ bytes "states\t0\nrefused\t2\trule\t0\t1\nrefused\t5\ttrue\n"
  -- 4 where the input ends before the last line, 1 where it ends inside a line
  pub lines_missing : follows "rule\t0\t2\ntrue\n" ≡ bytes "states\t0\nrefused\t4\t\n"
  pub cut_in_line : follows "rule\t0\t2\ntru" ≡ bytes "states\t0\nrefused\t1\ttru\n"
  -- bytes 13 and 10
  pub returns : follows "rule\t0\t1\r\ntrue\r\nat\t00\t00000000\r\n" ≡ bytes "states\t0\nstates\t0\nstates\t1\tyes\tyes\tkept\n"

new_rules : NewRules
unfolding watched
new_rules = record {
  at_once = refl;
  other_controller = refl;
  no_controller = refl;
  bad_heading = refl;
  operand_late = refl;
  state_among = refl;
  withdraw_among = refl;
  rule_among = refl;
  lines_missing = refl;
  cut_in_line = refl;
  returns = refl;
}

-- ---- the opening
pub record Openings : Type 0 where
  -- nothing is printed before the last `owns` line, and then at once
  pub at_once : each "rule\t0\t1\ntrue\n-\nsession\t2\nowns\t00000001\nowns\t00000002\nat\t00\t00000000\n"
      ≡ [] ∷ [] ∷ [] ∷ [] ∷ [] ∷ bytes "states\t0\n" ∷ bytes "states\t1\tyes\tyes\tkept\n" ∷ [] ∷ []
  -- refused, nothing more is read
  pub rule_at_split : each "rule\t0\t1\nnot\t0\n-\nsession\t1\nowns\t00000001\nwithdraw\n" ≡ [] ∷ [] ∷ bytes "refused\t3\tnot\t0\n" ∷ [] ∷ [] ∷ [] ∷ [] ∷ []
  pub rule_of_more_lines : prints "rule\t0\t1\ntrue\ntrue\n-\n" ≡ bytes "refused\t4\ttrue\n"
  -- 5 and 6 of the `session` line, 5 and 7 of an `owns` line, at that line
  pub session_form : each "rule\t0\t1\ntrue\n-\nsession 1\nowns\t00000001\n" ≡ [] ∷ [] ∷ [] ∷ bytes "refused\t5\tsession 1\n" ∷ [] ∷ [] ∷ []
  pub controllers0 : prints "rule\t0\t1\ntrue\n-\nsession\t0\n" ≡ bytes "refused\t6\tsession\t0\n"
  pub controllers12 : prints "rule\t0\t1\ntrue\n-\nsession\t12\n" ≡ bytes "refused\t6\tsession\t12\n"
  pub mask_form : prints "rule\t0\t1\ntrue\n-\nsession\t1\nowns\t1\n" ≡ bytes "refused\t5\towns\t1\n"
  pub masks_meet : each "rule\t0\t1\ntrue\n-\nsession\t3\nowns\t00000001\nowns\t00000003\n" ≡ [] ∷ [] ∷ [] ∷ [] ∷ [] ∷ bytes "refused\t7\towns\t00000003\n" ∷ [] ∷ []
  -- 8: the input ends before the last of them, or before the line `-`
  pub mask_missing : prints "rule\t0\t1\ntrue\n-\nsession\t2\nowns\t00000001\n" ≡ bytes "refused\t8\t\n"
  pub session_missing : prints "rule\t0\t1\ntrue\n-\n" ≡ bytes "refused\t8\t\n"
  pub split_missing : prints "rule\t0\t1\ntrue\n" ≡ bytes "refused\t8\t\n"
  pub nothing : prints "" ≡ bytes "refused\t4\t\n"
  -- 11 after the masks, with the rule's first line
  pub no_controller : prints "rule\t1\t1\ntrue\n-\nsession\t1\nowns\t00000001\n" ≡ bytes "refused\t11\trule\t1\t1\n"
  pub masks_first : prints "rule\t2\t1\ntrue\n-\nsession\t2\nowns\t00000001\nowns\t00000001\n" ≡ bytes "refused\t7\towns\t00000001\n"
  -- the input ends inside a line
  pub cut_in_rule : prints "rule\t0\t1\ntru" ≡ bytes "refused\t1\ttru\n"
  pub cut_at_split : prints "rule\t0\t1\ntrue\n-" ≡ bytes "refused\t4\t-\n"
  pub cut_in_session : prints "rule\t0\t1\ntrue\n-\nsession\t1" ≡ bytes "refused\t5\tsession\t1\n"
  pub cut_in_mask : prints "rule\t0\t1\ntrue\n-\nsession\t1\nowns\t00000001" ≡ bytes "refused\t5\towns\t00000001\n"

openings : Openings
unfolding watched
openings = record {
  at_once = refl;
  rule_at_split = refl;
  rule_of_more_lines = refl;
  session_form = refl;
  controllers0 = refl;
  controllers12 = refl;
  mask_form = refl;
  masks_meet = refl;
  mask_missing = refl;
  session_missing = refl;
  split_missing = refl;
  nothing = refl;
  no_controller = refl;
  masks_first = refl;
  cut_in_rule = refl;
  cut_at_split = refl;
  cut_in_session = refl;
  cut_in_mask = refl;
}

-- ---- long lines and full sessions
-- a session of so many states that are zero
abbrev holding : ℕ → Space
holding n = space_of (record { masks = 1 ∷ 2 ∷ []; rule = rule (node Atom 0 0 ∷ node Next 0 0 ∷ []); states = replicate n 0 }) empty_space

pub record Limits : Type 0 where
  -- 14 where the text of the opening is over 16,384 bytes
  pub long : step (replicate 16384 120) (Opening (120 ∷ [])) ≡ stepped Ended (bytes "refused\t14\t\n")
  pub not_long : step (replicate 16383 120 ++ (10 ∷ [])) (Opening []) ≡ stepped (Opening (replicate 16383 120 ++ (10 ∷ []))) []
  -- 14 of a new rule's text, whatever its last line is; what is held stays, and the next line is an event
  pub long_rule : step (replicate 16376 120) (Ruling (bytes "rule\t0\t2\n") (holding 1)) ≡ stepped (Running (holding 1)) (bytes "refused\t14\t\n")
  -- 17
  pub full : step (bytes "at\t00\t00000000\n") (Running (holding 128)) ≡ stepped (Running (holding 128)) (bytes "refused\t17\tat\t00\t00000000\n")
  pub full_mark : (step (bytes "at\t04\t00000000\n") (Running (holding 128))).printed ≡ bytes "refused\t17\tat\t04\t00000000\n"
  -- the first 1,024 bytes of a longer line
  pub long_line : (step (replicate 1025 120 ++ (10 ∷ [])) (Running (holding 0))).printed ≡ bytes "refused\t5\t" ++ (replicate 1024 120 ++ (10 ∷ []))
  pub line_of1024 : (step (replicate 1024 120 ++ (13 ∷ 10 ∷ [])) (Running (holding 0))).printed ≡ bytes "refused\t5\t" ++ (replicate 1024 120 ++ (10 ∷ []))
  -- contents that no call made, of no node: no verdict is printed
  pub no_verdict : status_text (record { heading = 1 ∷ 0 ∷ 0 ∷ 1 ∷ []; masks = 0 ∷ []; nodes = []; states = 0 ∷ [] }) ≡ bytes "states\t1\n"

limits : Limits
unfolding watched
limits = record { long = refl; not_long = refl; long_rule = refl; full = refl; full_mark = refl; long_line = refl; line_of1024 = refl; no_verdict = refl }
