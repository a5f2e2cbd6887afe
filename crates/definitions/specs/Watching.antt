-- The program `watch`: a session (document 02) followed line by line. Its input is a rule text, a line `-`, a line `session`, tab, C, the C `owns` lines,
-- and then the events: a line each, but for a new rule, which is the lines of its text. A line is printed as soon as the last `owns` line or an event has
-- come.
use Rattle.std.specs.Prelude.{ℕ, Bool, false, not, ◌&&◌, ◌||◌, List, [], ◌∷◌, ◌++◌, length, take, get_or, replicate, eqb, ltb}
use Rattle.definitions.specs.Limits.{accepted, max_controllers, max_rule_nodes, max_states, max_input_bytes, max_line_bytes, rule_lines, recording_form, recording_lines, input_long}
use Rattle.definitions.specs.Bounded.{pick}
use Rattle.definitions.specs.Tables.{rule_of}
use Rattle.definitions.specs.Lines.{bytes, tab, newline, is_empty, up_to, is_closed, line_of, same, Parsed, formed, malformed, on_parsed, decimal, worded, digits, NextLine, on_next, next_line, Scan}
use Rattle.definitions.specs.RuleText.{rule_word, RuleScan, scan_rule}
use Rattle.definitions.specs.RecordingText.{state_form, scan_masks}
use Rattle.definitions.specs.Sessions.{Space, lent_space, controllers_in, held_in, controllers_refusal, Call, Open, Arrive, Withdraw, Replace, number_of, leaves, verdicts_answer}
use Rattle.definitions.specs.Program.{rule_length, rule_text_in, recording_text_in, yes_no, refused_text}

-- ---- the lines after the line `-`: what a session opens on

abbrev pub session_word : List ℕ
session_word = bytes "session"

-- `session`, C
unfoldable pub session_form : List ℕ → Parsed ℕ
session_form s = worded session_word decimal s

-- the next line, as a `session` line: 8 missing, 5 its form, 6 its limits
abbrev pub session_line : List ℕ → NextLine ℕ
session_line t = next_line recording_lines recording_form session_form controllers_refusal t

-- what reading these lines gives: the refusal or 0, C and masks, and the text from the refused line on
pub record SessionScan : Type 0 where
  pub number : ℕ
  pub controllers : ℕ
  pub masks : List ℕ
  pub rest : List ℕ

-- a reading that stops at the `session` line
abbrev pub session_stop : ℕ → List ℕ → SessionScan
session_stop number t = record { number = number; controllers = 0; masks = []; rest = t }

-- what the `owns` lines gave
abbrev pub session_masks : (C : ℕ) (m : Scan) → SessionScan
session_masks C m = record { number = m.number; controllers = C; masks = m.words; rest = m.rest }

-- the `session` line, then C `owns` lines as in a recording text
unfoldable pub scan_session : List ℕ → SessionScan
scan_session t = on_next (session_line t) (λ number. session_stop number t) (λ C rest. session_masks C (scan_masks C [] rest))

-- ---- the opening

-- how far the opening has come: it lacks only lines; a line of it is refused; a session opens
pub data Opened : Type 0 where
  Unfinished : Opened
  Refuses : (number : ℕ) (line : List ℕ) → Opened
  Opens : (c : Call) → Opened

-- the space that a session is opened in: zeros, of full size
abbrev pub empty_space : Space
empty_space = lent_space (replicate 4 0) (replicate max_controllers 0) (replicate max_rule_nodes 0) (replicate max_states 0)

-- the call that opens it
abbrev pub open_call : RuleScan → SessionScan → Call
open_call r s = Open s.controllers s.masks (rule_of r.controller r.count r.words)

-- both texts were read: the call's number, which is 11 here; "for 11 the rule's first line"
unfoldable pub opened_by : (rule : List ℕ) (c : Call) → Opened
opened_by rule c = pick (eqb (number_of c empty_space) accepted) (Opens c) (Refuses (number_of c empty_space) (line_of rule))

-- only lines are missing, and more may come
abbrev pub lacks_lines : (ended : Bool) (s : SessionScan) → Bool
lacks_lines ended s = not ended && eqb s.number recording_lines

-- the rule was read: the session's lines in order
unfoldable pub opened_on : (ended : Bool) (rule : List ℕ) (s : SessionScan) → Opened
opened_on ended rule s =
    pick (eqb s.number accepted) (opened_by rule (open_call (scan_rule rule) s))
    (pick (lacks_lines ended s) Unfinished (Refuses s.number (line_of s.rest)))

-- the rule text's own number and line, then the session's lines
unfoldable pub opened_texts : (ended : Bool) (rule session : List ℕ) → Opened
opened_texts ended rule session =
    pick (eqb (scan_rule rule).number accepted) (opened_on ended rule (scan_session session)) (Refuses (scan_rule rule).number (line_of (scan_rule rule).rest))

-- a line `-` has come
abbrev pub split_came : List ℕ → Bool
split_came t = ltb (rule_length (length t) t) (length t)

-- the text so far; without a line `-` it is read at the end of the input only, and all of it is the rule text
unfoldable pub opening_of : (ended : Bool) (t : List ℕ) → Opened
opening_of ended t = pick (ended || split_came t) (opened_texts ended (rule_text_in t) (recording_text_in t)) Unfinished

-- ---- what is printed of a session

abbrev pub states_word : List ℕ
states_word = bytes "states"

-- `kept` (yes yes), `broken` (no no), `open` else: "a strong yes .. stays a strong yes", "a weak no stays a weak no alike"
unfoldable pub verdict_word : (weak strong : Bool) → List ℕ
verdict_word weak strong = pick (weak && strong) (bytes "kept") (pick (weak || strong) (bytes "open") (bytes "broken"))

-- weak, strong and word, each after a tab
unfoldable pub verdict_fields : (weak strong : Bool) → List ℕ
verdict_fields weak strong = tab ∷ (yes_no weak ++ (tab ∷ (yes_no strong ++ (tab ∷ (verdict_word weak strong ++ (newline ∷ []))))))

-- how the line ends: "An empty session has no verdict, and its answer says so"
unfoldable pub values_end : List ℕ → List ℕ
values_end values = pick (is_empty values) (newline ∷ []) (verdict_fields (eqb (get_or values 0 0) 1) (eqb (get_or values 1 0) 1))

-- `states`, how many are held, and the verdicts
unfoldable pub status_text : Space → List ℕ
status_text h = states_word ++ (tab ∷ (digits (held_in h) ++ values_end (verdicts_answer h).values))

-- ---- an event

abbrev pub withdraw_word : List ℕ
withdraw_word = bytes "withdraw"

-- a line as a call: `withdraw`, or `at`, run marks, word, as in a recording text of C controllers; any other line, and one that isn't closed, is no event
unfoldable pub call_of : (C : ℕ) (line : List ℕ) → Parsed Call
call_of C line =
    pick (is_closed line)
    (pick (same (line_of line) withdraw_word) (formed Withdraw) (on_parsed (state_form C (line_of line)) malformed (λ s. formed (Arrive s))))
    malformed

-- what is printed of a line that is refused: at most its first 1,024 bytes
abbrev pub event_text : List ℕ → List ℕ
event_text line = take max_line_bytes (line_of line)

-- a line that begins a rule text: its first field is the word `rule`
abbrev pub begins_rule : List ℕ → Bool
begins_rule line = same (up_to tab (line_of line)) rule_word

-- a rule text as a call, "A new rule without stopping the rack"
abbrev pub replace_call : RuleScan → Call
replace_call r = Replace (rule_of r.controller r.count r.words)

-- ---- one line after the other

-- the program, between two lines: the text of the opening so far; a session; a session and the text of its new rule so far; nothing more is read
pub data Watch : Type 0 where
  Opening : (text : List ℕ) → Watch
  Running : (h : Space) → Watch
  Ruling : (text : List ℕ) (h : Space) → Watch
  Ended : Watch

-- what it is after a line, and what is printed of that line
pub record Stepped : Type 0 where
  pub watch : Watch
  pub printed : List ℕ

abbrev pub stepped : Watch → List ℕ → Stepped
stepped w printed = record { watch = w; printed = printed }

-- a session goes on, with its line
abbrev pub runs : Space → Stepped
runs h = stepped (Running h) (status_text h)

-- after the opening's next line
unfoldable pub opens_on : (t : List ℕ) (o : Opened) → Stepped
opens_on t Unfinished = stepped (Opening t) []
opens_on t (Refuses number line) = stepped Ended (refused_text number line)
opens_on t (Opens c) = runs (leaves c empty_space)

-- "14 over 16,384 bytes"; for it "an empty line field"
unfoldable pub opening_step : (ended : Bool) (t : List ℕ) → Stepped
opening_step ended t = pick (ltb max_input_bytes (length t)) (stepped Ended (refused_text input_long [])) (opens_on t (opening_of ended t))

-- an event that is refused: what is held stays
abbrev pub refuses_event : (number : ℕ) (line : List ℕ) (h : Space) → Stepped
refuses_event number line h = stepped (Running h) (refused_text number (event_text line))

-- an event that is a call
unfoldable pub calls : (line : List ℕ) (h : Space) (c : Call) → Stepped
calls line h c = pick (eqb (number_of c h) accepted) (runs (leaves c h)) (refuses_event (number_of c h) line h)

-- the text of a new rule so far lacks only lines, and more may come
abbrev pub lacks_nodes : (ended : Bool) (r : RuleScan) → Bool
lacks_nodes ended r = not ended && eqb r.number rule_lines

-- the text of a new rule so far: it is read, "for 11 the rule's first line"; it lacks only lines; or a line of it is refused, with which it ends
unfoldable pub rule_so_far : (ended : Bool) (text : List ℕ) (h : Space) → Stepped
rule_so_far ended text h =
    pick (eqb (scan_rule text).number accepted) (calls text h (replace_call (scan_rule text)))
    (pick (lacks_nodes ended (scan_rule text)) (stepped (Ruling text h) []) (refuses_event (scan_rule text).number (scan_rule text).rest h))

-- after its next line: "14 over 16,384 bytes", of this text too
unfoldable pub rule_step : (ended : Bool) (text : List ℕ) (h : Space) → Stepped
rule_step ended text h = pick (ltb max_input_bytes (length text)) (refuses_event input_long [] h) (rule_so_far ended text h)

-- an event of one line
unfoldable pub line_step : (line : List ℕ) (h : Space) → Stepped
line_step line h = on_parsed (call_of (controllers_in h) line) (refuses_event recording_form line h) (calls line h)

-- the first line of an event; the empty line is the end of the input
unfoldable pub event_step : (line : List ℕ) (h : Space) → Stepped
event_step line h = pick (is_empty line) (stepped Ended []) (pick (begins_rule line) (rule_step false line h) (line_step line h))

-- a line with its ending, or the end of the input
unfoldable pub step : (line : List ℕ) (w : Watch) → Stepped
step line (Opening text) = opening_step (is_empty line) (text ++ line)
step line (Running h) = event_step line h
step line (Ruling text h) = rule_step (is_empty line) (text ++ line) h
step line Ended = stepped Ended []

-- the lines of the input, each with its ending; the last one may not be closed
unfoldable pub with_byte : (b : ℕ) (lines : List (List ℕ)) → List (List ℕ)
with_byte b [] = (b ∷ []) ∷ []
with_byte b (l ∷ lines) = (b ∷ l) ∷ lines

unfoldable pub lines_in : List ℕ → List (List ℕ)
lines_in [] = []
lines_in (b ∷ t) = pick (eqb b newline) ((b ∷ []) ∷ lines_in t) (with_byte b (lines_in t))

-- what is printed of lines, one after the other
unfoldable pub printed_of : (lines : List (List ℕ)) (w : Watch) → List ℕ
printed_of [] w = []
printed_of (l ∷ lines) w = (step l w).printed ++ printed_of lines (step l w).watch

-- what is printed of the whole input
unfoldable pub watch_output : List ℕ → List ℕ
watch_output input = printed_of (lines_in input ++ ([] ∷ [])) (Opening [])
