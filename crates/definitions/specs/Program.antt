-- "The program" (document 01), its input split at a line `-` of either ending (document 02): from the bytes of standard input to the bytes printed.
use Rattle.std.specs.Prelude.{ℕ, zero, suc, ◌+◌, Bool, true, false, List, [], ◌∷◌, ◌++◌, length, take, drop, eqb, ltb}
use Rattle.definitions.specs.Limits.{accepted, max_input_bytes, input_long}
use Rattle.definitions.specs.Bounded.{pick}
use Rattle.definitions.specs.Nodes.{Node}
use Rattle.definitions.specs.Tables.{nodes_in}
use Rattle.definitions.specs.Recordings.{Recording, recording_of, mask_of}
use Rattle.definitions.specs.Projection.{local_trace}
use Rattle.definitions.specs.Readings.{Trace, whole, Verdicts, verdicts, local_verdicts}
use Rattle.definitions.specs.Rewriting.{Rewritten, rewriting}
use Rattle.definitions.specs.Lines.{bytes, tab, newline, is_closed, line_of, rest_at, rest_of, same, digits}
use Rattle.definitions.specs.RuleText.{scan_rule}
use Rattle.definitions.specs.RecordingText.{RecordingScan, scan_recording, Part, joint_number, joint_part}

-- "a line `-`"
abbrev pub split_line : List ℕ
split_line = bytes "-"

-- "split at the first such line": the length of the rule text among at most so many lines; all of the text with none
unfoldable pub rule_length : (lines : ℕ) → List ℕ → ℕ
rule_length zero t = length t
rule_length (suc lines) t =
    pick (is_closed t)
    (pick (same (line_of t) split_line) 0 (rest_at t + rule_length lines (rest_of t)))
    (length t)

-- the rule text of the input
abbrev pub rule_text_in : List ℕ → List ℕ
rule_text_in input = take (rule_length (length input) input) input

-- the recording text of the input, after the line `-`; "with none, the recording text is empty"
abbrev pub recording_text_in : List ℕ → List ℕ
recording_text_in input = rest_of (drop (rule_length (length input) input) input)

-- the words that it prints
abbrev pub refused_word : List ℕ
refused_word = bytes "refused"

abbrev pub local_word : List ℕ
local_word = bytes "local"

abbrev pub own_word : List ℕ
own_word = bytes "own"

abbrev pub plain_word : List ℕ
plain_word = bytes "plain"

abbrev pub short_word : List ℕ
short_word = bytes "short"

-- a verdict, printed
abbrev pub yes_no : Bool → List ℕ
yes_no true = bytes "yes"
yes_no false = bytes "no"

-- "Refused, it prints only `refused`, number, line, tab-parted"
unfoldable pub refused_text : (number : ℕ) (line : List ℕ) → List ℕ
refused_text number line = refused_word ++ (tab ∷ (digits number ++ (tab ∷ (line ++ (newline ∷ [])))))

-- the bytes of a part
abbrev pub bytes_of : (rule recording : List ℕ) (p : Part) → List ℕ
bytes_of rule recording p = take p.count (drop p.from (pick p.of_rule rule recording))

-- the weak and the strong verdict, closed by byte 10
abbrev pub verdicts_text : Verdicts → List ℕ
verdicts_text v = yes_no v.weak ++ (tab ∷ (yes_no v.strong ++ (newline ∷ [])))

-- "`local 3` (places)"
unfoldable pub local_text : ℕ → List ℕ
local_text L = local_word ++ (tab ∷ (digits L ++ (newline ∷ [])))

-- "`own yes no` (weak, strong on the local trace)"
unfoldable pub own_text : (ns : List Node) (mask : ℕ) (places : List ℕ) → List ℕ
own_text ns mask places = own_word ++ (tab ∷ verdicts_text (local_verdicts ns mask places))

-- "`plain 55 yes no` (nodes, weak, strong)", and so for `short`
unfoldable pub rewritten_text : (word : List ℕ) (t : Trace) (w : Rewritten) → List ℕ
rewritten_text word t w = word ++ (tab ∷ (digits (length w.nodes) ++ (tab ∷ verdicts_text (verdicts t w.nodes w.weak_top w.strong_top))))

-- what is printed of an accepted rule and recording
unfoldable pub judged_text : (c : ℕ) (ns : List Node) (R : Recording) → List ℕ
judged_text c ns R =
    local_text (length (local_trace R c))
    ++ (own_text ns (mask_of R c) (local_trace R c)
    ++ (rewritten_text plain_word (whole R c) (rewriting false (mask_of R c) ns) ++ rewritten_text short_word (whole R c) (rewriting true (mask_of R c) ns)))

-- the recording that was read
abbrev pub scanned : RecordingScan → Recording
scanned s = recording_of s.controllers s.count s.masks s.states

-- what is printed of the two texts
unfoldable pub texts_output : (rule recording : List ℕ) → List ℕ
texts_output rule recording =
    pick (eqb (joint_number rule recording) accepted)
    (judged_text (scan_rule rule).controller (nodes_in (scan_rule rule).count (scan_rule rule).words) (scanned (scan_recording recording)))
    (refused_text (joint_number rule recording) (bytes_of rule recording (joint_part rule recording)))

-- "program input": "14 over 16,384 bytes"; for it "an empty line field"
unfoldable pub program_output : List ℕ → List ℕ
program_output input = pick (ltb max_input_bytes (length input)) (refused_text input_long []) (texts_output (rule_text_in input) (recording_text_in input))
