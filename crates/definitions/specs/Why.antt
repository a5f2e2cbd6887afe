-- The program `why`: of a rule and a recording the verdict that is asked for and the readings behind it, from the bytes of standard input to the bytes printed.
use Rattle.std.specs.Prelude.{ℕ, ◌-◌, Bool, true, false, ◌&&◌, List, [], ◌∷◌, ◌++◌, length, get_or, eqb, ltb}
use Rattle.definitions.specs.Limits.{accepted, max_input_bytes, input_long, rule_form}
use Rattle.definitions.specs.Bounded.{pick, bit_of, bit}
use Rattle.definitions.specs.Nodes.{Node, node_at}
use Rattle.definitions.specs.Tables.{nodes_in}
use Rattle.definitions.specs.Recordings.{Recording, mask_of, runs_at}
use Rattle.definitions.specs.Projection.{run_states, after_last, local_trace}
use Rattle.definitions.specs.Readings.{local, verdict}
use Rattle.definitions.specs.Evidence.{Found, evidence}
use Rattle.definitions.specs.Lines.{bytes, tab, newline, is_closed, line_of, rest_of, same, digits}
use Rattle.definitions.specs.RuleText.{scan_rule}
use Rattle.definitions.specs.RecordingText.{scan_recording, joint_number, joint_part}
use Rattle.definitions.specs.Program.{rule_text_in, recording_text_in, yes_no, refused_text, bytes_of, scanned}

-- the word for a reading
abbrev pub reading_word : (weak : Bool) → List ℕ
reading_word true = bytes "weak"
reading_word false = bytes "strong"

-- the state of place k: "place i < m is state r(i)"; "place m is state r(m-1)+1, or state 0 if m = 0"
unfoldable pub state_of_place : (R : Recording) (c k : ℕ) → ℕ
state_of_place R c k = get_or (run_states (runs_at R c) R.count) k (after_last (run_states (runs_at R c) R.count))

-- a word and a number, parted by a tab
abbrev pub word_number : (word : List ℕ) (number : ℕ) → List ℕ
word_number word number = word ++ (tab ∷ digits number)

-- a pair in words: the state of the recording, the controller's step, the atom, its bit there, the rule's node
unfoldable pub pair_text : (state step atom value node : ℕ) → List ℕ
pair_text state step atom value node =
    word_number (bytes "state") state
    ++ (tab ∷ (word_number (bytes "step") step
    ++ (tab ∷ (word_number (bytes "atom") atom
    ++ (tab ∷ (word_number (bytes "is") value
    ++ (tab ∷ (word_number (bytes "node") node
    ++ (newline ∷ [])))))))))

-- of a pair that was found
abbrev pub found_text : (R : Recording) (c : ℕ) (ns : List Node) (f : Found) → List ℕ
found_text R c ns f =
    let a = (node_at ns f.atom_node).first in
    pair_text (state_of_place R c f.place) f.place a (bit (bit_of (get_or (local_trace R c) f.place 0) a)) f.atom_node

-- a line for each pair
abbrev pub found_lines : (R : Recording) (c : ℕ) (ns : List Node) (fs : List Found) → List ℕ
found_lines R c ns [] = []
found_lines R c ns (f ∷ fs) = found_text R c ns f ++ found_lines R c ns fs

-- the verdict that is asked for
unfoldable pub verdict_text : (weak value : Bool) → List ℕ
verdict_text weak value = reading_word weak ++ (tab ∷ (yes_no value ++ (newline ∷ [])))

-- what is printed of an accepted rule and recording
unfoldable pub behind_text : (weak : Bool) (c : ℕ) (ns : List Node) (R : Recording) → List ℕ
behind_text weak c ns R =
    verdict_text weak (verdict (local (mask_of R c) (local_trace R c)) ns (length ns - 1) weak)
    ++ found_lines R c ns (evidence (mask_of R c) (local_trace R c) ns weak)

-- what is printed of the two texts; a refusal as the program `judge` prints it
unfoldable pub why_texts : (weak : Bool) (rule recording : List ℕ) → List ℕ
why_texts weak rule recording =
    pick (eqb (joint_number rule recording) accepted)
    (behind_text weak (scan_rule rule).controller (nodes_in (scan_rule rule).count (scan_rule rule).words) (scanned (scan_recording recording)))
    (refused_text (joint_number rule recording) (bytes_of rule recording (joint_part rule recording)))

-- the first line is the word for a reading
abbrev pub asks : (weak : Bool) (input : List ℕ) → Bool
asks weak input = is_closed input && same (line_of input) (reading_word weak)

-- after the first line the input is that of the program `judge`
unfoldable pub why_output : (input : List ℕ) → List ℕ
why_output input =
    pick (ltb max_input_bytes (length input)) (refused_text input_long [])
    (pick (asks true input) (why_texts true (rule_text_in (rest_of input)) (recording_text_in (rest_of input)))
    (pick (asks false input) (why_texts false (rule_text_in (rest_of input)) (recording_text_in (rest_of input)))
    (refused_text rule_form (line_of input))))
