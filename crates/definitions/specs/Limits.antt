-- The limits and the refusal numbers of documents 01 and 02, each said once.
use Rattle.std.specs.Prelude.{ℕ, ◌*◌}

-- "C controllers (1 to ..", and "Make eleven the limit, and 10 the highest controller in a rule" (document 02)
abbrev pub max_controllers : ℕ
max_controllers = 11

-- "Run marks are three hexadecimal digits where C is above 8" (document 02)
abbrev pub two_digit_controllers : ℕ
two_digit_controllers = 8

-- "N states (1 to 128)"; a row has as many marks, a local trace at most as many places
abbrev pub max_states : ℕ
max_states = 128

-- "A state is a word of 32 atoms"
abbrev pub atom_count : ℕ
atom_count = 32

-- "up to 8 lines `gauge`" (document 02)
abbrev pub max_gauges : ℕ
max_gauges = 8

-- "1 to 64 nodes; the last is the rule"
abbrev pub max_rule_nodes : ℕ
max_rule_nodes = 64

-- "Takes a table of 1 to 1,024 nodes"
abbrev pub max_table_nodes : ℕ
max_table_nodes = 1024

-- "two 64-bit words" hold the marks of a row
abbrev pub word_marks : ℕ
word_marks = 64

-- "1,024 row pairs", each of six words
abbrev pub pair_words : ℕ
pair_words = 6

-- "1,024 row pairs" in words
abbrev pub max_row_words : ℕ
max_row_words = max_table_nodes * pair_words

-- "1,024 bytes of rule text"
abbrev pub max_rule_bytes : ℕ
max_rule_bytes = 1024

-- "14 over 16,384 bytes"
abbrev pub max_input_bytes : ℕ
max_input_bytes = 16384

-- no refusal
abbrev pub accepted : ℕ
accepted = 0

-- "1 not closed by byte 10, or not of its form"
abbrev pub rule_form : ℕ
rule_form = 1

-- "2 a count, controller or atom outside its limits, an unknown kind, run or end in a rule, an unused operand not 0"
abbrev pub rule_limits : ℕ
rule_limits = 2

-- "3 any other operand that isn't an earlier node"
abbrev pub rule_operand : ℕ
rule_operand = 3

-- "4 a line missing or one too many"
abbrev pub rule_lines : ℕ
rule_lines = 4

-- "5 not closed by byte 10, or not of its form"
abbrev pub recording_form : ℕ
recording_form = 5

-- "6 a number outside its limits, a run mark at C or above"
abbrev pub recording_limits : ℕ
recording_limits = 6

-- "7 mask meets an earlier mask"
abbrev pub masks_meet : ℕ
masks_meet = 7

-- "8 a line missing or one too many"
abbrev pub recording_lines : ℕ
recording_lines = 8

-- "Number 9 is no longer given" (document 02, recordings that stop in mid step)

-- "10 output rule broken by the state before"
abbrev pub output_rule : ℕ
output_rule = 10

-- "11 rule's controller not below C"
abbrev pub no_controller : ℕ
no_controller = 11

-- "Number 12 therefore can't happen; take it and its check out" (document 02, the rule that grows most)

-- "13 any of it, lent for output, shorter than its full size"
abbrev pub lent_short : ℕ
lent_short = 13

-- "14 over 16,384 bytes"
abbrev pub input_long : ℕ
input_long = 14

-- "Refused: 15, over 1,024 bytes": a rule in one line
abbrev pub max_line_bytes : ℕ
max_line_bytes = 1024

-- "at most 16 deep"
abbrev pub max_open_brackets : ℕ
max_open_brackets = 16

-- "15, over 1,024 bytes or no sentence of the grammar"
abbrev pub line_form : ℕ
line_form = 15

-- "16, a sentence with over 16 brackets open at once"
abbrev pub brackets_deep : ℕ
brackets_deep = 16

-- "17, an arrival when 128 states are held, tested before 6 and 10"
abbrev pub session_full : ℕ
session_full = 17

-- "18, a withdrawal from an empty session"
abbrev pub session_empty : ℕ
session_empty = 18

-- "19, a second gauge for an atom"
abbrev pub second_gauge : ℕ
second_gauge = 19

-- "20, a gauge's bit already set in the word"
abbrev pub gauge_bit_set : ℕ
gauge_bit_set = 20

-- "Lent space for fewer than 8,192 pairs is refused with 13": the readings behind a verdict, one for each place and node
abbrev pub max_pairs : ℕ
max_pairs = max_states * max_rule_nodes

-- "The full size of the lent space is 8,192 bytes either way": an archive text, and a recording text that is written of one
abbrev pub max_archive_bytes : ℕ
max_archive_bytes = 8192
