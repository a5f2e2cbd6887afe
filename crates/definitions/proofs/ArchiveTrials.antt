-- Trials of document 02's archive texts: "One line per atom".
use mathlib.Core.Path.{◌≡◌, refl}
use Prim.Native.Nat.{ℕ, zero, suc}
use Prim.Native.String.{String}
use mathlib.Core.Bool.{Bool, true}
use mathlib.Core.List.{List, [], ◌∷◌, ◌++◌}
use lib.ListN.{length, replicate}
use lib.Dec.{eqb}
use Rattle.definitions.specs.Bounded.{pick}
use Rattle.definitions.specs.Lines.{bytes}
use Rattle.definitions.specs.RecordingWriting.{hex_byte, hex_text, recording_heading_text, mask_text, state_text, masks_text, states_text, opening_text, recording_text}
use Rattle.definitions.specs.Archive.{in_front, turned, number_of_bits, state_digits, state_of_digits, signals_of, states_of_signals, signal_word, signal_text, signal_line, signals_text, archive_text, signal_on, signal, signal_form, scan_signals, after_opening, scan_archive, archived, restored}
use Rattle.definitions.specs.Operations.{answer, to_archive_number, to_archive_answer, to_archive_text, from_archive_number, from_archive_answer, from_archive_text}
use Rattle.definitions.specs.ArchivePrograms.{read_output, text_output, archive_output, unarchive_output}
use Rattle.definitions.proofs.Samples.{computed}

-- what these trials compute through
unfoldable archiving : Bool
unfolding computed hex_byte hex_text recording_heading_text mask_text state_text masks_text states_text opening_text recording_text in_front turned number_of_bits state_digits state_of_digits signals_of states_of_signals signal_word signal_text signal_line signals_text archive_text signal_on signal signal_form scan_signals after_opening scan_archive archived restored to_archive_number to_archive_answer to_archive_text from_archive_number from_archive_answer from_archive_text read_output text_output archive_output unarchive_output
archiving = true

-- ---- the recording of the program's example
abbrev opening : List ℕ
opening = bytes "recording\t2\t5\nowns\t00000001\nowns\t00000002\n"

abbrev example : List ℕ
example = opening ++ bytes "at\t01\t00000002\nat\t02\t00000003\nat\t01\t00000001\nat\t02\t00000000\nat\t00\t00000002\n"

-- so many copies of a line
abbrev copies : ℕ → String → List ℕ
copies zero line = []
copies (suc n) line = bytes line ++ copies n line

-- the opening, these lines, and so many lines of atoms that are 0 in each of five states
abbrev lines : String → ℕ → List ℕ
lines first n = opening ++ (bytes first ++ copies n "bits\t00000\n")

-- its archive: 10100 and 01010 are the marks of both controllers, 01100 and 11001 the bits of atoms 0 and 1
abbrev archive : List ℕ
archive = lines "runs\t10100\nruns\t01010\nbits\t01100\nbits\t11001\n" 30

-- bytes 13 and 10 at each line
abbrev returned : List ℕ → List ℕ
returned [] = []
returned (x ∷ t) = pick (eqb x 10) (13 ∷ 10 ∷ returned t) (x ∷ returned t)

pub record Turned : Type 0 where
  pub there : archive_output example ≡ archive
  pub back : unarchive_output archive ≡ example
  -- "For a text whose lines end in byte 10 alone": others come back with byte 10 alone
  pub returned_there : archive_output (returned example) ≡ archive
  pub returned_back : unarchive_output (returned archive) ≡ example
  -- a mark in the last state is kept
  pub last_mark : archive_output (bytes "recording\t1\t1\nowns\t00000001\nat\t01\t80000000\n") ≡ bytes "recording\t1\t1\nowns\t00000001\nruns\t1\n" ++ (copies 31 "bits\t0\n" ++ bytes "bits\t1\n")
  pub last_mark_back : unarchive_output (bytes "recording\t1\t1\nowns\t00000001\nruns\t1\n" ++ (copies 31 "bits\t0\n" ++ bytes "bits\t1\n")) ≡ bytes "recording\t1\t1\nowns\t00000001\nat\t01\t80000000\n"

turned_trials : Turned
unfolding archiving
turned_trials = record { there = refl; back = refl; returned_there = refl; returned_back = refl; last_mark = refl; last_mark_back = refl }

-- ---- refusals of an archive text, in their order: "5, 6 and 7 line by line, then 8, then the output rule after all lines"
pub record ArchiveRefusals : Type 0 where
  -- "N digits 0 or 1"
  pub digit_two : unarchive_output (lines "runs\t10100\nruns\t01210\nbits\t01100\nbits\t11001\n" 30) ≡ bytes "refused\t5\truns\t01210\n"
  pub one_digit_fewer : unarchive_output (lines "runs\t10100\nruns\t0101\nbits\t01100\nbits\t11001\n" 30) ≡ bytes "refused\t5\truns\t0101\n"
  pub one_digit_more : unarchive_output (lines "runs\t10100\nruns\t010100\nbits\t01100\nbits\t11001\n" 30) ≡ bytes "refused\t5\truns\t010100\n"
  -- "C lines `runs` .. and 32 lines `bits`"
  pub one_runs : unarchive_output (lines "runs\t10100\n" 33) ≡ bytes "refused\t5\tbits\t00000\n"
  pub three_runs : unarchive_output (lines "runs\t10100\nruns\t01010\nruns\t00000\n" 31) ≡ bytes "refused\t5\truns\t00000\n"
  pub unclosed : unarchive_output (lines "runs\t10100\nruns\t01010\n" 31 ++ bytes "bits\t00000") ≡ bytes "refused\t5\tbits\t00000\n"
  -- "A gauge line is refused with 5 here"
  pub gauge : unarchive_output (opening ++ bytes "gauge\t3\t1.00\n") ≡ bytes "refused\t5\tgauge\t3\t1.00\n"
  pub states : unarchive_output example ≡ bytes "refused\t5\tat\t01\t00000002\n"
  pub no_controller : unarchive_output (bytes "recording\t0\t5\n") ≡ bytes "refused\t6\trecording\t0\t5\n"
  pub masks_meet : unarchive_output (bytes "recording\t2\t5\nowns\t00000003\nowns\t00000002\n") ≡ bytes "refused\t7\towns\t00000002\n"
  -- "then 8"
  pub missing : unarchive_output (lines "runs\t10100\nruns\t01010\n" 31) ≡ bytes "refused\t8\t\n"
  pub too_many : unarchive_output (lines "runs\t10100\nruns\t01010\n" 33) ≡ bytes "refused\t8\tbits\t00000\n"
  -- "then the output rule after all lines": atom 1 is controller 1's, which doesn't run in state 0
  pub output : unarchive_output (lines "runs\t10100\nruns\t01010\nbits\t01100\nbits\t10001\n" 30) ≡ bytes "refused\t10\t\n"
  pub form_first : unarchive_output (lines "runs\t10100\nruns\t01010\nbits\t01100\nbits\t10001\n" 29 ++ bytes "bits\t0000x\n") ≡ bytes "refused\t5\tbits\t0000x\n"
  pub count_first : unarchive_output (lines "runs\t10100\nruns\t01010\nbits\t01100\nbits\t10001\n" 29) ≡ bytes "refused\t8\t\n"
  pub count_first_too : unarchive_output (lines "runs\t10100\nruns\t01010\nbits\t01100\nbits\t10001\n" 31) ≡ bytes "refused\t8\tbits\t00000\n"

archive_refusals : ArchiveRefusals
unfolding archiving
archive_refusals = record {
  digit_two = refl;
  one_digit_fewer = refl;
  one_digit_more = refl;
  one_runs = refl;
  three_runs = refl;
  unclosed = refl;
  gauge = refl;
  states = refl;
  no_controller = refl;
  masks_meet = refl;
  missing = refl;
  too_many = refl;
  output = refl;
  form_first = refl;
  count_first = refl;
  count_first_too = refl;
}

-- ---- refusals of a recording text: those of reading it, and of a gauge line
pub record RecordingRefusals : Type 0 where
  -- "A gauge line is refused with 5 here"; after the last `at` line it is a line too many
  pub gauge : archive_output (opening ++ bytes "gauge\t3\t1.00\nat\t01\t00000002\t0.00\n") ≡ bytes "refused\t5\tgauge\t3\t1.00\n"
  pub gauge_after : archive_output (example ++ bytes "gauge\t3\t1.00\n") ≡ bytes "refused\t8\tgauge\t3\t1.00\n"
  pub values : archive_output (opening ++ bytes "at\t01\t00000002\t0.00\n") ≡ bytes "refused\t5\tat\t01\t00000002\t0.00\n"
  pub missing : archive_output opening ≡ bytes "refused\t8\t\n"
  pub output : archive_output (opening ++ bytes "at\t01\t00000002\nat\t02\t00000000\n") ≡ bytes "refused\t10\tat\t02\t00000000\n"
  pub archive_itself : archive_output archive ≡ bytes "refused\t5\truns\t10100\n"
  pub too_long : archive_output (replicate 16385 10) ≡ bytes "refused\t14\t\n"

recording_refusals : RecordingRefusals
unfolding archiving
recording_refusals = record { gauge = refl; gauge_after = refl; values = refl; missing = refl; output = refl; archive_itself = refl; too_long = refl }

-- ---- the longest texts: C 11, N 128
pub record LongestTexts : Type 0 where
  pub recording : length (recording_text 11 128 (replicate 11 0) (replicate 128 0)) ≡ 2219
  pub archived : length (archive_text 11 128 (replicate 11 0) (replicate 128 0)) ≡ 5933

longest_texts : LongestTexts
unfolding archiving
longest_texts = record { recording = refl; archived = refl }

-- ---- lent space: "The full size of the lent space is 8,192 bytes either way, below it 13"
abbrev one : List ℕ
one = bytes "recording\t1\t1\nowns\t00000001\nat\t00\t00000000\n"

abbrev one_archived : List ℕ
one_archived = bytes "recording\t1\t1\nowns\t00000001\nruns\t0\n" ++ copies 32 "bits\t0\n"

pub record ArchiveLent : Type 0 where
  pub short : to_archive_answer one (replicate 8191 7) ≡ answer 13 []
  pub untouched : to_archive_text one (replicate 8191 7) ≡ replicate 8191 7
  pub short_first : to_archive_number [] (replicate 8191 7) ≡ 13
  pub length : to_archive_answer one (replicate 8193 7) ≡ answer 0 (259 ∷ [])
  pub holds : to_archive_text one (replicate 8193 7) ≡ one_archived ++ (replicate 7933 0 ++ (7 ∷ []))
  pub zeroed : to_archive_text [] (replicate 8193 7) ≡ replicate 8192 0 ++ (7 ∷ [])
  pub back_short : from_archive_answer one_archived (replicate 8191 7) ≡ answer 13 []
  pub back_length : from_archive_answer one_archived (replicate 8193 7) ≡ answer 0 (43 ∷ [])
  pub back_holds : from_archive_text one_archived (replicate 8193 7) ≡ one ++ (replicate 8149 0 ++ (7 ∷ []))
  pub back_zeroed : from_archive_text one (replicate 8193 7) ≡ replicate 8192 0 ++ (7 ∷ [])

archive_lent : ArchiveLent
unfolding archiving
archive_lent = record {
  short = refl;
  untouched = refl;
  short_first = refl;
  length = refl;
  holds = refl;
  zeroed = refl;
  back_short = refl;
  back_length = refl;
  back_holds = refl;
  back_zeroed = refl;
}
