-- The program prints the same of an input and of the same input with byte 10 at each line.
use mathlib.Core.Path.{◌≡◌, ap, sym, ◌∙◌}
use mathlib.Core.Bool.{true, false}
use mathlib.Core.List.{List, [], ◌∷◌, ◌++◌, append_assoc}
use Prim.Native.Nat.{ℕ, zero, suc, ◌≤◌}
use native.Mathlib.Omega.{arith}
use native.Mathlib.Numerals.{add-one}
use lib.ListN.{length, take, drop, drop_of_length-le}
use lib.Seq.{take_all, take-suc, take-add, drop-drop, drop-nil}
use borrow.Author.Tests.{ltb-true, le-ltb}
use Rattle.definitions.specs.Limits.{max_input_bytes}
use Rattle.definitions.specs.Bounded.{pick}
use Rattle.definitions.specs.Lines.{newline, before, up_to, is_closed, line_of, rest_at, rest_of, with_newlines, same}
use Rattle.definitions.specs.Program.{split_line, rule_length, rule_text_in, recording_text_in, texts_output, program_output}
use Rattle.theorems.proofs.Choice.{by_test}
use Rattle.theorems.proofs.SplitLaws.{found_byte}
use Rattle.theorems.proofs.EndingLaws.{with_front, with_short, open_same}
use Rattle.theorems.proofs.EndingReadings.{Settled, settled_drop, with_none, closed_closed, line_same, rest_same, front_line, rule_same, recording_same, joint_same, bytes_same}
use Rattle.theorems.proofs.InputSplit.{split_open, split_here, split_later, split_zero, split_enough}

-- the rule text among at most so many lines, and the text after the line `-`
abbrev rule_of : ℕ → List ℕ → List ℕ
rule_of n t = take (rule_length n t) t

abbrev recording_of : ℕ → List ℕ → List ℕ
recording_of n t = rest_of (drop (rule_length n t) t)

-- a closed line with its byte 10
line_front : (t u : List ℕ) → is_closed t ≡ true → take (rest_at t) t ++ u ≡ up_to newline t ++ (newline ∷ u)
line_front t u c =
    let l = ltb-true (before newline t) (length t) c in
    rw (add-one, take-suc t (before newline t) 0 l, found_byte newline t l, append_assoc)

-- ---- the rule text
module _ (n : ℕ) (t : List ℕ) where
  rule_all : is_closed t ≡ false → rule_of n t ≡ t
  rule_all c = take_all (rule_length n t) t (omega (arith, split_open n t c))

  module _ (c : is_closed t ≡ true) where
    rule_none : same (line_of t) split_line ≡ true → rule_of (suc n) t ≡ []
    rule_none s = rw (split_here n t c s)

    rule_line : same (line_of t) split_line ≡ false → rule_of (suc n) t ≡ up_to newline t ++ (newline ∷ rule_of n (rest_of t))
    rule_line s = rw (split_later n t c s) (take-add (rest_at t) (rule_length n (rest_of t)) t ∙ line_front t (rule_of n (rest_of t)) c)

rule_part : (n : ℕ) (t : List ℕ) → Settled t → rule_of n (with_newlines t) ≡ with_newlines (rule_of n t)
rule_part zero t p =
    take_all (rule_length zero (with_newlines t)) (with_newlines t) (omega (arith, split_zero (with_newlines t)))
    ∙ ap with_newlines (sym (take_all (rule_length zero t) t (omega (arith, split_zero t))))
rule_part (suc n) t p =
    let w = with_newlines t in
    by_test (is_closed t)
    (λ c. let d = closed_closed t c in
    by_test (same (line_of t) split_line)
    (λ s.
    let q : same (line_of w) split_line ≡ true = rw (line_same t p) s in
    rule_none n w d q ∙ sym (ap with_newlines (rule_none n t c s) ∙ with_none))
    (λ s.
    let q : same (line_of w) split_line ≡ false = rw (line_same t p) s in
    rule_line n w d q
    ∙ (rw (front_line t c, rest_same t, rule_part n (rest_of t) (settled_drop (rest_at t) t p))
    (sym (ap with_newlines (rule_line n t c s) ∙ with_front t (rule_of n (rest_of t)) (ltb-true (before newline t) (length t) c))))))
    (λ c. ap (rule_of (suc n)) (open_same t c) ∙ (rule_all (suc n) t c ∙ sym (ap with_newlines (rule_all (suc n) t c) ∙ open_same t c)))

-- ---- the recording text
module _ (n : ℕ) (t : List ℕ) where
  past_open : is_closed t ≡ false → drop (rule_length n t) t ≡ []
  past_open c = drop_of_length-le t {i = rule_length n t} (omega (arith, split_open n t c))

  recording_none : is_closed t ≡ false → recording_of n t ≡ []
  recording_none c = rw (past_open c) (drop-nil (rest_at []))

  module _ (c : is_closed t ≡ true) where
    recording_rest : same (line_of t) split_line ≡ true → recording_of (suc n) t ≡ rest_of t
    recording_rest s = rw (split_here n t c s)

    recording_line : same (line_of t) split_line ≡ false → recording_of (suc n) t ≡ recording_of n (rest_of t)
    recording_line s = rw (split_later n t c s) (ap rest_of (sym (drop-drop (rule_length n (rest_of t)) (rest_at t) t)))

recording_zero : (t : List ℕ) → recording_of zero t ≡ []
recording_zero t = rw (drop_of_length-le t {i = rule_length zero t} (omega (arith, split_zero t))) (drop-nil (rest_at []))

recording_part : (n : ℕ) (t : List ℕ) → Settled t → recording_of n (with_newlines t) ≡ with_newlines (recording_of n t)
recording_part zero t p = recording_zero (with_newlines t) ∙ sym (ap with_newlines (recording_zero t) ∙ with_none)
recording_part (suc n) t p =
    let w = with_newlines t in
    by_test (is_closed t)
    (λ c. let d = closed_closed t c in
    by_test (same (line_of t) split_line)
    (λ s.
    let q : same (line_of w) split_line ≡ true = rw (line_same t p) s in
    recording_rest n w d q ∙ (rest_same t ∙ sym (ap with_newlines (recording_rest n t c s))))
    (λ s.
    let q : same (line_of w) split_line ≡ false = rw (line_same t p) s in
    recording_line n w d q
    ∙ (ap (recording_of n) (rest_same t) ∙ (recording_part n (rest_of t) (settled_drop (rest_at t) t p) ∙ sym (ap with_newlines (recording_line n t c s))))))
    (λ c. ap (recording_of (suc n)) (open_same t c) ∙ (recording_none (suc n) t c ∙ sym (ap with_newlines (recording_none (suc n) t c) ∙ with_none)))

-- ---- the split of the input
module _ (input : List ℕ) (p : Settled input) where
  fuel : rule_length (length (with_newlines input)) (with_newlines input) ≡ rule_length (length input) (with_newlines input)
  fuel = split_enough (length (with_newlines input)) (length input) (with_newlines input) (omega arith) (with_short input)

  pub rule_split : rule_text_in (with_newlines input) ≡ with_newlines (rule_text_in input)
  rule_split = ap (λ (k : ℕ). take k (with_newlines input)) fuel ∙ rule_part (length input) input p

  pub recording_split : recording_text_in (with_newlines input) ≡ with_newlines (recording_text_in input)
  recording_split = ap (λ (k : ℕ). rest_of (drop k (with_newlines input))) fuel ∙ recording_part (length input) input p

pub rule_settled : (input : List ℕ) → Settled input → Settled (rule_text_in input)
rule_settled input p =
    ap with_newlines (sym (rule_split input p)) ∙ (sym (rule_split (with_newlines input) (ap with_newlines p)) ∙ (ap rule_text_in p ∙ rule_split input p))

pub recording_settled : (input : List ℕ) → Settled input → Settled (recording_text_in input)
recording_settled input p =
    ap with_newlines (sym (recording_split input p)) ∙ (sym (recording_split (with_newlines input) (ap with_newlines p)) ∙ (ap recording_text_in p ∙ recording_split input p))

-- ---- what is printed
texts_same : (rule recording : List ℕ) → Settled rule → Settled recording → texts_output (with_newlines rule) (with_newlines recording) ≡ texts_output rule recording
unfolding texts_output
texts_same rule recording p q =
    rw (bytes_same rule recording p q, joint_same rule recording p q, rule_same rule p, recording_same recording q)

-- the program prints the same of both, of an input within its limit
pub program_same : (input : List ℕ) → Settled input → length input ≤ max_input_bytes → program_output (with_newlines input) ≡ program_output input
unfolding program_output
program_same input p h =
    let few : length (with_newlines input) ≤ max_input_bytes = omega (arith, with_short input) in
    rw (le-ltb max_input_bytes (length input) h, le-ltb max_input_bytes (length (with_newlines input)) few, rule_split input p, recording_split input p)
    (ap (pick false _) (texts_same (rule_text_in input) (recording_text_in input) (rule_settled input p) (recording_settled input p)))
