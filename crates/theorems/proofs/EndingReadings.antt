-- A text and the same text with byte 10 at each line are read alike.
use mathlib.Core.Path.{◌≡◌, refl, ap, sym, ◌∙◌}
use Prim.Native.Nat.{ℕ, zero, suc, ◌+◌}
use mathlib.Core.Bool.{Bool, true, false}
use mathlib.Core.List.{List, [], ◌∷◌, ◌++◌}
use lib.ListN.{length, drop, drop_of_length-le, length-append}
use native.Mathlib.Omega.{arith}
use lib.Dec.{eqb}
use borrow.Author.Tests.{ne_eqb, ltb-true, ltb-false}
use Rattle.definitions.specs.Limits.{max_gauges, accepted, rule_form, rule_lines, recording_form, recording_lines}
use Rattle.definitions.specs.Bounded.{pick}
use Rattle.definitions.specs.Nodes.{node_word}
use Rattle.definitions.specs.Tables.{node_refusal, rule_heading_refusal}
use Rattle.definitions.specs.Recordings.{mask_refusal, recording_heading_refusal}
use Rattle.definitions.specs.Lines.{newline, carriage_return, before, up_to, is_empty, is_return, is_closed, line_of, rest_at, rest_of, with_newlines, Parsed, formed, malformed, on_parsed, NextLine, refused, read, on_next, next_line, Scan, stop, more}
use Rattle.definitions.specs.RuleText.{node_form, scan_nodes, rule_heading, RuleScan, rule_stop, rule_nodes, scan_rule}
use Rattle.definitions.specs.Gauges.{gauge_form, gauge_refusal, Gauges}
use Rattle.definitions.specs.RecordingText.{mask_form, at_form, finished_state, at_refusal, scan_masks, GaugeScan, gauges_stop, gauges_more, is_gauge, scan_gauges, scan_states, recording_heading, RecordingScan, recording_stop, gauged_after_masks, opening_masks, scan_opening, scan_recording, joint_number, joint_part}
use Rattle.definitions.specs.Operations.{read_rule_number, read_rule_answer, read_rule_nodes, read_recording_number, read_recording_answer, read_recording_masks, read_recording_states}
use Rattle.definitions.specs.Operations.{read_joint_number, read_joint_heading, read_joint_nodes, read_joint_masks, read_joint_states}
use Rattle.definitions.specs.Program.{bytes_of}
use Rattle.theorems.proofs.Choice.{by_test}
use Rattle.theorems.proofs.SplitLaws.{Without, split_front, split_rest, split_found}
use Rattle.theorems.proofs.EndingLaws.{with_return, with_other_lem, with_line, with_short, open_same, plain_same, line_without}
use Rattle.theorems.proofs.NextLines.{next_back}
use Rattle.theorems.proofs.TextEnds.{EndOf, rule_end, masks_end, gauges_end, recording_end, refused_line, part_line_lem}

-- byte 10 at each line, made again, changes nothing: bytes 13 13 10 end a line by their last two, and made 13 10 they end the line before them
abbrev pub Settled : List ℕ → Type 0
Settled t = with_newlines (with_newlines t) ≡ with_newlines t

-- so it is where each byte 13 stands before a byte 10, as in every accepted line
pub endings_settled : (t : List ℕ) → Without carriage_return (with_newlines t) → Settled t
endings_settled t w = plain_same (with_newlines t) w

-- and from a byte on
settled_later : (x : ℕ) (t : List ℕ) → Settled (x ∷ t) → Settled t
settled_later x t p =
    by_test (is_return x t)
    (λ f. let e = with_return x t f in ap with_newlines (sym e) ∙ (p ∙ e))
    (λ f. let w = with_newlines t in
    let e = with_other_lem x t f in
    let q : with_newlines (x ∷ w) ≡ x ∷ w = ap with_newlines (sym e) ∙ (p ∙ e) in
    by_test (is_return x w)
    (λ g. absurd (omega (arith, ap length (sym (with_return x w g) ∙ q), with_short w)))
    (λ g. ap (λ (l : List ℕ). drop 1 l) (sym (with_other_lem x w g) ∙ q)))

pub settled_drop : (k : ℕ) (t : List ℕ) → Settled t → Settled (drop k t)
settled_drop zero t p = p
settled_drop (suc k) [] p = p
settled_drop (suc k) (x ∷ t) p = settled_drop k t (settled_later x t p)

settled_end : (t u : List ℕ) → EndOf t u → Settled t → Settled u
settled_end t u e p = rw (← e.is) (settled_drop e.at t p)

-- ---- the next line
open_rest : (t : List ℕ) → is_closed t ≡ false → rest_of t ≡ []
open_rest t c = drop_of_length-le t {i = rest_at t} (omega (arith, ltb-false (before newline t) (length t) c))

pub with_none : with_newlines [] ≡ []
unfolding with_newlines
with_none = refl

module _ (t : List ℕ) where
  pub closed_closed : is_closed t ≡ true → is_closed (with_newlines t) ≡ true
  closed_closed c = rw (with_line t c) (split_found newline (with_newlines (rest_of t)) (line_of t) (line_without t))

  pub closed_same : is_closed (with_newlines t) ≡ is_closed t
  closed_same = by_test (is_closed t) (λ c. closed_closed c ∙ sym c) (λ c. ap is_closed (open_same t c))

  closed_full : (u rest line : List ℕ) → u ≡ line ++ (newline ∷ rest) → is_empty u ≡ false
  closed_full u rest line e = ne_eqb (length u) 0 (λ q. omega (arith, ap length e, length-append line (newline ∷ rest)))

  pub empty_same : is_empty (with_newlines t) ≡ is_empty t
  empty_same =
      by_test (is_closed t)
      (λ c. closed_full (with_newlines t) (with_newlines (rest_of t)) (line_of t) (with_line t c)
      ∙ sym (ne_eqb (length t) 0 (λ q. omega (arith, ltb-true (before newline t) (length t) c))))
      (λ c. ap is_empty (open_same t c))

  pub rest_same : rest_of (with_newlines t) ≡ with_newlines (rest_of t)
  rest_same =
      by_test (is_closed t)
      (λ c. rw (with_line t c) (split_rest newline (with_newlines (rest_of t)) (line_of t) (line_without t)))
      (λ c. ap rest_of (open_same t c) ∙ (open_rest t c ∙ sym (ap with_newlines (open_rest t c) ∙ with_none)))

  -- what stands before the first byte 10 is the line
  pub front_line : is_closed t ≡ true → up_to newline (with_newlines t) ≡ line_of t
  front_line c =
      ap (λ (l : List ℕ). up_to newline l) (with_line t c) ∙ split_front newline (with_newlines (rest_of t)) (line_of t) (line_without t)

pub line_same : (t : List ℕ) → Settled t → line_of (with_newlines t) ≡ line_of t
line_same t p =
    by_test (is_closed t)
    (λ c. sym (ap (λ (l : List ℕ). up_to newline l) (sym p) ∙ front_line (with_newlines t) (closed_closed t c)) ∙ front_line t c)
    (λ c. ap line_of (open_same t c))

-- by the cases of the next line, what is left with byte 10 at each line
abbrev renewed_next : {A : Type 0} → NextLine A → NextLine A
renewed_next n = on_next n refused (λ a rest. read a (with_newlines rest))

next_cases : {A : Type 0} (none closed : Bool) (q : Parsed A) (missing unformed : ℕ) (check : A → ℕ) (r : List ℕ)
    → pick none (refused missing) (pick closed (on_parsed q (refused unformed) (λ a. pick (eqb (check a) accepted) (read a (with_newlines r)) (refused (check a)))) (refused unformed))
    ≡ renewed_next (pick none (refused missing) (pick closed (on_parsed q (refused unformed) (λ a. pick (eqb (check a) accepted) (read a r) (refused (check a)))) (refused unformed)))
unfolding pick on_parsed on_next
next_cases true closed q missing unformed check r = refl
next_cases false false q missing unformed check r = refl
next_cases false true malformed missing unformed check r = refl
next_cases false true (formed a) missing unformed check r = by_test (eqb (check a) accepted) (λ z. rw z) (λ z. rw z)

on_renewed : {A B : Type 0} (n : NextLine A) (again : B → B) (stops stops' : ℕ → B) (goes : A → List ℕ → B)
    → ((number : ℕ) → stops' number ≡ again (stops number)) → ((a : A) (rest : List ℕ) → n ≡ read a rest → goes a (with_newlines rest) ≡ again (goes a rest))
    → on_next (renewed_next n) stops' goes ≡ again (on_next n stops goes)
unfolding on_next
on_renewed (refused number) again stops stops' goes s g = s number
on_renewed (read a rest) again stops stops' goes s g = g a rest refl

module _ (t : List ℕ) (p : Settled t) {A : Type 0} (missing unformed : ℕ) (form : List ℕ → Parsed A) (check : A → ℕ) where
  next_same : next_line missing unformed form check (with_newlines t) ≡ renewed_next (next_line missing unformed form check t)
  unfolding next_line
  next_same = rw (empty_same t, closed_same t, line_same t p, rest_same t) (next_cases (is_empty t) (is_closed t) (form (line_of t)) missing unformed check (rest_of t))

  -- a reading that goes by the next line
  reads_same : {B : Type 0} (again : B → B) (stops stops' : ℕ → B) (goes : A → List ℕ → B)
      → ((number : ℕ) → stops' number ≡ again (stops number)) → ((a : A) (rest : List ℕ) → Settled rest → goes a (with_newlines rest) ≡ again (goes a rest))
      → on_next (next_line missing unformed form check (with_newlines t)) stops' goes ≡ again (on_next (next_line missing unformed form check t) stops goes)
  reads_same again stops stops' goes s g =
      ap (λ (n : NextLine A). on_next n stops' goes) next_same
      ∙ on_renewed (next_line missing unformed form check t) again stops stops' goes s
      (λ a rest e. g a rest (rw (next_back missing unformed form check t a rest e).left (settled_drop (rest_at t) t p)))

-- ---- lines in order
-- what was read, with byte 10 at each line of the rest
abbrev renewed : Scan → Scan
renewed s = record { number = s.number; words = s.words; rest = with_newlines s.rest }

nodes_same : (lines i : ℕ) (t : List ℕ) → Settled t → scan_nodes lines i (with_newlines t) ≡ renewed (scan_nodes lines i t)
unfolding scan_nodes
nodes_same zero i t p = rw (empty_same t)
nodes_same (suc lines) i t p =
    reads_same t p rule_lines rule_form node_form (node_refusal false i) renewed (λ number. stop number t) (λ number. stop number (with_newlines t))
    (λ n rest. more (node_word n) (scan_nodes lines (i + 1) rest)) (λ k. refl) (λ n rest q. ap (more (node_word n)) (nodes_same lines (i + 1) rest q))

masks_same : (lines : ℕ) (earlier t : List ℕ) → Settled t → scan_masks lines earlier (with_newlines t) ≡ renewed (scan_masks lines earlier t)
unfolding scan_masks
masks_same zero earlier t p = refl
masks_same (suc lines) earlier t p =
    reads_same t p recording_lines recording_form mask_form (mask_refusal earlier) renewed (λ number. stop number t) (λ number. stop number (with_newlines t))
    (λ m rest. more m (scan_masks lines (m ∷ earlier) rest)) (λ k. refl) (λ m rest q. ap (more m) (masks_same lines (m ∷ earlier) rest q))

abbrev renewed_gauges : GaugeScan → GaugeScan
renewed_gauges s = record { number = s.number; gauges = s.gauges; rest = with_newlines s.rest }

gauge_same : (t : List ℕ) → Settled t → is_gauge (with_newlines t) ≡ is_gauge t
unfolding is_gauge
gauge_same t p = rw (line_same t p)

gauges_same : (lines : ℕ) (earlier t : List ℕ) → Settled t → scan_gauges lines earlier (with_newlines t) ≡ renewed_gauges (scan_gauges lines earlier t)
unfolding scan_gauges pick
gauges_same zero earlier t p = refl
gauges_same (suc lines) earlier t p =
    by_test (is_gauge t)
    (λ z. rw (gauge_same t p, z) (reads_same t p recording_lines recording_form gauge_form (gauge_refusal earlier) renewed_gauges
    (λ number. gauges_stop number t) (λ number. gauges_stop number (with_newlines t))
    (λ g rest. gauges_more g (scan_gauges lines (g.atom ∷ earlier) rest)) (λ k. refl) (λ g rest q. ap (gauges_more g) (gauges_same lines (g.atom ∷ earlier) rest q))))
    (λ z. rw (gauge_same t p, z))

states_same : (C : ℕ) (masks : List ℕ) (g : Gauges) (lines k prior : ℕ) (t : List ℕ) → Settled t
    → scan_states C masks g lines k prior (with_newlines t) ≡ renewed (scan_states C masks g lines k prior t)
unfolding scan_states
states_same C masks g zero k prior t p = rw (empty_same t)
states_same C masks g (suc lines) k prior t p =
    reads_same t p recording_lines recording_form (at_form C (length g.atoms)) (at_refusal C masks g k prior) renewed
    (λ number. stop number t) (λ number. stop number (with_newlines t))
    (λ m rest. more (finished_state g m) (scan_states C masks g lines (k + 1) (finished_state g m) rest)) (λ j. refl)
    (λ m rest q. ap (more (finished_state g m)) (states_same C masks g lines (k + 1) (finished_state g m) rest q))

-- ---- the two texts
abbrev pub renewed_rule : RuleScan → RuleScan
renewed_rule s = record { number = s.number; controller = s.controller; count = s.count; words = s.words; rest = with_newlines s.rest }

abbrev pub renewed_recording : RecordingScan → RecordingScan
renewed_recording s =
    record { number = s.number; controllers = s.controllers; count = s.count; masks = s.masks; states = s.states; rest = with_newlines s.rest }

pub rule_same : (t : List ℕ) → Settled t → scan_rule (with_newlines t) ≡ renewed_rule (scan_rule t)
unfolding scan_rule
rule_same t p =
    reads_same t p rule_lines rule_form rule_heading (λ h. rule_heading_refusal h.first h.second) renewed_rule (λ number. rule_stop number t) (λ number. rule_stop number (with_newlines t))
    (λ h rest. rule_nodes h (scan_nodes h.second 0 rest)) (λ k. refl) (λ h rest q. ap (rule_nodes h) (nodes_same h.second 0 rest q))

pub gauged_same : (C N : ℕ) (masks t : List ℕ) → Settled t → gauged_after_masks C N masks (with_newlines t) ≡ renewed_recording (gauged_after_masks C N masks t)
unfolding gauged_after_masks pick
gauged_same C N masks t p =
    let s = scan_gauges max_gauges [] t in
    let q = settled_end t s.rest (gauges_end max_gauges [] t) p in
    rw (gauges_same max_gauges [] t p, states_same C masks s.gauges N 0 0 s.rest q)
    (by_test (eqb s.number accepted) (λ e. rw (e, pick)) (λ e. rw (e, pick)))

-- whatever follows the `owns` lines
module _ (next : (C N : ℕ) (masks t : List ℕ) → RecordingScan)
    (alike : (C N : ℕ) (masks t : List ℕ) → Settled t → next C N masks (with_newlines t) ≡ renewed_recording (next C N masks t)) where
  masked_same : (C N : ℕ) (m : Scan) → Settled m.rest → opening_masks next C N (renewed m) ≡ renewed_recording (opening_masks next C N m)
  unfolding pick
  masked_same C N m p =
      rw (alike C N m.words m.rest p)
      (by_test (eqb m.number accepted) (λ e. rw (e, pick)) (λ e. rw (e, pick)))

  pub opening_same : (t : List ℕ) → Settled t → scan_opening next (with_newlines t) ≡ renewed_recording (scan_opening next t)
  unfolding scan_opening
  opening_same t p =
      reads_same t p recording_lines recording_form recording_heading (λ h. recording_heading_refusal h.first h.second) renewed_recording
      (λ number. recording_stop number t) (λ number. recording_stop number (with_newlines t))
      (λ h rest. opening_masks next h.first h.second (scan_masks h.first [] rest)) (λ k. refl)
      (λ h rest q. ap (opening_masks next h.first h.second) (masks_same h.first [] rest q)
      ∙ masked_same h.first h.second (scan_masks h.first [] rest) (settled_end rest (scan_masks h.first [] rest).rest (masks_end h.first [] rest) q))

pub recording_same : (t : List ℕ) → Settled t → scan_recording (with_newlines t) ≡ renewed_recording (scan_recording t)
unfolding scan_recording
recording_same t p = opening_same gauged_after_masks gauged_same t p

-- ---- the joint reading
module _ (rule recording : List ℕ) (p : Settled rule) (q : Settled recording) where
  pub joint_same : joint_number (with_newlines rule) (with_newlines recording) ≡ joint_number rule recording
  unfolding joint_number
  joint_same = rw (rule_same rule p, recording_same recording q)

  line_alike : refused_line (with_newlines rule) (with_newlines recording) ≡ refused_line rule recording
  unfolding refused_line
  line_alike =
      let a = line_same (scan_rule rule).rest (settled_end rule (scan_rule rule).rest (rule_end rule) p) in
      let b = line_same (scan_recording recording).rest (settled_end recording (scan_recording recording).rest (recording_end recording) q) in
      rw (joint_same, rule_same rule p, recording_same recording q, a, b, line_same rule p)

  -- the bytes of the line that is handed back
  pub bytes_same : bytes_of (with_newlines rule) (with_newlines recording) (joint_part (with_newlines rule) (with_newlines recording)) ≡ bytes_of rule recording (joint_part rule recording)
  bytes_same = part_line_lem (with_newlines rule) (with_newlines recording) ∙ (line_alike ∙ sym (part_line_lem rule recording))

-- ---- the operations: the same answers, and the same in lent space
pub record RuleAlike (text nodes : List ℕ) : Type 0 where
  pub answered : read_rule_answer (with_newlines text) nodes ≡ read_rule_answer text nodes
  pub holds : read_rule_nodes (with_newlines text) nodes ≡ read_rule_nodes text nodes

pub rule_alike : (text nodes : List ℕ) → Settled text → RuleAlike text nodes
unfolding read_rule_number read_rule_answer read_rule_nodes
rule_alike text nodes p = record { answered = rw (rule_same text p); holds = rw (rule_same text p) }

pub record RecordingAlike (text masks states : List ℕ) : Type 0 where
  pub answered : read_recording_answer (with_newlines text) masks states ≡ read_recording_answer text masks states
  pub holds_masks : read_recording_masks (with_newlines text) masks states ≡ read_recording_masks text masks states
  pub holds_states : read_recording_states (with_newlines text) masks states ≡ read_recording_states text masks states

pub recording_alike : (text masks states : List ℕ) → Settled text → RecordingAlike text masks states
unfolding read_recording_number read_recording_answer read_recording_masks read_recording_states
recording_alike text masks states p =
    record { answered = rw (recording_same text p); holds_masks = rw (recording_same text p); holds_states = rw (recording_same text p) }

pub record JointAlike (rule recording nodes masks states : List ℕ) : Type 0 where
  pub heading : read_joint_heading (with_newlines rule) (with_newlines recording) nodes masks states ≡ read_joint_heading rule recording nodes masks states
  pub holds_nodes : read_joint_nodes (with_newlines rule) (with_newlines recording) nodes masks states ≡ read_joint_nodes rule recording nodes masks states
  pub holds_masks : read_joint_masks (with_newlines rule) (with_newlines recording) nodes masks states ≡ read_joint_masks rule recording nodes masks states
  pub holds_states : read_joint_states (with_newlines rule) (with_newlines recording) nodes masks states ≡ read_joint_states rule recording nodes masks states

pub joint_alike : (rule recording nodes masks states : List ℕ) → Settled rule → Settled recording → JointAlike rule recording nodes masks states
unfolding read_joint_number read_joint_heading read_joint_nodes read_joint_masks read_joint_states
joint_alike rule recording nodes masks states p q =
    let j = joint_same rule recording p q in
    let r = rule_same rule p in
    let c = recording_same recording q in
    record { heading = rw (j, r, c); holds_nodes = rw (j, r); holds_masks = rw (j, c); holds_states = rw (j, c) }
