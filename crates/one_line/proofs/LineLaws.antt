-- Laws of the reader of a rule in one line: one for each return.
use mathlib.Core.Path.{◌≡◌, refl, sym, ap, ◌∙◌}
use Prim.Native.Nat.{ℕ, ◌+◌, ◌<◌, ◌≤◌}
use native.Mathlib.Omega.{arith}
use mathlib.Core.Bool.{true}
use mathlib.Core.List.{List, [], ◌++◌, map}
use lib.ListN.{length, take, drop, length-map, replicate, length-replicate}
use lib.Seq.{take_at}
use lib.Dec.{leb}
use borrow.Author.Tests.{lt-ltb, le-ltb, leb-true, leb-false}
use Rattle.std.specs.Prelude.{Ok, Err}
use Rattle.definitions.specs.Limits.{accepted, atom_count, max_rule_nodes, max_line_bytes, max_open_brackets, lent_short, line_form}
use Rattle.definitions.specs.Bounded.{pick, or_else}
use Rattle.definitions.specs.Nodes.{node_word}
use Rattle.definitions.specs.Lines.{Parsed, formed, malformed, on_parsed}
use Rattle.definitions.specs.Operations.{answer, too_short, left}
use Rattle.definitions.specs.OneLineSigns.{Sign}
use Rattle.definitions.specs.OneLineReading.{signs_of, tree_of}
use Rattle.definitions.specs.OneLineGrammar.{Arrows, Phrase, Sentence}
use Rattle.definitions.specs.OneLineNodes.{largest_atom}
use Rattle.definitions.specs.OneLine.{sentence_refusal, line_refusal, line_nodes, read_line_number, read_line_answer, read_line_nodes}
use Rattle.theorems.proofs.Choice.{by_test, pick_true, pick_false, accept_yes}
use Rattle.theorems.proofs.Inversions.{formed_same}
use Rattle.theorems.proofs.LentSpace.{refused_answer}
use Rattle.theorems.proofs.Phrases.{flat, operand, low_atoms, phrase_flat}
use Rattle.theorems.proofs.PhraseUnique.{unique}
use Rattle.theorems.proofs.SentenceTrees.{sentence_flat, ends}
use Rattle.theorems.proofs.FlatRefusal.{flat_refusal, flat_refusal_lem, sentence_weight, sentence_low}
use Rattle.theorems.proofs.SignSpelling.{spelled_signs}
use Rattle.theorems.proofs.OneLineAnswers.{Refusal as Refused, too_long, no_sentence, too_deep, outside, none, AcceptedLine, accepted_derivable, refusal_right, long_refused, short_refused}
use Rattle.lent.specs.Space.{cleared}
use Rattle.lent.proofs.LeftLaws.{left_untouched, left_zeroed}
use Rattle.rules.specs.Refusals.{number_of}
use Rattle.rules.specs.declared.refusal.Refusal.{Refusal}
use Rattle.rules.proofs.RefusalLaws.{refusals, number_some}
use Rattle.one_line_signs.specs.Signs.{signs_in, capped_signs}
use Rattle.one_line_signs.specs.Scanning.{Spelt}
use Rattle.one_line_signs.specs.declared.sign.Sign.{Sign as SignCode}
use Rattle.one_line_signs.proofs.SignLaws.{capped_flat, capped_most, capped_weight, capped_low, capped_same}
use Rattle.printing.specs.Printing.{laid_at}
use Rattle.one_line_readers.specs.Laying.{Laid}
use Rattle.one_line_readers.proofs.Laying.{relaid}
use Rattle.one_line_readers.specs.Reading.{Ready, Read, tree_words}
use Rattle.one_line_readers.specs.declared.emitted.Emitted.{Emitted}
use Rattle.rules.specs.declared.refusal.Refusal.TheVariants.{LentShort}
use Rattle.one_line.specs.Reading.{ReadLine}

-- ---- `check`

-- the refusal of the signs that a line spells
abbrev pub signs_refusal : ℕ → Parsed (List Sign) → ℕ
signs_refusal controller p = on_parsed p line_form (flat_refusal controller)

-- `check`, `line_refusal`: the length, then the signs
pub line_turns : (controller k : ℕ) (line : List ℕ) → k ≡ or_else (pick (leb (length line) max_line_bytes) accepted line_form) (signs_refusal controller (signs_of line)) → k ≡ line_refusal controller line
unfolding or_else pick on_parsed
line_turns controller k line e =
    by_test (leb (length line) max_line_bytes)
    (λ t. e ∙ rw t (same (signs_of line) ∙ sym (short_refused controller line (leb-true (length line) max_line_bytes t))))
    (λ t. e ∙ rw t (sym (long_refused controller line (leb-false (length line) max_line_bytes t))))
  where
    same : (p : Parsed (List Sign)) → signs_refusal controller p ≡ on_parsed p line_form (λ s. on_parsed (tree_of s) line_form (sentence_refusal controller s))
    same (formed s) = flat_refusal_lem controller s
    same malformed = refl

-- that atoms above the limit count as the limit changes no refusal
capped_refusal : (controller : ℕ) (s : List Sign) → flat_refusal controller (capped_signs s) ≡ flat_refusal controller s
unfolding flat_refusal
capped_refusal controller s = rw (capped_flat s operand 0, capped_most s 0 0, capped_weight s, capped_low s)

module _ (controller k : ℕ) (line : List ℕ) where
  -- `check`, `line_refusal`: it spells no signs
  pub check_nothing : signs_of line ≡ malformed → k ≡ line_form → k ≡ signs_refusal controller (signs_of line)
  unfolding on_parsed
  check_nothing e q = q ∙ rw e

  -- `check`, `line_refusal`: by its signs
  pub check_counted : (n : ℕ) (signs : List SignCode) → Spelt line n signs → k ≡ flat_refusal controller (signs_in (take n signs)) → k ≡ signs_refusal controller (signs_of line)
  unfolding on_parsed
  check_counted n signs t q = q ∙ (rw (t.told, t.read) (capped_refusal controller t.said))

-- `check`: a line that fits the space for its signs
pub line_fits : (line : List ℕ) (signs : List SignCode) → accepted ≡ pick (leb (length line) max_line_bytes) accepted line_form → length signs ≡ max_line_bytes → length line ≤ length signs
line_fits line signs e f = omega (arith, leb-true (length line) max_line_bytes (accept_yes (leb (length line) max_line_bytes) line_form (omega arith) (sym e)))

pub ruleset check_laws = (refusals, line_turns, check_nothing, check_counted, line_fits)

-- ---- `read_line`

line_words : List ℕ → List ℕ
line_words line = map node_word (line_nodes line)

refused_is : (number : ℕ) (values : List ℕ) → (number ≡ 0 → ⊥) → answer number [] ≡ answer number values
refused_is number values z = sym (refused_answer number [] z) ∙ refused_answer number values z

-- none of a line's numbers is 13
line_not_short : (controller : ℕ) (line : List ℕ) → line_refusal controller line ≡ lent_short → ⊥
line_not_short controller line e = go (line_refusal controller line) (refusal_right controller line) e
  where
    go : (n : ℕ) → Refused controller line n → n ≡ lent_short → ⊥
    go n (too_long h) e = omega arith
    go n (no_sentence f) e = omega arith
    go n (too_deep s t h r d) e = omega arith
    go n (outside s t h r few o) e = omega arith
    go n (none s t h r few l) e = omega arith

module _ (controller : ℕ) (line entry : List ℕ) where
  short_number : length entry < max_rule_nodes → read_line_number controller line entry ≡ lent_short
  unfolding read_line_number
  short_number h = pick_true (too_short max_rule_nodes entry) lent_short _ (lt-ltb (length entry) max_rule_nodes h)

  full_number : max_rule_nodes ≤ length entry → read_line_number controller line entry ≡ line_refusal controller line
  unfolding read_line_number
  full_number h = pick_false (too_short max_rule_nodes entry) lent_short _ (le-ltb (length entry) max_rule_nodes h)

  -- `read_line`, `read_line_answer` and `read_line_nodes`: 13
  pub read_short : length entry < max_rule_nodes → ReadLine controller line entry (Err LentShort) entry
  unfolding read_line_answer read_line_nodes
  read_short h =
      let e = short_number h in
      record {
        answered = rw e (refused_is lent_short _ (λ q. omega arith));
        nodes = left_untouched (read_line_number controller line entry) max_rule_nodes _ entry e;
      }

  -- `read_line`, `read_line_answer` and `read_line_nodes`: 15, 16 or 2
  pub read_refused : max_rule_nodes ≤ length entry → (e : Refusal) (exit : List ℕ) → number_of e ≡ line_refusal controller line → exit ≡ cleared entry 0 max_rule_nodes → ReadLine controller line entry (Err e) exit
  unfolding read_line_answer read_line_nodes
  read_refused room e exit r z =
      let q : read_line_number controller line entry ≡ number_of e = full_number room ∙ sym r in
      record {
        answered = rw q (refused_is (number_of e) _ (number_some e));
        nodes = rw q (left_zeroed (number_of e) max_rule_nodes (map node_word (line_nodes line)) entry entry exit refl (λ s. line_not_short controller line (sym r ∙ s)) (number_some e) z);
      }

module _ (controller : ℕ) (line : List ℕ) (n : ℕ) (signs : List SignCode) (fine : accepted ≡ line_refusal controller line) (spelt : Spelt line n signs) where
  accepted_line : AcceptedLine controller line
  accepted_line = accepted_derivable controller line (sym fine)

  said_same : spelt.said ≡ accepted_line.signs
  said_same = formed_same spelt.said accepted_line.signs (sym spelt.read ∙ spelled_signs line accepted_line.signs accepted_line.reads.spelled)

  said_low : low_atoms accepted_line.signs ≡ true
  said_low = sentence_low accepted_line.signs accepted_line.tree accepted_line.reads.derived ∙ lt-ltb (largest_atom accepted_line.tree) atom_count accepted_line.limits.atoms

  signs_said : signs_in (take n signs) ≡ accepted_line.signs
  signs_said = spelt.told ∙ (ap capped_signs said_same ∙ capped_same accepted_line.signs said_low)

  module _ (o : Emitted) (s : (o.count ≡ 0) × (o.words ≡ replicate max_rule_nodes 0)) where
    pub read_ready : Ready max_open_brackets (take n signs) o
    read_ready = record {
      opened = 0;
      most = 0;
      due = rw signs_said (sentence_flat accepted_line.reads.derived);
      deep = rw signs_said (omega (arith, accepted_line.shallow));
      room = rw signs_said (omega (arith, s.0, accepted_line.limits.nodes, sentence_weight accepted_line.signs accepted_line.tree accepted_line.reads.derived));
      held = omega (arith, ap length s.1, length-replicate {A = ℕ} max_rule_nodes 0);
    }

    module _ (rest : List SignCode) (o' : Emitted) (r : Read Arrows 1 (take n signs) o rest o') where
      read_ends : signs_in rest ≡ []
      read_ends = ends (signs_in rest) (sym (phrase_flat r.phrase 0) ∙ read_due) r.stops
        where
          read_due : flat (signs_in (take n signs)) operand 0 ≡ true
          read_due = rw signs_said (sentence_flat accepted_line.reads.derived)

      read_tree : r.tree ≡ accepted_line.tree
      read_tree =
          let x : Phrase Arrows (signs_in (take n signs)) (signs_in rest) r.tree = r.phrase in
          let y : Sentence accepted_line.signs r.tree = rw (signs_said, read_ends) at x in
          unique y accepted_line.reads.derived

      read_words : tree_words r.tree 0 ≡ line_words line
      unfolding line_words
      read_words = rw (accepted_line.nodes, ← read_tree)

      read_laid : Laid (line_words line) o o'
      read_laid = relaid (ap (λ (b : ℕ). tree_words r.tree b) s.0 ∙ read_words) r.laid

      read_count : length (line_words line) ≡ o'.count
      read_count = omega (arith, read_laid.next, s.0)

      read_lies : take o'.count o'.words ≡ line_words line
      unfolding laid_at
      read_lies =
          let l : o'.words ≡ line_words line ++ drop (0 + length (line_words line)) o.words = rw s.0 at read_laid.lies in
          rw (l, ← read_count) (take_at (line_words line) _ (length (line_words line)) refl)

      -- `read_line`, `read_line_answer` and `read_line_nodes`: the rule
      pub read_accepted : (entry : List ℕ) → max_rule_nodes ≤ length entry → (exit : List ℕ) → exit ≡ left accepted max_rule_nodes (take o'.count o'.words) entry → ReadLine controller line entry (Ok (record { controller = controller; count = o'.count })) exit
      unfolding read_line_answer read_line_nodes line_words
      read_accepted entry room exit e =
          let q : read_line_number controller line entry ≡ 0 = full_number controller line entry room ∙ sym fine in
          let c : length (line_nodes line) ≡ o'.count = sym (length-map (line_nodes line) node_word) ∙ read_count in
          record {
            answered = rw (q, c);
            nodes = rw q (e ∙ rw read_lies);
          }
