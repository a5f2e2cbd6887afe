-- Laws of the lines of pairs: one for each call that wants room, each turn and each return, and how long a line is.
use mathlib.Core.Path.{◌≡◌, refl, sym, ap, ◌∙◌}
use mathlib.Core.List.{List, [], ◌∷◌, ◌++◌, append_assoc, append-nil}
use Prim.Native.Nat.{ℕ, ◌+◌, ◌/◌, ◌%◌, ◌^◌, ◌<◌, ◌≤◌}
use native.Mathlib.Omega.{arith}
use native.Mathlib.Numerals.{add-one}
use lib.ListN.{length, take, drop, get_or, length-append, take-append-drop}
use lib.Seq.{take-suc, take_all}
use mir.Syntax.{w32}
use mir.Val.{Fits}
use borrow.Author.Rules.{rules}
use Rattle.definitions.specs.Tables.{Rule}
use Rattle.definitions.specs.Recordings.{Recording}
use Rattle.definitions.specs.Lines.{bytes, tab, newline, digits}
use Rattle.definitions.specs.Why.{state_of_place, word_number, pair_text}
use Rattle.projection.specs.Places.{states_only, Countable}
use Rattle.mark_words.proofs.WordLaws.{bit_number}
use Rattle.rules.specs.Meaning.{OfWord}
use Rattle.rules.specs.declared.node.Node as code
use Rattle.printing.specs.Printing.{Printed, counted_line}
use Rattle.judges.specs.declared.local.LocalTrace.{LocalTrace}
use Rattle.printing.proofs.PrintLaws.{digits_fit, printed_none}
use Rattle.printing.proofs.LineLaws.{first_room_lem, rest_room, both}
use Rattle.evidence_text.specs.Pairs.{max_pair_bytes, pair_of, line_text, place_text, reading_text, pair_in, pairs_in, PairReady, PairsReady}
use Rattle.evidence_text.specs.declared.line.Line.{Line}
use Rattle.projection.proofs.StateLaws.{state_low}

-- ---- `line_of`
module _ (r : Rule) (l : LocalTrace) (R : Recording) (w : ℕ) (so : PairReady r l R w) where
  pub node_inside : w % 64 < length r.nodes
  node_inside = so.node

  pub place_inside : w / 64 < length l.words
  place_inside = so.place

  pub place_below : w / 64 < 128
  place_below = so.few

  pub pair_countable : Countable R.count l.controller R.states
  pair_countable = so.recording

  module _ (x : code.Node) (is : OfWord (get_or r.nodes (w % 64) 0) x) where
    pub atom_below : x.first < 32
    atom_below = omega (arith, is.first, so.atom)

    module _ (s : ℕ) (at : s ≡ state_of_place (states_only R.count R.states) l.controller (w / 64)) where
      pub state_fits : Fits w32 s
      state_fits = record { fits = omega (arith, state_low (states_only R.count R.states) l.controller (w / 64) so.recording.some_state, so.recording.few_states) }

      -- `line_of`: state, step, atom, value and node are those of `pair_in`
      pub line_is : pair_text s (w / 64) x.first (get_or l.words (w / 64) 0 / 2 ^ x.first % 2) (w % 64) ≡ pair_in r l R (pair_of w)
      unfolding pair_in
      line_is = rw (at, is.first, bit_number (get_or l.words (w / 64) 0) (get_or r.nodes (w % 64) 0 / 256 % 4096))

pub ruleset line_laws = (rules, node_inside, place_inside, place_below, pair_countable, atom_below, state_fits, line_is)

-- ---- the parts of a line
-- a named number and its end
part_of : (word : List ℕ) (n : ℕ) (end rest : List ℕ) → word_number word n ++ (end ++ rest) ≡ counted_line word n end ++ rest
unfolding counted_line
part_of word n end rest = simp append_assoc

last_part : (word : List ℕ) (n : ℕ) (end : List ℕ) → word_number word n ++ end ≡ counted_line word n end
unfolding counted_line
last_part word n end = append_assoc word (tab ∷ digits n) end

two_parts : (xs ys zs : List ℕ) → xs ++ (tab ∷ (ys ++ (tab ∷ zs))) ≡ (xs ++ (tab ∷ (ys ++ (tab ∷ [])))) ++ zs
two_parts xs ys zs = simp append_assoc

module _ (l : Line) where
  abbrev state : List ℕ
  state = counted_line (bytes "state") l.state (tab ∷ [])

  abbrev step : List ℕ
  step = counted_line (bytes "step") l.step (tab ∷ [])

  abbrev atom : List ℕ
  atom = counted_line (bytes "atom") l.atom (tab ∷ [])

  abbrev value : List ℕ
  value = counted_line (bytes "is") l.value (tab ∷ [])

  abbrev node : List ℕ
  node = counted_line (bytes "node") l.node (newline ∷ [])

  place_parts : place_text l ≡ state ++ step
  unfolding place_text
  place_parts = part_of (bytes "state") l.state (tab ∷ []) _ ∙ ap (λ (r : List ℕ). state ++ r) (last_part (bytes "step") l.step (tab ∷ []))

  reading_parts : reading_text l ≡ atom ++ (value ++ node)
  unfolding reading_text
  reading_parts =
      part_of (bytes "atom") l.atom (tab ∷ []) _
      ∙ ap (λ (r : List ℕ). atom ++ r) (part_of (bytes "is") l.value (tab ∷ []) _
      ∙ ap (λ (r : List ℕ). value ++ r) (last_part (bytes "node") l.node (newline ∷ [])))

  halves : line_text l ≡ place_text l ++ reading_text l
  unfolding pair_text place_text reading_text
  halves = two_parts (word_number (bytes "state") l.state) (word_number (bytes "step") l.step) _

-- ---- `put_place`
module _ (l : Line) (o : List ℕ) (at : ℕ) (room : at + length (place_text l) ≤ length o) where
  place_room : at + length (state l ++ step l) ≤ length o
  place_room = rw (place_parts l) at room

  pub state_room : at + length (state l) ≤ length o
  state_room = first_room_lem (state l) (step l) o at place_room

  module _ (o₁ : List ℕ) (p : ℕ) (one : Printed (state l) o at p o₁) where
    pub step_room : length o₁ ≡ length o → p + length (step l) ≤ length o₁
    step_room kept = rest_room (state l) (step l) o at place_room o₁ p one kept

    -- `put_place`: the state and the step are `place_text`
    pub place_written : (o₂ : List ℕ) (e : ℕ) → Printed (step l) o₁ p e o₂ → Printed (place_text l) o at e o₂
    place_written o₂ e two = rw (place_parts l) (both (state l) (step l) o at place_room o₁ p one o₂ e two)

pub ruleset place_laws = (rules, state_room, step_room, place_written)

-- ---- `put_reading`
module _ (l : Line) (o : List ℕ) (at : ℕ) (room : at + length (reading_text l) ≤ length o) where
  reading_room : at + length (atom l ++ (value l ++ node l)) ≤ length o
  reading_room = rw (reading_parts l) at room

  pub atom_room : at + length (atom l) ≤ length o
  atom_room = first_room_lem (atom l) (value l ++ node l) o at reading_room

  module _ (o₁ : List ℕ) (p : ℕ) (one : Printed (atom l) o at p o₁) (kept₁ : length o₁ ≡ length o) where
    after_atom : p + length (value l ++ node l) ≤ length o₁
    after_atom = rest_room (atom l) (value l ++ node l) o at reading_room o₁ p one kept₁

    pub value_room : p + length (value l) ≤ length o₁
    value_room = first_room_lem (value l) (node l) o₁ p after_atom

    module _ (o₂ : List ℕ) (q : ℕ) (two : Printed (value l) o₁ p q o₂) where
      pub node_room : length o₂ ≡ length o₁ → q + length (node l) ≤ length o₂
      node_room kept₂ = rest_room (value l) (node l) o₁ p after_atom o₂ q two kept₂

      -- `put_reading`: the atom, its value and the node are `reading_text`
      pub reading_written : (o₃ : List ℕ) (e : ℕ) → Printed (node l) o₂ q e o₃ → Printed (reading_text l) o at e o₃
      reading_written o₃ e three =
          rw (reading_parts l)
          (both (atom l) (value l ++ node l) o at reading_room o₁ p one o₃ e
          (both (value l) (node l) o₁ p after_atom o₂ q two o₃ e three))

pub ruleset reading_laws = (rules, atom_room, value_room, node_room, reading_written)

-- ---- `put_pair`
module _ (l : Line) (o : List ℕ) (at : ℕ) (room : at + length (line_text l) ≤ length o) where
  both_room : at + length (place_text l ++ reading_text l) ≤ length o
  both_room = rw (halves l) at room

  pub place_fits : at + length (place_text l) ≤ length o
  place_fits = first_room_lem (place_text l) (reading_text l) o at both_room

  module _ (o₁ : List ℕ) (p : ℕ) (one : Printed (place_text l) o at p o₁) where
    pub reading_fits : length o₁ ≡ length o → p + length (reading_text l) ≤ length o₁
    reading_fits kept = rest_room (place_text l) (reading_text l) o at both_room o₁ p one kept

    -- `put_pair`: the place and the reading are `line_text`
    pub pair_written : (o₂ : List ℕ) (e : ℕ) → Printed (reading_text l) o₁ p e o₂ → Printed (line_text l) o at e o₂
    pair_written o₂ e two = rw (halves l) (both (place_text l) (reading_text l) o at both_room o₁ p one o₂ e two)

pub ruleset pair_laws = (rules, place_fits, reading_fits, pair_written)

-- ---- `put_pairs`
module _ (r : Rule) (l : LocalTrace) (R : Recording) where
  abbrev text : List ℕ → List ℕ
  text ws = pairs_in r l R ws

  text_append : (xs ys : List ℕ) → text (xs ++ ys) ≡ text xs ++ text ys
  text_append [] ys = refl
  text_append (x ∷ xs) ys =
      ap (λ (z : List ℕ). pair_in r l R (pair_of x) ++ z) (text_append xs ys)
      ∙ sym (append_assoc (pair_in r l R (pair_of x)) (text xs) (text ys))

  -- before pair i: the lines of those before it are printed
  pub record Printing (pairs : List ℕ) (at : ℕ) (o : List ℕ) (i end : ℕ) (o' : List ℕ) : Type 0 where
    pub within : i ≤ length pairs
    pub kept : length o' ≡ length o
    pub printed : Printed (text (take i pairs)) o at end o'

  -- `put_pairs`, before the first turn: no line is printed
  pub printing_none : (pairs : List ℕ) (at : ℕ) (o : List ℕ) → Printing pairs at o 0 at o
  printing_none pairs at o = record { within = omega arith; kept = refl; printed = printed_none o at }

  module _ (pairs : List ℕ) (at : ℕ) (o : List ℕ) (given : PairsReady r l R pairs at o) (i end : ℕ) (o' : List ℕ)
      (so : Printing pairs at o i end o') where
    pub printing_kept : length o' ≡ length o
    printing_kept = so.kept

    -- `put_pairs`, all pairs are printed: the lines are `pairs_in`
    pub printing_done : length pairs ≤ i → Printed (text pairs) o at end o'
    printing_done h = rw (take_all i pairs h) at so.printed

    module _ (h : i < length pairs) where
      pub printing_ready : PairReady r l R (get_or pairs i 0)
      printing_ready = given.each i h

      abbrev this : List ℕ
      this = pair_in r l R (pair_of (get_or pairs i 0))

      one_more_lem : text (take (i + 1) pairs) ≡ text (take i pairs) ++ this
      one_more_lem = rw (add-one i, take-suc pairs i 0 h, text_append (take i pairs) (get_or pairs i 0 ∷ []), append-nil)

      all_lines : text pairs ≡ text (take (i + 1) pairs) ++ text (drop (i + 1) pairs)
      all_lines = ap text (sym (take-append-drop (i + 1) pairs)) ∙ text_append (take (i + 1) pairs) (drop (i + 1) pairs)

      more_room : at + length (text (take i pairs) ++ this) ≤ length o
      more_room =
          omega (
            arith,
            given.room,
            ap length all_lines,
            length-append (text (take (i + 1) pairs)) (text (drop (i + 1) pairs)),
            ap length one_more_lem,
          )

      module _ (x : Line) (is : line_text x ≡ this) where
        pub printing_room : end + length (line_text x) ≤ length o'
        printing_room = rw is (rest_room (text (take i pairs)) this o at more_room o' end so.printed so.kept)

        -- `put_pairs`, a turn: the line of one pair more of `pairs_in` is printed
        pub printing_next : (o'' : List ℕ) (e : ℕ) → length o'' ≡ length o' → Printed (line_text x) o' end e o'' → Printing pairs at o (i + 1) e o''
        printing_next o'' e kept p = record {
          within = omega arith;
          kept = kept ∙ so.kept;
          printed = rw one_more_lem (both (text (take i pairs)) this o at more_room o' end so.printed o'' e (rw is at p));
        }

pub ruleset pairs_laws = (rules, printing_none, printing_kept, printing_done, printing_ready, printing_room, printing_next)

-- ---- how long a line is
counted_length : (word : List ℕ) (n : ℕ) (end : List ℕ) → length (counted_line word n end) ≡ length word + 1 + length (digits n) + length end
unfolding counted_line
counted_length word n end = omega (arith, length-append word (tab ∷ (digits n ++ end)), length-append (digits n) end)

pub line_length_lem : (l : Line) → l.state < 1000 → l.step < 1000 → l.atom < 100 → l.value < 10 → l.node < 100 → length (line_text l) ≤ max_pair_bytes
line_length_lem l a b c d e =
    omega (
      arith,
      ap length (halves l),
      length-append (place_text l) (reading_text l),
      ap length (place_parts l),
      length-append (state l) (step l),
      ap length (reading_parts l),
      length-append (atom l) (value l ++ node l),
      length-append (value l) (node l),
      counted_length (bytes "state") l.state (tab ∷ []),
      counted_length (bytes "step") l.step (tab ∷ []),
      counted_length (bytes "atom") l.atom (tab ∷ []),
      counted_length (bytes "is") l.value (tab ∷ []),
      counted_length (bytes "node") l.node (newline ∷ []),
      digits_fit 2 l.state (omega arith),
      digits_fit 2 l.step (omega arith),
      digits_fit 1 l.atom (omega arith),
      digits_fit 0 l.value (omega arith),
      digits_fit 1 l.node (omega arith),
    )
