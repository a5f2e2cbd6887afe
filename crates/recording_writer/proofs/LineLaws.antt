-- Laws of writing the lines of masks and of states.
use mathlib.Core.Path.{◌≡◌, refl, sym, ◌∙◌}
use Prim.Native.Nat.{ℕ, ◌+◌, ◌^◌, ◌<◌, ◌≤◌}
use native.Mathlib.Omega.{arith}
use mathlib.Core.List.{List, [], ◌∷◌, ◌++◌, map}
use lib.ListN.{length, get_or}
use mir.Syntax.{w32}
use mir.Val.{Fits}
use borrow.Author.Rules.{rules}
use Rattle.std.proofs.lemmas.List.{length-map, get_or-map}
use Rattle.definitions.specs.Lines.{tab, newline}
use Rattle.definitions.specs.Recordings.{atoms_of, marks_of}
use Rattle.definitions.specs.RecordingText.{owns_word, at_word, word_digits, mark_digits}
use Rattle.definitions.specs.RecordingWriting.{hex_text, mask_text, state_text, masks_text, states_text}
use Rattle.printing.specs.Printing.{Printed, lines_text}
use Rattle.printing.proofs.LineLaws.{first_room_lem, rest_room, both}
use Rattle.printing.proofs.LinedLaws.{Lined, lined_none, lined_done, lined_room, lined_end, lined_next}

-- ---- `put_mask`
module _ (m : ℕ) (o : List ℕ) (at : ℕ) (room : at + length (mask_text m) ≤ length o) where
  mask_parts : at + length ((owns_word ++ (tab ∷ [])) ++ hex_text word_digits m) ≤ length o
  unfolding mask_text
  mask_parts = room

  pub owns_room : at + 5 ≤ length o
  owns_room = first_room_lem (owns_word ++ (tab ∷ [])) (hex_text word_digits m) o at mask_parts

  module _ (q : ℕ) (o' : List ℕ) (word : Printed (owns_word ++ (tab ∷ [])) o at q o') where
    pub mask_room : length o' ≡ length o → q + length (hex_text word_digits m) ≤ length o'
    mask_room kept = rest_room (owns_word ++ (tab ∷ [])) (hex_text word_digits m) o at mask_parts o' q word kept

    -- `put_mask`: the word and the digits are `mask_text`
    pub mask_written : (r : ℕ) (o'' : List ℕ) → Printed (hex_text word_digits m) o' q r o'' → Printed (mask_text m) o at r o''
    unfolding mask_text
    mask_written r o'' p = both (owns_word ++ (tab ∷ [])) (hex_text word_digits m) o at mask_parts o' q word o'' r p

pub ruleset mask_laws = (rules, owns_room, mask_room, mask_written)

-- ---- `put_state`
module _ (C s : ℕ) (o : List ℕ) (at : ℕ) (room : at + length (state_text C s) ≤ length o) where
  marks : List ℕ
  marks = hex_text (mark_digits C) (marks_of s)

  word : List ℕ
  word = hex_text word_digits (atoms_of s)

  state_parts : at + length ((at_word ++ (tab ∷ [])) ++ (marks ++ ((tab ∷ []) ++ word))) ≤ length o
  unfolding state_text marks word
  state_parts = room

  pub at_room : at + 3 ≤ length o
  at_room = first_room_lem (at_word ++ (tab ∷ [])) (marks ++ ((tab ∷ []) ++ word)) o at state_parts

  module _ (p : ℕ) (o₁ : List ℕ) (first : Printed (at_word ++ (tab ∷ [])) o at p o₁) (k₁ : length o₁ ≡ length o) where
    after_word : p + length (marks ++ ((tab ∷ []) ++ word)) ≤ length o₁
    after_word = rest_room (at_word ++ (tab ∷ [])) (marks ++ ((tab ∷ []) ++ word)) o at state_parts o₁ p first k₁

    module _ (a d : ℕ) (am : a ≡ marks_of s) (ds : d ≡ mark_digits C) where
      these : hex_text d a ≡ marks
      unfolding marks
      these = rw (am, ds)

      pub marks_room : p + length (hex_text d a) ≤ length o₁
      marks_room = rw these (first_room_lem marks ((tab ∷ []) ++ word) o₁ p after_word)

      module _ (q : ℕ) (o₂ : List ℕ) (second : Printed (hex_text d a) o₁ p q o₂) (k₂ : length o₂ ≡ length o₁) where
        marked : Printed marks o₁ p q o₂
        marked = rw these at second

        after_marks : q + length ((tab ∷ []) ++ word) ≤ length o₂
        after_marks = rest_room marks ((tab ∷ []) ++ word) o₁ p after_word o₂ q marked k₂

        pub tab_room : q < length o₂
        tab_room = omega (arith, first_room_lem (tab ∷ []) word o₂ q after_marks)

        module _ (r : ℕ) (o₃ : List ℕ) (third : Printed (tab ∷ []) o₂ q r o₃) (w : ℕ) (ws : w ≡ atoms_of s) where
          that : hex_text word_digits w ≡ word
          unfolding word
          that = rw ws

          pub word_room : length o₃ ≡ length o₂ → r + length (hex_text word_digits w) ≤ length o₃
          word_room k₃ = rw that (rest_room (tab ∷ []) word o₂ q after_marks o₃ r third k₃)

          -- `put_state`: the word, the marks and the atoms are `state_text`
          pub state_written : (e : ℕ) (o₄ : List ℕ) → Printed (hex_text word_digits w) o₃ r e o₄ → Printed (state_text C s) o at e o₄
          unfolding state_text marks word
          state_written e o₄ last =
              both (at_word ++ (tab ∷ [])) (marks ++ ((tab ∷ []) ++ word)) o at state_parts o₁ p first o₄ e
              (both marks ((tab ∷ []) ++ word) o₁ p after_word o₂ q marked o₄ e
              (both (tab ∷ []) word o₂ q after_marks o₃ r third o₄ e (rw that at last)))

-- the marks of a state are a word
pub marks_fit : (m s : ℕ) → m ≡ marks_of s → s < 2 ^ 64 → Fits w32 m
marks_fit m s e h = record { fits = omega arith }

pub ruleset state_laws = (rules, marks_fit, at_room, marks_room, tab_room, word_room, state_written)

-- ---- a line for each word of a list
module _ (f : ℕ → List ℕ) where
  -- the lines of the first i words are written
  pub record Written (ws o : List ℕ) (start : ℕ) (o' : List ℕ) (at i : ℕ) : Type 0 where
    pub lined : Lined (map f ws) o start o' at i

  -- `put_masks` and `put_states`, before the first word: no line is written
  pub none_written : (ws o : List ℕ) (start : ℕ) → Written ws o start o start 0
  none_written ws o start = record { lined = lined_none (map f ws) o start }

  module _ (ws o : List ℕ) (start : ℕ) (o' : List ℕ) (at i : ℕ) (inv : Written ws o start o' at i) (all : List ℕ) (is : all ≡ lines_text (map f ws)) (room : start + length all ≤ length o) where
    space : start + length (lines_text (map f ws)) ≤ length o
    space = rw is at room

    -- `put_masks` and `put_states`, all words are passed: all lines are written
    pub all_written : length ws ≤ i → Printed all o start at o'
    all_written h = rw is (lined_done (map f ws) o start o' at i inv.lined space (omega (arith, length-map ws f)))

    module _ (h : i < length ws) (line : List ℕ) (of : line ≡ f (get_or ws i 0)) where
      turn : i < length (map f ws)
      turn = omega (arith, length-map ws f)

      next_is : get_or (map f ws) i [] ≡ line
      next_is = get_or-map f ws i 0 [] h ∙ sym of

      pub line_room : at + length line ≤ length o'
      line_room = lined_room (map f ws) o start o' at i inv.lined space turn line next_is

      module _ (q : ℕ) (o'' : List ℕ) (written : Printed line o' at q o'') (kept : length o'' ≡ length o') where
        pub end_room : q < length o''
        end_room = lined_end (map f ws) o start o' at i inv.lined space turn line next_is q o'' written kept

        -- `put_masks` and `put_states`, a turn: one line more is written
        pub one_written : (r : ℕ) (o''' : List ℕ) → Printed (newline ∷ []) o'' q r o''' → length o''' ≡ length o'' → Written ws o start o''' r (i + 1)
        one_written r o''' end held =
            record { lined = lined_next (map f ws) o start o' at i inv.lined space turn line next_is q o'' written kept r o''' end held }

-- the texts of masks and of states are these lines
pub masks_lines : (ms : List ℕ) → masks_text ms [] ≡ lines_text (map mask_text ms)
unfolding masks_text lines_text
masks_lines [] = refl
masks_lines (m ∷ ms) = rw (masks_lines ms)

pub states_lines : (C : ℕ) (ss : List ℕ) → states_text C ss ≡ lines_text (map (state_text C) ss)
unfolding states_text lines_text
states_lines C [] = refl
states_lines C (s ∷ ss) = rw (states_lines C ss)

pub ruleset lines_laws = (rules, masks_lines, states_lines, none_written, all_written, line_room, end_room, one_written)
