-- Laws of writing the first line and the lines of the masks.
use mathlib.Core.Path.{◌≡◌, ap, sym}
use Prim.Native.Nat.{ℕ, ◌+◌, ◌<◌, ◌≤◌}
use native.Mathlib.Omega.{arith}
use mathlib.Core.List.{List, [], ◌∷◌, ◌++◌, append_assoc}
use lib.ListN.{length}
use borrow.Author.Rules.{rules}
use Rattle.definitions.specs.Lines.{tab, newline, digits}
use Rattle.definitions.specs.RecordingText.{recording_word}
use Rattle.definitions.specs.RecordingWriting.{recording_heading_text, masks_text, opening_text}
use Rattle.printing.specs.Printing.{Printed}
use Rattle.printing.proofs.LineLaws.{first_room_lem, rest_room, both}
use Rattle.recording_writer.specs.Writing.{heading_line, OpeningRoom}

-- ---- `put_heading`
module _ (C N : ℕ) (o : List ℕ) (room : length (heading_line C N) ≤ length o) where
  tail₁ : List ℕ
  tail₁ = (tab ∷ digits C) ++ ((tab ∷ digits N) ++ (newline ∷ []))

  heading_is : heading_line C N ≡ recording_word ++ tail₁
  unfolding heading_line recording_heading_text tail₁
  heading_is = simp append_assoc

  parts : 0 + length (recording_word ++ tail₁) ≤ length o
  parts = omega (arith, ap length heading_is)

  pub heading_word_room : 9 ≤ length o
  heading_word_room = omega (arith, first_room_lem recording_word tail₁ o 0 parts)

  module _ (p : ℕ) (o₁ : List ℕ) (first : Printed recording_word o 0 p o₁) (k₁ : length o₁ ≡ length o) where
    after_word : p + length ((tab ∷ digits C) ++ ((tab ∷ digits N) ++ (newline ∷ []))) ≤ length o₁
    unfolding tail₁
    after_word = rest_room recording_word tail₁ o 0 parts o₁ p first k₁

    pub controllers_room : p + length (tab ∷ digits C) ≤ length o₁
    controllers_room = first_room_lem (tab ∷ digits C) ((tab ∷ digits N) ++ (newline ∷ [])) o₁ p after_word

    module _ (q : ℕ) (o₂ : List ℕ) (second : Printed (tab ∷ digits C) o₁ p q o₂) (k₂ : length o₂ ≡ length o₁) where
      after_controllers : q + length ((tab ∷ digits N) ++ (newline ∷ [])) ≤ length o₂
      after_controllers = rest_room (tab ∷ digits C) ((tab ∷ digits N) ++ (newline ∷ [])) o₁ p after_word o₂ q second k₂

      pub count_room : q + length (tab ∷ digits N) ≤ length o₂
      count_room = first_room_lem (tab ∷ digits N) (newline ∷ []) o₂ q after_controllers

      module _ (r : ℕ) (o₃ : List ℕ) (third : Printed (tab ∷ digits N) o₂ q r o₃) where
        pub heading_end_room : length o₃ ≡ length o₂ → r < length o₃
        heading_end_room k₃ = omega (arith, rest_room (tab ∷ digits N) (newline ∷ []) o₂ q after_controllers o₃ r third k₃)

        -- `put_heading`: the word, both fields and the end are `heading_line`
        pub heading_written : (e : ℕ) (o₄ : List ℕ) → Printed (newline ∷ []) o₃ r e o₄ → Printed (heading_line C N) o 0 e o₄
        unfolding tail₁
        heading_written e o₄ last =
            rw heading_is (both recording_word tail₁ o 0 parts o₁ p first o₄ e
            (both (tab ∷ digits C) ((tab ∷ digits N) ++ (newline ∷ [])) o₁ p after_word o₂ q second o₄ e
            (both (tab ∷ digits N) (newline ∷ []) o₂ q after_controllers o₃ r third o₄ e last)))

pub ruleset heading_laws = (rules, heading_word_room, controllers_room, count_room, heading_end_room, heading_written)

-- ---- `put_opening`
module _ (C N : ℕ) (masks o : List ℕ) (w : OpeningRoom C N masks o) where
  opening_is : opening_text C N masks [] ≡ heading_line C N ++ masks_text masks []
  unfolding opening_text heading_line
  opening_is = sym (append_assoc (recording_heading_text C N) (newline ∷ []) (masks_text masks []))

  opening_parts : 0 + length (heading_line C N ++ masks_text masks []) ≤ length o
  opening_parts = omega (arith, ap length opening_is, w.room)

  pub opening_heading_room : length (heading_line C N) ≤ length o
  opening_heading_room = omega (arith, first_room_lem (heading_line C N) (masks_text masks []) o 0 opening_parts)

  module _ (p : ℕ) (o₁ : List ℕ) (first : Printed (heading_line C N) o 0 p o₁) where
    pub opening_masks_room : length o₁ ≡ length o → p + length (masks_text masks []) ≤ length o₁
    opening_masks_room k = rest_room (heading_line C N) (masks_text masks []) o 0 opening_parts o₁ p first k

    -- `put_opening`: the first line and the masks are `opening_text`
    pub opening_written : (e : ℕ) (o₂ : List ℕ) → Printed (masks_text masks []) o₁ p e o₂ → Printed (opening_text C N masks []) o 0 e o₂
    opening_written e o₂ last = rw opening_is (both (heading_line C N) (masks_text masks []) o 0 opening_parts o₁ p first o₂ e last)

pub ruleset opening_laws = (rules, opening_heading_room, opening_masks_room, opening_written)
