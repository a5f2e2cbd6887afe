-- Laws of a loop that writes lines, each closed by byte 10.
use mathlib.Core.Path.{◌≡◌, refl, ap, sym, ◌∙◌}
use mathlib.Core.List.{List, [], ◌∷◌, ◌++◌, append_assoc}
use Prim.Native.Nat.{ℕ, ◌+◌, ◌<◌, ◌≤◌}
use native.Mathlib.Omega.{arith}
use native.Mathlib.Numerals.{add-one}
use lib.ListN.{length, take, drop, get_or, length-append, take-append-drop}
use lib.Seq.{take-suc, take_all}
use Rattle.definitions.specs.Lines.{newline}
use Rattle.printing.specs.Printing.{Printed, lines_text}
use Rattle.printing.proofs.PrintLaws.{printed_seq, printed_none}

lines_append : (xs ys : List (List ℕ)) → lines_text (xs ++ ys) ≡ lines_text xs ++ lines_text ys
unfolding lines_text
lines_append [] ys = refl
lines_append (x ∷ xs) ys = rw (lines_append xs ys) (simp append_assoc)

lines_one : (l : List ℕ) → lines_text (l ∷ []) ≡ l ++ (newline ∷ [])
unfolding lines_text
lines_one l = refl

-- the first i lines are written
pub record Lined (lines : List (List ℕ)) (o : List ℕ) (start : ℕ) (o' : List ℕ) (at i : ℕ) : Type 0 where
  pub within : i ≤ length lines
  pub kept : length o' ≡ length o
  pub lies : Printed (lines_text (take i lines)) o start at o'

-- before the first turn: no line is written
pub lined_none : (lines : List (List ℕ)) (o : List ℕ) (start : ℕ) → Lined lines o start o start 0
unfolding lines_text
lined_none lines o start = record { within = omega arith; kept = refl; lies = printed_none o start }

module _ (lines : List (List ℕ)) (o : List ℕ) (start : ℕ) (o' : List ℕ) (at i : ℕ) (inv : Lined lines o start o' at i) (room : start + length (lines_text lines) ≤ length o) where
  -- all lines are written
  pub lined_done : length lines ≤ i → Printed (lines_text lines) o start at o'
  lined_done h = rw (take_all i lines h) at inv.lies

  module _ (h : i < length lines) (line : List ℕ) (is : get_or lines i [] ≡ line) where
    step : lines_text (take (i + 1) lines) ≡ lines_text (take i lines) ++ (line ++ (newline ∷ []))
    step = rw (add-one, take-suc lines i [] h, lines_append, lines_one, is)

    fits : start + length (lines_text (take i lines)) + length line + 1 ≤ length o
    fits =
        let front = lines_text (take (i + 1) lines) in
        let back = lines_text (drop (i + 1) lines) in
        let all : length front + length back ≡ length (lines_text lines) =
        sym (length-append front back) ∙ (ap length (sym (lines_append (take (i + 1) lines) (drop (i + 1) lines))) ∙ ap (λ (l : List (List ℕ)). length (lines_text l)) (take-append-drop (i + 1) lines)) in
        omega (arith, all, ap length step, length-append (lines_text (take i lines)) (line ++ (newline ∷ [])), length-append line (newline ∷ []))

    -- there is room for the next line
    pub lined_room : at + length line ≤ length o'
    lined_room = omega (arith, fits, inv.kept, inv.lies.next)

    module _ (q : ℕ) (o'' : List ℕ) (written : Printed line o' at q o'') (kept : length o'' ≡ length o') where
      -- and for its end
      pub lined_end : q < length o''
      lined_end = omega (arith, fits, inv.kept, inv.lies.next, written.next)

      -- a turn: one line more is written
      pub lined_next : (r : ℕ) (o''' : List ℕ) → Printed (newline ∷ []) o'' q r o''' → length o''' ≡ length o'' → Lined lines o start o''' r (i + 1)
      lined_next r o''' end held = record {
        within = omega arith;
        kept = held ∙ (kept ∙ inv.kept);
        lies = rw step (printed_seq (lines_text (take i lines)) (line ++ (newline ∷ [])) o o' o''' start at r (omega (arith, fits)) inv.lies
            (printed_seq line (newline ∷ []) o' o'' o''' at q r lined_room written end));
      }
