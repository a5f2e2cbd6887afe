-- Laws of a loop over lines: what each line gave is laid over lent space, and what is left to read is left in the text.
use mathlib.Core.Path.{◌≡◌, refl, ap, sym, ◌∙◌}
use mathlib.Core.List.{List, [], ◌∷◌, ◌++◌, append_assoc, append-nil}
use Prim.Native.Nat.{ℕ, suc, ◌+◌, ◌<◌, ◌≤◌}
use native.Mathlib.Omega.{arith}
use native.Mathlib.Numerals.{add-one}
use lib.ListN.{length, take, drop, set, take-append-drop, length-set, length-drop}
use lib.Seq.{take-suc-set, drop-set-lt, drop-drop, length-take-le}
use Rattle.definitions.specs.Lines.{rest_of, Scan, stop, more}
use Rattle.std.specs.Prelude.{Result, Ok, Err}
use Rattle.definitions.specs.Limits.{accepted}
use Rattle.lines.specs.Reading.{FirstLine, LinesScanned, stopped_number, stopped_at}
use Rattle.lines.specs.declared.Line.{Line}
use Rattle.lines.specs.declared.Stop.{Stop}
use Rattle.rules.specs.Refusals.{number_of}
use Rattle.rules.specs.declared.refusal.Refusal.{Refusal}

-- a list that is laid from the front: `total` is what is laid so far and what is left
pub record Fills (total o o' : List ℕ) (n : ℕ) (left : List ℕ) : Type 0 where
  pub kept : length o' ≡ length o
  pub whole : total ≡ take n o' ++ left
  pub rest : drop n o' ≡ drop n o

fills_none : (total o : List ℕ) → Fills total o o 0 total
fills_none total o = record { kept = refl; whole = refl; rest = refl }

fills_next : (total o o' : List ℕ) (n w : ℕ) (left : List ℕ) → Fills total o o' n (w ∷ left) → n < length o → Fills total o (set o' n w) (n + 1) left
fills_next total o o' n w left f h =
    let lo : n < length o' = omega (arith, f.kept) in
    record {
      kept = length-set o' n w ∙ f.kept;
      whole = f.whole ∙ rw (add-one, take-suc-set o' n w lo, append_assoc);
      rest = drop-set-lt (n + 1) o' n w (omega arith) ∙ (sym (drop-drop 1 n o') ∙ (ap (λ (l : List ℕ). drop 1 l) f.rest ∙ drop-drop 1 n o));
    }

fills_stop : (total o o' : List ℕ) (n : ℕ) → Fills total o o' n [] → n ≤ length o → o' ≡ total ++ drop (length total) o
fills_stop total o o' n f h =
    let ws : total ≡ take n o' = f.whole ∙ append-nil (take n o') in
    let ln : length (take n o') ≡ n = length-take-le n o' (omega (arith, f.kept)) in
    rw (ws, ln) (sym (take-append-drop n o') ∙ ap (λ (l : List ℕ). take n o' ++ l) f.rest)

-- n lines are read, up to the place `at` of the text
pub record Lines (total : Scan) (text o o' : List ℕ) (at n : ℕ) (left : Scan) : Type 0 where
  pub inside : at ≤ length text
  pub filled : Fills total.words o o' n left.words
  pub number : total.number ≡ left.number
  pub rest : total.rest ≡ left.rest

pub lines_none : (total left : Scan) (text o : List ℕ) (at : ℕ) → at ≤ length text → total ≡ left → Lines total text o o at 0 left
lines_none total left text o at h e = rw e (record { inside = h; filled = fills_none left.words o; number = refl; rest = refl })

module _ (total : Scan) (text o o' : List ℕ) (at n : ℕ) (left : Scan) (inv : Lines total text o o' at n left) where
  -- the reading ends at `at`, whether it is refused there or not
  ends : (r : Result ℕ Stop) → at ≡ stopped_at r → left ≡ stop (stopped_number r) (drop at text) → n ≤ length o → LinesScanned total text o r o'
  ends r p e h =
      let f : Fills total.words o o' n [] = rw e at inv.filled in
      record {
        number = sym (inv.number ∙ ap (λ (s : Scan). s.number) e);
        inside = rw (← p) inv.inside;
        rest = rw (← p) (sym (inv.rest ∙ ap (λ (s : Scan). s.rest) e));
        words = fills_stop total.words o o' n f h;
      }

  -- all lines are read, and the text goes on at `at`
  pub lines_done : left ≡ stop accepted (drop at text) → n ≤ length o → LinesScanned total text o (Ok at) o'
  lines_done e h = ends (Ok at) refl e h

  -- the line at `at` is refused
  pub lines_stop : (e : Refusal) → left ≡ stop (number_of e) (drop at text) → n ≤ length o → LinesScanned total text o (Err (record { refusal = e; at = at })) o'
  lines_stop e is h = ends (Err (record { refusal = e; at = at })) refl is h

  pub lines_next : (w at' : ℕ) (left' : Scan) → left ≡ more w left' → n < length o → at' ≤ length text → Lines total text o (set o' n w) at' (n + 1) left'
  lines_next w at' left' e h k =
      record {
        inside = k;
        filled = fills_next total.words o o' n w left'.words (rw e at inv.filled) h;
        number = inv.number ∙ ap (λ (s : Scan). s.number) e;
        rest = inv.rest ∙ ap (λ (s : Scan). s.rest) e;
      }

module _ (text : List ℕ) (at : ℕ) (l : Line) (is : FirstLine (drop at text) l) where
  -- the text after the line that begins at `at`
  pub after_line : rest_of (drop at text) ≡ drop (at + l.next) text
  after_line = sym is.rest ∙ drop-drop l.next at text

  -- it begins in the text
  pub line_inside : at ≤ length text → at + l.next ≤ length text
  line_inside h = omega (arith, is.inside, length-drop at text)

-- so many lines were asked for: no more words are read, as many if the reading is accepted, and no refusal is that of joining
pub record Counted (lines : ℕ) (s : Scan) : Type 0 where
  pub most : length s.words ≤ lines
  pub all : s.number ≡ 0 → length s.words ≡ lines

pub counted_more : (lines w : ℕ) (s : Scan) → Counted lines s → Counted (suc lines) (more w s)
counted_more lines w s c = record { most = omega (arith, c.most); all = λ e. ap suc (c.all e) }

pub counted_stop : (lines number : ℕ) (t : List ℕ) → (number ≡ 0 → ⊥) → Counted lines (stop number t)
counted_stop lines number t z = record { most = omega arith; all = λ e. absurd (z e) }

pub counted_end : (number : ℕ) (t : List ℕ) → Counted 0 (stop number t)
counted_end number t = record { most = omega arith; all = λ e. refl }
