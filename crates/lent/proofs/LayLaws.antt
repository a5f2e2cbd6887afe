-- Words laid over lent space (`copy`, `lay`): before word i those before it are there; then zeros to the full size (`left` of the definitions).
use mathlib.Core.Path.{◌≡◌, refl, sym, ap, ◌∙◌}
use Prim.Native.Nat.{ℕ, suc, ◌+◌, ◌-◌, ◌≤◌, ◌<◌}
use native.Mathlib.Omega.{arith}
use native.Mathlib.Numerals.{add-one}
use mathlib.Core.List.{List, ◌++◌, append_assoc}
use lib.ListN.{length, take, drop, get_or, set, length-append, length-drop}
use lib.Seq.{length-take-le, take_at, drop_at, drop-drop, set_split, take-suc}
use borrow.Author.Rules.{rules}
use Rattle.definitions.specs.Limits.{accepted}
use Rattle.definitions.specs.Operations.{left}
use Rattle.theorems.proofs.LentSpace.{left_accepted}
use Rattle.lent.specs.Space.{filled, cleared, Layable}

-- before word i: the words before it are there
pub record Copying (words : List ℕ) (n : ℕ) (entry : List ℕ) (i : ℕ) (l : List ℕ) : Type 0 where
  pub within : i ≤ n
  pub copied : l ≡ take i words ++ drop i entry

pub copying_none : (words : List ℕ) (n : ℕ) (entry : List ℕ) → Copying words n entry 0 entry
copying_none words n entry = record { within = omega arith; copied = refl }

module _ (words : List ℕ) (n : ℕ) (entry : List ℕ) (i : ℕ) (l : List ℕ) (there : n ≤ length words) (room : n ≤ length entry) (so : Copying words n entry i l) where
  front_length : length (take i words) ≡ i
  front_length = length-take-le i words (omega (arith, so.within))

  pub copying_length : length l ≡ length entry
  copying_length = ap length so.copied ∙ rw (length-append, front_length, length-drop) (omega (arith, so.within))

  pub copying_room : i < n → i < length l
  copying_room h = omega (arith, copying_length)

  pub copying_more : i < n → Copying words n entry (i + 1) (set l i (get_or words i 0))
  copying_more h =
      let front : take i l ≡ take i words = ap (take i) so.copied ∙ take_at (take i words) (drop i entry) i front_length in
      let back : drop i l ≡ drop i entry = ap (drop i) so.copied ∙ drop_at (take i words) (drop i entry) i front_length in
      let sum : i + 1 ≡ suc i = add-one i in
      let past : drop (suc i) l ≡ drop (suc i) entry = rw sum at (sym (drop-drop 1 i l) ∙ ap (drop 1) back ∙ drop-drop 1 i entry) in
      record {
        within = omega arith;
        copied = set_split l i (get_or words i 0) (omega (arith, copying_length)) ∙ rw (sum, front, past, take-suc words i 0 (omega arith), append_assoc);
      }

  pub copying_done : n ≤ i → l ≡ take n words ++ drop n entry
  copying_done h = let e : i ≡ n = omega (arith, so.within) in rw e at so.copied

pub ruleset copy_laws = (rules, copying_none, copying_length, copying_room, copying_more, copying_done)

module _ (words : List ℕ) (n full : ℕ) (entry : List ℕ) (y : Layable words n full entry) where
  pub lay_there : n ≤ length words
  lay_there = y.there

  pub lay_room : n ≤ length entry
  lay_room = omega (arith, y.fits, y.room)

  front : length (take n words) ≡ n
  front = length-take-le n words y.there

  pub lay_is : (o exit : List ℕ) → o ≡ take n words ++ drop n entry → exit ≡ cleared o n full → exit ≡ left accepted full (take n words) entry
  unfolding filled
  lay_is o exit e c =
      let a : take n o ≡ take n words = rw e (take_at (take n words) (drop n entry) n front) in
      let s : n + (full - n) ≡ full = omega (arith, y.fits) in
      let b : drop full o ≡ drop full entry
      = rw (← s, ← drop-drop (full - n) n o, ← drop-drop (full - n) n entry, e) (ap (drop (full - n)) (drop_at (take n words) (drop n entry) n front)) in
      c ∙ (rw (a, b) (rw front at (sym (left_accepted full (take n words) entry))))

pub ruleset lay_laws = (rules, lay_there, lay_room, lay_is)
