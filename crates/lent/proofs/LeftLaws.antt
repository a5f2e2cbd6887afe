-- What an operation leaves in lent space: words laid over its start, and zeros from there to its full size.
use mathlib.Core.Path.{◌≡◌, sym, ap, ◌∙◌}
use mathlib.Core.List.{List}
use Prim.Native.Nat.{ℕ, ◌+◌, ◌-◌, ◌≤◌}
use native.Mathlib.Nat.{sub-zero}
use native.Mathlib.Omega.{arith}
use lib.ListN.{length, take, drop}
use lib.Seq.{take_at, drop-append-add, drop-drop}
use lib.Dec.{eqb, ltb}
use borrow.Author.Tests.{ne_eqb, eqb-false, ltb-false}
use Rattle.definitions.specs.Limits.{accepted, lent_short}
use Rattle.definitions.specs.Bounded.{pick, or_else}
use Rattle.definitions.specs.Operations.{left, too_short}
use Rattle.theorems.proofs.Choice.{by_test}
use Rattle.theorems.proofs.LentSpace.{left_short, left_refused, left_accepted}
use Rattle.lent.specs.Space.{laid, filled, cleared}

-- what lies past the full size is as it was
pub laid_past : (full : ℕ) (words entry exit : List ℕ) → length words ≤ full → exit ≡ laid words entry → drop full exit ≡ drop full entry
laid_past full words entry exit h x =
    let e : length words + (full - length words) ≡ full = omega arith in
    let p : drop (length words + (full - length words)) (laid words entry) ≡ drop (length words + (full - length words)) entry
    = drop-append-add words (drop (length words) entry) (full - length words) ∙ drop-drop (full - length words) (length words) entry in
    ap (drop full) x ∙ (rw e at p)

-- what was laid is there
pub laid_begins : (count : ℕ) (words entry exit : List ℕ) → length words ≡ count → exit ≡ laid words entry → take count exit ≡ words
laid_begins count words entry exit l x = rw x (take_at words (drop (length words) entry) count l)

-- "After 13 lent space is untouched": the return of an operation that refuses with 13
pub left_untouched : (number full : ℕ) (content entry : List ℕ) → number ≡ lent_short → entry ≡ left number full content entry
left_untouched number full content entry e = rw e (sym (left_short full content entry))

module _ (number full : ℕ) (content entry exit end : List ℕ) (past : drop full exit ≡ drop full entry) where
  -- "after another refusal its full size is zero": the return after `clear_..(lent, 0, full)`
  pub left_zeroed : (number ≡ lent_short → ⊥) → (number ≡ 0 → ⊥) → end ≡ cleared exit 0 full → end ≡ left number full content entry
  unfolding filled
  left_zeroed other some e = e ∙ rw (sub-zero full, past) (sym (left_refused number full content entry some other))

  -- "Accepted, unused entries are zero": the return after `clear_..(lent, count, full)`
  pub left_filled : (count : ℕ) → number ≡ 0 → length content ≡ count → take count exit ≡ content → end ≡ cleared exit count full
      → end ≡ left number full content entry
  unfolding filled
  left_filled count none l begins e = rw none (e ∙ rw (begins, past, ← l) (sym (left_accepted full content entry)))

-- ---- an operation on one lent slice that tests 13 first, then the rest, and zeroes what a refusal asks
module _ (full : ℕ) (entry : List ℕ) (short other number : ℕ) (s : short ≡ pick (ltb (length entry) full) lent_short accepted) (o : number ≡ or_else short other) where
  pub lent_number : number ≡ pick (too_short full entry) lent_short other
  unfolding or_else pick
  lent_number = by_test (ltb (length entry) full) (λ t. rw (o, s, t)) (λ t. rw (o, s, t))

  pub lent_full : (number ≡ lent_short → ⊥) → full ≤ length entry
  unfolding pick
  lent_full n = by_test (ltb (length entry) full) (λ t. absurd (n (lent_number ∙ rw t))) (λ t. ltb-false (length entry) full t)

  -- "After 13 lent space is untouched; after another refusal its full size is zero"
  module _ (zeroed : ℕ) (z : zeroed ≡ pick (eqb number lent_short) 0 full) where
    pub zeroed_within : zeroed ≤ length entry
    unfolding pick
    zeroed_within =
        by_test (eqb number lent_short)
        (λ t. let e : zeroed ≡ 0 = rw t at z in omega arith)
        (λ t. let e : zeroed ≡ full = rw t at z in omega (arith, lent_full (eqb-false number lent_short t)))

    -- the return of such a refusal, after `clear_..(lent, 0, zeroed)`: `left` of the definitions
    pub zeroed_left : (content exit : List ℕ) → (number ≡ 0 → ⊥) → exit ≡ cleared entry 0 zeroed → exit ≡ left number full content entry
    unfolding left filled pick
    zeroed_left content exit some e =
        let f : full - 0 ≡ full = omega arith in
        by_test (eqb number lent_short) (λ t. rw (e, z, t)) (λ t. rw (e, z, t, ne_eqb number 0 some, f))
