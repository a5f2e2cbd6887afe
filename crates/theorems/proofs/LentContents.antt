-- Content in lent space as an accepted operation leaves it: read again, one entry more, one less, and other content left over it.
use mathlib.Core.Path.{◌≡◌, sym, ap, ◌∙◌}
use Prim.Native.Nat.{ℕ, suc, ◌-◌, ◌≤◌, ◌<◌}
use native.Mathlib.Omega.{arith}
use mathlib.Core.List.{List, [], ◌∷◌, ◌++◌, append_assoc}
use lib.ListN.{length, take, drop, get_or, set, replicate, length-append, length-replicate, length-drop, get_or-append}
use lib.Seq.{take_at, drop_at, set_at, append_snoc}
use Rattle.definitions.specs.Limits.{accepted}
use Rattle.definitions.specs.Bounded.{pick}
use Rattle.definitions.specs.Operations.{left}

module _ (full : ℕ) (content entry : List ℕ) where
  -- as many entries as the content has are the content
  pub left_take : (n : ℕ) → length content ≡ n → take n (left accepted full content entry) ≡ content
  unfolding left pick
  left_take n e = take_at content (replicate (full - length content) 0 ++ drop full entry) n e

  pub left_at : (i : ℕ) → i < length content → get_or (left accepted full content entry) i 0 ≡ get_or content i 0
  unfolding left pick
  left_at i h = get_or-append content (replicate (full - length content) 0 ++ drop full entry) 0 i h

  pub left_length : length content ≤ full → full ≤ length entry → length (left accepted full content entry) ≡ length entry
  unfolding left pick
  left_length h k = omega (
    arith,
    length-append content (replicate (full - length content) 0 ++ drop full entry),
    length-append (replicate (full - length content) 0) (drop full entry),
    length-replicate {A = ℕ} (full - length content) 0,
    length-drop full entry,
  )

  -- "What is lent past the full size is never touched"
  pub left_past : length content ≤ full → drop full (left accepted full content entry) ≡ drop full entry
  unfolding left pick
  left_past h =
      let e : length (content ++ replicate (full - length content) 0) ≡ full
      = omega (arith, length-append content (replicate (full - length content) 0), length-replicate {A = ℕ} (full - length content) 0) in
      rw (← append_assoc content (replicate (full - length content) 0) (drop full entry))
      (drop_at (content ++ replicate (full - length content) 0) (drop full entry) full e)

  -- of content that was there before, nothing is left
  pub left_over : (other : List ℕ) → length content ≤ full → left accepted full other (left accepted full content entry) ≡ left accepted full other entry
  unfolding left pick
  left_over other h = ap (λ (l : List ℕ). other ++ (replicate (full - length other) 0 ++ l)) (left_past h)

  -- one entry more
  pub left_more : (s n : ℕ) → length content ≡ n → n < full → set (left accepted full content entry) n s ≡ left accepted full (content ++ (s ∷ [])) entry
  unfolding left pick
  left_more s n e h =
      let z : full - length content ≡ suc (full - length (content ++ (s ∷ []))) = omega (arith, length-append content (s ∷ [])) in
      rw z (set_at content 0 (replicate (full - length (content ++ (s ∷ []))) 0 ++ drop full entry) s n e
      ∙ sym (append_snoc content s (replicate (full - length (content ++ (s ∷ []))) 0 ++ drop full entry)))

  -- one entry less
  pub left_less : (s n : ℕ) → length content ≡ n → n < full → set (left accepted full (content ++ (s ∷ [])) entry) n 0 ≡ left accepted full content entry
  unfolding left pick
  left_less s n e h =
      let z : full - length content ≡ suc (full - length (content ++ (s ∷ []))) = omega (arith, length-append content (s ∷ [])) in
      rw z (ap (λ (l : List ℕ). set l n 0) (append_snoc content s (replicate (full - length (content ++ (s ∷ []))) 0 ++ drop full entry))
      ∙ set_at content s (replicate (full - length (content ++ (s ∷ []))) 0 ++ drop full entry) 0 n e)
