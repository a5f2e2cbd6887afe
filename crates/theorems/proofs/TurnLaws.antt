-- Lines of one length, turned twice, are the lines: one law over their number and their length, which serves both directions of the archive.
use mathlib.Core.Path.{◌≡◌, refl, ap, ◌∙◌}
use Prim.Native.Nat.{ℕ, zero, suc}
use mathlib.Core.List.{List, [], ◌∷◌}
use lib.ListN.{length, replicate, length-replicate}
use native.Mathlib.Omega.{arith}
use Rattle.definitions.specs.Archive.{in_front, turned}

-- each line has `width` entries
unfoldable pub Even : {A : Type 0} (width : ℕ) (rows : List (List A)) → Type 0
Even width [] = Unit {0}
Even width (r ∷ rows) = (length r ≡ width) × Even width rows

none_even : (A : Type 0) (w : ℕ) → Even {A = A} 0 (replicate w [])
unfolding Even
none_even A zero = tt
none_even A (suc w) = (refl, none_even A w)

module _ {A : Type 0} where
  front_length : (xs : List A) (rows : List (List A)) → length xs ≡ length rows → length (in_front xs rows) ≡ length rows
  unfolding in_front
  front_length [] [] e = refl
  front_length [] (r ∷ rows) e = absurd (omega arith)
  front_length (x ∷ xs) [] e = absurd (omega arith)
  front_length (x ∷ xs) (r ∷ rows) e = ap suc (front_length xs rows (omega arith))

  front_even : (n : ℕ) (xs : List A) (rows : List (List A)) → Even n rows → Even (suc n) (in_front xs rows)
  unfolding in_front Even
  front_even n [] rows e = tt
  front_even n (x ∷ xs) [] e = tt
  front_even n (x ∷ xs) (r ∷ rows) e = (ap suc e.0, front_even n xs rows e.1)

  -- as many columns as the lines are long
  pub turned_length : (w : ℕ) (rows : List (List A)) → Even w rows → length (turned w rows) ≡ w
  unfolding turned Even
  turned_length w [] e = length-replicate w []
  turned_length w (r ∷ rows) e = let l = turned_length w rows e.1 in front_length r (turned w rows) (omega (arith, e.0)) ∙ l

  -- a column is as long as there are lines
  pub turned_even : (w : ℕ) (rows : List (List A)) → Even (length rows) (turned w rows)
  unfolding turned
  turned_even w [] = none_even A w
  turned_even w (r ∷ rows) = front_even (length rows) r (turned w rows) (turned_even w rows)

  -- a column more is turned into a line more
  front_turned : (n : ℕ) (xs : List A) (rows : List (List A)) → length xs ≡ length rows → turned (suc n) (in_front xs rows) ≡ xs ∷ turned n rows
  unfolding in_front turned
  front_turned n [] [] e = refl
  front_turned n [] (r ∷ rows) e = absurd (omega arith)
  front_turned n (x ∷ xs) [] e = absurd (omega arith)
  front_turned n (x ∷ xs) (r ∷ rows) e = rw (front_turned n xs rows (omega arith))

  none_turned : (w : ℕ) → turned {A = A} 0 (replicate w []) ≡ []
  unfolding in_front turned
  none_turned zero = refl
  none_turned (suc w) = refl

  -- "One proof over line count and length serves both directions": n lines of w entries, turned and turned back
  pub turned_twice : (n w : ℕ) (rows : List (List A)) → length rows ≡ n → Even w rows → turned n (turned w rows) ≡ rows
  unfolding turned Even
  turned_twice n w [] l e = rw (← l) (none_turned w)
  turned_twice n w (r ∷ rows) l e =
      let c = turned_length w rows e.1 in
      rw (← l) (front_turned (length rows) r (turned w rows) (omega (arith, e.0)) ∙ ap (λ (m : List (List A)). r ∷ m) (turned_twice (length rows) w rows refl e.1))
