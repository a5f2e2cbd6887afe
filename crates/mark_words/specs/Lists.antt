-- The operators by recursion on the list of marks, as whole words compute them; OperatorLaws says that these are the readings.
use Rattle.std.specs.Prelude.{ℕ, zero, suc, Bool, false, ◌&&◌, ◌||◌, List, [], ◌∷◌}

-- the mark at the front, or d of a row that is past its end
abbrev pub head_d : List Bool → Bool → Bool
head_d [] d = d
head_d (b ∷ l) d = b

-- two rows joined place by place
abbrev pub zip : (Bool → Bool → Bool) → List Bool → List Bool → List Bool
zip f [] qs = []
zip f (p ∷ ps) [] = []
zip f (p ∷ ps) (q ∷ qs) = f p q ∷ zip f ps qs

-- n places with no mark but the last, which is w
abbrev pub last_only : Bool → ℕ → List Bool
last_only w zero = []
last_only w (suc zero) = w ∷ []
last_only w (suc (suc n)) = false ∷ last_only w (suc n)

-- next p, of a row past which stands the mark w
abbrev pub next_row : Bool → List Bool → List Bool
next_row w [] = []
next_row w (p ∷ ps) = head_d ps w ∷ next_row w ps

-- q now, or p now and p until q one place on; past the last place it is w
abbrev pub until_row : Bool → List Bool → List Bool → List Bool
until_row w [] qs = []
until_row w (p ∷ ps) [] = []
until_row w (p ∷ ps) (q ∷ qs) = (q || (p && head_d (until_row w ps qs) w)) ∷ until_row w ps qs

-- prev p, of a row before which stands the mark c
abbrev pub prev_row : Bool → List Bool → List Bool
prev_row c [] = []
prev_row c (p ∷ ps) = c ∷ prev_row p ps

-- p since q, of rows before which it is c
abbrev pub since_row : Bool → List Bool → List Bool → List Bool
since_row c [] qs = []
since_row c (p ∷ ps) [] = []
since_row c (p ∷ ps) (q ∷ qs) = (q || (p && c)) ∷ since_row (q || (p && c)) ps qs
