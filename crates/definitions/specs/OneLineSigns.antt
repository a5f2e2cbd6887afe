-- "Rules in one line" (document 02): the signs of a line, and which lines spell them.
use Rattle.std.specs.Prelude.{ℕ, List, [], ◌∷◌, ◌++◌}
use Rattle.definitions.specs.Lines.{bytes, digits}

-- "prefixes `! X Y F G`"
pub data Prefix : Type 0 where
  Not Next Prev Future Always : Prefix

-- "`->`", "`|`", "`&`", "`U` and `S`"
pub data Infix : Type 0 where
  Implies Or And Until Since : Infix

-- "`->`, `true` and `a` with its number are one sign each"
pub data Sign : Type 0 where
  true_sign : Sign
  atom_sign : ℕ → Sign
  prefix_sign : Prefix → Sign
  infix_sign : Infix → Sign
  open_bracket close_bracket : Sign

-- the byte of a prefix
abbrev pub prefix_bytes : Prefix → List ℕ
prefix_bytes Not = bytes "!"
prefix_bytes Next = bytes "X"
prefix_bytes Prev = bytes "Y"
prefix_bytes Future = bytes "F"
prefix_bytes Always = bytes "G"

-- the bytes of a sign between two operands
abbrev pub infix_bytes : Infix → List ℕ
infix_bytes Implies = bytes "->"
infix_bytes Or = bytes "|"
infix_bytes And = bytes "&"
infix_bytes Until = bytes "U"
infix_bytes Since = bytes "S"

-- "`true`, `a` with an atom number, or a bracketed rule"; "the number has no leading zeros"
abbrev pub sign_bytes : Sign → List ℕ
sign_bytes true_sign = bytes "true"
sign_bytes (atom_sign n) = bytes "a" ++ digits n
sign_bytes (prefix_sign x) = prefix_bytes x
sign_bytes (infix_sign x) = infix_bytes x
sign_bytes open_bracket = bytes "("
sign_bytes close_bracket = bytes ")"

-- the byte of a space
abbrev pub space : ℕ
space = 32

-- "Single spaces may stand between signs": the line of a list of signs
pub data Spells : List ℕ → List Sign → Type 0 where
  last : (x : Sign) → Spells (sign_bytes x) (x ∷ [])
  next : (x : Sign) {line : List ℕ} {s : List Sign} → Spells line s → Spells (sign_bytes x ++ line) (x ∷ s)
  spaced : (x : Sign) {line : List ℕ} {s : List Sign} → Spells line s → Spells (sign_bytes x ++ (space ∷ line)) (x ∷ s)
