-- "Rules in one line" (document 02), computed: a second grammar, which who reads for meaning may skip. In theorems, `signs_spelled` and `spelled_signs`
-- say that its signs are those that a line spells, `tree_sentence` and `sentence_tree` that its trees are those of the grammar.
use Rattle.std.specs.Prelude.{ℕ, zero, suc, ◌+◌, ◌*◌, List, [], ◌∷◌, length, take, drop, eqb, leb}
use Rattle.definitions.specs.Bounded.{pick, within}
use Rattle.definitions.specs.Lines.{bytes, is_empty, Parsed, formed, malformed, on_parsed, decimal}
use Rattle.definitions.specs.OneLineSigns.{Not, Next, Prev, Future, Always, Infix, Implies, Or, And, Until, Since, Sign, true_sign, atom_sign, prefix_sign, infix_sign, open_bracket, close_bracket, sign_bytes, space}
use Rattle.definitions.specs.OneLineGrammar.{Tree, truth, atom, prefixed, joined}

-- what follows a word with which a text begins
unfoldable pub past : (word text : List ℕ) → Parsed (List ℕ)
past [] t = formed t
past (x ∷ w) [] = malformed
past (x ∷ w) (y ∷ t) = pick (eqb x y) (past w t) malformed

-- a sign, and the bytes after it
pub record Taken : Type 0 where
  pub named : Sign
  pub rest : List ℕ

abbrev pub taken : Sign → List ℕ → Taken
taken x u = record { named = x; rest = u }

-- the signs but for atoms
abbrev pub word_signs : List Sign
word_signs =
    true_sign ∷ open_bracket ∷ close_bracket
    ∷ prefix_sign Not ∷ prefix_sign Next ∷ prefix_sign Prev ∷ prefix_sign Future ∷ prefix_sign Always
    ∷ infix_sign Implies ∷ infix_sign Or ∷ infix_sign And ∷ infix_sign Until ∷ infix_sign Since ∷ []

-- the one of these signs with which a text begins
unfoldable pub sign_among : List Sign → List ℕ → Parsed Taken
sign_among [] t = malformed
sign_among (x ∷ xs) t = on_parsed (past (sign_bytes x) t) (sign_among xs t) (λ u. formed (taken x u))

-- how many digits a text begins with
unfoldable pub digits_ahead : List ℕ → ℕ
digits_ahead [] = 0
digits_ahead (x ∷ t) = pick (within 48 57 x) (suc (digits_ahead t)) 0

-- "`a` with an atom number"
unfoldable pub atom_first : List ℕ → Parsed Taken
atom_first t =
    on_parsed (past (bytes "a") t) malformed
    (λ u. on_parsed (decimal (take (digits_ahead u) u)) malformed (λ n. formed (taken (atom_sign n) (drop (digits_ahead u) u))))

-- the sign with which a text begins
unfoldable pub sign_first : List ℕ → Parsed Taken
sign_first t = on_parsed (atom_first t) (sign_among word_signs t) formed

-- a single space is passed over
unfoldable pub after_space : List ℕ → List ℕ
after_space [] = []
after_space (x ∷ t) = pick (eqb x space) t (x ∷ t)

-- at most so many signs
unfoldable pub signs_by : (more : ℕ) (t : List ℕ) → Parsed (List Sign)
signs_by zero t = malformed
signs_by (suc more) t =
    on_parsed (sign_first t) malformed
    (λ f. pick (is_empty f.rest) (formed (f.named ∷ []))
    (on_parsed (signs_by more (after_space f.rest)) malformed (λ s. formed (f.named ∷ s))))

-- the signs that a line spells
unfoldable pub signs_of : List ℕ → Parsed (List Sign)
signs_of line = signs_by (length line) line

-- a tree, and the signs after it
pub record Grown : Type 0 where
  pub tree : Tree
  pub rest : List Sign

abbrev pub grown : Tree → List Sign → Parsed Grown
grown p u = formed (record { tree = p; rest = u })

-- "Loosest first": how tightly a sign binds
abbrev pub strength : Infix → ℕ
strength Implies = 1
strength Or = 2
strength And = 3
strength Until = 4
strength Since = 4

-- how tightly a sign binds that its right operand may hold: "to the right", as tightly as itself; "to the left", more tightly
abbrev pub right_strength : Infix → ℕ
right_strength Implies = 1
right_strength Or = 3
right_strength And = 4
right_strength Until = 4
right_strength Since = 4

-- a bracketed rule ends with its bracket
unfoldable pub bracket_closed : Tree → List Sign → Parsed Grown
bracket_closed p [] = malformed
bracket_closed p (true_sign ∷ u) = malformed
bracket_closed p (atom_sign n ∷ u) = malformed
bracket_closed p (prefix_sign x ∷ u) = malformed
bracket_closed p (infix_sign x ∷ u) = malformed
bracket_closed p (open_bracket ∷ u) = malformed
bracket_closed p (close_bracket ∷ u) = grown p u

-- in at most so many steps: an operand; a rule whose signs outside its brackets bind with some strength at least; and that rule after its first operands p
unfoldable mutual
  pub operand_by : (more : ℕ) (s : List Sign) → Parsed Grown
  operand_by zero s = malformed
  operand_by (suc more) [] = malformed
  operand_by (suc more) (true_sign ∷ s) = grown truth s
  operand_by (suc more) (atom_sign n ∷ s) = grown (atom n) s
  operand_by (suc more) (prefix_sign x ∷ s) = on_parsed (operand_by more s) malformed (λ g. grown (prefixed x g.tree) g.rest)
  operand_by (suc more) (infix_sign x ∷ s) = malformed
  operand_by (suc more) (open_bracket ∷ s) = on_parsed (rule_by more 1 s) malformed (λ g. bracket_closed g.tree g.rest)
  operand_by (suc more) (close_bracket ∷ s) = malformed

  pub rule_by : (more least : ℕ) (s : List Sign) → Parsed Grown
  rule_by zero least s = malformed
  rule_by (suc more) least s = on_parsed (operand_by more s) malformed (λ g. rule_on more least g.tree g.rest)

  pub rule_on : (more least : ℕ) (p : Tree) (u : List Sign) → Parsed Grown
  rule_on zero least p u = malformed
  rule_on (suc more) least p [] = grown p []
  rule_on (suc more) least p (true_sign ∷ u) = grown p (true_sign ∷ u)
  rule_on (suc more) least p (atom_sign n ∷ u) = grown p (atom_sign n ∷ u)
  rule_on (suc more) least p (prefix_sign x ∷ u) = grown p (prefix_sign x ∷ u)
  rule_on (suc more) least p (infix_sign x ∷ u) =
      pick (leb least (strength x))
      (on_parsed (rule_by more (right_strength x) u) malformed (λ g. rule_on more least (joined x p g.tree) g.rest))
      (grown p (infix_sign x ∷ u))
  rule_on (suc more) least p (open_bracket ∷ u) = grown p (open_bracket ∷ u)
  rule_on (suc more) least p (close_bracket ∷ u) = grown p (close_bracket ∷ u)

-- nothing comes after a sentence
unfoldable pub tree_at_end : Grown → Parsed Tree
tree_at_end g = pick (eqb (length g.rest) 0) (formed g.tree) malformed

-- the tree of a list of signs: each of them takes two steps at most
unfoldable pub tree_of : List Sign → Parsed Tree
tree_of s = on_parsed (rule_by (length s * 2 + 1) 1 s) malformed tree_at_end
