-- Laws of the reader of one sign.
use mathlib.Core.Path.{◌≡◌, refl, sym, ap, ◌∙◌}
use Prim.Native.Nat.{ℕ, ◌≤◌}
use native.Mathlib.Omega.{arith}
use native.Mathlib.Nat.{add_comm}
use native.Mathlib.Numerals.{add-one}
use lib.Dec.{eqb, ltb}
use borrow.Author.Rules.{rules}
use borrow.Author.Tests.{eq-eqb, ne_eqb, ltb-true}
use mathlib.Core.Bool.{Bool, true, false}
use mathlib.Core.List.{List, [], ◌∷◌, ◌++◌}
use lib.ListN.{length, take, drop, length-drop}
use lib.Pointwise.{pointwise}
use lib.Seq.{take_at}
use Rattle.std.specs.Borrow.{Bor}
use Rattle.std.specs.Prelude.{nat_eq, Option, Some, None, MatchOption, min}
use Rattle.std.specs.List.{prefix_len, take_while}
use Rattle.std.specs.Char.{is_ascii_digit}
use Rattle.std.specs.Cmp.Lexicographic.{other_text}
use Rattle.definitions.specs.Bounded.{pick}
use Rattle.definitions.specs.Lines.{Parsed, formed, malformed, on_parsed, decimal}
use Rattle.definitions.specs.OneLineSigns.{true_sign, atom_sign, prefix_sign, infix_sign, open_bracket, close_bracket, Not, Next, Prev, Future, Always, Implies, Or, And, Until, Since, sign_bytes}
use Rattle.definitions.specs.OneLineReading as reading
use Rattle.definitions.specs.OneLineReading.{past, taken, word_signs, sign_among, digits_ahead, atom_first, sign_first, after_space}
use Rattle.theorems.proofs.Choice.{by_test, pick_true, pick_false}
use Rattle.theorems.proofs.SignSpelling.{past_begins}
use Rattle.fields.specs.Fields.{largest, cap}
use Rattle.definitions.specs.Limits.{atom_count}
use Rattle.fields.specs.Fields.{capped as field}
use Rattle.fields.proofs.FieldLaws.{taken_none, capped_read}
use Rattle.one_line_signs.specs.Signs.{sign_in, cap_atom, capped}
use Rattle.one_line_signs.specs.Tokens.{Took, Takes}
use Rattle.one_line_signs.specs.declared.sign.Sign.{Sign}
use Rattle.one_line_signs.specs.declared.sign.Sign.TheVariants as code
use Rattle.one_line_signs.specs.declared.sign.Prefix.TheVariants as before
use Rattle.one_line_signs.specs.declared.sign.Infix.TheVariants as between

-- `digits`, `digits_ahead`: how many bytes are digits
pub digits_told : (t : List ℕ) → length (take_while is_ascii_digit t) ≡ digits_ahead t
unfolding digits_ahead pick
digits_told [] = refl
digits_told (x ∷ t) = by_test (is_ascii_digit x) (λ e. rw (e, add_comm 1 (prefix_len is_ascii_digit t), add-one) (rw (digits_told t))) (λ e. rw e)

pub digits_within : (t : List ℕ) → digits_ahead t ≤ length t
unfolding digits_ahead pick
digits_within [] = omega arith
digits_within (x ∷ t) = by_test (is_ascii_digit x) (λ e. rw e (omega (arith, digits_within t))) (λ e. rw e (omega arith))

-- no atom
abbrev pub is_word : Sign → Bool
is_word code.True = true
is_word (code.Atom n) = false
is_word (code.Prefix x) = true
is_word (code.Infix x) = true
is_word code.Opening = true
is_word code.Closing = true

word_first : (x : Sign) (u : List ℕ) → is_word x ≡ true → Took sign_first (sign_bytes (sign_in x) ++ u) x u
unfolding sign_first sign_among atom_first past pick on_parsed capped
word_first code.True u e = record { named = true_sign; read = refl; told = refl; shorter = omega arith }
word_first (code.Atom n) u e = cc
word_first (code.Prefix before.Not) u e = record { named = prefix_sign Not; read = refl; told = refl; shorter = omega arith }
word_first (code.Prefix before.Next) u e = record { named = prefix_sign Next; read = refl; told = refl; shorter = omega arith }
word_first (code.Prefix before.Prev) u e = record { named = prefix_sign Prev; read = refl; told = refl; shorter = omega arith }
word_first (code.Prefix before.Future) u e = record { named = prefix_sign Future; read = refl; told = refl; shorter = omega arith }
word_first (code.Prefix before.Always) u e = record { named = prefix_sign Always; read = refl; told = refl; shorter = omega arith }
word_first (code.Infix between.Implies) u e = record { named = infix_sign Implies; read = refl; told = refl; shorter = omega arith }
word_first (code.Infix between.Or) u e = record { named = infix_sign Or; read = refl; told = refl; shorter = omega arith }
word_first (code.Infix between.And) u e = record { named = infix_sign And; read = refl; told = refl; shorter = omega arith }
word_first (code.Infix between.Until) u e = record { named = infix_sign Until; read = refl; told = refl; shorter = omega arith }
word_first (code.Infix between.Since) u e = record { named = infix_sign Since; read = refl; told = refl; shorter = omega arith }
word_first code.Opening u e = record { named = open_bracket; read = refl; told = refl; shorter = omega arith }
word_first code.Closing u e = record { named = close_bracket; read = refl; told = refl; shorter = omega arith }

-- `first_sign`, `sign_first`: a sign that is no atom
pub first_word : (x : Sign) (text rest : List ℕ) → text ≡ sign_bytes (sign_in x) ++ rest → is_word x ≡ true → Took sign_first text x rest
first_word x text rest t e = rw t (word_first x rest e)

-- ---- no sign

pub none_told : {T P : Type 0} (Q : T → Type 0) {r : Option T} → r ≡ None → P → MatchOption r P Q
none_told Q e p = rw e p

-- `first_sign`, `sign_first`: nothing is there
pub first_of_none : (text : List ℕ) → length text ≡ 0 → sign_first text ≡ malformed
unfolding sign_first sign_among atom_first past on_parsed
first_of_none [] e = refl
first_of_none (b ∷ u) e = absurd (omega arith)

past_other : (x b : ℕ) (w u : List ℕ) → (b ≡ x → ⊥) → past (x ∷ w) (b ∷ u) ≡ malformed
unfolding past
past_other x b w u n = pick_false (eqb x b) (past w u) malformed (ne_eqb x b (λ e. n (sym e)))

past_stripped : (w t : List ℕ) → pointwise nat_eq (take (length w) t) w ≡ false → past w t ≡ malformed
past_stripped w t e = go (past w t) refl
  where
    go : (p : Parsed (List ℕ)) → past w t ≡ p → p ≡ malformed
    go (formed u) q = let same : take (length w) t ≡ w = rw (past_begins w t u q) (take_at w u (length w) refl) in absurd (other_text (take (length w) t) w (sym e) same)
    go malformed q = refl

past_after : (x : ℕ) (w u : List ℕ) → pointwise nat_eq (take (length w) u) w ≡ false → past (x ∷ w) (x ∷ u) ≡ malformed
unfolding past
past_after x w u e = pick_true (eqb x x) (past w u) malformed (eq-eqb x x refl) ∙ past_stripped w u e

no_sign : (b : ℕ) (u : List ℕ) → (b ≡ 97 → ⊥) → past (116 ∷ 114 ∷ 117 ∷ 101 ∷ []) (b ∷ u) ≡ malformed → (b ≡ 40 → ⊥) → (b ≡ 41 → ⊥) → (b ≡ 33 → ⊥) → (b ≡ 88 → ⊥) → (b ≡ 89 → ⊥) → (b ≡ 70 → ⊥) → (b ≡ 71 → ⊥)
    → past (45 ∷ 62 ∷ []) (b ∷ u) ≡ malformed → (b ≡ 124 → ⊥) → (b ≡ 38 → ⊥) → (b ≡ 85 → ⊥) → (b ≡ 83 → ⊥) → sign_first (b ∷ u) ≡ malformed
unfolding sign_first sign_among atom_first on_parsed
no_sign b u n97 t n40 n41 n33 n88 n89 n70 n71 i n124 n38 n85 n83 =
    rw (
      past_other 97 b [] u n97,
      t,
      past_other 40 b [] u n40,
      past_other 41 b [] u n41,
      past_other 33 b [] u n33,
      past_other 88 b [] u n88,
      past_other 89 b [] u n89,
      past_other 70 b [] u n70,
      past_other 71 b [] u n71,
      i,
      past_other 124 b [] u n124,
      past_other 38 b [] u n38,
      past_other 85 b [] u n85,
      past_other 83 b [] u n83,
    )

atom_same : (u : List ℕ) → sign_first (97 ∷ u) ≡ atom_first (97 ∷ u)
unfolding sign_first sign_among past pick on_parsed
atom_same u = go (atom_first (97 ∷ u))
  where
    go : (p : Parsed reading.Taken) → on_parsed p (sign_among word_signs (97 ∷ u)) formed ≡ p
    go (formed t) = refl
    go malformed = refl

module _ (text u : List ℕ) (b : ℕ) (t : text ≡ (b ∷ u)) where
  -- `first_sign`, `sign_first`: no `>` follows
  pub first_no_arrow : b ≡ 45 → pointwise nat_eq (take 1 u) (62 ∷ []) ≡ false → sign_first text ≡ malformed
  first_no_arrow q e =
      rw (t, q) (no_sign 45 u (omega arith) (past_other 116 45 (114 ∷ 117 ∷ 101 ∷ []) u (omega arith)) (omega arith) (omega arith) (omega arith) (omega arith) (omega arith) (omega arith) (omega arith)
      (past_after 45 (62 ∷ []) u e) (omega arith) (omega arith) (omega arith) (omega arith))

  -- `first_sign`, `sign_first`: no `rue` follows
  pub first_no_true : b ≡ 116 → pointwise nat_eq (take 3 u) (114 ∷ 117 ∷ 101 ∷ []) ≡ false → sign_first text ≡ malformed
  first_no_true q e =
      rw (t, q) (no_sign 116 u (omega arith) (past_after 116 (114 ∷ 117 ∷ 101 ∷ []) u e) (omega arith) (omega arith) (omega arith) (omega arith) (omega arith) (omega arith) (omega arith)
      (past_other 45 116 (62 ∷ []) u (omega arith)) (omega arith) (omega arith) (omega arith) (omega arith))

  -- `first_sign`, `sign_first`: no sign begins with the byte
  pub first_no_sign : (b ≡ 40 → ⊥) → (b ≡ 41 → ⊥) → (b ≡ 33 → ⊥) → (b ≡ 88 → ⊥) → (b ≡ 89 → ⊥) → (b ≡ 70 → ⊥) → (b ≡ 71 → ⊥)
      → (b ≡ 124 → ⊥) → (b ≡ 38 → ⊥) → (b ≡ 85 → ⊥) → (b ≡ 83 → ⊥) → (b ≡ 45 → ⊥) → (b ≡ 116 → ⊥) → (b ≡ 97 → ⊥) → sign_first text ≡ malformed
  first_no_sign n40 n41 n33 n88 n89 n70 n71 n124 n38 n85 n83 n45 n116 n97 =
      rw t (no_sign b u n97 (past_other 116 b (114 ∷ 117 ∷ 101 ∷ []) u n116) n40 n41 n33 n88 n89 n70 n71 (past_other 45 b (62 ∷ []) u n45) n124 n38 n85 n83)

  -- `first_sign`, `sign_first`: an atom
  pub first_atom : (r : Option (Sign × Bor (List ℕ))) → b ≡ 97 → Takes atom_first (97 ∷ u) r → Takes sign_first text r
  first_atom r q = rw (t, q) (go r)
    where
      go : (r : Option (Sign × Bor (List ℕ))) → Takes atom_first (97 ∷ u) r → Takes sign_first (97 ∷ u) r
      go None h = atom_same u ∙ h
      go (Some t) h = record { named = h.named; read = atom_same u ∙ h.read; told = h.told; shorter = h.shorter }

pub ruleset first_laws = (first_word, none_told, first_of_none, first_no_sign, first_no_arrow, first_no_true, first_atom)

-- ---- an atom

-- a number that a field tells up to its largest is told up to the limit all the same
cap_cap : (m : ℕ) → min (cap m) atom_count ≡ cap_atom m
unfolding cap
cap_cap m =
    by_test (ltb largest m)
    (λ e. rw (pick_true (ltb largest m) largest m e) (omega (arith, ltb-true largest m e)))
    (λ e. rw (pick_false (ltb largest m) largest m e))

atom_read : (t digits rest : List ℕ) (m : ℕ) → take (digits_ahead t) t ≡ digits → decimal digits ≡ formed m → drop (digits_ahead t) t ≡ rest → atom_first (97 ∷ t) ≡ formed (taken (atom_sign m) rest)
unfolding atom_first past pick on_parsed
atom_read t digits rest m e f g = rw (e, f, g)

module _ (t digits rest : List ℕ) (d : ℕ) (r : Option ℕ) (i : d ≡ length (take_while is_ascii_digit t)) (j : digits ≡ take d t) (k : r ≡ field (decimal digits)) where
  digits_there : take (digits_ahead t) t ≡ digits
  digits_there = sym (j ∙ rw (i, digits_told t))

  -- `atom`, `atom_first`: no number stands there
  pub atom_none : r ≡ None → atom_first (97 ∷ t) ≡ malformed
  unfolding atom_first past pick on_parsed
  atom_none n = rw (digits_there, taken_none cap (decimal digits) (sym n ∙ k))

  -- `atom`, `atom_first`: the atom with its number
  pub atom_some : (n m : ℕ) → r ≡ Some n → m ≡ min n atom_count → rest ≡ drop d t → Took atom_first (97 ∷ t) (code.Atom m) rest
  unfolding capped
  atom_some n m e f g =
      let z = capped_read (decimal digits) n (sym e ∙ k) in
      let q : d ≡ digits_ahead t = i ∙ digits_told t in
      let after : drop (digits_ahead t) t ≡ rest = sym (g ∙ rw q) in
      record {
        named = atom_sign z.number;
        read = atom_read t digits rest z.number digits_there z.is after;
        told = ap atom_sign (f ∙ (ap (λ (n : ℕ). min n atom_count) z.answered ∙ cap_cap z.number));
        shorter = omega (arith, ap length g, length-drop d t);
      }

pub ruleset atom_laws = (rules, digits_told, digits_within, none_told, atom_none, atom_some)
