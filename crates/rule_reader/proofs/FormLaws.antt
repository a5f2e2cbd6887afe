-- Laws of the form of a node line: one for each return.
use mathlib.Core.Path.{◌≡◌, refl, ap, sym, ◌∙◌}
use mathlib.Core.Bool.{Bool, true, false}
use mathlib.Core.List.{List}
use Prim.Native.Nat.{ℕ, ◌<◌, ◌≤◌}
use native.Mathlib.Omega.{arith}
use lib.Dec.{eqb}
use lib.ListN.{length, take}
use borrow.Author.Tests.{lt-ltb, le-ltb, ne_eqb}
use mir.Syntax.{w16}
use mir.Val.{Fits}
use Rattle.std.specs.Prelude.{Option, Some, None}
use Rattle.definitions.specs.Bounded.{pick}
use Rattle.definitions.specs.Nodes as table
use Rattle.definitions.specs.Nodes.{Kind, Unknown, node, operands}
use Rattle.definitions.specs.Tables.{is_unknown}
use Rattle.definitions.specs.Lines.{tab, before, carriage_return, has, up_to, after, Parsed, formed, malformed, on_parsed, decimal, Heading, heading, two_fields, letters}
use Rattle.definitions.specs.RuleText.{word_kind, unknown_form, operands_form, node_form}
use Rattle.kind_words.specs.declared.TheConstants.{UNKNOWN}
use Rattle.rules.specs.Kinds.{kind_in}
use Rattle.rules.specs.Meaning.{meaning}
use Rattle.rules.specs.declared.kind.Kind as told
use Rattle.rules.specs.declared.kind.Kind.TheVariants as code
use Rattle.rules.specs.declared.node.Node.{Node}
use Rattle.fields.specs.Fields.{cap, taken, capped}
use Rattle.fields.specs.Forms.{capped_pair}
use Rattle.lines.specs.Parts.{split}
use Rattle.lines.proofs.PartLaws.{Split, split_no, split_yes}
use Rattle.fields.proofs.FieldLaws.{cap_le, cap_within, taken_none, capped_read}
use Rattle.fields.proofs.FormLaws.{made, two_made, pair_read}
use Rattle.rule_reader.specs.NextLines.{meant, capped_form, operand_fields}

zero_capped : cap 0 ≡ 0
zero_capped = sym (cap_within 0 (omega arith))

-- ---- `operand_fields`
module _ (s : List ℕ) (uses : ℕ) where
  -- `operand_fields`, an operand and no tab: `operand_fields` is malformed
  pub some_missed : (uses ≡ 0 → ⊥) → None ≡ split tab s → None ≡ capped_pair (operand_fields uses s)
  unfolding operand_fields taken pick
  some_missed z e = rw (ne_eqb uses 0 z, split_no tab s e)

  -- `operand_fields`, no operand and no tab: `operand_fields` is two zeros
  pub none_read : uses ≡ 0 → None ≡ split tab s → Some (0, 0) ≡ capped_pair (operand_fields uses s)
  unfolding operand_fields taken pick
  none_read z e = rw (z, split_no tab s e, zero_capped)

  module _ (x y : List ℕ) (e : Some (x, y) ≡ split tab s) where
    parts : Split tab s x y
    parts = split_yes tab s x y e

    -- `operand_fields`, no operand and a tab: `operand_fields` is malformed
    pub none_tab : uses ≡ 0 → None ≡ capped_pair (operand_fields uses s)
    unfolding operand_fields taken pick
    none_tab z = rw (z, parts.there)

    -- `operand_fields`, one operand that is no number: `operand_fields` is malformed
    pub one_malformed : uses ≡ 1 → None ≡ capped (decimal y) → None ≡ capped_pair (operand_fields uses s)
    unfolding operand_fields taken pick on_parsed
    one_malformed u h = rw (u, parts.there, ← parts.back, taken_none cap (decimal y) h)

    one_is : uses ≡ 1 → (a m : ℕ) → decimal y ≡ formed m → a ≡ cap m → Some (a, 0) ≡ capped_pair (operand_fields uses s)
    unfolding operand_fields taken pick on_parsed
    one_is u a m d q = rw (u, parts.there, ← parts.back, d, q, zero_capped)

    -- `operand_fields`, one operand: `operand_fields` is that number, capped, and zero
    pub one_read : uses ≡ 1 → (a : ℕ) → Some a ≡ capped (decimal y) → Some (a, 0) ≡ capped_pair (operand_fields uses s)
    one_read u a h = let q = capped_read (decimal y) a h in one_is u a q.number q.is q.answered

    -- `operand_fields`, two operands: `operand_fields` is the two numbers behind the tab
    pub two_read : (uses ≡ 0 → ⊥) → (uses ≡ 1 → ⊥) → (o : Option (ℕ × ℕ)) → o ≡ capped_pair (two_fields decimal decimal heading y) → o ≡ capped_pair (operand_fields uses s)
    unfolding operand_fields pick
    two_read z w o h = h ∙ rw (ne_eqb uses 0 z, ne_eqb uses 1 w, parts.there, ← parts.back)

pub ruleset operand_laws = (some_missed, none_read, none_tab, one_malformed, one_read)

-- ---- `known_form`
form_by_lem : (k : Kind) (none one tabbed : Bool) (p : Parsed ℕ) (two : Parsed table.Node) (fields : Parsed Heading) → two ≡ made (node k) fields
    → pick none (pick tabbed malformed (formed (node k 0 0))) (pick tabbed (pick one (on_parsed p malformed (λ a. formed (node k a 0))) two) malformed)
    ≡ made (node k) (pick none (pick tabbed malformed (formed (heading 0 0))) (pick tabbed (pick one (on_parsed p malformed (λ a. formed (heading a 0))) fields) malformed))
unfolding pick on_parsed
form_by_lem k true one true p two fields e = refl
form_by_lem k true one false p two fields e = refl
form_by_lem k false true true (formed a) two fields e = refl
form_by_lem k false true true malformed two fields e = refl
form_by_lem k false false true p two fields e = e
form_by_lem k false one false p two fields e = refl

form_made : (k : Kind) (s : List ℕ) → operands_form k s ≡ made (node k) (operand_fields (operands k) s)
unfolding operands_form operand_fields
form_made k s =
    form_by_lem k (eqb (operands k) 0) (eqb (operands k) 1) (has tab s) (decimal (after tab s))
    (two_fields decimal decimal (node k) (after tab s)) (two_fields decimal decimal heading (after tab s)) (two_made (node k) decimal decimal (after tab s))

known_is : (k : Kind) (s : List ℕ) (h : Heading) → operand_fields (operands k) s ≡ formed h → formed (node k (cap h.first) (cap h.second)) ≡ capped_form (operands_form k s)
unfolding capped_form on_parsed
known_is k s h e = rw (form_made k s, e)

pub first_fits : (p : Parsed Heading) (a b : ℕ) → Some (a, b) ≡ capped_pair p → Fits w16 a
first_fits p a b e = let q = pair_read p a b e in record { fits = omega (arith, q.first, cap_le q.value.first) }

pub second_fits : (p : Parsed Heading) (a b : ℕ) → Some (a, b) ≡ capped_pair p → Fits w16 b
second_fits p a b e = let q = pair_read p a b e in record { fits = omega (arith, q.second, cap_le q.value.second) }

module _ (k : told.Kind) (s : List ℕ) (uses : ℕ) (us : uses ≡ operands (kind_in k)) where
  -- `known_form`, the operands are malformed: `operands_form` is malformed
  pub known_malformed : None ≡ capped_pair (operand_fields uses s) → meant None ≡ capped_form (operands_form (kind_in k) s)
  unfolding meant capped_form on_parsed
  known_malformed e = rw (form_made (kind_in k) s, ← us, taken_none _ (operand_fields uses s) e)

  -- `known_form`, the operands are read: `operands_form` is the node of the kind, capped
  pub known_read : (a b : ℕ) → Some (a, b) ≡ capped_pair (operand_fields uses s) → (n : Node) → n ≡ record { kind = k; first = a; second = b } → meant (Some n) ≡ capped_form (operands_form (kind_in k) s)
  unfolding meant
  known_read a b e n m =
      let q = pair_read (operand_fields (operands (kind_in k)) s) a b (rw us at e) in
      ap (λ (y : Node). formed (meaning y)) m
      ∙ (ap (λ (y : ℕ). formed (node (kind_in k) y b)) q.first
      ∙ (ap (λ (y : ℕ). formed (node (kind_in k) (cap q.value.first) y)) q.second ∙ known_is (kind_in k) s q.value q.is))

pub ruleset known_laws = (first_fits, second_fits, known_malformed, known_read)

-- ---- `unknown_form`
module _ (s word : List ℕ) (is : word ≡ up_to tab s) where
  -- `unknown_form`, no word: `unknown_form` is malformed
  pub unknown_empty : true ≡ eqb (length word) 0 → meant None ≡ capped_form (unknown_form s)
  unfolding meant unknown_form capped_form pick
  unknown_empty z = rw (← is, ← z)

  module _ (z : false ≡ eqb (length word) 0) where
    -- `unknown_form`, a word that is not of letters: `unknown_form` is malformed
    pub unknown_word : false ≡ letters word → meant None ≡ capped_form (unknown_form s)
    unfolding meant unknown_form capped_form pick
    unknown_word f = rw (← is, ← z, ← f)

    module _ (t : true ≡ letters word) (j : ℕ) (js : j ≡ before carriage_return s) where
      -- `unknown_form`, a carriage return in the line: `unknown_form` is malformed
      pub unknown_return : j < length s → meant None ≡ capped_form (unknown_form s)
      unfolding meant unknown_form capped_form pick
      unknown_return h = rw (← is, ← z, ← t, ← js, lt-ltb j (length s) h)

      -- `unknown_form`, letters and no carriage return: `unknown_form` is a node of unknown kind
      pub unknown_read : (n : Node) → n ≡ record { kind = code.Unknown UNKNOWN; first = 0; second = 0 } → length s ≤ j → meant (Some n) ≡ capped_form (unknown_form s)
      unfolding meant unknown_form capped_form pick
      unknown_read n m h = rw (m, ← is, ← z, ← t, ← js, le-ltb j (length s) h, zero_capped)

pub ruleset unknown_laws = (unknown_empty, unknown_word, unknown_return, unknown_read)

-- ---- `node_form`
module _ (s : List ℕ) (i : ℕ) (is : i ≡ before tab s) (k : told.Kind) (ks : kind_in k ≡ word_kind (take i s)) (o : Option Node) where
  kind_is : word_kind (up_to tab s) ≡ kind_in k
  kind_is = rw is at (sym ks)

  -- `node_form`, an unknown word: `node_form` is `unknown_form`
  pub line_unknown : true ≡ is_unknown (kind_in k) → meant o ≡ capped_form (unknown_form s) → meant o ≡ capped_form (node_form s)
  unfolding node_form pick
  line_unknown t e = e ∙ rw (kind_is, ← t)

  -- `node_form`, the word of a kind: `node_form` is `operands_form` of that kind
  pub line_known : false ≡ is_unknown (kind_in k) → meant o ≡ capped_form (operands_form (kind_in k) s) → meant o ≡ capped_form (node_form s)
  unfolding node_form pick
  line_known t e = e ∙ rw (kind_is, ← t)
