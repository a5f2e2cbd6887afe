-- Laws of the forms of lines: what is answered of two fields and of a line that opens with a word.
use mathlib.Core.Path.{◌≡◌, refl, ap, sym}
use mathlib.Core.Bool.{Bool, true, false, ◌&&◌}
use mathlib.Core.List.{List}
use Prim.Native.Nat.{ℕ}
use borrow.Author.Rules.{rules}
use Rattle.std.specs.Prelude.{Some, None}
use Rattle.std.proofs.lemmas.Option.{none-some, same_Some, some_pair_parts}
use Rattle.definitions.specs.Bounded.{pick}
use Rattle.definitions.specs.Lines.{tab, has, up_to, after, same, Parsed, formed, malformed, on_parsed, Heading, heading, two_fields, worded}
use Rattle.theorems.proofs.Choice.{by_test}
use Rattle.lines.specs.Parts.{split}
use Rattle.lines.proofs.PartLaws.{split_no, split_yes}
use Rattle.fields.specs.Fields.{cap, taken}
use Rattle.fields.specs.Forms.{exact_pair, capped_pair, after_word}
use Rattle.fields.proofs.FieldLaws.{taken_none, and_no, and_yes}

-- ---- two fields, each by its reader
module _ {A : Type 0} (f g : List ℕ → Parsed ℕ) (make : ℕ → ℕ → A) (s : List ℕ) where
  no_fields : None ≡ split tab s → two_fields f g make s ≡ malformed
  unfolding two_fields pick
  no_fields e = rw (split_no tab s e)

  fields_by : (x y : List ℕ) → Some (x, y) ≡ split tab s → two_fields f g make s ≡ on_parsed (f x) malformed (λ a. on_parsed (g y) malformed (λ b. formed (make a b)))
  unfolding two_fields pick
  fields_by x y e = let p = split_yes tab s x y e in rw (p.there, p.front, p.back)

-- ---- `decimals` and `hexadecimals`: c of each number is answered
module _ (c : ℕ → ℕ) (f g : List ℕ → Parsed ℕ) (s : List ℕ) where
  abbrev pair : Heading → ℕ × ℕ
  pair h = (c h.first, c h.second)

  abbrev fields : Parsed Heading
  fields = two_fields f g heading s

  -- no tab: there are no two fields
  pub two_none : None ≡ split tab s → None ≡ taken pair fields
  unfolding taken
  two_none e = rw (no_fields f g heading s e)

  module _ (x y : List ℕ) (parts : Some (x, y) ≡ split tab s) where
    -- the first field is malformed
    pub two_first : None ≡ taken c (f x) → None ≡ taken pair fields
    unfolding taken on_parsed
    two_first e = rw (fields_by f g heading s x y parts, taken_none c (f x) e)

    module _ (a : ℕ) (one : Some a ≡ taken c (f x)) where
      -- the second field is malformed
      pub two_second : None ≡ taken c (g y) → None ≡ taken pair fields
      unfolding taken on_parsed
      two_second e = rw (fields_by f g heading s x y parts, taken_none c (g y) e) (last (f x))
        where
          last : (p : Parsed ℕ) → None ≡ taken pair (on_parsed p malformed (λ a. malformed))
          last (formed v) = refl
          last malformed = refl

      -- both fields are read
      pub two_read : (b : ℕ) → Some b ≡ taken c (g y) → Some (a, b) ≡ taken pair fields
      unfolding taken on_parsed
      two_read b e = rw (fields_by f g heading s x y parts) (ends (f x) (g y) one e)
        where
          ends : (p q : Parsed ℕ) → Some a ≡ taken c p → Some b ≡ taken c q → Some (a, b) ≡ taken pair (on_parsed p malformed (λ v. on_parsed q malformed (λ w. formed (heading v w))))
          ends (formed v) (formed w) d e = rw (same_Some _ _ d, same_Some _ _ e)
          ends (formed v) malformed d e = absurd (none-some b (sym e))
          ends malformed q d e = absurd (none-some a (sym d))

-- ---- a line of a word
module _ (w s : List ℕ) where
  -- `after_word`, no tab: the line doesn't open with the word and a tab
  pub word_none : None ≡ split tab s → None ≡ after_word w s
  unfolding after_word pick
  word_none e = rw (split_no tab s e, and_no (same (up_to tab s) w))

  module _ (x y : List ℕ) (parts : Some (x, y) ≡ split tab s) (r : Bool) (is : r ≡ same x w) where
    opens : (same (up_to tab s) w && has tab s) ≡ r
    opens = let p = split_yes tab s x y parts in rw (← p.front, p.there, ← is) (and_yes r)

    -- `after_word`, the word stands before the tab: what follows it
    pub word_right : r ≡ true → Some y ≡ after_word w s
    unfolding after_word pick
    word_right e = let p = split_yes tab s x y parts in rw (opens, e, p.back)

    -- `after_word`, another word stands before it
    pub word_other : r ≡ false → None ≡ after_word w s
    unfolding after_word pick
    word_other e = rw (opens, e)

  module _ {A : Type 0} (fields : List ℕ → Parsed A) where
    -- the line is malformed
    pub worded_none : None ≡ after_word w s → worded w fields s ≡ malformed
    unfolding after_word worded pick
    worded_none e = by_test (same (up_to tab s) w && has tab s) (λ h. absurd (none-some _ (rw h at e))) (λ h. rw h)

    -- the line is what follows the word
    pub worded_some : (t : List ℕ) → Some t ≡ after_word w s → worded w fields s ≡ fields t
    unfolding after_word worded pick
    worded_some t e = by_test (same (up_to tab s) w && has tab s) (λ h. rw (h, same_Some _ _ (rw h at e))) (λ h. absurd (none-some t (sym (rw h at e))))

pub ruleset word_laws = (rules, word_none, word_right, word_other)

pub ruleset worded_laws = (rules, worded_none, worded_some)

-- ---- two fields made into one thing
abbrev pub made : {A : Type 0} → (ℕ → ℕ → A) → Parsed Heading → Parsed A
made make p = on_parsed p malformed (λ h. formed (make h.first h.second))

module _ {A : Type 0} (make : ℕ → ℕ → A) where
  two_by : (z : Bool) (p q : Parsed ℕ)
      → pick z (on_parsed p malformed (λ a. on_parsed q malformed (λ b. formed (make a b)))) malformed
      ≡ made make (pick z (on_parsed p malformed (λ a. on_parsed q malformed (λ b. formed (heading a b)))) malformed)
  unfolding pick on_parsed
  two_by true (formed a) (formed b) = refl
  two_by true (formed a) malformed = refl
  two_by true malformed q = refl
  two_by false p q = refl

  pub two_made : (f g : List ℕ → Parsed ℕ) (s : List ℕ) → two_fields f g make s ≡ made make (two_fields f g heading s)
  unfolding two_fields
  two_made f g s = two_by (has tab s) (f (up_to tab s)) (g (after tab s))

  word_by : (z : Bool) (p : Parsed A) (q : Parsed Heading) → p ≡ made make q → pick z p malformed ≡ made make (pick z q malformed)
  unfolding pick on_parsed
  word_by true p q e = e
  word_by false p q e = refl

  pub worded_made : (f g : List ℕ → Parsed ℕ) (w s : List ℕ) → worded w (two_fields f g make) s ≡ made make (worded w (two_fields f g heading) s)
  unfolding worded
  worded_made f g w s = word_by (same (up_to tab s) w && has tab s) _ _ (two_made f g (after tab s))

-- ---- what a caller has of an answer
-- the numbers of two fields that were read
pub record PairRead (p : Parsed Heading) (a b : ℕ) : Type 0 where
  pub value : Heading
  pub is : p ≡ formed value
  pub first : a ≡ cap value.first
  pub second : b ≡ cap value.second

pub pair_read : (p : Parsed Heading) (a b : ℕ) → Some (a, b) ≡ capped_pair p → PairRead p a b
unfolding taken
pair_read (formed h) a b e =
    let q = some_pair_parts a (cap h.first) b (cap h.second) e in
    record { value = h; is = refl; first = q.0; second = q.1 }
pair_read malformed a b e = absurd (none-some (a, b) (sym e))

pub exact_pair_read : (p : Parsed Heading) (a b : ℕ) → Some (a, b) ≡ exact_pair p → p ≡ formed (heading a b)
unfolding taken
exact_pair_read (formed h) a b e =
    let q = some_pair_parts a h.first b h.second e in
    let w : heading h.first h.second ≡ heading a b = rw (q.0, q.1) in
    ap formed w
exact_pair_read malformed a b e = absurd (none-some (a, b) (sym e))
