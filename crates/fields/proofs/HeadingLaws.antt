-- Laws of the first line of a text, a word and two numbers, where the check of the numbers tells no number above the largest from it.
use mathlib.Core.Path.{◌≡◌, ap, sym, ◌∙◌}
use mathlib.Core.Bool.{true}
use mathlib.Core.List.{List}
use Prim.Native.Nat.{ℕ}
use Rattle.std.specs.Prelude.{Some, None}
use Rattle.definitions.specs.Lines.{is_closed, line_of, rest_of, formed, Heading, heading, heading_form, refused, read, next_line}
use Rattle.theorems.proofs.NextLines.{next_malformed, next_denied, next_read}
use Rattle.fields.specs.Fields.{cap}
use Rattle.fields.specs.Forms.{capped_pair}
use Rattle.fields.proofs.FieldLaws.{taken_none}
use Rattle.fields.proofs.FormLaws.{PairRead, pair_read}

-- the check of two numbers, by the numbers that the code reads; accepted, they are exact
pub record CapCheck (check : ℕ → ℕ → ℕ) : Type 0 where
  pub same : (a b : ℕ) → check (cap a) (cap b) ≡ check a b
  pub first : (a b : ℕ) → check (cap a) (cap b) ≡ 0 → cap a ≡ a
  pub second : (a b : ℕ) → check (cap a) (cap b) ≡ 0 → cap b ≡ b

module _ (missing unformed : ℕ) (word : List ℕ) (check : ℕ → ℕ → ℕ) (caps : CapCheck check) (t : List ℕ) (closed : is_closed t ≡ true) where
  pub first_malformed : None ≡ capped_pair (heading_form word (line_of t)) → next_line missing unformed (heading_form word) (λ h. check h.first h.second) t ≡ refused unformed
  first_malformed e = next_malformed missing unformed (heading_form word) _ t closed (taken_none _ (heading_form word (line_of t)) e)

  module _ (a b : ℕ) (is : Some (a, b) ≡ capped_pair (heading_form word (line_of t))) where
    two : PairRead (heading_form word (line_of t)) a b
    two = pair_read (heading_form word (line_of t)) a b is

    checked : (h : Heading) → a ≡ cap h.first → b ≡ cap h.second → check h.first h.second ≡ check a b
    checked h p q = sym (caps.same h.first h.second) ∙ rw (p, q)

    exactly : (h : Heading) → a ≡ cap h.first → b ≡ cap h.second → check a b ≡ 0 → h ≡ heading a b
    exactly h p q z =
        let e : check (cap h.first) (cap h.second) ≡ 0 = rw (← p, ← q) z in
        let u : h.first ≡ a = sym (p ∙ caps.first h.first h.second e) in
        let v : h.second ≡ b = sym (q ∙ caps.second h.first h.second e) in
        let w : heading h.first h.second ≡ heading a b = rw (u, v) in
        w

    pub first_denied : (k : ℕ) → check a b ≡ k → (k ≡ 0 → ⊥) → next_line missing unformed (heading_form word) (λ h. check h.first h.second) t ≡ refused k
    first_denied k e z =
        next_denied missing unformed (heading_form word) _ t closed two.value two.is k (checked two.value two.first two.second ∙ e) z

    pub first_read : check a b ≡ 0 → next_line missing unformed (heading_form word) (λ h. check h.first h.second) t ≡ read (heading a b) (rest_of t)
    first_read z =
        next_read missing unformed (heading_form word) (λ h. check h.first h.second) t closed (heading a b)
        (two.is ∙ ap formed (exactly two.value two.first two.second z)) z
