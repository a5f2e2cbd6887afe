-- Laws of the reader of a line's signs: one for each return and each turn.
use mathlib.Core.Path.{◌≡◌, refl, sym, ap, ◌∙◌}
use Prim.Native.Nat.{ℕ, suc, ◌+◌, ◌<◌, ◌≤◌}
use native.Mathlib.Omega.{arith}
use mathlib.Core.List.{List, [], ◌∷◌, ◌++◌, append_assoc, map-append}
use lib.ListN.{length, take, drop, set, length-set, length-append, drop_of_length-le}
use lib.Dec.{eqb}
use lib.Seq.{set_split, take_at, length-take-le}
use Rattle.definitions.specs.Bounded.{pick}
use Rattle.definitions.specs.Lines.{Parsed, formed, malformed, on_parsed}
use Rattle.definitions.specs.OneLineSigns.{Sign, space}
use Rattle.theorems.proofs.Choice.{by_test}
use Rattle.definitions.specs.OneLineReading.{sign_first, after_space, signs_of}
use Rattle.theorems.proofs.SignSpelling.{signs_none, signs_empty, signs_last, signs_on}
use Rattle.one_line_signs.specs.Signs.{sign_in, signs_in, capped_signs}
use Rattle.one_line_signs.specs.Tokens.{Took}
use Rattle.one_line_signs.specs.Scanning.{Spelt}
use Rattle.one_line_signs.specs.declared.sign.Sign.{Sign as SignCode}

-- the signs `done`, and then those of a reading
abbrev after : List Sign → Parsed (List Sign) → Parsed (List Sign)
after done p = on_parsed p malformed (λ s. formed (done ++ s))

after_none : (p : Parsed (List Sign)) → p ≡ after [] p
unfolding on_parsed
after_none (formed s) = refl
after_none malformed = refl

after_one : (done : List Sign) (x : Sign) (p : Parsed (List Sign)) → after done (on_parsed p malformed (λ s. formed (x ∷ s))) ≡ after (done ++ (x ∷ [])) p
unfolding on_parsed
after_one done x (formed s) = ap formed (sym (append_assoc done (x ∷ []) s))
after_one done x malformed = refl

capped_append : (s u : List Sign) → capped_signs (s ++ u) ≡ capped_signs s ++ capped_signs u
unfolding capped_signs
capped_append [] u = refl
capped_append (x ∷ s) u = rw (capped_append s u)

space_short : (u : List ℕ) → length (after_space u) ≤ length u
unfolding after_space pick
space_short [] = omega arith
space_short (x ∷ u) = by_test (eqb x space) (λ e. rw e (omega arith)) (λ e. rw e (omega arith))

-- the signs before `text` are in the first i places
pub record Scanning (line text : List ℕ) (i : ℕ) (signs : List SignCode) : Type 0 where
  pub done : List Sign
  pub read : signs_of line ≡ after done (signs_of text)
  pub told : signs_in (take i signs) ≡ capped_signs done
  pub few : i + length text ≤ length line

-- `scan`, `signs_of`: before the first turn
pub scan_start : (line : List ℕ) (signs : List SignCode) → Scanning line line 0 signs
unfolding capped_signs
scan_start line signs = record { done = []; read = after_none (signs_of line); told = refl; few = omega arith }

take_set : (signs : List SignCode) (i : ℕ) (x : SignCode) → i < length signs → take (i + 1) (set signs i x) ≡ take i signs ++ (x ∷ [])
take_set signs i x h =
    let l : length (take i signs ++ (x ∷ [])) ≡ i + 1 = omega (arith, length-append (take i signs) (x ∷ []), length-take-le i signs (omega arith)) in
    rw (set_split signs i x h, ← (append_assoc (take i signs) (x ∷ []) (drop (suc i) signs))) (take_at (take i signs ++ (x ∷ [])) (drop (suc i) signs) (i + 1) l)

rest_none : (done : List Sign) (p : Parsed (List Sign)) → p ≡ malformed → after done p ≡ malformed
unfolding on_parsed
rest_none done p e = rw e

rest_some : (done s : List Sign) (p : Parsed (List Sign)) → p ≡ formed s → after done p ≡ formed (done ++ s)
unfolding on_parsed
rest_some done s p e = rw e

module _ (line text : List ℕ) (i : ℕ) (signs : List SignCode) (v : Scanning line text i signs) where
  -- `scan`, `signs_of`: no sign stands there
  pub scan_none : sign_first text ≡ malformed → signs_of line ≡ malformed
  scan_none e = v.read ∙ rest_none v.done (signs_of text) (signs_none text e)

  -- `scan`, `signs_of`: nothing stands after the last space, or at all
  pub scan_end : length signs ≤ i → length line ≤ length signs → signs_of line ≡ malformed
  scan_end h k =
      let z : drop 0 text ≡ [] = drop_of_length-le text {i = 0} (omega (arith, v.few)) in
      v.read ∙ rest_none v.done (signs_of text) (ap signs_of z ∙ signs_empty)

  module _ (h : i < length signs) (x : SignCode) (rest : List ℕ) (t : Took sign_first text x rest) where
    scan_told : signs_in (take (i + 1) (set signs i x)) ≡ capped_signs (v.done ++ (t.named ∷ []))
    unfolding capped_signs
    scan_told = ap signs_in (take_set signs i x h) ∙ (map-append sign_in (take i signs) (x ∷ []) ∙ (rw (v.told, t.told) (sym (capped_append v.done (t.named ∷ [])))))

    -- `scan`, `signs_of`: the last sign ends the line
    pub scan_last : length rest ≡ 0 → Spelt line (i + 1) (set signs i x)
    scan_last q =
        let e : drop 0 rest ≡ [] = drop_of_length-le rest {i = 0} (omega arith) in
        let one : signs_of text ≡ formed (t.named ∷ []) = signs_last text t.named (t.read ∙ rw e) in
        record {
          said = v.done ++ (t.named ∷ []);
          read = v.read ∙ rest_some v.done (t.named ∷ []) (signs_of text) one;
          told = scan_told;
          within = omega (arith, length-set signs i x);
        }

    -- `scan`, `signs_of`: a turn, one sign more
    pub scan_again : (length rest ≡ 0 → ⊥) → (text' : List ℕ) → text' ≡ after_space rest → Scanning line text' (i + 1) (set signs i x)
    scan_again q text' a =
        let on = signs_on text t.named rest t.read (omega arith) in
        record {
          done = v.done ++ (t.named ∷ []);
          read = v.read ∙ (ap (after v.done) on ∙ (after_one v.done t.named (signs_of (after_space rest)) ∙ rw a));
          told = scan_told;
          few = omega (arith, v.few, t.shorter, ap length a, space_short rest);
        }
