-- Laws of kind words: the first kind whose word it is.
use mathlib.Core.Path.{◌≡◌, refl, sym, ◌∙◌}
use mathlib.Core.Bool.{Bool, true, false, cond}
use mathlib.Core.List.{List, [], ◌∷◌}
use Prim.Native.Nat.{ℕ}
use Rattle.std.specs.Prelude.{Option, Some, find, option_map, unwrap_or}
use Rattle.std.proofs.lemmas.Iterator.Adapters.{option_map_id}
use Rattle.definitions.specs.Bounded.{pick}
use Rattle.definitions.specs.Nodes as meant
use Rattle.definitions.specs.Lines.{same}
use Rattle.definitions.specs.RuleText.{kind_word, word_kind}
use Rattle.kind_words.specs.declared.TheConstants.{UNKNOWN}
use Rattle.rules.specs.Kinds.{kind_in}
use Rattle.rules.specs.declared.kind.Kind.{Kind}
use Rattle.rules.specs.declared.kind.Kind.TheVariants as code

-- the kinds that have a word
abbrev pub kinds : List Kind
kinds = code.True ∷ code.Atom ∷ code.Not ∷ code.Or ∷ code.Next ∷ code.Until ∷ code.Prev ∷ code.Since ∷ code.Run ∷ code.End ∷ []

-- a kind that is found, or an unknown one
abbrev found : Option Kind → Kind
found o = unwrap_or o (code.Unknown UNKNOWN)

-- this kind's word, or what the rest of the search says
more : (z : Bool) (k : Kind) (o : Option Kind) (n : meant.Kind) → kind_in (found o) ≡ n → kind_in (found (cond z (Some k) o)) ≡ pick z (kind_in k) n
unfolding pick
more true k o n e = refl
more false k o n e = e

-- `kind_of_word`: the first kind whose word w is, or an unknown one
pub kind_found : (w : List ℕ) (r : Option Kind) → option_map (λ k. k) r ≡ find (λ k. same w (kind_word (kind_in k))) kinds → kind_in (found r) ≡ word_kind w
unfolding word_kind
kind_found w r e =
    let found_is : r ≡ find (λ k. same w (kind_word (kind_in k))) kinds = sym (option_map_id r) ∙ e in
    rw found_is
    (more _ code.True _ _ (more _ code.Atom _ _ (more _ code.Not _ _ (more _ code.Or _ _ (more _ code.Next _ _ (more _ code.Until _ _ (more _ code.Prev _ _ (more _ code.Since _ _ (more _ code.Run _ _ (more _ code.End _ _ refl))))))))))
