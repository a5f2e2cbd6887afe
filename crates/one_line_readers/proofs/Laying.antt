-- Laws of words that come out one after another.
use mathlib.Core.Path.{◌≡◌, refl, sym, ◌∙◌}
use Prim.Native.Nat.{ℕ, ◌+◌, ◌-◌, ◌<◌, ◌≤◌}
use mathlib.Core.List.{List, [], ◌∷◌, ◌++◌}
use lib.ListN.{length, set, length-set}
use native.Mathlib.Omega.{arith}
use Rattle.definitions.specs.Nodes.{Kind, node}
use Rattle.printing.specs.Printing.{Printed}
use Rattle.printing.proofs.PrintLaws as print
use Rattle.one_line_readers.specs.Nodes.{words, not_words, dual_words}
use Rattle.one_line_readers.specs.Laying.{Laid}
use Rattle.one_line_readers.specs.declared.emitted.Emitted.{Emitted}

-- `put`: one word
pub laid_one : (w : ℕ) (o : Emitted) → o.count < length o.words → Laid (w ∷ []) o (record { words = set o.words o.count w; count = o.count + 1 })
laid_one w o h = record { next = refl; lies = print.laid_one o.count w o.words h; kept = length-set o.words o.count w; fit = omega arith }

-- none
pub laid_none : (o : Emitted) → o.count ≤ length o.words → Laid [] o o
laid_none o h = record { next = omega arith; lies = sym (print.laid_none o.count o.words); kept = refl; fit = h }

-- some, and then more
pub laid_seq : {xs ys : List ℕ} {o o' o'' : Emitted} → Laid xs o o' → Laid ys o' o'' → Laid (xs ++ ys) o o''
laid_seq {xs} {ys} {o} {o'} {o''} p s =
    let first : Printed xs o.words o.count o'.count o'.words = record { next = p.next; lies = p.lies } in
    let both = print.printed_seq xs ys o.words o'.words o''.words o.count o'.count o''.count (omega arith) first (record { next = s.next; lies = s.lies }) in
    record { next = both.next; lies = both.lies; kept = s.kept ∙ p.kept; fit = omega (arith, s.fit, p.kept) }

-- the same words
pub relaid : {xs ys : List ℕ} {o o' : Emitted} → xs ≡ ys → Laid xs o o' → Laid ys o o'
relaid e l = rw e at l

-- `dual`: three words
pub laid_dual : (k : Kind) (a : ℕ) (o o₁ o₂ o₃ : Emitted) → Laid (not_words o.count) o o₁ → Laid (words (node k a (o₁.count - 1) ∷ [])) o₁ o₂ → Laid (not_words o₂.count) o₂ o₃ → Laid (dual_words k a o.count) o o₃
laid_dual k a o o₁ o₂ o₃ first middle last =
    let second : o₁.count - 1 ≡ o.count = omega (arith, first.next) in
    let third : o₂.count - 1 ≡ o.count + 1 = omega (arith, first.next, middle.next) in
    relaid (rw (second, third)) (laid_seq first (laid_seq middle last))
