-- The images of one node of a rule: one law for each return.
use Rattle.std.proofs.Common.{arith, Bool, true, false, ◌&&◌, ◌≡◌, ◌∙◌, refl, sym, ap, ℕ, ◌+◌, ◌-◌, ◌<◌, List, ◌++◌, length}
use mathlib.Core.Bool.{true≢false}
use Rattle.std.proofs.lemmas.List.Elements.{All-from_recursion}
use Rattle.definitions.specs.Bounded.{pick}
use Rattle.definitions.specs.Nodes as table
use Rattle.definitions.specs.Nodes.{Kind, True, Atom, Not, Or, Next, Until, Prev, Since, Run, End, Unknown, node, operand_span}
use Rattle.definitions.specs.Rewriting as written
use Rattle.definitions.specs.Rewriting.{Emit, emitted, opening, closing}
use Rattle.rules.specs.Fits.{is_held}
use Rattle.images.specs.Emission.{Follows}
use Rattle.images.specs.Blocks.{Lists, rows_in, rows_of, lists_of, closing_lists, IsBlock, naming, laid}
use Rattle.images.specs.Images.{meant, Begun, Named, part_of, form_by, tolerant_by, Stepped, ClosedBy}
use Rattle.images.specs.declared.blocks.Block.{Block}
use Rattle.images.specs.declared.blocks.Form.{Form}
use Rattle.images.specs.declared.blocks.Form.TheVariants.{OwnAtom, ForeignAtom, PlainNext, PlainUntil, PlainSince, ShortNext, ShortUntil, ShortSince}
use Rattle.images.specs.declared.image.Image.{Image}
use Rattle.images.proofs.EmitLaws.{emitted_follows}

-- `named_operands`: the array is `naming`, and all its numbers are small (`Named`)
pub names_are : (at weak n : ℕ) (p q : Image) → Begun at weak → n < operand_span →
    Named at weak n (meant p) (meant q) (naming (at - 1) p.weak p.strong q.weak q.strong at (at + weak) n)
names_are at weak n p q h l = record {
  same = refl;
  small = record { low = All-from_recursion (λ o. o < operand_span) (naming (at - 1) p.weak p.strong q.weak q.strong at (at + weak) n) (search arith depth 30) };
}

-- the lists of a form, their names replaced, are the nodes that the definitions emit; and how many of them are the weak image's
module _ (short own : Bool) (P Q : written.Image) (n at g j : ℕ) where
  abbrev Laid : Lists → List table.Node
  Laid l = laid (naming j P.weak P.strong Q.weak Q.strong at g n) at (rows_of (l.weak ++ l.strong))

  abbrev Same : Lists → List Emit → List Emit → Type 0
  Same l weak strong = (emitted j at (weak ++ strong) ≡ Laid l) × (length weak ≡ length l.weak)

  next_same : (c : Bool) →
      Same (lists_of (pick c ShortNext PlainNext)) (pick c (written.short_next true P.weak) (written.plain_next true P.weak)) (pick c (written.short_next false P.strong) (written.plain_next false P.strong))
  unfolding pick lists_of
  next_same true = (refl, refl)
  next_same false = (refl, refl)

  until_same : (c : Bool) →
      Same (lists_of (pick c ShortUntil PlainUntil)) (pick c (written.short_until true P.weak Q.weak) (written.plain_until true at P.weak Q.weak))
      (pick c (written.short_until false P.strong Q.strong) (written.plain_until false g P.strong Q.strong))
  unfolding pick lists_of
  until_same true = (refl, refl)
  until_same false = (refl, refl)

  since_same : (c : Bool) →
      Same (lists_of (pick c ShortSince PlainSince)) (pick c (written.short_since P.weak Q.weak) (written.plain_since at P.weak Q.weak))
      (pick c (written.short_since P.strong Q.strong) (written.plain_since g P.strong Q.strong))
  unfolding pick lists_of
  since_same true = (refl, refl)
  since_same false = (refl, refl)

  atom_same : (c : Bool) → Same (lists_of (pick c OwnAtom ForeignAtom)) (pick c (written.itself true Atom n) (written.foreign_atom true at n)) (pick c (written.itself false Atom n) (written.foreign_atom false at n))
  unfolding pick lists_of
  atom_same true = (refl, refl)
  atom_same false = (refl, refl)

  form_same : (K : Kind) → is_held false K ≡ true →
      Same (lists_of (form_by short own P.tolerant Q.tolerant K)) (part_of short own P Q at at true K n) (part_of short own P Q at g false K n)
  unfolding part_of lists_of
  form_same True h = (refl, refl)
  form_same Atom h = atom_same own
  form_same Not h = (refl, refl)
  form_same Or h = (refl, refl)
  form_same Next h = next_same (short && P.tolerant)
  form_same Until h = until_same (short && (P.tolerant && Q.tolerant))
  form_same Prev h = (refl, refl)
  form_same Since h = since_same (short && (P.tolerant && Q.tolerant))
  form_same Run h = absurd (true≢false (sym h))
  form_same End h = absurd (true≢false (sym h))
  form_same Unknown h = absurd (true≢false (sym h))

-- `draw_image`: the block that is laid has both images of the node (`part_of`, `Stepped`)
pub stepped : (short own : Bool) (P Q : written.Image) (N : table.Node) (f : Form) (k : Block) (F o o' : List ℕ) (at end : ℕ) (r : Image) →
    Follows (laid F at (rows_in k.rows.now)) o at end o' → end ≡ at + length k.rows.now → IsBlock (lists_of f) k → Named at k.weak N.first P Q F →
    f ≡ form_by short own P.tolerant Q.tolerant N.kind → is_held false N.kind ≡ true →
    r.tolerant ≡ tolerant_by own P.tolerant Q.tolerant N.kind → r.weak ≡ at + k.weak - 1 → r.strong ≡ end - 1 → Stepped short own P Q N o at r o'
stepped short own P Q N f k F o o' at end r p e b m ef h et ew es =
    let both = form_same short own P Q N.first at (at + k.weak) (at - 1) N.kind h in
    let next : r.strong + 1 ≡ end = omega arith in
    let weak : List Emit = part_of short own P Q at at true N.kind N.first in
    let strong : List Emit = part_of short own P Q at (at + k.weak) false N.kind N.first in
    let same : emitted (at - 1) at (weak ++ strong) ≡ laid F at (rows_in k.rows.now) = both.0 ∙ rw (m.same, b.same, ef) in
    record {
      middle = at + k.weak;
      weakly = ap (λ (w : ℕ). at + w) (b.weak ∙ rw ef (sym both.1));
      emits = rw next (emitted_follows (weak ++ strong) _ o o' at end same p);
      weak = omega arith;
      grown = omega arith;
      most = omega arith;
      tolerant = et;
    }

-- `closing`: the block that is laid is `closing` of the definitions, with both tops (`ClosedBy`)
pub closed_by : (i : written.Image) (at : ℕ) (F o o' : List ℕ) (end : ℕ) → Follows (laid F at (rows_of (closing_lists.weak ++ closing_lists.strong))) o at end o' →
    end ≡ at + 8 → Named at 4 0 i i F → ClosedBy i o at (record { count = end; weak = at + 4 - 1; strong = end - 1 }) o'
closed_by i at F o o' end p e n =
    record {
      emits = emitted_follows (closing true i.weak ++ closing false i.strong) _ o o' at end (rw n.same) p;
      weak = omega arith;
      strong = omega arith;
    }
