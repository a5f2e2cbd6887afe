-- The nodes of a rule in turn: the loop's invariant, and its turns.
use Rattle.std.proofs.Common.{rules, arith, Bool, true, false, ◌&&◌, ◌≡◌, ◌∙◌, refl, sym, ap, ℕ, suc, ◌+◌, ◌-◌, ◌*◌, ◌<◌, ◌≤◌, List, [], ◌∷◌, ◌++◌, map, length, drop, set, get_or, add-one, drop-cons, length-append, length-set, get_or-set_same, get_or-set_other}
use mathlib.Core.Bool.{true≢false}
use native.Mathlib.Decide.{dec_lt, ℕ_discrete}
use lib.ListN.{replicate, length-replicate, drop_of_length-le, get_or-append, get_or-eq_default}
use lib.Seq.{get_or_at}
use Rattle.std.proofs.lemmas.List.{get_or-replicate}
use Rattle.definitions.specs.Limits.{max_rule_nodes, max_table_nodes}
use Rattle.definitions.specs.Bounded.{bit_of, or_else}
use Rattle.definitions.specs.Nodes as words
use Rattle.definitions.specs.Nodes.{Kind, node_of, node}
use Rattle.definitions.specs.Tables.{is_unknown, is_rewritten, node_refusal, nodes_refusal}
use Rattle.definitions.specs.Rewriting as table
use Rattle.definitions.specs.Rewriting.{Emit, emit, opening, no_image, image_of, tolerant_at, tolerant_of, meanings_of, part, step, steps, last_image}
use Rattle.theorems.proofs.Counts.{emit_count}
use Rattle.theorems.proofs.Choice.{or_else_none}
use Rattle.theorems.proofs.NodeLaws.{AcceptedNode, accepted_node, first_below, second_below}
use Rattle.theorems.proofs.NodeWords.{by_kind}
use Rattle.rules.specs.Fits.{is_held}
use Rattle.rules.specs.Meaning.{meaning, OfWord}
use Rattle.rules.specs.declared.node.Node.{Node}
use Rattle.images.specs.declared.image.Image.{Image}
use Rattle.images.specs.Emission.{Room, Emitted, Holds}
use Rattle.images.specs.Images.{meant, part_of, tolerant_by, Stepped}
use Rattle.rewriting.specs.Drafts.{Ruled, opened, draft_of, Drawn}
use Rattle.images.proofs.EmitLaws.{emit_append, holds_more, holds_self, holds_under}

-- a rule holds a kind that is known and no rewritten one
rule_held : (K : Kind) → is_unknown K ≡ false → (is_rewritten K && true) ≡ false → is_held false K ≡ true
rule_held = by_kind (λ K. is_unknown K ≡ false → (is_rewritten K && true) ≡ false → is_held false K ≡ true)
    (λ u r. refl) (λ u r. refl) (λ u r. refl) (λ u r. refl) (λ u r. refl) (λ u r. refl) (λ u r. refl) (λ u r. refl)
    (λ u r. absurd (true≢false r)) (λ u r. absurd (true≢false r)) (λ u r. absurd (true≢false u))

-- `part` and `tolerant_of` look the operands' images up
module _ (mask : ℕ) (is : List table.Image) (N : words.Node) (P Q : table.Image) (own : Bool) (first : P ≡ get_or is N.first no_image) (second : Q ≡ get_or is N.second no_image)
    (eo : own ≡ bit_of mask N.first) where
  part_same : (short : Bool) (x g : ℕ) (weak : Bool) → part_of short own P Q x g weak N.kind N.first ≡ part short weak N.kind (meanings_of mask is N weak x g)
  unfolding part_of
  part_same short x g weak = rw (first, second, eo)

  tolerant_same : tolerant_by own P.tolerant Q.tolerant N.kind ≡ tolerant_of mask is N.kind N.first N.second
  tolerant_same = rw (first, second, eo) (looked N.kind)
    where
      looked : (K : Kind) → tolerant_by (bit_of mask N.first) (tolerant_at is N.first) (tolerant_at is N.second) K ≡ tolerant_of mask is K N.first N.second
      looked = by_kind (λ K. tolerant_by (bit_of mask N.first) (tolerant_at is N.first) (tolerant_at is N.second) K ≡ tolerant_of mask is K N.first N.second)
          refl refl refl refl refl refl refl refl refl refl refl

-- the array holds the images of a rule's nodes so far, and then none
abbrev Kept : List Image → List table.Image → Type 0
Kept I is = (a : ℕ) (d : Image) → a < length I → meant (get_or I a d) ≡ get_or is a no_image

-- one more image
kept_more : (I : List Image) (is : List table.Image) (r : Image) (i : ℕ) → i < length I → length is ≡ i → Kept I is → Kept (set I i r) (is ++ (meant r ∷ []))
kept_more I is r i wide sizes same a d h = go (ℕ_discrete a i) (dec_lt a i)
  where
    go : Dec (a ≡ i) → Dec (a < i) → meant (get_or (set I i r) a d) ≡ get_or (is ++ (meant r ∷ [])) a no_image
    go (yes e) s = rw (e, get_or-set_same I i r d wide, get_or_at is (meant r) [] no_image i sizes)
    go (no e) (yes s) = rw (get_or-set_other I i a r d e) (same a d (omega (arith, length-set I i r)) ∙ sym (get_or-append is (meant r ∷ []) no_image a (omega arith)))
    go (no e) (no s) =
        let m : length (is ++ (meant r ∷ [])) ≤ a = omega (arith, length-append is (meant r ∷ [])) in
        let p : length is ≤ a = omega arith in
        rw (get_or-set_other I i a r d e) (same a d (omega (arith, length-set I i r)) ∙ get_or-eq_default is no_image p ∙ sym (get_or-eq_default (is ++ (meant r ∷ [])) no_image m))

-- what the loop has done before node i: D is the draft so far, I holds its images, L the last of them
pub record Drafting (short : Bool) (mask : ℕ) (ws o : List ℕ) (i at : ℕ) (I : List Image) (L : Image) (o' : List ℕ) : Type 0 where
  pub D : table.Draft
  pub left : draft_of short mask ws ≡ steps short mask D (map node_of (drop i ws))
  pub fine : nodes_refusal false i (length (drop i ws)) (drop i ws) ≡ 0
  pub sizes : length D.images ≡ i
  pub big : 11 ≤ at
  pub most : at ≤ 11 + 11 * i
  pub holds : Holds D.nodes o at o'
  pub wide : length I ≡ max_rule_nodes
  pub kept : Kept I D.images
  pub last : meant L ≡ last_image D.images

-- a step, with the numbers that its nodes have
step_is : (short : Bool) (mask : ℕ) (D : table.Draft) (N : words.Node) (at m e : ℕ) → at ≡ length D.nodes
    → m ≡ length (emit D.nodes (part short true N.kind (meanings_of mask D.images N true at at)))
    → e ≡ length (emit (emit D.nodes (part short true N.kind (meanings_of mask D.images N true at at)))
    (part short false N.kind (meanings_of mask D.images N false at m)))
    → step short mask D N ≡ record {
      nodes = emit (emit D.nodes (part short true N.kind (meanings_of mask D.images N true at at)))
          (part short false N.kind (meanings_of mask D.images N false at m));
      images = D.images ++ (record { weak = m - 1; strong = e - 1; tolerant = tolerant_of mask D.images N.kind N.first N.second } ∷ []);
    }
step_is short mask D N at m e p q t = rw (t, q, p)

-- `draw_images`, before node 0: the table holds the opening, and no image is drawn (`Drafting`)
pub drafting_start : (short : Bool) (mask : ℕ) (ws o o' : List ℕ) (at : ℕ) (none : Image) → meant none ≡ no_image → Ruled ws → Holds opening o at o' →
    Drafting short mask ws o' 0 at (replicate 64 none) none o'
drafting_start short mask ws o o' at none e r h = record {
  D = opened;
  left = refl;
  fine = r.fine;
  sizes = refl;
  big = omega (arith, h.next);
  most = omega (arith, h.next);
  holds = holds_self opening o o' at h;
  wide = length-replicate {A = Image} 64 none;
  kept = λ a d l. rw (get_or-replicate 64 a none d (omega (arith, length-replicate {A = Image} 64 none))) e;
  last = e;
}

module _ (i : ℕ) (ws : List ℕ) (h : i < length ws) where
  drop_is : drop i ws ≡ get_or ws i 0 ∷ drop (i + 1) ws
  drop_is = rw add-one (drop-cons ws i 0 h)

  refusal_cons : nodes_refusal false i (length (drop i ws)) (drop i ws)
      ≡ or_else (node_refusal false i (node_of (get_or ws i 0))) (nodes_refusal false (i + 1) (length (drop (i + 1) ws)) (drop (i + 1) ws))
  unfolding nodes_refusal
  refusal_cons = rw drop_is

module _ (short : Bool) (mask : ℕ) (ws o : List ℕ) (i at : ℕ) (I : List Image) (L : Image) (o' : List ℕ)
    (d : Drafting short mask ws o i at I L o') (few : length ws ≤ max_rule_nodes) (h : i < length ws) where
  both_fine : (node_refusal false i (node_of (get_or ws i 0)) ≡ 0) × (nodes_refusal false (i + 1) (length (drop (i + 1) ws)) (drop (i + 1) ws) ≡ 0)
  both_fine = or_else_none _ _ (sym (refusal_cons i ws h) ∙ d.fine)

  accepted : AcceptedNode i (node_of (get_or ws i 0))
  accepted = accepted_node i (node_of (get_or ws i 0)) both_fine.0

  module _ (n : Node) (w : OfWord (get_or ws i 0) n) where
    pub first_low : n.first < max_rule_nodes
    first_low = omega (arith, w.first, first_below i (node_of (get_or ws i 0)) accepted (omega arith))

    pub second_low : n.second < max_rule_nodes
    second_low = omega (arith, w.second, second_below i (node_of (get_or ws i 0)) accepted (omega arith))

    pub kind_held : is_held false (meaning n).kind ≡ true
    kind_held = rw (ap (λ (m : words.Node). m.kind) w.meant) (rule_held _ accepted.known accepted.allowed)

  pub drafting_room : max_table_nodes ≤ length o' → Room 11 at o'
  drafting_room room = record { low = omega (arith, d.most); held = room }

  -- the turn at node n: r is its image
  module _ (n : Node) (p q : Image) (own : Bool) (r : Image) (o'' : List ℕ) (w : OfWord (get_or ws i 0) n) (eo : own ≡ bit_of mask n.first)
      (s : Stepped short own (meant (get_or I n.first p)) (meant (get_or I n.second q)) (meaning n) o' at r o'') where
    abbrev P : table.Image
    P = meant (get_or I n.first p)

    abbrev Q : table.Image
    Q = meant (get_or I n.second q)

    abbrev is : List table.Image
    is = d.D.images

    abbrev N : words.Node
    N = node_of (get_or ws i 0)

    first_is : P ≡ get_or is N.first no_image
    first_is = d.kept n.first p (omega (arith, d.wide, first_low n w)) ∙ ap (λ (m : words.Node). get_or is m.first no_image) w.meant

    second_is : Q ≡ get_or is N.second no_image
    second_is = d.kept n.second q (omega (arith, d.wide, second_low n w)) ∙ ap (λ (m : words.Node). get_or is m.second no_image) w.meant

    own_is : own ≡ bit_of mask N.first
    own_is = eo ∙ ap (λ (m : words.Node). bit_of mask m.first) w.meant

    parted : (x g : ℕ) (weak : Bool) →
        part_of short own P Q x g weak (meaning n).kind (meaning n).first ≡ part short weak N.kind (meanings_of mask is N weak x g)
    parted x g weak =
        ap (λ (m : words.Node). part_of short own P Q x g weak m.kind m.first) w.meant
        ∙ part_same mask is N P Q own first_is second_is own_is short x g weak

    tolerated : r.tolerant ≡ tolerant_of mask is N.kind N.first N.second
    tolerated =
        s.tolerant ∙ ap (λ (m : words.Node). tolerant_by own P.tolerant Q.tolerant m.kind) w.meant
        ∙ tolerant_same mask is N P Q own first_is second_is own_is

    abbrev weak_part : List Emit
    weak_part = part short true N.kind (meanings_of mask is N true at at)

    abbrev strong_part : List Emit
    strong_part = part short false N.kind (meanings_of mask is N false at s.middle)

    holds_both : Holds (emit (emit d.D.nodes weak_part) strong_part) o (r.strong + 1) o''
    holds_both =
        let both : Emitted (weak_part ++ strong_part) o' at (r.strong + 1) o'' = rw (parted at at true, parted at s.middle false) at s.emits in
        rw (emit_append d.D.nodes weak_part strong_part) at (holds_more d.D.nodes (weak_part ++ strong_part) o o' o'' at (r.strong + 1) d.holds both)

    middle_is : s.middle ≡ length (emit d.D.nodes weak_part)
    middle_is =
        let w : s.middle ≡ at + length weak_part = rw (parted at at true) at s.weakly in
        omega (arith, d.holds.next, emit_count d.D.nodes weak_part)

    abbrev E : table.Draft
    E = record { nodes = emit (emit d.D.nodes weak_part) strong_part; images = is ++ (meant r ∷ []) }

    stepped_is : step short mask d.D N ≡ E
    stepped_is =
        let u : s.middle - 1 ≡ r.weak = omega (arith, s.weak) in
        let v : r.strong + 1 - 1 ≡ r.strong = omega arith in
        step_is short mask d.D N at s.middle (r.strong + 1) d.holds.next middle_is holds_both.next ∙ rw (u, v, ← tolerated)

    left_more : draft_of short mask ws ≡ steps short mask E (map node_of (drop (i + 1) ws))
    left_more =
        d.left ∙ rw (drop_is i ws h) (ap (λ (F : table.Draft). steps short mask F (map node_of (drop (i + 1) ws))) stepped_is)

    -- `draw_images`, a turn: the images of node i are drawn and kept (`steps`, `Drafting`)
    pub drafting_next : Drafting short mask ws o (i + 1) (r.strong + 1) (set I i r) r o''
    drafting_next =
        let z : length (is ++ (meant r ∷ [])) - 1 ≡ i = omega (arith, length-append is (meant r ∷ []), d.sizes) in
        record {
          D = E;
          left = left_more;
          fine = both_fine.1;
          sizes = length-append is (meant r ∷ []) ∙ rw d.sizes;
          big = omega (arith, d.big, s.weakly, s.weak, s.grown);
          most = omega (arith, d.most, s.most);
          holds = holds_both;
          wide = length-set I i r ∙ d.wide;
          kept = kept_more I is r i (omega (arith, d.wide)) d.sizes d.kept;
          last = sym (rw z (get_or_at is (meant r) [] no_image i d.sizes));
        }

-- `draw_images`, no node is left: the table holds the rule's draft (`draft_of`, `Drawn`)
pub drafting_done : (short : Bool) (mask : ℕ) (ws o o₀ : List ℕ) (m i at : ℕ) (I : List Image) (L : Image) (o' : List ℕ) →
    Ruled ws → Holds opening o m o₀ → Drafting short mask ws o₀ i at I L o' → i ≤ length ws → length ws ≤ i → Drawn short mask ws o (record { at = at; last = L }) o'
drafting_done short mask ws o o₀ m i at I L o' r b d l h =
    let e : draft_of short mask ws ≡ d.D = d.left ∙ rw (drop_of_length-le ws h) in
    record {
      holds = rw e (holds_under opening d.D.nodes o o₀ o' m at b (omega (arith, b.next, d.big)) d.holds);
      last = rw e d.last;
      some = omega (arith, d.big);
      low = omega (arith, d.most, r.few);
    }

pub ruleset draft_laws = (rules, drafting_start, kind_held, first_low, second_low, drafting_room, drafting_next, drafting_done)
