-- Laws of the reader's cycle: a law for each call and each return.
use mathlib.Core.Path.{◌≡◌, refl, ap, sym, ◌∙◌}
use Prim.Native.Nat.{ℕ, suc, ◌+◌, ◌-◌, ◌*◌, ◌<◌, ◌≤◌}
use native.Mathlib.Omega.{arith}
use native.Mathlib.Numerals.{add-one}
use mathlib.Core.Bool.{true}
use mathlib.Core.List.{List, [], ◌∷◌, ◌++◌, append_assoc, map-append}
use lib.ListN.{length, drop, get_or, length-map}
use lib.Seq.{drop-cons}
use Rattle.std.proofs.Common.{inl, inr}
use Rattle.definitions.specs.Limits.{max_rule_nodes}
use Rattle.definitions.specs.Nodes as table
use Rattle.definitions.specs.Nodes.{Kind, Node, node, node_word, operand_span}
use Rattle.definitions.specs.OneLineSigns.{Sign, true_sign, atom_sign, prefix_sign, infix_sign, open_bracket, Prefix, Not, Next, Prev, Future, Always, Infix, Implies, Or, And, Until, Since}
use Rattle.definitions.specs.OneLineGrammar.{Tree, truth, atom, prefixed, joined, Level, Arrows, Ors, Ands, Untils, Prefixes, Primaries, Phrase, arrow, no_arrow, or, no_or, and, no_and, until, since, no_until, prefix, no_prefix, truth_alone, atom_alone, bracketed, larger, most_open}
use Rattle.definitions.specs.OneLineNodes.{rule_tree_of, size, nodes_from}
use Rattle.definitions.specs.OneLineReading.{strength}
use Rattle.theorems.proofs.Phrases.{flat, operand, operator, tight, tight_most, prefix_nodes, infix_nodes, sign_nodes, weight, phrase_flat, phrase_shorter, phrase_weight, larger_second, most_grows, phrase_opened}
use Rattle.theorems.proofs.OneLineTables.{nodes_size, size_some}
use Rattle.rules.specs.Kinds.{kind_in}
use Rattle.rules.specs.declared.kind.Kind.{Kind as KindCode}
use Rattle.rules.specs.declared.kind.Kind.TheVariants as kind
use Rattle.one_line_signs.specs.Signs.{sign_in, signs_in, infix_in, prefix_in}
use Rattle.one_line_signs.specs.declared.sign.Infix.{Infix as InfixCode}
use Rattle.one_line_signs.specs.declared.sign.Infix.TheVariants as between
use Rattle.one_line_signs.specs.declared.sign.Prefix.{Prefix as PrefixCode}
use Rattle.one_line_signs.specs.declared.sign.Sign.{Sign as SignCode}
use Rattle.one_line_signs.specs.declared.sign.Sign.TheVariants as sign
use Rattle.one_line_readers.specs.Nodes.{words, prefix_first, prefix_last, infix_middle, infix_last, not_words, dual_words}
use Rattle.one_line_readers.specs.Laying.{Laid, NodeThere, Space, SpaceBehind, SpaceFor, SpaceOver, SpaceLast}
use Rattle.one_line_readers.specs.Reading.{NotFirst, UntilThere, NoPrefix, Ready, Primed, tree_words, Read}
use Rattle.one_line_readers.specs.declared.emitted.Emitted.{Emitted}
use Rattle.one_line_readers.proofs.Laying.{laid_none, laid_seq, relaid}

-- what falls: the brackets that may still be opened and the signs that are left, and then the level
unfoldable pub measure : ℕ → ℕ → ℕ → ℕ
measure left n level = (left + n) * 8 + level

-- a call at a lower level
pub falls : (left n t k i : ℕ) → measure left n k ≡ t → i < k → measure left n i < t
unfolding measure
falls left n t k i e h = omega arith

-- ---- the words of a tree

tree_words_length : (t : Tree) (b : ℕ) → length (tree_words t b) ≡ size (rule_tree_of t)
tree_words_length t b = length-map (nodes_from b (rule_tree_of t)) node_word ∙ nodes_size (rule_tree_of t) b

-- a sign adds as many nodes as stand between and after its operands
infix_adds : (x : Infix) (m e : ℕ) → length (infix_middle x m) + length (infix_last x m e) ≡ infix_nodes x
unfolding infix_middle infix_last infix_nodes
infix_adds Implies m e = refl
infix_adds Or m e = refl
infix_adds And m e = refl
infix_adds Until m e = refl
infix_adds Since m e = refl

prefix_adds : (x : Prefix) (b e : ℕ) → length (prefix_first x) + length (prefix_last x b e) ≡ prefix_nodes x
unfolding prefix_first prefix_last prefix_nodes
prefix_adds Not b e = refl
prefix_adds Next b e = refl
prefix_adds Prev b e = refl
prefix_adds Future b e = refl
prefix_adds Always b e = refl

-- the nodes of two operands and a sign, in their order
infix_nodes_lem : (x : Infix) (p q : Tree) (made m n e : ℕ) → m ≡ made + size (rule_tree_of p) → n ≡ m + length (infix_middle x m) → e ≡ n + size (rule_tree_of q)
    → nodes_from made (rule_tree_of (joined x p q)) ≡ nodes_from made (rule_tree_of p) ++ (infix_middle x m ++ (nodes_from n (rule_tree_of q) ++ infix_last x m e))
unfolding nodes_from rule_tree_of size infix_middle infix_last
infix_nodes_lem Implies p q made m n e i j k =
    let a : made + (size (rule_tree_of p) + 1) ≡ n = omega arith in
    let c : n - 1 ≡ m = omega arith in
    let d : n + size (rule_tree_of q) ≡ e = omega arith in
    let f : made + size (rule_tree_of p) ≡ m = omega arith in
    rw (a, c, d, f) (simp append_assoc)
infix_nodes_lem Or p q made m n e i j k =
    let f : made + size (rule_tree_of p) ≡ m = omega arith in
    let d : m + size (rule_tree_of q) ≡ e = omega arith in
    let h : n ≡ m = omega arith in
    rw (f, d, h)
infix_nodes_lem And p q made m n e i j k =
    let h : made + (size (rule_tree_of p) + 1 + (size (rule_tree_of q) + 1 + 1)) - 1 ≡ e + 1 = omega arith in
    let a : made + (size (rule_tree_of p) + 1) ≡ n = omega arith in
    let c : n - 1 ≡ m = omega arith in
    let g : n + (size (rule_tree_of q) + 1) - 1 ≡ e = omega arith in
    let d : n + size (rule_tree_of q) ≡ e = omega arith in
    let f : made + size (rule_tree_of p) ≡ m = omega arith in
    rw (h, a, c, g, d, f) (simp append_assoc)
infix_nodes_lem Until p q made m n e i j k =
    let f : made + size (rule_tree_of p) ≡ m = omega arith in
    let d : m + size (rule_tree_of q) ≡ e = omega arith in
    let h : n ≡ m = omega arith in
    rw (f, d, h)
infix_nodes_lem Since p q made m n e i j k =
    let f : made + size (rule_tree_of p) ≡ m = omega arith in
    let d : m + size (rule_tree_of q) ≡ e = omega arith in
    let h : n ≡ m = omega arith in
    rw (f, d, h)

append_one_by_one : (l : List Node) (a b c : Node) → (((l ++ (a ∷ [])) ++ (b ∷ [])) ++ (c ∷ [])) ≡ l ++ (a ∷ b ∷ c ∷ [])
append_one_by_one l a b c = simp append_assoc

-- the nodes of an operand and a prefix, in their order
prefix_nodes_lem : (x : Prefix) (p : Tree) (b n e : ℕ) → n ≡ b + length (prefix_first x) → e ≡ n + size (rule_tree_of p)
    → nodes_from b (rule_tree_of (prefixed x p)) ≡ prefix_first x ++ (nodes_from n (rule_tree_of p) ++ prefix_last x b e)
unfolding nodes_from rule_tree_of size prefix_first prefix_last
prefix_nodes_lem Not p b n e i j = let h : n ≡ b = omega arith in let d : b + size (rule_tree_of p) ≡ e = omega arith in rw (d, h)
prefix_nodes_lem Next p b n e i j = let h : n ≡ b = omega arith in let d : b + size (rule_tree_of p) ≡ e = omega arith in rw (d, h)
prefix_nodes_lem Prev p b n e i j = let h : n ≡ b = omega arith in let d : b + size (rule_tree_of p) ≡ e = omega arith in rw (d, h)
prefix_nodes_lem Future p b n e i j =
    let a : b + 1 ≡ n = omega arith in
    let c : n - 1 ≡ b = omega arith in
    let d : n + size (rule_tree_of p) ≡ e = omega arith in
    rw (a, c, d)
prefix_nodes_lem Always p b n e i j =
    let h : b + (1 + (size (rule_tree_of p) + 1 + 1)) - 1 ≡ e + 1 = omega arith in
    let a : b + 1 ≡ n = omega arith in
    let c : n - 1 ≡ b = omega arith in
    let g : n + (size (rule_tree_of p) + 1) - 1 ≡ e = omega arith in
    let d : n + size (rule_tree_of p) ≡ e = omega arith in
    rw (h, a, c, g, d) (ap (λ (l : List Node). node table.True 0 0 ∷ l) (append_one_by_one (nodes_from n (rule_tree_of p)) _ _ _))

infix_words : (x : Infix) (p q : Tree) (made m n e : ℕ) → m ≡ made + size (rule_tree_of p) → n ≡ m + length (words (infix_middle x m)) → e ≡ n + size (rule_tree_of q)
    → tree_words p made ++ (words (infix_middle x m) ++ (tree_words q n ++ words (infix_last x m e))) ≡ tree_words (joined x p q) made
infix_words x p q made m n e i j k =
    let l : n ≡ m + length (infix_middle x m) = j ∙ ap (λ (z : ℕ). m + z) (length-map (infix_middle x m) node_word) in
    rw (infix_nodes_lem x p q made m n e i l k) (simp map-append)

prefix_words : (x : Prefix) (p : Tree) (b n e : ℕ) → n ≡ b + length (words (prefix_first x)) → e ≡ n + size (rule_tree_of p)
    → words (prefix_first x) ++ (tree_words p n ++ words (prefix_last x b e)) ≡ tree_words (prefixed x p) b
prefix_words x p b n e i j =
    let l : n ≡ b + length (prefix_first x) = i ∙ ap (λ (z : ℕ). b + z) (length-map (prefix_first x) node_word) in
    rw (prefix_nodes_lem x p b n e l j) (simp map-append)

-- ---- behind a phrase

read_size : {l : Level} {b : ℕ} {s u : List SignCode} {o o' : Emitted} (r : Read l b s o u o') → o'.count ≡ o.count + size (rule_tree_of r.tree)
read_size {o = o} r = r.laid.next ∙ ap (λ (k : ℕ). o.count + k) (tree_words_length r.tree o.count)

record Going (left : ℕ) (s : List SignCode) (o : Emitted) (u : List SignCode) (o' : Emitted) : Type 0 where
  opened : ℕ
  most : ℕ
  due : flat (signs_in u) operator opened ≡ true
  deep : most_open most opened (signs_in u) ≤ left + opened
  room : o'.count + weight (signs_in u) ≤ max_rule_nodes
  held : max_rule_nodes ≤ length o'.words
  behind : o.count < o'.count
  onwards : length u < length s

going : {l : Level} {b left : ℕ} {s u : List SignCode} {o o' : Emitted} → Ready left s o → Read l b s o u o' → Going left s o u o'
going {s = s} {u = u} w r =
    let p = phrase_opened r.phrase w.most w.opened in
    record {
      opened = w.opened;
      most = p.more;
      due = sym (phrase_flat r.phrase w.opened) ∙ w.due;
      deep = omega (arith, w.deep, p.on);
      room = omega (arith, w.room, read_size r, phrase_weight r.phrase);
      held = omega (arith, w.held, r.laid.kept);
      behind = omega (arith, read_size r, size_some (rule_tree_of r.tree));
      onwards = omega (arith, phrase_shorter r.phrase, length-map s sign_in, length-map u sign_in);
    }

-- `last` behind a phrase
pub read_last : {l : Level} {b left : ℕ} {s u : List SignCode} {o o' : Emitted} → Ready left s o → Read l b s o u o' → NodeThere o'
read_last w r = record { some = omega (arith, (going w r).behind); few = omega (arith, (going w r).room) }

weight_infix : (x : Infix) (s : List Sign) → weight (infix_sign x ∷ s) ≡ infix_nodes x + weight s
unfolding weight sign_nodes
weight_infix x s = refl

flat_infix : (x : Infix) (s : List Sign) (k : ℕ) → flat (infix_sign x ∷ s) operator k ≡ flat s operand k
unfolding flat
flat_infix x s k = refl

most_infix : (x : Infix) (s : List Sign) (most k : ℕ) → most_open most k (infix_sign x ∷ s) ≡ most_open most k s
unfolding most_open
most_infix x s most k = refl

-- ---- a sign behind a phrase, and what is read after it
module _ {l : Level} {b left : ℕ} {x : InfixCode} {s u v : List SignCode} {o o₁ : Emitted} (w : Ready left s o) (r₁ : Read l b s o u o₁) (j : u ≡ (sign.Infix x ∷ v)) where
  infix_room : o₁.count + (infix_nodes (infix_in x) + weight (signs_in v)) ≤ max_rule_nodes
  infix_room = omega (arith, (going w r₁).room, ap (λ (u : List SignCode). weight (signs_in u)) j ∙ weight_infix (infix_in x) (signs_in v))

  -- a call after the sign, at whatever level: wrong programs are then refused for what they read
  pub falls_after : (t k i : ℕ) → measure left (length s) k ≡ t → i < k + 8 → measure left (length v) i < t
  unfolding measure
  falls_after t k i e h = omega (arith, (going w r₁).onwards, ap length j)

  module _ {o₂ : Emitted} (mid : Laid (words (infix_middle (infix_in x) o₁.count)) o₁ o₂) where
    infix_ready : Ready left v o₂
    infix_ready = record {
      opened = (going w r₁).opened;
      most = (going w r₁).most;
      due = sym (flat_infix (infix_in x) (signs_in v) (going w r₁).opened) ∙ (ap (λ (u : List SignCode). flat (signs_in u) operator (going w r₁).opened) (sym j) ∙ (going w r₁).due);
      deep =
          omega (
            arith,
            (going w r₁).deep,
            ap (λ (u : List SignCode). most_open (going w r₁).most (going w r₁).opened (signs_in u)) j ∙ most_infix (infix_in x) (signs_in v) (going w r₁).most (going w r₁).opened,
          );
      room = omega (arith, infix_room, infix_adds (infix_in x) o₁.count o₁.count, mid.next, length-map (infix_middle (infix_in x) o₁.count) node_word);
      held = omega (arith, (going w r₁).held, mid.kept);
    }

    module _ {l₂ : Level} {b₂ : ℕ} {u₂ : List SignCode} {o₃ : Emitted} (r₂ : Read l₂ b₂ v o₂ u₂ o₃) where
      infix_after : o₃.count + length (infix_last (infix_in x) o₁.count o₃.count) ≤ max_rule_nodes
      infix_after = omega (arith, infix_room, infix_adds (infix_in x) o₁.count o₃.count, mid.next, length-map (infix_middle (infix_in x) o₁.count) node_word, read_size r₂, phrase_weight r₂.phrase)

      infix_held : max_rule_nodes ≤ length o₃.words
      infix_held = (going infix_ready r₂).held

      infix_some : 0 < o₃.count
      infix_some = omega (arith, (going infix_ready r₂).behind)

      infix_onwards : length u₂ < length u
      infix_onwards = omega (arith, (going infix_ready r₂).onwards, ap length j)

      infix_first : Phrase l (signs_in s) (infix_sign (infix_in x) ∷ signs_in v) r₁.tree
      infix_first = rw j at r₁.phrase

      infix_laid : {o₄ : Emitted} → Laid (words (infix_last (infix_in x) o₁.count o₃.count)) o₃ o₄ → Laid (tree_words (joined (infix_in x) r₁.tree r₂.tree) o.count) o o₄
      infix_laid last =
          relaid (infix_words (infix_in x) r₁.tree r₂.tree o.count o₁.count o₂.count o₃.count (read_size r₁) mid.next (read_size r₂))
          (laid_seq r₁.laid (laid_seq mid (laid_seq r₂.laid last)))

-- what was read stops at a sign
below : (k b : ℕ) → k < b + 1 → (k ≡ b → ⊥) → k < b
below k b h n = omega arith

-- where a sign between two operands binds with strength k, it is that sign
tight_infix : (u : List SignCode) (k : ℕ) → 0 < k → tight (signs_in u) ≡ k → ((x : InfixCode) (v : List SignCode) → u ≡ (sign.Infix x ∷ v) → strength (infix_in x) ≡ k → ⊥) → ⊥
tight_infix [] k h e n = omega arith
tight_infix (sign.True ∷ v) k h e n = omega arith
tight_infix (sign.Atom a ∷ v) k h e n = omega arith
tight_infix (sign.Prefix x ∷ v) k h e n = omega arith
tight_infix (sign.Infix x ∷ v) k h e n = n x v refl e
tight_infix (sign.Opening ∷ v) k h e n = omega arith
tight_infix (sign.Closing ∷ v) k h e n = omega arith

-- a phrase ends where what would go on does not follow
ended : (x : InfixCode) (u : List SignCode) → NotFirst (sign.Infix x) u → ((y : InfixCode) → strength (infix_in y) ≡ strength (infix_in x) → y ≡ x) → tight (signs_in u) ≡ strength (infix_in x) → ⊥
ended x u n only e = tight_infix u (strength (infix_in x)) (some x) e (λ y v j s. n v (j ∙ rw (only y s)))
  where
    some : (x : InfixCode) → 0 < strength (infix_in x)
    some between.Implies = omega arith
    some between.Or = omega arith
    some between.And = omega arith
    some between.Until = omega arith
    some between.Since = omega arith

-- ---- `arrows`
implies_only : (y : InfixCode) → strength (infix_in y) ≡ 1 → y ≡ between.Implies
implies_only between.Implies e = refl
implies_only between.Or e = absurd (omega arith)
implies_only between.And e = absurd (omega arith)
implies_only between.Until e = absurd (omega arith)
implies_only between.Since e = absurd (omega arith)

-- these do not ask at which level the operands were read
module _ {l : Level} {b left : ℕ} {s u v : List SignCode} {o o₁ : Emitted} (w : Ready left s o) (r₁ : Read l b s o u o₁) (j : u ≡ (sign.Infix between.Implies ∷ v)) where
  implies_room : o₁.count + 2 ≤ max_rule_nodes
  unfolding infix_nodes
  implies_room = omega (arith, infix_room w r₁ j)

  pub arrows_not : SpaceBehind 1 o₁
  arrows_not = record { behind = omega (arith, (going w r₁).behind); space = record { room = omega (arith, implies_room); held = (going w r₁).held } }

  module _ {o₂ : Emitted} (mid : Laid (not_words o₁.count) o₁ o₂) where
    pub arrows_ready : Ready left v o₂
    unfolding infix_middle
    arrows_ready = infix_ready w r₁ j mid

    pub arrows_join : {l₂ : Level} {b₂ : ℕ} {u₂ : List SignCode} {o₃ : Emitted} → Read l₂ b₂ v o₂ u₂ o₃ → {p : ℕ} → p ≡ o₂.count - 1 → SpaceOver 1 kind.Or p o₃
    unfolding infix_middle infix_last
    arrows_join r₂ e =
        record { known = λ z. cc; first = omega (arith, mid.next, implies_room); space = record { behind = infix_some w r₁ j mid r₂; space = record { room = infix_after w r₁ j mid r₂; held = infix_held w r₁ j mid r₂ } } }

-- `arrows`, `Phrase`'s `arrow`: what is joined
pub arrows_read : {left : ℕ} {s u v u₂ : List SignCode} {o o₁ o₂ o₃ o₄ : Emitted} → Ready left s o → Read Ors 2 s o u o₁ → u ≡ (sign.Infix between.Implies ∷ v) → Laid (not_words o₁.count) o₁ o₂ → Read Arrows 1 v o₂ u₂ o₃
    → {p : ℕ} → p ≡ o₂.count - 1 → Laid (words (node table.Or p (o₃.count - 1) ∷ [])) o₃ o₄ → Read Arrows 1 s o u₂ o₄
unfolding infix_middle infix_last
arrows_read {o₁ = o₁} w r₁ j mid r₂ {p} e last =
    let m : p ≡ o₁.count = omega (arith, mid.next) in
    record {
      tree = joined Implies r₁.tree r₂.tree;
      phrase = arrow (infix_first w r₁ j mid r₂) r₂.phrase;
      stops = r₂.stops;
      laid = infix_laid w r₁ j mid r₂ (relaid (rw m) last);
    }

-- `arrows`, `Phrase`'s `no_arrow`: no arrow follows
pub arrows_stop : {s u : List SignCode} {o o₁ : Emitted} → Read Ors 2 s o u o₁ → NotFirst (sign.Infix between.Implies) u → Read Arrows 1 s o u o₁
arrows_stop {u = u} r n = record {
  tree = r.tree;
  phrase = no_arrow r.phrase;
  stops = below (tight (signs_in u)) 1 r.stops (ended between.Implies u n implies_only);
  laid = r.laid;
}

-- ---- `ors`

or_only : (y : InfixCode) → strength (infix_in y) ≡ 2 → y ≡ between.Or
or_only between.Implies e = absurd (omega arith)
or_only between.Or e = refl
or_only between.And e = absurd (omega arith)
or_only between.Until e = absurd (omega arith)
or_only between.Since e = absurd (omega arith)

-- `ors`: before the first turn
pub ors_start : {s u : List SignCode} {o o₁ : Emitted} → Read Ands 3 s o u o₁ → Read Ors 3 s o u o₁
ors_start r = record { tree = r.tree; phrase = no_or r.phrase; stops = r.stops; laid = r.laid }

-- `ors`, `Phrase`'s `no_or` and `or`: no `|` follows
pub ors_stop : {s u : List SignCode} {o o₁ : Emitted} → Read Ors 3 s o u o₁ → NotFirst (sign.Infix between.Or) u → Read Ors 2 s o u o₁
ors_stop {u = u} r n = record {
  tree = r.tree;
  phrase = r.phrase;
  stops = below (tight (signs_in u)) 2 r.stops (ended between.Or u n or_only);
  laid = r.laid;
}

module _ {left : ℕ} {s u v : List SignCode} {o o₁ : Emitted} (w : Ready left s o) (r₁ : Read Ors 3 s o u o₁) (j : u ≡ (sign.Infix between.Or ∷ v)) where
  or_room : o₁.count + 1 ≤ max_rule_nodes
  unfolding infix_nodes
  or_room = omega (arith, infix_room w r₁ j)

  or_mid : Laid (words (infix_middle Or o₁.count)) o₁ o₁
  unfolding infix_middle
  or_mid = laid_none o₁ (omega (arith, or_room, (going w r₁).held))

  pub ors_ready : Ready left v o₁
  ors_ready = infix_ready w r₁ j or_mid

  module _ {l₂ : Level} {b₂ : ℕ} {u₂ : List SignCode} {o₃ : Emitted} (r₂ : Read l₂ b₂ v o₁ u₂ o₃) where
    pub ors_join : {p : ℕ} → p ≡ o₁.count - 1 → SpaceOver 1 kind.Or p o₃
    unfolding infix_last
    ors_join e =
        record { known = λ z. cc; first = omega (arith, or_room); space = record { behind = infix_some w r₁ j or_mid r₂; space = record { room = infix_after w r₁ j or_mid r₂; held = infix_held w r₁ j or_mid r₂ } } }

    pub ors_less : length u₂ < length u
    ors_less = infix_onwards w r₁ j or_mid r₂

  -- `ors`, `Phrase`'s `or`: a turn, one operand more
  pub ors_again : {u₂ : List SignCode} {o₃ o₄ : Emitted} → Read Ands 3 v o₁ u₂ o₃ → {p : ℕ} → p ≡ o₁.count - 1 → Laid (words (node table.Or p (o₃.count - 1) ∷ [])) o₃ o₄ → Read Ors 3 s o u₂ o₄
  unfolding infix_last
  ors_again r₂ e last = record {
    tree = joined Or r₁.tree r₂.tree;
    phrase = or (infix_first w r₁ j or_mid r₂) r₂.phrase;
    stops = r₂.stops;
    laid = infix_laid w r₁ j or_mid r₂ (relaid (rw e) last);
  }

-- ---- `ands`

and_only : (y : InfixCode) → strength (infix_in y) ≡ 3 → y ≡ between.And
and_only between.Implies e = absurd (omega arith)
and_only between.Or e = absurd (omega arith)
and_only between.And e = refl
and_only between.Until e = absurd (omega arith)
and_only between.Since e = absurd (omega arith)

-- `ands`: before the first turn
pub ands_start : {s u : List SignCode} {o o₁ : Emitted} → Read Untils 4 s o u o₁ → Read Ands 4 s o u o₁
ands_start r = record { tree = r.tree; phrase = no_and r.phrase; stops = r.stops; laid = r.laid }

-- `ands`, `Phrase`'s `no_and` and `and`: no `&` follows
pub ands_stop : {s u : List SignCode} {o o₁ : Emitted} → Read Ands 4 s o u o₁ → NotFirst (sign.Infix between.And) u → Read Ands 3 s o u o₁
ands_stop {u = u} r n = record {
  tree = r.tree;
  phrase = r.phrase;
  stops = below (tight (signs_in u)) 3 r.stops (ended between.And u n and_only);
  laid = r.laid;
}

module _ {left : ℕ} {s u v : List SignCode} {o o₁ : Emitted} (w : Ready left s o) (r₁ : Read Ands 4 s o u o₁) (j : u ≡ (sign.Infix between.And ∷ v)) where
  and_room : o₁.count + 4 ≤ max_rule_nodes
  unfolding infix_nodes
  and_room = omega (arith, infix_room w r₁ j)

  pub ands_not : SpaceBehind 1 o₁
  ands_not = record { behind = omega (arith, (going w r₁).behind); space = record { room = omega (arith, and_room); held = (going w r₁).held } }

  module _ {o₂ : Emitted} (mid : Laid (not_words o₁.count) o₁ o₂) where
    pub ands_ready : Ready left v o₂
    unfolding infix_middle
    ands_ready = infix_ready w r₁ j mid

    module _ {l₂ : Level} {b₂ : ℕ} {u₂ : List SignCode} {o₃ : Emitted} (r₂ : Read l₂ b₂ v o₂ u₂ o₃) where
      pub ands_dual : {p : ℕ} → p ≡ o₂.count - 1 → SpaceOver 3 kind.Or p o₃
      unfolding infix_middle infix_last
      ands_dual e =
          let room = infix_after w r₁ j mid r₂ in
          record {
            known = λ z. cc;
            first = omega (arith, mid.next, and_room);
            space = record { behind = infix_some w r₁ j mid r₂; space = record { room = room; held = infix_held w r₁ j mid r₂ } };
          }

      pub ands_less : length u₂ < length u
      unfolding infix_middle
      ands_less = infix_onwards w r₁ j mid r₂

    -- `ands`, `Phrase`'s `and`: a turn, one operand more
    pub ands_again : {u₂ : List SignCode} {o₃ o₄ : Emitted} → Read Untils 4 v o₂ u₂ o₃ → {p : ℕ} → p ≡ o₂.count - 1 → Laid (dual_words table.Or p o₃.count) o₃ o₄ → Read Ands 4 s o u₂ o₄
    unfolding infix_middle infix_last
    ands_again r₂ {p} e last =
        let m : p ≡ o₁.count = omega (arith, mid.next) in
        record {
          tree = joined And r₁.tree r₂.tree;
          phrase = and (infix_first w r₁ j mid r₂) r₂.phrase;
          stops = r₂.stops;
          laid = infix_laid w r₁ j mid r₂ (relaid (rw m) last);
        }

-- ---- `untils`

-- `untils`, `Phrase`'s `no_until`: neither `U` nor `S` follows
pub untils_stop : {s u : List SignCode} {o o₁ : Emitted} → Read Prefixes 5 s o u o₁ → NotFirst (sign.Infix between.Until) u × NotFirst (sign.Infix between.Since) u → Read Untils 4 s o u o₁
untils_stop {u = u} r n = record {
  tree = r.tree;
  phrase = no_until r.phrase;
  stops = below (tight (signs_in u)) 4 r.stops (λ e. tight_infix u 4 (omega arith) e go);
  laid = r.laid;
}
  where
    go : (x : InfixCode) (v : List SignCode) → u ≡ (sign.Infix x ∷ v) → strength (infix_in x) ≡ 4 → ⊥
    go between.Implies v j e = omega arith
    go between.Or v j e = omega arith
    go between.And v j e = omega arith
    go between.Until v j e = n.0 v j
    go between.Since v j e = n.1 v j

-- which of `U` and `S` follows, and what it joins
record UntilJoins (u v : List SignCode) (k : KindCode) : Type 0 where
  x : InfixCode
  there : u ≡ (sign.Infix x ∷ v)
  known : kind_in k ≡ table.Unknown → ⊥
  adds : infix_nodes (infix_in x) ≡ 1
  middle : (m : ℕ) → [] ≡ words (infix_middle (infix_in x) m)
  last : (m e : ℕ) → node (kind_in k) (m - 1) (e - 1) ∷ [] ≡ infix_last (infix_in x) m e
  phrase : {s v u : List Sign} {p q : Tree} → Phrase Prefixes s (infix_sign (infix_in x) ∷ v) p → Phrase Untils v u q → Phrase Untils s u (joined (infix_in x) p q)

until_joins : {u v : List SignCode} {k : KindCode} → UntilThere u k v → UntilJoins u v k
unfolding infix_nodes infix_middle infix_last
until_joins (inl t) = record { x = between.Until; there = t.0; known = λ z. let y = rw t.1 at z in cc; adds = refl; middle = λ m. refl; last = λ m e. rw t.1; phrase = λ f g. until f g }
until_joins (inr t) = record { x = between.Since; there = t.0; known = λ z. let y = rw t.1 at z in cc; adds = refl; middle = λ m. refl; last = λ m e. rw t.1; phrase = λ f g. since f g }

module _ {left : ℕ} {s u v : List SignCode} {k : KindCode} {o o₁ : Emitted} (w : Ready left s o) where
  module _ {l : Level} {b : ℕ} (r₁ : Read l b s o u o₁) (h : UntilThere u k v) where
    abbrev t : UntilJoins u v k
    t = until_joins h

    until_room : o₁.count + 1 ≤ max_rule_nodes
    until_room = omega (arith, infix_room w r₁ t.there, t.adds)

    until_mid : Laid (words (infix_middle (infix_in t.x) o₁.count)) o₁ o₁
    until_mid = relaid (t.middle o₁.count) (laid_none o₁ (omega (arith, until_room, (going w r₁).held)))

    -- a call after the sign, at whatever level
    pub falls_after_until : (t k i : ℕ) → measure left (length s) k ≡ t → i < k + 8 → measure left (length v) i < t
    falls_after_until = falls_after w r₁ (until_joins h).there

    pub untils_ready : Ready left v o₁
    untils_ready = infix_ready w r₁ t.there until_mid

    pub untils_join : {l₂ : Level} {b₂ : ℕ} {u₂ : List SignCode} {o₃ : Emitted} → Read l₂ b₂ v o₁ u₂ o₃ → {p : ℕ} → p ≡ o₁.count - 1 → SpaceOver 1 k p o₃
    untils_join {o₃ = o₃} r₂ e =
        let room : o₃.count + 1 ≤ max_rule_nodes = omega (arith, infix_after w r₁ t.there until_mid r₂, ap (λ (ns : List Node). length ns) (t.last o₁.count o₃.count)) in
        record { known = t.known; first = omega (arith, until_room); space = record { behind = infix_some w r₁ t.there until_mid r₂; space = record { room = room; held = infix_held w r₁ t.there until_mid r₂ } } }

  -- `untils`, `Phrase`'s `until` and `since`: what is joined
  pub untils_read : Read Prefixes 5 s o u o₁ → UntilThere u k v → {u₂ : List SignCode} {o₃ o₄ : Emitted} → Read Untils 4 v o₁ u₂ o₃ → {p : ℕ} → p ≡ o₁.count - 1
      → Laid (words (node (kind_in k) p (o₃.count - 1) ∷ [])) o₃ o₄ → Read Untils 4 s o u₂ o₄
  untils_read r₁ h {o₃ = o₃} r₂ e last =
      let j = until_joins h in
      let mid = until_mid r₁ h in
      record {
        tree = joined (infix_in j.x) r₁.tree r₂.tree;
        phrase = j.phrase (infix_first w r₁ j.there mid r₂) r₂.phrase;
        stops = r₂.stops;
        laid = infix_laid w r₁ j.there mid r₂ (relaid (rw e (ap words (j.last o₁.count o₃.count))) last);
      }

-- ---- `prefixes`
weight_prefix : (x : Prefix) (s : List Sign) → weight (prefix_sign x ∷ s) ≡ prefix_nodes x + weight s
unfolding weight sign_nodes
weight_prefix x s = refl

flat_prefix : (x : Prefix) (s : List Sign) (k : ℕ) → flat (prefix_sign x ∷ s) operand k ≡ flat s operand k
unfolding flat
flat_prefix x s k = refl

most_prefix : (x : Prefix) (s : List Sign) (most k : ℕ) → most_open most k (prefix_sign x ∷ s) ≡ most_open most k s
unfolding most_open
most_prefix x s most k = refl

pub prefixes_primed : {left : ℕ} {s : List SignCode} {o : Emitted} → Ready left s o → NoPrefix s → Primed left s o
prefixes_primed w n = record { ready = w; plain = n }

module _ {left : ℕ} {s v : List SignCode} {x : PrefixCode} {o : Emitted} (w : Ready left s o) (j : s ≡ (sign.Prefix x ∷ v)) where
  prefix_room : o.count + (prefix_nodes (prefix_in x) + weight (signs_in v)) ≤ max_rule_nodes
  prefix_room = omega (arith, w.room, ap (λ (s : List SignCode). weight (signs_in s)) j ∙ weight_prefix (prefix_in x) (signs_in v))

  pub prefixes_open : Space (length (prefix_first (prefix_in x))) o
  prefixes_open = record { room = omega (arith, prefix_room, prefix_adds (prefix_in x) o.count o.count); held = w.held }

  -- a call after the prefix, at whatever level
  pub falls_after_prefix : (t k i : ℕ) → measure left (length s) k ≡ t → i < k + 8 → measure left (length v) i < t
  unfolding measure
  falls_after_prefix t k i e h = omega (arith, ap length j)

  module _ {o₁ : Emitted} (first : Laid (words (prefix_first (prefix_in x))) o o₁) where
    pub prefixes_ready : Ready left v o₁
    prefixes_ready = record {
      opened = w.opened;
      most = w.most;
      due = sym (flat_prefix (prefix_in x) (signs_in v) w.opened) ∙ (ap (λ (s : List SignCode). flat (signs_in s) operand w.opened) (sym j) ∙ w.due);
      deep = omega (arith, w.deep, ap (λ (s : List SignCode). most_open w.most w.opened (signs_in s)) j ∙ most_prefix (prefix_in x) (signs_in v) w.most w.opened);
      room = omega (arith, prefix_room, prefix_adds (prefix_in x) o.count o.count, first.next, length-map (prefix_first (prefix_in x)) node_word);
      held = omega (arith, w.held, first.kept);
    }

    pub prefixes_close : {l : Level} {b : ℕ} {u : List SignCode} {o₂ : Emitted} → Read l b v o₁ u o₂ → {n : ℕ} → n ≡ o.count → SpaceLast (prefix_in x) n o₂
    prefixes_close {o₂ = o₂} r {n} e =
        let room : o₂.count + length (prefix_last (prefix_in x) n o₂.count) ≤ max_rule_nodes
        = omega (arith, prefix_room, prefix_adds (prefix_in x) n o₂.count, first.next, length-map (prefix_first (prefix_in x)) node_word, read_size r, phrase_weight r.phrase) in
        record { order = omega (arith, first.next, (going prefixes_ready r).behind); space = record { room = room; held = (going prefixes_ready r).held } }

    -- `prefixes`, `Phrase`'s `prefix`: a prefix and its operand
    pub prefixes_read : {u : List SignCode} {o₂ o₃ : Emitted} → Read Prefixes 5 v o₁ u o₂ → {n : ℕ} → n ≡ o.count → Laid (words (prefix_last (prefix_in x) n o₂.count)) o₂ o₃ → Read Prefixes 5 s o u o₃
    prefixes_read {o₂ = o₂} r e last = record {
      tree = prefixed (prefix_in x) r.tree;
      phrase = rw j (prefix (prefix_in x) r.phrase);
      stops = r.stops;
      laid =
          relaid (prefix_words (prefix_in x) r.tree o.count o₁.count o₂.count first.next (read_size r))
          (laid_seq first (laid_seq r.laid (relaid (rw e) last)));
    }

-- `prefixes`, `Phrase`'s `no_prefix`: no prefix
pub prefixes_primary : {s u : List SignCode} {o o₁ : Emitted} → Read Primaries 5 s o u o₁ → Read Prefixes 5 s o u o₁
prefixes_primary r = record { tree = r.tree; phrase = no_prefix r.phrase; stops = r.stops; laid = r.laid }

-- ---- `primaries`
flat_none : (k : ℕ) → flat [] operand k ≡ true → ⊥
unfolding flat
flat_none k e = cc

flat_open : (s : List Sign) (k : ℕ) → flat (open_bracket ∷ s) operand k ≡ flat s operand (suc k)
unfolding flat
flat_open s k = refl

most_open_lem : (s : List Sign) (most k : ℕ) → most_open most k (open_bracket ∷ s) ≡ most_open (larger most (suc k)) (suc k) s
unfolding most_open
most_open_lem s most k = rw (add-one k)

weight_open : (s : List Sign) → weight (open_bracket ∷ s) ≡ weight s
unfolding weight sign_nodes
weight_open s = omega arith

weight_one : (x : Sign) (s : List Sign) → sign_nodes x ≡ 1 → weight (x ∷ s) ≡ 1 + weight s
unfolding weight
weight_one x s e = rw e

-- after a bracketed rule comes its end
closes : (u : List SignCode) (k : ℕ) → flat (signs_in u) operator (suc k) ≡ true → tight (signs_in u) < 1 → u ≡ (sign.Closing ∷ drop 1 u)
unfolding flat
closes [] k e h = cc
closes (sign.True ∷ u) k e h = cc
closes (sign.Atom n ∷ u) k e h = cc
closes (sign.Prefix x ∷ u) k e h = cc
closes (sign.Infix between.Implies ∷ u) k e h = absurd (omega arith)
closes (sign.Infix between.Or ∷ u) k e h = absurd (omega arith)
closes (sign.Infix between.And ∷ u) k e h = absurd (omega arith)
closes (sign.Infix between.Until ∷ u) k e h = absurd (omega arith)
closes (sign.Infix between.Since ∷ u) k e h = absurd (omega arith)
closes (sign.Opening ∷ u) k e h = cc
closes (sign.Closing ∷ u) k e h = refl

-- where an operand is due, a sign stands
pub primaries_some : {left : ℕ} {s : List SignCode} {o : Emitted} → Primed left s o → 0 < length s
primaries_some {s = s} pr = go s pr.ready.due
  where
    go : (s : List SignCode) → flat (signs_in s) operand pr.ready.opened ≡ true → 0 < length s
    go [] e = absurd (flat_none pr.ready.opened e)
    go (x ∷ s) e = omega arith

-- it is a bracket that opens, `true`, an atom or a prefix
pub primaries_known : {left : ℕ} {s : List SignCode} {o : Emitted} → Primed left s o → (none : SignCode)
    → (get_or s 0 none ≡ sign.Opening → ⊥) → (get_or s 0 none ≡ sign.True → ⊥) → ((n : ℕ) → get_or s 0 none ≡ sign.Atom n → ⊥) → ⊥
unfolding flat
primaries_known {s = s} pr none = go s pr.ready.due pr.plain
  where
    go : (s : List SignCode) → flat (signs_in s) operand pr.ready.opened ≡ true → NoPrefix s
        → (get_or s 0 none ≡ sign.Opening → ⊥) → (get_or s 0 none ≡ sign.True → ⊥) → ((n : ℕ) → get_or s 0 none ≡ sign.Atom n → ⊥) → ⊥
    go [] e p a b c = cc
    go (sign.True ∷ s) e p a b c = b refl
    go (sign.Atom n ∷ s) e p a b c = c n refl
    go (sign.Prefix y ∷ s) e p a b c = p y s refl
    go (sign.Infix y ∷ s) e p a b c = cc
    go (sign.Opening ∷ s) e p a b c = a refl
    go (sign.Closing ∷ s) e p a b c = cc

module _ {left : ℕ} {s : List SignCode} {o : Emitted} (pr : Primed left s o) where
  -- the sign that stands there, and what follows it
  primary : (none x : SignCode) (v : List SignCode) → get_or s 0 none ≡ x → v ≡ drop 1 s → s ≡ (x ∷ v)
  primary none x v e d = drop-cons s 0 none (primaries_some pr) ∙ rw (e, d)

  module _ (none : SignCode) (v : List SignCode) (there : get_or s 0 none ≡ sign.Opening) (d : v ≡ drop 1 s) where
    open_ahead : s ≡ (sign.Opening ∷ v)
    open_ahead = primary none sign.Opening v there d

    open_deep : most_open (larger pr.ready.most (suc pr.ready.opened)) (suc pr.ready.opened) (signs_in v) ≤ left + pr.ready.opened
    open_deep =
        omega (
          arith,
          pr.ready.deep,
          ap (λ (s : List SignCode). most_open pr.ready.most pr.ready.opened (signs_in s)) open_ahead ∙ most_open_lem (signs_in v) pr.ready.most pr.ready.opened,
        )

    pub primaries_depth : 1 ≤ left
    primaries_depth =
        let k = pr.ready.opened in
        let m = larger pr.ready.most (suc k) in
        omega (arith, open_deep, larger_second pr.ready.most (suc k), most_grows m (suc k) (signs_in v))

    -- what falls where a bracket is opened: the brackets that may still be, and the signs that are left
    pub primaries_falls : (t : ℕ) → measure left (length s) 1 ≡ t → measure (left - 1) (length v) 6 < t
    unfolding measure
    primaries_falls t e = omega (arith, ap length open_ahead, primaries_depth)

    open_due : flat (signs_in v) operand (suc pr.ready.opened) ≡ true
    open_due = sym (flat_open (signs_in v) pr.ready.opened) ∙ (ap (λ (s : List SignCode). flat (signs_in s) operand pr.ready.opened) (sym open_ahead) ∙ pr.ready.due)

    pub primaries_ready : Ready (left - 1) v o
    primaries_ready = record {
      opened = suc pr.ready.opened;
      most = larger pr.ready.most (suc pr.ready.opened);
      due = open_due;
      deep = omega (arith, open_deep, primaries_depth);
      room = omega (arith, pr.ready.room, ap (λ (s : List SignCode). weight (signs_in s)) open_ahead ∙ weight_open (signs_in v));
      held = pr.ready.held;
    }

    module _ {u : List SignCode} {o₁ : Emitted} (r : Read Arrows 1 (v) o u o₁) where
      close_ahead : u ≡ (sign.Closing ∷ drop 1 u)
      close_ahead = closes u pr.ready.opened (sym (phrase_flat r.phrase (suc pr.ready.opened)) ∙ open_due) r.stops

      pub primaries_closed : 0 < length u
      primaries_closed = omega (arith, ap length close_ahead)

      -- `primaries`, `Phrase`'s `bracketed`: a bracketed rule
      pub primaries_bracket : (end : List SignCode) → end ≡ drop 1 u → Read Primaries 5 s o end o₁
      primaries_bracket end q = rw q (record {
        tree = r.tree;
        phrase = rw open_ahead (bracketed (rw close_ahead at r.phrase));
        stops = tight_most (signs_in (drop 1 u));
        laid = r.laid;
      })

  module _ (none : SignCode) (v : List SignCode) (there : get_or s 0 none ≡ sign.True) (d : v ≡ drop 1 s) where
    true_ahead : s ≡ (sign.True ∷ v)
    true_ahead = primary none sign.True v there d

    pub primaries_true_put : SpaceFor kind.True 0 0 o
    unfolding sign_nodes
    primaries_true_put =
        let room : o.count + 1 ≤ max_rule_nodes = omega (arith, pr.ready.room, ap (λ (s : List SignCode). weight (signs_in s)) true_ahead ∙ weight_one true_sign (signs_in v) refl) in
        record { known = λ z. cc; first = omega arith; second = omega arith; space = record { room = room; held = pr.ready.held } }

    -- `primaries`, `Phrase`'s `truth_alone`: `true`
    pub primaries_true : {o₁ : Emitted} → Laid (words (node table.True 0 0 ∷ [])) o o₁ → Read Primaries 5 s o (v) o₁
    unfolding nodes_from rule_tree_of
    primaries_true last = record { tree = truth; phrase = rw true_ahead truth_alone; stops = tight_most (signs_in v); laid = last }

  module _ (none : SignCode) (n : ℕ) (v : List SignCode) (there : get_or s 0 none ≡ sign.Atom n) (d : v ≡ drop 1 s) where
    atom_ahead : s ≡ (sign.Atom n ∷ v)
    atom_ahead = primary none (sign.Atom n) v there d

    pub primaries_atom_put : n < operand_span → SpaceFor kind.Atom n 0 o
    unfolding sign_nodes
    primaries_atom_put h =
        let room : o.count + 1 ≤ max_rule_nodes = omega (arith, pr.ready.room, ap (λ (s : List SignCode). weight (signs_in s)) atom_ahead ∙ weight_one (atom_sign n) (signs_in v) refl) in
        record { known = λ z. cc; first = h; second = omega arith; space = record { room = room; held = pr.ready.held } }

    -- `primaries`, `Phrase`'s `is_atom`: an atom
    pub primaries_atom : {o₁ : Emitted} → Laid (words (node table.Atom n 0 ∷ [])) o o₁ → Read Primaries 5 s o (v) o₁
    unfolding nodes_from rule_tree_of
    primaries_atom last = record { tree = atom n; phrase = rw atom_ahead (atom_alone n); stops = tight_most (signs_in v); laid = last }
