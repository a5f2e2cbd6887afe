-- The loop that lays a block of rows.
use Rattle.std.proofs.Common.{rules, arith, ◌≡◌, ◌∙◌, sym, ap, ℕ, suc, ◌+◌, ◌<◌, ◌≤◌, List, [], ◌∷◌, ◌++◌, map, append_assoc, append-nil, length, take, drop, set, get_or, add-one, IsTrue}
use Rattle.std.proofs.Common.{refl, length-append, length-set, take-append-drop, drop-cons, get_or-set_same, get_or-set_other}
use Rattle.std.proofs.lemmas.List.{length-map, map-append}
use Rattle.std.proofs.lemmas.List.Elements.{All-set}
use Rattle.std.proofs.lemmas.List.Sums.{AllPass-from_list_all}
use lib.ListN.{get_or-map, drop_of_length-le}
use lib.Seq.{set_split, length-take-le}
use Rattle.definitions.specs.Nodes as table
use Rattle.definitions.specs.Nodes.{node_word, operand_span}
use Rattle.rules.specs.Meaning.{meaning}
use Rattle.rules.specs.declared.node.Node.{Node}
use Rattle.images.specs.declared.blocks.Row.{Row}
use Rattle.images.specs.Emission.{Room, Follows}
use Rattle.images.specs.Blocks.{dot, row_in, rows_in, is_fine, FineRows, SmallNames, become, Made, laid}
use Rattle.images.proofs.EmitLaws.{seam_take, seam_drop}

-- `lay_block`, a turn: row i is a fine one
pub row_fine : (rows : List Row) (i : ℕ) (d : Row) → FineRows rows → i < length rows → IsTrue (is_fine (get_or rows i d))
row_fine rows i d f h = AllPass-from_list_all is_fine rows f.fine i d h

-- what the loop has done before row i: F is what the operands stand for by now
pub record Laying (f : List ℕ) (at : ℕ) (rows : List Row) (i : ℕ) (o o' F : List ℕ) : Type 0 where
  pub done : List table.Node
  pub wide : length F ≡ 18
  pub small : SmallNames F
  pub left : laid f at (rows_in rows) ≡ done ++ laid F (at + i) (drop i (rows_in rows))
  pub follows : Follows done o at (at + i) o'

follows_none : (o : List ℕ) (at : ℕ) → at ≤ length o → Follows [] o at (at + 0) o
follows_none o at h =
    let z : at + 0 ≡ at = omega arith in
    record { next = refl; inside = omega arith; size = refl; words = rw z (sym (take-append-drop at o)) }

follows_more : (ns : List table.Node) (n : table.Node) (o o' : List ℕ) (at m w : ℕ) → m < length o → w ≡ node_word n → Follows ns o at m o' →
    Follows (ns ++ (n ∷ [])) o at (m + 1) (set o' m w)
follows_more ns n o o' at m w h e p =
    let a : length (take at o) ≡ at = length-take-le at o (omega (arith, p.inside, p.next)) in
    let l : length (take at o ++ map node_word ns) ≡ m = length-append (take at o) (map node_word ns) ∙ omega (arith, length-map ns node_word, p.next) in
    let laid : o' ≡ (take at o ++ map node_word ns) ++ drop m o = p.words ∙ sym (append_assoc (take at o) (map node_word ns) (drop m o)) in
    let t : take m o' ≡ take at o ++ map node_word ns = seam_take o o' (take at o ++ map node_word ns) m laid l in
    let d : drop (m + 1) o' ≡ drop (m + 1) o = seam_drop o o' (take at o ++ map node_word ns) m laid l 1 in
    record {
      next = omega (arith, p.next, length-append ns (n ∷ []));
      inside = omega arith;
      size = length-set o' m w ∙ p.size;
      words = set_split o' m w (omega (arith, p.size)) ∙ rw (t, ← add-one m, d, e, map-append)
          (append_assoc (take at o) (map node_word ns) (node_word n ∷ drop (m + 1) o) ∙ ap (λ (y : List ℕ). take at o ++ y) (sym (append_assoc (map node_word ns) (node_word n ∷ []) (drop (m + 1) o))));
    }

-- `lay_block`, before row 0: all rows are left (`Laying`)
pub laying_start : (f : List ℕ) (at : ℕ) (rows : List Row) (o : List ℕ) → length f ≡ 18 → Room (length rows) at o → SmallNames f → Laying f at rows 0 o o f
laying_start f at rows o l r s =
    let z : at + 0 ≡ at = omega arith in
    record { done = []; wide = l; small = s; left = rw z; follows = follows_none o at (omega (arith, r.low, r.held)) }

module _ (f : List ℕ) (at : ℕ) (rows : List Row) (i : ℕ) (o o' F : List ℕ) (p : Laying f at rows i o o' F) where
  -- `lay_block`, a turn: the node of row i is `laid`, and is "·" of the next (`Laying`)
  pub laying_next : (d : Row) (n : Node) (w : ℕ) → Room (length rows) at o → i < length rows → Made (get_or rows i d) F n → w ≡ node_word (meaning n) →
      Laying f at rows (i + 1) o (set o' (at + i) w) (set F dot (at + i))
  laying_next d n w r h m e =
      let q : at + i + 1 ≡ at + (i + 1) = omega arith in
      let s : at + suc i ≡ suc (at + i) = omega arith in
      let l : i < length (rows_in rows) = omega (arith, length-map rows row_in) in
      let x : become F (get_or (rows_in rows) i (row_in d)) ≡ meaning n = rw (get_or-map row_in rows i d) (sym m.meant) in
      let more : laid f at (rows_in rows) ≡ (p.done ++ (meaning n ∷ [])) ++ laid (set F dot (at + i)) (suc (at + i)) (drop (suc i) (rows_in rows)) =
      p.left ∙ rw (drop-cons (rows_in rows) i (row_in d) l, x) (sym (append_assoc p.done (meaning n ∷ []) (laid (set F dot (at + i)) (suc (at + i)) (drop (suc i) (rows_in rows))))) in
      record {
        done = p.done ++ (meaning n ∷ []);
        wide = length-set F dot (at + i) ∙ p.wide;
        small = record { low = All-set (λ o. o < operand_span) F dot (at + i) (omega (arith, r.low)) p.small.low };
        left = rw (add-one i, s) more;
        follows = rw q at (follows_more p.done (meaning n) o o' at (at + i) w (omega (arith, r.low, r.held)) e p.follows);
      }

  -- `lay_block`, no row is left: the nodes of all rows are `laid` from `at` on (`Follows`)
  pub laying_done : i ≤ length rows → length rows ≤ i → Follows (laid f at (rows_in rows)) o at (at + length rows) o'
  laying_done g h =
      let e : length (rows_in rows) ≤ i = omega (arith, length-map rows row_in) in
      let l : laid f at (rows_in rows) ≡ p.done = p.left ∙ rw (drop_of_length-le (rows_in rows) e) (append-nil p.done) in
      let n : i ≡ length rows = omega arith in
      rw (l, ← n) p.follows

pub ruleset lay_laws = (rules, row_fine, laying_start, laying_next, laying_done)
