-- One law for each need of laying pairs.
use mathlib.Core.Path.{◌≡◌, refl, sym, ap, ap₂, ◌∙◌}
use mathlib.Core.Bool.{Bool, true, false}
use mathlib.Core.List.{List, [], ◌∷◌, ◌++◌, map, append_assoc, append-nil, map-append}
use mathlib.Core.Logic.{⊎_elim}
use Prim.Native.Nat.{ℕ, zero, suc, ◌+◌, ◌-◌, ◌*◌, ◌/◌, ◌%◌, ◌^◌, ◌<◌, ◌≤◌}
use native.Mathlib.Omega.{arith}
use lib.ListN.{length, take, drop, get_or, set, length-map, length-set}
use lib.Seq.{length-take-le, take-set-le, take-suc-set, drop-set-lt}
use mir.Val.{Fits}
use mir.Syntax.{w64}
use borrow.Author.Rules.{rules}
use Rattle.definitions.specs.Limits.{max_states, max_rule_nodes, max_pairs}
use Rattle.definitions.specs.Bounded.{pick, bit_of, bit}
use Rattle.definitions.specs.Evidence.{Found, found as pair_of, found_at, found_from, pair_word}
use Rattle.definitions.specs.Tables.{Rule}
use Rattle.theorems.proofs.Tabulations.{tabulate_at}
use Rattle.judges.specs.declared.local.LocalTrace.{LocalTrace}
use Rattle.lent.specs.Space.{cleared}
use Rattle.lent.proofs.LeftLaws.{left_filled}
use Rattle.mark_words.specs.Marks.{mark_at}
use Rattle.mark_words.proofs.OperatorLaws.{lt_or_le}
use Rattle.mark_words.proofs.WordLaws.{bit_few, bit_number}
use Rattle.rows.specs.Stored.{row_at}
use Rattle.rows.proofs.PackedLaws.{mark_is}
use Rattle.evidence.specs.Finding.{places_of, pairs_of, Findable, FoundRows}
use Rattle.evidence.specs.Laying.{found_in, PlaceReady, PlaceLaid, PlacesReady, PlacesLaid, PairsReady, PairsLaid}

-- ---- a mark as a number

-- `mark_of`
pub mark_number : (found : List ℕ) (j k : ℕ) → get_or found (j * 3 + k / 64) 0 / 2 ^ (k % 64) % 2 ≡ bit (found_in found j k)
unfolding found_in
mark_number found j k = bit_number (get_or found (j * 3 + k / 64) 0) (k % 64)

-- ---- the nodes of one place

-- before node j: what is laid, with what is left, is all of it
pub record PlaceLaying (count k : ℕ) (found : List ℕ) (from : ℕ) (entry : List ℕ) (j : ℕ) (l : List ℕ) (end : ℕ) : Type 0 where
  pub within : j ≤ count
  pub laid : take from entry ++ map pair_word (found_at (found_in found) count 0 k) ≡ take end l ++ map pair_word (found_at (found_in found) (count - j) j k)
  pub low : end ≤ from + j
  pub kept : length l ≡ length entry
  pub past : drop max_pairs l ≡ drop max_pairs entry

-- `lay_place`, before the first turn: all of `found_at` is left
pub place_none : (count k : ℕ) (found : List ℕ) (from : ℕ) (entry : List ℕ) → PlaceLaying count k found from entry 0 entry from
place_none count k found from entry =
    let e : count - 0 ≡ count = omega arith in
    record { within = omega arith; laid = rw e; low = omega arith; kept = refl; past = refl }

module _ (count k : ℕ) (found : List ℕ) (from : ℕ) (entry : List ℕ) (given : PlaceReady count k found from entry) (j : ℕ) (l : List ℕ) (end : ℕ)
    (so : PlaceLaying count k found from entry j l end) where
  pub place_inside : j < count → end < length l
  place_inside h = omega (arith, so.low, so.kept, given.room, given.full)

  pub place_row : j < count → j * 3 + 3 ≤ length found
  place_row h = omega (arith, given.rows)

  pub place_fits : j < count → (b : ℕ) → b ≡ bit (found_in found j k) → Fits w64 (end + b)
  place_fits h b e = record { fits = omega (arith, so.low, given.room, bit_few (found_in found j k)) }

  -- one node more: it is written, and kept where it is found
  next_laid : (b : Bool) → end < length l → (rest : List Found) →
      take end l ++ map pair_word (pick b (pair_of j k ∷ []) [] ++ rest) ≡ take (end + bit b) (set l end (k * max_rule_nodes + j)) ++ map pair_word rest
  unfolding pick
  next_laid true h rest =
      let e : end + 1 ≡ suc end = omega arith in
      rw (e, take-suc-set l end (k * max_rule_nodes + j) h) (sym (append_assoc (take end l) ((k * max_rule_nodes + j) ∷ []) (map pair_word rest)))
  next_laid false h rest = let e : end + 0 ≡ end = omega arith in rw (e, take-set-le end l end (k * max_rule_nodes + j) (omega arith))

  -- `lay_place`, a turn: one node more of `found_at` is laid, kept where it is found
  pub place_more : j < count → (b : ℕ) → b ≡ bit (found_in found j k) → PlaceLaying count k found from entry (j + 1) (set l end (k * max_rule_nodes + j)) (end + b)
  place_more h b e =
      let s : count - j ≡ suc (count - (j + 1)) = omega arith in
      let m : suc j ≡ j + 1 = omega arith in
      let c = bit_few (found_in found j k) in
      record {
        within = omega arith;
        laid = so.laid
            ∙ (ap (λ (x : ℕ). take end l ++ map pair_word (found_at (found_in found) x j k)) s
            ∙ (next_laid (found_in found j k) (place_inside h) (found_at (found_in found) (count - (j + 1)) (suc j) k)
            ∙ ap₂ (λ (x y : ℕ). take (end + x) (set l end (k * max_rule_nodes + j)) ++ map pair_word (found_at (found_in found) (count - (j + 1)) y k)) (sym e) m));
        low = omega (arith, so.low);
        kept = length-set l end (k * max_rule_nodes + j) ∙ so.kept;
        past = drop-set-lt max_pairs l end (k * max_rule_nodes + j) (omega (arith, so.low, given.room)) ∙ so.past;
      }

  -- `lay_place`
  pub place_done : count ≤ j → PlaceLaid count k found from entry end l
  place_done h =
      let z : count - j ≡ 0 = omega arith in
      record { laid = sym (so.laid ∙ rw (z, append-nil)); few = omega (arith, so.low, so.within); past = so.past }

-- ---- all places

pub record PlacesLaying (count n : ℕ) (found entry : List ℕ) (k : ℕ) (l : List ℕ) (end : ℕ) : Type 0 where
  pub within : k ≤ n
  pub laid : map pair_word (found_from (found_in found) count n 0) ≡ take end l ++ map pair_word (found_from (found_in found) count (n - k) k)
  pub low : end ≤ k * max_rule_nodes
  pub kept : length l ≡ length entry
  pub past : drop max_pairs l ≡ drop max_pairs entry

-- `lay_places`, before the first turn: all of `found_from` is left
pub places_none : (count n : ℕ) (found entry : List ℕ) → PlacesLaying count n found entry 0 entry 0
places_none count n found entry =
    let e : n - 0 ≡ n = omega arith in
    record { within = omega arith; laid = rw e; low = omega arith; kept = refl; past = refl }

module _ (count n : ℕ) (found entry : List ℕ) (given : PlacesReady count n found entry) (k : ℕ) (l : List ℕ) (end : ℕ)
    (so : PlacesLaying count n found entry k l end) where
  pub places_ready : k < n → PlaceReady count k found end l
  places_ready h = record {
    few = given.few;
    below = omega (arith, given.places);
    rows = given.rows;
    room = omega (arith, so.low, given.few, given.places);
    full = omega (arith, so.kept, given.full);
  }

  -- `lay_places`, a turn: the pairs of one place more of `found_from` are laid
  pub places_more : k < n → (end' : ℕ) (l' : List ℕ) → length l' ≡ length l → PlaceLaid count k found end l end' l' → PlacesLaying count n found entry (k + 1) l' end'
  places_more h end' l' kept P =
      let s : n - k ≡ suc (n - (k + 1)) = omega arith in
      let m : suc k ≡ k + 1 = omega arith in
      let here : List Found = found_at (found_in found) count 0 k in
      let rest : List Found = found_from (found_in found) count (n - (k + 1)) (suc k) in
      let joined : take end l ++ map pair_word (here ++ rest) ≡ (take end l ++ map pair_word here) ++ map pair_word rest
      = rw map-append (sym (append_assoc (take end l) (map pair_word here) (map pair_word rest))) in
      record {
        within = omega arith;
        laid = so.laid
            ∙ (ap (λ (x : ℕ). take end l ++ map pair_word (found_from (found_in found) count x k)) s
            ∙ (joined
            ∙ (ap (λ (x : List ℕ). x ++ map pair_word rest) (sym P.laid)
            ∙ ap (λ (x : ℕ). take end' l' ++ map pair_word (found_from (found_in found) count (n - (k + 1)) x)) m)));
        low = omega (arith, so.low, P.few, given.few);
        kept = kept ∙ so.kept;
        past = P.past ∙ so.past;
      }

  -- `lay_places`
  pub places_done : n ≤ k → PlacesLaid count n found entry end l
  places_done h =
      let z : n - k ≡ 0 = omega arith in
      record { laid = sym (so.laid ∙ rw (z, append-nil)); few = omega (arith, so.low, so.within, given.places); past = so.past }

-- ---- from the wanted places

found_at_same : (f g : ℕ → ℕ → Bool) (k count : ℕ) → ((j : ℕ) → j < count → f j k ≡ g j k) → (n j : ℕ) → j + n ≤ count → found_at f n j k ≡ found_at g n j k
found_at_same f g k count h zero j l = refl
found_at_same f g k count h (suc n) j l = rw (h j (omega arith), found_at_same f g k count h n (suc j) (omega arith))

pub found_same : (f g : ℕ → ℕ → Bool) (count L : ℕ) → ((j k : ℕ) → j < count → k < L → f j k ≡ g j k) → (n k : ℕ) → k + n ≤ L → found_from f count n k ≡ found_from g count n k
found_same f g count L h zero k l = refl
found_same f g count L h (suc n) k l =
    rw (found_at_same f g k count (λ j c. h j k c (omega arith)) count 0 (omega arith), found_same f g count L h n (suc k) (omega arith))

-- the word that holds place k of the row at 3 j
row_word : (l : List ℕ) (a k : ℕ) → k < max_states → get_or (get_or l a 0 ∷ get_or l (a + 1) 0 ∷ []) (k / 64) 0 ≡ get_or l (a + k / 64) 0
row_word l a k h =
    ⊎_elim
    (λ (lt : k < 64). let e : k / 64 ≡ 0 = omega arith in let z : a + 0 ≡ a = omega arith in rw (e, z))
    (λ (ge : 64 ≤ k). let e : k / 64 ≡ 1 = omega arith in rw e)
    (lt_or_le k 64)

module _ (r : Rule) (t : LocalTrace) (wanted pairs : List ℕ) (given : PairsReady r t wanted pairs) where
  pub lay_findable : (found : List ℕ) → 192 ≤ length found → Findable r t wanted found
  lay_findable found h = record { ready = given.ready; room = omega (arith, given.few) }

  module _ (found : List ℕ) (F : FoundRows r t wanted found) where
    mark_found : (j k : ℕ) → j < r.count → k < t.count → found_in found j k ≡ places_of r t wanted j k
    unfolding found_in row_at
    mark_found j k c h =
        let few : k < max_states = omega (arith, given.places) in
        let M = F.rows j c in
        ap (λ (w : ℕ). bit_of w (k % 64)) (sym (row_word found (j * 3) k few))
        ∙ (mark_is (row_at found (j * 3)) k M.whole few
        ∙ (ap (λ (ms : List Bool). mark_at ms k) M.marked ∙ tabulate_at t.count (places_of r t wanted j) k h))

    pub lay_ready : 192 ≤ length found → PlacesReady r.count t.count found pairs
    lay_ready h = record { few = given.few; places = given.places; rows = omega (arith, given.few); full = given.full }

    module _ (end : ℕ) (l : List ℕ) (P : PlacesLaid r.count t.count found pairs end l) (kept : length l ≡ length pairs) where
      pub lay_within : max_pairs ≤ length l
      lay_within = omega (arith, kept, given.full)

      content : take end l ≡ map pair_word (pairs_of r t wanted)
      content =
          P.laid
          ∙ ap (map pair_word) (found_same (found_in found) (places_of r t wanted) r.count t.count mark_found t.count 0 (omega arith))

      size : length (map pair_word (pairs_of r t wanted)) ≡ end
      size = ap length (sym content) ∙ length-take-le end l (omega (arith, P.few, kept, given.full))

      -- `lay_pairs`: the pairs are `pairs_of`, and zeros after them
      pub lay_done : (exit : List ℕ) → exit ≡ cleared l end max_pairs → PairsLaid (pairs_of r t wanted) pairs end exit
      lay_done exit e = record {
        counted = sym size ∙ length-map (pairs_of r t wanted) pair_word;
        laid = left_filled 0 max_pairs (map pair_word (pairs_of r t wanted)) pairs l exit P.past end refl size content e;
      }

pub ruleset lay_laws =
    (rules, mark_number, place_none, place_inside, place_row, place_fits, place_more, place_done, places_none, places_ready, places_more, places_done, lay_findable, lay_ready, lay_within, lay_done)
