-- The pairs of a node and a place that are found: what holds of each of them, their order, and their number.
use mathlib.Core.Path.{◌≡◌, refl}
use Prim.Native.Nat.{ℕ, zero, suc, ◌+◌, ◌*◌, ◌/◌, ◌%◌, ◌≤◌, ◌<◌}
use native.Mathlib.Omega.{arith}
use native.Mathlib.Decide.{ℕ_discrete}
use mathlib.Core.Bool.{Bool, true, false, ◌&&◌, ◌||◌, or-true}
use mathlib.Core.List.{List, [], ◌∷◌, ◌++◌, map}
use lib.ListN.{length, get_or, length-append}
use lib.Dec.{eqb, ltb, leb}
use borrow.Author.Tests.{lt-ltb, ltb-true, le-leb, leb-true, eq-eqb, eqb-true}
use Rattle.definitions.specs.Limits.{max_rule_nodes}
use Rattle.definitions.specs.Bounded.{pick}
use Rattle.definitions.specs.Nodes.{Node, node_at}
use Rattle.definitions.specs.Tables.{is_atom}
use Rattle.definitions.specs.Readings.{local}
use Rattle.definitions.specs.Evidence.{wanted_rows, Found, found, decides, found_at, found_from, evidence, pair_word}
use Rattle.theorems.proofs.Choice.{by_test, both_true}

-- P of each node and place
abbrev pub Each : (ℕ → ℕ → Type 0) → List Found → Type 0
Each P [] = Unit {0}
Each P (g ∷ gs) = P g.atom_node g.place × Each P gs

module _ (P : ℕ → ℕ → Type 0) where
  each_split : (xs ys : List Found) → Each P (xs ++ ys) → Each P xs × Each P ys
  each_split [] ys h = (tt, h)
  each_split (x ∷ xs) ys h = let (a, b) = each_split xs ys h.1 in ((h.0, a), b)

  each_join : (xs ys : List Found) → Each P xs → Each P ys → Each P (xs ++ ys)
  each_join [] ys h g = g
  each_join (x ∷ xs) ys h g = (h.0, each_join xs ys h.1 g)

  -- of the numbers that they are in lent space
  pub each_word : (fs : List Found) → Each (λ j k. j < max_rule_nodes) fs →
      ((i : ℕ) → i < length fs → P (get_or (map pair_word fs) i 0 % max_rule_nodes) (get_or (map pair_word fs) i 0 / max_rule_nodes)) → Each P fs
  each_word [] few h = tt
  each_word (g ∷ gs) few h =
      let low : g.atom_node < max_rule_nodes = few.0 in
      let k : (g.place * max_rule_nodes + g.atom_node) / max_rule_nodes ≡ g.place = omega arith in
      let j : (g.place * max_rule_nodes + g.atom_node) % max_rule_nodes ≡ g.atom_node = omega arith in
      (rw (k, j) at (h 0 (omega arith)), each_word gs few.1 (λ i l. h (suc i) (omega arith)))

  module _ (f : ℕ → ℕ → Bool) where
    -- what holds of each of them holds of one that is found
    module _ (j k : ℕ) (is : f j k ≡ true) where
      each_at : (n x : ℕ) → x ≤ j → j < x + n → Each P (found_at f n x k) → P j k
      unfolding pick
      each_at zero x a b h = absurd (omega arith)
      each_at (suc n) x a b h =
          go (ℕ_discrete x j) (each_split (pick (f x k) (found x k ∷ []) []) (found_at f n (suc x) k) h) (λ c. each_at n (suc x) c (omega arith))
        where
          go : Dec (x ≡ j) → (Each P (pick (f x k) (found x k ∷ []) []) × Each P (found_at f n (suc x) k)) →
              (suc x ≤ j → Each P (found_at f n (suc x) k) → P j k) → P j k
          go (yes q) (here, rest) later = (rw (q, is) at here).0
          go (no q) (here, rest) later = later (omega arith) rest

      pub each_from : (count : ℕ) → j < count → (n x : ℕ) → x ≤ k → k < x + n → Each P (found_from f count n x) → P j k
      each_from count l zero x a b h = absurd (omega arith)
      each_from count l (suc n) x a b h =
          go (ℕ_discrete x k) (each_split (found_at f count 0 x) (found_from f count n (suc x)) h) (λ c. each_from count l n (suc x) c (omega arith))
        where
          go : Dec (x ≡ k) → (Each P (found_at f count 0 x) × Each P (found_from f count n (suc x))) →
              (suc x ≤ k → Each P (found_from f count n (suc x)) → P j k) → P j k
          go (yes q) (here, rest) later = each_at count 0 (omega arith) (omega arith) (rw q at here)
          go (no q) (here, rest) later = later (omega arith) rest

    -- and what holds of every one that is found holds of each of them
    module _ (count L : ℕ) (holds : (j k : ℕ) → j < count → k < L → f j k ≡ true → P j k) where
      all_at : (k : ℕ) → k < L → (n j : ℕ) → j + n ≤ count → Each P (found_at f n j k)
      unfolding pick
      all_at k l zero j h = tt
      all_at k l (suc n) j h = go (f j k) refl (all_at k l n (suc j) (omega arith))
        where
          go : (c : Bool) → f j k ≡ c → Each P (found_at f n (suc j) k) → Each P (pick c (found j k ∷ []) [] ++ found_at f n (suc j) k)
          go true e rest = (holds j k (omega arith) l e, rest)
          go false e rest = rest

      pub all_from : (n k : ℕ) → k + n ≤ L → Each P (found_from f count n k)
      all_from zero k h = tt
      all_from (suc n) k h =
          each_join (found_at f count 0 k) (found_from f count n (suc k)) (all_at k (omega arith) count 0 (omega arith)) (all_from n (suc k) (omega arith))

-- place k, node j comes no earlier than place x, node y
abbrev pub After : ℕ → ℕ → ℕ → ℕ → Type 0
After x y k j = (ltb x k || (eqb x k && leb y j)) ≡ true

-- by place, then node, each a single time; none before place x, node y
abbrev pub Ordered : ℕ → ℕ → List Found → Type 0
Ordered x y [] = Unit {0}
Ordered x y (f ∷ fs) = After x y f.place f.atom_node × Ordered f.place (suc f.atom_node) fs

after_itself : (k j : ℕ) → After k j k j
after_itself k j = rw (eq-eqb k k refl, le-leb j j (omega arith), or-true)

after_le : (x y k j : ℕ) → After x y k j → x ≤ k
after_le x y k j h = by_test (ltb x k) (λ z. let l : x < k = ltb-true x k z in omega arith)
    (λ z. let q : x ≡ k = eqb-true x k (both_true (eqb x k) (leb y j) (rw z at h)).0 in omega arith)

after_more : (x y k j : ℕ) → After x y k j → After x y k (suc j)
after_more x y k j h = by_test (ltb x k) (λ z. rw z)
    (λ z. let (a, b) = both_true (eqb x k) (leb y j) (rw z at h) in rw (a, le-leb y (suc j) (omega (arith, leb-true y j b)), or-true))

module _ (f : ℕ → ℕ → Bool) where
  few_at : (k n j : ℕ) → length (found_at f n j k) ≤ n
  unfolding pick
  few_at k zero j = omega arith
  few_at k (suc n) j = go (f j k) (few_at k n (suc j))
    where
      go : (c : Bool) → length (found_at f n (suc j) k) ≤ n → length (pick c (found j k ∷ []) [] ++ found_at f n (suc j) k) ≤ suc n
      go true h = omega arith
      go false h = omega arith

  few_from : (count n k : ℕ) → length (found_from f count n k) ≤ n * count
  few_from count zero k = omega arith
  few_from count (suc n) k =
      omega (arith, length-append (found_at f count 0 k) (found_from f count n (suc k)), few_at k count 0, few_from count n (suc k))

  ordered_at : (k : ℕ) (rest : List Found) → ((x y : ℕ) → x ≤ k → Ordered x y rest) → (n j x y : ℕ) → After x y k j → Ordered x y (found_at f n j k ++ rest)
  unfolding pick
  ordered_at k rest h zero j x y a = h x y (after_le x y k j a)
  ordered_at k rest h (suc n) j x y a =
      go (f j k) (ordered_at k rest h n (suc j) k (suc j) (after_itself k (suc j))) (ordered_at k rest h n (suc j) x y (after_more x y k j a))
    where
      go : (c : Bool) → Ordered k (suc j) (found_at f n (suc j) k ++ rest) → Ordered x y (found_at f n (suc j) k ++ rest) →
          Ordered x y ((pick c (found j k ∷ []) [] ++ found_at f n (suc j) k) ++ rest)
      go true here later = (a, here)
      go false here later = later

  ordered_from : (count n k x y : ℕ) → After x y k 0 → Ordered x y (found_from f count n k)
  ordered_from count zero k x y a = tt
  ordered_from count (suc n) k x y a =
      ordered_at k (found_from f count n (suc k)) (λ x' y' l. ordered_from count n (suc k) x' y' (rw (lt-ltb x' (suc k) (omega arith)))) count 0 x y a

-- "Each pair appears a single time, by place, then node"
pub evidence_ordered : (mask : ℕ) (places : List ℕ) (ns : List Node) (weak : Bool) → Ordered 0 0 (evidence mask places ns weak)
unfolding evidence
evidence_ordered mask places ns weak =
    ordered_from (decides mask places ns (wanted_rows (local mask places) ns weak)) (length ns) (length places) 0 0 0 (after_itself 0 0)

-- at most as many as nodes and places
pub evidence_few : (mask : ℕ) (places : List ℕ) (ns : List Node) (weak : Bool) → length (evidence mask places ns weak) ≤ length places * length ns
unfolding evidence
evidence_few mask places ns weak = few_from (decides mask places ns (wanted_rows (local mask places) ns weak)) (length ns) (length places) 0

-- a node of kind atom, of so many nodes, at a place below L
pub record AtomAt (ns : List Node) (L j k : ℕ) : Type 0 where
  pub node : j < length ns
  pub place : k < L
  pub atom : is_atom (node_at ns j).kind ≡ true

-- the evidence is made of readings of that trace
pub evidence_atoms : (mask : ℕ) (places : List ℕ) (ns : List Node) (weak : Bool) → Each (AtomAt ns (length places)) (evidence mask places ns weak)
unfolding evidence
evidence_atoms mask places ns weak =
    all_from (AtomAt ns (length places)) (decides mask places ns (wanted_rows (local mask places) ns weak)) (length ns) (length places)
    (λ j k a b e. record { node = a; place = b; atom = (both_true (is_atom (node_at ns j).kind) _ e).0 }) (length places) 0 (omega arith)

-- what holds of each of them, weakened
pub each_so : (P Q : ℕ → ℕ → Type 0) → ((j k : ℕ) → P j k → Q j k) → (fs : List Found) → Each P fs → Each Q fs
each_so P Q h [] e = tt
each_so P Q h (g ∷ gs) e = (h g.atom_node g.place e.0, each_so P Q h gs e.1)
