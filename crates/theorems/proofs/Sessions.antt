-- A session in lent space: what is read of it, and what each accepted call makes of it.
use mathlib.Core.Path.{◌≡◌, refl, sym, ap, ◌∙◌}
use Prim.Native.Nat.{ℕ, suc, ◌+◌, ◌-◌, ◌<◌}
use native.Mathlib.Omega.{arith}
use mathlib.Core.List.{List, [], ◌∷◌, ◌++◌}
use lib.ListN.{length, take, get_or, set, length-append}
use lib.Seq.{take-length, take-suc}
use Rattle.definitions.specs.Limits.{max_controllers, max_states, max_rule_nodes, accepted}
use Rattle.definitions.specs.Bounded.{pick}
use Rattle.definitions.specs.Tables.{Rule}
use Rattle.definitions.specs.Operations.{left}
use Rattle.definitions.specs.Sessions.{Space, Held, heading_of, space_of, controllers_in, held_in, session_rule, arrived, rule_read, withdrawn, replaced, with_rule, one_more, one_less, Sound, Full, Made}
use Rattle.theorems.proofs.LentContents.{left_take, left_at, left_length, left_over, left_more, left_less}
use Rattle.theorems.proofs.SessionChecks.{few_masks, few_nodes, few_states_lem, length_less}

-- two spaces are equal where their slices are
space_same : (h g m l n o s t : List ℕ) → h ≡ g → m ≡ l → n ≡ o → s ≡ t →
    ◌≡◌ {A = Space} (record { heading = h; masks = m; nodes = n; states = s }) (record { heading = g; masks = l; nodes = o; states = t })
space_same h g m l n o s t a b c d = rw (a, b, c, d)

-- the number of states set in a heading
heading_states : (C c m n x : ℕ) → set (C ∷ c ∷ m ∷ n ∷ []) 3 x ≡ C ∷ c ∷ m ∷ x ∷ []
heading_states C c m n x = refl

-- the states but the last, and the last
last_split : (ss : List ℕ) → 0 < length ss → take (length ss - 1) ss ++ (get_or ss (length ss - 1) 0 ∷ []) ≡ ss
last_split ss h =
    let e : suc (length ss - 1) ≡ length ss = omega arith in
    let t : take (suc (length ss - 1)) ss ≡ take (length ss - 1) ss ++ (get_or ss (length ss - 1) 0 ∷ []) = take-suc ss (length ss - 1) 0 (omega arith) in
    sym t ∙ (rw e (take-length ss))

-- ---- what is read of it
module _ (a : Held) (h : Space) where
  pub space_controllers : controllers_in (space_of a h) ≡ length a.masks
  unfolding space_of left pick
  space_controllers = refl

  pub space_held : held_in (space_of a h) ≡ length a.states
  unfolding space_of left pick
  space_held = refl

  pub space_controller : (session_rule (space_of a h)).controller ≡ a.rule.controller
  unfolding space_of left pick
  space_controller = refl

  pub space_count : (session_rule (space_of a h)).count ≡ a.rule.count
  unfolding space_of left pick
  space_count = refl

  pub space_masks : take (length a.masks) (space_of a h).masks ≡ a.masks
  unfolding space_of
  space_masks = left_take max_controllers a.masks h.masks (length a.masks) refl

  pub space_nodes : length a.rule.nodes ≡ a.rule.count → take a.rule.count (space_of a h).nodes ≡ a.rule.nodes
  unfolding space_of
  space_nodes e = left_take max_rule_nodes a.rule.nodes h.nodes a.rule.count e

  pub space_states : take (length a.states) (space_of a h).states ≡ a.states
  unfolding space_of
  space_states = left_take max_states a.states h.states (length a.states) refl

  pub space_last_lem : 0 < length a.states → get_or (space_of a h).states (length a.states - 1) 0 ≡ get_or a.states (length a.states - 1) 0
  unfolding space_of
  space_last_lem p = left_at max_states a.states h.states (length a.states - 1) (omega arith)

  module _ (k : Sound a) where
    -- its slices have their full size where the lent ones had
    pub space_full_lem : Full h → Full (space_of a h)
    unfolding space_of
    space_full_lem f = record {
      masks = omega (arith, left_length max_controllers a.masks h.masks (few_masks a k) f.masks, f.masks);
      nodes = omega (arith, left_length max_rule_nodes a.rule.nodes h.nodes (few_nodes a k) f.nodes, f.nodes);
      states = omega (arith, left_length max_states a.states h.states (few_states_lem a k) f.states, f.states);
    }

    -- another session over it leaves nothing of it
    pub space_over : (b : Held) → space_of b (space_of a h) ≡ space_of b h
    unfolding space_of
    space_over b =
        space_same _ _ _ _ _ _ _ _
        refl
        (left_over max_controllers a.masks h.masks b.masks (few_masks a k))
        (left_over max_rule_nodes a.rule.nodes h.nodes b.rule.nodes (few_nodes a k))
        (left_over max_states a.states h.states b.states (few_states_lem a k))

    pub space_made : Full h → Made (space_of a h)
    space_made f = record { held = a; sound = k; full = space_full_lem f; is = sym (space_over a) }

    -- ---- what the calls make of it
    pub space_arrived : (s : ℕ) → length a.states < max_states → arrived s (space_of a h) ≡ space_of (one_more s a) h
    unfolding space_of arrived
    space_arrived s l =
        let n : length (a.states ++ (s ∷ [])) ≡ length a.states + 1 = length-append a.states (s ∷ []) in
        let e : set (heading_of a) 3 (length a.states + 1) ≡ heading_of (one_more s a)
        = rw n (heading_states (length a.masks) a.rule.controller a.rule.count (length a.states) (length a.states + 1)) in
        rw (space_held) (space_same _ _ _ _ _ _ _ _ e refl refl (left_more max_states a.states h.states s (length a.states) refl l))

    pub space_replaced : (r : Rule) → replaced r (space_of a h) ≡ space_of (with_rule a (rule_read r)) h
    unfolding space_of replaced
    space_replaced r =
        space_same _ _ _ _ _ _ _ _
        refl refl (left_over max_rule_nodes a.rule.nodes h.nodes (take r.count r.nodes) (few_nodes a k)) refl

    pub space_withdrawn : 0 < length a.states → withdrawn (space_of a h) ≡ space_of (one_less a) h
    unfolding space_of withdrawn
    space_withdrawn p =
        let j : ℕ = length a.states - 1 in
        let s : ℕ = get_or a.states j 0 in
        let n : length (take j a.states) ≡ j = length_less a.states in
        let e : set (heading_of a) 3 j ≡ heading_of (one_less a)
        = rw n (heading_states (length a.masks) a.rule.controller a.rule.count (length a.states) j) in
        let l : j < max_states = omega (arith, few_states_lem a k) in
        let b : set (left accepted max_states (take j a.states ++ (s ∷ [])) h.states) j 0 ≡ left accepted max_states (take j a.states) h.states
        = left_less max_states (take j a.states) h.states s j n l in
        let c : set (left accepted max_states a.states h.states) j 0 ≡ left accepted max_states (take j a.states) h.states
        = ap (λ (ss : List ℕ). set (left accepted max_states ss h.states) j 0) (sym (last_split a.states p)) ∙ b in
        rw (space_held) (space_same _ _ _ _ _ _ _ _ e refl refl c)
