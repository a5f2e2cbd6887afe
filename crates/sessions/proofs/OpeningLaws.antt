-- An opening (`check_open_masks`, `open_session`): a law for each return.
use mathlib.Core.Path.{◌≡◌, sym, ◌∙◌}
use Prim.Native.Nat.{ℕ, ◌≤◌, ◌<◌}
use native.Mathlib.Omega.{arith}
use native.Mathlib.Decide.{dec_lt}
use mathlib.Core.Bool.{Bool, true, false, ◌||◌}
use mathlib.Core.List.{List, [], ◌∷◌}
use lib.ListN.{length, take, length-map, length-take}
use lib.Seq.{length-take-le}
use lib.Dec.{ltb, leb}
use borrow.Author.Rules.{rules}
use borrow.Author.Tests.{lt-ltb, le-ltb, lt-leb, le-leb, ltb-false}
use Rattle.definitions.specs.Limits.{max_controllers, max_rule_nodes, max_states, lent_short, recording_lines, accepted}
use Rattle.definitions.specs.Bounded.{pick, or_else}
use Rattle.definitions.specs.Nodes.{node_of}
use Rattle.definitions.specs.Tables.{Rule, rule_of, rule_refusal}
use Rattle.definitions.specs.Recordings.{masks_refusal, controller_refusal}
use Rattle.definitions.specs.Operations.{too_short, left}
use Rattle.definitions.specs.Sessions.{Space, lent_space, space_of, controllers_refusal, open_masks_refusal, open_refusal, open_number, Open}
use Rattle.theorems.proofs.Choice.{or_else_none, refuse_no, both_false}
use Rattle.theorems.proofs.LentSpace.{left_accepted}
use Rattle.theorems.proofs.RuleNodes.{rule_few, rule_length_lem}
use Rattle.lent.specs.Space.{filled, cleared, Layable}
use Rattle.rules.specs.Refusals.{number_of}
use Rattle.rules.specs.declared.refusal.Refusal.{Refusal}
use Rattle.rules.specs.declared.refusal.Refusal.TheVariants.{LentShort}
use Rattle.sessions.specs.Calls.{OpenIs}
use Rattle.sessions.proofs.CallLaws.{refused_leaves, taken_leaves}
use Rattle.sessions.proofs.ArrivalLaws.{controllers_few}

-- `check_open_masks`: C masks are there, or a line is missing
pub missing_is : (C n k : ℕ) → k ≡ pick (leb C n) accepted recording_lines → k ≡ pick (ltb n C) recording_lines accepted
unfolding pick
missing_is C n k e = go (dec_lt n C)
  where
    go : Dec (n < C) → k ≡ pick (ltb n C) recording_lines accepted
    go (yes h) = rw (lt-ltb n C h) (rw (lt-leb C n h) at e)
    go (no h) = rw (le-ltb n C (omega arith)) (rw (le-leb C n (omega arith)) at e)

-- an accepted rule can be laid
pub layable_rule : (c n : ℕ) (ws nodes : List ℕ) → rule_refusal (rule_of c n ws) ≡ 0 → max_rule_nodes ≤ length nodes → Layable ws n max_rule_nodes nodes
layable_rule c n ws nodes e b =
    let count : length (take n ws) ≡ n = sym (length-map (take n ws) node_of) ∙ rule_length_lem (rule_of c n ws) e in
    record { there = omega (arith, count, length-take n ws); fits = rule_few (rule_of c n ws) e; room = b }

-- no state is laid: zeros over the full size
none_left : (full : ℕ) (l exit : List ℕ) → exit ≡ cleared l 0 full → exit ≡ left accepted full [] l
unfolding filled
none_left full l exit e = e ∙ sym (left_accepted full [] l)

module _ (C : ℕ) (owned : List ℕ) (c n : ℕ) (ws heading masks nodes states : List ℕ) where
  abbrev r : Rule
  r = rule_of c n ws

  abbrev h : Space
  h = lent_space heading masks nodes states

  abbrev short : Bool
  short = too_short max_controllers masks || too_short max_rule_nodes nodes || too_short max_states states

  abbrev Is : ℕ → List ℕ → List ℕ → List ℕ → List ℕ → Type 0
  Is k h' m o s = OpenIs C owned r heading masks nodes states k h' m o s

  refused : (k : Refusal) → number_of k ≡ open_number C owned r h → Is (number_of k) heading masks nodes states
  refused k e = record { answered = e; left = refused_leaves (Open C owned r) h k e }

  -- `open_session`, a slice is short: 13
  pub open_short : short ≡ true → Is lent_short heading masks nodes states
  unfolding open_number pick
  open_short t = refused LentShort (rw t)

  module _ (f : short ≡ false) where
    number_is : open_number C owned r h ≡ open_refusal C owned r
    unfolding open_number pick
    number_is = rw f

    pub open_refused : (k : Refusal) → number_of k ≡ open_refusal C owned r → Is (number_of k) heading masks nodes states
    open_refused k e = refused k (e ∙ sym number_is)

    module _ (e : accepted ≡ open_refusal C owned r) where
      rooms : (max_controllers ≤ length masks) × (max_rule_nodes ≤ length nodes)
      rooms =
          let two = (both_false (too_short max_controllers masks || too_short max_rule_nodes nodes) (too_short max_states states) f).0 in
          let (m, o) = both_false (too_short max_controllers masks) (too_short max_rule_nodes nodes) two in
          (ltb-false (length masks) max_controllers m, ltb-false (length nodes) max_rule_nodes o)

      pub open_states : max_states ≤ length states
      open_states = ltb-false (length states) max_states (both_false (too_short max_controllers masks || too_short max_rule_nodes nodes) (too_short max_states states) f).1

      parts : (rule_refusal r ≡ 0) × (accepted ≡ controllers_refusal C) × (C ≤ length owned)
      unfolding open_refusal open_masks_refusal
      parts =
          let lines = pick (ltb (length owned) C) recording_lines accepted in
          let apart = masks_refusal [] (take C owned) in
          let below = controller_refusal C c in
          let (p, more) = or_else_none (rule_refusal r) (or_else (controllers_refusal C) (or_else (or_else apart lines) below)) (sym e) in
          let (q, others) = or_else_none (controllers_refusal C) (or_else (or_else apart lines) below) more in
          let m = (or_else_none (or_else apart lines) below others).0 in
          let l = (or_else_none apart lines m).1 in
          (p, sym q, ltb-false (length owned) C (refuse_no (ltb (length owned) C) recording_lines accepted (omega arith) l).0)

      pub open_lay_masks : Layable owned C max_controllers masks
      open_lay_masks = record { there = parts.2; fits = controllers_few C parts.1; room = rooms.0 }

      pub open_lay_nodes : Layable ws n max_rule_nodes nodes
      open_lay_nodes = layable_rule c n ws nodes parts.0 rooms.1

      -- taken: what is held is `opened`, in lent space as `space_of` says
      pub open_taken : (m o s : List ℕ) → m ≡ left accepted max_controllers (take C owned) masks → o ≡ left accepted max_rule_nodes (take n ws) nodes → s ≡ cleared states 0 max_states →
          Is accepted (C ∷ c ∷ n ∷ 0 ∷ []) m o s
      unfolding space_of
      open_taken m o s em eo es =
          let taken : accepted ≡ open_number C owned r h = e ∙ sym number_is in
          let k : length (take C owned) ≡ C = length-take-le C owned parts.2 in
          record { answered = taken; left = rw (em, eo, none_left max_states states s es) (rw k at (taken_leaves (Open C owned r) h taken)) }

pub ruleset open_laws = (rules, missing_is, open_short, open_refused, open_states, open_lay_masks, open_lay_nodes, open_taken)
