-- The calls of a session: a refused one changes nothing, each does in lent space what it does to what is held, and so does every list of them.
use mathlib.Core.Path.{◌≡◌, refl, sym, ap, ◌∙◌}
use Prim.Native.Nat.{ℕ, ◌-◌, ◌<◌}
use native.Mathlib.Omega.{arith}
use native.Mathlib.Decide.{dec_lt}
use mathlib.Core.Bool.{Bool, true, false, ◌||◌, true≢false}
use mathlib.Core.List.{List, [], ◌∷◌, ◌++◌}
use lib.ListN.{length, take, get_or, length-append}
use lib.Dec.{eqb, ltb}
use lib.Seq.{take_at}
use borrow.Author.Tests.{le-ltb, lt-ltb, lt-leb, ne_eqb, eq-eqb, eqb-true, ltb-true, ltb-false}
use Rattle.definitions.specs.Limits.{max_controllers, max_states, max_rule_nodes, accepted, lent_short, session_full, session_empty}
use Rattle.definitions.specs.Bounded.{pick}
use Rattle.definitions.specs.Tables.{Rule}
use Rattle.definitions.specs.Recordings.{state_refusal, recording_refusal}
use Rattle.definitions.specs.Operations.{too_short}
use Rattle.definitions.specs.Sessions.{Space, lent_space, Held, recording_held, space_of, controllers_refusal, open_refusal, open_number, arrival_refusal, arrive_number, withdrawal_refusal, withdraw_number, replacement_refusal, replace_number, rule_read, opened, arrived, withdrawn, replaced, Call, Open, Arrive, Withdraw, Replace, number_of, accepted_leaves, leaves, leaves_all, with_states, with_rule, one_more, one_less, admits, held_after, held_after_all, Sound, Full, Made}
use Rattle.theorems.proofs.Choice.{by_test, both_false, pick_true, pick_false, pick_must, pick_other}
use Rattle.theorems.proofs.Inversions.{first_accepted}
use Rattle.theorems.proofs.SessionChecks.{held_limits, few_states_lem, first_state, recording_more, opened_sound, replaced_sound, less_sound}
use Rattle.theorems.proofs.Sessions.{space_controllers, space_held, space_masks, space_last_lem, space_full_lem, space_over, space_arrived, space_withdrawn, space_replaced}

-- "A refused call, the opening too, changes nothing, lent space included": on any contents
pub refused_changes_nothing : (c : Call) (h : Space) → (number_of c h ≡ 0 → ⊥) → leaves c h ≡ h
unfolding leaves
refused_changes_nothing c h n = pick_false (eqb (number_of c h) accepted) (accepted_leaves c h) h (ne_eqb (number_of c h) accepted n)

-- ---- a call that isn't lent a part neither reads it nor changes it

-- an arrival, and the nodes
pub arrival_unlent : (s : ℕ) (heading masks nodes states : List ℕ) →
    (arrive_number s (lent_space heading masks [] states) ≡ arrive_number s (lent_space heading masks nodes states))
    × (lent_space (leaves (Arrive s) (lent_space heading masks [] states)).heading masks nodes (leaves (Arrive s) (lent_space heading masks [] states)).states
    ≡ leaves (Arrive s) (lent_space heading masks nodes states))
unfolding arrive_number leaves arrived pick
arrival_unlent s heading masks nodes states =
    by_test (eqb (arrive_number s (lent_space heading masks [] states)) accepted) (λ e. (refl, rw e)) (λ e. (refl, rw e))

-- a withdrawal, the masks and the nodes
pub withdrawal_unlent : (heading masks nodes states : List ℕ) →
    (withdraw_number (lent_space heading [] [] states) ≡ withdraw_number (lent_space heading masks nodes states))
    × (lent_space (leaves Withdraw (lent_space heading [] [] states)).heading masks nodes (leaves Withdraw (lent_space heading [] [] states)).states
    ≡ leaves Withdraw (lent_space heading masks nodes states))
unfolding withdraw_number leaves withdrawn pick
withdrawal_unlent heading masks nodes states =
    by_test (eqb (withdraw_number (lent_space heading [] [] states)) accepted) (λ e. (refl, rw e)) (λ e. (refl, rw e))

-- a new rule, the masks and the states
pub replacement_unlent : (r : Rule) (heading masks nodes states : List ℕ) →
    (replace_number r (lent_space heading [] nodes []) ≡ replace_number r (lent_space heading masks nodes states))
    × (lent_space (leaves (Replace r) (lent_space heading [] nodes [])).heading masks (leaves (Replace r) (lent_space heading [] nodes [])).nodes states
    ≡ leaves (Replace r) (lent_space heading masks nodes states))
unfolding replace_number leaves replaced pick
replacement_unlent r heading masks nodes states =
    by_test (eqb (replace_number r (lent_space heading [] nodes [])) accepted) (λ e. (refl, rw e)) (λ e. (refl, rw e))

pub accepted_leaves_lem : (c : Call) (h : Space) → number_of c h ≡ 0 → leaves c h ≡ accepted_leaves c h
unfolding leaves
accepted_leaves_lem c h e = pick_true (eqb (number_of c h) accepted) (accepted_leaves c h) h (eq-eqb (number_of c h) accepted e)

-- ---- the numbers that a session's calls answer

-- an opening in any space of full size
pub open_number_lem : (C : ℕ) (masks : List ℕ) (r : Rule) (h : Space) → Full h → open_number C masks r h ≡ open_refusal C masks r
unfolding open_number pick
open_number_lem C masks r h f =
    rw (le-ltb (length h.masks) max_controllers f.masks, le-ltb (length h.nodes) max_rule_nodes f.nodes, le-ltb (length h.states) max_states f.states)

module _ (a : Held) (h : Space) (k : Sound a) (f : Full h) where
  full : Full (space_of a h)
  full = space_full_lem a h k f

  enough_nodes : too_short max_rule_nodes (space_of a h).nodes ≡ false
  enough_nodes = le-ltb (length (space_of a h).nodes) max_rule_nodes full.nodes

  enough_states : too_short max_states (space_of a h).states ≡ false
  enough_states = le-ltb (length (space_of a h).states) max_states full.states

  -- the state before an arrival
  state_before : (s : ℕ) →
      state_refusal (length a.masks) a.masks (length a.states) (get_or (space_of a h).states (length a.states - 1) 0) s
      ≡ state_refusal (length a.masks) a.masks (length a.states) (get_or a.states (length a.states - 1) 0) s
  state_before s = go (dec_lt 0 (length a.states))
    where
      go : Dec (0 < length a.states) →
          state_refusal (length a.masks) a.masks (length a.states) (get_or (space_of a h).states (length a.states - 1) 0) s
          ≡ state_refusal (length a.masks) a.masks (length a.states) (get_or a.states (length a.states - 1) 0) s
      go (yes p) = rw (space_last_lem a h p)
      go (no p) =
          let z : length a.states ≡ 0 = omega arith in
          rw z (first_state (length a.masks) a.masks (get_or (space_of a h).states (0 - 1) 0) (get_or a.states (0 - 1) 0) s)

  -- with under 128 states an arrival is refused exactly as the recording with it is
  pub arrive_number_lem : (s : ℕ) → length a.states < max_states → arrive_number s (space_of a h) ≡ recording_refusal (recording_held (one_more s a))
  unfolding arrive_number arrival_refusal pick
  arrive_number_lem s l =
      rw (enough_states, space_held a h, space_controllers a h, space_masks a h, lt-leb max_states (length a.states) l)
      (first_accepted (controllers_refusal (length a.masks)) _ (held_limits a k) ∙ (state_before s ∙ sym (recording_more a s k l)))

  -- "17, an arrival when 128 states are held", whatever arrives
  pub arrive_full : (s : ℕ) → length a.states ≡ max_states → arrive_number s (space_of a h) ≡ session_full
  unfolding arrive_number arrival_refusal pick
  arrive_full s e = rw (enough_states, space_held a h, e)

  pub withdraw_number_lem : 0 < length a.states → withdraw_number (space_of a h) ≡ 0
  unfolding withdraw_number withdrawal_refusal pick
  withdraw_number_lem p =
      rw (enough_states, space_held a h, ne_eqb (length a.states) 0 (λ e. omega arith), le-ltb max_states (length a.states) (few_states_lem a k))

  -- "18, a withdrawal from an empty session"
  pub withdraw_empty : length a.states ≡ 0 → withdraw_number (space_of a h) ≡ session_empty
  unfolding withdraw_number withdrawal_refusal pick
  withdraw_empty z = rw (enough_states, space_held a h, z)

  -- a new rule is refused as it is by itself and by the number of masks
  pub replace_number_lem : (r : Rule) → replace_number r (space_of a h) ≡ replacement_refusal (length a.masks) r
  unfolding replace_number pick
  replace_number_lem r = rw (enough_nodes, space_controllers a h)

  pub arrive_admits : (s : ℕ) → eqb (arrive_number s (space_of a h)) accepted ≡ admits s a
  unfolding admits pick
  arrive_admits s = go (dec_lt (length a.states) max_states)
    where
      go : Dec (length a.states < max_states) →
          eqb (arrive_number s (space_of a h)) accepted ≡ pick (ltb (length a.states) max_states) (eqb (recording_refusal (recording_held (one_more s a))) accepted) false
      go (yes l) = rw (arrive_number_lem s l, lt-ltb (length a.states) max_states l)
      go (no l) = rw (arrive_full s (omega (arith, few_states_lem a k)), le-ltb (length a.states) max_states (omega arith))

-- ---- what is held stays accepted

sound_pick : (t : Bool) (a b : Held) → (t ≡ true → Sound a) → Sound b → Sound (pick t a b)
unfolding pick
sound_pick true a b f g = f refl
sound_pick false a b f g = g

admits_parts : (s : ℕ) (a : Held) → admits s a ≡ true → (length a.states < max_states) × (recording_refusal (recording_held (one_more s a)) ≡ 0)
unfolding admits
admits_parts s a t =
    let (z, e) = pick_must true (ltb (length a.states) max_states) (eqb (recording_refusal (recording_held (one_more s a))) accepted) false t (λ q. true≢false (sym q)) in
    (ltb-true (length a.states) max_states z, eqb-true (recording_refusal (recording_held (one_more s a))) accepted e)

more_sound : (a : Held) (s : ℕ) → Sound a → admits s a ≡ true → Sound (one_more s a)
more_sound a s k t = record { opens = k.opens; nodes = k.nodes; states = λ p. (admits_parts s a t).1 }

pub after_sound : (c : Call) (a : Held) → Sound a → Sound (held_after c a)
unfolding held_after
after_sound (Open C masks r) a k =
    sound_pick (eqb (open_refusal C masks r) accepted) (opened C masks r) a (λ t. opened_sound C masks r (eqb-true (open_refusal C masks r) accepted t)) k
after_sound (Arrive s) a k = sound_pick (admits s a) (one_more s a) a (more_sound a s k) k
after_sound Withdraw a k = less_sound a k
after_sound (Replace r) a k =
    sound_pick (eqb (replacement_refusal (length a.masks) r) accepted) (with_rule a (rule_read r)) a
    (λ t. replaced_sound r a k (eqb-true (replacement_refusal (length a.masks) r) accepted t)) k

-- ---- and is what lent space holds

pick_space : (t u : Bool) (x : Space) (a b : Held) (h : Space) → t ≡ u → (u ≡ true → x ≡ space_of a h) → pick t x (space_of b h) ≡ space_of (pick u a b) h
unfolding pick
pick_space t true x a b h e f = rw e (f refl)
pick_space t false x a b h e f = rw e

-- of no states all but the last are these
none_less : (ss : List ℕ) → length ss ≡ 0 → take (length ss - 1) ss ≡ ss
none_less [] z = refl
none_less (s ∷ ss) z = absurd (omega arith)

pub held_same : (a : Held) (h : Space) → space_of (with_states a a.states) h ≡ space_of a h
unfolding space_of
held_same a h = refl

withdrawal_space : (a : Held) (h : Space) → Sound a → Full h → Dec (0 < length a.states) →
    pick (eqb (withdraw_number (space_of a h)) accepted) (withdrawn (space_of a h)) (space_of a h) ≡ space_of (one_less a) h
unfolding pick
withdrawal_space a h k f (yes p) = rw (withdraw_number_lem a h k f p) (space_withdrawn a h k p)
withdrawal_space a h k f (no p) =
    let z : length a.states ≡ 0 = omega arith in
    rw (withdraw_empty a h k f z, none_less a.states z) (sym (held_same a h))

pub leaves_space : (c : Call) (a : Held) (h : Space) → Sound a → Full h → leaves c (space_of a h) ≡ space_of (held_after c a) h
unfolding leaves held_after
leaves_space (Open C masks r) a h k f =
    pick_space (eqb (open_number C masks r (space_of a h)) accepted) (eqb (open_refusal C masks r) accepted) (space_of (opened C masks r) (space_of a h)) (opened C masks r) a h
    (rw (open_number_lem C masks r (space_of a h) (space_full_lem a h k f))) (λ t. space_over a h k (opened C masks r))
leaves_space (Arrive s) a h k f =
    pick_space (eqb (arrive_number s (space_of a h)) accepted) (admits s a) (arrived s (space_of a h)) (one_more s a) a h
    (arrive_admits a h k f s) (λ t. space_arrived a h k s (admits_parts s a t).0)
leaves_space Withdraw a h k f = withdrawal_space a h k f (dec_lt 0 (length a.states))
leaves_space (Replace r) a h k f =
    pick_space (eqb (replace_number r (space_of a h)) accepted) (eqb (replacement_refusal (length a.masks) r) accepted) (replaced r (space_of a h)) (with_rule a (rule_read r)) a h
    (rw (replace_number_lem a h k f r)) (λ t. space_replaced a h k r)

-- ---- a list of calls

pub calls_sound : (cs : List Call) (a : Held) → Sound a → Sound (held_after_all cs a)
unfolding held_after_all
calls_sound [] a k = k
calls_sound (c ∷ cs) a k = calls_sound cs (held_after c a) (after_sound c a k)

pub calls_space : (cs : List Call) (a : Held) (h : Space) → Sound a → Full h → leaves_all cs (space_of a h) ≡ space_of (held_after_all cs a) h
unfolding held_after_all leaves_all
calls_space [] a h k f = refl
calls_space (c ∷ cs) a h k f = ap (leaves_all cs) (leaves_space c a h k f) ∙ calls_space cs (held_after c a) h (after_sound c a k) f

-- no opening is among them: arrivals, withdrawals and new rules
abbrev pub Unopened : List Call → Type 0
Unopened [] = Unit {0}
Unopened (Open C masks r ∷ cs) = ⊥
Unopened (Arrive s ∷ cs) = Unopened cs
Unopened (Withdraw ∷ cs) = Unopened cs
Unopened (Replace r ∷ cs) = Unopened cs

-- arrivals and withdrawals
abbrev pub Steps : List Call → Type 0
Steps [] = Unit {0}
Steps (Open C masks r ∷ cs) = ⊥
Steps (Arrive s ∷ cs) = Steps cs
Steps (Withdraw ∷ cs) = Steps cs
Steps (Replace r ∷ cs) = ⊥

pub steps_unopened : (cs : List Call) → Steps cs → Unopened cs
steps_unopened [] t = t
steps_unopened (Open C masks r ∷ cs) t = t
steps_unopened (Arrive s ∷ cs) t = steps_unopened cs t
steps_unopened (Withdraw ∷ cs) t = steps_unopened cs t
steps_unopened (Replace r ∷ cs) t = absurd t

pub pick_same : {A : Type 0} (f : Held → A) (t : Bool) (a b : Held) → f a ≡ f b → f (pick t a b) ≡ f b
unfolding pick
pick_same f true a b e = e
pick_same f false a b e = refl

-- only an opening changes the masks
pub unopened_masks : (cs : List Call) → Unopened cs → (a : Held) → (held_after_all cs a).masks ≡ a.masks
unfolding held_after_all held_after
unopened_masks [] t a = refl
unopened_masks (Open C masks r ∷ cs) t a = absurd t
unopened_masks (Arrive s ∷ cs) t a = unopened_masks cs t (pick (admits s a) (one_more s a) a) ∙ pick_same (λ x. x.masks) (admits s a) (one_more s a) a refl
unopened_masks (Withdraw ∷ cs) t a = unopened_masks cs t (one_less a)
unopened_masks (Replace r ∷ cs) t a =
    let z = eqb (replacement_refusal (length a.masks) r) accepted in
    unopened_masks cs t (pick z (with_rule a (rule_read r)) a) ∙ pick_same (λ x. x.masks) z (with_rule a (rule_read r)) a refl

-- arrivals and withdrawals keep the rule
pub steps_rule : (cs : List Call) → Steps cs → (a : Held) → (held_after_all cs a).rule ≡ a.rule
unfolding held_after_all held_after
steps_rule [] t a = refl
steps_rule (Open C masks r ∷ cs) t a = absurd t
steps_rule (Arrive s ∷ cs) t a = steps_rule cs t (pick (admits s a) (one_more s a) a) ∙ pick_same (λ x. x.rule) (admits s a) (one_more s a) a refl
steps_rule (Withdraw ∷ cs) t a = steps_rule cs t (one_less a)
steps_rule (Replace r ∷ cs) t a = absurd t

-- ---- an opening is accepted where every slice has its full size and its masks and rule are accepted
pub open_parts : (C : ℕ) (masks : List ℕ) (r : Rule) (h : Space) → open_number C masks r h ≡ 0 → Full h × (open_refusal C masks r ≡ 0)
unfolding open_number
open_parts C masks r h e =
    let a = too_short max_controllers h.masks in
    let b = too_short max_rule_nodes h.nodes in
    let c = too_short max_states h.states in
    let (s, z) = pick_other 0 (a || b || c) lent_short (open_refusal C masks r) e (λ q. omega arith) in
    let (ab, t) = both_false (a || b) c s in
    let (p, q) = both_false a b ab in (
      record {
        masks = ltb-false (length h.masks) max_controllers p;
        nodes = ltb-false (length h.nodes) max_rule_nodes q;
        states = ltb-false (length h.states) max_states t;
      },
      z,
    )

-- ---- an arrival that was taken, then a withdrawal

more_less : (ss : List ℕ) (s : ℕ) → take (length (ss ++ (s ∷ [])) - 1) (ss ++ (s ∷ [])) ≡ ss
more_less ss s =
    let e : length ss ≡ length (ss ++ (s ∷ [])) - 1 = omega (arith, length-append ss (s ∷ [])) in
    take_at ss (s ∷ []) (length (ss ++ (s ∷ [])) - 1) e

pub taken_after : (s : ℕ) (a : Held) → admits s a ≡ true → held_after (Arrive s) a ≡ one_more s a
unfolding held_after
taken_after s a t = pick_true (admits s a) (one_more s a) a t

withdrawn_after : (a : Held) → held_after Withdraw a ≡ one_less a
unfolding held_after
withdrawn_after a = refl

arrive_withdraw : (s : ℕ) (a : Held) → admits s a ≡ true → held_after_all (Arrive s ∷ Withdraw ∷ []) a ≡ one_less (one_more s a)
unfolding held_after_all
arrive_withdraw s a t = ap (held_after Withdraw) (taken_after s a t) ∙ withdrawn_after (one_more s a)

-- leaves every entry as it was
pub withdrawal_undoes : (s : ℕ) (h : Space) → Made h → arrive_number s h ≡ 0 → leaves_all (Arrive s ∷ Withdraw ∷ []) h ≡ h
withdrawal_undoes s h m e =
    let a : Held = m.held in
    let k = m.sound in
    let f = m.full in
    let t : admits s a ≡ true = sym (arrive_admits a h k f s) ∙ eq-eqb (arrive_number s (space_of a h)) 0 (ap (arrive_number s) (sym m.is) ∙ e) in
    ap (leaves_all (Arrive s ∷ Withdraw ∷ [])) m.is
    ∙ (calls_space (Arrive s ∷ Withdraw ∷ []) a h k f
    ∙ (ap (λ (x : Held). space_of x h) (arrive_withdraw s a t)
    ∙ (ap (λ (x : List ℕ). space_of (with_states a x) h) (more_less a.states s) ∙ (held_same a h ∙ sym m.is))))
