-- What "made by its own calls" means: these contents are exactly those of a session that was opened on what is held and took its states one by one. So a
-- session with a new rule is one that had it "from the first state".
use mathlib.Core.Path.{◌≡◌, refl, sym, ap, ◌∙◌}
use Prim.Native.Nat.{ℕ, ◌+◌}
use native.Mathlib.Omega.{arith}
use mathlib.Core.Bool.{true}
use mathlib.Core.List.{List, [], ◌∷◌, ◌++◌, map, append_assoc, append-nil}
use lib.ListN.{length, take, length-append}
use lib.Seq.{take-length, take_at, take_all}
use borrow.Author.Tests.{lt-ltb}
use Rattle.definitions.specs.Limits.{max_states}
use Rattle.definitions.specs.Bounded.{pick}
use Rattle.definitions.specs.Tables.{Rule}
use Rattle.definitions.specs.Recordings.{recording_refusal}
use Rattle.definitions.specs.Sessions.{Space, Held, recording_held, space_of, open_refusal, replacement_refusal, replace_number, rule_read, opened, replaced, Call, Open, Arrive, Replace, leaves, leaves_all, with_states, with_rule, admits, held_after_all, Sound, Full, Made}
use Rattle.theorems.proofs.Beginnings.{Beginning, beginnings_accepted}
use Rattle.theorems.proofs.SessionChecks.{few_states_lem, opened_sound, replaced_sound, replacement_opens}
use Rattle.theorems.proofs.Sessions.{space_replaced}
use Rattle.theorems.proofs.SessionCalls.{accepted_leaves_lem, open_number_lem, replace_number_lem, taken_after, calls_space, held_same}

-- the opening and the arrivals
abbrev pub own_calls : Held → List Call
own_calls a = Open (length a.masks) a.masks a.rule ∷ map Arrive a.states

module _ (a : Held) (k : Sound a) where
  -- each state of what is held is taken after those before it
  admits_next : (done later : List ℕ) (s : ℕ) → done ++ (s ∷ later) ≡ a.states → admits s (with_states a done) ≡ true
  unfolding admits pick
  admits_next done later s e =
      let ss : List ℕ = done ++ (s ∷ []) in
      let j : ss ++ later ≡ a.states = append_assoc done (s ∷ []) later ∙ e in
      let n : length ss ≡ length done + 1 = length-append done (s ∷ []) in
      let m : length a.states ≡ length ss + length later = ap length (sym j) ∙ length-append ss later in
      let front : take (length ss) a.states ≡ ss = ap (take (length ss)) (sym j) ∙ take_at ss later (length ss) refl in
      let B : Beginning (recording_held (with_states a ss)) (recording_held a)
      = record {
        some = omega arith;
        few = omega arith;
        controllers = refl;
        masks = refl;
        states = take-length ss ∙ sym (ap (take (length ss)) (take-length a.states) ∙ front);
      } in
      let z : recording_refusal (recording_held (with_states a ss)) ≡ 0
      = beginnings_accepted (recording_held (with_states a ss)) (recording_held a) B (k.states (omega arith)) in
      rw (lt-ltb (length done) max_states (omega (arith, few_states_lem a k)), z)

  admits_all : (done later : List ℕ) → done ++ later ≡ a.states → held_after_all (map Arrive later) (with_states a done) ≡ with_states a a.states
  unfolding held_after_all
  admits_all done [] e = ap (with_states a) (sym (append-nil done) ∙ e)
  admits_all done (s ∷ later) e =
      ap (held_after_all (map Arrive later)) (taken_after s (with_states a done) (admits_next done later s e))
      ∙ admits_all (done ++ (s ∷ [])) later (append_assoc done (s ∷ []) later ∙ e)

-- a session that is opened on a rule and masks, so that it holds these and no state, and takes the states that are held
taken_one_by_one : (a : Held) → Sound a → (r : Rule) → open_refusal (length a.masks) a.masks r ≡ 0 → opened (length a.masks) a.masks r ≡ with_states a [] →
    (h : Space) → Full h → leaves_all (Open (length a.masks) a.masks r ∷ map Arrive a.states) h ≡ space_of a h
unfolding leaves_all
taken_one_by_one a k r z e h f =
    let C : ℕ = length a.masks in
    let arrivals : List Call = map Arrive a.states in
    ap (leaves_all arrivals) (accepted_leaves_lem (Open C a.masks r) h (open_number_lem C a.masks r h f ∙ z))
    ∙ (calls_space arrivals (opened C a.masks r) h (opened_sound C a.masks r z) f
    ∙ (ap (λ (x : Held). space_of x h) (ap (held_after_all arrivals) e ∙ admits_all a k [] a.states refl) ∙ held_same a h))

-- such contents are what these calls leave; that whatever calls leave are such contents is `session_made`
pub made_by_its_own_calls : (h : Space) (m : Made h) → leaves_all (own_calls m.held) h ≡ h
made_by_its_own_calls h m =
    let a : Held = m.held in
    let k = m.sound in
    let n : take a.rule.count a.rule.nodes ≡ a.rule.nodes = take_all a.rule.count a.rule.nodes (omega (arith, k.nodes)) in
    taken_one_by_one a k a.rule k.opens (rw (take-length a.masks, n)) h m.full ∙ sym m.is

-- ---- "From there its answers are those of a session that had the new rule from the first state"

-- the contents after a new rule are, entry by entry, those of a session that was opened with it and took the same states
pub replaced_as_opened : (r : Rule) (h : Space) (m : Made h) → replace_number r h ≡ 0 →
    leaves (Replace r) h ≡ leaves_all (Open (length m.held.masks) m.held.masks r ∷ map Arrive m.held.states) h
replaced_as_opened r h m e =
    let a : Held = m.held in
    let k = m.sound in
    let b : Held = with_rule a (rule_read r) in
    let z : replacement_refusal (length a.masks) r ≡ 0 = sym (replace_number_lem a h k m.full r) ∙ (ap (replace_number r) (sym m.is) ∙ e) in
    accepted_leaves_lem (Replace r) h e
    ∙ (ap (replaced r) m.is
    ∙ (space_replaced a h k r ∙ sym (taken_one_by_one b (replaced_sound r a k z) r (replacement_opens r a k z) (rw (take-length a.masks)) h m.full)))

-- so every further call leaves the same, and every answer is the same
pub replaced_from_there : (r : Rule) (h : Space) (m : Made h) → replace_number r h ≡ 0 → (cs : List Call) →
    leaves_all (Replace r ∷ cs) h ≡ leaves_all cs (leaves_all (Open (length m.held.masks) m.held.masks r ∷ map Arrive m.held.states) h)
unfolding leaves_all
replaced_from_there r h m e cs = ap (leaves_all cs) (replaced_as_opened r h m e)
