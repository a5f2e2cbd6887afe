-- Trials of verdicts that may be announced early: what stays, and for each thing that is asked of the longer recording a pair of recordings that has
-- all the others, and in which an announced verdict doesn't stay. Atom 0 is controller 0's own, atom 1 foreign.
use mathlib.Core.Path.{◌≡◌, refl}
use Prim.Native.Nat.{ℕ}
use mathlib.Core.Bool.{Bool, true, false}
use mathlib.Core.List.{List, [], ◌∷◌}
use lib.Dec.{leb}
use Rattle.definitions.specs.Nodes.{True, Atom, Not, Next, Until, Node, node}
use Rattle.definitions.specs.Recordings.{Recording, first_states, recording_refusal, mask_of, state_of}
use Rattle.definitions.specs.Projection.{local_trace}
use Rattle.definitions.specs.Readings.{Verdicts, local_verdicts}
use Rattle.definitions.specs.Early.{begins, same_mask, same_marks, same_words, same_own_last, begins_for, announced}
use Rattle.definitions.proofs.Samples.{computed, recorded, R, rule, yes, no, judged, agreed}

-- the verdicts of controller 0 on a recording
abbrev on : List Node → Recording → Verdicts
on ns M = local_verdicts ns (mask_of M 0) (local_trace M 0)

abbrev verdicts : Bool → Bool → Verdicts
verdicts weak strong = record { weak = weak; strong = strong }

abbrev kept : Verdicts
kept = verdicts true true

abbrev broken : Verdicts
broken = verdicts false false

abbrev undecided : Verdicts
undecided = verdicts true false

-- recordings of controller 0 alone
abbrev alone : List ℕ → Recording
alone states = recorded (1 ∷ []) states

-- what B has of A, the refusals of both, and the verdicts on both
pub record Told : Type 0 where
  pub longer : Bool
  pub mask : Bool
  pub marks : Bool
  pub words : Bool
  pub own_last : Bool
  pub refusals : List ℕ
  pub before : Verdicts
  pub after : Verdicts

abbrev told : List Node → Recording → Recording → Told
told ns A B = record {
  longer = leb A.count B.count;
  mask = same_mask 0 A B;
  marks = same_marks 0 A B;
  words = same_words 0 A B;
  own_last = same_own_last 0 A B;
  refusals = recording_refusal A ∷ recording_refusal B ∷ [];
  before = on ns A;
  after = on ns B;
}

abbrev because : Bool → Bool → Bool → Bool → Bool → List ℕ → Verdicts → Verdicts → Told
because longer mask marks words own_last refusals before after = record {
  longer = longer;
  mask = mask;
  marks = marks;
  words = words;
  own_last = own_last;
  refusals = refusals;
  before = before;
  after = after;
}

-- always the own atom, and at some step the own atom: one can only be broken, the other only be kept
abbrev always : List Node
always = node Atom 0 0 ∷ node Not 0 0 ∷ node True 0 0 ∷ node Until 2 1 ∷ node Not 3 0 ∷ []

abbrev once : List Node
once = node Atom 0 0 ∷ node True 0 0 ∷ node Until 1 0 ∷ []

-- two steps of controller 0, after which its atom is 0 and then 1; and three steps, of which the last is in mid step
abbrev two_steps : Recording
two_steps = alone (state_of 1 1 ∷ state_of 1 0 ∷ state_of 0 1 ∷ [])

abbrev two_steps_on : Recording
two_steps_on = alone (state_of 1 1 ∷ state_of 1 0 ∷ state_of 1 1 ∷ state_of 1 0 ∷ [])

-- the same in a rack of two, with other foreign atoms where controller 0 doesn't run
abbrev with_other : Recording
with_other = recorded (1 ∷ 2 ∷ []) (state_of 1 1 ∷ state_of 3 0 ∷ state_of 2 3 ∷ state_of 1 1 ∷ state_of 0 0 ∷ [])

pub record Announced : Type 0 where
  pub strong_yes : announced kept ≡ true
  pub weak_no : announced broken ≡ true
  -- `yes no` isn't
  pub neither : announced undecided ≡ false
  -- "The mark of state K may change"; the longer one may stop in mid step, too
  pub mark_of_last : begins two_steps two_steps_on ≡ true
  pub stays : told always two_steps two_steps_on ≡ because true true true true true (0 ∷ 0 ∷ []) broken broken
  pub stays_yes : told once two_steps two_steps_on ≡ because true true true true true (0 ∷ 0 ∷ []) kept kept
  -- what of the other controllers is free
  pub others : begins two_steps with_other ≡ false
  pub others_free : told always two_steps with_other ≡ because true true true true true (0 ∷ 0 ∷ []) broken broken
  -- "the first K states" of a recording begin it
  pub cut : begins (first_states 3 R) R ≡ true
  pub cut_for : begins_for 0 (first_states 3 R) R ≡ true
  -- a weak yes or a strong no says nothing of what comes
  pub undecided_broken : told always (first_states 1 two_steps) two_steps ≡ because true true true true true (0 ∷ 0 ∷ []) undecided broken
  pub open_kept : told (node Atom 1 0 ∷ []) (alone (state_of 0 2 ∷ [])) (alone (state_of 1 2 ∷ state_of 0 2 ∷ []))
      ≡ because true true true true true (0 ∷ 0 ∷ []) undecided kept

is_announced : Announced
unfolding computed
is_announced = record {
  strong_yes = refl;
  weak_no = refl;
  neither = refl;
  mark_of_last = refl;
  stays = refl;
  stays_yes = refl;
  others = refl;
  others_free = refl;
  cut = refl;
  cut_for = refl;
  undecided_broken = refl;
  open_kept = refl;
}

-- the same announced by the plain and by the short table over the whole recording, and they stay
pub record AnnouncedByTables : Type 0 where
  pub weak_no : judged (rule always) two_steps ≡ agreed no no 36 23
  pub weak_no_stays : judged (rule always) two_steps_on ≡ agreed no no 36 23
  pub weak_no_with_other : judged (rule always) with_other ≡ agreed no no 36 23
  pub strong_yes : judged (rule once) two_steps ≡ agreed yes yes 32 19
  pub strong_yes_stays : judged (rule once) two_steps_on ≡ agreed yes yes 32 19
  pub strong_yes_with_other : judged (rule once) with_other ≡ agreed yes yes 32 19
  -- and `yes no` may become `no no`
  pub neither : judged (rule always) (first_states 1 two_steps) ≡ agreed yes no 36 23

announced_by_tables : AnnouncedByTables
unfolding computed
announced_by_tables = record {
  weak_no = refl;
  weak_no_stays = refl;
  weak_no_with_other = refl;
  strong_yes = refl;
  strong_yes_stays = refl;
  strong_yes_with_other = refl;
  neither = refl;
}

-- each thing that is asked is needed: all the others are there, and a strong yes goes
pub record Needed : Type 0 where
  -- a recording that is shorter
  pub longer : told (node True 0 0 ∷ node Next 0 0 ∷ []) (alone (state_of 1 0 ∷ state_of 0 0 ∷ [])) (alone (state_of 1 0 ∷ []))
      ≡ because false true true true true (0 ∷ 0 ∷ []) kept undecided
  -- atom 0 is its own in A, and nobody's in B
  pub own_mask : told (node Atom 0 0 ∷ []) (alone (state_of 0 1 ∷ [])) (recorded (0 ∷ []) (state_of 0 1 ∷ state_of 0 0 ∷ []))
      ≡ because true false true true true (0 ∷ 0 ∷ []) kept undecided
  -- it runs in state K-1 of A, and not in that of B
  pub mark_before_last : told (node True 0 0 ∷ node Next 0 0 ∷ []) (alone (state_of 1 0 ∷ state_of 0 0 ∷ [])) (alone (state_of 0 0 ∷ state_of 0 0 ∷ []))
      ≡ because true true false true true (0 ∷ 0 ∷ []) kept undecided
  -- its step in state K-1 leaves another own atom in state K
  pub own_atoms : told (node Atom 0 0 ∷ node Next 0 0 ∷ []) (alone (state_of 1 0 ∷ state_of 0 1 ∷ [])) (alone (state_of 1 0 ∷ state_of 0 0 ∷ []))
      ≡ because true true true true false (0 ∷ 0 ∷ []) kept broken
  -- a foreign atom where it runs
  pub foreign_atom : told (node Atom 1 0 ∷ []) (alone (state_of 1 2 ∷ state_of 0 0 ∷ [])) (alone (state_of 1 0 ∷ state_of 0 0 ∷ []))
      ≡ because true true true false true (0 ∷ 0 ∷ []) kept broken
  -- "every accepted longer recording": B has all that is asked, but its own atom changes in state 1 without a step, before its first step there
  pub output_rule : told (node Atom 0 0 ∷ []) (alone (state_of 0 1 ∷ [])) (alone (state_of 0 1 ∷ state_of 1 0 ∷ state_of 0 0 ∷ []))
      ≡ because true true true true true (0 ∷ 10 ∷ []) kept broken

needed : Needed
unfolding computed
needed = record { longer = refl; own_mask = refl; mark_before_last = refl; own_atoms = refl; foreign_atom = refl; output_rule = refl }
