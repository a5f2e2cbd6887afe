-- One law for each return of a step in one reading.
use mathlib.Core.Path.{◌≡◌, refl, sym, ap, ◌∙◌}
use mathlib.Core.Bool.{Bool, true, false, not, ◌&&◌, ◌||◌}
use mathlib.Core.List.{List}
use Prim.Native.Nat.{ℕ, suc, ◌-◌}
use native.Mathlib.Omega.{arith}
use Rattle.definitions.specs.Bounded.{pick, tabulate}
use Rattle.definitions.specs.Nodes.{Not, Or, Until, Since}
use Rattle.definitions.specs.Readings.{next_at, until_at, prev_at, since_at}
use Rattle.theorems.proofs.Recursions.{until_recursion, since_recursion, prev_recursion}
use Rattle.theorems.proofs.Tabulations.{tabulated, tabulate_at, tabulate_same}
use Rattle.theorems.proofs.Semantics.{Agree, until_agree, since_agree, prev_agree, next_agree}
use Rattle.theorems.proofs.EvidenceRows.{goes_on, until_reach, since_reach, p_here, q_here}
use Rattle.mark_words.specs.Marks.{mark_at}
use Rattle.rows.specs.Marks.{marks, Whole, Made}
use Rattle.rows.specs.declared.Row.{Row}
use Rattle.rows.proofs.PackedLaws.{marks_length, retold}
use Rattle.walk.specs.declared.step.Step.{Step}
use Rattle.walk.specs.Steps.{Twin, Even, mark_of, Marks, OfFirst, Reached, Stepped}

abbrev pub step_of : Row → Row → Step
step_of a b = record { first = a; second = b }

-- ---- rows that mark functions

-- what a row marks, read at a place
reads : (r : Row) (n : ℕ) (f : ℕ → Bool) → Marks r n f → Agree n (mark_of r) f
reads r n f m k h = ap (λ (l : List Bool). mark_at l k) m.marked ∙ tabulate_at n f k h

-- the same marks by another function, over as many places
marks_same : (r : Row) (m n : ℕ) (f g : ℕ → Bool) → Marks r m f → m ≡ n → Agree n f g → Marks r n g
marks_same r m n f g v e h = retold r n (tabulate n f) (tabulate n g) (rw e at v) (tabulate_same n f g h)

-- ---- the operators depend on the places below n only

prev_below : (n : ℕ) (p p' : ℕ → Bool) → Agree n p p' → Agree n (prev_at p) (prev_at p')
prev_below n p p' h k l = prev_recursion p k ∙ (prev_agree n p p' h k l ∙ sym (prev_recursion p' k))

since_below : (n : ℕ) (p q p' q' : ℕ → Bool) → Agree n p p' → Agree n q q' → Agree n (since_at p q) (since_at p' q')
since_below n p q p' q' h g k l = since_recursion p q k ∙ (since_agree n p q p' q' h g (suc k) l ∙ sym (since_recursion p' q' k))

until_below : (n : ℕ) (d : Bool) (p q p' q' : ℕ → Bool) → Agree n p p' → Agree n q q' → Agree n (until_at d n p q) (until_at d n p' q')
until_below n d p q p' q' h g k l = until_recursion d n p q k ∙ (until_agree n d p q p' q' h g (n - k) k (omega arith) ∙ sym (until_recursion d n p' q' k))

-- ---- p and not q

-- `but_not`
pub but_not_made : (p q b r : Row) → Twin p q → Made b q.count (tabulate q.count (λ k. not (mark_of q k))) → Made r p.count (tabulate p.count (λ k. mark_of p k && mark_of b k))
    → Made r p.count (tabulate p.count (λ k. mark_of p k && not (mark_of q k)))
but_not_made p q b r t mb mr =
    marks_same r p.count p.count (λ k. mark_of p k && mark_of b k) (λ k. mark_of p k && not (mark_of q k)) mr refl
    (λ k l. ap (λ (z : Bool). mark_of p k && z) (reads b q.count (λ k. not (mark_of q k)) mb k (rw (← t.count) l)))

-- ---- of the first operand alone

-- `of_first`
pub of_first : (places none : Row) → Made none places.count (tabulate places.count (λ k. false)) → OfFirst places (step_of places none)
of_first places none m = record { first = refl; second = m }

-- ---- or

or_takes : (w u p : Bool) → (w && not (u && not p)) ≡ (w && (not u || p))
or_takes false u p = refl
or_takes true false p = refl
or_takes true true true = refl
or_takes true true false = refl

-- `or_step`: "an or that is yes takes its first yes operand, one that is no takes both" (`first_marks`, `second_marks` of Or)
pub or_step : (w u p q c r s : Row) → Even w u p q → Marks c u.count (λ k. mark_of u k && not (mark_of p k)) → Marks r w.count (λ k. mark_of w k && not (mark_of c k))
    → Marks s w.count (λ k. mark_of w k && not (mark_of p k)) → Stepped Or w u p q (step_of r s)
or_step w u p q c r s E mc mr ms = record {
  first = marks_same r w.count w.count (λ k. mark_of w k && not (mark_of c k)) (λ k. mark_of w k && (not (mark_of u k) || mark_of p k)) mr refl
      (λ k l. ap (λ (z : Bool). mark_of w k && not z) (reads c u.count (λ k. mark_of u k && not (mark_of p k)) mc k (rw E.own_count l)) ∙ or_takes (mark_of w k) (mark_of u k) (mark_of p k));
  second = ms;
}

-- ---- the places that were come to

here_first : (u p q : Bool) → ((u && not q) || (not u && not p)) ≡ pick u (not q) (not p)
unfolding pick
here_first true p true = refl
here_first true p false = refl
here_first false p q = refl

here_second : (u q : Bool) → not (u && not q) ≡ (not u || q)
here_second true true = refl
here_second true false = refl
here_second false q = refl

-- `reached`: what is taken at the places that were come to (`p_here`, `q_here`)
pub reached_step : (w u p q held nu failed some r s : Row) → Even w u p q
    → Marks held u.count (λ k. mark_of u k && not (mark_of q k)) → Marks nu u.count (λ k. not (mark_of u k)) → Marks failed nu.count (λ k. mark_of nu k && not (mark_of p k))
    → Marks some held.count (λ k. mark_of held k || mark_of failed k) → Marks r w.count (λ k. mark_of w k && mark_of some k) → Marks s w.count (λ k. mark_of w k && not (mark_of held k))
    → Reached w u p q (step_of r s)
reached_step w u p q held nu failed some r s E mh mn mf mo mr ms =
    let n : ℕ = w.count in
    let h : Agree n (mark_of held) (λ k. mark_of u k && not (mark_of q k)) = λ k l. reads held u.count (λ k. mark_of u k && not (mark_of q k)) mh k (rw E.own_count l) in
    let f : Agree n (mark_of failed) (λ k. not (mark_of u k) && not (mark_of p k))
    = λ k l. reads failed nu.count (λ k. mark_of nu k && not (mark_of p k)) mf k (rw (mn.count, E.own_count) l)
    ∙ ap (λ (z : Bool). z && not (mark_of p k)) (reads nu u.count (λ k. not (mark_of u k)) mn k (rw E.own_count l)) in
    let o : Agree n (mark_of some) (p_here (mark_of u) (mark_of p) (mark_of q))
    = λ k l. reads some held.count (λ k. mark_of held k || mark_of failed k) mo k (rw (mh.count, E.own_count) l)
    ∙ (rw (h k l, f k l) (here_first (mark_of u k) (mark_of p k) (mark_of q k))) in
    record {
      first = marks_same r n n (λ k. mark_of w k && mark_of some k) (λ k. mark_of w k && p_here (mark_of u) (mark_of p) (mark_of q) k) mr refl (λ k l. ap (λ (z : Bool). mark_of w k && z) (o k l));
      second = marks_same s n n (λ k. mark_of w k && not (mark_of held k)) (λ k. mark_of w k && q_here (mark_of u) (mark_of q) k) ms refl
          (λ k l. ap (λ (z : Bool). mark_of w k && z) (ap not (h k l) ∙ here_second (mark_of u k) (mark_of q k)));
    }

-- ---- until and since

module _ (w u p q on from reach : Row) (s : Step) (E : Even w u p q) (mo : Marks on p.count (λ k. mark_of p k && not (mark_of q k))) where
  goes : Agree w.count (mark_of on) (goes_on (mark_of p) (mark_of q))
  goes k l = reads on p.count (goes_on (mark_of p) (mark_of q)) mo k (rw E.first_count l)

  on_count : on.count ≡ w.count
  on_count = mo.count ∙ E.first_count

  module _ (f : ℕ → Bool) (m : reach.count ≡ w.count) (c : Agree w.count (mark_of reach) f) (R : Reached reach u p q s) where
    came_first : Marks s.first w.count (λ k. f k && p_here (mark_of u) (mark_of p) (mark_of q) k)
    came_first = marks_same s.first reach.count w.count (λ k. mark_of reach k && p_here (mark_of u) (mark_of p) (mark_of q) k) (λ k. f k && p_here (mark_of u) (mark_of p) (mark_of q) k) R.first m
        (λ k l. ap (λ (z : Bool). z && p_here (mark_of u) (mark_of p) (mark_of q) k) (c k l))

    came_second : Marks s.second w.count (λ k. f k && q_here (mark_of u) (mark_of q) k)
    came_second = marks_same s.second reach.count w.count (λ k. mark_of reach k && q_here (mark_of u) (mark_of q) k) (λ k. f k && q_here (mark_of u) (mark_of q) k) R.second m
        (λ k l. ap (λ (z : Bool). z && q_here (mark_of u) (mark_of q) k) (c k l))

  -- `until_step`: the places from each wanted one on to the first at which it is decided, "the first fitting k" or where p first fails (`until_reach`)
  pub until_step : Marks from on.count (prev_at (mark_of on)) → Marks reach from.count (since_at (mark_of from) (mark_of w)) → Reached reach u p q s → Stepped Until w u p q s
  until_step mf mr R =
      let n : ℕ = w.count in
      let e : from.count ≡ n = mf.count ∙ on_count in
      let f : Agree n (mark_of from) (prev_at (goes_on (mark_of p) (mark_of q)))
      = λ k l. reads from on.count (prev_at (mark_of on)) mf k (rw on_count l) ∙ prev_below n (mark_of on) (goes_on (mark_of p) (mark_of q)) goes k l in
      let c : Agree n (mark_of reach) (until_reach (mark_of p) (mark_of q) (mark_of w))
      = λ k l. reads reach from.count (since_at (mark_of from) (mark_of w)) mr k (rw e l)
      ∙ since_below n (mark_of from) (mark_of w) (prev_at (goes_on (mark_of p) (mark_of q))) (mark_of w) f (λ k l. refl) k l in
      record { first = came_first (until_reach (mark_of p) (mark_of q) (mark_of w)) (mr.count ∙ e) c R; second = came_second (until_reach (mark_of p) (mark_of q) (mark_of w)) (mr.count ∙ e) c R }

  -- `since_step`: the same from each wanted place back (`since_reach`)
  pub since_step : Marks from on.count (next_at false on.count (mark_of on)) → Marks reach from.count (until_at false from.count (mark_of from) (mark_of w)) → Reached reach u p q s
      → Stepped Since w u p q s
  since_step mf mr R =
      let n : ℕ = w.count in
      let e : from.count ≡ n = mf.count ∙ on_count in
      let f : Agree n (mark_of from) (next_at false n (goes_on (mark_of p) (mark_of q)))
      = λ k l. reads from on.count (next_at false on.count (mark_of on)) mf k (rw on_count l)
      ∙ (ap (λ (c : ℕ). next_at false c (mark_of on) k) on_count ∙ next_agree n false (mark_of on) (goes_on (mark_of p) (mark_of q)) goes k) in
      let c : Agree n (mark_of reach) (since_reach n (mark_of p) (mark_of q) (mark_of w))
      = λ k l. reads reach from.count (until_at false from.count (mark_of from) (mark_of w)) mr k (rw e l)
      ∙ (ap (λ (c : ℕ). until_at false c (mark_of from) (mark_of w) k) e
      ∙ until_below n false (mark_of from) (mark_of w) (next_at false n (goes_on (mark_of p) (mark_of q))) (mark_of w) f (λ k l. refl) k l) in
      record { first = came_first (since_reach n (mark_of p) (mark_of q) (mark_of w)) (mr.count ∙ e) c R; second = came_second (since_reach n (mark_of p) (mark_of q) (mark_of w)) (mr.count ∙ e) c R }

-- ---- all kinds

-- a row marks its own marks
whole_marks : (r : Row) → Whole r → marks r ≡ tabulate r.count (mark_of r)
whole_marks r v = tabulated (marks r) r.count (mark_of r) (marks_length r v) (λ k l. refl)

module _ (w u p q : Row) (s : Step) (E : Even w u p q) where
  itself : Marks w w.count (mark_of w)
  itself = record { whole = E.wanted; count = refl; marked = whole_marks w E.wanted }

  -- `step_of`: of the kinds that take of their first operand alone, a law for each, to `first_marks` and `second_marks` of that kind
  pub step_not : OfFirst w s → Stepped Not w u p q s
  step_not o = record { first = rw o.first itself; second = o.second }
