-- One law for each return and each turn of the pass.
use Rattle.std.proofs.Common.{rules, ℕ, suc, ◌+◌, ◌-◌, ◌≤◌, ◌<◌, ◌≡◌, refl, sym, ap, ◌∙◌, Bool, true, false, List, [], ◌∷◌, ◌++◌, append_assoc, length, take, drop, get_or, set, replicate, length-take, length-drop, length-take-le, get_or-take, take_at, take-suc-set, drop-set-lt, drop-drop, arith, add-one}
use Rattle.std.specs.Int.Bits.{bit_and}
use Rattle.std.proofs.lemmas.Grind.{get_or_after_one}
use lib.ListN.{get_or-replicate}
use lib.Seq.{set_split, take-set-le}
use Rattle.definitions.specs.Bounded.{pick, bit, tabulate}
use Rattle.definitions.specs.Recordings.{Recording, recording_of, first_states, atoms_of, marked, mask_of, state_at, runs_at}
use Rattle.definitions.specs.Projection.{local_trace}
use Rattle.theorems.proofs.Choice.{by_test, pick_true, pick_false}
use Rattle.theorems.proofs.OneStateMore.{OneMore, first_states_more, longer_idle, longer_ran, longer_runs}
use Rattle.lent.specs.Space.{laid}
use Rattle.mark_words.specs.Marks.{yes_marks}
use Rattle.rows.specs.Marks.{marks, Made}
use Rattle.rows.specs.declared.Row.{Row}
use Rattle.rows.proofs.PackedLaws.{marks_length}
use Rattle.projection.specs.declared.pass.Pass.{Pass}
use Rattle.projection.specs.Passes.{Holds, Ready, Passed, Closed, Counted}
use Rattle.projection.specs.Places.{Projectable}
use Rattle.projection.proofs.LengthLaws.{yes_snoc, yes_few, run_marks, trace_length}

-- ---- what is held, and its bounds
module _ (S : Recording) (c : ℕ) (entry : List ℕ) (p : Pass) (places : List ℕ) (H : Holds S c entry p places) where
  -- one more than the number of run marks
  pub held_length : length (local_trace S c) ≡ p.placed + 1
  held_length =
      trace_length S c H.some ∙ ap (λ (n : ℕ). n + 1) (sym (H.placed ∙ (ap yes_marks H.row.marked ∙ run_marks (runs_at S c) (S.count - 1))))

  held_few : p.placed ≤ p.run.count
  held_few = omega (arith, H.placed, yes_few (marks p.run), marks_length p.run H.row.whole)

  pub held_below : p.placed < S.count
  held_below = omega (arith, held_few, H.row.count, H.some)

  laid_held : p.placed < length places → set places p.placed p.own ≡ laid (local_trace S c) entry
  laid_held h =
      set_split places p.placed p.own h
      ∙ rw (held_length, ← H.trace, ← add-one p.placed, H.rest) (sym (append_assoc (take p.placed places) (p.own ∷ []) (drop (p.placed + 1) entry)))

-- `Pass::length`: the yes marks of the row, and one, are the local length (`Counted`)
pub counted : (p : Pass) (r : ℕ) → r ≡ yes_marks (marks p.run) → Counted p (r + 1)
counted p r e = record { long = λ S c entry places H. omega (arith, held_length S c entry p places H, H.placed) }

-- `Pass::close`: with the last place written, the whole local trace is laid (`Closed`)
pub closed : (p : Pass) (places : List ℕ) → p.placed < length places → Closed p places (set places p.placed p.own)
closed p places h = record { places = λ S c entry H. laid_held S c entry p places H h }

-- ---- one state
-- `Pass::begin`: of a single state, the pass `Holds` its local trace
pub held_first : (S : Recording) (c mask s w : ℕ) (places : List ℕ) (row : Row) → S.count ≡ 1 → state_at S 0 ≡ s → mask_of S c ≡ mask → w ≡ atoms_of s →
    Made row 0 (tabulate 0 (λ k. false)) → Holds S c places (record { run = row; placed = 0; own = bit_and w mask; last = s }) places
unfolding pick
held_first S c mask s w places row n e m ws made =
    let z : S.count - 1 ≡ 0 = omega arith in
    record {
      some = omega arith;
      row = rw z made;
      placed = rw made.marked;
      last = rw z (sym e);
      trace = rw (ws, ← e, ← m, n);
      rest = refl;
    }

-- ---- one state more
module _ (S R : Recording) (s : ℕ) (O : OneMore S R s) (c mask : ℕ) (entry : List ℕ) (p : Pass) (before : List ℕ) (H : Holds S c entry p before) (P : Ready c p before)
    (m : mask_of R c ≡ mask) (ran : Bool) (ran_is : ran ≡ marked c p.last) (row : Row) (longer : Made row (p.run.count + 1) (marks p.run ++ (ran ∷ [])))
    (w : ℕ) (ws : w ≡ atoms_of p.last) where
  room : p.placed < length before
  room = omega (arith, P.few, P.more, P.room)

  mark : marked c (state_at S (S.count - 1)) ≡ ran
  mark = sym (ran_is ∙ ap (marked c) H.last)

  count_more : R.count - 1 ≡ S.count
  count_more = omega (arith, O.count)

  row_more : Made row (R.count - 1) (tabulate (R.count - 1) (runs_at R c))
  row_more = record {
    whole = longer.whole;
    count = longer.count ∙ omega (arith, H.row.count, H.some, O.count);
    marked = longer.marked ∙ rw (count_more, longer_runs S R s O c, mark, H.row.marked);
  }

  ones_more : yes_marks (marks row) ≡ p.placed + bit ran
  ones_more = ap yes_marks longer.marked ∙ (yes_snoc (marks p.run) ran ∙ rw H.placed)

  last_more : s ≡ state_at R (R.count - 1)
  last_more = rw count_more (sym O.state)

  -- the places before the last one
  front : take p.placed (local_trace S c) ≡ take p.placed before
  front =
      ap (take p.placed) (sym H.trace)
      ∙ take_at (take p.placed before) (p.own ∷ []) p.placed (length-take-le p.placed before (omega (arith, room)))

  more_idle : ran ≡ false → Holds R c entry (record { run = row; placed = p.placed; own = p.own; last = s }) (set before p.placed w)
  more_idle r = record {
    some = omega (arith, O.count);
    row = row_more;
    placed = omega (arith, ones_more, ap bit r);
    last = last_more;
    trace = rw (take-set-le p.placed before p.placed w (omega arith), H.trace) (sym (longer_idle S R s O c (mark ∙ r)));
    rest = drop-set-lt (p.placed + 1) before p.placed w (omega arith) ∙ H.rest;
  }

  more_ran : ran ≡ true → Holds R c entry (record { run = row; placed = p.placed + 1; own = bit_and (atoms_of s) mask; last = s }) (set before p.placed w)
  more_ran r =
      let t : local_trace R c ≡ take p.placed before ++ (w ∷ bit_and (atoms_of s) mask ∷ [])
      = longer_ran S R s O c (mark ∙ r) p.placed (held_length S c entry p before H) ∙ rw (front, m, ws, H.last) in
      record {
        some = omega (arith, O.count);
        row = row_more;
        placed = omega (arith, ones_more, ap bit r);
        last = last_more;
        trace = rw (add-one p.placed, take-suc-set before p.placed w room, append_assoc, t);
        rest = drop-set-lt (p.placed + 1 + 1) before p.placed w (omega arith)
            ∙ (sym (drop-drop 1 (p.placed + 1) before) ∙ (ap (λ (l : List ℕ). drop 1 l) H.rest ∙ drop-drop 1 (p.placed + 1) entry));
      }

  -- `Pass::take`: after one state more, the pass `Holds` the longer local trace
  pub held_more : (n own v : ℕ) → n ≡ pick ran (p.placed + 1) p.placed → v ≡ atoms_of s → own ≡ pick ran (bit_and v mask) p.own
      → Holds R c entry (record { run = row; placed = n; own = own; last = s }) (set before p.placed w)
  held_more n own v ns vs os =
      by_test ran
      (λ r. rw (ns ∙ pick_true ran (p.placed + 1) p.placed r, os ∙ pick_true ran (bit_and v mask) p.own r, vs) (more_ran r))
      (λ r. rw (ns ∙ pick_false ran (p.placed + 1) p.placed r, os ∙ pick_false ran (bit_and v mask) p.own r) (more_idle r))

-- ---- the loop

-- what `take` ensures
abbrev pub Taken : (c mask s : ℕ) (p : Pass) (before : List ℕ) (r : Pass) (after : List ℕ) → Type 0
Taken c mask s p before r after = (S R : Recording) (entry : List ℕ) → OneMore S R s → mask_of R c ≡ mask → Holds S c entry p before → Holds R c entry r after

-- what `begin` ensures
abbrev pub First : (mask s : ℕ) (r : Pass) → Type 0
First mask s r = (S : Recording) (c : ℕ) (places : List ℕ) → S.count ≡ 1 → state_at S 0 ≡ s → mask_of S c ≡ mask → Holds S c places r places

-- before state k is taken: of every recording with these states, and this mask of c, the pass holds the local trace of the first k
pub record Passing (N mask c : ℕ) (states entry places : List ℕ) (held : Pass) (k : ℕ) : Type 0 where
  pub high : k ≤ N
  pub kept : length places ≡ length entry
  pub holds : (R : Recording) → R.states ≡ states → mask_of R c ≡ mask → Holds (first_states k R) c entry held places

-- there is one
abbrev pub sole : (mask c : ℕ) (states : List ℕ) → Recording
sole mask c states = recording_of (suc c) 0 (replicate (suc c) mask) states

pub sole_mask : (mask c : ℕ) (states : List ℕ) → mask_of (sole mask c states) c ≡ mask
sole_mask mask c states = get_or-take (suc c) (replicate (suc c) mask) c 0 (omega arith) ∙ get_or-replicate (suc c) c mask 0 (omega arith)

module _ (N mask c : ℕ) (states entry : List ℕ) (P : Projectable N c states entry) where
  -- `pass_over`, before state 1: the local trace of the first state is held (`Passing`)
  pub passing_start : (held : Pass) → First mask (get_or states 0 0) held → Passing N mask c states entry entry held 1
  passing_start held f = record {
    high = P.some_state;
    kept = refl;
    holds = λ R e m. f (first_states 1 R) c entry refl (get_or-take 1 R.states 0 0 (omega arith) ∙ ap (λ (l : List ℕ). get_or l 0 0) e) m;
  }

  -- the states after the first, of N
  abbrev after_first : List ℕ
  after_first = take (N - 1) (drop 1 states)

  after_count : length after_first ≡ N - 1
  after_count = omega (arith, length-take (N - 1) (drop 1 states), length-drop 1 states, P.all_there)

  module _ (places : List ℕ) (held : Pass) (i : ℕ) (G : Passing N mask c states entry places held (i + 1)) where
    held_sole : Holds (first_states (i + 1) (sole mask c states)) c entry held places
    held_sole = G.holds (sole mask c states) refl (sole_mask mask c states)

    pub passing_ready : i < length after_first → Ready c held places
    passing_ready h = record {
      controller = P.controller;
      whole = held_sole.row.whole;
      more = omega (arith, held_sole.row.count, P.few_states, after_count);
      few = held_few (first_states (i + 1) (sole mask c states)) c entry held places held_sole;
      room = omega (arith, G.kept, P.room);
    }

    -- `pass_over`, a turn: with one state more taken, the local trace of these is held (`Passing`)
    pub passing_next : i < length after_first → (next : Pass) (places' : List ℕ) → length places' ≡ length places → Taken c mask (get_or after_first i 0) held places next places'
        → Passing N mask c states entry places' next (i + 1 + 1)
    passing_next h next places' l t = record {
      high = omega (arith, after_count);
      kept = l ∙ G.kept;
      holds = λ R e m.
          let low : i < N - 1 = omega (arith, after_count) in
          let next_one : 1 + i ≡ i + 1 = omega arith in
          let here : get_or after_first i 0 ≡ get_or states (i + 1) 0
          = get_or-take (N - 1) (drop 1 states) i 0 low ∙ get_or_after_one states i 0 ∙ ap (λ (k : ℕ). get_or states k 0) next_one in
          let o : OneMore (first_states (i + 1) R) (first_states (i + 1 + 1) R) (get_or after_first i 0) = rw (here, ← e) (first_states_more R (i + 1) (omega arith)) in
          t (first_states (i + 1) R) (first_states (i + 1 + 1) R) entry o m (G.holds R e m);
    }

    -- `pass_over`, no state is left: the local trace of all N states is held (`Passed`)
    pub passing_end : length after_first ≤ i → Passed N mask c states entry held places
    passing_end h =
        let n : N ≡ i + 1 = omega (arith, G.high, after_count, P.some_state) in
        record {
          whole = held_sole.row.whole;
          below = omega (arith, held_below (first_states (i + 1) (sole mask c states)) c entry held places held_sole, G.kept, P.few_states, P.room);
          holds = λ R e m. rw n (G.holds R e m);
        }

pub ruleset pass_laws = (rules, passing_start, passing_ready, passing_next, passing_end)
