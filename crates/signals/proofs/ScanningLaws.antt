-- Laws of the lines that are read into the states.
use mathlib.Core.Path.{◌≡◌, refl, ap, sym, ◌∙◌}
use Prim.Native.Nat.{ℕ, zero, suc, ◌+◌, ◌-◌, ◌*◌, ◌%◌, ◌^◌, ◌<◌, ◌≤◌}
use native.Mathlib.Nat.{one-mul, mod-eq_of_lt}
use native.Mathlib.Omega.{arith}
use lib.Pow.{pow_mono, pow-lt}
use mathlib.Core.Bool.{Bool, true, false, ◌&&◌, true≢false, and-false, and-true}
use mathlib.Core.List.{List, [], ◌∷◌}
use lib.ListN.{length, take, drop, get_or, replicate, length-drop, length-replicate, get_or-replicate}
use lib.Seq.{length-take-le, ext_get_or, get_or-take}
use lib.Dec.{ltb, leb, eqb}
use mir.Syntax.{w64}
use mir.Val.{Fits}
use borrow.Author.Rules.{rules}
use borrow.Author.Tests.{lt-ltb, le-ltb, eq-eqb, ltb-true, ltb-false, leb-true, eqb-true}
use Rattle.definitions.specs.Limits.{accepted, recording_form, recording_lines, atom_count}
use Rattle.definitions.specs.Bounded.{pick, within}
use Rattle.definitions.specs.Lines.{tab, has, up_to, line_length, is_closed, rest_of, is_empty, formed, malformed, on_parsed, same, worded}
use Rattle.definitions.specs.Archive.{runs_word, bits_word, signal_word, signal_on, signal, signal_form, SignalScan, signal_stop, more_signals, scan_signals, states_of_signals}
use Rattle.theorems.proofs.Choice.{by_test, both_true, pick_true, pick_false}
use Rattle.theorems.proofs.NextLines.{next_malformed, next_read}
use Rattle.theorems.proofs.ArchiveTexts.{signals_stop, signals_step, signals_back}
use Rattle.std.specs.Prelude.{Some, None, Result, Ok, Err}
use Rattle.rules.specs.Refusals.{number_of}
use Rattle.rules.specs.declared.refusal.Refusal.{Refusal}
use Rattle.rules.specs.declared.refusal.Refusal.TheVariants.{RecordingLines}
use Rattle.rules.proofs.RefusalLaws.{number_some}
use Rattle.lines.specs.Parts.{split}
use Rattle.lines.specs.declared.Stop.{Stop}
use Rattle.lines.specs.Reading.{FirstLine, end_refusal, stopped_number, stopped_at}
use Rattle.lines.specs.declared.Line.{Line}
use Rattle.lines.proofs.PartLaws.{part_to_end, empty_yes, empty_no, split_no, split_yes}
use Rattle.lines.proofs.NextLaws.{line_part, line_part_laws, next_unread, end_fine}
use Rattle.lines.proofs.LoopLaws.{after_line, line_inside}
use Rattle.signals.specs.Places.{InSignals, place_of, weight, lay_on}
use Rattle.signals.specs.Laying.{binary_digit, is_signal, laid_on, Room, Laid}
use Rattle.signals.specs.Scanning.{LineRoom, OneLaid, LineLaid, NextRoom, NextLaid, ScanRoom, SignalsScanned}
use Rattle.signals.proofs.FilledLaws.{place_run, place_bit, filled}
use Rattle.signals.proofs.LayingLaws.{signal_laid}

-- ---- `place`
module _ (C j : ℕ) (turn : InSignals C j) where
  -- `place`, a controller's signal: `place_of` is its run mark's bit
  pub place_of_run : j < C → 32 + j ≡ place_of C j
  place_of_run h = sym (place_run C j h)

  -- `place`, an atom's signal: `place_of` is the atom
  pub place_of_bit : C ≤ j → j - C ≡ place_of C j
  place_of_bit h = sym (place_bit C j h)

  pub place_fits : j < C → Fits w64 (32 + j)
  place_fits h = record { fits = omega (arith, turn.few) }

  -- a state has 43 bits
  pub place_low : place_of C j < 43
  place_low =
      by_test (ltb j C)
      (λ e. let h = ltb-true j C e in omega (arith, place_run C j h, turn.few))
      (λ e. let h = ltb-false j C e in omega (arith, place_bit C j h, turn.inside))

  pub weight_small : weight C j ≤ 2 ^ 42
  unfolding weight
  weight_small = pow_mono {i = place_of C j} {j = 42} (omega (arith, place_low))

  pub place_shift : (p : ℕ) → p ≡ place_of C j → p < 64
  place_shift p e = omega (arith, place_low)

  pub weight_of : (p : ℕ) → p ≡ place_of C j → 1 * 2 ^ p % 2 ^ 64 ≡ weight C j
  unfolding weight
  weight_of p e = rw (one-mul (2 ^ p)) (mod-eq_of_lt (pow-lt {i = p} {j = 64} (place_shift p e)) ∙ ap (λ (n : ℕ). 2 ^ n) e)

pub ruleset place_laws = (rules, place_of_run, place_of_bit, place_fits)

-- ---- `opens`
-- `opens`, a controller's signal: `signal_word` is `runs`
pub opens_runs : (C j : ℕ) (w : List ℕ) (r : Bool) → j < C → r ≡ same w runs_word → r ≡ same w (signal_word C j)
unfolding signal_word
opens_runs C j w r h e = e ∙ rw (pick_true (ltb j C) runs_word bits_word (lt-ltb j C h))

-- `opens`, an atom's signal: `signal_word` is `bits`
pub opens_bits : (C j : ℕ) (w : List ℕ) (r : Bool) → C ≤ j → r ≡ same w bits_word → r ≡ same w (signal_word C j)
unfolding signal_word
opens_bits C j w r h e = e ∙ rw (pick_false (ltb j C) runs_word bits_word (le-ltb j C h))

pub ruleset opens_laws = (rules, opens_runs, opens_bits)

-- ---- what `lay` leaves
module _ (w : ℕ) where
  laid_front : (s o : List ℕ) → take (length s) (laid_on w o s) ≡ laid_on w (take (length s) o) s
  unfolding laid_on pick
  laid_front [] [] = refl
  laid_front [] (x ∷ o) = refl
  laid_front (b ∷ s) [] = refl
  laid_front (b ∷ s) (x ∷ o) = by_test (ltb (binary_digit b) 2) (λ e. rw (e, laid_front s o)) (λ e. rw e)

  part : (d : ℕ) → d < 2 → d * w ≤ w
  part zero b = omega arith
  part (suc zero) b = omega arith
  part (suc (suc n)) b = absurd (omega arith)

  laid_bound : (s o : List ℕ) (k : ℕ) → get_or (laid_on w o s) k 0 ≤ get_or o k 0 + w
  unfolding laid_on pick
  laid_bound s [] k = omega arith
  laid_bound [] (x ∷ o) k = omega arith
  laid_bound (b ∷ s) (x ∷ o) zero =
      by_test (ltb (binary_digit b) 2) (λ e. rw e (omega (arith, part (binary_digit b) (ltb-true (binary_digit b) 2 e)))) (λ e. rw e (omega arith))
  laid_bound (b ∷ s) (x ∷ o) (suc k) = by_test (ltb (binary_digit b) 2) (λ e. rw e (laid_bound s o k)) (λ e. rw e (omega arith))

-- ---- a field is a signal by its bytes
digit_yes : (x : ℕ) → within 48 49 x ≡ true → ltb (binary_digit x) 2 ≡ true
unfolding binary_digit pick
digit_yes x h =
    let p = both_true (leb 48 x) (leb x 49) h in
    let a = leb-true 48 x p.0 in
    let b = leb-true x 49 p.1 in
    rw h (lt-ltb (x - 48) 2 (omega arith))

digit_no : (x : ℕ) → within 48 49 x ≡ false → ltb (binary_digit x) 2 ≡ false
unfolding binary_digit pick
digit_no x h = rw h refl

record SomeSignal (s : List ℕ) : Type 0 where
  value : List Bool
  read : signal_on s ≡ formed value

some_signal : (s : List ℕ) → is_signal s ≡ true → SomeSignal s
unfolding signal_on is_signal on_parsed pick
some_signal [] h = record { value = []; read = refl }
some_signal (x ∷ t) h =
    by_test (within 48 49 x)
    (λ e.
    let r = some_signal t (rw (digit_yes x e) at h) in
    record { value = eqb x 49 ∷ r.value; read = rw (e, r.read) })
    (λ e. absurd (true≢false (sym (rw (digit_no x e) at h))))

no_signal : (s : List ℕ) → is_signal s ≡ false → signal_on s ≡ malformed
unfolding signal_on is_signal on_parsed pick
no_signal [] h = absurd (true≢false h)
no_signal (x ∷ t) h = by_test (within 48 49 x) (λ e. rw (e, no_signal t (rw (digit_yes x e) at h))) (λ e. rw e)

-- ---- `lay_line`
-- what must hold, and does not
denied : (z : Bool) (e : Refusal) (n : ℕ) → number_of e ≡ pick z accepted n → (z ≡ false) × (number_of e ≡ n)
unfolding pick
denied true e n h = absurd (number_some e h)
denied false e n h = (refl, h)

-- what must hold, and does
granted : (z : Bool) (n : ℕ) → (n ≡ 0 → ⊥) → accepted ≡ pick z accepted n → z ≡ true
unfolding pick
granted true n some h = refl
granted false n some h = absurd (some (sym h))

module _ (C N j : ℕ) (s o : List ℕ) where
  malformed_line : signal_form C N j s ≡ malformed → LineLaid C N j s o recording_form o
  malformed_line e = record { bound = λ k. omega arith; laid = λ q. absurd (omega arith); refused = λ q. (refl, e) }

  -- `lay_line`, no tab: `signal_form` is malformed
  pub line_none : None ≡ split tab s → LineLaid C N j s o recording_form o
  unfolding signal_form worded
  line_none e = malformed_line (pick_false _ _ _ (rw (split_no tab s e) (and-false (same (up_to tab s) (signal_word C j)))))

  module _ (w f : List ℕ) (parts : Some (w, f) ≡ split tab s) (q : Bool) (qs : q ≡ same w (signal_word C j)) where
    opened : (same (up_to tab s) (signal_word C j) && has tab s) ≡ q
    opened = let p = split_yes tab s w f parts in rw (← p.front, p.there, ← qs) (and-true q)

    -- `lay_line`, another word: `signal_form` is malformed
    pub line_other : (e : Refusal) → number_of e ≡ pick q accepted recording_form → LineLaid C N j s o (number_of e) o
    unfolding signal_form worded
    line_other e h = let d = denied q e recording_form h in rw d.1 (malformed_line (pick_false _ _ _ (opened ∙ d.0)))

    module _ (y : accepted ≡ pick q accepted recording_form) where
      form_is : signal_form C N j s ≡ signal N f
      unfolding signal_form worded
      form_is = let p = split_yes tab s w f parts in pick_true _ _ _ (opened ∙ granted q recording_form (λ n. omega arith) y) ∙ ap (signal N) (sym p.back)

      -- `lay_line`, another number of digits: `signal_form` is malformed
      pub line_long : (e : Refusal) → number_of e ≡ pick (eqb (length f) N) accepted recording_form → LineLaid C N j s o (number_of e) o
      unfolding signal
      line_long e h = let d = denied (eqb (length f) N) e recording_form h in rw d.1 (malformed_line (form_is ∙ pick_false _ _ _ d.0))

      module _ (z : accepted ≡ pick (eqb (length f) N) accepted recording_form) (p : ℕ) (ps : p ≡ place_of C j) (r : LineRoom C N j o) where
        l : length f ≡ N
        l = eqb-true (length f) N (granted (eqb (length f) N) recording_form (λ n. omega arith) z)

        weighs : 1 * 2 ^ p % 2 ^ 64 ≡ weight C j
        weighs = weight_of C j r.turn p ps

        pub line_room : Room f (1 * 2 ^ p % 2 ^ 64) o
        line_room = record { enough = omega (arith, r.enough, l); fits = λ k b. rw weighs (r.fits k (omega (arith, l))) }

        form_signal : signal_form C N j s ≡ signal_on f
        unfolding signal
        form_signal = form_is ∙ pick_true _ _ _ (eq-eqb (length f) N l)

        one_laid : (o' : List ℕ) → o' ≡ laid_on (weight C j) o f → is_signal f ≡ true → OneLaid C N j s o o'
        one_laid o' e t =
            let v = some_signal f t in
            let g = signal_laid f v.value v.read in
            let c : length (take N o) ≡ length f = length-take-le N o r.enough ∙ sym l in
            let x : take N o' ≡ laid_on (weight C j) (take N o) f = rw (e, ← l) (laid_front (weight C j) f o) in
            record { value = v.value; read = form_signal ∙ v.read; holds = x ∙ g.holds (weight C j) (take N o) c }

        -- `lay_line`, the field's bytes decide: `signal_form` is their signal, or malformed
        pub line_laid : (n : ℕ) (o' : List ℕ) → Laid f (1 * 2 ^ p % 2 ^ 64) o n o' → LineLaid C N j s o n o'
        unfolding pick
        line_laid n o' a =
            let e : o' ≡ laid_on (weight C j) o f = a.holds ∙ ap (λ (w : ℕ). laid_on w o f) weighs in
            record {
              bound = λ k. rw e (laid_bound (weight C j) f o k);
              laid = λ t. one_laid o' e (granted (is_signal f) recording_form (λ q. omega arith) (sym t ∙ a.answers));
              refused = λ t. by_test (is_signal f) (λ y. absurd (t (a.answers ∙ rw y))) (λ y. (a.answers ∙ rw y, form_signal ∙ no_signal f y));
            }

pub line_turn : (C N j : ℕ) (o : List ℕ) → LineRoom C N j o → InSignals C j
line_turn C N j o r = r.turn

pub line_shift : (C N j : ℕ) (o : List ℕ) → LineRoom C N j o → (p : ℕ) → p ≡ place_of C j → p < 64
line_shift C N j o r p e = place_shift C j r.turn p e

pub ruleset line_laws = (rules, line_none, line_other, line_long, line_turn, line_shift, line_room, line_laid)

-- ---- `lay_next`
module _ (C N j len : ℕ) (t o : List ℕ) (room : NextRoom C N j len t o) where
  pub next_within : len ≤ length t
  next_within = line_within_of t len room.ends
    where
      line_within_of : (u : List ℕ) (n : ℕ) → n ≡ line_length u → n ≤ length u
      line_within_of u n e = search line_part_laws

  pub next_counts : len ≡ length (take len t)
  next_counts = sym (length-take-le len t next_within)

  pub next_line_room : LineRoom C N j o
  next_line_room = room.line

  -- `lay_next`, no line, or one that is not closed: `next_signal` has that refusal
  pub signal_unread : (e : Refusal) → number_of e ≡ end_refusal recording_lines recording_form t → NextLaid C N j t o (number_of e) o
  signal_unread e is = record {
    bound = λ k. omega arith;
    laid = λ q. absurd (number_some e q);
    denied = λ q. next_unread recording_lines recording_form t (signal_form C N j) (λ l. accepted) e is;
  }

  -- `lay_next`, the line is there: `next_signal` is what the line is
  pub signal_lined : accepted ≡ end_refusal recording_lines recording_form t → (n : ℕ) (o' : List ℕ) → LineLaid C N j (take len t) o n o' → NextLaid C N j t o n o'
  signal_lined z n o' a =
      let closed : is_closed t ≡ true = end_fine recording_lines recording_form t (omega arith) (omega arith) z in
      record {
        bound = a.bound;
        laid = λ q.
            let u = a.laid q in
            record {
              value = u.value;
              is = next_read recording_lines recording_form (signal_form C N j) (λ l. accepted) t closed u.value (rw (line_part t len room.ends) at u.read) refl;
              holds = u.holds;
            };
        denied = λ q.
            let d = a.refused q in
            rw d.0 (next_malformed recording_lines recording_form (signal_form C N j) (λ l. accepted) t closed (rw (line_part t len room.ends) at d.1));
      }

pub next_length : (C N j len : ℕ) (t o : List ℕ) → NextRoom C N j len t o → len ≡ line_length t
next_length C N j len t o r = r.ends

pub ruleset next_laws = (rules, next_within, next_counts, next_line_room, next_length, signal_unread, signal_lined)

-- ---- `scan_signals`: what is left to read and to lay
pub record SignalsLeft (C N start : ℕ) (text o o' : List ℕ) (at j : ℕ) : Type 0 where
  pub passed : j ≤ C + atom_count
  pub inside : at ≤ length text
  pub kept : length o' ≡ length o
  pub small : (k : ℕ) → k < N → get_or o' k 0 ≤ j * 2 ^ 42
  pub number : (scan_signals C N (C + atom_count) 0 (drop start text)).number ≡ (scan_signals C N ((C + atom_count) - j) j (drop at text)).number
  pub rest : (scan_signals C N (C + atom_count) 0 (drop start text)).rest ≡ (scan_signals C N ((C + atom_count) - j) j (drop at text)).rest
  pub lays : lay_on C 0 (take N o) (scan_signals C N (C + atom_count) 0 (drop start text)).signals
      ≡ lay_on C j (take N o') (scan_signals C N ((C + atom_count) - j) j (drop at text)).signals

-- `scan_signals`, before the first turn: all of `scan_signals` is left
pub signals_start : (C N start : ℕ) (text o : List ℕ) → ScanRoom C N start text o → SignalsLeft C N start text o o start 0
signals_start C N start text o r =
    let z : (C + atom_count) - 0 ≡ C + atom_count = omega arith in
    record {
      passed = omega arith;
      inside = r.inside;
      kept = refl;
      small = λ k h. omega (arith, r.zeros k h);
      number = rw z;
      rest = rw z;
      lays = rw z;
    }

first_zeros : (N : ℕ) (o : List ℕ) → N ≤ length o → ((k : ℕ) → k < N → get_or o k 0 ≡ 0) → take N o ≡ replicate N 0
first_zeros N o h z =
    let l = length-take-le N o h in
    ext_get_or 0 (take N o) (replicate N 0) (l ∙ sym (length-replicate {A = ℕ} N 0))
    (λ k b. let c : k < N = omega arith in get_or-take N o k 0 c ∙ (z k c ∙ sym (get_or-replicate {A = ℕ} N k 0 0 c)))

-- accepted, the signals laid over zeros are their states
laid_states : (C N start : ℕ) (text o : List ℕ) → ScanRoom C N start text o → (scan_signals C N (C + atom_count) 0 (drop start text)).number ≡ 0
    → lay_on C 0 (take N o) (scan_signals C N (C + atom_count) 0 (drop start text)).signals ≡ states_of_signals C N (scan_signals C N (C + atom_count) 0 (drop start text)).signals
laid_states C N start text o room z =
    let b = signals_back C N (C + atom_count) 0 (drop start text) z in
    rw (first_zeros N o room.enough room.zeros) (filled C N _ b.count b.even)

module _ (C N start : ℕ) (text o o' : List ℕ) (at j : ℕ) (inv : SignalsLeft C N start text o o' at j) (room : ScanRoom C N start text o) where
  -- the reading ends here
  ends_here : (r : Result ℕ Stop) → at ≡ stopped_at r → scan_signals C N ((C + atom_count) - j) j (drop at text) ≡ signal_stop (stopped_number r) (drop at text) → (o'' : List ℕ)
      → (stopped_number r ≡ 0 → o'' ≡ o') → SignalsScanned C N start text r o''
  unfolding lay_on
  ends_here r p e o'' kept =
      let k : (scan_signals C N (C + atom_count) 0 (drop start text)).number ≡ stopped_number r = inv.number ∙ ap (λ (s : SignalScan). s.number) e in
      record {
        number = sym k;
        inside = rw (← p) inv.inside;
        rest = rw (← p) (sym (inv.rest ∙ ap (λ (s : SignalScan). s.rest) e));
        states = λ z. rw (kept z) (sym (inv.lays ∙ ap (λ (s : SignalScan). lay_on C j (take N o') s.signals) e) ∙ laid_states C N start text o room (k ∙ z));
      }

  last : C + atom_count ≤ j → (n : ℕ) → n ≡ pick (is_empty (drop at text)) accepted recording_lines → scan_signals C N ((C + atom_count) - j) j (drop at text) ≡ signal_stop n (drop at text)
  unfolding scan_signals
  last h n e = let z : (C + atom_count) - j ≡ 0 = omega arith in rw (z, e)

  -- `scan_signals`, all signals are read and nothing is left: `scan_signals` is accepted
  pub signals_done : C + atom_count ≤ j → length text ≤ at → SignalsScanned C N start text (Ok at) o'
  signals_done h l =
      let e = pick_true (is_empty (drop at text)) accepted recording_lines (empty_yes (drop at text) (omega (arith, length-drop at text))) in
      ends_here (Ok at) refl (last h accepted (sym e)) o' (λ q. refl)

  -- `scan_signals`, all signals are read and bytes are left: `scan_signals` is refused
  pub signals_more : C + atom_count ≤ j → at < length text → SignalsScanned C N start text (Err (record { refusal = RecordingLines; at = at })) o'
  signals_more h l =
      let e = pick_false (is_empty (drop at text)) accepted recording_lines (empty_no (drop at text) (λ q. omega (arith, length-drop at text))) in
      ends_here (Err (record { refusal = RecordingLines; at = at })) refl (last h recording_lines (sym e)) o' (λ q. refl)

  module _ (h : j < C + atom_count) (l : Line) (is : FirstLine (take (length text - at) (drop at text)) l) where
    one_less_lem : (C + atom_count) - j ≡ suc ((C + atom_count) - (j + 1))
    one_less_lem = omega arith

    line_ends : FirstLine (drop at text) l
    line_ends = rw (part_to_end text at) at is

    turn : InSignals C j
    turn = record { few = room.few; inside = h }

    pub signals_room : NextRoom C N j l.len (take (length text - at) (drop at text)) o'
    signals_room = record {
      ends = is.length_is;
      line = record {
        turn = turn;
        enough = omega (arith, room.enough, inv.kept);
        fits = λ k b. omega (arith, weight_small C j turn, inv.small k b, room.few);
      };
    }

    -- `scan_signals`, a refused line: `scan_signals` stops at that line with its refusal
    pub signals_refused : (e : Refusal) (o'' : List ℕ) → NextLaid C N j (take (length text - at) (drop at text)) o' (number_of e) o''
        → SignalsScanned C N start text (Err (record { refusal = e; at = at })) o''
    signals_refused e o'' a =
        let d = rw (part_to_end text at) at (a.denied (number_some e)) in
        ends_here (Err (record { refusal = e; at = at })) refl (rw one_less_lem (signals_stop C N ((C + atom_count) - (j + 1)) j (drop at text) (number_of e) d)) o'' (λ q. absurd (number_some e q))

    module _ (o'' : List ℕ) (a : NextLaid C N j (take (length text - at) (drop at text)) o' 0 o'') where
      signals_inside : at + l.next ≤ length text
      signals_inside = line_inside text at l line_ends inv.inside

      pub signals_next_fits : length text < 2 ^ 64 → Fits w64 (at + l.next)
      signals_next_fits q = record { fits = omega (arith, signals_inside) }

      -- `scan_signals`, a turn: `scan_signals` has one signal more, and it is laid
      pub signals_next : length o'' ≡ length o' → SignalsLeft C N start text o o'' (at + l.next) (j + 1)
      unfolding lay_on
      signals_next keep =
          let u = a.laid refl in
          let m = rw (part_to_end text at) at u.is in
          let p : scan_signals C N ((C + atom_count) - j) j (drop at text) ≡ more_signals u.value (scan_signals C N ((C + atom_count) - (j + 1)) (j + 1) (drop (at + l.next) text))
          = rw (one_less_lem, ← after_line text at l line_ends) (signals_step C N ((C + atom_count) - (j + 1)) j (drop at text) u.value (rest_of (drop at text)) m) in
          let w = weight_small C j turn in
          record {
            passed = omega arith;
            inside = signals_inside;
            kept = keep ∙ inv.kept;
            small = λ k q. omega (arith, w, a.bound k, inv.small k q);
            number = inv.number ∙ ap (λ (s : SignalScan). s.number) p;
            rest = inv.rest ∙ ap (λ (s : SignalScan). s.rest) p;
            lays = inv.lays ∙ (ap (λ (s : SignalScan). lay_on C j (take N o') s.signals) p ∙ rw u.holds);
          }

pub signals_few : (C N start : ℕ) (text o : List ℕ) → ScanRoom C N start text o → Fits w64 (C + 32)
signals_few C N start text o r = record { fits = omega (arith, r.few) }

pub ruleset scan_laws = (rules, signals_few, signals_start, signals_done, signals_more, signals_room, signals_refused, signals_next_fits, signals_next)
