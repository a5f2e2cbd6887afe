-- Laws of the signals that are written from the states.
use mathlib.Core.Path.{◌≡◌, refl, ap, sym, ◌∙◌}
use Prim.Native.Nat.{ℕ, zero, suc, ◌+◌, ◌-◌, ◌*◌, ◌/◌, ◌%◌, ◌^◌, ◌<◌, ◌≤◌}
use native.Mathlib.Nat.{div-div-eq-div-mul, pow-succ', mul_assoc, add-mul-div_right}
use lib.Pow.{pow-add, pow_pos}
use native.Mathlib.Omega.{arith}
use native.Mathlib.Numerals.{add-one}
use mathlib.Core.Bool.{Bool}
use mathlib.Core.List.{List, [], ◌∷◌, ◌++◌, map, append_assoc}
use lib.ListN.{length, take, get_or, set, length-set, length-append}
use lib.Seq.{take-suc, take_all, length-take-le}
use lib.Dec.{eqb, ltb}
use mir.Syntax.{w64}
use mir.Val.{Fits}
use borrow.Author.Rules.{rules}
use borrow.Author.Tests.{eqb-true, eqb-false, lt-ltb, le-ltb, ltb-true, ltb-false}
use Rattle.definitions.specs.Limits.{atom_count}
use Rattle.definitions.specs.Bounded.{bit, bit_of}
use Rattle.definitions.specs.Lines.{tab, newline}
use Rattle.definitions.specs.Recordings.{atoms_of, marked}
use Rattle.definitions.specs.Archive.{runs_word, bits_word, signal_word, signal_text, signal_line, signals_text, signals_of}
use Rattle.theorems.proofs.Choice.{by_test, pick_true, pick_false}
use Rattle.theorems.proofs.SignalLaws.{signals_count}
use Rattle.theorems.proofs.SignalLines.{runs_line, bits_line}
use Rattle.printing.specs.Printing.{laid_at, Printed, lines_text}
use Rattle.printing.proofs.PrintLaws.{laid_none, laid_snoc, printed_seq}
use Rattle.printing.proofs.LinedLaws.{Lined, lined_none, lined_done, lined_room, lined_end, lined_next}
use Rattle.signals.specs.Places.{InSignals, place_of}
use Rattle.signals.specs.Writing.{digit_of, digits_of, Writable, line_text, LineWritable, LinesWritable}
use Rattle.signals.proofs.FilledLaws.{place_run, place_bit}
use Rattle.signals.proofs.ScanningLaws.{place_low}

-- ---- `digit`
-- `digit`: the shifted state's last bit is `digit_of`
pub digit_returns : (s place : ℕ) → 48 + s / 2 ^ place % 2 ≡ digit_of place s
unfolding digit_of
digit_returns s place = refl

pub ruleset digit_laws = (rules, digit_returns)

-- ---- `put_signal`
digits_length : (place : ℕ) (ss : List ℕ) → length (digits_of place ss) ≡ length ss
unfolding digits_of
digits_length place [] = refl
digits_length place (s ∷ ss) = ap suc (digits_length place ss)

digits_last : (place : ℕ) (ss : List ℕ) (s : ℕ) → digits_of place (ss ++ (s ∷ [])) ≡ digits_of place ss ++ (digit_of place s ∷ [])
unfolding digits_of
digits_last place [] s = refl
digits_last place (x ∷ ss) s = rw (digits_last place ss s)

no_digits : (place : ℕ) → digits_of place [] ≡ []
unfolding digits_of
no_digits place = refl

-- the digits of the first k states are written
pub record Writing (states : List ℕ) (place at : ℕ) (o o' : List ℕ) (k : ℕ) : Type 0 where
  pub passed : k ≤ length states
  pub kept : length o' ≡ length o
  pub lies : o' ≡ laid_at at (digits_of place (take k states)) o

-- `put_signal`, before the first turn: no digit is written
pub writing_none : (states : List ℕ) (place at : ℕ) (o : List ℕ) → Writing states place at o o 0
writing_none states place at o = record { passed = omega arith; kept = refl; lies = sym (rw (no_digits place) (laid_none at o)) }

module _ (states : List ℕ) (place at : ℕ) (o o' : List ℕ) (k : ℕ) (inv : Writing states place at o o' k) (w : Writable states place at o) where
  pub writing_room : k < length states → at + k < length o'
  writing_room h = omega (arith, w.room, inv.kept)

  pub writing_fits : k < length states → length o < 2 ^ 64 → Fits w64 (at + k)
  writing_fits h b = record { fits = omega (arith, w.room) }

  -- `put_signal`, a turn: `digits_of` has one state more
  pub writing_next : (d : ℕ) → k < length states → d ≡ digit_of place (get_or states k 0) → Writing states place at o (set o' (at + k) d) (k + 1)
  writing_next d h e =
      let l = length-take-le k states (omega arith) in
      let m : length (digits_of place (take k states)) ≡ k = digits_length place (take k states) ∙ l in
      let sn = laid_snoc at d (digits_of place (take k states)) o (omega (arith, m, w.room)) in
      let t : digits_of place (take (suc k) states) ≡ digits_of place (take k states) ++ (d ∷ [])
      = ap (digits_of place) (take-suc states k 0 h) ∙ (digits_last place (take k states) (get_or states k 0) ∙ rw (← e)) in
      record {
        passed = omega arith;
        kept = length-set o' (at + k) d ∙ inv.kept;
        lies = rw (inv.lies, add-one, t) (rw m at sn);
      }

  -- `put_signal`, all states are passed: the digits are `digits_of`
  pub writing_done : length states ≤ k → Printed (digits_of place states) o at (at + length states) o'
  writing_done h = record { next = ap (λ (n : ℕ). at + n) (sym (digits_length place states)); lies = inv.lies ∙ rw (take_all k states h) }

  pub writing_end : length o < 2 ^ 64 → Fits w64 (at + k)
  writing_end b = record { fits = omega (arith, w.room, inv.passed) }

pub ruleset writing_laws = (rules, writing_none, writing_room, writing_fits, writing_next, writing_done, writing_end)

-- ---- `put_line`
word_run : (C j : ℕ) → j < C → signal_word C j ≡ runs_word
unfolding signal_word
word_run C j h = pick_true (ltb j C) runs_word bits_word (lt-ltb j C h)

word_bit : (C j : ℕ) → C ≤ j → signal_word C j ≡ bits_word
unfolding signal_word
word_bit C j h = pick_false (ltb j C) runs_word bits_word (le-ltb j C h)

-- a word of four letters and its tab, and then the digits
line_from : (C j : ℕ) (states word : List ℕ) → signal_word C j ≡ word → line_text C j states ≡ (word ++ (tab ∷ [])) ++ digits_of (place_of C j) states
unfolding line_text
line_from C j states word e = rw e (sym (append_assoc word (tab ∷ []) (digits_of (place_of C j) states)))

module _ (C j : ℕ) (states : List ℕ) (at : ℕ) (o : List ℕ) (w : LineWritable C j states at o) where
  pub line_turn : InSignals C j
  line_turn = w.turn

  module _ (word : List ℕ) (e : signal_word C j ≡ word) (l : length word ≡ 4) where
    sizes : length (line_text C j states) ≡ 5 + length states
    sizes =
        ap length (line_from C j states word e)
        ∙ omega (arith, length-append (word ++ (tab ∷ [])) (digits_of (place_of C j) states), length-append word (tab ∷ []), digits_length (place_of C j) states)

    room : at + 5 ≤ length o
    room = omega (arith, sizes, w.room)

    writable : (q : ℕ) (o' : List ℕ) → Printed (word ++ (tab ∷ [])) o at q o' → length o' ≡ length o → (p : ℕ) → p ≡ place_of C j → Writable states p q o'
    writable q o' a k p d =
        record { inside = omega (arith, place_low C j w.turn); room = omega (arith, sizes, w.room, a.next, length-append word (tab ∷ [])) }

    whole : (q : ℕ) (o' : List ℕ) → Printed (word ++ (tab ∷ [])) o at q o' → (p : ℕ) → p ≡ place_of C j → (r : ℕ) (o'' : List ℕ) → Printed (digits_of p states) o' q r o''
        → Printed (line_text C j states) o at r o''
    whole q o' a p d r o'' b =
        rw (line_from C j states word e, ← d) (printed_seq (word ++ (tab ∷ [])) (digits_of p states) o o' o'' at q r (omega (arith, room, length-append word (tab ∷ []))) a b)

  module _ (h : j < C) where
    pub runs_room : at + 5 ≤ length o
    runs_room = room runs_word (word_run C j h) refl

    module _ (q : ℕ) (o' : List ℕ) (a : Printed (runs_word ++ (tab ∷ [])) o at q o') (p : ℕ) (d : p ≡ place_of C j) where
      pub runs_writable : length o' ≡ length o → Writable states p q o'
      runs_writable k = writable runs_word (word_run C j h) refl q o' a k p d

      -- `put_line`, a controller's signal: `line_text` is `runs` and its digits
      pub runs_written : (r : ℕ) (o'' : List ℕ) → Printed (digits_of p states) o' q r o'' → Printed (line_text C j states) o at r o''
      runs_written r o'' b = whole runs_word (word_run C j h) refl q o' a p d r o'' b

  module _ (h : C ≤ j) where
    pub bits_room : at + 5 ≤ length o
    bits_room = room bits_word (word_bit C j h) refl

    module _ (q : ℕ) (o' : List ℕ) (a : Printed (bits_word ++ (tab ∷ [])) o at q o') (p : ℕ) (d : p ≡ place_of C j) where
      pub bits_writable : length o' ≡ length o → Writable states p q o'
      bits_writable k = writable bits_word (word_bit C j h) refl q o' a k p d

      -- `put_line`, an atom's signal: `line_text` is `bits` and its digits
      pub bits_written : (r : ℕ) (o'' : List ℕ) → Printed (digits_of p states) o' q r o'' → Printed (line_text C j states) o at r o''
      bits_written r o'' b = whole bits_word (word_bit C j h) refl q o' a p d r o'' b

pub ruleset put_line_laws = (rules, line_turn, runs_room, runs_writable, runs_written, bits_room, bits_writable, bits_written)

-- ---- what is written is the signal
half_bit : (x : ℕ) → x % 2 ≡ bit (eqb (x % 2) 1)
half_bit x = by_test (eqb (x % 2) 1) (λ e. rw e (omega (arith, eqb-true (x % 2) 1 e))) (λ e. let n = eqb-false (x % 2) 1 e in rw e (omega arith))

digits_signal : (place : ℕ) (ss : List ℕ) → digits_of place ss ≡ signal_text (map (λ s. bit_of s place) ss)
unfolding digits_of digit_of signal_text bit_of
digits_signal place [] = refl
digits_signal place (s ∷ ss) = rw (← half_bit (s / 2 ^ place), digits_signal place ss)

-- the run mark of c is bit 32 + c of the state
mark_place : (c s : ℕ) → marked c s ≡ bit_of s (32 + c)
unfolding bit_of
mark_place c s = rw (pow-add 2 32 c, ← div-div-eq-div-mul s 4294967296 (2 ^ c))

above : (hi p a : ℕ) → hi * (p * 2 ^ suc a) ≡ (hi * p * 2) * 2 ^ a
above hi p a = rw (pow-succ' 2 a, mul_assoc (hi * p) 2 (2 ^ a), mul_assoc hi p (2 * 2 ^ a))

low_bit : (a b hi lo : ℕ) → bit_of (lo + hi * 2 ^ (b + suc a)) a ≡ bit_of lo a
unfolding bit_of
low_bit a b hi lo =
    let e : (lo / 2 ^ a + hi * 2 ^ b * 2) % 2 ≡ lo / 2 ^ a % 2 = omega arith in
    rw (pow-add 2 b (suc a), above hi (2 ^ b) a, add-mul-div_right lo (hi * 2 ^ b * 2) (pow_pos a), e)

-- atom a is bit a of the state
atom_place : (a s : ℕ) → a < 32 → bit_of (atoms_of s) a ≡ bit_of s a
atom_place a s h =
    let n : (31 - a) + suc a ≡ 32 = omega arith in
    let e : s % 4294967296 + s / 4294967296 * 4294967296 ≡ s = omega arith in
    sym (ap (λ (x : ℕ). bit_of x a) (sym e) ∙ (rw n at (low_bit a (31 - a) (s / 4294967296) (s % 4294967296))))

each : (f g : ℕ → Bool) → ((s : ℕ) → f s ≡ g s) → (ss : List ℕ) → map f ss ≡ map g ss
each f g h [] = refl
each f g h (s ∷ ss) = rw (h s, each f g h ss)

-- signal j is bit `place_of` of the states
signal_at : (C j : ℕ) (ss : List ℕ) → j < C + atom_count → get_or (signals_of C ss) j [] ≡ map (λ s. bit_of s (place_of C j)) ss
signal_at C j ss h =
    by_test (ltb j C)
    (λ e. let l = ltb-true j C e in
    runs_line C j ss l ∙ rw (place_run C j l) (each (marked j) (λ s. bit_of s (32 + j)) (mark_place j) ss))
    (λ e. let l = ltb-false j C e in
    let n : C + (j - C) ≡ j = omega arith in
    let b : j - C < atom_count = omega arith in
    (rw n at (bits_line C (j - C) ss b)) ∙ rw (place_bit C j l) (each (λ s. bit_of (atoms_of s) (j - C)) (λ s. bit_of s (j - C)) (λ s. atom_place (j - C) s b) ss))

-- ---- `put_signals`
-- the lines of signals from signal j on
unfoldable pub lines_from : (C j : ℕ) (signals : List (List Bool)) → List (List ℕ)
lines_from C j [] = []
lines_from C j (l ∷ ls) = signal_line C j l ∷ lines_from C (j + 1) ls

lines_of : (C j : ℕ) (ls : List (List Bool)) → signals_text C j ls ≡ lines_text (lines_from C j ls)
unfolding lines_from signals_text lines_text
lines_of C j [] = refl
lines_of C j (l ∷ ls) = rw (lines_of C (j + 1) ls)

lines_count : (C j : ℕ) (ls : List (List Bool)) → length (lines_from C j ls) ≡ length ls
unfolding lines_from
lines_count C j [] = refl
lines_count C j (l ∷ ls) = ap suc (lines_count C (j + 1) ls)

line_at : (C j i : ℕ) (ls : List (List Bool)) → i < length ls → get_or (lines_from C j ls) i [] ≡ signal_line C (j + i) (get_or ls i [])
unfolding lines_from
line_at C j i [] h = absurd (omega arith)
line_at C j zero (l ∷ ls) h = let e : j + 0 ≡ j = omega arith in rw e
line_at C j (suc i) (l ∷ ls) h = let e : (j + 1) + i ≡ j + suc i = omega arith in rw (← e) (line_at C (j + 1) i ls (omega arith))

-- the first j signals are written
pub record SignalsLined (C : ℕ) (states o : List ℕ) (start : ℕ) (o' : List ℕ) (at j : ℕ) : Type 0 where
  pub lined : Lined (lines_from C 0 (signals_of C states)) o start o' at j

-- `put_signals`, before the first turn: no line of `signals_text` is written
pub signals_none : (C : ℕ) (states o : List ℕ) (start : ℕ) → SignalsLined C states o start o start 0
signals_none C states o start = record { lined = lined_none (lines_from C 0 (signals_of C states)) o start }

module _ (C : ℕ) (states o : List ℕ) (start : ℕ) (o' : List ℕ) (at j : ℕ) (inv : SignalsLined C states o start o' at j) (w : LinesWritable C states start o) where
  all : List (List ℕ)
  all = lines_from C 0 (signals_of C states)

  all_text : signals_text C 0 (signals_of C states) ≡ lines_text all
  unfolding all
  all_text = lines_of C 0 (signals_of C states)

  all_count : length all ≡ C + atom_count
  unfolding all
  all_count = lines_count C 0 (signals_of C states) ∙ signals_count C states

  room_for : start + length (lines_text all) ≤ length o
  room_for = rw all_text at w.room

  so_far : Lined all o start o' at j
  unfolding all
  so_far = inv.lined

  -- `put_signals`, all lines are written: they are `signals_text`
  pub signals_done : C + atom_count ≤ j → Printed (signals_text C 0 (signals_of C states)) o start at o'
  signals_done h = rw all_text (lined_done all o start o' at j so_far room_for (omega (arith, all_count)))

  module _ (h : j < C + atom_count) where
    next_line_lem : get_or all j [] ≡ line_text C j states
    unfolding all signal_line line_text
    next_line_lem =
        let z : 0 + j ≡ j = omega arith in
        line_at C 0 j (signals_of C states) (omega (arith, signals_count C states))
        ∙ rw (z, signal_at C j states h, ← digits_signal (place_of C j) states)

    turn : j < length all
    turn = omega (arith, all_count)

    pub signals_turn : LineWritable C j states at o'
    signals_turn = record { turn = record { few = w.few; inside = h }; room = lined_room all o start o' at j so_far room_for turn (line_text C j states) next_line_lem }

    module _ (q : ℕ) (o'' : List ℕ) (line : Printed (line_text C j states) o' at q o'') (kept : length o'' ≡ length o') where
      pub signals_end : q < length o''
      signals_end = lined_end all o start o' at j so_far room_for turn (line_text C j states) next_line_lem q o'' line kept

      -- `put_signals`, a turn: `signals_text` has one line more
      pub signals_more : (r : ℕ) (o''' : List ℕ) → Printed (newline ∷ []) o'' q r o''' → length o''' ≡ length o'' → SignalsLined C states o start o''' r (j + 1)
      unfolding all
      signals_more r o''' end held = record { lined = lined_next all o start o' at j so_far room_for turn (line_text C j states) next_line_lem q o'' line kept r o''' end held }

pub signals_few : (C : ℕ) (states o : List ℕ) (start : ℕ) → LinesWritable C states start o → Fits w64 (C + 32)
signals_few C states o start w = record { fits = omega (arith, w.few) }

pub ruleset put_signals_laws = (rules, signals_few, signals_none, signals_done, signals_turn, signals_end, signals_more)
