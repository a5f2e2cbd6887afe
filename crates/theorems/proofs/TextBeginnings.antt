-- "Every beginning of an accepted recording, of one state or more and with N lowered, is then accepted itself" (document 02), as a text: a first line
-- with N lowered, then the `owns` lines, the gauge lines and the first `at` lines as they stand. It reads as the beginning of what the whole text reads as.
use mathlib.Core.Path.{◌≡◌, refl, sym, ap, ◌∙◌, subst}
use Prim.Native.Nat.{ℕ, zero, suc, ◌+◌, ◌≤◌, ◌<◌}
use native.Mathlib.Omega.{arith}
use mathlib.Core.Bool.{true, ◌&&◌}
use mathlib.Core.List.{List, [], ◌∷◌, ◌++◌}
use lib.Dec.{eqb, leb}
use lib.ListN.{length, take, drop}
use lib.Seq.{take-take}
use borrow.Author.Tests.{eq-eqb, ltb-true, leb-true, le-leb}
use Rattle.definitions.specs.Limits.{max_gauges, max_controllers, max_states, recording_form, recording_lines, recording_limits}
use Rattle.definitions.specs.Bounded.{pick, within}
use Rattle.definitions.specs.Recordings.{mask_refusal, recording_heading_refusal}
use Rattle.definitions.specs.Lines.{newline, before, newline_next, is_return, line_length, line_of, is_closed, rest_of, Parsed, formed, heading, read, on_next, next_line, Scan, more}
use Rattle.definitions.specs.Gauges.{gauge_form, gauge_refusal, Gauges}
use Rattle.definitions.specs.RecordingText.{recording_heading, mask_form, at_form, finished_state, at_refusal, recording_heading_line, mask_line, gauge_line, at_line, scan_masks, GaugeScan, gauges_stop, gauges_more, is_gauge, scan_gauges, scan_states, RecordingScan, recording_stop, recording_states, gauged_after_masks, opening_masks, scan_opening, scan_recording}
use Rattle.definitions.specs.Program.{scanned}
use Rattle.theorems.proofs.Choice.{by_test, both_true, accept_yes}
use Rattle.theorems.proofs.Beginnings.{Beginning}
use Rattle.theorems.proofs.Inversions.{must_pass, passes}
use Rattle.theorems.proofs.SplitLaws.{before_here, before_later}
use Rattle.theorems.proofs.EndingLaws.{length_here, length_return, length_later, length_within}
use Rattle.theorems.proofs.NextLines.{next_read, next_back, next_some, on_next_lem}

-- ---- a closed line, whatever follows it
take_front : (n : ℕ) (u v : List ℕ) → n ≤ length u → take n (u ++ v) ≡ take n u
take_front zero u v h = refl
take_front (suc n) [] v h = absurd (omega arith)
take_front (suc n) (x ∷ u) v h = ap (λ (l : List ℕ). x ∷ l) (take_front n u v (omega arith))

drop_front : (n : ℕ) (u v : List ℕ) → n ≤ length u → drop n (u ++ v) ≡ drop n u ++ v
drop_front zero u v h = refl
drop_front (suc n) [] v h = absurd (omega arith)
drop_front (suc n) (x ∷ u) v h = drop_front n u v (omega arith)

before_front : (u v : List ℕ) → before newline u < length u → before newline (u ++ v) ≡ before newline u
before_front [] v h = absurd (omega arith)
before_front (x ∷ u) v h =
    by_test (eqb x newline)
    (λ e. before_here newline x (u ++ v) e ∙ sym (before_here newline x u e))
    (λ e. let b = before_later newline x u e in
    before_later newline x (u ++ v) e ∙ (ap suc (before_front u v (omega arith)) ∙ sym b))

return_front : (x : ℕ) (u v : List ℕ) → 0 < length u → is_return x (u ++ v) ≡ is_return x u
unfolding is_return newline_next
return_front x [] v h = absurd (omega arith)
return_front x (y ∷ u) v h = refl

length_front : (u v : List ℕ) → before newline u < length u → line_length (u ++ v) ≡ line_length u
length_front [] v h = absurd (omega arith)
length_front (x ∷ u) v h =
    by_test (eqb x newline)
    (λ e. length_here x (u ++ v) e ∙ sym (length_here x u e))
    (λ e. let b = before_later newline x u e in
    let r = return_front x u v (omega arith) in
    by_test (is_return x u)
    (λ f. length_return x (u ++ v) (r ∙ f) ∙ sym (length_return x u f))
    (λ f. length_later x (u ++ v) e (r ∙ f) ∙ (ap suc (length_front u v (omega arith)) ∙ sym (length_later x u e f))))

module _ (u v : List ℕ) (h : is_closed u ≡ true) where
  found : before newline u < length u
  found = ltb-true (before newline u) (length u) h

  line_front : line_of (u ++ v) ≡ line_of u
  line_front = rw (length_front u v found) (take_front (line_length u) u v (omega (arith, length_within u, found)))

  rest_front : rest_of (u ++ v) ≡ rest_of u ++ v
  rest_front = rw (before_front u v found) (drop_front (before newline u + 1) u v (omega (arith, found)))

-- a line that was read of the longer text is read of the shorter one
record Reads {A : Type 0} (form : List ℕ → Parsed A) (check : A → ℕ) (u v : List ℕ) (a : A) (rest : List ℕ) : Type 0 where
  is : next_line recording_lines recording_form form check u ≡ read a (rest_of u)
  left : rest ≡ rest_of u ++ v

reads_front : {A : Type 0} (form : List ℕ → Parsed A) (check : A → ℕ) (u v : List ℕ) (a : A) (rest : List ℕ) → is_closed u ≡ true →
    next_line recording_lines recording_form form check (u ++ v) ≡ read a rest → Reads form check u v a rest
reads_front form check u v a rest h e =
    let b = next_back recording_lines recording_form form check (u ++ v) a rest e in
    record {
      is = next_read recording_lines recording_form form check u h a (ap form (sym (line_front u v h)) ∙ b.is) b.fine;
      left = b.left ∙ rest_front u v h;
    }

-- ---- so many closed lines, and nothing after them
abbrev pub WholeLines : (n : ℕ) (u : List ℕ) → Type 0
WholeLines zero u = length u ≡ 0
WholeLines (suc n) u = (is_closed u ≡ true) × WholeLines n (rest_of u)

-- the `owns` lines are read alike, and K lines are left of the shorter text
record Alike (a s : Scan) (v : List ℕ) (K : ℕ) : Type 0 where
  number : a.number ≡ 0
  words : a.words ≡ s.words
  rest : s.rest ≡ a.rest ++ v
  lines : WholeLines K a.rest

masks_alike : (C : ℕ) (earlier u v : List ℕ) (n K : ℕ) → n ≡ C + K → WholeLines n u → (scan_masks C earlier (u ++ v)).number ≡ 0
    → Alike (scan_masks C earlier u) (scan_masks C earlier (u ++ v)) v K
unfolding scan_masks on_next
masks_alike zero earlier u v n K e w z =
    let q : n ≡ K = omega arith in
    record { number = refl; words = refl; rest = refl; lines = subst (λ (k : ℕ). WholeLines k u) q w }
masks_alike (suc C) earlier u v zero K e w z = absurd (omega arith)
masks_alike (suc C) earlier u v (suc n) K e w z =
    on_next_lem (λ (s : Scan). s.number ≡ 0 → Alike (scan_masks (suc C) earlier u) s v K) (mask_line earlier (u ++ v)) _ _
    (λ k r y. absurd (next_some recording_lines recording_form mask_form (mask_refusal earlier) (u ++ v) (omega arith) (omega arith) k r y))
    (λ m rest r y.
    let f = reads_front mask_form (mask_refusal earlier) u v m rest w.0 r in
    let same : scan_masks C (m ∷ earlier) rest ≡ scan_masks C (m ∷ earlier) (rest_of u ++ v) = ap (scan_masks C (m ∷ earlier)) f.left in
    let a = masks_alike C (m ∷ earlier) (rest_of u) v n K (omega arith) w.1 (sym (ap (λ (s : Scan). s.number) same) ∙ y) in
    let step : scan_masks (suc C) earlier u ≡ more m (scan_masks C (m ∷ earlier) (rest_of u)) = rw f.is in
    rw (step, same) (record { number = a.number; words = ap (λ (l : List ℕ). m ∷ l) a.words; rest = a.rest; lines = a.lines })) z

-- the gauge lines are read alike, and K lines are left of the shorter text
record GaugesAlike (a s : GaugeScan) (v : List ℕ) (K : ℕ) : Type 0 where
  number : a.number ≡ 0
  gauges : a.gauges ≡ s.gauges
  rest : s.rest ≡ a.rest ++ v
  lines : WholeLines K a.rest

gauge_front : (u v : List ℕ) → is_closed u ≡ true → is_gauge (u ++ v) ≡ is_gauge u
unfolding is_gauge
gauge_front u v h = rw (line_front u v h)

gauges_none : (u v : List ℕ) (n K : ℕ) → n ≡ K → WholeLines n u → GaugesAlike (gauges_stop 0 u) (gauges_stop 0 (u ++ v)) v K
gauges_none u v n K e w = record { number = refl; gauges = refl; rest = refl; lines = subst (λ (k : ℕ). WholeLines k u) e w }

gauges_alike : (lines : ℕ) (earlier u v : List ℕ) (n K : ℕ) → 0 < K → n ≡ length (scan_gauges lines earlier (u ++ v)).gauges.atoms + K → WholeLines n u
    → (scan_gauges lines earlier (u ++ v)).number ≡ 0 → GaugesAlike (scan_gauges lines earlier u) (scan_gauges lines earlier (u ++ v)) v K
unfolding scan_gauges on_next pick
gauges_alike zero earlier u v n K some e w z = gauges_none u v n K (omega arith) w
gauges_alike (suc lines) earlier u v zero K some e w z = absurd (omega arith)
gauges_alike (suc lines) earlier u v (suc n) K some e w z =
    by_test (is_gauge u)
    (λ y. let f = gauge_front u v w.0 ∙ y in
    rw (f, y) (on_next_lem (λ (s : GaugeScan). suc n ≡ length s.gauges.atoms + K → s.number ≡ 0
    → GaugesAlike (on_next (gauge_line earlier u) (λ number. gauges_stop number u) (λ g rest. gauges_more g (scan_gauges lines (g.atom ∷ earlier) rest))) s v K)
    (gauge_line earlier (u ++ v)) _ _
    (λ k r i q. absurd (next_some recording_lines recording_form gauge_form (gauge_refusal earlier) (u ++ v) (omega arith) (omega arith) k r q))
    (λ g rest r i q.
    let h = reads_front gauge_form (gauge_refusal earlier) u v g rest w.0 r in
    let same : scan_gauges lines (g.atom ∷ earlier) rest ≡ scan_gauges lines (g.atom ∷ earlier) (rest_of u ++ v) = ap (scan_gauges lines (g.atom ∷ earlier)) h.left in
    let o : suc n ≡ suc (length (scan_gauges lines (g.atom ∷ earlier) rest).gauges.atoms) + K = i in
    let c : n ≡ length (scan_gauges lines (g.atom ∷ earlier) (rest_of u ++ v)).gauges.atoms + K = rw (← same) (omega arith) in
    let a = gauges_alike lines (g.atom ∷ earlier) (rest_of u) v n K some c w.1 (sym (ap (λ (s : GaugeScan). s.number) same) ∙ q) in
    rw (h.is, same) (record { number = a.number; gauges = ap (λ (o : Gauges). record { atoms = g.atom ∷ o.atoms; thresholds = g.threshold ∷ o.thresholds }) a.gauges; rest = a.rest; lines = a.lines }))
    (rw f at e) (rw f at z)))
    (λ y. let f = gauge_front u v w.0 ∙ y in
    let o : suc n ≡ 0 + K = rw f at e in
    rw (f, y) (gauges_none u v (suc n) K (omega arith) w))

-- the first `at` lines of those that are accepted are accepted, and read as the first states
record Front (a s : Scan) (m : ℕ) : Type 0 where
  number : a.number ≡ 0
  words : a.words ≡ take m s.words

states_front : (C : ℕ) (masks : List ℕ) (g : Gauges) (m n k prior : ℕ) (u v : List ℕ) → m ≤ n → WholeLines m u → (scan_states C masks g n k prior (u ++ v)).number ≡ 0
    → Front (scan_states C masks g m k prior u) (scan_states C masks g n k prior (u ++ v)) m
unfolding scan_states on_next pick
states_front C masks g zero n k prior u v h w z = record { number = rw (eq-eqb (length u) 0 w); words = refl }
states_front C masks g (suc m) zero k prior u v h w z = absurd (omega arith)
states_front C masks g (suc m) (suc n) k prior u v h w z =
    on_next_lem (λ (s : Scan). s.number ≡ 0 → Front (scan_states C masks g (suc m) k prior u) s (suc m)) (at_line C masks g k prior (u ++ v)) _ _
    (λ j r y. absurd (next_some recording_lines recording_form (at_form C (length g.atoms)) (at_refusal C masks g k prior) (u ++ v) (omega arith) (omega arith) j r y))
    (λ p rest r y.
    let f = reads_front (at_form C (length g.atoms)) (at_refusal C masks g k prior) u v p rest w.0 r in
    let s = finished_state g p in
    let same : scan_states C masks g n (k + 1) s rest ≡ scan_states C masks g n (k + 1) s (rest_of u ++ v) = ap (scan_states C masks g n (k + 1) s) f.left in
    let a = states_front C masks g m n (k + 1) s (rest_of u) v (omega arith) w.1 (sym (ap (λ (q : Scan). q.number) same) ∙ y) in
    let step : scan_states C masks g (suc m) k prior u ≡ more s (scan_states C masks g m (k + 1) s (rest_of u)) = rw f.is in
    rw (step, same) (record { number = a.number; words = ap (λ (l : List ℕ). s ∷ l) a.words })) z

-- ---- what an accepted text was read as, by its parts
-- what the `owns` lines gave, and the gauge lines after them
abbrev owned_of : (C : ℕ) (t : List ℕ) → Scan
owned_of C t = scan_masks C [] (rest_of t)

abbrev gauges_after : (C : ℕ) (t : List ℕ) → GaugeScan
gauges_after C t = scan_gauges max_gauges [] (owned_of C t).rest

-- how many gauge lines a recording text has
abbrev pub gauge_count : List ℕ → ℕ
gauge_count t = length (gauges_after (scan_recording t).controllers t).gauges.atoms

-- what the `at` lines gave
abbrev states_after : (C N : ℕ) (t : List ℕ) → Scan
states_after C N t = scan_states C (owned_of C t).words (gauges_after C t).gauges N 0 0 (gauges_after C t).rest

record Parts (t : List ℕ) (s : RecordingScan) : Type 0 where
  masked : s.masks ≡ (owned_of s.controllers t).words
  stated : s.states ≡ (states_after s.controllers s.count t).words
  first : recording_heading_refusal s.controllers s.count ≡ 0
  masks : (owned_of s.controllers t).number ≡ 0
  gauges : (gauges_after s.controllers t).number ≡ 0
  states : (states_after s.controllers s.count t).number ≡ 0

masked_parts : (C N : ℕ) (t rest : List ℕ) → recording_heading_refusal C N ≡ 0 → rest ≡ rest_of t → (opening_masks gauged_after_masks C N (scan_masks C [] rest)).number ≡ 0
    → Parts t (opening_masks gauged_after_masks C N (scan_masks C [] rest))
unfolding gauged_after_masks
masked_parts C N t rest h l e =
    let m = scan_masks C [] rest in
    let g = scan_gauges max_gauges [] m.rest in
    let all : RecordingScan = recording_states C N m.words (scan_states C m.words g.gauges N 0 0 g.rest) in
    let after : RecordingScan = gauged_after_masks C N m.words m.rest in
    let z : m.number ≡ 0 = must_pass {A = RecordingScan} (λ s. s.number) m.number after (recording_stop m.number m.rest) refl e in
    let p : opening_masks gauged_after_masks C N m ≡ after = passes {A = RecordingScan} m.number after (recording_stop m.number m.rest) z in
    let i : after.number ≡ 0 = sym (ap (λ (s : RecordingScan). s.number) p) ∙ e in
    let y : g.number ≡ 0 = must_pass {A = RecordingScan} (λ s. s.number) g.number all (recording_stop g.number g.rest) refl i in
    let q : after ≡ all = passes {A = RecordingScan} g.number all (recording_stop g.number g.rest) y in
    let x : all.number ≡ 0 = sym (ap (λ (s : RecordingScan). s.number) q) ∙ i in
    subst (Parts t) (sym (p ∙ q)) (record { masked = rw (← l); stated = rw (← l); first = h; masks = rw (← l) z; gauges = rw (← l) y; states = rw (← l) x })

parts : (t : List ℕ) → (scan_recording t).number ≡ 0 → Parts t (scan_recording t)
unfolding scan_recording scan_opening
parts t =
    on_next_lem (λ (s : RecordingScan). s.number ≡ 0 → Parts t s) (recording_heading_line t) _ _
    (λ k r e. absurd (next_some recording_lines recording_form recording_heading (λ h. recording_heading_refusal h.first h.second) t (omega arith) (omega arith) k r e))
    (λ h rest r e. let b = next_back recording_lines recording_form recording_heading (λ x. recording_heading_refusal x.first x.second) t h rest r in
    masked_parts h.first h.second t rest b.fine b.left e)

-- a smaller N is within its limits too
lowered_heading : (C N K : ℕ) → recording_heading_refusal C N ≡ 0 → 0 < K → K ≤ N → recording_heading_refusal C K ≡ 0
unfolding recording_heading_refusal pick
lowered_heading C N K h some few =
    let limits = both_true (within 1 max_controllers C) (within 1 max_states N) (accept_yes (within 1 max_controllers C && within 1 max_states N) recording_limits (omega arith) h) in
    let n = both_true (leb 1 N) (leb N max_states) limits.1 in
    rw (limits.0, le-leb 1 K (omega arith), le-leb K max_states (omega (arith, leb-true N max_states n.1)))

-- s is the beginning of t with K states: its first line has K for N, and the rest of it are the lines that follow the first line of t, up to the K-th `at` line
pub record TextBeginning (s t : List ℕ) (K : ℕ) : Type 0 where
  pub some : 0 < K
  pub few : K ≤ (scan_recording t).count
  pub closed : is_closed s ≡ true
  pub first : recording_heading (line_of s) ≡ formed (heading (scan_recording t).controllers K)
  pub lines : WholeLines ((scan_recording t).controllers + (gauge_count t + K)) (rest_of s)
  pub dropped : List ℕ
  pub whole : rest_of t ≡ rest_of s ++ dropped

module _ (s t : List ℕ) (K : ℕ) (b : TextBeginning s t K) (e : (scan_recording t).number ≡ 0) where
  abbrev C : ℕ
  C = (scan_recording t).controllers

  abbrev N : ℕ
  N = (scan_recording t).count

  p : Parts t (scan_recording t)
  p = parts t e

  abbrev long : Scan
  long = scan_masks C [] (rest_of s ++ b.dropped)

  abbrev short : Scan
  short = scan_masks C [] (rest_of s)

  abbrev G : ℕ
  G = gauge_count t

  -- the longer text is t's
  long_is : long ≡ owned_of C t
  long_is = ap (scan_masks C []) (sym b.whole)

  owned : Alike short long b.dropped (G + K)
  owned =
      masks_alike C [] (rest_of s) b.dropped (C + (G + K)) (G + K) refl b.lines
      (ap (λ (m : Scan). m.number) long_is ∙ p.masks)

  abbrev long_gauges : GaugeScan
  long_gauges = scan_gauges max_gauges [] (short.rest ++ b.dropped)

  abbrev short_gauges : GaugeScan
  short_gauges = scan_gauges max_gauges [] short.rest

  gauges_is : long_gauges ≡ gauges_after C t
  gauges_is = ap (scan_gauges max_gauges []) (sym owned.rest ∙ ap (λ (m : Scan). m.rest) long_is)

  gauged : GaugesAlike short_gauges long_gauges b.dropped K
  gauged =
      gauges_alike max_gauges [] short.rest b.dropped (G + K) K b.some (ap (λ (a : GaugeScan). length a.gauges.atoms + K) (sym gauges_is)) owned.lines
      (ap (λ (a : GaugeScan). a.number) gauges_is ∙ p.gauges)

  -- what `at` lines give, after the masks and the gauges of the shorter text
  abbrev states_on : ℕ → List ℕ → Scan
  states_on n u = scan_states C short.words short_gauges.gauges n 0 0 u

  states_is : states_on N (short_gauges.rest ++ b.dropped) ≡ states_after C N t
  states_is =
      let w : short.words ≡ (owned_of C t).words = owned.words ∙ ap (λ (m : Scan). m.words) long_is in
      let g : short_gauges.gauges ≡ (gauges_after C t).gauges = gauged.gauges ∙ ap (λ (a : GaugeScan). a.gauges) gauges_is in
      let r : short_gauges.rest ++ b.dropped ≡ (gauges_after C t).rest = sym gauged.rest ∙ ap (λ (a : GaugeScan). a.rest) gauges_is in
      rw (w, g, r)

  stated : Front (states_on K short_gauges.rest) (states_on N (short_gauges.rest ++ b.dropped)) K
  stated =
      states_front C short.words short_gauges.gauges K N 0 0 short_gauges.rest b.dropped b.few gauged.lines
      (ap (λ (a : Scan). a.number) states_is ∙ p.states)

  headed : recording_heading_line s ≡ read (heading C K) (rest_of s)
  headed =
      next_read recording_lines recording_form recording_heading (λ h. recording_heading_refusal h.first h.second) s b.closed (heading C K) b.first
      (lowered_heading C N K p.first b.some b.few)

  scan_is : scan_recording s ≡ recording_states C K short.words (states_on K short_gauges.rest)
  unfolding scan_recording scan_opening gauged_after_masks on_next
  scan_is =
      rw headed (passes {A = RecordingScan} short.number (gauged_after_masks C K short.words short.rest) (recording_stop short.number short.rest) owned.number
      ∙ passes {A = RecordingScan} short_gauges.number (recording_states C K short.words (states_on K short_gauges.rest))
      (recording_stop short_gauges.number short_gauges.rest) gauged.number)

  pub text_beginning_accepted : (scan_recording s).number ≡ 0
  text_beginning_accepted = ap (λ (r : RecordingScan). r.number) scan_is ∙ stated.number

  masks_read : (scan_recording s).masks ≡ (scan_recording t).masks
  masks_read = ap (λ (r : RecordingScan). r.masks) scan_is ∙ (owned.words ∙ (ap (λ (m : Scan). m.words) long_is ∙ sym p.masked))

  states_read : (scan_recording s).states ≡ take K (scan_recording t).states
  states_read =
      ap (λ (r : RecordingScan). r.states) scan_is
      ∙ (stated.words ∙ ap (take K) (ap (λ (a : Scan). a.words) states_is ∙ sym p.stated))

  -- and what is read of it is the beginning of what is read of the whole text
  pub text_beginning : Beginning (scanned (scan_recording s)) (scanned (scan_recording t))
  text_beginning =
      let n : (scan_recording s).count ≡ K = ap (λ (r : RecordingScan). r.count) scan_is in
      let c : (scan_recording s).controllers ≡ C = ap (λ (r : RecordingScan). r.controllers) scan_is in
      record {
        some = omega (arith, n, b.some);
        few = omega (arith, n, b.few);
        controllers = c;
        masks = rw (c, masks_read);
        states = rw (n, states_read, take-take K N (scan_recording t).states b.few, take-take K K (scan_recording t).states (omega arith));
      }
