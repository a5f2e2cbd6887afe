-- Laws of the loop over gauge lines: one for each return and for a turn.
use mathlib.Core.Path.{◌≡◌, refl, ap, sym, ◌∙◌}
use Prim.Native.Nat.{ℕ, zero, suc, ◌+◌, ◌-◌, ◌<◌, ◌≤◌}
use mathlib.Core.Bool.{Bool, true, false, ◌&&◌, ◌||◌}
use mathlib.Core.List.{List, [], ◌∷◌, ◌++◌, append_assoc, append-nil, map-append}
use native.Mathlib.Omega.{arith}
use lib.ListN.{length, take, drop}
use lib.Dec.{eqb}
use Rattle.definitions.specs.Bounded.{pick}
use Rattle.definitions.specs.Limits.{max_gauges, accepted, recording_form, recording_lines}
use Rattle.definitions.specs.Lines.{tab, has, up_to, line_of, same, rest_of, refused, read, on_next}
use Rattle.definitions.specs.Gauges.{gauge_word, Gauge, among, gauge_form, gauge_refusal}
use Rattle.definitions.specs.RecordingText.{gauge_line, GaugeScan, gauges_stop, gauges_more, is_gauge, scan_gauges}
use Rattle.theorems.proofs.NextLines.{same_next, same_check}
use Rattle.lines.specs.Reading.{FirstLine}
use Rattle.lines.specs.declared.Line.{Line}
use Rattle.lines.proofs.PartLaws.{part_to_end}
use Rattle.lines.proofs.NextLaws.{line_part_laws}
use Rattle.lines.proofs.LoopLaws.{after_line, line_inside}
use Rattle.std.specs.Prelude.{Ok, Err}
use Rattle.lines.proofs.ToldLaws.{told_refused, told_back}
use Rattle.rules.specs.Refusals.{number_of}
use Rattle.rules.specs.declared.refusal.Refusal.{Refusal}
use Rattle.gauges.specs.Held.{gauge_in, atoms_of, thresholds_of, held, gauges_in}
use Rattle.gauges.specs.Lines.{gauge_next}
use Rattle.gauges.specs.Scanning.{GaugesScanned}
use Rattle.gauges.specs.declared.gauge.Gauge as code
use Rattle.gauges.specs.declared.gauge.Gauges as code_all

-- ---- the definition, by which atoms are among the earlier ones
one_refusal : (earlier other : List ℕ) → ((b : ℕ) → among b earlier ≡ among b other) → (g : Gauge) → gauge_refusal earlier g ≡ gauge_refusal other g
unfolding gauge_refusal
one_refusal earlier other h g = rw (h g.atom)

same_among : (lines : ℕ) (earlier other t : List ℕ) → ((b : ℕ) → among b earlier ≡ among b other) → scan_gauges lines earlier t ≡ scan_gauges lines other t
unfolding scan_gauges among
same_among zero earlier other t h = refl
same_among (suc lines) earlier other t h =
    ap (λ (s : GaugeScan). pick (is_gauge t) s (gauges_stop accepted t))
    (same_next (gauge_line earlier t) (gauge_line other t) (λ number. gauges_stop number t)
    (λ g rest. gauges_more g (scan_gauges lines (g.atom ∷ earlier) rest)) (λ g rest. gauges_more g (scan_gauges lines (g.atom ∷ other) rest))
    (same_check recording_lines recording_form gauge_form (gauge_refusal earlier) (gauge_refusal other) t (one_refusal earlier other h))
    (λ g rest. ap (gauges_more g) (same_among lines (g.atom ∷ earlier) (g.atom ∷ other) rest (λ b. rw (h b)))))

-- an atom in front or at the end
among_end : (b a : ℕ) (atoms : List ℕ) → among b (a ∷ atoms) ≡ among b (atoms ++ (a ∷ []))
unfolding among
among_end b a [] = refl
among_end b a (c ∷ atoms) = swapped (eqb b a) (eqb b c) (among b atoms) ∙ ap (λ (z : Bool). eqb b c || z) (among_end b a atoms)
  where
    swapped : (x y z : Bool) → (x || (y || z)) ≡ (y || (x || z))
    swapped true true z = refl
    swapped true false z = refl
    swapped false true z = refl
    swapped false false z = refl

module _ (lines : ℕ) (earlier t : List ℕ) where
  none_left : is_gauge t ≡ false → scan_gauges (suc lines) earlier t ≡ gauges_stop 0 t
  unfolding scan_gauges pick
  none_left h = rw h

  denied_left : (k : ℕ) → is_gauge t ≡ true → gauge_line earlier t ≡ refused k → scan_gauges (suc lines) earlier t ≡ gauges_stop k t
  unfolding scan_gauges on_next pick
  denied_left k h e = rw (h, e)

  one_left : (g : Gauge) (rest : List ℕ) → is_gauge t ≡ true → gauge_line earlier t ≡ read g rest → scan_gauges (suc lines) earlier t ≡ gauges_more g (scan_gauges lines (g.atom ∷ earlier) rest)
  unfolding scan_gauges on_next pick
  one_left g rest h e = rw (h, e)

-- ---- `scan_gauges`
-- gauges in front of those that follow
abbrev in_front : List code.Gauge → GaugeScan → GaugeScan
in_front gauges s =
    record { number = s.number; gauges = record { atoms = atoms_of gauges ++ s.gauges.atoms; thresholds = thresholds_of gauges ++ s.gauges.thresholds }; rest = s.rest }

front_more : (gauges : List code.Gauge) (g : code.Gauge) (s : GaugeScan) → in_front gauges (gauges_more (gauge_in g) s) ≡ in_front (gauges ++ (g ∷ [])) s
front_more gauges g s = rw (map-append, map-append, append_assoc (atoms_of gauges) (g.atom ∷ []) s.gauges.atoms, append_assoc (thresholds_of gauges) (g.threshold ∷ []) s.gauges.thresholds)

-- before the line that begins at the place after the first `count` gauges
pub record GaugesLeft (start : ℕ) (text : List ℕ) (g : code_all.Gauges) (count : ℕ) : Type 0 where
  pub so_many : g.count ≡ count
  pub few : count ≤ max_gauges
  pub inside : g.at ≤ length text
  pub left : scan_gauges max_gauges [] (drop start text) ≡ in_front (held g) (scan_gauges (max_gauges - count) (atoms_of (held g)) (drop g.at text))

module _ (start : ℕ) (text : List ℕ) (g : code_all.Gauges) (count : ℕ) (inv : GaugesLeft start text g count) where
  abbrev scanned : GaugeScan
  scanned = scan_gauges max_gauges [] (drop start text)

  -- the lines end here
  ends : (n : ℕ) → scan_gauges (max_gauges - count) (atoms_of (held g)) (drop g.at text) ≡ gauges_stop n (drop g.at text) → scanned ≡ in_front (held g) (gauges_stop n (drop g.at text))
  ends n e = inv.left ∙ ap (in_front (held g)) e

  all_told : (n : ℕ) → scanned ≡ in_front (held g) (gauges_stop n (drop g.at text)) → gauges_in g ≡ scanned.gauges
  all_told n q = sym (ap (λ (s : GaugeScan). s.gauges) q ∙ rw (append-nil (atoms_of (held g)), append-nil (thresholds_of (held g))))

  found : scan_gauges (max_gauges - count) (atoms_of (held g)) (drop g.at text) ≡ gauges_stop accepted (drop g.at text) → GaugesScanned scanned text (Ok g)
  found e =
      let q = ends accepted e in
      record {
        number = sym (ap (λ (s : GaugeScan). s.number) q);
        inside = inv.inside;
        rest = sym (ap (λ (s : GaugeScan). s.rest) q);
        gauges = all_told accepted q;
      }

  -- `scan_gauges`, eight gauges: `scan_gauges` leaves the next line to the `at` lines
  pub gauges_full : max_gauges ≤ count → GaugesScanned scanned text (Ok g)
  unfolding scan_gauges
  gauges_full h = let z : max_gauges - count ≡ 0 = omega arith in found (rw z)

  module _ (h : count < max_gauges) (l : Line) (is : FirstLine (take (length text - g.at) (drop g.at text)) l) (p : Bool)
      (ps : p ≡ (same (up_to tab (take l.len (take (length text - g.at) (drop g.at text)))) gauge_word && has tab (take l.len (take (length text - g.at) (drop g.at text))))) where
    one_less_lem : max_gauges - count ≡ suc (max_gauges - (count + 1))
    one_less_lem = omega arith

    line_is : FirstLine (drop g.at text) l
    line_is = rw (part_to_end text g.at) at is

    opens_is : is_gauge (drop g.at text) ≡ p
    unfolding is_gauge
    opens_is =
        let q : take l.len (take (length text - g.at) (drop g.at text)) ≡ line_of (drop g.at text) = rw (part_to_end text g.at, line_is.length_is) in
        sym (rw q at ps)

    -- `scan_gauges`, another line: `scan_gauges` leaves it to the `at` lines
    pub gauges_other : p ≡ false → GaugesScanned scanned text (Ok g)
    gauges_other f = found (rw one_less_lem (none_left (max_gauges - (count + 1)) (atoms_of (held g)) (drop g.at text) (opens_is ∙ f)))

    module _ (f : p ≡ true) (gs : List code.Gauge) (gs_is : gs ≡ held g) where
      -- `scan_gauges`, a refused line: `scan_gauges` stops at that line with its refusal, after the gauges before it
      pub gauges_refused : (e : Refusal) → Err (number_of e) ≡ gauge_next (gauge_line (atoms_of gs) (take (length text - g.at) (drop g.at text))) → GaugesScanned scanned text (Err (record { read = g; stop = record { refusal = e; at = g.at } }))
      gauges_refused e rs =
          let n : gauge_line (atoms_of (held g)) (drop g.at text) ≡ refused (number_of e) = told_refused (λ o. o) _ e (rw (gs_is, part_to_end text g.at) at rs) in
          let q = ends (number_of e) (rw one_less_lem (denied_left (max_gauges - (count + 1)) (atoms_of (held g)) (drop g.at text) (number_of e) (opens_is ∙ f) n)) in
          record {
            number = sym (ap (λ (s : GaugeScan). s.number) q);
            inside = inv.inside;
            rest = sym (ap (λ (s : GaugeScan). s.rest) q);
            gauges = all_told (number_of e) q;
          }

      -- `scan_gauges`, a turn: `scan_gauges` has one gauge more
      pub gauges_next : (o : code.Gauge) → Ok (gauge_in o) ≡ gauge_next (gauge_line (atoms_of gs) (take (length text - g.at) (drop g.at text)))
          → (g' : code_all.Gauges) → g'.count ≡ g.count + 1 → g'.at ≡ g.at + l.next → held g' ≡ held g ++ (o ∷ []) → GaugesLeft start text g' (count + 1)
      gauges_next o rs g' c p q =
          let earlier = atoms_of (held g) in
          let rest = drop (g.at + l.next) text in
          let n = max_gauges - (count + 1) in
          let b = told_back (λ x. x) recording_lines recording_form gauge_form (gauge_refusal earlier) (drop g.at text) (gauge_in o) (rw (gs_is, part_to_end text g.at) at rs) in
          let line : gauge_line earlier (drop g.at text) ≡ read (gauge_in o) (rest_of (drop g.at text)) = b.is ∙ ap (λ (x : Gauge). read x (rest_of (drop g.at text))) b.gives in
          let turned : scan_gauges (max_gauges - count) earlier (drop g.at text) ≡ gauges_more (gauge_in o) (scan_gauges n (o.atom ∷ earlier) rest) =
          rw (one_less_lem, ← after_line text g.at l line_is) (one_left n earlier (drop g.at text) (gauge_in o) (rest_of (drop g.at text)) (opens_is ∙ f) line) in
          let atoms : atoms_of (held g') ≡ earlier ++ (o.atom ∷ []) = rw (q, map-append) in
          let same_rest : scan_gauges n (o.atom ∷ earlier) rest ≡ scan_gauges n (atoms_of (held g')) rest = same_among n (o.atom ∷ earlier) (atoms_of (held g')) rest (λ b. rw atoms (among_end b o.atom earlier)) in
          let all : scanned ≡ in_front (held g) (gauges_more (gauge_in o) (scan_gauges n (atoms_of (held g')) rest)) = inv.left ∙ ap (in_front (held g)) (turned ∙ ap (gauges_more (gauge_in o)) same_rest) in
          record {
            so_many = rw (c, inv.so_many);
            few = omega arith;
            inside = rw p (line_inside text g.at l line_is inv.inside);
            left = all ∙ (front_more (held g) o (scan_gauges n (atoms_of (held g')) rest) ∙ rw (q, p));
          }

pub ruleset scan_gauges_laws = (line_part_laws, gauges_full, gauges_other, gauges_refused, gauges_next)
