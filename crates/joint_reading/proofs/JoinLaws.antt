-- Laws of the joint reading: one for each return, and what its calls ask.
use mathlib.Core.Path.{◌≡◌, refl, ap, sym, ◌∙◌}
use mathlib.Core.Bool.{Bool, true, false, ◌||◌}
use mathlib.Core.List.{List, [], ◌∷◌}
use Prim.Native.Nat.{ℕ, ◌+◌, ◌-◌, ◌≤◌}
use native.Mathlib.Omega.{arith}
use lib.Dec.{eqb}
use lib.ListN.{length, take, drop}
use denote.Ref.{Bor}
use borrow.Author.Rules.{rules}
use borrow.Author.Tests.{ne_eqb, le-ltb, ltb-false, eqb-true, eqb-false}
use Rattle.definitions.specs.Limits.{lent_short, max_rule_nodes, max_controllers, max_states}
use Rattle.definitions.specs.Bounded.{pick}
use Rattle.definitions.specs.Lines.{line_length}
use Rattle.definitions.specs.RuleText.{scan_rule}
use Rattle.definitions.specs.RecordingText.{scan_recording, joint_number}
use Rattle.definitions.specs.Operations.{left, too_short, read_joint_number, read_joint_heading, read_joint_nodes, read_joint_masks, read_joint_states, read_joint_part}
use Rattle.definitions.specs.Program.{bytes_of}
use Rattle.theorems.proofs.Choice.{by_test, both_false}
use Rattle.lent.specs.Space.{cleared}
use Rattle.lent.proofs.LeftLaws.{left_untouched, left_zeroed, left_filled}
use Rattle.joint_reading.specs.Room.{Room, is_short, Clearable, Cleared}
use Rattle.rules.specs.Refusals.{refusal_in}
use Rattle.rules.specs.declared.refusal.Refusal.TheVariants.{LentShort}
use Rattle.joint_reading.specs.declared.scan.Text.TheVariants.{Rule, Recording}
use Rattle.joint_reading.specs.Scanning.{of_rule, kept, refused_at, part_of, joint_values, Low, Held, JointScanned}
use Rattle.joint_reading.specs.Joining.{IsPart, IsFound, heading_of, Joined, ReadJoint}
use Rattle.joint_reading.specs.declared.scan.Found.{Found}

-- ---- `part`
-- `part`: the bytes between the two places are `len` bytes from `from` on
pub part_reads : (s : List ℕ) (from count : ℕ) → take (from + count - from) (drop from s) ≡ take count (drop from s)
part_reads s from count = let e : from + count - from ≡ count = omega arith in rw e

pub ruleset part_laws = (rules, part_reads)

-- ---- `join_whole`
module _ (full number count : ℕ) (content entry exit end : List ℕ) (other : number ≡ lent_short → ⊥) (h : Held full number count content entry exit) (e : end ≡ cleared exit count full) where
  filled : number ≡ 0 → end ≡ left number full content entry
  filled z = left_filled number full content entry exit end h.past count z (h.counts z) (h.begins z) e

  zeroed : (number ≡ 0 → ⊥) → end ≡ left number full content entry
  zeroed z = left_zeroed number full content entry exit end h.past other z (rw (h.none z) at e)

  left_held : end ≡ left number full content entry
  left_held = by_test (eqb number 0) (λ z. filled (eqb-true number 0 z)) (λ z. zeroed (eqb-false number 0 z))

-- with lent space of full size
module _ (rule recording nodes masks states : List ℕ) (room : Room nodes masks states) where
  whole_number : read_joint_number rule recording nodes masks states ≡ joint_number rule recording
  unfolding read_joint_number pick
  whole_number =
      rw (le-ltb (length nodes) max_rule_nodes room.nodes_room, le-ltb (length masks) max_controllers room.masks_room, le-ltb (length states) max_states room.states_room)

  module _ (f : Found) (nodes' masks' states' : List ℕ) (s : JointScanned rule recording nodes masks states f nodes' masks' states') where
    pub join_clears : length nodes' ≡ length nodes → length masks' ≡ length masks → length states' ≡ length states → Clearable (kept f.read).rule.count (kept f.read).recording.controllers (kept f.read).recording.count nodes' masks' states'
    join_clears a b c =
        record {
          room = record { nodes_room = omega (arith, room.nodes_room); masks_room = omega (arith, room.masks_room); states_room = omega (arith, room.states_room) };
          count_fits = s.nodes_held.fits;
          controllers_fit = s.masks_held.fits;
          states_fit = s.states_held.fits;
        }

    number_is : read_joint_number rule recording nodes masks states ≡ (refusal_in f.read)
    number_is = whole_number ∙ sym s.number

    heading_is : heading_of f ≡ read_joint_heading rule recording nodes masks states
    unfolding read_joint_heading joint_values
    heading_is = rw number_is (ap (λ (l : List ℕ). (refusal_in f.read) ∷ l) s.values)

    part_is : part_of f ≡ read_joint_part rule recording nodes masks states
    unfolding read_joint_part pick
    part_is = rw (number_is, ne_eqb (refusal_in f.read) lent_short s.not_lent) s.part

    -- `join_whole`: what `scan_joint` found, with lent space cleared behind it, is `Joined`
    pub join_done : (nodes'' masks'' states'' : List ℕ) → Cleared (kept f.read).rule.count (kept f.read).recording.controllers (kept f.read).recording.count nodes' masks' states' nodes'' masks'' states''
        → Joined rule recording nodes masks states f nodes'' masks'' states''
    unfolding read_joint_nodes read_joint_masks read_joint_states
    join_done nodes'' masks'' states'' c =
        record {
          heading = heading_is;
          low = s.low;
          part = part_is;
          inside = s.inside;
          nodes_left = rw number_is (left_held max_rule_nodes (refusal_in f.read) (kept f.read).rule.count (scan_rule rule).words nodes nodes' nodes'' s.not_lent s.nodes_held c.nodes_cleared);
          masks_left = rw number_is (left_held max_controllers (refusal_in f.read) (kept f.read).recording.controllers (scan_recording recording).masks masks masks' masks'' s.not_lent s.masks_held c.masks_cleared);
          states_left = rw number_is (left_held max_states (refusal_in f.read) (kept f.read).recording.count (scan_recording recording).states states states' states'' s.not_lent s.states_held c.states_cleared);
        }

-- ---- `join`
module _ (rule recording nodes masks states : List ℕ) (short : Bool) (is : short ≡ is_short nodes masks states) (e : short ≡ true) where
  short_number : read_joint_number rule recording nodes masks states ≡ lent_short
  unfolding read_joint_number is_short pick
  short_number = rw (sym is ∙ e)

  -- `join`, 13: `read_joint_heading` has no values, the part is empty, lent space is as it was
  pub join_short : (f : Found) → f ≡ refused_at LentShort Rule 0 (line_length []) → Joined rule recording nodes masks states f nodes masks states
  unfolding read_joint_heading read_joint_part read_joint_nodes read_joint_masks read_joint_states line_length pick
  join_short f w =
      let n = short_number in
      rw w
      (record {
        heading = rw n;
        part = rw n;
        low = record { controller = omega arith; count = omega arith; controllers = omega arith; states = omega arith };
        inside = omega arith;
        nodes_left = left_untouched (read_joint_number rule recording nodes masks states) max_rule_nodes (scan_rule rule).words nodes n;
        masks_left = left_untouched (read_joint_number rule recording nodes masks states) max_controllers (scan_recording recording).masks masks n;
        states_left = left_untouched (read_joint_number rule recording nodes masks states) max_states (scan_recording recording).states states n;
      })

-- `join`, full size: `is_short` false is the room that `join_whole` asks
pub join_room : (nodes masks states : List ℕ) (short : Bool) → short ≡ is_short nodes masks states → short ≡ false → Room nodes masks states
unfolding is_short
join_room nodes masks states short is e =
    let a = both_false (too_short max_rule_nodes nodes || too_short max_controllers masks) (too_short max_states states) (sym is ∙ e) in
    let b = both_false (too_short max_rule_nodes nodes) (too_short max_controllers masks) a.0 in
    record {
      nodes_room = ltb-false (length nodes) max_rule_nodes b.0;
      masks_room = ltb-false (length masks) max_controllers b.1;
      states_room = ltb-false (length states) max_states a.1;
    }

-- ---- `Found::part`
module _ (x y : Bor (List ℕ)) (f : Found) where
  module _ (z : f.text ≡ Rule) where
    pub rule_inside_lem : f.from + f.len ≤ length (pick (of_rule f.text) x.now y.now) → f.from + f.len ≤ length x.now
    unfolding pick
    rule_inside_lem h = rw z at h

    -- `Found::part`, a line of the rule: it is that part of the rule's text
    pub rule_part : (r : Bor (List ℕ)) → IsPart x r f.from f.len → IsFound x y f r
    unfolding pick
    rule_part r p = record { part = rw z p }

  module _ (z : f.text ≡ Recording) where
    pub recording_inside_lem : f.from + f.len ≤ length (pick (of_rule f.text) x.now y.now) → f.from + f.len ≤ length y.now
    unfolding pick
    recording_inside_lem h = rw z at h

    -- `Found::part`, a line of the recording: it is that part of the recording's text
    pub recording_part : (r : Bor (List ℕ)) → IsPart y r f.from f.len → IsFound x y f r
    unfolding pick
    recording_part r p = record { part = rw z p }

pub ruleset found_laws = (rules, rule_inside_lem, recording_inside_lem)

-- its bytes are those that the definition reads
pick_now : (b : Bool) (x y : Bor (List ℕ)) → (pick b x y).now ≡ pick b x.now y.now
unfolding pick
pick_now true x y = refl
pick_now false x y = refl

pub part_bytes : (x y : Bor (List ℕ)) (f : Found) (r : Bor (List ℕ)) → IsFound x y f r → r.now ≡ bytes_of x.now y.now (part_of f)
part_bytes x y f r p = p.part.reads ∙ rw (pick_now (of_rule f.text) x y)

-- ---- `read_joint`
module _ (x y : Bor (List ℕ)) (nodes masks states : List ℕ) (f : Found) (nodes' masks' states' : List ℕ) (j : Joined x.now y.now nodes masks states f nodes' masks' states') where
  pub heading_low : Low f.read
  heading_low = j.low

  pub part_inside_lem : f.from + f.len ≤ length (pick (of_rule f.text) x.now y.now)
  part_inside_lem = j.inside

  -- `read_joint`: the part that was found is `read_joint_part`
  pub handed : (r : Bor (List ℕ)) → IsFound x y f r → ReadJoint x y nodes masks states r nodes' masks' states' (heading_of f)
  handed r p =
      record {
        part = rw (← j.part) p.part;
        heading = j.heading;
        nodes_left = j.nodes_left;
        masks_left = j.masks_left;
        states_left = j.states_left;
      }
