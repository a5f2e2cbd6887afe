-- The line that the joint reading hands back, of two texts and of the same texts with byte 10 at each line.
use mathlib.Core.Path.{◌≡◌}
use Prim.Native.Nat.{ℕ}
use mathlib.Core.List.{List}
use lib.Dec.{eqb}
use Rattle.definitions.specs.Limits.{accepted, no_controller, lent_short}
use Rattle.definitions.specs.Bounded.{pick}
use Rattle.definitions.specs.Lines.{with_newlines}
use Rattle.definitions.specs.RuleText.{scan_rule}
use Rattle.definitions.specs.RecordingText.{joint_number, joint_part}
use Rattle.definitions.specs.Operations.{read_joint_number, read_joint_part}
use Rattle.definitions.specs.Program.{bytes_of}
use Rattle.theorems.proofs.Choice.{by_test}
use Rattle.theorems.proofs.EndingReadings.{Settled, rule_same, joint_same, bytes_same}

module _ (rule recording : List ℕ) (p : Settled rule) (q : Settled recording) where
  text_same : (joint_part (with_newlines rule) (with_newlines recording)).of_rule ≡ (joint_part rule recording).of_rule
  unfolding joint_part pick
  text_same =
      by_test (eqb (scan_rule rule).number accepted)
      (λ z. by_test (eqb (joint_number rule recording) no_controller)
      (λ y. rw (joint_same rule recording p q, rule_same rule p, z, y))
      (λ y. rw (joint_same rule recording p q, rule_same rule p, z, y)))
      (λ z. rw (rule_same rule p, z))

  module _ (nodes masks states : List ℕ) where
    number_same : read_joint_number (with_newlines rule) (with_newlines recording) nodes masks states ≡ read_joint_number rule recording nodes masks states
    unfolding read_joint_number
    number_same = rw (joint_same rule recording p q)

-- the part is of the same one of the two texts, and holds the same bytes; it begins where its line begins in that text
pub record PartAlike (rule recording nodes masks states : List ℕ) : Type 0 where
  pub of_rule : (read_joint_part (with_newlines rule) (with_newlines recording) nodes masks states).of_rule ≡ (read_joint_part rule recording nodes masks states).of_rule
  pub bytes : bytes_of (with_newlines rule) (with_newlines recording) (read_joint_part (with_newlines rule) (with_newlines recording) nodes masks states)
      ≡ bytes_of rule recording (read_joint_part rule recording nodes masks states)

-- "The line that it hands back leaves out its ending": so the other ending changes nothing of it, and neither does it of a rest that no byte 10
-- closes, which keeps its byte 13 in both texts. Both texts are `Settled`: a line that ends in bytes 13 13 10 is handed back with a byte 13, and with
-- byte 10 at each line it ends in 13 10 and is handed back without (`unsettled` among the trials).
pub part_alike : (rule recording nodes masks states : List ℕ) → Settled rule → Settled recording → PartAlike rule recording nodes masks states
unfolding read_joint_part pick
part_alike rule recording nodes masks states p q =
    let n = number_same rule recording p q nodes masks states in
    by_test (eqb (read_joint_number rule recording nodes masks states) lent_short)
    (λ z. record { of_rule = rw (n, z); bytes = rw (n, z) })
    (λ z. record { of_rule = rw (n, z) (text_same rule recording p q); bytes = rw (n, z) (bytes_same rule recording p q) })
