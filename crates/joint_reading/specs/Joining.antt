-- What the joint reading answers, what it leaves in lent space, and the part that it hands back.
use Rattle.std.specs.Prelude.{◌≡◌, ℕ, ◌+◌, ◌≤◌, List, ◌∷◌, length, take, drop, Result}
use Rattle.std.specs.Borrow.{Bor}
use Rattle.definitions.specs.Bounded.{pick}
use Rattle.definitions.specs.Operations.{read_joint_heading, read_joint_nodes, read_joint_masks, read_joint_states, read_joint_part}
use Rattle.rules.specs.Refusals.{refusal_in}
use Rattle.rules.specs.declared.refusal.Refusal.{Refusal}
use Rattle.joint_reading.specs.Scanning.{of_rule, kept, part_of, values_in, Low}
use Rattle.joint_reading.specs.declared.scan.Joined as given
use Rattle.joint_reading.specs.declared.scan.Found.{Found}

-- r is the part of s of so many bytes that begins at the byte `from`
pub record IsPart (s r : Bor (List ℕ)) (from count : ℕ) : Type 0 where
  pub lies : r.ref_ptr ≡ (s.ref_ptr.0, from + s.ref_ptr.1)
  pub reads : r.now ≡ take count (drop from s.now)

-- r is the part that was found, of the text that it is in
pub record IsFound (rule recording : Bor (List ℕ)) (f : Found) (r : Bor (List ℕ)) : Type 0 where
  pub part : IsPart (pick (of_rule f.text) rule recording) r f.from f.len

-- the number, and the four values or zeros
abbrev pub heading_in : Result given.Joined Refusal → List ℕ
heading_in read = refusal_in read ∷ values_in (kept read)

-- the heading that was found
abbrev pub heading_of : Found → List ℕ
heading_of f = heading_in f.read

-- both texts were read: the heading, the part and where it fits, and the lent space
pub record Joined (rule recording nodes masks states : List ℕ) (f : Found) (nodes' masks' states' : List ℕ) : Type 0 where
  pub heading : heading_of f ≡ read_joint_heading rule recording nodes masks states
  pub part : part_of f ≡ read_joint_part rule recording nodes masks states
  pub low : Low f.read
  pub inside : f.from + f.len ≤ length (pick (of_rule f.text) rule recording)
  pub nodes_left : nodes' ≡ read_joint_nodes rule recording nodes masks states
  pub masks_left : masks' ≡ read_joint_masks rule recording nodes masks states
  pub states_left : states' ≡ read_joint_states rule recording nodes masks states

-- the joint reading: the line handed back (of which text, from where, which bytes), the heading and the lent space
pub record ReadJoint (rule recording : Bor (List ℕ)) (nodes masks states : List ℕ) (r : Bor (List ℕ)) (nodes' masks' states' heading' : List ℕ) : Type 0 where
  pub part :
      IsPart (pick (read_joint_part rule.now recording.now nodes masks states).of_rule rule recording) r
      (read_joint_part rule.now recording.now nodes masks states).from
      (read_joint_part rule.now recording.now nodes masks states).count
  pub heading : heading' ≡ read_joint_heading rule.now recording.now nodes masks states
  pub nodes_left : nodes' ≡ read_joint_nodes rule.now recording.now nodes masks states
  pub masks_left : masks' ≡ read_joint_masks rule.now recording.now nodes masks states
  pub states_left : states' ≡ read_joint_states rule.now recording.now nodes masks states
