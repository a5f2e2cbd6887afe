-- What is found when both texts are read up to the first refusal.
use Rattle.std.specs.Prelude.{◌≡◌, ℕ, ◌+◌, ◌≤◌, Bool, true, false, List, [], ◌∷◌, length, take, drop, eqb, Result, Ok, Err}
use Rattle.definitions.specs.Limits.{accepted, lent_short, max_rule_nodes, max_controllers, max_states}
use Rattle.definitions.specs.Bounded.{pick}
use Rattle.definitions.specs.RuleText.{scan_rule}
use Rattle.definitions.specs.RecordingText.{scan_recording, Part, joint_number, joint_part}
use Rattle.rules.specs.Refusals.{refusal_in}
use Rattle.rules.specs.declared.refusal.Refusal.{Refusal}
use Rattle.joint_reading.specs.declared.scan.Found.{Found}
use Rattle.joint_reading.specs.declared.scan.Joined.{Joined}
use Rattle.joint_reading.specs.declared.scan.Text.{Text}
use Rattle.joint_reading.specs.declared.scan.Text.TheVariants.{Rule, Recording}

-- whether a part is of the rule's text
abbrev pub of_rule : Text → Bool
of_rule Rule = true
of_rule Recording = false

-- nothing that was read counts
abbrev pub nothing : Joined
nothing = record { rule = record { controller = 0; count = 0 }; recording = record { controllers = 0; count = 0 } }

-- what was read and counts
abbrev pub kept : Result Joined Refusal → Joined
kept (Ok joined) = joined
kept (Err refusal) = nothing

-- a refusal, and the line with it
abbrev pub refused_at : Refusal → Text → ℕ → ℕ → Found
refused_at refusal text from count = record { read = Err refusal; text = text; from = from; len = count }

-- the part that was found
abbrev pub part_of : Found → Part
part_of f = record { of_rule = of_rule f.text; from = f.from; count = f.len }

-- the number's other four
abbrev pub values_in : Joined → List ℕ
values_in j = j.rule.controller ∷ j.rule.count ∷ j.recording.controllers ∷ j.recording.count ∷ []

-- all four are below 129
pub record Low (read : Result Joined Refusal) : Type 0 where
  pub controller : (kept read).rule.controller ≤ max_states
  pub count : (kept read).rule.count ≤ max_states
  pub controllers : (kept read).recording.controllers ≤ max_states
  pub states : (kept read).recording.count ≤ max_states

-- the values of both texts under a number, zeros on a refusal
unfoldable pub joint_values : ℕ → List ℕ → List ℕ → List ℕ
joint_values number rule recording =
    pick (eqb number accepted)
    ((scan_rule rule).controller ∷ (scan_rule rule).count ∷ (scan_recording recording).controllers ∷ (scan_recording recording).count ∷ [])
    (0 ∷ 0 ∷ 0 ∷ 0 ∷ [])

-- accepted, lent space begins with so many words of a content; refused, none of them counts; past its full size it is as it was
pub record Held (full number count : ℕ) (content entry exit : List ℕ) : Type 0 where
  pub fits : count ≤ full
  pub begins : number ≡ accepted → take count exit ≡ content
  pub counts : number ≡ accepted → length content ≡ count
  pub none : (number ≡ accepted → ⊥) → count ≡ 0
  pub past : drop full exit ≡ drop full entry

-- both texts were read up to the first refusal
pub record JointScanned (rule recording nodes masks states : List ℕ) (f : Found) (nodes' masks' states' : List ℕ) : Type 0 where
  pub number : refusal_in f.read ≡ joint_number rule recording
  pub not_lent : refusal_in f.read ≡ lent_short → ⊥
  pub values : values_in (kept f.read) ≡ joint_values (refusal_in f.read) rule recording
  pub low : Low f.read
  pub part : part_of f ≡ joint_part rule recording
  pub inside : f.from + f.len ≤ length (pick (of_rule f.text) rule recording)
  pub nodes_held : Held max_rule_nodes (refusal_in f.read) (kept f.read).rule.count (scan_rule rule).words nodes nodes'
  pub masks_held : Held max_controllers (refusal_in f.read) (kept f.read).recording.controllers (scan_recording recording).masks masks masks'
  pub states_held : Held max_states (refusal_in f.read) (kept f.read).recording.count (scan_recording recording).states states states'
