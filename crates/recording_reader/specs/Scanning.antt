-- What reading the lines of a recording text gives, and what it lays into lent space.
use Rattle.std.specs.Prelude.{◌≡◌, ℕ, ◌-◌, ◌≤◌, List, length, drop, Result, MatchResult}
use Rattle.definitions.specs.Limits.{accepted, lent_short, max_controllers, max_states}
use Rattle.definitions.specs.RecordingText.{scan_recording}
use Rattle.lent.specs.Space.{laid}
use Rattle.lines.specs.declared.CutShort.{CutShort}
use Rattle.lines.specs.declared.Stop.{Stop}
use Rattle.recordings.specs.declared.heading.RecordingHeading.{RecordingHeading}
use Rattle.rules.specs.Refusals.{number_of}

-- lent space of full size
pub record Room (masks states : List ℕ) : Type 0 where
  pub masks_room : max_controllers ≤ length masks
  pub states_room : max_states ≤ length states

-- what the mask lines ask of their caller
pub record MaskRoom (C start : ℕ) (text masks : List ℕ) : Type 0 where
  pub few : C ≤ max_controllers
  pub inside : start ≤ length text
  pub room : max_controllers ≤ length masks

-- what the lines after the masks ask of their caller
pub record RestRoom (h : RecordingHeading) (start : ℕ) (text states : List ℕ) : Type 0 where
  pub few : h.controllers ≤ max_controllers
  pub short : h.count ≤ max_states
  pub inside : start ≤ length text
  pub room : max_states ≤ length states

-- where a recording text is refused before its states: there is no C and no N
abbrev pub unread : Stop → CutShort RecordingHeading
unread stop = record { read = record { controllers = 0; count = 0 }; stop = stop }

-- a recording text was accepted: C and N, as many masks and states, and the masks are laid over the start of lent space
pub record RecordingAccepted (text masks : List ℕ) (h : RecordingHeading) (masks' : List ℕ) : Type 0 where
  pub number : accepted ≡ (scan_recording text).number
  pub controllers : h.controllers ≡ (scan_recording text).controllers
  pub count : h.count ≡ (scan_recording text).count
  pub few : h.controllers ≤ max_controllers
  pub short : h.count ≤ max_states
  pub masks_laid : masks' ≡ laid (scan_recording text).masks masks
  pub masks_count : length (scan_recording text).masks ≡ h.controllers
  pub states_count : length (scan_recording text).states ≡ h.count

-- a recording text was refused: the refusal, C and N, and the place of the refused line
pub record RecordingRefused (text : List ℕ) (cut : CutShort RecordingHeading) : Type 0 where
  pub number : number_of cut.stop.refusal ≡ (scan_recording text).number
  pub controllers : cut.read.controllers ≡ (scan_recording text).controllers
  pub count : cut.read.count ≡ (scan_recording text).count
  pub place : cut.stop.at ≡ length text - length (scan_recording text).rest
  pub inside : cut.stop.at ≤ length text
  pub rest : drop cut.stop.at text ≡ (scan_recording text).rest
  pub not_lent : number_of cut.stop.refusal ≡ lent_short → ⊥
  pub few : cut.read.controllers ≤ max_controllers
  pub short : cut.read.count ≤ max_states

-- a recording text was read: how it ended, and the states up to there; of lent space only its full size was touched
pub record RecordingScanned (text masks states : List ℕ) (r : Result RecordingHeading (CutShort RecordingHeading)) (masks' states' : List ℕ) : Type 0 where
  pub ended : MatchResult r (λ h. RecordingAccepted text masks h masks') (RecordingRefused text)
  pub masks_past : drop max_controllers masks' ≡ drop max_controllers masks
  pub states_laid : states' ≡ laid (scan_recording text).states states
  pub states_past : drop max_states states' ≡ drop max_states states
