-- Either text, and what reading it gives.
use Rattle.std.specs.Prelude.{◌≡◌, ℕ, ◌<◌, ◌≤◌, Bool, List, length, take, drop, get_or, Result, MatchResult}
use Rattle.definitions.specs.Limits.{accepted, lent_short, max_controllers, max_states}
use Rattle.definitions.specs.Bounded.{pick}
use Rattle.definitions.specs.RecordingText.{RecordingScan, after_masks, scan_plain}
use Rattle.definitions.specs.Archive.{after_opening, scan_archive}
use Rattle.rules.specs.Refusals.{number_of}
use Rattle.lines.specs.Reading.{stopped_number, stopped_at}
use Rattle.lines.specs.declared.Stop.{Stop}
use Rattle.recordings.specs.declared.heading.RecordingHeading.{RecordingHeading}

-- what follows the `owns` lines: signals where it goes back, else `at` lines
unfoldable pub after_text : (back : Bool) (C N : ℕ) (masks t : List ℕ) → RecordingScan
after_text back C N masks t = pick back (after_opening C N masks t) (after_masks C N masks t)

-- the reading of an archive text where it goes back, else of a recording text
unfoldable pub scan_text : (back : Bool) (t : List ℕ) → RecordingScan
scan_text back t = pick back (scan_archive t) (scan_plain t)

-- what follows the masks asks of its caller: the states are zero
pub record AfterRoom (h : RecordingHeading) (start : ℕ) (text states : List ℕ) : Type 0 where
  pub few : h.controllers ≤ max_controllers
  pub short : h.count ≤ max_states
  pub inside : start ≤ length text
  pub room : max_states ≤ length states
  pub zeros : (k : ℕ) → k < max_states → get_or states k 0 ≡ 0

-- it was read as s says; accepted, the states are the first N
pub record AfterScanned (s : RecordingScan) (N : ℕ) (text : List ℕ) (r : Result ℕ Stop) (states' : List ℕ) : Type 0 where
  pub number : stopped_number r ≡ s.number
  pub inside : stopped_at r ≤ length text
  pub rest : drop (stopped_at r) text ≡ s.rest
  pub states : stopped_number r ≡ accepted → take N states' ≡ s.states

-- space for masks and states, the states zero
pub record TextRoom (masks states : List ℕ) : Type 0 where
  pub masks_room : max_controllers ≤ length masks
  pub states_room : max_states ≤ length states
  pub zeros : (k : ℕ) → k < max_states → get_or states k 0 ≡ 0

-- a text was read as s says, and its recording is in masks and states
pub record TextRead (s : RecordingScan) (h : RecordingHeading) (masks' states' : List ℕ) : Type 0 where
  pub number : accepted ≡ s.number
  pub few : h.controllers ≤ max_controllers
  pub short : h.count ≤ max_states
  pub masks_there : h.controllers ≤ length masks'
  pub states_there : h.count ≤ length states'
  pub controllers : h.controllers ≡ s.controllers
  pub count : h.count ≡ s.count
  pub masks : take h.controllers masks' ≡ s.masks
  pub states : take h.count states' ≡ s.states

-- a text was refused as s says
pub record TextStopped (s : RecordingScan) (text : List ℕ) (stop : Stop) : Type 0 where
  pub number : number_of stop.refusal ≡ s.number
  pub inside : stop.at ≤ length text
  pub rest : drop stop.at text ≡ s.rest
  pub low : number_of stop.refusal < lent_short

abbrev pub TextScanned : (s : RecordingScan) (text : List ℕ) (r : Result RecordingHeading Stop) (masks' states' : List ℕ) → Type 0
TextScanned s text r masks' states' = MatchResult r (λ h. TextRead s h masks' states') (TextStopped s text)
