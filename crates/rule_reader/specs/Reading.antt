-- What the reader of a rule text answers, and what it leaves in lent space.
use Rattle.std.specs.Prelude.{◌≡◌, ℕ, ◌-◌, ◌<◌, ◌≤◌, List, [], ◌∷◌, length, drop, Result, MatchResult}
use Rattle.definitions.specs.Limits.{accepted, lent_short, max_rule_nodes}
use Rattle.definitions.specs.RuleText.{scan_rule}
use Rattle.definitions.specs.Operations.{Answer, read_rule_answer, read_rule_nodes}
use Rattle.lent.specs.Space.{laid}
use Rattle.lines.specs.declared.CutShort.{CutShort}
use Rattle.rules.specs.Answers.{answer_of}
use Rattle.rules.specs.Refusals.{number_of}
use Rattle.rules.specs.declared.refusal.Refusal.{Refusal}
use Rattle.rules.specs.declared.rule.RuleHeading.{RuleHeading}

-- lent space of full size
pub record Room (nodes : List ℕ) : Type 0 where
  pub room : max_rule_nodes ≤ length nodes

-- what the node lines ask of their caller
pub record NodeRoom (count start : ℕ) (text nodes : List ℕ) : Type 0 where
  pub few : count ≤ max_rule_nodes
  pub inside : start ≤ length text
  pub room : max_rule_nodes ≤ length nodes

-- where a rule text is refused by its first line: there is no controller and no count
abbrev pub unread : Refusal → CutShort RuleHeading
unread refusal = record { read = record { controller = 0; count = 0 }; stop = record { refusal = refusal; at = 0 } }

-- a rule text was accepted: controller and count, and as many words as there are nodes
pub record RuleAccepted (text : List ℕ) (h : RuleHeading) : Type 0 where
  pub number : accepted ≡ (scan_rule text).number
  pub controller : h.controller ≡ (scan_rule text).controller
  pub count : h.count ≡ (scan_rule text).count
  pub few : h.count ≤ max_rule_nodes
  pub nodes_count : length (scan_rule text).words ≡ h.count

-- a rule text was refused: the refusal, controller and count, and the place of the refused line
pub record RuleRefused (text : List ℕ) (cut : CutShort RuleHeading) : Type 0 where
  pub number : number_of cut.stop.refusal ≡ (scan_rule text).number
  pub controller : cut.read.controller ≡ (scan_rule text).controller
  pub count : cut.read.count ≡ (scan_rule text).count
  pub place : cut.stop.at ≡ length text - length (scan_rule text).rest
  pub inside : cut.stop.at ≤ length text
  pub rest : drop cut.stop.at text ≡ (scan_rule text).rest
  pub low : number_of cut.stop.refusal < lent_short
  pub few : cut.read.count ≤ max_rule_nodes

-- a rule text was read: how it ended, and the words up to there
pub record RuleScanned (text entry : List ℕ) (r : Result RuleHeading (CutShort RuleHeading)) (exit : List ℕ) : Type 0 where
  pub ended : MatchResult r (RuleAccepted text) (RuleRefused text)
  pub nodes_laid : exit ≡ laid (scan_rule text).words entry
  pub nodes_past : drop max_rule_nodes exit ≡ drop max_rule_nodes entry

-- "read a rule (controller, count, nodes)": the number and the values of each case
abbrev pub read_answer : Result RuleHeading Refusal → Answer
read_answer = answer_of (λ (h : RuleHeading). h.controller ∷ h.count ∷ [])

-- the whole answer, and all of the lent nodes
pub record ReadRule (text entry : List ℕ) (r : Result RuleHeading Refusal) (exit : List ℕ) : Type 0 where
  pub answered : read_answer r ≡ read_rule_answer text entry
  pub nodes : exit ≡ read_rule_nodes text entry
