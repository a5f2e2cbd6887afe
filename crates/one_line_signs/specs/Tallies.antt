-- What a pass over the signs counts, and the refusal that it tells.
use Rattle.std.specs.Prelude.{◌≡◌, ℕ, ◌+◌, ◌-◌, ◌≤◌, Bool, true, false, not, ◌&&◌, List, eqb, ltb}
use Rattle.definitions.specs.Limits.{max_line_bytes}
use Rattle.definitions.specs.OneLineSigns.{Sign, true_sign, atom_sign, prefix_sign, infix_sign, open_bracket, close_bracket}
use Rattle.definitions.specs.OneLineGrammar.{larger, open_at_once}
use Rattle.theorems.proofs.Phrases.{flat, operand, sign_nodes, weight, sign_low, low_atoms}
use Rattle.one_line_signs.specs.Signs.{sign_in, signs_in}
use Rattle.one_line_signs.specs.declared.sign.Sign.{Sign as SignCode}
use Rattle.one_line_signs.specs.declared.tally.Tally.{Tally}

-- a sign may stand where an operand is due, or else an operator
abbrev pub may_stand : Sign → Bool → ℕ → Bool
may_stand true_sign due k = due
may_stand (atom_sign n) due k = due
may_stand (prefix_sign x) due k = due
may_stand (infix_sign x) due k = not due
may_stand open_bracket due k = due
may_stand close_bracket due k = not due && ltb 0 k

-- an operand is due after it
abbrev pub due_after : Sign → Bool
due_after true_sign = false
due_after (atom_sign n) = false
due_after (prefix_sign x) = true
due_after (infix_sign x) = true
due_after open_bracket = true
due_after close_bracket = false

-- so many brackets are open after it
abbrev pub open_after : Sign → ℕ → ℕ
open_after true_sign k = k
open_after (atom_sign n) k = k
open_after (prefix_sign x) k = k
open_after (infix_sign x) k = k
open_after open_bracket k = k + 1
open_after close_bracket k = k - 1

-- counts that are far from overflowing
pub record Few (t : Tally) : Type 0 where
  pub opened : t.opened ≤ max_line_bytes
  pub nodes : t.nodes ≤ 4096

-- one sign more
pub record Stepped (t : Tally) (x : SignCode) (r : Tally) : Type 0 where
  pub placed : r.placed ≡ (t.placed && may_stand (sign_in x) t.due t.opened)
  pub due : r.due ≡ due_after (sign_in x)
  pub opened : r.opened ≡ open_after (sign_in x) t.opened
  pub most : r.most ≡ larger t.most (open_after (sign_in x) t.opened)
  pub nodes : r.nodes ≡ t.nodes + sign_nodes (sign_in x)
  pub low_atoms_lem : r.low_atoms ≡ (t.low_atoms && sign_low (sign_in x))

-- the signs end well
abbrev pub ended : Tally → Bool
ended t = t.placed && not t.due && eqb t.opened 0

-- all signs
pub record Tallied (signs : List SignCode) (r : Tally) : Type 0 where
  pub sentence : ended r ≡ flat (signs_in signs) operand 0
  pub most : r.most ≡ open_at_once (signs_in signs)
  pub nodes : r.nodes ≡ weight (signs_in signs)
  pub low_atoms_lem : r.low_atoms ≡ low_atoms (signs_in signs)
