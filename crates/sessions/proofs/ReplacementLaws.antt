-- A new rule (`check_replacement`, `replace_rule`): a law for each return.
use mathlib.Core.Path.{◌≡◌, sym, ◌∙◌}
use Prim.Native.Nat.{ℕ, ◌≤◌, ◌<◌}
use mathlib.Core.List.{List, []}
use lib.ListN.{length, take, get_or, set}
use borrow.Author.Rules.{rules}
use borrow.Author.Tests.{lt-ltb, le-ltb}
use Rattle.definitions.specs.Limits.{max_rule_nodes, lent_short, accepted}
use Rattle.definitions.specs.Bounded.{pick}
use Rattle.definitions.specs.Tables.{Rule, rule_of, rule_refusal}
use Rattle.definitions.specs.Recordings.{controller_refusal}
use Rattle.definitions.specs.Operations.{left}
use Rattle.definitions.specs.Sessions.{Space, lent_space, replacement_refusal, replace_number, Replace, replaced}
use Rattle.theorems.proofs.Choice.{or_else_none}
use Rattle.lent.specs.Space.{Layable}
use Rattle.rules.specs.Refusals.{number_of}
use Rattle.rules.specs.declared.refusal.Refusal.{Refusal}
use Rattle.rules.specs.declared.refusal.Refusal.TheVariants.{LentShort}
use Rattle.sessions.specs.Calls.{ReplaceIs}
use Rattle.sessions.proofs.CallLaws.{refused_leaves, taken_leaves}
use Rattle.sessions.proofs.OpeningLaws.{layable_rule}

module _ (c n : ℕ) (ws heading nodes : List ℕ) where
  abbrev r : Rule
  r = rule_of c n ws

  abbrev h : Space
  h = lent_space heading [] nodes []

  refused : (k : Refusal) → number_of k ≡ replace_number r h → ReplaceIs r heading nodes (number_of k) heading nodes
  refused k e = record { answered = e; left = refused_leaves (Replace r) h k e }

  -- `replace_rule`, the nodes are short: 13
  pub replace_short : length nodes < max_rule_nodes → ReplaceIs r heading nodes lent_short heading nodes
  unfolding replace_number pick
  replace_short l = refused LentShort (rw (lt-ltb (length nodes) max_rule_nodes l))

  module _ (b : max_rule_nodes ≤ length nodes) where
    number_is : replace_number r h ≡ replacement_refusal (get_or heading 0 0) r
    unfolding replace_number pick
    number_is = rw (le-ltb (length nodes) max_rule_nodes b)

    -- refused: `leaves` changes nothing
    pub replace_refused : (k : Refusal) → number_of k ≡ replacement_refusal (get_or heading 0 0) r → ReplaceIs r heading nodes (number_of k) heading nodes
    replace_refused k e = refused k (e ∙ sym number_is)

    module _ (e : accepted ≡ replacement_refusal (get_or heading 0 0) r) where
      pub replace_lay : Layable ws n max_rule_nodes nodes
      unfolding replacement_refusal
      replace_lay = layable_rule c n ws nodes (or_else_none (rule_refusal r) (controller_refusal (get_or heading 0 0) c) (sym e)).0 b

      -- taken: controller, count and nodes are the new rule's, as `replaced` says
      pub replace_taken : (o : List ℕ) → o ≡ left accepted max_rule_nodes (take n ws) nodes → ReplaceIs r heading nodes accepted (set (set heading 1 c) 2 n) o
      unfolding replaced
      replace_taken o eo = let taken : accepted ≡ replace_number r h = e ∙ sym number_is in record { answered = taken; left = rw eo (taken_leaves (Replace r) h taken) }

pub ruleset replace_laws = (rules, replace_short, replace_refused, replace_lay, replace_taken)
