-- What the code answers of the next line of a rule text, and of the forms of a node line.
use Rattle.std.specs.Prelude.{ℕ, List, eqb, Option, Some, None}
use Rattle.definitions.specs.Bounded.{pick}
use Rattle.definitions.specs.Nodes as table
use Rattle.definitions.specs.Nodes.{node}
use Rattle.definitions.specs.Lines.{tab, has, after, Parsed, formed, malformed, on_parsed, decimal, Heading, heading, two_fields}
use Rattle.fields.specs.Fields.{cap}
use Rattle.rules.specs.Meaning.{meaning}
use Rattle.rules.specs.declared.node.Node.{Node}
use Rattle.rules.specs.declared.rule.RuleHeading.{RuleHeading}

-- controller and count of the first line
abbrev pub heading_of : Heading → RuleHeading
heading_of h = record { controller = h.first; count = h.second }

-- what the node of a line says, where it is of its form
unfoldable pub meant : Option Node → Parsed table.Node
meant (Some n) = formed (meaning n)
meant None = malformed

-- a node whose operands are read up to the largest number of a field
unfoldable pub capped_form : Parsed table.Node → Parsed table.Node
capped_form (formed n) = formed (node n.kind (cap n.first) (cap n.second))
capped_form malformed = malformed

-- the operands of a line whose kind uses so many: "an unused one is 0"
unfoldable pub operand_fields : (uses : ℕ) → List ℕ → Parsed Heading
operand_fields uses s =
    pick (eqb uses 0) (pick (has tab s) malformed (formed (heading 0 0)))
    (pick (has tab s)
    (pick (eqb uses 1)
    (on_parsed (decimal (after tab s)) malformed (λ a. formed (heading a 0)))
    (two_fields decimal decimal heading (after tab s)))
    malformed)
