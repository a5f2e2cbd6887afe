-- What a rewriting answers, and what it leaves in the table.
use Rattle.std.specs.Prelude.{Bool, Result, List, [], ◌∷◌, map, ◌≡◌, ℕ, ◌≤◌, length}
use Rattle.definitions.specs.Limits.{accepted, max_table_nodes}
use Rattle.definitions.specs.Tables.{Rule}
use Rattle.definitions.specs.Nodes.{node_of, node_word}
use Rattle.definitions.specs.Rewriting as table
use Rattle.definitions.specs.Rewriting.{rewriting}
use Rattle.definitions.specs.Operations.{left, rewrite_answer, rewrite_table}
use Rattle.rules.specs.Answers.{answer_of}
use Rattle.rules.specs.declared.refusal.Refusal.{Refusal}
use Rattle.images.specs.declared.Tops.{Tops}
use Rattle.images.specs.Emission.{Holds}

-- "node count and both tops"
abbrev pub tops_values : Tops → List ℕ
tops_values t = t.count ∷ t.weak ∷ t.strong ∷ []

-- the rewritten nodes are in the table, and r tells their count and tops
pub record Tabled (short : Bool) (mask : ℕ) (ws o : List ℕ) (r : Tops) (o' : List ℕ) : Type 0 where
  pub holds : Holds (rewriting short mask (map node_of ws)).nodes o r.count o'
  pub weak : r.weak ≡ (rewriting short mask (map node_of ws)).weak_top
  pub strong : r.strong ≡ (rewriting short mask (map node_of ws)).strong_top
  pub low : r.count ≤ max_table_nodes

-- the table of a rule in lent space, the rest of its full size zero, and r tells its count and tops
pub record TableOf (T : table.Rewritten) (o : List ℕ) (r : Tops) (o' : List ℕ) : Type 0 where
  pub table : o' ≡ left accepted max_table_nodes (map node_word T.nodes) o
  pub count : r.count ≡ length T.nodes
  pub few : r.count ≤ max_table_nodes
  pub weak : r.weak ≡ T.weak_top
  pub strong : r.strong ≡ T.strong_top

-- the whole answer and the whole lent table, on every input: "rewrite plain or short (rule and own mask, any 32 bits)"
pub record Rewrote (short : Bool) (rule : Rule) (mask : ℕ) (entry : List ℕ) (r : Result Tops Refusal) (exit : List ℕ) : Type 0 where
  pub answered : answer_of tops_values r ≡ rewrite_answer short rule mask entry
  pub table : exit ≡ rewrite_table short rule mask entry
