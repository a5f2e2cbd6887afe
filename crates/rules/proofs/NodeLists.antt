-- The nodes of a table as a list.
use mathlib.Core.Path.{◌≡◌, ◌∙◌}
use mathlib.Core.List.{List, [], ◌∷◌, ◌++◌, map-append}
use Prim.Native.Nat.{ℕ, ◌+◌, ◌<◌, ◌≤◌}
use native.Mathlib.Numerals.{add-one}
use lib.ListN.{length, take, get_or, length-map}
use lib.Seq.{take-suc, length-take-le}
use Rattle.definitions.specs.Nodes.{node_of}
use Rattle.definitions.specs.Tables.{nodes_in}

pub nodes_more : (nodes : List ℕ) (i : ℕ) → i < length nodes → nodes_in (i + 1) nodes ≡ nodes_in i nodes ++ (node_of (get_or nodes i 0) ∷ [])
nodes_more nodes i h = rw (add-one i, take-suc nodes i 0 h, map-append)

pub nodes_length : (nodes : List ℕ) (i : ℕ) → i ≤ length nodes → length (nodes_in i nodes) ≡ i
nodes_length nodes i h = length-map (take i nodes) node_of ∙ length-take-le i nodes h
