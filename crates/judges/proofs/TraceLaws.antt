-- The rows over the trace of state words are the rows over the whole recording, and over a local trace.
use mathlib.Core.Path.{◌≡◌, refl, ap, ap₂, ◌∙◌}
use mathlib.Core.Bool.{Bool, true, false, true≢false}
use mathlib.Core.List.{List, [], ◌∷◌, ◌++◌}
use Prim.Native.Nat.{ℕ, ◌-◌, ◌^◌, ◌<◌}
use native.Mathlib.Omega.{arith}
use lib.ListN.{length, take, get_or, replicate, get_or-replicate, get_or-append}
use lib.Seq.{get_or-take}
use Rattle.definitions.specs.Limits.{atom_count}
use Rattle.definitions.specs.Bounded.{pick, bit_of, tabulate}
use Rattle.definitions.specs.Nodes.{Kind, True, Atom, Not, Or, Next, Until, Prev, Since, Run, End, Unknown, Node}
use Rattle.definitions.specs.Tables.{is_rewritten, nodes_refusal, nodes_in}
use Rattle.definitions.specs.Recordings.{Recording, word_at, runs_at}
use Rattle.definitions.specs.Projection.{end_at}
use Rattle.definitions.specs.Readings.{Trace, local, whole, reading, read_from, Rows, node_rows, rows_after, rows_of, marks_word}
use Rattle.theorems.proofs.Tabulations.{tabulate_same}
use Rattle.mark_words.proofs.WordLaws.{bit_low, word_bit, word_full}
use Rattle.evaluation.specs.Traced.{state_atom, state_run, trace_of, every_atom}
use Rattle.judges.proofs.CheckedNodes.{Each, each_node, node_fit, rule_kind}

abbrev pub trace_from : ℕ → (ℕ → Bool → ℕ → Bool) → (ℕ → Bool) → (ℕ → Bool) → Trace
trace_from n atom run end = record { places = n; atom = atom; run = run; end = end }

-- two traces agree on what a leaf reads
abbrev pub LeafAgrees : Trace → Trace → Kind → ℕ → Type 0
LeafAgrees t u True a = Unit {0}
LeafAgrees t u Atom a = (weak : Bool) (i : ℕ) → i < t.places → t.atom a weak i ≡ u.atom a weak i
LeafAgrees t u Not a = Unit {0}
LeafAgrees t u Or a = Unit {0}
LeafAgrees t u Next a = Unit {0}
LeafAgrees t u Until a = Unit {0}
LeafAgrees t u Prev a = Unit {0}
LeafAgrees t u Since a = Unit {0}
LeafAgrees t u Run a = (i : ℕ) → i < t.places → t.run i ≡ u.run i
LeafAgrees t u End a = (i : ℕ) → i < t.places → t.end i ≡ u.end i
LeafAgrees t u Unknown a = Unit {0}

-- two traces of n places that agree on the leaves that occur give the same rows
module _ (n : ℕ) (atom atom' : ℕ → Bool → ℕ → Bool) (run run' end end' : ℕ → Bool) where
  abbrev t : Trace
  t = trace_from n atom run end

  abbrev u : Trace
  u = trace_from n atom' run' end'

  reading_agrees : (rs : List Rows) (k : Kind) (a b : ℕ) → LeafAgrees t u k a → (weak : Bool)
      → tabulate n (reading t (read_from rs) k a b weak) ≡ tabulate n (reading u (read_from rs) k a b weak)
  reading_agrees rs True a b h weak = refl
  reading_agrees rs Atom a b h weak = tabulate_same n (atom a weak) (atom' a weak) (h weak)
  reading_agrees rs Not a b h weak = refl
  reading_agrees rs Or a b h weak = refl
  reading_agrees rs Next a b h weak = refl
  reading_agrees rs Until a b h weak = refl
  reading_agrees rs Prev a b h weak = refl
  reading_agrees rs Since a b h weak = refl
  reading_agrees rs Run a b h weak = tabulate_same n run run' h
  reading_agrees rs End a b h weak = tabulate_same n end end' h
  reading_agrees rs Unknown a b h weak = refl

  node_agrees : (rs : List Rows) (x : Node) → LeafAgrees t u x.kind x.first → node_rows t rs x ≡ node_rows u rs x
  node_agrees rs x h =
      ap₂ (λ w s. record { weak = w; strong = s })
      (reading_agrees rs x.kind x.first x.second h true)
      (reading_agrees rs x.kind x.first x.second h false)

  after_agrees : (rs : List Rows) (ns : List Node) → Each (λ x. LeafAgrees t u x.kind x.first) ns → rows_after t rs ns ≡ rows_after u rs ns
  after_agrees rs [] h = refl
  after_agrees rs (x ∷ ns) h =
      after_agrees (rs ++ (node_rows t rs x ∷ [])) ns h.1 ∙ ap (λ (r : Rows). rows_after u (rs ++ (r ∷ [])) ns) (node_agrees rs x h.0)

  pub rows_agree : (ns : List Node) → Each (λ x. LeafAgrees t u x.kind x.first) ns → rows_of t ns ≡ rows_of u ns
  unfolding rows_of
  rows_agree ns h = after_agrees [] ns h

-- ---- the whole recording: every atom is own

all_bits : (d a : ℕ) → a < d → bit_of (2 ^ d - 1) a ≡ true
all_bits d a h =
    let m : 2 ^ d - 1 ≡ marks_word (replicate d true) = omega (arith, word_full d) in
    rw (m, word_bit, get_or-replicate d a true false h)

every_own : (a : ℕ) → a < atom_count → bit_of every_atom a ≡ true
every_own a h = all_bits atom_count a h

module _ (R : Recording) (c : ℕ) where
  abbrev states : List ℕ
  states = R.states

  atom_recorded : (a : ℕ) → a < atom_count → (weak : Bool) (i : ℕ) → i < R.count → bit_of (word_at R i) a ≡ state_atom states R.count every_atom a weak i
  unfolding pick
  atom_recorded a h weak i l =
      bit_low (get_or (take R.count states) i 0) atom_count a h ∙ rw (every_own a h, get_or-take R.count states i 0 l)

  leaf_recorded : (k : Kind) (a : ℕ) → (k ≡ Atom → a < atom_count) → LeafAgrees (whole R c) (trace_of states R.count c every_atom) k a
  leaf_recorded True a h = tt
  leaf_recorded Atom a h = atom_recorded a (h refl)
  leaf_recorded Not a h = tt
  leaf_recorded Or a h = tt
  leaf_recorded Next a h = tt
  leaf_recorded Until a h = tt
  leaf_recorded Prev a h = tt
  leaf_recorded Since a h = tt
  leaf_recorded Run a h = λ i l. refl
  leaf_recorded End a h = λ i l. refl
  leaf_recorded Unknown a h = tt

  pub whole_rows : (count : ℕ) (nodes : List ℕ) → nodes_refusal true 0 count nodes ≡ 0
      → rows_of (whole R c) (nodes_in count nodes) ≡ rows_of (trace_of states R.count c every_atom) (nodes_in count nodes)
  whole_rows count nodes h =
      rows_agree R.count (λ a weak k. bit_of (word_at R k) a) (state_atom states R.count every_atom) (runs_at R c) (state_run states R.count c) (end_at (runs_at R c) R.count) (end_at (state_run states R.count c) R.count) (nodes_in count nodes)
      (each_node true (λ x. LeafAgrees (whole R c) (trace_of states R.count c every_atom) x.kind x.first)
      (λ i x e. leaf_recorded x.kind x.first (node_fit true i x e).atom) 0 count nodes h)

-- ---- a local trace at the front of an array, and a rule, which has no run and no end

module _ (mask c : ℕ) (ws rest : List ℕ) where
  atom_placed : (a : ℕ) (weak : Bool) (i : ℕ) → i < length ws → (local mask ws).atom a weak i ≡ state_atom (ws ++ rest) (length ws) mask a weak i
  atom_placed a weak i l = rw (get_or-append ws rest 0 i l)

  leaf_placed : (k : Kind) (a : ℕ) → is_rewritten k ≡ false → LeafAgrees (local mask ws) (trace_of (ws ++ rest) (length ws) c mask) k a
  leaf_placed True a h = tt
  leaf_placed Atom a h = atom_placed a
  leaf_placed Not a h = tt
  leaf_placed Or a h = tt
  leaf_placed Next a h = tt
  leaf_placed Until a h = tt
  leaf_placed Prev a h = tt
  leaf_placed Since a h = tt
  leaf_placed Run a h = absurd (true≢false h)
  leaf_placed End a h = absurd (true≢false h)
  leaf_placed Unknown a h = tt

  pub local_rows_lem : (count : ℕ) (nodes : List ℕ) → nodes_refusal false 0 count nodes ≡ 0
      → rows_of (local mask ws) (nodes_in count nodes) ≡ rows_of (trace_of (ws ++ rest) (length ws) c mask) (nodes_in count nodes)
  local_rows_lem count nodes h =
      rows_agree (length ws) (local mask ws).atom (state_atom (ws ++ rest) (length ws) mask) (λ i. false) (state_run (ws ++ rest) (length ws) c) (λ i. false) (end_at (state_run (ws ++ rest) (length ws) c) (length ws)) (nodes_in count nodes)
      (each_node false (λ x. LeafAgrees (local mask ws) (trace_of (ws ++ rest) (length ws) c mask) x.kind x.first)
      (λ i x e. leaf_placed x.kind x.first (rule_kind i x e)) 0 count nodes h)
