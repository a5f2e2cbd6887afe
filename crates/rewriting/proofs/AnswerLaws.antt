-- The rewriting of a rule: one law for each return.
use Rattle.std.proofs.Common.{arith, Bool, true, false, ◌&&◌, ◌≡◌, ◌∙◌, sym, ap, ℕ, ◌+◌, ◌-◌, ◌<◌, ◌≤◌, List, ◌++◌, map, length, take, drop, Ok, Err}
use borrow.Author.Tests.{lt-ltb, le-ltb, ne_eqb}
use Rattle.std.proofs.lemmas.List.{length-map}
use Rattle.definitions.specs.Limits.{max_table_nodes, lent_short, accepted}
use Rattle.definitions.specs.Bounded.{pick}
use Rattle.definitions.specs.Nodes as words
use Rattle.definitions.specs.Nodes.{node_of, node_word}
use Rattle.definitions.specs.Tables.{Rule, nodes_in, rule_refusal, rule_of}
use Rattle.definitions.specs.Rewriting as table
use Rattle.definitions.specs.Rewriting.{emit, closing, closed, rewriting}
use Rattle.definitions.specs.Operations.{answer, rewrite_number, rewrite_answer, rewrite_table}
use Rattle.theorems.proofs.Counts.{emit_count}
use Rattle.theorems.proofs.NodeLaws.{accepted_rule}
use Rattle.theorems.proofs.RuleNodes.{rule_some, rule_few, rule_length_lem}
use Rattle.theorems.proofs.RefusalBounds.{rule_low}
use Rattle.theorems.proofs.RoundTrips.{nodes_past_lem}
use Rattle.theorems.proofs.LentSpace.{left_short, left_accepted, left_refused}
use Rattle.lent.specs.Space.{filled, cleared}
use Rattle.rules.specs.Refusals.{number_of}
use Rattle.rules.specs.declared.refusal.Refusal.{Refusal}
use Rattle.rules.specs.declared.refusal.Refusal.TheVariants.{LentShort}
use Rattle.rules.proofs.RefusalLaws.{number_some}
use Rattle.rewriting.specs.declared.drafts.Draft.{Draft}
use Rattle.images.specs.declared.Tops.{Tops}
use Rattle.images.specs.Images.{meant, ClosedBy}
use Rattle.rewriting.specs.Drafts.{Ruled, Drawn, draft_of}
use Rattle.rewriting.specs.Answers.{Tabled, TableOf, Rewrote}
use Rattle.images.proofs.EmitLaws.{emit_append, holds_more, seam_take, seam_drop}

module _ (short : Bool) (mask : ℕ) (ws o : List ℕ) (d : Draft) (o' : List ℕ) (w : Drawn short mask ws o d o') where
  is_closed_lem : rewriting short mask (map node_of ws) ≡ closed (short && d.last.tolerant) (draft_of short mask ws).nodes (meant d.last)
  unfolding rewriting
  is_closed_lem = ap (λ (i : table.Image). closed (short && i.tolerant) (draft_of short mask ws).nodes i) (sym w.last)

  -- `tabled`, a tolerant rule rewritten short: the draft, without a closing, is `rewriting` (`Tabled`)
  pub tabled_open : (short && d.last.tolerant) ≡ true → Tabled short mask ws o (record { count = d.at; weak = d.last.weak; strong = d.last.strong }) o'
  tabled_open e =
      let c : rewriting short mask (map node_of ws) ≡ closed true (draft_of short mask ws).nodes (meant d.last) = rw e at is_closed_lem in
      record { holds = rw c w.holds; weak = rw c; strong = rw c; low = omega (arith, w.low) }

  -- `tabled`, another rule: the draft and its closing are `rewriting` (`Tabled`)
  pub tabled_closed : (o'' : List ℕ) (t : Tops) → (short && d.last.tolerant) ≡ false → ClosedBy (meant d.last) o' d.at t o'' → Tabled short mask ws o t o''
  tabled_closed o'' t e p =
      let T = (draft_of short mask ws).nodes in
      let weak = closing true d.last.weak in
      let strong = closing false d.last.strong in
      let c : rewriting short mask (map node_of ws) ≡ closed false T (meant d.last) = rw e at is_closed_lem in
      let h = rw (emit_append T weak strong) at (holds_more T (weak ++ strong) o o' o'' d.at t.count w.holds p.emits) in
      let u : length (emit T weak) ≡ length T + 4 = emit_count T weak in
      let v : length (emit (emit T weak) strong) ≡ length T + 8 = emit_count (emit T weak) strong ∙ omega arith in
      record {
        holds = rw c h;
        weak = rw c (omega (arith, p.weak, w.holds.next));
        strong = rw c (omega (arith, p.strong, w.holds.next));
        low = omega (arith, w.low, p.emits.next);
      }

-- the rest of the table is cleared
-- `rewrite_accepted`: the table holds the rewritten nodes and then zeros (`TableOf`)
pub table_of : (short : Bool) (mask : ℕ) (ws o : List ℕ) (t : Tops) (o' o'' : List ℕ) → max_table_nodes ≤ length o → Tabled short mask ws o t o' →
    o'' ≡ cleared o' t.count max_table_nodes → TableOf (rewriting short mask (map node_of ws)) o t o''
unfolding filled
table_of short mask ws o t o' o'' h b c =
    let T : List words.Node = (rewriting short mask (map node_of ws)).nodes in
    let n : t.count ≡ length T = b.holds.next in
    let l : length (map node_word T) ≡ t.count = length-map T node_word ∙ sym n in
    let m : t.count + (max_table_nodes - t.count) ≡ max_table_nodes = omega (arith, b.low) in
    let front : take t.count o' ≡ map node_word T = seam_take o o' (map node_word T) t.count b.holds.words l in
    let rest : drop max_table_nodes o' ≡ drop max_table_nodes o =
    rw m at (seam_drop o o' (map node_word T) t.count b.holds.words l (max_table_nodes - t.count)) in
    record {
      table = c ∙ rw (front, rest, ← l) (sym (left_accepted max_table_nodes (map node_word T) o));
      count = n;
      few = b.low;
      weak = b.weak;
      strong = b.strong;
    }

-- `rewrite`, an accepted rule: as many nodes as it counts are there, and they are a rule's (`Ruled`)
module _ (controller count : ℕ) (ws : List ℕ) (h : accepted ≡ rule_refusal (rule_of controller count ws)) where
  abbrev R : Rule
  R = rule_of controller count ws

  pub rule_there : count ≡ length (take count ws)
  rule_there = sym (rule_length_lem R (sym h)) ∙ length-map (take count ws) node_of

  pub ruled : Ruled (take count ws)
  ruled = record {
    some = rw (← rule_there) (rule_some R (sym h));
    few = rw (← rule_there) (rule_few R (sym h));
    fine = rw (← rule_there) (nodes_past_lem false 0 count ws ∙ (accepted_rule R (sym h)).1);
  }

module _ (short : Bool) (r : Rule) (mask : ℕ) (o : List ℕ) where
  number_short : length o < max_table_nodes → rewrite_number r o ≡ lent_short
  unfolding rewrite_number pick
  number_short h = rw (lt-ltb (length o) max_table_nodes h)

  number_long : max_table_nodes ≤ length o → rewrite_number r o ≡ rule_refusal r
  unfolding rewrite_number pick
  number_long h = rw (le-ltb (length o) max_table_nodes h)

  -- `rewrite`, too little is lent: `rewrite_answer` is 13, `rewrite_table` what was lent
  pub rewrote_short : length o < max_table_nodes → Rewrote short r mask o (Err LentShort) o
  unfolding rewrite_answer rewrite_table answer pick
  rewrote_short h = record { answered = rw (number_short h); table = rw (number_short h) (sym (left_short max_table_nodes _ o)) }

  -- `rewrite`, a refused rule: `rewrite_answer` is its number, `rewrite_table` is zero over its full size
  pub rewrote_refused : (e : Refusal) (o' : List ℕ) → max_table_nodes ≤ length o → number_of e ≡ rule_refusal r → o' ≡ cleared o 0 max_table_nodes →
      Rewrote short r mask o (Err e) o'
  unfolding rewrite_answer rewrite_table answer pick filled
  rewrote_refused e o' h f c =
      let n : rewrite_number r o ≡ number_of e = number_long h ∙ sym f in
      let m : number_of e < lent_short = rw f (rule_low r) in
      record {
        answered = rw (n, ne_eqb (number_of e) 0 (number_some e));
        table = c ∙ rw n (sym (left_refused (number_of e) max_table_nodes _ o (number_some e) (λ q. omega arith)));
      }

  -- `rewrite`, an accepted rule: `rewrite_answer` is the count and the tops, `rewrite_table` the rewritten nodes
  pub rewrote_done : (t : Tops) (o' : List ℕ) → max_table_nodes ≤ length o → accepted ≡ rule_refusal r →
      TableOf (rewriting short mask (nodes_in r.count r.nodes)) o t o' → Rewrote short r mask o (Ok t) o'
  unfolding rewrite_answer rewrite_table answer pick
  rewrote_done t o' h z b =
      let n : rewrite_number r o ≡ accepted = number_long h ∙ sym z in
      record {
        answered = rw (n, b.count, b.weak, b.strong);
        table = b.table ∙ rw n;
      }
