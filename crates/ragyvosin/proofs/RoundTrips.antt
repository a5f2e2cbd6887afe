-- The contracts of `read_rule` and `write_rule` undo each other: an accepted text that is read and written is the same with byte 10 at each line,
-- and a written table that is read is that table again.
use mathlib.Core.Path.{◌≡◌, refl, ap, sym, subst, ◌∙◌}
use mathlib.Core.List.{List, [], ◌∷◌, ◌++◌}
use Prim.Native.Nat.{ℕ, ◌-◌, ◌≤◌}
use native.Mathlib.Omega.{arith}
use lib.ListN.{length, take, drop, replicate}
use lib.Seq.{take_at}
use Rattle.definitions.specs.Limits.{max_rule_nodes, max_rule_bytes}
use Rattle.definitions.specs.Bounded.{pick}
use Rattle.definitions.specs.Tables.{Rule, rule_of}
use Rattle.definitions.specs.Lines.{carriage_return, with_newlines}
use Rattle.definitions.specs.RuleText.{scan_rule}
use Rattle.definitions.specs.Operations.{Answer, answer, text_of, read_rule_number, read_rule_answer, read_rule_nodes, write_rule_number, write_rule_answer, write_rule_text}
use Rattle.theorems.proofs.LentSpace.{left_accepted}
use Rattle.theorems.proofs.SplitLaws.{Without}
use Rattle.theorems.proofs.EndingLaws.{plain_same}
use Rattle.theorems.proofs.RoundTrips as theorem
use Rattle.rule_reader.specs.Reading.{read_answer, ReadRule}
use Rattle.rule_writer.specs.Writing.{write_answer, WroteRule}
use Rattle.std.specs.Prelude.{Ok, Err}
use Rattle.rules.proofs.RefusalLaws.{number_some}
use Rattle.ragyvosin.specs.Results.{RuleRead, TextWritten}

-- controller and node count of an accepted rule
abbrev pub rule_ok : ℕ → ℕ → RuleRead
rule_ok c n = Ok (record { controller = c; count = n })

-- what an accepted answer holds
number_of : (number : ℕ) (values : List ℕ) (a : Answer) → a ≡ answer number values → a.number ≡ number
unfolding answer
number_of number values a e = ap (λ (x : Answer). x.number) e

values_of : (number : ℕ) (values : List ℕ) (a : Answer) → a ≡ answer number values → number ≡ 0 → a.values ≡ values
unfolding answer pick
values_of number values a e z = ap (λ (x : Answer). x.values) e ∙ rw z

empty_cons : {P : Type 0} (x : ℕ) (l : List ℕ) → [] ≡ x ∷ l → P
empty_cons x l e = let z : ◌≡◌ {A = ℕ} 0 1 = cc in absurd (omega arith)

is_length : (w : TextWritten) (n : ℕ) → write_answer w ≡ answer 0 (n ∷ []) → w ≡ Ok n
unfolding answer pick
is_length (Ok m) n e =
    let v : m ∷ [] ≡ n ∷ [] = values_of 0 (n ∷ []) (write_answer (Ok m)) e refl in
    let q : m ≡ n = cc in
    ap Ok q
is_length (Err refusal) n e = absurd (number_some refusal (ap (λ (x : Answer). x.number) e))

is_rule : (r : RuleRead) (c n : ℕ) → read_answer r ≡ answer 0 (c ∷ n ∷ []) → r ≡ rule_ok c n
unfolding answer pick
is_rule (Ok h) c n e =
    let v : h.controller ∷ h.count ∷ [] ≡ c ∷ n ∷ [] = values_of 0 (c ∷ n ∷ []) (read_answer (Ok h)) e refl in
    let p : h.controller ≡ c = cc in
    let q : h.count ≡ n = cc in
    ap (λ (x : ℕ). rule_ok x h.count) p ∙ ap (rule_ok c) q
is_rule (Err refusal) c n e = absurd (number_some refusal (ap (λ (x : Answer). x.number) e))

-- a text is handed back: its length is answered, lent space holds it, then zeros, then what was lent past its full size
pub record TextBack (text buffer : List ℕ) (w : TextWritten) (buffer' : List ℕ) : Type 0 where
  pub length_is : w ≡ Ok (length text)
  pub holds : buffer' ≡ text ++ (replicate (max_rule_bytes - length text) 0 ++ drop max_rule_bytes buffer)

-- the table of an accepted text
record TableOf (text nodes nodes' : List ℕ) (c n : ℕ) : Type 0 where
  fine : read_rule_number text nodes ≡ 0
  table : rule_of c n nodes' ≡ rule_of (scan_rule text).controller (scan_rule text).count (read_rule_nodes text nodes)

table_of : (text nodes nodes' : List ℕ) (c n : ℕ) → ReadRule text nodes (rule_ok c n) nodes' → TableOf text nodes nodes' c n
unfolding read_rule_answer answer pick
table_of text nodes nodes' c n r =
    let e : 0 ≡ read_rule_number text nodes = number_of (read_rule_number text nodes) _ _ r.answered in
    let v : c ∷ n ∷ [] ≡ (scan_rule text).controller ∷ (scan_rule text).count ∷ [] = values_of (read_rule_number text nodes) _ _ r.answered (sym e) in
    let p : c ≡ (scan_rule text).controller = cc in
    let q : n ≡ (scan_rule text).count = cc in
    record {
      fine = sym e;
      table = ap (λ (x : ℕ). rule_of x n nodes') p
          ∙ (ap (λ (x : ℕ). rule_of (scan_rule text).controller x nodes') q
          ∙ ap (rule_of (scan_rule text).controller (scan_rule text).count) r.nodes);
    }

-- "an accepted rule text with other endings comes back with byte 10 at each line and otherwise unchanged"
pub text_back : (text nodes nodes' buffer buffer' : List ℕ) (c n : ℕ) (w : TextWritten) → ReadRule text nodes (rule_ok c n) nodes'
    → max_rule_bytes ≤ length buffer → WroteRule (rule_of c n nodes') buffer w buffer' → TextBack (with_newlines text) buffer w buffer'
text_back text nodes nodes' buffer buffer' c n w r h s =
    let t = table_of text nodes nodes' c n r in
    let b = theorem.accepted_text_comes_back text nodes buffer t.fine h in
    record {
      length_is = is_length w (length (with_newlines text)) (s.answered ∙ (ap (λ (x : Rule). write_rule_answer x buffer) t.table ∙ b.answered));
      holds = s.text ∙ (ap (λ (x : Rule). write_rule_text x buffer) t.table ∙ b.holds);
    }

-- "an accepted text is written back byte for byte", where it has no byte 13
pub plain_text_back : (text nodes nodes' buffer buffer' : List ℕ) (c n : ℕ) (w : TextWritten) → Without carriage_return text → ReadRule text nodes (rule_ok c n) nodes'
    → max_rule_bytes ≤ length buffer → WroteRule (rule_of c n nodes') buffer w buffer' → TextBack text buffer w buffer'
plain_text_back text nodes nodes' buffer buffer' c n w p r h s =
    subst (λ (t : List ℕ). TextBack t buffer w buffer') (plain_same text p) (text_back text nodes nodes' buffer buffer' c n w r h s)

-- a table is handed back: its controller and count are answered, lent space holds its nodes, then zeros, then what was lent past its full size
pub record TableBack (c n : ℕ) (ws nodes : List ℕ) (r : RuleRead) (nodes' : List ℕ) : Type 0 where
  pub heading_is : r ≡ rule_ok c n
  pub holds : nodes' ≡ take n ws ++ (replicate (max_rule_nodes - n) 0 ++ drop max_rule_nodes nodes)

module _ (rule : Rule) (buffer buffer' : List ℕ) (l : ℕ) (w : WroteRule rule buffer (Ok l) buffer') where
  fine : write_rule_number rule buffer ≡ 0
  unfolding write_rule_answer answer
  fine = sym (number_of (write_rule_number rule buffer) _ _ w.answered)

  long : length (text_of rule) ≡ l
  unfolding write_rule_answer answer pick
  long =
      let v : l ∷ [] ≡ length (text_of rule) ∷ [] = values_of (write_rule_number rule buffer) _ _ w.answered fine in
      let q : l ≡ length (text_of rule) = cc in
      sym q

  -- the part that was written
  the_text : take l buffer' ≡ text_of rule
  unfolding write_rule_text
  the_text =
      ap (take l) (w.text ∙ rw fine (left_accepted max_rule_bytes (text_of rule) buffer))
      ∙ take_at (text_of rule) (replicate (max_rule_bytes - length (text_of rule)) 0 ++ drop max_rule_bytes buffer) l long

-- "read again it is that table"
pub table_back : (c n : ℕ) (ws buffer buffer' nodes nodes' : List ℕ) (l : ℕ) (r : RuleRead) → WroteRule (rule_of c n ws) buffer (Ok l) buffer'
    → max_rule_nodes ≤ length nodes → ReadRule (take l buffer') nodes r nodes' → TableBack c n ws nodes r nodes'
table_back c n ws buffer buffer' nodes nodes' l r w h s =
    let rule = rule_of c n ws in
    let t = the_text rule buffer buffer' l w in
    let b = theorem.written_table_comes_back rule buffer nodes (fine rule buffer buffer' l w) h in
    record {
      heading_is = is_rule r c n (s.answered ∙ (ap (λ (x : List ℕ). read_rule_answer x nodes) t ∙ b.answered));
      holds = s.nodes ∙ (ap (λ (x : List ℕ). read_rule_nodes x nodes) t ∙ b.holds);
    }
