-- Laws of reading a rule text, one for each return, and of what is left in lent space.
use mathlib.Core.Path.{◌≡◌, refl, ap, sym, ◌∙◌}
use mathlib.Core.List.{List, []}
use Prim.Native.Nat.{ℕ, ◌<◌, ◌≤◌}
use native.Mathlib.Omega.{arith}
use lib.ListN.{length, drop, length-drop}
use borrow.Author.Tests.{lt-ltb, le-ltb}
use Rattle.std.specs.Prelude.{Result, Ok, Err, MatchResult}
use Rattle.definitions.specs.Limits.{accepted, max_rule_nodes, lent_short, no_controller}
use Rattle.definitions.specs.Bounded.{pick}
use Rattle.definitions.specs.Lines.{Scan, rest_of, heading}
use Rattle.definitions.specs.RuleText.{scan_nodes, rule_heading_line, RuleScan, rule_stop, rule_nodes, scan_rule}
use Rattle.definitions.specs.Operations.{answer, read_rule_number, read_rule_answer, read_rule_nodes}
use Rattle.theorems.proofs.NextLines.{on_next_lem}
use Rattle.theorems.proofs.RuleTextSteps.{rule_stop_lem, rule_step_lem}
use Rattle.theorems.proofs.LentSpace.{refused_answer}
use Rattle.theorems.proofs.TextNumbers.{rule_text_number}
use Rattle.lent.specs.Space.{laid, cleared}
use Rattle.lent.proofs.LeftLaws.{laid_past, laid_begins, left_untouched, left_zeroed, left_filled}
use Rattle.rules.specs.Refusals.{number_of}
use Rattle.rules.specs.declared.refusal.Refusal.{Refusal}
use Rattle.rules.specs.declared.refusal.Refusal.TheVariants.{LentShort}
use Rattle.rules.specs.declared.rule.RuleHeading.{RuleHeading}
use Rattle.rules.proofs.RefusalLaws.{number_some}
use Rattle.lines.specs.Reading.{FirstLine, LinesScanned}
use Rattle.lines.specs.Told.{next_told}
use Rattle.lines.specs.declared.CutShort.{CutShort}
use Rattle.lines.specs.declared.Line.{Line}
use Rattle.lines.specs.declared.Stop.{Stop}
use Rattle.lines.proofs.LoopLaws.{Counted}
use Rattle.lines.proofs.ToldLaws.{told_refused, read_told}
use Rattle.rule_reader.specs.NextLines.{heading_of}
use Rattle.rule_reader.specs.Reading.{Room, NodeRoom, unread, RuleRefused, RuleScanned, ReadRule}
use Rattle.rule_reader.proofs.HeadingLaws.{Headed, headed}
use Rattle.rule_reader.proofs.LoopLaws.{nodes_counted}

-- ---- `scan_rule`
-- no refusal of a rule text is that of joining, or of lent space
pub rule_low : (t : List ℕ) → (scan_rule t).number < no_controller
rule_low = rule_text_number (λ n. n < no_controller) (omega arith) (omega arith) (omega arith) (omega arith) (omega arith)

-- the count of every text, refused or not, is within its limit
pub told_within : (t : List ℕ) → (scan_rule t).count ≤ max_rule_nodes
unfolding scan_rule
told_within t =
    on_next_lem (λ (s : RuleScan). s.count ≤ max_rule_nodes) (rule_heading_line t) _ _
    (λ number e. omega arith)
    (λ h rest e. (headed t (heading_of h) (read_told heading_of (rule_heading_line t) h rest e)).few)

-- a refused rule text, by its refusal, its line, and controller and count as the definition has them: the rest follows
pub refused_of : (t : List ℕ) (cut : CutShort RuleHeading) → number_of cut.stop.refusal ≡ (scan_rule t).number
    → cut.read.controller ≡ (scan_rule t).controller → cut.read.count ≡ (scan_rule t).count → cut.stop.at ≤ length t → drop cut.stop.at t ≡ (scan_rule t).rest → RuleRefused t cut
refused_of t cut n c k i r =
    record {
      number = n;
      controller = c;
      count = k;
      place = omega (arith, ap length r, length-drop cut.stop.at t, i);
      inside = i;
      rest = r;
      low = omega (arith, n, rule_low t);
      few = omega (arith, k, told_within t);
    }

module _ (t o : List ℕ) (l : Line) (is : FirstLine t l) where
  -- `scan_rule`, the first line is refused: `scan_rule` stops there with its refusal, and tells zeros
  pub rule_unheaded : (r : Refusal) → Err (number_of r) ≡ next_told heading_of (rule_heading_line t) → RuleScanned t o (Err (unread r)) o
  rule_unheaded r h =
      let e : scan_rule t ≡ rule_stop (number_of r) t = rule_stop_lem t (number_of r) (told_refused heading_of (rule_heading_line t) r h) in
      record {
        ended =
            refused_of t (unread r) (sym (ap (λ (q : RuleScan). q.number) e)) (sym (ap (λ (q : RuleScan). q.controller) e)) (sym (ap (λ (q : RuleScan). q.count) e))
            (omega arith) (sym (ap (λ (q : RuleScan). q.rest) e));
        nodes_laid = rw e;
        nodes_past = refl;
      }

  module _ (h : RuleHeading) (e : Ok h ≡ next_told heading_of (rule_heading_line t)) (room : Room o) where
    head : Headed t h
    head = headed t h e

    pub rule_room : NodeRoom h.count l.next t o
    rule_room = record { few = head.few; inside = is.inside; room = room.room }

    abbrev nodes : Scan
    nodes = scan_nodes h.count 0 (drop l.next t)

    whole : scan_rule t ≡ rule_nodes (heading h.controller h.count) nodes
    whole = rule_step_lem t (heading h.controller h.count) (rest_of t) head.is ∙ ap (λ (u : List ℕ). rule_nodes (heading h.controller h.count) (scan_nodes h.count 0 u)) (sym is.rest)

    counted : Counted h.count nodes
    counted = nodes_counted h.count 0 (drop l.next t)

    past : (o' : List ℕ) → o' ≡ laid nodes.words o → drop max_rule_nodes o' ≡ drop max_rule_nodes o
    past o' x = laid_past max_rule_nodes nodes.words o o' (omega (arith, counted.most, head.few)) x

    -- `scan_rule`, a node line is refused: `scan_rule` stops at that line, and tells controller and count
    pub rule_stopped : (s : Stop) (o' : List ℕ) → LinesScanned nodes t o (Err s) o' → RuleScanned t o (Err (record { read = h; stop = s })) o'
    rule_stopped s o' m =
        record {
          ended =
              refused_of t (record { read = h; stop = s }) (m.number ∙ sym (ap (λ (q : RuleScan). q.number) whole))
              (sym (ap (λ (q : RuleScan). q.controller) whole)) (sym (ap (λ (q : RuleScan). q.count) whole)) m.inside (m.rest ∙ sym (ap (λ (q : RuleScan). q.rest) whole));
          nodes_laid = rw whole m.words;
          nodes_past = past o' m.words;
        }

    -- `scan_rule`, all lines are read: `scan_rule` is controller and count, and as many words
    pub rule_scanned : (at : ℕ) (o' : List ℕ) → LinesScanned nodes t o (Ok at) o' → RuleScanned t o (Ok h) o'
    rule_scanned at o' m =
        record {
          ended = record {
            number = m.number ∙ sym (ap (λ (q : RuleScan). q.number) whole);
            controller = sym (ap (λ (q : RuleScan). q.controller) whole);
            count = sym (ap (λ (q : RuleScan). q.count) whole);
            few = head.few;
            nodes_count = ap (λ (x : RuleScan). length x.words) whole ∙ counted.all (sym m.number);
          };
          nodes_laid = rw whole m.words;
          nodes_past = past o' m.words;
        }

-- ---- `read_rule`
refused_is : (n : ℕ) (vs : List ℕ) → (n ≡ 0 → ⊥) → answer n [] ≡ answer n vs
refused_is n vs z = sym (refused_answer n [] z) ∙ refused_answer n vs z

-- `read_rule`: how many nodes are kept
pub kept_is : (r : Result RuleHeading (CutShort RuleHeading)) (k : ℕ) (P : RuleHeading → Type 0) → MatchResult r P (λ s. k ≡ 0) → ((h : RuleHeading) → P h → k ≡ h.count) → MatchResult r (λ h. k ≡ h.count) (λ s. k ≡ 0)
kept_is (Ok h) k P e q = q h e
kept_is (Err s) k P e q = e

module _ (t o : List ℕ) where
  number_short : length o < max_rule_nodes → read_rule_number t o ≡ lent_short
  unfolding read_rule_number pick
  number_short h = rw (lt-ltb (length o) max_rule_nodes h)

  number_scanned : max_rule_nodes ≤ length o → read_rule_number t o ≡ (scan_rule t).number
  unfolding read_rule_number pick
  number_scanned h = rw (le-ltb (length o) max_rule_nodes h)

  -- `read_rule`, 13: `read_rule_nodes` is what was lent
  pub read_short : length o < max_rule_nodes → ReadRule t o (Err LentShort) o
  unfolding read_rule_answer read_rule_nodes
  read_short h =
      let e = number_short h in
      record {
        answered = rw e (refused_is lent_short _ (λ q. omega arith));
        nodes = left_untouched (read_rule_number t o) max_rule_nodes (scan_rule t).words o e;
      }

  module _ (long : max_rule_nodes ≤ length o) (o' o'' : List ℕ) where
    -- `read_rule`, another refusal: `read_rule_nodes` is zero over its full size
    read_refused : (s : CutShort RuleHeading) → RuleScanned t o (Err s) o' → (k : ℕ) → k ≡ 0 → o'' ≡ cleared o' k max_rule_nodes → ReadRule t o (Err s.stop.refusal) o''
    unfolding read_rule_answer read_rule_nodes
    read_refused s r k z c =
        let e = s.stop.refusal in
        let is : read_rule_number t o ≡ number_of e = number_scanned long ∙ sym r.ended.number in
        record {
          answered = rw is (refused_is (number_of e) _ (number_some e));
          nodes = rw is (left_zeroed (number_of e) max_rule_nodes (scan_rule t).words o o' o'' r.nodes_past (λ q. omega (arith, r.ended.low)) (number_some e) (rw z at c));
        }

    -- `read_rule`, accepted: `read_rule_answer` is controller and count, `read_rule_nodes` the words and then zeros
    read_accepted : (h : RuleHeading) → RuleScanned t o (Ok h) o' → (k : ℕ) → k ≡ h.count → o'' ≡ cleared o' k max_rule_nodes → ReadRule t o (Ok h) o''
    unfolding read_rule_answer read_rule_nodes
    read_accepted h r k z c =
        let is : read_rule_number t o ≡ accepted = number_scanned long ∙ sym r.ended.number in
        let s = r.ended in
        record {
          answered = rw (is, s.controller, s.count);
          nodes = rw is (left_filled accepted max_rule_nodes (scan_rule t).words o o' o'' r.nodes_past h.count refl s.nodes_count
              (laid_begins h.count (scan_rule t).words o o' s.nodes_count r.nodes_laid) (rw z at c));
        }

-- `read_rule`: lent space is cleared behind what is kept
pub read_done : (t o o' o'' : List ℕ) → max_rule_nodes ≤ length o → (r : Result RuleHeading (CutShort RuleHeading)) → RuleScanned t o r o' → (k : ℕ) → MatchResult r (λ h. k ≡ h.count) (λ s. k ≡ 0)
    → o'' ≡ cleared o' k max_rule_nodes → (x : Result RuleHeading Refusal) → MatchResult r (λ h. x ≡ Ok h) (λ s. x ≡ Err s.stop.refusal) → ReadRule t o x o''
read_done t o o' o'' long (Ok h) s k e c x a = rw a (read_accepted t o long o' o'' h s k e c)
read_done t o o' o'' long (Err p) s k e c x a = rw a (read_refused t o long o' o'' p s k e c)
