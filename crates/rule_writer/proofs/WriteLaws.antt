-- Laws of `write_rule`: one for each call that wants room, and for each return.
use mathlib.Core.Path.{◌≡◌, refl, ap, sym, ◌∙◌}
use mathlib.Core.Bool.{Bool, false}
use mathlib.Core.List.{List, [], ◌∷◌, ◌++◌, append_assoc}
use Prim.Native.Nat.{ℕ, zero, suc, ◌+◌, ◌<◌, ◌≤◌}
use native.Mathlib.Omega.{arith}
use lib.ListN.{length, take, length-append}
use lib.Seq.{length-take-le}
use borrow.Author.Rules.{rules}
use borrow.Author.Tests.{lt-ltb, le-ltb, ne_eqb}
use mir.Syntax.{w32}
use mir.Val.{Fits}
use Rattle.definitions.specs.Limits.{max_controllers, max_rule_nodes, max_rule_bytes, lent_short, accepted}
use Rattle.definitions.specs.Bounded.{pick}
use Rattle.definitions.specs.Nodes.{node_of}
use Rattle.definitions.specs.Tables.{Rule, node_refusal, nodes_refusal, rule_refusal, rule_of}
use Rattle.definitions.specs.Lines.{tab, newline, digits}
use Rattle.definitions.specs.RuleText.{rule_word, nodes_text, rule_text}
use Rattle.definitions.specs.Operations.{answer, text_of, write_rule_number, write_rule_answer, write_rule_text}
use Rattle.theorems.proofs.Choice.{or_else_none}
use Rattle.theorems.proofs.RefusalBounds.{rule_low}
use Rattle.theorems.proofs.NodeLaws.{accepted_heading, accepted_rule}
use Rattle.theorems.proofs.RoundTrips.{text_fits}
use Rattle.lent.specs.Space.{laid, cleared}
use Rattle.lent.proofs.LeftLaws.{laid_past, laid_begins, left_untouched, left_zeroed, left_filled}
use Rattle.printing.specs.Printing.{laid_at, Printed}
use Rattle.printing.proofs.PrintLaws.{printed_seq}
use Rattle.rule_writer.specs.Writing.{heading_line, heading_size, WroteRule}
use Rattle.std.specs.Prelude.{Ok, Err}
use Rattle.rules.specs.Refusals.{number_of}
use Rattle.rules.specs.declared.refusal.Refusal.{Refusal}
use Rattle.rules.specs.declared.refusal.Refusal.TheVariants.{LentShort}
use Rattle.rules.proofs.RefusalLaws.{number_some}

-- "a refusal carries its number alone", whatever values there would have been
refusal_alone : (e : Refusal) (values : List ℕ) → answer (number_of e) [] ≡ answer (number_of e) values
unfolding answer pick
refusal_alone e values = rw (ne_eqb (number_of e) 0 (number_some e))

-- an accepted rule has as many nodes as its count says
enough_nodes : (b : Bool) (i n : ℕ) (ws : List ℕ) → nodes_refusal b i n ws ≡ 0 → n ≤ length ws
unfolding nodes_refusal
enough_nodes b i zero ws e = omega arith
enough_nodes b i (suc n) [] e = absurd (omega arith)
enough_nodes b i (suc n) (w ∷ ws) e =
    let p = or_else_none (node_refusal b i (node_of w)) (nodes_refusal b (i + 1) n ws) e in
    omega (arith, enough_nodes b (i + 1) n ws p.1)

-- the text is the first line and the node lines
text_parts : (c n : ℕ) (ws : List ℕ) → rule_text c n ws ≡ heading_line c n ++ nodes_text ws
unfolding rule_text heading_line
text_parts c n ws = simp append_assoc

heading_size_lem : (c n : ℕ) → length (heading_line c n) ≡ heading_size c n
unfolding heading_line
heading_size_lem c n =
    omega (arith, length-append rule_word ((tab ∷ digits c) ++ ((tab ∷ digits n) ++ (newline ∷ []))), length-append (tab ∷ digits c) ((tab ∷ digits n) ++ (newline ∷ [])), length-append (tab ∷ digits n) (newline ∷ []))

module _ (c n : ℕ) (ws o : List ℕ) where
  abbrev rule : Rule
  rule = rule_of c n ws

  number_short : length o < max_rule_bytes → write_rule_number rule o ≡ lent_short
  unfolding write_rule_number pick
  number_short h = rw (lt-ltb (length o) max_rule_bytes h)

  number_checked : max_rule_bytes ≤ length o → write_rule_number rule o ≡ rule_refusal rule
  unfolding write_rule_number pick
  number_checked h = rw (le-ltb (length o) max_rule_bytes h)

  -- `write_rule`, 13: `write_rule_text` is what was lent
  pub write_short : length o < max_rule_bytes → WroteRule (rule_of c n ws) o (Err LentShort) o
  unfolding write_rule_answer write_rule_text
  write_short h =
      let e = number_short h in
      record { answered = rw e (refusal_alone LentShort _); text = left_untouched (write_rule_number rule o) max_rule_bytes (text_of rule) o e }

  module _ (long : max_rule_bytes ≤ length o) where
    -- `write_rule`, another refusal: `write_rule_text` is zero over its full size
    pub write_refused : (e : Refusal) → number_of e ≡ rule_refusal (rule_of c n ws) → (o' : List ℕ) → o' ≡ cleared o 0 max_rule_bytes → WroteRule (rule_of c n ws) o (Err e) o'
    unfolding write_rule_answer write_rule_text
    write_refused e k o' x =
        let is : write_rule_number rule o ≡ number_of e = number_checked long ∙ sym k in
        record {
          answered = rw is (refusal_alone e _);
          text = left_zeroed (write_rule_number rule o) max_rule_bytes (text_of rule) o o o' refl (λ q. omega (arith, number_checked long, rule_low rule)) (λ q. number_some e (sym is ∙ q)) x;
        }

    module _ (z : accepted ≡ rule_refusal (rule_of c n ws)) where
      fine : rule_refusal rule ≡ 0
      fine = sym z

      is : write_rule_number rule o ≡ 0
      is = number_checked long ∙ fine

      limits : (c < max_controllers) × ((1 ≤ n) × (n ≤ max_rule_nodes))
      limits = accepted_heading c n (accepted_rule rule fine).0

      pub controller_fits : Fits w32 c
      controller_fits = record { fits = omega (arith, limits.0) }

      pub count_fits_lem : Fits w32 n
      count_fits_lem = record { fits = omega (arith, limits.1.1) }

      pub count_within : n ≤ length ws
      count_within = enough_nodes false 0 n ws (accepted_rule rule fine).1

      pub count_counts : n ≡ length (take n ws)
      count_counts = sym (length-take-le n ws count_within)

      parts : text_of rule ≡ heading_line c n ++ nodes_text (take n ws)
      parts = text_parts c n (take n ws)

      sizes : heading_size c n + length (nodes_text (take n ws)) ≤ max_rule_bytes
      sizes = omega (arith, text_fits rule fine, ap length parts, length-append (heading_line c n) (nodes_text (take n ws)), heading_size_lem c n)

      pub heading_room : heading_size c n ≤ length o
      heading_room = omega (arith, sizes)

      module _ (p : ℕ) (o' : List ℕ) (kept : length o' ≡ length o) (head : Printed (heading_line c n) o 0 p o') where
        pub nodes_room_lem : p + length (nodes_text (take n ws)) ≤ length o'
        nodes_room_lem = omega (arith, sizes, head.next, heading_size_lem c n)

        module _ (e : ℕ) (o'' : List ℕ) (lines : Printed (nodes_text (take n ws)) o' p e o'') where
          whole : Printed (text_of rule) o 0 e o''
          whole = rw parts (printed_seq (heading_line c n) (nodes_text (take n ws)) o o' o'' 0 p e (omega (arith, sizes, heading_size_lem c n)) head lines)

          pub text_ends : e ≤ max_rule_bytes
          text_ends = omega (arith, whole.next, text_fits rule fine)

          over : o'' ≡ laid (text_of rule) o
          unfolding laid_at
          over = let m : 0 + length (text_of rule) ≡ length (text_of rule) = omega arith in whole.lies ∙ rw m

          -- `write_rule`, accepted: `write_rule_answer` is the length, `write_rule_text` the text and then zeros
          pub write_accepted : (o''' : List ℕ) → o''' ≡ cleared o'' e max_rule_bytes → WroteRule (rule_of c n ws) o (Ok e) o'''
          unfolding write_rule_answer write_rule_text answer pick
          write_accepted o''' x =
              let l : length (text_of rule) ≡ e = omega (arith, whole.next) in
              record {
                answered = rw (is, l);
                text = left_filled (write_rule_number rule o) max_rule_bytes (text_of rule) o o'' o''' (laid_past max_rule_bytes (text_of rule) o o'' (text_fits rule fine) over) e is l
                    (laid_begins e (text_of rule) o o'' l over) x;
              }

pub ruleset write_laws = (rules, write_short, write_refused, controller_fits, count_fits_lem, count_within, count_counts, heading_room, nodes_room_lem, text_ends, write_accepted)
