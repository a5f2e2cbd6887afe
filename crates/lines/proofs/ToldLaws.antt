-- Laws of what is told of the next line: one for each return of its reader, and what a caller has of the answer.
use mathlib.Core.Path.{◌≡◌, refl, ap, sym, ◌∙◌}
use mathlib.Core.Bool.{true}
use mathlib.Core.List.{List}
use Prim.Native.Nat.{ℕ, ◌<◌}
use Rattle.std.specs.Prelude.{Option, Some, None, Result, Ok, Err, IsErrAnd}
use Rattle.std.specs.Option.{ok_or}
use Rattle.definitions.specs.Limits.{accepted}
use Rattle.definitions.specs.Lines.{is_closed, line_of, rest_of, Parsed, formed, malformed, NextLine, refused, read, next_line}
use Rattle.theorems.proofs.NextLines.{next_malformed, next_denied, next_read, next_back}
use Rattle.rules.specs.Refusals.{number_of}
use Rattle.rules.specs.declared.refusal.Refusal.{Refusal}
use Rattle.rules.proofs.RefusalLaws.{number_some}
use Rattle.lines.specs.Reading.{end_refusal}
use Rattle.lines.specs.Told.{told, next_told}
use Rattle.lines.proofs.NextLaws.{next_unread, end_fine}

module _ {A T : Type 0} (f : A → T) (n : NextLine A) where
  pub refused_told : (k : ℕ) → n ≡ refused k → Err k ≡ next_told f n
  unfolding next_told
  refused_told k e = rw e

  pub read_told : (a : A) (rest : List ℕ) → n ≡ read a rest → Ok (f a) ≡ next_told f n
  unfolding next_told
  read_told a rest e = rw e

-- ---- a reader of the next line
module _ {A T : Type 0} (f : A → T) (missing unclosed : ℕ) (form : List ℕ → Parsed A) (check : A → ℕ) (t : List ℕ) where
  abbrev next : NextLine A
  next = next_line missing unclosed form check t

  -- no line, or one that is not closed: it has that refusal
  pub told_unread : (e : Refusal) → number_of e ≡ end_refusal missing unclosed t → Err (number_of e) ≡ next_told f next
  told_unread e h = refused_told f next (number_of e) (next_unread missing unclosed t form check e h)

  module _ (low : 0 < missing) (lower : 0 < unclosed) (there : accepted ≡ end_refusal missing unclosed t) where
    closed : is_closed t ≡ true
    closed = end_fine missing unclosed t low lower there

    -- a line of another form: it is refused for that
    pub told_malformed : form (line_of t) ≡ malformed → Err unclosed ≡ next_told f next
    told_malformed h = refused_told f next unclosed (next_malformed missing unclosed form check t closed h)

    module _ (a : A) (is : form (line_of t) ≡ formed a) where
      -- its check refuses it: it has that refusal
      pub told_denied : (e : Refusal) → number_of e ≡ check a → Err (number_of e) ≡ next_told f next
      told_denied e h = refused_told f next (number_of e) (next_denied missing unclosed form check t closed a is (number_of e) (sym h) (number_some e))

      -- its check accepts it: it is read
      pub told_read : accepted ≡ check a → (v : T) → v ≡ f a → Ok v ≡ next_told f next
      told_read h v e = ap Ok e ∙ read_told f next a (rest_of t) (next_read missing unclosed form check t closed a is (sym h))

-- ---- what a caller has of an answer
pub told_refused : {A T : Type 0} (f : A → T) (n : NextLine A) (e : Refusal) → Err (number_of e) ≡ next_told f n → n ≡ refused (number_of e)
unfolding next_told
told_refused f (refused k) e h = let q : k ≡ number_of e = cc in ap refused q
told_refused f (read a rest) e h = cc

record Value {A T : Type 0} (f : A → T) (n : NextLine A) (v : T) : Type 0 where
  value : A
  rest : List ℕ
  is : n ≡ read value rest
  gives : f value ≡ v

told_value : {A T : Type 0} (f : A → T) (n : NextLine A) (v : T) → Ok v ≡ next_told f n → Value f n v
unfolding next_told
told_value f (refused k) v h = cc
told_value f (read a rest) v h = let q : f a ≡ v = cc in record { value = a; rest = rest; is = refl; gives = q }

-- the next line was read, and v is made of it
pub record NextRead {A T : Type 0} (f : A → T) (missing unclosed : ℕ) (form : List ℕ → Parsed A) (check : A → ℕ) (t : List ℕ) (v : T) : Type 0 where
  pub value : A
  pub is : next_line missing unclosed form check t ≡ read value (rest_of t)
  pub fine : check value ≡ accepted
  pub gives : f value ≡ v

pub told_back : {A T : Type 0} (f : A → T) (missing unclosed : ℕ) (form : List ℕ → Parsed A) (check : A → ℕ) (t : List ℕ) (v : T)
    → Ok v ≡ next_told f (next_line missing unclosed form check t) → NextRead f missing unclosed form check t v
told_back f missing unclosed form check t v h =
    let a = told_value f (next_line missing unclosed form check t) v h in
    let b = next_back missing unclosed form check t a.value a.rest a.is in
    record { value = a.value; is = a.is ∙ ap (read a.value) b.left; fine = b.fine; gives = a.gives }

-- ---- what `ok_or` was given
pub some_given : {A : Type 0} (o : Option A) (unclosed : Refusal) (a : A) → Ok a ≡ ok_or o unclosed → o ≡ Some a
some_given None unclosed a h = cc
some_given (Some b) unclosed a h = let q : a ≡ b = cc in ap Some (sym q)

pub none_given : {A : Type 0} (o : Option A) (unclosed e : Refusal) → Err e ≡ ok_or o unclosed → (o ≡ None) × (e ≡ unclosed)
none_given None unclosed e h = let q : e ≡ unclosed = cc in (refl, q)
none_given (Some b) unclosed e h = cc

-- ---- the exit of a `?`
pub told_exit : {T : Type 0} (r : Result T Refusal) (e : Refusal) (n : Result T ℕ) → IsErrAnd r (λ d. d ≡ e) → Err (number_of e) ≡ n → told r ≡ n
told_exit (Ok v) e n a h = absurd a
told_exit (Err d) e n a h = rw a h
