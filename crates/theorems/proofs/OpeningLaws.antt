-- "The heading and `owns` lines", read and written: one law for the recording text and for the archive text.
use mathlib.Core.Path.{◌≡◌, refl, ap, sym, ◌∙◌}
use Prim.Native.Nat.{ℕ, zero, suc, ◌^◌, ◌<◌}
use native.Mathlib.Omega.{arith}
use mathlib.Core.Bool.{true}
use mathlib.Core.List.{List, [], ◌∷◌, ◌++◌}
use lib.ListN.{length}
use Rattle.definitions.specs.Limits.{recording_form, recording_lines, atom_count}
use Rattle.definitions.specs.Recordings.{mask_refusal, masks_refusal, recording_heading_refusal}
use Rattle.definitions.specs.Lines.{tab, newline, carriage_return, before, has, up_to, after, is_closed, line_of, rest_of, with_newlines, formed, malformed, on_parsed, hexadecimal, Heading, heading, heading_form, two_fields, digits, refused, read, on_next, Scan, stop, more}
use Rattle.definitions.specs.RecordingText.{recording_word, owns_word, word_digits, recording_heading, mask_form, recording_heading_line, mask_line, scan_masks, RecordingScan, recording_stop, opening_masks, scan_opening}
use Rattle.definitions.specs.RecordingWriting.{hex_text, recording_heading_text, mask_text, masks_text, opening_text}
use Rattle.definitions.specs.Bounded.{pick}
use Rattle.theorems.proofs.Choice.{pick_must, or_else_none, none_or_else}
use Rattle.theorems.proofs.Inversions.{must_pass, passes, parsed_must, never_formed, formed_same}
use Rattle.theorems.proofs.SplitLaws.{Without, without_cons, without_append, split_front, split_rest, split_found, join}
use Rattle.theorems.proofs.EndingLaws.{Unbroken, with_line}
use Rattle.theorems.proofs.DecimalLaws.{digits_without}
use Rattle.theorems.proofs.FieldLaws.{two_fields_back, two_fields_forth, worded_back, worded_forth}
use Rattle.theorems.proofs.NextLines.{by_next, next_back, next_forth, next_some}
use Rattle.theorems.proofs.HexLaws.{hex_forth, hex_back, hex_without}

-- ---- lines that are written have neither byte 10 nor byte 13
-- a word, a tab and a field
pub fields_unbroken : (word t : List ℕ) → Unbroken word → Unbroken t → Unbroken (word ++ (tab ∷ t))
fields_unbroken word t h k = record {
  newlines = without_append newline word (tab ∷ t) h.newlines (without_cons newline tab t (λ q. omega arith) k.newlines);
  returns = without_append carriage_return word (tab ∷ t) h.returns (without_cons carriage_return tab t (λ q. omega arith) k.returns);
}

-- a field that has no byte below the digits
pub unbroken_field : (s : List ℕ) → ((b : ℕ) → b < 48 → Without b s) → Unbroken s
unbroken_field s h = record { newlines = h newline (omega arith); returns = h carriage_return (omega arith) }

-- ---- two hexadecimal fields
pub record TwoHex {A : Type 0} (d e : ℕ) (make : ℕ → ℕ → A) (x : A) (s : List ℕ) : Type 0 where
  pub first : ℕ
  pub second : ℕ
  pub text : hex_text d first ++ (tab ∷ hex_text e second) ≡ s
  pub small_first : first < 16 ^ d
  pub small_second : second < 16 ^ e
  pub made : make first second ≡ x

module _ {A : Type 0} (d e : ℕ) (make : ℕ → ℕ → A) where
  pub two_hex_back : (x : A) (s : List ℕ) → two_fields (hexadecimal d) (hexadecimal e) make s ≡ formed x → TwoHex d e make x s
  unfolding two_fields
  two_hex_back x s h =
      let p = pick_must (formed x) (has tab s) _ malformed h (never_formed x) in
      let f = parsed_must (formed x) (hexadecimal d (up_to tab s)) malformed _ p.1 (never_formed x) in
      let g = parsed_must (formed x) (hexadecimal e (after tab s)) malformed _ f.gives (never_formed x) in
      let a = hex_back d (up_to tab s) f.value f.read in
      let b = hex_back e (after tab s) g.value g.read in
      record {
        first = f.value;
        second = g.value;
        text = rw (a.text, b.text) (join tab s p.0);
        small_first = a.small;
        small_second = b.small;
        made = formed_same (make f.value g.value) x g.gives;
      }

  pub two_hex_forth : (a b : ℕ) → a < 16 ^ d → b < 16 ^ e → two_fields (hexadecimal d) (hexadecimal e) make (hex_text d a ++ (tab ∷ hex_text e b)) ≡ formed (make a b)
  unfolding two_fields pick on_parsed
  two_hex_forth a b h k =
      let w = hex_without tab d a (omega arith) in
      let s = hex_text d a in
      let t = hex_text e b in
      rw (split_found tab t s w, split_front tab t s w, split_rest tab t s w, hex_forth d a h, hex_forth e b k)

-- ---- a mask
owns_tab : Without tab owns_word
unfolding before pick
owns_tab = refl

owns_unbroken : Unbroken owns_word
unfolding before pick
owns_unbroken = record { newlines = refl; returns = refl }

record MaskBack (s : List ℕ) (m : ℕ) : Type 0 where
  text : mask_text m ≡ s
  small : m < 2 ^ atom_count

mask_back : (s : List ℕ) (m : ℕ) → mask_form s ≡ formed m → MaskBack s m
unfolding mask_form mask_text
mask_back s m e =
    let w = worded_back owns_word (hexadecimal word_digits) m s e in
    let h = hex_back word_digits (after tab s) m w.1 in
    record { text = rw h.text w.0; small = omega (arith, h.small) }

mask_forth : (m : ℕ) → m < 2 ^ atom_count → mask_form (mask_text m) ≡ formed m
unfolding mask_form mask_text
mask_forth m h = worded_forth owns_word (hexadecimal word_digits) (hex_text word_digits m) owns_tab ∙ hex_forth word_digits m (omega arith)

mask_unbroken : (m : ℕ) → Unbroken (mask_text m)
unfolding mask_text
mask_unbroken m = fields_unbroken owns_word (hex_text word_digits m) owns_unbroken (unbroken_field (hex_text word_digits m) (λ b h. hex_without b word_digits m h))

-- each mask is a word of 32 atoms
unfoldable pub Words : List ℕ → Type 0
Words [] = Unit {0}
Words (m ∷ ms) = (m < 2 ^ atom_count) × Words ms

module _ (lines : ℕ) (earlier t : List ℕ) where
  masks_stop : (k : ℕ) → mask_line earlier t ≡ refused k → scan_masks (suc lines) earlier t ≡ stop k t
  unfolding scan_masks on_next
  masks_stop k e = rw e

  masks_step : (m : ℕ) (rest : List ℕ) → mask_line earlier t ≡ read m rest → scan_masks (suc lines) earlier t ≡ more m (scan_masks lines (m ∷ earlier) rest)
  unfolding scan_masks on_next
  masks_step m rest e = rw e

-- what was read of accepted `owns` lines
record MasksRead (lines : ℕ) (earlier t : List ℕ) (s : Scan) : Type 0 where
  count : length s.words ≡ lines
  fine : masks_refusal earlier s.words ≡ 0
  small : Words s.words
  text : masks_text s.words (with_newlines s.rest) ≡ with_newlines t

more_masks : (lines : ℕ) (earlier t : List ℕ) (m : ℕ) (s : Scan) → is_closed t ≡ true → MaskBack (line_of t) m → mask_refusal earlier m ≡ 0
    → MasksRead lines (m ∷ earlier) (rest_of t) s → MasksRead (suc lines) earlier t (more m s)
unfolding masks_refusal Words masks_text
more_masks lines earlier t m s c b f r = record {
  count = ap suc r.count;
  fine = none_or_else _ _ f r.fine;
  small = (b.small, r.small);
  text = rw (b.text, r.text) (sym (with_line t c));
}

masks_back : (lines : ℕ) (earlier t : List ℕ) → (scan_masks lines earlier t).number ≡ 0 → MasksRead lines earlier t (scan_masks lines earlier t)
unfolding scan_masks masks_refusal masks_text Words
masks_back zero earlier t e = record { count = refl; fine = refl; small = tt; text = refl }
masks_back (suc lines) earlier t e =
    by_next (mask_line earlier t)
    (λ k r.
    let z : k ≡ 0 = rw (masks_stop lines earlier t k r) at e in
    absurd (next_some recording_lines recording_form mask_form (mask_refusal earlier) t (omega arith) (omega arith) k r z))
    (λ m rest r.
    let l = next_back recording_lines recording_form mask_form (mask_refusal earlier) t m rest r in
    let s = masks_step lines earlier t m rest r ∙ ap (λ (u : List ℕ). more m (scan_masks lines (m ∷ earlier) u)) l.left in
    rw s (more_masks lines earlier t m _ l.closed (mask_back (line_of t) m l.is) l.fine (masks_back lines (m ∷ earlier) (rest_of t) (rw s at e))))

masks_forth : (ms earlier rest : List ℕ) → masks_refusal earlier ms ≡ 0 → Words ms
    → scan_masks (length ms) earlier (masks_text ms rest) ≡ record { number = 0; words = ms; rest = rest }
unfolding scan_masks masks_refusal masks_text Words
masks_forth [] earlier rest e h = refl
masks_forth (m ∷ ms) earlier rest e h =
    let p = or_else_none (mask_refusal earlier m) (masks_refusal (m ∷ earlier) ms) e in
    let t = masks_text ms rest in
    let r = next_forth recording_lines recording_form mask_form (mask_refusal earlier) (mask_text m) t m (mask_unbroken m) (mask_forth m h.0) p.0 in
    masks_step (length ms) earlier (mask_text m ++ (newline ∷ t)) m t r ∙ ap (more m) (masks_forth ms (m ∷ earlier) rest p.1 h.1)

-- ---- the heading
recording_tab : Without tab recording_word
unfolding before pick
recording_tab = refl

recording_unbroken : Unbroken recording_word
unfolding before pick
recording_unbroken = record { newlines = refl; returns = refl }

heading_back : (s : List ℕ) (h : Heading) → recording_heading s ≡ formed h → recording_heading_text h.first h.second ≡ s
unfolding heading_form recording_heading_text
heading_back s h e =
    let w = worded_back recording_word _ h s e in
    let f = two_fields_back _ h (after tab s) w.1 in
    rw (← f.made, f.text) w.0

heading_forth : (C N : ℕ) → recording_heading (recording_heading_text C N) ≡ formed (heading C N)
unfolding heading_form recording_heading_text
heading_forth C N = worded_forth recording_word _ (digits C ++ (tab ∷ digits N)) recording_tab ∙ two_fields_forth _ C N

heading_unbroken : (C N : ℕ) → Unbroken (recording_heading_text C N)
unfolding recording_heading_text
heading_unbroken C N =
    fields_unbroken recording_word (digits C ++ (tab ∷ digits N)) recording_unbroken
    (fields_unbroken (digits C) (digits N) (unbroken_field (digits C) (λ b h. digits_without b C h)) (unbroken_field (digits N) (λ b h. digits_without b N h)))

-- the check of a heading
abbrev heading_check : Heading → ℕ
heading_check h = recording_heading_refusal h.first h.second

module _ (next : (C N : ℕ) (masks t : List ℕ) → RecordingScan) where
  opening_stop : (t : List ℕ) (k : ℕ) → recording_heading_line t ≡ refused k → scan_opening next t ≡ recording_stop k t
  unfolding scan_opening on_next
  opening_stop t k e = rw e

  opening_step_lem : (t : List ℕ) (h : Heading) (rest : List ℕ) → recording_heading_line t ≡ read h rest
      → scan_opening next t ≡ opening_masks next h.first h.second (scan_masks h.first [] rest)
  unfolding scan_opening on_next
  opening_step_lem t h rest e = rw e

  -- an accepted opening: what was read of it, and what is read after it
  pub record Opened (t : List ℕ) : Type 0 where
    pub C : ℕ
    pub N : ℕ
    pub masks : List ℕ
    pub rest : List ℕ
    pub heading : recording_heading_refusal C N ≡ 0
    pub mask_count : length masks ≡ C
    pub mask_fine : masks_refusal [] masks ≡ 0
    pub mask_words : Words masks
    pub text : opening_text C N masks (with_newlines rest) ≡ with_newlines t
    pub scan : scan_opening next t ≡ next C N masks rest

  opened : (t : List ℕ) (h : Heading) (rest : List ℕ) → (scan_opening next t).number ≡ 0 → recording_heading_line t ≡ read h rest → Opened t
  unfolding opening_text
  opened t h rest e r =
      let l = next_back recording_lines recording_form recording_heading heading_check t h rest r in
      let m = scan_masks h.first [] (rest_of t) in
      let o : scan_opening next t ≡ opening_masks next h.first h.second m
      = opening_step_lem t h rest r ∙ ap (λ (u : List ℕ). opening_masks next h.first h.second (scan_masks h.first [] u)) l.left in
      let y : m.number ≡ 0 = must_pass {A = RecordingScan} (λ s. s.number) m.number _ (recording_stop m.number m.rest) refl (rw o at e) in
      let b = masks_back h.first [] (rest_of t) y in
      record {
        C = h.first;
        N = h.second;
        masks = m.words;
        rest = m.rest;
        heading = l.fine;
        mask_count = b.count;
        mask_fine = b.fine;
        mask_words = b.small;
        text = rw (heading_back (line_of t) h l.is, b.text) (sym (with_line t l.closed));
        scan = o ∙ passes _ _ _ y;
      }

  pub opening_back : (t : List ℕ) → (scan_opening next t).number ≡ 0 → Opened t
  opening_back t e =
      by_next (recording_heading_line t)
      (λ k r.
      let z : k ≡ 0 = rw (opening_stop t k r) at e in
      absurd (next_some recording_lines recording_form recording_heading heading_check t (omega arith) (omega arith) k r z))
      (λ h rest r. opened t h rest e r)

  pub opening_forth : (C N : ℕ) (masks rest : List ℕ) → recording_heading_refusal C N ≡ 0 → length masks ≡ C → masks_refusal [] masks ≡ 0 → Words masks
      → scan_opening next (opening_text C N masks rest) ≡ next C N masks rest
  unfolding opening_text
  opening_forth C N masks rest h c f w =
      let line = recording_heading_text C N in
      let t = masks_text masks rest in
      let r = next_forth recording_lines recording_form recording_heading heading_check line t (heading C N) (heading_unbroken C N) (heading_forth C N) h in
      opening_step_lem (line ++ (newline ∷ t)) (heading C N) t r
      ∙ rw (← c) (ap (opening_masks next (length masks) N) (masks_forth masks [] rest f w) ∙ passes 0 _ _ refl)
