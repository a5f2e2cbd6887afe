-- "Texts" (document 01), with the line ends of "Lines from the other system" (document 02): bytes, lines, fields, decimal and hexadecimal forms, and
-- printed numbers.
use Rattle.std.specs.Prelude.{ℕ, zero, suc, ◌+◌, ◌-◌, ◌*◌, ◌/◌, ◌%◌, Bool, true, false, not, ◌&&◌, ◌||◌, List, [], ◌∷◌, ◌++◌, length, take, drop, eqb, ltb}
use Prim.Native.String.{String, len, char_at}
use Prim.Native.Char.{code}
use Rattle.definitions.specs.Limits.{accepted}
use Rattle.definitions.specs.Bounded.{pick, within}

-- the n bytes of a quoted word from byte i on
abbrev pub bytes_from : (s : String) (i n : ℕ) → List ℕ
bytes_from s i zero = []
bytes_from s i (suc n) = code (char_at s i) ∷ bytes_from s (suc i) n

-- the bytes of a quoted word
abbrev pub bytes : String → List ℕ
bytes s = bytes_from s 0 (len s)

-- "byte 10", which closes a line; "The texts that we write keep byte 10 only"
abbrev pub newline : ℕ
newline = 10

-- "one tab (byte 9)"
abbrev pub tab : ℕ
tab = 9

-- "byte 13"
abbrev pub carriage_return : ℕ
carriage_return = 13

-- how many bytes stand before the first byte b; all of them where there is none
unfoldable pub before : (b : ℕ) (t : List ℕ) → ℕ
before b [] = 0
before b (x ∷ t) = pick (eqb x b) 0 (suc (before b t))

-- nothing is left of a text
abbrev pub is_empty : List ℕ → Bool
is_empty t = eqb (length t) 0

-- byte b is there: "fields parted by one tab"
abbrev pub has : ℕ → List ℕ → Bool
has b t = ltb (before b t) (length t)

-- what stands before the first byte b: the field before a tab; all that is left where there is none
abbrev pub up_to : ℕ → List ℕ → List ℕ
up_to b t = take (before b t) t

-- what follows the first byte b: "the rest of the text after each tab"
abbrev pub after : ℕ → List ℕ → List ℕ
after b t = drop (before b t + 1) t

-- byte 10 comes next
unfoldable pub newline_next : List ℕ → Bool
newline_next [] = false
newline_next (x ∷ t) = eqb x newline

-- "bytes 13 and 10 at the line end": x is this byte 13, and t follows it
unfoldable pub is_return : ℕ → List ℕ → Bool
is_return x t = eqb x carriage_return && newline_next t

-- "The line reader must take either ending": how many bytes stand before the first one; all that is left where there is none
unfoldable pub line_length : List ℕ → ℕ
line_length [] = 0
line_length (x ∷ t) = pick (eqb x newline || is_return x t) 0 (suc (line_length t))

-- the first line: it "leaves out its ending"
abbrev pub line_of : List ℕ → List ℕ
line_of t = take (line_length t) t

-- the first line is "closed by byte 10", which either ending ends in
abbrev pub is_closed : List ℕ → Bool
is_closed t = has newline t

-- where the text after the first line and its ending begins: after that byte 10
abbrev pub rest_at : List ℕ → ℕ
rest_at t = before newline t + 1

-- the text after the first line and its ending
abbrev pub rest_of : List ℕ → List ℕ
rest_of t = drop (rest_at t) t

-- "with byte 10 at each line and otherwise unchanged"
unfoldable pub with_newlines : List ℕ → List ℕ
with_newlines [] = []
with_newlines (x ∷ t) = pick (is_return x t) (with_newlines t) (x ∷ with_newlines t)

-- what a line or a field is, where it is of its form
pub data Parsed (A : Type 0) : Type 0 where
  formed : A → Parsed A
  malformed : Parsed A

-- by the cases of what was read
unfoldable pub on_parsed : {A B : Type 0} → Parsed A → B → (A → B) → B
on_parsed (formed a) other f = f a
on_parsed malformed other f = other

-- "Decimal fields": digits, and what follows those of v
unfoldable pub decimal_on : ℕ → List ℕ → Parsed ℕ
decimal_on v [] = formed v
decimal_on v (x ∷ t) = pick (within 48 57 x) (decimal_on (v * 10 + (x - 48)) t) malformed

-- "Decimal fields have no leading zeros"
unfoldable pub decimal : List ℕ → Parsed ℕ
decimal [] = malformed
decimal (x ∷ t) = pick (eqb x 48 && not (is_empty t)) malformed (decimal_on 0 (x ∷ t))

-- the value of a "lower-case hexadecimal" digit, 16 of any other byte
unfoldable pub hex_digit : ℕ → ℕ
hex_digit x = pick (within 48 57 x) (x - 48) (pick (within 97 102 x) (x - 87) 16)

-- hexadecimal digits, and what follows those of v
unfoldable pub hex_on : ℕ → List ℕ → Parsed ℕ
hex_on v [] = formed v
hex_on v (x ∷ t) = pick (ltb (hex_digit x) 16) (hex_on (v * 16 + hex_digit x) t) malformed

-- "eight lower-case hexadecimal digits", or as many as the width says
unfoldable pub hexadecimal : (width : ℕ) (s : List ℕ) → Parsed ℕ
hexadecimal width s = pick (eqb (length s) width) (hex_on 0 s) malformed

-- two lists of bytes are the same
unfoldable pub same : List ℕ → List ℕ → Bool
same [] [] = true
same [] (y ∷ u) = false
same (x ∷ t) [] = false
same (x ∷ t) (y ∷ u) = eqb x y && same t u

-- "letters a to z"
unfoldable pub letters : List ℕ → Bool
letters [] = true
letters (x ∷ t) = within 97 122 x && letters t

-- two numbers of a line
pub record Heading : Type 0 where
  pub first : ℕ
  pub second : ℕ

-- a heading of these numbers
abbrev pub heading : ℕ → ℕ → Heading
heading a b = record { first = a; second = b }

-- two fields parted by a tab, each by its reader
unfoldable pub two_fields : {A : Type 0} (f g : List ℕ → Parsed ℕ) (make : ℕ → ℕ → A) (s : List ℕ) → Parsed A
two_fields f g make s =
    pick (has tab s)
    (on_parsed (f (up_to tab s)) malformed (λ a. on_parsed (g (after tab s)) malformed (λ b. formed (make a b))))
    malformed

-- a line of a word and what follows its tab
unfoldable pub worded : {A : Type 0} (word : List ℕ) (fields : List ℕ → Parsed A) (s : List ℕ) → Parsed A
worded word fields s = pick (same (up_to tab s) word && has tab s) (fields (after tab s)) malformed

-- a word and two decimal fields: the first line of a text
unfoldable pub heading_form : (word s : List ℕ) → Parsed Heading
heading_form word s = worded word (two_fields decimal decimal heading) s

-- "Numbers are printed highest digit first": the digits of n, at most one more than `more` says
unfoldable pub digits_by : (more n : ℕ) → List ℕ
digits_by zero n = (48 + n) ∷ []
digits_by (suc more) n = pick (ltb n 10) ((48 + n) ∷ []) (digits_by more (n / 10) ++ ((48 + n % 10) ∷ []))

-- "Numbers are printed highest digit first"
unfoldable pub digits : ℕ → List ℕ
digits n = digits_by n n

-- the next line of a text: refused with a number, or read as this, with the text after it
pub data NextLine (A : Type 0) : Type 0 where
  refused : ℕ → NextLine A
  read : A → List ℕ → NextLine A

-- by the cases of the next line
unfoldable pub on_next : {A B : Type 0} → NextLine A → (ℕ → B) → (A → List ℕ → B) → B
on_next (refused number) stops goes = stops number
on_next (read a rest) stops goes = goes a rest

-- the next line, by its form and its check: it is missing, it is "not closed by byte 10, or not of its form", its check refuses it, or it is read
unfoldable pub next_line : {A : Type 0} (missing unformed : ℕ) (form : List ℕ → Parsed A) (check : A → ℕ) → List ℕ → NextLine A
next_line missing unformed form check t =
    pick (is_empty t) (refused missing)
    (pick (is_closed t)
    (on_parsed (form (line_of t)) (refused unformed)
    (λ a. pick (eqb (check a) accepted) (read a (rest_of t)) (refused (check a))))
    (refused unformed))

-- what a reader of lines has: the refusal or 0, the words read, and the text from the refused line on (of an accepted text, its empty end)
pub record Scan : Type 0 where
  pub number : ℕ
  pub words : List ℕ
  pub rest : List ℕ

-- a reader that stops, with its refusal or with 0
abbrev pub stop : ℕ → List ℕ → Scan
stop number t = record { number = number; words = []; rest = t }

-- one word more in front of what the rest of the lines gave
abbrev pub more : ℕ → Scan → Scan
more w s = record { number = s.number; words = w ∷ s.words; rest = s.rest }
