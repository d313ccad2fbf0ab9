-- The tokens of a text.
use Rattle.std.specs.Prelude.{ℕ, ◌+◌, ◌-◌, ◌*◌, ◌<◌, ◌≤◌, Bool, true, false, not, ◌&&◌, ◌||◌, ◌==◌, nat_lt, nat_le, if◌then◌else◌, List, [], ◌∷◌, length, take, drop, max, map, fold, slice_range, ℤ, pos, negsuc, neg_ℤ, ◌≤ℤ◌, IsTrue, Option, Some, None, codes}
use Rattle.std.specs.List.{list_all, prefix_len}
use Rattle.std.specs.Char.{to_ascii_lowercase}
use Rattle.std.specs.Str.{bytes_eq}
use Rattle.t_reader.specs.declared.fault.ReadKind.{ReadKind}
use Rattle.t_reader.specs.declared.fault.ReadKind.TheVariants.{BadByte, Unclosed, FixnumRange, BadHash, BadString}
use Rattle.t_reader.specs.declared.token.Atom.{Atom}
use Rattle.t_reader.specs.declared.token.Atom.TheVariants.{Fix, Char, Nil, True, Str, Sym}
use Rattle.t_reader.specs.declared.token.Word.{Word}
use Rattle.t_reader.specs.declared.token.Word.TheVariants as word
use Rattle.t_reader.specs.declared.token.Token.{Token}

-- the token from `start` up to `end`
abbrev pub token : Word → ℕ → ℕ → Token
token w start end = record { word = w; span = record { start = start; end = end } }

abbrev pub atom : Atom → ℕ → ℕ → Token
atom a start end = token (word.Atom a) start end

abbrev pub bad : ReadKind → ℕ → ℕ → Token
bad k start end = token (word.Bad k) start end

-- ---- bytes

abbrev pub is_blank : ℕ → Bool
is_blank b = (b == 9) || (b == 10) || (b == 13) || (b == 32)

abbrev pub is_digit : ℕ → Bool
is_digit b = nat_le 48 b && nat_le b 57

abbrev pub is_letter : ℕ → Bool
is_letter b = (nat_le 65 b && nat_le b 90) || (nat_le 97 b && nat_le b 122)

-- a letter, a digit or one of ! $ % & * + - / : < = > ? @ ^ _ ~ .
abbrev pub is_constituent : ℕ → Bool
is_constituent b =
    is_letter b || is_digit b || (b == 33) || (b == 36) || (b == 37) || (b == 38) || (b == 42) || (b == 43) || (b == 45) || (b == 47)
    || (b == 58) || (b == 60) || (b == 61) || (b == 62) || (b == 63) || (b == 64) || (b == 94) || (b == 95) || (b == 126) || (b == 46)

-- a byte that stands for itself in a string
abbrev pub is_string_byte : ℕ → Bool
is_string_byte b = (nat_le 32 b && nat_le b 126) || (b == 9) || (b == 10)

-- in either case of letter
unfoldable pub is_word : List ℕ → List ℕ → Bool
is_word bytes w = bytes_eq (map to_ascii_lowercase bytes) w

-- ---- between tokens

-- what stands behind blanks and comments; `inside` says that a comment has begun
unfoldable pub behind_blanks : Bool → List ℕ → List ℕ
behind_blanks inside [] = []
behind_blanks true (b ∷ bs) = behind_blanks (not (b == 10)) bs
behind_blanks false (b ∷ bs) = if is_blank b then behind_blanks false bs else if b == 59 then behind_blanks true bs else b ∷ bs

-- ---- atoms

-- the longest run of constituents at the front
unfoldable pub run_len : List ℕ → ℕ
run_len bytes = prefix_len is_constituent bytes

abbrev pub is_number : List ℕ → Bool
is_number bytes = not (length bytes == 0) && list_all is_digit bytes

-- the number that the digits spell
abbrev pub value_of : List ℕ → ℕ
value_of digits = fold (λ v d. 10 * v + (d - 48)) 0 digits

abbrev pub fixnum : ℤ → Option Word
fixnum z = Some (word.Atom (Fix z))

-- a fixnum lies from -2 ^ 29 to 2 ^ 29 - 1
unfoldable pub fix_word : Bool → ℕ → Word
fix_word negative n =
    if negative then (if nat_le n 536870912 then word.Atom (Fix (neg_ℤ (pos n))) else word.Bad FixnumRange)
    else (if nat_lt n 536870912 then word.Atom (Fix (pos n)) else word.Bad FixnumRange)

-- an atom that is no number
unfoldable pub plain_word : List ℕ → Word
plain_word run =
    if is_word run (codes ".") then word.Dot
    else if is_word run (codes "nil") then word.Atom Nil
    else word.Atom Sym

-- digits with their sign, or an atom that is no number
abbrev pub signed_word : Bool → List ℕ → List ℕ → Word
signed_word negative digits run = if is_number digits then fix_word negative (value_of digits) else plain_word run

unfoldable pub atom_word : List ℕ → Word
atom_word [] = plain_word []
atom_word (b ∷ bs) =
    if b == 43 then signed_word false bs (b ∷ bs)
    else if b == 45 then signed_word true bs (b ∷ bs)
    else signed_word false (b ∷ bs) (b ∷ bs)

abbrev pub atom_token : ℕ → List ℕ → Token
atom_token at run = token (atom_word run) at (at + length run)

-- ---- strings

-- the string whose mark stands at `start`, from `here` on; `escaped` says that a backslash stands before `here`
unfoldable pub string_token : ℕ → ℕ → Bool → List ℕ → Token
string_token start here escaped [] = bad Unclosed start here
string_token start here true (b ∷ bs) =
    if (b == 34) || (b == 92) then string_token start (here + 1) false bs
    else bad BadString (here - 1) here
string_token start here false (b ∷ bs) =
    if b == 34 then atom Str start (here + 1)
    else if b == 92 then string_token start (here + 1) true bs
    else if is_string_byte b then string_token start (here + 1) false bs
    else bad BadString here (here + 1)

-- ---- behind `#`

-- the character of a run behind #\
unfoldable pub char_of : List ℕ → Option ℕ
char_of (c ∷ []) = Some c
char_of run =
    if is_word run (codes "space") then Some 32
    else if is_word run (codes "newline") then Some 10
    else if is_word run (codes "tab") then Some 9
    else None

-- the longest run behind #\, or one byte that is no constituent
abbrev pub char_run : List ℕ → List ℕ
char_run bytes = take (max 1 (run_len bytes)) bytes

abbrev pub char_or_bad : ℕ → ℕ → Option ℕ → Token
char_or_bad at len (Some c) = atom (Char c) at (at + 2 + len)
char_or_bad at len None = bad BadHash at (at + 1)

unfoldable pub char_token : ℕ → List ℕ → Token
char_token at [] = bad BadHash at (at + 1)
char_token at (c ∷ bs) =
    if nat_le 33 c && nat_le c 126 then char_or_bad at (length (char_run (c ∷ bs))) (char_of (char_run (c ∷ bs)))
    else bad BadHash at (at + 1)

abbrev pub truth_token : ℕ → List ℕ → Token
truth_token at run =
    if is_word run (codes "t") then atom True at (at + 2)
    else if is_word run (codes "f") then atom Nil at (at + 2)
    else bad BadHash at (at + 1)

unfoldable pub hash_token : ℕ → List ℕ → Token
hash_token at [] = bad BadHash at (at + 1)
hash_token at (b ∷ bs) = if b == 92 then char_token at bs else truth_token at (take (run_len (b ∷ bs)) (b ∷ bs))

-- ---- the next token

unfoldable pub first_token : ℕ → List ℕ → Token
first_token at [] = token word.End at at
first_token at (b ∷ bs) =
    if b == 40 then token word.Open at (at + 1)
    else if b == 41 then token word.Close at (at + 1)
    else if b == 39 then token word.Quote at (at + 1)
    else if b == 34 then string_token at (at + 1) false bs
    else if b == 35 then hash_token at bs
    else if is_constituent b then atom_token at (take (run_len (b ∷ bs)) (b ∷ bs))
    else bad BadByte at (at + 1)

-- the first token from `from` on
unfoldable pub token_at : List ℕ → ℕ → Token
token_at text from =
    let rest = behind_blanks false (drop from text) in
    first_token (length text - length rest) rest

-- ---- where a token lies

-- a token that isn't the last lies from `low` on and below `high`, and isn't empty
abbrev pub MovesBy : Word → ℕ → ℕ → ℕ → ℕ → Type 0
MovesBy word.End low high start end = Unit {0}
MovesBy (word.Bad k) low high start end = Unit {0}
MovesBy _ low high start end = (low ≤ start) × (start < end) × (end ≤ high)

pub record Moves (low high : ℕ) (t : Token) : Type 0 where
  pub moves : MovesBy t.word low high t.span.start t.span.end

-- ---- what the bytes of an atom are

abbrev pub IsFixnum : ℤ → Type 0
IsFixnum z = (negsuc 536870911 ≤ℤ z) × (z ≤ℤ pos 536870911)

abbrev pub are_ascii : List ℕ → Bool
are_ascii bytes = list_all (λ b. nat_le b 127) bytes

-- a byte that a name may have
abbrev pub is_name_byte : ℕ → Bool
is_name_byte b = nat_le 33 b && nat_le b 126

-- at least one byte, all from 21 to 7E
abbrev pub is_name : List ℕ → Bool
is_name [] = false
is_name (b ∷ bs) = list_all is_name_byte (b ∷ bs)

-- what the bytes of an atom's token are good for
abbrev pub IsLexeme : Atom → List ℕ → Type 0
IsLexeme (Fix z) bytes = IsFixnum z
IsLexeme (Char c) bytes = c ≤ 127
IsLexeme Str bytes = IsTrue (are_ascii bytes)
IsLexeme Sym bytes = IsTrue (is_name (map to_ascii_lowercase bytes))
IsLexeme _ bytes = Unit {0}

abbrev pub WordFits : Word → List ℕ → Type 0
WordFits (word.Atom a) bytes = IsLexeme a bytes
WordFits _ bytes = Unit {0}

pub record Fits (text : List ℕ) (t : Token) : Type 0 where
  pub fits : WordFits t.word (slice_range text t.span.start t.span.end)
