-- The words of a command line, and the command that they are.
use Rattle.std.specs.Prelude.{ℕ, ◌+◌, ◌-◌, ◌*◌, ◌%◌, ◌^◌, Bool, not, ◌==◌, ◌&&◌, List, [], ◌∷◌, Option, Some, None, if◌then◌else◌, nat_le, length, codes, option_and_then, option_map}
use Rattle.std.specs.List.{list_all}
use Rattle.std.specs.Str.{bytes_eq}
use Rattle.std.specs.Char.{is_ascii_digit}
use Rattle.orbit_cli.specs.declared.words.Bounds.{Bounds}

-- the number whose digits are those of v and then these, the highest first
abbrev pub digits_value : ℕ → List ℕ → ℕ
digits_value v [] = v
digits_value v (b ∷ bs) = digits_value (v * 10 + (b - 48)) bs

-- one or more digits
abbrev pub is_numeral : List ℕ → Bool
is_numeral word = not (length word == 0) && list_all is_ascii_digit word

abbrev pub up_to : ℕ → ℕ → Option ℕ
up_to limit n = if nat_le n limit then Some n else None

-- a number up to the limit; leading zeros are allowed
abbrev pub number : ℕ → List ℕ → Option ℕ
number limit word = if is_numeral word then up_to limit (digits_value 0 word) else None

abbrev pub size_from : ℕ → Option ℕ
size_from n = if nat_le 64 n && (n % 8 == 0) then Some n else None

-- the bytes of a heap or a stack: a multiple of 8 from 64 to 2^28
abbrev pub size : List ℕ → Option ℕ
size word = option_and_then size_from (number (2 ^ 28) word)

-- a number of instructions, up to 2^40
abbrev pub steps : List ℕ → Option ℕ
steps word = number (2 ^ 40) word

-- the bounds of a run: bytes of heap and of stack, and most instructions
abbrev pub bounds_of : List ℕ → List ℕ → List ℕ → Option Bounds
bounds_of heap stack most =
    option_and_then (λ h. option_and_then (λ s. option_and_then (λ n. Some (record { sizes = record { heap = h; stack = s }; steps = n })) (steps most)) (size stack)) (size heap)

-- what the program is asked for, by the names of texts and images
pub data Command : Type 0 where
  Compile : (src img : List ℕ) → Command
  Run : (img : List ℕ) (bounds : Bounds) → Command
  Go : (src img : List ℕ) (bounds : Bounds) → Command
  Check : (src : List ℕ) → Command
  Listing : (img : List ℕ) → Command

-- the command that the words are: the table of commands
abbrev pub single_command : List ℕ → List ℕ → Option Command
single_command name file =
    if bytes_eq name (codes "check") then Some (Check file)
    else if bytes_eq name (codes "list") then Some (Listing file)
    else None

abbrev pub command_of : List (List ℕ) → Option Command
command_of (name ∷ file ∷ []) = single_command name file
command_of (name ∷ src ∷ img ∷ []) = if bytes_eq name (codes "compile") then Some (Compile src img) else None
command_of (name ∷ img ∷ heap ∷ stack ∷ most ∷ []) =
    if bytes_eq name (codes "run") then option_map (λ bounds. Run img bounds) (bounds_of heap stack most) else None
command_of (name ∷ src ∷ img ∷ heap ∷ stack ∷ most ∷ []) =
    if bytes_eq name (codes "go") then option_map (λ bounds. Go src img bounds) (bounds_of heap stack most) else None
command_of words = None

-- the names that a command fetches, which are that of its text, or of the image that it runs or lists
abbrev pub names_fetched : Option Command → List (List ℕ)
names_fetched (Some (Compile src img)) = src ∷ []
names_fetched (Some (Run img bounds)) = img ∷ []
names_fetched (Some (Go src img bounds)) = src ∷ []
names_fetched (Some (Check src)) = src ∷ []
names_fetched (Some (Listing img)) = img ∷ []
names_fetched None = []
