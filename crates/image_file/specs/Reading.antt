-- The first field that fails, from the front; and the image, where none does.
use Rattle.std.specs.Prelude.{◌≡◌, ℕ, zero, suc, ◌+◌, ◌*◌, ◌%◌, ◌^◌, Bool, not, ◌&&◌, ◌||◌, List, [], ◌∷◌, ◌++◌, length, take, drop, position, Option, Some, None, Result, Ok, Err, nat_lt, nat_le, ◌==◌, if◌then◌else◌}
use Rattle.std.specs.Int.{w32, from_be_bytes}
use Rattle.std.specs.List.{list_any}
use Rattle.std.specs.Str.{bytes_eq}
use Rattle.image_file.specs.declared.fault.ImageKind.{ImageKind}
use Rattle.image_file.specs.declared.fault.ImageKind.TheVariants.{Magic, Version, Short, Long, Field}
use Rattle.image_file.specs.declared.fault.ImageFault.{ImageFault}
use Rattle.image_file.specs.declared.fault.ImageFault.TheVariants as faults
use Rattle.image_file.specs.Grammar.{Parts, code_start}

-- what fails, and at which byte
abbrev pub Refusal : Type 0
Refusal = ImageKind × ℕ

-- What a function returned, seen by view, is what reading gives, unless memory ran out.
abbrev pub Fails : {Y : Type 0} → ImageFault → Result Y Refusal → Type 0
Fails faults.Memory read = Unit {0}
Fails (faults.Fault kind at) read = read ≡ Err (kind, at)

abbrev pub Gives : {X Y : Type 0} → (X → Y) → Result X ImageFault → Result Y Refusal → Type 0
Gives view (Ok x) read = read ≡ Ok (view x)
Gives view (Err e) read = Fails e read

-- the number in the four bytes from a place on
abbrev pub number_at : ℕ → List ℕ → ℕ
number_at at bytes = from_be_bytes w32 (take 4 (drop at bytes))

-- the header's fields
abbrev pub magic : List ℕ → ℕ
magic bytes = number_at 0 bytes

abbrev pub version : List ℕ → ℕ
version bytes = number_at 4 bytes

abbrev pub entry : List ℕ → ℕ
entry bytes = number_at 8 bytes

abbrev pub code_length : List ℕ → ℕ
code_length bytes = number_at 12 bytes

abbrev pub static_length : List ℕ → ℕ
static_length bytes = number_at 16 bytes

abbrev pub name_count : List ℕ → ℕ
name_count bytes = number_at 20 bytes

abbrev pub names_length : List ℕ → ℕ
names_length bytes = number_at 24 bytes

abbrev pub last_field : List ℕ → ℕ
last_field bytes = number_at 28 bytes

-- how many bytes the lengths ask for
abbrev pub total : List ℕ → ℕ
total bytes = 32 + code_length bytes + static_length bytes + names_length bytes

-- the first of these that fails: magic, version, and that there are neither fewer bytes nor more than the lengths ask for
abbrev pub frame_rules : ℕ → ℕ → ℕ → ℕ → Option Refusal
frame_rules bytes magic version total =
    if nat_lt bytes 4 then Some (Magic, 0)
    else if not (magic == 0x4F524249) then Some (Magic, 0)
    else if nat_le 8 bytes && not (version == 1) then Some (Version, 4)
    else if nat_lt bytes 32 then Some (Short, bytes)
    else if nat_lt bytes total then Some (Short, bytes)
    else if nat_lt total bytes then Some (Long, total)
    else None

abbrev pub frame_refusal : List ℕ → Option Refusal
frame_refusal bytes = frame_rules (length bytes) (magic bytes) (version bytes) (total bytes)

abbrev pub entry_is_code : ℕ → ℕ → Bool
entry_is_code entry code = (entry % 2 == 0) && nat_le code_start entry && nat_lt entry (code_start + code)

abbrev pub code_length_fits : ℕ → Bool
code_length_fits n = (n % 2 == 0) && nat_le 2 n && nat_le n (2 ^ 28)

abbrev pub static_length_fits : ℕ → Bool
static_length_fits n = (n % 8 == 0) && nat_le n (2 ^ 27)

-- the first field of the header that fails, of entry, lengths and last field
abbrev pub field_rules : ℕ → ℕ → ℕ → ℕ → ℕ → Option Refusal
field_rules entry code statics names last =
    if not (entry_is_code entry code) then Some (Field, 8)
    else if not (code_length_fits code) then Some (Field, 12)
    else if not (static_length_fits statics) then Some (Field, 16)
    else if not (nat_le names (2 ^ 26)) then Some (Field, 24)
    else if not (last == 0) then Some (Field, 28)
    else None

abbrev pub field_refusal : List ℕ → Option Refusal
field_refusal bytes = field_rules (entry bytes) (code_length bytes) (static_length bytes) (names_length bytes) (last_field bytes)

abbrev pub is_name_byte : ℕ → Bool
is_name_byte c = nat_le 33 c && nat_le c 126

-- a name that starts at the place at, where bad is the first of its bytes that isn't one of a name
abbrev pub unless_bad : ℕ → List ℕ → Option ℕ → Result (List ℕ) Refusal
unless_bad at name None = Ok name
unless_bad at name (Some bad) = Err (Field, at + 2 + bad)

abbrev pub checked_name : ℕ → List ℕ → Result (List ℕ) Refusal
checked_name at name = unless_bad at name (position (λ c. not (is_name_byte c)) name)

-- the name at the front: a length, and that many bytes, which don't run past the part
unfoldable pub name_at : ℕ → List ℕ → Result (List ℕ) Refusal
name_at at (high ∷ low ∷ rest) =
    if (256 * high + low == 0) || nat_lt (length rest) (256 * high + low) then Err (Field, at)
    else checked_name at (take (256 * high + low) rest)
name_at at _ = Err (Field, at)

-- whether the text is among the names
abbrev pub has_text : List (List ℕ) → List ℕ → Bool
has_text names text = list_any (bytes_eq text) names

-- one more name, which isn't among those before it
abbrev pub one_more : ℕ → List (List ℕ) → List ℕ → Result (List (List ℕ)) Refusal
one_more at names name = if has_text names name then Err (Field, at) else Ok (names ++ name ∷ [])

infixl 10 ◌>>=◌
abbrev pub ◌>>=◌ : {A B : Type 0} → Result A Refusal → (A → Result B Refusal) → Result B Refusal
(Ok x) >>= f = f x
(Err e) >>= f = Err e

-- that many names behind those before them, which fill the part
unfoldable pub names_at : ℕ → List (List ℕ) → ℕ → List ℕ → Result (List (List ℕ)) Refusal
names_at zero names at [] = Ok names
names_at zero names at (b ∷ rest) = Err (Field, at)
names_at (suc n) names at bytes = do
  name ← name_at at bytes
  more ← one_more at names name
  names_at n more (at + 2 + length name) (drop (2 + length name) bytes)

-- a refusal, or else what follows
abbrev pub unless : {A : Type 0} → Option Refusal → Result A Refusal → Result A Refusal
unless None read = read
unless (Some refusal) read = Err refusal

-- where the names start
abbrev pub names_start : List ℕ → ℕ
names_start bytes = 32 + code_length bytes + static_length bytes

abbrev pub with_names : List ℕ → List (List ℕ) → Parts
with_names bytes names = record {
  code = take (code_length bytes) (drop 32 bytes);
  statics = take (static_length bytes) (drop (32 + code_length bytes) bytes);
  entry = entry bytes;
  names = names;
}

-- the parts behind a header in which nothing fails
unfoldable pub parts_at : List ℕ → Result Parts Refusal
parts_at bytes = names_at (name_count bytes) [] (names_start bytes) (drop (names_start bytes) bytes) >>= λ names. Ok (with_names bytes names)

-- the image, or the first field that fails
unfoldable pub image_at : List ℕ → Result Parts Refusal
image_at bytes = unless (frame_refusal bytes) (unless (field_refusal bytes) (parts_at bytes))
