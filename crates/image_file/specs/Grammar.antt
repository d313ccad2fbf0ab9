-- What an image is, and the one spelling of each.
use Rattle.std.specs.Prelude.{◌≡◌, ◌≢◌, AllPairs, ℕ, ◌+◌, ◌/◌, ◌%◌, ◌^◌, ◌<◌, ◌≤◌, List, [], ◌∷◌, ◌++◌, length}
use Rattle.std.specs.List.{flat_map, AllByRecursion}
use Rattle.std.specs.Int.{w32, to_be_bytes}
use Rattle.image_file.specs.declared.image.Image.{Image}

-- an image without where it lies in memory
pub record Parts : Type 0 where
  pub code : List ℕ
  pub statics : List ℕ
  pub entry : ℕ
  pub names : List (List ℕ)

abbrev pub parts_of : Image → Parts
parts_of i = record { code = i.code.items; statics = i.statics.items; entry = i.entry; names = i.names }

-- a number in two bytes, and in four, high byte first
abbrev pub two : ℕ → List ℕ
two n = n / 256 ∷ n % 256 ∷ []

abbrev pub four : ℕ → List ℕ
four n = to_be_bytes w32 n

-- a name is its length and its bytes
abbrev pub name_spelling : List ℕ → List ℕ
name_spelling name = two (length name) ++ name

abbrev pub names_spelling : List (List ℕ) → List ℕ
names_spelling names = flat_map name_spelling names

-- magic, version, entry, the three lengths with the count of names before the last, and a zero
abbrev pub header : Parts → List ℕ
header p =
    flat_map four (0x4F524249 ∷ 1 ∷ p.entry ∷ length p.code ∷ length p.statics ∷ length p.names ∷ length (names_spelling p.names) ∷ 0 ∷ [])

abbrev pub spelling : Parts → List ℕ
spelling p = header p ++ (p.code ++ (p.statics ++ names_spelling p.names))

-- a name has 1 to 65535 bytes, each of which prints and is no blank
abbrev pub IsNameByte : ℕ → Type 0
IsNameByte c = (33 ≤ c) × (c ≤ 126)

pub record IsName (name : List ℕ) : Type 0 where
  pub some : 1 ≤ length name
  pub short : length name < 2 ^ 16
  pub printed : AllByRecursion IsNameByte name

-- no text stands twice
abbrev pub AreDistinct : List (List ℕ) → Type 0
AreDistinct names = AllPairs (λ a b. a ≢ b) names

-- code starts at this address
abbrev pub code_start : ℕ
code_start = 65536

-- which parts are those of an image
pub record IsImage (p : Parts) : Type 0 where
  pub entry_even : p.entry % 2 ≡ 0
  pub entry_from : code_start ≤ p.entry
  pub entry_to : p.entry < code_start + length p.code
  pub code_even : length p.code % 2 ≡ 0
  pub code_some : 2 ≤ length p.code
  pub code_short : length p.code ≤ 2 ^ 28
  pub statics_whole : length p.statics % 8 ≡ 0
  pub statics_short : length p.statics ≤ 2 ^ 27
  pub names : AllByRecursion IsName p.names
  pub names_short : length (names_spelling p.names) ≤ 2 ^ 26
  pub names_distinct : AreDistinct p.names

-- the bytes are those of the image
pub record IsImageOf (bytes : List ℕ) (p : Parts) : Type 0 where
  pub image : IsImage p
  pub spelled : bytes ≡ spelling p
