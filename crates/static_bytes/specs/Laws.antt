-- Laws of the static bytes.
use Rattle.std.specs.Prelude.{◌≡◌, ℕ, ◌*◌, List, length, take, drop, slice_get, Some}
use Rattle.word_ir.specs.declared.words.StaticWord.{StaticWord}
use Rattle.static_bytes.specs.Bytes.{bytes_of, static_bytes}

-- four for each word
abbrev pub FourEach : Type 0
FourEach = (statics : List StaticWord) (labels : List ℕ) → length (static_bytes statics labels) ≡ 4 * length statics

-- and they stand in order
abbrev pub StandInOrder : Type 0
StandInOrder =
    (statics : List StaticWord) (labels : List ℕ) (place : ℕ) (word : StaticWord) → slice_get statics place ≡ Some word
    → take 4 (drop (4 * place) (static_bytes statics labels)) ≡ bytes_of labels word
