-- The static bytes of an image.
use Rattle.std.specs.Prelude.{ℕ, List, slice_index}
use Rattle.std.specs.Int.{w32, to_be_bytes}
use Rattle.std.specs.List.{flat_map}
use Rattle.word_ir.specs.declared.words.StaticWord.{StaticWord}
use Rattle.word_ir.specs.declared.words.StaticWord.TheVariants as first
use Rattle.word_ir.specs.Storage.{static_at}

-- what a static word holds at first, where the code of a block begins at the address of its label; a block without a label is at 0
abbrev pub long_of : List ℕ → StaticWord → ℕ
long_of labels (first.Word n) = n
long_of labels (first.Static place) = static_at place
long_of labels (first.Code block) = slice_index labels block

-- its four bytes, the highest one first
abbrev pub bytes_of : List ℕ → StaticWord → List ℕ
bytes_of labels word = to_be_bytes w32 (long_of labels word)

abbrev pub static_bytes : List StaticWord → List ℕ → List ℕ
static_bytes statics labels = flat_map (bytes_of labels) statics
