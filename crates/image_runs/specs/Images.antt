-- The image that is made of items: their code, some static words as bytes, the entry's label, some names.
use Rattle.std.specs.Prelude.{ℕ, List, slice_index}
use Rattle.program_runs.specs.Runs.{Run}
use Rattle.word_ir.specs.declared.words.Words.{Words}
use Rattle.word_ir.specs.Names.{image_names}
use Rattle.static_bytes.specs.Bytes.{static_bytes}
use Rattle.image_file.specs.Grammar.{Parts}
use Rattle.m68020_step.specs.declared.machine.Sizes.{Sizes}
use Rattle.m68020_asm.specs.declared.item.Item.{Item}
use Rattle.m68020_asm.specs.Assembled.{IsAssembled}
use Rattle.item_runs.specs.Laws.{items_of}

-- Items, with the code and the addresses of labels that came of them.
pub record Assembled : Type 0 where
  pub items : List Item
  pub bytes : List ℕ
  pub labels : List ℕ
  pub are : IsAssembled items bytes labels

-- with the static words of a program, the label of its entry block, and its names as an image has them
abbrev pub image_of : Words → List ℕ → List ℕ → Parts
image_of words bytes labels = record {
  code = bytes;
  statics = static_bytes words.statics.items labels;
  entry = slice_index labels words.entry;
  names = image_names words.shared.names;
}

-- what is seen of the items, with these static words, names and entry
abbrev pub items_run : Words → Assembled → Sizes → Run
items_run words a sizes = items_of (image_names words.shared.names) a.items a.bytes a.labels a.are (static_bytes words.statics.items a.labels) words.entry sizes
