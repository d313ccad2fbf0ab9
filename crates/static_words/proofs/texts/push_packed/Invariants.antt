use Rattle.std.proofs.Common.{◌≡◌, ◌++◌, ◌-◌, map, drop, length}
use Rattle.word_ir.specs.declared.words.StaticWord.TheVariants as first
use Rattle.frame_words.specs.Layouts.{packed}
use Rattle.static_words.proofs.texts.push_packed.Given as goal

abbrev pub invariant-loop-at : goal.invariant-loop-at
invariant-loop-at l = l.words.items ++ map first.Word (packed (drop l.at l.bytes)) ≡ l.fn.words.items ++ map first.Word (packed l.bytes)

abbrev pub decreases-loop-at : goal.decreases-loop-at
decreases-loop-at l = length l.bytes - l.at
