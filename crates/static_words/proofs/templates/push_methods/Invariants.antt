use Rattle.std.proofs.Common.{◌≡◌, ◌++◌, ◌-◌, ◌≤◌, drop, length}
use Rattle.std.specs.List.{flat_map}
use Rattle.frame_ir.specs.Calls.{methods_of}
use Rattle.static_words.specs.Words.{method_words}
use Rattle.static_words.proofs.templates.push_methods.Given as goal

abbrev pub invariant-loop-i : goal.invariant-loop-i
invariant-loop-i l = l.words.items ++ flat_map (method_words l.statics l.entries) (methods_of (drop l.i l.ops) (drop l.i l.codes)) ≡ l.fn.words.items ++ flat_map (method_words l.statics l.entries) (methods_of l.ops l.codes)

abbrev pub decreases-loop-i : goal.decreases-loop-i
decreases-loop-i l = length l.ops - l.i
