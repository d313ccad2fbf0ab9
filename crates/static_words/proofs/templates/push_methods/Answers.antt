use Rattle.std.proofs.Common.{◌≡◌, arith}
use Rattle.static_words.specs.Words.{method_words}
use Rattle.static_words.proofs.Methods.{methods_end}
use Rattle.static_words.proofs.templates.push_methods.Goals as goal

pub returns-else-i-codes : goal.returns-else-i-codes
returns-else-i-codes c = methods_end (method_words c.args.statics.now c.args.entries.now) c.args.words.now.items c.loop-i.words.items c.args.ops.now c.args.codes.now c.loop-i.i (λ a b. let f = c.if-i-codes.false in absurd (omega (arith, f, b))) c.loop-i.invariant
