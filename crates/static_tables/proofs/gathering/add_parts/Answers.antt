use Rattle.std.proofs.Common.{◌≡◌, ◌∙◌, arith}
use Rattle.static_names.specs.Named.{fixed_of}
use Rattle.static_tables.proofs.Closing.{nothing_added, parts_added}
use Rattle.static_tables.proofs.gathering.add_parts.Goals as goal

pub returns-then-word-eq0 : goal.returns-then-word-eq0
returns-then-word-eq0 c = nothing_added c.args.frames.now (fixed_of c.args.thing) c.args.statics.now c.requires (let t = c.if-word-eq0.true in let w = c.word.ensures in omega (arith, t, w))

pub returns : goal.returns
returns c = parts_added c.args.frames.now (fixed_of c.args.thing) c.args.statics.now c.add_all.new.self c.as_slice.result.now c.requires (λ e. let t = c.if-word-eq0.false in let w = c.word.ensures in absurd (omega (arith, t, w, e))) (c.as_slice.ensures.value ∙ c.in_ok-parts.ensures) c.in_ok-add_all.ensures
