use Rattle.std.proofs.Common.{rules, ◌≡◌, sym, ◌∙◌, arith}
use Rattle.static_names.specs.Named.{fixed_of}
use Rattle.static_tables.specs.Tables.{index_of}
use Rattle.static_tables.proofs.AddLemmas.{is_appended, is_there}
use Rattle.static_tables.proofs.statics.Statics.add.Goals as goal

pub returns-then-word-ne0 : goal.returns-then-word-ne0
returns-then-word-ne0 c = is_there c.args.frames.now c.args.thing c.args.self.now c.requires (λ e. let t = c.if-word-ne0.true in let w = c.word.ensures in absurd (omega (arith, t, w, e)))

pub returns : goal.returns
returns c = is_appended c.args.frames.now c.args.thing _ c.args.self.now c.append.new.self c.requires (let t = c.if-word-ne0.false in let w = c.word.ensures in omega (arith, t, w)) c.in_ok-words.ensures c.in_ok-append.ensures
