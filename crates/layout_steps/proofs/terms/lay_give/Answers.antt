use Rattle.std.proofs.Common.{refl}
use Rattle.layout_steps.proofs.Laying.{laid_give}
use Rattle.layout_steps.proofs.terms.lay_give.Goals as goal

pub returns : goal.returns
returns c = laid_give c.args.cps.now c.args.tables.now c.args.work.now c.prepare.new.work c.give_away.new.work c.args.line.now (record { ops = c.prepare.new.ops; scope = c.args.line.now.scope; site = c.args.line.now.site }) c.args.term c.args.k c.args.value c.in_ok-given.given c.in_ok-last.last c.requires.below refl c.in_ok-given.ensures c.in_ok-last.ensures
