use Rattle.std.proofs.Common.{refl}
use Rattle.layout_steps.proofs.Laying.{laid_halt}
use Rattle.layout_steps.proofs.terms.lay_halt.Goals as goal

pub returns : goal.returns
returns c = laid_halt c.args.cps.now c.args.tables.now c.args.work.now c.prepare.new.work c.args.line.now (record { ops = c.prepare.new.ops; scope = c.args.line.now.scope; site = c.args.line.now.site }) c.args.term c.args.value c.in_ok-end.end c.requires.below refl c.in_ok-end.ensures
