use Rattle.std.proofs.Common.{refl}
use Rattle.layout_steps.proofs.Laying.{laid_if}
use Rattle.layout_tables.proofs.Growing.{below_more}
use Rattle.layout_steps.proofs.terms.lay_if.Goals as goal

pub arm-requires : goal.arm-requires
arm-requires c = below_more c.args.work.now.next c.prepare.new.work.next c.args.line.now.scope c.in_ok-tested.ensures.grows.next c.requires.below

pub returns : goal.returns
returns c = laid_if c.args.cps.now c.args.tables.now c.args.work.now c.prepare.new.work c.arm.new.work c.arm-2.new.work c.args.line.now (record { ops = c.prepare.new.ops; scope = c.args.line.now.scope; site = c.args.line.now.site }) c.args.term c.args.test c.in_ok-tested.tested c.args.yes c.args.no c.in_ok-yes.yes c.in_ok-no.no c.requires.below refl c.in_ok-tested.ensures c.in_ok-yes.ensures c.in_ok-no.ensures
