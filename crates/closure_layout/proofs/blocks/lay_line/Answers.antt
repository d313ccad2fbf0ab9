use Rattle.std.proofs.Common.{subst}
use Rattle.closure_layout.specs.Blocks.{IsStep}
use Rattle.closure_layout.proofs.Walking.{sets_out, goes_on, arrives_at}
use Rattle.closure_layout.proofs.blocks.lay_line.Goals as goal

pub loop-count-init : goal.loop-count-init
loop-count-init c = sets_out c.args.cps.now c.args.tables.now c.args.work.now c.args.line.now c.args.start c.requires.below

pub lay_term-requires-clause-below : goal.lay_term-requires-clause-below
lay_term-requires-clause-below c = c.loop-count.invariant.below

pub loop-count-preserved : goal.loop-count-preserved
loop-count-preserved c = goes_on c.args.cps.now c.args.tables.now c.args.work.now c.loop-count.work c.lay_term.new.work c.args.line.now c.loop-count.line c.lay_term.new.line c.args.start c.loop-count.place c.in-Next.next c.loop-count.invariant
    (subst (λ s. IsStep c.args.cps.now c.args.tables.now c.loop-count.work c.lay_term.new.work c.loop-count.line c.lay_term.new.line c.loop-count.place s) c.in-Next.is c.in_ok-next.ensures)

pub returns-in-Done : goal.returns-in-Done
returns-in-Done c = arrives_at c.args.cps.now c.args.tables.now c.args.work.now c.loop-count.work c.lay_term.new.work c.args.line.now c.loop-count.line c.lay_term.new.line c.args.start c.loop-count.place c.in-Done.last c.loop-count.invariant
    (subst (λ s. IsStep c.args.cps.now c.args.tables.now c.loop-count.work c.lay_term.new.work c.loop-count.line c.lay_term.new.line c.loop-count.place s) c.in-Done.is c.in_ok-next.ensures)
