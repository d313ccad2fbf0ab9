use Rattle.std.proofs.Common.{refl}
use Rattle.closure_layout.proofs.Walking.{begin_fits, opened_below}
use Rattle.closure_layout.proofs.blocks.begin_block.Goals as goal

pub lay_line-requires-clause-below : goal.lay_line-requires-clause-below
lay_line-requires-clause-below c = opened_below c.args.work.now c.open_scope.new.work c.args.vars.now c.in_ok-opened.opened c.in_ok-opened.ensures

pub returns : goal.returns
returns c = begin_fits c.args.cps.now c.args.tables.now c.args.work.now c.open_scope.new.work c.lay_line.new.work (record { ops = c.new.result; scope = c.in_ok-opened.opened.scope; site = c.in_ok-site.site }) c.lay_line.new.line c.args.vars.now c.in_ok-opened.opened c.args.site.now c.args.term _ c.in_ok-opened.ensures c.new.ensures.items refl c.in_ok-site.ensures refl refl c.in_ok-last.ensures
