use Rattle.std.proofs.Common.{refl, ◌∙◌}
use Rattle.closure_layout.proofs.Walking.{arm_fits}
use Rattle.closure_layout.proofs.blocks.arm_block.Goals as goal

pub returns : goal.returns
returns c = arm_fits c.args.cps.now c.args.tables.now c.args.work.now c.lay_line.new.work (record { ops = c.new.result; scope = c.in_ok-copy.field-0; site = c.in_ok-copy-2.field-0 }) c.lay_line.new.line c.args.scope.now c.args.site.now c.args.term _ c.new.ensures.items c.in_ok-copy.ensures c.in_ok-copy-2.ensures (c.from_vec.ensures ∙ c.new-2.ensures.items) refl c.in_ok-last.ensures
