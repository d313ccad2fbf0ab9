use Rattle.layout_tables.proofs.Basics.{same_more, same_all, same_var}
use Rattle.layout_tables.proofs.scopes.are_same.Goals as goal

pub loop-place-preserved : goal.loop-place-preserved
loop-place-preserved c = same_more c.args.vars.now c.args.others.now c.loop-place.place _ _ c.loop-place-test.true c.if-vars-others.false c.loop-place.invariant (same_var _ _ c.if-vars-place.false)

pub returns : goal.returns
returns c = λ t. same_all c.args.vars.now c.args.others.now c.loop-place.place c.loop-place-test.false c.if-vars-others.false c.loop-place.invariant
