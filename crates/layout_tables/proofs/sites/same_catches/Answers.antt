use Rattle.std.proofs.Common.{refl}
use Rattle.layout_tables.proofs.Basics.{same_more, same_all}
use Rattle.layout_tables.proofs.sites.same_catches.Goals as goal

pub loop-place-preserved : goal.loop-place-preserved
loop-place-preserved c = same_more c.args.catches.now c.args.others.now c.loop-place.place _ _ c.loop-place-test.true c.if-catches-others.false c.loop-place.invariant (c.if-not-is_same_catch.ensures refl)

pub returns : goal.returns
returns c = λ t. same_all c.args.catches.now c.args.others.now c.loop-place.place c.loop-place-test.false c.if-catches-others.false c.loop-place.invariant
