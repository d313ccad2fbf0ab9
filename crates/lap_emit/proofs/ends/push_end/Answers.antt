use Rattle.std.proofs.Common.{◌≡◌, ◌++◌, subst, sym}
use Rattle.std.specs.Prelude.{OnOk}
use Rattle.lap_items.specs.Ends.{test_items}
use Rattle.lap_emit.specs.Written.{AddsEnd}
use Rattle.lap_emit.proofs.Writing.{adds_test, adds_stop}
use Rattle.lap_emit.proofs.ends.push_end.Goals as goal

pub returns-in-Test : goal.returns-in-Test
returns-in-Test c =
    subst (λ e. OnOk c.push_test.result (AddsEnd c.args.placed.now e c.args.items.now.items c.push_test.new.items.items)) (sym c.in-Test.is)
    (adds_test c.args.placed.now c.in-Test.kind c.in-Test.a c.in-Test.b c.in-Test.yes c.in-Test.no c.args.items.now.items c.push_test.new.items.items c.push_test.result
    (subst (λ h. OnOk c.push_test.result (c.push_test.new.items.items ≡ c.args.items.now.items ++ test_items h c.in-Test.kind c.in-Test.a c.in-Test.b c.in-Test.yes c.in-Test.no)) c.as_slice-homes.ensures.value c.push_test.ensures))

pub returns-in-Stop : goal.returns-in-Stop
returns-in-Stop c =
    subst (λ e. OnOk c.push_plain.result (AddsEnd c.args.placed.now e c.args.items.now.items c.push_plain.new.items.items)) (sym c.in-Stop.is)
    (adds_stop c.args.placed.now c.args.items.now.items c.push_plain.new.items.items c.push_plain.result c.push_plain.ensures)
