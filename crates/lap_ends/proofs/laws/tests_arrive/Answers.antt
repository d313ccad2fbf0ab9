use Rattle.lap_ends.proofs.Tests.{test_line}
use Rattle.lap_ends.proofs.laws.tests_arrive.Goals as goal

pub returns : goal.returns
returns c = λ a m s t items k x y at_true at_false codes housed place is usable_x usable_y sized stands. test_line a m s housed place codes t items x y at_true at_false is usable_x usable_y k sized stands
