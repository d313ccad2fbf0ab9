use Rattle.std.proofs.Common.{take}
use Rattle.t_expand.specs.Expanding.{IsFirst}
use Rattle.t_expand.proofs.driver_first.noted.Given as goal

abbrev pub invariant-refusals : goal.invariant-refusals
invariant-refusals l = IsFirst l.fn.first (take l.refusal-index l.refusals) l.least
