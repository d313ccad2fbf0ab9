use Rattle.std.proofs.Common.{ap}
use Rattle.t_reader.specs.Grammar.{at}
use Rattle.t_reader.proofs.Depth.{answers}
use Rattle.t_reader.proofs.LastList.{dot_fits, dot_fault}
use Rattle.t_reader.proofs.reader.add_dot.Goals as goal

pub returns-in-Some-clause-gives : goal.returns-in-Some-clause-gives
returns-in-Some-clause-gives c text b r =
    let fits = dot_fits text _ _ _ _ c.in-Some.open c.in-Some.first c.in-Some.ensures.found c.in-Some.ensures.more b r in
    answers _ _ _ (ap (at c.args.span) fits) (c.dot.ensures.reached text b c.args.span r fits) c.dot.ensures.memory

pub returns-in-None-clause-gives : goal.returns-in-None-clause-gives
returns-in-None-clause-gives c text b r =
    rw c.fault.ensures (ap (at c.args.span) (dot_fault text _ _ _ _ c.in-None.ensures.none b r))
