use Rattle.std.proofs.Common.{◌≡◌, Err, ap}
use Rattle.t_expand.specs.declared.fault.SyntaxFault.TheVariants as faults
use Rattle.t_expand.proofs.unit.expand.Goals as goal

pub returns-clause-fault : goal.returns-clause-fault
returns-clause-fault c trees kind span held e =
    let same : c.in-Err.fault ≡ faults.Fault kind span = cc in
    c.in-Err.ensures.fault trees kind span held (ap Err same)
