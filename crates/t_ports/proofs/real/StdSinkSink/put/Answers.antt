use Rattle.t_ports.proofs.Counting.{has_cause}
use Rattle.t_ports.proofs.real.StdSinkSink.put.Goals as goal

pub returns-clause-cause : goal.returns-clause-cause
returns-clause-cause g c = has_cause _ _ c.write_to.result c.write_to.ensures.later c.write_to.ensures.faults
