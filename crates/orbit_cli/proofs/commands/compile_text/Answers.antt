use Rattle.orbit_cli.proofs.Served.{refused_serves}
use Rattle.orbit_cli.proofs.commands.compile_text.Goals as goal

pub returns-in-Err-clause-served : goal.returns-in-Err-clause-served
returns-in-Err-clause-served g c = refused_serves c.in-Err.refusal c.refuse.result _ c.refuse.ensures.status
