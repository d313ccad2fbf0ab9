use Rattle.std.proofs.Common.{refl}
use Rattle.orbit_cli.specs.Changes.{change}
use Rattle.orbit_cli.proofs.Outcomes.{check_refused, checked}
use Rattle.orbit_cli.proofs.Served.{if_served, refused_serves}
use Rattle.orbit_cli.proofs.commands.check.Goals as goal

pub returns-in-Ok-clause-outcome : goal.returns-in-Ok-clause-outcome
returns-in-Ok-clause-outcome g c =
    checked g.F.Folder g.S.Sink g.E.Sink (change c.args.folder.now c.fetch_counts.new.folder) (change c.args.out.now c.print_counts.new.out) (change c.args.err.now c.print_counts.new.err) c.args.src.now c.in-Ok.ensures.same c.in-Ok.counts c.in-Ok.ensures.counted c.print_counts.result c.print_counts.ensures.reports

pub returns-in-Err-clause-outcome : goal.returns-in-Err-clause-outcome
returns-in-Err-clause-outcome g c =
    check_refused g.F.Folder g.S.Sink g.E.Sink (change c.args.folder.now c.fetch_counts.new.folder) (change c.args.out.now c.args.out.now) (change c.args.err.now c.refuse.new.err) c.args.src.now c.in-Err.refusal c.refuse.result refl c.in-Err.ensures.same c.in-Err.ensures.refused c.refuse.ensures.status c.refuse.ensures.noted

pub returns-in-Ok-clause-served : goal.returns-in-Ok-clause-served
returns-in-Ok-clause-served g c = if_served c.print_counts.result _ c.in-Ok.ensures.served

pub returns-in-Err-clause-served : goal.returns-in-Err-clause-served
returns-in-Err-clause-served g c = refused_serves c.in-Err.refusal c.refuse.result _ c.refuse.ensures.status

pub returns-in-Err-clause-taken : goal.returns-in-Err-clause-taken
returns-in-Err-clause-taken g c = refused_serves c.in-Err.refusal c.refuse.result _ c.refuse.ensures.status
