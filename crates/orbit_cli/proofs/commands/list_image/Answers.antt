use Rattle.std.proofs.Common.{ℕ, List, refl, subst, sym}
use Rattle.orbit_cli.specs.Changes.{change}
use Rattle.orbit_cli.specs.Parts.{IsFetchedListing}
use Rattle.orbit_cli.proofs.Outcomes.{list_refused, listed}
use Rattle.orbit_cli.proofs.Served.{if_served, refused_serves}
use Rattle.orbit_cli.proofs.commands.list_image.Goals as goal

pub returns-in-Ok-clause-outcome : goal.returns-in-Ok-clause-outcome
returns-in-Ok-clause-outcome g c =
    listed g.F.Folder g.S.Sink g.E.Sink (change c.args.folder.now c.fetch_listing.new.folder) (change c.args.out.now c.print.new.out) (change c.args.err.now c.print.new.err) c.args.img.now c.in-Ok.ensures.same c.deref.result.now
    (subst (λ (text : List ℕ). IsFetchedListing g.F.Folder (change c.args.folder.now c.fetch_listing.new.folder) c.args.img.now text) (sym c.deref.ensures.value) c.in-Ok.ensures.listed)
    c.print.result c.print.ensures.reports

pub returns-in-Err-clause-outcome : goal.returns-in-Err-clause-outcome
returns-in-Err-clause-outcome g c =
    list_refused g.F.Folder g.S.Sink g.E.Sink (change c.args.folder.now c.fetch_listing.new.folder) (change c.args.out.now c.args.out.now) (change c.args.err.now c.refuse.new.err) c.args.img.now c.in-Err.refusal c.refuse.result refl c.in-Err.ensures.same c.in-Err.ensures.refused c.refuse.ensures.status c.refuse.ensures.noted

pub returns-in-Ok-clause-served : goal.returns-in-Ok-clause-served
returns-in-Ok-clause-served g c = if_served c.print.result _ c.in-Ok.ensures.served

pub returns-in-Err-clause-served : goal.returns-in-Err-clause-served
returns-in-Err-clause-served g c = refused_serves c.in-Err.refusal c.refuse.result _ c.refuse.ensures.status

pub returns-in-Err-clause-taken : goal.returns-in-Err-clause-taken
returns-in-Err-clause-taken g c = refused_serves c.in-Err.refusal c.refuse.result _ c.refuse.ensures.status
