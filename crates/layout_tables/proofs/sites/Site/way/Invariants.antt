use Rattle.std.proofs.Common.{◌≡◌, drop}
use Rattle.layout_relation.specs.Contexts.{exit_of}
use Rattle.layout_tables.specs.Sketches.{exits_of}
use Rattle.layout_tables.specs.declared.tables.Tables.{Tables}
use Rattle.layout_tables.proofs.sites.Site.way.Given as goal

abbrev pub invariant-loop-place : goal.invariant-loop-place
invariant-loop-place l = (w : Tables) → exit_of (exits_of w l.self.joins l.self.own) l.k.0 ≡ exit_of (exits_of w (drop l.place l.self.joins) l.self.own) l.k.0
