use Rattle.std.proofs.Common.{ap}
use Rattle.std.specs.Option.{option_map}
use Rattle.t_forms.specs.Data.{span_of, binder}
use Rattle.t_rows.proofs.names.binder_of.Goals as goal

pub returns-in-Some : goal.returns-in-Some
returns-in-Some c names d h =
    let n = c.in-Some.ensures names d h in
    (binder (span_of d) n.0, ap (option_map (binder (span_of d))) n.1, (c.span_of.ensures names d h, n.2))
