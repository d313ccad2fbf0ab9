use Rattle.std.proofs.Common.{ap}
use Rattle.std.specs.Option.{option_map}
use Rattle.t_forms.specs.Names.{meaning}
use Rattle.form_rows.proofs.calls.meant.Goals as goal

pub returns-in-Some : goal.returns-in-Some
returns-in-Some c d around apart h s =
    let n = c.in-Some.ensures c.args.names.now d h in
    (meaning around n.0, ap (option_map (meaning around)) n.1, c.meaning_of.ensures n.0 around apart n.2 s)
