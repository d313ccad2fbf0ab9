use Rattle.std.proofs.Common.{List, ℕ, [], subst, sym}
use Rattle.std.proofs.lemmas.Option.{get_or_from_slice_get}
use Rattle.orbit_cli.specs.Lines.{value_line}
use Rattle.orbit_cli.specs.Changes.{change, IsPut}
use Rattle.orbit_cli.proofs.report.put_symbol.Goals as goal

pub returns : goal.returns
returns g c =
    subst (λ (text : List ℕ). IsPut g.S.Sink (change c.args.out.now c.put_value.new.sink) (value_line c.args.boot.now.last text) c.put_value.result) (sym (get_or_from_slice_get c.args.boot.now.names c.args.name.0 _ [] c.name_of.ensures))
    (subst (λ last. IsPut g.S.Sink (change c.args.out.now c.put_value.new.sink) (value_line last c.name_of.result.now) c.put_value.result) c.last_byte.ensures c.put_value.ensures)
