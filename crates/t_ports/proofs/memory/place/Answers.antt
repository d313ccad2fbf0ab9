use Rattle.std.proofs.Common.{◌∙◌, sym, refl}
use Rattle.std.proofs.lemmas.Slice.Eq.{bytes_eq-Decides}
use Rattle.std.proofs.lemmas.Option.{slice_get_read}
use Rattle.t_ports.proofs.Lookup.{none_further}
use Rattle.t_ports.proofs.memory.place.Goals as goal

pub returns-then-has_name-clause-found : goal.returns-then-has_name-clause-found
returns-then-has_name-clause-found c = (
  c.entries-test.true,
  (
    c.entries.invariant,
    (
      c.index-entries-i.result,
      slice_get_read c.args.entries.now _ c.entries.i c.index-entries-i.result refl c.entries-test.true c.index-entries-i.is,
      (bytes_eq-Decides c.index-entries-i.result.name c.args.name.now).0 (sym c.has_name.ensures ∙ c.if-has_name.true),
    ),
  ),
)

pub entries-preserved : goal.entries-preserved
entries-preserved c =
    none_further c.args.entries.now c.entries.i c.args.name.now c.index-entries-i.result
    (slice_get_read c.args.entries.now _ c.entries.i c.index-entries-i.result refl c.entries-test.true c.index-entries-i.is)
    (sym c.has_name.ensures ∙ c.if-has_name.false)
    c.entries.invariant
