use Rattle.std.proofs.Common.{◌≡◌, Some, None, slice_get, refl, sym, ◌∙◌}
use Rattle.std.proofs.lemmas.Result.{on_ok_weaker}
use Rattle.expansion.specs.Units.{defined_name as name_of}
use Rattle.unit_tops.proofs.EntryLemmas.{written_name, entry_known, entry_added}
use Rattle.unit_tops.proofs.entries.Entries.add.Goals as goal

pub returns-in-Some-Some : goal.returns-in-Some-Some
returns-in-Some-Some c names cells d entries apart of are =
    let w = written_name names c.defined_name.result.name (name_of d).name c.in-Written.name (c.defined_name.ensures names cells d of).1 c.in-Written.is in
    let at : slice_get c.args.self.now.table.items c.in-Written.name.0 ≡ Some (Some c.in-Some-Some.field-0-0) = rw (sym c.as_slice.ensures.value) (sym c.in-Some-Some.ensures ∙ (rw c.in-Some-Some.field-0-is refl)) in
    rw (entry_known names c.args.self.now entries d c.in-Written.name c.in-Some-Some.field-0-0 are w at) are

pub returns-in-Some-None : goal.returns-in-Some-None
returns-in-Some-None c names cells d entries apart of are =
    let w = written_name names c.defined_name.result.name (name_of d).name c.in-Written.name (c.defined_name.ensures names cells d of).1 c.in-Written.is in
    let at : slice_get c.args.self.now.table.items c.in-Written.name.0 ≡ Some None = rw (sym c.as_slice.ensures.value) (sym c.in-Some-None.ensures ∙ (rw c.in-Some-None.field-0-is refl)) in
    on_ok_weaker c.put.result (λ put. entry_added names cells c.args.self.now c.put.new.self entries c.args.definition.now d c.in-Written.name apart are w at of put) c.put.ensures
