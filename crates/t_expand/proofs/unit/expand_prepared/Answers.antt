use Rattle.std.proofs.Common.{map}
use Rattle.t_forms.specs.Data.{datum_of}
use Rattle.unit_tops.specs.Tops.{AreTops}
use Rattle.expansion.specs.Units.{tops_of as forms_of, definitions_of}
use Rattle.t_expand.proofs.UnitLemmas.{core_made, nothing_refused}
use Rattle.t_expand.proofs.UnitParts.{unit_strings, unit_table}
use Rattle.t_expand.proofs.unit.expand_prepared.Goals as goal

pub returns-clause-outcome : goal.returns-clause-outcome
returns-clause-outcome c names trees text p =
    let ts = forms_of (map datum_of trees) in
    let defined = definitions_of (forms_of (map datum_of trees)) in
    let are : AreTops c.args.prepared.expansion.shared.names c.args.prepared.expansion.forms c.as_slice.result.now ts = rw c.as_slice.ensures.value p.tops_are in
    let none = nothing_refused trees c.expand_all.new.self.first c.in-None.is (c.in_ok-list.ensures.refused ts defined p.ready are p.first) in (
      core_made trees names c.args.prepared.expansion c.expand_all.new.self c.args.prepared.tops.items c.in_ok-list.list c.in_ok-made-in-None.made.0
          c.in_ok-made-in-None.made.1.items text p (c.in_ok-list.ensures.kept ts defined p.ready are) (c.in_ok-list.ensures.meant ts defined p.ready are p.first c.in-None.is) none
          (c.in_ok-list.ensures.tallied (λ h. c.requires.nothing) c.in-None.is) c.in_ok-list.ensures.globals c.in_ok-made-in-None.ensures,
      none,
    )

pub returns-clause-table : goal.returns-clause-table
returns-clause-table c names trees table text p is =
    let ts = forms_of (map datum_of trees) in
    let defined = definitions_of (forms_of (map datum_of trees)) in
    let are : AreTops c.args.prepared.expansion.shared.names c.args.prepared.expansion.forms c.as_slice.result.now ts = rw c.as_slice.ensures.value p.tops_are in
    let none = nothing_refused trees c.expand_all.new.self.first c.in-None.is (c.in_ok-list.ensures.refused ts defined p.ready are p.first) in
    unit_table trees names c.args.prepared.expansion c.expand_all.new.self c.args.prepared.tops.items c.in_ok-list.list c.in_ok-made-in-None.made.0
    c.in_ok-made-in-None.made.1.items table text p (c.in_ok-list.ensures.kept ts defined p.ready are) none c.in_ok-made-in-None.ensures is

pub returns-clause-bytes : goal.returns-clause-bytes
returns-clause-bytes c names trees text p =
    let ts = forms_of (map datum_of trees) in
    let defined = definitions_of (forms_of (map datum_of trees)) in
    let are : AreTops c.args.prepared.expansion.shared.names c.args.prepared.expansion.forms c.as_slice.result.now ts = rw c.as_slice.ensures.value p.tops_are in
    let none = nothing_refused trees c.expand_all.new.self.first c.in-None.is (c.in_ok-list.ensures.refused ts defined p.ready are p.first) in
    let tallied = c.in_ok-list.ensures.tallied (λ h. c.requires.nothing) c.in-None.is in
    let core = core_made trees names c.args.prepared.expansion c.expand_all.new.self c.args.prepared.tops.items c.in_ok-list.list c.in_ok-made-in-None.made.0
    c.in_ok-made-in-None.made.1.items text p (c.in_ok-list.ensures.kept ts defined p.ready are) (c.in_ok-list.ensures.meant ts defined p.ready are p.first c.in-None.is) none
    tallied c.in_ok-list.ensures.globals c.in_ok-made-in-None.ensures in
    unit_strings trees names c.expand_all.new.self c.in_ok-list.list c.in_ok-made-in-None.made.0 c.in_ok-made-in-None.made.1.items text core tallied c.in_ok-made-in-None.ensures
