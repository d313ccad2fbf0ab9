use Rattle.std.proofs.Common.{map}
use Rattle.t_forms.specs.Data.{datum_of}
use Rattle.t_forms.proofs.Loads.{all_loaded}
use Rattle.expansion.specs.Units.{tops_of as forms_of}
use Rattle.t_expand.proofs.StartLemmas.{nothing_tallied}
use Rattle.t_expand.proofs.UnitLemmas.{unit_prepared}
use Rattle.t_expand.proofs.unit.prepare.Goals as goal

pub returns-clause-prepared : goal.returns-clause-prepared
returns-clause-prepared c trees others held begin apart =
    let all = all_loaded c.args.names c.args.nodes.now c.in_ok-forms.forms c.in_ok-forms.ensures c.args.keys.now trees held in
    let tops = c.in_ok-tops.ensures.tops (map datum_of trees) all in
    let entries = c.in_ok-entries.ensures c.tops_of.new.forms (forms_of (map datum_of trees)) others begin apart (rw c.as_slice.ensures.value tops) in
    unit_prepared trees c.args.names c.tops_of.new.forms c.in_ok-entries.entries c.started-expansion.result c.in_ok-tops.tops.items apart c.started-expansion.ensures entries tops

pub returns-clause-nothing : goal.returns-clause-nothing
returns-clause-nothing c = nothing_tallied c.args.names c.tops_of.new.forms c.in_ok-entries.entries c.started-expansion.result c.started-expansion.ensures
