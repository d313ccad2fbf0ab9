use Rattle.std.proofs.Common.{refl, ap, Err}
use Rattle.std.proofs.lemmas.Result.{err_from_is_err_and}
use Rattle.t_reader.specs.Grammar.{trees}
use Rattle.t_expand.specs.declared.fault.SyntaxFault.{SyntaxFault}
use Rattle.orbit_build.proofs.FaultLemmas.{refused_as}
use Rattle.orbit_build.proofs.build.read_core.Goals as goal

pub returns-in_err-core-clause-syntax : goal.returns-in_err-core-clause-syntax
returns-in_err-core-clause-syntax c = λ kind span e.
    let d = c.in_ok-unit.ensures.data in
    let p = err_from_is_err_and c.from_residual-in_err-core.result c.from_residual-in_err-core.ensures.1 in
    record {
      data_ = trees c.args.text.now d.forms;
      reads = record { forms = d.forms; written = d.written; data_are = refl };
      first = c.in_err-core.ensures.fault (trees c.args.text.now d.forms) kind span d.held (ap (λ (f : SyntaxFault). Err f) (refused_as c.from_residual-in_err-core.result p.0 c.in_err-core.field-0.0 kind span p.1 p.2 e));
    }
