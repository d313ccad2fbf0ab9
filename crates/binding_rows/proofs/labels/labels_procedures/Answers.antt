use Rattle.std.proofs.Common.{refl}
use Rattle.binding_rows.specs.Procedures.{IsProcedure}
use Rattle.t_rows.proofs.BindingLemmas.{none_left, some_left}
use Rattle.binding_rows.proofs.labels.labels_procedures.Goals as goal

pub returns-in_ok-form-clause-row : goal.returns-in_ok-form-clause-row
returns-in_ok-form-clause-row c vars xs d ds apart z h =
    rw (none_left (IsProcedure c.args.texts.now c.args.forms.now) c.args.procedures.now xs z c.if-procedures-eq0.true) (_, refl, c.in_ok-form.ensures.made c.args.texts.now d ds h)

pub returns-else-procedures-eq0-clause-row : goal.returns-else-procedures-eq0-clause-row
returns-else-procedures-eq0-clause-row c vars xs d ds apart z h =
    let s = some_left (IsProcedure c.args.texts.now c.args.forms.now) c.args.procedures.now xs z c.if-procedures-eq0.false in
    rw s.2 (c.labels_node.ensures.row vars s.0 s.1 d ds apart (rw s.2 at z) h)
