use Rattle.std.proofs.Common.{refl}
use Rattle.t_rows.specs.Bindings.{IsBinding}
use Rattle.t_rows.proofs.BindingLemmas.{none_left, some_left}
use Rattle.binding_rows.proofs.bindings.let_bindings.Goals as goal

pub returns-in_ok-form-clause-row : goal.returns-in_ok-form-clause-row
returns-in_ok-form-clause-row c vars xs d ds apart z h =
    rw (none_left (IsBinding c.args.texts.now c.args.forms.now) c.args.bindings.now xs z c.if-bindings-eq0.true) (_, refl, c.in_ok-form.ensures.made c.args.texts.now d ds h)

pub returns-else-bindings-eq0-clause-row : goal.returns-else-bindings-eq0-clause-row
returns-else-bindings-eq0-clause-row c vars xs d ds apart z h =
    let s = some_left (IsBinding c.args.texts.now c.args.forms.now) c.args.bindings.now xs z c.if-bindings-eq0.false in
    rw s.2 (c.let_node.ensures.row vars s.0 s.1 d ds apart (rw s.2 at z) h)
