use Rattle.std.proofs.Common.{sym}
use Rattle.t_forms.specs.Held.{vars_of}
use Rattle.t_rows.specs.Rows.{meant}
use Rattle.form_rows.proofs.CallLemmas.{operator_by_meaning}
use Rattle.form_rows.proofs.calls.operator_of.Goals as goal

pub returns-in-None : goal.returns-in-None
returns-in-None c f around apart h s =
    operator_by_meaning around c.operator_meant.result f (sym (c.in-None.ensures c.args.names.now f h))
    (c.operator_meant.ensures (vars_of c.args.scope.now) (meant around f) (c.meant.ensures f around apart h s))
