use Rattle.t_forms.specs.Held.{vars_of}
use Rattle.t_rows.specs.Rows.{meant}
use Rattle.form_rows.proofs.MethodLemmas.{fixed_is, meant_is}
use Rattle.form_rows.proofs.object.operation_of.Goals as goal

pub returns-in-Some : goal.returns-in-Some
returns-in-Some c d around apart h s = fixed_is around d c.in-Some.o (c.in-Some.ensures c.args.names.now d h)

pub returns-in-None : goal.returns-in-None
returns-in-None c d around apart h s =
    meant_is around d c.operation_meant.result (c.in-None.ensures c.args.names.now d h)
    (c.operation_meant.ensures (vars_of c.args.scope.now) (meant around d) (c.meant.ensures d around apart h s))
