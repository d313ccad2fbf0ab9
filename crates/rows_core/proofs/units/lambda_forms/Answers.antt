use Rattle.std.proofs.Common.{◌+◌, ◌*◌, List, subst, sym}
use Rattle.t_core.specs.declared.forms.Form.{Form}
use Rattle.rows_core.specs.Units.{HaveAtMost}
use Rattle.rows_core.proofs.UnitLemmas.{more_forms}
use Rattle.rows_core.proofs.units.lambda_forms.Goals as goal

pub loop-n-preserved : goal.loop-n-preserved
loop-n-preserved g c =
    let P : List Form → Type 0 = λ fs. HaveAtMost ((c.loop-n.n-index + 1) * 10010) fs in
    subst P (sym c.in_ok-push.ensures.items) (more_forms c.loop-n.n-index c.loop-n.forms.items c.in_ok-lambda_form.field-0 c.loop-n.invariant c.in_ok-lambda_form.ensures)
