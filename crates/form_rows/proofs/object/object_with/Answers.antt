use Rattle.std.proofs.Common.{map}
use Rattle.t_forms.specs.Data.{all_of}
use Rattle.form_rows.specs.Methods.{method_of}
use Rattle.t_rows.proofs.Growth.{extends_trans, held_grows}
use Rattle.form_rows.proofs.object.object_with.Goals as goal

pub returns-clause-grown : goal.returns-clause-grown
returns-clause-grown c = extends_trans c.in_ok-found.ensures.grown c.in_ok-row.ensures.grown

pub returns-clause-row : goal.returns-clause-row
returns-clause-row c around p ms apart s h r =
    let texts = c.args.names.now in
    c.in_ok-row.ensures.row around p (all_of (map (method_of c.args.span) ms)) apart s (held_grows c.in_ok-found.ensures.grown texts c.args.procedure p h)
    (c.in_ok-found.ensures.made texts ms (rw c.as_slice.ensures.value (c.in_ok-keys.ensures texts ms r)))
