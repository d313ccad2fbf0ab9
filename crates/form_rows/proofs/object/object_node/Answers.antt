use Rattle.std.proofs.Common.{[], ap, ◌∙◌, refl}
use Rattle.t_rows.specs.declared.rows.Shape.TheVariants as code
use Rattle.t_rows.proofs.PartLemmas.{zip_parts}
use Rattle.form_rows.proofs.object.object_node.Goals as goal

pub returns : goal.returns
returns c around p ms apart s h z =
    let o = c.in_ok-object.ensures around p ms apart s h z in
    (_, _, _, refl, ap (λ x. code.Object x) (c.from_vec.ensures ∙ o.ops), o.refusals, zip_parts c.args.names.now c.args.forms.now [] _ _ o.parts)
