use Rattle.std.proofs.Common.{◌++◌, ap, ◌∙◌}
use Rattle.t_forms.specs.Data.{names}
use Rattle.t_rows.specs.Given.{IsPart}
use Rattle.t_rows.specs.Rows.{inside}
use Rattle.t_rows.proofs.ZipLemmas.{zip_push}
use Rattle.form_rows.proofs.object.add_body.Goals as goal

pub returns-clause-refusals : goal.returns-clause-refusals
returns-clause-refusals c texts ps apart z =
    c.in_ok-extend_from_slice.ensures.items ∙ ap (λ x. c.args.object.now.refusals.items ++ x) (c.as_slice.ensures.value ∙ c.in_ok-refusals.ensures texts ps apart z)

pub returns-clause-parts : goal.returns-clause-parts
returns-clause-parts c texts cells ps ds d z parts h =
    rw c.in_ok-push.ensures.items (zip_push (IsPart texts cells) c.args.object.now.parts.items ds _ (inside (names ps) d) parts (c.in_ok-binds.ensures texts ps z, h))
