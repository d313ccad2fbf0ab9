use Rattle.std.proofs.Common.{◌∷◌, refl}
use Rattle.t_forms.specs.Data.{names}
use Rattle.t_rows.specs.Rows.{body}
use Rattle.t_rows.proofs.words.lambda_node.Goals as goal

pub returns-clause-row : goal.returns-clause-row
returns-clause-row c vars xs d ds apart z h = (
  _,
  _,
  _,
  refl,
  refl,
  c.in_ok-refusals.ensures c.args.texts.now xs apart z,
  c.in_ok-parts.ensures c.args.texts.now (names xs) (body c.args.span (d ∷ ds)) (c.in_ok-binds.ensures c.args.texts.now xs z) (c.in_ok-form.ensures.made c.args.texts.now d ds h),
)
