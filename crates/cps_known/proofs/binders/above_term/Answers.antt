use Rattle.std.specs.Prelude.{All}
use Rattle.std.proofs.Common.{◌<◌, sym, subst}
use Rattle.std.proofs.lemmas.List.Elements.{All-map}
use Rattle.cps_known.specs.Binders.{value_binders, AreBelow}
use Rattle.cps_known.proofs.binders.above_term.Goals as goal

pub returns-in-Labels-clause-above : goal.returns-in-Labels-clause-above
returns-in-Labels-clause-above c =
    subst (λ t. AreBelow c.above_all.result (value_binders t)) (sym c.in-Labels.is)
    (All-map (λ x. x < c.above_all.result) (λ v. v.0) c.in-Labels.vars (subst (All (λ v. v.0 < c.above_all.result)) c.as_slice.ensures c.above_all.ensures.above))
