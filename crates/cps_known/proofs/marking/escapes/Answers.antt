use Rattle.std.proofs.Common.{◌≡◌, length, ◌∙◌, ap, arith}
use Rattle.std.specs.Prelude.{replicate, true}
use Rattle.cps_known.proofs.MarkedThere.{all_enough}
use Rattle.cps_known.proofs.marking.escapes.Goals as goal

pub returns : goal.returns
returns c =
    let counted : c.args.cps.now.lams.len ≡ length c.args.cps.now.lams.items = let tied = c.args.cps.now.lams.ok.0 in omega (arith, tied) in
    all_enough c.args.cps.now _ c.variable_count.result c.requires (c.in_ok-lams.ensures ∙ ap (λ n. replicate n true) (c.len.ensures ∙ counted)) c.in_ok-vars.ensures c.variable_count.ensures.terms c.variable_count.ensures.lams
