use Rattle.std.proofs.Common.{◌<◌, length, get_or, take, add-one, refl, ◌∙◌}
use Rattle.std.proofs.Math.Seq.{take-suc}
use Rattle.std.proofs.lemmas.List.{take_all}
use Rattle.t_forms.specs.declared.scope.LocalName.TheVariants as key
use Rattle.binding_rows.specs.declared.labels.Procedure.{Procedure as CodeProcedure}
use Rattle.t_forms.specs.Data.{names}
use Rattle.binding_rows.proofs.ProcedureLemmas.{no_parts, one_more_part}
use Rattle.binding_rows.proofs.labels.procedure_parts.Goals as goal

no_procedure : CodeProcedure
no_procedure = record { name = record { at = record { start = 0; end = 0 }; name = key.Written (record { 0 = 0 }) }; value = 0 }

pub procedures-init : goal.procedures-init
procedures-init c texts cells bs xs z h = rw c.new-parts.ensures.items (no_parts texts cells (names bs) xs h)

pub procedures-preserved : goal.procedures-preserved
unfolding no_procedure
procedures-preserved c texts cells bs xs z h =
    let below : c.procedures.procedure-index < length c.args.procedures.now = c.procedures-test.true in
    let count = c.len.ensures ∙ c.procedures.parts.ok.0 in
    rw c.in_ok-push.ensures.items
    (one_more_part texts cells (names bs) (take c.procedures.procedure-index c.args.procedures.now) (get_or c.args.procedures.now c.procedures.procedure-index no_procedure)
    c.procedures.parts.items _ (λ ys k. c.procedures.invariant texts cells bs ys z k)
    (λ before some. c.in_ok-binds.ensures texts bs before z (rw count some)) refl xs
    (rw (add-one, take-suc c.args.procedures.now c.procedures.procedure-index no_procedure below) at h))

pub returns : goal.returns
returns c texts cells bs xs z h =
    c.procedures.invariant texts cells bs xs z (rw (take_all c.procedures.procedure-index c.args.procedures.now c.procedures-test.false) h)
