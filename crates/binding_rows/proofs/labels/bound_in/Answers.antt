use Rattle.std.proofs.Common.{◌<◌, length, get_or, take, add-one}
use Rattle.std.proofs.Math.Seq.{take-suc}
use Rattle.std.proofs.lemmas.List.{take_all}
use Rattle.t_forms.specs.declared.scope.LocalName.TheVariants as key
use Rattle.binding_rows.specs.declared.labels.Procedure.{Procedure as CodeProcedure}
use Rattle.t_rows.specs.Bindings.{IsBinder}
use Rattle.binding_rows.specs.Procedures.{IsProcedure}
use Rattle.t_rows.proofs.ZipLemmas.{collected, none_collected}
use Rattle.binding_rows.proofs.labels.bound_in.Goals as goal

no_procedure : CodeProcedure
no_procedure = record { name = record { at = record { start = 0; end = 0 }; name = key.Written (record { 0 = 0 }) }; value = 0 }

pub procedures-init : goal.procedures-init
procedures-init c texts cells xs h = rw c.new-names.ensures.items (none_collected (IsProcedure texts cells) (IsBinder texts) (λ b. b.binds) xs h)

pub procedures-preserved : goal.procedures-preserved
unfolding no_procedure
procedures-preserved c texts cells xs h =
    let below : c.procedures.procedure-index < length c.args.procedures.now = c.procedures-test.true in
    rw c.in_ok-push.ensures.items
    (collected (IsProcedure texts cells) (IsBinder texts) (λ b. b.binds) (take c.procedures.procedure-index c.args.procedures.now)
    (get_or c.args.procedures.now c.procedures.procedure-index no_procedure) c.procedures.names.items _ (λ ys k. c.procedures.invariant texts cells ys k)
    (λ d k. k.0) xs
    (rw (add-one, take-suc c.args.procedures.now c.procedures.procedure-index no_procedure below) at h))

pub returns : goal.returns
returns c texts cells xs h =
    c.procedures.invariant texts cells xs (rw (take_all c.procedures.procedure-index c.args.procedures.now c.procedures-test.false) h)
