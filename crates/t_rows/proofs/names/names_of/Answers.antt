use Rattle.std.proofs.Common.{◌<◌, length, get_or, take, add-one}
use Rattle.std.proofs.Math.Seq.{take-suc}
use Rattle.std.proofs.lemmas.List.{take_all}
use Rattle.t_forms.specs.declared.scope.LocalName.TheVariants as key
use Rattle.t_rows.specs.declared.names.Binder.{Binder as CodeBinder}
use Rattle.t_forms.specs.Held.{IsName}
use Rattle.t_rows.specs.Bindings.{IsBinder}
use Rattle.t_rows.proofs.PartLemmas.{zip_names}
use Rattle.t_rows.proofs.ZipLemmas.{collected}
use Rattle.t_rows.proofs.names.names_of.Goals as goal

no_binder : CodeBinder
no_binder = record { at = record { start = 0; end = 0 }; name = key.Written (record { 0 = 0 }) }

pub binders-preserved : goal.binders-preserved
unfolding no_binder
binders-preserved c texts bs h =
    let below : c.binders.binder-index < length c.args.binders.now = c.binders-test.true in
    rw c.in_ok-push.ensures.items
    (collected (IsBinder texts) (IsName texts) (λ b. b.name) (take c.binders.binder-index c.args.binders.now) (get_or c.args.binders.now c.binders.binder-index no_binder)
    c.binders.names.items _ (λ xs k. c.binders.invariant texts xs k) (λ d k. k.1) bs
    (rw (add-one, take-suc c.args.binders.now c.binders.binder-index no_binder below) at h))

pub returns : goal.returns
returns c texts bs h =
    zip_names texts c.binders.names.items _ (c.binders.invariant texts bs (rw (take_all c.binders.binder-index c.args.binders.now c.binders-test.false) h))
