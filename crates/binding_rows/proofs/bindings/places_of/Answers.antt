use Rattle.std.proofs.Common.{◌<◌, length, get_or, take, add-one}
use Rattle.std.proofs.Math.Seq.{take-suc}
use Rattle.std.proofs.lemmas.List.{take_all}
use Rattle.t_forms.specs.declared.scope.LocalName.TheVariants as key
use Rattle.t_forms.specs.Held.{Held}
use Rattle.t_rows.specs.declared.names.Binding.{Binding as CodeBinding}
use Rattle.t_rows.specs.Bindings.{IsBinding}
use Rattle.t_rows.specs.Rows.{name_datum}
use Rattle.t_rows.proofs.ZipLemmas.{collected, none_collected}
use Rattle.binding_rows.proofs.bindings.places_of.Goals as goal

no_binding : CodeBinding
no_binding = record { name = record { at = record { start = 0; end = 0 }; name = key.Written (record { 0 = 0 }) }; value = 0; place = 0 }

pub bindings-init : goal.bindings-init
bindings-init c names cells xs h = rw c.new-keys.ensures.items (none_collected (IsBinding names cells) (Held names cells) (λ x. name_datum x.binds) xs h)

pub bindings-preserved : goal.bindings-preserved
unfolding no_binding
bindings-preserved c names cells xs h =
    let below : c.bindings.binding-index < length c.args.bindings.now = c.bindings-test.true in
    rw c.in_ok-push.ensures.items
    (collected (IsBinding names cells) (Held names cells) (λ x. name_datum x.binds) (take c.bindings.binding-index c.args.bindings.now)
    (get_or c.args.bindings.now c.bindings.binding-index no_binding) c.bindings.keys.items _ (λ ys k. c.bindings.invariant names cells ys k) (λ d k. k.2) xs
    (rw (add-one, take-suc c.args.bindings.now c.bindings.binding-index no_binding below) at h))

pub returns : goal.returns
returns c names cells xs h =
    c.bindings.invariant names cells xs (rw (take_all c.bindings.binding-index c.args.bindings.now c.bindings-test.false) h)
