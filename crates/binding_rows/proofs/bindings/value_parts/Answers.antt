use Rattle.std.proofs.Common.{◌<◌, length, get_or, take, add-one}
use Rattle.std.proofs.Math.Seq.{take-suc}
use Rattle.std.proofs.lemmas.List.{take_all}
use Rattle.t_forms.specs.declared.scope.LocalName.TheVariants as key
use Rattle.t_rows.specs.declared.names.Binding.{Binding as CodeBinding}
use Rattle.t_rows.specs.Bindings.{IsBinding}
use Rattle.t_rows.specs.Given.{IsPart}
use Rattle.t_rows.specs.Rows.{plain}
use Rattle.t_rows.proofs.ZipLemmas.{collected, none_collected}
use Rattle.binding_rows.proofs.bindings.value_parts.Goals as goal

no_binding : CodeBinding
no_binding = record { name = record { at = record { start = 0; end = 0 }; name = key.Written (record { 0 = 0 }) }; value = 0; place = 0 }

pub bindings-init : goal.bindings-init
bindings-init c names xs h =
    rw c.in_ok-parts.ensures.items (none_collected (IsBinding names c.args.forms.now) (IsPart names c.args.forms.now) (λ x. plain x.value) xs h)

pub bindings-preserved : goal.bindings-preserved
unfolding no_binding
bindings-preserved c names xs h =
    let below : c.bindings.binding-index < length c.args.bindings.now = c.bindings-test.true in
    rw c.in_ok-push.ensures.items
    (collected (IsBinding names c.args.forms.now) (IsPart names c.args.forms.now) (λ x. plain x.value) (take c.bindings.binding-index c.args.bindings.now)
    (get_or c.args.bindings.now c.bindings.binding-index no_binding) c.bindings.parts.items _ (λ ys k. c.bindings.invariant names ys k)
    (λ d k. (rw c.new.ensures.items tt, k.1)) xs
    (rw (add-one, take-suc c.args.bindings.now c.bindings.binding-index no_binding below) at h))

pub returns : goal.returns
returns c names xs h =
    c.bindings.invariant names xs (rw (take_all c.bindings.binding-index c.args.bindings.now c.bindings-test.false) h)
