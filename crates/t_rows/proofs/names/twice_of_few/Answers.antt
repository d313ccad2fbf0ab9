use Rattle.std.proofs.Common.{◌<◌, length, get_or, take, add-one}
use Rattle.std.proofs.Math.Seq.{take-suc}
use Rattle.std.proofs.lemmas.List.{take_all}
use Rattle.t_forms.specs.declared.scope.LocalName.TheVariants as key
use Rattle.t_rows.specs.declared.names.Binder.{Binder as CodeBinder}
use Rattle.t_rows.proofs.TwiceLemmas.{twice_none, twice_step}
use Rattle.t_rows.proofs.names.twice_of_few.Goals as goal

no_binder : CodeBinder
no_binder = record { at = record { start = 0; end = 0 }; name = key.Written (record { 0 = 0 }) }

pub binders-init : goal.binders-init
binders-init c texts = rw c.new-refusals.ensures.items (twice_none texts)

pub binders-preserved : goal.binders-preserved
unfolding no_binder
binders-preserved c texts =
    let below : c.binders.i < length c.args.binders.now = c.binders-test.true in
    rw (add-one, take-suc c.args.binders.now c.binders.i no_binder below, c.in_ok-refuse_again.ensures)
    (twice_step texts (take c.binders.i c.args.binders.now) (get_or c.args.binders.now c.binders.i no_binder) c.binders.refusals.items (c.binders.invariant texts))

pub returns : goal.returns
returns c texts bs apart h = (rw (take_all c.binders.i c.args.binders.now c.binders-test.false) at (c.binders.invariant texts)).are bs apart h
