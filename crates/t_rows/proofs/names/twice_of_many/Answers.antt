use Rattle.std.proofs.Common.{◌<◌, nat_eq, length, get_or, take, add-one, refl}
use Rattle.std.proofs.Math.Seq.{take-suc}
use Rattle.std.proofs.lemmas.List.{take_all}
use Rattle.std.specs.HashSet.{contains}
use Rattle.t_forms.specs.declared.scope.LocalName.TheVariants as key
use Rattle.t_rows.specs.declared.names.Binder.{Binder as CodeBinder}
use Rattle.t_rows.specs.Numbers.{number_of_name}
use Rattle.t_rows.proofs.TwiceLemmas.{twice_none, twice_step}
use Rattle.t_rows.proofs.NumberLemmas.{seen_more}
use Rattle.t_rows.proofs.names.twice_of_many.Goals as goal

no_binder : CodeBinder
no_binder = record { at = record { start = 0; end = 0 }; name = key.Written (record { 0 = 0 }) }

pub binders-init : goal.binders-init
binders-init c = record {
  refused = λ texts. rw c.new-refusals.ensures.items (twice_none texts);
  known = λ n. rw c.new-seen.ensures.empty refl;
}

pub binders-preserved : goal.binders-preserved
unfolding no_binder
binders-preserved c =
    let below : c.binders.i < length c.args.binders.now = c.binders-test.true in
    let before = take c.binders.i c.args.binders.now in
    let here = get_or c.args.binders.now c.binders.i no_binder in
    record {
      refused = λ texts.
          rw (add-one, take-suc c.args.binders.now c.binders.i no_binder below, c.in_ok-refuse_seen.ensures.refusals, c.binders.invariant.known here.name)
          (twice_step texts before here c.binders.refusals.items (c.binders.invariant.refused texts));
      known = λ n.
          rw (add-one, take-suc c.args.binders.now c.binders.i no_binder below)
          (seen_more before here n (contains nat_eq c.binders.seen (number_of_name n)) _ (c.binders.invariant.known n) (c.in_ok-refuse_seen.ensures.seen (number_of_name n)));
    }

pub returns : goal.returns
returns c texts bs apart h = (rw (take_all c.binders.i c.args.binders.now c.binders-test.false) at (c.binders.invariant.refused texts)).are bs apart h
