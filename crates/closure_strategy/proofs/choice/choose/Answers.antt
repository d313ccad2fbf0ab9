use Rattle.std.proofs.Common.{◌≡◌, ◌∙◌, ap, rules}
use Rattle.cps_ir.specs.Parts.{first_lams}
use Rattle.cps_walk.specs.Marked.{is_marked}
use Rattle.closure_strategy.specs.Plans.{chosen, is_method, strategy_of}
use Rattle.closure_strategy.proofs.Chosen.{one_made, chosen_same}
use Rattle.closure_strategy.proofs.choice.choose.Goals as goal

pub loop-place-preserved : goal.loop-place-preserved
loop-place-preserved c =
    let same : c.in-Ok.l ≡ c.loop-place.place = search rules in
    record {
      of = one_made (strategy_of c.args.cps.now) c.loop-place.place c.loop-place.of.items c.push.new.self.items c.strategy.result c.loop-place.invariant.of c.in_ok-push.ensures.items
          (c.strategy.ensures ∙ ap (λ n. chosen n (is_marked c.deref.result.now) c.in-Ok.l) c.first_lams-first.ensures
          ∙ chosen_same (first_lams c.args.cps.now) (is_marked c.deref.result.now) (is_method c.args.cps.now) c.in-Ok.l (ap (λ ms. is_marked ms c.in-Ok.l) c.deref.ensures.value ∙ c.in_ok-methods.ensures c.in-Ok.l)
          ∙ ap (strategy_of c.args.cps.now) same);
      template = one_made (λ n. n) c.loop-place.place c.loop-place.template.items c.push-in-loop-place.new.self.items c.in-Ok.l c.loop-place.invariant.template c.in_ok-push-2.ensures.items same;
    }
