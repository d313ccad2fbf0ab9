use Rattle.std.proofs.Common.{sym, subst, ◌∙◌, []}
use Rattle.layout_steps.specs.Steps.{AreMethods}
use Rattle.layout_steps.proofs.Methods.{methods_none, methods_more}
use Rattle.layout_steps.proofs.objects.request_methods.Goals as goal

pub loop-lam-init : goal.loop-lam-init
loop-lam-init c = subst (λ cs. AreMethods c.args.work.now c.args.work.now [] c.args.needs.now cs) (sym c.new-codes.ensures.items) (methods_none c.args.work.now c.args.needs.now)

pub loop-lam-preserved : goal.loop-lam-preserved
loop-lam-preserved c = methods_more c.args.work.now c.loop-lam.work c.request.new.self c.args.methods.now c.loop-lam.lam-index _ c.args.needs.now c.from_vec-kept.result c.in_ok-code.code c.loop-lam.codes.items c.push.new.self.items
    c.loop-lam-test.true c.loop-lam.invariant (c.from_vec-kept.ensures ∙ c.in_ok-from_slice.ensures.items) c.in_ok-code.ensures.requests c.in_ok-code.ensures.place c.in_ok-code.ensures.templates c.in_ok-code.ensures.next c.in_ok-push.ensures.items
