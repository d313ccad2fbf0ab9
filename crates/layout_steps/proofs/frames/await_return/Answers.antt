use Rattle.layout_steps.proofs.Preparing.{awaited_here, awaited_join}
use Rattle.layout_steps.proofs.frames.await_return.Goals as goal

pub returns-in_ok-waiting-in-Lam : goal.returns-in_ok-waiting-in-Lam
returns-in_ok-waiting-in-Lam c = awaited_here c.args.tables.now c.args.scope.now c.args.site.now c.in_ok-same-in-Lam.same c.args.work.now c.frame.new.work c.args.k c.in-Lam.param c.in-Lam.body _ c.in-Lam.is c.in_ok-same-in-Lam.ensures c.in_ok-waiting-in-Lam.ensures

pub returns-in_ok-waiting-in-Meets : goal.returns-in_ok-waiting-in-Meets
returns-in_ok-waiting-in-Meets c = awaited_join c.args.tables.now c.args.scope.now c.args.site.now c.in_ok-outside-in-Meets.outside c.args.work.now c.frame-in-Meets.new.work c.args.k c.in-Var.j c.in-Meets.join c.in-Meets.place _ c.in-Var.is (c.in-Meets.ensures.way c.args.tables.now) c.in_ok-outside-in-Meets.ensures c.in_ok-waiting-in-Meets.ensures
