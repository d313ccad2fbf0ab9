use Rattle.std.proofs.Common.{refl, ap}
use Rattle.cps_ir.specs.declared.terms.Cont.TheVariants as Continuation
use Rattle.layout_tables.proofs.Growing.{grows_none}
use Rattle.layout_steps.proofs.Handing.{ends_in, given_jump}
use Rattle.frame_ir.specs.Parts.{arms_of}
use Rattle.layout_tables.proofs.Adding.{adds_none}
use Rattle.layout_steps.proofs.Handing.{adds_end}
use Rattle.layout_steps.proofs.giving.give_away.Goals as goal

pub returns-in_ok-last-in-Lam : goal.returns-in_ok-last-in-Lam
returns-in_ok-last-in-Lam c =
    let jump = c.in_ok-last-in-Lam.ensures in
    ends_in c.args.cps.now c.args.tables.now c.args.work.now c.give_block.new.work c.args.scope.now c.args.site.now c.args.k c.args.value c.in_ok-last-in-Lam.last jump.grows jump.next (adds_end c.args.work.now c.give_block.new.work c.in_ok-last-in-Lam.last jump.adds (ap arms_of jump.jumps.is)) (Continuation.Lam c.in-Lam.param c.in-Lam.body) c.in-Lam.is
    (given_jump c.args.cps.now c.args.tables.now c.args.scope.now c.give_block.new.work c.args.site.now jump.block c.in-Lam.param c.in-Lam.body c.args.value c.in_ok-last-in-Lam.last jump.jumps)

pub returns-in_ok-last-in-Var : goal.returns-in_ok-last-in-Var
returns-in_ok-last-in-Var c = ends_in c.args.cps.now c.args.tables.now c.args.work.now c.args.work.now c.args.scope.now c.args.site.now c.args.k c.args.value c.in_ok-last-in-Var.last (grows_none c.args.tables.now c.args.work.now) refl (adds_end c.args.work.now c.args.work.now c.in_ok-last-in-Var.last (adds_none c.args.work.now) c.in_ok-last-in-Var.ensures.tests_nothing) (Continuation.Var c.in-Var.j) c.in-Var.is c.in_ok-last-in-Var.ensures.ever
