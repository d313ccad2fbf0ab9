use Rattle.std.proofs.Common.{sym, subst, []}
use Rattle.cps_ir.specs.declared.args.Arg.TheVariants as Argument
use Rattle.layout_relation.specs.Laid.{Gives}
use Rattle.layout_tables.specs.Sketches.{context_of, sketch_of}
use Rattle.layout_tables.proofs.Growing.{grows_none}
use Rattle.layout_steps.proofs.Handing.{leads_here, leads_done}
use Rattle.layout_tables.proofs.Adding.{adds_none}
use Rattle.layout_steps.proofs.Handing.{adds_end}
use Rattle.layout_steps.proofs.giving.give_new.Goals as goal

pub returns-in_ok-go_on-in-Lam-clause-leads : goal.returns-in_ok-go_on-in-Lam-clause-leads
returns-in_ok-go_on-in-Lam-clause-leads c = leads_here c.args.cps.now c.args.tables.now c.args.work.now c.args.line.now c.go_on.new.line c.args.k c.args.term c.in-Lam.param c.in-Lam.body c.args.to c.in-Lam.is c.go_on.ensures.site c.in_ok-go_on-in-Lam.ensures.scope c.requires.below c.requires.new c.in_ok-go_on-in-Lam.ensures.may

pub returns-in_ok-last-in-Var-clause-leads : goal.returns-in_ok-last-in-Var-clause-leads
returns-in_ok-last-in-Var-clause-leads c = leads_done c.args.cps.now c.args.tables.now c.args.work.now c.args.work.now c.args.line.now c.args.line.now c.args.k c.args.term (Argument.Var c.args.to) c.in_ok-last-in-Var.last (grows_none c.args.tables.now c.args.work.now) (adds_end c.args.work.now c.args.work.now c.in_ok-last-in-Var.last (adds_none c.args.work.now) c.in_ok-last-in-Var.ensures.tests_nothing) c.requires.below
    (λ ps ts f g u. subst (λ j. Gives c.args.cps.now (sketch_of c.args.tables.now ps ts) (context_of c.args.tables.now c.args.line.now) u j (Argument.Var c.args.to) [] c.in_ok-last-in-Var.last) (sym c.in-Var.is) (c.in_ok-last-in-Var.ensures.ever ps ts f g u))
