use Rattle.std.proofs.Common.{ap, sym, subst, []}
use Rattle.layout_relation.specs.Laid.{Gives}
use Rattle.layout_tables.specs.Sketches.{context_of, sketch_of}
use Rattle.layout_tables.proofs.Growing.{grows_none, below_more}
use Rattle.layout_steps.proofs.Handing.{leads_unused, leads_done, given_jump}
use Rattle.frame_ir.specs.Parts.{arms_of}
use Rattle.layout_tables.proofs.Adding.{adds_none}
use Rattle.layout_steps.proofs.Handing.{adds_end}
use Rattle.layout_steps.proofs.giving.give_value.Goals as goal

pub returns-then-names-clause-leads : goal.returns-then-names-clause-leads
returns-then-names-clause-leads c =
    let jump = c.in_ok-last-in-Lam.ensures in
    leads_done c.args.cps.now c.args.tables.now c.args.work.now c.give_block.new.work c.args.line.now c.args.line.now c.args.k c.args.term c.args.value c.in_ok-last-in-Lam.last jump.grows (adds_end c.args.work.now c.give_block.new.work c.in_ok-last-in-Lam.last jump.adds (ap arms_of jump.jumps.is))
    (below_more c.args.work.now.next c.give_block.new.work.next c.args.line.now.scope jump.grows.next c.requires)
    (λ ps ts f g u. subst (λ j. Gives c.args.cps.now (sketch_of c.args.tables.now ps ts) (context_of c.args.tables.now c.args.line.now) u j c.args.value [] c.in_ok-last-in-Lam.last) (sym c.in-Lam.is)
    (given_jump c.args.cps.now c.args.tables.now c.args.line.now.scope c.give_block.new.work c.args.line.now.site jump.block c.in-Lam.param c.in-Lam.body c.args.value c.in_ok-last-in-Lam.last jump.jumps ps ts f g u))

pub returns-in_ok-go_on-in-Lam-clause-leads : goal.returns-in_ok-go_on-in-Lam-clause-leads
returns-in_ok-go_on-in-Lam-clause-leads c = leads_unused c.args.cps.now c.args.tables.now c.args.work.now c.args.line.now c.go_on.new.line c.args.k c.args.term c.in-Lam.param c.in-Lam.body c.args.value c.in-Lam.is c.go_on.ensures.site c.in_ok-go_on-in-Lam.ensures.scope c.requires c.in_ok-go_on-in-Lam.ensures.may

pub returns-in_ok-last-in-Var-clause-leads : goal.returns-in_ok-last-in-Var-clause-leads
returns-in_ok-last-in-Var-clause-leads c = leads_done c.args.cps.now c.args.tables.now c.args.work.now c.args.work.now c.args.line.now c.args.line.now c.args.k c.args.term c.args.value c.in_ok-last-in-Var.last (grows_none c.args.tables.now c.args.work.now) (adds_end c.args.work.now c.args.work.now c.in_ok-last-in-Var.last (adds_none c.args.work.now) c.in_ok-last-in-Var.ensures.tests_nothing) c.requires
    (λ ps ts f g u. subst (λ j. Gives c.args.cps.now (sketch_of c.args.tables.now ps ts) (context_of c.args.tables.now c.args.line.now) u j c.args.value [] c.in_ok-last-in-Var.last) (sym c.in-Var.is) (c.in_ok-last-in-Var.ensures.ever ps ts f g u))
