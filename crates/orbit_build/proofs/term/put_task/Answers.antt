use Rattle.std.proofs.Common.{subst, ◌++◌, [], ◌∷◌}
use Rattle.std.proofs.lemmas.Result.{on_ok_weaker}
use Rattle.orbit_build.specs.declared.term.Task.{Task}
use Rattle.orbit_build.specs.Tasks.{Leads}
use Rattle.orbit_build.proofs.Pending.{saved, added}
use Rattle.orbit_build.proofs.term.put_task.Goals as goal

pub returns-in-Save-clause-leads : goal.returns-in-Save-clause-leads
returns-in-Save-clause-leads c =
    on_ok_weaker c.push_save.result
    (λ e total h. saved c.args.nodes.now c.args.waiting.now.items c.in-Save.depth c.args.out.now.items c.push_save.new.out.items e total
    (subst (λ (t : Task). Leads c.args.nodes.now (c.args.waiting.now.items ++ t ∷ []) c.args.out.now.items total) c.in-Save.is h)) c.push_save.ensures

pub returns-in-Add-clause-leads : goal.returns-in-Add-clause-leads
returns-in-Add-clause-leads c =
    on_ok_weaker c.push_add.result
    (λ e total h. added c.args.nodes.now c.args.waiting.now.items c.in-Add.depth c.args.out.now.items c.push_add.new.out.items e total
    (subst (λ (t : Task). Leads c.args.nodes.now (c.args.waiting.now.items ++ t ∷ []) c.args.out.now.items total) c.in-Add.is h)) c.push_add.ensures
