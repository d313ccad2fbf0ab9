use Rattle.orbit_build.proofs.Pending.{last_code}
use Rattle.orbit_build.proofs.term.put_term.Goals as goal

pub put_task-requires : goal.put_task-requires
put_task-requires c = last_code c.args.nodes.now _ _ c.in-Some.task c.tasks.out.items _ c.in-Some.ensures.items (c.tasks.invariant c.requires.0 c.requires.1)
