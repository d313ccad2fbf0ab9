-- Tasks nested at most so deep.
use Rattle.std.specs.Prelude.{ℕ, zero, suc}
use Rattle.t_meaning.specs.Programs.{Program, node_at}
use Rattle.t_meaning.specs.State.{entered}
use Rattle.t_meaning.specs.Outcomes.{Out, Evaluate, Apply, Enter, Doing}
use Rattle.t_meaning.specs.Expressions.{evaluate}
use Rattle.t_meaning.specs.Application.{apply, enter}

-- one task, whose parts are done by `part`
abbrev pub act : Program → Doing → Doing
act p part d (Evaluate node c) s = evaluate p part d node c (node_at p.unit c.form node) s
act p part d (Apply operator operands) s = apply p part d operator operands s
act p part d (Enter procedure operands) s = enter p part d procedure operands s

-- Out where the bound is 0, and else the task with a bound less by one for its parts; each task counts
abbrev pub perform : Program → ℕ → Doing
perform p zero d task s = Out s
perform p (suc n) d task s = act p (perform p n) d task (entered d s)
