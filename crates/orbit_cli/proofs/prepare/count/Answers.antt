use Rattle.std.proofs.Common.{sym, ◌∙◌}
use Rattle.orbit_cli.proofs.prepare.count.Goals as goal

pub returns-in-Ok-limits-clause-counted : goal.returns-in-Ok-limits-clause-counted
returns-in-Ok-limits-clause-counted c = record {
  unit = c.in-Ok.unit;
  core = c.in-Ok.ensures.core;
  within = sym c.limits.ensures ∙ c.in-Ok-limits.is;
  nodes_are = c.in-Ok.ensures.core.core.whole.shared.size;
  weight_is = c.weight.ensures;
}

pub returns-clause-refused : goal.returns-clause-refused
returns-clause-refused c = record { unit = c.in-Ok.unit; core = c.in-Ok.ensures.core; over = sym c.in-Err-limits.ensures }
