use Rattle.std.proofs.Common.{◌≡◌, ◌+◌}
use Rattle.layout_relation.specs.Laid.{numbers}
use Rattle.layout_tables.specs.Sketches.{counted}
use Rattle.layout_tables.proofs.requests.Work.variables.Given as goal

abbrev pub invariant-loop-step : goal.invariant-loop-step
invariant-loop-step l = record {
  vars : numbers l.vars.items ≡ counted l.fn.self.next l.step;
  next : l.self.next ≡ l.fn.self.next + l.step;
  requests : l.self.requests ≡ l.fn.self.requests;
  templates : l.self.templates ≡ l.fn.self.templates;
}
