use Rattle.std.proofs.Common.{◌≢◌, AllPairs}
use Rattle.t_forms.specs.Data.{Datum}
use Rattle.t_forms.specs.Names.{Scope}
use Rattle.t_forms.specs.Held.{Held, IsScope, Extends}
use Rattle.t_expand.specs.Driving.{SameForm}
use Rattle.t_expand.proofs.driver.find_node.Given as goal

abbrev pub invariant-rows : goal.invariant-rows
invariant-rows l = record {
  cells : Extends l.initial.forms l.forms;
  stands : (d : Datum) (around : Scope) → AllPairs (λ a b. a ≢ b) l.names → Held l.names l.initial.forms l.key d → IsScope l.names l.scope around
      → (e : Datum) × Held l.names l.forms l.at e × SameForm around d e;
}
