use Rattle.std.proofs.Common.{◌≢◌, List, AllPairs, take}
use Rattle.std.specs.List.{AllZip}
use Rattle.t_forms.specs.Data.{Datum}
use Rattle.t_forms.specs.Held.{Held, IsScope}
use Rattle.t_forms.specs.Names.{Scope}
use Rattle.form_rows.specs.Methods.{IsMethod, IsObject}
use Rattle.t_rows.specs.Rows.{Method}
use Rattle.form_rows.proofs.object.with_methods.Given as goal

abbrev pub invariant-methods : goal.invariant-methods
invariant-methods l =
    (around : Scope) (p : Datum) (ms : List Method) → AllPairs (λ a b. a ≢ b) l.names → IsScope l.names l.scope around → Held l.names l.forms l.procedure p
    → AllZip (IsMethod l.names l.forms) (take l.method-index l.methods) ms → IsObject l.names l.forms around p l.object.ops.items l.object.refusals.items l.object.parts.items ms
