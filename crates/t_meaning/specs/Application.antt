-- What a procedure gives at operands.
use Rattle.std.specs.Prelude.{ℕ, ◌==◌, true, List, length, slice_get}
use Rattle.t_base.specs.declared.faults.Fault.TheVariants.{NotProcedure, WrongCount}
use Rattle.t_prim.specs.Values.{Val, ClosureV, ObjectV, OperationV, BuiltinV, EscapeV}
use Rattle.t_prim.specs.Table.{row}
use Rattle.t_meaning.specs.Programs.{Program}
use Rattle.t_meaning.specs.State.{Procedure, State}
use Rattle.t_meaning.specs.Outcomes.{Outcome, Faulted, Evaluate, Apply, Doing, provided, or_unbound, after_row}
use Rattle.t_meaning.specs.Bindings.{binding}
use Rattle.t_meaning.specs.Catches.{escape}
use Rattle.t_meaning.specs.Operations.{operate}

-- as many operands as parameters; then the body, in a tail place at the depth of the call
abbrev pub enter : Program → Doing → ℕ → Procedure → List Val → State → Outcome
enter p part d f args s =
    provided (length f.params == length args) WrongCount s (λ t. binding p f.params args f.env t (λ env u. part d (Evaluate f.body (record { form = f.form; tail = true; env = env })) u))

-- a row of the table of builtins has fault 2 for a wrong count
abbrev pub apply : Program → Doing → ℕ → Val → List Val → State → Outcome
apply p part d (ClosureV i) args s = or_unbound (slice_get s.closures i) s (λ f. enter p part d f args s)
apply p part d (ObjectV i) args s = or_unbound (slice_get s.objects i) s (λ object. part d (Apply object.procedure args) s)
apply p part d (OperationV o) args s = operate p part d o args s
apply p part d (BuiltinV b) args s = after_row s (row b args s.store)
apply p part d (EscapeV i) args s = escape i args s
apply p part d _ args s = Faulted s NotProcedure
