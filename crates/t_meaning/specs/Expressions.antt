-- What each node gives.
use Rattle.std.specs.Prelude.{ℕ, List, [], ◌∷◌, length, replicate, Option, Some, None, slice_get, if◌then◌else◌}
use Rattle.t_base.specs.declared.faults.Fault.TheVariants.{Unbound}
use Rattle.t_core.specs.declared.forms.Core.{Core}
use Rattle.t_core.specs.declared.forms.Core.TheVariants as Node
use Rattle.t_prim.specs.Values.{Val, NilV, ClosureV, ObjectV, OperationV, BuiltinV, val_of}
use Rattle.t_prim.specs.Kinds.{is_nil}
use Rattle.t_prim.specs.Table.{row}
use Rattle.t_meaning.specs.Programs.{Program}
use Rattle.t_meaning.specs.Environment.{location_of}
use Rattle.t_meaning.specs.State.{Procedure, Object, State, with_location_at, with_global_at, with_closure, with_object, taking}
use Rattle.t_meaning.specs.Costs.{lambda_words, object_words}
use Rattle.t_meaning.specs.Outcomes.{Outcome, Value, Faulted, Context, under, Apply, Doing, with_value, or_unbound, after_row, early, last, with_values}
use Rattle.t_meaning.specs.Bindings.{binding, filling}
use Rattle.t_meaning.specs.Catches.{catching}
use Rattle.t_meaning.specs.Operations.{handlers_of}

-- the location of a variable
abbrev pub with_location : Context → ℕ → State → (ℕ → Outcome) → Outcome
with_location c x s rest = or_unbound (location_of c.env x) s rest

-- the value of a global
abbrev pub with_global : ℕ → State → (Val → Outcome) → Outcome
with_global g s rest = or_unbound (slice_get s.globals g) s (λ global. or_unbound global s rest)

-- a LAMBDA gives a closure with a new identity
abbrev pub closing : Program → ℕ → Procedure → State → Outcome
closing p node f s = Value (taking (lambda_words p f.form node) (with_closure s f)) (ClosureV (length s.closures))

-- an OBJECT gives an object with a new identity
abbrev pub creating : Program → Object → State → Outcome
creating p object s = Value (taking (object_words p) (with_object s object)) (ObjectV (length s.objects))

-- the parts in order, the last of which gives the value
abbrev pub in_order : Doing → ℕ → Context → List ℕ → State → Outcome
in_order part d c [] s = Value s NilV
in_order part d c (k ∷ []) s = last part d c k s
in_order part d c (k ∷ next ∷ ks) s = with_value (early part d c k s) (λ t v. in_order part d c (next ∷ ks) t)

-- the node at place `at` of its form, under c at depth d
abbrev pub evaluate : Program → Doing → ℕ → ℕ → Context → Option Core → State → Outcome
evaluate p part d at c None s = Faulted s Unbound
evaluate p part d at c (Some (Node.Const k)) s = Value s (val_of k)
evaluate p part d at c (Some (Node.Local x)) s = with_location c x.0 s (λ l. or_unbound (slice_get s.locations l) s (λ v. Value s v))
evaluate p part d at c (Some (Node.Global g)) s = with_global g s (λ v. Value s v)
evaluate p part d at c (Some (Node.Builtin b)) s = Value s (BuiltinV b)
evaluate p part d at c (Some (Node.Op o)) s = Value s (OperationV o)
evaluate p part d at c (Some (Node.Lambda params body)) s = closing p at (record { params = params; form = c.form; body = body; env = c.env }) s
evaluate p part d at c (Some (Node.If test first second)) s = with_value (early part d c test s) (λ t v. last part d c (if is_nil v then second else first) t)
evaluate p part d at c (Some (Node.Block items)) s = in_order part d c items s
evaluate p part d at c (Some (Node.Let vars values body)) s =
    with_values part d c values s (λ t vs. binding p vars vs c.env t (λ env u. last part d (under env c) body u))
evaluate p part d at c (Some (Node.Labels vars lambdas body)) s =
    binding p vars (replicate (length vars) NilV) c.env s
    (λ env t. filling part d (under env c) (length s.locations) lambdas t (λ u. last part d (under env c) body u))
evaluate p part d at c (Some (Node.SetLocal x value)) s =
    with_value (early part d c value s) (λ t v. with_location c x.0 t (λ l. Value (with_location_at t l v) v))
evaluate p part d at c (Some (Node.SetGlobal g value)) s =
    with_value (early part d c value s) (λ t v. with_global g t (λ old. Value (with_global_at t g v) v))
evaluate p part d at c (Some (Node.Catch x body)) s = catching p part d c x body s
evaluate p part d at c (Some (Node.Object proc methods)) s =
    with_value (early part d c proc s) (λ t v. creating p (record { procedure = v; handlers = handlers_of methods c }) t)
evaluate p part d at c (Some (Node.Call operator operands tail)) s =
    with_value (early part d c operator s) (λ t f. with_values part d c operands t (λ u args. part d (Apply f args) u))
evaluate p part d at c (Some (Node.Prim b operands)) s = with_values part d c operands s (λ t args. after_row t (row b args t.store))
