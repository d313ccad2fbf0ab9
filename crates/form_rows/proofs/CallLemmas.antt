-- Calls, by what their operators mean.
use Rattle.std.proofs.Common.{◌≡◌, List, [], length, None, refl, map, eq-eqb}
use Rattle.std.proofs.lemmas.Bool.{ne_eqb}
use Rattle.t_base.specs.declared.basics.Span.{Span}
use Rattle.t_base.specs.declared.basics.Var.{Var}
use Rattle.t_base.specs.declared.builtins.Builtin.{Builtin}
use Rattle.t_base.specs.declared.builtins.Builtin.TheVariants as Builtins
use Rattle.t_prim.specs.Table.{arity_of}
use Rattle.t_forms.specs.declared.scope.Meant.{Meant}
use Rattle.t_forms.specs.Data.{builtin, listing, Datum, atom}
use Rattle.t_forms.specs.Names.{Meaning, a_local, a_global, an_op, the_builtin, the_operation, the_truth, the_listing, none, Scope}
use Rattle.t_forms.specs.Held.{IsMeaning}
use Rattle.form_rows.specs.declared.calls.Operator.{Operator}
use Rattle.form_rows.specs.declared.calls.Operator.TheVariants as operator
use Rattle.form_rows.specs.Meant.{MeansAs, IsOperator, IsOperatorMeant, fixed_operator}
use Rattle.t_rows.specs.Rows.{meant, call_meant, call_row, call_node, builtin_row, builtin_call, node, primitive, plain}

pub means_as : (vars : List Var) (x : Meant) (m : Meaning) → IsMeaning vars x m → MeansAs vars x m
means_as vars x (a_local i) h = rw h.1 (i, refl, h.2)
means_as vars x (a_global g assigned) h = rw h refl
means_as vars x (an_op o) h = rw h refl
means_as vars x (the_builtin p) h = rw h refl
means_as vars x (the_operation o) h = rw h refl
means_as vars x the_truth h = rw h refl
means_as vars x the_listing h = rw h refl
means_as vars x none h = rw h refl

pub call_by_meaning : (scope : Scope) (f : Datum) → fixed_operator f ≡ None → (s : Span) (ds : List Datum) → call_row scope s f ds ≡ call_meant s f ds (meant scope f)
call_by_meaning scope (atom t (builtin p)) e s ds = cc
call_by_meaning scope (atom t listing) e s ds = cc
call_by_meaning scope _ e s ds = refl

pub operator_by_meaning : (scope : Scope) (o : Operator) (f : Datum) → fixed_operator f ≡ None → IsOperatorMeant o (meant scope f) → IsOperator scope o f
operator_by_meaning scope (operator.Builtin p) f e h = λ s ds. rw (call_by_meaning scope f e s ds) (h s f ds)
operator_by_meaning scope operator.Listing f e h = λ s ds. rw (call_by_meaning scope f e s ds) (h s f ds)
operator_by_meaning scope operator.Other f e h = λ s ds. rw (call_by_meaning scope f e s ds) (h s f ds)

pub other_builtin : (s : Span) (f : Datum) (ds : List Datum) (p : Builtin) → (p ≡ Builtins.Add → ⊥) → (p ≡ Builtins.Mul → ⊥) → (p ≡ Builtins.Sub → ⊥)
    → builtin_call s f ds p ≡ builtin_row f p ds
other_builtin s f ds Builtins.Add a m n = absurd (a refl)
other_builtin s f ds Builtins.Mul a m n = absurd (m refl)
other_builtin s f ds Builtins.Sub a m n = absurd (n refl)
other_builtin s f ds _ a m n = refl

pub builtin_exact : (f : Datum) (p : Builtin) (ds : List Datum) → length ds ≡ arity_of p → builtin_row f p ds ≡ node (primitive p) [] (map plain ds)
builtin_exact f p ds e = rw (eq-eqb (length ds) (arity_of p) e) refl

pub builtin_inexact : (f : Datum) (p : Builtin) (ds : List Datum) → (length ds ≡ arity_of p → ⊥) → builtin_row f p ds ≡ call_node f ds
builtin_inexact f p ds e = rw (ne_eqb (length ds) (arity_of p) e) refl
