-- The rows of SET.
use Rattle.std.proofs.Common.{◌≡◌, ◌==◌, ℕ, ◌+◌, true, false, List, [], ◌∷◌, ◌++◌, length, map, Some, None, refl, eq-eqb}
use Rattle.std.proofs.lemmas.Bool.{ne_eqb}
use Rattle.t_base.specs.declared.basics.Span.{Span}
use Rattle.t_base.specs.declared.builtins.Builtin.{Builtin}
use Rattle.t_prim.specs.Table.{arity_of}
use Rattle.t_forms.specs.Data.{Datum, atom, cons, span_of, items_of, listed, an_operation}
use Rattle.t_forms.specs.Names.{Meaning, Scope}
use Rattle.t_rows.specs.Lists.{is_pair}
use Rattle.t_rows.specs.Rows.{node, primitive, plain, stands_for, no_row, meant, not_settable, set_name, set_through, set_builtin, set_operation, set_items, set_place}

pub set_exact : (s : Span) (a : Datum) (es : List Datum) (v : Datum) (q : Builtin) (n : ℕ) → n ≡ length es → (n + 1 == arity_of q) ≡ true
    → set_builtin s a es v (Some q) ≡ node (primitive q) [] (map plain (es ++ v ∷ []))
set_exact s a es v q n e p = let test : (length es + 1 == arity_of q) ≡ true = rw e at p in rw test refl

pub set_inexact : (s : Span) (a : Datum) (es : List Datum) (v : Datum) (q : Builtin) (n : ℕ) → n ≡ length es → (n + 1 == arity_of q) ≡ false
    → set_builtin s a es v (Some q) ≡ set_through s a es v
set_inexact s a es v q n e p = let test : (length es + 1 == arity_of q) ≡ false = rw e at p in rw test refl

pub contents_once : (s : Span) (a : Datum) (es : List Datum) (v : Datum) (o : ℕ) → o ≡ 1 → length es ≡ 1 → set_operation s a es v o ≡ stands_for (listed s (an_operation s 2 ∷ es ++ v ∷ []))
contents_once s a es v o e n = rw (e, eq-eqb (length es) 1 n) refl

pub contents_other : (s : Span) (a : Datum) (es : List Datum) (v : Datum) (o : ℕ) → o ≡ 1 → (length es ≡ 1 → ⊥) → set_operation s a es v o ≡ set_through s a es v
contents_other s a es v o e n = rw (e, ne_eqb (length es) 1 n) refl

pub no_contents : (s : Span) (a : Datum) (es : List Datum) (v : Datum) (o : ℕ) → (o ≡ 1 → ⊥) → set_operation s a es v o ≡ not_settable a es v
no_contents s a es v o n = rw (ne_eqb o 1 n) refl

pub pair_place : (scope : Scope) (s : Span) (d v : Datum) → is_pair d ≡ true → set_place scope s d v ≡ set_items scope s v (items_of d)
pair_place scope s (atom t a) v e = cc
pair_place scope s (cons t head tail) v e = refl

pub name_place : (scope : Scope) (s : Span) (d v : Datum) → is_pair d ≡ false → meant scope d ≡ None → set_place scope s d v ≡ no_row s
name_place scope s (atom t a) v e m = rw m refl
name_place scope s (cons t head tail) v e m = cc

pub meant_place : (scope : Scope) (s : Span) (d v : Datum) (m : Meaning) → is_pair d ≡ false → meant scope d ≡ Some m → set_place scope s d v ≡ set_name (span_of d) v m
meant_place scope s (atom t a) v m e p = rw p refl
meant_place scope s (cons t head tail) v m e p = cc
