-- The shape of OBJECT, whose methods have operations that are there.
use Rattle.std.proofs.Common.{◌≡◌, ℕ, suc, ◌++◌, List, [], ◌∷◌, map, length, Option, Some, None, is_some, if◌then◌else◌, IfSome, inl, inr, refl, sym, ap, subst, ◌∙◌}
use Rattle.std.specs.List.{AllByRecursion, filter_map, flat_map, cons_option}
use Rattle.std.specs.Option.{option_and_then}
use Rattle.std.proofs.lemmas.List.{length-map}
use Rattle.t_base.specs.declared.basics.Span.{Span}
use Rattle.t_forms.specs.Data.{given, variable, builtin, operation, listing, Datum, atom, cons, items_of, span_of, all_of, Binder, binder_of, binders_of, names}
use Rattle.t_forms.specs.Names.{Meaning, an_op, the_operation, Scope}
use Rattle.t_rows.specs.declared.refusal.Refusal.{Refusal}
use Rattle.t_rows.specs.declared.refusal.SyntaxKind.TheVariants.{NotOperation}
use Rattle.t_rows.specs.Rows.{object, plain, inside, body, refusal, twice, meant, Method, method_of_head, method_of_items, methods_of, operation_meant, operation_of, method_refusals, object_node, object_row}
use Rattle.expand_laws.proofs.Reached.{HasBuiltinOps, IsKnownOp, HasNames}
use Rattle.expand_laws.proofs.NameShapes.{DefinesOwn, IsKnown}
use Rattle.expand_laws.proofs.CallShapes.{meant_known}
use Rattle.expand_laws.proofs.RowShapes.{RowShaped, shaped_where_none, shaped_if_formed, items_each, all_each, each_map, mapped, chained}

-- ---- the methods

-- its operation is builtin where it is no name, and it has a parameter
record IsProper (m : Method) : Type 0 where
  op : HasBuiltinOps m.op
  params : (b : Binder) × (bs : List Binder) × (m.params ≡ b ∷ bs)

first_of_all : {A : Type 0} (o : Option A) (os : List (Option A)) (xs : List A) → all_of (o ∷ os) ≡ Some xs → (x : A) × (ys : List A) × (xs ≡ x ∷ ys)
first_of_all None os xs e = cc
first_of_all (Some x) os xs e = let c = mapped (λ ys. x ∷ ys) (all_of os) xs e in (x, c.0, c.2)

pub items_builtin : (d : Datum) (ds : List Datum) → HasBuiltinOps d → items_of d ≡ Some ds → AllByRecursion HasBuiltinOps ds
items_builtin d ds h e = items_each HasBuiltinOps (λ s head tail i. i) d ds h e

of_head : (s : Span) (bs items : List Datum) (m : Method) → AllByRecursion HasBuiltinOps items → method_of_head s bs items ≡ Some m → IsProper m
of_head s bs [] m h e = cc
of_head s bs (op ∷ []) m h e = cc
of_head s bs (op ∷ me ∷ xs) m h e =
    let c = mapped (λ ps. record { op = op; params = ps; form = body s bs }) (binders_of (me ∷ xs)) m e in
    subst IsProper (sym c.2) (record { op = h.0; params = first_of_all (binder_of me) (map binder_of xs) c.0 c.1 })

of_items : (s : Span) (items : List Datum) (m : Method) → AllByRecursion HasBuiltinOps items → method_of_items s items ≡ Some m → IsProper m
of_items s [] m h e = cc
of_items s (head ∷ []) m h e = cc
of_items s (head ∷ b ∷ bs) m h e =
    let c = chained (method_of_head s (b ∷ bs)) (items_of head) m e in of_head s (b ∷ bs) c.0 m (items_builtin head c.0 h.0 c.1) c.2

of_datum : (s : Span) (d : Datum) (m : Method) → HasBuiltinOps d → option_and_then (method_of_items s) (items_of d) ≡ Some m → IsProper m
of_datum s d m h e = let c = chained (method_of_items s) (items_of d) m e in of_items s c.0 m (items_builtin d c.0 h c.1) c.2

each_proper : (s : Span) (ds : List Datum) (ms : List Method) → AllByRecursion HasBuiltinOps ds → methods_of s ds ≡ Some ms → AllByRecursion IsProper ms
each_proper s ds ms h e = all_each HasBuiltinOps IsProper (λ m. option_and_then (method_of_items s) (items_of m)) (λ d m i p. of_datum s d m i p) ds ms h e

-- ---- their operations

meant_op : (scope : Scope) (o : Option Meaning) → IfSome o (IsKnown scope) → IfSome (operation_meant o) (IsKnownOp scope.defined)
meant_op scope None h = tt
meant_op scope (Some (an_op o)) h = inr h
meant_op scope (Some (the_operation o)) h = inl h
meant_op scope (Some _) h = tt

op_known : (scope : Scope) (d : Datum) → DefinesOwn scope.defined → HasBuiltinOps d → IfSome (operation_of scope d) (IsKnownOp scope.defined)
op_known scope (atom t (operation o)) own h = inl h
op_known scope (atom t (given v)) own h = meant_op scope (meant scope (atom t (given v))) (meant_known scope (atom t (given v)) own)
op_known scope (atom t (variable n)) own h = meant_op scope (meant scope (atom t (variable n))) (meant_known scope (atom t (variable n)) own)
op_known scope (atom t (builtin p)) own h = tt
op_known scope (atom t listing) own h = tt
op_known scope (cons t head tail) own h = tt

each_or_none : {A : Type 0} (P : A → Type 0) (o : Option A) (xs : List A) → IfSome o P → AllByRecursion P xs → AllByRecursion P (cons_option o xs)
each_or_none P None xs h i = i
each_or_none P (Some x) xs h i = (h, i)

ops_known : (scope : Scope) (ms : List Method) → DefinesOwn scope.defined → AllByRecursion IsProper ms
    → AllByRecursion (IsKnownOp scope.defined) (filter_map (λ m. operation_of scope m.op) ms)
ops_known scope [] own h = tt
ops_known scope (m ∷ ms) own h =
    let proper = h.0 in
    each_or_none (IsKnownOp scope.defined) (operation_of scope m.op) (filter_map (λ n. operation_of scope n.op) ms) (op_known scope m.op own proper.op)
    (ops_known scope ms own h.1)

-- where nothing is refused each operation is found
found : (o : Option ℕ) (r : Refusal) (ts us : List Refusal) (xs : List ℕ) (n : ℕ) → ((if is_some o then [] else r ∷ []) ++ ts) ++ us ≡ [] → (us ≡ [] → length xs ≡ n)
    → length (cons_option o xs) ≡ suc n
found None r ts us xs n e h = cc
found (Some x) r [] us xs n e h = ap suc (h e)
found (Some x) r (t ∷ ts) us xs n e h = cc

as_many_ops : (scope : Scope) (ms : List Method) → flat_map (method_refusals scope) ms ≡ [] → length (filter_map (λ m. operation_of scope m.op) ms) ≡ length ms
as_many_ops scope [] e = refl
as_many_ops scope (m ∷ ms) e =
    found (operation_of scope m.op) (refusal NotOperation (span_of m.op)) (twice m.params) (flat_map (method_refusals scope) ms)
    (filter_map (λ n. operation_of scope n.op) ms) (length ms) e (λ p. as_many_ops scope ms p)

-- ---- the node

named : (m : Method) → IsProper m → HasNames (inside (names m.params) m.form)
named m h = let p = h.params in let first = p.0 in (first.name, names p.1, ap names p.2)

object_node_shaped : (scope : Scope) (p : Datum) (ms : List Method) → DefinesOwn scope.defined → AllByRecursion IsProper ms → RowShaped scope (object_node scope p ms)
object_node_shaped scope p ms own h =
    let ops = filter_map (λ m. operation_of scope m.op) ms in
    let parts = map (λ m. inside (names m.params) m.form) ms in
    shaped_where_none scope (object ops) (flat_map (method_refusals scope) ms) (plain p ∷ parts)
    (λ none. (
      p,
      parts,
      refl,
      as_many_ops scope ms none ∙ sym (length-map ms (λ m. inside (names m.params) m.form)),
      each_map IsProper HasNames (λ m. inside (names m.params) m.form) (λ m i. named m i) ms h,
      ops_known scope ms own h,
    ))

pub object_shaped : (scope : Scope) (s : Span) (ds : List Datum) → DefinesOwn scope.defined → AllByRecursion HasBuiltinOps ds → RowShaped scope (object_row scope s ds)
object_shaped scope s [] own h = tt
object_shaped scope s (p ∷ ms) own h =
    shaped_if_formed scope s (object_node scope p) (methods_of s ms) (λ xs e. object_node_shaped scope p xs own (each_proper s ms xs h.1 e))
