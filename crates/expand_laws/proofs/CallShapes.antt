-- The shapes of the rows of SET and of calls.
use Rattle.std.proofs.Common.{◌≡◌, ◌==◌, ℕ, ◌+◌, ◌++◌, Bool, true, false, not, List, [], ◌∷◌, map, length, Option, Some, None, if◌then◌else◌, refl, IfSome, ◌∙◌}
use Rattle.std.specs.Option.{option_map}
use Rattle.std.proofs.lemmas.Bool.Decides.{Decides-eqb}
use Rattle.std.proofs.lemmas.List.{length_push}
use Rattle.t_base.specs.declared.basics.Span.{Span}
use Rattle.t_base.specs.declared.builtins.Builtin.{Builtin}
use Rattle.t_base.specs.declared.builtins.Builtin.TheVariants as Builtins
use Rattle.t_prim.specs.Table.{arity_of}
use Rattle.t_forms.specs.Data.{given, variable, builtin, operation, listing, Datum, Name, atom, cons, items_of, name_of, listed, an_operation, a_number}
use Rattle.t_forms.specs.Names.{Meaning, a_local, a_global, the_builtin, the_operation, the_listing, Scope, meaning}
use Rattle.t_rows.specs.Rows.{if_formed, plain, node, stands_for, primitive, meant, assigns, not_settable, set_name, set_through, set_builtin, set_operation, set_call, set_items, set_place, set_row, call_node, fold_row, builtin_row, minus_row, builtin_call, list_row, call_meant, call_row}
use Rattle.expand_laws.proofs.NameShapes.{DefinesOwn, IsKnown, meaning_known}
use Rattle.expand_laws.proofs.RowShapes.{RowShaped, shaped_if}

known_meant : (scope : Scope) (o : Option Name) → DefinesOwn scope.defined → IfSome (option_map (meaning scope) o) (IsKnown scope)
known_meant scope None h = tt
known_meant scope (Some n) h = meaning_known scope n h

-- what a datum means as a name is known
pub meant_known : (scope : Scope) (d : Datum) → DefinesOwn scope.defined → IfSome (meant scope d) (IsKnown scope)
meant_known scope d h = known_meant scope (name_of d) h

-- ---- SET

set_name_shaped : (scope : Scope) (t : Span) (e : Datum) (m : Meaning) → IsKnown scope m → RowShaped scope (set_name t e m)
set_name_shaped scope t e (a_local v) k = (k, e, refl)
set_name_shaped scope t e (a_global g true) k = (k, e, refl)
set_name_shaped scope t e (a_global g false) k = tt
set_name_shaped scope t e _ k = tt

as_many : (es : List Datum) (v : Datum) (n : ℕ) → (length es + 1 == n) ≡ true → length (es ++ v ∷ []) ≡ n
as_many es v n e = length_push es v ∙ (Decides-eqb (length es + 1) n).0 e

set_exactly : (scope : Scope) (s : Span) (a : Datum) (es : List Datum) (v : Datum) (q : Builtin) (b : Bool) → (length es + 1 == arity_of q) ≡ b
    → RowShaped scope (if b then node (primitive q) [] (map plain (es ++ v ∷ [])) else set_through s a es v)
set_exactly scope s a es v q true e = (es ++ v ∷ [], as_many es v (arity_of q) e, refl)
set_exactly scope s a es v q false e = tt

set_builtin_shaped : (scope : Scope) (s : Span) (a : Datum) (es : List Datum) (v : Datum) (o : Option Builtin) → RowShaped scope (set_builtin s a es v o)
set_builtin_shaped scope s a es v None = tt
set_builtin_shaped scope s a es v (Some q) = set_exactly scope s a es v q (length es + 1 == arity_of q) refl

set_operation_shaped : (scope : Scope) (s : Span) (a : Datum) (es : List Datum) (v : Datum) (o : ℕ) → RowShaped scope (set_operation s a es v o)
set_operation_shaped scope s a es v o =
    let once = stands_for (listed s (an_operation s 2 ∷ es ++ v ∷ [])) in
    shaped_if scope (not (o == 1)) (not_settable a es v) (if length es == 1 then once else set_through s a es v) tt
    (shaped_if scope (length es == 1) once (set_through s a es v) tt tt)

set_call_shaped : (scope : Scope) (s : Span) (a : Datum) (es : List Datum) (v : Datum) (o : Option Meaning) → RowShaped scope (set_call s a es v o)
set_call_shaped scope s a es v (Some (the_builtin p)) = set_builtin_shaped scope s a es v (assigns p)
set_call_shaped scope s a es v (Some (the_operation o)) = set_operation_shaped scope s a es v o
set_call_shaped scope s a es v _ = tt

set_items_shaped : (scope : Scope) (s : Span) (v : Datum) (o : Option (List Datum)) → RowShaped scope (set_items scope s v o)
set_items_shaped scope s v None = tt
set_items_shaped scope s v (Some []) = tt
set_items_shaped scope s v (Some (a ∷ es)) = set_call_shaped scope s a es v (meant scope a)

set_meant : (scope : Scope) (s t : Span) (v : Datum) (o : Option Meaning) → IfSome o (IsKnown scope) → RowShaped scope (if_formed s (set_name t v) o)
set_meant scope s t v None h = tt
set_meant scope s t v (Some m) h = set_name_shaped scope t v m h

set_place_shaped : (scope : Scope) (s : Span) (d v : Datum) → DefinesOwn scope.defined → RowShaped scope (set_place scope s d v)
set_place_shaped scope s (atom t a) v own = set_meant scope s t v (meant scope (atom t a)) (meant_known scope (atom t a) own)
set_place_shaped scope s (cons t head tail) v own = set_items_shaped scope s v (items_of (cons t head tail))

pub set_shaped : (scope : Scope) (s : Span) (ds : List Datum) → DefinesOwn scope.defined → RowShaped scope (set_row scope s ds)
set_shaped scope s [] own = tt
set_shaped scope s (d ∷ []) own = tt
set_shaped scope s (d ∷ v ∷ []) own = set_place_shaped scope s d v own
set_shaped scope s (d ∷ v ∷ e ∷ ds) own = tt

-- ---- calls

call_node_shaped : (scope : Scope) (f : Datum) (ds : List Datum) → RowShaped scope (call_node f ds)
call_node_shaped scope f ds = (f, ds, refl)

add_shaped : (scope : Scope) (s : Span) (n : ℕ) (ds : List Datum) → RowShaped scope (fold_row s Builtins.Add n ds)
add_shaped scope s n [] = tt
add_shaped scope s n (a ∷ []) = (a_number s n ∷ a ∷ [], refl, refl)
add_shaped scope s n (a ∷ b ∷ []) = (a ∷ b ∷ [], refl, refl)
add_shaped scope s n (a ∷ b ∷ c ∷ ds) = tt

mul_shaped : (scope : Scope) (s : Span) (n : ℕ) (ds : List Datum) → RowShaped scope (fold_row s Builtins.Mul n ds)
mul_shaped scope s n [] = tt
mul_shaped scope s n (a ∷ []) = (a_number s n ∷ a ∷ [], refl, refl)
mul_shaped scope s n (a ∷ b ∷ []) = (a ∷ b ∷ [], refl, refl)
mul_shaped scope s n (a ∷ b ∷ c ∷ ds) = tt

at_arity : (scope : Scope) (f : Datum) (p : Builtin) (ds : List Datum) (b : Bool) → (length ds == arity_of p) ≡ b
    → RowShaped scope (if b then node (primitive p) [] (map plain ds) else call_node f ds)
at_arity scope f p ds true e = (ds, (Decides-eqb (length ds) (arity_of p)).0 e, refl)
at_arity scope f p ds false e = (f, ds, refl)

builtin_row_shaped : (scope : Scope) (f : Datum) (p : Builtin) (ds : List Datum) → RowShaped scope (builtin_row f p ds)
builtin_row_shaped scope f p ds = at_arity scope f p ds (length ds == arity_of p) refl

minus_shaped : (scope : Scope) (s : Span) (f : Datum) (ds : List Datum) → RowShaped scope (minus_row s f ds)
minus_shaped scope s f [] = builtin_row_shaped scope f Builtins.Sub []
minus_shaped scope s f (a ∷ []) = (a_number s 0 ∷ a ∷ [], refl, refl)
minus_shaped scope s f (a ∷ b ∷ ds) = builtin_row_shaped scope f Builtins.Sub (a ∷ b ∷ ds)

builtin_call_shaped : (scope : Scope) (s : Span) (f : Datum) (ds : List Datum) (p : Builtin) → RowShaped scope (builtin_call s f ds p)
builtin_call_shaped scope s f ds Builtins.Add = add_shaped scope s 0 ds
builtin_call_shaped scope s f ds Builtins.Mul = mul_shaped scope s 1 ds
builtin_call_shaped scope s f ds Builtins.Sub = minus_shaped scope s f ds
builtin_call_shaped scope s f ds p = builtin_row_shaped scope f p ds

list_shaped : (scope : Scope) (s : Span) (ds : List Datum) → RowShaped scope (list_row s ds)
list_shaped scope s [] = tt
list_shaped scope s (a ∷ others) = (a ∷ listed s (atom s listing ∷ others) ∷ [], refl, refl)

call_meant_shaped : (scope : Scope) (s : Span) (f : Datum) (ds : List Datum) (o : Option Meaning) → RowShaped scope (call_meant s f ds o)
call_meant_shaped scope s f ds (Some (the_builtin p)) = builtin_call_shaped scope s f ds p
call_meant_shaped scope s f ds (Some the_listing) = list_shaped scope s ds
call_meant_shaped scope s f ds _ = (f, ds, refl)

pub call_shaped : (scope : Scope) (s : Span) (f : Datum) (ds : List Datum) → RowShaped scope (call_row scope s f ds)
call_shaped scope s (atom t (builtin p)) ds = builtin_call_shaped scope s (atom t (builtin p)) ds p
call_shaped scope s (atom t listing) ds = list_shaped scope s ds
call_shaped scope s (atom t (given v)) ds = call_meant_shaped scope s (atom t (given v)) ds (meant scope (atom t (given v)))
call_shaped scope s (atom t (variable n)) ds = call_meant_shaped scope s (atom t (variable n)) ds (meant scope (atom t (variable n)))
call_shaped scope s (atom t (operation o)) ds = (atom t (operation o), ds, refl)
call_shaped scope s (cons t head tail) ds = (cons t head tail, ds, refl)
