-- SET, LOCATIVE and OBJECT keep to the bytes of their forms.
use Rattle.std.proofs.Common.{◌≡◌, ℕ, ◌+◌, ◌≤◌, ◌==◌, true, false, not, if◌then◌else◌, List, [], ◌∷◌, ◌++◌, map, length, Option, Some, None, refl, subst, arith}
use Rattle.std.specs.Prelude.{codes}
use Rattle.std.specs.Option.{option_and_then}
use Rattle.t_base.specs.declared.basics.Span.{Span}
use Rattle.t_base.specs.declared.builtins.Builtin.{Builtin}
use Rattle.t_prim.specs.Table.{arity_of}
use Rattle.t_reader.specs.Grammar.{fix, char, nil, truth, string, symbol}
use Rattle.t_forms.specs.Data.{given, variable, builtin, operation, listing, Datum, atom, cons, items_of, listed, an_operation, name_of, Binder, binders_of, names}
use Rattle.t_forms.specs.Names.{Meaning, a_local, a_global, an_op, the_builtin, the_operation, the_truth, the_listing, none, Scope}
use Rattle.t_rows.specs.Rows.{stands_for, node, primitive, plain, inside, body, set_name, set_through, not_settable, assigns, set_builtin, set_operation, set_call, meant, set_items, set_place, set_row, word_, locative_object, part_bindings, part_variables, locative_call, locative_items, locative_of, locative_row, Method, method_of_head, method_of_items, methods_of, object_node, object_row}
use Rattle.expand_laws.proofs.Always.{weigh, all_any, through, mapped, found_weight}
use Rattle.kept_strings.proofs.Bytes.{bytes, all_bytes, bytes_listed, bytes_append, body_bytes, items_bytes}
use Rattle.kept_strings.proofs.RowBytes.{RowKeeps, row_more, formed, either_row, plain_bytes, only_bytes}

-- ---- SET

set_name_keeps : (n : ℕ) (t : Span) (e : Datum) (x : Meaning) → bytes e ≤ n → RowKeeps n (set_name t e x)
set_name_keeps n t e (a_local v) l = omega (arith, l)
set_name_keeps n t e (a_global g true) l = omega (arith, l)
set_name_keeps n t e (a_global g false) l = omega (arith, l)
set_name_keeps n t e (an_op o) l = omega (arith, l)
set_name_keeps n t e (the_builtin p) l = omega (arith, l)
set_name_keeps n t e (the_operation o) l = omega (arith, l)
set_name_keeps n t e the_truth l = omega (arith, l)
set_name_keeps n t e the_listing l = omega (arith, l)
set_name_keeps n t e none l = omega (arith, l)

-- so many bytes in a place and its new content
abbrev Fit : ℕ → Datum → List Datum → Datum → Type 0
Fit n a es v = bytes a + all_bytes es + bytes v ≤ n

content_bytes : (es : List Datum) (v : Datum) → all_bytes (es ++ v ∷ []) ≡ all_bytes es + bytes v
content_bytes es v = let e = bytes_append es (v ∷ []) in omega (arith, e)

set_through_keeps : (n : ℕ) (s : Span) (a : Datum) (es : List Datum) (v : Datum) → Fit n a es v → RowKeeps n (set_through s a es v)
set_through_keeps n s a es v l =
    let c = content_bytes es v in
    let w = bytes_listed s (es ++ v ∷ []) in
    omega (arith, c, w, l)

settable : (n : ℕ) (a : Datum) (es : List Datum) (v : Datum) → Fit n a es v → RowKeeps n (not_settable a es v)
settable n a es v l =
    let c = content_bytes es v in
    let w = plain_bytes (es ++ v ∷ []) in
    omega (arith, c, w, l)

set_builtin_keeps : (n : ℕ) (s : Span) (a : Datum) (es : List Datum) (v : Datum) (o : Option Builtin) → Fit n a es v → RowKeeps n (set_builtin s a es v o)
set_builtin_keeps n s a es v None l = settable n a es v l
set_builtin_keeps n s a es v (Some q) l =
    let c = content_bytes es v in
    let w = plain_bytes (es ++ v ∷ []) in
    either_row n (length es + 1 == arity_of q) (node (primitive q) [] (map plain (es ++ v ∷ []))) (set_through s a es v) (omega (arith, c, w, l)) (set_through_keeps n s a es v l)

set_operation_keeps : (n : ℕ) (s : Span) (a : Datum) (es : List Datum) (v : Datum) (o : ℕ) → Fit n a es v → RowKeeps n (set_operation s a es v o)
set_operation_keeps n s a es v o l =
    let c = content_bytes es v in
    let w = bytes_listed s (es ++ v ∷ []) in
    either_row n (not (o == 1)) (not_settable a es v) (if length es == 1 then stands_for (listed s (an_operation s 2 ∷ es ++ v ∷ [])) else set_through s a es v)
    (settable n a es v l)
    (either_row n (length es == 1) (stands_for (listed s (an_operation s 2 ∷ es ++ v ∷ []))) (set_through s a es v) (omega (arith, c, w, l)) (set_through_keeps n s a es v l))

set_call_keeps : (n : ℕ) (s : Span) (a : Datum) (es : List Datum) (v : Datum) (x : Option Meaning) → Fit n a es v → RowKeeps n (set_call s a es v x)
set_call_keeps n s a es v (Some (the_builtin p)) l = set_builtin_keeps n s a es v (assigns p) l
set_call_keeps n s a es v (Some (the_operation o)) l = set_operation_keeps n s a es v o l
set_call_keeps n s a es v (Some the_listing) l = settable n a es v l
set_call_keeps n s a es v x l = set_through_keeps n s a es v l

set_items_keeps : (n k : ℕ) (scope : Scope) (s : Span) (v : Datum) (o : Option (List Datum)) → ((ds : List Datum) → o ≡ Some ds → all_bytes ds ≤ k) → k + bytes v ≤ n
    → RowKeeps n (set_items scope s v o)
set_items_keeps n k scope s v None h l = omega arith
set_items_keeps n k scope s v (Some []) h l = omega arith
set_items_keeps n k scope s v (Some (a ∷ es)) h l = let w = h (a ∷ es) refl in set_call_keeps n s a es v (meant scope a) (omega (arith, w, l))

set_place_keeps : (n : ℕ) (scope : Scope) (s : Span) (d v : Datum) → bytes d + bytes v ≤ n → RowKeeps n (set_place scope s d v)
set_place_keeps n scope s (atom t a) v l =
    formed n s (set_name t v) (meant scope (atom t a)) (λ x e. set_name_keeps n t v x (omega (arith, l)))
set_place_keeps n scope s (cons t head tail) v l =
    set_items_keeps n (bytes (cons t head tail)) scope s v (items_of (cons t head tail)) (λ ds e. let w = items_bytes (cons t head tail) ds e in omega (arith, w)) l

pub set_keeps : (scope : Scope) (s : Span) (ds : List Datum) → RowKeeps (all_bytes ds) (set_row scope s ds)
set_keeps scope s [] = omega arith
set_keeps scope s (d ∷ []) = omega arith
set_keeps scope s (d ∷ v ∷ []) = set_place_keeps (all_bytes (d ∷ v ∷ [])) scope s d v (omega arith)
set_keeps scope s (d ∷ v ∷ e ∷ ds) = omega arith

-- ---- LOCATIVE

-- the place stands there twice
object_bytes : (s : Span) (place : Datum) → bytes (locative_object s place) ≡ bytes place + bytes place
object_bytes s place = omega arith

bound_bytes : (s : Span) (i : ℕ) (es : List Datum) → all_bytes (part_bindings s i es) ≡ all_bytes es
bound_bytes s i [] = refl
bound_bytes s i (e ∷ es) = let r = bound_bytes s (i + 1) es in omega (arith, r)

variables_bytes : (s : Span) (i : ℕ) (es : List Datum) → all_bytes (part_variables s i es) ≡ 0
variables_bytes s i [] = refl
variables_bytes s i (e ∷ es) = let r = variables_bytes s (i + 1) es in omega (arith, r)

-- the operator stays, having no bytes
stays : (n : ℕ) (s : Span) (a : Datum) (es : List Datum) → bytes a ≡ 0 → all_bytes es ≤ n
    → bytes (listed s (word_ s (codes "let") ∷ listed s (part_bindings s 1 es) ∷ locative_object s (listed s (a ∷ part_variables s 1 es)) ∷ [])) ≤ n
stays n s a es empty l =
    let p = bytes_listed s (part_bindings s 1 es) in
    let q = bound_bytes s 1 es in
    let u = bytes_listed s (part_variables s 1 es) in
    let v = variables_bytes s 1 es in
    let w = object_bytes s (listed s (a ∷ part_variables s 1 es)) in
    omega (arith, empty, l, p, q, u, v, w)

-- the operator has a new name too
renamed : (n : ℕ) (s : Span) (a : Datum) (es : List Datum) → bytes a + all_bytes es ≤ n
    → bytes (listed s (word_ s (codes "let") ∷ listed s (part_bindings s 0 (a ∷ es)) ∷ locative_object s (listed s (part_variables s 0 (a ∷ es))) ∷ [])) ≤ n
renamed n s a es l =
    let p = bytes_listed s (part_bindings s 0 (a ∷ es)) in
    let q = bound_bytes s 0 (a ∷ es) in
    let u = bytes_listed s (part_variables s 0 (a ∷ es)) in
    let v = variables_bytes s 0 (a ∷ es) in
    let w = object_bytes s (listed s (part_variables s 0 (a ∷ es))) in
    omega (arith, l, p, q, u, v, w)

locative_call_keeps : (n : ℕ) (s : Span) (a : Datum) (es : List Datum) → bytes a + all_bytes es ≤ n → RowKeeps n (locative_call s a es)
locative_call_keeps n s (atom t (given (fix z))) es l = renamed n s (atom t (given (fix z))) es l
locative_call_keeps n s (atom t (given (char c))) es l = renamed n s (atom t (given (char c))) es l
locative_call_keeps n s (atom t (given nil)) es l = renamed n s (atom t (given nil)) es l
locative_call_keeps n s (atom t (given truth)) es l = renamed n s (atom t (given truth)) es l
locative_call_keeps n s (atom t (given (string text))) es l = renamed n s (atom t (given (string text))) es l
locative_call_keeps n s (atom t (given (symbol text))) es l = stays n s (atom t (given (symbol text))) es refl (omega (arith, l))
locative_call_keeps n s (atom t (variable v)) es l = stays n s (atom t (variable v)) es refl (omega (arith, l))
locative_call_keeps n s (atom t (builtin p)) es l = renamed n s (atom t (builtin p)) es l
locative_call_keeps n s (atom t (operation o)) es l = renamed n s (atom t (operation o)) es l
locative_call_keeps n s (atom t listing) es l = renamed n s (atom t listing) es l
locative_call_keeps n s (cons t head tail) es l = renamed n s (cons t head tail) es l

locative_items_keeps : (n : ℕ) (s : Span) (o : Option (List Datum)) → ((ds : List Datum) → o ≡ Some ds → all_bytes ds ≤ n) → RowKeeps n (locative_items s o)
locative_items_keeps n s None h = omega arith
locative_items_keeps n s (Some []) h = omega arith
locative_items_keeps n s (Some (a ∷ es)) h = let w = h (a ∷ es) refl in locative_call_keeps n s a es (omega (arith, w))

-- a name has no bytes
locative_of_keeps : (s : Span) (d : Datum) → RowKeeps (bytes d) (locative_of s d)
locative_of_keeps s (atom t (given (fix z))) = omega arith
locative_of_keeps s (atom t (given (char c))) = omega arith
locative_of_keeps s (atom t (given nil)) = omega arith
locative_of_keeps s (atom t (given truth)) = omega arith
locative_of_keeps s (atom t (given (string text))) = omega arith
locative_of_keeps s (atom t (given (symbol text))) =
    formed 0 s (λ x. stands_for (locative_object s (atom t (given (symbol text))))) (name_of (atom t (given (symbol text)))) (λ x e. omega arith)
locative_of_keeps s (atom t (variable n)) = omega arith
locative_of_keeps s (atom t (builtin p)) = omega arith
locative_of_keeps s (atom t (operation o)) = omega arith
locative_of_keeps s (atom t listing) = omega arith
locative_of_keeps s (cons t head tail) =
    locative_items_keeps (bytes (cons t head tail)) s (items_of (cons t head tail)) (λ ds e. let w = items_bytes (cons t head tail) ds e in omega (arith, w))

pub locative_keeps : (s : Span) (ds : List Datum) → RowKeeps (all_bytes ds) (locative_row s ds)
locative_keeps s [] = omega arith
locative_keeps s (d ∷ []) = row_more (bytes d) (all_bytes (d ∷ [])) (locative_of s d) (omega arith) (locative_of_keeps s d)
locative_keeps s (d ∷ e ∷ ds) = omega arith

-- ---- OBJECT

abbrev form_bytes : Method → ℕ
form_bytes m = bytes m.form

head_fits : (s : Span) (bs hs : List Datum) (x : Method) → method_of_head s bs hs ≡ Some x → form_bytes x ≤ all_bytes bs
head_fits s bs [] x e = cc
head_fits s bs (op ∷ []) x e = cc
head_fits s bs (op ∷ me ∷ xs) x e =
    let g = mapped (λ (ps : List Binder). record { op = op; params = ps; form = body s bs }) (binders_of (me ∷ xs)) x e in
    let w = body_bytes s bs in
    subst (λ (y : Method). form_bytes y ≤ all_bytes bs) g.gives (omega (arith, w))

method_fits : (s : Span) (ds : List Datum) (x : Method) → method_of_items s ds ≡ Some x → form_bytes x ≤ all_bytes ds
method_fits s [] x e = cc
method_fits s (head ∷ []) x e = cc
method_fits s (head ∷ b ∷ bs) x e =
    let g = through (method_of_head s (b ∷ bs)) (items_of head) x e in
    let l = head_fits s (b ∷ bs) g.got x g.gives in
    omega (arith, l)

method_item_fits : (s : Span) (i : Datum) (x : Method) → option_and_then (method_of_items s) (items_of i) ≡ Some x → form_bytes x ≤ bytes i
method_item_fits s i x e =
    let g = through (method_of_items s) (items_of i) x e in
    let w = items_bytes i g.got g.is in
    let l = method_fits s g.got x g.gives in
    omega (arith, w, l)

object_node_keeps : (n : ℕ) (scope : Scope) (p : Datum) (xs : List Method) → bytes p + weigh form_bytes xs ≤ n → RowKeeps n (object_node scope p xs)
object_node_keeps n scope p xs l =
    let e = only_bytes (λ (x : Method). inside (names x.params) x.form) form_bytes xs (λ x. refl) in
    omega (arith, e, l)

pub object_keeps : (scope : Scope) (s : Span) (ds : List Datum) → RowKeeps (all_bytes ds) (object_row scope s ds)
object_keeps scope s [] = omega arith
object_keeps scope s (p ∷ ms) =
    formed (all_bytes (p ∷ ms)) s (object_node scope p) (methods_of s ms)
    (λ xs e. object_node_keeps (all_bytes (p ∷ ms)) scope p xs (
    let l =
    found_weight (λ i. Unit {0}) bytes form_bytes (λ i. option_and_then (method_of_items s) (items_of i)) (λ i q y k. method_item_fits s i y k) ms xs (all_any ms) e in
    omega (arith, l)
    ))
