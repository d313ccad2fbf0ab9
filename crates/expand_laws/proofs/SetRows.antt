-- The table ends on SET and OBJECT.
use Rattle.std.proofs.Common.{◌≡◌, ℕ, ◌+◌, ◌≤◌, ◌==◌, true, false, not, if◌then◌else◌, List, [], ◌∷◌, ◌++◌, map, length, Option, Some, None, refl, subst, arith}
use Rattle.std.specs.List.{AllByRecursion}
use Rattle.std.specs.Option.{option_and_then}
use Rattle.t_base.specs.declared.basics.Span.{Span}
use Rattle.t_base.specs.declared.builtins.Builtin.{Builtin}
use Rattle.t_prim.specs.Table.{arity_of}
use Rattle.t_reader.specs.Grammar.{Value}
use Rattle.t_forms.specs.Data.{Datum, atom, cons, items_of, listed, an_operation, binders_of, names}
use Rattle.t_forms.specs.Names.{Meaning, a_local, a_global, an_op, the_builtin, the_operation, the_truth, the_listing, none, Scope}
use Rattle.t_rows.specs.Rows.{stands_for, node, primitive, plain, inside, body, set_name, set_through, not_settable, assigns, set_builtin, set_operation, set_call, meant, set_items, set_place, set_row, Method, method_of_head, method_of_items, methods_of, object_node, object_row}
use Rattle.expand_laws.proofs.Reached.{HasMadeValues}
use Rattle.expand_laws.proofs.Sizes.{size, total}
use Rattle.expand_laws.proofs.Fine.{item_small}
use Rattle.expand_laws.proofs.Worths.{worth, worths, worth_listed, items_worth, worths_append}
use Rattle.expand_laws.proofs.Always.{Within, Always, AllAlways, RowWithin, more, row_more, no_more_parts, another, node_of, refused, formed, either_row, weigh, all_append, parts_only, all_found, plain_parts, through, mapped, found_weight}
use Rattle.expand_laws.proofs.Atoms.{operation_within}
use Rattle.expand_laws.proofs.Calls.{call_form}
use Rattle.expand_laws.proofs.Blocks.{block_form}
use Rattle.expand_laws.proofs.Below.{Below, AllItems, AllSmall, smalls_always}
use Rattle.expand_laws.proofs.LetRows.{weigh_worths}

-- ---- SET

set_name_ends : (right : Value → Type 0) (t : Span) (e : Datum) (x : Meaning) → Always right e → RowWithin right (1 + worth e) (set_name t e x)
set_name_ends right t e (a_local v) h = node_of tt (another h no_more_parts) (omega arith)
set_name_ends right t e (a_global g true) h = node_of tt (another h no_more_parts) (omega arith)
set_name_ends right t e (a_global g false) h = node_of tt (another h no_more_parts) (omega arith)
set_name_ends right t e (an_op o) h = node_of tt (another h no_more_parts) (omega arith)
set_name_ends right t e (the_builtin p) h = node_of tt (another h no_more_parts) (omega arith)
set_name_ends right t e (the_operation o) h = node_of tt (another h no_more_parts) (omega arith)
set_name_ends right t e the_truth h = node_of tt (another h no_more_parts) (omega arith)
set_name_ends right t e the_listing h = node_of tt (another h no_more_parts) (omega arith)
set_name_ends right t e none h = node_of tt (another h no_more_parts) (omega arith)

-- the operands of the place, and the new content
with_content : (right : Value → Type 0) (es : List Datum) (v : Datum) → AllAlways right es → Always right v → AllAlways right (es ++ v ∷ [])
with_content right es v h hv = all_append (Always right) es (v ∷ []) h (hv, tt)

-- a call of the setter, or less
abbrev set_most : Datum → List Datum → Datum → ℕ
set_most a es v = 21 + worth a + worths (es ++ v ∷ [])

set_through_ends : {right : Value → Type 0} → HasMadeValues right → (s : Span) (a : Datum) (es : List Datum) (v : Datum) → Always right a → AllAlways right es → Always right v
    → RowWithin right (set_most a es v) (set_through s a es v)
set_through_ends {right} m s a es v ha h hv =
    let setter : Within right (2 + 1 + worths (a ∷ [])) (listed s (an_operation s 0 ∷ a ∷ [])) =
    call_form m 1 s (an_operation s 0) (a ∷ []) refl (operation_within m s 0 (omega arith)) (ha, tt) in
    more (set_most a es v)
    (call_form m (2 + 1 + worths (a ∷ [])) s (listed s (an_operation s 0 ∷ a ∷ [])) (es ++ v ∷ []) refl setter (with_content right es v h hv)) (omega arith)

set_builtin_ends : {right : Value → Type 0} → HasMadeValues right → (s : Span) (a : Datum) (es : List Datum) (v : Datum) (o : Option Builtin) → Always right a
    → AllAlways right es → Always right v → RowWithin right (set_most a es v) (set_builtin s a es v o)
set_builtin_ends {right} m s a es v None ha h hv = node_of tt (plain_parts right (es ++ v ∷ []) (with_content right es v h hv)) (omega arith)
set_builtin_ends {right} m s a es v (Some q) ha h hv =
    either_row right (set_most a es v) (length es + 1 == arity_of q) (node (primitive q) [] (map plain (es ++ v ∷ []))) (set_through s a es v)
    (node_of tt (plain_parts right (es ++ v ∷ []) (with_content right es v h hv)) (omega arith)) (set_through_ends m s a es v ha h hv)

set_operation_ends : {right : Value → Type 0} → HasMadeValues right → (s : Span) (a : Datum) (es : List Datum) (v : Datum) (o : ℕ) → Always right a → AllAlways right es
    → Always right v → RowWithin right (set_most a es v) (set_operation s a es v o)
set_operation_ends {right} m s a es v o ha h hv =
    either_row right (set_most a es v) (not (o == 1)) (not_settable a es v)
    (if length es == 1 then stands_for (listed s (an_operation s 2 ∷ es ++ v ∷ [])) else set_through s a es v)
    (node_of tt (plain_parts right (es ++ v ∷ []) (with_content right es v h hv)) (omega arith))
    (either_row right (set_most a es v) (length es == 1) (stands_for (listed s (an_operation s 2 ∷ es ++ v ∷ []))) (set_through s a es v)
    (more (set_most a es v) (call_form m 1 s (an_operation s 2) (es ++ v ∷ []) refl (operation_within m s 2 (omega arith)) (with_content right es v h hv)) (omega arith))
    (set_through_ends m s a es v ha h hv))

set_call_ends : {right : Value → Type 0} → HasMadeValues right → (s : Span) (a : Datum) (es : List Datum) (v : Datum) (x : Option Meaning) → Always right a
    → AllAlways right es → Always right v → RowWithin right (set_most a es v) (set_call s a es v x)
set_call_ends m s a es v (Some (the_builtin p)) ha h hv = set_builtin_ends m s a es v (assigns p) ha h hv
set_call_ends m s a es v (Some (the_operation o)) ha h hv = set_operation_ends m s a es v o ha h hv
set_call_ends {right} m s a es v (Some the_listing) ha h hv = node_of tt (plain_parts right (es ++ v ∷ []) (with_content right es v h hv)) (omega arith)
set_call_ends m s a es v x ha h hv = set_through_ends m s a es v ha h hv

set_items_ends : {right : Value → Type 0} → HasMadeValues right → (k : ℕ) (scope : Scope) (s : Span) (v : Datum) (o : Option (List Datum)) → Always right v
    → ((ds : List Datum) → o ≡ Some ds → AllAlways right ds × (64 + worths ds ≤ k)) → RowWithin right (1 + k + worth v) (set_items scope s v o)
set_items_ends m k scope s v None hv h = refused (omega arith)
set_items_ends m k scope s v (Some []) hv h = refused (omega arith)
set_items_ends {right} m k scope s v (Some (a ∷ es)) hv h =
    let i = h (a ∷ es) refl in
    let l = i.1 in
    let w = worths_append es (v ∷ []) in
    row_more right (set_most a es v) (1 + k + worth v) (set_call s a es v (meant scope a)) (set_call_ends m s a es v (meant scope a) i.0.0 i.0.1 hv) (omega (arith, l, w))

pub set_place_ends : {right : Value → Type 0} → HasMadeValues right → (scope : Scope) (s : Span) (d v : Datum) → Always right v
    → ((ds : List Datum) → items_of d ≡ Some ds → AllAlways right ds) → RowWithin right (1 + worth d + worth v) (set_place scope s d v)
set_place_ends {right} m scope s (atom t a) v hv h =
    formed right (1 + worth (atom t a) + worth v) s (set_name t v) (meant scope (atom t a)) (omega arith)
    (λ x e. row_more right (1 + worth v) (1 + worth (atom t a) + worth v) (set_name t v x) (set_name_ends right t v x hv) (omega arith))
set_place_ends {right} m scope s (cons t head tail) v hv h =
    set_items_ends m (worth (cons t head tail)) scope s v (items_of (cons t head tail)) hv
    (λ ds e. (h ds e, (let w = items_worth (cons t head tail) ds e in omega (arith, w))))

pub set_row_ends : {right : Value → Type 0} → HasMadeValues right → (n : ℕ) (scope : Scope) (s : Span) (ds : List Datum) → Below right n → AllItems right ds
    → AllAlways right ds → total ds ≤ n → RowWithin right (1 + worths ds) (set_row scope s ds)
set_row_ends m n scope s [] below h a l = refused (omega arith)
set_row_ends m n scope s (d ∷ []) below h a l = refused (omega arith)
set_row_ends {right} m n scope s (d ∷ v ∷ []) below h a l =
    let k : size d ≤ n = omega (arith, l) in
    row_more right (1 + worth d + worth v) (1 + worths (d ∷ v ∷ [])) (set_place scope s d v)
    (set_place_ends m scope s d v a.1.0 (λ ds e. smalls_always right n ds below (item_small right n d ds h.0 k e))) (omega arith)
set_row_ends m n scope s (d ∷ v ∷ e ∷ ds) below h a l = refused (omega arith)

-- ---- OBJECT

-- the table ends on the form of a method, which is worth so much at most
record MethodFits (right : Value → Type 0) (k : ℕ) (x : Method) : Type 0 where
  form : Always right x.form
  few : worth x.form ≤ k

record BodyFits (right : Value → Type 0) (k : ℕ) (d : Datum) : Type 0 where
  form : Always right d
  few : worth d ≤ k

-- a body is worth what is in it, and a word
body_fits : (right : Value → Type 0) (s : Span) (bs : List Datum) → AllAlways right bs → BodyFits right (144 + worths bs) (body s bs)
body_fits right s [] h = record { form = more (worth (body s [])) (block_form right s [] h) (omega arith); few = omega arith }
body_fits right s (b ∷ []) h = record { form = h.0; few = omega arith }
body_fits right s (b ∷ c ∷ ds) h =
    let w = worth_listed s (b ∷ c ∷ ds) in
    record { form = more (worth (body s (b ∷ c ∷ ds))) (block_form right s (b ∷ c ∷ ds) h) (omega (arith, w)); few = omega (arith, w) }

head_ends : (right : Value → Type 0) (s : Span) (bs hs : List Datum) (x : Method) → AllAlways right bs → method_of_head s bs hs ≡ Some x
    → MethodFits right (112 + worths hs + worths bs) x
head_ends right s bs [] x h e = cc
head_ends right s bs (op ∷ []) x h e = cc
head_ends right s bs (op ∷ me ∷ xs) x h e =
    let g = mapped (λ ps. record { op = op; params = ps; form = body s bs }) (binders_of (me ∷ xs)) x e in
    let k = body_fits right s bs h in
    let few = k.few in
    let made : MethodFits right (112 + worths (op ∷ me ∷ xs) + worths bs) (record { op = op; params = g.got; form = body s bs }) =
    record { form = k.form; few = omega (arith, few) } in
    subst (MethodFits right (112 + worths (op ∷ me ∷ xs) + worths bs)) g.gives made

method_ends : (right : Value → Type 0) (n : ℕ) (s : Span) (ds : List Datum) (x : Method) → Below right n → AllSmall right n ds → method_of_items s ds ≡ Some x
    → MethodFits right (32 + worths ds) x
method_ends right n s [] x below h e = cc
method_ends right n s (head ∷ []) x below h e = cc
method_ends right n s (head ∷ b ∷ bs) x below h e =
    let g = through (method_of_head s (b ∷ bs)) (items_of head) x e in
    let w = items_worth head g.got g.is in
    let k = head_ends right s (b ∷ bs) g.got x (smalls_always right n (b ∷ bs) below h.1) g.gives in
    let few = k.few in
    record { form = k.form; few = omega (arith, w, few) }

-- the table ends on the methods, which are worth so much together
record MethodsEnd (right : Value → Type 0) (k : ℕ) (xs : List Method) : Type 0 where
  forms : AllByRecursion (λ x. Always right x.form) xs
  few : weigh (λ x. worth x.form) xs ≤ k

methods_end : (right : Value → Type 0) (n : ℕ) (s : Span) (ms : List Datum) (xs : List Method) → Below right n → AllItems right ms → total ms ≤ n
    → methods_of s ms ≡ Some xs → MethodsEnd right (worths ms) xs
methods_end right n s ms xs below h l e = record { forms = forms; few = few }
  where
    fits : (i : Datum) → AllItems right (i ∷ []) × (size i ≤ n) → (y : Method) → option_and_then (method_of_items s) (items_of i) ≡ Some y → MethodFits right (16 + worth i) y
    fits i k y f =
        let g = through (method_of_items s) (items_of i) y f in
        let w = items_worth i g.got g.is in
        let v = method_ends right n s g.got y below (item_small right n i g.got k.0.0 k.1 g.is) g.gives in
        let few = v.few in
        record { form = v.form; few = omega (arith, w, few) }

    each : (ds : List Datum) → AllItems right ds → total ds ≤ n → AllByRecursion (λ i. AllItems right (i ∷ []) × (size i ≤ n)) ds
    each [] k j = tt
    each (d ∷ ds) k j = (((k.0, tt), omega (arith, j)), each ds k.1 (omega (arith, j)))

    forms : AllByRecursion (λ x. Always right x.form) xs
    forms =
        all_found (λ i. AllItems right (i ∷ []) × (size i ≤ n)) (λ x. Always right x.form) (λ i. option_and_then (method_of_items s) (items_of i))
        (λ i q y f. let v = fits i q y f in v.form) ms xs (each ms h l) e

    few : weigh (λ x. worth x.form) xs ≤ worths ms
    few =
        let a =
        found_weight (λ i. AllItems right (i ∷ []) × (size i ≤ n)) (λ i. 16 + worth i) (λ x. worth x.form) (λ i. option_and_then (method_of_items s) (items_of i))
        (λ i q y f. let v = fits i q y f in v.few) ms xs (each ms h l) e in
        let b = weigh_worths ms in
        omega (arith, a, b)

object_node_ends : (right : Value → Type 0) (scope : Scope) (p : Datum) (xs : List Method) → Always right p → AllByRecursion (λ x. Always right x.form) xs
    → RowWithin right (1 + worth p + weigh (λ x. worth x.form) xs) (object_node scope p xs)
object_node_ends right scope p xs hp h =
    node_of tt (another hp (parts_only right (λ (x : Method). inside (names x.params) x.form) (λ x. worth x.form) xs h)) (omega arith)

pub object_row_ends : (right : Value → Type 0) (n : ℕ) (scope : Scope) (s : Span) (ds : List Datum) → Below right n → AllItems right ds → AllAlways right ds
    → total ds ≤ n → RowWithin right (1 + worths ds) (object_row scope s ds)
object_row_ends right n scope s [] below h a l = refused (omega arith)
object_row_ends right n scope s (p ∷ ms) below h a l =
    let j : total ms ≤ n = omega (arith, l) in
    formed right (1 + worths (p ∷ ms)) s (object_node scope p) (methods_of s ms) (omega arith)
    (λ xs e.
    let k = methods_end right n s ms xs below h.1 j e in
    let few = k.few in
    row_more right (1 + worth p + weigh (λ x. worth x.form) xs) (1 + worths (p ∷ ms)) (object_node scope p xs) (object_node_ends right scope p xs a.0 k.forms) (omega (arith, few)))
