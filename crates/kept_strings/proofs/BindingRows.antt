-- LET, LET*, LABELS and ITERATE keep to the bytes of their forms.
use Rattle.std.proofs.Common.{◌≡◌, ℕ, ◌+◌, ◌≤◌, Bool, true, false, if◌then◌else◌, List, [], ◌∷◌, map, Some, None, refl, subst, arith}
use Rattle.std.specs.Option.{option_map, option_and_then}
use Rattle.t_base.specs.declared.basics.Span.{Span}
use Rattle.t_forms.specs.Data.{Datum, atom, cons, items_of, listed, all_of, Binder, binder_of, names}
use Rattle.t_rows.specs.Rows.{inside, plain, body, Binding, binding, binding_of_items, binding_of, bindings_of, binders, let_node, let_row, let_star_step, let_star_row, lambda_form, procedure_item, is_lambda_word, lambda_item, labels_item, labels_items, labels_node, labels_row, name_datum, iterate_node, iterate_row, if_formed}
use Rattle.expand_laws.proofs.Always.{weigh, all_any, through, mapped, found_weight}
use Rattle.kept_strings.proofs.Bytes.{bytes, all_bytes, bytes_listed, body_bytes, items_bytes, named_bytes}
use Rattle.kept_strings.proofs.RowBytes.{RowKeeps, formed, each_bytes}

abbrev pub value_bytes : Binding → ℕ
value_bytes x = bytes x.value

-- ---- bindings

item_fits : (ds : List Datum) (x : Binding) → binding_of_items ds ≡ Some x → value_bytes x ≤ all_bytes ds
item_fits [] x e = cc
item_fits (a ∷ []) x e = cc
item_fits (a ∷ b ∷ []) x e =
    let m = mapped (λ (y : Binder). record { binds = y; value = b }) (binder_of a) x e in
    subst (λ (y : Binding). value_bytes y ≤ all_bytes (a ∷ b ∷ [])) m.gives (omega arith)
item_fits (a ∷ b ∷ c ∷ ds) x e = cc

binding_fits : (d : Datum) (x : Binding) → binding_of d ≡ Some x → value_bytes x ≤ bytes d
binding_fits d x e =
    let g = through binding_of_items (items_of d) x e in
    let w = items_bytes d g.got g.is in
    let l = item_fits g.got x g.gives in
    omega (arith, w, l)

pub bindings_fit : (d : Datum) (xs : List Binding) → bindings_of d ≡ Some xs → weigh value_bytes xs ≤ bytes d
bindings_fit d xs e =
    let g = through (λ ds. all_of (map binding_of ds)) (items_of d) xs e in
    let w = items_bytes d g.got g.is in
    let l = found_weight (λ i. Unit {0}) bytes value_bytes binding_of (λ i q y k. binding_fits i y k) g.got xs (all_any g.got) g.gives in
    omega (arith, w, l)

-- ---- LET

let_node_keeps : (n : ℕ) (s : Span) (bs : List Datum) (xs : List Binding) → weigh value_bytes xs + all_bytes bs ≤ n → RowKeeps n (let_node s bs xs)
let_node_keeps n s bs [] l = let w = body_bytes s bs in omega (arith, w, l)
let_node_keeps n s bs (x ∷ xs) l =
    let w = body_bytes s bs in
    let e = each_bytes (λ (y : Binding). plain y.value) value_bytes (x ∷ xs) (inside (names (binders (x ∷ xs))) (body s bs) ∷ []) (λ y. refl) in
    omega (arith, w, e, l)

pub let_keeps : (s : Span) (ds : List Datum) → RowKeeps (all_bytes ds) (let_row s ds)
let_keeps s [] = omega arith
let_keeps s (d ∷ []) = omega arith
let_keeps s (d ∷ b ∷ bs) =
    formed (all_bytes (d ∷ b ∷ bs)) s (let_node s (b ∷ bs)) (bindings_of d)
    (λ xs e. let_node_keeps (all_bytes (d ∷ b ∷ bs)) s (b ∷ bs) xs (let w = bindings_fit d xs e in omega (arith, w)))

-- ---- LET*

let_star_step_keeps : (n : ℕ) (s : Span) (bs xs : List Datum) → all_bytes xs + all_bytes bs ≤ n → RowKeeps n (let_star_step s bs xs)
let_star_step_keeps n s bs [] l = let w = body_bytes s bs in omega (arith, w, l)
let_star_step_keeps n s bs (x ∷ others) l =
    let a = bytes_listed s others in
    let b = bytes_listed s bs in
    omega (arith, a, b, l)

pub let_star_keeps : (s : Span) (ds : List Datum) → RowKeeps (all_bytes ds) (let_star_row s ds)
let_star_keeps s [] = omega arith
let_star_keeps s (d ∷ []) = omega arith
let_star_keeps s (d ∷ b ∷ bs) =
    formed (all_bytes (d ∷ b ∷ bs)) s (let_star_step s (b ∷ bs)) (items_of d)
    (λ xs e. let_star_step_keeps (all_bytes (d ∷ b ∷ bs)) s (b ∷ bs) xs (let w = items_bytes d xs e in omega (arith, w)))

-- ---- LABELS

pub lambda_form_bytes : (s : Span) (params : Datum) (bs : List Datum) → bytes (lambda_form s params bs) ≡ bytes params + all_bytes bs
lambda_form_bytes s params bs = let w = bytes_listed s bs in omega (arith, w)

procedure_fits : (s : Span) (bs fs : List Datum) (x : Binding) → procedure_item s bs fs ≡ Some x → value_bytes x ≤ all_bytes fs + all_bytes bs
procedure_fits s bs [] x e = cc
procedure_fits s bs (f ∷ xs) x e =
    let m = mapped (binding (lambda_form s (listed s xs) bs)) (binder_of f) x e in
    let a = bytes_listed s xs in
    let b = lambda_form_bytes s (listed s xs) bs in
    subst (λ (y : Binding). value_bytes y ≤ all_bytes (f ∷ xs) + all_bytes bs) m.gives (omega (arith, a, b))

lambda_if : (b : Bool) (f d : Datum) (x : Binding) → (if b then option_map (binding d) (binder_of f) else None) ≡ Some x → value_bytes x ≤ bytes d
lambda_if true f d x e =
    let m = mapped (binding d) (binder_of f) x e in
    subst (λ (y : Binding). value_bytes y ≤ bytes d) m.gives (omega arith)
lambda_if false f d x e = cc

lambda_fits : (f : Datum) (ds : List Datum) (x : Binding) → lambda_item f ds ≡ Some x → value_bytes x ≤ all_bytes ds
lambda_fits f [] x e = cc
lambda_fits f (atom t a ∷ []) x e = cc
lambda_fits f (atom t a ∷ d ∷ ds) x e = cc
lambda_fits f (cons t head tail ∷ []) x e = let l = lambda_if (is_lambda_word head) f (cons t head tail) x e in omega (arith, l)
lambda_fits f (cons t head tail ∷ d ∷ ds) x e = cc

labels_fits : (s : Span) (ds : List Datum) (x : Binding) → labels_item s ds ≡ Some x → value_bytes x ≤ all_bytes ds
labels_fits s [] x e = cc
labels_fits s (atom t a ∷ bs) x e = let l = lambda_fits (atom t a) bs x e in omega (arith, l)
labels_fits s (cons t head tail ∷ bs) x e =
    let g = through (procedure_item s bs) (items_of (cons t head tail)) x e in
    let w = items_bytes (cons t head tail) g.got g.is in
    let l = procedure_fits s bs g.got x g.gives in
    omega (arith, w, l)

labels_item_fits : (s : Span) (i : Datum) (x : Binding) → option_and_then (labels_item s) (items_of i) ≡ Some x → value_bytes x ≤ bytes i
labels_item_fits s i x e =
    let g = through (labels_item s) (items_of i) x e in
    let w = items_bytes i g.got g.is in
    let l = labels_fits s g.got x g.gives in
    omega (arith, w, l)

labels_fit : (s : Span) (d : Datum) (xs : List Binding) → labels_items s d ≡ Some xs → weigh value_bytes xs ≤ bytes d
labels_fit s d xs e =
    let g = through (λ ds. all_of (map (λ i. option_and_then (labels_item s) (items_of i)) ds)) (items_of d) xs e in
    let w = items_bytes d g.got g.is in
    let l =
    found_weight (λ i. Unit {0}) bytes value_bytes (λ i. option_and_then (labels_item s) (items_of i)) (λ i q y k. labels_item_fits s i y k) g.got xs (all_any g.got) g.gives in
    omega (arith, w, l)

labels_node_keeps : (n : ℕ) (s : Span) (bs : List Datum) (xs : List Binding) → weigh value_bytes xs + all_bytes bs ≤ n → RowKeeps n (labels_node s bs xs)
labels_node_keeps n s bs [] l = let w = body_bytes s bs in omega (arith, w, l)
labels_node_keeps n s bs (x ∷ xs) l =
    let w = body_bytes s bs in
    let e = each_bytes (λ (y : Binding). inside (names (binders (x ∷ xs))) y.value) value_bytes (x ∷ xs) (inside (names (binders (x ∷ xs))) (body s bs) ∷ []) (λ y. refl) in
    omega (arith, w, e, l)

pub labels_keeps : (s : Span) (ds : List Datum) → RowKeeps (all_bytes ds) (labels_row s ds)
labels_keeps s [] = omega arith
labels_keeps s (d ∷ []) = omega arith
labels_keeps s (d ∷ b ∷ bs) =
    formed (all_bytes (d ∷ b ∷ bs)) s (labels_node s (b ∷ bs)) (labels_items s d)
    (λ xs e. labels_node_keeps (all_bytes (d ∷ b ∷ bs)) s (b ∷ bs) xs (let w = labels_fit s d xs e in omega (arith, w)))

-- ---- ITERATE

no_names : (xs : List Binding) → all_bytes (map (λ x. name_datum x.binds) xs) ≡ 0
no_names [] = refl
no_names (x ∷ xs) = let a = named_bytes x.binds in let b = no_names xs in omega (arith, a, b)

values_listed : (xs : List Binding) → all_bytes (map (λ x. x.value) xs) ≡ weigh value_bytes xs
values_listed [] = refl
values_listed (x ∷ xs) = let e = values_listed xs in omega (arith, e)

iterate_node_keeps : (n : ℕ) (s : Span) (bs : List Datum) (f : Binder) (xs : List Binding) → weigh value_bytes xs + all_bytes bs ≤ n → RowKeeps n (iterate_node s bs f xs)
iterate_node_keeps n s bs f xs l =
    let a = no_names xs in
    let b = bytes_listed s (map (λ x. name_datum x.binds) xs) in
    let c = lambda_form_bytes s (listed s (map (λ x. name_datum x.binds) xs)) bs in
    let d = values_listed xs in
    let e = bytes_listed s (map (λ x. x.value) xs) in
    omega (arith, a, b, c, d, e, l)

pub iterate_keeps : (s : Span) (ds : List Datum) → RowKeeps (all_bytes ds) (iterate_row s ds)
iterate_keeps s [] = omega arith
iterate_keeps s (f ∷ []) = omega arith
iterate_keeps s (f ∷ d ∷ []) = omega arith
iterate_keeps s (f ∷ d ∷ b ∷ bs) =
    formed (all_bytes (f ∷ d ∷ b ∷ bs)) s (λ g. if_formed s (iterate_node s (b ∷ bs) g) (bindings_of d)) (binder_of f)
    (λ g k. formed (all_bytes (f ∷ d ∷ b ∷ bs)) s (iterate_node s (b ∷ bs) g) (bindings_of d)
    (λ xs e. iterate_node_keeps (all_bytes (f ∷ d ∷ b ∷ bs)) s (b ∷ bs) g xs (let w = bindings_fit d xs e in omega (arith, w))))
