-- The table ends on LET, LET*, LABELS and ITERATE.
use Rattle.std.proofs.Common.{◌≡◌, ℕ, ◌+◌, ◌<◌, ◌≤◌, Bool, true, false, if◌then◌else◌, List, [], ◌∷◌, map, Some, None, subst, arith}
use Rattle.std.specs.Prelude.{codes}
use Rattle.std.specs.List.{AllByRecursion}
use Rattle.std.specs.Option.{option_map, option_and_then}
use Rattle.t_base.specs.declared.basics.Span.{Span}
use Rattle.t_reader.specs.Grammar.{Value}
use Rattle.t_forms.specs.Data.{Datum, atom, cons, items_of, listed, all_of, binder_of, names}
use Rattle.t_rows.specs.Rows.{inside, body, word_, binding, Binding, binders, let_row, let_star_step, let_star_row, lambda_form, procedure_item, is_lambda_word, lambda_item, labels_item, labels_items, labels_node, labels_row, iterate_row}
use Rattle.expand_laws.proofs.Reached.{IsPure, HasMadeValues}
use Rattle.expand_laws.proofs.Sizes.{size, total, size_listed, items_size}
use Rattle.expand_laws.proofs.Fine.{pure_item, pure_ops, listed_pure, listed_tail, IsSmall, item_small, small_items}
use Rattle.expand_laws.proofs.Worths.{worth, worths, least, worth_listed, items_worth, pure_worth}
use Rattle.expand_laws.proofs.Always.{Always, AllAlways, RowWithin, more, row_more, no_more_parts, another, node_of, refused, all_ops, formed, weigh, parts_each, all_each, all_found, through, mapped, found_weight}
use Rattle.expand_laws.proofs.Blocks.{body_within, lambda_within}
use Rattle.expand_laws.proofs.Lets.{ValuesWithin, bindings_listed, value_weight, values_weight, listed_weight, value_worth, bindings_worth, let_ends, let_form, iterate_ends}
use Rattle.expand_laws.proofs.Below.{Below, AllItems, AllSmall, small_always, smalls_always, items_always, binding_small, bindings_small}

worth_self : (e : Datum) → worth e ≤ 16 + worth e
worth_self e = omega arith

pub let_row_ends : (right : Value → Type 0) (n : ℕ) (s : Span) (ds : List Datum) → Below right n → AllItems right ds → total ds ≤ n → RowWithin right (2 + worths ds) (let_row s ds)
let_row_ends right n s [] below h l = refused (omega arith)
let_row_ends right n s (d ∷ bs) below h l =
    let k : size d ≤ n = omega (arith, l) in
    let j : total bs ≤ n = omega (arith, l) in
    row_more right (2 + worth d + worths bs) (2 + worths (d ∷ bs)) (let_row s (d ∷ bs))
    (let_ends right (worth d) s d bs (bindings_small right n d below h.0 k) (bindings_worth worth worth_self d) (items_always right n bs below h.1 j)) (omega arith)

pair_self : (e : Datum) → 16 + worth e ≤ 16 + worth e
pair_self e = omega arith

pub iterate_row_ends : {right : Value → Type 0} → HasMadeValues right → (n : ℕ) (s : Span) (ds : List Datum) → Below right n → AllItems right ds → total ds ≤ n
    → RowWithin right (6 + worths ds) (iterate_row s ds)
iterate_row_ends m n s [] below h l = refused (omega arith)
iterate_row_ends m n s (f ∷ []) below h l = refused (omega arith)
iterate_row_ends {right} m n s (f ∷ d ∷ bs) below h l =
    let k : size d ≤ n = omega (arith, l) in
    let j : total bs ≤ n = omega (arith, l) in
    row_more right (6 + worth d + worths bs) (6 + worths (f ∷ d ∷ bs)) (iterate_row s (f ∷ d ∷ bs))
    (iterate_ends m (worth d) s f d bs (bindings_small right n d below h.1.0 k) (bindings_worth (λ e. 16 + worth e) pair_self d) (items_always right n bs below h.1.1 j))
    (omega arith)

-- ---- LET*

smalls_pure : (right : Value → Type 0) (n : ℕ) (ds : List Datum) → AllSmall right n ds → AllByRecursion (IsPure right) ds
smalls_pure right n ds h = all_each (IsSmall right n) (IsPure right) (λ d k. k.is_pure) ds h

worth_alone : (e : Datum) → worth e ≤ 0 + worth e
worth_alone e = omega arith

let_star_step_ends : {right : Value → Type 0} → HasMadeValues right → (n : ℕ) (s : Span) (bs xs : List Datum) → Below right n → AllItems right bs → AllSmall right n xs
    → 5 + total xs + total bs ≤ n → RowWithin right (177 + worths xs + worths bs) (let_star_step s bs xs)
let_star_step_ends {right} m n s bs [] below hb h l =
    let j : total bs ≤ n = omega (arith, l) in more (177 + worths [] + worths bs) (body_within right s bs (items_always right n bs below hb j)) (omega arith)
let_star_step_ends {right} m n s bs (x ∷ others) below hb h l =
    let rest = listed s (word_ s (codes "let*") ∷ listed s others ∷ bs) in
    let a = size_listed s others in
    let b = size_listed s bs in
    let smaller : size rest < n = omega (arith, l, a, b) in
    let inner = pure_item right (listed s others) (listed_pure m s others (smalls_pure right n others h.1)) in
    let c = worth_listed s others in
    let d = worth_listed s bs in
    let e = value_worth worth 0 worth_alone x in
    more (177 + worths (x ∷ others) + worths bs)
    (let_form right worth (value_weight worth x + 0) (least rest) s (listed s (x ∷ [])) rest (pure_ops right x h.0.is_pure, tt)
    (bindings_listed right worth s (x ∷ []) (binding_small right n x below h.0, tt)) (listed_weight worth s (x ∷ [])) (below rest smaller (tt, (inner, listed_tail m s bs hb))))
    (omega (arith, c, d, e))

pub let_star_row_ends : {right : Value → Type 0} → HasMadeValues right → (n : ℕ) (s : Span) (ds : List Datum) → Below right n → AllItems right ds → 3 + total ds ≤ n
    → RowWithin right (112 + worths ds) (let_star_row s ds)
let_star_row_ends m n s [] below h l = refused (omega arith)
let_star_row_ends m n s (d ∷ []) below h l = refused (omega arith)
let_star_row_ends {right} m n s (d ∷ b ∷ bs) below h l = formed right (112 + worths (d ∷ b ∷ bs)) s (let_star_step s (b ∷ bs)) (items_of d) (omega arith) step
  where
    step : (xs : List Datum) → items_of d ≡ Some xs → RowWithin right (112 + worths (d ∷ b ∷ bs)) (let_star_step s (b ∷ bs) xs)
    step xs e =
        let k : size d ≤ n = omega (arith, l) in
        let z = items_size d xs e in
        let j : 5 + total xs + total (b ∷ bs) ≤ n = omega (arith, l, z) in
        let w = items_worth d xs e in
        row_more right (177 + worths xs + worths (b ∷ bs)) (112 + worths (d ∷ b ∷ bs)) (let_star_step s (b ∷ bs) xs)
        (let_star_step_ends m n s (b ∷ bs) xs below h.1 (item_small right n d xs h.0 k e) j) (omega (arith, w))

-- ---- LABELS

-- the table ends on the value, which is worth so much at most
record ValueFits (right : Value → Type 0) (k : ℕ) (x : Binding) : Type 0 where
  value : Always right x.value
  few : worth x.value ≤ k

procedure_small : (right : Value → Type 0) (n : ℕ) (s : Span) (bs fs : List Datum) (x : Binding) → Below right n → AllSmall right n bs → AllSmall right n fs
    → procedure_item s bs fs ≡ Some x → ValueFits right (144 + worths fs + worths bs) x
procedure_small right n s bs [] x below hb h e = cc
procedure_small right n s bs (f ∷ xs) x below hb h e =
    let m = mapped (binding (lambda_form s (listed s xs) bs)) (binder_of f) x e in
    let a = worth_listed s xs in
    let b = worth_listed s bs in
    let c = pure_worth right f h.0.is_pure in
    let value = lambda_within right s (listed s xs) bs (all_ops right s xs (smalls_always right n xs below h.1)) (smalls_always right n bs below hb) in
    let made : ValueFits right (144 + worths (f ∷ xs) + worths bs) (binding (lambda_form s (listed s xs) bs) m.got) =
    record { value = more (worth (lambda_form s (listed s xs) bs)) value (omega (arith, b)); few = omega (arith, a, b, c) } in
    subst (ValueFits right (144 + worths (f ∷ xs) + worths bs)) m.gives made

lambda_if : (right : Value → Type 0) (k : ℕ) (b : Bool) (f d : Datum) (x : Binding) → Always right d → worth d ≤ k
    → (if b then option_map (binding d) (binder_of f) else None) ≡ Some x → ValueFits right k x
lambda_if right k true f d x h l e =
    let m = mapped (binding d) (binder_of f) x e in
    let made : ValueFits right k (binding d m.got) = record { value = h; few = l } in
    subst (ValueFits right k) m.gives made
lambda_if right k false f d x h l e = cc

lambda_small : (right : Value → Type 0) (n : ℕ) (f : Datum) (ds : List Datum) (x : Binding) → Below right n → AllSmall right n ds → lambda_item f ds ≡ Some x
    → ValueFits right (64 + worths (f ∷ ds)) x
lambda_small right n f [] x below h e = cc
lambda_small right n f (atom t a ∷ []) x below h e = cc
lambda_small right n f (atom t a ∷ d ∷ ds) x below h e = cc
lambda_small right n f (cons t head tail ∷ []) x below h e =
    lambda_if right (64 + worths (f ∷ cons t head tail ∷ [])) (is_lambda_word head) f (cons t head tail) x (small_always right n (cons t head tail) below h.0) (omega arith) e
lambda_small right n f (cons t head tail ∷ d ∷ ds) x below h e = cc

labels_small : (right : Value → Type 0) (n : ℕ) (s : Span) (ds : List Datum) (x : Binding) → Below right n → AllSmall right n ds → labels_item s ds ≡ Some x
    → ValueFits right (64 + worths ds) x
labels_small right n s [] x below h e = cc
labels_small right n s (atom t a ∷ bs) x below h e = lambda_small right n (atom t a) bs x below h.1 e
labels_small right n s (cons t head tail ∷ bs) x below h e =
    let g = through (procedure_item s bs) (items_of (cons t head tail)) x e in
    let w = items_worth (cons t head tail) g.got g.is in
    let k = procedure_small right n s bs g.got x below h.1 (small_items right n (cons t head tail) g.got h.0 g.is) g.gives in
    let few = k.few in
    record { value = k.value; few = omega (arith, w, few) }

labels_node_ends : (right : Value → Type 0) (s : Span) (bs : List Datum) (xs : List Binding) → AllAlways right bs → ValuesWithin right worth xs
    → RowWithin right (2 + values_weight worth xs + worths bs) (labels_node s bs xs)
labels_node_ends right s bs [] hb h = more (2 + 0 + worths bs) (body_within right s bs hb) (omega arith)
labels_node_ends right s bs (x ∷ xs) hb h =
    node_of tt
    (parts_each right (λ (y : Binding). inside (names (binders (x ∷ xs))) y.value) (λ y. worth y.value) (x ∷ xs) (1 + worths bs + 0)
    (inside (names (binders (x ∷ xs))) (body s bs) ∷ []) h (another (body_within right s bs hb) no_more_parts))
    (omega arith)

pub weigh_worths : (ds : List Datum) → weigh (λ d. 16 + worth d) ds ≡ worths ds
weigh_worths [] = omega arith
weigh_worths (d ∷ ds) = let e = weigh_worths ds in omega (arith, e)

pub labels_row_ends : (right : Value → Type 0) (n : ℕ) (s : Span) (ds : List Datum) → Below right n → AllItems right ds → total ds ≤ n → RowWithin right (2 + worths ds) (labels_row s ds)
labels_row_ends right n s [] below h l = refused (omega arith)
labels_row_ends right n s (d ∷ []) below h l = refused (omega arith)
labels_row_ends right n s (d ∷ b ∷ bs) below h l = formed right (2 + worths (d ∷ b ∷ bs)) s (labels_node s (b ∷ bs)) (labels_items s d) (omega arith) found
  where
    fits : (i : Datum) → IsSmall right n i → (y : Binding) → option_and_then (labels_item s) (items_of i) ≡ Some y → ValueFits right (16 + worth i) y
    fits i k y e =
        let g = through (labels_item s) (items_of i) y e in
        let w = items_worth i g.got g.is in
        let v = labels_small right n s g.got y below (small_items right n i g.got k g.is) g.gives in
        let few = v.few in
        record { value = v.value; few = omega (arith, w, few) }

    found : (xs : List Binding) → labels_items s d ≡ Some xs → RowWithin right (2 + worths (d ∷ b ∷ bs)) (labels_node s (b ∷ bs) xs)
    found xs e =
        let k : size d ≤ n = omega (arith, l) in
        let j : total (b ∷ bs) ≤ n = omega (arith, l) in
        let g = through (λ ds. all_of (map (λ i. option_and_then (labels_item s) (items_of i)) ds)) (items_of d) xs e in
        let small = item_small right n d g.got h.0 k g.is in
        let values =
        all_found (IsSmall right n) (λ x. Always right x.value) (λ i. option_and_then (labels_item s) (items_of i)) (λ i q y f. let v = fits i q y f in v.value) g.got xs small g.gives in
        let weight =
        found_weight (IsSmall right n) (λ i. 16 + worth i) (λ x. worth x.value) (λ i. option_and_then (labels_item s) (items_of i)) (λ i q y f. let v = fits i q y f in v.few) g.got xs small g.gives in
        let a = items_worth d g.got g.is in
        let c = weigh_worths g.got in
        row_more right (2 + values_weight worth xs + worths (b ∷ bs)) (2 + worths (d ∷ b ∷ bs)) (labels_node s (b ∷ bs) xs)
        (labels_node_ends right s (b ∷ bs) xs (items_always right n (b ∷ bs) below h.1 j) values) (omega (arith, weight, a, c))
