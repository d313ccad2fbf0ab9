-- DO keeps to the bytes of its form, or stands for an ITERATE that is refused: only where what it should bind is no name does it put a
-- datum into two places.
use Rattle.std.proofs.Common.{◌≡◌, ◌⊎◌, inl, inr, ℕ, ◌+◌, ◌≤◌, List, [], ◌∷◌, ◌++◌, map, Option, Some, None, refl, sym, ap, subst, ◌∙◌, arith}
use Rattle.std.specs.Prelude.{codes}
use Rattle.std.specs.Option.{option_map, option_and_then}
use Rattle.t_base.specs.declared.basics.Span.{Span}
use Rattle.t_forms.specs.declared.arena.New.TheVariants as new
use Rattle.t_forms.specs.Data.{Datum, items_of, listed, a_variable, Binder, binder, binder_of, all_of, made}
use Rattle.t_forms.specs.Names.{Scope}
use Rattle.t_rows.specs.Rows.{Row, stands_for, node, no_row, word_, Binding, binding_of, bindings_of, Step, step_of_items, steps_of, result_of, do_form, do_step, do_row, if_formed, iterate_node, row}
use Rattle.expand_laws.proofs.Always.{weigh, all_any, through, found_weight}
use Rattle.expand_laws.proofs.Sizes.{items_listed}
use Rattle.kept_strings.proofs.Bytes.{bytes, all_bytes, bytes_listed, bytes_append, items_bytes, binder_bytes}
use Rattle.kept_strings.proofs.RowBytes.{shape_bytes, parts_bytes, RowKeeps}

-- the form has no row, whatever the names around it mean
pub record IsRefused (e : Datum) : Type 0 where
  pub at : Span
  pub row_is : (scope : Scope) → row scope e ≡ no_row at

-- a node keeps to so many bytes, and a form too, if it isn't refused
abbrev pub Kept : ℕ → Row → Type 0
Kept n (stands_for e) = (bytes e ≤ n) ⊎ IsRefused e
Kept n (node shape refusals parts) = shape_bytes shape + parts_bytes parts ≤ n

pub keeps_kept : (n : ℕ) (r : Row) → RowKeeps n r → Kept n r
keeps_kept n (stands_for e) h = inl h
keeps_kept n (node shape refusals parts) h = h

pub kept_more : (n m : ℕ) (r : Row) → n ≤ m → Kept n r → Kept m r
kept_more n m (stands_for e) l (inl h) = inl (omega (arith, l, h))
kept_more n m (stands_for e) l (inr h) = inr h
kept_more n m (node shape refusals parts) l h = omega (arith, l, h)

kept_formed : {A : Type 0} (n : ℕ) (s : Span) (f : A → Row) (o : Option A) → ((x : A) → o ≡ Some x → Kept n (f x)) → Kept n (if_formed s f o)
kept_formed n s f None h = omega arith
kept_formed n s f (Some x) h = h x refl

-- ---- steps

abbrev pair : Span → Step → Datum
pair s x = listed s (x.name ∷ x.first ∷ [])

abbrev step_bytes : Step → ℕ
step_bytes x = bytes x.first + bytes x.next

step_fits : (ds : List Datum) (x : Step) → step_of_items ds ≡ Some x → step_bytes x ≤ all_bytes ds
step_fits [] x e = cc
step_fits (y ∷ []) x e = cc
step_fits (y ∷ a ∷ []) x e =
    let same : record { name = y; first = a; next = y } ≡ x = cc in
    subst (λ (z : Step). step_bytes z ≤ all_bytes (y ∷ a ∷ [])) same (omega arith)
step_fits (y ∷ a ∷ b ∷ []) x e =
    let same : record { name = y; first = a; next = b } ≡ x = cc in
    subst (λ (z : Step). step_bytes z ≤ all_bytes (y ∷ a ∷ b ∷ [])) same (omega arith)
step_fits (y ∷ a ∷ b ∷ c ∷ ds) x e = cc

step_item_fits : (i : Datum) (x : Step) → option_and_then step_of_items (items_of i) ≡ Some x → step_bytes x ≤ bytes i
step_item_fits i x e =
    let g = through step_of_items (items_of i) x e in
    let w = items_bytes i g.got g.is in
    let l = step_fits g.got x g.gives in
    omega (arith, w, l)

steps_fit : (d : Datum) (xs : List Step) → steps_of d ≡ Some xs → weigh step_bytes xs ≤ bytes d
steps_fit d xs e =
    let g = through (λ ds. all_of (map (λ i. option_and_then step_of_items (items_of i)) ds)) (items_of d) xs e in
    let w = items_bytes d g.got g.is in
    let l =
    found_weight (λ i. Unit {0}) bytes step_bytes (λ i. option_and_then step_of_items (items_of i)) (λ i q y k. step_item_fits i y k) g.got xs (all_any g.got) g.gives in
    omega (arith, w, l)

-- ---- names

abbrev names_bytes : List Step → ℕ
names_bytes xs = weigh (λ (x : Step). bytes x.name) xs

-- where each is bound, each is a name
names_none : (s : Span) (xs : List Step) (ys : List Binding) → all_of (map binding_of (map (pair s) xs)) ≡ Some ys → names_bytes xs ≡ 0
names_none s [] ys e = refl
names_none s (x ∷ xs) ys e = by (binder_of x.name) refl e (λ zs f. names_none s xs zs f)
  where
    rest : (b : Binding) (o : Option (List Binding)) → option_map (λ zs. b ∷ zs) o ≡ Some ys → ((zs : List Binding) → o ≡ Some zs → names_bytes xs ≡ 0)
        → names_bytes xs ≡ 0
    rest b None g others = absurd (let z : ⊥ = cc in z)
    rest b (Some zs) g others = others zs refl

    by : (o : Option Binder) → binder_of x.name ≡ o
        → all_of (option_map (λ (b : Binder). record { binds = b; value = x.first }) o ∷ map binding_of (map (pair s) xs)) ≡ Some ys
        → ((zs : List Binding) → all_of (map binding_of (map (pair s) xs)) ≡ Some zs → names_bytes xs ≡ 0) → names_bytes (x ∷ xs) ≡ 0
    by None f g others = absurd (let z : ⊥ = cc in z)
    by (Some b) f g others =
        let here = binder_bytes x.name b f in
        let behind = rest (record { binds = b; value = x.first }) (all_of (map binding_of (map (pair s) xs))) g others in
        omega (arith, here, behind)

-- ---- the form

pairs_bytes : (s : Span) (xs : List Step) → all_bytes (map (pair s) xs) ≡ names_bytes xs + weigh (λ (x : Step). bytes x.first) xs
pairs_bytes s [] = refl
pairs_bytes s (x ∷ xs) = let e = pairs_bytes s xs in omega (arith, e)

nexts_bytes : (xs : List Step) → all_bytes (map (λ x. x.next) xs) + weigh (λ (x : Step). bytes x.first) xs ≡ weigh step_bytes xs
nexts_bytes [] = refl
nexts_bytes (x ∷ xs) = let e = nexts_bytes xs in omega (arith, e)

result_bytes : (s : Span) (rs : List Datum) → bytes (result_of s rs) ≡ all_bytes rs
result_bytes s [] = refl
result_bytes s (r ∷ rs) = let e = bytes_listed s (r ∷ rs) in omega (arith, e)

do_form_bytes : (s : Span) (bs : List Datum) (xs : List Step) (t : Datum) (rs : List Datum)
    → bytes (do_form s bs xs t rs) ≡ names_bytes xs + weigh step_bytes xs + all_bytes (t ∷ rs) + all_bytes bs
do_form_bytes s bs xs t rs =
    let again = listed s (a_variable s new.Turn ∷ map (λ (x : Step). x.next) xs) in
    let a = bytes_listed s (map (pair s) xs) in
    let b = pairs_bytes s xs in
    let c = nexts_bytes xs in
    let d = result_bytes s rs in
    let e = bytes_listed s (bs ++ again ∷ []) in
    let f = bytes_append bs (again ∷ []) in
    let g = bytes_listed s (map (λ (x : Step). x.next) xs) in
    omega (arith, a, b, c, d, e, f, g)

-- ---- the row

do_kept : (n : ℕ) (s : Span) (bs : List Datum) (xs : List Step) (t : Datum) (rs : List Datum) → weigh step_bytes xs + all_bytes (t ∷ rs) + all_bytes bs ≤ n
    → (o : Option (List Binding)) → bindings_of (listed s (map (pair s) xs)) ≡ o → (bytes (do_form s bs xs t rs) ≤ n) ⊎ IsRefused (do_form s bs xs t rs)
do_kept n s bs xs t rs l None e =
    let test = listed s (word_ s (codes "if") ∷ t ∷ result_of s rs ∷ listed s (word_ s (codes "block") ∷ bs ++ listed s (a_variable s new.Turn ∷ map (λ (x : Step). x.next) xs) ∷ []) ∷ []) in
    inr (record { at = s; row_is = λ scope. ap (λ (o : Option (List Binding)). if_formed s (iterate_node s (test ∷ []) (binder s (made new.Turn))) o) e })
do_kept n s bs xs t rs l (Some ys) e =
    let found : all_of (map binding_of (map (pair s) xs)) ≡ Some ys =
    sym (ap (λ (o : Option (List Datum)). option_and_then (λ ds. all_of (map binding_of ds)) o) (items_listed s (map (pair s) xs))) ∙ e in
    let none = names_none s xs ys found in
    let w = do_form_bytes s bs xs t rs in
    inl (omega (arith, none, w, l))

do_step_kept : (n : ℕ) (s : Span) (bs : List Datum) (xs : List Step) (es : List Datum) → weigh step_bytes xs + all_bytes es + all_bytes bs ≤ n → Kept n (do_step s bs xs es)
do_step_kept n s bs xs [] l = omega arith
do_step_kept n s bs xs (t ∷ rs) l = do_kept n s bs xs t rs l (bindings_of (listed s (map (pair s) xs))) refl

pub do_keeps : (s : Span) (ds : List Datum) → Kept (all_bytes ds) (do_row s ds)
do_keeps s [] = omega arith
do_keeps s (d ∷ []) = omega arith
do_keeps s (d ∷ e ∷ bs) =
    kept_formed (all_bytes (d ∷ e ∷ bs)) s (λ steps. if_formed s (do_step s bs steps) (items_of e)) (steps_of d)
    (λ xs f. kept_formed (all_bytes (d ∷ e ∷ bs)) s (do_step s bs xs) (items_of e)
    (λ es g. do_step_kept (all_bytes (d ∷ e ∷ bs)) s bs xs es (let a = steps_fit d xs f in let b = items_bytes e es g in omega (arith, a, b))))
