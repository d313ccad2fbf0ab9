-- The table ends on LET, OR and ITERATE, where it ends on their parts.
use Rattle.std.proofs.Common.{◌≡◌, ℕ, ◌+◌, ◌≤◌, List, [], ◌∷◌, map, Option, Some, None, refl, sym, subst, ◌∙◌, arith}
use Rattle.std.specs.Prelude.{codes}
use Rattle.std.specs.List.{AllByRecursion}
use Rattle.std.proofs.lemmas.Option.{same_Some}
use Rattle.t_base.specs.declared.basics.Span.{Span}
use Rattle.t_objects.specs.declared.words.Word.TheVariants as word
use Rattle.t_reader.specs.Grammar.{Value}
use Rattle.t_forms.specs.declared.arena.New.{New}
use Rattle.t_forms.specs.declared.arena.New.TheVariants as new
use Rattle.t_forms.specs.Data.{Datum, atom, items_of, listed, a_variable, all_of, Binder, binder_of, Name, written, made, names}
use Rattle.t_rows.specs.Rows.{plain, inside, body, word_, if_formed, Binding, binding_of_items, binding_of, bindings_of, binders, let_node, let_row, name_atom, name_datum, iterate_node, iterate_row, test_answer, or_row}
use Rattle.expand_laws.proofs.Reached.{HasBuiltinOps, HasMadeValues}
use Rattle.expand_laws.proofs.Sizes.{items_listed}
use Rattle.expand_laws.proofs.Worths.{worth, worths, items_worth}
use Rattle.expand_laws.proofs.Always.{Within, Always, AllAlways, RowWithin, more, row_more, no_more_parts, another, node_of, refused, all_ops, word_form, formed, weigh, all_mapped, all_any, parts_each, all_found, through, mapped, found_weight}
use Rattle.expand_laws.proofs.Atoms.{nil_within, variable_always}
use Rattle.expand_laws.proofs.Calls.{call_form}
use Rattle.expand_laws.proofs.Blocks.{if_form, body_within, lambda_form_with}

-- the table ends on the value of the binding, if it is one, and makes no more of it than the measure says
abbrev pub BindingWithin : (Value → Type 0) → (Datum → ℕ) → Datum → Type 0
BindingWithin right g i = (x : Binding) → binding_of i ≡ Some x → Within right (g x.value) x.value

abbrev pub ValuesWithin : (Value → Type 0) → (Datum → ℕ) → List Binding → Type 0
ValuesWithin right g xs = AllByRecursion (λ x. Within right (g x.value) x.value) xs

abbrev pub BindingsWithin : (Value → Type 0) → (Datum → ℕ) → Datum → Type 0
BindingsWithin right g d = (xs : List Binding) → bindings_of d ≡ Some xs → ValuesWithin right g xs

pub pair_binding : (right : Value → Type 0) (g : Datum → ℕ) (s : Span) (y e : Datum) → Within right (g e) e → BindingWithin right g (listed s (y ∷ e ∷ []))
pair_binding right g s y e h x f =
    let m = mapped (λ (b : Binder). record { binds = b; value = e }) (binder_of y) x f in subst (λ (z : Binding). Within right (g z.value) z.value) m.gives h

pub bindings_by : (right : Value → Type 0) (g : Datum → ℕ) (d : Datum) → ((ds : List Datum) → items_of d ≡ Some ds → AllByRecursion (BindingWithin right g) ds)
    → BindingsWithin right g d
bindings_by right g d h xs e =
    let t = through (λ ds. all_of (map binding_of ds)) (items_of d) xs e in
    all_found (BindingWithin right g) (λ x. Within right (g x.value) x.value) binding_of (λ i q y k. q y k) t.got xs (h t.got t.is) t.gives

pub bindings_listed : (right : Value → Type 0) (g : Datum → ℕ) (s : Span) (ds : List Datum) → AllByRecursion (BindingWithin right g) ds → BindingsWithin right g (listed s ds)
bindings_listed right g s ds h =
    bindings_by right g (listed s ds) (λ es e. subst (AllByRecursion (BindingWithin right g)) (same_Some ds es (sym (items_listed s ds) ∙ e)) h)

-- ---- how much the values are together

-- the value of the items of a binding
abbrev pub value_of : (Datum → ℕ) → Option (List Datum) → ℕ
value_of g None = 0
value_of g (Some []) = 0
value_of g (Some (y ∷ [])) = 0
value_of g (Some (y ∷ e ∷ ds)) = g e

abbrev pub value_weight : (Datum → ℕ) → Datum → ℕ
value_weight g i = value_of g (items_of i)

abbrev pub values_weight : (Datum → ℕ) → List Binding → ℕ
values_weight g xs = weigh (λ x. g x.value) xs

abbrev pub BindingsWeigh : (Datum → ℕ) → ℕ → Datum → Type 0
BindingsWeigh g k d = (xs : List Binding) → bindings_of d ≡ Some xs → values_weight g xs ≤ k

items_weight : (g : Datum → ℕ) (ds : List Datum) (x : Binding) → binding_of_items ds ≡ Some x → g x.value ≤ value_of g (Some ds)
items_weight g [] x f = cc
items_weight g (y ∷ []) x f = cc
items_weight g (y ∷ e ∷ []) x f =
    let m = mapped (λ (b : Binder). record { binds = b; value = e }) (binder_of y) x f in subst (λ (z : Binding). g z.value ≤ g e) m.gives (omega arith)
items_weight g (y ∷ e ∷ z ∷ ds) x f = cc

binding_weight : (g : Datum → ℕ) (i : Datum) (x : Binding) → binding_of i ≡ Some x → g x.value ≤ value_weight g i
binding_weight g i x e =
    let t = through binding_of_items (items_of i) x e in subst (λ o. g x.value ≤ value_of g o) (sym t.is) (items_weight g t.got x t.gives)

found_values : (g : Datum → ℕ) (ds : List Datum) (xs : List Binding) → all_of (map binding_of ds) ≡ Some xs → values_weight g xs ≤ weigh (value_weight g) ds
found_values g ds xs e = found_weight (λ i. Unit {0}) (value_weight g) (λ x. g x.value) binding_of (λ i q y k. binding_weight g i y k) ds xs (all_any ds) e

pub listed_weight : (g : Datum → ℕ) (s : Span) (ds : List Datum) → BindingsWeigh g (weigh (value_weight g) ds) (listed s ds)
listed_weight g s ds xs e =
    let t = through (λ es. all_of (map binding_of es)) (items_of (listed s ds)) xs e in
    subst (λ es. values_weight g xs ≤ weigh (value_weight g) es) (same_Some t.got ds (sym t.is ∙ items_listed s ds)) (found_values g t.got xs t.gives)

value_worth_of : (g : Datum → ℕ) (k : ℕ) → ((e : Datum) → g e ≤ k + worth e) → (i : Datum) (o : Option (List Datum)) → items_of i ≡ o → value_of g o ≤ k + worth i
value_worth_of g k h i None e = omega arith
value_worth_of g k h i (Some []) e = omega arith
value_worth_of g k h i (Some (y ∷ [])) e = omega arith
value_worth_of g k h i (Some (y ∷ v ∷ ds)) e =
    let a = items_worth i (y ∷ v ∷ ds) e in
    let b = h v in
    omega (arith, a, b)

pub value_worth : (g : Datum → ℕ) (k : ℕ) → ((e : Datum) → g e ≤ k + worth e) → (i : Datum) → value_weight g i ≤ k + worth i
value_worth g k h i = value_worth_of g k h i (items_of i) refl

values_worth : (g : Datum → ℕ) → ((e : Datum) → g e ≤ 16 + worth e) → (ds : List Datum) → weigh (value_weight g) ds ≤ worths ds
values_worth g h [] = omega arith
values_worth g h (d ∷ ds) =
    let a = value_worth g 16 h d in
    let b = values_worth g h ds in
    omega (arith, a, b)

pub bindings_worth : (g : Datum → ℕ) → ((e : Datum) → g e ≤ 16 + worth e) → (d : Datum) → BindingsWeigh g (worth d) d
bindings_worth g h d xs e =
    let t = through (λ ds. all_of (map binding_of ds)) (items_of d) xs e in
    let a = found_values g t.got xs t.gives in
    let b = values_worth g h t.got in
    let c = items_worth d t.got t.is in
    omega (arith, a, b, c)

-- ---- LET

let_node_ends : (right : Value → Type 0) (g : Datum → ℕ) (k : ℕ) (s : Span) (bs : List Datum) (xs : List Binding) → Within right k (body s bs) → ValuesWithin right g xs
    → RowWithin right (1 + values_weight g xs + k) (let_node s bs xs)
let_node_ends right g k s bs [] hb h = more (1 + 0 + k) hb (omega arith)
let_node_ends right g k s bs (x ∷ xs) hb h =
    node_of tt
    (parts_each right (λ (y : Binding). plain y.value) (λ y. g y.value) (x ∷ xs) (k + 0) (inside (names (binders (x ∷ xs))) (body s bs) ∷ []) h (another hb no_more_parts))
    (omega arith)

-- with a body that makes so much
let_with : (right : Value → Type 0) (g : Datum → ℕ) (j k : ℕ) (s : Span) (d b : Datum) (bs : List Datum) → BindingsWithin right g d → BindingsWeigh g j d
    → Within right k (body s (b ∷ bs)) → RowWithin right (1 + j + k) (let_row s (d ∷ b ∷ bs))
let_with right g j k s d b bs h w hb = formed right (1 + j + k) s (let_node s (b ∷ bs)) (bindings_of d) (omega arith) found
  where
    found : (xs : List Binding) → bindings_of d ≡ Some xs → RowWithin right (1 + j + k) (let_node s (b ∷ bs) xs)
    found xs e =
        let l = w xs e in
        row_more right (1 + values_weight g xs + k) (1 + j + k) (let_node s (b ∷ bs) xs) (let_node_ends right g k s (b ∷ bs) xs hb (h xs e)) (omega (arith, l))

pub let_ends : (right : Value → Type 0) (j : ℕ) (s : Span) (d : Datum) (bs : List Datum) → BindingsWithin right worth d → BindingsWeigh worth j d → AllAlways right bs
    → RowWithin right (2 + j + worths bs) (let_row s (d ∷ bs))
let_ends right j s d [] h w hb = refused (omega arith)
let_ends right j s d (b ∷ bs) h w hb =
    row_more right (1 + j + (1 + worths (b ∷ bs))) (2 + j + worths (b ∷ bs)) (let_row s (d ∷ b ∷ bs))
    (let_with right worth j (1 + worths (b ∷ bs)) s d b bs h w (body_within right s (b ∷ bs) hb)) (omega arith)

pub let_form : (right : Value → Type 0) (g : Datum → ℕ) (j k : ℕ) (s : Span) (d e : Datum) → HasBuiltinOps d → BindingsWithin right g d → BindingsWeigh g j d
    → Within right k e → Within right (1 + j + k) (listed s (word_ s (codes "let") ∷ d ∷ e ∷ []))
let_form right g j k s d e ops h w he =
    word_form right (1 + j + k) s (codes "let") word.Let (d ∷ e ∷ []) refl (ops, (he.ops, tt)) (λ scope. let_with right g j k s d e [] h w he)

-- one new variable
pub let_one : (right : Value → Type 0) (k : ℕ) (s : Span) (v : New) (a e : Datum) → Always right a → Within right k e
    → Within right (1 + worth a + k) (listed s (word_ s (codes "let") ∷ listed s (listed s (a_variable s v ∷ a ∷ []) ∷ []) ∷ e ∷ []))
let_one right k s v a e ha he =
    let pair = listed s (a_variable s v ∷ a ∷ []) in
    let one : AllByRecursion (BindingWithin right worth) (pair ∷ []) = (pair_binding right worth s (a_variable s v) a ha, tt) in
    more (1 + worth a + k)
    (let_form right worth (worth a + 0) k s (listed s (pair ∷ [])) e ((tt, (ha.ops, tt)), tt) (bindings_listed right worth s (pair ∷ []) one)
    (listed_weight worth s (pair ∷ [])) he)
    (omega arith)

-- ---- OR

pub test_within : {right : Value → Type 0} → HasMadeValues right → (j k : ℕ) (s : Span) (a here there : Datum) → Always right a → Within right j here → Within right k there
    → Within right (3 + worth a + j + k) (test_answer s a here there)
test_within {right} m j k s a here there ha hh ht =
    more (3 + worth a + j + k)
    (let_one right (1 + 1 + j + k) s new.Answer a (listed s (word_ s (codes "if") ∷ a_variable s new.Answer ∷ here ∷ there ∷ [])) ha
    (if_form s (a_variable s new.Answer) here there (variable_always m s new.Answer) hh ht))
    (omega arith)

pub or_ends : {right : Value → Type 0} → HasMadeValues right → (s : Span) (ds : List Datum) → AllAlways right ds → RowWithin right (1 + worths ds) (or_row s ds)
or_ends m s [] h = more (1 + worths []) (nil_within m s) (omega arith)
or_ends m s (a ∷ []) h = more (1 + worths (a ∷ [])) h.0 (omega arith)
or_ends {right} m s (a ∷ b ∷ others) h =
    let rest : Within right (1 + worths (b ∷ others)) (listed s (word_ s (codes "or") ∷ b ∷ others)) =
    word_form right (1 + worths (b ∷ others)) s (codes "or") word.Or (b ∷ others) refl (all_ops right s (b ∷ others) h.1) (λ scope. or_ends m s (b ∷ others) h.1) in
    more (1 + worths (a ∷ b ∷ others))
    (test_within m 1 (1 + worths (b ∷ others)) s a (a_variable s new.Answer) (listed s (word_ s (codes "or") ∷ b ∷ others)) h.0 (variable_always m s new.Answer) rest)
    (omega arith)

-- of two, where the second one makes so much
pub or_two : {right : Value → Type 0} → HasMadeValues right → (k : ℕ) (s : Span) (a b : Datum) → Always right a → Within right k b
    → Within right (4 + worth a + k) (listed s (word_ s (codes "or") ∷ a ∷ b ∷ []))
or_two {right} m k s a b ha hb =
    let rest : Within right k (listed s (word_ s (codes "or") ∷ b ∷ [])) = word_form right k s (codes "or") word.Or (b ∷ []) refl (hb.ops, tt) (λ scope. hb) in
    word_form right (4 + worth a + k) s (codes "or") word.Or (a ∷ b ∷ []) refl (ha.ops, (hb.ops, tt))
    (λ scope. more (4 + worth a + k)
    (test_within m 1 k s a (a_variable s new.Answer) (listed s (word_ s (codes "or") ∷ b ∷ [])) ha (variable_always m s new.Answer) rest) (omega arith))

-- ---- ITERATE

name_ops : (s : Span) (n : Name) → HasBuiltinOps (atom s (name_atom n))
name_ops s (written text) = tt
name_ops s (made n) = tt

names_ops : (s : Span) (xs : List Binding) → HasBuiltinOps (listed s (map (λ x. name_datum x.binds) xs))
names_ops s [] = tt
names_ops s (x ∷ xs) = (name_ops x.binds.at x.binds.name, names_ops s xs)

values_worths : (xs : List Binding) → worths (map (λ x. x.value) xs) ≡ values_weight (λ e. 16 + worth e) xs
values_worths [] = refl
values_worths (x ∷ xs) = let e = values_worths xs in omega (arith, e)

iterate_node_ends : {right : Value → Type 0} → HasMadeValues right → (k : ℕ) (s : Span) (b : Datum) (bs : List Datum) (f : Binder) (xs : List Binding)
    → HasBuiltinOps (listed s (b ∷ bs)) → Within right k (body s (b ∷ bs)) → ValuesWithin right worth xs
    → RowWithin right (5 + k + worths (map (λ x. x.value) xs)) (iterate_node s (b ∷ bs) f xs)
iterate_node_ends {right} m k s b bs f xs ops hb h =
    let procedure = lambda_form_with right k s (listed s (map (λ x. name_datum x.binds) xs)) b bs (names_ops s xs) ops hb in
    let first = call_form m 1 s (a_variable f.at new.Start) (map (λ x. x.value) xs) refl (variable_always m f.at new.Start) (all_mapped (Always right) (λ (x : Binding). x.value) xs h) in
    node_of tt (another procedure (another first no_more_parts)) (omega arith)

-- with a body that makes so much
pub iterate_with : {right : Value → Type 0} → HasMadeValues right → (j k : ℕ) (s : Span) (f d b : Datum) (bs : List Datum) → BindingsWithin right worth d
    → BindingsWeigh (λ e. 16 + worth e) j d → HasBuiltinOps (listed s (b ∷ bs)) → Within right k (body s (b ∷ bs))
    → RowWithin right (5 + j + k) (iterate_row s (f ∷ d ∷ b ∷ bs))
iterate_with {right} m j k s f d b bs h w ops hb =
    formed right (5 + j + k) s (λ g. if_formed s (iterate_node s (b ∷ bs) g) (bindings_of d)) (binder_of f) (omega arith)
    (λ g e. formed right (5 + j + k) s (iterate_node s (b ∷ bs) g) (bindings_of d) (omega arith) (found g))
  where
    found : (g : Binder) (xs : List Binding) → bindings_of d ≡ Some xs → RowWithin right (5 + j + k) (iterate_node s (b ∷ bs) g xs)
    found g xs e =
        let l = w xs e in
        let v = values_worths xs in
        row_more right (5 + k + worths (map (λ x. x.value) xs)) (5 + j + k) (iterate_node s (b ∷ bs) g xs) (iterate_node_ends m k s b bs g xs ops hb (h xs e)) (omega (arith, l, v))

pub iterate_ends : {right : Value → Type 0} → HasMadeValues right → (j : ℕ) (s : Span) (f d : Datum) (bs : List Datum) → BindingsWithin right worth d
    → BindingsWeigh (λ e. 16 + worth e) j d → AllAlways right bs → RowWithin right (6 + j + worths bs) (iterate_row s (f ∷ d ∷ bs))
iterate_ends m j s f d [] h w hb = refused (omega arith)
iterate_ends {right} m j s f d (b ∷ bs) h w hb =
    row_more right (5 + j + (1 + worths (b ∷ bs))) (6 + j + worths (b ∷ bs)) (iterate_row s (f ∷ d ∷ b ∷ bs))
    (iterate_with m j (1 + worths (b ∷ bs)) s f d b bs h w (all_ops right s (b ∷ bs) hb) (body_within right s (b ∷ bs) hb)) (omega arith)
