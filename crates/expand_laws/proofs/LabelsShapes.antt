-- The shapes of LABELS and ITERATE, whose procedures are LAMBDAs.
use Rattle.std.proofs.Common.{◌≡◌, ◌++◌, Bool, true, false, List, [], ◌∷◌, map, length, Option, Some, None, if◌then◌else◌, codes, refl, sym, subst, ◌∙◌}
use Rattle.std.specs.List.{AllByRecursion}
use Rattle.std.specs.Option.{option_map, option_and_then}
use Rattle.std.proofs.lemmas.List.{length-map}
use Rattle.t_base.specs.declared.basics.Span.{Span}
use Rattle.t_objects.specs.declared.words.Word.{Word}
use Rattle.t_objects.specs.declared.words.Word.TheVariants as word
use Rattle.t_forms.specs.Data.{Datum, atom, cons, items_of, listed, word_of, binder_of, binders_of, Binder, names, made, a_variable, all_of}
use Rattle.t_forms.specs.declared.arena.New.TheVariants as new
use Rattle.t_forms.specs.Names.{Scope}
use Rattle.t_rows.specs.declared.refusal.Refusal.{Refusal}
use Rattle.t_rows.specs.Rows.{Row, if_formed, name_datum, Part, inside, stands_for, node, lambda, labels, body, twice, word_, Binding, binders, binding, bindings_of, lambda_form, lambda_row, is_lambda_word, lambda_item, procedure_item, labels_item, labels_items, labels_node, labels_row, iterate_node, iterate_row, operator_row, items_row, row}
use Rattle.expand_laws.proofs.Reached.{IsLambdaForm, IsProcedurePart}
use Rattle.expand_laws.proofs.RowShapes.{RowShaped, shaped_where_none, shaped_if_formed, all_each, each_map, each_true, mapped, chained}
use Rattle.expand_laws.proofs.NodeShapes.{as_many_names}

-- ---- forms that are LAMBDAs

-- the row is refused, or a LAMBDA
abbrev IsLambdaRow : Row → Type 0
IsLambdaRow (stands_for e) = ⊥
IsLambdaRow (node shape [] parts) = shape ≡ lambda
IsLambdaRow (node shape (r ∷ rs) parts) = Unit {0}

lambda_node : (rs : List Refusal) (parts : List Part) → IsLambdaRow (node lambda rs parts)
lambda_node [] parts = refl
lambda_node (r ∷ rs) parts = tt

lambda_params : (s : Span) (b : Datum) (bs : List Datum) (o : Option (List Binder))
    → IsLambdaRow (if_formed s (λ xs. node lambda (twice xs) (inside (names xs) (body s (b ∷ bs)) ∷ [])) o)
lambda_params s b bs None = tt
lambda_params s b bs (Some xs) = lambda_node (twice xs) (inside (names xs) (body s (b ∷ bs)) ∷ [])

of_lambda : (s : Span) (ds : List Datum) → IsLambdaRow (lambda_row s ds)
of_lambda s [] = tt
of_lambda s (params ∷ []) = tt
of_lambda s (params ∷ b ∷ bs) = lambda_params s b bs (option_and_then binders_of (items_of params))

lambda_only : (head : Datum) (w : Option Word) → word_of head ≡ w → is_lambda_word head ≡ true → w ≡ Some word.Lambda
lambda_only head (Some word.Lambda) e h = refl
lambda_only head _ e h = absurd (let x = rw e at h in let y : ⊥ = cc in y)

of_items : (scope : Scope) (s : Span) (head : Datum) (o : Option (List Datum)) → word_of head ≡ Some word.Lambda
    → IsLambdaRow (items_row scope s (option_map (λ items. head ∷ items) o))
of_items scope s head None e = tt
of_items scope s head (Some ds) e = subst (λ w. IsLambdaRow (operator_row scope s head ds w)) (sym e) (of_lambda s ds)

of_form : (scope : Scope) (s : Span) (head tail : Datum) → is_lambda_word head ≡ true → IsLambdaRow (row scope (cons s head tail))
of_form scope s head tail h = of_items scope s head (items_of tail) (lambda_only head (word_of head) refl h)

pub is_lambda_form : (s : Span) (head tail : Datum) → is_lambda_word head ≡ true → IsLambdaForm (cons s head tail)
is_lambda_form s head tail h = record {
  no_form = λ scope e at. subst IsLambdaRow at (of_form scope s head tail h);
  no_other = λ scope shape parts at. subst IsLambdaRow at (of_form scope s head tail h);
}

pub made_lambda_form : (s : Span) (params : Datum) (bs : List Datum) → IsLambdaForm (lambda_form s params bs)
made_lambda_form s params bs = is_lambda_form s (word_ s (codes "lambda")) (listed s (params ∷ bs)) refl

-- ---- the items of LABELS

abbrev HasLambda : Binding → Type 0
HasLambda x = IsLambdaForm x.value

bound_lambda : (d : Datum) (o : Option Binder) (x : Binding) → IsLambdaForm d → option_map (binding d) o ≡ Some x → HasLambda x
bound_lambda d o x h e = let m = mapped (binding d) o x e in subst HasLambda (sym m.2) h

of_procedure : (s : Span) (bs items : List Datum) (x : Binding) → procedure_item s bs items ≡ Some x → HasLambda x
of_procedure s bs [] x e = cc
of_procedure s bs (f ∷ xs) x e = bound_lambda (lambda_form s (listed s xs) bs) (binder_of f) x (made_lambda_form s (listed s xs) bs) e

of_lambda_pair : (f : Datum) (t : Span) (head tail : Datum) (x : Binding) (b : Bool) → is_lambda_word head ≡ b
    → (if b then option_map (binding (cons t head tail)) (binder_of f) else None) ≡ Some x → HasLambda x
of_lambda_pair f t head tail x true h e = bound_lambda (cons t head tail) (binder_of f) x (is_lambda_form t head tail h) e
of_lambda_pair f t head tail x false h e = cc

of_lambda_item : (f : Datum) (ds : List Datum) (x : Binding) → lambda_item f ds ≡ Some x → HasLambda x
of_lambda_item f [] x e = cc
of_lambda_item f (atom t a ∷ ds) x e = cc
of_lambda_item f (cons t head tail ∷ []) x e = of_lambda_pair f t head tail x (is_lambda_word head) refl e
of_lambda_item f (cons t head tail ∷ d ∷ ds) x e = cc

of_item : (s : Span) (items : List Datum) (x : Binding) → labels_item s items ≡ Some x → HasLambda x
of_item s [] x e = cc
of_item s (atom t a ∷ bs) x e = of_lambda_item (atom t a) bs x e
of_item s (cons t head tail ∷ bs) x e =
    let c = chained (procedure_item s bs) (items_of (cons t head tail)) x e in of_procedure s bs c.0 x c.2

each_item : (s : Span) (ds : List Datum) (xs : List Binding) → all_of (map (λ i. option_and_then (labels_item s) (items_of i)) ds) ≡ Some xs
    → AllByRecursion HasLambda xs
each_item s ds xs e =
    all_each (λ d. Unit {0}) HasLambda (λ i. option_and_then (labels_item s) (items_of i))
    (λ i x h p. let c = chained (labels_item s) (items_of i) x p in of_item s c.0 x c.2) ds xs (each_true ds) e

each_lambda : (s : Span) (d : Datum) (xs : List Binding) → labels_items s d ≡ Some xs → AllByRecursion HasLambda xs
each_lambda s d xs e =
    let c = chained (λ ds. all_of (map (λ i. option_and_then (labels_item s) (items_of i)) ds)) (items_of d) xs e in each_item s c.0 xs c.2

-- ---- the nodes

labels_node_shaped : (scope : Scope) (s : Span) (bs : List Datum) (xs : List Binding) → AllByRecursion HasLambda xs → RowShaped scope (labels_node s bs xs)
labels_node_shaped scope s bs [] h = tt
labels_node_shaped scope s bs (x ∷ xs) h =
    let around = names (binders (x ∷ xs)) in
    let ps = map (λ y. inside (names (binders (x ∷ xs))) y.value) (x ∷ xs) in
    let many : length (names (binders (x ∷ xs))) ≡ length ps
    = as_many_names (x ∷ xs) ∙ sym (length-map (x ∷ xs) (λ y. inside (names (binders (x ∷ xs))) y.value)) in
    shaped_where_none scope labels (twice (binders (x ∷ xs))) (ps ++ inside around (body s bs) ∷ [])
    (λ none. (
      ps,
      inside around (body s bs),
      refl,
      many,
      each_map HasLambda (IsProcedurePart (length ps)) (λ y. inside (names (binders (x ∷ xs))) y.value) (λ y i. (many, i)) (x ∷ xs) h,
    ))

pub labels_shaped : (scope : Scope) (s : Span) (ds : List Datum) → RowShaped scope (labels_row s ds)
labels_shaped scope s [] = tt
labels_shaped scope s (d ∷ []) = tt
labels_shaped scope s (d ∷ b ∷ bs) =
    shaped_if_formed scope s (labels_node s (b ∷ bs)) (labels_items s d) (λ xs e. labels_node_shaped scope s (b ∷ bs) xs (each_lambda s d xs e))

iterate_node_shaped : (scope : Scope) (s : Span) (bs : List Datum) (f : Binder) (xs : List Binding) → RowShaped scope (iterate_node s bs f xs)
iterate_node_shaped scope s bs f xs = (
  inside (f.name ∷ []) (lambda_form s (listed s (map (λ x. name_datum x.binds) xs)) bs) ∷ [],
  inside (made new.Start ∷ []) (listed s (a_variable f.at new.Start ∷ map (λ x. x.value) xs)),
  refl,
  refl,
  ((refl, made_lambda_form s (listed s (map (λ x. name_datum x.binds) xs)) bs), tt),
)

pub iterate_shaped : (scope : Scope) (s : Span) (ds : List Datum) → RowShaped scope (iterate_row s ds)
iterate_shaped scope s [] = tt
iterate_shaped scope s (f ∷ []) = tt
iterate_shaped scope s (f ∷ d ∷ []) = tt
iterate_shaped scope s (f ∷ d ∷ b ∷ bs) =
    shaped_if_formed scope s (λ g. if_formed s (iterate_node s (b ∷ bs) g) (bindings_of d)) (binder_of f)
    (λ g e. shaped_if_formed scope s (iterate_node s (b ∷ bs) g) (bindings_of d) (λ xs p. iterate_node_shaped scope s (b ∷ bs) g xs))
