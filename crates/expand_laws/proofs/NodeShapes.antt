-- The shapes of rows of reserved words.
use Rattle.std.proofs.Common.{◌≡◌, ◌++◌, List, [], ◌∷◌, map, length, Option, Some, None, codes, refl, sym, ap, ◌∙◌}
use Rattle.std.specs.Option.{option_and_then}
use Rattle.std.proofs.lemmas.List.{length-map}
use Rattle.t_base.specs.declared.basics.Span.{Span}
use Rattle.t_forms.specs.Data.{given, variable, listed, Datum, atom, cons, items_of, word_of, name_of, binders_of, names}
use Rattle.t_reader.specs.Grammar.{symbol}
use Rattle.t_forms.specs.Names.{Scope}
use Rattle.t_rows.specs.Rows.{word_, plain, inside, stands_for, node, lambda, let_, body, twice, Binding, binders, bindings_of, is_arrow, is_else, quote_row, lambda_row, if_row, block_row, catch_row, let_node, let_row, let_star_step, let_star_row, do_step, do_row, steps_of, and_row, or_row, cond_plain, cond_clause, cond_row, case_row, case_clauses, locative_call, locative_items, locative_of, locative_row, inner_definition, Definition, Step}
use Rattle.expand_laws.proofs.RowShapes.{RowShaped, shaped_where_none, shaped_if_formed, shaped_if}

pub quote_shaped : (scope : Scope) (s : Span) (ds : List Datum) → RowShaped scope (quote_row s ds)
quote_shaped scope s [] = tt
quote_shaped scope s (atom t (variable n) ∷ []) = tt
quote_shaped scope s (d ∷ []) = refl
quote_shaped scope s (atom t (variable n) ∷ e ∷ ds) = tt
quote_shaped scope s (d ∷ e ∷ ds) = tt

pub lambda_shaped : (scope : Scope) (s : Span) (ds : List Datum) → RowShaped scope (lambda_row s ds)
lambda_shaped scope s [] = tt
lambda_shaped scope s (params ∷ []) = tt
lambda_shaped scope s (params ∷ b ∷ bs) =
    shaped_if_formed scope s (λ xs. node lambda (twice xs) (inside (names xs) (body s (b ∷ bs)) ∷ [])) (option_and_then binders_of (items_of params))
    (λ xs e. shaped_where_none scope lambda (twice xs) _ (λ none. (names xs, body s (b ∷ bs), refl)))

pub if_shaped : (scope : Scope) (s : Span) (ds : List Datum) → RowShaped scope (if_row s ds)
if_shaped scope s [] = tt
if_shaped scope s (a ∷ []) = tt
if_shaped scope s (a ∷ b ∷ []) = tt
if_shaped scope s (a ∷ b ∷ c ∷ []) = (a, b, c, refl)
if_shaped scope s (a ∷ b ∷ c ∷ d ∷ ds) = tt

pub block_shaped : (scope : Scope) (s : Span) (ds : List Datum) → RowShaped scope (block_row s ds)
block_shaped scope s [] = tt
block_shaped scope s (a ∷ []) = tt
block_shaped scope s (a ∷ b ∷ ds) = (a, b ∷ ds, refl)

pub catch_shaped : (scope : Scope) (s : Span) (ds : List Datum) → RowShaped scope (catch_row s ds)
catch_shaped scope s [] = tt
catch_shaped scope s (j ∷ []) = tt
catch_shaped scope s (j ∷ b ∷ bs) = shaped_if_formed scope s _ (name_of j) (λ n e. (n, body s (b ∷ bs), refl))

-- ---- LET

pub as_many_names : (xs : List Binding) → length (names (binders xs)) ≡ length xs
as_many_names xs = length-map (binders xs) (λ b. b.name) ∙ length-map xs (λ x. x.binds)

abbrev values : List Binding → List Datum
values xs = map (λ x. x.value) xs

value_parts : (xs : List Binding) → map (λ x. plain x.value) xs ≡ map plain (values xs)
value_parts [] = refl
value_parts (x ∷ xs) = rw (value_parts xs) refl

let_node_shaped : (scope : Scope) (s : Span) (bs : List Datum) (xs : List Binding) → RowShaped scope (let_node s bs xs)
let_node_shaped scope s bs [] = tt
let_node_shaped scope s bs (x ∷ xs) =
    let many : length (names (binders (x ∷ xs))) ≡ length (values (x ∷ xs)) = as_many_names (x ∷ xs) ∙ sym (length-map (x ∷ xs) (λ y. y.value)) in
    let parts : map (λ y. plain y.value) (x ∷ xs) ≡ map plain (values (x ∷ xs)) = value_parts (x ∷ xs) in
    shaped_where_none scope let_ (twice (binders (x ∷ xs))) _
    (λ none. (values (x ∷ xs), names (binders (x ∷ xs)), body s bs, many, ap (λ l. l ++ inside (names (binders (x ∷ xs))) (body s bs) ∷ []) parts))

pub let_shaped : (scope : Scope) (s : Span) (ds : List Datum) → RowShaped scope (let_row s ds)
let_shaped scope s [] = tt
let_shaped scope s (d ∷ []) = tt
let_shaped scope s (d ∷ b ∷ bs) = shaped_if_formed scope s (let_node s (b ∷ bs)) (bindings_of d) (λ xs e. let_node_shaped scope s (b ∷ bs) xs)

let_star_step_shaped : (scope : Scope) (s : Span) (bs xs : List Datum) → RowShaped scope (let_star_step s bs xs)
let_star_step_shaped scope s bs [] = tt
let_star_step_shaped scope s bs (x ∷ xs) = tt

pub let_star_shaped : (scope : Scope) (s : Span) (ds : List Datum) → RowShaped scope (let_star_row s ds)
let_star_shaped scope s [] = tt
let_star_shaped scope s (d ∷ []) = tt
let_star_shaped scope s (d ∷ b ∷ bs) = shaped_if_formed scope s (let_star_step s (b ∷ bs)) (items_of d) (λ xs e. let_star_step_shaped scope s (b ∷ bs) xs)

-- ---- rows that stand for other forms

do_step_shaped : (scope : Scope) (s : Span) (bs : List Datum) (steps : List Step) (es : List Datum) → RowShaped scope (do_step s bs steps es)
do_step_shaped scope s bs steps [] = tt
do_step_shaped scope s bs steps (t ∷ rs) = tt

pub do_shaped : (scope : Scope) (s : Span) (ds : List Datum) → RowShaped scope (do_row s ds)
do_shaped scope s [] = tt
do_shaped scope s (d ∷ []) = tt
do_shaped scope s (d ∷ e ∷ bs) =
    shaped_if_formed scope s _ (steps_of d)
    (λ steps p. shaped_if_formed scope s (do_step s bs steps) (items_of e) (λ es q. do_step_shaped scope s bs steps es))

pub and_shaped : (scope : Scope) (s : Span) (ds : List Datum) → RowShaped scope (and_row s ds)
and_shaped scope s [] = tt
and_shaped scope s (a ∷ []) = tt
and_shaped scope s (a ∷ b ∷ ds) = tt

pub or_shaped : (scope : Scope) (s : Span) (ds : List Datum) → RowShaped scope (or_row s ds)
or_shaped scope s [] = tt
or_shaped scope s (a ∷ []) = tt
or_shaped scope s (a ∷ b ∷ ds) = tt

cond_plain_shaped : (scope : Scope) (s : Span) (a : Datum) (bs : List Datum) (rest : Datum) → RowShaped scope (cond_plain s a bs rest)
cond_plain_shaped scope s a [] rest = tt
cond_plain_shaped scope s a (b ∷ []) rest = tt
cond_plain_shaped scope s a (arrow ∷ f ∷ []) rest = shaped_if scope (is_arrow (word_of arrow)) _ _ tt tt
cond_plain_shaped scope s a (b ∷ c ∷ d ∷ bs) rest = tt

cond_clause_shaped : (scope : Scope) (s : Span) (others items : List Datum) → RowShaped scope (cond_clause s others items)
cond_clause_shaped scope s [] [] = tt
cond_clause_shaped scope s (o ∷ others) [] = tt
cond_clause_shaped scope s [] (a ∷ []) = cond_plain_shaped scope s a [] (listed s (word_ s (codes "cond") ∷ []))
cond_clause_shaped scope s [] (a ∷ b ∷ bs) = shaped_if scope (is_else (word_of a)) (stands_for (body s (b ∷ bs)))
    (cond_plain s a (b ∷ bs) (listed s (word_ s (codes "cond") ∷ []))) tt (cond_plain_shaped scope s a (b ∷ bs) (listed s (word_ s (codes "cond") ∷ [])))
cond_clause_shaped scope s (o ∷ others) (a ∷ bs) = cond_plain_shaped scope s a bs (listed s (word_ s (codes "cond") ∷ o ∷ others))

pub cond_shaped : (scope : Scope) (s : Span) (ds : List Datum) → RowShaped scope (cond_row s ds)
cond_shaped scope s [] = tt
cond_shaped scope s (c ∷ others) = shaped_if_formed scope s (cond_clause s others) (items_of c) (λ items e. cond_clause_shaped scope s others items)

pub case_shaped : (scope : Scope) (s : Span) (ds : List Datum) → RowShaped scope (case_row s ds)
case_shaped scope s [] = tt
case_shaped scope s (e ∷ cs) = shaped_if_formed scope s _ (case_clauses s cs) (λ d p. tt)

locative_call_shaped : (scope : Scope) (s : Span) (a : Datum) (es : List Datum) → RowShaped scope (locative_call s a es)
locative_call_shaped scope s (atom t (given (symbol text))) es = tt
locative_call_shaped scope s (atom t (variable n)) es = tt
locative_call_shaped scope s (atom t _) es = tt
locative_call_shaped scope s (cons t head tail) es = tt

locative_items_shaped : (scope : Scope) (s : Span) (o : Option (List Datum)) → RowShaped scope (locative_items s o)
locative_items_shaped scope s None = tt
locative_items_shaped scope s (Some []) = tt
locative_items_shaped scope s (Some (a ∷ es)) = locative_call_shaped scope s a es

locative_of_shaped : (scope : Scope) (s : Span) (d : Datum) → RowShaped scope (locative_of s d)
locative_of_shaped scope s (atom t a) = shaped_if_formed scope s _ (name_of (atom t a)) (λ n e. tt)
locative_of_shaped scope s (cons t head tail) = locative_items_shaped scope s (items_of (cons t head tail))

pub locative_shaped : (scope : Scope) (s : Span) (ds : List Datum) → RowShaped scope (locative_row s ds)
locative_shaped scope s [] = tt
locative_shaped scope s (d ∷ []) = locative_of_shaped scope s d
locative_shaped scope s (d ∷ e ∷ ds) = tt

pub inner_definition_shaped : (scope : Scope) (s : Span) (o : Option Definition) → RowShaped scope (inner_definition s o)
inner_definition_shaped scope s None = tt
inner_definition_shaped scope s (Some d) = tt
