-- The parts of a row are those of its shape, where nothing is refused at the form.
use Rattle.std.proofs.Common.{◌≡◌, List, [], ◌∷◌, Option, Some, None, IfSome, inl, refl, subst}
use Rattle.std.specs.List.{AllByRecursion}
use Rattle.t_base.specs.declared.basics.Span.{Span}
use Rattle.t_reader.specs.Grammar.{fix, char, nil, truth, string, symbol}
use Rattle.t_objects.specs.declared.words.Word.{Word}
use Rattle.t_objects.specs.declared.words.Word.TheVariants as word
use Rattle.t_forms.specs.Data.{Atom, given, variable, builtin, operation, listing, Datum, atom, cons, items_of, word_of, name_of, made}
use Rattle.t_forms.specs.Names.{Scope, meaning}
use Rattle.t_rows.specs.Rows.{Shape, Part, node, lset_of, define_of, define_operation_of, word_row, operator_row, name_row, atom_row, items_row, row}
use Rattle.expand_laws.proofs.Reached.{HasBuiltinOps, IsShaped}
use Rattle.expand_laws.proofs.RowShapes.{RowShaped, shaped_if_formed, items_if}
use Rattle.expand_laws.proofs.NodeShapes.{quote_shaped, lambda_shaped, if_shaped, cond_shaped, and_shaped, or_shaped, case_shaped, block_shaped, let_shaped, let_star_shaped, do_shaped, catch_shaped, locative_shaped, inner_definition_shaped}
use Rattle.expand_laws.proofs.LabelsShapes.{labels_shaped, iterate_shaped}
use Rattle.expand_laws.proofs.NameShapes.{DefinesOwn, meaning_known, name_shaped}
use Rattle.expand_laws.proofs.CallShapes.{set_shaped, call_shaped}
use Rattle.expand_laws.proofs.MethodShapes.{object_shaped}

word_shaped : (scope : Scope) (s : Span) (ds : List Datum) (w : Word) → DefinesOwn scope.defined → AllByRecursion HasBuiltinOps ds
    → RowShaped scope (word_row scope s ds w)
word_shaped scope s ds word.Quote own h = quote_shaped scope s ds
word_shaped scope s ds word.Lambda own h = lambda_shaped scope s ds
word_shaped scope s ds word.If own h = if_shaped scope s ds
word_shaped scope s ds word.Cond own h = cond_shaped scope s ds
word_shaped scope s ds word.And own h = and_shaped scope s ds
word_shaped scope s ds word.Or own h = or_shaped scope s ds
word_shaped scope s ds word.Case own h = case_shaped scope s ds
word_shaped scope s ds word.Block own h = block_shaped scope s ds
word_shaped scope s ds word.Let own h = let_shaped scope s ds
word_shaped scope s ds word.LetStar own h = let_star_shaped scope s ds
word_shaped scope s ds word.Labels own h = labels_shaped scope s ds
word_shaped scope s ds word.Iterate own h = iterate_shaped scope s ds
word_shaped scope s ds word.Do own h = do_shaped scope s ds
word_shaped scope s ds word.Set own h = set_shaped scope s ds own
word_shaped scope s ds word.Lset own h = inner_definition_shaped scope s (lset_of ds)
word_shaped scope s ds word.Define own h = inner_definition_shaped scope s (define_of s ds)
word_shaped scope s ds word.Catch own h = catch_shaped scope s ds
word_shaped scope s ds word.Object own h = object_shaped scope s ds own h
word_shaped scope s ds word.DefineOperation own h = inner_definition_shaped scope s (define_operation_of s ds)
word_shaped scope s ds word.Locative own h = locative_shaped scope s ds
word_shaped scope s ds word.Else own h = tt
word_shaped scope s ds word.Arrow own h = tt

operator_shaped : (scope : Scope) (s : Span) (f : Datum) (ds : List Datum) (w : Option Word) → DefinesOwn scope.defined → AllByRecursion HasBuiltinOps ds
    → RowShaped scope (operator_row scope s f ds w)
operator_shaped scope s f ds None own h = call_shaped scope s f ds
operator_shaped scope s f ds (Some w) own h = word_shaped scope s ds w own h

items_shaped : (scope : Scope) (s : Span) (o : Option (List Datum)) → DefinesOwn scope.defined → IfSome o (AllByRecursion HasBuiltinOps)
    → RowShaped scope (items_row scope s o)
items_shaped scope s None own h = tt
items_shaped scope s (Some []) own h = tt
items_shaped scope s (Some (f ∷ ds)) own h = operator_shaped scope s f ds (word_of f) own h.1

atom_shaped : (scope : Scope) (s : Span) (a : Atom) → DefinesOwn scope.defined → HasBuiltinOps (atom s a) → RowShaped scope (atom_row scope s a)
atom_shaped scope s (given (fix z)) own h = refl
atom_shaped scope s (given (char c)) own h = refl
atom_shaped scope s (given nil) own h = refl
atom_shaped scope s (given truth) own h = refl
atom_shaped scope s (given (string bytes)) own h = refl
atom_shaped scope s (given (symbol text)) own h =
    shaped_if_formed scope s (λ n. name_row s (meaning scope n)) (name_of (atom s (given (symbol text))))
    (λ n e. name_shaped scope s (meaning scope n) (meaning_known scope n own))
atom_shaped scope s (variable n) own h = name_shaped scope s (meaning scope (made n)) (meaning_known scope (made n) own)
atom_shaped scope s (builtin p) own h = refl
atom_shaped scope s (operation o) own h = (refl, inl h)
atom_shaped scope s listing own h = tt

shaped : (scope : Scope) (d : Datum) → DefinesOwn scope.defined → HasBuiltinOps d → RowShaped scope (row scope d)
shaped scope (atom s a) own h = atom_shaped scope s a own h
shaped scope (cons s head tail) own h =
    items_shaped scope s (items_of (cons s head tail)) own (items_if HasBuiltinOps (λ t a b i. i) (cons s head tail) h)

pub row_shaped : (scope : Scope) (d : Datum) (shape : Shape) (parts : List Part) → DefinesOwn scope.defined → HasBuiltinOps d
    → row scope d ≡ node shape [] parts → IsShaped scope shape parts
row_shaped scope d shape parts own h e = subst (RowShaped scope) e (shaped scope d own h)
