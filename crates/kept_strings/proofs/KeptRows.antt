-- Each row of the table keeps to the bytes of its form, or stands for a form that is refused.
use Rattle.std.proofs.Common.{◌≡◌, ℕ, ◌≤◌, List, [], ◌∷◌, Option, Some, None, refl, arith}
use Rattle.t_base.specs.declared.basics.Span.{Span}
use Rattle.t_objects.specs.declared.words.Word.{Word}
use Rattle.t_objects.specs.declared.words.Word.TheVariants as word
use Rattle.t_forms.specs.Data.{Datum, atom, cons, items_of, word_of}
use Rattle.t_forms.specs.Names.{Scope}
use Rattle.t_rows.specs.Rows.{Definition, inner_definition, define_of, lset_of, define_operation_of, quote_row, lambda_row, if_row, cond_row, and_row, or_row, case_row, block_row, let_row, let_star_row, labels_row, iterate_row, set_row, catch_row, object_row, locative_row, call_row, word_row, operator_row, atom_row, items_row, row}
use Rattle.kept_strings.proofs.Bytes.{bytes, all_bytes, items_bytes}
use Rattle.kept_strings.proofs.RowBytes.{quote_keeps, lambda_keeps, if_keeps, block_keeps, catch_keeps, and_keeps, or_keeps, atom_keeps}
use Rattle.kept_strings.proofs.BindingRows.{let_keeps, let_star_keeps, labels_keeps, iterate_keeps}
use Rattle.kept_strings.proofs.ChoiceRows.{cond_keeps, case_keeps}
use Rattle.kept_strings.proofs.PlaceRows.{set_keeps, locative_keeps, object_keeps}
use Rattle.kept_strings.proofs.CallRows.{call_keeps}
use Rattle.kept_strings.proofs.DoRows.{Kept, keeps_kept, kept_more, do_keeps}

inner_kept : (n : ℕ) (s : Span) (o : Option Definition) → Kept n (inner_definition s o)
inner_kept n s None = omega arith
inner_kept n s (Some d) = omega arith

word_kept : (scope : Scope) (s : Span) (ds : List Datum) (w : Word) → Kept (all_bytes ds) (word_row scope s ds w)
word_kept scope s ds word.Quote = keeps_kept (all_bytes ds) (quote_row s ds) (quote_keeps s ds)
word_kept scope s ds word.Lambda = keeps_kept (all_bytes ds) (lambda_row s ds) (lambda_keeps s ds)
word_kept scope s ds word.If = keeps_kept (all_bytes ds) (if_row s ds) (if_keeps s ds)
word_kept scope s ds word.Cond = keeps_kept (all_bytes ds) (cond_row s ds) (cond_keeps s ds)
word_kept scope s ds word.And = keeps_kept (all_bytes ds) (and_row s ds) (and_keeps s ds)
word_kept scope s ds word.Or = keeps_kept (all_bytes ds) (or_row s ds) (or_keeps s ds)
word_kept scope s ds word.Case = keeps_kept (all_bytes ds) (case_row s ds) (case_keeps s ds)
word_kept scope s ds word.Block = keeps_kept (all_bytes ds) (block_row s ds) (block_keeps s ds)
word_kept scope s ds word.Let = keeps_kept (all_bytes ds) (let_row s ds) (let_keeps s ds)
word_kept scope s ds word.LetStar = keeps_kept (all_bytes ds) (let_star_row s ds) (let_star_keeps s ds)
word_kept scope s ds word.Labels = keeps_kept (all_bytes ds) (labels_row s ds) (labels_keeps s ds)
word_kept scope s ds word.Iterate = keeps_kept (all_bytes ds) (iterate_row s ds) (iterate_keeps s ds)
word_kept scope s ds word.Do = do_keeps s ds
word_kept scope s ds word.Set = keeps_kept (all_bytes ds) (set_row scope s ds) (set_keeps scope s ds)
word_kept scope s ds word.Lset = inner_kept (all_bytes ds) s (lset_of ds)
word_kept scope s ds word.Define = inner_kept (all_bytes ds) s (define_of s ds)
word_kept scope s ds word.Catch = keeps_kept (all_bytes ds) (catch_row s ds) (catch_keeps s ds)
word_kept scope s ds word.Object = keeps_kept (all_bytes ds) (object_row scope s ds) (object_keeps scope s ds)
word_kept scope s ds word.DefineOperation = inner_kept (all_bytes ds) s (define_operation_of s ds)
word_kept scope s ds word.Locative = keeps_kept (all_bytes ds) (locative_row s ds) (locative_keeps s ds)
word_kept scope s ds word.Else = omega arith
word_kept scope s ds word.Arrow = omega arith

operator_kept : (n : ℕ) (scope : Scope) (s : Span) (f : Datum) (ds : List Datum) (o : Option Word) → all_bytes (f ∷ ds) ≤ n → Kept n (operator_row scope s f ds o)
operator_kept n scope s f ds (Some w) l = kept_more (all_bytes ds) n (word_row scope s ds w) (omega (arith, l)) (word_kept scope s ds w)
operator_kept n scope s f ds None l = keeps_kept n (call_row scope s f ds) (call_keeps n scope s f ds (omega (arith, l)))

items_kept : (n : ℕ) (scope : Scope) (s : Span) (o : Option (List Datum)) → ((ds : List Datum) → o ≡ Some ds → all_bytes ds ≤ n) → Kept n (items_row scope s o)
items_kept n scope s None h = omega arith
items_kept n scope s (Some []) h = omega arith
items_kept n scope s (Some (f ∷ ds)) h = operator_kept n scope s f ds (word_of f) (h (f ∷ ds) refl)

pub row_kept : (scope : Scope) (d : Datum) → Kept (bytes d) (row scope d)
row_kept scope (atom s a) = keeps_kept (bytes (atom s a)) (atom_row scope s a) (atom_keeps scope s a)
row_kept scope (cons s head tail) =
    items_kept (bytes (cons s head tail)) scope s (items_of (cons s head tail)) (λ ds e. let w = items_bytes (cons s head tail) ds e in omega (arith, w))
