-- The sort of a form.
use Rattle.std.proofs.Common.{◌≡◌, ℕ, List, slice_get, Option, Some, None, refl, ◌∙◌}
use Rattle.t_base.specs.declared.basics.Span.{Span}
use Rattle.t_reader.specs.Grammar.{fix, char, nil, truth, string, symbol}
use Rattle.t_objects.specs.declared.words.Word.{Word}
use Rattle.t_objects.specs.Words.{word_named}
use Rattle.t_forms.specs.declared.arena.Form.{Form}
use Rattle.t_forms.specs.declared.arena.Cell.{Cell}
use Rattle.t_forms.specs.Data.{given, variable, builtin, operation, listing, Datum, atom, cons, span_of, items_of, written, made}
use Rattle.t_forms.specs.Held.{Held, IsSymbol}
use Rattle.t_forms.specs.Names.{Scope}
use Rattle.t_rows.specs.Rows.{row, items_row}
use Rattle.form_rows.specs.Sorts.{sort_of, IsSort}
use Rattle.t_rows.proofs.ListLemmas.{same_form}

sort_symbol : (names : List (List ℕ)) (s : Span) (f g : Form) (text : List ℕ) (w : Option Word) → word_named text ≡ w → IsSymbol names f text w → g ≡ f
    → IsSort names (sort_of g) (atom s (given (symbol text)))
sort_symbol names s f g text (Some w) e h p = rw (p, h) (λ scope. rw e refl)
sort_symbol names s f g text None e h p = rw (p, h.1) (written text, (λ scope. rw e refl), (h.0, refl, h.2))

pub sort_is : (names : List (List ℕ)) (cells : List Cell) (k : ℕ) (x : Cell) (d : Datum) → slice_get cells k ≡ Some x → Held names cells k d → IsSort names (sort_of x.form) d
sort_is names cells k x (atom s (given (fix z))) p h = rw (same_form p h.1 ∙ h.2) (λ scope. refl)
sort_is names cells k x (atom s (given (char n))) p h = rw (same_form p h.1 ∙ h.2) (λ scope. refl)
sort_is names cells k x (atom s (given nil)) p h = rw (same_form p h.1 ∙ h.2) (λ scope. refl)
sort_is names cells k x (atom s (given truth)) p h = rw (same_form p h.1 ∙ h.2) (λ scope. refl)
sort_is names cells k x (atom s (given (string text))) p h = rw (same_form p h.1 ∙ h.2) (λ scope. refl)
sort_is names cells k x (atom s (given (symbol text))) p h = sort_symbol names s h.0 x.form text (word_named text) refl h.2 (same_form p h.1)
sort_is names cells k x (atom s (variable v)) p h = rw (same_form p h.1 ∙ h.2) (made v, (λ scope. refl), refl)
sort_is names cells k x (atom s (builtin b)) p h = rw (same_form p h.1 ∙ h.2) (λ scope. refl)
sort_is names cells k x (atom s (operation o)) p h = rw (same_form p h.1 ∙ h.2) (λ scope. refl)
sort_is names cells k x (atom s listing) p h = rw (same_form p h.1 ∙ h.2) (λ scope. refl)
sort_is names cells k x (cons s head tail) p h = rw (same_form p h.2) (s, head, tail, refl)

pub row_of_pair : (scope : Scope) (d : Datum) (s : Span) (head tail : Datum) → d ≡ cons s head tail → row scope d ≡ items_row scope (span_of d) (items_of d)
row_of_pair scope d s head tail e = rw e refl
