-- Clauses of COND.
use Rattle.std.proofs.Common.{◌≡◌, true, false, [], ◌∷◌, Option, refl, sym}
use Rattle.t_base.specs.declared.basics.Span.{Span}
use Rattle.t_objects.specs.declared.words.Word.{Word}
use Rattle.t_forms.specs.declared.arena.New.TheVariants as new
use Rattle.t_forms.specs.Data.{Datum, word_of, listed, a_variable}
use Rattle.t_rows.specs.Rows.{received, is_else, is_arrow}

pub received_else : (s : Span) (f : Datum) (w : Option Word) → w ≡ word_of f → is_else w ≡ true → received s f ≡ f
received_else s f w e p = rw (sym e, p) refl

pub received_arrow : (s : Span) (f : Datum) (w : Option Word) → w ≡ word_of f → is_else w ≡ false → is_arrow w ≡ true → received s f ≡ f
received_arrow s f w e p q = rw (sym e, p, q) refl

pub received_form : (s : Span) (f : Datum) (w : Option Word) → w ≡ word_of f → is_else w ≡ false → is_arrow w ≡ false → received s f ≡ listed s (f ∷ a_variable s new.Answer ∷ [])
received_form s f w e p q = rw (sym e, p, q) refl
