-- An OR of two operands or more, and the node of the LET for which it stands.
use Rattle.std.specs.Prelude.{◌≡◌, ℕ, Bool, true, false, ◌&&◌, List, [], ◌∷◌, Option, Some, codes}
use Rattle.t_base.specs.declared.basics.Span.{Span}
use Rattle.t_objects.specs.declared.words.Word.{Word}
use Rattle.t_objects.specs.declared.words.Word.TheVariants as word
use Rattle.t_forms.specs.declared.arena.Cell.{Cell}
use Rattle.t_forms.specs.declared.arena.New.TheVariants as new
use Rattle.t_forms.specs.Data.{Datum, items_of, listed, a_variable, made, word_of}
use Rattle.t_forms.specs.Held.{Held}
use Rattle.t_rows.specs.Lists.{AreItems}
use Rattle.t_rows.specs.Rows.{Row, node, let_, plain, inside, word_}

-- the form is an OR of two operands or more: the first one stands at a place, and the others go on at another
pub record IsOr (names : List (List ℕ)) (cells : List Cell) (d : Datum) (places : ℕ × ℕ) : Type 0 where
  pub operator : Datum
  pub first : Datum
  pub second : Datum
  pub others : List Datum
  pub items : items_of d ≡ Some (operator ∷ first ∷ second ∷ others)
  pub word : word_of operator ≡ Some word.Or
  pub held : Held names cells places.0 first
  pub behind : AreItems names cells places.1 (second ∷ others)

-- ---- which forms are an OR of two operands or more

abbrev pub is_or_word : Option Word → Bool
is_or_word (Some word.Or) = true
is_or_word _ = false

abbrev pub has_two : List Datum → Bool
has_two (a ∷ b ∷ others) = true
has_two _ = false

-- of a form by its items
abbrev pub is_or : Option (List Datum) → Bool
is_or (Some (f ∷ ds)) = is_or_word (word_of f) && has_two ds
is_or _ = false

-- ---- what is made of it

-- (if u u (or b ..))
abbrev pub or_test : Span → List Datum → Datum
or_test s ds = listed s (word_ s (codes "if") ∷ a_variable s new.Answer ∷ a_variable s new.Answer ∷ listed s (word_ s (codes "or") ∷ ds) ∷ [])

-- the node of (let ((u a)) (if u u (or b ..)))
abbrev pub or_let : Span → Datum → List Datum → Row
or_let s a ds = node let_ [] (plain a ∷ inside (made new.Answer ∷ []) (or_test s ds) ∷ [])
