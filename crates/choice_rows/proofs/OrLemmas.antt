-- The node of an OR.
use Rattle.std.proofs.Common.{◌≡◌, ◌∙◌, ap, ℕ, List, [], ◌∷◌, ◌++◌, Some, codes, refl, sym, subst}
use Rattle.std.specs.Global.{Vec}
use Rattle.t_base.specs.declared.basics.Span.{Span}
use Rattle.t_reader.specs.Grammar.{fix, char, nil, truth, string, symbol}
use Rattle.t_objects.specs.declared.words.Word.TheVariants as word
use Rattle.t_forms.specs.declared.arena.Cell.{Cell}
use Rattle.t_forms.specs.declared.arena.New.TheVariants as new
use Rattle.t_forms.specs.declared.scope.LocalName.{LocalName}
use Rattle.t_forms.specs.declared.scope.LocalName.TheVariants as key
use Rattle.t_forms.specs.Data.{given, variable, builtin, operation, listing, Atom, Datum, atom, cons, made, span_of, items_of, listed, a_variable, word_of}
use Rattle.t_forms.specs.Names.{Scope}
use Rattle.t_forms.specs.Held.{Held, AreNames}
use Rattle.t_rows.specs.declared.rows.Binds.TheVariants as binds
use Rattle.t_rows.specs.declared.rows.Part.{Part as CodePart}
use Rattle.t_rows.specs.Given.{AreParts}
use Rattle.t_rows.specs.Rows.{stands_for, plain, inside, word_, test_answer, row, operator_row, items_row}

pub one_pushed : {A : Type 0} (none all : List A) (x : A) → none ≡ [] → all ≡ none ++ x ∷ [] → all ≡ x ∷ []
one_pushed none all x e f = f ∙ ap (λ l. l ++ x ∷ []) e

pub two_pushed : {A : Type 0} (none mid all : List A) (x y : A) → none ≡ [] → mid ≡ none ++ x ∷ [] → all ≡ mid ++ y ∷ [] → all ≡ x ∷ y ∷ []
two_pushed none mid all x y e f g = g ∙ ap (λ l. l ++ y ∷ []) (one_pushed none mid x e f)

no_items : (s : Span) (a : Atom) (x : Datum) (xs : List Datum) → items_of (atom s a) ≡ Some (x ∷ xs) → ⊥
no_items s (given (fix z)) x xs e = cc
no_items s (given (char n)) x xs e = cc
no_items s (given nil) x xs e = cc
no_items s (given truth) x xs e = cc
no_items s (given (string text)) x xs e = cc
no_items s (given (symbol text)) x xs e = cc
no_items s (variable v) x xs e = cc
no_items s (builtin p) x xs e = cc
no_items s (operation o) x xs e = cc
no_items s listing x xs e = cc

-- an OR of two operands or more stands for a LET
pub or_stands : (around : Scope) (d f a b : Datum) (others : List Datum) → items_of d ≡ Some (f ∷ a ∷ b ∷ others) → word_of f ≡ Some word.Or
    → row around d ≡ stands_for (test_answer (span_of d) a (a_variable (span_of d) new.Answer) (listed (span_of d) (word_ (span_of d) (codes "or") ∷ b ∷ others)))
or_stands around (atom s x) f a b others items is = absurd (no_items s x f (a ∷ b ∷ others) items)
or_stands around (cons s head tail) f a b others items is =
    subst (λ o. items_row around s o ≡ stands_for (test_answer s a (a_variable s new.Answer) (listed s (word_ s (codes "or") ∷ b ∷ others)))) (sym items)
    (subst (λ w. operator_row around s f (a ∷ b ∷ others) w ≡ stands_for (test_answer s a (a_variable s new.Answer) (listed s (word_ s (codes "or") ∷ b ∷ others)))) (sym is) refl)

-- the parts of a node: a value, and a form in which the answer is bound to it
pub let_parts : (names : List (List ℕ)) (cells : List Cell) (parts : List CodePart) (none ks : Vec LocalName) (i j : ℕ) (a d : Datum)
    → parts ≡ record { binds = binds.Names none; form = i } ∷ record { binds = binds.Names ks; form = j } ∷ [] → none.items ≡ [] → ks.items ≡ key.Made new.Answer ∷ []
    → Held names cells i a → Held names cells j d → AreParts names cells [] parts (plain a ∷ inside (made new.Answer ∷ []) d ∷ [])
let_parts names cells parts none ks i j a d are nothing one value form = (
  record { binds = binds.Names none; form = i },
  record { binds = binds.Names ks; form = j } ∷ [],
  are,
  (subst (λ l. AreNames names l []) (sym nothing) tt, value),
  (record { binds = binds.Names ks; form = j }, [], refl, (subst (λ l. AreNames names l (made new.Answer ∷ [])) (sym one) (refl, tt), form), refl),
)
