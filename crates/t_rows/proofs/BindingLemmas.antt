-- Bindings.
use Rattle.std.proofs.Common.{◌≡◌, ℕ, List, [], ◌∷◌, length, Option, Some, None, is_none, if◌then◌else◌, refl, sym, arith}
use Rattle.std.specs.List.{AllZip}
use Rattle.std.specs.Option.{option_map}
use Rattle.t_base.specs.declared.basics.Span.{Span}
use Rattle.t_reader.specs.Grammar.{fix, char, nil, truth, string, symbol}
use Rattle.t_objects.specs.declared.words.Word.{Word}
use Rattle.t_objects.specs.Words.{word_named}
use Rattle.t_forms.specs.Data.{given, variable, Datum, atom, written, made, Binder, binder, binder_of, items_of}
use Rattle.t_forms.specs.declared.arena.Cell.{Cell}
use Rattle.t_rows.specs.declared.names.Binding.{Binding as CodeBinding}
use Rattle.t_rows.specs.Bindings.{IsBinding}
use Rattle.t_rows.specs.Lists.{Grows}
use Rattle.t_rows.proofs.Growth.{held_grows}
use Rattle.t_rows.proofs.ZipLemmas.{zip_weaker}
use Rattle.t_rows.specs.Rows.{Binding, name_datum, binding_of}

symbol_datum : (s : Span) (text : List ℕ) (w : Option Word) (b : Binder) → option_map (binder s) (if is_none w then Some (written text) else None) ≡ Some b
    → name_datum b ≡ atom s (given (symbol text))
symbol_datum s text None b e = let same : binder s (written text) ≡ b = cc in rw (sym same) refl
symbol_datum s text (Some w) b e = cc

-- a name where it is bound is the form that it is
pub named_datum : (d : Datum) (b : Binder) → binder_of d ≡ Some b → name_datum b ≡ d
named_datum (atom s (given (fix z))) b e = cc
named_datum (atom s (given (char n))) b e = cc
named_datum (atom s (given nil)) b e = cc
named_datum (atom s (given truth)) b e = cc
named_datum (atom s (given (string text))) b e = cc
named_datum (atom s (given (symbol text))) b e = symbol_datum s text (word_named text) b e
named_datum (atom s (variable v)) b e = let same : record { at = s; name = made v } ≡ b = cc in rw (sym same) refl
named_datum _ b e = cc

pub none_left : {A B : Type 0} (R : A → B → Type 0) (xs : List A) (ys : List B) → AllZip R xs ys → length xs ≡ 0 → ys ≡ []
none_left R [] [] h e = refl
none_left R [] (y ∷ ys) h e = absurd h
none_left R (x ∷ xs) ys h e = absurd (omega arith)

pub some_left : {A B : Type 0} (R : A → B → Type 0) (xs : List A) (ys : List B) → AllZip R xs ys → (length xs ≡ 0 → ⊥) → (y : B) × (others : List B) × (ys ≡ y ∷ others)
some_left R [] ys h e = absurd (e refl)
some_left R (x ∷ xs) [] h e = absurd h
some_left R (x ∷ xs) (y ∷ ys) h e = (y, ys, refl)

pub binding_is : (d x e : Datum) (ds : List Datum) (b : Binder) → items_of d ≡ Some ds → ds ≡ x ∷ e ∷ [] → binder_of x ≡ Some b
    → binding_of d ≡ Some (record { binds = b; value = e })
binding_is d x e ds b p q r = rw (p, q, r) refl

pub bindings_grow : {a b : List Cell} → Grows a b → (names : List (List ℕ)) (cs : List CodeBinding) (bs : List Binding) → AllZip (IsBinding names a) cs bs → AllZip (IsBinding names b) cs bs
bindings_grow {a = a} {b = b} g names cs bs h =
    zip_weaker (IsBinding names a) (IsBinding names b)
    (λ x y r. (r.0, held_grows g names x.value y.value r.1, held_grows g names x.place (name_datum y.binds) r.2)) cs bs h
