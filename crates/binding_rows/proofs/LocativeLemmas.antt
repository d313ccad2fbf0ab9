-- The rows of LOCATIVE.
use Rattle.std.proofs.Common.{◌≡◌, ℕ, ◌+◌, true, false, List, [], ◌∷◌, ◌++◌, length, refl, ap, ◌∙◌, suc, arith}
use Rattle.std.proofs.Common.{codes, length-append}
use Rattle.std.specs.List.{AllZip}
use Rattle.t_base.specs.declared.basics.Span.{Span}
use Rattle.t_reader.specs.Grammar.{symbol}
use Rattle.t_forms.specs.declared.arena.New.TheVariants as new
use Rattle.t_forms.specs.declared.arena.Cell.{Cell}
use Rattle.t_forms.specs.Data.{given, variable, Datum, atom, cons, listed, items_of, name_of, a_variable}
use Rattle.t_forms.specs.Held.{Held}
use Rattle.t_rows.specs.Lists.{Grows, is_symbol, is_pair}
use Rattle.t_rows.specs.Rows.{stands_for, word_, part_bindings, part_variables, locative_object, locative_call, locative_items, locative_row, if_formed}
use Rattle.t_rows.proofs.ZipLemmas.{ZipLast, zip_last, zip_push}
use Rattle.t_rows.proofs.Growth.{all_held_grow}

pub bindings_last : (s : Span) (i : ℕ) (ds : List Datum) (d : Datum)
    → part_bindings s i (ds ++ d ∷ []) ≡ part_bindings s i ds ++ listed s (a_variable s (new.Part (i + length ds)) ∷ d ∷ []) ∷ []
bindings_last s i [] d = let e : i ≡ i + 0 = omega arith in ap (λ n. listed s (a_variable s (new.Part n) ∷ d ∷ []) ∷ []) e
bindings_last s i (x ∷ xs) d =
    let e : i + 1 + length xs ≡ i + length (x ∷ xs) = omega arith in
    ap (λ ys. listed s (a_variable s (new.Part i) ∷ x ∷ []) ∷ ys)
    (bindings_last s (i + 1) xs d ∙ ap (λ n. part_bindings s (i + 1) xs ++ listed s (a_variable s (new.Part n) ∷ d ∷ []) ∷ []) e)

pub variables_last : (s : Span) (i : ℕ) (ds : List Datum) (d : Datum) → part_variables s i (ds ++ d ∷ []) ≡ part_variables s i ds ++ a_variable s (new.Part (i + length ds)) ∷ []
variables_last s i [] d = let e : i ≡ i + 0 = omega arith in ap (λ n. a_variable s (new.Part n) ∷ []) e
variables_last s i (x ∷ xs) d =
    let e : i + 1 + length xs ≡ i + length (x ∷ xs) = omega arith in
    ap (λ ys. a_variable s (new.Part i) ∷ ys)
    (variables_last s (i + 1) xs d ∙ ap (λ n. part_variables s (i + 1) xs ++ a_variable s (new.Part n) ∷ []) e)

same_length : {A B : Type 0} (R : A → B → Type 0) (xs : List A) (ys : List B) → AllZip R xs ys → length xs ≡ length ys
same_length R [] [] h = refl
same_length R [] (y ∷ ys) h = absurd h
same_length R (x ∷ xs) [] h = absurd h
same_length R (x ∷ xs) (y ∷ ys) h = ap suc (same_length R xs ys h.1)

-- ---- what is made so far, for keys that were there before

pub record PartsSoFar (names : List (List ℕ)) (before now : List Cell) (make : ℕ → List Datum → List Datum) (from number : ℕ) (ks made : List ℕ) : Type 0 where
  pub count : number ≡ from + length ks
  pub are : (ds : List Datum) → AllZip (Held names before) ks ds → AllZip (Held names now) made (make from ds)

pub no_parts : (names : List (List ℕ)) (cells : List Cell) (make : ℕ → List Datum → List Datum) (from : ℕ) → make from [] ≡ [] → PartsSoFar names cells cells make from from [] []
no_parts names cells make from e = record { count = omega arith; are = λ ds h. none ds h }
  where
    none : (ds : List Datum) → AllZip (Held names cells) [] ds → AllZip (Held names cells) [] (make from ds)
    none [] h = rw e tt
    none (d ∷ ds) h = absurd h

pub one_part : (names : List (List ℕ)) (before now next_ : List Cell) (make : ℕ → List Datum → List Datum) (part : ℕ → Datum → Datum) (from number : ℕ) (ks made : List ℕ) (k made_k : ℕ)
    → ((ds : List Datum) (d : Datum) → make from (ds ++ d ∷ []) ≡ make from ds ++ part (from + length ds) d ∷ []) → Grows now next_
    → PartsSoFar names before now make from number ks made → ((d : Datum) → Held names before k d → Held names next_ made_k (part number d))
    → PartsSoFar names before next_ make from (number + 1) (ks ++ k ∷ []) (made ++ made_k ∷ [])
one_part names before now next_ make part from number ks made k made_k law g so_far one = record {
  count = let e = so_far.count in omega (arith, length-append ks (k ∷ []));
  are = λ ds h.
      let l : ZipLast (Held names before) ks k ds = zip_last (Held names before) ks k ds h in
      let n : number ≡ from + length l.before = so_far.count ∙ ap (λ x. from + x) (same_length (Held names before) ks l.before l.zip_before) in
      rw (l.parts, law l.before l.last)
      (zip_push (Held names next_) made (make from l.before) made_k (part (from + length l.before) l.last)
      (all_held_grow g names made (make from l.before) (so_far.are l.before l.zip_before)) (rw n at (one l.last l.zip_last)));
}

-- ---- the place

pub call_symbol : (s : Span) (a : Datum) (es : List Datum) → is_symbol a ≡ true
    → locative_call s a es
    ≡ stands_for (listed s (word_ s (codes "let") ∷ listed s (part_bindings s 1 es) ∷ locative_object s (listed s (a ∷ part_variables s 1 es)) ∷ []))
call_symbol s (atom t (given (symbol text))) es e = refl
call_symbol s (atom t (variable n)) es e = refl
call_symbol s _ es e = cc

pub call_form : (s : Span) (a : Datum) (es : List Datum) → is_symbol a ≡ false
    → locative_call s a es
    ≡ stands_for (listed s (word_ s (codes "let") ∷ listed s (part_bindings s 0 (a ∷ es)) ∷ locative_object s (listed s (part_variables s 0 (a ∷ es))) ∷ []))
call_form s (atom t (given (symbol text))) es e = cc
call_form s (atom t (variable n)) es e = cc
call_form s _ es e = refl

pub of_pair : (s : Span) (d : Datum) → is_pair d ≡ true → locative_row s (d ∷ []) ≡ locative_items s (items_of d)
of_pair s (atom t a) e = cc
of_pair s (cons t head tail) e = refl

pub of_name : (s : Span) (d : Datum) → is_pair d ≡ false → locative_row s (d ∷ []) ≡ if_formed s (λ n. stands_for (locative_object s d)) (name_of d)
of_name s (atom t a) e = refl
of_name s (cons t head tail) e = cc
