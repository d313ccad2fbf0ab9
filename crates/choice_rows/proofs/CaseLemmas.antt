-- The keys and clauses of CASE.
use Rattle.std.proofs.Common.{◌≡◌, ℕ, Bool, true, false, ◌&&◌, List, [], ◌∷◌, ◌++◌, drop, length, get_or, slice_get, Option, Some, None, refl, sym, ap, ◌∙◌, subst, suc, arith, ◌<◌}
use Rattle.std.specs.List.{AllZip, list_all}
use Rattle.std.specs.Option.{option_and_then}
use Rattle.t_base.specs.declared.basics.Span.{Span}
use Rattle.t_reader.specs.Grammar.{fix, char, nil, truth, string, symbol}
use Rattle.t_objects.specs.Words.{word_named}
use Rattle.t_forms.specs.declared.arena.Cell.{Cell}
use Rattle.t_forms.specs.Data.{given, variable, builtin, operation, listing, Datum, atom, cons, items_of, a_nil}
use Rattle.t_forms.specs.Held.{Held}
use Rattle.choice_rows.specs.Cases.{is_key_form, no_more}
use Rattle.t_rows.specs.Lists.{IsHeldIf}
use Rattle.t_rows.specs.Lists.{IsShort}
use Rattle.t_rows.specs.Rows.{is_key, case_chosen, case_keys, case_last, case_clauses}
use Rattle.t_rows.proofs.ZipLemmas.{ZipLast, zip_last}
use Rattle.t_rows.proofs.ListLemmas.{same_form, spelling, a_word, a_place}

pub key_is : (names : List (List ℕ)) (cells : List Cell) (k : ℕ) (x : Cell) (d : Datum) → slice_get cells k ≡ Some x → Held names cells k d → is_key_form x.form ≡ is_key d
key_is names cells k x (atom s (given (fix z))) p h = rw (same_form p h.1 ∙ h.2) refl
key_is names cells k x (atom s (given (char n))) p h = rw (same_form p h.1 ∙ h.2) refl
key_is names cells k x (atom s (given nil)) p h = rw (same_form p h.1 ∙ h.2) refl
key_is names cells k x (atom s (given truth)) p h = rw (same_form p h.1 ∙ h.2) refl
key_is names cells k x (atom s (given (string text))) p h = rw (same_form p h.1 ∙ h.2) refl
key_is names cells k x (atom s (given (symbol text))) p h =
    elim (spelling names h.0 text (word_named text) h.2) [ a_word w q ↦ rw (same_form p h.1 ∙ q) refl | a_place n q ↦ rw (same_form p h.1 ∙ q) refl ]
key_is names cells k x (atom s (variable v)) p h = rw (same_form p h.1 ∙ h.2) refl
key_is names cells k x (atom s (builtin b)) p h = rw (same_form p h.1 ∙ h.2) refl
key_is names cells k x (atom s (operation o)) p h = rw (same_form p h.1 ∙ h.2) refl
key_is names cells k x (atom s listing) p h = rw (same_form p h.1 ∙ h.2) refl
key_is names cells k x (cons s head tail) p h = rw (same_form p h.2) refl

chosen_none : (s : Span) (bs keys : List Datum) (b : Bool) → list_all is_key keys ≡ b → case_chosen s bs None keys ≡ None
chosen_none s bs keys true e = rw e refl
chosen_none s bs keys false e = rw e refl

keys_none_of : (s : Span) (bs : List Datum) (o : Option (List Datum)) → option_and_then (case_chosen s bs None) o ≡ None
keys_none_of s bs None = refl
keys_none_of s bs (Some keys) = chosen_none s bs keys (list_all is_key keys) refl

keys_none : (s : Span) (items : List Datum) → case_keys s items None ≡ None
keys_none s [] = refl
keys_none s (k ∷ []) = refl
keys_none s (k ∷ b ∷ bs) = keys_none_of s (b ∷ bs) (items_of k)

pub keys_short : (s : Span) (items : List Datum) (r : Option Datum) → IsShort items → case_keys s items r ≡ None
keys_short s [] r h = refl
keys_short s (d ∷ []) r h = refl
keys_short s (d ∷ e ∷ ds) r h = absurd h

pub last_short : (s : Span) (items : List Datum) → IsShort items → case_last s items ≡ None
last_short s [] h = refl
last_short s (d ∷ []) h = refl
last_short s (d ∷ e ∷ ds) h = absurd h

no_clause_of : (s : Span) (o : Option (List Datum)) → option_and_then (λ items. case_keys s items None) o ≡ None
no_clause_of s None = refl
no_clause_of s (Some items) = keys_none s items

no_clause : (s : Span) (d : Datum) (cs : List Datum) → case_clauses s cs ≡ None → case_clauses s (d ∷ cs) ≡ None
no_clause s d [] e = cc
no_clause s d (c ∷ cs) e = ap (λ r. option_and_then (λ items. case_keys s items r) (items_of d)) e ∙ no_clause_of s (items_of d)

pub none_from : (s : Span) (i : ℕ) (cs : List Datum) → case_clauses s (drop i cs) ≡ None → case_clauses s cs ≡ None
none_from s Prim.Native.Nat.zero cs e = e
none_from s (suc i) [] e = e
none_from s (suc i) (c ∷ cs) e = no_clause s c cs (none_from s i cs e)

pub clause_last : (s : Span) (d : Datum) (cs : List Datum) → no_more cs ≡ true → case_clauses s (d ∷ cs) ≡ option_and_then (case_last s) (items_of d)
clause_last s d [] e = refl
clause_last s d (c ∷ cs) e = cc

pub clause_more : (s : Span) (d : Datum) (cs : List Datum) (r : Datum) → no_more cs ≡ false → case_clauses s cs ≡ Some r
    → case_clauses s (d ∷ cs) ≡ option_and_then (λ items. case_keys s items (Some r)) (items_of d)
clause_more s d [] r e p = cc
clause_more s d (c ∷ cs) r e p = ap (λ o. option_and_then (λ items. case_keys s items o) (items_of d)) p

pub nil_left : (s : Span) (cs : List Datum) (r : Datum) → no_more cs ≡ true → case_clauses s cs ≡ Some r → a_nil s ≡ r
nil_left s [] r e p = cc
nil_left s (c ∷ cs) r e p = cc

pub held_none : (names : List (List ℕ)) (cells : List Cell) (o : Option Datum) → IsHeldIf names cells None o → o ≡ None
held_none names cells None h = refl
held_none names cells (Some d) h = cc

pub held_some : (names : List (List ℕ)) (cells : List Cell) (k : ℕ) (o : Option Datum) → IsHeldIf names cells (Some k) o → (d : Datum) × (o ≡ Some d) × Held names cells k d
held_some names cells k None h = cc
held_some names cells k (Some d) h = let same : h.0 ≡ k = cc in (d, refl, subst (λ (i : ℕ). Held names cells i d) same h.2)

pub no_items : (s : Span) (d : Datum) (cs : List Datum) (r : Datum) → case_clauses s cs ≡ Some r → items_of d ≡ None → case_clauses s (d ∷ cs) ≡ None
no_items s d [] r e p = ap (option_and_then (case_last s)) p
no_items s d (c ∷ cs) r e p = ap (option_and_then (λ items. case_keys s items (case_clauses s (c ∷ cs)))) p

-- ---- all of a list

all_true_last : (xs : List Datum) (x : Datum) → list_all is_key xs ≡ true → is_key x ≡ true → list_all is_key (xs ++ x ∷ []) ≡ true
all_true_last [] x e p = rw p refl
all_true_last (y ∷ ys) x e p = let h = both (is_key y) (list_all is_key ys) e in rw (h.0, all_true_last ys x h.1 p) refl
  where
    both : (a b : Bool) → (a && b) ≡ true → (a ≡ true) × (b ≡ true)
    both true b q = (refl, q)
    both false b q = cc

pub record KeysSoFar (names : List (List ℕ)) (cells : List Cell) (ks : List ℕ) : Type 0 where
  pub are : (ds : List Datum) → AllZip (Held names cells) ks ds → list_all is_key ds ≡ true

pub no_keys : (names : List (List ℕ)) (cells : List Cell) → KeysSoFar names cells []
no_keys names cells = record { are = λ ds h. none ds h }
  where
    none : (ds : List Datum) → AllZip (Held names cells) [] ds → list_all is_key ds ≡ true
    none [] h = refl
    none (d ∷ ds) h = absurd h

pub one_key : (names : List (List ℕ)) (cells : List Cell) (ks : List ℕ) (k : ℕ) → KeysSoFar names cells ks → ((d : Datum) → Held names cells k d → true ≡ is_key d)
    → KeysSoFar names cells (ks ++ k ∷ [])
one_key names cells ks k so_far is = record {
  are = λ ds h.
      let l : ZipLast (Held names cells) ks k ds = zip_last (Held names cells) ks k ds h in
      ap (list_all is_key) l.parts ∙ all_true_last l.before l.last (so_far.are l.before l.zip_before) (sym (is l.last l.zip_last));
}

false_first : (a b : Bool) → a ≡ false → (a && b) ≡ false
false_first true b e = cc
false_first false b e = refl

false_behind : (a b : Bool) → b ≡ false → (a && b) ≡ false
false_behind true b e = e
false_behind false b e = refl

pub no_key : (names : List (List ℕ)) (cells : List Cell) (ks : List ℕ) (ds : List Datum) (i : ℕ) → i < length ks → AllZip (Held names cells) ks ds
    → ((d : Datum) → Held names cells (get_or ks i 0) d → false ≡ is_key d) → list_all is_key ds ≡ false
no_key names cells [] ds i below h is = absurd (omega arith)
no_key names cells (k ∷ ks) [] i below h is = absurd h
no_key names cells (k ∷ ks) (d ∷ ds) Prim.Native.Nat.zero below h is = false_first (is_key d) (list_all is_key ds) (sym (is d h.0))
no_key names cells (k ∷ ks) (d ∷ ds) (suc i) below h is =
    let less : i < length ks = omega arith in
    false_behind (is_key d) (list_all is_key ds) (no_key names cells ks ds i less h.1 is)
