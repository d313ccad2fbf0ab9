-- COND and CASE keep to the bytes of their forms.
use Rattle.std.proofs.Common.{◌≡◌, ℕ, ◌+◌, ◌≤◌, Bool, true, false, ◌||◌, if◌then◌else◌, List, [], ◌∷◌, Option, Some, None, refl, subst, arith}
use Rattle.std.specs.Prelude.{codes}
use Rattle.std.specs.List.{list_all}
use Rattle.std.specs.Option.{option_map}
use Rattle.std.proofs.lemmas.Option.{same_Some}
use Rattle.t_base.specs.declared.basics.Span.{Span}
use Rattle.t_forms.specs.declared.arena.New.TheVariants as new
use Rattle.t_forms.specs.Data.{Datum, items_of, listed, a_nil, a_variable, word_of}
use Rattle.t_rows.specs.Rows.{stands_for, word_, body, is_else, is_arrow, test_answer, received, cond_plain, cond_clause, cond_row, is_key, key_test, case_chosen, case_keys, case_last, case_clauses, case_row}
use Rattle.expand_laws.proofs.Always.{through, mapped}
use Rattle.kept_strings.proofs.Bytes.{bytes, all_bytes, bytes_listed, body_bytes, items_bytes}
use Rattle.kept_strings.proofs.RowBytes.{RowKeeps, formed, either_row}

-- ---- COND

either_bytes : (n : ℕ) (b : Bool) (x y : Datum) → bytes x ≤ n → bytes y ≤ n → bytes (if b then x else y) ≤ n
either_bytes n true x y h k = h
either_bytes n false x y h k = k

received_bytes : (s : Span) (f : Datum) → bytes (received s f) ≤ bytes f
received_bytes s f =
    either_bytes (bytes f) (is_else (word_of f) || is_arrow (word_of f)) f (listed s (f ∷ a_variable s new.Answer ∷ [])) (omega arith) (omega arith)

cond_plain_keeps : (n : ℕ) (s : Span) (a : Datum) (bs : List Datum) (rest : Datum) → all_bytes (a ∷ bs) + bytes rest ≤ n → RowKeeps n (cond_plain s a bs rest)
cond_plain_keeps n s a [] rest l = omega (arith, l)
cond_plain_keeps n s a (b ∷ []) rest l = omega (arith, l)
cond_plain_keeps n s a (arrow ∷ f ∷ []) rest l =
    let w = received_bytes s f in
    either_row n (is_arrow (word_of arrow)) (stands_for (test_answer s a (received s f) rest))
    (stands_for (listed s (word_ s (codes "if") ∷ a ∷ listed s (word_ s (codes "block") ∷ arrow ∷ f ∷ []) ∷ rest ∷ []))) (omega (arith, w, l)) (omega (arith, l))
cond_plain_keeps n s a (b ∷ c ∷ d ∷ ds) rest l = let w = bytes_listed s ds in omega (arith, w, l)

cond_clause_keeps : (n : ℕ) (s : Span) (others items : List Datum) → all_bytes items + all_bytes others ≤ n → RowKeeps n (cond_clause s others items)
cond_clause_keeps n s [] [] l = omega arith
cond_clause_keeps n s (o ∷ os) [] l = omega arith
cond_clause_keeps n s [] (a ∷ []) l = cond_plain_keeps n s a [] (listed s (word_ s (codes "cond") ∷ [])) (omega (arith, l))
cond_clause_keeps n s [] (a ∷ b ∷ bs) l =
    let w = body_bytes s (b ∷ bs) in
    either_row n (is_else (word_of a)) (stands_for (body s (b ∷ bs))) (cond_plain s a (b ∷ bs) (listed s (word_ s (codes "cond") ∷ []))) (omega (arith, w, l))
    (cond_plain_keeps n s a (b ∷ bs) (listed s (word_ s (codes "cond") ∷ [])) (omega (arith, l)))
cond_clause_keeps n s (o ∷ os) (a ∷ bs) l =
    let w = bytes_listed s (o ∷ os) in
    cond_plain_keeps n s a bs (listed s (word_ s (codes "cond") ∷ o ∷ os)) (omega (arith, w, l))

pub cond_keeps : (s : Span) (ds : List Datum) → RowKeeps (all_bytes ds) (cond_row s ds)
cond_keeps s [] = omega arith
cond_keeps s (c ∷ others) =
    formed (all_bytes (c ∷ others)) s (cond_clause s others) (items_of c)
    (λ items e. cond_clause_keeps (all_bytes (c ∷ others)) s others items (let w = items_bytes c items e in omega (arith, w)))

-- ---- CASE

key_bytes : (s : Span) (keys : List Datum) → bytes (key_test s keys) ≡ all_bytes keys
key_bytes s [] = refl
key_bytes s (k ∷ keys) = let e = key_bytes s keys in omega (arith, e)

-- what there is has so many at most
abbrev IfKeeps : ℕ → Option Datum → Type 0
IfKeeps n o = (d : Datum) → o ≡ Some d → bytes d ≤ n

some_keeps : (n : ℕ) (d : Datum) → bytes d ≤ n → IfKeeps n (Some d)
some_keeps n d h e k = subst (λ x. bytes x ≤ n) (same_Some d e k) h

chosen_if : (n : ℕ) (s : Span) (bs : List Datum) (rest : Option Datum) (keys : List Datum) (b : Bool) → IfKeeps n rest
    → IfKeeps (all_bytes keys + all_bytes bs + n)
    (if b then option_map (λ r. listed s (word_ s (codes "if") ∷ key_test s keys ∷ listed s (word_ s (codes "block") ∷ bs) ∷ r ∷ [])) rest else None)
chosen_if n s bs rest keys true hr d e =
    let g = mapped (λ r. listed s (word_ s (codes "if") ∷ key_test s keys ∷ listed s (word_ s (codes "block") ∷ bs) ∷ r ∷ [])) rest d e in
    let a = key_bytes s keys in
    let b = bytes_listed s bs in
    let l = hr g.got g.is in
    subst (λ x. bytes x ≤ all_bytes keys + all_bytes bs + n) g.gives (omega (arith, a, b, l))
chosen_if n s bs rest keys false hr d e = cc

keys_keep : (n : ℕ) (s : Span) (items : List Datum) (rest : Option Datum) → IfKeeps n rest → IfKeeps (all_bytes items + n) (case_keys s items rest)
keys_keep n s [] rest hr d e = cc
keys_keep n s (ks ∷ []) rest hr d e = cc
keys_keep n s (ks ∷ b ∷ bs) rest hr d e =
    let g = through (case_chosen s (b ∷ bs) rest) (items_of ks) d e in
    let w = items_bytes ks g.got g.is in
    let l = chosen_if n s (b ∷ bs) rest g.got (list_all is_key g.got) hr d g.gives in
    omega (arith, w, l)

else_if : (n : ℕ) (b : Bool) (d : Datum) (o : Option Datum) → bytes d ≤ n → IfKeeps n o → IfKeeps n (if b then Some d else o)
else_if n true d o h k = some_keeps n d h
else_if n false d o h k = k

last_keeps : (s : Span) (items : List Datum) → IfKeeps (all_bytes items) (case_last s items)
last_keeps s [] d e = cc
last_keeps s (x ∷ []) d e = cc
last_keeps s (x ∷ b ∷ bs) d e =
    let w = body_bytes s (b ∷ bs) in
    else_if (all_bytes (x ∷ b ∷ bs)) (is_else (word_of x)) (body s (b ∷ bs)) (case_keys s (x ∷ b ∷ bs) (Some (a_nil s))) (omega (arith, w))
    (λ y k. let l = keys_keep 0 s (x ∷ b ∷ bs) (Some (a_nil s)) (some_keeps 0 (a_nil s) (omega arith)) y k in omega (arith, l)) d e

clauses_keep : (s : Span) (cs : List Datum) → IfKeeps (all_bytes cs) (case_clauses s cs)
clauses_keep s [] d e = some_keeps 0 (a_nil s) (omega arith) d e
clauses_keep s (c ∷ []) d e =
    let g = through (case_last s) (items_of c) d e in
    let w = items_bytes c g.got g.is in
    let l = last_keeps s g.got d g.gives in
    omega (arith, w, l)
clauses_keep s (c ∷ o ∷ others) d e =
    let g = through (λ items. case_keys s items (case_clauses s (o ∷ others))) (items_of c) d e in
    let w = items_bytes c g.got g.is in
    let l = keys_keep (all_bytes (o ∷ others)) s g.got (case_clauses s (o ∷ others)) (clauses_keep s (o ∷ others)) d g.gives in
    omega (arith, w, l)

pub case_keeps : (s : Span) (ds : List Datum) → RowKeeps (all_bytes ds) (case_row s ds)
case_keeps s [] = omega arith
case_keeps s (e ∷ cs) =
    formed (all_bytes (e ∷ cs)) s
    (λ d. stands_for (listed s (word_ s (codes "let") ∷ listed s (listed s (a_variable s new.Chosen ∷ e ∷ []) ∷ []) ∷ d ∷ []))) (case_clauses s cs)
    (λ d k. let l = clauses_keep s cs d k in omega (arith, l))
