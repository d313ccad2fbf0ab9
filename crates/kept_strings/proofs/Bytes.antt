-- The bytes of the strings in data.
use Rattle.std.proofs.Common.{◌≡◌, ℕ, ◌+◌, List, [], ◌∷◌, ◌++◌, length, Some, refl, arith, ap}
use Rattle.t_base.specs.declared.basics.Span.{Span}
use Rattle.t_reader.specs.Grammar.{fix, char, nil, truth, string, symbol}
use Rattle.t_forms.specs.Data.{given, variable, builtin, operation, listing, Datum, atom, cons, items_of, listed, Name, written, made, Binder, binder_of}
use Rattle.t_rows.specs.Rows.{body, name_atom, name_datum}
use Rattle.expand_laws.proofs.Always.{weigh}
use Rattle.expand_laws.proofs.Sizes.{Behind, behind}

abbrev pub bytes : Datum → ℕ
bytes (atom s (given (string text))) = length text
bytes (atom s _) = 0
bytes (cons s head tail) = bytes head + bytes tail

abbrev pub all_bytes : List Datum → ℕ
all_bytes ds = weigh bytes ds

pub bytes_listed : (s : Span) (ds : List Datum) → bytes (listed s ds) ≡ all_bytes ds
bytes_listed s [] = refl
bytes_listed s (d ∷ ds) = let e = bytes_listed s ds in omega (arith, e)

pub bytes_append : (xs ys : List Datum) → all_bytes (xs ++ ys) ≡ all_bytes xs + all_bytes ys
bytes_append [] ys = omega arith
bytes_append (x ∷ xs) ys = let e = bytes_append xs ys in omega (arith, e)

pub body_bytes : (s : Span) (ds : List Datum) → bytes (body s ds) ≡ all_bytes ds
body_bytes s [] = refl
body_bytes s (b ∷ []) = omega arith
body_bytes s (b ∷ c ∷ ds) = let e = bytes_listed s (b ∷ c ∷ ds) in omega (arith, e)

no_others : (ds : List Datum) → Some [] ≡ Some ds → all_bytes ds ≡ 0
no_others [] e = refl
no_others (d ∷ ds) e = cc

pub items_bytes : (d : Datum) (ds : List Datum) → items_of d ≡ Some ds → bytes d ≡ all_bytes ds
items_bytes (atom s (given (fix z))) ds e = cc
items_bytes (atom s (given (char c))) ds e = cc
items_bytes (atom s (given nil)) ds e = let n = no_others ds e in omega (arith, n)
items_bytes (atom s (given truth)) ds e = cc
items_bytes (atom s (given (string text))) ds e = cc
items_bytes (atom s (given (symbol text))) ds e = cc
items_bytes (atom s (variable n)) ds e = cc
items_bytes (atom s (builtin p)) ds e = cc
items_bytes (atom s (operation o)) ds e = cc
items_bytes (atom s listing) ds e = cc
items_bytes (cons s head tail) ds e =
    let b : Behind head tail ds = behind head tail ds (items_of tail) refl e in
    let n = items_bytes tail b.others b.are in
    let m : all_bytes ds ≡ bytes head + all_bytes b.others = ap all_bytes b.is in
    omega (arith, n, m)

-- a name has none
pub binder_bytes : (d : Datum) (b : Binder) → binder_of d ≡ Some b → bytes d ≡ 0
binder_bytes (atom s (given (fix z))) b e = refl
binder_bytes (atom s (given (char c))) b e = refl
binder_bytes (atom s (given nil)) b e = refl
binder_bytes (atom s (given truth)) b e = refl
binder_bytes (atom s (given (string text))) b e = absurd (let x : ⊥ = cc in x)
binder_bytes (atom s (given (symbol text))) b e = refl
binder_bytes (atom s (variable n)) b e = refl
binder_bytes (atom s (builtin p)) b e = refl
binder_bytes (atom s (operation o)) b e = refl
binder_bytes (atom s listing) b e = refl
binder_bytes (cons s head tail) b e = absurd (let x : ⊥ = cc in x)

name_bytes : (s : Span) (n : Name) → bytes (atom s (name_atom n)) ≡ 0
name_bytes s (written text) = refl
name_bytes s (made n) = refl

pub named_bytes : (b : Binder) → bytes (name_datum b) ≡ 0
named_bytes b = name_bytes b.at b.name
