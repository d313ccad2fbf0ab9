-- How large data are, and that the items of a list are smaller than the list.
use Rattle.std.proofs.Common.{◌≡◌, ℕ, ◌+◌, ◌<◌, List, [], ◌∷◌, Option, Some, None, refl, ap, arith}
use Rattle.std.specs.Option.{option_map}
use Rattle.t_base.specs.declared.basics.Span.{Span}
use Rattle.t_reader.specs.Grammar.{fix, char, nil, truth, string, symbol}
use Rattle.t_forms.specs.Data.{given, variable, builtin, operation, listing, Datum, atom, cons, items_of, listed}

-- one for each atom and for each pair
abbrev pub size : Datum → ℕ
size (atom s a) = 1
size (cons s head tail) = 1 + size head + size tail

abbrev pub total : List Datum → ℕ
total [] = 0
total (d ∷ ds) = 1 + size d + total ds

pub size_some : (d : Datum) → 0 < size d
size_some (atom s a) = omega arith
size_some (cons s head tail) = omega arith

pub size_listed : (s : Span) (ds : List Datum) → size (listed s ds) ≡ 1 + total ds
size_listed s [] = omega arith
size_listed s (d ∷ ds) = let e = size_listed s ds in omega (arith, e)

pub items_listed : (s : Span) (ds : List Datum) → items_of (listed s ds) ≡ Some ds
items_listed s [] = refl
items_listed s (d ∷ ds) = ap (λ o. option_map (λ items. d ∷ items) o) (items_listed s ds)

-- what stands behind the first item
pub record Behind (head tail : Datum) (ds : List Datum) : Type 0 where
  pub others : List Datum
  pub are : items_of tail ≡ Some others
  pub is : ds ≡ head ∷ others

pub behind : (head tail : Datum) (ds : List Datum) (o : Option (List Datum)) → items_of tail ≡ o → option_map (λ items. head ∷ items) o ≡ Some ds
    → Behind head tail ds
behind head tail ds None e h = cc
behind head tail ds (Some others) e h = record { others = others; are = e; is = cc }

no_others : (ds : List Datum) → Some [] ≡ Some ds → total ds ≡ 0
no_others [] e = refl
no_others (d ∷ ds) e = cc

pub items_size : (d : Datum) (ds : List Datum) → items_of d ≡ Some ds → size d ≡ 1 + total ds
items_size (atom s (given (fix z))) ds e = cc
items_size (atom s (given (char c))) ds e = cc
items_size (atom s (given nil)) ds e = let n = no_others ds e in omega (arith, n)
items_size (atom s (given truth)) ds e = cc
items_size (atom s (given (string text))) ds e = cc
items_size (atom s (given (symbol text))) ds e = cc
items_size (atom s (variable n)) ds e = cc
items_size (atom s (builtin p)) ds e = cc
items_size (atom s (operation o)) ds e = cc
items_size (atom s listing) ds e = cc
items_size (cons s head tail) ds e =
    let b = behind head tail ds (items_of tail) refl e in
    let n = items_size tail b.others b.are in
    let m : total ds ≡ 1 + size head + total b.others = ap total b.is in
    omega (arith, n, m)
