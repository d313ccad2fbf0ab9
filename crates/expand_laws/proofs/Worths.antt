-- How much the table may make of data. Each word of a text, each pair and each end of a list is worth so much that it pays for what the
-- rows add to a form; a new variable is worth its node alone.
use Rattle.std.proofs.Common.{◌≡◌, ℕ, ◌+◌, ◌-◌, ◌*◌, ◌≤◌, List, [], ◌∷◌, ◌++◌, Some, refl, ap, arith}
use Rattle.t_base.specs.declared.basics.Span.{Span}
use Rattle.t_reader.specs.Grammar.{Value, fix, char, nil, truth, string, symbol}
use Rattle.t_forms.specs.Data.{given, variable, builtin, operation, listing, Datum, atom, cons, items_of, listed}
use Rattle.expand_laws.proofs.Reached.{IsPure}
use Rattle.expand_laws.proofs.Sizes.{size, behind}
use Rattle.expand_laws.proofs.Fine.{IsTail}

abbrev pub worth : Datum → ℕ
worth (atom s (variable n)) = 1
worth (atom s a) = 64
worth (cons s head tail) = 16 + worth head + worth tail

abbrev pub worths : List Datum → ℕ
worths [] = 0
worths (d ∷ ds) = 16 + worth d + worths ds

-- what is spent at most on a form that stands by itself; the others of what it is worth are left for what is put around it
abbrev pub least : Datum → ℕ
least (atom s (variable n)) = 1
least (atom s a) = 32
least (cons s head tail) = 16 + worth head + worth tail - 32

pub worth_some : (d : Datum) → 1 ≤ worth d
worth_some (atom s (given v)) = omega arith
worth_some (atom s (variable n)) = omega arith
worth_some (atom s (builtin p)) = omega arith
worth_some (atom s (operation o)) = omega arith
worth_some (atom s listing) = omega arith
worth_some (cons s head tail) = omega arith

pub size_worth : (d : Datum) → size d ≤ worth d
size_worth (atom s (given v)) = omega arith
size_worth (atom s (variable n)) = omega arith
size_worth (atom s (builtin p)) = omega arith
size_worth (atom s (operation o)) = omega arith
size_worth (atom s listing) = omega arith
size_worth (cons s head tail) =
    let a = size_worth head in
    let b = size_worth tail in
    omega (arith, a, b)

pub worth_size : (d : Datum) → worth d ≤ 64 * size d
worth_size (atom s (given v)) = omega arith
worth_size (atom s (variable n)) = omega arith
worth_size (atom s (builtin p)) = omega arith
worth_size (atom s (operation o)) = omega arith
worth_size (atom s listing) = omega arith
worth_size (cons s head tail) =
    let a = worth_size head in
    let b = worth_size tail in
    omega (arith, a, b)

pub least_worth : (d : Datum) → least d ≤ worth d
least_worth (atom s (given v)) = omega arith
least_worth (atom s (variable n)) = omega arith
least_worth (atom s (builtin p)) = omega arith
least_worth (atom s (operation o)) = omega arith
least_worth (atom s listing) = omega arith
least_worth (cons s head tail) = omega arith

-- ---- data of the text

pub pure_worth : (right : Value → Type 0) (d : Datum) → IsPure right d → 64 ≤ worth d
pure_worth right (atom s (given v)) h = omega arith
pure_worth right (atom s (variable n)) h = absurd h
pure_worth right (atom s (builtin p)) h = absurd h
pure_worth right (atom s (operation o)) h = absurd h
pure_worth right (atom s listing) h = absurd h
pure_worth right (cons s head tail) h = let a = pure_worth right head h.0 in omega (arith, a)

pub pure_least : (right : Value → Type 0) (d : Datum) → IsPure right d → least d + 32 ≤ worth d
pure_least right (atom s (given v)) h = omega arith
pure_least right (atom s (variable n)) h = absurd h
pure_least right (atom s (builtin p)) h = absurd h
pure_least right (atom s (operation o)) h = absurd h
pure_least right (atom s listing) h = absurd h
pure_least right (cons s head tail) h = let a = pure_worth right head h.0 in omega (arith, a)

pub tail_worth : (right : Value → Type 0) (d : Datum) → IsTail right d → 64 ≤ worth d
tail_worth right (atom s a) h = pure_worth right (atom s a) h
tail_worth right (cons s head tail) h = let a = tail_worth right tail h.1 in omega (arith, a)

-- ---- lists

pub worth_listed : (s : Span) (ds : List Datum) → worth (listed s ds) ≡ 64 + worths ds
worth_listed s [] = omega arith
worth_listed s (d ∷ ds) = let e = worth_listed s ds in omega (arith, e)

pub worths_append : (xs ys : List Datum) → worths (xs ++ ys) ≡ worths xs + worths ys
worths_append [] ys = omega arith
worths_append (x ∷ xs) ys = let e = worths_append xs ys in omega (arith, e)

no_worth : (ds : List Datum) → Some [] ≡ Some ds → worths ds ≡ 0
no_worth [] e = refl
no_worth (d ∷ ds) e = cc

pub items_worth : (d : Datum) (ds : List Datum) → items_of d ≡ Some ds → worth d ≡ 64 + worths ds
items_worth (atom s (given (fix z))) ds e = cc
items_worth (atom s (given (char c))) ds e = cc
items_worth (atom s (given nil)) ds e = let n = no_worth ds e in omega (arith, n)
items_worth (atom s (given truth)) ds e = cc
items_worth (atom s (given (string text))) ds e = cc
items_worth (atom s (given (symbol text))) ds e = cc
items_worth (atom s (variable n)) ds e = cc
items_worth (atom s (builtin p)) ds e = cc
items_worth (atom s (operation o)) ds e = cc
items_worth (atom s listing) ds e = cc
items_worth (cons s head tail) ds e =
    let b = behind head tail ds (items_of tail) refl e in
    let n = items_worth tail b.others b.are in
    let m : worths ds ≡ 16 + worth head + worths b.others = ap worths b.is in
    omega (arith, n, m)
