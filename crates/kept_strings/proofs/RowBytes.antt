-- What it is for a row to keep to so many bytes, and the rows that are plain: QUOTE, LAMBDA, IF, BLOCK, CATCH, AND, OR, and atoms.
use Rattle.std.proofs.Common.{◌≡◌, ℕ, ◌+◌, ◌≤◌, Bool, true, false, if◌then◌else◌, List, [], ◌∷◌, ◌++◌, map, Option, Some, None, refl, arith}
use Rattle.std.specs.Option.{option_and_then}
use Rattle.t_base.specs.declared.basics.Span.{Span}
use Rattle.t_reader.specs.Grammar.{fix, char, nil, truth, string, symbol}
use Rattle.t_forms.specs.Data.{Atom, given, variable, builtin, operation, listing, Datum, atom, cons, items_of, name_of, binders_of, names, made}
use Rattle.t_forms.specs.Names.{Meaning, a_local, a_global, an_op, the_builtin, the_operation, the_truth, the_listing, none, Scope, meaning}
use Rattle.t_rows.specs.Rows.{Row, stands_for, node, Shape, constant, lambda, catch_, Part, plain, inside, if_formed, body, twice, quote_row, lambda_row, if_row, block_row, catch_row, and_row, or_row, name_row, atom_row}
use Rattle.expand_laws.proofs.Always.{weigh}
use Rattle.kept_strings.proofs.Bytes.{bytes, all_bytes, bytes_listed, body_bytes}

abbrev pub shape_bytes : Shape → ℕ
shape_bytes (constant d) = bytes d
shape_bytes _ = 0

abbrev pub parts_bytes : List Part → ℕ
parts_bytes [] = 0
parts_bytes (p ∷ ps) = bytes p.form + parts_bytes ps

-- what the row gives has so many bytes at most
abbrev pub RowKeeps : ℕ → Row → Type 0
RowKeeps n (stands_for e) = bytes e ≤ n
RowKeeps n (node shape refusals parts) = shape_bytes shape + parts_bytes parts ≤ n

pub row_more : (n m : ℕ) (r : Row) → n ≤ m → RowKeeps n r → RowKeeps m r
row_more n m (stands_for e) l h = omega (arith, l, h)
row_more n m (node shape refusals parts) l h = omega (arith, l, h)

pub formed : {A : Type 0} (n : ℕ) (s : Span) (f : A → Row) (o : Option A) → ((x : A) → o ≡ Some x → RowKeeps n (f x)) → RowKeeps n (if_formed s f o)
formed n s f None h = omega arith
formed n s f (Some x) h = h x refl

pub either_row : (n : ℕ) (b : Bool) (x y : Row) → RowKeeps n x → RowKeeps n y → RowKeeps n (if b then x else y)
either_row n true x y h k = h
either_row n false x y h k = k

-- ---- parts

pub plain_bytes : (ds : List Datum) → parts_bytes (map plain ds) ≡ all_bytes ds
plain_bytes [] = refl
plain_bytes (d ∷ ds) = let e = plain_bytes ds in omega (arith, e)

-- a part for each, and others behind them
pub each_bytes : {A : Type 0} (f : A → Part) (g : A → ℕ) (xs : List A) (ps : List Part) → ((x : A) → bytes (f x).form ≡ g x)
    → parts_bytes (map f xs ++ ps) ≡ weigh g xs + parts_bytes ps
each_bytes f g [] ps same = omega arith
each_bytes f g (x ∷ xs) ps same = let e = each_bytes f g xs ps same in let h = same x in omega (arith, e, h)

pub only_bytes : {A : Type 0} (f : A → Part) (g : A → ℕ) (xs : List A) → ((x : A) → bytes (f x).form ≡ g x) → parts_bytes (map f xs) ≡ weigh g xs
only_bytes f g [] same = refl
only_bytes f g (x ∷ xs) same = let e = only_bytes f g xs same in let h = same x in omega (arith, e, h)

-- ---- rows

quote_more : (n : ℕ) (s : Span) (d e : Datum) (ds : List Datum) → RowKeeps n (quote_row s (d ∷ e ∷ ds))
quote_more n s (atom t (given v)) e ds = omega arith
quote_more n s (atom t (variable u)) e ds = omega arith
quote_more n s (atom t (builtin p)) e ds = omega arith
quote_more n s (atom t (operation o)) e ds = omega arith
quote_more n s (atom t listing) e ds = omega arith
quote_more n s (cons t head tail) e ds = omega arith

pub quote_keeps : (s : Span) (ds : List Datum) → RowKeeps (all_bytes ds) (quote_row s ds)
quote_keeps s [] = omega arith
quote_keeps s (atom t (given v) ∷ []) = omega arith
quote_keeps s (atom t (variable u) ∷ []) = omega arith
quote_keeps s (atom t (builtin p) ∷ []) = omega arith
quote_keeps s (atom t (operation o) ∷ []) = omega arith
quote_keeps s (atom t listing ∷ []) = omega arith
quote_keeps s (cons t head tail ∷ []) = omega arith
quote_keeps s (d ∷ e ∷ ds) = quote_more (all_bytes (d ∷ e ∷ ds)) s d e ds

pub lambda_keeps : (s : Span) (ds : List Datum) → RowKeeps (all_bytes ds) (lambda_row s ds)
lambda_keeps s [] = omega arith
lambda_keeps s (params ∷ []) = omega arith
lambda_keeps s (params ∷ b ∷ bs) =
    let w = body_bytes s (b ∷ bs) in
    formed (all_bytes (params ∷ b ∷ bs)) s (λ xs. node lambda (twice xs) (inside (names xs) (body s (b ∷ bs)) ∷ [])) (option_and_then binders_of (items_of params))
    (λ xs e. omega (arith, w))

pub if_keeps : (s : Span) (ds : List Datum) → RowKeeps (all_bytes ds) (if_row s ds)
if_keeps s [] = omega arith
if_keeps s (a ∷ []) = omega arith
if_keeps s (a ∷ b ∷ []) = omega arith
if_keeps s (a ∷ b ∷ c ∷ []) = omega arith
if_keeps s (a ∷ b ∷ c ∷ d ∷ ds) = omega arith

pub block_keeps : (s : Span) (ds : List Datum) → RowKeeps (all_bytes ds) (block_row s ds)
block_keeps s [] = omega arith
block_keeps s (a ∷ []) = omega arith
block_keeps s (a ∷ b ∷ ds) = let w = plain_bytes (a ∷ b ∷ ds) in omega (arith, w)

pub catch_keeps : (s : Span) (ds : List Datum) → RowKeeps (all_bytes ds) (catch_row s ds)
catch_keeps s [] = omega arith
catch_keeps s (j ∷ []) = omega arith
catch_keeps s (j ∷ b ∷ bs) =
    let w = body_bytes s (b ∷ bs) in
    formed (all_bytes (j ∷ b ∷ bs)) s (λ n. node catch_ [] (inside (n ∷ []) (body s (b ∷ bs)) ∷ [])) (name_of j) (λ n e. omega (arith, w))

pub and_keeps : (s : Span) (ds : List Datum) → RowKeeps (all_bytes ds) (and_row s ds)
and_keeps s [] = omega arith
and_keeps s (a ∷ []) = omega arith
and_keeps s (a ∷ b ∷ others) = let w = bytes_listed s (b ∷ others) in omega (arith, w)

pub or_keeps : (s : Span) (ds : List Datum) → RowKeeps (all_bytes ds) (or_row s ds)
or_keeps s [] = omega arith
or_keeps s (a ∷ []) = omega arith
or_keeps s (a ∷ b ∷ others) = let w = bytes_listed s (b ∷ others) in omega (arith, w)

-- ---- atoms

name_keeps : (n : ℕ) (s : Span) (x : Meaning) → RowKeeps n (name_row s x)
name_keeps n s (a_local v) = omega arith
name_keeps n s (a_global g assigned) = omega arith
name_keeps n s (an_op o) = omega arith
name_keeps n s (the_builtin p) = omega arith
name_keeps n s (the_operation o) = omega arith
name_keeps n s the_truth = omega arith
name_keeps n s the_listing = omega arith
name_keeps n s none = omega arith

pub atom_keeps : (scope : Scope) (s : Span) (a : Atom) → RowKeeps (bytes (atom s a)) (atom_row scope s a)
atom_keeps scope s (given (fix z)) = omega arith
atom_keeps scope s (given (char c)) = omega arith
atom_keeps scope s (given nil) = omega arith
atom_keeps scope s (given truth) = omega arith
atom_keeps scope s (given (string text)) = omega arith
atom_keeps scope s (given (symbol text)) =
    formed 0 s (λ n. name_row s (meaning scope n)) (name_of (atom s (given (symbol text)))) (λ n e. name_keeps 0 s (meaning scope n))
atom_keeps scope s (variable n) = name_keeps 0 s (meaning scope (made n))
atom_keeps scope s (builtin p) = omega arith
atom_keeps scope s (operation o) = omega arith
atom_keeps scope s listing = omega arith
