-- The shape of a row where nothing is refused at the form, and what the parts of rows share.
use Rattle.std.proofs.Common.{◌≡◌, Bool, true, false, List, [], ◌∷◌, map, Option, Some, None, if◌then◌else◌, IfSome, refl, sym}
use Rattle.std.specs.List.{AllByRecursion}
use Rattle.std.specs.Option.{option_map, option_and_then}
use Rattle.t_base.specs.declared.basics.Span.{Span}
use Rattle.t_forms.specs.Data.{given, Datum, atom, cons, items_of, all_of}
use Rattle.t_reader.specs.Grammar.{nil}
use Rattle.t_forms.specs.Names.{Scope}
use Rattle.t_rows.specs.declared.refusal.Refusal.{Refusal}
use Rattle.t_rows.specs.Rows.{Shape, Part, Row, stands_for, node, if_formed}
use Rattle.expand_laws.proofs.Reached.{IsShaped}

-- where the row is a node at which nothing is refused, its parts are those of its shape
abbrev pub RowShaped : Scope → Row → Type 0
RowShaped scope (stands_for e) = Unit {0}
RowShaped scope (node shape [] parts) = IsShaped scope shape parts
RowShaped scope (node shape (r ∷ rs) parts) = Unit {0}

pub shaped_where_none : (scope : Scope) (shape : Shape) (rs : List Refusal) (parts : List Part) → (rs ≡ [] → IsShaped scope shape parts)
    → RowShaped scope (node shape rs parts)
shaped_where_none scope shape [] parts h = h refl
shaped_where_none scope shape (r ∷ rs) parts h = tt

pub shaped_if_formed : {A : Type 0} (scope : Scope) (s : Span) (f : A → Row) (o : Option A) → ((x : A) → o ≡ Some x → RowShaped scope (f x))
    → RowShaped scope (if_formed s f o)
shaped_if_formed scope s f None h = tt
shaped_if_formed scope s f (Some x) h = h x refl

pub shaped_if : (scope : Scope) (b : Bool) (here there : Row) → RowShaped scope here → RowShaped scope there → RowShaped scope (if b then here else there)
shaped_if scope true here there h i = h
shaped_if scope false here there h i = i

-- ---- what holds of each

pub some_each : {A : Type 0} (P : A → Type 0) (o : Option A) (x : A) → o ≡ Some x → IfSome o P → P x
some_each P None x e h = cc
some_each P (Some y) x e h = let same : y ≡ x = cc in rw (← same) h

each_onto : {A : Type 0} (P : A → Type 0) (x : A) (o : Option (List A)) → P x → IfSome o (AllByRecursion P)
    → IfSome (option_map (λ xs. x ∷ xs) o) (AllByRecursion P)
each_onto P x None p h = tt
each_onto P x (Some xs) p h = (p, h)

-- what holds of a pair's parts where it holds of the pair, holds of the items of a list
pub items_if : (P : Datum → Type 0) → ((s : Span) (head tail : Datum) → P (cons s head tail) → P head × P tail) → (d : Datum) → P d
    → IfSome (items_of d) (AllByRecursion P)
items_if P parts (atom s (given nil)) h = tt
items_if P parts (atom s _) h = tt
items_if P parts (cons s head tail) h =
    each_onto P head (items_of tail) (parts s head tail h).0 (items_if P parts tail (parts s head tail h).1)

pub items_each : (P : Datum → Type 0) → ((s : Span) (head tail : Datum) → P (cons s head tail) → P head × P tail) → (d : Datum) (ds : List Datum)
    → P d → items_of d ≡ Some ds → AllByRecursion P ds
items_each P parts d ds h e = some_each (AllByRecursion P) (items_of d) ds e (items_if P parts d h)

option_onto : {A : Type 0} (P : A → Type 0) (o : Option A) (os : List (Option A)) → ((x : A) → o ≡ Some x → P x) → IfSome (all_of os) (AllByRecursion P)
    → IfSome (all_of (o ∷ os)) (AllByRecursion P)
option_onto P None os h i = tt
option_onto P (Some x) os h i = each_onto P x (all_of os) (h x refl) i

all_if : {A B : Type 0} (Q : A → Type 0) (P : B → Type 0) (f : A → Option B) → ((a : A) (x : B) → Q a → f a ≡ Some x → P x) → (items : List A)
    → AllByRecursion Q items → IfSome (all_of (map f items)) (AllByRecursion P)
all_if Q P f h [] i = tt
all_if Q P f h (a ∷ items) i = option_onto P (f a) (map f items) (λ x e. h a x i.0 e) (all_if Q P f h items i.1)

-- what holds of each that a function gives, where it gives all
pub all_each : {A B : Type 0} (Q : A → Type 0) (P : B → Type 0) (f : A → Option B) → ((a : A) (x : B) → Q a → f a ≡ Some x → P x) → (items : List A)
    (xs : List B) → AllByRecursion Q items → all_of (map f items) ≡ Some xs → AllByRecursion P xs
all_each Q P f h items xs i e = some_each (AllByRecursion P) (all_of (map f items)) xs e (all_if Q P f h items i)

pub each_map : {A B : Type 0} (Q : A → Type 0) (P : B → Type 0) (f : A → B) → ((a : A) → Q a → P (f a)) → (items : List A) → AllByRecursion Q items
    → AllByRecursion P (map f items)
each_map Q P f h [] i = tt
each_map Q P f h (a ∷ items) i = (h a i.0, each_map Q P f h items i.1)

pub each_true : {A : Type 0} (items : List A) → AllByRecursion (λ a. Unit {0}) items
each_true [] = tt
each_true (a ∷ items) = (tt, each_true items)

-- what an option gives behind another
pub mapped : {A B : Type 0} (f : A → B) (o : Option A) (y : B) → option_map f o ≡ Some y → (x : A) × (o ≡ Some x) × (y ≡ f x)
mapped f None y e = cc
mapped f (Some x) y e = let same : f x ≡ y = cc in (x, refl, sym same)

pub chained : {A B : Type 0} (f : A → Option B) (o : Option A) (y : B) → option_and_then f o ≡ Some y → (x : A) × (o ≡ Some x) × (f x ≡ Some y)
chained f None y e = cc
chained f (Some x) y e = (x, refl, e)
