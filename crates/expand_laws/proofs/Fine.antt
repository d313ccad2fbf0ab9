-- The data that the table reaches from a form of a text, as far as they are looked into: their first item may be anything that a row
-- makes, the others are data of the text or new variables.
use Rattle.std.proofs.Common.{◌≡◌, ℕ, ◌<◌, ◌≤◌, List, [], ◌∷◌, Some, refl, arith}
use Rattle.std.specs.List.{AllByRecursion}
use Rattle.t_base.specs.declared.basics.Span.{Span}
use Rattle.t_reader.specs.Grammar.{Value, fix, char, nil, truth, string, symbol}
use Rattle.t_forms.specs.Data.{Atom, given, variable, builtin, operation, listing, Datum, atom, cons, items_of, listed}
use Rattle.expand_laws.proofs.Reached.{IsPure, HasBuiltinOps, HasMadeValues}
use Rattle.expand_laws.proofs.Sizes.{size, total, behind, items_size}

abbrev pub IsFineAtom : (Value → Type 0) → Atom → Type 0
IsFineAtom right (given (symbol text)) = Unit {0}
IsFineAtom right (given v) = right v
IsFineAtom right (operation o) = o < 3
IsFineAtom right _ = Unit {0}

-- the operator
abbrev pub IsHead : (Value → Type 0) → Datum → Type 0
IsHead right (atom s a) = IsFineAtom right a
IsHead right (cons s head tail) = IsPure right head × IsPure right tail

-- an operand
abbrev pub IsItem : (Value → Type 0) → Datum → Type 0
IsItem right (atom s (variable n)) = Unit {0}
IsItem right d = IsPure right d

abbrev pub IsTail : (Value → Type 0) → Datum → Type 0
IsTail right (atom s a) = IsPure right (atom s a)
IsTail right (cons s head tail) = IsItem right head × IsTail right tail

abbrev pub IsFine : (Value → Type 0) → Datum → Type 0
IsFine right (atom s a) = IsFineAtom right a
IsFine right (cons s head tail) = IsHead right head × IsTail right tail

-- ---- data of a text are fine

pure_atom : (right : Value → Type 0) (s : Span) (a : Atom) → IsPure right (atom s a) → IsFineAtom right a
pure_atom right s (given (fix z)) h = h
pure_atom right s (given (char c)) h = h
pure_atom right s (given nil) h = h
pure_atom right s (given truth) h = h
pure_atom right s (given (string text)) h = h
pure_atom right s (given (symbol text)) h = tt
pure_atom right s (variable n) h = absurd h
pure_atom right s (builtin p) h = absurd h
pure_atom right s (operation o) h = absurd h
pure_atom right s listing h = absurd h

pub pure_head : (right : Value → Type 0) (d : Datum) → IsPure right d → IsHead right d
pure_head right (atom s a) h = pure_atom right s a h
pure_head right (cons s head tail) h = h

pub pure_item : (right : Value → Type 0) (d : Datum) → IsPure right d → IsItem right d
pure_item right (atom s (given v)) h = h
pure_item right (atom s (variable n)) h = tt
pure_item right (atom s (builtin p)) h = h
pure_item right (atom s (operation o)) h = h
pure_item right (atom s listing) h = h
pure_item right (cons s head tail) h = h

pure_tail : (right : Value → Type 0) (d : Datum) → IsPure right d → IsTail right d
pure_tail right (atom s a) h = h
pure_tail right (cons s head tail) h = (pure_item right head h.0, pure_tail right tail h.1)

pub pure_fine : (right : Value → Type 0) (d : Datum) → IsPure right d → IsFine right d
pure_fine right (atom s a) h = pure_atom right s a h
pure_fine right (cons s head tail) h = (pure_head right head h.0, pure_tail right tail h.1)

pub head_fine : (right : Value → Type 0) (d : Datum) → IsHead right d → IsFine right d
head_fine right (atom s a) h = h
head_fine right (cons s head tail) h = pure_fine right (cons s head tail) h

pub item_fine : (right : Value → Type 0) (d : Datum) → IsItem right d → IsFine right d
item_fine right (atom s (given v)) h = pure_atom right s (given v) h
item_fine right (atom s (variable n)) h = tt
item_fine right (atom s (builtin p)) h = absurd h
item_fine right (atom s (operation o)) h = absurd h
item_fine right (atom s listing) h = absurd h
item_fine right (cons s head tail) h = pure_fine right (cons s head tail) h

-- ---- the operations in them

pub pure_ops : (right : Value → Type 0) (d : Datum) → IsPure right d → HasBuiltinOps d
pure_ops right (atom s (given v)) h = tt
pure_ops right (atom s (variable n)) h = tt
pure_ops right (atom s (builtin p)) h = tt
pure_ops right (atom s (operation o)) h = absurd h
pure_ops right (atom s listing) h = tt
pure_ops right (cons s head tail) h = (pure_ops right head h.0, pure_ops right tail h.1)

atom_ops : (right : Value → Type 0) (s : Span) (a : Atom) → IsFineAtom right a → HasBuiltinOps (atom s a)
atom_ops right s (given v) h = tt
atom_ops right s (variable n) h = tt
atom_ops right s (builtin p) h = tt
atom_ops right s (operation o) h = h
atom_ops right s listing h = tt

item_ops : (right : Value → Type 0) (d : Datum) → IsItem right d → HasBuiltinOps d
item_ops right (atom s (given v)) h = tt
item_ops right (atom s (variable n)) h = tt
item_ops right (atom s (builtin p)) h = tt
item_ops right (atom s (operation o)) h = absurd h
item_ops right (atom s listing) h = tt
item_ops right (cons s head tail) h = (pure_ops right head h.0, pure_ops right tail h.1)

head_ops : (right : Value → Type 0) (d : Datum) → IsHead right d → HasBuiltinOps d
head_ops right (atom s a) h = atom_ops right s a h
head_ops right (cons s head tail) h = (pure_ops right head h.0, pure_ops right tail h.1)

tail_ops : (right : Value → Type 0) (d : Datum) → IsTail right d → HasBuiltinOps d
tail_ops right (atom s a) h = pure_ops right (atom s a) h
tail_ops right (cons s head tail) h = (item_ops right head h.0, tail_ops right tail h.1)

pub fine_ops : (right : Value → Type 0) (d : Datum) → IsFine right d → HasBuiltinOps d
fine_ops right (atom s a) h = atom_ops right s a h
fine_ops right (cons s head tail) h = (head_ops right head h.0, tail_ops right tail h.1)

-- ---- lists

no_items : (P : Datum → Type 0) (ds : List Datum) → Some [] ≡ Some ds → AllByRecursion P ds
no_items P [] e = tt
no_items P (d ∷ ds) e = cc

pub tail_items : (right : Value → Type 0) (d : Datum) (ds : List Datum) → IsTail right d → items_of d ≡ Some ds → AllByRecursion (IsItem right) ds
tail_items right (atom s (given (fix z))) ds h e = cc
tail_items right (atom s (given (char c))) ds h e = cc
tail_items right (atom s (given nil)) ds h e = no_items (IsItem right) ds e
tail_items right (atom s (given truth)) ds h e = cc
tail_items right (atom s (given (string text))) ds h e = cc
tail_items right (atom s (given (symbol text))) ds h e = cc
tail_items right (atom s (variable n)) ds h e = cc
tail_items right (atom s (builtin p)) ds h e = cc
tail_items right (atom s (operation o)) ds h e = cc
tail_items right (atom s listing) ds h e = cc
tail_items right (cons s head tail) ds h e =
    let b = behind head tail ds (items_of tail) refl e in rw b.is (h.0, tail_items right tail b.others h.1 b.are)

pub pure_items : (right : Value → Type 0) (d : Datum) (ds : List Datum) → IsPure right d → items_of d ≡ Some ds → AllByRecursion (IsPure right) ds
pure_items right (atom s (given (fix z))) ds h e = cc
pure_items right (atom s (given (char c))) ds h e = cc
pure_items right (atom s (given nil)) ds h e = no_items (IsPure right) ds e
pure_items right (atom s (given truth)) ds h e = cc
pure_items right (atom s (given (string text))) ds h e = cc
pure_items right (atom s (given (symbol text))) ds h e = cc
pure_items right (atom s (variable n)) ds h e = cc
pure_items right (atom s (builtin p)) ds h e = cc
pure_items right (atom s (operation o)) ds h e = cc
pure_items right (atom s listing) ds h e = cc
pure_items right (cons s head tail) ds h e =
    let b = behind head tail ds (items_of tail) refl e in rw b.is (h.0, pure_items right tail b.others h.1 b.are)

-- an operand that is a list is one of the text
item_items : (right : Value → Type 0) (d : Datum) (ds : List Datum) → IsItem right d → items_of d ≡ Some ds → AllByRecursion (IsPure right) ds
item_items right (atom s (given v)) ds h e = pure_items right (atom s (given v)) ds h e
item_items right (atom s (variable n)) ds h e = cc
item_items right (atom s (builtin p)) ds h e = cc
item_items right (atom s (operation o)) ds h e = cc
item_items right (atom s listing) ds h e = cc
item_items right (cons s head tail) ds h e = pure_items right (cons s head tail) ds h e

pub listed_pure : {right : Value → Type 0} → HasMadeValues right → (s : Span) (ds : List Datum) → AllByRecursion (IsPure right) ds → IsPure right (listed s ds)
listed_pure m s [] h = m.nil_right
listed_pure m s (d ∷ ds) h = (h.0, listed_pure m s ds h.1)

pub listed_tail : {right : Value → Type 0} → HasMadeValues right → (s : Span) (ds : List Datum) → AllByRecursion (IsItem right) ds → IsTail right (listed s ds)
listed_tail m s [] h = m.nil_right
listed_tail m s (d ∷ ds) h = (h.0, listed_tail m s ds h.1)

-- ---- with their size

-- a datum of the text, smaller than a bound
pub record IsSmall (right : Value → Type 0) (n : ℕ) (d : Datum) : Type 0 where
  pub is_pure : IsPure right d
  pub below : size d < n

all_small : (right : Value → Type 0) (n : ℕ) (ds : List Datum) → AllByRecursion (IsPure right) ds → total ds ≤ n → AllByRecursion (IsSmall right n) ds
all_small right n [] h l = tt
all_small right n (d ∷ ds) h l =
    (record { is_pure = h.0; below = omega (arith, l) }, all_small right n ds h.1 (omega (arith, l)))

pub item_small : (right : Value → Type 0) (n : ℕ) (d : Datum) (ds : List Datum) → IsItem right d → size d ≤ n → items_of d ≡ Some ds → AllByRecursion (IsSmall right n) ds
item_small right n d ds h l e =
    all_small right n ds (item_items right d ds h e) (let k = items_size d ds e in omega (arith, l, k))

pub small_items : (right : Value → Type 0) (n : ℕ) (d : Datum) (ds : List Datum) → IsSmall right n d → items_of d ≡ Some ds → AllByRecursion (IsSmall right n) ds
small_items right n d ds h e = item_small right n d ds (pure_item right d h.is_pure) (let l = h.below in omega (arith, l)) e
