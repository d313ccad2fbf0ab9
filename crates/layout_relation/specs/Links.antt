-- Which values of the run of a program are the same as which of the run of its frames. What has an identity is tied to an address: ties
-- are pairs of numbers, so that no value is followed into what it holds.
use Rattle.std.specs.Prelude.{◌≡◌, ℕ, ℤ, ◌≤◌, ◌<◌, nat_eq, Bool, true, false, List, [], ◌∷◌, Option, Some, None}
use Rattle.std.specs.List.{AllZip}
use Rattle.t_base.specs.declared.builtins.Builtin.{Builtin}
use Rattle.t_base.specs.declared.faults.Fault.{Fault}
use Rattle.t_prim.specs.Values.{Text, Val, FixV, CharV, NilV, TrueV, SymbolV, StringV, PairV, VectorV, ClosureV, ObjectV, OperationV, BuiltinV, EscapeV, Store}
use Rattle.t_prim.specs.Operands.{Row, Gives, Changes, Faults}
use Rattle.cps_ir.specs.States.{Meant, Direct, InLocation}
use Rattle.frame_ir.specs.Values.{Value, Lasting, CellAt}

-- ---- lists

pub data IsIn {X : Type 0} : X → List X → Type 0 where
  first : (x : X) (xs : List X) → IsIn x (x ∷ xs)
  later : (x y : X) (xs : List X) → IsIn x xs → IsIn x (y ∷ xs)

pub data Zipped {A B : Type 0} (R : A → B → Type 0) : List A → List B → Type 0 where
  zip_none : Zipped R [] []
  zip_one : (x : A) (y : B) (xs : List A) (ys : List B) → R x y → Zipped R xs ys → Zipped R (x ∷ xs) (y ∷ ys)

pub data SameOption {X Y : Type 0} (R : X → Y → Type 0) : Option X → Option Y → Type 0 where
  neither : SameOption R None None
  both : (x : X) (y : Y) → R x y → SameOption R (Some x) (Some y)

-- ---- ties

abbrev pub Ties : Type 0
Ties = List (ℕ × ℕ)

abbrev pub IsTied : Ties → ℕ → ℕ → Type 0
IsTied ties i j = IsIn (i, j) ties

-- The number of the one run first: closures, and escapes by the catch and by the birth of its frame. Objects are made one for one, and
-- so are cells: each has the number of the other's, below how many there are.
pub record Links : Type 0 where
  pub closures : Ties
  pub escapes : Ties
  pub objects : ℕ
  pub cells : ℕ

-- ties are only added
pub record Extends (old new : Links) : Type 0 where
  pub closures : (i j : ℕ) → IsTied old.closures i j → IsTied new.closures i j
  pub escapes : (i j : ℕ) → IsTied old.escapes i j → IsTied new.escapes i j
  pub objects : old.objects ≤ new.objects
  pub cells : old.cells ≤ new.cells

-- two things are one exactly where their addresses are
abbrev pub IsOneToOne : Ties → Type 0
IsOneToOne ties = (i j k l : ℕ) → IsTied ties i j → IsTied ties k l → nat_eq i k ≡ nat_eq j l

pub record AreOneToOne (links : Links) : Type 0 where
  pub closures : IsOneToOne links.closures
  pub escapes : IsOneToOne links.escapes

-- ---- values

pub data SameVal (links : Links) : Val → Val → Type 0 where
  fix : (z : ℤ) → SameVal links (FixV z) (FixV z)
  char : (c : ℕ) → SameVal links (CharV c) (CharV c)
  nil : SameVal links NilV NilV
  truth : SameVal links TrueV TrueV
  symbol : (n : ℕ) → SameVal links (SymbolV n) (SymbolV n)
  string : (t : Text) → SameVal links (StringV t) (StringV t)
  pair : (k : ℕ) → SameVal links (PairV k) (PairV k)
  vector : (k : ℕ) → SameVal links (VectorV k) (VectorV k)
  closure : (i j : ℕ) → IsTied links.closures i j → SameVal links (ClosureV i) (ClosureV j)
  object : (i : ℕ) → i < links.objects → SameVal links (ObjectV i) (ObjectV i)
  operation : (o : ℕ) → SameVal links (OperationV o) (OperationV o)
  builtin : (b : Builtin) → SameVal links (BuiltinV b) (BuiltinV b)
  escape : (i j : ℕ) → IsTied links.escapes i j → SameVal links (EscapeV i) (EscapeV j)

-- what a variable stands for and what a variable of the frames holds, as a cell or not. No closure stands in a frame yet.
pub data SameMeant (links : Links) : Bool → Meant → Value → Type 0 where
  value : (a b : Val) → SameVal links a b → SameMeant links false (Direct a) (Lasting b)
  cell : (i : ℕ) → i < links.cells → SameMeant links true (InLocation i) (CellAt i)

-- ---- stores

pub record SamePair (links : Links) (p q : Val × Val) : Type 0 where
  pub head : SameVal links p.0 q.0
  pub tail : SameVal links p.1 q.1

abbrev pub SameList : Links → List Val → List Val → Type 0
SameList links vs ws = AllZip (SameVal links) vs ws

-- the frames take no more words of heap
pub record SameStore (links : Links) (s t : Store) : Type 0 where
  pub names : s.names ≡ t.names
  pub strings : s.strings ≡ t.strings
  pub pairs : AllZip (SamePair links) s.pairs t.pairs
  pub vectors : AllZip (SameList links) s.vectors t.vectors
  pub output : s.output ≡ t.output
  pub heap : t.heap ≤ s.heap

pub data SameRow (links : Links) : Row → Row → Type 0 where
  gives : (x y : Val) → SameVal links x y → SameRow links (Gives x) (Gives y)
  changes : (s t : Store) (x y : Val) → SameStore links s t → SameVal links x y → SameRow links (Changes s x) (Changes t y)
  faults : (fault : Fault) → SameRow links (Faults fault) (Faults fault)
