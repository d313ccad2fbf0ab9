-- What values name is there.
use Rattle.std.specs.Prelude.{◌≡◌, ℕ, ◌<◌, ◌≤◌, Bool, true, false, List}
use Rattle.std.specs.List.{AllByRecursion}
use Rattle.t_base.specs.declared.builtins.Builtin.{Builtin}
use Rattle.t_base.specs.declared.faults.Fault.{Fault}
use Rattle.t_base.specs.declared.faults.Fault.TheVariants.{Unbound}
use Rattle.t_prim.specs.Values.{Val, ClosureV, ObjectV, Store}
use Rattle.t_prim.specs.Operands.{Row, Gives, Changes, Faults}
use Rattle.t_prim.specs.Table.{row}

-- how many closures, objects and locations were made
pub record Made : Type 0 where
  pub closures : ℕ
  pub objects : ℕ
  pub locations : ℕ

-- none of them goes away
pub record IsLater (a b : Made) : Type 0 where
  pub closures : a.closures ≤ b.closures
  pub objects : a.objects ≤ b.objects
  pub locations : a.locations ≤ b.locations

abbrev pub IsMade : Made → Val → Type 0
IsMade w (ClosureV i) = i < w.closures
IsMade w (ObjectV i) = i < w.objects
IsMade w _ = Unit {0}

abbrev pub AreMade : Made → List Val → Type 0
AreMade w vs = AllByRecursion (IsMade w) vs

abbrev pub IsMadePair : Made → Val × Val → Type 0
IsMadePair w p = IsMade w p.0 × IsMade w p.1

pub record IsMadeStore (w : Made) (s : Store) : Type 0 where
  pub pairs : AllByRecursion (IsMadePair w) s.pairs
  pub vectors : AllByRecursion (AreMade w) s.vectors

abbrev pub is_unbound : Fault → Bool
is_unbound Unbound = true
is_unbound _ = false

-- what a row of the table of builtins gives
abbrev pub IsMadeRow : Made → Row → Type 0
IsMadeRow w (Gives v) = IsMade w v
IsMadeRow w (Changes t v) = IsMadeStore w t × IsMade w v
IsMadeRow w (Faults fault) = is_unbound fault ≡ false

abbrev pub RowsKeepMade : Type 0
RowsKeepMade = (w : Made) (p : Builtin) (args : List Val) (s : Store) → IsMadeStore w s → AreMade w args → IsMadeRow w (row p args s)
