-- Values that need no store, as operands and as results of rows.
use Rattle.std.specs.Prelude.{◌≡◌, List, map, Option, Some, None}
use Rattle.t_base.specs.declared.builtins.Builtin.{Builtin}
use Rattle.t_prim.specs.declared.atoms.Atom.{Atom}
use Rattle.t_prim.specs.declared.atoms.Atom.TheVariants.{Fix, Char, Nil, True}
use Rattle.t_prim.specs.Values.{Val, FixV, CharV, NilV, TrueV, Store}
use Rattle.t_prim.specs.Operands.{Row, Gives, Changes, Faults}
use Rattle.t_prim.specs.Table.{row}

abbrev pub val_of_atom : Atom → Val
val_of_atom (Fix x) = FixV x
val_of_atom (Char c) = CharV c
val_of_atom Nil = NilV
val_of_atom True = TrueV

abbrev pub atom_of_val : Val → Option Atom
atom_of_val (FixV x) = Some (Fix x)
atom_of_val (CharV c) = Some (Char c)
atom_of_val NilV = Some Nil
atom_of_val TrueV = Some True
atom_of_val _ = None

-- the atom that a row gives; none where it faults, touches store or output, or gives what no atom is
abbrev pub atom_of : Row → Option Atom
atom_of (Gives v) = atom_of_val v
atom_of (Changes s v) = None
atom_of (Faults c) = None

-- the answer is the row at these atoms, whatever the store is
abbrev pub IsFold : Builtin → List Atom → Option Atom → Type 0
IsFold p args answer = (s : Store) → answer ≡ atom_of (row p (map val_of_atom args) s)
