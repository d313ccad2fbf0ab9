-- Rows at atoms.
use Rattle.std.proofs.Common.{◌≡◌, ◌<◌, ◌≤◌, List, [], ◌∷◌, length, map, get_or, Option, Some, sym, refl, subst, ap, arith}
use Rattle.t_base.specs.declared.builtins.Builtin.{Builtin}
use Rattle.t_prim.specs.declared.atoms.Atom.{Atom}
use Rattle.t_prim.specs.declared.atoms.Atom.TheVariants.{Fix, Char, Nil, True}
use Rattle.t_prim.specs.Values.{FixV, CharV, NilV, TrueV, SymbolV, StringV, PairV, VectorV, ClosureV, ObjectV, OperationV, BuiltinV, EscapeV, Store}
use Rattle.t_prim.specs.Operands.{Row, Gives, Changes, Faults}
use Rattle.t_prim.specs.Table.{row}
use Rattle.t_prim.specs.Atoms.{IsFold, atom_of, val_of_atom}

-- equal operands have equal answers
pub fold_at : (p : Builtin) (xs ys : List Atom) (answer : Option Atom) → ys ≡ xs → IsFold p xs answer → IsFold p ys answer
fold_at p xs ys answer same h = let P : List Atom → Type 0 = λ zs. IsFold p zs answer in subst P (sym same) h

module _ {X : Type 0} where
  pub one_item : (xs : List X) (d : X) → 1 ≤ length xs → length xs < 2 → xs ≡ get_or xs 0 d ∷ []
  one_item [] d some few = absurd (omega arith)
  one_item (a ∷ []) d some few = refl
  one_item (a ∷ b ∷ rest) d some few = absurd (omega arith)

  pub two_items : (xs : List X) (d : X) → 2 ≤ length xs → length xs < 3 → xs ≡ get_or xs 0 d ∷ get_or xs 1 d ∷ []
  two_items [] d some few = absurd (omega arith)
  two_items (a ∷ []) d some few = absurd (omega arith)
  two_items (a ∷ b ∷ []) d some few = refl
  two_items (a ∷ b ∷ c ∷ rest) d some few = absurd (omega arith)

same_atom : (b a : Atom) → Some b ≡ Some a → Gives (val_of_atom b) ≡ Gives (val_of_atom a)
same_atom b a e = let same : b ≡ a = cc in ap (λ x. Gives (val_of_atom x)) same

-- a row that is an atom gives it and changes nothing
pub gives_atom : (r : Row) (a : Atom) → atom_of r ≡ Some a → r ≡ Gives (val_of_atom a)
gives_atom (Gives (FixV x)) a e = same_atom (Fix x) a e
gives_atom (Gives (CharV c)) a e = same_atom (Char c) a e
gives_atom (Gives NilV) a e = same_atom Nil a e
gives_atom (Gives TrueV) a e = same_atom True a e
gives_atom (Gives (SymbolV n)) a e = cc
gives_atom (Gives (StringV t)) a e = cc
gives_atom (Gives (PairV k)) a e = cc
gives_atom (Gives (VectorV k)) a e = cc
gives_atom (Gives (ClosureV i)) a e = cc
gives_atom (Gives (ObjectV i)) a e = cc
gives_atom (Gives (OperationV o)) a e = cc
gives_atom (Gives (BuiltinV p)) a e = cc
gives_atom (Gives (EscapeV i)) a e = cc
gives_atom (Changes s v) a e = cc
gives_atom (Faults c) a e = cc

-- where a builtin folds, its row gives the atom in every store and changes nothing
pub fold_gives : (p : Builtin) (args : List Atom) (a : Atom) → IsFold p args (Some a) → (s : Store) → row p (map val_of_atom args) s ≡ Gives (val_of_atom a)
fold_gives p args a h s = gives_atom (row p (map val_of_atom args) s) a (sym (h s))
