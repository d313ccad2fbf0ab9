-- The variables that nodes bind, where their parts are alike.
use Rattle.std.proofs.Common.{Bool, true, false, List, [], ◌∷◌, ◌++◌, map}
use Rattle.std.specs.List.{flat_map, AllZip}
use Rattle.t_base.specs.declared.shared_parts.Shared.{Shared}
use Rattle.t_core.specs.declared.forms.Core.{Core}
use Rattle.t_core.specs.declared.forms.Core.TheVariants as Node
use Rattle.t_core.specs.declared.forms.Method.{Method}
use Rattle.t_core.specs.Nodes.{Part, part, early, parts_of, binders_of}
use Rattle.t_rows.proofs.ZipLemmas.{zip_append}
use Rattle.expansion.specs.Meaning.{Nodes}
use Rattle.expand_laws.specs.Renaming.{Renaming, Renames, IsSameNode, AllAlike, no_parts, one_part}

-- parts whose variables are related one by one
abbrev pub Around : Renaming → Part → Part → Type 0
Around renaming p q = AllZip (Renames renaming) p.binds q.binds

pub around : (renaming : Renaming) (shared other : Shared) (n m : Nodes) (ps qs : List Part) → AllAlike renaming shared other n m ps qs → AllZip (Around renaming) ps qs
around renaming shared other n m ps qs no_parts = tt
around renaming shared other n m ps qs (one_part p q pps qqs z e a rest) = (z, around renaming shared other n m pps qqs rest)

last_around : (renaming : Renaming) (xs ys : List Part) (p q : Part) → AllZip (Around renaming) (xs ++ p ∷ []) (ys ++ q ∷ []) → AllZip (Renames renaming) p.binds q.binds
last_around renaming [] [] p q h = h.0
last_around renaming [] (y ∷ []) p q h = absurd h.1
last_around renaming [] (y ∷ z ∷ ys) p q h = absurd h.1
last_around renaming (x ∷ []) [] p q h = absurd h.1
last_around renaming (x ∷ z ∷ xs) [] p q h = absurd h.1
last_around renaming (x ∷ xs) (y ∷ ys) p q h = last_around renaming xs ys p q h.1

abbrev pub method_part : Method → Part
method_part m = part m.body m.params true

methods_around : (renaming : Renaming) (ms ns : List Method) → AllZip (Around renaming) (map method_part ms) (map method_part ns)
    → AllZip (Renames renaming) (flat_map (λ m. m.params) ms) (flat_map (λ m. m.params) ns)
methods_around renaming [] [] h = tt
methods_around renaming [] (n ∷ ns) h = absurd h
methods_around renaming (m ∷ ms) [] h = absurd h
methods_around renaming (m ∷ ms) (n ∷ ns) h =
    zip_append (Renames renaming) m.params n.params (flat_map (λ (x : Method). x.params) ms) (flat_map (λ (x : Method). x.params) ns) h.0 (methods_around renaming ms ns h.1)

pub bound_alike : (renaming : Renaming) (shared other : Shared) (c d : Core) (tail : Bool) → IsSameNode shared other (Renames renaming) c d
    → AllZip (Around renaming) (parts_of c tail) (parts_of d tail) → AllZip (Renames renaming) (binders_of c) (binders_of d)
bound_alike renaming shared other (Node.Const a) (Node.Const b) tail same h = tt
bound_alike renaming shared other (Node.Local a) (Node.Local b) tail same h = tt
bound_alike renaming shared other (Node.Global a) (Node.Global b) tail same h = tt
bound_alike renaming shared other (Node.Builtin a) (Node.Builtin b) tail same h = tt
bound_alike renaming shared other (Node.Op a) (Node.Op b) tail same h = tt
bound_alike renaming shared other (Node.Lambda params body) (Node.Lambda others place) tail same h = h.0
bound_alike renaming shared other (Node.If a b c) (Node.If d e f) tail same h = tt
bound_alike renaming shared other (Node.Block items) (Node.Block places) tail same h = tt
bound_alike renaming shared other (Node.Let vars values body) (Node.Let others places place) tail same h =
    last_around renaming (map early values) (map early places) (part body vars tail) (part place others tail) h
bound_alike renaming shared other (Node.Labels vars values body) (Node.Labels others places place) tail same h =
    last_around renaming (map (λ k. part k vars false) values) (map (λ k. part k others false) places) (part body vars tail) (part place others tail) h
bound_alike renaming shared other (Node.SetLocal v value) (Node.SetLocal w place) tail same h = tt
bound_alike renaming shared other (Node.SetGlobal v value) (Node.SetGlobal w place) tail same h = tt
bound_alike renaming shared other (Node.Catch v body) (Node.Catch w place) tail same h = h.0
bound_alike renaming shared other (Node.Object proc methods) (Node.Object place others) tail same h = methods_around renaming methods others h.1
bound_alike renaming shared other (Node.Call operator operands last) (Node.Call place places also) tail same h = tt
bound_alike renaming shared other (Node.Prim p operands) (Node.Prim q places) tail same h = tt
bound_alike renaming shared other _ _ tail same h = absurd same
