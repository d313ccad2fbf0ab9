-- The variables of two whole units that are alike are related one to one.
use Rattle.std.proofs.Common.{◌≡◌, ℕ, zero, suc, ◌<◌, Bool, List, [], ◌∷◌, length, slice_get, Contains, Some, inl, inr, sym, ap, subst, ◌∙◌, arith}
use Rattle.std.specs.List.{AllZip}
use Rattle.std.proofs.lemmas.Option.{slice_get_within, get_or_from_slice_get, slice_get-get_or, same_Some}
use Rattle.t_base.specs.declared.basics.Span.{Span}
use Rattle.t_base.specs.declared.basics.Var.{Var}
use Rattle.t_base.specs.declared.shared_parts.Shared.{Shared}
use Rattle.t_core.specs.declared.forms.Core.{Core}
use Rattle.t_core.specs.declared.forms.Form.{Form}
use Rattle.t_core.specs.declared.forms.UnitCore.{UnitCore}
use Rattle.t_core.specs.Nodes.{parts_of, binders_of}
use Rattle.t_core.specs.Whole.{IsTree, HasPlaces, IsWhole, binders}
use Rattle.expand_laws.specs.Renaming.{Renaming, Renames, IsOneToOne, Alike, RootsAlike, FormsAlike, nodes_of}
use Rattle.expand_laws.proofs.Around.{around, bound_alike}
use Rattle.expand_laws.proofs.Collecting.{EachPair}
use Rattle.expand_laws.proofs.FormsBeside.{FormBeside, form_beside, FormBefore, form_before}
use Rattle.expand_laws.proofs.Paired.{BoundTogether, Paired, all_at, bound_in, flipped, flipped_together, one_together}
use Rattle.expand_laws.proofs.Reaching.{StandsIn, piece_of, reached, alike_where_paired, NodesAlike, nodes_alike, right_has, left_has}
use Rattle.expand_laws.proofs.Standing.{somewhere}

-- ---- one beside the other

zip_beside : {A B : Type 0} (R : A → B → Type 0) (xs : List A) (ys : List B) (i : ℕ) (x : A) → AllZip R xs ys → slice_get xs i ≡ Some x → (y : B) × R x y
zip_beside R [] ys i x h p = cc
zip_beside R (a ∷ xs) [] i x h p = absurd h
zip_beside R (a ∷ xs) (b ∷ ys) zero x h p = (b, subst (λ z. R z b) (same_Some a x p) h.0)
zip_beside R (a ∷ xs) (b ∷ ys) (suc i) x h p = zip_beside R xs ys i x h.1 p

zip_before : {A B : Type 0} (R : A → B → Type 0) (xs : List A) (ys : List B) (i : ℕ) (y : B) → AllZip R xs ys → slice_get ys i ≡ Some y → (x : A) × R x y
zip_before R xs [] i y h p = cc
zip_before R [] (b ∷ ys) i y h p = absurd h
zip_before R (a ∷ xs) (b ∷ ys) zero y h p = (a, subst (λ z. R a z) (same_Some b y p) h.0)
zip_before R (a ∷ xs) (b ∷ ys) (suc i) y h p = zip_before R xs ys i y h.1 p

-- ---- one form

none_got : (nodes : List Core) (k : ℕ) (c : Core) → nodes ≡ [] → slice_get nodes k ≡ Some c → ⊥
none_got nodes k c e h = let f : slice_get [] k ≡ Some c = ap (λ l. slice_get l k) (sym e) ∙ h in cc

module _ (renaming : Renaming) (shared other : Shared) (form twin : Form) (ss ts : List Span) where
  related_at : (tail : Bool) (k j : ℕ) (a : NodesAlike renaming shared other (nodes_of form ss) (nodes_of twin ts) tail k j)
      → AllZip (Renames renaming) (binders_of a.c) (binders_of a.d)
  related_at tail k j a =
      bound_alike renaming shared other a.c a.d tail a.are.same
      (around renaming shared other (nodes_of form ss) (nodes_of twin ts) (parts_of a.c tail) (parts_of a.d tail) a.are.parts)

  each_in : (v : Var) (s : StandsIn binders_of form.nodes.items v) → (0 < length form.nodes.items → IsTree form.nodes.items form.root)
      → RootsAlike renaming shared other form ss twin ts → (w : Var) × Renames renaming v w
  each_in v s tree (inl none) = absurd (none_got form.nodes.items s.k s.x none.0 s.piece)
  each_in v s tree (inr roots) =
      let below : s.k < length form.nodes.items = slice_get_within form.nodes.items s.k s.x s.piece in
      let there : (j : ℕ) × Paired form.nodes.items twin.nodes.items form.root twin.root s.k j =
      reached form.nodes.items twin.nodes.items form.root twin.root (tree (omega arith)) (right_has renaming shared other form twin ss ts roots) s.k below
      in
      let a : (tail : Bool) × Alike renaming shared other (nodes_of form ss) (nodes_of twin ts) tail s.k there.0 =
      alike_where_paired renaming shared other form twin ss ts roots s.k there.0 there.1
      in
      let are : NodesAlike renaming shared other (nodes_of form ss) (nodes_of twin ts) a.0 s.k there.0 =
      nodes_alike renaming shared other (nodes_of form ss) (nodes_of twin ts) a.0 s.k there.0 a.1
      in
      let same : are.c ≡ s.x = same_Some are.c s.x (sym are.node_is ∙ s.piece) in
      zip_beside (Renames renaming) (binders_of are.c) (binders_of are.d) s.i v (related_at a.0 s.k there.0 are)
      (subst (λ n. slice_get (binders_of n) s.i ≡ Some v) (sym same) s.found)

  every_in : (w : Var) (s : StandsIn binders_of twin.nodes.items w) → (0 < length twin.nodes.items → IsTree twin.nodes.items twin.root)
      → RootsAlike renaming shared other form ss twin ts → (v : Var) × Renames renaming v w
  every_in w s tree (inl none) = absurd (none_got twin.nodes.items s.k s.x none.1 s.piece)
  every_in w s tree (inr roots) =
      let below : s.k < length twin.nodes.items = slice_get_within twin.nodes.items s.k s.x s.piece in
      let there : (j : ℕ) × Paired twin.nodes.items form.nodes.items twin.root form.root s.k j =
      reached twin.nodes.items form.nodes.items twin.root form.root (tree (omega arith)) (left_has renaming shared other form twin ss ts roots) s.k below
      in
      let a : (tail : Bool) × Alike renaming shared other (nodes_of form ss) (nodes_of twin ts) tail there.0 s.k =
      alike_where_paired renaming shared other form twin ss ts roots there.0 s.k
      (flipped twin.nodes.items form.nodes.items twin.root form.root s.k there.0 there.1)
      in
      let are : NodesAlike renaming shared other (nodes_of form ss) (nodes_of twin ts) a.0 there.0 s.k =
      nodes_alike renaming shared other (nodes_of form ss) (nodes_of twin ts) a.0 there.0 s.k a.1
      in
      let same : are.d ≡ s.x = same_Some are.d s.x (sym are.other_is ∙ s.piece) in
      zip_before (Renames renaming) (binders_of are.c) (binders_of are.d) s.i w (related_at a.0 there.0 s.k are)
      (subst (λ n. slice_get (binders_of n) s.i ≡ Some w) (sym same) s.found)

-- ---- units

got : (xs : List Var) (v : Var) → (c : Contains xs v) → slice_get xs c.0 ≡ Some v
got xs v c = slice_get-get_or xs c.0 v c.1 ∙ ap Some c.2

contained : (xs : List Var) (i : ℕ) (v : Var) → slice_get xs i ≡ Some v → Contains xs v
contained xs i v h = (i, slice_get_within xs i v h, get_or_from_slice_get xs i v v h)

trees_of : (unit : UnitCore) → IsWhole unit → (f : ℕ) (form : Form) → slice_get unit.forms.items f ≡ Some form → 0 < length form.nodes.items
    → IsTree form.nodes.items form.root
trees_of unit whole f form is some =
    let places : HasPlaces unit.shared form = all_at (HasPlaces unit.shared) unit.forms.items f form is whole.places in places.tree some

-- where a variable of a unit is bound
bound_at : (unit : UnitCore) (form : Form) (f : ℕ) (v : Var) (k i : ℕ) (c : Core) → slice_get unit.forms.items f ≡ Some form → slice_get form.nodes.items k ≡ Some c
    → slice_get (binders_of c) i ≡ Some v → Contains (binders unit) v
bound_at unit form f v k i c h g p =
    let inner : (j : ℕ) × (slice_get (bound_in form) j ≡ Some v) = somewhere binders_of form.nodes.items k i c v g p in
    let outer : (j : ℕ) × (slice_get (binders unit) j ≡ Some v) = somewhere bound_in unit.forms.items f inner.0 form v h inner.1 in
    contained (binders unit) outer.0 v outer.1

module _ (unit other : UnitCore) (renaming : Renaming) (spans others : List (List Span)) (whole : IsWhole unit) (also : IsWhole other)
    (together : EachPair (BoundTogether unit.forms.items other.forms.items) renaming)
    (forms : FormsAlike renaming unit.shared other.shared unit.forms.items spans other.forms.items others) where
  abbrev Together : Var → Var → Type 0
  Together v w = BoundTogether unit.forms.items other.forms.items v w

  abbrev pair_of : Var → Var → Var × Var
  pair_of v w = (v, w)

  bound : (v w : Var) → Renames renaming v w → Together v w
  bound v w h = together (pair_of v w) h

  in_units : (v w : Var) → Together v w → Contains (binders unit) v × Contains (binders other) w
  in_units v w b = (
    bound_at unit b.form b.f v b.within.k b.within.i b.within.c b.form_is b.within.node_is b.within.left,
    bound_at other b.other b.f w b.within.j b.within.i b.within.d b.other_is b.within.other_is b.within.right,
  )

  each_one : (v : Var) → Contains (binders unit) v → (w : Var) × Renames renaming v w
  each_one v c =
      let outer : StandsIn bound_in unit.forms.items v = piece_of bound_in unit.forms.items c.0 v (got (binders unit) v c) in
      let inner : StandsIn binders_of outer.x.nodes.items v = piece_of binders_of outer.x.nodes.items outer.i v outer.found in
      let beside : FormBeside renaming unit.shared other.shared other.forms.items outer.k outer.x =
      form_beside renaming unit.shared other.shared unit.forms.items spans other.forms.items others outer.k outer.x forms outer.piece
      in
      each_in renaming unit.shared other.shared outer.x beside.twin beside.ss beside.ts v inner (trees_of unit whole outer.k outer.x outer.piece) beside.roots

  every_one : (w : Var) → Contains (binders other) w → (v : Var) × Renames renaming v w
  every_one w c =
      let outer : StandsIn bound_in other.forms.items w = piece_of bound_in other.forms.items c.0 w (got (binders other) w c) in
      let inner : StandsIn binders_of outer.x.nodes.items w = piece_of binders_of outer.x.nodes.items outer.i w outer.found in
      let before : FormBefore renaming unit.shared other.shared unit.forms.items outer.k outer.x =
      form_before renaming unit.shared other.shared unit.forms.items spans other.forms.items others outer.k outer.x forms outer.piece
      in
      every_in renaming unit.shared other.shared before.form outer.x before.ss before.ts w inner (trees_of other also outer.k outer.x outer.piece) before.roots

  pub one_to_one : IsOneToOne renaming (binders unit) (binders other)
  one_to_one = record {
    within = λ v w h. in_units v w (bound v w h);
    each = each_one;
    every = every_one;
    one = λ v w x g h.
        one_together unit.forms.items other.forms.items v w x (trees_of unit whole) whole.scopes.bound_once (bound v w g) (bound v x h);
    apart = λ v w x g h.
        one_together other.forms.items unit.forms.items x v w (trees_of other also) also.scopes.bound_once
        (flipped_together unit.forms.items other.forms.items v x (bound v x g)) (flipped_together unit.forms.items other.forms.items w x (bound w x h));
  }
