-- Every node of a form is reached from its root, so that each has a node beside it in a form that is alike.
use Rattle.std.proofs.Common.{◌≡◌, ◌⊎◌, ℕ, zero, suc, ◌+◌, ◌<◌, ◌≤◌, ◌==◌, Bool, true, false, List, [], ◌∷◌, ◌++◌, length, slice_get, Some, inl, inr, refl, sym, subst, ◌∙◌, arith}
use Rattle.std.specs.List.{flat_map}
use Rattle.std.proofs.lemmas.Bool.Decides.{Decides-eqb}
use Rattle.std.proofs.lemmas.Option.{slice_get_within, same_Some}
use Rattle.t_base.specs.declared.basics.Span.{Span}
use Rattle.t_base.specs.declared.shared_parts.Shared.{Shared}
use Rattle.t_core.specs.declared.forms.Core.{Core}
use Rattle.t_core.specs.declared.forms.Form.{Form}
use Rattle.t_core.specs.Nodes.{Part, parts_of, places_of}
use Rattle.t_core.specs.Whole.{IsTree}
use Rattle.expansion.specs.Meaning.{Nodes}
use Rattle.expand_laws.specs.Renaming.{Renaming, Renames, IsSameNode, Alike, AllAlike, alike, no_parts, one_part, nodes_of}
use Rattle.expand_laws.proofs.Beside.{place_of_part, part_of_place}
use Rattle.expand_laws.proofs.CountedOnce.{IsThere, counted_there}
use Rattle.expand_laws.proofs.Paired.{Paired, at_roots, at_parts, all_at, flipped, named}

-- ---- where an item of joined lists stands

-- the place in one of two lists
record StandsRight {X : Type 0} (ys : List X) (x : X) : Type 0 where
  i : ℕ
  found : slice_get ys i ≡ Some x

got_cases : {X : Type 0} (xs ys : List X) (i : ℕ) (x : X) → slice_get (xs ++ ys) i ≡ Some x → (slice_get xs i ≡ Some x) ⊎ StandsRight ys x
got_cases [] ys i x h = inr (record { i = i; found = h })
got_cases (y ∷ xs) ys zero x h = inl h
got_cases (y ∷ xs) ys (suc i) x h = got_cases xs ys i x h

-- the piece in which an item stands
pub record StandsIn {X A : Type 0} (f : X → List A) (xs : List X) (a : A) : Type 0 where
  pub k : ℕ
  pub x : X
  pub i : ℕ
  pub piece : slice_get xs k ≡ Some x
  pub found : slice_get (f x) i ≡ Some a

later_piece : {X A : Type 0} (f : X → List A) (y : X) (xs : List X) (a : A) → StandsIn f xs a → StandsIn f (y ∷ xs) a
later_piece f y xs a s = record { k = suc s.k; x = s.x; i = s.i; piece = s.piece; found = s.found }

in_piece : {X A : Type 0} (f : X → List A) (y : X) (xs : List X) (i : ℕ) (a : A) → (slice_get (f y) i ≡ Some a) ⊎ StandsRight (flat_map f xs) a
    → (StandsRight (flat_map f xs) a → StandsIn f xs a) → StandsIn f (y ∷ xs) a
in_piece f y xs i a (inl h) rest = record { k = 0; x = y; i = i; piece = refl; found = h }
in_piece f y xs i a (inr r) rest = later_piece f y xs a (rest r)

pub piece_of : {X A : Type 0} (f : X → List A) (xs : List X) (i : ℕ) (a : A) → slice_get (flat_map f xs) i ≡ Some a → StandsIn f xs a
piece_of f [] i a h = cc
piece_of f (y ∷ xs) i a h = in_piece f y xs i a (got_cases (f y) (flat_map f xs) i a h) (λ r. piece_of f xs r.i a r.found)

-- ---- every node is reached

-- whatever part a node has, the node beside it has one in the same place
pub record HasPart (others : List Core) (q i : ℕ) : Type 0 where
  pub d : Core
  pub y : ℕ
  pub node_is : slice_get others q ≡ Some d
  pub part_is : slice_get (places_of d) i ≡ Some y

abbrev pub HasParts : List Core → List Core → ℕ → ℕ → Type 0
HasParts nodes others root top =
    (p q i x : ℕ) (c : Core) → Paired nodes others root top p q → slice_get nodes p ≡ Some c → slice_get (places_of c) i ≡ Some x → HasPart others q i

module _ (nodes others : List Core) (root top : ℕ) (tree : IsTree nodes root) (has : HasParts nodes others root top) where
  -- the node that names a part
  parent : (k : ℕ) → k < length nodes → (k == root) ≡ false → StandsIn places_of nodes k
  parent k below other =
      let there : IsThere (λ place. place == k) (flat_map places_of nodes) =
      counted_there (λ place. place == k) (flat_map places_of nodes) (named nodes root k tree below false other)
      in
      let same : there.x ≡ k = (Decides-eqb there.x k).0 there.passes in
      piece_of places_of nodes there.i k (subst (λ x. slice_get (flat_map places_of nodes) there.i ≡ Some x) same there.found)

  from_parent : (k : ℕ) (s : StandsIn places_of nodes k) (q : ℕ) → Paired nodes others root top s.k q → (j : ℕ) × Paired nodes others root top k j
  from_parent k s q both =
      let part : HasPart others q s.i = has s.k q s.i k s.x both s.piece s.found in
      (part.y, at_parts s.k q s.i k part.y s.x part.d both s.piece part.node_is s.found part.part_is)

  parent_above : (k : ℕ) (s : StandsIn places_of nodes k) → k < s.k
  parent_above k s = all_at (λ place. place < s.k) (places_of s.x) s.i k s.found (tree.parts_before s.k s.x s.piece)

  by_root : (n k : ℕ) → length nodes ≤ k + suc n → k < length nodes → (b : Bool) → (k == root) ≡ b
      → ((p : ℕ) → length nodes ≤ p + n → p < length nodes → (j : ℕ) × Paired nodes others root top p j) → (j : ℕ) × Paired nodes others root top k j
  by_root n k near below true is rest = (top, at_roots k top ((Decides-eqb k root).0 is) refl)
  by_root n k near below false is rest =
      let s : StandsIn places_of nodes k = parent k below is in
      let above : k < s.k = parent_above k s in
      let there : s.k < length nodes = slice_get_within nodes s.k s.x s.piece in
      let up : (j : ℕ) × Paired nodes others root top s.k j = rest s.k (omega arith) there in
      from_parent k s up.0 up.1

  reached_within : (n k : ℕ) → length nodes ≤ k + n → k < length nodes → (j : ℕ) × Paired nodes others root top k j
  reached_within zero k near below = absurd (omega arith)
  reached_within (suc n) k near below = by_root n k near below (k == root) refl (λ p close lower. reached_within n p close lower)

  pub reached : (k : ℕ) → k < length nodes → (j : ℕ) × Paired nodes others root top k j
  reached k below = reached_within (length nodes) k (omega arith) below

-- ---- nodes of forms that are alike

-- what it is for nodes to be alike
pub record AlikeAt (renaming : Renaming) (shared other : Shared) (n m : Nodes) (tail : Bool) (c d : Core) : Type 0 where
  pub same : IsSameNode shared other (Renames renaming) c d
  pub parts : AllAlike renaming shared other n m (parts_of c tail) (parts_of d tail)

-- nodes that are alike
pub record NodesAlike (renaming : Renaming) (shared other : Shared) (n m : Nodes) (tail : Bool) (k j : ℕ) : Type 0 where
  pub c : Core
  pub d : Core
  pub node_is : slice_get n.nodes k ≡ Some c
  pub other_is : slice_get m.nodes j ≡ Some d
  pub are : AlikeAt renaming shared other n m tail c d

pub nodes_alike : (renaming : Renaming) (shared other : Shared) (n m : Nodes) (tail : Bool) (k j : ℕ) → Alike renaming shared other n m tail k j
    → NodesAlike renaming shared other n m tail k j
nodes_alike renaming shared other n m tail k j (alike t kk jj c d s g h p q same parts) =
    record { c = c; d = d; node_is = g; other_is = h; are = record { same = same; parts = parts } }

part_alike : (renaming : Renaming) (shared other : Shared) (n m : Nodes) (ps qs : List Part) (i : ℕ) (p q : Part) → AllAlike renaming shared other n m ps qs
    → slice_get ps i ≡ Some p → slice_get qs i ≡ Some q → Alike renaming shared other n m p.tail p.at q.at
part_alike renaming shared other n m ps qs i p q no_parts g h = cc
part_alike renaming shared other n m ps qs zero p q (one_part pp qq pps qqs z e a rest) g h =
    subst (λ x. Alike renaming shared other n m x.tail x.at q.at) (same_Some pp p g)
    (subst (λ y. Alike renaming shared other n m pp.tail pp.at y.at) (same_Some qq q h) a)
part_alike renaming shared other n m ps qs (suc i) p q (one_part pp qq pps qqs z e a rest) g h = part_alike renaming shared other n m pps qqs i p q rest g h

part_beside : (renaming : Renaming) (shared other : Shared) (n m : Nodes) (ps qs : List Part) (i : ℕ) (p : Part) → AllAlike renaming shared other n m ps qs
    → slice_get ps i ≡ Some p → (q : Part) × (slice_get qs i ≡ Some q)
part_beside renaming shared other n m ps qs i p no_parts g = cc
part_beside renaming shared other n m ps qs zero p (one_part pp qq pps qqs z e a rest) g = (qq, refl)
part_beside renaming shared other n m ps qs (suc i) p (one_part pp qq pps qqs z e a rest) g = part_beside renaming shared other n m pps qqs i p rest g

part_before : (renaming : Renaming) (shared other : Shared) (n m : Nodes) (ps qs : List Part) (i : ℕ) (q : Part) → AllAlike renaming shared other n m ps qs
    → slice_get qs i ≡ Some q → (p : Part) × (slice_get ps i ≡ Some p)
part_before renaming shared other n m ps qs i q no_parts g = cc
part_before renaming shared other n m ps qs zero q (one_part pp qq pps qqs z e a rest) g = (pp, refl)
part_before renaming shared other n m ps qs (suc i) q (one_part pp qq pps qqs z e a rest) g = part_before renaming shared other n m pps qqs i q rest g

-- two nodes that are alike are these
at_these : (renaming : Renaming) (shared other : Shared) (n m : Nodes) (tail : Bool) (k j : ℕ) (c d : Core) → NodesAlike renaming shared other n m tail k j
    → slice_get n.nodes k ≡ Some c → slice_get m.nodes j ≡ Some d → AlikeAt renaming shared other n m tail c d
at_these renaming shared other n m tail k j c d a g h =
    subst (λ x. AlikeAt renaming shared other n m tail x d) (same_Some a.c c (sym a.node_is ∙ g))
    (subst (λ y. AlikeAt renaming shared other n m tail a.c y) (same_Some a.d d (sym a.other_is ∙ h)) a.are)

module _ (renaming : Renaming) (shared other : Shared) (form twin : Form) (ss ts : List Span)
    (roots : Alike renaming shared other (nodes_of form ss) (nodes_of twin ts) false form.root twin.root) where
  abbrev At : Bool → ℕ → ℕ → Type 0
  At tail k j = Alike renaming shared other (nodes_of form ss) (nodes_of twin ts) tail k j

  abbrev Both : ℕ → ℕ → Type 0
  Both k j = Paired form.nodes.items twin.nodes.items form.root twin.root k j

  of_parent : (k j i x y : ℕ) (c d : Core) (tail : Bool) → At tail k j → slice_get form.nodes.items k ≡ Some c → slice_get twin.nodes.items j ≡ Some d
      → slice_get (places_of c) i ≡ Some x → slice_get (places_of d) i ≡ Some y → (last : Bool) × At last x y
  of_parent k j i x y c d tail a g h p q =
      let are : AlikeAt renaming shared other (nodes_of form ss) (nodes_of twin ts) tail c d =
      at_these renaming shared other (nodes_of form ss) (nodes_of twin ts) tail k j c d (nodes_alike renaming shared other (nodes_of form ss) (nodes_of twin ts) tail k j a) g h
      in
      let left : (r : Part) × (slice_get (parts_of c tail) i ≡ Some r) × (r.at ≡ x) = part_of_place c tail i x p in
      let right : (r : Part) × (slice_get (parts_of d tail) i ≡ Some r) × (r.at ≡ y) = part_of_place d tail i y q in
      let one : At (left.0).tail (left.0).at (right.0).at =
      part_alike renaming shared other (nodes_of form ss) (nodes_of twin ts) (parts_of c tail) (parts_of d tail) i left.0 right.0 are.parts left.1 right.1
      in
      ((left.0).tail, subst (λ z. At (left.0).tail x z) right.2 (subst (λ z. At (left.0).tail z (right.0).at) left.2 one))

  -- places that are paired have nodes that are alike
  pub alike_where_paired : (k j : ℕ) → Both k j → (tail : Bool) × At tail k j
  alike_where_paired k j (at_roots kk jj p q) =
      (false, subst (λ z. At false kk z) (sym q) (subst (λ z. At false z twin.root) (sym p) roots))
  alike_where_paired k j (at_parts kk jj i x y c d both g h p q) =
      let up : (tail : Bool) × At tail kk jj = alike_where_paired kk jj both in
      of_parent kk jj i x y c d up.0 up.1 g h p q

  abbrev Are : Bool → ℕ → ℕ → Type 0
  Are tail k j = NodesAlike renaming shared other (nodes_of form ss) (nodes_of twin ts) tail k j

  pub right_has : HasParts form.nodes.items twin.nodes.items form.root twin.root
  right_has p q i x c both g h =
      let a : (tail : Bool) × At tail p q = alike_where_paired p q both in
      let are : Are a.0 p q = nodes_alike renaming shared other (nodes_of form ss) (nodes_of twin ts) a.0 p q a.1 in
      let same : are.c ≡ c = same_Some are.c c (sym are.node_is ∙ g) in
      let left : (r : Part) × (slice_get (parts_of are.c a.0) i ≡ Some r) × (r.at ≡ x) =
      part_of_place are.c a.0 i x (subst (λ n. slice_get (places_of n) i ≡ Some x) (sym same) h)
      in
      let right : (r : Part) × (slice_get (parts_of are.d a.0) i ≡ Some r) =
      part_beside renaming shared other (nodes_of form ss) (nodes_of twin ts) (parts_of are.c a.0) (parts_of are.d a.0) i left.0 are.are.parts left.1
      in
      record { d = are.d; y = (right.0).at; node_is = are.other_is; part_is = place_of_part are.d a.0 i right.0 right.1 }

  pub left_has : HasParts twin.nodes.items form.nodes.items twin.root form.root
  left_has q p i y d both g h =
      let a : (tail : Bool) × At tail p q = alike_where_paired p q (flipped twin.nodes.items form.nodes.items twin.root form.root q p both) in
      let are : Are a.0 p q = nodes_alike renaming shared other (nodes_of form ss) (nodes_of twin ts) a.0 p q a.1 in
      let same : are.d ≡ d = same_Some are.d d (sym are.other_is ∙ g) in
      let right : (r : Part) × (slice_get (parts_of are.d a.0) i ≡ Some r) × (r.at ≡ y) =
      part_of_place are.d a.0 i y (subst (λ n. slice_get (places_of n) i ≡ Some y) (sym same) h)
      in
      let left : (r : Part) × (slice_get (parts_of are.c a.0) i ≡ Some r) =
      part_before renaming shared other (nodes_of form ss) (nodes_of twin ts) (parts_of are.c a.0) (parts_of are.d a.0) i right.0 are.are.parts right.1
      in
      record { d = are.c; y = (left.0).at; node_is = are.node_is; part_is = place_of_part are.c a.0 i left.0 left.1 }
