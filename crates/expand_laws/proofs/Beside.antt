-- The parts of two nodes of one kind, one beside the other: their places, their tail places, and the variables around them.
use Rattle.std.proofs.Common.{◌≡◌, ℕ, zero, suc, ◌+◌, Bool, true, false, List, [], ◌∷◌, ◌++◌, length, map, slice_get, Some, refl, sym, ap, ◌∙◌, arith}
use Rattle.std.specs.List.{flat_map, AllZip}
use Rattle.std.specs.Option.{option_map}
use Rattle.std.proofs.lemmas.List.{map-append}
use Rattle.std.proofs.lemmas.Option.{slice_get-map, same_Some}
use Rattle.t_base.specs.declared.basics.Var.{Var}
use Rattle.t_base.specs.declared.shared_parts.Shared.{Shared}
use Rattle.t_core.specs.declared.forms.Core.{Core}
use Rattle.t_core.specs.declared.forms.Core.TheVariants as Node
use Rattle.t_core.specs.declared.forms.Method.{Method}
use Rattle.t_core.specs.Nodes.{Part, part, early, block_parts, parts_of, places_of, binders_of}
use Rattle.t_rows.proofs.ZipLemmas.{zip_weaker}
use Rattle.expand_laws.specs.Renaming.{IsSameNode}
use Rattle.expand_laws.proofs.Standing.{got_left, got_right}

-- ---- places

early_places : (ks : List ℕ) → map (λ p. p.at) (map early ks) ≡ ks
early_places [] = refl
early_places (k ∷ ks) = ap (λ l. k ∷ l) (early_places ks)

block_places : (ks : List ℕ) (a b : Bool) → map (λ p. p.at) (block_parts ks a) ≡ map (λ p. p.at) (block_parts ks b)
block_places [] a b = refl
block_places (k ∷ []) a b = refl
block_places (k ∷ next ∷ rest) a b = ap (λ l. k ∷ l) (block_places (next ∷ rest) a b)

behind : (xs : List Part) (body : ℕ) (vars : List Var) (a b : Bool) → map (λ p. p.at) (xs ++ part body vars a ∷ []) ≡ map (λ p. p.at) (xs ++ part body vars b ∷ [])
behind xs body vars a b = map-append (λ p. p.at) xs (part body vars a ∷ []) ∙ sym (map-append (λ p. p.at) xs (part body vars b ∷ []))

pub places_are : (c : Core) (tail : Bool) → map (λ p. p.at) (parts_of c tail) ≡ places_of c
places_are (Node.Block items) tail = block_places items tail false
places_are (Node.Let vars values body) tail = behind (map early values) body vars tail false
places_are (Node.Labels vars lambdas body) tail = behind (map (λ k. part k vars false) lambdas) body vars tail false
places_are _ tail = refl

-- the place of a part, whether its node stands in a tail place or not
pub place_of_part : (c : Core) (tail : Bool) (i : ℕ) (q : Part) → slice_get (parts_of c tail) i ≡ Some q → slice_get (places_of c) i ≡ Some q.at
place_of_part c tail i q h =
    ap (λ l. slice_get l i) (sym (places_are c tail)) ∙ slice_get-map (λ (p : Part). p.at) (parts_of c tail) i ∙ ap (option_map (λ (p : Part). p.at)) h

got_map : {X A : Type 0} (f : X → A) (xs : List X) (i : ℕ) (a : A) → slice_get (map f xs) i ≡ Some a → (x : X) × (slice_get xs i ≡ Some x) × (f x ≡ a)
got_map f [] i a h = cc
got_map f (x ∷ xs) zero a h = (x, refl, same_Some (f x) a h)
got_map f (x ∷ xs) (suc i) a h = got_map f xs i a h

-- and the part at a place
pub part_of_place : (c : Core) (tail : Bool) (i x : ℕ) → slice_get (places_of c) i ≡ Some x → (q : Part) × (slice_get (parts_of c tail) i ≡ Some q) × (q.at ≡ x)
part_of_place c tail i x h = got_map (λ (p : Part). p.at) (parts_of c tail) i x (ap (λ l. slice_get l i) (places_are c tail) ∙ h)

-- ---- items at one place of two lists

-- the two items stand at one place
pub record Beside (us ws : List Var) (v w : Var) : Type 0 where
  pub i : ℕ
  pub left : slice_get us i ≡ Some v
  pub right : slice_get ws i ≡ Some w

after_one : (a b : Var) (us ws : List Var) (v w : Var) → Beside us ws v w → Beside (a ∷ us) (b ∷ ws) v w
after_one a b us ws v w h = record { i = suc h.i; left = h.left; right = h.right }

before_all : (us ws more others : List Var) (v w : Var) → Beside us ws v w → Beside (us ++ more) (ws ++ others) v w
before_all us ws more others v w h =
    record { i = h.i; left = got_left us more h.i v h.left; right = got_left ws others h.i w h.right }

after_all : (us ws more others : List Var) (v w : Var) → length us ≡ length ws → Beside more others v w → Beside (us ++ more) (ws ++ others) v w
after_all us ws more others v w same h = record {
  i = length us + h.i;
  left = got_right us more h.i v h.left;
  right = ap (λ n. slice_get (ws ++ others) (n + h.i)) same ∙ got_right ws others h.i w h.right;
}

itself : (us ws : List Var) → length us ≡ length ws → AllZip (Beside us ws) us ws
itself [] [] h = tt
itself [] (w ∷ ws) h = absurd (omega (arith, h))
itself (u ∷ us) [] h = absurd (omega (arith, h))
itself (u ∷ us) (w ∷ ws) h =
    let rest : length us ≡ length ws = omega (arith, h) in
    (record { i = 0; left = refl; right = refl }, zip_weaker (Beside us ws) (Beside (u ∷ us) (w ∷ ws)) (after_one u w us ws) us ws (itself us ws rest))

-- ---- parts one beside the other

-- as many variables are bound around each
abbrev pub SameCount : Part → Part → Type 0
SameCount q r = length q.binds ≡ length r.binds

-- the variables that are bound around the parts stand at one place of those that the nodes bind
abbrev pub PartsBeside : List Var → List Var → Part → Part → Type 0
PartsBeside us ws q r = (q.tail ≡ r.tail) × AllZip (Beside us ws) q.binds r.binds

module _ (us ws : List Var) where
  earlies : (ks js : List ℕ) → AllZip SameCount (map early ks) (map early js) → AllZip (PartsBeside us ws) (map early ks) (map early js)
  earlies [] [] h = tt
  earlies [] (j ∷ js) h = absurd h
  earlies (k ∷ ks) [] h = absurd h
  earlies (k ∷ ks) (j ∷ js) h = ((refl, tt), earlies ks js h.1)

  blocks : (ks js : List ℕ) (tail : Bool) → AllZip SameCount (block_parts ks tail) (block_parts js tail)
      → AllZip (PartsBeside us ws) (block_parts ks tail) (block_parts js tail)
  blocks [] [] tail h = tt
  blocks [] (j ∷ []) tail h = absurd h
  blocks [] (j ∷ l ∷ js) tail h = absurd h
  blocks (k ∷ []) [] tail h = absurd h
  blocks (k ∷ []) (j ∷ []) tail h = ((refl, tt), tt)
  blocks (k ∷ []) (j ∷ l ∷ []) tail h = absurd h.1
  blocks (k ∷ []) (j ∷ l ∷ m ∷ js) tail h = absurd h.1
  blocks (k ∷ n ∷ ks) [] tail h = absurd h
  blocks (k ∷ n ∷ []) (j ∷ []) tail h = absurd h.1
  blocks (k ∷ n ∷ o ∷ ks) (j ∷ []) tail h = absurd h.1
  blocks (k ∷ n ∷ ks) (j ∷ l ∷ js) tail h = ((refl, tt), blocks (n ∷ ks) (l ∷ js) tail h.1)

  lets : (ks js : List ℕ) (k j : ℕ) (tail : Bool) → AllZip SameCount (map early ks ++ part k us tail ∷ []) (map early js ++ part j ws tail ∷ [])
      → AllZip (PartsBeside us ws) (map early ks ++ part k us tail ∷ []) (map early js ++ part j ws tail ∷ [])
  lets [] [] k j tail h = ((refl, itself us ws h.0), tt)
  lets [] (x ∷ []) k j tail h = absurd h.1
  lets [] (x ∷ y ∷ js) k j tail h = absurd h.1
  lets (x ∷ []) [] k j tail h = absurd h.1
  lets (x ∷ y ∷ ks) [] k j tail h = absurd h.1
  lets (x ∷ ks) (y ∷ js) k j tail h = ((refl, tt), lets ks js k j tail h.1)

  labels : (ks js : List ℕ) (k j : ℕ) (tail : Bool)
      → AllZip SameCount (map (λ x. part x us false) ks ++ part k us tail ∷ []) (map (λ x. part x ws false) js ++ part j ws tail ∷ [])
      → AllZip (PartsBeside us ws) (map (λ x. part x us false) ks ++ part k us tail ∷ []) (map (λ x. part x ws false) js ++ part j ws tail ∷ [])
  labels [] [] k j tail h = ((refl, itself us ws h.0), tt)
  labels [] (x ∷ []) k j tail h = absurd h.1
  labels [] (x ∷ y ∷ js) k j tail h = absurd h.1
  labels (x ∷ []) [] k j tail h = absurd h.1
  labels (x ∷ y ∷ ks) [] k j tail h = absurd h.1
  labels (x ∷ ks) (y ∷ js) k j tail h = ((refl, itself us ws h.0), labels ks js k j tail h.1)

abbrev method_part : Method → Part
method_part m = part m.body m.params true

shifted : (us ws more others : List Var) → length us ≡ length ws → (q r : Part) → PartsBeside more others q r → PartsBeside (us ++ more) (ws ++ others) q r
shifted us ws more others same q r h =
    (h.0, zip_weaker (Beside more others) (Beside (us ++ more) (ws ++ others)) (λ v w b. after_all us ws more others v w same b) q.binds r.binds h.1)

methods_beside : (ms ns : List Method) → AllZip SameCount (map method_part ms) (map method_part ns)
    → AllZip (PartsBeside (flat_map (λ m. m.params) ms) (flat_map (λ m. m.params) ns)) (map method_part ms) (map method_part ns)
methods_beside [] [] h = tt
methods_beside [] (n ∷ ns) h = absurd h
methods_beside (m ∷ ms) [] h = absurd h
methods_beside (m ∷ ms) (n ∷ ns) h =
    let more : List Var = flat_map (λ (x : Method). x.params) ms in
    let others : List Var = flat_map (λ (x : Method). x.params) ns in (
      (
        refl,
        zip_weaker (Beside m.params n.params) (Beside (m.params ++ more) (n.params ++ others)) (before_all m.params n.params more others) m.params n.params
            (itself m.params n.params h.0),
      ),
      zip_weaker (PartsBeside more others) (PartsBeside (m.params ++ more) (n.params ++ others)) (shifted m.params n.params more others h.0) (map method_part ms) (map method_part ns)
          (methods_beside ms ns h.1),
    )

-- of nodes of one kind
pub parts_beside : (shared other : Shared) (c d : Core) (tail : Bool) → IsSameNode shared other (λ v w. Unit {0}) c d → AllZip SameCount (parts_of c tail) (parts_of d tail)
    → AllZip (PartsBeside (binders_of c) (binders_of d)) (parts_of c tail) (parts_of d tail)
parts_beside shared other (Node.Const a) (Node.Const b) tail same h = tt
parts_beside shared other (Node.Local v) (Node.Local w) tail same h = tt
parts_beside shared other (Node.Global a) (Node.Global b) tail same h = tt
parts_beside shared other (Node.Builtin a) (Node.Builtin b) tail same h = tt
parts_beside shared other (Node.Op a) (Node.Op b) tail same h = tt
parts_beside shared other (Node.Lambda params body) (Node.Lambda others place) tail same h = ((refl, itself params others h.0), tt)
parts_beside shared other (Node.If a b c) (Node.If d e f) tail same h = ((refl, tt), ((refl, tt), ((refl, tt), tt)))
parts_beside shared other (Node.Block items) (Node.Block places) tail same h = blocks [] [] items places tail h
parts_beside shared other (Node.Let vars values body) (Node.Let others places place) tail same h = lets vars others values places body place tail h
parts_beside shared other (Node.Labels vars values body) (Node.Labels others places place) tail same h = labels vars others values places body place tail h
parts_beside shared other (Node.SetLocal v value) (Node.SetLocal w place) tail same h = ((refl, tt), tt)
parts_beside shared other (Node.SetGlobal v value) (Node.SetGlobal w place) tail same h = ((refl, tt), tt)
parts_beside shared other (Node.Catch v body) (Node.Catch w place) tail same h = ((refl, itself (v ∷ []) (w ∷ []) refl), tt)
parts_beside shared other (Node.Object proc methods) (Node.Object place others) tail same h = ((refl, tt), methods_beside methods others h.1)
parts_beside shared other (Node.Call operator operands last) (Node.Call place places also) tail same h = ((refl, tt), earlies [] [] operands places h.1)
parts_beside shared other (Node.Prim p operands) (Node.Prim q places) tail same h = earlies [] [] operands places h
parts_beside shared other _ _ tail same h = absurd same
