-- Where a form is what its datum stands for, variables are used where they are bound.
use Rattle.std.proofs.Common.{◌≡◌, ℕ, suc, zero, ◌<◌, ◌≤◌, Bool, false, List, [], ◌∷◌, ◌++◌, length, map, Some, None, slice_get, All, Contains, refl, sym, ap, subst, ◌∙◌, arith}
use Rattle.std.specs.List.{AllByRecursion}
use Rattle.std.proofs.lemmas.List.{map-append}
use Rattle.std.proofs.lemmas.List.Elements.{All-nil, All-cons, All-head, All-tail}
use Rattle.std.proofs.lemmas.Option.{slice_get_within, get_or_from_slice_get}
use Rattle.t_base.specs.declared.basics.Span.{Span}
use Rattle.t_base.specs.declared.basics.Var.{Var}
use Rattle.t_base.specs.declared.shared_parts.Shared.{Shared}
use Rattle.t_core.specs.declared.forms.Core.{Core}
use Rattle.t_core.specs.declared.forms.Core.TheVariants as Node
use Rattle.t_core.specs.declared.forms.Form.{Form}
use Rattle.t_core.specs.Nodes.{Part, part, early, block_parts, parts_of, places_of}
use Rattle.t_core.specs.Whole.{IsInPlace, IsScopedWithin, IsScoped, IsTree, HasPlaces}
use Rattle.t_forms.specs.Data.{Datum}
use Rattle.t_forms.specs.Names.{Scope, Bound}
use Rattle.t_rows.specs.Rows.{Definition, define, lset, operation_form, Shape, constant, local, global, builtin_value, op_value, lambda, if_, block, let_, labels, set_local, set_global, catch_, object, call, primitive, Part as RowPart}
use Rattle.expansion.specs.Meaning.{Fits, Nodes, Means, as_form, as_node, AllMean, no_parts, one_part, RootMeans, ValueMeans, FormMeans, FormsMean}
use Rattle.expansion.specs.Units.{Top, defining, broken, expression}

-- ---- the places of parts

early_places : (ks : List ℕ) → map (λ p. p.at) (map early ks) ≡ ks
early_places [] = refl
early_places (k ∷ ks) = ap (λ l. k ∷ l) (early_places ks)

bound_places : (vars : List Var) (ks : List ℕ) → map (λ p. p.at) (map (λ k. part k vars false) ks) ≡ ks
bound_places vars [] = refl
bound_places vars (k ∷ ks) = ap (λ l. k ∷ l) (bound_places vars ks)

block_places : (ks : List ℕ) (a b : Bool) → map (λ p. p.at) (block_parts ks a) ≡ map (λ p. p.at) (block_parts ks b)
block_places [] a b = refl
block_places (k ∷ []) a b = refl
block_places (k ∷ next ∷ rest) a b = ap (λ l. k ∷ l) (block_places (next ∷ rest) a b)

behind : (xs : List Part) (body : ℕ) (vars : List Var) (a b : Bool) → map (λ p. p.at) (xs ++ part body vars a ∷ []) ≡ map (λ p. p.at) (xs ++ part body vars b ∷ [])
behind xs body vars a b = map-append (λ p. p.at) xs (part body vars a ∷ []) ∙ sym (map-append (λ p. p.at) xs (part body vars b ∷ []))

pub places_are : (c : Core) (tail : Bool) → map (λ p. p.at) (parts_of c tail) ≡ places_of c
places_are (Node.Const c) tail = refl
places_are (Node.Local v) tail = refl
places_are (Node.Global g) tail = refl
places_are (Node.Builtin p) tail = refl
places_are (Node.Op o) tail = refl
places_are (Node.Lambda params body) tail = refl
places_are (Node.If test a b) tail = refl
places_are (Node.Block items) tail = block_places items tail false
places_are (Node.Let vars values body) tail = behind (map early values) body vars tail false
places_are (Node.Labels vars lambdas body) tail = behind (map (λ k. part k vars false) lambdas) body vars tail false
places_are (Node.SetLocal v value) tail = refl
places_are (Node.SetGlobal g value) tail = refl
places_are (Node.Catch v body) tail = refl
places_are (Node.Object proc methods) tail = refl
places_are (Node.Call operator operands last) tail = refl
places_are (Node.Prim p operands) tail = refl

-- ---- a node in its place

stands_among : (vars : List Var) (i : ℕ) (v : Var) → slice_get vars i ≡ Some v → Contains vars v
stands_among vars i v h = (i, slice_get_within vars i v h, get_or_from_slice_get vars i v v h)

in_place : (shared : Shared) (vars : List Var) (tail : Bool) (s : Shape) (c : Core) → Fits shared vars tail s c → IsInPlace vars tail c
in_place shared vars tail (local i) (Node.Local v) f = stands_among vars i v f
in_place shared vars tail (set_local i) (Node.SetLocal v value) f = stands_among vars i v f
in_place shared vars tail call (Node.Call operator operands last) f = f
in_place shared vars tail (constant d) (Node.Const c) f = tt
in_place shared vars tail (global g) (Node.Global h) f = tt
in_place shared vars tail (builtin_value p) (Node.Builtin q) f = tt
in_place shared vars tail (op_value o) (Node.Op p) f = tt
in_place shared vars tail lambda (Node.Lambda params body) f = tt
in_place shared vars tail if_ (Node.If test a b) f = tt
in_place shared vars tail block (Node.Block items) f = tt
in_place shared vars tail let_ (Node.Let bound values body) f = tt
in_place shared vars tail labels (Node.Labels bound lambdas body) f = tt
in_place shared vars tail (set_global g) (Node.SetGlobal h value) f = tt
in_place shared vars tail catch_ (Node.Catch v body) f = tt
in_place shared vars tail (object ops) (Node.Object proc methods) f = tt
in_place shared vars tail (primitive p) (Node.Prim q operands) f = tt
in_place shared vars tail _ _ f = absurd f

-- ---- scopes

within_at : (nodes : List Core) (depth : ℕ) (vars : List Var) (tail : Bool) (k : ℕ) (c : Core) → slice_get nodes k ≡ Some c → IsInPlace vars tail c
    → AllByRecursion (λ p. IsScopedWithin nodes depth (p.binds ++ vars) p.tail p.at) (parts_of c tail) → IsScopedWithin nodes (suc depth) vars tail k
unfolding IsScopedWithin
within_at nodes depth vars tail k c at i a = rw at (i, a)

abbrev PartsBefore : List Core → Type 0
PartsBefore nodes = (k : ℕ) (c : Core) → slice_get nodes k ≡ Some c → All (λ place. place < k) (places_of c)

mutual
  scoped : (shared : Shared) (n : Nodes) (before : PartsBefore n.nodes) (depth : ℕ) (vars : List Var) (scope : Scope) (d : Datum) (tail : Bool) (k : ℕ) → k < depth
      → Means shared n vars scope d tail k → IsScopedWithin n.nodes depth vars tail k
  scoped shared n before depth vars scope d tail k below (as_form vs sc dd e t kk r m) = scoped shared n before depth vs sc e t kk below m
  scoped shared n before zero vars scope d tail k below (as_node vs sc dd t kk shape parts c r at span f all) = absurd (omega (arith, below))
  scoped shared n before (suc depth) vars scope d tail k below (as_node vs sc dd t kk shape parts c r at span f all) =
      let within : kk ≤ depth = omega (arith, below) in
      within_at n.nodes depth vs t kk c at (in_place shared vs t shape c f)
      (all_scoped shared n before depth vs sc parts (parts_of c t) kk within (subst (λ (l : List ℕ). All (λ place. place < kk) l) (sym (places_are c t)) (before kk c at)) all)

  all_scoped : (shared : Shared) (n : Nodes) (before : PartsBefore n.nodes) (depth : ℕ) (vars : List Var) (scope : Scope) (ps : List RowPart) (qs : List Part) (k : ℕ) → k ≤ depth
      → All (λ place. place < k) (map (λ p. p.at) qs) → AllMean shared n vars scope ps qs
      → AllByRecursion (λ p. IsScopedWithin n.nodes depth (p.binds ++ vars) p.tail p.at) qs
  all_scoped shared n before depth vars scope ps qs k within below (no_parts vs sc) = tt
  all_scoped shared n before depth vars scope ps qs k within below (one_part vs sc p q pps qqs l m rest) =
      let first : q.at < k = All-head (λ place. place < k) q.at (map (λ x. x.at) qqs) below in
      let less : q.at < depth = omega (arith, first) in (
        scoped shared n before depth (q.binds ++ vs) _ p.form q.tail q.at less m,
        all_scoped shared n before depth vs sc pps qqs k within (All-tail (λ place. place < k) q.at (map (λ x. x.at) qqs) below) rest,
      )

root_scoped : (shared : Shared) (defined : List Bound) (n : Nodes) (d : Datum) (root : ℕ) → IsTree n.nodes root → RootMeans defined shared n d root
    → IsScopedWithin n.nodes (length n.nodes) [] false root
root_scoped shared defined n d root tree m = scoped shared n tree.parts_before (length n.nodes) [] _ d false root tree.root_there m

value_scoped : (shared : Shared) (defined : List Bound) (n : Nodes) (d : Definition) (root : ℕ) → 0 < length n.nodes → IsTree n.nodes root → ValueMeans defined shared n d root
    → IsScopedWithin n.nodes (length n.nodes) [] false root
value_scoped shared defined n (define b d) root some tree m = root_scoped shared defined n d root tree m
value_scoped shared defined n (lset b d) root some tree m = root_scoped shared defined n d root tree m
value_scoped shared defined n (operation_form b ps (Some d)) root some tree m = root_scoped shared defined n d root tree m
value_scoped shared defined n (operation_form b ps None) root some tree m = absurd (let e : length n.nodes ≡ 0 = ap length m.1 in omega (arith, some, e))

pub form_scoped : (shared : Shared) (defined : List Bound) (form : Form) (spans : List Span) (t : Top) → FormMeans defined shared form spans t → HasPlaces shared form
    → IsScoped form
form_scoped shared defined form spans (defining d) m places =
    λ some. value_scoped shared defined (record { nodes = form.nodes.items; spans = spans }) d form.root some (places.tree some) m.1.1
form_scoped shared defined form spans (broken s) m places = absurd m.1
form_scoped shared defined form spans (expression d) m places =
    λ some. root_scoped shared defined (record { nodes = form.nodes.items; spans = spans }) d form.root (places.tree some) m.1.1

pub forms_scoped : (shared : Shared) (defined : List Bound) (forms : List Form) (spans : List (List Span)) (ts : List Top) → FormsMean defined shared forms spans ts
    → All (HasPlaces shared) forms → All IsScoped forms
forms_scoped shared defined [] [] [] m places = All-nil IsScoped
forms_scoped shared defined [] [] (t ∷ ts) m places = absurd m
forms_scoped shared defined [] (s ∷ spans) [] m places = absurd m
forms_scoped shared defined [] (s ∷ spans) (t ∷ ts) m places = absurd m
forms_scoped shared defined (f ∷ forms) [] [] m places = absurd m
forms_scoped shared defined (f ∷ forms) [] (t ∷ ts) m places = absurd m
forms_scoped shared defined (f ∷ forms) (s ∷ spans) [] m places = absurd m
forms_scoped shared defined (f ∷ forms) (s ∷ spans) (t ∷ ts) m places =
    All-cons IsScoped f forms (form_scoped shared defined f s t m.0 (All-head (HasPlaces shared) f forms places))
    (forms_scoped shared defined forms spans ts m.1 (All-tail (HasPlaces shared) f forms places))
