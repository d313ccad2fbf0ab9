-- What the nodes of a form weigh, by the node that names them.
use Rattle.std.specs.Prelude.{sum_by}
use Rattle.std.specs.Option.{option_map_or, option_and_then}
use Rattle.std.proofs.Common.{◌≡◌, ◌≤◌, ◌<◌, ◌+◌, ℕ, zero, suc, true, false, List, [], ◌∷◌, ◌++◌, length, map, Option, Some, None, slice_get, refl, sym, ap, subst, arith}
use Rattle.std.proofs.lemmas.List.Sums.{sum_by-cons}
use Rattle.t_base.specs.declared.shared_parts.Const.{Const}
use Rattle.t_core.specs.declared.forms.Core.{Core}
use Rattle.t_core.specs.declared.forms.Core.TheVariants as Node
use Rattle.t_core.specs.declared.forms.Method.{Method}
use Rattle.t_core.specs.declared.forms.Form.{Form}
use Rattle.t_core.specs.declared.forms.UnitCore.{UnitCore}
use Rattle.t_core.specs.Nodes.{Part, part, early, block_parts, places_of}
use Rattle.t_core.specs.Counts.{Pairs, nodes_within, datum_nodes, parts as datum_parts, node_count, definition_count, form_count, method_nodes}
use Rattle.t_core.specs.Whole.{IsTree, HasPlaces, IsWhole}
use Rattle.t_meaning.specs.Programs.{node_at}
use Rattle.cps_ir.proofs.ProperLists.{none_some, all_at}
use Rattle.cps_ir.proofs.Counts.{tot, sum_tot}
use Rattle.expand_laws.proofs.TreeSums.{total as tree_total, total_is, total_of_root}
use Rattle.conversion_laws.proofs.Widths.{in_greatest}
use Rattle.conversion_loads.proofs.Weigh.{total}

datum_positive : (pairs : Pairs) (c : Const) → 1 ≤ datum_nodes pairs c
unfolding datum_nodes nodes_within
datum_positive pairs c = by (length pairs)
  where
    some : (depth : ℕ) (o : Option (Const × Const)) → 1 ≤ option_map_or (λ p. 1 + nodes_within pairs depth p.0 + nodes_within pairs depth p.1) o 1
    some depth None = omega arith
    some depth (Some p) = omega arith

    by : (depth : ℕ) → 1 ≤ nodes_within pairs depth c
    by zero = omega arith
    by (suc depth) = some depth (datum_parts pairs c)

earlies : (f : ℕ → ℕ) (ks : List ℕ) → tot f (map (λ (p : Part). p.at) (map early ks)) ≡ tot f ks
earlies f [] = refl
earlies f (k ∷ ks) = let h = earlies f ks in omega (arith, h)

blocks : (f : ℕ → ℕ) (ks : List ℕ) → tot f (map (λ (p : Part). p.at) (block_parts ks false)) ≡ tot f ks
blocks f [] = refl
blocks f (k ∷ []) = refl
blocks f (k ∷ next ∷ ks) = let h = blocks f (next ∷ ks) in omega (arith, h)

mapped_both : (f : ℕ → ℕ) (ps qs : List Part) → tot f (map (λ (p : Part). p.at) (ps ++ qs)) ≡ tot f (map (λ (p : Part). p.at) ps) + tot f (map (λ (p : Part). p.at) qs)
mapped_both f [] qs = omega arith
mapped_both f (p ∷ ps) qs = let h = mapped_both f ps qs in omega (arith, h)

lambdas_mapped : (f : ℕ → ℕ) (g : ℕ → Part) (same : (k : ℕ) → (g k).at ≡ k) (ks : List ℕ) → tot f (map (λ (p : Part). p.at) (map g ks)) ≡ tot f ks
lambdas_mapped f g same [] = refl
lambdas_mapped f g same (k ∷ ks) = let h = lambdas_mapped f g same ks in let e : f ((g k).at) ≡ f k = ap f (same k) in omega (arith, h, e)

methods_mapped : (f : ℕ → ℕ) (ms : List Method) → tot (λ (m : Method). 1 + length m.params + f m.body) ms ≡ sum_by method_nodes ms + tot f (map (λ (p : Part). p.at) (map (λ (m : Method). part m.body m.params true) ms))
methods_mapped f [] = refl
methods_mapped f (m ∷ ms) = let h = methods_mapped f ms in let s = sum_by-cons method_nodes m ms in omega (arith, h, s)

total_of : (pairs : Pairs) (f : ℕ → ℕ) (node : Core) → total f node ≤ node_count pairs node + tot f (places_of node)
total_of pairs f (Node.Const c) = let a = datum_positive pairs c in omega (arith, a)
total_of pairs f (Node.Local v) = omega arith
total_of pairs f (Node.Global g) = omega arith
total_of pairs f (Node.Builtin b) = omega arith
total_of pairs f (Node.Op o) = omega arith
total_of pairs f (Node.Lambda params body) = omega arith
total_of pairs f (Node.If test first second) = omega arith
total_of pairs f (Node.Block items) = let a = blocks f items in omega (arith, a)
total_of pairs f (Node.Let vars values body) = let a = mapped_both f (map early values) (part body vars false ∷ []) in let b = earlies f values in omega (arith, a, b)
total_of pairs f (Node.Labels vars lambdas body) =
    let a = mapped_both f (map (λ k. part k vars false) lambdas) (part body vars false ∷ []) in let b = lambdas_mapped f (λ k. part k vars false) (λ k. refl) lambdas in omega (arith, a, b)
total_of pairs f (Node.SetLocal v value) = omega arith
total_of pairs f (Node.SetGlobal g value) = omega arith
total_of pairs f (Node.Catch v body) = omega arith
total_of pairs f (Node.Object proc methods) = let a = methods_mapped f methods in omega (arith, a)
total_of pairs f (Node.Call operator operands tail) = let a = earlies f operands in omega (arith, a)
total_of pairs f (Node.Prim b operands) = let a = earlies f operands in omega (arith, a)

module _ (unit : UnitCore) (whole : IsWhole unit) where
  abbrev pairs : Pairs
  pairs = unit.shared.pairs.items

  abbrev in_form : Form → ℕ → ℕ
  in_form form key = tree_total (node_count pairs) form.nodes.items key

  -- the count of a node and of all that it is made of
  abbrev pub weight : ℕ → ℕ → ℕ
  weight form key = option_map_or (λ (f : Form). in_form f key) (slice_get unit.forms.items form) 0

  not_empty : (nodes : List Core) (key : ℕ) (node : Core) → slice_get nodes key ≡ Some node → 0 < length nodes
  not_empty [] key node e = none_some node e
  not_empty (n ∷ nodes) key node e = omega arith

  tree_of : (form : ℕ) (f : Form) → slice_get unit.forms.items form ≡ Some f → 0 < length f.nodes.items → IsTree f.nodes.items f.root
  tree_of form f e = (all_at (HasPlaces unit.shared) unit.forms.items form f whole.places e).tree

  pub weighs : (form key : ℕ) (node : Core) → node_at unit form key ≡ Some node → total (weight form) node ≤ weight form key
  weighs form key node e = by (slice_get unit.forms.items form) refl e
    where
      by : (o : Option Form) → slice_get unit.forms.items form ≡ o → option_and_then (λ (f : Form). slice_get f.nodes.items key) o ≡ Some node → total (λ k. option_map_or (λ (f : Form). in_form f k) o 0) node ≤ option_map_or (λ (f : Form). in_form f key) o 0
      by None q e = none_some node e
      by (Some f) q e =
          let t = tree_of form f q (not_empty f.nodes.items key node e) in
          let a = total_is (node_count pairs) f.nodes.items f.root t key node e in
          let b = total_of pairs (in_form f) node in
          let c = sum_tot (in_form f) (places_of node) in
          omega (arith, a, b, c)

  sum_zero : (f : Form) → f.nodes.items ≡ [] → in_form f f.root ≡ 0
  sum_zero f e = ap (λ nodes. tree_total (node_count pairs) nodes f.root) e

  pub root_within : (form : ℕ) (f : Form) → slice_get unit.forms.items form ≡ Some f → weight form f.root + definition_count f.kind f.nodes.items ≤ unit.shared.size
  root_within form f e =
      let a = in_greatest (form_count pairs) unit.forms.items form f e in
      let b = whole.shared.size in
      let c : weight form f.root ≡ in_form f f.root = ap (λ o. option_map_or (λ (g : Form). in_form g f.root) o 0) e in
      let d = by f.nodes.items refl in
      omega (arith, a, b, c, d)
    where
      by : (nodes : List Core) → f.nodes.items ≡ nodes → in_form f f.root ≤ sum_by (node_count pairs) f.nodes.items
      by [] q = let z = sum_zero f q in omega (arith, z)
      by (n ∷ nodes) q = let t = total_of_root (node_count pairs) f.nodes.items f.root (tree_of form f e (subst (λ (ns : List Core). 0 < length ns) (sym q) (omega arith))) in omega (arith, t)
