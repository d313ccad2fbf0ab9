-- Forms that are alike have one count.
use Rattle.std.proofs.Common.{◌≡◌, ℕ, ◌+◌, ◌<◌, Bool, List, [], ◌∷◌, length, map, refl, sym, ap, ◌∙◌, arith}
use Rattle.std.specs.List.{AllZip, sum_by}
use Rattle.std.proofs.lemmas.List.Elements.{length_all_zip}
use Rattle.std.proofs.lemmas.List.Sums.{sum_by-cons}
use Rattle.t_base.specs.declared.shared_parts.Const.{Const}
use Rattle.t_base.specs.declared.shared_parts.Const.TheVariants as Constant
use Rattle.t_base.specs.declared.shared_parts.Shared.{Shared}
use Rattle.t_prim.specs.SharedParts.{HasLowerParts}
use Rattle.t_core.specs.declared.forms.Core.{Core}
use Rattle.t_core.specs.declared.forms.Core.TheVariants as Node
use Rattle.t_core.specs.declared.forms.FormKind.{FormKind}
use Rattle.t_core.specs.declared.forms.FormKind.TheVariants.{Define, Lset, Operation, Plain}
use Rattle.t_core.specs.declared.forms.Method.{Method}
use Rattle.t_core.specs.Nodes.{parts_of, binders_of}
use Rattle.t_core.specs.Counts.{datum_nodes, method_nodes, node_count, definition_count, form_count}
use Rattle.t_core.proofs.DatumLemmas.{datum_atom, datum_pair}
use Rattle.expand_laws.specs.Renaming.{Renaming, Renames, IsSameConst, fix, char, nil, truth, symbol, string, pair, IsSameNode}
use Rattle.expand_laws.proofs.AlikeSums.{SameForNodes, SameForForms, nodes_same}
use Rattle.expand_laws.proofs.Around.{Around, bound_alike, method_part}
use Rattle.expand_laws.proofs.Roots.{SameRoots, same_roots, none_here}

-- ---- constants

pub same_datum : (shared other : Shared) → HasLowerParts shared.pairs.items → HasLowerParts other.pairs.items → (c d : Const) → IsSameConst shared other c d
    → datum_nodes shared.pairs.items c ≡ datum_nodes other.pairs.items d
same_datum shared other lower also c d (fix z) = datum_atom shared.pairs.items (Constant.Fix z) refl ∙ sym (datum_atom other.pairs.items (Constant.Fix z) refl)
same_datum shared other lower also c d (char b) = datum_atom shared.pairs.items (Constant.Char b) refl ∙ sym (datum_atom other.pairs.items (Constant.Char b) refl)
same_datum shared other lower also c d nil = datum_atom shared.pairs.items Constant.Nil refl ∙ sym (datum_atom other.pairs.items Constant.Nil refl)
same_datum shared other lower also c d truth = datum_atom shared.pairs.items Constant.True refl ∙ sym (datum_atom other.pairs.items Constant.True refl)
same_datum shared other lower also c d (symbol m n text p q) =
    datum_atom shared.pairs.items (Constant.Sym m) refl ∙ sym (datum_atom other.pairs.items (Constant.Sym n) refl)
same_datum shared other lower also c d (string j k bytes p q) =
    datum_atom shared.pairs.items (Constant.Str j) refl ∙ sym (datum_atom other.pairs.items (Constant.Str k) refl)
same_datum shared other lower also c d (pair j k p q g h first second) =
    datum_pair shared.pairs.items lower (Constant.Pair j) p g
    ∙ ap (λ n. 1 + n + datum_nodes shared.pairs.items p.1) (same_datum shared other lower also p.0 q.0 first)
    ∙ ap (λ n. 1 + datum_nodes other.pairs.items q.0 + n) (same_datum shared other lower also p.1 q.1 second)
    ∙ sym (datum_pair other.pairs.items also (Constant.Pair k) q h)

-- ---- nodes

same_methods : (renaming : Renaming) (ms ns : List Method) → AllZip (Around renaming) (map method_part ms) (map method_part ns)
    → sum_by method_nodes ms ≡ sum_by method_nodes ns
same_methods renaming [] [] h = refl
same_methods renaming [] (n ∷ ns) h = absurd h
same_methods renaming (m ∷ ms) [] h = absurd h
same_methods renaming (m ∷ ms) (n ∷ ns) h =
    sum_by-cons method_nodes m ms ∙ ap (λ l. 1 + l + sum_by method_nodes ms) (length_all_zip (Renames renaming) m.params n.params h.0)
    ∙ ap (λ l. method_nodes n + l) (same_methods renaming ms ns h.1)
    ∙ sym (sum_by-cons method_nodes n ns)

module _ (renaming : Renaming) (shared other : Shared) (lower : HasLowerParts shared.pairs.items) (also : HasLowerParts other.pairs.items) where
  abbrev left : Core → ℕ
  left c = node_count shared.pairs.items c

  abbrev right : Core → ℕ
  right d = node_count other.pairs.items d

  count_same : (c d : Core) (tail : Bool) → IsSameNode shared other (Renames renaming) c d → AllZip (Around renaming) (parts_of c tail) (parts_of d tail)
      → AllZip (Renames renaming) (binders_of c) (binders_of d) → left c ≡ right d
  count_same (Node.Const a) (Node.Const b) tail same h z = same_datum shared other lower also a b same
  count_same (Node.Local a) (Node.Local b) tail same h z = refl
  count_same (Node.Global a) (Node.Global b) tail same h z = refl
  count_same (Node.Builtin a) (Node.Builtin b) tail same h z = refl
  count_same (Node.Op a) (Node.Op b) tail same h z = refl
  count_same (Node.Lambda params body) (Node.Lambda others place) tail same h z = ap (λ n. 1 + n) (length_all_zip (Renames renaming) params others z)
  count_same (Node.If a b c) (Node.If d e f) tail same h z = refl
  count_same (Node.Block items) (Node.Block places) tail same h z = refl
  count_same (Node.Let vars values body) (Node.Let others places place) tail same h z = ap (λ n. 1 + n) (length_all_zip (Renames renaming) vars others z)
  count_same (Node.Labels vars values body) (Node.Labels others places place) tail same h z = ap (λ n. 1 + n) (length_all_zip (Renames renaming) vars others z)
  count_same (Node.SetLocal v value) (Node.SetLocal w place) tail same h z = refl
  count_same (Node.SetGlobal v value) (Node.SetGlobal w place) tail same h z = refl
  count_same (Node.Catch v body) (Node.Catch w place) tail same h z = refl
  count_same (Node.Object proc methods) (Node.Object place others) tail same h z = ap (λ n. 1 + n) (same_methods renaming methods others h.1)
  count_same (Node.Call operator operands last) (Node.Call place places ends) tail same h z = refl
  count_same (Node.Prim p operands) (Node.Prim q places) tail same h z = refl
  count_same _ _ tail same h z = absurd same

  same_count : SameForNodes renaming shared other left right
  same_count c d tail same h = count_same c d tail same h (bound_alike renaming shared other c d tail same h)

  -- ---- forms

  definitions_same : (k : FormKind) (nodes others : List Core) → (0 < length nodes → 0 < length others) → (0 < length others → 0 < length nodes)
      → definition_count k nodes ≡ definition_count k others
  definitions_same (Define g) nodes others some all = refl
  definitions_same (Lset g) nodes others some all = refl
  definitions_same (Operation o) [] [] some all = refl
  definitions_same (Operation o) [] (c ∷ others) some all = absurd (none_here [] refl (all (omega arith)))
  definitions_same (Operation o) (c ∷ nodes) [] some all = absurd (none_here [] refl (some (omega arith)))
  definitions_same (Operation o) (c ∷ nodes) (d ∷ others) some all = refl
  definitions_same Plain nodes others some all = refl

  pub form_same : SameForForms renaming shared other (form_count shared.pairs.items) (form_count other.pairs.items)
  form_same form twin ss ts places also_places kinds roots =
      let same : SameRoots form.nodes.items twin.nodes.items form.root twin.root = same_roots renaming shared other form twin ss ts roots in
      ap (λ n. n + definition_count form.kind form.nodes.items) (nodes_same renaming shared other left right same_count form twin ss ts places also_places roots same)
      ∙ ap (λ k. sum_by right twin.nodes.items + definition_count k form.nodes.items) kinds
      ∙ ap (λ n. sum_by right twin.nodes.items + n) (definitions_same twin.kind form.nodes.items twin.nodes.items same.some same.all)
