-- Forms that are alike have one greatest number of parameters or operands.
use Rattle.std.proofs.Common.{◌≡◌, ℕ, ◌-◌, List, [], ◌∷◌, length, map, max, fold, refl, sym, ap, ◌∙◌}
use Rattle.std.specs.List.{AllZip}
use Rattle.std.proofs.lemmas.List.{length-map}
use Rattle.std.proofs.lemmas.List.Elements.{length_all_zip}
use Rattle.t_base.specs.declared.shared_parts.Shared.{Shared}
use Rattle.t_core.specs.declared.forms.Core.TheVariants as Node
use Rattle.t_core.specs.declared.forms.Method.{Method}
use Rattle.t_core.specs.Nodes.{early}
use Rattle.t_core.specs.Limits.{node_width, form_width}
use Rattle.expand_laws.specs.Renaming.{Renaming, Renames}
use Rattle.expand_laws.proofs.AlikeSums.{SameForNodes, SameForForms, nodes_same}
use Rattle.expand_laws.proofs.Around.{Around, method_part}
use Rattle.expand_laws.proofs.Greatest.{greatest_same}
use Rattle.expand_laws.proofs.Roots.{same_roots}

methods_width : (renaming : Renaming) (most : ℕ) (ms ns : List Method) → AllZip (Around renaming) (map method_part ms) (map method_part ns)
    → fold (λ a m. max a (length m.params)) most ms ≡ fold (λ a m. max a (length m.params)) most ns
methods_width renaming most [] [] h = refl
methods_width renaming most [] (n ∷ ns) h = absurd h
methods_width renaming most (m ∷ ms) [] h = absurd h
methods_width renaming most (m ∷ ms) (n ∷ ns) h =
    ap (λ l. fold (λ a (x : Method). max a (length x.params)) (max most l) ms) (length_all_zip (Renames renaming) m.params n.params h.0)
    ∙ methods_width renaming (max most (length n.params)) ms ns h.1

operands_width : (renaming : Renaming) (ks js : List ℕ) → AllZip (Around renaming) (map early ks) (map early js) → length ks ≡ length js
operands_width renaming ks js h = sym (length-map ks early) ∙ length_all_zip (Around renaming) (map early ks) (map early js) h ∙ length-map js early

module _ (renaming : Renaming) (shared other : Shared) where
  pub same_width : SameForNodes renaming shared other node_width node_width
  same_width (Node.Const a) (Node.Const b) tail same h = refl
  same_width (Node.Local a) (Node.Local b) tail same h = refl
  same_width (Node.Global a) (Node.Global b) tail same h = refl
  same_width (Node.Builtin a) (Node.Builtin b) tail same h = refl
  same_width (Node.Op a) (Node.Op b) tail same h = refl
  same_width (Node.Lambda params body) (Node.Lambda others place) tail same h = length_all_zip (Renames renaming) params others h.0
  same_width (Node.If a b c) (Node.If d e f) tail same h = refl
  same_width (Node.Block items) (Node.Block places) tail same h = refl
  same_width (Node.Let vars values body) (Node.Let others places place) tail same h = refl
  same_width (Node.Labels vars values body) (Node.Labels others places place) tail same h = refl
  same_width (Node.SetLocal v value) (Node.SetLocal w place) tail same h = refl
  same_width (Node.SetGlobal v value) (Node.SetGlobal w place) tail same h = refl
  same_width (Node.Catch v body) (Node.Catch w place) tail same h = refl
  same_width (Node.Object proc methods) (Node.Object place others) tail same h = methods_width renaming 0 methods others h.1
  same_width (Node.Call operator operands last) (Node.Call place places ends) tail same h = operands_width renaming operands places h.1
  same_width (Node.Prim p operands) (Node.Prim q places) tail same h = refl
  same_width _ _ tail same h = absurd same

  pub form_widths_same : SameForForms renaming shared other form_width form_width
  form_widths_same form twin ss ts places others kinds roots =
      greatest_same node_width node_width form.nodes.items twin.nodes.items
      (λ bound. nodes_same renaming shared other (λ c. node_width c - bound) (λ d. node_width d - bound)
      (λ c d tail same h. ap (λ n. n - bound) (same_width c d tail same h)) form twin ss ts places others roots
      (same_roots renaming shared other form twin ss ts roots))
