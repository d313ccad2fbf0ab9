-- A node that a form stands for names no more bytes of strings, with all that it is made of, than the form has.
use Rattle.std.proofs.Common.{◌≡◌, ◌⊎◌, inl, inr, ℕ, ◌+◌, ◌≤◌, Bool, List, [], ◌∷◌, map, sym, ap, subst, ◌∙◌, arith}
use Rattle.std.specs.List.{sum_by}
use Rattle.std.proofs.lemmas.List.Sums.{sum_by-cons}
use Rattle.t_base.specs.declared.basics.Var.{Var}
use Rattle.t_base.specs.declared.shared_parts.Shared.{Shared}
use Rattle.t_prim.specs.SharedParts.{HasLowerParts}
use Rattle.t_core.specs.declared.forms.Core.{Core}
use Rattle.t_core.specs.declared.forms.Core.TheVariants as Node
use Rattle.t_core.specs.Nodes.{parts_of}
use Rattle.t_core.specs.Nodes.{Part as NodePart}
use Rattle.t_core.specs.Whole.{IsTree}
use Rattle.t_forms.specs.Data.{Datum}
use Rattle.t_forms.specs.Names.{Scope}
use Rattle.t_rows.specs.declared.refusal.Refusal.{Refusal}
use Rattle.t_rows.specs.Rows.{stands_for, node, Shape, constant, local, global, builtin_value, op_value, lambda, if_, block, let_, labels, set_local, set_global, catch_, object, call, primitive, nothing, Part}
use Rattle.expansion.specs.Meaning.{Fits, Nodes, Means, as_form, as_node, AllMean, no_parts, one_part}
use Rattle.expand_laws.proofs.Beside.{places_are}
use Rattle.expand_laws.proofs.TreeSums.{total, total_is}
use Rattle.expand_laws.proofs.Weights.{listed_total}
use Rattle.kept_strings.proofs.Bytes.{bytes}
use Rattle.kept_strings.proofs.ConstantBytes.{node_bytes, quoted_bytes}
use Rattle.kept_strings.proofs.DoRows.{IsRefused, Kept}
use Rattle.kept_strings.proofs.KeptRows.{row_kept}
use Rattle.kept_strings.proofs.RowBytes.{shape_bytes, parts_bytes}

-- ---- one node

module _ (shared : Shared) (lower : HasLowerParts shared.pairs.items) (vars : List Var) (tail : Bool) where
  -- a node that is no constant names no string
  shape_names : (s : Shape) (c : Core) → Fits shared vars tail s c → node_bytes shared c ≤ shape_bytes s
  unfolding listed_total
  shape_names (constant d) (Node.Const c) f = let e = quoted_bytes shared lower d c f in omega (arith, e)
  shape_names (local i) (Node.Local w) f = omega arith
  shape_names (global g) (Node.Global h) f = omega arith
  shape_names (builtin_value p) (Node.Builtin q) f = omega arith
  shape_names (op_value o) (Node.Op p) f = omega arith
  shape_names lambda (Node.Lambda params body) f = omega arith
  shape_names if_ (Node.If test a b) f = omega arith
  shape_names block (Node.Block items) f = omega arith
  shape_names let_ (Node.Let bound values body) f = omega arith
  shape_names labels (Node.Labels bound lambdas body) f = omega arith
  shape_names (set_local i) (Node.SetLocal w value) f = omega arith
  shape_names (set_global g) (Node.SetGlobal h value) f = omega arith
  shape_names catch_ (Node.Catch v body) f = omega arith
  shape_names (object ops) (Node.Object proc methods) f = omega arith
  shape_names call (Node.Call operator operands last) f = omega arith
  shape_names (primitive p) (Node.Prim q operands) f = omega arith
  shape_names _ _ f = absurd f

-- ---- what is refused has no node

other_row : (d : Datum) (s : Shape) (rs : List Refusal) (ps : List Part) → stands_for d ≡ node s rs ps → ⊥
other_row d s rs ps h = cc

some_refusals : (s t : Shape) (r : Refusal) (rs : List Refusal) (ps qs : List Part) → node s [] ps ≡ node t (r ∷ rs) qs → ⊥
some_refusals s t r rs ps qs h = cc

refused_none : (shared : Shared) (n : Nodes) (vars : List Var) (scope : Scope) (d : Datum) (tail : Bool) (k : ℕ) → IsRefused d → Means shared n vars scope d tail k → ⊥
refused_none shared n vars scope d tail k h (as_form vs sc dd e t kk at m) = other_row e nothing _ [] (sym at ∙ h.row_is sc)
refused_none shared n vars scope d tail k h (as_node vs sc dd t kk shape parts c at here span f all) = some_refusals shape nothing _ [] parts [] (sym at ∙ h.row_is sc)

-- ---- with all that it is made of

module _ (shared : Shared) (lower : HasLowerParts shared.pairs.items) (n : Nodes) (root : ℕ) (tree : IsTree n.nodes root) where
  abbrev Named : ℕ → ℕ
  Named k = total (node_bytes shared) n.nodes k

  by_form : (m k : ℕ) (e : Datum) → (bytes e ≤ m) ⊎ IsRefused e → (IsRefused e → ⊥) → Named k ≤ bytes e → Named k ≤ m
  by_form m k e (inl h) none l = omega (arith, h, l)
  by_form m k e (inr h) none l = absurd (none h)

  mutual
    pub means_named : (vars : List Var) (scope : Scope) (d : Datum) (tail : Bool) (k : ℕ) → Means shared n vars scope d tail k → Named k ≤ bytes d
    means_named vars scope d tail k (as_form vs sc dd e t kk at m) =
        by_form (bytes dd) kk e (subst (Kept (bytes dd)) at (row_kept sc dd)) (λ h. refused_none shared n vs sc e t kk h m) (means_named vs sc e t kk m)
    means_named vars scope d tail k (as_node vs sc dd t kk shape parts c at here span f all) =
        let kept : shape_bytes shape + parts_bytes parts ≤ bytes dd = subst (Kept (bytes dd)) at (row_kept sc dd) in
        let own = shape_names shared lower vs t shape c f in
        let others = all_named vs sc parts (parts_of c t) all in
        let is = total_is (node_bytes shared) n.nodes root tree kk c here in
        let same = ap (sum_by Named) (places_are c t) in
        omega (arith, kept, own, others, is, same)

    all_named : (vars : List Var) (scope : Scope) (ps : List Part) (qs : List NodePart) → AllMean shared n vars scope ps qs → sum_by Named (map (λ q. q.at) qs) ≤ parts_bytes ps
    all_named vars scope ps qs (no_parts vs sc) = omega arith
    all_named vars scope ps qs (one_part vs sc p q pps qqs l m rest) =
        let a = means_named _ _ p.form q.tail q.at m in
        let b = all_named vs sc pps qqs rest in
        let c = sum_by-cons Named q.at (map (λ (r : NodePart). r.at) qqs) in
        omega (arith, a, b, c)
