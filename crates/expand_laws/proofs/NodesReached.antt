-- Every node of a form is of a row that the table gives for a form which it reaches from the form's datum.
use Rattle.std.proofs.Common.{◌≡◌, ℕ, zero, suc, Bool, false, List, [], Some, slice_get, refl, sym, subst, ◌∙◌}
use Rattle.std.proofs.lemmas.Option.{slice_get_within, same_Some}
use Rattle.t_base.specs.declared.basics.Var.{Var}
use Rattle.t_base.specs.declared.shared_parts.Shared.{Shared}
use Rattle.t_core.specs.declared.forms.Core.{Core}
use Rattle.t_core.specs.Nodes.{parts_of, places_of}
use Rattle.t_core.specs.Nodes.{Part as NodePart}
use Rattle.t_core.specs.Whole.{IsTree}
use Rattle.t_reader.specs.Grammar.{Value}
use Rattle.t_forms.specs.Data.{Datum}
use Rattle.t_forms.specs.Names.{Scope, Bound}
use Rattle.t_rows.specs.Rows.{node, Shape, Part, row}
use Rattle.expansion.specs.Meaning.{Fits, Nodes, Means, as_form, as_node, AllMean, no_parts, one_part, top_scope}
use Rattle.expand_laws.proofs.Beside.{part_of_place}
use Rattle.expand_laws.proofs.Paired.{Paired, at_roots, at_parts}
use Rattle.expand_laws.proofs.Reached.{HasBuiltinOps, IsRightShape, Comes, to_form, to_node, AllCome, one_part as one_comes}
use Rattle.expand_laws.proofs.Reaching.{HasParts, reached}

-- The node at a place stands for a form that the table reaches, where the unit defines these names.
pub record Arrived (right : Value → Type 0) (defined : List Bound) (shared : Shared) (n : Nodes) (k : ℕ) : Type 0 where
  pub vars : List Var
  pub scope : Scope
  pub form : Datum
  pub tail : Bool
  pub own : scope.defined ≡ defined
  pub means : Means shared n vars scope form tail k
  pub comes : Comes right scope form

-- the row of the node, in which nothing is refused
pub record OfRow (right : Value → Type 0) (defined : List Bound) (shared : Shared) (n : Nodes) (c : Core) : Type 0 where
  pub vars : List Var
  pub scope : Scope
  pub form : Datum
  pub tail : Bool
  pub shape : Shape
  pub parts : List Part
  pub own : scope.defined ≡ defined
  pub is : row scope form ≡ node shape [] parts
  pub ops : HasBuiltinOps form
  pub right_shape : IsRightShape right shape
  pub fits : Fits shared vars tail shape c
  pub all : AllMean shared n vars scope parts (parts_of c tail)
  pub come : AllCome right scope parts

module _ (right : Value → Type 0) (defined : List Bound) (shared : Shared) (n : Nodes) where
  -- ---- the row of a node

  of_row : (vars : List Var) (scope : Scope) (d : Datum) (tail : Bool) (k : ℕ) (c : Core) → scope.defined ≡ defined → Means shared n vars scope d tail k → Comes right scope d
      → slice_get n.nodes k ≡ Some c → OfRow right defined shared n c
  of_row vars scope d tail k c own (as_form vs sc dd e t kk r m) (to_form _ _ f q h) g =
      let same : f ≡ e = cc in of_row vs sc e t kk c own m (subst (Comes right sc) same h) g
  of_row vars scope d tail k c own (as_form vs sc dd e t kk r m) (to_node _ _ shape refusals parts q ops pure all) g =
      absurd (let z : ⊥ = cc in z)
  of_row vars scope d tail k c own (as_node vs sc dd t kk shape parts b r at span fits all) (to_form _ _ f q h) g =
      absurd (let z : ⊥ = cc in z)
  of_row vars scope d tail k c own (as_node vs sc dd t kk shape parts b r at span fits all) (to_node _ _ shape2 refusals parts2 q ops pure come) g =
      let core : b ≡ c = same_Some b c (sym at ∙ g) in
      let same_shape : shape2 ≡ shape = cc in
      let same_parts : parts2 ≡ parts = cc in
      record {
        vars = vs;
        scope = sc;
        form = dd;
        tail = t;
        shape = shape;
        parts = parts;
        own = own;
        is = r;
        ops = ops;
        right_shape = subst (IsRightShape right) same_shape pure;
        fits = subst (Fits shared vs t shape) core fits;
        all = subst (λ x. AllMean shared n vs sc parts (parts_of x t)) core all;
        come = subst (AllCome right sc) same_parts come;
      }

  -- ---- its parts

  part_arrived : (vars : List Var) (scope : Scope) (ps : List Part) (qs : List NodePart) (i : ℕ) (x : NodePart) → scope.defined ≡ defined → AllMean shared n vars scope ps qs
      → AllCome right scope ps → slice_get qs i ≡ Some x → Arrived right defined shared n x.at
  part_arrived vars scope ps qs i x own (no_parts vs sc) come g = absurd (let z : ⊥ = cc in z)
  part_arrived vars scope ps qs zero x own (one_part vs sc p q pps qqs l m rest) (one_comes _ _ _ h come) g =
      subst (λ (y : NodePart). Arrived right defined shared n y.at) (same_Some q x g)
      (record { vars = _; scope = _; form = p.form; tail = q.tail; own = own; means = m; comes = h })
  part_arrived vars scope ps qs (suc i) x own (one_part vs sc p q pps qqs l m rest) (one_comes _ _ _ h come) g =
      part_arrived vs sc pps qqs i x own rest come g

  -- ---- every node

  row_at : (k : ℕ) (c : Core) → Arrived right defined shared n k → slice_get n.nodes k ≡ Some c → OfRow right defined shared n c
  row_at k c a g = of_row a.vars a.scope a.form a.tail k c a.own a.means a.comes g

  module _ (root : ℕ) where
    -- a place is paired with itself
    same_place : (k j : ℕ) → Paired n.nodes n.nodes root root k j → k ≡ j
    same_place k j (at_roots kk jj p q) = p ∙ sym q
    same_place k j (at_parts kk jj i x y c d both g h p q) =
        let e : kk ≡ jj = same_place kk jj both in
        let f : c ≡ d = same_Some c d (sym g ∙ subst (λ m. slice_get n.nodes m ≡ Some d) (sym e) h) in
        same_Some x y (sym p ∙ subst (λ m. slice_get (places_of m) i ≡ Some y) (sym f) q)

    has_itself : HasParts n.nodes n.nodes root root
    has_itself p q i x c both g h =
        record { d = c; y = x; node_is = subst (λ m. slice_get n.nodes m ≡ Some c) (same_place p q both) g; part_is = h }

    arrived : (k j : ℕ) → Paired n.nodes n.nodes root root k j → Arrived right defined shared n root → Arrived right defined shared n k
    arrived k j (at_roots kk jj p q) a = subst (Arrived right defined shared n) (sym p) a
    arrived k j (at_parts kk jj i x y c d both g h p q) a =
        let above : OfRow right defined shared n c = row_at kk c (arrived kk jj both a) g in
        let r : (q : NodePart) × (slice_get (parts_of c above.tail) i ≡ Some q) × (q.at ≡ x) = part_of_place c above.tail i x p in
        subst (Arrived right defined shared n) r.2 (part_arrived above.vars above.scope above.parts (parts_of c above.tail) i r.0 above.own above.all above.come r.1)

    -- each node stands for a form that the table reaches
    pub all_arrived : (d : Datum) → IsTree n.nodes root → Means shared n [] (top_scope defined) d false root → Comes right (top_scope defined) d → (k : ℕ) (c : Core)
        → slice_get n.nodes k ≡ Some c → Arrived right defined shared n k
    all_arrived d tree m h k c g =
        let r : (j : ℕ) × Paired n.nodes n.nodes root root k j = reached n.nodes n.nodes root root tree has_itself k (slice_get_within n.nodes k c g) in
        arrived k r.0 r.1 (record { vars = []; scope = top_scope defined; form = d; tail = false; own = refl; means = m; comes = h })

    pub rows_reached : (d : Datum) → IsTree n.nodes root → Means shared n [] (top_scope defined) d false root → Comes right (top_scope defined) d → (k : ℕ) (c : Core)
        → slice_get n.nodes k ≡ Some c → OfRow right defined shared n c
    rows_reached d tree m h k c g = row_at k c (all_arrived d tree m h k c g) g
