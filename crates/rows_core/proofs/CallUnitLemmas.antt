-- The unit `((lambda (x) x) 5)` is whole.
use Rattle.std.proofs.Common.{◌≡◌, ℕ, zero, suc, ◌<◌, ◌≤◌, ◌^◌, ◌==◌, if◌then◌else◌, false, List, [], ◌∷◌, length, slice_get, slice_index_or, Some, All, count_by, refl, sym, ap, subst, pos, arith, lit≤, lit<}
use Rattle.std.specs.List.{AllByRecursion, flat_map}
use Rattle.std.specs.Option.{option_map}
use Rattle.t_base.specs.declared.basics.Var.{Var}
use Rattle.t_base.specs.declared.shared_parts.OpInfo.{OpInfo}
use Rattle.t_base.specs.declared.shared_parts.Const.TheVariants as Constant
use Rattle.t_base.specs.declared.shared_parts.Shared.{Shared}
use Rattle.t_prim.specs.SharedParts.{IsNameText, IsConst, IsWholeShared}
use Rattle.t_core.specs.declared.forms.Core.{Core}
use Rattle.t_core.specs.declared.forms.Core.TheVariants as Node
use Rattle.t_core.specs.declared.forms.UnitCore.{UnitCore}
use Rattle.t_core.specs.Counts.{form_count, datum_nodes, nodes_within, bulk_of}
use Rattle.t_core.specs.Nodes.{places_of}
use Rattle.t_core.specs.Whole.{NamesAreThere, IsTree, HasPlaces, IsScopedWithin, IsScoped, IsShaped, HasShapes, IsDefinition, binders, named_pairs, IsWhole}
use Rattle.rows_core.specs.CallUnit.{setter, first_op, IsBare, x_var, call_nodes, IsCallUnit}
use Rattle.rows_core.proofs.UnitLemmas.{no_pairs_lower}

all_more : {X : Type 0} (P : X → Type 0) (x : X) (xs : List X) → P x → All P xs → All P (x ∷ xs)
all_more {X} P x xs h t = at
  where
    at : (k : ℕ) (d : X) → k < length (x ∷ xs) → P (slice_index_or (x ∷ xs) k d)
    at zero d lt = h
    at (suc k) d lt = t k d (omega arith)

all_of : {X : Type 0} (P : X → Type 0) (xs : List X) → AllByRecursion P xs → All P xs
all_of P [] h = λ k d lt. absurd (omega arith)
all_of P (x ∷ xs) h = all_more P x xs h.0 (all_of P xs h.1)

all_at : {X : Type 0} (P : X → Type 0) (xs ys : List X) → xs ≡ ys → AllByRecursion P ys → All P xs
all_at {X} P xs ys e h = let Q : List X → Type 0 = λ zs. All P zs in subst Q (sym e) (all_of P ys h)

setter_is_name : IsNameText setter
setter_is_name = (lit< tt, all_of (λ b. (33 ≤ b) × (b ≤ 126)) setter ((lit≤ tt, lit≤ tt), ((lit≤ tt, lit≤ tt), ((lit≤ tt, lit≤ tt), ((lit≤ tt, lit≤ tt), ((lit≤ tt, lit≤ tt), ((lit≤ tt, lit≤ tt), tt)))))))

no_default : (o : ℕ) → o < 3 → option_map (λ (info : OpInfo). info.default) (slice_get (first_op ∷ first_op ∷ first_op ∷ []) o) ≡ Some false
no_default zero lt = refl
no_default (suc zero) lt = refl
no_default (suc (suc zero)) lt = refl
no_default (suc (suc (suc o))) lt = absurd (omega arith)

bare_shared : (size : ℕ) (shared : Shared) → IsBare [] size shared → IsWholeShared shared
bare_shared size shared b =
    let some : 0 < length shared.names = omega (arith, ap length b.names) in
    record {
      names = all_at IsNameText shared.names (setter ∷ []) b.names (setter_is_name, tt);
      distinct = λ i j d lt within. absurd (omega (arith, ap length b.names));
      strings = all_at (λ bytes. All (λ c. c < 128) bytes) shared.strings.items [] b.strings tt;
      pairs = all_at (λ p. IsConst shared p.0 × IsConst shared p.1) shared.pairs.items [] b.pairs_are tt;
      lower = no_pairs_lower shared.pairs.items b.pairs_are;
      globals = all_at (λ g. g.name.0 < length shared.names) shared.globals.items [] b.globals tt;
      ops = all_at (λ o. o.name.0 < length shared.names) shared.ops.items (first_op ∷ first_op ∷ first_op ∷ []) b.ops (some, (some, (some, tt)));
      builtins = λ o lt. rw b.ops (no_default o lt);
    }

call_parts_before : (k : ℕ) (node : Core) → slice_get call_nodes k ≡ Some node → All (λ place. place < k) (places_of node)
call_parts_before zero n e = let P : Core → Type 0 = λ m. All (λ place. place < 0) (places_of m) in let is : Node.Local x_var ≡ n = cc in subst P is (all_of (λ place. place < 0) [] tt)
call_parts_before (suc zero) n e = let P : Core → Type 0 = λ m. All (λ place. place < 1) (places_of m) in let is : Node.Lambda (x_var ∷ []) 0 ≡ n = cc in subst P is (all_of (λ place. place < 1) (0 ∷ []) (lit< tt, tt))
call_parts_before (suc (suc zero)) n e = let P : Core → Type 0 = λ m. All (λ place. place < 2) (places_of m) in let is : Node.Const (Constant.Fix (pos 5)) ≡ n = cc in subst P is (all_of (λ place. place < 2) [] tt)
call_parts_before (suc (suc (suc zero))) n e = let P : Core → Type 0 = λ m. All (λ place. place < 3) (places_of m) in let is : Node.Call 1 (2 ∷ []) false ≡ n = cc in subst P is (all_of (λ place. place < 3) (1 ∷ 2 ∷ []) (lit< tt, (lit< tt, tt)))
call_parts_before (suc (suc (suc (suc j)))) n e = absurd (cc)

call_named_once : (k : ℕ) → k < 4 → count_by (λ place. place == k) (flat_map places_of call_nodes) ≡ (if k == 3 then 0 else 1)
call_named_once zero lt = refl
call_named_once (suc zero) lt = refl
call_named_once (suc (suc zero)) lt = refl
call_named_once (suc (suc (suc zero))) lt = refl
call_named_once (suc (suc (suc (suc k)))) lt = absurd (omega arith)

call_tree : IsTree call_nodes 3
call_tree = record { root_there = lit< tt; parts_before = call_parts_before; named_once = call_named_once }

call_scoped : IsScopedWithin call_nodes 4 [] false 3
unfolding IsScopedWithin
call_scoped = (refl, ((tt, (((0, lit< tt, refl), tt), tt)), ((tt, tt), tt)))

call_places : (unit : UnitCore) → (u : IsCallUnit unit) → HasPlaces unit.shared u.form
call_places unit u = record {
  names = all_at (NamesAreThere unit.shared) u.form.nodes.items call_nodes u.nodes (tt, (tt, (refl, (tt, tt))));
  tree = λ some. rw (u.nodes, u.root) call_tree;
}

call_shapes : (unit : UnitCore) → (u : IsCallUnit unit) → HasShapes unit.shared u.form
call_shapes unit u = all_at (IsShaped unit.shared u.form.nodes.items) u.form.nodes.items call_nodes u.nodes (tt, (tt, (tt, (tt, tt))))

call_definition : (unit : UnitCore) → (u : IsCallUnit unit) → IsDefinition unit.shared u.form.kind u.form.nodes.items u.form.root
call_definition unit u = rw (u.kind, u.nodes) (lit< tt)

call_binders : (unit : UnitCore) → (u : IsCallUnit unit) → binders unit ≡ x_var ∷ []
call_binders unit u = rw (u.forms, u.nodes) refl

no_pairs : (unit : UnitCore) → (u : IsCallUnit unit) → named_pairs unit ≡ []
no_pairs unit u = rw (u.shared.pairs_are, u.forms, u.nodes) refl

call_size : (unit : UnitCore) → (u : IsCallUnit unit) → form_count unit.shared.pairs.items u.form ≡ 5
unfolding datum_nodes nodes_within
call_size unit u = rw (u.nodes, u.kind, u.shared.pairs_are) refl

pub call_whole : (unit : UnitCore) → IsCallUnit unit → IsWhole unit
call_whole unit u = record {
  places = all_at (HasPlaces unit.shared) unit.forms.items (u.form ∷ []) u.forms (call_places unit u, tt);
  scopes = record {
    bound_once = λ i j d lt within. absurd (omega (arith, ap length (call_binders unit u)));
    used = all_at IsScoped unit.forms.items (u.form ∷ []) u.forms ((λ some. rw (u.nodes, u.root) call_scoped), tt);
  };
  shapes = all_at (HasShapes unit.shared) unit.forms.items (u.form ∷ []) u.forms (call_shapes unit u, tt);
  definitions = record {
    forms = all_at (λ form. IsDefinition unit.shared form.kind form.nodes.items form.root) unit.forms.items (u.form ∷ []) u.forms (call_definition unit u, tt);
    globals_once = λ g lt. absurd (omega (arith, ap length u.shared.globals));
    ops_once = λ o le lt. absurd (omega (arith, ap length u.shared.ops));
  };
  shared = record {
    parts = bare_shared 5 unit.shared u.shared;
    pairs_once = λ i j d lt within. absurd (omega (arith, ap length (no_pairs unit u)));
    size = rw (u.shared.size_is, u.forms) (omega (arith, call_size unit u));
  };
}

pub call_bulk : (unit : UnitCore) → IsCallUnit unit → bulk_of unit ≤ 2 ^ 31
call_bulk unit u = rw u.forms (omega (arith, call_size unit u))

pub call_nodes_are : (nodes : List Core) (params : List Var) (operands : List ℕ) → nodes ≡ Node.Local x_var ∷ Node.Lambda params 0 ∷ Node.Const (Constant.Fix (pos 5)) ∷ Node.Call 1 operands false ∷ [] → params ≡ x_var ∷ [] → operands ≡ 2 ∷ [] → nodes ≡ call_nodes
call_nodes_are nodes params operands e p o = rw (p, o) at e
