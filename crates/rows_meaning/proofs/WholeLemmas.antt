-- A unit that passes the test is whole.
use Rattle.std.proofs.Common.{◌≡◌, ◌≢◌, ℕ, zero, suc, ◌+◌, ◌<◌, ◌≤◌, ◌==◌, nat_lt, nat_le, Bool, true, false, not, ◌&&◌, ◌||◌, List, [], ◌∷◌, ◌++◌, length, get_or, slice_get, Option, None, Some, All, AllPairs, Contains, IsTrue, count_by, refl, sym, ap, subst, ◌∙◌, arith, ◌⊎◌, inl, inr}
use Rattle.std.specs.Prelude.{IsSomeAnd}
use Rattle.std.specs.List.{flat_map, list_all, list_any, AllByRecursion}
use Rattle.std.specs.Option.{option_map, option_map_or}
use Rattle.std.specs.Global.{Global}
use Rattle.std.proofs.lemmas.Bool.{and_parts, true≢false, ltb-true, leb-true, eqb-true, cases_lt}
use Rattle.std.proofs.lemmas.List.Sums.{AllPass-from_list_all}
use Rattle.t_base.specs.declared.basics.Var.{Var}
use Rattle.t_base.specs.declared.shared_parts.Const.{Const}
use Rattle.t_base.specs.declared.shared_parts.Const.TheVariants as Constant
use Rattle.t_base.specs.declared.shared_parts.Global1.{Global1}
use Rattle.t_base.specs.declared.shared_parts.GlobalKind.{GlobalKind}
use Rattle.t_base.specs.declared.shared_parts.GlobalKind.TheVariants.{Proc, Value, Variable}
use Rattle.t_base.specs.declared.shared_parts.OpInfo.{OpInfo}
use Rattle.t_base.specs.declared.shared_parts.Shared.{Shared}
use Rattle.t_prim.specs.SharedParts.{IsConst, IsNameText, StandsBelow, IsWholeShared}
use Rattle.t_prim.proofs.SharedTests.{each_below, each_from, are_distinct, is_empty, are_whole_parts, not_so, or_parts_true, all_from, by_recursion_from, below_from, each_at, not_true, distinct_from, own_number, some_from, const_there, parts_from}
use Rattle.t_core.specs.declared.forms.Core.{Core}
use Rattle.t_core.specs.declared.forms.Core.TheVariants as Node
use Rattle.t_core.specs.declared.forms.FormKind.{FormKind}
use Rattle.t_core.specs.declared.forms.FormKind.TheVariants.{Define, Lset, Operation, Plain}
use Rattle.t_core.specs.declared.forms.Form.{Form}
use Rattle.t_core.specs.declared.forms.UnitCore.{UnitCore}
use Rattle.t_core.specs.Nodes.{parts_of, places_of}
use Rattle.t_core.specs.Whole.{NamesAreThere, IsTree, HasPlaces, IsInPlace, IsScopedWithin, IsScoped, binders, HasScopes, is_lambda_at, IsShaped, HasShapes, DefinesAs, IsDefault, IsDefinition, defines_global, defines_op, HasDefinitions, named_pairs, HasSharedParts, IsWhole}
use Rattle.rows_meaning.specs.WholeUnits.{AreWhole}
use Rattle.rows_meaning.proofs.WholeTests.{names_are_there, named_so_often, is_tree, has_places, same_var, same_flag, is_in_place, is_scoped_within, is_scoped, has_scopes, is_variable, is_shaped, has_shapes, defines_as, is_default, is_definition, has_definitions, has_shared_parts, is_whole}

-- ---- tests of lists

own_var : (v : Var) → same_var v v ≡ true
own_var v = own_number v.0

-- ---- places

names_there : (shared : Shared) (node : Core) → names_are_there shared node ≡ true → NamesAreThere shared node
names_there shared (Node.Const c) e = const_there shared c e
names_there shared (Node.Local v) e = tt
names_there shared (Node.Global g) e = ltb-true g (length shared.globals.items) e
names_there shared (Node.Builtin p) e = tt
names_there shared (Node.Op o) e = ltb-true o (length shared.ops.items) e
names_there shared (Node.Lambda params body) e = tt
names_there shared (Node.If test a b) e = tt
names_there shared (Node.Block items) e = tt
names_there shared (Node.Let vars values body) e = tt
names_there shared (Node.Labels vars lambdas body) e = tt
names_there shared (Node.SetLocal v value) e = tt
names_there shared (Node.SetGlobal g value) e = ltb-true g (length shared.globals.items) e
names_there shared (Node.Catch v body) e = tt
names_there shared (Node.Object proc methods) e =
    all_from (λ m. m.op < length shared.ops.items) (λ m. nat_lt m.op (length shared.ops.items)) (λ m h. ltb-true m.op (length shared.ops.items) h) methods e
names_there shared (Node.Call operator operands last) e = tt
names_there shared (Node.Prim p operands) e = tt

tree_from : (nodes : List Core) (root : ℕ) → is_tree nodes root ≡ true → IsTree nodes root
tree_from nodes root e =
    let rest = (and_parts (nat_lt root (length nodes)) _ e).1 in
    let before = (and_parts (each_from (λ k node. list_all (λ place. nat_lt place k) (places_of node)) 0 nodes) _ rest).0 in
    let once = (and_parts (each_from (λ k node. list_all (λ place. nat_lt place k) (places_of node)) 0 nodes) _ rest).1 in
    record {
      root_there = ltb-true root (length nodes) (and_parts _ _ e).0;
      parts_before = λ k node found.
          all_from (λ place. place < k) (λ place. nat_lt place k) (λ place h. ltb-true place k h) (places_of node)
          (each_at (λ i n. list_all (λ place. nat_lt place i) (places_of n)) nodes before k node found);
      named_once = λ k lt. eqb-true _ _ (below_from (named_so_often (flat_map places_of nodes) root) (length nodes) once k lt);
    }

tree_of : (nodes : List Core) (root : ℕ) → (is_empty nodes || is_tree nodes root) ≡ true → 0 < length nodes → IsTree nodes root
tree_of [] root e some = absurd (omega arith)
tree_of (node ∷ nodes) root e some = tree_from (node ∷ nodes) root e

places_from : (shared : Shared) (form : Form) → has_places shared form ≡ true → HasPlaces shared form
places_from shared form e = record {
  names = all_from (NamesAreThere shared) (names_are_there shared) (names_there shared) form.nodes.items (and_parts _ _ e).0;
  tree = tree_of form.nodes.items form.root (and_parts (list_all (names_are_there shared) form.nodes.items) _ e).1;
}

-- ---- scope

same_vars : (v w : Var) → same_var v w ≡ true → w ≡ v
same_vars v w e = let same : v.0 ≡ w.0 = eqb-true v.0 w.0 e in ap (λ n. record { 0 = n }) (sym same)

contains_from : (scope : List Var) (v : Var) → list_any (same_var v) scope ≡ true → Contains scope v
contains_from [] v e = not_so e
contains_from (w ∷ scope) v e = by (or_parts_true _ _ e) (contains_from scope v)
  where
    by : (same_var v w ≡ true) ⊎ (list_any (same_var v) scope ≡ true) → (list_any (same_var v) scope ≡ true → Contains scope v) → Contains (w ∷ scope) v
    by (inl here) rest = (0, omega arith, same_vars v w here)
    by (inr behind) rest = let c : Contains scope v = rest behind in let lt : c.0 < length scope = c.1 in (suc c.0, omega arith, c.2)

same_flags : (a b : Bool) → same_flag a b ≡ true → a ≡ b
same_flags true b e = sym e
same_flags false b e = sym (not_true b e)

in_place_from : (scope : List Var) (tail : Bool) (node : Core) → is_in_place scope tail node ≡ true → IsInPlace scope tail node
in_place_from scope tail (Node.Const c) e = tt
in_place_from scope tail (Node.Local v) e = contains_from scope v e
in_place_from scope tail (Node.Global g) e = tt
in_place_from scope tail (Node.Builtin p) e = tt
in_place_from scope tail (Node.Op o) e = tt
in_place_from scope tail (Node.Lambda params body) e = tt
in_place_from scope tail (Node.If test a b) e = tt
in_place_from scope tail (Node.Block items) e = tt
in_place_from scope tail (Node.Let vars values body) e = tt
in_place_from scope tail (Node.Labels vars lambdas body) e = tt
in_place_from scope tail (Node.SetLocal v value) e = contains_from scope v e
in_place_from scope tail (Node.SetGlobal g value) e = tt
in_place_from scope tail (Node.Catch v body) e = tt
in_place_from scope tail (Node.Object proc methods) e = tt
in_place_from scope tail (Node.Call operator operands last) e = same_flags last tail e
in_place_from scope tail (Node.Prim p operands) e = tt

scoped_from : (nodes : List Core) (depth : ℕ) (scope : List Var) (tail : Bool) (k : ℕ) → is_scoped_within nodes depth scope tail k ≡ true → IsScopedWithin nodes depth scope tail k
unfolding IsScopedWithin
scoped_from nodes zero scope tail k e = not_so e
scoped_from nodes (suc depth) scope tail k e =
    some_from (λ node. IsInPlace scope tail node × AllByRecursion (λ p. IsScopedWithin nodes depth (p.binds ++ scope) p.tail p.at) (parts_of node tail))
    (λ node. is_in_place scope tail node && list_all (λ p. is_scoped_within nodes depth (p.binds ++ scope) p.tail p.at) (parts_of node tail))
    (λ node h. (
      in_place_from scope tail node (and_parts _ _ h).0,
      by_recursion_from (λ p. IsScopedWithin nodes depth (p.binds ++ scope) p.tail p.at) (λ p. is_scoped_within nodes depth (p.binds ++ scope) p.tail p.at)
          (λ p s. scoped_from nodes depth (p.binds ++ scope) p.tail p.at s) (parts_of node tail) (and_parts (is_in_place scope tail node) _ h).1,
    ))
    (slice_get nodes k) e

scoped_of : (nodes : List Core) (root : ℕ) → (is_empty nodes || is_scoped_within nodes (length nodes) [] false root) ≡ true → 0 < length nodes
    → IsScopedWithin nodes (length nodes) [] false root
scoped_of [] root e some = absurd (omega arith)
scoped_of (node ∷ nodes) root e some = scoped_from (node ∷ nodes) (length (node ∷ nodes)) [] false root e

scopes_from : (unit : UnitCore) → has_scopes unit ≡ true → HasScopes unit
scopes_from unit e = record {
  bound_once = distinct_from same_var own_var (binders unit) (and_parts _ _ e).0;
  used = all_from IsScoped is_scoped (λ form h. scoped_of form.nodes.items form.root h) unit.forms.items (and_parts (are_distinct same_var (binders unit)) _ e).1;
}

-- ---- shapes

variable_from : (kind : GlobalKind) → is_variable kind ≡ true → kind ≡ Variable
variable_from Variable e = refl
variable_from Proc e = not_so e
variable_from Value e = not_so e

kind_from : (found : Option Global1) → option_map_or (λ info. is_variable info.kind) found false ≡ true → option_map (λ (info : Global1). info.kind) found ≡ Some Variable
kind_from None e = not_so e
kind_from (Some info) e = ap Some (variable_from info.kind e)

shaped_from : (shared : Shared) (nodes : List Core) (node : Core) → is_shaped shared nodes node ≡ true → IsShaped shared nodes node
shaped_from shared nodes (Node.Const c) e = tt
shaped_from shared nodes (Node.Local v) e = tt
shaped_from shared nodes (Node.Global g) e = tt
shaped_from shared nodes (Node.Builtin p) e = tt
shaped_from shared nodes (Node.Op o) e = tt
shaped_from shared nodes (Node.Lambda params body) e = tt
shaped_from shared nodes (Node.If test a b) e = tt
shaped_from shared nodes (Node.Block items) e = ltb-true 0 (length items) e
shaped_from shared nodes (Node.Let vars values body) e = eqb-true (length vars) (length values) e
shaped_from shared nodes (Node.Labels vars lambdas body) e = (
  eqb-true (length vars) (length lambdas) (and_parts _ _ e).0,
  all_from (λ k. IsTrue (is_lambda_at nodes k)) (is_lambda_at nodes) (λ k h. h) lambdas (and_parts (length vars == length lambdas) _ e).1,
)
shaped_from shared nodes (Node.SetLocal v value) e = tt
shaped_from shared nodes (Node.SetGlobal g value) e = kind_from (slice_get shared.globals.items g) e
shaped_from shared nodes (Node.Catch v body) e = tt
shaped_from shared nodes (Node.Object proc methods) e =
    all_from (λ m. 0 < length m.params) (λ m. nat_lt 0 (length m.params)) (λ m h. ltb-true 0 (length m.params) h) methods e
shaped_from shared nodes (Node.Call operator operands last) e = tt
shaped_from shared nodes (Node.Prim p operands) e = eqb-true _ _ e

shapes_from : (shared : Shared) (form : Form) → has_shapes shared form ≡ true → HasShapes shared form
shapes_from shared form e = all_from (IsShaped shared form.nodes.items) (is_shaped shared form.nodes.items) (shaped_from shared form.nodes.items) form.nodes.items e

-- ---- definitions

defines_from : (nodes : List Core) (root : ℕ) (kind : GlobalKind) → defines_as nodes root kind ≡ true → DefinesAs nodes root kind
defines_from nodes root Proc e = e
defines_from nodes root Value e = not_true _ e
defines_from nodes root Variable e = not_so e

empty_from : {X : Type 0} (xs : List X) → is_empty xs ≡ true → xs ≡ []
empty_from [] e = refl
empty_from (x ∷ xs) e = not_so e

default_from : (nodes : List Core) (root : ℕ) (default : Bool) → is_default nodes root default ≡ true → IsDefault nodes root default
default_from nodes root true e = (ltb-true 0 (length nodes) (and_parts _ _ e).0, (and_parts (nat_lt 0 (length nodes)) _ e).1)
default_from nodes root false e = (empty_from nodes (and_parts _ _ e).0, eqb-true root 0 (and_parts (is_empty nodes) _ e).1)

definition_from : (shared : Shared) (kind : FormKind) (nodes : List Core) (root : ℕ) → is_definition shared kind nodes root ≡ true → IsDefinition shared kind nodes root
definition_from shared (Define g) nodes root e = (
  ltb-true 0 (length nodes) (and_parts _ _ e).0,
  some_from (λ (info : Global1). DefinesAs nodes root info.kind) (λ (info : Global1). defines_as nodes root info.kind) (λ info h. defines_from nodes root info.kind h)
      (slice_get shared.globals.items g) (and_parts (nat_lt 0 (length nodes)) _ e).1,
)
definition_from shared (Lset g) nodes root e = (
  ltb-true 0 (length nodes) (and_parts _ _ e).0,
  some_from (λ (info : Global1). info.kind ≡ Variable) (λ (info : Global1). is_variable info.kind) (λ info h. variable_from info.kind h)
      (slice_get shared.globals.items g) (and_parts (nat_lt 0 (length nodes)) _ e).1,
)
definition_from shared (Operation o) nodes root e = (
  leb-true 3 o (and_parts _ _ e).0,
  some_from (λ (info : OpInfo). IsDefault nodes root info.default) (λ (info : OpInfo). is_default nodes root info.default) (λ info h. default_from nodes root info.default h)
      (slice_get shared.ops.items o) (and_parts (nat_le 3 o) _ e).1,
)
definition_from shared Plain nodes root e = ltb-true 0 (length nodes) e

op_once : (forms : List Form) (o : ℕ) → 3 ≤ o → (nat_lt o 3 || (count_by (λ form. defines_op o form.kind) forms == 1)) ≡ true → count_by (λ form. defines_op o form.kind) forms ≡ 1
op_once forms o le e = by (or_parts_true _ _ e)
  where
    by : (nat_lt o 3 ≡ true) ⊎ ((count_by (λ form. defines_op o form.kind) forms == 1) ≡ true) → count_by (λ form. defines_op o form.kind) forms ≡ 1
    by (inl less) = let lt : o < 3 = ltb-true o 3 less in absurd (omega arith)
    by (inr one) = eqb-true _ _ one

definitions_from : (unit : UnitCore) → has_definitions unit ≡ true → HasDefinitions unit
definitions_from unit e =
    let counts = (and_parts (list_all (λ form. is_definition unit.shared form.kind form.nodes.items form.root) unit.forms.items) _ e).1 in
    let globals : each_below (λ g. count_by (λ form. defines_global g form.kind) unit.forms.items == 1) (length unit.shared.globals.items) ≡ true = (and_parts _ _ counts).0 in
    let ops : each_below (λ o. nat_lt o 3 || (count_by (λ form. defines_op o form.kind) unit.forms.items == 1)) (length unit.shared.ops.items) ≡ true =
    (and_parts (each_below (λ g. count_by (λ form. defines_global g form.kind) unit.forms.items == 1) (length unit.shared.globals.items)) _ counts).1 in
    record {
      forms = all_from (λ form. IsDefinition unit.shared form.kind form.nodes.items form.root) (λ form. is_definition unit.shared form.kind form.nodes.items form.root)
          (λ form h. definition_from unit.shared form.kind form.nodes.items form.root h) unit.forms.items (and_parts _ _ e).0;
      globals_once = λ g lt. eqb-true _ _ (below_from (λ i. count_by (λ form. defines_global i form.kind) unit.forms.items == 1) (length unit.shared.globals.items) globals g lt);
      ops_once = λ o le lt. op_once unit.forms.items o le
          (below_from (λ i. nat_lt i 3 || (count_by (λ form. defines_op i form.kind) unit.forms.items == 1)) (length unit.shared.ops.items) ops o lt);
    }

-- ---- shared parts

shared_from : (unit : UnitCore) → has_shared_parts unit ≡ true → HasSharedParts unit
shared_from unit e =
    let rest = (and_parts (are_whole_parts unit.shared) _ e).1 in
    record {
      parts = parts_from unit.shared (and_parts _ _ e).0;
      pairs_once = distinct_from (λ k l. k == l) own_number (named_pairs unit) (and_parts _ _ rest).0;
      size = eqb-true _ _ (and_parts (are_distinct (λ k l. k == l) (named_pairs unit)) _ rest).1;
    }

-- ---- the whole

pub whole_from : (unit : UnitCore) → is_whole unit ≡ true → IsWhole unit
whole_from unit e =
    let places = and_parts (list_all (has_places unit.shared) unit.forms.items) _ e in
    let scopes = and_parts (has_scopes unit) _ places.1 in
    let shapes = and_parts (list_all (has_shapes unit.shared) unit.forms.items) _ scopes.1 in
    let definitions = and_parts (has_definitions unit) _ shapes.1 in
    record {
      places = all_from (HasPlaces unit.shared) (has_places unit.shared) (places_from unit.shared) unit.forms.items places.0;
      scopes = scopes_from unit scopes.0;
      shapes = all_from (HasShapes unit.shared) (has_shapes unit.shared) (shapes_from unit.shared) unit.forms.items shapes.0;
      definitions = definitions_from unit definitions.0;
      shared = shared_from unit definitions.1;
    }

pub all_whole : (units : List (Global → UnitCore)) → ((alloc : Global) → list_all (λ unit. is_whole (unit alloc)) units ≡ true) → AreWhole units
all_whole units e = record {
  each = λ alloc. all_from (λ (unit : Global → UnitCore). IsWhole (unit alloc)) (λ (unit : Global → UnitCore). is_whole (unit alloc)) (λ unit h. whole_from (unit alloc) h) units (e alloc);
}
