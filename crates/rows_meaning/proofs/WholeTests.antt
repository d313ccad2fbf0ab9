-- A test that is true of whole units alone. It computes on a unit that is written out.
use Rattle.std.specs.Prelude.{ℕ, zero, suc, ◌==◌, nat_lt, nat_le, Bool, true, false, not, ◌&&◌, ◌||◌, if◌then◌else◌, List, [], ◌∷◌, ◌++◌, length, slice_get, count_by}
use Rattle.std.specs.List.{flat_map, list_all, list_any}
use Rattle.std.specs.Option.{option_map_or}
use Rattle.t_base.specs.declared.basics.Var.{Var}
use Rattle.t_base.specs.declared.shared_parts.Const.{Const}
use Rattle.t_base.specs.declared.shared_parts.Const.TheVariants as Constant
use Rattle.t_base.specs.declared.shared_parts.GlobalKind.{GlobalKind}
use Rattle.t_base.specs.declared.shared_parts.GlobalKind.TheVariants.{Proc, Value, Variable}
use Rattle.t_base.specs.declared.shared_parts.Shared.{Shared}
use Rattle.t_prim.specs.Operands.{in_range}
use Rattle.t_prim.specs.Table.{arity_of}
use Rattle.t_prim.proofs.SharedTests.{each_below, each_from, are_distinct, is_empty, const_is_there, are_whole_parts}
use Rattle.t_core.specs.declared.forms.Core.{Core}
use Rattle.t_core.specs.declared.forms.Core.TheVariants as Node
use Rattle.t_core.specs.declared.forms.FormKind.{FormKind}
use Rattle.t_core.specs.declared.forms.FormKind.TheVariants.{Define, Lset, Operation, Plain}
use Rattle.t_core.specs.declared.forms.Form.{Form}
use Rattle.t_core.specs.declared.forms.UnitCore.{UnitCore}
use Rattle.t_core.specs.Counts.{form_count}
use Rattle.t_core.specs.Limits.{greatest}
use Rattle.t_core.specs.Nodes.{parts_of, places_of, has_self}
use Rattle.t_core.specs.Whole.{binders, is_lambda_at, defines_global, defines_op, named_pairs}

-- ---- lists

-- ---- places

abbrev pub names_are_there : Shared → Core → Bool
names_are_there shared (Node.Const c) = const_is_there shared c
names_are_there shared (Node.Global g) = nat_lt g (length shared.globals.items)
names_are_there shared (Node.SetGlobal g value) = nat_lt g (length shared.globals.items)
names_are_there shared (Node.Op o) = nat_lt o (length shared.ops.items)
names_are_there shared (Node.Object proc methods) = list_all (λ m. nat_lt m.op (length shared.ops.items)) methods
names_are_there shared _ = true

abbrev pub named_so_often : List ℕ → ℕ → ℕ → Bool
named_so_often places root k = count_by (λ place. place == k) places == (if k == root then 0 else 1)

abbrev pub is_tree : List Core → ℕ → Bool
is_tree nodes root =
    nat_lt root (length nodes) && (each_from (λ k node. list_all (λ place. nat_lt place k) (places_of node)) 0 nodes
    && each_below (named_so_often (flat_map places_of nodes) root) (length nodes))

abbrev pub has_places : Shared → Form → Bool
has_places shared form = list_all (names_are_there shared) form.nodes.items && (is_empty form.nodes.items || is_tree form.nodes.items form.root)

-- ---- scope

abbrev pub same_var : Var → Var → Bool
same_var v w = v.0 == w.0

abbrev pub same_flag : Bool → Bool → Bool
same_flag true b = b
same_flag false b = not b

abbrev pub is_in_place : List Var → Bool → Core → Bool
is_in_place scope tail (Node.Local v) = list_any (same_var v) scope
is_in_place scope tail (Node.SetLocal v value) = list_any (same_var v) scope
is_in_place scope tail (Node.Call operator operands last) = same_flag last tail
is_in_place scope tail _ = true

abbrev pub is_scoped_within : List Core → ℕ → List Var → Bool → ℕ → Bool
is_scoped_within nodes zero scope tail k = false
is_scoped_within nodes (suc depth) scope tail k =
    option_map_or (λ node. is_in_place scope tail node && list_all (λ p. is_scoped_within nodes depth (p.binds ++ scope) p.tail p.at) (parts_of node tail)) (slice_get nodes k) false

abbrev pub is_scoped : Form → Bool
is_scoped form = is_empty form.nodes.items || is_scoped_within form.nodes.items (length form.nodes.items) [] false form.root

abbrev pub has_scopes : UnitCore → Bool
has_scopes unit = are_distinct same_var (binders unit) && list_all is_scoped unit.forms.items

-- ---- shapes

abbrev pub is_variable : GlobalKind → Bool
is_variable Variable = true
is_variable Proc = false
is_variable Value = false

abbrev pub is_of_variable : Shared → ℕ → Bool
is_of_variable shared g = option_map_or (λ info. is_variable info.kind) (slice_get shared.globals.items g) false

abbrev pub is_shaped : Shared → List Core → Core → Bool
is_shaped shared nodes (Node.Block items) = nat_lt 0 (length items)
is_shaped shared nodes (Node.Let vars values body) = length vars == length values
is_shaped shared nodes (Node.Labels vars lambdas body) = (length vars == length lambdas) && list_all (is_lambda_at nodes) lambdas
is_shaped shared nodes (Node.SetGlobal g value) = is_of_variable shared g
is_shaped shared nodes (Node.Object proc methods) = list_all (λ m. nat_lt 0 (length m.params)) methods
is_shaped shared nodes (Node.Prim p operands) = length operands == arity_of p
is_shaped shared nodes _ = true

abbrev pub has_shapes : Shared → Form → Bool
has_shapes shared form = list_all (is_shaped shared form.nodes.items) form.nodes.items

-- ---- definitions

abbrev pub defines_as : List Core → ℕ → GlobalKind → Bool
defines_as nodes root Proc = is_lambda_at nodes root
defines_as nodes root Value = not (is_lambda_at nodes root)
defines_as nodes root Variable = false

abbrev pub is_default : List Core → ℕ → Bool → Bool
is_default nodes root true = nat_lt 0 (length nodes) && option_map_or has_self (slice_get nodes root) false
is_default nodes root false = is_empty nodes && (root == 0)

abbrev pub is_definition : Shared → FormKind → List Core → ℕ → Bool
is_definition shared (Define g) nodes root = nat_lt 0 (length nodes) && option_map_or (λ info. defines_as nodes root info.kind) (slice_get shared.globals.items g) false
is_definition shared (Lset g) nodes root = nat_lt 0 (length nodes) && is_of_variable shared g
is_definition shared (Operation o) nodes root = nat_le 3 o && option_map_or (λ info. is_default nodes root info.default) (slice_get shared.ops.items o) false
is_definition shared Plain nodes root = nat_lt 0 (length nodes)

abbrev pub has_definitions : UnitCore → Bool
has_definitions unit =
    list_all (λ form. is_definition unit.shared form.kind form.nodes.items form.root) unit.forms.items
    && (each_below (λ g. count_by (λ form. defines_global g form.kind) unit.forms.items == 1) (length unit.shared.globals.items)
    && each_below (λ o. nat_lt o 3 || (count_by (λ form. defines_op o form.kind) unit.forms.items == 1)) (length unit.shared.ops.items))

-- ---- shared parts

abbrev pub has_shared_parts : UnitCore → Bool
has_shared_parts unit =
    are_whole_parts unit.shared && (are_distinct (λ k l. k == l) (named_pairs unit)
    && (unit.shared.size == greatest (form_count unit.shared.pairs.items) unit.forms.items))

-- ---- the whole

abbrev pub is_whole : UnitCore → Bool
is_whole unit =
    list_all (has_places unit.shared) unit.forms.items && (has_scopes unit
    && (list_all (has_shapes unit.shared) unit.forms.items && (has_definitions unit && has_shared_parts unit)))
