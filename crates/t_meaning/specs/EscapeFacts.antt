-- Where the LAMBDAs and names of a unit stand, and what is free in them.
use Rattle.std.specs.Prelude.{ℕ, zero, suc, ◌+◌, Bool, false, not, ◌==◌, List, [], ◌∷◌, ◌++◌, map, length, zip, filter, filter_map, Option, Some, None, slice_get, option_map, option_and_then}
use Rattle.std.specs.List.{flat_map, list_any, enumerate_from}
use Rattle.std.specs.Option.{option_map_or}
use Rattle.t_base.specs.declared.basics.Var.{Var}
use Rattle.t_core.specs.declared.forms.Core.{Core}
use Rattle.t_core.specs.declared.forms.Core.TheVariants as Node
use Rattle.t_core.specs.declared.forms.FormKind.{FormKind}
use Rattle.t_core.specs.declared.forms.FormKind.TheVariants.{Define, Lset, Operation, Plain}
use Rattle.t_core.specs.declared.forms.Form.{Form}
use Rattle.t_core.specs.declared.forms.UnitCore.{UnitCore}
use Rattle.t_core.specs.Nodes.{parts_of, places_of, binders_of}
use Rattle.escape_marks.specs.Subjects.{Subject, Lambda, Local, Global}
use Rattle.escape_marks.specs.Facts.{Role, Operator, Operand, ValueOf, Assigned, Other, Occurrence, Abstraction, Facts}
use Rattle.escape_marks.specs.Inventories.{Inventory, facts_from}

-- a form: what it defines, its nodes, and the place of its root
pub record Tree : Type 0 where
  pub kind : FormKind
  pub nodes : List Core
  pub root : ℕ

abbrev pub tree_of : Form → Tree
tree_of form = record { kind = form.kind; nodes = form.nodes.items; root = form.root }

abbrev pub trees_of : UnitCore → List Tree
trees_of unit = map tree_of unit.forms.items

-- ---- where LAMBDAs and names stand

-- the name that a node is
abbrev pub name_of : Core → Option Subject
name_of (Node.Local v) = Some (Local v)
name_of (Node.Global g) = Some (Global g)
name_of _ = None

-- the LAMBDA or the name that a node is
abbrev pub subject_of : ℕ → ℕ → Core → Option Subject
subject_of form k (Node.Lambda params body) = Some (Lambda form k)
subject_of form k node = name_of node

abbrev pub operand_role : Option Subject → ℕ → Bool → Role
operand_role (Some callee) place tail = Operand callee place tail
operand_role None place tail = Other

-- the operands of a call, from that place on; where the operator is no name, they are operands of nothing that is known
abbrev pub operand_roles : Option Subject → Bool → ℕ → List ℕ → List (ℕ × Role)
operand_roles callee tail place [] = []
operand_roles callee tail place (k ∷ operands) = (k, operand_role callee place tail) ∷ operand_roles callee tail (place + 1) operands

abbrev pub bound_roles : List Var → List ℕ → ℕ → List (ℕ × Role)
bound_roles vars values body = zip values (map (λ v. ValueOf (Local v)) vars) ++ (body, Other) ∷ []

-- the parts of a node, each with its role
abbrev pub part_roles : List Core → Core → List (ℕ × Role)
part_roles nodes (Node.Call operator operands tail) = (operator, Operator) ∷ operand_roles (option_and_then name_of (slice_get nodes operator)) tail 0 operands
part_roles nodes (Node.Let vars values body) = bound_roles vars values body
part_roles nodes (Node.Labels vars lambdas body) = bound_roles vars lambdas body
part_roles nodes node = map (λ k. (k, Other)) (places_of node)

abbrev pub root_role : FormKind → Role
root_role (Define g) = ValueOf (Global g)
root_role (Lset g) = Other
root_role (Operation o) = Other
root_role Plain = Other

abbrev pub occurrence : Subject → Role → Occurrence
occurrence s r = record { subject = s; role = r }

abbrev pub assignment : Core → Option Occurrence
assignment (Node.SetLocal v value) = Some (occurrence (Local v) Assigned)
assignment (Node.SetGlobal g value) = Some (occurrence (Global g) Assigned)
assignment _ = None

-- what stands at a place of the form in that role, if it is a LAMBDA or a name
abbrev pub occurrence_at : ℕ → List Core → ℕ × Role → Option Occurrence
occurrence_at form nodes at = option_map (λ s. occurrence s at.1) (option_and_then (subject_of form at.0) (slice_get nodes at.0))

abbrev pub occurrences_in : ℕ → Tree → List Occurrence
occurrences_in form tree =
    filter_map (occurrence_at form tree.nodes) ((tree.root, root_role tree.kind) ∷ flat_map (part_roles tree.nodes) tree.nodes)
    ++ filter_map assignment tree.nodes

-- ---- what is free

abbrev pub without : List Var → List Var → List Var
without bound vars = filter (λ v. not (list_any (λ w. v.0 == w.0) bound)) vars

-- the variable that a node uses itself
abbrev pub used_by : Core → List Var
used_by (Node.Local v) = v ∷ []
used_by (Node.SetLocal v value) = v ∷ []
used_by _ = []

-- the variables that are free in what stands at a place, nested at most so deep
unfoldable pub free_within : List Core → ℕ → ℕ → List Var
free_within nodes zero k = []
free_within nodes (suc depth) k =
    option_map_or (λ node. used_by node ++ flat_map (λ p. without p.binds (free_within nodes depth p.at)) (parts_of node false)) (slice_get nodes k) []

-- free in what has these parameters and this body; nodes nest less deep than there are nodes
abbrev pub free_in : List Core → List Var → ℕ → List Subject
free_in nodes params body = map Local (without params (free_within nodes (length nodes) body))

abbrev pub abstraction_of : ℕ → List Core → ℕ → Core → Option Abstraction
abstraction_of form nodes k (Node.Lambda params body) = Some (record { lambda = Lambda form k; params = map Local params; free = free_in nodes params body })
abstraction_of form nodes k node = None

abbrev pub abstractions_in : ℕ → Tree → List Abstraction
abstractions_in form tree = filter_map (λ n. abstraction_of form tree.nodes n.0 n.1) (enumerate_from 0 tree.nodes)

-- what is free in each method of an object
abbrev pub method_frees : List Core → Core → List (List Subject)
method_frees nodes (Node.Object proc methods) = map (λ m. free_in nodes m.params m.body) methods
method_frees nodes node = []

-- ---- names

-- the parameters that a node binds
abbrev pub params_of : Core → List Var
params_of (Node.Lambda params body) = params
params_of (Node.Object proc methods) = flat_map (λ m. m.params) methods
params_of node = []

-- the global that a DEFINE binds to a LAMBDA
abbrev pub defined_procedure : FormKind → Option Core → List Subject
defined_procedure (Define g) (Some (Node.Lambda params body)) = Global g ∷ []
defined_procedure kind root = []

abbrev pub names_in : Tree → List Subject
names_in tree = map Local (flat_map binders_of tree.nodes) ++ defined_procedure tree.kind (slice_get tree.nodes tree.root)

-- ---- all of it

-- of each form, with its place
abbrev pub in_forms : {X : Type 0} → (ℕ → Tree → List X) → List Tree → List X
in_forms f trees = flat_map (λ at. f at.0 at.1) (enumerate_from 0 trees)

-- of each node, with the nodes of its form
abbrev pub in_nodes : {X : Type 0} → (List Core → Core → List X) → List Tree → List X
in_nodes f trees = flat_map (λ tree. flat_map (f tree.nodes) tree.nodes) trees

-- what a unit of these forms says of its LAMBDAs and names
abbrev pub inventory_of : List Tree → Inventory
inventory_of trees = record {
  abstractions = in_forms abstractions_in trees;
  names = flat_map names_in trees;
  params = in_nodes (λ nodes. params_of) trees;
  occurrences = in_forms occurrences_in trees;
  method_frees = in_nodes method_frees trees;
}

-- what the rules look at, of a unit of these forms
abbrev pub facts_of : List Tree → Facts
facts_of trees = facts_from (inventory_of trees)
