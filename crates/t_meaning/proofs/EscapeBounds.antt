-- A unit has no more LAMBDAs and names than nodes.
use Rattle.std.proofs.Common.{ℕ, ◌+◌, ◌≤◌, List, [], ◌∷◌, ◌++◌, map, length, Option, Some, None, arith, slice_get, filter_map, sum_by}
use Rattle.std.specs.List.{flat_map, enumerate_from, cons_option}
use Rattle.std.proofs.lemmas.List.{length-append, length-map}
use Rattle.std.proofs.lemmas.List.Sums.{sum_by-cons}
use Rattle.t_base.specs.declared.basics.Var.{Var}
use Rattle.t_core.specs.declared.forms.Core.{Core}
use Rattle.t_core.specs.declared.forms.Core.TheVariants as Node
use Rattle.t_core.specs.declared.forms.FormKind.{FormKind}
use Rattle.t_core.specs.declared.forms.FormKind.TheVariants.{Define, Lset, Operation, Plain}
use Rattle.t_core.specs.declared.forms.Form.{Form}
use Rattle.t_core.specs.declared.forms.Method.{Method}
use Rattle.t_core.specs.declared.forms.UnitCore.{UnitCore}
use Rattle.t_core.specs.Nodes.{binders_of}
use Rattle.t_core.specs.Counts.{Pairs, node_count, method_nodes, definition_count, form_count}
use Rattle.escape_marks.specs.Subjects.{Subject, Local}
use Rattle.escape_marks.specs.Facts.{Abstraction}
use Rattle.t_meaning.specs.EscapeFacts.{Tree, tree_of, trees_of, abstraction_of, abstractions_in, defined_procedure, names_in, in_forms}
use Rattle.t_meaning.specs.Escape.{node_total, facts_of_unit}

params_in_methods : (methods : List Method) → length (flat_map (λ (m : Method). m.params) methods) ≤ sum_by method_nodes methods
params_in_methods [] = omega arith
params_in_methods (m ∷ methods) =
    let rest : List Var = flat_map (λ (m : Method). m.params) methods in
    let goal : length (m.params ++ rest) ≤ sum_by method_nodes (m ∷ methods) = omega (arith, length-append m.params rest, sum_by-cons method_nodes m methods, params_in_methods methods) in
    goal

in_node : (pairs : Pairs) (form : ℕ) (nodes : List Core) (k : ℕ) (node : Core) (rest : List Abstraction) → length (cons_option (abstraction_of form nodes k node) rest) + length (binders_of node) ≤ length rest + node_count pairs node
in_node pairs form nodes k (Node.Const c) rest = omega arith
in_node pairs form nodes k (Node.Local v) rest = omega arith
in_node pairs form nodes k (Node.Global g) rest = omega arith
in_node pairs form nodes k (Node.Builtin p) rest = omega arith
in_node pairs form nodes k (Node.Op o) rest = omega arith
in_node pairs form nodes k (Node.Lambda params body) rest = omega arith
in_node pairs form nodes k (Node.If test a b) rest = omega arith
in_node pairs form nodes k (Node.Block items) rest = omega arith
in_node pairs form nodes k (Node.Let vars values body) rest = omega arith
in_node pairs form nodes k (Node.Labels vars lambdas body) rest = omega arith
in_node pairs form nodes k (Node.SetLocal v value) rest = omega arith
in_node pairs form nodes k (Node.SetGlobal g value) rest = omega arith
in_node pairs form nodes k (Node.Catch v body) rest = omega arith
in_node pairs form nodes k (Node.Object proc methods) rest = omega (arith, params_in_methods methods)
in_node pairs form nodes k (Node.Call operator operands tail) rest = omega arith
in_node pairs form nodes k (Node.Prim p operands) rest = omega arith

in_nodes : (pairs : Pairs) (form : ℕ) (all : List Core) (k : ℕ) (nodes : List Core) → length (filter_map (λ (n : ℕ × Core). abstraction_of form all n.0 n.1) (enumerate_from k nodes)) + length (flat_map binders_of nodes) ≤ sum_by (node_count pairs) nodes
in_nodes pairs form all k [] = omega arith
in_nodes pairs form all k (node ∷ nodes) =
    let rest : List Abstraction = filter_map (λ (n : ℕ × Core). abstraction_of form all n.0 n.1) (enumerate_from (k + 1) nodes) in
    let vars : List Var = flat_map binders_of nodes in
    let goal : length (cons_option (abstraction_of form all k node) rest) + length (binders_of node ++ vars) ≤ sum_by (node_count pairs) (node ∷ nodes) =
    omega (arith, length-append (binders_of node) vars, sum_by-cons (node_count pairs) node nodes, in_nodes pairs form all (k + 1) nodes, in_node pairs form all k node rest) in
    goal

in_definition : (kind : FormKind) (nodes : List Core) (root : Option Core) → length (defined_procedure kind root) ≤ definition_count kind nodes
in_definition (Define g) nodes root = by_root root
  where
    by_root : (o : Option Core) → length (defined_procedure (Define g) o) ≤ 1
    by_root None = omega arith
    by_root (Some (Node.Lambda params body)) = omega arith
    by_root (Some node) = omega arith
in_definition (Lset g) nodes root = omega arith
in_definition (Operation o) nodes root = omega arith
in_definition Plain nodes root = omega arith

in_form : (pairs : Pairs) (at : ℕ) (form : Form) → length (abstractions_in at (tree_of form)) + length (names_in (tree_of form)) ≤ form_count pairs form
in_form pairs at form =
    let vars : List Var = flat_map binders_of form.nodes.items in
    let global : List Subject = defined_procedure form.kind (slice_get form.nodes.items form.root) in
    let goal : length (abstractions_in at (tree_of form)) + length (map Local vars ++ global) ≤ form_count pairs form =
    omega (arith, length-append (map Local vars) global, length-map vars Local, in_nodes pairs at form.nodes.items 0 form.nodes.items, in_definition form.kind form.nodes.items (slice_get form.nodes.items form.root)) in
    goal

in_unit : (pairs : Pairs) (at : ℕ) (forms : List Form) → length (flat_map (λ (p : ℕ × Tree). abstractions_in p.0 p.1) (enumerate_from at (map tree_of forms))) + length (flat_map names_in (map tree_of forms)) ≤ sum_by (form_count pairs) forms
in_unit pairs at [] = omega arith
in_unit pairs at (form ∷ forms) =
    let rest : List Abstraction = flat_map (λ (p : ℕ × Tree). abstractions_in p.0 p.1) (enumerate_from (at + 1) (map tree_of forms)) in
    let names : List Subject = flat_map names_in (map tree_of forms) in
    let goal : length (abstractions_in at (tree_of form) ++ rest) + length (names_in (tree_of form) ++ names) ≤ sum_by (form_count pairs) (form ∷ forms) =
    omega (arith, length-append (abstractions_in at (tree_of form)) rest, length-append (names_in (tree_of form)) names, sum_by-cons (form_count pairs) form forms, in_form pairs at form, in_unit pairs (at + 1) forms) in
    goal

pub subjects_within : (unit : UnitCore) → length (facts_of_unit unit).subjects ≤ node_total unit
subjects_within unit =
    let abstractions : List Abstraction = in_forms abstractions_in (trees_of unit) in
    let names : List Subject = flat_map names_in (trees_of unit) in
    let goal : length (map (λ (p : Abstraction). p.lambda) abstractions ++ names) ≤ node_total unit =
    omega (arith, length-append (map (λ (p : Abstraction). p.lambda) abstractions) names, length-map abstractions (λ (p : Abstraction). p.lambda), in_unit unit.shared.pairs.items 0 unit.forms.items) in
    goal
