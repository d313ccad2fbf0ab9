-- A whole unit that is built and within the limits is made of terms.
use Rattle.std.proofs.Common.{◌≡◌, ℕ, zero, suc, ◌+◌, ◌*◌, ◌<◌, ◌≤◌, Bool, true, false, List, [], ◌∷◌, length, Option, Some, None, refl, subst, arith, le_trans, sum_by}
use Rattle.std.specs.Prelude.{nat_lt, Result, Ok, Err, if◌then◌else◌, ◌&&◌}
use Rattle.std.specs.List.{list_all, AllByRecursion}
use Rattle.std.specs.Option.{option_map_or}
use Rattle.std.proofs.Math.Nat.{le-mul_of_pos_right}
use Rattle.std.proofs.lemmas.Bool.{ltb-false}
use Rattle.std.proofs.lemmas.List.Sums.{sum_by-cons}
use Rattle.std.proofs.lemmas.List.Elements.{recursion_from_All}
use Rattle.t_base.specs.declared.shared_parts.Const.{Const}
use Rattle.t_base.specs.declared.shared_parts.Shared.{Shared}
use Rattle.t_core.specs.declared.forms.Core.{Core}
use Rattle.t_core.specs.declared.forms.Core.TheVariants as Node
use Rattle.t_core.specs.declared.forms.FormKind.{FormKind}
use Rattle.t_core.specs.declared.forms.FormKind.TheVariants as kinds
use Rattle.t_core.specs.declared.forms.Form.{Form}
use Rattle.t_core.specs.declared.forms.UnitCore.{UnitCore}
use Rattle.t_core.specs.declared.limiting.LimitFault.{LimitFault}
use Rattle.t_core.specs.declared.limiting.LimitFault.TheVariants as limit
use Rattle.t_core.specs.Counts.{Pairs, parts, nodes_within, datum_nodes, node_count, form_count, form_weight, weight_of}
use Rattle.t_core.specs.Limits.{first_over, params_limit, weight_limit, limit_of}
use Rattle.t_core.specs.Whole.{HasPlaces, HasShapes, IsDefinition, IsWhole}
use Rattle.orbit_build.specs.Sums.{most_open, is_plain, is_built_node, is_built_form, is_built, Term, IsTermForm, AreTerms}
use Rattle.orbit_build.proofs.TermRuns.{nesting}
use Rattle.orbit_build.proofs.UnitRuns.{AreSmall}
use Rattle.orbit_build.proofs.Trees.{stands}
use Rattle.orbit_build.proofs.Sizes.{term_nodes, term_few}

-- ---- within the limits

err_ok : (f : LimitFault) → ◌≡◌ {A = Result (Unit {0}) LimitFault} (Err f) (Ok tt) → ⊥
err_ok f e = cc

-- no form is over, and what is said then holds
record Under (count : Form → ℕ) (most : ℕ) (forms : List Form) (otherwise : Result (Unit {0}) LimitFault) : Type 0 where
  all : AllByRecursion (λ form. count form ≤ most) forms
  rest : otherwise ≡ Ok tt

none_over : (count : Form → ℕ) (most : ℕ) (fault : ℕ → ℕ → LimitFault) (otherwise : Result (Unit {0}) LimitFault) (at : ℕ) (forms : List Form) → first_over count most fault otherwise at forms ≡ Ok tt → Under count most forms otherwise
none_over count most fault otherwise at [] e = record { all = tt; rest = e }
none_over count most fault otherwise at (form ∷ forms) e = by_test (nat_lt most (count form)) refl e (λ r. none_over count most fault otherwise (at + 1) forms r)
  where
    by_test : (b : Bool) → nat_lt most (count form) ≡ b → (if b then Err (fault at (count form)) else first_over count most fault otherwise (at + 1) forms) ≡ Ok tt
        → (first_over count most fault otherwise (at + 1) forms ≡ Ok tt → Under count most forms otherwise) → Under count most (form ∷ forms) otherwise
    by_test true b e rest = absurd (err_ok _ e)
    by_test false b e rest = let r = rest e in record { all = (ltb-false most (count form) b, r.all); rest = r.rest }

not_heavy : (unit : UnitCore) → weight_limit unit ≡ Ok tt → weight_of unit ≤ 4194304
not_heavy unit e = by_test (nat_lt 4194304 (weight_of unit)) refl e
  where
    by_test : (b : Bool) → nat_lt 4194304 (weight_of unit) ≡ b → (if b then Err (limit.UnitWeight (weight_of unit)) else params_limit unit) ≡ Ok tt → weight_of unit ≤ 4194304
    by_test true b e = absurd (err_ok _ e)
    by_test false b e = ltb-false 4194304 (weight_of unit) b

-- ---- each node counts

datum_some : (pairs : Pairs) (c : Const) → 1 ≤ datum_nodes pairs c
unfolding datum_nodes nodes_within
datum_some pairs c = by_depth (length pairs)
  where
    by_depth : (depth : ℕ) → 1 ≤ nodes_within pairs depth c
    by_depth zero = omega arith
    by_depth (suc depth) = by_parts (parts pairs c)
      where
        by_parts : (o : Option (Const × Const)) → 1 ≤ option_map_or (λ p. 1 + nodes_within pairs depth p.0 + nodes_within pairs depth p.1) o 1
        by_parts None = omega arith
        by_parts (Some p) = omega arith

node_some : (pairs : Pairs) (node : Core) → 1 ≤ node_count pairs node
node_some pairs (Node.Const c) = datum_some pairs c
node_some pairs (Node.Local v) = omega arith
node_some pairs (Node.Global g) = omega arith
node_some pairs (Node.Builtin p) = omega arith
node_some pairs (Node.Op o) = omega arith
node_some pairs (Node.Lambda params body) = omega arith
node_some pairs (Node.If test a b) = omega arith
node_some pairs (Node.Block items) = omega arith
node_some pairs (Node.Let vars values body) = omega arith
node_some pairs (Node.Labels vars lambdas body) = omega arith
node_some pairs (Node.SetLocal v value) = omega arith
node_some pairs (Node.SetGlobal g value) = omega arith
node_some pairs (Node.Catch v body) = omega arith
node_some pairs (Node.Object proc methods) = omega arith
node_some pairs (Node.Call operator operands last) = omega arith
node_some pairs (Node.Prim p operands) = omega arith

nodes_few : (pairs : Pairs) (nodes : List Core) → length nodes ≤ sum_by (node_count pairs) nodes
nodes_few pairs [] = omega arith
nodes_few pairs (node ∷ nodes) = let one = node_some pairs node in let rest = nodes_few pairs nodes in let all = sum_by-cons (node_count pairs) node nodes in omega (arith, one, rest, all)

-- ---- a form

false_true : false ≡ true → ⊥
false_true e = cc

plain_only : (k : FormKind) → is_plain k ≡ true → k ≡ kinds.Plain
plain_only (kinds.Define g) e = absurd (false_true e)
plain_only (kinds.Lset g) e = absurd (false_true e)
plain_only (kinds.Operation o) e = absurd (false_true e)
plain_only kinds.Plain e = refl

both_first : (a b : Bool) → (a && b) ≡ true → a ≡ true
both_first true b e = refl
both_first false b e = absurd (false_true e)

both_second : (a b : Bool) → (a && b) ≡ true → b ≡ true
both_second true b e = e
both_second false b e = absurd (false_true e)

-- the term of a form
record FormTerm (shared : Shared) (form : Form) : Type 0 where
  term : Term
  is : IsTermForm form term
  shallow : nesting term ≤ most_open
  few : term_nodes term ≤ form_weight shared.pairs.items form

square : (n : ℕ) → n ≤ (n + 8) * (n + 8)
square n = let le = le-mul_of_pos_right {m = n + 8} (n + 8) (omega arith) in omega (arith, le)

form_term : (shared : Shared) (form : Form) → HasPlaces shared form → HasShapes shared form → IsDefinition shared form.kind form.nodes.items form.root → is_built_form form ≡ true → form_count shared.pairs.items form ≤ 2000 → FormTerm shared form
form_term shared form places shapes definition built count =
    let plain = plain_only form.kind (both_first _ _ built) in
    let nodes_built : list_all is_built_node form.nodes.items ≡ true = both_second (is_plain form.kind) _ built in
    let some : 0 < length form.nodes.items = subst (λ (k : FormKind). IsDefinition shared k form.nodes.items form.root) plain definition in
    let tree = places.tree some in
    let at = λ (k : ℕ) (there : k < length form.nodes.items). stands shared form.nodes.items places.names shapes nodes_built tree.parts_before k there in
    let s = at form.root tree.root_there in
    let few = term_few form.nodes.items tree.parts_before (λ k there. let x = at k there in (x.term, x.is)) form.root s.term tree s.is in
    let counted = nodes_few shared.pairs.items form.nodes.items in
    let root = tree.root_there in
    let deep = s.shallow in
    record {
      term = s.term;
      is = (plain, record { is = s.is; fixnums = s.fixnums; low = omega (arith, root, counted, count) });
      shallow = omega (arith, deep, root, counted, count);
      few = le_trans (omega (arith, few, counted)) (square (form_count shared.pairs.items form));
    }

-- ---- a unit

-- the literals and sums of terms
abbrev pub total : List Term → ℕ
total [] = 0
total (t ∷ ts) = term_nodes t + total ts

pub record UnitTerms (shared : Shared) (forms : List Form) : Type 0 where
  pub terms : List Term
  pub are : AreTerms forms terms
  pub small : AreSmall terms
  pub few : total terms ≤ sum_by (form_weight shared.pairs.items) forms

forms_terms : (shared : Shared) (forms : List Form) → AllByRecursion (HasPlaces shared) forms → AllByRecursion (HasShapes shared) forms → AllByRecursion (λ form. IsDefinition shared form.kind form.nodes.items form.root) forms → list_all is_built_form forms ≡ true
    → AllByRecursion (λ form. form_count shared.pairs.items form ≤ 2000) forms → UnitTerms shared forms
forms_terms shared [] places shapes definitions built counts = record { terms = []; are = tt; small = tt; few = omega arith }
forms_terms shared (form ∷ forms) places shapes definitions built counts =
    let f = form_term shared form places.0 shapes.0 definitions.0 (both_first (is_built_form form) _ built) counts.0 in
    let r = forms_terms shared forms places.1 shapes.1 definitions.1 (both_second (is_built_form form) _ built) counts.1 in
    let one = f.few in
    let rest = r.few in
    let all = sum_by-cons (form_weight shared.pairs.items) form forms in
    record {
      terms = f.term ∷ r.terms;
      are = (f.is, r.are);
      small = ((f.is.1.fixnums, f.shallow), r.small);
      few = omega (arith, one, rest, all);
    }

-- a unit that is built, with what limits its code
pub record BuiltUnit (unit : UnitCore) : Type 0 where
  pub terms : List Term
  pub are : AreTerms unit.forms.items terms
  pub small : AreSmall terms
  pub few : total terms ≤ 4194304

pub built_unit : (unit : UnitCore) → IsWhole unit → is_built unit ≡ true → limit_of unit ≡ Ok tt → BuiltUnit unit
built_unit unit whole built within =
    let sizes = none_over (form_count unit.shared.pairs.items) 2000 limit.FormNodes (weight_limit unit) 0 unit.forms.items within in
    let u = forms_terms unit.shared unit.forms.items (recursion_from_All (HasPlaces unit.shared) unit.forms.items whole.places) (recursion_from_All (HasShapes unit.shared) unit.forms.items whole.shapes)
    (recursion_from_All (λ (form : Form). IsDefinition unit.shared form.kind form.nodes.items form.root) unit.forms.items whole.definitions.forms) built sizes.all in
    record { terms = u.terms; are = u.are; small = u.small; few = le_trans u.few (not_heavy unit sizes.rest) }
