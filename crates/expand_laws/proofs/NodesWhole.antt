-- A node of a row fits what it is made of, and names what is there.
use Rattle.std.proofs.Common.{◌≡◌, ℕ, ◌<◌, Bool, true, false, IsTrue, List, [], ◌∷◌, ◌++◌, map, length, slice_get, All, Some, refl, sym, ap, subst, ◌∙◌, arith}
use Rattle.std.specs.List.{AllByRecursion}
use Rattle.std.specs.Option.{option_map, option_map_or}
use Rattle.std.proofs.lemmas.List.Elements.{All-from_recursion}
use Rattle.std.proofs.lemmas.Option.{slice_get_within, slice_get-get_or}
use Rattle.t_base.specs.declared.basics.Var.{Var}
use Rattle.t_base.specs.declared.shared_parts.Const.{Const}
use Rattle.t_base.specs.declared.shared_parts.GlobalKind.TheVariants.{Variable}
use Rattle.t_base.specs.declared.shared_parts.Shared.{Shared}
use Rattle.t_prim.specs.Table.{arity_of}
use Rattle.t_prim.specs.SharedParts.{IsConst}
use Rattle.t_core.specs.declared.forms.Core.{Core}
use Rattle.t_core.specs.declared.forms.Core.TheVariants as Node
use Rattle.t_core.specs.declared.forms.Method.{Method}
use Rattle.t_core.specs.Nodes.{parts_of, is_lambda, early, part, block_parts}
use Rattle.t_core.specs.Nodes.{Part as NodePart}
use Rattle.t_core.specs.Whole.{NamesAreThere, IsTree, is_lambda_at}
use Rattle.t_core.specs.Whole.{IsShaped as IsNodeShaped}
use Rattle.t_reader.specs.Grammar.{fix, char, nil, truth, string, symbol}
use Rattle.t_forms.specs.Data.{Datum, atom, cons, given, variable, builtin, operation, listing, Name}
use Rattle.t_forms.specs.Names.{Scope, Bound}
use Rattle.t_rows.specs.Rows.{Shape, constant, local, global, builtin_value, op_value, lambda, if_, block, let_, labels, set_local, set_global, catch_, object, call, primitive, Part, plain, inside}
use Rattle.expansion.specs.Meaning.{IsQuoted, Fits, Nodes, Means, as_form, as_node, AllMean, no_parts, one_part, top_scope}
use Rattle.expand_laws.proofs.Choices.{known_op}
use Rattle.expand_laws.proofs.Constants.{fixnum_in_range}
use Rattle.expand_laws.proofs.Made.{IsRight, HasDefined}
use Rattle.expand_laws.proofs.NameShapes.{DefinesOwn}
use Rattle.expand_laws.proofs.NodesReached.{OfRow, rows_reached}
use Rattle.expand_laws.proofs.Reached.{IsPure, IsRightShape, Comes, IsKnownOp, IsLambdaForm, HasNames, IsProcedurePart, IsShaped}
use Rattle.expand_laws.proofs.ShapesOfRows.{row_shaped}

-- ---- parts beside the nodes that they stand for

-- as many variables as names around each, and a LAMBDA where the form stands for one
abbrev Zipped : List Core → List Part → List NodePart → Type 0
Zipped nodes [] [] = Unit {0}
Zipped nodes [] (q ∷ qs) = ⊥
Zipped nodes (p ∷ ps) [] = ⊥
Zipped nodes (p ∷ ps) (q ∷ qs) = (length p.binds ≡ length q.binds) × (IsLambdaForm p.form → IsTrue (is_lambda_at nodes q.at)) × Zipped nodes ps qs

fits_lambda : (shared : Shared) (vars : List Var) (tail : Bool) (c : Core) → Fits shared vars tail lambda c → IsTrue (is_lambda c)
fits_lambda shared vars tail (Node.Lambda params body) f = refl
fits_lambda shared vars tail _ f = absurd f

lambda_at : (shared : Shared) (n : Nodes) (vars : List Var) (scope : Scope) (d : Datum) (tail : Bool) (k : ℕ) → Means shared n vars scope d tail k → IsLambdaForm d
    → IsTrue (is_lambda_at n.nodes k)
lambda_at shared n vars scope d tail k (as_form vs sc dd e t kk r m) h = absurd (h.no_form sc e r)
lambda_at shared n vars scope d tail k (as_node vs sc dd t kk shape parts c r at span f all) h =
    subst (λ o. IsTrue (option_map_or is_lambda o false)) (sym at)
    (fits_lambda shared vs t c (subst (λ s. Fits shared vs t s c) (h.no_other sc shape parts r) f))

zipped : (shared : Shared) (n : Nodes) (vars : List Var) (scope : Scope) (ps : List Part) (qs : List NodePart) → AllMean shared n vars scope ps qs → Zipped n.nodes ps qs
zipped shared n vars scope ps qs (no_parts vs sc) = tt
zipped shared n vars scope ps qs (one_part vs sc p q pps qqs l m rest) =
    (l, lambda_at shared n _ _ p.form q.tail q.at m, zipped shared n vs sc pps qqs rest)

-- ---- lists of parts

block_some : (nodes : List Core) (p : Part) (ps : List Part) (items : List ℕ) (tail : Bool) → Zipped nodes (p ∷ ps) (block_parts items tail) → 0 < length items
block_some nodes p ps [] tail z = absurd z
block_some nodes p ps (k ∷ ks) tail z = omega arith

let_counts : (nodes : List Core) (ds : List Datum) (body : Part) (values : List ℕ) (b : NodePart) → Zipped nodes (map plain ds ++ body ∷ []) (map early values ++ b ∷ [])
    → (length ds ≡ length values) × (length body.binds ≡ length b.binds)
let_counts nodes [] body [] b z = (refl, z.0)
let_counts nodes [] body (k ∷ []) b z = absurd z.2
let_counts nodes [] body (k ∷ l ∷ ks) b z = absurd z.2
let_counts nodes (d ∷ []) body [] b z = absurd z.2
let_counts nodes (d ∷ e ∷ ds) body [] b z = absurd z.2
let_counts nodes (d ∷ ds) body (k ∷ ks) b z =
    let rest : (length ds ≡ length ks) × (length body.binds ≡ length b.binds) = let_counts nodes ds body ks b z.2 in
    let same : length ds ≡ length ks = rest.0 in
    (omega (arith, same), rest.1)

let_fits : (nodes : List Core) (ds : List Datum) (ns : List Name) (d : Datum) (bound : List Var) (values : List ℕ) (body : ℕ) (tail : Bool) → length ns ≡ length ds
    → Zipped nodes (map plain ds ++ inside ns d ∷ []) (map early values ++ part body bound tail ∷ []) → length bound ≡ length values
let_fits nodes ds ns d bound values body tail same z =
    let c : (length ds ≡ length values) × (length ns ≡ length bound) = let_counts nodes ds (inside ns d) values (part body bound tail) z in
    sym c.1 ∙ same ∙ c.0

labels_counts : (nodes : List Core) (count : ℕ) (ps : List Part) (body : Part) (bound : List Var) (lambdas : List ℕ) (b : NodePart) → AllByRecursion (IsProcedurePart count) ps
    → Zipped nodes (ps ++ body ∷ []) (map (λ k. part k bound false) lambdas ++ b ∷ [])
    → (length ps ≡ length lambdas) × (length body.binds ≡ length b.binds) × AllByRecursion (λ k. IsTrue (is_lambda_at nodes k)) lambdas
labels_counts nodes count [] body bound [] b h z = (refl, z.0, tt)
labels_counts nodes count [] body bound (k ∷ []) b h z = absurd z.2
labels_counts nodes count [] body bound (k ∷ l ∷ ks) b h z = absurd z.2
labels_counts nodes count (p ∷ []) body bound [] b h z = absurd z.2
labels_counts nodes count (p ∷ q ∷ ps) body bound [] b h z = absurd z.2
labels_counts nodes count (p ∷ ps) body bound (k ∷ ks) b h z =
    let rest : (length ps ≡ length ks) × (length body.binds ≡ length b.binds) × AllByRecursion (λ k. IsTrue (is_lambda_at nodes k)) ks =
    labels_counts nodes count ps body bound ks b h.1 z.2
    in
    let same : length ps ≡ length ks = rest.0 in
    (omega (arith, same), rest.1, (z.1 (h.0).1, rest.2))

labels_fit : (nodes : List Core) (ps : List Part) (body : Part) (bound : List Var) (lambdas : List ℕ) (at : ℕ) (tail : Bool) → length body.binds ≡ length ps
    → AllByRecursion (IsProcedurePart (length ps)) ps → Zipped nodes (ps ++ body ∷ []) (map (λ k. part k bound false) lambdas ++ part at bound tail ∷ [])
    → (length bound ≡ length lambdas) × All (λ k. IsTrue (is_lambda_at nodes k)) lambdas
labels_fit nodes ps body bound lambdas at tail same h z =
    let c : (length ps ≡ length lambdas) × (length body.binds ≡ length bound) × AllByRecursion (λ k. IsTrue (is_lambda_at nodes k)) lambdas =
    labels_counts nodes (length ps) ps body bound lambdas (part at bound tail) h z
    in
    (sym c.1 ∙ same ∙ c.0, All-from_recursion (λ k. IsTrue (is_lambda_at nodes k)) lambdas c.2)

methods_have_self : (nodes : List Core) (ps : List Part) (ms : List Method) → AllByRecursion HasNames ps → Zipped nodes ps (map (λ (m : Method). part m.body m.params true) ms)
    → AllByRecursion (λ (m : Method). 0 < length m.params) ms
methods_have_self nodes ps [] h z = tt
methods_have_self nodes [] (m ∷ ms) h z = absurd z
methods_have_self nodes (p ∷ ps) (m ∷ ms) h z =
    let count : length p.binds ≡ length m.params = z.0 in
    (omega (arith, count, ap length (h.0).2), methods_have_self nodes ps ms h.1 z.2)

ops_there : (defined : List Bound) (shared : Shared) (ms : List Method) → HasDefined defined shared → AllByRecursion (IsKnownOp defined) (map (λ (m : Method). m.op) ms)
    → AllByRecursion (λ (m : Method). m.op < length shared.ops.items) ms
ops_there defined shared [] h i = tt
ops_there defined shared (m ∷ ms) h i = (known_op defined m.op shared i.0 h, ops_there defined shared ms h i.1)

operands_count : (nodes : List Core) (ds : List Datum) (ks : List ℕ) → Zipped nodes (map plain ds) (map early ks) → length ds ≡ length ks
operands_count nodes [] [] z = refl
operands_count nodes [] (k ∷ ks) z = absurd z
operands_count nodes (d ∷ ds) [] z = absurd z
operands_count nodes (d ∷ ds) (k ∷ ks) z = let same : length ds ≡ length ks = operands_count nodes ds ks z.2 in omega (arith, same)

-- ---- the shape of a node

module _ (shared : Shared) (nodes : List Core) where
  abbrev Beside : List Part → Core → Bool → Type 0
  Beside parts c tail = Zipped nodes parts (parts_of c tail)

  shaped_by : (vars : List Var) (scope : Scope) (tail : Bool) (shape : Shape) (c : Core) (parts : List Part) → HasDefined scope.defined shared → Fits shared vars tail shape c
      → IsShaped scope shape parts → Beside parts c tail → IsNodeShaped shared nodes c
  shaped_by vars scope tail block (Node.Block items) parts h f is z =
      block_some nodes (plain is.0) (map plain is.1) items tail (subst (λ ps. Beside ps (Node.Block items) tail) is.2 z)
  shaped_by vars scope tail let_ (Node.Let bound values body) parts h f is z =
      let_fits nodes is.0 is.1 is.2 bound values body tail is.3 (subst (λ ps. Beside ps (Node.Let bound values body) tail) is.4 z)
  shaped_by vars scope tail labels (Node.Labels bound lambdas body) parts h f is z =
      labels_fit nodes is.0 is.1 bound lambdas body tail is.3 is.4 (subst (λ ps. Beside ps (Node.Labels bound lambdas body) tail) is.2 z)
  shaped_by vars scope tail (set_global g) (Node.SetGlobal v value) parts h f is z =
      subst (λ x. option_map (λ info. info.kind) (slice_get shared.globals.items x) ≡ Some Variable) f (h.variables g is.0)
  shaped_by vars scope tail (object ops) (Node.Object proc methods) parts h f is z =
      let parts_are = subst (λ ps. Beside ps (Node.Object proc methods) tail) is.2 z in
      All-from_recursion (λ (m : Method). 0 < length m.params) methods (methods_have_self nodes is.1 methods is.4 parts_are.2)
  shaped_by vars scope tail (primitive p) (Node.Prim q operands) parts h f is z =
      sym (operands_count nodes is.0 operands (subst (λ ps. Beside ps (Node.Prim q operands) tail) is.2 z)) ∙ is.1 ∙ ap arity_of f
  shaped_by vars scope tail (constant d) (Node.Const c) parts h f is z = tt
  shaped_by vars scope tail (local i) (Node.Local v) parts h f is z = tt
  shaped_by vars scope tail (global g) (Node.Global v) parts h f is z = tt
  shaped_by vars scope tail (builtin_value p) (Node.Builtin q) parts h f is z = tt
  shaped_by vars scope tail (op_value o) (Node.Op p) parts h f is z = tt
  shaped_by vars scope tail lambda (Node.Lambda params body) parts h f is z = tt
  shaped_by vars scope tail if_ (Node.If test a b) parts h f is z = tt
  shaped_by vars scope tail (set_local i) (Node.SetLocal v value) parts h f is z = tt
  shaped_by vars scope tail catch_ (Node.Catch v body) parts h f is z = tt
  shaped_by vars scope tail call (Node.Call operator operands last) parts h f is z = tt
  shaped_by vars scope tail _ _ parts h f is z = absurd f

-- ---- what a node names

pub const_there : (names : List (List ℕ)) (shared : Shared) (d : Datum) (c : Const) → IsPure (IsRight names) d → IsQuoted shared d c → IsConst shared c
const_there names shared (atom s (given (fix z))) c pure q = subst (IsConst shared) (sym q) (fixnum_in_range z pure)
const_there names shared (atom s (given (char b))) c pure q = subst (IsConst shared) (sym q) pure
const_there names shared (atom s (given nil)) c pure q = subst (IsConst shared) (sym q) tt
const_there names shared (atom s (given truth)) c pure q = subst (IsConst shared) (sym q) tt
const_there names shared (atom s (given (string bytes))) c pure q = subst (IsConst shared) (sym q.1) (slice_get_within shared.strings.items q.0 bytes q.2)
const_there names shared (atom s (given (symbol text))) c pure q = subst (IsConst shared) (sym q.1) (slice_get_within shared.names (q.0).0 text q.2)
const_there names shared (atom s (variable n)) c pure q = absurd q
const_there names shared (atom s (builtin p)) c pure q = absurd q
const_there names shared (atom s (operation o)) c pure q = absurd q
const_there names shared (atom s listing) c pure q = absurd q
const_there names shared (cons s head tail) c pure q = subst (IsConst shared) (sym q.2) (slice_get_within shared.pairs.items q.0 q.1 q.3)

-- the constant is a datum of the text
pub record QuotedAt (names : List (List ℕ)) (shared : Shared) (c : Const) : Type 0 where
  pub datum : Datum
  pub pure : IsPure (IsRight names) datum
  pub quoted : IsQuoted shared datum c

-- ... if the node is a constant
abbrev pub IsQuotedNode : List (List ℕ) → Shared → Core → Type 0
IsQuotedNode names shared (Node.Const c) = QuotedAt names shared c
IsQuotedNode names shared _ = Unit {0}

named_by : (names : List (List ℕ)) (shared : Shared) (vars : List Var) (scope : Scope) (tail : Bool) (shape : Shape) (c : Core) (parts : List Part) → HasDefined scope.defined shared
    → IsRightShape (IsRight names) shape → Fits shared vars tail shape c → IsShaped scope shape parts → NamesAreThere shared c
named_by names shared vars scope tail (constant d) (Node.Const c) parts h pure f is = const_there names shared d c pure f
named_by names shared vars scope tail (global g) (Node.Global v) parts h pure f is = subst (λ x. x < length shared.globals.items) f (h.globals g is.1 is.2)
named_by names shared vars scope tail (op_value o) (Node.Op p) parts h pure f is = subst (λ x. x < length shared.ops.items) f (known_op scope.defined o shared is.1 h)
named_by names shared vars scope tail (set_global g) (Node.SetGlobal v value) parts h pure f is = subst (λ x. x < length shared.globals.items) f (h.globals g _ is.0)
named_by names shared vars scope tail (object ops) (Node.Object proc methods) parts h pure f is =
    All-from_recursion (λ (m : Method). m.op < length shared.ops.items) methods
    (ops_there scope.defined shared methods h (subst (AllByRecursion (IsKnownOp scope.defined)) (sym f) is.5))
named_by names shared vars scope tail (local i) (Node.Local v) parts h pure f is = tt
named_by names shared vars scope tail (builtin_value p) (Node.Builtin q) parts h pure f is = tt
named_by names shared vars scope tail lambda (Node.Lambda params body) parts h pure f is = tt
named_by names shared vars scope tail if_ (Node.If test a b) parts h pure f is = tt
named_by names shared vars scope tail block (Node.Block items) parts h pure f is = tt
named_by names shared vars scope tail let_ (Node.Let bound values body) parts h pure f is = tt
named_by names shared vars scope tail labels (Node.Labels bound lambdas body) parts h pure f is = tt
named_by names shared vars scope tail (set_local i) (Node.SetLocal v value) parts h pure f is = tt
named_by names shared vars scope tail catch_ (Node.Catch v body) parts h pure f is = tt
named_by names shared vars scope tail call (Node.Call operator operands last) parts h pure f is = tt
named_by names shared vars scope tail (primitive p) (Node.Prim q operands) parts h pure f is = tt
named_by names shared vars scope tail _ _ parts h pure f is = absurd f

quoted_by : (names : List (List ℕ)) (shared : Shared) (vars : List Var) (tail : Bool) (shape : Shape) (c : Core) → IsRightShape (IsRight names) shape → Fits shared vars tail shape c
    → IsQuotedNode names shared c
quoted_by names shared vars tail (constant d) (Node.Const c) pure f = record { datum = d; pure = pure; quoted = f }
quoted_by names shared vars tail (global g) (Node.Global v) pure f = tt
quoted_by names shared vars tail (op_value o) (Node.Op p) pure f = tt
quoted_by names shared vars tail (set_global g) (Node.SetGlobal v value) pure f = tt
quoted_by names shared vars tail (object ops) (Node.Object proc methods) pure f = tt
quoted_by names shared vars tail (local i) (Node.Local v) pure f = tt
quoted_by names shared vars tail (builtin_value p) (Node.Builtin q) pure f = tt
quoted_by names shared vars tail lambda (Node.Lambda params body) pure f = tt
quoted_by names shared vars tail if_ (Node.If test a b) pure f = tt
quoted_by names shared vars tail block (Node.Block items) pure f = tt
quoted_by names shared vars tail let_ (Node.Let bound values body) pure f = tt
quoted_by names shared vars tail labels (Node.Labels bound lambdas body) pure f = tt
quoted_by names shared vars tail (set_local i) (Node.SetLocal v value) pure f = tt
quoted_by names shared vars tail catch_ (Node.Catch v body) pure f = tt
quoted_by names shared vars tail call (Node.Call operator operands last) pure f = tt
quoted_by names shared vars tail (primitive p) (Node.Prim q operands) pure f = tt
quoted_by names shared vars tail _ _ pure f = absurd f

-- ---- all nodes of a form

-- what is known of each node
pub record WholeNode (names : List (List ℕ)) (shared : Shared) (nodes : List Core) (c : Core) : Type 0 where
  pub shaped : IsNodeShaped shared nodes c
  pub named : NamesAreThere shared c
  pub quoted : IsQuotedNode names shared c

whole_node : (names : List (List ℕ)) (defined : List Bound) (shared : Shared) (n : Nodes) (c : Core) → DefinesOwn defined → HasDefined defined shared
    → OfRow (IsRight names) defined shared n c → WholeNode names shared n.nodes c
whole_node names defined shared n c own h r =
    let here : HasDefined (r.scope).defined shared = subst (λ ds. HasDefined ds shared) (sym r.own) h in
    let is : IsShaped r.scope r.shape r.parts = row_shaped r.scope r.form r.shape r.parts (subst DefinesOwn (sym r.own) own) r.ops r.is in
    record {
      shaped = shaped_by shared n.nodes r.vars r.scope r.tail r.shape c r.parts here r.fits is (zipped shared n r.vars r.scope r.parts (parts_of c r.tail) r.all);
      named = named_by names shared r.vars r.scope r.tail r.shape c r.parts here r.right_shape r.fits is;
      quoted = quoted_by names shared r.vars r.tail r.shape c r.right_shape r.fits;
    }

pub nodes_whole : (names : List (List ℕ)) (defined : List Bound) (shared : Shared) (n : Nodes) (root : ℕ) (d : Datum) → DefinesOwn defined → HasDefined defined shared
    → IsTree n.nodes root → Means shared n [] (top_scope defined) d false root → Comes (IsRight names) (top_scope defined) d → All (WholeNode names shared n.nodes) n.nodes
nodes_whole names defined shared n root d own h tree m comes k c there =
    whole_node names defined shared n _ own h
    (rows_reached (IsRight names) defined shared n root d tree m comes k _ (slice_get-get_or n.nodes k c there))
