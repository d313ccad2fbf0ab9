-- The nodes of a form inside a form of the unit, relative to what stands before them.
use Rattle.std.proofs.Common.{◌≡◌, ℕ, zero, suc, ◌+◌, ◌<◌, ◌≤◌, Bool, false, IsTrue, List, [], ◌∷◌, ◌++◌, length, slice_get, Option, Some, refl, sym, ap, subst, ◌∙◌, arith}
use Rattle.std.specs.Prelude.{All, IsSomeAnd}
use Rattle.std.specs.List.{AllByRecursion, AllZip}
use Rattle.std.specs.Option.{option_map_or}
use Rattle.std.proofs.lemmas.List.{length-append}
use Rattle.std.proofs.lemmas.List.Elements.{All-nil, All-cons, All-append}
use Rattle.t_base.specs.declared.basics.Span.{Span}
use Rattle.t_base.specs.declared.basics.Var.{Var}
use Rattle.t_base.specs.declared.shared_parts.Shared.{Shared}
use Rattle.t_core.specs.declared.forms.Core.{Core}
use Rattle.t_core.specs.declared.forms.Core.TheVariants as Node
use Rattle.t_core.specs.Nodes.{parts_of, is_lambda}
use Rattle.t_core.specs.Nodes.{Part as NodePart}
use Rattle.t_core.specs.Whole.{NamesAreThere, IsInPlace, IsScopedWithin, is_lambda_at}
use Rattle.t_core.specs.Whole.{IsShaped as IsNodeShaped}
use Rattle.t_forms.specs.Data.{Datum, Name, span_of}
use Rattle.t_forms.specs.Names.{Scope, within}
use Rattle.t_rows.specs.Rows.{stands_for, node, Shape, lambda, Part, inside, row}
use Rattle.expansion.specs.Meaning.{Fits, Nodes, Means, as_form, as_node, AllMean, no_parts, one_part}
use Rattle.expand_laws.proofs.Costs.{shape_cost}
use Rattle.expand_laws.proofs.Few.{IsFew, few_none, few_both, few_counted}
use Rattle.expand_laws.proofs.Gaining.{Gains, gains_none, gains_both, gains_swapped, stock_before}
use Rattle.expand_laws.proofs.Made.{Stock, HasStock, HasDefined}
use Rattle.expand_laws.proofs.Placing.{Sits, sits_front, sits_back, sits_last, Seat, placed, places_by_parts, grown_none, grown_more, grown_node}
use Rattle.expansion.specs.Trees.{Grown}
use Rattle.expand_laws.proofs.Reached.{IsLambdaForm}

-- the nodes of a form in the scope where the local names mean these variables, from the start on, with a bound on what is made
pub record Segment (names : List (List ℕ)) (vars : List Var) (scope : Scope) (d : Datum) (tail : Bool) (start : ℕ) (before : Stock) (bound : ℕ) : Type 0 where
  pub nodes : List Core
  pub spans : List Span
  pub root : ℕ
  pub after : Stock
  pub gains : Gains names before after nodes
  pub grown : Grown start nodes (root ∷ [])
  pub spans_are : length spans ≡ length nodes
  pub some : 0 < length nodes
  pub few : IsFew before after (length nodes) bound
  pub means : (shared : Shared) (n : Nodes) → HasStock names after shared → Sits start nodes n.nodes → Sits start spans n.spans → Means shared n vars scope d tail root
  pub scoped : (all : List Core) → Sits start nodes all → (depth : ℕ) → length nodes ≤ depth → IsScopedWithin all depth vars tail root
  pub shaped : (shared : Shared) (all : List Core) → HasDefined scope.defined shared → Sits start nodes all → All (IsNodeShaped shared all) nodes
  pub named : (shared : Shared) → HasStock names after shared → HasDefined scope.defined shared → All (NamesAreThere shared) nodes
  pub lambda_at : (all : List Core) → Sits start nodes all → IsLambdaForm d → IsTrue (is_lambda_at all root)
  pub root_is : (all : List Core) → Sits start nodes all → (ns : List Name) (e : Datum) → row scope d ≡ node lambda [] (inside ns e ∷ [])
      → (params : List Var) × (body : ℕ) × (slice_get all root ≡ Some (Node.Lambda params body)) × (length params ≡ length ns)

-- each part whose form stands for a LAMBDA has a LAMBDA at its place
abbrev pub AreLambdas : List Core → List Part → List ℕ → Type 0
AreLambdas all [] ks = Unit {0}
AreLambdas all (p ∷ ps) [] = Unit {0}
AreLambdas all (p ∷ ps) (k ∷ ks) = (IsLambdaForm p.form → IsTrue (is_lambda_at all k)) × AreLambdas all ps ks

-- a variable for each name around a part
abbrev pub AreSeated : List Part → List Seat → Type 0
AreSeated parts seats = AllZip (λ p s. length p.binds ≡ length s.binds) parts seats

-- the nodes of parts, one behind the other
pub record Segments (names : List (List ℕ)) (vars : List Var) (scope : Scope) (parts : List Part) (seats : List Seat) (start : ℕ) (before : Stock) (bound : ℕ) : Type 0 where
  pub nodes : List Core
  pub spans : List Span
  pub places : List ℕ
  pub after : Stock
  pub count : length places ≡ length seats
  pub gains : Gains names before after nodes
  pub grown : Grown start nodes places
  pub spans_are : length spans ≡ length nodes
  pub few : IsFew before after (length nodes) bound
  pub means : (shared : Shared) (n : Nodes) → HasStock names after shared → Sits start nodes n.nodes → Sits start spans n.spans
      → AllMean shared n vars scope parts (placed seats places)
  pub scoped : (all : List Core) → Sits start nodes all → (depth : ℕ) → length nodes ≤ depth
      → AllByRecursion (λ (p : NodePart). IsScopedWithin all depth (p.binds ++ vars) p.tail p.at) (placed seats places)
  pub shaped : (shared : Shared) (all : List Core) → HasDefined scope.defined shared → Sits start nodes all → All (IsNodeShaped shared all) nodes
  pub named : (shared : Shared) → HasStock names after shared → HasDefined scope.defined shared → All (NamesAreThere shared) nodes
  pub lambdas : (all : List Core) → Sits start nodes all → AreLambdas all parts places

pub no_segments : (names : List (List ℕ)) (vars : List Var) (scope : Scope) (start : ℕ) (s : Stock) → Segments names vars scope [] [] start s 0
no_segments names vars scope start s = record {
  nodes = [];
  spans = [];
  places = [];
  after = s;
  count = refl;
  gains = gains_none names s;
  grown = grown_none start;
  spans_are = refl;
  few = few_none s 0;
  means = λ shared n h i j. no_parts vars scope;
  scoped = λ all h depth le. tt;
  shaped = λ shared all h i. All-nil (IsNodeShaped shared all);
  named = λ shared h i. All-nil (NamesAreThere shared);
  lambdas = λ all h. tt;
}

pub more_segments : (names : List (List ℕ)) (vars : List Var) (scope : Scope) (p : Part) (s : Seat) (ps : List Part) (seats : List Seat) (start : ℕ) (before : Stock)
    (m n : ℕ) → length p.binds ≡ length s.binds → (x : Segment names (s.binds ++ vars) (within scope p.binds) p.form s.tail start before m)
    → Segments names vars scope ps seats (start + length x.nodes) x.after n → Segments names vars scope (p ∷ ps) (s ∷ seats) start before (m + n)
more_segments names vars scope p s ps seats start before m n binds x y =
    let count : length (x.nodes ++ y.nodes) ≡ length x.nodes + length y.nodes = length-append x.nodes y.nodes in
    record {
      nodes = x.nodes ++ y.nodes;
      spans = x.spans ++ y.spans;
      places = x.root ∷ y.places;
      after = y.after;
      count = ap suc y.count;
      gains = gains_both names before x.after y.after x.nodes y.nodes x.gains y.gains;
      grown = grown_more start x.nodes y.nodes x.root y.places x.grown y.grown;
      spans_are = omega (arith, length-append x.spans y.spans, count, x.spans_are, y.spans_are);
      few = few_counted before y.after (length x.nodes + length y.nodes) (length (x.nodes ++ y.nodes)) (m + n) count
          (few_both before x.after y.after (length x.nodes) (length y.nodes) m n x.few y.few);
      means = λ shared n h i j.
          one_part vars scope p _ ps _ binds
          (x.means shared n (stock_before names x.after y.after y.nodes shared y.gains h) (sits_front start x.nodes y.nodes n.nodes i) (sits_front start x.spans y.spans n.spans j))
          (y.means shared n h (sits_back start x.nodes y.nodes n.nodes i) (subst (λ k. Sits (start + k) y.spans n.spans) x.spans_are (sits_back start x.spans y.spans n.spans j)));
      scoped = λ all h depth le.
          (x.scoped all (sits_front start x.nodes y.nodes all h) depth (omega (arith, count)), y.scoped all (sits_back start x.nodes y.nodes all h) depth (omega (arith, count)));
      shaped = λ shared all h i. All-append (IsNodeShaped shared all) x.nodes y.nodes (x.shaped shared all h (sits_front start x.nodes y.nodes all i))
          (y.shaped shared all h (sits_back start x.nodes y.nodes all i));
      named = λ shared h i. All-append (NamesAreThere shared) x.nodes y.nodes (x.named shared (stock_before names x.after y.after y.nodes shared y.gains h) i) (y.named shared h i);
      lambdas = λ all h. (x.lambda_at all (sits_front start x.nodes y.nodes all h), y.lambdas all (sits_back start x.nodes y.nodes all h));
    }

-- ---- a node

-- what is chosen for a node of a shape before its parts are made, and the node by their places
pub record Choice (names : List (List ℕ)) (vars : List Var) (scope : Scope) (tail : Bool) (shape : Shape) (parts : List Part) (before : Stock) : Type 0 where
  pub seats : List Seat
  pub seated : AreSeated parts seats
  pub after : Stock
  pub few : IsFew before after 1 (shape_cost shape)
  pub core : List ℕ → Core
  pub gains : (ks : List ℕ) → length ks ≡ length seats → Gains names before after (core ks ∷ [])
  pub parts_are : (ks : List ℕ) → length ks ≡ length seats → parts_of (core ks) tail ≡ placed seats ks
  pub fits : (ks : List ℕ) → length ks ≡ length seats → (shared : Shared) → HasStock names after shared → Fits shared vars tail shape (core ks)
  pub in_place : (ks : List ℕ) → IsInPlace vars tail (core ks)
  pub shaped : (ks : List ℕ) → length ks ≡ length seats → (shared : Shared) (all : List Core) → HasDefined scope.defined shared → AreLambdas all parts ks
      → IsNodeShaped shared all (core ks)
  pub named : (ks : List ℕ) (shared : Shared) → HasStock names after shared → HasDefined scope.defined shared → NamesAreThere shared (core ks)
  pub is_lambda : (ks : List ℕ) → shape ≡ lambda → IsTrue (is_lambda (core ks))
  pub lambda_is : (ks : List ℕ) → shape ≡ lambda → (ns : List Name) (e : Datum) → parts ≡ inside ns e ∷ [] → length ks ≡ length seats
      → (params : List Var) × (body : ℕ) × (core ks ≡ Node.Lambda params body) × (length params ≡ length ns)

-- what holds of a node at a place
scoped_node : (all : List Core) (depth : ℕ) (vars : List Var) (tail : Bool) (k : ℕ) (c : Core) → slice_get all k ≡ Some c → IsInPlace vars tail c
    → AllByRecursion (λ (p : NodePart). IsScopedWithin all depth (p.binds ++ vars) p.tail p.at) (parts_of c tail) → IsScopedWithin all (suc depth) vars tail k
unfolding IsScopedWithin
scoped_node all depth vars tail k c found here parts =
    subst (λ (o : Option Core). IsSomeAnd o (λ node. IsInPlace vars tail node × AllByRecursion (λ p. IsScopedWithin all depth (p.binds ++ vars) p.tail p.at) (parts_of node tail))) (sym found)
    (here, parts)

scoped_deep : (all : List Core) (vars : List Var) (tail : Bool) (k count : ℕ) (c : Core) → slice_get all k ≡ Some c → IsInPlace vars tail c
    → ((depth : ℕ) → count ≤ depth → AllByRecursion (λ (p : NodePart). IsScopedWithin all depth (p.binds ++ vars) p.tail p.at) (parts_of c tail))
    → (depth : ℕ) → suc count ≤ depth → IsScopedWithin all depth vars tail k
scoped_deep all vars tail k count c found here parts zero le = absurd (omega arith)
scoped_deep all vars tail k count c found here parts (suc depth) le = scoped_node all depth vars tail k c found here (parts depth (omega arith))

same_shape : {a b : Shape} {xs ys : List Part} → node a [] xs ≡ node b [] ys → (a ≡ b) × (xs ≡ ys)
same_shape e = (cc, cc)

pub node_segment : (names : List (List ℕ)) (vars : List Var) (scope : Scope) (d : Datum) (tail : Bool) (start : ℕ) (before : Stock) (shape : Shape) (parts : List Part)
    (n : ℕ) → row scope d ≡ node shape [] parts → (c : Choice names vars scope tail shape parts before) → Segments names vars scope parts c.seats start c.after n
    → Segment names vars scope d tail start before (shape_cost shape + n)
node_segment names vars scope d tail start before shape parts n is c x =
    let core : Core = c.core x.places in
    let count : length (x.nodes ++ core ∷ []) ≡ suc (length x.nodes) = length-append x.nodes (core ∷ []) ∙ omega arith in
    record {
      nodes = x.nodes ++ core ∷ [];
      spans = x.spans ++ span_of d ∷ [];
      root = start + length x.nodes;
      after = x.after;
      gains = gains_swapped names before x.after (core ∷ []) x.nodes (gains_both names before c.after x.after (core ∷ []) x.nodes (c.gains x.places x.count) x.gains);
      grown = grown_node start x.nodes core x.places (places_by_parts core tail c.seats x.places x.count (c.parts_are x.places x.count)) x.grown;
      spans_are = omega (arith, length-append x.spans (span_of d ∷ []), count, x.spans_are);
      some = omega (arith, count);
      few = few_counted before x.after (1 + length x.nodes) (length (x.nodes ++ core ∷ [])) (shape_cost shape + n) (omega (arith, count))
          (few_both before c.after x.after 1 (length x.nodes) (shape_cost shape) n c.few x.few);
      means = λ shared n h i j.
          as_node vars scope d tail (start + length x.nodes) shape parts core is (sits_last start x.nodes core n.nodes i)
          (subst (λ k. slice_get n.spans (start + k) ≡ Some (span_of d)) x.spans_are (sits_last start x.spans (span_of d) n.spans j))
          (c.fits x.places x.count shared (stock_before names c.after x.after x.nodes shared x.gains h))
          (subst (λ qs. AllMean shared n vars scope parts qs) (sym (c.parts_are x.places x.count))
          (x.means shared n h (sits_front start x.nodes (core ∷ []) n.nodes i) (sits_front start x.spans (span_of d ∷ []) n.spans j)));
      scoped = λ all h depth le.
          scoped_deep all vars tail (start + length x.nodes) (length x.nodes) core (sits_last start x.nodes core all h) (c.in_place x.places)
          (λ k m. subst (λ qs. AllByRecursion (λ (p : NodePart). IsScopedWithin all k (p.binds ++ vars) p.tail p.at) qs) (sym (c.parts_are x.places x.count))
          (x.scoped all (sits_front start x.nodes (core ∷ []) all h) k m)) depth (omega (arith, count));
      shaped = λ shared all h i. All-append (IsNodeShaped shared all) x.nodes (core ∷ []) (x.shaped shared all h (sits_front start x.nodes (core ∷ []) all i))
          (All-cons (IsNodeShaped shared all) core []
          (c.shaped x.places x.count shared all h (x.lambdas all (sits_front start x.nodes (core ∷ []) all i))) (All-nil (IsNodeShaped shared all)));
      named = λ shared h i. All-append (NamesAreThere shared) x.nodes (core ∷ []) (x.named shared h i)
          (All-cons (NamesAreThere shared) core [] (c.named x.places shared (stock_before names c.after x.after x.nodes shared x.gains h) i) (All-nil (NamesAreThere shared)));
      lambda_at = λ all h form.
          subst (λ (o : Option Core). IsTrue (option_map_or is_lambda o false)) (sym (sits_last start x.nodes core all h)) (c.is_lambda x.places (form.no_other scope shape parts is));
      root_is = λ all h ns e other.
          let same = same_shape (sym is ∙ other) in
          let f = c.lambda_is x.places same.0 ns e same.1 x.count in
          (f.0, f.1, sits_last start x.nodes core all h ∙ ap Some f.2, f.3);
    }

-- what stands for another form has the nodes of that
pub form_segment : (names : List (List ℕ)) (vars : List Var) (scope : Scope) (d e : Datum) (tail : Bool) (start : ℕ) (before : Stock) (n : ℕ) → row scope d ≡ stands_for e
    → Segment names vars scope e tail start before n → Segment names vars scope d tail start before n
form_segment names vars scope d e tail start before n is x = record {
  nodes = x.nodes;
  spans = x.spans;
  root = x.root;
  after = x.after;
  gains = x.gains;
  grown = x.grown;
  spans_are = x.spans_are;
  some = x.some;
  few = x.few;
  means = λ shared n h i j. as_form vars scope d e tail x.root is (x.means shared n h i j);
  scoped = x.scoped;
  shaped = x.shaped;
  named = x.named;
  lambda_at = λ all h form. absurd (form.no_form scope e is);
  root_is = λ all h ns b other. absurd (not_both (sym is ∙ other));
}
  where
    not_both : {b : Datum} {shape : Shape} {ps : List Part} → stands_for b ≡ node shape [] ps → ⊥
    not_both h = cc
