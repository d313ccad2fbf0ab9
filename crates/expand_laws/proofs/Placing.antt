-- Where nodes stand: those of a form lie one behind the other in an arena, and make a tree.
use Rattle.std.proofs.Common.{◌≡◌, ℕ, zero, suc, ◌+◌, ◌<◌, ◌≤◌, Bool, true, false, if◌then◌else◌, ◌⊎◌, inl, inr, List, [], ◌∷◌, ◌++◌, map, length, slice_get, Some, refl, sym, ap, subst, ◌∙◌, arith}
use Rattle.std.specs.Prelude.{◌==◌, All}
use Rattle.std.specs.List.{flat_map}
use Rattle.std.proofs.lemmas.Bool.{eqb-true, eqb-false, cases_lt}
use Rattle.std.proofs.lemmas.List.{append-nil, length-append}
use Rattle.std.proofs.lemmas.List.Elements.{All-nil, All-cons, All-head, All-weaker}
use Rattle.t_base.specs.declared.basics.Var.{Var}
use Rattle.t_core.specs.declared.forms.Core.{Core}
use Rattle.t_core.specs.declared.forms.Core.TheVariants as Node
use Rattle.t_core.specs.Nodes.{Part, part, early, block_parts, parts_of, places_of}
use Rattle.t_core.specs.Whole.{IsTree}
use Rattle.expansion.proofs.Added.{slice_get-append}
use Rattle.expansion.specs.Trees.{StandBefore, Grown}
use Rattle.expand_laws.proofs.Counting.{times_count, times_none, times_append, times_flat, times_one, times_not_one}
use Rattle.expansion.specs.Counting.{times}

-- the items stand in the list one behind the other, from the start on
pub record Sits {A : Type 0} (start : ℕ) (xs all : List A) : Type 0 where
  pub there : (k : ℕ) (x : A) → slice_get xs k ≡ Some x → slice_get all (start + k) ≡ Some x

pub sits_all : {A : Type 0} (xs : List A) → Sits 0 xs xs
sits_all xs = record { there = λ k x e. let f : 0 + k ≡ k = omega arith in rw f e }

pub sits_front : {A : Type 0} (start : ℕ) (xs ys all : List A) → Sits start (xs ++ ys) all → Sits start xs all
sits_front start xs ys all s = record { there = λ k x e. s.there k x (slice_get-append xs ys k x e) }

behind : {A : Type 0} (xs ys : List A) (k : ℕ) (x : A) → slice_get ys k ≡ Some x → slice_get (xs ++ ys) (length xs + k) ≡ Some x
behind [] ys k x e = let f : 0 + k ≡ k = omega arith in rw f e
behind (z ∷ xs) ys k x e = let f : suc (length xs) + k ≡ suc (length xs + k) = omega arith in rw f (behind xs ys k x e)

pub sits_back : {A : Type 0} (start : ℕ) (xs ys all : List A) → Sits start (xs ++ ys) all → Sits (start + length xs) ys all
sits_back start xs ys all s =
    record { there = λ k x e. let f : start + length xs + k ≡ start + (length xs + k) = omega arith in rw f (s.there (length xs + k) x (behind xs ys k x e)) }

pub sits_last : {A : Type 0} (start : ℕ) (xs : List A) (x : A) (all : List A) → Sits start (xs ++ x ∷ []) all → slice_get all (start + length xs) ≡ Some x
sits_last start xs x all s =
    let f : start + length xs + 0 ≡ start + length xs = omega arith in
    rw f at ((sits_back start xs (x ∷ []) all s).there 0 x refl)

-- ---- parts

-- what a node has ready for a part: the variables that it binds around it, and whether it is a tail place
pub record Seat : Type 0 where
  pub binds : List Var
  pub tail : Bool

abbrev pub seat : List Var → Bool → Seat
seat vars last = record { binds = vars; tail = last }

-- the parts, whose nodes stand at these places
abbrev pub placed : List Seat → List ℕ → List Part
placed [] ks = []
placed (s ∷ seats) [] = []
placed (s ∷ seats) (k ∷ ks) = part k s.binds s.tail ∷ placed seats ks

placed_places : (seats : List Seat) (ks : List ℕ) → length ks ≡ length seats → map (λ (p : Part). p.at) (placed seats ks) ≡ ks
placed_places [] [] e = refl
placed_places [] (k ∷ ks) e = absurd (omega arith)
placed_places (s ∷ seats) [] e = absurd (omega arith)
placed_places (s ∷ seats) (k ∷ ks) e = ap (λ l. k ∷ l) (placed_places seats ks (omega arith))

last_place : (ps : List Part) (k : ℕ) (vars : List Var) (a b : Bool) → map (λ (p : Part). p.at) (ps ++ part k vars a ∷ []) ≡ map (λ (p : Part). p.at) (ps ++ part k vars b ∷ [])
last_place [] k vars a b = refl
last_place (p ∷ ps) k vars a b = ap (λ l. p.at ∷ l) (last_place ps k vars a b)

block_places : (ks : List ℕ) (a b : Bool) → map (λ (p : Part). p.at) (block_parts ks a) ≡ map (λ (p : Part). p.at) (block_parts ks b)
block_places [] a b = refl
block_places (k ∷ []) a b = refl
block_places (k ∷ next ∷ ks) a b = ap (λ l. k ∷ l) (block_places (next ∷ ks) a b)

-- the places of the parts are the same in a tail place
tail_places : (c : Core) (tail : Bool) → places_of c ≡ map (λ (p : Part). p.at) (parts_of c tail)
tail_places (Node.Const c) tail = refl
tail_places (Node.Local v) tail = refl
tail_places (Node.Global g) tail = refl
tail_places (Node.Builtin p) tail = refl
tail_places (Node.Op o) tail = refl
tail_places (Node.Lambda params body) tail = refl
tail_places (Node.If test a b) tail = refl
tail_places (Node.Block items) tail = block_places items false tail
tail_places (Node.Let vars values body) tail = last_place (map early values) body vars false tail
tail_places (Node.Labels vars lambdas body) tail = last_place (map (λ k. part k vars false) lambdas) body vars false tail
tail_places (Node.SetLocal v value) tail = refl
tail_places (Node.SetGlobal g value) tail = refl
tail_places (Node.Catch v body) tail = refl
tail_places (Node.Object proc methods) tail = refl
tail_places (Node.Call operator operands last) tail = refl
tail_places (Node.Prim p operands) tail = refl

pub places_by_parts : (c : Core) (tail : Bool) (seats : List Seat) (ks : List ℕ) → length ks ≡ length seats → parts_of c tail ≡ placed seats ks → places_of c ≡ ks
places_by_parts c tail seats ks e f = tail_places c tail ∙ ap (map (λ (p : Part). p.at)) f ∙ placed_places seats ks e

-- ---- trees

pub before_append : (start : ℕ) (xs ys : List Core) → StandBefore start xs → StandBefore (start + length xs) ys → StandBefore start (xs ++ ys)
before_append start [] ys h i = let e : start + 0 ≡ start = omega arith in rw e at i
before_append start (x ∷ xs) ys h i =
    let e : start + suc (length xs) ≡ suc start + length xs = omega arith in
    (h.0, before_append (suc start) xs ys h.1 (rw e at i))

before_at : (start : ℕ) (xs : List Core) (k : ℕ) (c : Core) → StandBefore start xs → slice_get xs k ≡ Some c → All (λ place. place < start + k) (places_of c)
before_at start [] k c h e = cc
before_at start (x ∷ xs) zero c h e =
    let same : x ≡ c = cc in
    let f : start + 0 ≡ start = omega arith in
    subst (λ (y : Core). All (λ place. place < start + 0) (places_of y)) same (rw f h.0)
before_at start (x ∷ xs) (suc k) c h e =
    let f : start + suc k ≡ suc start + k = omega arith in
    rw f (before_at (suc start) xs k c h.1 e)

pub grown_none : (start : ℕ) → Grown start [] []
grown_none start = record {
  before = tt;
  within = All-nil (λ k. k < start + 0);
  below = λ k h. omega (arith, times_none k);
  above = λ k h. omega (arith, times_none k);
  once = λ k h i. absurd (omega arith);
}

-- a part more, before the others
pub grown_more : (start : ℕ) (xs ys : List Core) (root : ℕ) (roots : List ℕ) → Grown start xs (root ∷ []) → Grown (start + length xs) ys roots
    → Grown start (xs ++ ys) (root ∷ roots)
grown_more start xs ys root roots x y =
    let count : length (xs ++ ys) ≡ length xs + length ys = length-append xs ys in
    let head : root < start + length xs = All-head (λ k. k < start + length xs) root [] x.within in
    record {
      before = before_append start xs ys x.before y.before;
      within = All-cons (λ k. k < start + length (xs ++ ys)) root roots (omega arith)
          (All-weaker (λ k. k < start + length xs + length ys) (λ k. k < start + length (xs ++ ys)) (λ k h. omega (arith, count)) roots y.within);
      below = λ k h. omega (arith, sum k, x.below k h, y.below k (omega arith));
      above = λ k h. omega (arith, sum k, x.above k (omega (arith, count)), y.above k (omega (arith, count)));
      once = λ k low high. by k low (omega (arith, count)) (cases_lt k (start + length xs));
    }
  where
    sum : (k : ℕ) → times k (flat_map places_of (xs ++ ys)) + times k (root ∷ roots)
        ≡ (times k (flat_map places_of xs) + times k (root ∷ [])) + (times k (flat_map places_of ys) + times k roots)
    sum k = omega (arith, times_flat places_of k xs ys, times_append k (root ∷ []) roots)

    by : (k : ℕ) → start ≤ k → k < start + length xs + length ys → (k < start + length xs) ⊎ (start + length xs ≤ k)
        → times k (flat_map places_of (xs ++ ys)) + times k (root ∷ roots) ≡ 1
    by k low high (inl lt) = omega (arith, sum k, x.once k low lt, y.below k lt)
    by k low high (inr le) = omega (arith, sum k, x.above k le, y.once k le high)

-- the node of parts, behind them
pub grown_node : (start : ℕ) (more : List Core) (c : Core) (roots : List ℕ) → places_of c ≡ roots → Grown start more roots
    → Grown start (more ++ c ∷ []) ((start + length more) ∷ [])
grown_node start more c roots are x =
    let count : length (more ++ c ∷ []) ≡ suc (length more) = length-append more (c ∷ []) ∙ omega arith in
    let root = start + length more in
    record {
      before = before_append start more (c ∷ []) x.before (subst (λ (l : List ℕ). All (λ place. place < root) l) (sym are) x.within, tt);
      within = All-cons (λ k. k < start + length (more ++ c ∷ [])) root [] (omega (arith, count)) (All-nil (λ k. k < start + length (more ++ c ∷ [])));
      below = λ k h. omega (arith, sum k, x.below k h, times_not_one k root (λ e. omega arith));
      above = λ k h. omega (arith, sum k, x.above k (omega (arith, count)), times_not_one k root (λ e. omega (arith, count)));
      once = λ k low high. by k low (omega (arith, count)) (cases_lt k root);
    }
  where
    sum : (k : ℕ) → times k (flat_map places_of (more ++ c ∷ [])) + times k ((start + length more) ∷ [])
        ≡ (times k (flat_map places_of more) + times k roots) + times k ((start + length more) ∷ [])
    sum k = omega (arith, times_flat places_of k more (c ∷ []), ap (times k) (append-nil (places_of c) ∙ are))

    by : (k : ℕ) → start ≤ k → k < suc (start + length more) → (k < start + length more) ⊎ (start + length more ≤ k)
        → times k (flat_map places_of (more ++ c ∷ [])) + times k ((start + length more) ∷ []) ≡ 1
    by k low high (inl lt) = omega (arith, sum k, x.once k low lt, times_not_one k (start + length more) (λ e. omega arith))
    by k low high (inr le) = omega (arith, sum k, x.above k le, times_one k (start + length more) (omega arith))

pub is_tree : (nodes : List Core) (root : ℕ) → Grown 0 nodes (root ∷ []) → IsTree nodes root
is_tree nodes root x =
    let head : root < 0 + length nodes = All-head (λ k. k < 0 + length nodes) root [] x.within in
    record {
      root_there = omega arith;
      parts_before = λ k c found. let e : 0 + k ≡ k = omega arith in rw e at (before_at 0 nodes k c x.before found);
      named_once = λ k lt. times_count k (flat_map places_of nodes) ∙ by k (x.once k (omega arith) (omega arith)) (k == root) refl;
    }
  where
    by : (k : ℕ) → times k (flat_map places_of nodes) + times k (root ∷ []) ≡ 1 → (b : Bool) → (k == root) ≡ b → times k (flat_map places_of nodes) ≡ (if k == root then 0 else 1)
    by k h true e =
        let a : times k (flat_map places_of nodes) ≡ 0 = omega (arith, times_one k root (sym (eqb-true k root e))) in
        a ∙ sym (ap (λ (t : Bool). if t then 0 else 1) e)
    by k h false e =
        let a : times k (flat_map places_of nodes) ≡ 1 = omega (arith, times_not_one k root (λ f. eqb-false k root e (sym f))) in
        a ∙ sym (ap (λ (t : Bool). if t then 0 else 1) e)
