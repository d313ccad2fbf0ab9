-- Forms on which the table ends in every scope, and how much it makes of them at most.
use Rattle.std.proofs.Common.{◌≡◌, ℕ, ◌+◌, ◌≤◌, Bool, true, false, if◌then◌else◌, List, [], ◌∷◌, ◌++◌, map, Option, Some, None, refl, sym, ap, subst, arith}
use Rattle.std.specs.List.{AllByRecursion}
use Rattle.std.specs.Option.{option_map, option_and_then}
use Rattle.t_base.specs.declared.basics.Span.{Span}
use Rattle.t_reader.specs.Grammar.{Value}
use Rattle.t_objects.specs.declared.words.Word.{Word}
use Rattle.t_objects.specs.Words.{word_named}
use Rattle.t_forms.specs.Data.{Datum, listed, word_of, all_of}
use Rattle.t_forms.specs.Names.{Scope, within}
use Rattle.t_rows.specs.Rows.{Row, stands_for, node, Shape, nothing, Part, plain, if_formed, word_, word_row, operator_row, items_row, call_row, row}
use Rattle.expand_laws.proofs.Reached.{HasBuiltinOps, IsRightShape, Comes, to_form, to_node, AllCome, no_parts, one_part}
use Rattle.expand_laws.proofs.Costs.{shape_cost, cost, all_cost}
use Rattle.expand_laws.proofs.Sizes.{items_listed}
use Rattle.expand_laws.proofs.Worths.{worth, worths}

-- the table ends on the form in this scope, and makes so much of it at most
abbrev pub Costs : (Value → Type 0) → ℕ → Scope → Datum → Type 0
Costs right n scope d = (c : Comes right scope d) × (cost right scope d c ≤ n)

-- Whatever the names around it mean, the table ends on the form and makes so much of it at most; and the operations in it are the builtin ones.
pub record Within (right : Value → Type 0) (n : ℕ) (d : Datum) : Type 0 where
  pub ops : HasBuiltinOps d
  pub comes : (scope : Scope) → Costs right n scope d

-- ... as much as the form is worth
abbrev pub Always : (Value → Type 0) → Datum → Type 0
Always right d = Within right (worth d) d

abbrev pub AllAlways : (Value → Type 0) → List Datum → Type 0
AllAlways right ds = AllByRecursion (Always right) ds

abbrev pub AllCosts : (Value → Type 0) → ℕ → Scope → List Part → Type 0
AllCosts right n scope ps = (all : AllCome right scope ps) × (all_cost right scope ps all ≤ n)

pub record PartsWithin (right : Value → Type 0) (n : ℕ) (ps : List Part) : Type 0 where
  pub come : (scope : Scope) → AllCosts right n scope ps

pub record NodeWithin (right : Value → Type 0) (n : ℕ) (shape : Shape) (ps : List Part) : Type 0 where
  pub right_shape : IsRightShape right shape
  pub most : ℕ
  pub parts_within : PartsWithin right most ps
  pub few : shape_cost shape + most ≤ n

-- what the row gives comes to an end in every scope
abbrev pub RowWithin : (Value → Type 0) → ℕ → Row → Type 0
RowWithin right n (stands_for e) = Within right n e
RowWithin right n (node shape refusals parts) = NodeWithin right n shape parts

-- ---- more is a bound too

pub more : {right : Value → Type 0} {n : ℕ} {d : Datum} (m : ℕ) → Within right n d → n ≤ m → Within right m d
more {right} {n} {d} m h l = record { ops = h.ops; comes = raised }
  where
    raised : (scope : Scope) → Costs right m scope d
    raised scope =
        let c = h.comes scope in
        let k = c.1 in
        (c.0, omega (arith, k, l))

pub parts_more : {right : Value → Type 0} {n : ℕ} {ps : List Part} (m : ℕ) → PartsWithin right n ps → n ≤ m → PartsWithin right m ps
parts_more {right} {n} {ps} m h l = record { come = raised }
  where
    raised : (scope : Scope) → AllCosts right m scope ps
    raised scope =
        let c = h.come scope in
        let k = c.1 in
        (c.0, omega (arith, k, l))

node_more : (right : Value → Type 0) (n m : ℕ) (shape : Shape) (ps : List Part) → NodeWithin right n shape ps → n ≤ m → NodeWithin right m shape ps
node_more right n m shape ps h l =
    let k = h.few in record { right_shape = h.right_shape; most = h.most; parts_within = h.parts_within; few = omega (arith, k, l) }

pub row_more : (right : Value → Type 0) (n m : ℕ) (r : Row) → RowWithin right n r → n ≤ m → RowWithin right m r
row_more right n m (stands_for e) h l = more m h l
row_more right n m (node shape refusals parts) h l = node_more right n m shape parts h l

-- ---- nodes

pub no_more_parts : {right : Value → Type 0} → PartsWithin right 0 []
no_more_parts {right} = record { come = none_left }
  where
    none_left : (scope : Scope) → AllCosts right 0 scope []
    none_left scope = (no_parts scope, omega arith)

pub another : {right : Value → Type 0} {k j : ℕ} {p : Part} {ps : List Part} → Within right k p.form → PartsWithin right j ps → PartsWithin right (k + j) (p ∷ ps)
another {right} {k} {j} {p} {ps} h hs = record { come = both }
  where
    both : (scope : Scope) → AllCosts right (k + j) scope (p ∷ ps)
    both scope =
        let c = h.comes (within scope p.binds) in
        let cs = hs.come scope in
        let a = c.1 in
        let b = cs.1 in
        (one_part scope p ps c.0 cs.0, omega (arith, a, b))

pub node_of : {right : Value → Type 0} {n k : ℕ} {shape : Shape} {ps : List Part} → IsRightShape right shape → PartsWithin right k ps → shape_cost shape + k ≤ n
    → NodeWithin right n shape ps
node_of {right} {n} {k} h hs l = record { right_shape = h; most = k; parts_within = hs; few = l }

pub leaf : {right : Value → Type 0} {n : ℕ} {shape : Shape} → IsRightShape right shape → shape_cost shape ≤ n → NodeWithin right n shape []
leaf h l = node_of h no_more_parts (omega (arith, l))

pub refused : {right : Value → Type 0} {n : ℕ} → 1 ≤ n → NodeWithin right n nothing []
refused l = leaf tt l

-- ---- what a form stands for

comes_by : (right : Value → Type 0) (n : ℕ) (scope : Scope) (d : Datum) (r : Row) → row scope d ≡ r → HasBuiltinOps d → RowWithin right n r → Costs right n scope d
comes_by right n scope d (stands_for e) at ops h =
    let c = h.comes scope in (to_form scope d e at c.0, c.1)
comes_by right n scope d (node shape refusals parts) at ops h =
    let c = h.parts_within.come scope in
    let k = c.1 in
    let few = h.few in
    (to_node scope d shape refusals parts at ops h.right_shape c.0, omega (arith, k, few))

pub always : (right : Value → Type 0) (n : ℕ) (d : Datum) → HasBuiltinOps d → ((scope : Scope) → RowWithin right n (row scope d)) → Within right n d
always right n d ops h = record { ops = ops; comes = λ scope. comes_by right n scope d (row scope d) refl ops (h scope) }

pub row_same : (right : Value → Type 0) (n : ℕ) (a b : Row) → a ≡ b → RowWithin right n b → RowWithin right n a
row_same right n a b e h = subst (RowWithin right n) (sym e) h

pub all_ops : (right : Value → Type 0) (s : Span) (ds : List Datum) → AllAlways right ds → HasBuiltinOps (listed s ds)
all_ops right s [] h = tt
all_ops right s (d ∷ ds) h = (h.0.ops, all_ops right s ds h.1)

-- a list with an operator
pub operator_form : (right : Value → Type 0) (n : ℕ) (s : Span) (f : Datum) (ds : List Datum) → HasBuiltinOps (listed s (f ∷ ds))
    → ((scope : Scope) → RowWithin right n (operator_row scope s f ds (word_of f))) → Within right n (listed s (f ∷ ds))
operator_form right n s f ds ops h = always right n (listed s (f ∷ ds)) ops by
  where
    by : (scope : Scope) → RowWithin right n (row scope (listed s (f ∷ ds)))
    by scope =
        row_same right n (row scope (listed s (f ∷ ds))) (operator_row scope s f ds (word_of f))
        (ap (λ o. items_row scope s (option_map (λ items. f ∷ items) o)) (items_listed s ds)) (h scope)

-- a list with a reserved word
pub word_form : (right : Value → Type 0) (n : ℕ) (s : Span) (text : List ℕ) (w : Word) (ds : List Datum) → word_named text ≡ Some w → HasBuiltinOps (listed s ds)
    → ((scope : Scope) → RowWithin right n (word_row scope s ds w)) → Within right n (listed s (word_ s text ∷ ds))
word_form right n s text w ds e ops h = operator_form right n s (word_ s text) ds (tt, ops) by
  where
    by : (scope : Scope) → RowWithin right n (operator_row scope s (word_ s text) ds (word_named text))
    by scope = row_same right n (operator_row scope s (word_ s text) ds (word_named text)) (word_row scope s ds w) (ap (λ o. operator_row scope s (word_ s text) ds o) e) (h scope)

-- a list with an operator that is no reserved word
pub other_form : (right : Value → Type 0) (n : ℕ) (s : Span) (f : Datum) (ds : List Datum) → word_of f ≡ None → HasBuiltinOps (listed s (f ∷ ds))
    → ((scope : Scope) → RowWithin right n (call_row scope s f ds)) → Within right n (listed s (f ∷ ds))
other_form right n s f ds e ops h = operator_form right n s f ds ops by
  where
    by : (scope : Scope) → RowWithin right n (operator_row scope s f ds (word_of f))
    by scope = row_same right n (operator_row scope s f ds (word_of f)) (call_row scope s f ds) (ap (λ o. operator_row scope s f ds o) e) (h scope)

-- ---- rows

pub formed : {A : Type 0} (right : Value → Type 0) (n : ℕ) (s : Span) (f : A → Row) (o : Option A) → 1 ≤ n → ((x : A) → o ≡ Some x → RowWithin right n (f x))
    → RowWithin right n (if_formed s f o)
formed right n s f None l h = refused l
formed right n s f (Some x) l h = h x refl

pub either_row : (right : Value → Type 0) (n : ℕ) (b : Bool) (x y : Row) → RowWithin right n x → RowWithin right n y → RowWithin right n (if b then x else y)
either_row right n true x y h k = h
either_row right n false x y h k = k

-- ---- lists

abbrev pub weigh : {A : Type 0} → (A → ℕ) → List A → ℕ
weigh g [] = 0
weigh g (x ∷ xs) = g x + weigh g xs

pub all_append : {A : Type 0} (P : A → Type 0) (xs ys : List A) → AllByRecursion P xs → AllByRecursion P ys → AllByRecursion P (xs ++ ys)
all_append P [] ys h k = k
all_append P (x ∷ xs) ys h k = (h.0, all_append P xs ys h.1 k)

pub all_mapped : {A B : Type 0} (P : B → Type 0) (f : A → B) (xs : List A) → AllByRecursion (λ x. P (f x)) xs → AllByRecursion P (map f xs)
all_mapped P f [] h = tt
all_mapped P f (x ∷ xs) h = (h.0, all_mapped P f xs h.1)

pub all_each : {A : Type 0} (P Q : A → Type 0) → ((x : A) → P x → Q x) → (xs : List A) → AllByRecursion P xs → AllByRecursion Q xs
all_each P Q f [] h = tt
all_each P Q f (x ∷ xs) h = (f x h.0, all_each P Q f xs h.1)

pub all_any : {A : Type 0} (xs : List A) → AllByRecursion (λ x. Unit {0}) xs
all_any [] = tt
all_any (x ∷ xs) = (tt, all_any xs)

-- a part for each, and others behind them
pub parts_each : {A : Type 0} (right : Value → Type 0) (f : A → Part) (g : A → ℕ) (xs : List A) (k : ℕ) (ps : List Part)
    → AllByRecursion (λ x. Within right (g x) (f x).form) xs → PartsWithin right k ps → PartsWithin right (weigh g xs + k) (map f xs ++ ps)
parts_each right f g [] k ps h hs = parts_more (0 + k) hs (omega arith)
parts_each right f g (x ∷ xs) k ps h hs = parts_more (g x + weigh g xs + k) (another h.0 (parts_each right f g xs k ps h.1 hs)) (omega arith)

pub parts_only : {A : Type 0} (right : Value → Type 0) (f : A → Part) (g : A → ℕ) (xs : List A) → AllByRecursion (λ x. Within right (g x) (f x).form) xs
    → PartsWithin right (weigh g xs) (map f xs)
parts_only right f g [] h = no_more_parts
parts_only right f g (x ∷ xs) h = another h.0 (parts_only right f g xs h.1)

pub plain_parts : (right : Value → Type 0) (ds : List Datum) → AllAlways right ds → PartsWithin right (worths ds) (map plain ds)
plain_parts right [] h = no_more_parts
plain_parts right (d ∷ ds) h = parts_more (16 + worth d + worths ds) (another h.0 (plain_parts right ds h.1)) (omega arith)

-- ---- what is found

pub record Through {A B : Type 0} (f : A → Option B) (o : Option A) (y : B) : Type 0 where
  pub got : A
  pub is : o ≡ Some got
  pub gives : f got ≡ Some y

pub through : {A B : Type 0} (f : A → Option B) (o : Option A) (y : B) → option_and_then f o ≡ Some y → Through f o y
through f None y e = cc
through f (Some x) y e = record { got = x; is = refl; gives = e }

pub record Mapped {A B : Type 0} (f : A → B) (o : Option A) (y : B) : Type 0 where
  pub got : A
  pub is : o ≡ Some got
  pub gives : f got ≡ y

pub mapped : {A B : Type 0} (f : A → B) (o : Option A) (y : B) → option_map f o ≡ Some y → Mapped f o y
mapped f None y e = cc
mapped f (Some x) y e = record { got = x; is = refl; gives = cc }

no_more : {B : Type 0} (P : B → Type 0) (ys : List B) → Some [] ≡ Some ys → AllByRecursion P ys
no_more P [] e = tt
no_more P (y ∷ ys) e = cc

more_found : {B : Type 0} (P : B → Type 0) (b : B) (o : Option (List B)) (ys : List B) → P b → ((zs : List B) → o ≡ Some zs → AllByRecursion P zs)
    → option_map (λ zs. b ∷ zs) o ≡ Some ys → AllByRecursion P ys
more_found P b o ys p h e =
    let m = mapped (λ zs. b ∷ zs) o ys e in subst (AllByRecursion P) m.gives (p, h m.got m.is)

one_found : {B : Type 0} (P : B → Type 0) (o : Option B) (os : List (Option B)) (ys : List B) → ((y : B) → o ≡ Some y → P y)
    → ((zs : List B) → all_of os ≡ Some zs → AllByRecursion P zs) → all_of (o ∷ os) ≡ Some ys → AllByRecursion P ys
one_found P None os ys h k e = cc
one_found P (Some b) os ys h k e = more_found P b (all_of os) ys (h b refl) k e

-- what holds of each one that is found, where all are
pub all_found : {A B : Type 0} (Q : A → Type 0) (P : B → Type 0) (f : A → Option B) → ((x : A) → Q x → (y : B) → f x ≡ Some y → P y) → (xs : List A) (ys : List B)
    → AllByRecursion Q xs → all_of (map f xs) ≡ Some ys → AllByRecursion P ys
all_found Q P f h [] ys q e = no_more P ys e
all_found Q P f h (x ∷ xs) ys q e = one_found P (f x) (map f xs) ys (h x q.0) (λ zs k. all_found Q P f h xs zs q.1 k) e

-- ---- what is found weighs no more than what it is found in

no_weight : {B : Type 0} (v : B → ℕ) (ys : List B) → Some [] ≡ Some ys → weigh v ys ≤ 0
no_weight v [] e = omega arith
no_weight v (y ∷ ys) e = cc

more_weight : {B : Type 0} (v : B → ℕ) (k n : ℕ) (b : B) (o : Option (List B)) (ys : List B) → v b ≤ k → ((zs : List B) → o ≡ Some zs → weigh v zs ≤ n)
    → option_map (λ zs. b ∷ zs) o ≡ Some ys → weigh v ys ≤ k + n
more_weight v k n b o ys p h e =
    let m = mapped (λ zs. b ∷ zs) o ys e in
    let l = h m.got m.is in
    subst (λ zs. weigh v zs ≤ k + n) m.gives (omega (arith, p, l))

one_weight : {B : Type 0} (v : B → ℕ) (k n : ℕ) (o : Option B) (os : List (Option B)) (ys : List B) → ((y : B) → o ≡ Some y → v y ≤ k)
    → ((zs : List B) → all_of os ≡ Some zs → weigh v zs ≤ n) → all_of (o ∷ os) ≡ Some ys → weigh v ys ≤ k + n
one_weight v k n None os ys h l e = cc
one_weight v k n (Some b) os ys h l e = more_weight v k n b (all_of os) ys (h b refl) l e

pub found_weight : {A B : Type 0} (Q : A → Type 0) (u : A → ℕ) (v : B → ℕ) (f : A → Option B) → ((x : A) → Q x → (y : B) → f x ≡ Some y → v y ≤ u x)
    → (xs : List A) (ys : List B) → AllByRecursion Q xs → all_of (map f xs) ≡ Some ys → weigh v ys ≤ weigh u xs
found_weight Q u v f h [] ys q e = no_weight v ys e
found_weight Q u v f h (x ∷ xs) ys q e =
    one_weight v (u x) (weigh u xs) (f x) (map f xs) ys (h x q.0) (λ zs k. found_weight Q u v f h xs zs q.1 k) e
