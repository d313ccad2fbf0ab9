-- The data of a whole text unit have as many atoms and pairs as the unit has nodes.
use Rattle.std.proofs.Common.{◌≡◌, ◌⊎◌, inl, inr, ℕ, suc, zero, ◌+◌, ◌*◌, ◌<◌, ◌≤◌, ◌==◌, ◌++◌, Bool, true, false, cond, List, [], ◌∷◌, length, Option, Some, None, slice_get, refl, sym, ap, ◌∙◌, arith}
use Rattle.std.specs.List.{AllByRecursion}
use Rattle.std.proofs.lemmas.Bool.{cases_eq, ne_eqb}
use Rattle.std.proofs.lemmas.Bool.Decides.{Decides-eqb}
use Rattle.std.proofs.lemmas.List.Sums.{sum_by-cons}
use Rattle.std.proofs.lemmas.Option.{slice_get_within}
use Rattle.t_reader.specs.declared.unit.Datum.{Datum as NodeDatum}
use Rattle.t_reader.specs.declared.unit.Node.{Node}
use Rattle.t_reader.specs.Unit.{children, named_by}
use Rattle.expand_laws.proofs.Once.{times}

-- ---- sums

-- f k + f (k + 1) + .., so many
unfoldable pub total : (ℕ → ℕ) → ℕ → ℕ → ℕ
total f k zero = 0
total f k (suc n) = f k + total f (k + 1) n

-- of what stands in a list
unfoldable pub listed_total : (ℕ → ℕ) → List ℕ → ℕ
listed_total f [] = 0
listed_total f (j ∷ js) = f j + listed_total f js

-- f k for each time that k stands there
part_at : (ℕ → ℕ) → List ℕ → ℕ → ℕ
part_at f [] k = 0
part_at f (j ∷ js) k = cond {A = ℕ} (j == k) (f k) 0 + part_at f js k

total_both : (f g h : ℕ → ℕ) (k n : ℕ) → ((i : ℕ) → k ≤ i → i < k + n → f i + g i ≡ h i) → total f k n + total g k n ≡ total h k n
unfolding total
total_both f g h k zero e = refl
total_both f g h k (suc n) e =
    let here = e k (omega arith) (omega arith) in
    let rest = total_both f g h (k + 1) n (λ i le less. e i (omega (arith, le)) (omega (arith, less))) in
    omega (arith, here, rest)

total_none : (k n : ℕ) → total (λ i. 0) k n ≡ 0
unfolding total
total_none k zero = refl
total_none k (suc n) = let r = total_none (k + 1) n in omega (arith, r)

one_below : (f : ℕ → ℕ) (j k n : ℕ) → j < k → total (λ i. cond {A = ℕ} (j == i) (f i) 0) k n ≡ 0
unfolding total
one_below f j k zero less = refl
one_below f j k (suc n) less =
    let r = one_below f j (k + 1) n (omega (arith, less)) in
    let e : (j == k) ≡ false = ne_eqb j k (λ s. omega (arith, s, less)) in
    let c : cond {A = ℕ} (j == k) (f k) 0 ≡ 0 = ap (λ (b : Bool). cond {A = ℕ} b (f k) 0) e in
    omega (arith, c, r)

one_within : (f : ℕ → ℕ) (j k n : ℕ) → k ≤ j → j < k + n → total (λ i. cond {A = ℕ} (j == i) (f i) 0) k n ≡ f j
unfolding total
one_within f j k zero le less = absurd (omega (arith, le, less))
one_within f j k (suc n) le less = by (cases_eq j k) (λ l. one_within f j (k + 1) n l (omega (arith, less)))
  where
    by : (j ≡ k) ⊎ (j ≡ k → ⊥) → (k + 1 ≤ j → total (λ i. cond {A = ℕ} (j == i) (f i) 0) (k + 1) n ≡ f j)
        → cond {A = ℕ} (j == k) (f k) 0 + total (λ i. cond {A = ℕ} (j == i) (f i) 0) (k + 1) n ≡ f j
    by (inl same) rest =
        let e : (j == k) ≡ true = (Decides-eqb j k).1 same in
        let c : cond {A = ℕ} (j == k) (f k) 0 ≡ f k = ap (λ (b : Bool). cond {A = ℕ} b (f k) 0) e in
        let z = one_below f j (k + 1) n (omega (arith, same)) in
        let s : f k ≡ f j = ap f (sym same) in
        omega (arith, c, z, s)
    by (inr other) rest =
        let e : (j == k) ≡ false = ne_eqb j k other in
        let c : cond {A = ℕ} (j == k) (f k) 0 ≡ 0 = ap (λ (b : Bool). cond {A = ℕ} b (f k) 0) e in
        let r = rest (omega (arith, le, other)) in
        omega (arith, c, r)

-- the sum over a list, place by place
by_places : (f : ℕ → ℕ) (n : ℕ) (js : List ℕ) → AllByRecursion (λ j. j < n) js → total (part_at f js) 0 n ≡ listed_total f js
unfolding part_at listed_total
by_places f n [] below = total_none 0 n
by_places f n (j ∷ js) below =
    let here = below.0 in
    let one = one_within f j 0 n (omega arith) (omega (arith, here)) in
    let rest = by_places f n js below.1 in
    let both = total_both (λ i. cond {A = ℕ} (j == i) (f i) 0) (part_at f js) (part_at f (j ∷ js)) 0 n (λ i le less. refl) in
    omega (arith, one, rest, both)

times_more : (k j : ℕ) (js : List ℕ) → times k (j ∷ js) ≡ cond {A = ℕ} (j == k) 1 0 + times k js
times_more k j js = sum_by-cons (λ i. cond {A = ℕ} (i == k) 1 0) j js

cond_times : (b : Bool) (m t : ℕ) → cond {A = ℕ} b m 0 + m * t ≡ m * (cond {A = ℕ} b 1 0 + t)
cond_times true m t = omega arith
cond_times false m t = omega arith

part_times : (f : ℕ → ℕ) (js : List ℕ) (k : ℕ) → part_at f js k ≡ f k * times k js
unfolding part_at
part_times f [] k = let z : times k [] ≡ 0 = refl in omega (arith, z)
part_times f (j ∷ js) k =
    ap (λ m. cond {A = ℕ} (j == k) (f k) 0 + m) (part_times f js k) ∙ cond_times (j == k) (f k) (times k js) ∙ ap (λ m. f k * m) (sym (times_more k j js))

once_parts : (m a b : ℕ) → a + b ≡ 1 → m * a + m * b ≡ m
once_parts m zero b e = let o : b ≡ 1 = omega (arith, e) in rw o (omega arith)
once_parts m (suc a) b e = let z : a ≡ 0 = omega (arith, e) in let y : b ≡ 0 = omega (arith, e) in rw (z, y) (omega arith)

-- two lists in which each place stands once
pub once_in_both : (f : ℕ → ℕ) (n : ℕ) (js ks : List ℕ) → AllByRecursion (λ j. j < n) js → AllByRecursion (λ j. j < n) ks → ((k : ℕ) → k < n → times k js + times k ks ≡ 1)
    → listed_total f js + listed_total f ks ≡ total f 0 n
once_in_both f n js ks a b once =
    let p = by_places f n js a in
    let q = by_places f n ks b in
    let both = total_both (part_at f js) (part_at f ks) f 0 n
    (λ i le less. let s = part_times f js i in let t = part_times f ks i in let o = once_parts (f i) (times i js) (times i ks) (once i (omega (arith, less))) in omega (arith, s, t, o)) in
    omega (arith, p, q, both)

-- ---- the weight of a node

unfoldable pub weigh_datum : (ℕ → ℕ) → NodeDatum → ℕ
weigh_datum f d = 1 + listed_total f (children d)

unfoldable pub weigh_node : (ℕ → ℕ) → Option Node → ℕ
weigh_node f None = 0
weigh_node f (Some n) = weigh_datum f n.datum

-- the atoms and pairs of the datum at a place, nested at most so deep
unfoldable pub weigh : List Node → ℕ → ℕ → ℕ
weigh nodes zero k = 0
weigh nodes (suc depth) k = weigh_node (weigh nodes depth) (slice_get nodes k)

-- children stand before their parents
abbrev pub Ordered : List Node → Type 0
Ordered nodes = (k : ℕ) (n : Node) → slice_get nodes k ≡ Some n → AllByRecursion (λ j. j < k) (children n.datum)

same_total : (f g : ℕ → ℕ) (js : List ℕ) (k : ℕ) → AllByRecursion (λ j. j < k) js → ((j : ℕ) → j < k → f j ≡ g j) → listed_total f js ≡ listed_total g js
unfolding listed_total
same_total f g [] k below same = refl
same_total f g (j ∷ js) k below same = let h = same j below.0 in let r = same_total f g js k below.1 same in omega (arith, h, r)

same_node : (f g : ℕ → ℕ) (nodes : List Node) (k : ℕ) (o : Option Node) → slice_get nodes k ≡ o → Ordered nodes → ((j : ℕ) → j < k → f j ≡ g j) → weigh_node f o ≡ weigh_node g o
unfolding weigh_node weigh_datum
same_node f g nodes k None e ordered same = refl
same_node f g nodes k (Some n) e ordered same = ap (λ m. 1 + m) (same_total f g (children n.datum) k (ordered k n e) same)

-- however deep, if deep enough
deeper : (nodes : List Node) (d e k : ℕ) → Ordered nodes → k < d → k < e → weigh nodes d k ≡ weigh nodes e k
unfolding weigh
deeper nodes zero e k ordered l m = absurd (omega (arith, l))
deeper nodes (suc d) zero k ordered l m = absurd (omega (arith, m))
deeper nodes (suc d) (suc e) k ordered l m =
    same_node (weigh nodes d) (weigh nodes e) nodes k (slice_get nodes k) refl ordered (λ j less. deeper nodes d e j ordered (omega (arith, less, l)) (omega (arith, less, m)))

pub weigh_at : (nodes : List Node) (k : ℕ) (n : Node) → Ordered nodes → slice_get nodes k ≡ Some n → weigh nodes (length nodes) k ≡ 1 + listed_total (weigh nodes (length nodes)) (children n.datum)
unfolding weigh weigh_node weigh_datum
weigh_at nodes k n ordered e =
    let within = slice_get_within nodes k n e in
    deeper nodes (length nodes) (suc (length nodes)) k ordered within (omega (arith, within)) ∙ ap (weigh_node (weigh nodes (length nodes))) e

total_append : (f : ℕ → ℕ) (js ks : List ℕ) → listed_total f (js ++ ks) ≡ listed_total f js + listed_total f ks
unfolding listed_total
total_append f [] ks = omega arith
total_append f (j ∷ js) ks = let r = total_append f js ks in omega (arith, r)

pub all_weights : (f : ℕ → ℕ) (k : ℕ) (ns : List Node) → ((i : ℕ) (n : Node) → slice_get ns i ≡ Some n → f (k + i) ≡ 1 + listed_total f (children n.datum))
    → total f k (length ns) ≡ length ns + listed_total f (named_by ns)
unfolding total listed_total
all_weights f k [] e = refl
all_weights f k (n ∷ ns) e =
    let here = e 0 n refl in
    let same : f (k + 0) ≡ f k = ap f (omega arith) in
    let rest = all_weights f (k + 1) ns (λ i m h. ap f (omega arith) ∙ e (suc i) m h) in
    let both = total_append f (children n.datum) (named_by ns) in
    omega (arith, here, same, rest, both)
