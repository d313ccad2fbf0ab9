-- The data of a whole text unit are of the text, and have as many atoms and pairs as the unit has nodes.
use Rattle.std.proofs.Common.{◌≡◌, ℕ, suc, zero, ◌+◌, ◌<◌, ◌≤◌, ◌++◌, true, List, [], ◌∷◌, length, map, All, Some, slice_get, nat_le, refl, ap, subst, ◌∙◌, arith}
use Rattle.std.specs.List.{list_all, AllByRecursion}
use Rattle.std.proofs.lemmas.Bool.{leb-true}
use Rattle.std.proofs.lemmas.List.Elements.{All-weaker}
use Rattle.std.proofs.lemmas.List.Sums.{AllPass-from_list_all}
use Rattle.t_reader.specs.declared.unit.Datum.{Datum as NodeDatum}
use Rattle.t_reader.specs.declared.unit.Datum.TheVariants.{Fix, Char, Nil, True, Str, Sym, Pair}
use Rattle.t_reader.specs.declared.unit.Node.{Node}
use Rattle.t_reader.specs.declared.unit.Unit.{Unit as TextUnit}
use Rattle.t_reader.specs.Grammar.{Value, fix, char, nil, truth, string, symbol, Tree, leaf, pair}
use Rattle.t_reader.specs.Unit.{IsValue, node, Holds, HoldTrees, children, named_by, IsWhole, IsWholeDatum}
use Rattle.t_forms.specs.Data.{Datum, datum_of}
use Rattle.t_forms.proofs.Loads.{holds_within}
use Rattle.expand_laws.proofs.Fineness.{ArePure}
use Rattle.expand_laws.proofs.Made.{IsRight}
use Rattle.expand_laws.proofs.Sizes.{size}
use Rattle.expand_laws.proofs.Reached.{IsPure}
use Rattle.expand_laws.proofs.Weights.{Ordered, weigh, weigh_node, weigh_datum, listed_total, total, weigh_at, all_weights, once_in_both}

-- ---- what the data are made of

ascii_bytes : (bytes : List ℕ) → list_all (λ b. nat_le b 127) bytes ≡ true → All (λ b. b < 128) bytes
ascii_bytes bytes e =
    All-weaker (λ b. nat_le b 127 ≡ true) (λ b. b < 128) (λ b h. let l = leb-true b 127 h in omega (arith, l)) bytes (AllPass-from_list_all (λ b. nat_le b 127) bytes e)

value_right : (names : List (List ℕ)) (k : ℕ) (d : NodeDatum) (v : Value) → IsWholeDatum names k d → IsValue names d v → IsRight names v
value_right names k d (fix z) whole is = subst (λ x. IsWholeDatum names k x) is whole
value_right names k d (char c) whole is = let l : c ≤ 127 = subst (λ x. IsWholeDatum names k x) is whole in omega (arith, l)
value_right names k d nil whole is = tt
value_right names k d truth whole is = tt
value_right names k d (string bytes) whole is = ascii_bytes bytes (subst (λ x. IsWholeDatum names k x) is whole)
value_right names k d (symbol text) whole is = (is.0.0, is.2)

pub tree_pure : (u : TextUnit) (key : ℕ) (t : Tree) → IsWhole u → Holds u.names u.nodes.items key t → IsPure (IsRight u.names) (datum_of t)
tree_pure u key (leaf s v) w h = value_right u.names key h.0 v (w.data_whole key (node s h.0) h.1) h.2
tree_pure u key (pair s head tail) w h = (tree_pure u h.0 head w h.5, tree_pure u h.1 tail w h.6)

trees_pure_at : (u : TextUnit) (keys : List ℕ) (ts : List Tree) → IsWhole u → HoldTrees u.names u.nodes.items keys ts → ArePure u.names (map datum_of ts)
trees_pure_at u keys [] w h = tt
trees_pure_at u keys (t ∷ ts) w h = (tree_pure u h.0 t w h.3, trees_pure_at u h.1 ts w h.4)

pub trees_pure : (u : TextUnit) (ts : List Tree) → IsWhole u → HoldTrees u.names u.nodes.items u.forms.items ts → ArePure u.names (map datum_of ts)
trees_pure u ts w h = trees_pure_at u u.forms.items ts w h

-- ---- how many

abbrev pub data_size : List Datum → ℕ
data_size [] = 0
data_size (d ∷ ds) = size d + data_size ds

child_below : (names : List (List ℕ)) (k : ℕ) (d : NodeDatum) → IsWholeDatum names k d → AllByRecursion (λ j. j < k) (children d)
child_below names k (Pair head tail) w = (w.0, (w.1, tt))
child_below names k (Fix z) w = tt
child_below names k (Char c) w = tt
child_below names k Nil w = tt
child_below names k True w = tt
child_below names k (Str bytes) w = tt
child_below names k (Sym n) w = tt

ordered : (u : TextUnit) → IsWhole u → Ordered u.nodes.items
ordered u w k n e = child_below u.names k n.datum (w.data_whole k n e)

leaf_weight : (f : ℕ → ℕ) (names : List (List ℕ)) (d : NodeDatum) (v : Value) → IsValue names d v → weigh_datum f d ≡ 1
unfolding weigh_datum listed_total
leaf_weight f names d (fix z) is = rw is refl
leaf_weight f names d (char c) is = rw is refl
leaf_weight f names d nil is = rw is refl
leaf_weight f names d truth is = rw is refl
leaf_weight f names d (string bytes) is = rw is refl
leaf_weight f names d (symbol text) is = rw is.1 refl

tree_weight : (names : List (List ℕ)) (nodes : List Node) (depth key : ℕ) (t : Tree) → Holds names nodes key t → key < depth → weigh nodes depth key ≡ size (datum_of t)
unfolding weigh weigh_node weigh_datum listed_total
tree_weight names nodes zero key t h less = absurd (omega (arith, less))
tree_weight names nodes (suc depth) key (leaf s v) h less = ap (weigh_node (weigh nodes depth)) h.1 ∙ leaf_weight (weigh nodes depth) names h.0 v h.2
tree_weight names nodes (suc depth) key (pair s head tail) h less =
    let a = h.3 in
    let b = h.4 in
    let e = tree_weight names nodes depth h.0 head h.5 (omega (arith, less, a)) in
    let f = tree_weight names nodes depth h.1 tail h.6 (omega (arith, less, b)) in
    ap (weigh_node (weigh nodes depth)) h.2 ∙ (omega (arith, e, f))

trees_weight : (names : List (List ℕ)) (nodes : List Node) (keys : List ℕ) (ts : List Tree) → HoldTrees names nodes keys ts
    → (listed_total (weigh nodes (length nodes)) keys ≡ data_size (map datum_of ts)) × AllByRecursion (λ j. j < length nodes) keys
unfolding listed_total
trees_weight names nodes keys [] h = rw h (refl, tt)
trees_weight names nodes keys (t ∷ ts) h =
    let rest = trees_weight names nodes h.1 ts h.4 in
    let below = holds_within names nodes h.0 t h.3 in
    let e = tree_weight names nodes (length nodes) h.0 t h.3 below in
    let f = rest.0 in
    rw h.2 (omega (arith, e, f), (below, rest.1))

all_append : (n : ℕ) (js ks : List ℕ) → AllByRecursion (λ j. j < n) js → AllByRecursion (λ j. j < n) ks → AllByRecursion (λ j. j < n) (js ++ ks)
all_append n [] ks a b = b
all_append n (j ∷ js) ks a b = (a.0, all_append n js ks a.1 b)

lower_bound : (k n : ℕ) (js : List ℕ) → k ≤ n → AllByRecursion (λ j. j < k) js → AllByRecursion (λ j. j < n) js
lower_bound k n [] le a = tt
lower_bound k n (j ∷ js) le a = let b = a.0 in (omega (arith, le, b), lower_bound k n js le a.1)

children_within : (k : ℕ) (ns : List Node) (n : ℕ) → n ≡ k + length ns → ((i : ℕ) (x : Node) → slice_get ns i ≡ Some x → AllByRecursion (λ j. j < k + i) (children x.datum))
    → AllByRecursion (λ j. j < n) (named_by ns)
children_within k [] n e below = tt
children_within k (x ∷ ns) n e below =
    all_append n (children x.datum) (named_by ns) (lower_bound (k + 0) n (children x.datum) (omega (arith, e)) (below 0 x refl))
    (children_within (k + 1) ns n (omega (arith, e)) (λ i y h. let s : k + suc i ≡ (k + 1) + i = omega arith in subst (λ b. AllByRecursion (λ j. j < b) (children y.datum)) s (below (suc i) y h)))

pub sizes_are : (u : TextUnit) (ts : List Tree) → IsWhole u → HoldTrees u.names u.nodes.items u.forms.items ts → data_size (map datum_of ts) ≡ length u.nodes.items
sizes_are u ts w h =
    let n = length u.nodes.items in
    let f = weigh u.nodes.items n in
    let t = trees_weight u.names u.nodes.items u.forms.items ts h in
    let below = children_within 0 u.nodes.items n (omega arith) (λ i x e. subst (λ b. AllByRecursion (λ j. j < b) (children x.datum)) (omega arith) (ordered u w i x e)) in
    let both : listed_total f u.forms.items + listed_total f (named_by u.nodes.items) ≡ total f 0 n = once_in_both f n u.forms.items (named_by u.nodes.items) t.1 below w.named_once in
    let all : total f 0 n ≡ n + listed_total f (named_by u.nodes.items) =
    all_weights f 0 u.nodes.items (λ i x e. ap f (omega arith) ∙ weigh_at u.nodes.items i x (ordered u w) e) in
    let first : listed_total f u.forms.items ≡ data_size (map datum_of ts) = t.0 in
    omega (arith, both, all, first)
