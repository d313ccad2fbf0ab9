-- Nodes that stand at the same place of two trees, and the variables that they bind: a variable that is bound once has one beside it.
use Rattle.std.proofs.Common.{◌≡◌, ◌≢◌, ℕ, ◌<◌, ◌≤◌, ◌==◌, Bool, true, false, if◌then◌else◌, List, length, slice_get, All, AllPairs, count_by, Some, refl, sym, ap, subst, ◌∙◌, arith}
use Rattle.std.specs.List.{flat_map}
use Rattle.std.proofs.lemmas.Bool.Decides.{Decides-eqb}
use Rattle.std.proofs.lemmas.Option.{slice_get_within, get_or_from_slice_get, same_Some}
use Rattle.t_base.specs.declared.basics.Var.{Var}
use Rattle.t_core.specs.declared.forms.Core.{Core}
use Rattle.t_core.specs.declared.forms.Form.{Form}
use Rattle.t_core.specs.Nodes.{places_of, binders_of}
use Rattle.t_core.specs.Whole.{IsTree}
use Rattle.expand_laws.proofs.Standing.{StandsOnce, somewhere, once_within, one_piece, once_distinct, counted_none, counted_once}

-- ---- places

-- the roots, and the parts of nodes that are paired, one by one
pub data Paired (nodes others : List Core) (root top : ℕ) : ℕ → ℕ → Type 0 where
  at_roots : (k j : ℕ) → k ≡ root → j ≡ top → Paired nodes others root top k j
  at_parts : (k j i x y : ℕ) (c d : Core) → Paired nodes others root top k j → slice_get nodes k ≡ Some c → slice_get others j ≡ Some d
      → slice_get (places_of c) i ≡ Some x → slice_get (places_of d) i ≡ Some y → Paired nodes others root top x y

pub flipped : (nodes others : List Core) (root top k j : ℕ) → Paired nodes others root top k j → Paired others nodes top root j k
flipped nodes others root top k j (at_roots kk jj p q) = at_roots jj kk q p
flipped nodes others root top k j (at_parts kk jj i x y c d paired g h p q) =
    at_parts jj kk i y x d c (flipped nodes others root top kk jj paired) h g q p

pub all_at : {X : Type 0} (P : X → Type 0) (xs : List X) (k : ℕ) (x : X) → slice_get xs k ≡ Some x → All P xs → P x
all_at P xs k x h all = subst P (get_or_from_slice_get xs k x x h) (all k x (slice_get_within xs k x h))

-- a place that a node names is there
part_there : (nodes : List Core) (root k i x : ℕ) (c : Core) → IsTree nodes root → slice_get nodes k ≡ Some c → slice_get (places_of c) i ≡ Some x → x < length nodes
part_there nodes root k i x c tree h p =
    let below : x < k = all_at (λ place. place < k) (places_of c) i x p (tree.parts_before k c h) in
    let there : k < length nodes = slice_get_within nodes k c h in
    omega arith

pub named : (nodes : List Core) (root x : ℕ) → IsTree nodes root → x < length nodes → (b : Bool) → (x == root) ≡ b
    → count_by (λ place. place == x) (flat_map places_of nodes) ≡ (if b then 0 else 1)
named nodes root x tree there b is = tree.named_once x there ∙ ap (λ c. if c then 0 else 1) is

named_few : (nodes : List Core) (root x : ℕ) → IsTree nodes root → x < length nodes → (b : Bool) → (x == root) ≡ b
    → count_by (λ place. place == x) (flat_map places_of nodes) ≤ 1
named_few nodes root x tree there true is = let e : count_by (λ place. place == x) (flat_map places_of nodes) ≡ 0 = named nodes root x tree there true is in omega arith
named_few nodes root x tree there false is = let e : count_by (λ place. place == x) (flat_map places_of nodes) ≡ 1 = named nodes root x tree there false is in omega arith

named_here : (x : ℕ) → (x == x) ≡ true
named_here x = (Decides-eqb x x).1 refl

-- no node names the root
root_unnamed : (nodes : List Core) (root k i x : ℕ) (c : Core) → IsTree nodes root → slice_get nodes k ≡ Some c → slice_get (places_of c) i ≡ Some x → x ≡ root → ⊥
root_unnamed nodes root k i x c tree h p is =
    let at : (j : ℕ) × (slice_get (flat_map places_of nodes) j ≡ Some x) = somewhere places_of nodes k i c x h p in
    counted_none (λ place. place == x) (flat_map places_of nodes) at.0 x
    (named nodes root x tree (part_there nodes root k i x c tree h p) true ((Decides-eqb x root).1 is)) (named_here x) at.1

-- one node names a part, once
part_once : (nodes : List Core) (root x : ℕ) → IsTree nodes root → x < length nodes → StandsOnce (flat_map places_of nodes) x
part_once nodes root x tree there =
    counted_once (λ place. place == x) (flat_map places_of nodes) x (named_few nodes root x tree there (x == root) refl) (named_here x)

beside_root : (nodes others : List Core) (root top k j l : ℕ) → IsTree nodes root → k ≡ root → j ≡ top → Paired nodes others root top k l → j ≡ l
beside_root nodes others root top k j l tree p q (at_roots kk ll r s) = q ∙ sym s
beside_root nodes others root top k j l tree p q (at_parts kk ll i x y c d paired g h r s) = absurd (root_unnamed nodes root kk i x c tree g r p)

-- the part of one node, whose other is known, and that of the other one
beside_part : (nodes others : List Core) (root top k j i x y l : ℕ) (c d : Core) → IsTree nodes root → ((m : ℕ) → Paired nodes others root top k m → j ≡ m)
    → slice_get nodes k ≡ Some c → slice_get others j ≡ Some d → slice_get (places_of c) i ≡ Some x → slice_get (places_of d) i ≡ Some y
    → Paired nodes others root top x l → y ≡ l
beside_part nodes others root top k j i x y l c d tree only g h p q (at_roots xx ll r s) = absurd (root_unnamed nodes root k i x c tree g p r)
beside_part nodes others root top k j i x y l c d tree only g h p q (at_parts kk jj ii xx ll cc_ dd paired gg hh pp qq) =
    let once : StandsOnce (flat_map places_of nodes) x = part_once nodes root x tree (part_there nodes root k i x c tree g p) in
    let same_node : k ≡ kk = one_piece places_of nodes k kk i ii c cc_ x once g gg p pp in
    let same_core : c ≡ cc_ = same_Some c cc_ (sym g ∙ ap (slice_get nodes) same_node ∙ gg) in
    let same_place : i ≡ ii = once_within places_of nodes k c x once g i ii p (subst (λ n. slice_get (places_of n) ii ≡ Some x) (sym same_core) pp) in
    let same_other : j ≡ jj = only jj (subst (λ n. Paired nodes others root top n jj) (sym same_node) paired) in
    let same_found : d ≡ dd = same_Some d dd (sym h ∙ ap (slice_get others) same_other ∙ hh) in
    same_Some y ll (sym q ∙ ap (slice_get (places_of d)) same_place ∙ subst (λ n. slice_get (places_of n) ii ≡ Some ll) (sym same_found) qq)

-- a place of a tree is paired with one place
pub one_beside : (nodes others : List Core) (root top k j l : ℕ) → IsTree nodes root → Paired nodes others root top k j → Paired nodes others root top k l → j ≡ l
one_beside nodes others root top k j l tree (at_roots kk jj p q) b = beside_root nodes others root top kk jj l tree p q b
one_beside nodes others root top k j l tree (at_parts kk jj i x y c d paired g h p q) b =
    beside_part nodes others root top kk jj i x y l c d tree (λ m a. one_beside nodes others root top kk jj m tree paired a) g h p q b

-- ---- variables

-- the variables are bound at the same place of nodes that are paired
pub record BoundIn (form other : Form) (v w : Var) : Type 0 where
  pub k : ℕ
  pub j : ℕ
  pub i : ℕ
  pub c : Core
  pub d : Core
  pub paired : Paired form.nodes.items other.nodes.items form.root other.root k j
  pub node_is : slice_get form.nodes.items k ≡ Some c
  pub other_is : slice_get other.nodes.items j ≡ Some d
  pub left : slice_get (binders_of c) i ≡ Some v
  pub right : slice_get (binders_of d) i ≡ Some w

-- and that in forms that stand at the same place
pub record BoundTogether (forms others : List Form) (v w : Var) : Type 0 where
  pub f : ℕ
  pub form : Form
  pub other : Form
  pub form_is : slice_get forms f ≡ Some form
  pub other_is : slice_get others f ≡ Some other
  pub within : BoundIn form other v w

flipped_within : (form other : Form) (v w : Var) → BoundIn form other v w → BoundIn other form w v
flipped_within form other v w b = record {
  k = b.j;
  j = b.k;
  i = b.i;
  c = b.d;
  d = b.c;
  paired = flipped form.nodes.items other.nodes.items form.root other.root b.k b.j b.paired;
  node_is = b.other_is;
  other_is = b.node_is;
  left = b.right;
  right = b.left;
}

pub flipped_together : (forms others : List Form) (v w : Var) → BoundTogether forms others v w → BoundTogether others forms w v
flipped_together forms others v w b = record {
  f = b.f;
  form = b.other;
  other = b.form;
  form_is = b.other_is;
  other_is = b.form_is;
  within = flipped_within b.form b.other v w b.within;
}

-- in one form
one_within : (form other : Form) (v w x : Var) → IsTree form.nodes.items form.root → StandsOnce (flat_map binders_of form.nodes.items) v → BoundIn form other v w
    → BoundIn form other v x → w ≡ x
one_within form other v w x tree once a b =
    let same_node : a.k ≡ b.k = one_piece binders_of form.nodes.items a.k b.k a.i b.i a.c b.c v once a.node_is b.node_is a.left b.left in
    let same_core : a.c ≡ b.c = same_Some a.c b.c (sym a.node_is ∙ ap (slice_get form.nodes.items) same_node ∙ b.node_is) in
    let same_place : a.i ≡ b.i = once_within binders_of form.nodes.items a.k a.c v once a.node_is a.i b.i a.left (subst (λ n. slice_get (binders_of n) b.i ≡ Some v) (sym same_core) b.left) in
    let same_other : a.j ≡ b.j =
    one_beside form.nodes.items other.nodes.items form.root other.root a.k a.j b.j tree a.paired
    (subst (λ n. Paired form.nodes.items other.nodes.items form.root other.root n b.j) (sym same_node) b.paired)
    in
    let same_found : a.d ≡ b.d = same_Some a.d b.d (sym a.other_is ∙ ap (slice_get other.nodes.items) same_other ∙ b.other_is) in
    same_Some w x (sym a.right ∙ ap (slice_get (binders_of a.d)) same_place ∙ subst (λ n. slice_get (binders_of n) b.i ≡ Some x) (sym same_found) b.right)

abbrev pub bound_in : Form → List Var
bound_in form = flat_map binders_of form.nodes.items

found_in : (form other : Form) (v w : Var) → BoundIn form other v w → (i : ℕ) × (slice_get (bound_in form) i ≡ Some v)
found_in form other v w b = somewhere binders_of form.nodes.items b.k b.i b.c v b.node_is b.left

-- a variable is bound together with one variable
pub one_together : (forms others : List Form) (v w x : Var) → ((f : ℕ) (form : Form) → slice_get forms f ≡ Some form → 0 < length form.nodes.items → IsTree form.nodes.items form.root)
    → AllPairs (λ a b. a ≢ b) (flat_map bound_in forms) → BoundTogether forms others v w → BoundTogether forms others v x → w ≡ x
one_together forms others v w x trees distinct a b =
    let once : StandsOnce (flat_map bound_in forms) v = once_distinct (flat_map bound_in forms) v distinct in
    let here : (i : ℕ) × (slice_get (bound_in a.form) i ≡ Some v) = found_in a.form a.other v w a.within in
    let there : (i : ℕ) × (slice_get (bound_in b.form) i ≡ Some v) = found_in b.form b.other v x b.within in
    let same_at : a.f ≡ b.f = one_piece bound_in forms a.f b.f here.0 there.0 a.form b.form v once a.form_is b.form_is here.1 there.1 in
    let same_form : a.form ≡ b.form = same_Some a.form b.form (sym a.form_is ∙ ap (slice_get forms) same_at ∙ b.form_is) in
    let same_other : a.other ≡ b.other = same_Some a.other b.other (sym a.other_is ∙ ap (slice_get others) same_at ∙ b.other_is) in
    let below : a.within.k < length a.form.nodes.items = slice_get_within a.form.nodes.items a.within.k a.within.c a.within.node_is in
    let some : 0 < length a.form.nodes.items = omega arith in
    one_within a.form a.other v w x (trees a.f a.form a.form_is some) (once_within bound_in forms a.f a.form v once a.form_is) a.within
    (subst (λ g. BoundIn g a.other v x) (sym same_form) (subst (λ h. BoundIn b.form h v x) (sym same_other) b.within))
