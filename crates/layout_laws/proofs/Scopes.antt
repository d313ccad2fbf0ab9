-- What each block sees at its start, and that what it uses is seen.
use Rattle.std.specs.Prelude.{Contains, count_by, slice_index_or}
use Rattle.std.specs.List.{AllByRecursion, flat_map}
use Rattle.std.specs.Option.{option_map_or}
use Rattle.std.proofs.Common.{◌≡◌, ℕ, zero, suc, ◌+◌, ◌<◌, ◌≤◌, ◌==◌, Bool, true, false, ◌||◌, cond, if◌then◌else◌, List, [], ◌∷◌, ◌++◌, length, Option, Some, None, slice_get, refl, sym, ap, subst, ◌∙◌, arith, ◌⊎◌, inl, inr, ⊎_elim}
use Rattle.std.proofs.lemmas.Bool.{true≢false, false≢true, eqb-true}
use Rattle.std.proofs.lemmas.Option.{slice_get_within}
use Rattle.std.proofs.lemmas.List.Elements.{All-from_recursion}
use Rattle.std.proofs.lemmas.List.Recursion.{is_count_by}
use Rattle.t_base.specs.declared.basics.Var.{Var}
use Rattle.t_prim.specs.SharedParts.{IsWholeShared}
use Rattle.cps_ir.specs.declared.args.Arg.{Arg}
use Rattle.cps_ir.specs.declared.terms.Cps.{Cps}
use Rattle.cps_ir.specs.Reaches.{is_in}
use Rattle.cps_ir.proofs.ProperLists.{some_same, none_some, each_of_all, each_more, each_append, each_joined}
use Rattle.cps_ir.proofs.Closed.{same_number}
use Rattle.cps_ir.proofs.Apart.{any_or, any_left, any_right}
use Rattle.cps_ir.proofs.Inside.{in_each}
use Rattle.frame_ir.specs.declared.forms.FrameOp.{FrameOp}
use Rattle.frame_ir.specs.declared.forms.FrameOp.TheVariants as Op
use Rattle.frame_ir.specs.declared.forms.FrameEnd.{FrameEnd}
use Rattle.frame_ir.specs.declared.forms.FrameEnd.TheVariants as Last
use Rattle.frame_ir.specs.declared.forms.Block.{Block}
use Rattle.frame_ir.specs.declared.forms.Frames.{Frames}
use Rattle.frame_ir.specs.Parts.{op_uses, end_uses, op_binds, block_binds, block_uses, arms_of, targets_of, all_arms, all_targets, names_ahead}
use Rattle.frame_ir.specs.Whole.{AreSeen, AreScoped, seen_behind, HasScopes}
use Rattle.layout_relation.specs.Links.{IsIn, first, later}
use Rattle.layout_relation.specs.Contexts.{Purpose, CodeOf, MethodOf, Begins, ArmOf, PassesOn, Resumes}
use Rattle.layout_relation.specs.Laid.{Sketch, IsFor, numbers, IsLaidOut}
use Rattle.layout_relation.proofs.Lists.{some_at, in_right, in_left, in_either, in_cases, in_none}
use Rattle.layout_relation.proofs.Arriving.{block_at}
use Rattle.layout_laws.specs.Wholeness.{AreArms, BindsOnce, LaidOutHasScopes, LaidOutIsWhole}
use Rattle.layout_laws.proofs.Shapely.{places, shapes, blocks}
use Rattle.layout_laws.proofs.Seen.{Sees, HeldIn, behind, numbers_join, ArmSees, ArmsSee, Scoped, StartsSeen, block_seen}

-- ---- the block that ends in an If with an arm

pub record Parent : Type 0 where
  pub at : ℕ
  pub block : Block

abbrev parent_from : ℕ → List Block → ℕ → Option Parent
parent_from i [] m = None
parent_from i (b ∷ bs) m = if is_in (arms_of b.last) m then Some (record { at = i; block = b }) else parent_from (suc i) bs m

record IsParent (bs : List Block) (m i : ℕ) (q : Parent) : Type 0 where
  pub place : ℕ
  pub at : q.at ≡ i + place
  pub is : slice_get bs place ≡ Some q.block
  pub arm : is_in (arms_of q.block.last) m ≡ true

parent_is : (bs : List Block) (i m : ℕ) (q : Parent) → parent_from i bs m ≡ Some q → IsParent bs m i q
parent_is [] i m q e = none_some q e
parent_is (b ∷ bs) i m q e = by_test (is_in (arms_of b.last) m) refl e (λ r. parent_is bs (suc i) m q r)
  where
    by_test : (t : Bool) → is_in (arms_of b.last) m ≡ t → (if t then Some (record { at = i; block = b }) else parent_from (suc i) bs m) ≡ Some q → (parent_from (suc i) bs m ≡ Some q → IsParent bs m (suc i) q) → IsParent (b ∷ bs) m i q
    by_test true t r go =
        subst (IsParent (b ∷ bs) m i) (some_same (record { at = i; block = b }) q r) (record { place = 0; at = omega arith; is = refl; arm = t })
    by_test false t r go = let h = go r in let a : q.at ≡ suc i + h.place = h.at in record { place = suc h.place; at = omega (arith, a); is = h.is; arm = h.arm }

in_rest : (xs ys : List ℕ) (m : ℕ) → is_in xs m ≡ false → is_in (xs ++ ys) m ≡ true → is_in ys m ≡ true
in_rest [] ys m f g = g
in_rest (x ∷ xs) ys m f g = by (x == m) f g (λ q r. in_rest xs ys m q r)
  where
    by : (t : Bool) → (t || is_in xs m) ≡ false → (t || is_in (xs ++ ys) m) ≡ true → (is_in xs m ≡ false → is_in (xs ++ ys) m ≡ true → is_in ys m ≡ true) → is_in ys m ≡ true
    by true f g go = absurd (true≢false f)
    by false f g go = go f g

-- what is an arm has one
no_parent : (bs : List Block) (i m : ℕ) → parent_from i bs m ≡ None → is_in (flat_map (λ (b : Block). arms_of b.last) bs) m ≡ true → ⊥
no_parent [] i m e h = false≢true h
no_parent (b ∷ bs) i m e h = by_test (is_in (arms_of b.last) m) refl e (λ r g. no_parent bs (suc i) m r g)
  where
    by_test : (t : Bool) → is_in (arms_of b.last) m ≡ t → (if t then Some (record { at = i; block = b }) else parent_from (suc i) bs m) ≡ None
        → (parent_from (suc i) bs m ≡ None → is_in (flat_map (λ (x : Block). arms_of x.last) bs) m ≡ true → ⊥) → ⊥
    by_test true t r go = none_some (record { at = i; block = b }) (sym r)
    by_test false t r go = go r (in_rest (arms_of b.last) (flat_map (λ (x : Block). arms_of x.last) bs) m t h)

-- ---- how often a number stands in a list

abbrev pub times : ℕ → List ℕ → ℕ
times m [] = 0
times m (x ∷ xs) = cond (x == m) (1 + times m xs) (times m xs)

pub times_count : (m : ℕ) (xs : List ℕ) → times m xs ≡ count_by (λ b. b == m) xs
times_count m = is_count_by (times m) (λ b. b == m) refl (λ x xs. refl)

pub times_join : (m : ℕ) (xs ys : List ℕ) → times m (xs ++ ys) ≡ times m xs + times m ys
times_join m [] ys = omega arith
times_join m (x ∷ xs) ys = by_test (x == m) (times_join m xs ys)
  where
    by_test : (b : Bool) → times m (xs ++ ys) ≡ times m xs + times m ys → cond b (1 + times m (xs ++ ys)) (times m (xs ++ ys)) ≡ cond b (1 + times m xs) (times m xs) + times m ys
    by_test true e = omega (arith, e)
    by_test false e = e

times_in : (m : ℕ) (xs : List ℕ) → is_in xs m ≡ true → 1 ≤ times m xs
times_in m [] h = absurd (false≢true h)
times_in m (x ∷ xs) h = by_test (x == m) h (λ g. times_in m xs g)
  where
    by_test : (b : Bool) → (b || is_in xs m) ≡ true → (is_in xs m ≡ true → 1 ≤ times m xs) → 1 ≤ cond b (1 + times m xs) (times m xs)
    by_test true g go = omega arith
    by_test false g go = go g

arm_is_target : (last : FrameEnd) (m : ℕ) → is_in (arms_of last) m ≡ true → is_in (targets_of last) m ≡ true
arm_is_target (Last.If test one other) m h = h
arm_is_target (Last.Call f args) m h = absurd (false≢true h)
arm_is_target (Last.Jump block args) m h = absurd (false≢true h)
arm_is_target (Last.Return value) m h = absurd (false≢true h)
arm_is_target (Last.Halt value) m h = absurd (false≢true h)

abbrev pub targets_in : List Block → List ℕ
targets_in bs = flat_map (λ (b : Block). targets_of b.last) bs

target_later : (bs : List Block) (k m : ℕ) (b : Block) → slice_get bs k ≡ Some b → is_in (arms_of b.last) m ≡ true → 1 ≤ times m (targets_in bs)
target_later [] k m b e h = none_some b e
target_later (c ∷ bs) zero m b e h =
    let own = times_in m (targets_of c.last) (arm_is_target c.last m (subst (λ (x : Block). is_in (arms_of x.last) m ≡ true) (sym (some_same c b e)) h)) in
    let j = times_join m (targets_of c.last) (targets_in bs) in
    omega (arith, own, j)
target_later (c ∷ bs) (suc k) m b e h = let r = target_later bs k m b e h in let j = times_join m (targets_of c.last) (targets_in bs) in omega (arith, r, j)

-- the one block that names an arm is its parent
found : (bs : List Block) (i k m : ℕ) (b : Block) → slice_get bs k ≡ Some b → is_in (arms_of b.last) m ≡ true → times m (targets_in bs) ≤ 1 → parent_from i bs m ≡ Some (record { at = i + k; block = b })
found [] i k m b e h le = none_some b e
found (c ∷ bs) i zero m b e h le =
    let same : c ≡ b = some_same c b e in
    let at : i ≡ i + 0 = omega arith in
    ap (λ t. if t then Some (record { at = i; block = c }) else parent_from (suc i) bs m) (subst (λ (x : Block). is_in (arms_of x.last) m ≡ true) (sym same) h) ∙ ap (λ x. Some (record { at = i; block = x })) same
    ∙ ap (λ n. Some (record { at = n; block = b })) at
found (c ∷ bs) i (suc k) m b e h le = by_test (is_in (arms_of c.last) m) refl (λ few. found bs (suc i) k m b e h few)
  where
    j : times m (targets_of c.last ++ targets_in bs) ≡ times m (targets_of c.last) + times m (targets_in bs)
    j = times_join m (targets_of c.last) (targets_in bs)

    by_test : (t : Bool) → is_in (arms_of c.last) m ≡ t → (times m (targets_in bs) ≤ 1 → parent_from (suc i) bs m ≡ Some (record { at = suc i + k; block = b }))
        → (if t then Some (record { at = i; block = c }) else parent_from (suc i) bs m) ≡ Some (record { at = i + suc k; block = b })
    by_test true t go =
        let one = times_in m (targets_of c.last) (arm_is_target c.last m t) in
        let two = target_later bs k m b e h in
        absurd (omega (arith, one, two, j, le))
    by_test false t go =
        let at : suc i + k ≡ i + suc k = omega arith in
        go (omega (arith, j, le)) ∙ ap (λ n. Some (record { at = n; block = b })) at

-- ---- members

contains_in : (xs : List ℕ) (x k : ℕ) → k < length xs → slice_index_or xs k x ≡ x → is_in xs x ≡ true
contains_in [] x k lt e = absurd (omega (arith, lt))
contains_in (y ∷ xs) x zero lt e = ap (λ b. b || is_in xs x) (same_number y x e)
contains_in (y ∷ xs) x (suc k) lt e = by_test (y == x) (contains_in xs x k (omega (arith, lt)) e)
  where
    by_test : (b : Bool) → is_in xs x ≡ true → (b || is_in xs x) ≡ true
    by_test true r = refl
    by_test false r = r

in_contains : (xs : List ℕ) (x : ℕ) → is_in xs x ≡ true → Contains xs x
in_contains [] x e = absurd (false≢true e)
in_contains (y ∷ xs) x e = by_test (y == x) refl e (λ r. in_contains xs x r)
  where
    by_test : (b : Bool) → (y == x) ≡ b → (b || is_in xs x) ≡ true → (is_in xs x ≡ true → Contains xs x) → Contains (y ∷ xs) x
    by_test true q r go = (0, omega arith, eqb-true y x q)
    by_test false q r go = let c : Contains xs x = go r in let lt : c.0 < length xs = c.1 in (suc c.0, omega (arith, lt), c.2)

in_flat : {X : Type 0} (f : X → List ℕ) (xs : List X) (k m : ℕ) (x : X) → slice_get xs k ≡ Some x → is_in (f x) m ≡ true → is_in (flat_map f xs) m ≡ true
in_flat f [] k m x e h = none_some x e
in_flat f (y ∷ xs) zero m x e h = any_left (λ z. z == m) (f y) (flat_map f xs) (subst (λ z. is_in (f z) m ≡ true) (sym (some_same y x e)) h)
in_flat f (y ∷ xs) (suc k) m x e h = any_right (λ z. z == m) (f y) (flat_map f xs) (in_flat f xs k m x e h)

same_var : (x y : Var) → x.0 ≡ y.0 → x ≡ y
same_var x y e = ap {A = ℕ} {B = Var} (λ n. record { 0 = n }) e

contains_of : (scope : List Var) (y : Var) → IsIn y.0 (numbers scope) → Contains scope y
contains_of [] y i = absurd (in_none y.0 i)
contains_of (x ∷ scope) y i =
    ⊎_elim (λ e. (0, omega arith, same_var x y (sym e))) (λ k. let c : Contains scope y = contains_of scope y k in let lt : c.0 < length scope = c.1 in (suc c.0, omega (arith, lt), c.2)) (in_cases y.0 x.0 (numbers scope) i)

all_seen : (scope vars : List Var) → Sees (numbers scope) (numbers vars) → AllByRecursion (Contains scope) vars
all_seen scope [] h = tt
all_seen scope (y ∷ vars) h = (contains_of scope y h.0, all_seen scope vars h.1)

are_seen : (scope vars : List Var) → Sees (numbers scope) (numbers vars) → AreSeen scope vars
are_seen scope vars h = All-from_recursion (Contains scope) vars (all_seen scope vars h)

numbers_behind : (ops : List FrameOp) (scope : List Var) → numbers (seen_behind ops scope) ≡ behind ops (numbers scope)
numbers_behind [] scope = refl
numbers_behind (op ∷ ops) scope = numbers_behind ops (op_binds op ++ scope) ∙ ap (behind ops) (numbers_join (op_binds op) scope)

-- ---- what a derivation says of a block

module _ (cps : Cps) (w : Sketch) where
  scoped_end : (ops : List FrameOp) (last : FrameEnd) (s : List ℕ) → Scoped cps w ops last s → ArmsSee cps w last (behind ops s)
  scoped_end [] last s h = h.1
  scoped_end (op ∷ ops) last s h = scoped_end ops last (numbers (op_binds op) ++ s) h.1

  arm_at : (last : FrameEnd) (s : List ℕ) (k : ℕ) → ArmsSee cps w last s → is_in (arms_of last) k ≡ true → ArmSees cps w k s
  arm_at (Last.If test one other) s k h i =
      any_or (one == k) (is_in (other ∷ []) k) (λ e. subst (λ z. ArmSees cps w z s) (eqb-true one k e) h.0)
      (λ r. any_or (other == k) false (λ e. subst (λ z. ArmSees cps w z s) (eqb-true other k e) h.1) (λ n. absurd (false≢true n)) r) i
  arm_at (Last.Call f args) s k h i = absurd (false≢true i)
  arm_at (Last.Jump block args) s k h i = absurd (false≢true i)
  arm_at (Last.Return value) s k h i = absurd (false≢true i)
  arm_at (Last.Halt value) s k h i = absurd (false≢true i)

  are_scoped : (ops : List FrameOp) (last : FrameEnd) (scope : List Var) → Scoped cps w ops last (numbers scope) → AreScoped ops last scope
  are_scoped [] last scope h = are_seen scope (end_uses last) h.0
  are_scoped (op ∷ ops) last scope h = (
    are_seen (names_ahead (op ∷ ops) ++ scope) (op_uses op) (subst (λ s. Sees s (numbers (op_uses op))) (sym (numbers_join (names_ahead (op ∷ ops)) scope)) h.0),
    are_scoped ops last (op_binds op ++ scope) (subst (Scoped cps w ops last) (sym (numbers_join (op_binds op) scope)) h.1),
  )

  ahead_bound : (ops : List FrameOp) (y : ℕ) → IsIn y (numbers (names_ahead ops)) → IsIn y (numbers (flat_map op_binds ops))
  ahead_bound [] y i = i
  ahead_bound (Op.Closure to code kept at ∷ ops) y i =
      ⊎_elim (λ e. subst (λ z. IsIn z (to.0 ∷ numbers (flat_map op_binds ops))) (sym e) (first to.0 (numbers (flat_map op_binds ops)))) (λ k. later y to.0 (numbers (flat_map op_binds ops)) (ahead_bound ops y k))
      (in_cases y to.0 (numbers (names_ahead ops)) i)
  ahead_bound (_ ∷ ops) y i = absurd (in_none y i)

  -- all that is used is bound somewhere
  uses_bound : (all : List ℕ) (ops : List FrameOp) (last : FrameEnd) (s : List ℕ) → Scoped cps w ops last s → ((y : ℕ) → IsIn y s → IsIn y all) → ((y : ℕ) → IsIn y (numbers (flat_map op_binds ops)) → IsIn y all)
      → Sees all (numbers (flat_map op_uses ops ++ end_uses last))
  uses_bound all [] last s h f g = each_more (λ y. IsIn y s) (λ y. IsIn y all) (numbers (end_uses last)) f h.0
  uses_bound all (op ∷ ops) last s h f g =
      let own : (y : ℕ) → IsIn y (numbers (op_binds op)) → IsIn y all = λ y i. g y (subst (IsIn y) (sym (numbers_join (op_binds op) (flat_map op_binds ops))) (in_left y (numbers (op_binds op)) (numbers (flat_map op_binds ops)) i)) in
      let rest : (y : ℕ) → IsIn y (numbers (flat_map op_binds ops)) → IsIn y all =
      λ y i. g y (subst (IsIn y) (sym (numbers_join (op_binds op) (flat_map op_binds ops))) (in_right y (numbers (op_binds op)) (numbers (flat_map op_binds ops)) i)) in
      let here : Sees all (numbers (op_uses op)) =
      each_more (λ y. IsIn y (numbers (names_ahead (op ∷ ops)) ++ s)) (λ y. IsIn y all) (numbers (op_uses op))
      (λ y i. ⊎_elim (λ a. g y (ahead_bound (op ∷ ops) y a)) (λ b. f y b) (in_either y (numbers (names_ahead (op ∷ ops))) s i)) h.0 in
      let more = uses_bound all ops last (numbers (op_binds op) ++ s) h.1 (λ y i. ⊎_elim (λ a. own y a) (λ b. f y b) (in_either y (numbers (op_binds op)) s i)) rest in
      subst (λ us. Sees all (numbers us)) (grouped (op_uses op) (flat_map op_uses ops) (end_uses last))
      (subst (Sees all) (sym (numbers_join (op_uses op) (flat_map op_uses ops ++ end_uses last))) (each_append (λ y. IsIn y all) (numbers (op_uses op)) (numbers (flat_map op_uses ops ++ end_uses last)) here more))
    where
      grouped : (xs ys zs : List Var) → xs ++ (ys ++ zs) ≡ (xs ++ ys) ++ zs
      grouped [] ys zs = refl
      grouped (x ∷ xs) ys zs = ap (λ us. x ∷ us) (grouped xs ys zs)

behind_from : (ops : List FrameOp) (s : List ℕ) (y : ℕ) → IsIn y (behind ops s) → IsIn y s ⊎ IsIn y (numbers (flat_map op_binds ops))
behind_from [] s y i = inl i
behind_from (op ∷ ops) s y i =
    ⊎_elim
    (λ a. ⊎_elim (λ b. inr (subst (IsIn y) (sym (numbers_join (op_binds op) (flat_map op_binds ops))) (in_left y (numbers (op_binds op)) (numbers (flat_map op_binds ops)) b))) (λ c. inl c) (in_either y (numbers (op_binds op)) s a))
    (λ r. inr (subst (IsIn y) (sym (numbers_join (op_binds op) (flat_map op_binds ops))) (in_right y (numbers (op_binds op)) (numbers (flat_map op_binds ops)) r)))
    (behind_from ops (numbers (op_binds op) ++ s) y i)

-- what a block binds is bound in the program
in_blocks : (bs : List Block) (k : ℕ) (b : Block) (y : ℕ) → slice_get bs k ≡ Some b → IsIn y (numbers (block_binds b)) → IsIn y (numbers (flat_map block_binds bs))
in_blocks [] k b y e i = none_some b e
in_blocks (c ∷ bs) zero b y e i =
    subst (IsIn y) (sym (numbers_join (block_binds c) (flat_map block_binds bs)))
    (in_left y (numbers (block_binds c)) (numbers (flat_map block_binds bs)) (subst (λ (x : Block). IsIn y (numbers (block_binds x))) (sym (some_same c b e)) i))
in_blocks (c ∷ bs) (suc k) b y e i =
    subst (IsIn y) (sym (numbers_join (block_binds c) (flat_map block_binds bs))) (in_right y (numbers (block_binds c)) (numbers (flat_map block_binds bs)) (in_blocks bs k b y e i))

-- ---- the scopes of blocks

module _ (p : Frames) where
  parent : ℕ → Option Parent
  parent k = parent_from 0 p.blocks.items k

  params_at : ℕ → List Var
  params_at k = option_map_or (λ (b : Block). b.params) (slice_get p.blocks.items k) []

  abbrev scope_within : ℕ → ℕ → List Var
  scope_within zero k = []
  scope_within (suc n) k = option_map_or (λ (q : Parent). seen_behind q.block.ops.items (scope_within n q.at)) (parent_from 0 p.blocks.items k) (option_map_or (λ (b : Block). b.params) (slice_get p.blocks.items k) [])

  abbrev scope : ℕ → List Var
  scope k = scope_within (suc k) k

module _ (cps : Cps) (p : Frames) (laid : IsLaidOut cps p) (arms : AreArms cps p laid) where
  abbrev w : Sketch
  w = laid.sketch

  abbrev bs : List Block
  bs = p.blocks.items

  abbrev parent_of : ℕ → Option Parent
  parent_of k = parent_from 0 bs k

  abbrev params_of : ℕ → List Var
  params_of k = option_map_or (λ (b : Block). b.params) (slice_get bs k) []

  record Above (k : ℕ) (q : Parent) : Type 0 where
    pub is : slice_get bs q.at ≡ Some q.block
    pub arm : is_in (arms_of q.block.last) k ≡ true
    pub lower : q.at < k

  above : (k : ℕ) (q : Parent) → parent_of k ≡ Some q → Above k q
  above k q e =
      let h = parent_is bs 0 k q e in
      let at : h.place ≡ q.at = (let a : q.at ≡ 0 + h.place = h.at in omega (arith, a)) in
      let is : slice_get bs q.at ≡ Some q.block = subst (λ n. slice_get bs n ≡ Some q.block) at h.is in
      record { is = is; arm = h.arm; lower = in_each (λ m. q.at < m) (arms_of q.block.last) k (each_of_all (λ m. q.at < m) (arms_of q.block.last) (arms.later q.at q.block is)) h.arm }

  stable : (n m k : ℕ) → k < n → k < m → scope_within p n k ≡ scope_within p m k
  stable zero m k lt l = absurd (omega (arith, lt))
  stable (suc n) zero k lt l = absurd (omega (arith, l))
  stable (suc n) (suc m) k lt l = by (parent_of k) refl (λ j low. stable n m j (omega (arith, low, lt)) (omega (arith, low, l)))
    where
      by : (o : Option Parent) → parent_of k ≡ o → ((j : ℕ) → j < k → scope_within p n j ≡ scope_within p m j)
          → option_map_or (λ (q : Parent). seen_behind q.block.ops.items (scope_within p n q.at)) o (params_of k) ≡ option_map_or (λ (q : Parent). seen_behind q.block.ops.items (scope_within p m q.at)) o (params_of k)
      by None e go = refl
      by (Some q) e go = ap (seen_behind q.block.ops.items) (go q.at (above k q e).lower)

  -- the scope of an arm is what is seen at the end of its parent
  arm_scope : (k : ℕ) (q : Parent) → parent_of k ≡ Some q → scope p k ≡ seen_behind q.block.ops.items (scope p q.at)
  arm_scope k q e =
      let low = (above k q e).lower in
      ap (λ o. option_map_or (λ (r : Parent). seen_behind r.block.ops.items (scope_within p k r.at)) o (params_of k)) e ∙ ap (seen_behind q.block.ops.items) (stable k (suc q.at) q.at low (omega arith))

  own_scope : (k : ℕ) (b : Block) → slice_get bs k ≡ Some b → parent_of k ≡ None → scope p k ≡ b.params
  own_scope k b is e =
      ap (λ o. option_map_or (λ (r : Parent). seen_behind r.block.ops.items (scope_within p k r.at)) o (params_of k)) e ∙ ap (λ o. option_map_or (λ (x : Block). x.params) o []) is

  is_arm : (k : ℕ) (q : Parent) → parent_of k ≡ Some q → Contains (all_arms p) k
  is_arm k q e = let a = above k q e in in_contains (all_arms p) k (in_flat (λ (b : Block). arms_of b.last) bs q.at k q.block a.is a.arm)

  pub own : (k : ℕ) (b : Block) → slice_get bs k ≡ Some b → (Contains (all_arms p) k → ⊥) → scope p k ≡ b.params
  own k b is h = by (parent_of k) refl
    where
      by : (o : Option Parent) → parent_of k ≡ o → scope p k ≡ b.params
      by None e = own_scope k b is e
      by (Some q) e = absurd (h (is_arm k q e))

  one_arm : (k m : ℕ) (b : Block) → slice_get bs k ≡ Some b → is_in (arms_of b.last) m ≡ true → scope p m ≡ seen_behind b.ops.items (scope p k)
  one_arm k m b is i =
      let there : is_in (all_arms p) m ≡ true = in_flat (λ (x : Block). arms_of x.last) bs k m b is i in
      let once : count_by (λ x. x == m) (all_targets p) ≡ 1 = in_each (λ a. count_by (λ x. x == a) (all_targets p) ≡ 1) (all_arms p) m (each_of_all (λ a. count_by (λ x. x == a) (all_targets p) ≡ 1) (all_arms p) arms.once) there in
      let count : times m (targets_in bs) ≡ count_by (λ x. x == m) (all_targets p) = times_count m (targets_in bs) in
      let at : 0 + k ≡ k = omega arith in
      arm_scope m (record { at = k; block = b }) (found bs 0 k m b is i (omega (arith, once, count)) ∙ ap (λ n. Some (record { at = n; block = b })) at)

  pub both_arms : (k : ℕ) (b : Block) (test : Arg) (one other : ℕ) → slice_get bs k ≡ Some b → b.last ≡ Last.If test one other → (scope p one ≡ seen_behind b.ops.items (scope p k)) × (scope p other ≡ seen_behind b.ops.items (scope p k))
  both_arms k b test one other is e = (
    one_arm k one b is (subst (λ l. is_in (arms_of l) one ≡ true) (sym e) (ap (λ t. t || is_in (other ∷ []) one) (same_number one one refl))),
    one_arm k other b is (subst (λ l. is_in (arms_of l) other ≡ true) (sym e) (second (one == other) (same_number other other refl))),
  )
    where
      second : (t : Bool) {u : Bool} → u ≡ true → (t || (u || false)) ≡ true
      second true h = refl
      second false h = ap (λ u. u || false) h

  -- ---- what is used is seen

  starts : (k : ℕ) (purpose : Purpose) (b : Block) → IsFor w k purpose → parent_of k ≡ None → scope p k ≡ b.params → StartsSeen cps w purpose b (numbers (scope p k))
  starts k (CodeOf l) b for none e = ap numbers e
  starts k (MethodOf l kept) b for none e = ap numbers e
  starts k (Begins start) b for none e = ap numbers e
  starts k (ArmOf c t) b for none e =
      let a = arms.each k c t for in absurd (no_parent bs 0 k none (contains_in (all_arms p) k a.0 a.1 a.2))
  starts k PassesOn b for none e = ap numbers e
  starts k (Resumes r) b for none e = ap numbers e

  same_block : (x y : Block) → Some x ≡ Some y → x ≡ y
  same_block x y h = some_same x y h

  scoped : (n k : ℕ) → k < n → (b : Block) → slice_get bs k ≡ Some b → Scoped cps w b.ops.items b.last (numbers (scope p k))
  scoped zero k lt b is = absurd (omega (arith, lt))
  scoped (suc n) k lt b is = by (parent_of k) refl (λ q a. scoped n q.at (let low = a.lower in omega (arith, low, lt)) q.block a.is)
    where
      by : (o : Option Parent) → parent_of k ≡ o → ((q : Parent) (a : Above k q) → Scoped cps w q.block.ops.items q.block.last (numbers (scope p q.at))) → Scoped cps w b.ops.items b.last (numbers (scope p k))
      by None e go =
          let there : k < length w.purposes = (let c = laid.count in let l = slice_get_within bs k b is in omega (arith, c, l)) in
          let purpose = some_at w.purposes k there in
          let blk = block_at cps p laid k purpose.0 purpose.1 in
          let same : blk.block ≡ b = same_block blk.block b (sym blk.is ∙ is) in
          subst (λ (x : Block). Scoped cps w x.ops.items x.last (numbers (scope p k))) same
          (block_seen cps w purpose.0 blk.block (numbers (scope p k)) blk.fits (starts k purpose.0 blk.block purpose.1 e (own_scope k blk.block blk.is e)))
      by (Some q) e go =
          let a = above k q e in
          let sees = arm_at cps w q.block.last (behind q.block.ops.items (numbers (scope p q.at))) k (scoped_end cps w q.block.ops.items q.block.last (numbers (scope p q.at)) (go q a)) a.arm in
          let blk = block_at cps p laid k (ArmOf sees.context sees.term) sees.is in
          let same : blk.block ≡ b = same_block blk.block b (sym blk.is ∙ is) in
          let here : numbers (scope p k) ≡ behind q.block.ops.items (numbers (scope p q.at)) = ap numbers (arm_scope k q e) ∙ numbers_behind q.block.ops.items (scope p q.at) in
          subst (λ (x : Block). Scoped cps w x.ops.items x.last (numbers (scope p k))) same
          (block_seen cps w (ArmOf sees.context sees.term) blk.block (numbers (scope p k)) blk.fits (subst (HeldIn sees.context.vars) (sym here) sees.held))

  pub used : (k : ℕ) (b : Block) → slice_get bs k ≡ Some b → AreScoped b.ops.items b.last (scope p k)
  used k b is = are_scoped cps w b.ops.items b.last (scope p k) (scoped (suc k) k (omega arith) b is)

  -- ---- what is used is bound somewhere

  abbrev all_bound : List ℕ
  all_bound = numbers (flat_map block_binds bs)

  params_bound : (k : ℕ) (o : Option Block) → slice_get bs k ≡ o → (y : ℕ) → IsIn y (numbers (option_map_or (λ (b : Block). b.params) o [])) → IsIn y all_bound
  params_bound k None e y i = absurd (in_none y i)
  params_bound k (Some b) e y i = in_blocks bs k b y e (subst (IsIn y) (sym (numbers_join b.params (flat_map op_binds b.ops.items))) (in_left y (numbers b.params) (numbers (flat_map op_binds b.ops.items)) i))

  ops_bound : (k : ℕ) (b : Block) → slice_get bs k ≡ Some b → (y : ℕ) → IsIn y (numbers (flat_map op_binds b.ops.items)) → IsIn y all_bound
  ops_bound k b e y i = in_blocks bs k b y e (subst (IsIn y) (sym (numbers_join b.params (flat_map op_binds b.ops.items))) (in_right y (numbers b.params) (numbers (flat_map op_binds b.ops.items)) i))

  scope_bound : (n k : ℕ) → k < n → (y : ℕ) → IsIn y (numbers (scope p k)) → IsIn y all_bound
  scope_bound zero k lt y i = absurd (omega (arith, lt))
  scope_bound (suc n) k lt y i = by (parent_of k) refl (λ q a. scope_bound n q.at (let low = a.lower in omega (arith, low, lt)) y)
    where
      by : (o : Option Parent) → parent_of k ≡ o → ((q : Parent) (a : Above k q) → IsIn y (numbers (scope p q.at)) → IsIn y all_bound) → IsIn y all_bound
      by None e go =
          params_bound k (slice_get bs k) refl y
          (subst (λ vs. IsIn y (numbers vs)) (ap (λ o. option_map_or (λ (r : Parent). seen_behind r.block.ops.items (scope_within p k r.at)) o (params_of k)) e) i)
      by (Some q) e go =
          let a = above k q e in
          let here : numbers (scope p k) ≡ behind q.block.ops.items (numbers (scope p q.at)) = ap numbers (arm_scope k q e) ∙ numbers_behind q.block.ops.items (scope p q.at) in
          ⊎_elim (λ l. go q a l) (λ r. ops_bound q.at q.block a.is y r) (behind_from q.block.ops.items (numbers (scope p q.at)) y (subst (IsIn y) here i))

  block_bound : (k : ℕ) (b : Block) → slice_get bs k ≡ Some b → AllByRecursion (Contains (flat_map block_binds bs)) (block_uses b)
  block_bound k b is =
      all_seen (flat_map block_binds bs) (block_uses b)
      (uses_bound cps w all_bound b.ops.items b.last (numbers (scope p k)) (scoped (suc k) k (omega arith) b is) (λ y i. scope_bound (suc k) k (omega arith) y i) (λ y i. ops_bound k b is y i))

  each_block : (P : Block → Type 0) (xs : List Block) → ((k : ℕ) (b : Block) → slice_get xs k ≡ Some b → P b) → AllByRecursion P xs
  each_block P [] f = tt
  each_block P (x ∷ xs) f = (f 0 x refl, each_block P xs (λ k b e. f (suc k) b e))

  pub scopes : BindsOnce p → HasScopes p
  scopes once = record {
    scope = scope p;
    bound_once = once;
    bound = All-from_recursion (Contains (flat_map block_binds bs)) (flat_map block_uses bs)
        (each_joined block_uses (Contains (flat_map block_binds bs)) bs (each_block (λ b. AllByRecursion (Contains (flat_map block_binds bs)) (block_uses b)) bs block_bound));
    own = own;
    arms = both_arms;
    used = used;
  }

pub has_scopes : LaidOutHasScopes
has_scopes cps p laid arms once = scopes cps p laid arms once

pub is_whole : LaidOutIsWhole
is_whole cps p whole laid owed = record {
  places = places cps p whole laid owed.templates;
  scopes = scopes cps p laid owed.arms owed.once;
  shapes = shapes cps p whole laid owed.templates;
  blocks = blocks cps p whole laid owed.templates owed.arms.once;
  shared = subst IsWholeShared (sym laid.shared) whole.formed.shared;
}
