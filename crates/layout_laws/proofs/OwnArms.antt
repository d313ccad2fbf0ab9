-- Arms belong to one end each; closures stand on the heap.
use Rattle.std.specs.Prelude.{count_by}
use Rattle.std.specs.List.{AllByRecursion, flat_map}
use Rattle.std.proofs.Common.{◌≡◌, ℕ, ◌+◌, ◌==◌, cond, Bool, true, false, ◌||◌, List, [], ◌∷◌, Some, refl, sym, ap, subst, ◌∙◌, All}
use Rattle.std.proofs.lemmas.Bool.{true≢false, false≢true, eqb-true}
use Rattle.std.proofs.lemmas.List.Elements.{All-from_recursion}
use Rattle.cps_ir.specs.declared.terms.Cps.{Cps}
use Rattle.cps_ir.specs.Reaches.{is_in}
use Rattle.cps_ir.specs.Whole.{IsWhole}
use Rattle.cps_ir.proofs.ProperLists.{each_more, each_joined}
use Rattle.frame_ir.specs.declared.forms.FrameOp.{FrameOp}
use Rattle.frame_ir.specs.declared.forms.FrameOp.TheVariants as Op
use Rattle.frame_ir.specs.declared.forms.FrameEnd.{FrameEnd}
use Rattle.frame_ir.specs.declared.forms.FrameEnd.TheVariants as Last
use Rattle.frame_ir.specs.declared.forms.Block.{Block}
use Rattle.frame_ir.specs.declared.forms.Frames.{Frames}
use Rattle.frame_ir.specs.Parts.{arms_of, targets_of, all_arms, all_targets}
use Rattle.layout_relation.specs.Contexts.{Context, Start, Begins, ArmOf}
use Rattle.layout_relation.specs.Laid.{Sketch, IsFor, AreDistinct, IsLaidOut}
use Rattle.layout_relation.proofs.Scopes.{eqb_same}
use Rattle.layout_laws.specs.Wholeness.{IsOnHeap, LaidOutIsOnHeap, DistinctArmsAreOwn}
use Rattle.layout_laws.proofs.Shapely.{GoodOp, GoodEnd, GoodRest, IsArmFor, each_good}
use Rattle.layout_laws.proofs.Scopes.{times, times_count, times_join, targets_in}

-- ---- lists of different numbers

times_lack : (xs : List ℕ) (k : ℕ) → is_in xs k ≡ false → times k xs ≡ 0
times_lack [] k h = refl
times_lack (x ∷ xs) k h = by (x == k) h (times_lack xs k)
  where
    by : (b : Bool) → (b || is_in xs k) ≡ false → (is_in xs k ≡ false → times k xs ≡ 0) → cond b (1 + times k xs) (times k xs) ≡ 0
    by true h go = absurd (true≢false h)
    by false h go = go h

times_one : (xs : List ℕ) (k : ℕ) → AreDistinct xs → is_in xs k ≡ true → times k xs ≡ 1
times_one [] k d h = absurd (false≢true h)
times_one (x ∷ xs) k d h = by (x == k) refl h (times_one xs k d.1)
  where
    by : (b : Bool) → (x == k) ≡ b → (b || is_in xs k) ≡ true → (is_in xs k ≡ true → times k xs ≡ 1) → cond b (1 + times k xs) (times k xs) ≡ 1
    by true e h go = ap (λ n. 1 + n) (times_lack xs k (subst (λ m. is_in xs m ≡ false) (eqb-true x k e) d.0))
    by false e h go = go h

members : (xs zs : List ℕ) → ((k : ℕ) → is_in xs k ≡ true → is_in zs k ≡ true) → AllByRecursion (λ k. is_in zs k ≡ true) xs
members [] zs f = tt
members (x ∷ xs) zs f = (f x (ap (λ b. b || is_in xs x) (eqb_same x)), members xs zs (λ k h. f k (right (x == k) h)))
  where
    right : (b : Bool) {c : Bool} → c ≡ true → (b || c) ≡ true
    right true h = refl
    right false h = h

module _ (cps : Cps) (p : Frames) (whole : IsWhole cps) (laid : IsLaidOut cps p) where
  abbrev w : Sketch
  w = laid.sketch

  no_both : {X : Type 0} (s : Start) (c : Context) (t k : ℕ) → IsFor w k (Begins s) → IsFor w k (ArmOf c t) → X
  no_both s c t k f g = absurd (never (sym f ∙ g))
    where
      never : Some (Begins s) ≡ Some (ArmOf c t) → ⊥
      never h = cc

  -- no Jump goes to an arm
  same_times : (last : FrameEnd) → GoodEnd p w last → (k : ℕ) → IsArmFor w k → times k (targets_of last) ≡ times k (arms_of last)
  same_times (Last.If test first second) g k a = refl
  same_times (Last.Call f args) g k a = refl
  same_times (Last.Return value) g k a = refl
  same_times (Last.Halt value) g k a = refl
  same_times (Last.Jump block args) g k a = by (block == k) refl
    where
      by : (b : Bool) → (block == k) ≡ b → cond b (1 + 0) 0 ≡ 0
      by true e = no_both g.2.0 a.0 a.1 k (subst (λ m. IsFor w m (Begins g.2.0)) (eqb-true block k e) g.2.1) a.2
      by false e = refl

  all_times : (bs : List Block) → AllByRecursion (λ b. GoodRest p w b.ops.items b.last) bs → (k : ℕ) → IsArmFor w k → times k (targets_in bs) ≡ times k (flat_map (λ (b : Block). arms_of b.last) bs)
  all_times [] h k a = refl
  all_times (b ∷ bs) h k a = times_join k (targets_of b.last) (targets_in bs)
      ∙ ap (λ n. n + times k (targets_in bs)) (same_times b.last h.0.last k a) ∙ ap (λ n. times k (arms_of b.last) + n) (all_times bs h.1 k a)
      ∙ sym (times_join k (arms_of b.last) (flat_map (λ (c : Block). arms_of c.last) bs))

  end_arms_for : (last : FrameEnd) → GoodEnd p w last → AllByRecursion (IsArmFor w) (arms_of last)
  end_arms_for (Last.If test first second) g = (g.2.0, (g.2.1, tt))
  end_arms_for (Last.Call f args) g = tt
  end_arms_for (Last.Jump block args) g = tt
  end_arms_for (Last.Return value) g = tt
  end_arms_for (Last.Halt value) g = tt

  both_hold : (xs : List ℕ) (P Q R : ℕ → Type 0) → ((k : ℕ) → P k → Q k → R k) → AllByRecursion P xs → AllByRecursion Q xs → AllByRecursion R xs
  both_hold [] P Q R f g h = tt
  both_hold (x ∷ xs) P Q R f g h = (f x g.0 h.0, both_hold xs P Q R f g.1 h.1)

  abbrev IsOnce : ℕ → Type 0
  IsOnce k = count_by (λ b. b == k) (all_targets p) ≡ 1

  pub arms_own : AreDistinct (all_arms p) → All IsOnce (all_arms p)
  arms_own distinct = All-from_recursion IsOnce (all_arms p)
      (both_hold (all_arms p) (IsArmFor w) (λ k. is_in (all_arms p) k ≡ true) IsOnce
      (λ k a i. sym (times_count k (all_targets p)) ∙ all_times p.blocks.items (each_good cps p whole laid) k a ∙ times_one (all_arms p) k distinct i)
      (each_joined (λ (b : Block). arms_of b.last) (IsArmFor w) p.blocks.items
      (each_more (λ (b : Block). GoodRest p w b.ops.items b.last) (λ (b : Block). AllByRecursion (IsArmFor w) (arms_of b.last)) p.blocks.items (λ b g. end_arms_for b.last g.last) (each_good cps p whole laid)))
      (members (all_arms p) (all_arms p) (λ k h. h)))

  op_on_heap : (op : FrameOp) → GoodOp p op → IsOnHeap op
  op_on_heap (Op.Closure to code kept at) g = g.0
  op_on_heap (Op.Prim to b args) g = tt
  op_on_heap (Op.ClosureGet to from slot) g = tt
  op_on_heap (Op.FrameGet to slot) g = tt
  op_on_heap (Op.Cell to value) g = tt
  op_on_heap (Op.CellGet to cell) g = tt
  op_on_heap (Op.CellSet cell value) g = tt
  op_on_heap (Op.GlobalGet to global) g = tt
  op_on_heap (Op.GlobalPut global value first) g = tt
  op_on_heap (Op.Push kept back) g = tt
  op_on_heap Op.Pop g = tt
  op_on_heap (Op.CatchOpen to back) g = tt
  op_on_heap Op.CatchClose g = tt
  op_on_heap (Op.Object to template proc kept) g = tt

  pub all_on_heap : All (λ b. All IsOnHeap b.ops.items) p.blocks.items
  all_on_heap = All-from_recursion (λ (b : Block). All IsOnHeap b.ops.items) p.blocks.items
      (each_more (λ (b : Block). GoodRest p w b.ops.items b.last) (λ (b : Block). All IsOnHeap b.ops.items) p.blocks.items
      (λ b g. All-from_recursion IsOnHeap b.ops.items (each_more (GoodOp p) IsOnHeap b.ops.items op_on_heap g.ops)) (each_good cps p whole laid))

pub on_heap : LaidOutIsOnHeap
on_heap cps p whole laid = all_on_heap cps p whole laid

pub own_arms : DistinctArmsAreOwn
own_arms cps p whole laid distinct = arms_own cps p whole laid distinct
