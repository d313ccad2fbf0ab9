-- Numbers that rise are different ones; the places of arms.
use Rattle.std.specs.Prelude.{◌≢◌, AllPairs}
use Rattle.std.specs.List.{AllByRecursion, flat_map}
use Rattle.std.proofs.Common.{◌≡◌, ℕ, zero, suc, ◌+◌, ◌≤◌, false, ◌||◌, List, [], ◌∷◌, ◌++◌, slice_get, Some, refl, ap, subst, ◌∙◌, arith}
use Rattle.std.proofs.lemmas.List.{map-append}
use Rattle.std.proofs.lemmas.List.Elements.{All-from_recursion}
use Rattle.std.proofs.lemmas.List.Kept.{AllPairs-cons}
use Rattle.t_base.specs.declared.basics.Var.{Var}
use Rattle.cps_ir.specs.Reaches.{is_in}
use Rattle.cps_ir.proofs.ProperLists.{each_more}
use Rattle.frame_ir.specs.declared.forms.FrameOp.{FrameOp}
use Rattle.frame_ir.specs.declared.forms.Block.{Block}
use Rattle.frame_ir.specs.Parts.{op_binds, block_binds, arms_of}
use Rattle.layout_relation.specs.Links.{IsIn, first, later}
use Rattle.layout_relation.specs.Contexts.{Context, ArmOf}
use Rattle.layout_relation.specs.Laid.{numbers, AreDistinct}
use Rattle.layout_tables.specs.declared.tables.Tables.{Tables}
use Rattle.layout_tables.specs.declared.requests.Request.{Request}
use Rattle.layout_tables.specs.declared.requests.Request.TheVariants as For
use Rattle.layout_tables.specs.Sketches.{purposes_of}
use Rattle.layout_tables.specs.Additions.{Rises, bound_by, arms_from}
use Rattle.layout_steps.proofs.Preparing.{more_differs}
use Rattle.closure_layout.specs.Blocks.{binds_of, bound_in, arms_in}

-- ---- numbers that rise

rises_above : (n : ℕ) (xs : List ℕ) (to : ℕ) → Rises n xs to → AllByRecursion (λ x. n ≤ x) xs
rises_above n [] to h = tt
rises_above n (x ∷ xs) to h = (h.0, each_more (λ y. suc x ≤ y) (λ y. n ≤ y) xs (λ y le. let a = h.0 in omega (arith, le, a)) (rises_above (suc x) xs to h.1))

above_lack : (x : ℕ) (ys : List ℕ) → AllByRecursion (λ y. suc x ≤ y) ys → is_in ys x ≡ false
above_lack x [] h = refl
above_lack x (y ∷ ys) h = ap (λ b. b || is_in ys x) (more_differs x y (let a = h.0 in omega (arith, a))) ∙ above_lack x ys h.1

apart : (x : Var) (ys : List Var) → AllByRecursion (λ n. suc x.0 ≤ n) (numbers ys) → AllByRecursion (λ y. x ≢ y) ys
apart x [] h = tt
apart x (y ∷ ys) h = ((λ e. let a = h.0 in let b = ap (λ (v : Var). v.0) e in absurd (omega (arith, a, b))), apart x ys h.1)

pub rising_apart : (n : ℕ) (xs : List Var) (to : ℕ) → Rises n (numbers xs) to → AllPairs (λ x y. x ≢ y) xs
rising_apart n [] to h = λ i j d less within. absurd (omega (arith, within))
rising_apart n (x ∷ xs) to h = AllPairs-cons (λ x y. x ≢ y) x xs (All-from_recursion (λ y. x ≢ y) xs (apart x xs (rises_above (suc x.0) (numbers xs) to h.1))) (rising_apart (suc x.0) xs to h.1)

-- ---- what blocks bind

bound_ops : (ops : List FrameOp) → numbers (flat_map op_binds ops) ≡ bound_by ops
bound_ops [] = refl
bound_ops (op ∷ ops) = map-append (λ x. x.0) (op_binds op) (flat_map op_binds ops) ∙ ap (λ zs. numbers (op_binds op) ++ zs) (bound_ops ops)

pub bound_blocks : (bs : List Block) → numbers (flat_map block_binds bs) ≡ bound_in bs
bound_blocks [] = refl
bound_blocks (b ∷ bs) = map-append (λ x. x.0) (block_binds b) (flat_map block_binds bs)
    ∙ ap (λ zs. zs ++ numbers (flat_map block_binds bs)) (map-append (λ x. x.0) b.params (flat_map op_binds b.ops.items) ∙ ap (λ zs. numbers b.params ++ zs) (bound_ops b.ops.items))
    ∙ ap (λ zs. binds_of b ++ zs) (bound_blocks bs)

pub arms_blocks : (bs : List Block) → flat_map (λ (b : Block). arms_of b.last) bs ≡ arms_in bs
arms_blocks [] = refl
arms_blocks (b ∷ bs) = ap (λ zs. arms_of b.last ++ zs) (arms_blocks bs)

-- ---- places of arms

more_above : (n : ℕ) (xs : List ℕ) → AllByRecursion (λ a. suc n ≤ a) xs → AllByRecursion (λ a. n ≤ a) xs
more_above n xs h = each_more (λ a. suc n ≤ a) (λ a. n ≤ a) xs (λ a le. omega (arith, le)) h

pub arms_above : (n : ℕ) (rs : List Request) → AllByRecursion (λ a. n ≤ a) (arms_from n rs)
arms_above n [] = tt
arms_above n (For.CodeOf l ∷ rs) = more_above n (arms_from (suc n) rs) (arms_above (suc n) rs)
arms_above n (For.MethodOf l kept ∷ rs) = more_above n (arms_from (suc n) rs) (arms_above (suc n) rs)
arms_above n (For.Begins vars site term ∷ rs) = more_above n (arms_from (suc n) rs) (arms_above (suc n) rs)
arms_above n (For.ArmOf vars site term ∷ rs) = (omega arith, more_above n (arms_from (suc n) rs) (arms_above (suc n) rs))
arms_above n (For.PassesOn ∷ rs) = more_above n (arms_from (suc n) rs) (arms_above (suc n) rs)
arms_above n (For.Resumes param body site join ∷ rs) = more_above n (arms_from (suc n) rs) (arms_above (suc n) rs)

pub arms_distinct : (n : ℕ) (rs : List Request) → AreDistinct (arms_from n rs)
arms_distinct n [] = tt
arms_distinct n (For.CodeOf l ∷ rs) = arms_distinct (suc n) rs
arms_distinct n (For.MethodOf l kept ∷ rs) = arms_distinct (suc n) rs
arms_distinct n (For.Begins vars site term ∷ rs) = arms_distinct (suc n) rs
arms_distinct n (For.ArmOf vars site term ∷ rs) = (above_lack n (arms_from (suc n) rs) (arms_above (suc n) rs), arms_distinct (suc n) rs)
arms_distinct n (For.PassesOn ∷ rs) = arms_distinct (suc n) rs
arms_distinct n (For.Resumes param body site join ∷ rs) = arms_distinct (suc n) rs

module _ (w : Tables) (c : Context) (t : ℕ) where
  next_place : (n k : ℕ) (xs : List ℕ) → IsIn (suc n + k) xs → IsIn (n + suc k) xs
  next_place n k xs i = subst (λ m. IsIn m xs) (omega arith) i

  -- a block that is an arm is among the arms
  pub arm_listed : (n k : ℕ) (rs : List Request) → slice_get (purposes_of w rs) k ≡ Some (ArmOf c t) → IsIn (n + k) (arms_from n rs)
  arm_listed n k [] e = cc
  arm_listed n zero (For.CodeOf l ∷ rs) e = cc
  arm_listed n zero (For.MethodOf l kept ∷ rs) e = cc
  arm_listed n zero (For.Begins vars site term ∷ rs) e = cc
  arm_listed n zero (For.ArmOf vars site term ∷ rs) e = subst (λ m. IsIn m (n ∷ arms_from (suc n) rs)) (omega arith) (first n (arms_from (suc n) rs))
  arm_listed n zero (For.PassesOn ∷ rs) e = cc
  arm_listed n zero (For.Resumes param body site join ∷ rs) e = cc
  arm_listed n (suc k) (For.CodeOf l ∷ rs) e = next_place n k (arms_from (suc n) rs) (arm_listed (suc n) k rs e)
  arm_listed n (suc k) (For.MethodOf l kept ∷ rs) e = next_place n k (arms_from (suc n) rs) (arm_listed (suc n) k rs e)
  arm_listed n (suc k) (For.Begins vars site term ∷ rs) e = next_place n k (arms_from (suc n) rs) (arm_listed (suc n) k rs e)
  arm_listed n (suc k) (For.ArmOf vars site term ∷ rs) e = later (n + suc k) n (arms_from (suc n) rs) (next_place n k (arms_from (suc n) rs) (arm_listed (suc n) k rs e))
  arm_listed n (suc k) (For.PassesOn ∷ rs) e = next_place n k (arms_from (suc n) rs) (arm_listed (suc n) k rs e)
  arm_listed n (suc k) (For.Resumes param body site join ∷ rs) e = next_place n k (arms_from (suc n) rs) (arm_listed (suc n) k rs e)
