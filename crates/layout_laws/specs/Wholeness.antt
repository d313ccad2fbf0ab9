-- That frames which lay out a whole program are whole, group by group, and what is owed for that beside the relation.
use Rattle.std.specs.Prelude.{◌≡◌, ◌≢◌, ℕ, ◌<◌, ◌==◌, length, Some, slice_get, All, AllPairs, Contains, count_by}
use Rattle.std.specs.List.{flat_map}
use Rattle.cps_ir.specs.declared.terms.Cps.{Cps}
use Rattle.cps_ir.specs.Whole.{IsWhole}
use Rattle.frame_ir.specs.declared.forms.Frames.{Frames}
use Rattle.frame_ir.specs.declared.forms.Block.{Block}
use Rattle.frame_ir.specs.Parts.{block_binds, arms_of, all_arms, all_targets, method_codes}
use Rattle.frame_ir.specs.Whole.{IsTemplate, HasParams, IsMethodCount, HasPlaces, HasScopes, HasShapes, HasBlocks, IsWhole as IsWholeFrames}
use Rattle.layout_relation.specs.Contexts.{Context, ArmOf}
use Rattle.frame_ir.specs.declared.forms.Place.TheVariants as At
use Rattle.frame_ir.specs.declared.forms.FrameOp.{FrameOp}
use Rattle.frame_ir.specs.declared.forms.FrameOp.TheVariants as Op
use Rattle.layout_relation.specs.Laid.{AreDistinct, IsFor, IsLaidOut}

-- The relation tells of the templates that objects name, and of these no more than that methods are found. What is owed of all of them:
-- what they name is there, operations and codes go together, and a code has the object and the operands.
pub record AreTemplates (p : Frames) : Type 0 where
  pub named : All (IsTemplate p) p.templates.items
  pub together : All (λ t. length t.ops ≡ length t.codes) p.templates.items
  pub methods : All (HasParams p IsMethodCount) (method_codes p)

-- a block of an If belongs to one end alone
abbrev pub AreOwnArms : Frames → Type 0
AreOwnArms p = All (λ k. count_by (λ b. b == k) (all_targets p) ≡ 1) (all_arms p)

-- The arms of Ifs: each belongs to one end alone and stands behind the block that ends so, and a block that is laid out as an arm is one.
pub record AreArms (cps : Cps) (p : Frames) (laid : IsLaidOut cps p) : Type 0 where
  pub once : AreOwnArms p
  pub later : (k : ℕ) (b : Block) → slice_get p.blocks.items k ≡ Some b → All (λ arm. k < arm) (arms_of b.last)
  pub each : (k : ℕ) (c : Context) (t : ℕ) → IsFor laid.sketch k (ArmOf c t) → Contains (all_arms p) k

-- no variable is bound twice
abbrev pub BindsOnce : Frames → Type 0
BindsOnce p = AllPairs (λ x y. x ≢ y) (flat_map block_binds p.blocks.items)

abbrev pub LaidOutHasPlaces : Type 0
LaidOutHasPlaces = (cps : Cps) (p : Frames) → IsWhole cps → IsLaidOut cps p → AreTemplates p → HasPlaces p

abbrev pub LaidOutHasShapes : Type 0
LaidOutHasShapes = (cps : Cps) (p : Frames) → IsWhole cps → IsLaidOut cps p → AreTemplates p → HasShapes p

abbrev pub LaidOutHasBlocks : Type 0
LaidOutHasBlocks = (cps : Cps) (p : Frames) → IsWhole cps → IsLaidOut cps p → AreTemplates p → AreOwnArms p → HasBlocks p

abbrev pub LaidOutHasScopes : Type 0
LaidOutHasScopes = (cps : Cps) (p : Frames) (laid : IsLaidOut cps p) → AreArms cps p laid → BindsOnce p → HasScopes p

-- each closure that the frames make stands on the heap
abbrev pub IsOnHeap : FrameOp → Type 0
IsOnHeap (Op.Closure to code kept at) = at ≡ At.Heap
IsOnHeap _ = Unit {0}

abbrev pub AreOnHeap : Frames → Type 0
AreOnHeap p = All (λ b. All IsOnHeap b.ops.items) p.blocks.items

abbrev pub LaidOutIsOnHeap : Type 0
LaidOutIsOnHeap = (cps : Cps) (p : Frames) → IsWhole cps → IsLaidOut cps p → AreOnHeap p

-- where no two of the arms are one block, each is a block of one end alone, since no Jump goes to one
abbrev pub DistinctArmsAreOwn : Type 0
DistinctArmsAreOwn = (cps : Cps) (p : Frames) → IsWhole cps → IsLaidOut cps p → AreDistinct (all_arms p) → AreOwnArms p

-- all of it
pub record IsOwed (cps : Cps) (p : Frames) (laid : IsLaidOut cps p) : Type 0 where
  pub templates : AreTemplates p
  pub arms : AreArms cps p laid
  pub once : BindsOnce p

abbrev pub LaidOutIsWhole : Type 0
LaidOutIsWhole = (cps : Cps) (p : Frames) → IsWhole cps → (laid : IsLaidOut cps p) → IsOwed cps p laid → IsWholeFrames p
