-- Where the stack is as deep as the account of homes says.
use Rattle.std.proofs.Common.{◌≡◌, ℕ, zero, suc, ◌+◌, ◌≤◌, List, [], ◌∷◌, ◌++◌, Some, refl, ap, subst, ◌∙◌, arith, drop}
use Rattle.std.specs.Prelude.{All, Contains, slice_get, slice_index}
use Rattle.std.specs.Option.{option_map_or}
use Rattle.word_ir.specs.declared.placed.Placed.{Placed}
use Rattle.word_ir.specs.declared.words.WordBlock.{WordBlock}
use Rattle.word_ir.specs.declared.words.WordOp.{WordOp}
use Rattle.word_ir.specs.declared.words.WordEnd.{WordEnd}
use Rattle.word_ir.specs.Storage.{Sizes}
use Rattle.word_ir.specs.Step.{placed_in}
use Rattle.word_ir.specs.State.{keeper_of}
use Rattle.word_ir.specs.Lines.{Line, Op, Last, exits_of, binds_of, line_in, lines_from}
use Rattle.word_ir.specs.Whole.{jumps_of}
use Rattle.word_ir.specs.WholePlaced.{depth_behind, needed, LiesWithin, IsLodgedFrom, IsWholePlaced}
use Rattle.word_depths.specs.Laws.{IsDeep, StandsDeep, BlocksAreDeep}

-- of a list's second part
all_right : {X : Type 0} (P : X → Type 0) (xs ys : List X) → All P (xs ++ ys) → All P ys
all_right P [] ys h = h
all_right P (x ∷ xs) ys h = all_right P xs ys (λ i d lt. h (suc i) d (omega (arith, lt)))

pub contained : {X : Type 0} (P : X → Type 0) (xs : List X) (x : X) → All P xs → Contains xs x → P x
contained P xs x all c = subst P c.2 (all c.0 x c.1)

-- the lines from an operation on
from_op : (ops : List WordOp) (end : WordEnd) (k : ℕ) (o : WordOp) → slice_get ops k ≡ Some o → lines_from (drop k ops) end ≡ Op o ∷ lines_from (drop (k + 1) ops) end
from_op [] end k o e = absurd (cc)
from_op (p ∷ ops) end zero o e = let same : p ≡ o = cc in ap (λ (x : WordOp). Op x ∷ lines_from ops end) same
from_op (p ∷ ops) end (suc k) o e = from_op ops end k o e ∙ ap (λ (n : ℕ). Op o ∷ lines_from (drop n (p ∷ ops)) end) (let h : suc (k + 1) ≡ suc k + 1 = omega arith in h)

-- the lines from a place on begin with its line
pub from_line : (ops : List WordOp) (end : WordEnd) (k : ℕ) → (rest : List Line) × (lines_from (drop k ops) end ≡ option_map_or Op (slice_get ops k) (Last end) ∷ rest)
from_line [] end zero = ([], refl)
from_line [] end (suc k) = ([], refl)
from_line (p ∷ ops) end zero = (lines_from ops end, refl)
from_line (p ∷ ops) end (suc k) = from_line ops end k

module _ (placed : Placed) (sizes : Sizes) (whole : IsWholePlaced placed) where
  starts : (b : ℕ) (block : WordBlock) (top : ℕ) → slice_get placed.words.blocks.items b ≡ Some block → IsDeep (placed_in placed sizes) top (slice_index whole.lodgings.depths b) → StandsDeep placed sizes whole b 0 top
  starts b block top here deep = record {
    is = block;
    there = here;
    depth = slice_index whole.lodgings.depths b;
    deep = deep;
    within = all_right (λ v. LiesWithin (slice_index whole.lodgings.depths b) (keeper_of placed.at.items v)) block.params (needed whole.lodgings.live (lines_from block.ops.items block.last)) (whole.lodgings.starts b block here).1;
    behind = whole.lodgings.lines b block here;
  }

  follows : (b place top next : ℕ) (o : WordOp) (d : StandsDeep placed sizes whole b place top) → slice_get (d.is).ops.items place ≡ Some o → IsDeep (placed_in placed sizes) next (depth_behind d.depth (Op o)) → StandsDeep placed sizes whole b (place + 1) next
  follows b place top next o d here deep =
      let rest : List Line = lines_from (drop (place + 1) (d.is).ops.items) (d.is).last in
      let lodged = subst (λ (l : List Line). IsLodgedFrom whole.lodgings.live whole.lodgings.depths placed.at.items d.depth l) (from_op (d.is).ops.items (d.is).last place o here) d.behind in
      record {
        is = d.is;
        there = d.there;
        depth = depth_behind d.depth (Op o);
        deep = deep;
        within = all_right (λ v. LiesWithin (depth_behind d.depth (Op o)) (keeper_of placed.at.items v)) (binds_of (Op o)) (needed whole.lodgings.live rest) lodged.1.1;
        behind = lodged.2;
      }

  leads : (b place top c : ℕ) (line : Line) (target : WordBlock) (d : StandsDeep placed sizes whole b place top) → line_in d.is place ≡ line → Contains (exits_of line ++ jumps_of line) c → slice_get placed.words.blocks.items c ≡ Some target → StandsDeep placed sizes whole c 0 top
  leads b place top c line target d here names there =
      let f = from_line (d.is).ops.items (d.is).last place in
      let lodged = subst (λ (l : List Line). IsLodgedFrom whole.lodgings.live whole.lodgings.depths placed.at.items d.depth l) (f.1 ∙ ap (λ (l : Line). l ∷ f.0) here) d.behind in
      let le = contained (λ k. slice_index whole.lodgings.depths k ≤ d.depth) (exits_of line ++ jumps_of line) c lodged.0 names in
      starts c target top there (omega (arith, le, d.deep))

pub blocks_are_deep : BlocksAreDeep
blocks_are_deep = record { starts = starts; follows = follows; leads = leads }
