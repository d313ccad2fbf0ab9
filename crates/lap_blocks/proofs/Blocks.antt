-- Where the items of blocks stand.
use Rattle.std.proofs.Common.{◌≡◌, ℕ, zero, suc, ◌+◌, List, [], ◌∷◌, ◌++◌, length, drop, Some, slice_get, refl, ap, sym, subst, ◌∙◌, arith}
use Rattle.std.proofs.lemmas.List.{drop-drop}
use Rattle.word_ir.specs.declared.placed.Placed.{Placed}
use Rattle.word_ir.specs.declared.words.WordBlock.{WordBlock}
use Rattle.m68020_asm.specs.declared.item.Item.{Item}
use Rattle.m68020_asm.specs.declared.item.Item.TheVariants.{Label}
use Rattle.m68020_asm.proofs.Runs.{behind_label}
use Rattle.lap_items.specs.Moves.{moved_items}
use Rattle.lap_items.specs.Ends.{end_items}
use Rattle.lap_items.specs.Program.{ops_items, IsBlock, AreBlocks}
use Rattle.lap_paths.specs.Paths.{code, place_at, Sits}
use Rattle.lap_blocks.specs.Laws.{BlocksStand}

-- ---- items at a place

pub drop_head : (all : List Item) (k : ℕ) (x : Item) (rest : List Item) → drop k all ≡ x ∷ rest → (slice_get all k ≡ Some x) × (drop (k + 1) all ≡ rest)
drop_head [] zero x rest is = absurd (cc)
drop_head [] (suc k) x rest is = absurd (cc)
drop_head (y ∷ all) zero x rest is = let same : y ≡ x = cc in (ap Some same, cc)
drop_head (y ∷ all) (suc k) x rest is =
    let h = drop_head all k x rest is in
    let one : suc k + 1 ≡ suc (k + 1) = omega arith in
    (h.0, ap (λ (n : ℕ). drop n (y ∷ all)) one ∙ h.1)

sits_there : (all : List Item) (k : ℕ) (part rest : List Item) → drop k all ≡ part ++ rest → Sits all k part
sits_there all k [] rest is = tt
sits_there all k (x ∷ part) rest is = let h = drop_head all k x (part ++ rest) is in (h.0, sits_there all (k + 1) part rest h.1)

pub drop_front : (front rest : List Item) → drop (length front) (front ++ rest) ≡ rest
drop_front [] rest = refl
drop_front (x ∷ front) rest = drop_front front rest

pub drop_further : (all : List Item) (k j : ℕ) → drop (k + j) all ≡ drop j (drop k all)
drop_further all k j = sym (drop-drop j k all)

-- ---- a block's place

pub record Found (placed : Placed) (b : ℕ) (block : WordBlock) (items : List Item) : Type 0 where
  pub place : ℕ
  pub part : List Item
  pub rest : List Item
  pub is : IsBlock placed b block part
  pub there : drop place items ≡ part ++ rest

unfoldable pub found : (placed : Placed) (blocks : List WordBlock) (b j : ℕ) (block : WordBlock) (items : List Item) → AreBlocks placed b blocks items → slice_get blocks j ≡ Some block → Found placed (b + j) block items
found placed [] b j block items are here = absurd (cc)
found placed (x ∷ blocks) b zero block items are here =
    let same : x ≡ block = cc in
    let number : b ≡ b + 0 = omega arith in
    record {
      place = 0;
      part = are.0;
      rest = are.1;
      is = subst (λ (y : WordBlock). IsBlock placed (b + 0) y are.0) same (subst (λ (n : ℕ). IsBlock placed n x are.0) number are.3);
      there = are.2;
    }
found placed (x ∷ blocks) b (suc j) block items are here =
    let f = found placed blocks (b + 1) j block are.1 are.4 here in
    let number : b + 1 + j ≡ b + suc j = omega arith in
    record {
      place = length are.0 + f.place;
      part = f.part;
      rest = f.rest;
      is = subst (λ (n : ℕ). IsBlock placed n block f.part) number f.is;
      there = ap (λ (l : List Item). drop (length are.0 + f.place) l) are.2 ∙ drop_further (are.0 ++ are.1) (length are.0) f.place ∙ ap (drop f.place) (drop_front are.0 are.1) ∙ f.there;
    }

pub blocks_stand : BlocksStand
blocks_stand a placed b block u emitted here at =
    let f = found placed placed.words.blocks.items 0 b block a.items emitted.blocks here in
    let number : 0 + b ≡ b = omega arith in
    let block_is : IsBlock placed b block f.part = subst (λ (n : ℕ). IsBlock placed n block f.part) number f.is in
    let all : List Item = moved_items block_is.first ++ ops_items placed block ++ end_items placed block.last block_is.last in
    let there : drop f.place a.items ≡ Label b ∷ (all ++ f.rest) = f.there ∙ ap (λ (l : List Item). l ++ f.rest) block_is.same in
    let head = drop_head a.items f.place (Label b) (all ++ f.rest) there in
    let same : at.place ≡ f.place = a.can.once b at.place f.place at.labelled head.0 in
    record {
      first = block_is.first;
      last = block_is.last;
      enters = block_is.enters;
      leaves = block_is.leaves;
      stands = record {
        place = f.place + 1;
        pc = at.pc ∙ ap (place_at a) same ∙ sym (behind_label (code a) b f.place head.0);
        sits = sits_there a.items (f.place + 1) all f.rest head.1;
        range = at.range;
        bytes = at.bytes;
      };
    }
