-- The items of a whole program can be assembled.
use Rattle.std.proofs.Common.{◌≡◌, ℕ, zero, suc, ◌+◌, ◌<◌, ◌≤◌, ◌^◌, nat_lt, Bool, true, false, List, [], ◌∷◌, ◌++◌, length, get_or, slice_get, Some, refl, ap, sym, subst, ◌∙◌, arith}
use Rattle.std.specs.Prelude.{All}
use Rattle.std.specs.List.{AllByRecursion, flat_map}
use Rattle.std.proofs.lemmas.Bool.{ltb-true, ltb-false}
use Rattle.word_ir.specs.declared.placed.Home.{Home}
use Rattle.word_ir.specs.declared.placed.Home.TheVariants as home
use Rattle.word_ir.specs.declared.placed.Placed.{Placed}
use Rattle.word_ir.specs.declared.words.WordBlock.{WordBlock}
use Rattle.word_ir.specs.declared.words.WordEnd.{WordEnd}
use Rattle.word_ir.specs.declared.words.WordOp.{WordOp}
use Rattle.word_ir.specs.declared.words.Words.{Words}
use Rattle.word_ir.specs.Lines.{Line, Op, Last, lines_from, lines_of, operands_of, exits_of}
use Rattle.word_ir.specs.Whole.{IsWhole, IsOperand, IsLineThere, IsShaped, is_sized, is_op_shaped, jumps_of, open_blocks, jumped_blocks}
use Rattle.word_ir.specs.WholePlaced.{IsHome, IsWholePlaced}
use Rattle.m68020_code.specs.declared.instr.Width.TheVariants.{Long}
use Rattle.m68020_asm.specs.declared.item.Item.{Item}
use Rattle.m68020_asm.specs.declared.item.Item.TheVariants.{Plain, Label, Branch, CodeAddr}
use Rattle.m68020_asm.specs.Items.{IsItem, address, code_start, label_count, CanAssemble}
use Rattle.lap_items.specs.Homes.{home_of}
use Rattle.lap_items.specs.Operations.{op_items}
use Rattle.lap_items.specs.Moves.{moved_items}
use Rattle.lap_items.specs.Ends.{end_items}
use Rattle.lap_items.specs.Program.{ops_items, AreBlocks, IsEmitted}
use Rattle.lap_shapes.proofs.Rows.{IsCode, AreCode, code_append, HasRegister, HaveRegisters}
use Rattle.lap_shapes.proofs.OpRows.{op_code}
use Rattle.lap_shapes.proofs.EndRows.{moved_code, end_code}
use Rattle.lap_shapes.proofs.Chunks.{chunks, once, each, counted}

-- ---- lists

from_all : {X : Type 0} (P : X → Type 0) (xs : List X) → All P xs → AllByRecursion P xs
from_all P [] all = tt
from_all P (x ∷ xs) all = (all 0 x (omega arith), from_all P xs (λ k d lt. all (suc k) d (omega arith)))

parts_of : {X : Type 0} (P : X → Type 0) (xs ys : List X) → AllByRecursion P (xs ++ ys) → AllByRecursion P xs × AllByRecursion P ys
parts_of P [] ys all = (tt, all)
parts_of P (x ∷ xs) ys all = let rest = parts_of P xs ys all.1 in ((all.0, rest.0), rest.1)

split : {X Y : Type 0} (P : Y → Type 0) (f : X → List Y) (xs : List X) → AllByRecursion P (flat_map f xs) → AllByRecursion (λ x. AllByRecursion P (f x)) xs
split P f [] all = tt
split P f (x ∷ xs) all = let both = parts_of P (f x) (flat_map f xs) all in (both.0, split P f xs both.1)

together : {X : Type 0} (P Q R : X → Type 0) → ((x : X) → P x → Q x → R x) → (xs : List X) → AllByRecursion P xs → AllByRecursion Q xs → AllByRecursion R xs
together P Q R join [] p q = tt
together P Q R join (x ∷ xs) p q = (join x p.0 q.0, together P Q R join xs p.1 q.1)

at_place : {X : Type 0} (P : X → Type 0) (xs : List X) (k : ℕ) (x : X) → AllByRecursion P xs → slice_get xs k ≡ Some x → P x
at_place P [] k x all at = absurd (cc)
at_place P (y ∷ xs) zero x all at = let same : y ≡ x = cc in subst P same all.0
at_place P (y ∷ xs) (suc k) x all at = at_place P xs k x all.1 at

-- ---- lines

IsShapedLine : Line → Type 0
IsShapedLine (Op o) = is_op_shaped o ≡ true
IsShapedLine (Last end) = Unit {0}

record IsFit (words : Words) (line : Line) : Type 0 where
  operands : AllByRecursion (IsOperand words) (operands_of line)
  sized : is_sized line ≡ true
  shaped : IsShapedLine line
  exits : AllByRecursion (λ b. b < length words.blocks.items) (exits_of line)
  jumps : AllByRecursion (λ b. b < length words.blocks.items) (jumps_of line)

AreFit : Words → WordBlock → Type 0
AreFit words block = AllByRecursion (IsFit words) (lines_of block)

shaped_line : (words : Words) (line : Line) → IsShaped words line → IsShapedLine line
unfolding IsShapedLine
shaped_line words (Op o) is = is
shaped_line words (Last end) is = tt

-- what a line names, and its form
Names : Words → Line → Type 0
Names words line = AllByRecursion (λ b. b < length words.blocks.items) (exits_of line) × AllByRecursion (λ b. b < length words.blocks.items) (jumps_of line)

Forms : Words → Line → Type 0
Forms words line = IsLineThere words line × IsShaped words line

all_unit : {X : Type 0} (xs : List X) → AllByRecursion (λ (x : X). Unit {0}) xs
all_unit [] = tt
all_unit (x ∷ xs) = (tt, all_unit xs)

-- what the lines of a program name
named : (words : Words) (f : Line → List ℕ) → AllByRecursion (λ b. b < length words.blocks.items) (flat_map (λ block. flat_map f (lines_of block)) words.blocks.items)
    → AllByRecursion (λ block. AllByRecursion (λ line. AllByRecursion (λ b. b < length words.blocks.items) (f line)) (lines_of block)) words.blocks.items
named words f all =
    let below : ℕ → Type 0 = λ b. b < length words.blocks.items in
    let blocks : List WordBlock = words.blocks.items in
    together (λ block. AllByRecursion below (flat_map f (lines_of block))) (λ b. Unit {0}) (λ block. AllByRecursion (λ line. AllByRecursion below (f line)) (lines_of block))
    (λ block p t. split below f (lines_of block) p) blocks (split below (λ block. flat_map f (lines_of block)) blocks all) (all_unit blocks)

all_fit : (words : Words) → IsWhole words → AllByRecursion (AreFit words) words.blocks.items
unfolding AreFit Names Forms
all_fit words whole =
    let blocks : List WordBlock = words.blocks.items in
    let there : AllByRecursion (λ block. AllByRecursion (IsLineThere words) (lines_of block)) blocks = together _ (λ b. Unit {0}) _ (λ block all t. from_all (IsLineThere words) (lines_of block) all) blocks (from_all _ blocks whole.places.lines) (all_unit blocks) in
    let shaped : AllByRecursion (λ block. AllByRecursion (IsShaped words) (lines_of block)) blocks = together _ (λ b. Unit {0}) _ (λ block all t. from_all (IsShaped words) (lines_of block) all) blocks (from_all _ blocks whole.shapes.lines) (all_unit blocks) in
    let opened : AllByRecursion (λ block. AllByRecursion (λ line. AllByRecursion (λ b. b < length words.blocks.items) (exits_of line)) (lines_of block)) blocks = named words exits_of (from_all _ (open_blocks words) whole.places.opened) in
    let jumped : AllByRecursion (λ block. AllByRecursion (λ line. AllByRecursion (λ b. b < length words.blocks.items) (jumps_of line)) (lines_of block)) blocks = named words jumps_of (from_all _ (jumped_blocks words) whole.places.jumped) in
    together _ _ (AreFit words) (λ block p q. together (Forms words) (Names words) (IsFit words) (λ line forms names. record {
      operands = forms.0.0;
      sized = forms.0.1;
      shaped = shaped_line words line forms.1;
      exits = names.0;
      jumps = names.1;
    }) (lines_of block) p q) blocks
    (together _ _ (λ block. AllByRecursion (Forms words) (lines_of block)) (λ block p q. together (IsLineThere words) (IsShaped words) (Forms words) (λ line a b. (a, b)) (lines_of block) p q) blocks there shaped)
    (together _ _ (λ block. AllByRecursion (Names words) (lines_of block)) (λ block p q. together _ _ (Names words) (λ line a b. (a, b)) (lines_of block) p q) blocks opened jumped)

-- ---- blocks

ops_code : (words : Words) (homes : List Home) (ops : List WordOp) (end : WordEnd) → HaveRegisters homes → AllByRecursion (IsFit words) (lines_from ops end) → AreCode (length words.blocks.items) (flat_map (op_items homes) ops)
unfolding IsShapedLine
ops_code words homes [] end have fit = tt
ops_code words homes (o ∷ ops) end have fit =
    code_append (length words.blocks.items) (op_items homes o) (flat_map (op_items homes) ops) (op_code words homes o have fit.0.operands fit.0.sized fit.0.shaped fit.0.exits) (ops_code words homes ops end have fit.1)

last_fit : (words : Words) (ops : List WordOp) (end : WordEnd) → AllByRecursion (IsFit words) (lines_from ops end) → IsFit words (Last end)
last_fit words [] end fit = fit.0
last_fit words (o ∷ ops) end fit = last_fit words ops end fit.1

-- the items as parts behind labels
record HasParts (placed : Placed) (b : ℕ) (count : ℕ) (items : List Item) : Type 0 where
  parts : List (List Item)
  same : items ≡ chunks b parts
  as_many : length parts ≡ count
  code : AllByRecursion (AreCode (length placed.words.blocks.items)) parts

has_parts : (placed : Placed) (b : ℕ) (blocks : List WordBlock) (items : List Item) → HaveRegisters placed.at.items → AllByRecursion (AreFit placed.words) blocks → AreBlocks placed b blocks items → HasParts placed b (length blocks) items
unfolding AreFit
has_parts placed b [] items have fit are = record { parts = []; same = are; as_many = refl; code = tt }
has_parts placed b (block ∷ blocks) items have fit (front, rest, same, is, others) =
    let later = has_parts placed (b + 1) blocks rest have fit.1 others in
    let n : ℕ = length placed.words.blocks.items in
    let first : List Item = moved_items is.first in
    let ops : List Item = ops_items placed block in
    let end : List Item = end_items placed block.last is.last in
    let last : IsFit placed.words (Last block.last) = last_fit placed.words block.ops.items block.last fit.0 in
    let code : AreCode n (first ++ ops ++ end) =
    code_append n (first ++ ops) end (code_append n first ops (moved_code n is.first) (ops_code placed.words placed.at.items block.ops.items block.last have fit.0))
    (end_code placed block.last is.last have last.operands last.sized last.exits last.jumps) in
    record {
      parts = (first ++ ops ++ end) ∷ later.parts;
      same = same ∙ ap (λ t. t ++ rest) is.same ∙ ap (λ t. Label b ∷ (first ++ ops ++ end) ++ t) later.same;
      as_many = ap suc later.as_many;
      code = (code, later.code);
    }

-- ---- the whole

IsAny : ℕ → Item → Type 0
IsAny blocks (Plain i) = IsCode blocks (Plain i)
IsAny blocks (Label n) = Unit {0}
IsAny blocks (Branch cond n) = n < blocks
IsAny blocks (CodeAddr reg n) = (reg < 8) × (n < blocks)

any_code : (b : ℕ) (c : List Item) (rest : List Item) → AreCode b c → AllByRecursion (IsAny b) rest → AllByRecursion (IsAny b) (c ++ rest)
unfolding IsAny
any_code b [] rest are others = others
any_code b (Plain i ∷ c) rest are others = (are.0, any_code b c rest are.1 others)
any_code b (Branch cond n ∷ c) rest are others = (are.0, any_code b c rest are.1 others)
any_code b (CodeAddr reg n ∷ c) rest are others = (are.0, any_code b c rest are.1 others)
any_code b (Label n ∷ c) rest are others = absurd are.0

any_chunks : (blocks b : ℕ) (parts : List (List Item)) → AllByRecursion (AreCode blocks) parts → AllByRecursion (IsAny blocks) (chunks b parts)
unfolding IsAny
any_chunks blocks b [] are = tt
any_chunks blocks b (c ∷ parts) are = (tt, any_code blocks c (chunks (b + 1) parts) are.0 (any_chunks blocks (b + 1) parts are.1))

item_of : (blocks : ℕ) (i : Item) → IsAny blocks i → IsItem i
unfolding IsAny
item_of blocks (Plain i) is = is
item_of blocks (Label n) is = tt
item_of blocks (Branch cond n) is = tt
item_of blocks (CodeAddr reg n) is = is.0

register_of_home : (words : Words) (h : Home) → IsHome words h → HasRegister h
register_of_home words (home.D i) is = omega arith
register_of_home words (home.A i) is = omega arith
register_of_home words (home.Stack n) is = tt
register_of_home words (home.Static place) is = tt

past : (xs : List Home) (n : ℕ) (d : Home) → length xs ≤ n → get_or xs n d ≡ d
past [] n d out = refl
past (x ∷ xs) zero d out = absurd (omega arith)
past (x ∷ xs) (suc n) d out = past xs n d (omega arith)

pub registers_of_whole : (placed : Placed) → IsWholePlaced placed → HaveRegisters placed.at.items
registers_of_whole placed whole v = by (nat_lt v.0 (length placed.at.items)) refl where
  by : (b : Bool) → nat_lt v.0 (length placed.at.items) ≡ b → HasRegister (home_of placed.at.items v)
  by true e = register_of_home placed.words (home_of placed.at.items v) (whole.homes v.0 (home.D 0) (ltb-true v.0 (length placed.at.items) e))
  by false e = subst HasRegister (sym (past placed.at.items v.0 (home.D 0) (ltb-false v.0 (length placed.at.items) e))) (let has : 0 < 8 = omega arith in has)

assembled : (placed : Placed) (items : List Item) → IsWholePlaced placed → HasParts placed 0 (length placed.words.blocks.items) items → address items (λ _. Long) (length items) ≤ code_start + 2 ^ 28 → CanAssemble items
unfolding IsAny
assembled placed items whole has short =
    let n : ℕ = length placed.words.blocks.items in
    let entry : placed.words.entry < n = whole.words.places.entry in
    let many : label_count items ≡ n = ap label_count has.same ∙ (counted n 0 has.parts has.code).1 (omega (arith, has.as_many, entry)) ∙ omega (arith, has.as_many) in
    let any : AllByRecursion (IsAny n) items = subst (λ xs. AllByRecursion (IsAny n) xs) (sym has.same) (any_chunks n 0 has.parts has.code) in
    record {
      once = λ m k j p q. once n 0 has.parts m k j has.code (subst (λ xs. slice_get xs k ≡ Some (Label m)) has.same p) (subst (λ xs. slice_get xs j ≡ Some (Label m)) has.same q);
      each = λ m lt. let found = each 0 has.parts m (omega arith) (omega (arith, many, lt, has.as_many)) in (found.0, subst (λ xs. slice_get xs found.0 ≡ Some (Label m)) (sym has.same) found.1);
      branches = λ k m cond at. let is : m < n = at_place (IsAny n) items k (Branch cond m) any at in omega (arith, is, many);
      addresses = λ k m reg at. let is : (reg < 8) × (m < n) = at_place (IsAny n) items k (CodeAddr reg m) any at in omega (arith, is.1, many);
      rows = λ k i at. item_of n i (at_place (IsAny n) items k i any at);
      short = short;
    }

pub can_be_assembled : (placed : Placed) (items : List Item) → IsWholePlaced placed → IsEmitted placed items → address items (λ _. Long) (length items) ≤ code_start + 2 ^ 28 → CanAssemble items
can_be_assembled placed items whole is short =
    assembled placed items whole (has_parts placed 0 placed.words.blocks.items items (registers_of_whole placed whole) (all_fit placed.words whole.words) is.blocks) short
