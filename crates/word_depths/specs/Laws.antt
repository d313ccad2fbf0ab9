-- The words that are in the stack for certain.
use Rattle.std.specs.Prelude.{true, ◌≡◌, ℕ, ◌+◌, ◌*◌, ◌≤◌, ◌⊎◌, List, ◌++◌, Some, Contains, drop, slice_get, slice_index}
use Rattle.word_ir.specs.declared.operands.Operand.{Operand}
use Rattle.word_ir.specs.declared.words.WordEnd.TheVariants as last
use Rattle.t_base.specs.declared.basics.Var.{Var}
use Rattle.word_ir.specs.declared.placed.Home.TheVariants as home
use Rattle.word_ir.specs.Word.{Code}
use Rattle.word_ir.specs.declared.placed.Placed.{Placed}
use Rattle.word_ir.specs.declared.words.WordBlock.{WordBlock}
use Rattle.word_ir.specs.declared.words.WordOp.{WordOp}
use Rattle.word_ir.specs.Storage.{Sizes}
use Rattle.word_ir.specs.Step.{placed_in}
use Rattle.word_ir.specs.Lines.{Line, Op, Last, exits_of, line_in, lines_from, uses_of}
use Rattle.word_ir.specs.Whole.{jumps_of, taken_blocks}
use Rattle.word_ir.specs.WholePlaced.{depth_behind, needed, LieWithin, IsLodgedFrom, IsWholePlaced}
use Rattle.word_ir.specs.State.{Setting, State, stack_end, At, keeper_of, has_room}
use Rattle.word_ir.specs.Effects.{Effect, Binds, Stores, Takes, SetsTop, Puts, Turns, Enters, Ends, word_of, line_effect}
use Rattle.word_ir.specs.Ranges.{IsInPlace}

-- so many words are in the stack above an address
abbrev pub IsDeep : Setting → ℕ → ℕ → Type 0
IsDeep m top depth = top + 4 * depth ≤ stack_end m

-- the line is an Enter with the code of this block
pub record HasCode (m : Setting) (s : State) (line : Line) (block : ℕ) : Type 0 where
  pub code : Operand
  pub args : List Operand
  pub is : line ≡ Last (last.Enter code args)
  pub leads : word_of m s code ≡ Some (Code block)

-- What an effect of a line leaves of the stack, and where it leads.
abbrev pub KeepsDepth : Setting → State → ℕ → Line → Effect → Type 0
KeepsDepth m s depth line (SetsTop top) = IsDeep m top (depth_behind depth line)
KeepsDepth m s depth line (Binds to x) = IsDeep m s.top (depth_behind depth line)
KeepsDepth m s depth line (Stores at x) = IsDeep m s.top (depth_behind depth line)
KeepsDepth m s depth line (Takes to bytes) = IsDeep m s.top (depth_behind depth line)
KeepsDepth m s depth line (Puts bytes) = IsDeep m s.top (depth_behind depth line)
KeepsDepth m s depth line (Turns block) = Contains (exits_of line) block
KeepsDepth m s depth line (Enters block env) = Contains (jumps_of line) block ⊎ HasCode m s line block
KeepsDepth m s depth line (Ends e) = Unit {0}

abbrev pub LinesKeepDepth : Type 0
LinesKeepDepth = (m : Setting) (s : State) (depth : ℕ) (line : Line) → IsInPlace m s → IsDeep m s.top depth → KeepsDepth m s depth line (line_effect m s line)

-- ---- at a place of a block

-- The words that the account has for the lines from a place of a block on are in the stack above an address, and the homes in the stack of the
-- variables that live there are among them.
pub record StandsDeep (placed : Placed) (sizes : Sizes) (whole : IsWholePlaced placed) (block place top : ℕ) : Type 0 where
  pub is : WordBlock
  pub there : slice_get placed.words.blocks.items block ≡ Some is
  pub depth : ℕ
  pub deep : IsDeep (placed_in placed sizes) top depth
  pub within : LieWithin depth placed.at.items (needed whole.lodgings.live (lines_from (drop place is.ops.items) is.last))
  pub behind : IsLodgedFrom whole.lodgings.live whole.lodgings.depths placed.at.items depth (lines_from (drop place is.ops.items) is.last)

-- So it is at the start of a block for which the stack is deep enough, and behind each operation that leaves it as deep as the account says.
pub record BlocksAreDeep : Type 0 where
  pub starts : (placed : Placed) (sizes : Sizes) (whole : IsWholePlaced placed) (b : ℕ) (block : WordBlock) (top : ℕ) → slice_get placed.words.blocks.items b ≡ Some block → IsDeep (placed_in placed sizes) top (slice_index whole.lodgings.depths b)
      → StandsDeep placed sizes whole b 0 top
  pub follows : (placed : Placed) (sizes : Sizes) (whole : IsWholePlaced placed) (b place top next : ℕ) (o : WordOp) (d : StandsDeep placed sizes whole b place top) → slice_get (d.is).ops.items place ≡ Some o
      → IsDeep (placed_in placed sizes) next (depth_behind d.depth (Op o)) → StandsDeep placed sizes whole b (place + 1) next
  pub leads : (placed : Placed) (sizes : Sizes) (whole : IsWholePlaced placed) (b place top c : ℕ) (line : Line) (target : WordBlock) (d : StandsDeep placed sizes whole b place top) → line_in d.is place ≡ line
      → Contains (exits_of line ++ jumps_of line) c → slice_get placed.words.blocks.items c ≡ Some target → StandsDeep placed sizes whole c 0 top

-- So a home in the stack that a line uses is inside of the stack.
abbrev pub UsedHomesHaveRoom : Type 0
UsedHomesHaveRoom =
    (placed : Placed) (sizes : Sizes) (whole : IsWholePlaced placed) (s : State) (d : StandsDeep placed sizes whole s.block s.place s.top) (v : Var) (n : ℕ) → IsInPlace (placed_in placed sizes) s → Contains (uses_of (line_in d.is s.place)) v
    → keeper_of placed.at.items v ≡ At (home.Stack n) → has_room s (At (home.Stack n)) ≡ true

-- At the start, and where a block whose code is taken is entered, no word is counted on.
pub record StartsAreDeep : Type 0 where
  pub entry : (placed : Placed) (sizes : Sizes) (whole : IsWholePlaced placed) → StandsDeep placed sizes whole placed.words.entry 0 (stack_end (placed_in placed sizes))
  pub taken : (placed : Placed) (sizes : Sizes) (whole : IsWholePlaced placed) (b top : ℕ) (block : WordBlock) → Contains (taken_blocks placed.words) b → slice_get placed.words.blocks.items b ≡ Some block → top ≤ stack_end (placed_in placed sizes)
      → StandsDeep placed sizes whole b 0 top
