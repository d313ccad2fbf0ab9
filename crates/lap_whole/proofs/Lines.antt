-- Lines of whole programs.
use Rattle.std.proofs.Common.{◌≡◌, ℕ, zero, suc, ◌<◌, ◌==◌, List, [], ◌∷◌, length, slice_get, Option, Some, None, refl, subst}
use Rattle.std.specs.Prelude.{option_map, IsTrue, All, Contains}
use Rattle.std.specs.List.{flat_map}
use Rattle.std.specs.Option.{option_map_or}
use Rattle.std.proofs.lemmas.Bool.{eq-eqb, lt-ltb}
use Rattle.std.proofs.lemmas.Map.Keys.{any_passes_from_place}
use Rattle.t_base.specs.declared.basics.Var.{Var}
use Rattle.word_ir.specs.declared.operands.Operand.{Operand}
use Rattle.word_ir.specs.declared.operands.Operand.TheVariants as operand
use Rattle.word_ir.specs.declared.placed.Placed.{Placed}
use Rattle.word_ir.specs.declared.words.WordOp.{WordOp}
use Rattle.word_ir.specs.declared.words.WordEnd.{WordEnd}
use Rattle.word_ir.specs.declared.words.WordBlock.{WordBlock}
use Rattle.word_ir.specs.Lines.{Line, Op, Last, line_in, line_at, lines_from, lines_of, operands_of, operand_var, uses_of, binds_of, operand_code, codes_of}
use Rattle.word_ir.specs.Storage.{Sizes}
use Rattle.word_ir.specs.State.{Setting}
use Rattle.word_ir.specs.Step.{placed_in}
use Rattle.word_ir.specs.Whole.{IsOperand, IsLineThere, IsShaped, each_line, static_code, taken_blocks, binders_in, binders}
use Rattle.word_ir.specs.WholePlaced.{IsWholePlaced}
use Rattle.lap_items.specs.Ends.{is_taken}
use Rattle.lap_paths.specs.Housed.{HasHome, IsUsable}
use Rattle.lap_whole.specs.Laws.{IsUsableLine, LinesUsable, OperationsOperable}
use Rattle.lap_whole.proofs.Listed.{Listed, get_at, listed_right, listed_flat, each_listed, each_contained, of_all, all_of}

-- the line at a place is one of the block's lines
in_lines : (ops : List WordOp) (end : WordEnd) (place : ℕ) → Listed (lines_from ops end) (option_map_or Op (slice_get ops place) (Last end))
in_lines [] end place = record { at = 0; is = refl }
in_lines (o ∷ ops) end zero = record { at = 0; is = refl }
in_lines (o ∷ ops) end (suc place) = let l = in_lines ops end place in record { at = suc l.at; is = l.is }

-- the block of a line
record InBlock (placed : Placed) (line : Line) : Type 0 where
  block : WordBlock
  there : Listed placed.words.blocks.items block
  among : Listed (lines_of block) line

in_block : (placed : Placed) (block place : ℕ) (line : Line) → line_at placed.words block place ≡ Some line → InBlock placed line
in_block placed block place line is = by (slice_get placed.words.blocks.items block) refl is
  where
    by : (o : Option WordBlock) → slice_get placed.words.blocks.items block ≡ o → option_map (λ b. line_in b place) o ≡ Some line → InBlock placed line
    by None e h = absurd (cc)
    by (Some b) e h =
        let same : line_in b place ≡ line = cc in
        record { block = b; there = record { at = block; is = e }; among = subst (λ l. Listed (lines_of b) l) same (in_lines b.ops.items b.last place) }

module _ (placed : Placed) (sizes : Sizes) (line : Line) (whole : IsWholePlaced placed) (b : InBlock placed line) where
  abbrev m : Setting
  m = placed_in placed sizes

  -- what each line has, all lines have
  in_all : {X : Type 0} (f : Line → List X) (x : X) → Listed (f line) x → Listed (each_line f placed.words) x
  in_all f x l = listed_flat (λ block. flat_map f (lines_of block)) placed.words.blocks.items b.block x b.there (listed_flat f (lines_of b.block) line x b.among l)

  there : IsLineThere placed.words line
  there = each_listed (IsLineThere placed.words) (lines_of b.block) line (each_listed (λ x. All (IsLineThere placed.words) (lines_of x)) placed.words.blocks.items b.block whole.words.places.lines b.there) b.among

  housed : (v : Var) → v.0 < length placed.at.items → HasHome m v
  housed v lt = get_at placed.at.items v.0 lt

  used : (v : Var) → Listed (uses_of line) v → HasHome m v
  used v l =
      let bound : Contains (binders placed.words) v = each_listed (Contains (binders placed.words)) (each_line uses_of placed.words) v whole.words.scopes.bound (in_all uses_of v l) in
      housed v (each_contained (λ w. w.0 < length placed.at.items) (binders placed.words) v whole.each bound)

  bound_here : (v : Var) → Listed (binds_of line) v → HasHome m v
  bound_here v l =
      let inside : Listed (binders_in b.block) v = listed_right b.block.params (flat_map binds_of (lines_of b.block)) v (listed_flat binds_of (lines_of b.block) line v b.among l) in
      housed v (each_listed (λ w. w.0 < length placed.at.items) (binders placed.words) v whole.each (listed_flat binders_in placed.words.blocks.items b.block v b.there inside))

  taken : (block : ℕ) → block < length placed.words.blocks.items → Listed (codes_of line) block → IsTrue (is_taken placed.words block)
  unfolding is_taken
  taken block lt l =
      let all = listed_right (flat_map static_code placed.words.statics.items) (each_line codes_of placed.words) block (in_all codes_of block l) in
      rw (lt-ltb block (length placed.words.blocks.items) lt) (any_passes_from_place (λ c. c == block) (taken_blocks placed.words) all.at block all.is (eq-eqb block block refl))

  usable : (x : Operand) → IsOperand placed.words x → Listed (operands_of line) x → IsUsable m x
  usable (operand.Var v) known l = used v (listed_flat operand_var (operands_of line) (operand.Var v) v l (record { at = 0; is = refl }))
  usable (operand.Word n) known l = known
  usable (operand.Static place) known l = tt
  usable (operand.Code block) known l = taken block known (listed_flat operand_code (operands_of line) (operand.Code block) block l (record { at = 0; is = refl }))
  usable (operand.Slot bytes) known l = known

  usable_line : IsUsableLine m line
  usable_line = record {
    operands = all_of (IsUsable m) (operands_of line) (λ x l. usable x (of_all (IsOperand placed.words) (operands_of line) x there.0 l) l);
    binds = all_of (HasHome m) (binds_of line) bound_here;
    sized = there.1;
    shaped = each_listed (IsShaped placed.words) (lines_of b.block) line (each_listed (λ x. All (IsShaped placed.words) (lines_of x)) placed.words.blocks.items b.block whole.words.shapes.lines b.there) b.among;
  }

pub lines_usable : LinesUsable
lines_usable placed sizes block place line whole is = usable_line placed sizes line whole (in_block placed block place line is)

pub operations_operable : OperationsOperable
operations_operable placed sizes block place o whole is =
    let l = lines_usable placed sizes block place (Op o) whole is in record { operands = l.operands; binds = l.binds; sized = l.sized }
