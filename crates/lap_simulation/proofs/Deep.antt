-- From line to line the stack is as deep as the account of homes says.
use Rattle.std.specs.Prelude.{Contains}
use Rattle.std.specs.List.{list_any}
use Rattle.std.proofs.Common.{◌≡◌, ℕ, zero, suc, ◌+◌, ◌==◌, nat_lt, Bool, true, false, ◌||◌, inl, inr, ◌⊎◌, List, [], ◌∷◌, ◌++◌, length, Some, slice_get, refl, sym, ap, subst, ◌∙◌, arith}
use Rattle.std.proofs.lemmas.Bool.{and_parts, eqb-true}
use Rattle.word_ir.specs.declared.placed.Placed.{Placed}
use Rattle.word_ir.specs.declared.words.WordBlock.{WordBlock}
use Rattle.word_ir.specs.declared.words.WordOp.{WordOp}
use Rattle.word_ir.specs.Lines.{Line, Op, line_at, line_in, exits_of}
use Rattle.word_ir.specs.Word.{Code}
use Rattle.word_ir.specs.State.{State as WordState}
use Rattle.word_ir.specs.Step.{placed_in}
use Rattle.word_ir.specs.Ranges.{IsInPlace}
use Rattle.word_ir.specs.Whole.{jumps_of, taken_blocks}
use Rattle.word_ir.specs.WholePlaced.{depth_behind}
use Rattle.m68020_step.specs.Step.{State}
use Rattle.lap_items.specs.Ends.{is_taken}
use Rattle.lap_runs.specs.Represents.{Represents}
use Rattle.lap_paths.specs.Paths.{Assembly}
use Rattle.lap_paths.specs.Housed.{IsHoused}
use Rattle.lap_lines.proofs.Moves.{operand_known}
use Rattle.lap_whole.specs.Laws.{IsUsableLine}
use Rattle.lap_whole.proofs.Lines.{lines_usable}
use Rattle.word_depths.specs.Laws.{IsDeep, HasCode, StandsDeep}
use Rattle.word_depths.proofs.Standing.{blocks_are_deep}
use Rattle.word_depths.proofs.Starts.{starts_are_deep}
use Rattle.lap_simulation.specs.Laws.{IsBuilt, sizes_of}

left_in : (xs ys : List ℕ) (x : ℕ) → Contains xs x → Contains (xs ++ ys) x
left_in [] ys x c = absurd (omega (arith, c.1))
left_in (y ∷ xs) ys x (zero, lt, is) = (0, omega arith, is)
left_in (y ∷ xs) ys x (suc i, lt, is) = let r = left_in xs ys x (i, omega (arith, lt), is) in (suc r.0, omega (arith, r.1), r.2)

right_in : (xs ys : List ℕ) (x : ℕ) → Contains ys x → Contains (xs ++ ys) x
right_in [] ys x c = c
right_in (y ∷ xs) ys x c = let r = right_in xs ys x c in (suc r.0, omega (arith, r.1), r.2)

any_in : (b : ℕ) (xs : List ℕ) → list_any (λ c. c == b) xs ≡ true → Contains xs b
any_in b [] e = absurd (cc)
any_in b (x ∷ xs) e = by (x == b) refl e (λ r. any_in b xs r)
  where
    by : (c : Bool) → (x == b) ≡ c → (c || list_any (λ y. y == b) xs) ≡ true → (list_any (λ y. y == b) xs ≡ true → Contains xs b) → Contains (x ∷ xs) b
    by true q r go = (0, omega arith, eqb-true x b q)
    by false q r go = let l = go r in (suc l.0, omega (arith, l.1), l.2)

module _ (a : Assembly) (placed : Placed) (heap stack : ℕ) (built : IsBuilt a placed heap stack) (s : WordState) (block : WordBlock) (there : slice_get placed.words.blocks.items s.block ≡ Some block)
    (d : StandsDeep placed (sizes_of heap stack) built.whole s.block s.place s.top) where
  pub same_block : d.is ≡ block
  same_block = let both : Some d.is ≡ Some block = sym d.there ∙ there in cc

  -- behind an operation
  pub next_deep : (o : WordOp) → slice_get block.ops.items s.place ≡ Some o → (next : ℕ) → IsDeep (placed_in placed (sizes_of heap stack)) next (depth_behind d.depth (Op o)) → StandsDeep placed (sizes_of heap stack) built.whole s.block (s.place + 1) next
  next_deep o here next deep =
      blocks_are_deep.follows placed (sizes_of heap stack) built.whole s.block s.place s.top next o d (ap (λ (b : WordBlock). slice_get b.ops.items s.place) same_block ∙ here) deep

  -- where a line turns or jumps
  pub exit_deep : (line : Line) → line_in block s.place ≡ line → (c : ℕ) (target : WordBlock) → Contains (exits_of line) c ⊎ Contains (jumps_of line) c → slice_get placed.words.blocks.items c ≡ Some target
      → StandsDeep placed (sizes_of heap stack) built.whole c 0 s.top
  exit_deep line here c target (inl names) at = blocks_are_deep.leads placed (sizes_of heap stack) built.whole s.block s.place s.top c line target d (ap (λ (b : WordBlock). line_in b s.place) same_block ∙ here) (left_in (exits_of line) (jumps_of line) c names) at
  exit_deep line here c target (inr names) at = blocks_are_deep.leads placed (sizes_of heap stack) built.whole s.block s.place s.top c line target d (ap (λ (b : WordBlock). line_in b s.place) same_block ∙ here) (right_in (exits_of line) (jumps_of line) c names) at

  -- where an end enters a block: one to which it jumps, or one whose code is taken
  pub entered_deep : (housed : IsHoused (placed_in placed (sizes_of heap stack))) (place : IsInPlace (placed_in placed (sizes_of heap stack)) s) (t : State) → Represents (placed_in placed (sizes_of heap stack)) a.labels s t → (line : Line)
      → line_in block s.place ≡ line → line_at placed.words s.block s.place ≡ Some line → (c : ℕ) (target : WordBlock) → slice_get placed.words.blocks.items c ≡ Some target → Contains (jumps_of line) c ⊎ HasCode (placed_in placed (sizes_of heap stack)) s line c
      → StandsDeep placed (sizes_of heap stack) built.whole c 0 s.top
  unfolding is_taken
  entered_deep housed place t is line here at c target there (inl names) = exit_deep line here c target (inr names) there
  entered_deep housed place t is line here at c target there (inr code) =
      let usable = subst (IsUsableLine (placed_in placed (sizes_of heap stack))) code.is (lines_usable placed (sizes_of heap stack) s.block s.place line built.whole at) in
      let known : is_taken placed.words c ≡ true = operand_known a (placed_in placed (sizes_of heap stack)) s housed place t code.code (Code c) is usable.operands.0 code.leads in
      let any = (and_parts (nat_lt c (length placed.words.blocks.items)) (list_any (λ b. b == c) (taken_blocks placed.words)) known).1 in
      starts_are_deep.taken placed (sizes_of heap stack) built.whole c s.top target (any_in c (taken_blocks placed.words) any) there place.top_to
