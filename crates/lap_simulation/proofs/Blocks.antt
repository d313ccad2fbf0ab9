-- From the label of a block without parameters the machine is at its operations.
use Rattle.std.proofs.Common.{◌≡◌, ℕ, ◌≤◌, Bool, true, false, List, [], ◌∷◌, ◌++◌, length, map, Some, slice_get, refl, ap, subst, ◌∙◌, arith}
use Rattle.std.specs.Prelude.{if◌then◌else◌}
use Rattle.word_ir.specs.declared.placed.Home.{Home}
use Rattle.word_ir.specs.declared.placed.Placed.{Placed}
use Rattle.word_ir.specs.declared.words.WordBlock.{WordBlock}
use Rattle.parallel_moves.specs.declared.Move.{Move}
use Rattle.parallel_moves.specs.declared.OneMove.{OneMove}
use Rattle.m68020_step.specs.Step.{State}
use Rattle.lap_items.specs.Homes.{convention, home_of}
use Rattle.lap_items.specs.Moves.{moved_items}
use Rattle.lap_items.specs.Ends.{is_taken, end_items}
use Rattle.lap_items.specs.Program.{first_moves, moves_between, ops_items, IsEmitted}
use Rattle.lap_paths.specs.Paths.{Assembly, Stands, IsAt}
use Rattle.lap_blocks.proofs.Blocks.{blocks_stand}
use Rattle.lap_simulation.specs.Leads.{IsInBlock}

none_between : (xs : List Home) → moves_between xs [] ≡ []
none_between [] = refl
none_between (x ∷ xs) = refl

no_moves : (placed : Placed) (b : ℕ) (block : WordBlock) → block.params ≡ [] → first_moves placed b block ≡ []
unfolding first_moves
no_moves placed b block e = by_taken (is_taken placed.words b) (ap (λ vs. moves_between convention (map (home_of placed.at.items) vs)) e ∙ none_between convention)
  where
    by_taken : (t : Bool) {ms : List Move} → ms ≡ [] → (if t then ms else []) ≡ []
    by_taken true q = q
    by_taken false q = refl

no_steps : (done : List OneMove) → length done ≤ 0 → done ≡ []
no_steps [] le = refl
no_steps (x ∷ done) le = absurd (omega (arith, le))

pub at_start : (a : Assembly) (placed : Placed) (b : ℕ) (block : WordBlock) (u : State) → IsEmitted placed a.items → slice_get placed.words.blocks.items b ≡ Some block → block.params ≡ [] → IsAt a u b → IsInBlock a placed b u
at_start a placed b block u emitted there bare here =
    let begins = blocks_stand a placed b block u emitted there here in
    let few : length begins.first ≤ 0 = let f = begins.enters.few in let e = ap length (no_moves placed b block bare) in omega (arith, f, e) in
    record {
      block = block;
      there = there;
      last = begins.last;
      leaves = begins.leaves;
      stands = subst (λ l. Stands a u (moved_items l ++ ops_items placed block ++ end_items placed block.last begins.last)) (no_steps begins.first few) begins.stands;
    }
