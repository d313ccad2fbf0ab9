-- A frame is pushed, or there is no room for it.
use Rattle.std.proofs.Common.{◌≡◌, ℕ, ◌+◌, ◌-◌, ◌*◌, ◌/◌, ◌%◌, ◌<◌, ◌≤◌, true, List, [], ◌∷◌, Some, refl, arith}
use Rattle.program_runs.specs.Runs.{Full}
use Rattle.word_ir.specs.declared.operands.Operand.{Operand}
use Rattle.word_ir.specs.declared.operands.Operand.TheVariants as operand
use Rattle.word_ir.specs.declared.words.Words.{Words}
use Rattle.word_ir.specs.Storage.{Sizes, STACK_START}
use Rattle.frame_ir.specs.Values.{Frame, Env, frame_words}
use Rattle.frame_ir.specs.States.{State}
use Rattle.word_trees.specs.Trees.{Tree}
use Rattle.word_trees.specs.Cores.{Core, stack_left}
use Rattle.word_trees.specs.Leads.{Performs}
use Rattle.word_trees.proofs.Operations.{service_of_two_ends}
use Rattle.word_trees.proofs.Performing.{ends, no_stack_performs}
use Rattle.frame_words.specs.Layouts.{Layout}
use Rattle.frame_words.specs.Contents.{Escapes}
use Rattle.select_rows.specs.Macros.{word, never}
use Rattle.frame_stacks.specs.Stacks.{Ways, words_of_frames}
use Rattle.frame_stacks.specs.Frames.{Holds}
use Rattle.frame_stacks.specs.Codes.{push_frame, no_stack}
use Rattle.frame_stacks.specs.Laws.{IsOutOfStack}

pub push_ends : (words : Words) (sizes : Sizes) (l : Layout) (e : Escapes) (g : Ways) (t : ℕ) (s : State) (env : Env) (c : Core) (f : Frame) (kept : List Operand) (rest : Tree) → Holds sizes l e g t s env c → stack_left c < 4 * frame_words f → Performs words sizes (IsOutOfStack sizes s c f) 1 4 (push_frame (g.begins f.back) (frame_words f) kept rest) c
push_ends words sizes l e g t s env c f kept rest h lacking =
    let room : stack_left c + 4 * words_of_frames s.frames s.live ≡ sizes.stack = omega (arith, h.frames.top, h.frames.room, h.frames.whole) in
    no_stack_performs words sizes (IsOutOfStack sizes s c f) lacking
    (ends words sizes (IsOutOfStack sizes s c f) 3 (no_stack (frame_words f)) c (Full true (4 * frame_words f) (stack_left c))
    (service_of_two_ends words sizes c 4 (word (4 * frame_words f)) (word 1) (4 * frame_words f) 1 (Full true (4 * frame_words f) (stack_left c)) never refl refl refl)
    (λ block place moves steps. record { left = stack_left c; room = room; lacking = lacking; block = block; place = place; moves = moves; steps = steps; there = refl }))
