-- A run ends by a value.
use Rattle.std.proofs.Common.{◌≡◌, ℕ, ◌<◌, [], ◌∷◌, length, Some, refl, ap, ◌∙◌}
use Rattle.program_runs.specs.Runs.{End}
use Rattle.program_runs.specs.Runs as runs
use Rattle.t_prim.specs.Values.{Val, shown_of}
use Rattle.word_ir.specs.declared.operands.Operand.{Operand}
use Rattle.word_ir.specs.declared.words.Words.{Words}
use Rattle.word_ir.specs.Effects.{service_effect}
use Rattle.word_ir.specs.Effects as effects
use Rattle.word_ir.specs.Names.{image_names}
use Rattle.word_ir.specs.Storage.{Sizes, long_at}
use Rattle.word_ir.specs.Step.{words_in}
use Rattle.frame_ir.specs.Values.{Lasting, Env}
use Rattle.frame_ir.specs.States.{State}
use Rattle.word_trees.specs.Cores.{Core, at}
use Rattle.word_trees.specs.Leads.{Performs}
use Rattle.word_trees.proofs.Operations.{service_ends}
use Rattle.word_trees.proofs.Performing.{ends}
use Rattle.frame_words.specs.Layouts.{Layout}
use Rattle.frame_words.specs.Contents.{Escapes}
use Rattle.select_rows.specs.Macros.{never}
use Rattle.frame_stacks.specs.Stacks.{Ways, IsLasting}
use Rattle.frame_stacks.specs.Frames.{Holds}
use Rattle.frame_stacks.specs.Laws.{HasValue}
use Rattle.frame_ends.specs.Laws.{halt, AreListed, EndsWith}
use Rattle.frame_ends.proofs.Faces.{HasFace, face_is}

pub halt_performs : (words : Words) (sizes : Sizes) (l : Layout) (e : Escapes) (g : Ways) (t : ℕ) (s : State) (env : Env) (c : Core) (x : Operand) (v : Val) → Holds sizes l e g t s env c → AreListed words l s → HasValue words sizes l g t s c x (Lasting v) → length (image_names words.shared.names) < 536870912 → Performs words sizes (EndsWith sizes l e s (runs.Value (shown_of s.store v))) 1 2 (halt x) c
halt_performs words sizes l e g t s env c x v h listed hx few =
    let w : IsLasting l s (Lasting v) hx.word = hx.stands in
    let f : HasFace (long_at c.storage) (image_names words.shared.names) w.number (shown_of s.store v) = face_is words sizes l e s c.storage c.next c.output h.data_held listed few v w.number w.known in
    let effect : service_effect (words_in words sizes) (at c 0 0 0 0).state 0 (w.number ∷ []) ≡ effects.Ends (runs.Value (shown_of s.store v)) = rw f.is (ap (λ y. effects.Ends (runs.Value y)) f.shown_is) in
    ends words sizes (EndsWith sizes l e s (runs.Value (shown_of s.store v))) 2 (halt x) c (runs.Value (shown_of s.store v)) (service_ends words sizes c 0 x w.number (runs.Value (shown_of s.store v)) never (hx.held ∙ ap Some w.is) effect)
    (λ block place moves steps. record { core = c; data_held = h.data_held; block = block; place = place; moves = moves; steps = steps; there = refl })
