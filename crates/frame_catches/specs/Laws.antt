-- What the start of a CATCH comes to.
use Rattle.std.specs.Prelude.{◌≡◌, ℕ, ◌<◌, ◌==◌, ◌⊎◌, if◌then◌else◌, ◌∷◌, length}
use Rattle.t_base.specs.declared.basics.Var.{Var}
use Rattle.t_prim.specs.Values.{EscapeV}
use Rattle.word_ir.specs.declared.words.Words.{Words}
use Rattle.word_ir.specs.Storage.{Sizes}
use Rattle.word_ir.specs.Stamps.{Stamped}
use Rattle.frame_ir.specs.Values.{Lasting, Env, catch_words}
use Rattle.frame_ir.specs.States.{State, taking, with_catch}
use Rattle.frame_ir.specs.Operations.{catch_frame}
use Rattle.word_trees.specs.Trees.{Tree}
use Rattle.word_trees.specs.Cores.{Core}
use Rattle.word_trees.specs.Cores as cores
use Rattle.word_trees.specs.Leads.{Performs}
use Rattle.frame_words.specs.Layouts.{Layout}
use Rattle.frame_words.specs.Contents.{Escapes}
use Rattle.select_rows.specs.Macros.{var}
use Rattle.select_rows.specs.Kept.{IsOutOfHeap}
use Rattle.frame_stacks.specs.Stacks.{Ways, frame_at, pushed_at}
use Rattle.frame_stacks.specs.Frames.{inner_word, Holds}
use Rattle.frame_stacks.specs.Laws.{GoesOn, IsOutOfStack}
use Rattle.frame_dispatch.specs.Codes.{catch_open}

-- one escape more, by the birth of its frame
abbrev pub opened_escapes : Escapes → ℕ → ℕ → ℕ → Escapes
opened_escapes e birth frame outer = record { frame = λ b. if b == birth then frame else e.frame b; outer = λ b. if b == birth then outer else e.outer b }

-- the state with one CATCH more
abbrev pub opened : State → ℕ → State
opened s back = taking catch_words (with_catch s (catch_frame back))

-- to the rest, with the escape bound; the frame is born by some step
pub record Opens (words : Words) (sizes : Sizes) (l : Layout) (e : Escapes) (g : Ways) (t : ℕ) (s : State) (env : Env) (back : ℕ) (to : Var) (rest : Tree) (x : Stamped) : Type 0 where
  pub step : ℕ
  pub goes : GoesOn words sizes l (opened_escapes e (length s.frames) (frame_at sizes (opened s back) (length s.frames)) (inner_word l s s.live)) (pushed_at g (length s.frames) step) t (opened s back) ((to.0, Lasting (EscapeV (length s.frames))) ∷ env) rest x

-- or to the end for want of heap, or of stack where the room on the heap was taken
abbrev pub OpensOrFull : Words → Sizes → Layout → Escapes → Ways → ℕ → State → Env → Core → ℕ → Var → Tree → Stamped → Type 0
OpensOrFull words sizes l e g t s env c back to rest x =
    Opens words sizes l e g t s env back to rest x ⊎ (IsOutOfHeap sizes l e t s (opened s back) c x ⊎ IsOutOfStack sizes s (cores.taking c (var t) 16) (catch_frame back) x)

-- where each word of the heap has a stamp or none, as in all runs
abbrev pub CatchesAreOpened : Type 0
CatchesAreOpened =
    (words : Words) (sizes : Sizes) (l : Layout) (e : Escapes) (g : Ways) (t : ℕ) (s : State) (env : Env) (c : Core) (back : ℕ) (to : Var) (rest : Tree)
    → Holds sizes l e g t s env c → length c.longs.heap ≡ length c.storage.heap → to.0 < t → Performs words sizes (OpensOrFull words sizes l e g t s env c back to rest) 1 26 (catch_open t (g.begins back) to rest) c
