-- What the code of operations that make things comes to.
use Rattle.std.specs.Prelude.{◌≡◌, ℕ, ◌+◌, ◌*◌, ◌<◌, ◌⊎◌, List, [], ◌∷◌, length, Some}
use Rattle.std.specs.List.{AllByRecursion}
use Rattle.word_ir.specs.declared.words.Words.{Words}
use Rattle.word_ir.specs.Storage.{Sizes}
use Rattle.word_ir.specs.Stamps.{Stamped}
use Rattle.frame_ir.specs.Values.{Value, Env}
use Rattle.frame_ir.specs.States.{State}
use Rattle.frame_ir.specs.Arguments.{kept_values}
use Rattle.frame_ir.specs.Groups.{Making, addressed}
use Rattle.word_trees.specs.Trees.{Tree}
use Rattle.word_trees.specs.Cores.{Core}
use Rattle.word_trees.specs.Leads.{Performs}
use Rattle.frame_words.specs.Layouts.{Layout}
use Rattle.frame_words.specs.Contents.{Escapes}
use Rattle.select_rows.specs.Kept.{IsOutOfHeap}
use Rattle.frame_stacks.specs.Stacks.{Ways}
use Rattle.frame_stacks.specs.Frames.{Holds}
use Rattle.frame_stacks.specs.Laws.{GoesOn}
use Rattle.frame_heap.specs.Groups.{heap_records, AreOutside, with_records}
use Rattle.frame_heap.specs.Codes.{make_group}

-- to the rest in a state that has more, or to the end for want of the words that it has more
abbrev pub GoesOnOrFull : Words → Sizes → Layout → Escapes → Ways → ℕ → State → State → Env → Core → Tree → Stamped → Type 0
GoesOnOrFull words sizes l e g t s u env c rest x = GoesOn words sizes l e g t u env rest x ⊎ IsOutOfHeap sizes l e t s u c x

-- ---- closures

-- what each of them captures
abbrev pub AreKept : Env → List Making → List (List Value) → Type 0
AreKept env [] [] = Unit {0}
AreKept env [] (vs ∷ vss) = ⊥
AreKept env (m ∷ ms) [] = ⊥
AreKept env (m ∷ ms) (vs ∷ vss) = (kept_values env m.kept ≡ Some vs) × AreKept env ms vss

-- at most so many moves, and those of taking room
abbrev pub group_cost : List Making → ℕ
group_cost [] = 0
group_cost (m ∷ ms) = 9 + 3 * length m.kept + group_cost ms

-- A group of closures on the heap and in static words. Each may capture any of them.
abbrev pub GroupsArePerformed : Type 0
GroupsArePerformed =
    (words : Words) (sizes : Sizes) (l : Layout) (e : Escapes) (g : Ways) (t : ℕ) (s : State) (env : Env) (c : Core) (m : Making) (ms : List Making) (vss : List (List Value)) (rest : Tree)
    → Holds sizes l e g t s env c → AreKept (addressed (m ∷ ms) env s) (m ∷ ms) vss → AreOutside l (m ∷ ms) vss → AllByRecursion (λ x. x.to.0 < t) (m ∷ ms)
    → Performs words sizes (GoesOnOrFull words sizes l e g t s (with_records s (heap_records (m ∷ ms) vss)) (addressed (m ∷ ms) env s) c rest) 1 (5 + group_cost (m ∷ ms)) (make_group l t (m ∷ ms) rest) c
