-- The end of a run by a value.
use Rattle.std.specs.Prelude.{◌≡◌, ℕ, ◌<◌, [], ◌∷◌, length, get_or, slice_get, Some, true, is_some}
use Rattle.program_runs.specs.Runs.{End, Symbol}
use Rattle.program_runs.specs.Runs as runs
use Rattle.t_prim.specs.Values.{Val, shown_of, shown_symbol}
use Rattle.word_ir.specs.declared.operands.Operand.{Operand}
use Rattle.word_ir.specs.declared.words.WordOp.TheVariants as op
use Rattle.word_ir.specs.declared.words.Words.{Words}
use Rattle.word_ir.specs.Names.{image_names}
use Rattle.word_ir.specs.Storage.{Sizes}
use Rattle.word_ir.specs.Stamps.{Stamped}
use Rattle.frame_ir.specs.Values.{Lasting, Env}
use Rattle.frame_ir.specs.States.{State}
use Rattle.word_trees.specs.Trees.{Tree, Do}
use Rattle.word_trees.specs.Cores.{Core, ended}
use Rattle.word_trees.specs.Leads.{Performs}
use Rattle.frame_words.specs.Layouts.{Layout, SymbolOf, fixed_place}
use Rattle.frame_words.specs.Contents.{Escapes}
use Rattle.frame_words.specs.Holding.{HoldsData}
use Rattle.select_rows.specs.Macros.{never}
use Rattle.frame_stacks.specs.Stacks.{Ways}
use Rattle.frame_stacks.specs.Frames.{Holds}
use Rattle.frame_stacks.specs.Laws.{HasValue}

abbrev pub halt : Operand → Tree
halt x = Do (op.Service 0 (x ∷ [])) never

-- a symbol that stands in static words is listed in the image's names by what is shown of it
pub record IsListed (words : Words) (l : Layout) (s : State) (name : ℕ) : Type 0 where
  pub inside : l.listed name < length (image_names words.shared.names)
  pub shown : shown_symbol (slice_get s.store.names name) ≡ Symbol (get_or (image_names words.shared.names) (l.listed name) [])

abbrev pub AreListed : Words → Layout → State → Type 0
AreListed words l s = (name : ℕ) → is_some (fixed_place l (SymbolOf name)) ≡ true → IsListed words l s name

-- The run has ended so, with the data as they were.
pub record EndsWith (sizes : Sizes) (l : Layout) (e : Escapes) (s : State) (end : End) (x : Stamped) : Type 0 where
  pub core : Core
  pub data_held : HoldsData sizes l e s core.storage core.next core.output
  pub block : ℕ
  pub place : ℕ
  pub moves : ℕ
  pub steps : ℕ
  pub there : x ≡ ended core block place moves steps (Some end)

abbrev pub HaltsArePerformed : Type 0
HaltsArePerformed =
    (words : Words) (sizes : Sizes) (l : Layout) (e : Escapes) (g : Ways) (t : ℕ) (s : State) (env : Env) (c : Core) (x : Operand) (v : Val)
    → Holds sizes l e g t s env c → AreListed words l s → HasValue words sizes l g t s c x (Lasting v) → length (image_names words.shared.names) < 536870912
    → Performs words sizes (EndsWith sizes l e s (runs.Value (shown_of s.store v))) 1 2 (halt x) c
