-- What the code of a builtin comes to, where a state of code with frames is held.
use Rattle.std.specs.Prelude.{◌≡◌, ℕ, ◌+◌, ◌*◌, ◌<◌, ◌⊎◌, List, ◌∷◌, length, map, Some, false}
use Rattle.program_runs.specs.Runs.{Faulted, Full}
use Rattle.t_base.specs.declared.basics.Var.{Var}
use Rattle.t_base.specs.declared.builtins.Builtin.{Builtin}
use Rattle.t_base.specs.declared.faults.Fault.{Fault}
use Rattle.t_base.specs.declared.shared_parts.Shared.{Shared}
use Rattle.t_prim.specs.Values.{Val, Store}
use Rattle.t_prim.specs.Operands.{Row, Gives, Changes, Faults}
use Rattle.t_prim.specs.Table.{row, arity_of}
use Rattle.cps_ir.specs.declared.args.Arg.{Arg}
use Rattle.word_ir.specs.declared.words.Words.{Words}
use Rattle.word_ir.specs.Storage.{Sizes}
use Rattle.word_ir.specs.Stamps.{Stamped}
use Rattle.frame_ir.specs.Values.{Value, Lasting, Env}
use Rattle.frame_ir.specs.States.{State, Doing, with_store}
use Rattle.frame_ir.specs.Arguments.{value_of, lasting_values}
use Rattle.word_trees.specs.Trees.{Tree}
use Rattle.word_trees.specs.Cores.{Core, ended}
use Rattle.word_trees.specs.Leads.{Performs}
use Rattle.frame_words.specs.Layouts.{Layout}
use Rattle.frame_words.specs.Contents.{Escapes}
use Rattle.frame_words.specs.Holding.{HoldsData}
use Rattle.select_rows.specs.Kept.{Keeps}
use Rattle.select_rows.specs.Codes.{code_of}
use Rattle.frame_stacks.specs.Stacks.{Ways}
use Rattle.frame_stacks.specs.Frames.{Holds}
use Rattle.frame_stacks.specs.Laws.{GoesOn, HasValue}
use Rattle.prim_holds.specs.Operands.{IsNamed, AreNamed, operand_of, code_at, cost_of}

-- ---- arguments

abbrev pub ArgumentsHaveWords : Type 0
ArgumentsHaveWords =
    (words : Words) (sizes : Sizes) (l : Layout) (e : Escapes) (g : Ways) (t : ℕ) (s : State) (env : Env) (c : Core) (shared : Shared) (a : Arg) (v : Value)
    → Holds sizes l e g t s env c → IsNamed l shared a → value_of shared env a ≡ Some v → HasValue words sizes l g t s c (operand_of l shared a) v

-- ---- what every row keeps

abbrev pub RowsKeepFrames : Type 0
RowsKeepFrames =
    (sizes : Sizes) (l : Layout) (e : Escapes) (g : Ways) (t : ℕ) (s : State) (store : Store) (env : Env) (c d : Core)
    → Holds sizes l e g t s env c → Keeps sizes l e t s (with_store s store) c d → Holds sizes l e g t (with_store s store) env d

-- ---- builtins

-- The run has ended by a fault, with the data as they were.
pub record IsFaulted (sizes : Sizes) (l : Layout) (e : Escapes) (s : State) (f : Fault) (x : Stamped) : Type 0 where
  pub core : Core
  pub data_held : HoldsData sizes l e s core.storage core.next core.output
  pub block : ℕ
  pub place : ℕ
  pub moves : ℕ
  pub steps : ℕ
  pub there : x ≡ ended core block place moves steps (Some (Faulted f))

-- The run has ended for want of heap: what was asked for, which a second state has taken more, is more than what is left. The data are as they were.
pub record IsOutOfRoom (sizes : Sizes) (l : Layout) (e : Escapes) (s u : State) (x : Stamped) : Type 0 where
  pub asked : ℕ
  pub left : ℕ
  pub room : left + 4 * s.store.heap ≡ sizes.heap
  pub more : asked + 4 * s.store.heap ≡ 4 * u.store.heap
  pub lacking : left < asked
  pub core : Core
  pub data_held : HoldsData sizes l e s core.storage core.next core.output
  pub block : ℕ
  pub place : ℕ
  pub moves : ℕ
  pub steps : ℕ
  pub there : x ≡ ended core block place moves steps (Some (Full false asked left))

abbrev pub PrimComes : Words → Sizes → Layout → Escapes → Ways → ℕ → State → Env → Var → Tree → Row → Stamped → Type 0
PrimComes words sizes l e g t s env to rest (Gives v) x = GoesOn words sizes l e g t s ((to.0, Lasting v) ∷ env) rest x
PrimComes words sizes l e g t s env to rest (Changes store v) x = GoesOn words sizes l e g t (with_store s store) ((to.0, Lasting v) ∷ env) rest x ⊎ IsOutOfRoom sizes l e s (with_store s store) x
PrimComes words sizes l e g t s env to rest (Faults f) x = IsFaulted sizes l e s f x

-- at as many arguments as the builtin takes
abbrev pub PrimsArePerformed : Type 0
PrimsArePerformed =
    (words : Words) (sizes : Sizes) (l : Layout) (e : Escapes) (g : Ways) (t : ℕ) (s : State) (env : Env) (c : Core) (shared : Shared) (p : Builtin) (args : List Arg) (vs : List Val) (to : Var) (rest : Tree)
    → Holds sizes l e g t s env c → AreNamed l shared args → lasting_values shared env args ≡ Some vs → length args ≡ arity_of p → to.0 < t
    → Performs words sizes (PrimComes words sizes l e g t s env to rest (row p vs s.store)) 1 (cost_of (code_of p)) (code_at (code_of p) (map (operand_of l shared) args) t to rest) c

-- ---- what isn't held

abbrev pub CountsAreFree : Type 0
CountsAreFree =
    (sizes : Sizes) (l : Layout) (e : Escapes) (g : Ways) (t : ℕ) (s : State) (env : Env) (c : Core) (moves : ℕ) (doing : Doing)
    → Holds sizes l e g t s env c → Holds sizes l e g t (record s { moves = moves; doing = doing }) env c
