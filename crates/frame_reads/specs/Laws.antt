-- What the code of operations that read comes to.
use Rattle.std.specs.Prelude.{◌≡◌, ℕ, ◌<◌, ◌∷◌, slice_get, Some, None, if◌then◌else◌}
use Rattle.program_runs.specs.Runs.{Faulted}
use Rattle.t_base.specs.declared.basics.Var.{Var}
use Rattle.t_base.specs.declared.faults.Fault.{Fault}
use Rattle.t_base.specs.declared.faults.Fault.TheVariants.{Unbound}
use Rattle.t_prim.specs.Values.{Val, ClosureV, ObjectV}
use Rattle.t_prim.specs.Kinds.{is_nil}
use Rattle.word_ir.specs.declared.operands.Operand.{Operand}
use Rattle.word_ir.specs.declared.words.Words.{Words}
use Rattle.word_ir.specs.Storage.{Sizes}
use Rattle.word_ir.specs.Stamps.{Stamped}
use Rattle.frame_ir.specs.Values.{Value, Lasting, InFrame, CellAt, Closure, Object, Env, value_at}
use Rattle.frame_ir.specs.States.{State}
use Rattle.word_trees.specs.Trees.{Tree}
use Rattle.word_trees.specs.Cores.{Core, ended}
use Rattle.word_trees.specs.Leads.{Performs}
use Rattle.frame_words.specs.Layouts.{Layout}
use Rattle.frame_words.specs.Contents.{Escapes}
use Rattle.frame_words.specs.Holding.{HoldsData}
use Rattle.frame_stacks.specs.Stacks.{Ways}
use Rattle.frame_stacks.specs.Frames.{Holds}
use Rattle.frame_stacks.specs.Laws.{GoesOn, HasValue}
use Rattle.frame_reads.specs.Codes.{closure_get, cell_get, global_get, branch}

-- ---- records

abbrev pub ClosuresAreRead : Type 0
ClosuresAreRead =
    (words : Words) (sizes : Sizes) (l : Layout) (e : Escapes) (g : Ways) (t : ℕ) (s : State) (env : Env) (c : Core) (to from : Var) (i slot : ℕ) (k : Closure) (v : Value) (rest : Tree)
    → Holds sizes l e g t s env c → value_at env from.0 ≡ Some (Lasting (ClosureV i)) → slice_get s.closures i ≡ Some k → slice_get k.captured slot ≡ Some v → to.0 < t
    → Performs words sizes (GoesOn words sizes l e g t s ((to.0, v) ∷ env) rest) 1 2 (closure_get to from slot rest) c

abbrev pub ObjectsAreRead : Type 0
ObjectsAreRead =
    (words : Words) (sizes : Sizes) (l : Layout) (e : Escapes) (g : Ways) (t : ℕ) (s : State) (env : Env) (c : Core) (to from : Var) (i slot : ℕ) (k : Object) (v : Value) (rest : Tree)
    → Holds sizes l e g t s env c → value_at env from.0 ≡ Some (Lasting (ObjectV i)) → slice_get s.objects i ≡ Some k → slice_get k.captured slot ≡ Some v → to.0 < t
    → Performs words sizes (GoesOn words sizes l e g t s ((to.0, v) ∷ env) rest) 1 2 (closure_get to from slot rest) c

abbrev pub CellsAreRead : Type 0
CellsAreRead =
    (words : Words) (sizes : Sizes) (l : Layout) (e : Escapes) (g : Ways) (t : ℕ) (s : State) (env : Env) (c : Core) (to cell : Var) (k : ℕ) (v : Val) (rest : Tree)
    → Holds sizes l e g t s env c → value_at env cell.0 ≡ Some (CellAt k) → slice_get s.cells k ≡ Some v → to.0 < t
    → Performs words sizes (GoesOn words sizes l e g t s ((to.0, Lasting v) ∷ env) rest) 1 2 (cell_get to cell rest) c

-- ---- globals

abbrev pub GlobalsAreRead : Type 0
GlobalsAreRead =
    (words : Words) (sizes : Sizes) (l : Layout) (e : Escapes) (g : Ways) (t : ℕ) (s : State) (env : Env) (c : Core) (to : Var) (global : ℕ) (v : Val) (rest : Tree)
    → Holds sizes l e g t s env c → slice_get s.globals global ≡ Some (Some v) → global < l.globals → to.0 < t
    → Performs words sizes (GoesOn words sizes l e g t s ((to.0, Lasting v) ∷ env) rest) 1 5 (global_get to global rest) c

-- The run has ended by a fault, with the data as they were.
pub record Fails (sizes : Sizes) (l : Layout) (e : Escapes) (s : State) (f : Fault) (x : Stamped) : Type 0 where
  pub core : Core
  pub data_held : HoldsData sizes l e s core.storage core.next core.output
  pub block : ℕ
  pub place : ℕ
  pub moves : ℕ
  pub steps : ℕ
  pub there : x ≡ ended core block place moves steps (Some (Faulted f))

abbrev pub UnboundGlobalsFail : Type 0
UnboundGlobalsFail =
    (words : Words) (sizes : Sizes) (l : Layout) (e : Escapes) (g : Ways) (t : ℕ) (s : State) (env : Env) (c : Core) (to : Var) (global : ℕ) (rest : Tree)
    → Holds sizes l e g t s env c → slice_get s.globals global ≡ Some None → global < l.globals → Performs words sizes (Fails sizes l e s Unbound) 1 7 (global_get to global rest) c

-- ---- tests

abbrev pub BranchesArePerformed : Type 0
BranchesArePerformed =
    (words : Words) (sizes : Sizes) (l : Layout) (e : Escapes) (g : Ways) (t : ℕ) (s : State) (env : Env) (c : Core) (x : Operand) (v : Val) (first second : Tree)
    → Holds sizes l e g t s env c → HasValue words sizes l g t s c x (Lasting v)
    → Performs words sizes (GoesOn words sizes l e g t s env (if is_nil v then second else first)) 1 3 (branch x first second) c

-- a closure in a frame is no Nil
abbrev pub FrameBranchesArePerformed : Type 0
FrameBranchesArePerformed =
    (words : Words) (sizes : Sizes) (l : Layout) (e : Escapes) (g : Ways) (t : ℕ) (s : State) (env : Env) (c : Core) (x : Operand) (birth slot : ℕ) (first second : Tree)
    → Holds sizes l e g t s env c → HasValue words sizes l g t s c x (InFrame birth slot) → Performs words sizes (GoesOn words sizes l e g t s env first) 1 3 (branch x first second) c
