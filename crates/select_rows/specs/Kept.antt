-- What the code of a builtin keeps, and what it comes to.
use Rattle.std.specs.Prelude.{◌≡◌, ℕ, ◌+◌, ◌*◌, ◌<◌, ◌⊎◌, slice_get, Some, false}
use Rattle.program_runs.specs.Runs.{End, Faulted, Full}
use Rattle.t_base.specs.declared.basics.Var.{Var}
use Rattle.t_prim.specs.Values.{Val}
use Rattle.t_prim.specs.Operands.{Row, Gives, Changes, Faults}
use Rattle.word_ir.specs.declared.operands.Operand.{Operand}
use Rattle.word_ir.specs.declared.operands.Operand.TheVariants as operand
use Rattle.word_ir.specs.declared.words.Words.{Words}
use Rattle.word_ir.specs.Word.{Number}
use Rattle.word_ir.specs.Storage.{Sizes, static_at, long_at}
use Rattle.word_ir.specs.State.{Own, kept}
use Rattle.word_ir.specs.Stamps.{Stamp, Stamped}
use Rattle.frame_ir.specs.States.{State, AnEscape, with_store}
use Rattle.word_trees.specs.Trees.{Tree, Spells}
use Rattle.word_trees.specs.Cores.{Core, at, ended, word_in, binding, heap_left}
use Rattle.frame_words.specs.Layouts.{Layout, INNER}
use Rattle.frame_words.specs.ValueWords.{word_for, heap_place}
use Rattle.frame_words.specs.Contents.{Escapes}
use Rattle.frame_words.specs.Holding.{HoldsData}
use Rattle.frame_words.specs.Growing.{WordsStay}

-- ---- operands

-- its variable, if it is one, has a lower number
abbrev pub IsOlder : ℕ → Operand → Type 0
IsOlder t (operand.Var v) = v.0 < t
IsOlder t _ = Unit {0}

-- an operand holds the word of a value, and isn't changed by what is bound from t on
pub record Has (l : Layout) (s : State) (t : ℕ) (c : Core) (x : Operand) (v : Val) : Type 0 where
  pub number : ℕ
  pub is : word_for l s v ≡ Some number
  pub held : word_in c x ≡ Some (Number number)
  pub older : IsOlder t x

-- ---- what is kept

-- The data are those of the second state, words of values are as before, and so are the stack, its stamps, the word of the innermost escape, the stamps of
-- frames in escapes, and the variables below t.
pub record Keeps (sizes : Sizes) (l : Layout) (e : Escapes) (t : ℕ) (s u : State) (c d : Core) : Type 0 where
  pub data_held : HoldsData sizes l e u d.storage d.next d.output
  pub words : WordsStay l s u
  pub top : d.top ≡ c.top
  pub stack : d.storage.stack ≡ c.storage.stack
  pub inner : long_at d.storage (static_at INNER) ≡ long_at c.storage (static_at INNER)
  pub stamps_of_stack : d.longs.stack ≡ c.longs.stack
  pub live : d.live ≡ c.live
  pub escapes : (birth p : ℕ) → heap_place s (AnEscape birth) ≡ Some p → slice_get d.longs.heap (p + 1) ≡ slice_get c.longs.heap (p + 1)
  pub variables : (v : ℕ) → v < t → kept d.env (Own v) ≡ kept c.env (Own v)
  pub stamps : (v : ℕ) → v < t → kept d.stamps (Own v) ≡ kept c.stamps (Own v)

-- nothing but variables from t on is bound
pub record Binds (t : ℕ) (c d : Core) : Type 0 where
  pub storage : d.storage ≡ c.storage
  pub next : d.next ≡ c.next
  pub top : d.top ≡ c.top
  pub output : d.output ≡ c.output
  pub longs : d.longs ≡ c.longs
  pub live : d.live ≡ c.live
  pub variables : (v : ℕ) → v < t → kept d.env (Own v) ≡ kept c.env (Own v)
  pub stamps : (v : ℕ) → v < t → kept d.stamps (Own v) ≡ kept c.stamps (Own v)

-- ---- what is come to

-- the rest, where a variable holds the word of the value
pub record Arrives (words : Words) (sizes : Sizes) (l : Layout) (e : Escapes) (t : ℕ) (s u : State) (c : Core) (to : Var) (v : Val) (rest : Tree) (x : Stamped) : Type 0 where
  pub core : Core
  pub number : ℕ
  pub stamp : Stamp
  pub keeps : Keeps sizes l e t s u c core
  pub is : word_for l u v ≡ Some number
  pub block : ℕ
  pub place : ℕ
  pub moves : ℕ
  pub steps : ℕ
  pub there : x ≡ at (binding core to (Number number) stamp) block place moves steps
  pub spelled : Spells words block place rest

-- an end, with nothing put
pub record Ends (sizes : Sizes) (l : Layout) (e : Escapes) (t : ℕ) (s : State) (c : Core) (end : End) (x : Stamped) : Type 0 where
  pub core : Core
  pub keeps : Keeps sizes l e t s s c core
  pub block : ℕ
  pub place : ℕ
  pub moves : ℕ
  pub steps : ℕ
  pub there : x ≡ ended core block place moves steps (Some end)

-- no room for what the new state has more than the old one
pub record IsOutOfHeap (sizes : Sizes) (l : Layout) (e : Escapes) (t : ℕ) (s u : State) (c : Core) (x : Stamped) : Type 0 where
  pub asked : ℕ
  pub more : 4 * s.store.heap + asked ≡ 4 * u.store.heap
  pub lacking : heap_left sizes c < asked
  pub ends : Ends sizes l e t s c (Full false asked (heap_left sizes c)) x

-- what a row says
abbrev pub Comes : Words → Sizes → Layout → Escapes → ℕ → State → Core → Var → Tree → Row → Stamped → Type 0
Comes words sizes l e t s c to rest (Gives v) x = Arrives words sizes l e t s s c to v rest x
Comes words sizes l e t s c to rest (Changes store v) x = Arrives words sizes l e t s (with_store s store) c to v rest x ⊎ IsOutOfHeap sizes l e t s (with_store s store) c x
Comes words sizes l e t s c to rest (Faults f) x = Ends sizes l e t s c (Faulted f) x
