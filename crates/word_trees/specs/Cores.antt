-- What a stamped run of a program of words works on, apart from the place where it is and what it has counted.
use Rattle.std.specs.Prelude.{if◌then◌else◌, false, ℕ, ◌+◌, ◌-◌, ◌*◌, ◌/◌, List, [], ◌∷◌, ◌++◌, map, drop, replicate, Option, Some, None, option_and_then}
use Rattle.program_runs.specs.Runs.{End}
use Rattle.t_base.specs.declared.basics.Var.{Var}
use Rattle.word_ir.specs.declared.operands.Operand.{Operand}
use Rattle.word_ir.specs.declared.operands.Operand.TheVariants as operand
use Rattle.word_ir.specs.Word.{Word, Number, Code, wrap}
use Rattle.word_ir.specs.Storage.{Sizes, Regions, HEAP_START, STACK_START, static_at, long_at, with_long, is_in_stack}
use Rattle.word_ir.specs.State.{Setting, Own, Env, kept}
use Rattle.word_ir.specs.Stamps.{Stamp, Live, Stamped, birth_at, changed_at, as_written}

pub record Core : Type 0 where
  pub storage : Regions Word
  pub next : ℕ
  pub top : ℕ
  pub env : Env Word
  pub output : List ℕ
  pub stamps : Env Stamp
  pub longs : Regions Stamp
  pub live : List Live

-- a state that has ended so, or not at all
abbrev pub ended : Core → (block place moves steps : ℕ) → Option End → Stamped
ended c block place moves steps end = record {
  state = record {
    storage = c.storage;
    next = c.next;
    top = c.top;
    env = c.env;
    block = block;
    place = place;
    output = c.output;
    end = end;
    moves = moves;
  };
  marks = record { steps = steps; env = c.stamps; longs = c.longs; live = c.live };
}

-- a run that goes on
abbrev pub at : Core → (block place moves steps : ℕ) → Stamped
at c block place moves steps = ended c block place moves steps None

-- ---- what is read

-- the word of an operand; each variable is kept by itself
abbrev pub word_in : Core → Operand → Option Word
word_in c (operand.Var v) = kept c.env (Own v.0)
word_in c (operand.Word n) = Some (Number n)
word_in c (operand.Static place) = Some (Number (static_at place))
word_in c (operand.Code block) = Some (Code block)
word_in c (operand.Slot bytes) = Some (Number (wrap (c.top + bytes)))

abbrev pub read_in : Core → ℕ → Option Word
read_in c address = long_at c.storage address

abbrev pub some_stamp : Option Stamp → Stamp
some_stamp stamp = option_and_then (λ s. s) stamp

-- the stamp of an operand's word
abbrev pub stamp_in : Setting → Core → Operand → Stamp
stamp_in m c (operand.Var v) = some_stamp (kept c.stamps (Own v.0))
stamp_in m c (operand.Slot bytes) = birth_at m (at c 0 0 0 0).state (at c 0 0 0 0).marks (wrap (c.top + bytes))
stamp_in m c (operand.Word n) = None
stamp_in m c (operand.Static place) = None
stamp_in m c (operand.Code block) = None

-- the bytes that are left of heap and stack
abbrev pub heap_left : Sizes → Core → ℕ
heap_left sizes c = HEAP_START + sizes.heap - c.next

abbrev pub stack_left : Core → ℕ
stack_left c = c.top - STACK_START

-- ---- what is changed

abbrev pub binding : Core → Var → Word → Stamp → Core
binding c to x stamp = record c { env = (Own to.0, x) ∷ c.env; stamps = (Own to.0, stamp) ∷ c.stamps }

-- a word that is stored, with its stamp
abbrev pub storing : Core → ℕ → Word → Stamp → Core
storing c address x stamp = record c {
  storage = with_long c.storage address x;
  longs = with_long c.longs address stamp;
  live = if is_in_stack c.storage address then changed_at as_written c.live ((address - c.top) / 4) else c.live;
}

-- bytes that are taken from the heap, whose address is bound
abbrev pub taking : Core → Var → ℕ → Core
taking c to bytes = record (binding c to (Number c.next) None) { next = c.next + bytes }

-- words that are pushed, born at this step
abbrev pub pushing : Core → ℕ → ℕ → Core
pushing c words birth = record c { top = c.top - 4 * words; live = replicate words (record { birth = birth; written = false }) ++ c.live }

-- words that are popped down to an address
abbrev pub resetting : Core → ℕ → Core
resetting c address = record c { top = address; live = drop ((address - c.top) / 4) c.live }

abbrev pub putting : Core → List ℕ → Core
putting c bytes = record c { output = c.output ++ bytes }

-- ---- parameters

abbrev pub bound_words : List Var → List (Option Word) → Env Word → Env Word
bound_words [] words env = env
bound_words (v ∷ params) [] env = env
bound_words (v ∷ params) (Some x ∷ words) env = bound_words params words ((Own v.0, x) ∷ env)
bound_words (v ∷ params) (None ∷ words) env = bound_words params words env

abbrev pub bound_stamps : List Var → List Stamp → Env Stamp → Env Stamp
bound_stamps [] stamps env = env
bound_stamps (v ∷ params) [] env = env
bound_stamps (v ∷ params) (stamp ∷ stamps) env = bound_stamps params stamps ((Own v.0, stamp) ∷ env)

-- nothing is bound but the parameters that get a word
abbrev pub entering : Setting → Core → List Var → List Operand → Core
entering m c params args = record c { env = bound_words params (map (word_in c) args) []; stamps = bound_stamps params (map (stamp_in m c) args) [] }
