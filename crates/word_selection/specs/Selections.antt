-- What it means that a program of words is selected for a program with frames.
use Rattle.std.specs.Prelude.{◌≡◌, ℕ, ◌+◌, ◌-◌, ◌<◌, ◌≤◌, ◌⊎◌, List, [], ◌++◌, length, map, slice_get, All, Contains, Option, Some, true, is_some}
use Rattle.std.specs.List.{AllByRecursion, flat_map}
use Rattle.std.specs.Option.{option_map, option_map_or}
use Rattle.t_base.specs.declared.basics.Var.{Var}
use Rattle.t_base.specs.declared.builtins.Builtin.{Builtin}
use Rattle.t_base.specs.SharedParts.{IsCopyOf}
use Rattle.t_prim.specs.Values.{Val}
use Rattle.word_ir.specs.declared.words.WordBlock.{WordBlock}
use Rattle.word_ir.specs.declared.words.Words.{Words}
use Rattle.word_ir.specs.Names.{image_names}
use Rattle.word_ir.specs.Word.{Word, Number}
use Rattle.word_ir.specs.State.{static_word}
use Rattle.frame_ir.specs.declared.forms.Place.TheVariants as At
use Rattle.frame_ir.specs.declared.forms.FrameOp.{FrameOp}
use Rattle.frame_ir.specs.declared.forms.FrameOp.TheVariants as Op
use Rattle.frame_ir.specs.declared.forms.Block.{Block}
use Rattle.frame_ir.specs.declared.forms.Frames.{Frames}
use Rattle.frame_ir.specs.Arguments.{proc_count, default_count, code_of_default}
use Rattle.frame_ir.specs.Calls.{methods_of}
use Rattle.frame_ir.specs.Parts.{op_args, end_args, block_binds, closure_codes, method_codes}
use Rattle.frame_ir.specs.Running.{bare_state}
use Rattle.word_trees.specs.Trees.{Tree, Spells}
use Rattle.frame_words.specs.Layouts.{Layout, ClosureOf, BuiltinOf, OperationOf, TemplateOf, INNER, GLOBALS, front_words, fixed_place}
use Rattle.frame_words.specs.ValueWords.{NIL}
use Rattle.frame_words.specs.Contents.{fixed_contents}
use Rattle.frame_words.specs.Holding.{IsLaidOut, IsFixedThere, global_word}
use Rattle.prim_holds.specs.Operands.{IsNamed}
use Rattle.frame_calls.specs.Codes.{call_params, entry_code}
use Rattle.frame_methods.specs.Laws.{method_code}
use Rattle.frame_ends.specs.Laws.{AreListed}
use Rattle.frame_dispatch.specs.Codes.{builtin_code, look_params, look_code, kill_params, kill_code, apply_block}
use Rattle.word_selection.specs.Codes.{Choice, IsCode}

-- ---- blocks

-- a block of words with the parameters of a block, and with its code
pub record IsBlockOf (h : Choice) (p : Frames) (words : Words) (k : ℕ) (b : Block) : Type 0 where
  pub target : WordBlock
  pub there : slice_get words.blocks.items (h.begins k) ≡ Some target
  pub params : target.params ≡ b.params
  pub tree : Tree
  pub code : IsCode h p.shared b.ops.items b.last tree
  pub spelled : Spells words (h.begins k) 0 tree

-- a block with parameters from some number on, and with the code that uses them
pub record IsEntry (h : Choice) (words : Words) (entry : ℕ) (params : ℕ → List Var) (code : ℕ → Tree) : Type 0 where
  pub t : ℕ
  pub above : h.free ≤ t
  pub target : WordBlock
  pub there : slice_get words.blocks.items entry ≡ Some target
  pub are : target.params ≡ params t
  pub spelled : Spells words entry 0 (code t)

-- the codes of closures and of defaults
abbrev pub IsClosureCode : Frames → ℕ → Type 0
IsClosureCode p k = Contains (closure_codes p) k ⊎ (k < proc_count p.shared + default_count p.shared)

-- Each block has its own; each code and method, and each builtin that stands in static words, has an entry; calls of what isn't known have one block and two
-- loops.
pub record HasBlocks (h : Choice) (p : Frames) (words : Words) : Type 0 where
  pub entry : words.entry ≡ h.begins p.entry
  pub blocks : (k : ℕ) (b : Block) → slice_get p.blocks.items k ≡ Some b → IsBlockOf h p words k b
  pub closures : (k : ℕ) (b : Block) → IsClosureCode p k → slice_get p.blocks.items k ≡ Some b
      → IsEntry h words (h.layout.closure_entry k) call_params (λ t. entry_code t (length b.params - 1) (h.begins k))
  pub methods : (k : ℕ) (b : Block) → Contains (method_codes p) k → slice_get p.blocks.items k ≡ Some b
      → IsEntry h words (h.layout.method_entry k) call_params (λ t. method_code t (length b.params) (h.begins k))
  pub builtins : (b : Builtin) → is_some (fixed_place h.layout (BuiltinOf b)) ≡ true → IsEntry h words (h.layout.builtin_entry b) call_params (λ t. builtin_code t b)
  pub apply : IsEntry h words h.apply call_params (λ t. apply_block t h.apply h.look h.kill)
  pub look : IsEntry h words h.look look_params (λ t. look_code t h.look)
  pub kill : IsEntry h words h.kill kill_params (λ t. kill_code t h.kill)

-- ---- what is named

-- the closure of a code that captures nothing, and the methods of a template, stand in static words
abbrev pub IsOpNamed : Layout → FrameOp → Type 0
IsOpNamed l (Op.Closure to code kept At.Static) = is_some (fixed_place l (ClosureOf code)) ≡ true
IsOpNamed l (Op.Object to template proc kept) = is_some (fixed_place l (TemplateOf template)) ≡ true
IsOpNamed l _ = Unit {0}

abbrev pub IsBlockNamed : Choice → Frames → Block → Type 0
IsBlockNamed h p b =
    All (λ op. IsOpNamed h.layout op × AllByRecursion (IsNamed h.layout p.shared) (op_args op)) b.ops.items × AllByRecursion (IsNamed h.layout p.shared) (end_args b.last)

-- Arguments, static closures, templates with their operations, and the closures of globals stand in static words; a closure there has a code.
pub record IsNamedAll (h : Choice) (p : Frames) : Type 0 where
  pub blocks : All (IsBlockNamed h p) p.blocks.items
  pub variables : All (λ x. x.0 < h.free) (flat_map (λ b. block_binds b) p.blocks.items)
  pub codes : (k : ℕ) → is_some (fixed_place h.layout (ClosureOf k)) ≡ true → IsClosureCode p k
  pub operations : (t o code : ℕ) → is_some (fixed_place h.layout (TemplateOf t)) ≡ true → Contains (h.layout.methods t) (o, code) → is_some (fixed_place h.layout (OperationOf o)) ≡ true
  pub methods : (t : ℕ) → h.layout.methods t ≡ option_map_or (λ x. methods_of x.ops x.codes) (slice_get p.templates.items t) []
  pub defaults : (o : ℕ) → h.layout.default_entry o ≡ option_map h.layout.closure_entry (code_of_default p.shared o)
  pub globals : (k : ℕ) → k < proc_count p.shared → is_some (fixed_place h.layout (ClosureOf k)) ≡ true

-- ---- static words

-- At first they are those of the start of the program with frames: in front, no escape is live and each global has its first value.
pub record HasStatics (h : Choice) (p : Frames) (words : Words) : Type 0 where
  pub laid_out : IsLaidOut h.layout
  pub globals : h.layout.globals ≡ length p.shared.globals.items
  pub front : List Word
  pub front_length : length front ≡ front_words h.layout
  pub statics : map static_word words.statics.items ≡ front ++ flat_map (fixed_contents h.layout (bare_state p)) h.layout.fixed
  pub inner : slice_get front INNER ≡ Some (Number NIL)
  pub first : (g : ℕ) (held : Option Val) → slice_get (bare_state p).globals g ≡ Some held → slice_get front (GLOBALS + g) ≡ Some (Number (global_word h.layout (bare_state p) held))
  pub fixed : AllByRecursion (IsFixedThere h.layout (bare_state p)) h.layout.fixed
  pub listed : AreListed words h.layout (bare_state p)
  pub few_names : length (image_names words.shared.names) < 536870912

-- ---- the whole

pub record IsSelected (p : Frames) (words : Words) : Type 0 where
  pub choice : Choice
  pub shared : IsCopyOf p.shared words.shared
  pub blocks : HasBlocks choice p words
  pub named : IsNamedAll choice p
  pub statics : HasStatics choice p words
