-- The code of each operation of a program with frames, in front of the rest of its block, and of each end.
use Rattle.std.specs.Prelude.{◌≡◌, ℕ, ◌+◌, ◌≤◌, if◌then◌else◌, List, [], ◌∷◌, length, map}
use Rattle.std.specs.Option.{option_map_or}
use Rattle.t_base.specs.declared.basics.Var.{Var}
use Rattle.t_base.specs.declared.shared_parts.Shared.{Shared}
use Rattle.cps_ir.specs.declared.args.Arg.{Arg}
use Rattle.cps_ir.specs.declared.args.Arg.TheVariants as Argument
use Rattle.word_ir.specs.declared.operands.Operand.{Operand}
use Rattle.word_ir.specs.declared.operands.Operand.TheVariants as operand
use Rattle.word_ir.specs.declared.words.Test.TheVariants as test
use Rattle.word_ir.specs.declared.words.WordEnd.TheVariants as last
use Rattle.frame_ir.specs.declared.forms.Place.{Place}
use Rattle.frame_ir.specs.declared.forms.FrameOp.{FrameOp}
use Rattle.frame_ir.specs.declared.forms.FrameOp.TheVariants as Op
use Rattle.frame_ir.specs.declared.forms.FrameEnd.{FrameEnd}
use Rattle.frame_ir.specs.declared.forms.FrameEnd.TheVariants as Last
use Rattle.frame_ir.specs.Values.{even}
use Rattle.frame_ir.specs.Arguments.{code_of_global}
use Rattle.frame_ir.specs.Groups.{makings, behind}
use Rattle.frame_ir.specs.Operations.{slots_of}
use Rattle.word_trees.specs.Trees.{Tree, Close}
use Rattle.frame_words.specs.Layouts.{Layout}
use Rattle.frame_words.specs.ValueWords.{NIL}
use Rattle.select_rows.specs.Macros.{word}
use Rattle.select_rows.specs.Codes.{code_of}
use Rattle.frame_stacks.specs.Codes.{frame_get, pop_frame, push_frame, jump, give_back}
use Rattle.prim_holds.specs.Operands.{operand_of, code_at}
use Rattle.frame_heap.specs.Codes.{make_group}
use Rattle.frame_things.specs.Codes.{make_cell, make_object}
use Rattle.frame_reads.specs.Codes.{closure_get, cell_get, global_get}
use Rattle.frame_globals.specs.Laws.{global_set, global_change}
use Rattle.frame_cells.specs.Laws.{cell_set}
use Rattle.frame_calls.specs.Codes.{call_code}
use Rattle.frame_ends.specs.Laws.{halt}
use Rattle.frame_dispatch.specs.Codes.{catch_open, catch_close}

-- What is chosen for a program with frames: what stands in static words, which block of words begins a block, the block that makes calls of what
-- isn't known and its two loops, and a number above those of all variables of the program with frames.
pub record Choice : Type 0 where
  pub layout : Layout
  pub begins : ℕ → ℕ
  pub apply : ℕ
  pub look : ℕ
  pub kill : ℕ
  pub free : ℕ

-- ---- operations, each with variables from one on for what is made on the way

-- `ops` are the operations behind; closures are made in groups
abbrev pub op_code : Choice → Shared → ℕ → FrameOp → List FrameOp → Tree → Tree
op_code h shared t (Op.Prim to p args) ops rest = code_at (code_of p) (map (operand_of h.layout shared) args) t to rest
op_code h shared t (Op.Closure to code kept at) ops rest = rest
op_code h shared t (Op.ClosureGet to from slot) ops rest = closure_get to from slot rest
op_code h shared t (Op.FrameGet to slot) ops rest = frame_get to slot rest
op_code h shared t (Op.Cell to value) ops rest = make_cell t to (operand_of h.layout shared value) rest
op_code h shared t (Op.CellGet to cell) ops rest = cell_get to cell rest
op_code h shared t (Op.CellSet cell value) ops rest = cell_set cell (operand_of h.layout shared value) rest
op_code h shared t (Op.GlobalGet to global) ops rest = global_get to global rest
op_code h shared t (Op.GlobalPut global value first) ops rest =
    if first then global_set global (operand_of h.layout shared value) rest else global_change t global (operand_of h.layout shared value) rest
op_code h shared t (Op.Push kept back) ops rest = push_frame (h.begins back) (even (2 + slots_of ops (length kept))) (map operand.Var kept) rest
op_code h shared t Op.Pop ops rest = pop_frame t rest
op_code h shared t (Op.CatchOpen to back) ops rest = catch_open t (h.begins back) to rest
op_code h shared t Op.CatchClose ops rest = catch_close t rest
op_code h shared t (Op.Object to template proc kept) ops rest = make_object h.layout t to template (operand_of h.layout shared proc) kept rest

-- ---- ends

-- what is called is entered where it is known
abbrev pub call_target : Choice → Shared → Arg → ℕ
call_target h shared (Argument.Proc block) = h.layout.closure_entry block
call_target h shared (Argument.Global g) = option_map_or h.layout.closure_entry (code_of_global shared g) h.apply
call_target h shared (Argument.Builtin p) = h.layout.builtin_entry p
call_target h shared _ = h.apply

-- Nil or not; an If's blocks are blocks of their own
abbrev pub test_code : Operand → ℕ → ℕ → Tree
test_code x first second = Close (last.Test test.Eq x (word NIL) second first)

abbrev pub end_code : Choice → Shared → ℕ → FrameEnd → Tree
end_code h shared t (Last.Call f args) = call_code (call_target h shared f) (operand_of h.layout shared f) (map (operand_of h.layout shared) args)
end_code h shared t (Last.Jump block args) = jump (h.begins block) (map (operand_of h.layout shared) args)
end_code h shared t (Last.If test first second) = test_code (operand_of h.layout shared test) (h.begins first) (h.begins second)
end_code h shared t (Last.Return value) = give_back t (operand_of h.layout shared value)
end_code h shared t (Last.Halt value) = halt (operand_of h.layout shared value)

-- ---- the rest of a block

-- The tree is the code of some operations and an end, each with any variables from `free` on. Closures that stand directly behind each other are one group.
pub data IsCode (h : Choice) (shared : Shared) : List FrameOp → FrameEnd → Tree → Type 0 where
  ends : (t : ℕ) (end : FrameEnd) (tree : Tree) → h.free ≤ t → tree ≡ end_code h shared t end → IsCode h shared [] end tree
  does : (t : ℕ) (op : FrameOp) (ops : List FrameOp) (end : FrameEnd) (rest tree : Tree)
      → h.free ≤ t → makings (op ∷ ops) ≡ [] → tree ≡ op_code h shared t op ops rest → IsCode h shared ops end rest → IsCode h shared (op ∷ ops) end tree
  makes : (t : ℕ) (to : Var) (code : ℕ) (kept : List Var) (at : Place) (ops : List FrameOp) (end : FrameEnd) (rest tree : Tree)
      → h.free ≤ t → tree ≡ make_group h.layout t (makings (Op.Closure to code kept at ∷ ops)) rest → IsCode h shared (behind ops) end rest
      → IsCode h shared (Op.Closure to code kept at ∷ ops) end tree
