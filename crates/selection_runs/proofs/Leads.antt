-- Every step of the frames is led.
use Rattle.std.proofs.Common.{◌≡◌, List, [], ◌∷◌, length, map, None, refl, ap, ◌∙◌}
use Rattle.t_prim.specs.Values.{Val, FixV, CharV, NilV, TrueV, SymbolV, StringV, PairV, VectorV, ClosureV, ObjectV, OperationV, BuiltinV, EscapeV}
use Rattle.word_ir.specs.Stamps.{Stamped}
use Rattle.frame_ir.specs.declared.forms.FrameOp.{FrameOp}
use Rattle.frame_ir.specs.declared.forms.FrameOp.TheVariants as Op
use Rattle.frame_ir.specs.declared.forms.FrameEnd.{FrameEnd}
use Rattle.frame_ir.specs.declared.forms.FrameEnd.TheVariants as Last
use Rattle.frame_ir.specs.Values.{Value, Lasting, InFrame, CellAt, Env}
use Rattle.frame_ir.specs.States.{Doing, Running, Calling, Looking, Entering, Ended, Stale, Wrong, State, end_of, counted}
use Rattle.frame_ir.specs.Sizes.{FramesAreSmall}
use Rattle.frame_ir.specs.Calls.{entered, called, called_at}
use Rattle.frame_ir.specs.Groups.{makings}
use Rattle.frame_ir.specs.Operations.{performed, ended}
use Rattle.frame_ir.specs.Running.{advance}
use Rattle.word_trees.specs.Trees.{Tree}
use Rattle.word_selection.specs.Codes.{IsCode, ends, does, makes}
use Rattle.selection_steps.specs.Settings.{Setting, choice_of, IsSound}
use Rattle.selection_steps.specs.Related.{Runs, IsCalling, IsDoing, Keeps}
use Rattle.selection_steps.specs.Led.{saved, Led}
use Rattle.selection_steps.proofs.Leading.{Spot}
use Rattle.selection_steps.proofs.Slots.{frame_get_led, pop_led}
use Rattle.selection_steps.proofs.Captured.{closure_get_led, no_closure_in_frame}
use Rattle.selection_steps.proofs.Cells.{cell_get_led, cell_set_led}
use Rattle.selection_steps.proofs.Globals.{global_get_led, global_put_led}
use Rattle.selection_steps.proofs.Things.{cell_led, object_led}
use Rattle.selection_steps.proofs.Prims.{prim_led}
use Rattle.selection_steps.proofs.Pushes.{push_led}
use Rattle.selection_steps.proofs.Closures.{group_led}
use Rattle.selection_steps.proofs.Catches.{catch_open_led, catch_close_led}
use Rattle.selection_runs.proofs.Begun.{EndSpot}
use Rattle.selection_runs.proofs.Ends.{jump_led, return_led, halt_led, if_led}
use Rattle.selection_runs.proofs.Calling.{call_led}
use Rattle.selection_runs.proofs.Called.{closure_called, object_called, none_called}
use Rattle.selection_runs.proofs.Builtins.{builtin_led}
use Rattle.selection_runs.proofs.Escaping.{escape_led}
use Rattle.selection_runs.proofs.Operations.{codes_at, operation_called, look_led, entering_led}

module _ (m : Setting) (s : State) (x : Stamped) (keeps : Keeps m s) (small : FramesAreSmall m.p.shared.size s) (marks : length x.marks.longs.heap ≡ length x.state.storage.heap) where
  -- ---- operations

  act_led : (op : FrameOp) (ops : List FrameOp) (last : FrameEnd) (env : Env) → Spot m s op ops last env x → makings (op ∷ ops) ≡ [] → IsSound (performed m.p (op ∷ ops) last env s) → Led m s x (performed m.p (op ∷ ops) last env s)
  act_led (Op.Prim to b args) ops last env sp none sound = prim_led m s ops last env x to b args sp sound
  act_led (Op.Closure to code kept at) ops last env sp none sound = absurd (cc)
  act_led (Op.ClosureGet to from slot) ops last env sp none sound = closure_get_led m s ops last env x to from slot sp sound
  act_led (Op.FrameGet to slot) ops last env sp none sound = frame_get_led m s ops last env x to slot sp sound
  act_led (Op.Cell to value) ops last env sp none sound = cell_led m s ops last env x to value sp sound
  act_led (Op.CellGet to cell) ops last env sp none sound = cell_get_led m s ops last env x to cell sp sound
  act_led (Op.CellSet cell value) ops last env sp none sound = cell_set_led m s ops last env x cell value sp sound
  act_led (Op.GlobalGet to global) ops last env sp none sound = global_get_led m s ops last env x to global sp sound
  act_led (Op.GlobalPut global value first) ops last env sp none sound = global_put_led m s ops last env x global value first sp sound
  act_led (Op.Push kept back) ops last env sp none sound = push_led m s ops last env x kept back sp sound
  act_led Op.Pop ops last env sp none sound = pop_led m s ops last env x sp sound
  act_led (Op.CatchOpen to back) ops last env sp none sound = catch_open_led m s ops last env x to back sp
  act_led Op.CatchClose ops last env sp none sound = catch_close_led m s ops last env x sp sound
  act_led (Op.Object to template proc kept) ops last env sp none sound = object_led m s ops last env x to template proc kept sp sound

  code_led : (op : FrameOp) (ops : List FrameOp) (last : FrameEnd) (env : Env) (r : Runs m s (op ∷ ops) last env x) (tree : Tree) → IsCode (choice_of m) m.p.shared (op ∷ ops) last tree → r.tree ≡ tree → saved s.doing ≡ 0
      → IsSound (performed m.p (op ∷ ops) last env s) → Led m s x (performed m.p (op ∷ ops) last env s)
  code_led op ops last env r tree (does t op2 ops2 end rest tree2 above closures is next) same none sound =
      act_led op ops last env (record { runs = r; keeps = keeps; none = none; small = small; marks = marks; t = t; above = above; rest = rest; is = same ∙ is; next = next }) closures sound
  code_led op ops last env r tree (makes t to code kept at ops2 end rest tree2 above is next) same none sound =
      group_led m s to code kept at ops last env x r keeps none t above rest (same ∙ is) next sound

  -- ---- ends

  last_led : (last : FrameEnd) (env : Env) → EndSpot m s last env x → IsSound (ended m.p last env s) → Led m s x (ended m.p last env s)
  last_led (Last.Call f args) env sp sound = call_led m s f args env x sp sound
  last_led (Last.Jump block args) env sp sound = jump_led m s env x block args sp sound
  last_led (Last.If test first second) env sp sound = if_led m s env x test first second sp sound
  last_led (Last.Return value) env sp sound = return_led m s env x value sp sound
  last_led (Last.Halt value) env sp sound = halt_led m s env x value sp sound

  end_code_led : (last : FrameEnd) (env : Env) (r : Runs m s [] last env x) (tree : Tree) → IsCode (choice_of m) m.p.shared [] last tree → r.tree ≡ tree → saved s.doing ≡ 0 → IsSound (ended m.p last env s) → Led m s x (ended m.p last env s)
  end_code_led last env r tree (ends t end tree2 above is) same none sound = last_led last env (record { runs = r; keeps = keeps; none = none; small = small; t = t; above = above; is = same ∙ is }) sound

  -- ---- calls

  called_led : (v : Val) (args : List Val) → s.doing ≡ Calling (Lasting v) args → IsCalling m s (Lasting v) args x → IsSound (called m.p v args (counted 1 s)) → Led m s x (called m.p v args (counted 1 s))
  called_led (ClosureV i) args doing calling sound = closure_called m s args x keeps i doing calling sound
  called_led (ObjectV i) args doing calling sound = object_called m s args x keeps i doing calling sound
  called_led (BuiltinV b) args doing calling sound = builtin_led m s args x keeps b doing calling sound
  called_led (OperationV k) args doing calling sound = operation_called m s x keeps (codes_at m s) k args doing calling
  called_led (EscapeV k) args doing calling sound = escape_led m s args x keeps k doing calling sound
  called_led (FixV n) args doing calling sound = none_called m s args x keeps (FixV n) refl doing calling
  called_led (CharV n) args doing calling sound = none_called m s args x keeps (CharV n) refl doing calling
  called_led NilV args doing calling sound = none_called m s args x keeps NilV refl doing calling
  called_led TrueV args doing calling sound = none_called m s args x keeps TrueV refl doing calling
  called_led (SymbolV n) args doing calling sound = none_called m s args x keeps (SymbolV n) refl doing calling
  called_led (StringV n) args doing calling sound = none_called m s args x keeps (StringV n) refl doing calling
  called_led (PairV n) args doing calling sound = none_called m s args x keeps (PairV n) refl doing calling
  called_led (VectorV n) args doing calling sound = none_called m s args x keeps (VectorV n) refl doing calling

  called_at_led : (f : Value) (args : List Val) → s.doing ≡ Calling f args → IsCalling m s f args x → IsSound (called_at m.p f args (counted 1 s)) → Led m s x (called_at m.p f args (counted 1 s))
  called_at_led (Lasting v) args doing calling sound = called_led v args doing calling sound
  called_at_led (InFrame birth slot) args doing calling sound =
      absurd (no_closure_in_frame m (counted 1 s) birth slot (λ c. entered m.p c.code (InFrame birth slot ∷ map Lasting args) (counted 1 s)) keeps sound)
  called_at_led (CellAt k) args doing calling sound = absurd (cc)

  -- ---- the whole

  pub advance_led : (d : Doing) → s.doing ≡ d → IsDoing m s d x → end_of d ≡ None → IsSound (advance m.p d s) → Led m s x (advance m.p d s)
  advance_led (Running [] last env) e o on sound = end_code_led last env o o.tree o.code refl (ap saved e) sound
  advance_led (Running (op ∷ ops) last env) e o on sound = code_led op ops last env o o.tree o.code refl (ap saved e) sound
  advance_led (Calling f args) e o on sound = called_at_led f args e o sound
  advance_led (Looking op methods args) e o on sound = look_led m s x keeps op methods args e o
  advance_led (Entering code args) e o on sound = entering_led m s x keeps code args e o
  advance_led (Ended end) e o on sound = absurd (cc)
  advance_led Stale e o on sound = absurd o
  advance_led Wrong e o on sound = absurd o
