-- What a program with frames names that stands in static words.
use Rattle.std.specs.Prelude.{ℕ, zero, suc, List, [], ◌∷◌, ◌++◌}
use Rattle.std.specs.List.{flat_map}
use Rattle.t_base.specs.declared.shared_parts.Const.{Const}
use Rattle.t_base.specs.declared.shared_parts.Const.TheVariants as Constant
use Rattle.t_prim.specs.Values.{Literal, PrintName}
use Rattle.cps_ir.specs.declared.args.Arg.{Arg}
use Rattle.cps_ir.specs.declared.args.Arg.TheVariants as Argument
use Rattle.frame_ir.specs.declared.forms.Place.TheVariants as At
use Rattle.frame_ir.specs.declared.forms.FrameOp.{FrameOp}
use Rattle.frame_ir.specs.declared.forms.FrameOp.TheVariants as Op
use Rattle.frame_ir.specs.declared.forms.FrameEnd.{FrameEnd}
use Rattle.frame_ir.specs.declared.forms.Block.{Block}
use Rattle.frame_ir.specs.declared.forms.Frames.{Frames}
use Rattle.frame_ir.specs.Arguments.{proc_count}
use Rattle.frame_ir.specs.Parts.{op_args, end_args}
use Rattle.frame_words.specs.Layouts.{Fixed, ClosureOf, BuiltinOf, OperationOf, TextOf, SymbolOf, PairOf, TemplateOf}
use Rattle.static_names.specs.declared.things.Thing.{Thing}
use Rattle.static_names.specs.declared.things.Thing.TheVariants as thing

abbrev pub fixed_of : Thing → Fixed
fixed_of (thing.Closure k) = ClosureOf k
fixed_of (thing.Builtin p) = BuiltinOf p
fixed_of (thing.Operation o) = OperationOf o
fixed_of (thing.Literal k) = TextOf (Literal k)
fixed_of (thing.PrintName n) = TextOf (PrintName n)
fixed_of (thing.Symbol n) = SymbolOf n
fixed_of (thing.Pair k) = PairOf k
fixed_of (thing.Template t) = TemplateOf t

-- ---- what each part names

abbrev pub of_const : Const → List Thing
of_const (Constant.Sym n) = thing.Symbol n.0 ∷ []
of_const (Constant.Str k) = thing.Literal k ∷ []
of_const (Constant.Pair k) = thing.Pair k ∷ []
of_const _ = []

-- the closures of globals stand there in any case
abbrev pub of_arg : Arg → List Thing
of_arg (Argument.Const c) = of_const c
of_arg (Argument.Var x) = []
of_arg (Argument.Proc k) = thing.Closure k ∷ []
of_arg (Argument.Global g) = []
of_arg (Argument.Builtin p) = thing.Builtin p ∷ []
of_arg (Argument.Op o) = thing.Operation o ∷ []

-- the closure of a code that captures nothing, and the template of an object
abbrev pub made_by : FrameOp → List Thing
made_by (Op.Closure to code kept At.Static) = thing.Closure code ∷ []
made_by (Op.Object to template proc kept) = thing.Template template ∷ []
made_by _ = []

abbrev pub of_op : FrameOp → List Thing
of_op op = made_by op ++ flat_map of_arg (op_args op)

abbrev pub of_end : FrameEnd → List Thing
of_end end = flat_map of_arg (end_args end)

abbrev pub of_block : Block → List Thing
of_block b = flat_map of_op b.ops.items ++ of_end b.last

-- ---- the whole

abbrev pub closures_below : ℕ → List Thing
closures_below zero = []
closures_below (suc k) = closures_below k ++ thing.Closure k ∷ []

abbrev pub named : Frames → List Thing
named p = closures_below (proc_count p.shared) ++ flat_map of_block p.blocks.items
