-- Units of the kinds of nodes that are simplest, and what terms stand for them.
use Rattle.std.specs.Prelude.{◌≡◌, ℕ, Bool, true, false, ◌&&◌, List, [], ◌∷◌, Some, slice_get}
use Rattle.t_core.specs.declared.forms.Core.{Core}
use Rattle.t_core.specs.declared.forms.Core.TheVariants as Node
use Rattle.t_core.specs.declared.forms.FormKind.{FormKind}
use Rattle.t_core.specs.declared.forms.FormKind.TheVariants.{Define, Lset, Operation, Plain}
use Rattle.t_core.specs.declared.forms.Form.{Form}
use Rattle.t_core.specs.declared.forms.UnitCore.{UnitCore}
use Rattle.t_meaning.specs.Programs.{node_at}
use Rattle.cps_ir.specs.declared.args.Arg.{Arg}
use Rattle.cps_ir.specs.declared.args.Arg.TheVariants as Argument
use Rattle.cps_ir.specs.declared.terms.Term.{Term}
use Rattle.cps_ir.specs.declared.terms.Term.TheVariants as Step
use Rattle.cps_ir.specs.declared.terms.Cps.{Cps}
use Rattle.cps_conversion.specs.Conversion.{Converts}
use Rattle.conversion_laws.specs.Owed.{IsOwed}

-- ---- nodes

-- a node of a kind that has no use of globals, operations, objects or escapes, and sets no variable
abbrev pub is_plain : Core → Bool
is_plain (Node.Const c) = true
is_plain (Node.Local v) = true
is_plain (Node.Global g) = false
is_plain (Node.Builtin b) = true
is_plain (Node.Op o) = false
is_plain (Node.Lambda params body) = true
is_plain (Node.If test a b) = true
is_plain (Node.Block items) = true
is_plain (Node.Let vars values body) = true
is_plain (Node.Labels vars lambdas body) = true
is_plain (Node.SetLocal v value) = false
is_plain (Node.SetGlobal g value) = false
is_plain (Node.Catch v body) = false
is_plain (Node.Object proc methods) = false
is_plain (Node.Call operator operands tail) = true
is_plain (Node.Prim b operands) = true

abbrev pub is_no_catch : Core → Bool
is_no_catch (Node.Catch v body) = false
is_no_catch _ = true

abbrev pub is_plain_kind : FormKind → Bool
is_plain_kind (Define g) = false
is_plain_kind (Lset g) = false
is_plain_kind (Operation o) = false
is_plain_kind Plain = true

-- all nodes of the unit pass the test
abbrev pub Passes : (Core → Bool) → UnitCore → Type 0
Passes test unit = (form key : ℕ) (node : Core) → node_at unit form key ≡ Some node → test node ≡ true

-- without assigned variables, globals, operations, objects and CATCH
pub record IsPlain (unit : UnitCore) : Type 0 where
  pub kinds : (at : ℕ) (form : Form) → slice_get unit.forms.items at ≡ Some form → is_plain_kind form.kind ≡ true
  pub nodes : Passes is_plain unit

-- ---- terms

abbrev pub is_plain_arg : Arg → Bool
is_plain_arg (Argument.Const c) = true
is_plain_arg (Argument.Var v) = true
is_plain_arg (Argument.Proc l) = true
is_plain_arg (Argument.Global g) = false
is_plain_arg (Argument.Builtin b) = true
is_plain_arg (Argument.Op o) = false

abbrev pub are_plain : List Arg → Bool
are_plain [] = true
are_plain (a ∷ args) = is_plain_arg a && are_plain args

-- Call, Prim, If, Labels, Join, Give and Halt alone, over no global or operation
abbrev pub is_plain_term : Term → Bool
is_plain_term (Step.Call f args k) = is_plain_arg f && are_plain args
is_plain_term (Step.Prim b args k) = are_plain args
is_plain_term (Step.If test a b) = is_plain_arg test
is_plain_term (Step.Labels vars lams body) = true
is_plain_term (Step.Join k param body rest) = true
is_plain_term (Step.Give k value) = is_plain_arg value
is_plain_term (Step.Halt value) = is_plain_arg value
is_plain_term _ = false

abbrev pub is_no_catch_term : Term → Bool
is_no_catch_term (Step.Catch escape body k) = false
is_no_catch_term (Step.Uncatch k value) = false
is_no_catch_term _ = true

-- all terms of the program pass the test
abbrev pub TermsPass : (Term → Bool) → Cps → Type 0
TermsPass test cps = (t : ℕ) (term : Term) → slice_get cps.terms.items t ≡ Some term → test term ≡ true

-- ---- laws

abbrev pub PlainGivesPlain : Type 0
PlainGivesPlain = (unit : UnitCore) (cps : Cps) → Converts unit cps → IsOwed cps → IsPlain unit → TermsPass is_plain_term cps

abbrev pub NoCatchIsMade : Type 0
NoCatchIsMade = (unit : UnitCore) (cps : Cps) → Converts unit cps → IsOwed cps → Passes is_no_catch unit → TermsPass is_no_catch_term cps
