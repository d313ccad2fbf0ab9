-- Which programs in continuation-passing style stand for a unit: which term stands for each node.
use Rattle.std.specs.Prelude.{◌≡◌, ℕ, zero, suc, ◌≤◌, Bool, true, false, ◌⊎◌, List, [], ◌∷◌, length, map, Option, Some, None, option_map, option_and_then, slice_get, if◌then◌else◌}
use Rattle.std.specs.Option.{option_map_or}
use Rattle.t_base.specs.declared.basics.Var.{Var}
use Rattle.t_base.specs.declared.builtins.Builtin.{Builtin}
use Rattle.t_base.specs.declared.shared_parts.Const.TheVariants as Constant
use Rattle.t_base.specs.declared.shared_parts.Shared.{Shared}
use Rattle.t_core.specs.declared.forms.Core.{Core}
use Rattle.t_core.specs.declared.forms.Core.TheVariants as Node
use Rattle.t_core.specs.declared.forms.Method.{Method}
use Rattle.t_core.specs.declared.forms.FormKind.{FormKind}
use Rattle.t_core.specs.declared.forms.FormKind.TheVariants.{Define, Lset, Operation, Plain}
use Rattle.t_core.specs.declared.forms.Form.{Form}
use Rattle.t_core.specs.declared.forms.UnitCore.{UnitCore}
use Rattle.t_meaning.specs.Programs.{node_at}
use Rattle.t_meaning.specs.State.{Procedure}
use Rattle.t_meaning.specs.Operations.{lambda_of, default_of}
use Rattle.t_meaning.specs.Units.{start}
use Rattle.t_meaning.specs.Costs.{is_assigned}
use Rattle.cps_ir.specs.declared.args.Arg.{Arg}
use Rattle.cps_ir.specs.declared.args.Arg.TheVariants as Argument
use Rattle.cps_ir.specs.declared.terms.Cont.{Cont}
use Rattle.cps_ir.specs.declared.terms.Cont.TheVariants as Continuation
use Rattle.cps_ir.specs.declared.terms.Lam.{Lam}
use Rattle.cps_ir.specs.declared.terms.Term.{Term as Step}
use Rattle.cps_ir.specs.declared.terms.Cps.{Cps}
use Rattle.cps_ir.specs.States.{Closure}
use Rattle.cps_ir.specs.Calls.{default_of as cps_default_of}
use Rattle.cps_ir.specs.Running.{start as cps_start}
use Rattle.cps_ir.specs.Parts.{is_procedure, first_lams, is_assigned as cps_assigned}
use Rattle.cps_ir.specs.Reaches.{is_in}

-- a unit and a program, and for each procedure of the program the LAMBDA that it stands for: its form, and its node there
pub record Translation : Type 0 where
  pub unit : UnitCore
  pub cps : Cps
  pub origins : List (ℕ × ℕ)

-- the term at a place
abbrev pub Stands : Translation → ℕ → Step → Type 0
Stands x t term = slice_get x.cps.terms.items t ≡ Some term

-- The node's value goes to the continuation, from the term at `t` on. Around it these variables of the unit are bound, and these variables
-- are held: no term on the way binds one of them.
abbrev pub Converting : Type 1
Converting = (form : ℕ) (bound held : List ℕ) (key : ℕ) (k : Cont) (t : ℕ) → Type 0

-- ---- variables

-- a variable that isn't held and that no SET assigns
pub record IsNew (x : Translation) (held : List ℕ) (v : Var) : Type 0 where
  pub apart : is_in held v.0 ≡ false
  pub unassigned : is_assigned x.unit v ≡ false

-- variables that are new one after the other
abbrev pub AreNew : Translation → List ℕ → List Var → Type 0
AreNew x held [] = Unit {0}
AreNew x held (v ∷ vars) = IsNew x held v × AreNew x (v.0 ∷ held) vars

-- variables are added one after the other
abbrev pub adding : List Var → List ℕ → List ℕ
adding [] held = held
adding (v ∷ vars) held = adding vars (v.0 ∷ held)

abbrev pub variables : List Var → List Arg
variables vars = map Argument.Var vars

-- Assigned variables are bound by a Give alone: from `t` to `next` each of the variables that is assigned is bound anew, to its
-- argument. Those that aren't assigned are bound as they are.
abbrev pub Assigned : Translation → List ℕ → List Var → List Arg → ℕ → ℕ → Type 0
Assigned x held [] [] t next = next ≡ t
Assigned x held (v ∷ vars) (a ∷ args) t next =
    (is_assigned x.unit v ≡ false) × (a ≡ Argument.Var v) × Assigned x held vars args t next
    ⊎ (is_assigned x.unit v ≡ true) × (is_in held v.0 ≡ false) × ((rest : ℕ) × Stands x t (Step.Give (Continuation.Lam v rest) a) × Assigned x (v.0 ∷ held) vars args rest next)
Assigned x held _ _ t next = ⊥

-- ---- operands

-- a global that a DEFINE of a LAMBDA defines
abbrev pub is_proc : UnitCore → ℕ → Bool
is_proc unit g = option_map_or is_procedure (slice_get unit.shared.globals.items g) false

-- the argument that a node is by itself, where it is ready: a constant, a variable that is never assigned, a global's procedure, a
-- builtin or an operation
abbrev pub ready_arg : UnitCore → Core → Option Arg
ready_arg unit (Node.Const c) = Some (Argument.Const c)
ready_arg unit (Node.Local v) = if is_assigned unit v then None else Some (Argument.Var v)
ready_arg unit (Node.Global g) = if is_proc unit g then Some (Argument.Global g) else None
ready_arg unit (Node.Builtin b) = Some (Argument.Builtin b)
ready_arg unit (Node.Op o) = Some (Argument.Op o)
ready_arg unit _ = None

abbrev pub ready_at : Translation → ℕ → ℕ → Option Arg
ready_at x form key = option_and_then (ready_arg x.unit) (node_at x.unit form key)

-- a variable that stands as an argument is bound
abbrev pub IsBound : List ℕ → Arg → Type 0
IsBound bound (Argument.Var v) = is_in bound v.0 ≡ true
IsBound bound _ = Unit {0}

-- Nodes from left to right, each an argument: from `t` to `last` their values are found, and then `inner` are held. A node that is ready
-- stands as it is, and another one has a new variable; but where a variable of its own is given for a node, its value goes there.
abbrev pub Values : Translation → Converting → ℕ → List ℕ → List ℕ → List (Option Var) → List ℕ → List Arg → ℕ → ℕ → List ℕ → Type 0
Values x conv form bound held [] [] [] t last inner = (last ≡ t) × (inner ≡ held)
Values x conv form bound held (None ∷ tos) (key ∷ keys) (a ∷ args) t last inner =
    (ready_at x form key ≡ Some a) × IsBound bound a × Values x conv form bound held tos keys args t last inner
    ⊎ (ready_at x form key ≡ None) × ((v : Var) × (next : ℕ) × (a ≡ Argument.Var v) × IsNew x held v × conv form bound held key (Continuation.Lam v next) t × Values x conv form bound (v.0 ∷ held) tos keys args next last inner)
Values x conv form bound held (Some v ∷ tos) (key ∷ keys) (a ∷ args) t last inner =
    (next : ℕ) × (a ≡ Argument.Var v) × IsNew x held v × conv form bound held key (Continuation.Lam v next) t × Values x conv form bound (v.0 ∷ held) tos keys args next last inner
Values x conv form bound held _ _ _ t last inner = ⊥

-- operands go to no variable of theirs
abbrev pub nowhere : List ℕ → List (Option Var)
nowhere keys = map (λ key. None) keys

-- a term over the values of nodes, which stands at `last`
pub record OverAll (x : Translation) (conv : Converting) (form : ℕ) (bound held : List ℕ) (keys : List ℕ) (args : List Arg) (term : Step) (t : ℕ) : Type 0 where
  pub last : ℕ
  pub inner : List ℕ
  pub values : Values x conv form bound held (nowhere keys) keys args t last inner
  pub stands : Stands x last term

-- a term over one node's value
abbrev pub OverOne : Translation → Converting → ℕ → List ℕ → List ℕ → ℕ → (Arg → Step) → ℕ → Type 0
OverOne x conv form bound held key term t = (a : Arg) × OverAll x conv form bound held (key ∷ []) (a ∷ []) (term a) t

-- ---- procedures

-- a procedure with these parameters and this body, where these variables are bound around it
pub record LamAs (x : Translation) (conv : Converting) (form : ℕ) (bound : List ℕ) (params : List Var) (body : ℕ) (lam : Lam) : Type 0 where
  pub start : ℕ
  pub names_new : AreNew x bound lam.params
  pub assigned : Assigned x (adding lam.params bound) params (variables lam.params) lam.body start
  pub body_as : conv form (adding params bound) (adding params bound) body (Continuation.Var lam.k) start

-- the same of the procedure at a place
abbrev pub LamAt : Translation → Converting → ℕ → List ℕ → List Var → ℕ → ℕ → Type 0
LamAt x conv form bound params body l = (lam : Lam) × (slice_get x.cps.lams.items l ≡ Some lam) × LamAs x conv form bound params body lam

-- a procedure that stands for a LAMBDA; it is none of a global or an operation
pub record LambdaAt (x : Translation) (conv : Converting) (form : ℕ) (bound : List ℕ) (key : ℕ) (params : List Var) (body : ℕ) (l : ℕ) : Type 0 where
  pub lam_at : LamAt x conv form bound params body l
  pub behind : first_lams x.cps ≤ l
  pub origin : slice_get x.origins l ≡ Some (form, key)

-- ---- continuations

-- what needs its continuation twice gives a name to one that is written out
abbrev pub WithName : Translation → Cont → ℕ → (Cont → ℕ → Type 0) → Type 0
WithName x (Continuation.Var k) t rest_as = rest_as (Continuation.Var k) t
WithName x (Continuation.Lam param body) t rest_as = (j : Var) × (rest : ℕ) × Stands x t (Step.Join j param body rest) × rest_as (Continuation.Var j) rest

-- ---- nodes, by their kinds

-- a LAMBDA whose value goes to a variable is bound by Labels
abbrev pub LambdaFor : Translation → Converting → ℕ → List ℕ → List ℕ → ℕ → List Var → ℕ → Cont → ℕ → Type 0
LambdaFor x conv form bound held key params body (Continuation.Var k) t =
    (l : ℕ) × LambdaAt x conv form bound key params body l × Stands x t (Step.Give (Continuation.Var k) (Argument.Proc l))
LambdaFor x conv form bound held key params body (Continuation.Lam v b) t =
    (l : ℕ) × IsNew x held v × LambdaAt x conv form bound key params body l × Stands x t (Step.Labels (v ∷ []) (l ∷ []) b)

pub record IfAs (x : Translation) (conv : Converting) (form : ℕ) (bound held : List ℕ) (test first second : ℕ) (k : Cont) (t : ℕ) : Type 0 where
  pub first_at : ℕ
  pub second_at : ℕ
  pub over : OverOne x conv form bound held test (λ a. Step.If a first_at second_at) t
  pub first_as : conv form bound held first k first_at
  pub second_as : conv form bound held second k second_at

-- the value of each item but the last goes to a variable that is used nowhere
abbrev pub BlockAs : Translation → Converting → ℕ → List ℕ → List ℕ → List ℕ → Cont → ℕ → Type 0
BlockAs x conv form bound held [] k t = ⊥
BlockAs x conv form bound held (key ∷ []) k t = conv form bound held key k t
BlockAs x conv form bound held (key ∷ next ∷ keys) k t =
    (unused : Var) × (place : ℕ) × IsNew x held unused × conv form bound held key (Continuation.Lam unused place) t × BlockAs x conv form bound held (next ∷ keys) k place

-- the value of a variable that is never assigned goes to it
abbrev pub own_place : UnitCore → Var → Option Var
own_place unit v = if is_assigned unit v then None else Some v

pub record LetAs (x : Translation) (conv : Converting) (form : ℕ) (bound held : List ℕ) (vars : List Var) (keys : List ℕ) (body : ℕ) (k : Cont) (t : ℕ) : Type 0 where
  pub args : List Arg
  pub inner : List ℕ
  pub behind : ℕ
  pub start : ℕ
  pub values : Values x conv form bound held (map (own_place x.unit) vars) keys args t behind inner
  pub assigned : Assigned x inner vars args behind start
  pub body_as : conv form (adding vars bound) (adding vars held) body k start

-- what is given to a name of a LABELS that is assigned, before it has its LAMBDA
abbrev pub unset : UnitCore → Var → Arg
unset unit v = if is_assigned unit v then Argument.Const Constant.Nil else Argument.Var v

-- the assigned ones of these variables are added
abbrev pub adding_assigned : UnitCore → List Var → List ℕ → List ℕ
adding_assigned unit [] held = held
adding_assigned unit (v ∷ vars) held = adding_assigned unit vars (if is_assigned unit v then v.0 ∷ held else held)

-- a new name stands for a variable that is assigned, and the variable itself for another one
abbrev pub Names : UnitCore → List Var → List Var → Type 0
Names unit [] [] = Unit {0}
Names unit (v ∷ vars) (y ∷ names) = ((is_assigned unit v ≡ true) ⊎ (y ≡ v)) × Names unit vars names
Names unit _ _ = ⊥

-- each of the variables that is assigned is set to what its name stands for
abbrev pub Sets : Translation → List ℕ → List Var → List Var → ℕ → ℕ → Type 0
Sets x held [] [] t next = next ≡ t
Sets x held (v ∷ vars) (y ∷ names) t next =
    (is_assigned x.unit v ≡ false) × Sets x held vars names t next
    ⊎ (is_assigned x.unit v ≡ true) × ((unused : Var) × (rest : ℕ) × IsNew x held unused × Stands x t (Step.Set v (Argument.Var y) (Continuation.Lam unused rest)) × Sets x held vars names rest next)
Sets x held _ _ t next = ⊥

-- a node that is a LAMBDA, at the procedure of a place
abbrev pub LambdaNode : Translation → Converting → ℕ → List ℕ → ℕ → Option Core → ℕ → Type 0
LambdaNode x conv form bound key (Some (Node.Lambda params body)) l = LambdaAt x conv form bound key params body l
LambdaNode x conv form bound key _ l = ⊥

abbrev pub LambdaNodes : Translation → Converting → ℕ → List ℕ → List ℕ → List ℕ → Type 0
LambdaNodes x conv form bound [] [] = Unit {0}
LambdaNodes x conv form bound (key ∷ keys) (l ∷ lams) = LambdaNode x conv form bound key (node_at x.unit form key) l × LambdaNodes x conv form bound keys lams
LambdaNodes x conv form bound _ _ = ⊥

-- the assigned names are bound first, then one Labels binds all LAMBDAs, and then the assigned names are set
pub record LabelsAs (x : Translation) (conv : Converting) (form : ℕ) (bound held : List ℕ) (vars : List Var) (keys : List ℕ) (body : ℕ) (k : Cont) (t : ℕ) : Type 0 where
  pub names : List Var
  pub lams : List ℕ
  pub at : ℕ
  pub behind : ℕ
  pub start : ℕ
  pub as_many : length keys ≡ length vars
  pub unset : Assigned x held vars (map (unset x.unit) vars) t at
  pub names_for : Names x.unit vars names
  pub names_new : AreNew x (adding_assigned x.unit vars held) names
  pub stands : Stands x at (Step.Labels names lams behind)
  pub lambdas : LambdaNodes x conv form (adding vars bound) keys lams
  pub sets : Sets x (adding names (adding_assigned x.unit vars held)) vars names behind start
  pub body_as : conv form (adding vars bound) (adding vars held) body k start

pub record CatchAs (x : Translation) (conv : Converting) (form : ℕ) (bound held : List ℕ) (v : Var) (body : ℕ) (k : Cont) (t : ℕ) : Type 0 where
  pub name : Var
  pub inner : ℕ
  pub start : ℕ
  pub value : Var
  pub end : ℕ
  pub stands : Stands x t (Step.Catch name inner k)
  pub name_new : IsNew x held name
  pub assigned : Assigned x (name.0 ∷ held) (v ∷ []) (Argument.Var name ∷ []) inner start
  pub body_as : conv form (v.0 ∷ bound) (v.0 ∷ held) body (Continuation.Lam value end) start
  pub value_new : IsNew x held value
  pub ends : Stands x end (Step.Uncatch k (Argument.Var value))

-- the methods of an OBJECT, each with its operation and its procedure
abbrev pub MethodsAs : Translation → Converting → ℕ → List ℕ → List Method → List ℕ → List ℕ → Type 0
MethodsAs x conv form bound [] [] [] = Unit {0}
MethodsAs x conv form bound (m ∷ methods) (o ∷ ops) (l ∷ lams) = (o ≡ m.op) × LamAt x conv form bound m.params m.body l × MethodsAs x conv form bound methods ops lams
MethodsAs x conv form bound _ _ _ = ⊥

pub record ObjectAs (x : Translation) (conv : Converting) (form : ℕ) (bound held : List ℕ) (proc : ℕ) (methods : List Method) (k : Cont) (t : ℕ) : Type 0 where
  pub ops : List ℕ
  pub lams : List ℕ
  pub methods_as : MethodsAs x conv form bound methods ops lams
  pub over : OverOne x conv form bound held proc (λ a. Step.Object a ops lams k) t

pub record CallAs (x : Translation) (conv : Converting) (form : ℕ) (bound held : List ℕ) (operator : ℕ) (operands : List ℕ) (k : Cont) (t : ℕ) : Type 0 where
  pub f : Arg
  pub args : List Arg
  pub over : OverAll x conv form bound held (operator ∷ operands) (f ∷ args) (Step.Call f args k) t

pub record PrimAs (x : Translation) (conv : Converting) (form : ℕ) (bound held : List ℕ) (b : Builtin) (operands : List ℕ) (k : Cont) (t : ℕ) : Type 0 where
  pub args : List Arg
  pub over : OverAll x conv form bound held operands args (Step.Prim b args k) t

-- the term at `t` for a node
abbrev pub ConvertsNode : Translation → Converting → ℕ → List ℕ → List ℕ → ℕ → Option Core → Cont → ℕ → Type 0
ConvertsNode x conv form bound held key None k t = ⊥
ConvertsNode x conv form bound held key (Some (Node.Const c)) k t = Stands x t (Step.Give k (Argument.Const c))
ConvertsNode x conv form bound held key (Some (Node.Local v)) k t = (is_in bound v.0 ≡ true) × Stands x t (Step.Give k (Argument.Var v))
ConvertsNode x conv form bound held key (Some (Node.Global g)) k t = Stands x t (if is_proc x.unit g then Step.Give k (Argument.Global g) else Step.GlobalGet g k)
ConvertsNode x conv form bound held key (Some (Node.Builtin b)) k t = Stands x t (Step.Give k (Argument.Builtin b))
ConvertsNode x conv form bound held key (Some (Node.Op o)) k t = Stands x t (Step.Give k (Argument.Op o))
ConvertsNode x conv form bound held key (Some (Node.Lambda params body)) k t = LambdaFor x conv form bound held key params body k t
ConvertsNode x conv form bound held key (Some (Node.If test first second)) k t = WithName x k t (IfAs x conv form bound held test first second)
ConvertsNode x conv form bound held key (Some (Node.Block items)) k t = BlockAs x conv form bound held items k t
ConvertsNode x conv form bound held key (Some (Node.Let vars values body)) k t = LetAs x conv form bound held vars values body k t
ConvertsNode x conv form bound held key (Some (Node.Labels vars lambdas body)) k t = LabelsAs x conv form bound held vars lambdas body k t
ConvertsNode x conv form bound held key (Some (Node.SetLocal v value)) k t = (is_in bound v.0 ≡ true) × OverOne x conv form bound held value (λ a. Step.Set v a k) t
ConvertsNode x conv form bound held key (Some (Node.SetGlobal g value)) k t = (is_proc x.unit g ≡ false) × OverOne x conv form bound held value (λ a. Step.GlobalSet g a k) t
ConvertsNode x conv form bound held key (Some (Node.Catch v body)) k t = WithName x k t (CatchAs x conv form bound held v body)
ConvertsNode x conv form bound held key (Some (Node.Object proc methods)) k t = ObjectAs x conv form bound held proc methods k t
ConvertsNode x conv form bound held key (Some (Node.Call operator operands tail)) k t = CallAs x conv form bound held operator operands k t
ConvertsNode x conv form bound held key (Some (Node.Prim b operands)) k t = PrimAs x conv form bound held b operands k t

-- nodes nested less deep than that
abbrev pub ConvertsWithin : Translation → ℕ → Converting
ConvertsWithin x zero form bound held key k t = ⊥
ConvertsWithin x (suc depth) form bound held key k t = ConvertsNode x (ConvertsWithin x depth) form bound held key (node_at x.unit form key) k t

-- ---- forms

-- the name that a defining form gives
abbrev pub name_of_global : Shared → ℕ → Option Arg
name_of_global shared g = option_map (λ info. Argument.Const (Constant.Sym info.name)) (slice_get shared.globals.items g)

abbrev pub name_of_op : Shared → ℕ → Option Arg
name_of_op shared o = option_map (λ info. Argument.Const (Constant.Sym info.name)) (slice_get shared.ops.items o)

-- the value of a form goes to a new variable, or to its global first; from `t` on, up to `next`, and then `a` stands for what the form gives
pub record PlainAs (x : Translation) (conv : Converting) (form root : ℕ) (t next : ℕ) (a : Arg) : Type 0 where
  pub value : Var
  pub unassigned : is_assigned x.unit value ≡ false
  pub root_as : conv form [] [] root (Continuation.Lam value next) t
  pub gives : a ≡ Argument.Var value

pub record InitAs (x : Translation) (conv : Converting) (form root g : ℕ) (t next : ℕ) (a : Arg) : Type 0 where
  pub unused : Var
  pub unassigned : is_assigned x.unit unused ≡ false
  pub no_procedure : is_proc x.unit g ≡ false
  pub over : OverOne x conv form [] [] root (λ value. Step.GlobalInit g value (Continuation.Lam unused next)) t
  pub gives : name_of_global x.cps.shared g ≡ Some a

-- a DEFINE of a LAMBDA and a DEFINE-OPERATION make no term
abbrev pub FormAs : Translation → Converting → ℕ → FormKind → Option Procedure → ℕ → ℕ → ℕ → Arg → Type 0
FormAs x conv form (Define g) (Some f) root t next a = (next ≡ t) × (is_proc x.unit g ≡ true) × (name_of_global x.cps.shared g ≡ Some a)
FormAs x conv form (Define g) None root t next a = InitAs x conv form root g t next a
FormAs x conv form (Lset g) f root t next a = InitAs x conv form root g t next a
FormAs x conv form (Operation o) f root t next a = (next ≡ t) × (name_of_op x.cps.shared o ≡ Some a)
FormAs x conv form Plain f root t next a = PlainAs x conv form root t next a

-- the forms from place `form` on, in order from `t` on; `before` stands for the value before them
abbrev pub FormsAs : Translation → Converting → ℕ → List Form → Arg → ℕ → Type 0
FormsAs x conv form [] before t = Stands x t (Step.Halt before)
FormsAs x conv form (f ∷ forms) before t = (next : ℕ) × (a : Arg) × FormAs x conv form f.kind (lambda_of form f) f.root t next a × FormsAs x conv (suc form) forms a next

-- ---- the procedures that stand from the start

-- the closure of a LAMBDA at top level
abbrev pub RootAs : Translation → Converting → Procedure → Closure → Type 0
RootAs x conv f c = LamAt x conv f.form [] f.params f.body c.lam

abbrev pub RootsAs : Translation → Converting → List Procedure → List Closure → Type 0
RootsAs x conv [] [] = Unit {0}
RootsAs x conv (f ∷ fs) (c ∷ cs) = RootAs x conv f c × RootsAs x conv fs cs
RootsAs x conv _ _ = ⊥

-- both have a default, or none has
abbrev pub DefaultAs : Translation → Converting → Option Procedure → Option Closure → Type 0
DefaultAs x conv None None = Unit {0}
DefaultAs x conv (Some f) (Some c) = RootAs x conv f c
DefaultAs x conv _ _ = ⊥

-- ---- the whole

-- the program stands for the unit, its nodes being nested less deep than `depth`
pub record IsTranslated (x : Translation) : Type 0 where
  pub depth : ℕ
  pub shared : x.cps.shared ≡ x.unit.shared
  -- a variable is assigned where it was, and no other one is
  pub assigned : (v : Var) → cps_assigned x.cps v.0 ≡ is_assigned x.unit v
  pub forms : FormsAs x (ConvertsWithin x depth) 0 x.unit.forms.items (Argument.Const Constant.Nil) x.cps.entry
  -- the closures that stand from the start, with the same numbers, and what globals have then
  pub closures : RootsAs x (ConvertsWithin x depth) (start x.unit).closures (cps_start x.cps).closures
  pub globals : (cps_start x.cps).globals ≡ (start x.unit).globals
  pub defaults : (o : ℕ) → DefaultAs x (ConvertsWithin x depth) (default_of x.unit o) (cps_default_of x.cps o)

pub record Converts (unit : UnitCore) (cps : Cps) : Type 0 where
  pub origins : List (ℕ × ℕ)
  pub translated : IsTranslated (record { unit = unit; cps = cps; origins = origins })
