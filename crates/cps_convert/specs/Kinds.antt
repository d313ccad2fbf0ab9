-- What is made for a node of each kind.
use Rattle.std.specs.Prelude.{◌≡◌, ℕ, suc, ◌≤◌, ◌<◌, Bool, if◌then◌else◌, List, [], ◌∷◌, ◌++◌, Option, Some}
use Rattle.t_base.specs.declared.basics.Var.{Var}
use Rattle.t_core.specs.declared.forms.Core.{Core}
use Rattle.t_core.specs.declared.forms.Core.TheVariants as Node
use Rattle.t_core.specs.declared.forms.Method.{Method}
use Rattle.t_core.specs.declared.forms.UnitCore.{UnitCore}
use Rattle.t_meaning.specs.Programs.{node_at}
use Rattle.cps_ir.specs.declared.args.Arg.{Arg}
use Rattle.cps_ir.specs.declared.args.Arg.TheVariants as Argument
use Rattle.cps_ir.specs.declared.terms.Cont.{Cont}
use Rattle.cps_ir.specs.declared.terms.Cont.TheVariants as Continuation
use Rattle.cps_ir.specs.declared.terms.Lam.{Lam}
use Rattle.cps_ir.specs.declared.terms.Term.TheVariants as Step
use Rattle.cps_ir.specs.declared.terms.Cps.{Cps}
use Rattle.cps_ir.specs.Parts.{first_lams}
use Rattle.cps_conversion.specs.Conversion.{Translation, Stands, ConvertsNode, ConvertsWithin, is_proc}
use Rattle.cps_convert.specs.declared.conversion.Conversion.{Conversion}
use Rattle.cps_convert.specs.declared.operands.Job.{Job}
use Rattle.cps_convert.specs.Growing.{StandsAs, Includes, GrowsTo}
use Rattle.cps_convert.specs.Claims.{Setting, Spot, GoesTo, LamClaim, translation}
use Rattle.cps_convert.specs.Operands.{AreOperands}

-- ---- terms over the values of nodes

-- The term that stands for the node once its operands have their values, which the jobs give them. Other kinds have none.
abbrev pub LastAs : Translation → ℕ → (next after : ℕ) → Core → Cont → List Job → ℕ → Type 0
LastAs x form next after (Node.Const c) k jobs t = (jobs ≡ []) × Stands x t (Step.Give k (Argument.Const c))
LastAs x form next after (Node.Local v) k jobs t = (jobs ≡ []) × Stands x t (Step.Give k (Argument.Var v))
LastAs x form next after (Node.Global g) k jobs t = (jobs ≡ []) × Stands x t (if is_proc x.unit g then Step.Give k (Argument.Global g) else Step.GlobalGet g k)
LastAs x form next after (Node.Builtin b) k jobs t = (jobs ≡ []) × Stands x t (Step.Give k (Argument.Builtin b))
LastAs x form next after (Node.Op o) k jobs t = (jobs ≡ []) × Stands x t (Step.Give k (Argument.Op o))
LastAs x form next after (Node.SetLocal v value) k jobs t = (a : Arg) × AreOperands x.unit form next after (value ∷ []) (a ∷ []) jobs × Stands x t (Step.Set v a k)
LastAs x form next after (Node.SetGlobal g value) k jobs t = (a : Arg) × AreOperands x.unit form next after (value ∷ []) (a ∷ []) jobs × Stands x t (Step.GlobalSet g a k)
LastAs x form next after (Node.Call operator operands tail) k jobs t =
    (f : Arg) × (args : List Arg) × AreOperands x.unit form next after (operator ∷ operands) (f ∷ args) jobs × Stands x t (Step.Call f args k)
LastAs x form next after (Node.Prim b operands) k jobs t = (args : List Arg) × AreOperands x.unit form next after operands args jobs × Stands x t (Step.Prim b args k)
LastAs x form next after _ k jobs t = ⊥

pub record LastMade (unit : UnitCore) (form : ℕ) (a b : Conversion) (core : Core) (k : Cont) (jobs more : List Job) (t : ℕ) : Type 0 where
  pub grows : GrowsTo a b
  pub added : List Job
  pub after : more ≡ jobs ++ added
  pub holds : (cps : Cps) (origins : List (ℕ × ℕ)) → Includes (translation unit cps origins) b → LastAs (translation unit cps origins) form a.next b.next core k added t

-- ---- continuations

-- a continuation that is written out has a new name
abbrev pub HasName : (next after : ℕ) → Cont → Cont → Type 0
HasName next after (Continuation.Var k) name = (name ≡ Continuation.Var k) × (after ≡ next)
HasName next after (Continuation.Lam param body) name = (j : Var) × (name ≡ Continuation.Var j) × (j.0 ≡ next) × (next < after)

pub record IsNameOf (a b : Conversion) (k name : Cont) : Type 0 where
  pub grows : GrowsTo a b
  pub is : HasName a.next b.next k name

-- where the continuation is written out, a Join in front of `rest` binds the name
abbrev pub JoinsAs : Translation → Cont → Cont → (rest t : ℕ) → Type 0
JoinsAs x (Continuation.Lam param body) (Continuation.Var j) rest t = Stands x t (Step.Join j param body rest)
JoinsAs x _ _ rest t = t ≡ rest

pub record Joined (a b : Conversion) (k name : Cont) (rest t : ℕ) : Type 0 where
  pub grows : GrowsTo a b
  pub holds : (x : Translation) → Includes x b → JoinsAs x k name rest t

-- a procedure goes to a continuation
abbrev pub GivesAs : Translation → Cont → (l t : ℕ) → Type 0
GivesAs x (Continuation.Var k) l t = Stands x t (Step.Give (Continuation.Var k) (Argument.Proc l))
GivesAs x (Continuation.Lam param body) l t = Stands x t (Step.Labels (param ∷ []) (l ∷ []) body)

pub record Given (a b : Conversion) (k : Cont) (l t : ℕ) : Type 0 where
  pub grows : GrowsTo a b
  pub holds : (x : Translation) → Includes x b → GivesAs x k l t

-- ---- a node of a kind

abbrev pub KindClaim : Translation → List Bool → (base next form key : ℕ) → Core → Cont → ℕ → Type 0
KindClaim x marks base next form key core k t =
    node_at x.unit form key ≡ Some core → Setting x.unit marks base → (bound held : List ℕ) → Spot x base next form key bound held → GoesTo x base next form (suc key) held k
    → ConvertsNode x (ConvertsWithin x key) form bound held key (Some core) k t

pub record KindConverted (unit : UnitCore) (marks : List Bool) (form : ℕ) (a b : Conversion) (key : ℕ) (core : Core) (k : Cont) (t : ℕ) : Type 0 where
  pub grows : GrowsTo a b
  pub holds : (cps : Cps) (origins : List (ℕ × ℕ)) → Includes (translation unit cps origins) b → (base : ℕ) → KindClaim (translation unit cps origins) marks base a.next form key core k t

-- the procedure at a place is made for the LAMBDA at a node
abbrev pub LambdaIs : Translation → List Bool → (base next form key : ℕ) → Option Core → ℕ → Type 0
LambdaIs x marks base next form key (Some (Node.Lambda params body)) l =
    (lam : Lam) × (first_lams x.cps ≤ l) × StandsAs x l (record { lam = lam; form = form; node = key }) × LamClaim x marks base next form key params body lam
LambdaIs x marks base next form key _ l = ⊥

pub record LambdaMade (unit : UnitCore) (marks : List Bool) (form : ℕ) (a b : Conversion) (key l : ℕ) : Type 0 where
  pub grows : GrowsTo a b
  pub holds : (cps : Cps) (origins : List (ℕ × ℕ)) → Includes (translation unit cps origins) b → (base : ℕ) → LambdaIs (translation unit cps origins) marks base a.next form key (node_at unit form key) l

-- the same of the LAMBDAs at nodes, which stand before a node
abbrev pub LambdasAre : Translation → List Bool → (base next form above : ℕ) → List ℕ → List ℕ → Type 0
LambdasAre x marks base next form above [] [] = Unit {0}
LambdasAre x marks base next form above (key ∷ keys) (l ∷ lams) = (key < above) × LambdaIs x marks base next form key (node_at x.unit form key) l × LambdasAre x marks base next form above keys lams
LambdasAre x marks base next form above _ _ = ⊥

pub record LambdasMade (unit : UnitCore) (marks : List Bool) (form : ℕ) (a b : Conversion) (above : ℕ) (keys lams : List ℕ) : Type 0 where
  pub grows : GrowsTo a b
  pub holds : (cps : Cps) (origins : List (ℕ × ℕ)) → Includes (translation unit cps origins) b → (base : ℕ) → LambdasAre (translation unit cps origins) marks base a.next form above keys lams

-- ---- methods

abbrev pub MethodIs : Translation → List Bool → (base next form key : ℕ) → Method → ℕ → Type 0
MethodIs x marks base next form key m l =
    (lam : Lam) × StandsAs x l (record { lam = lam; form = form; node = key }) × LamClaim x marks base next form key m.params m.body lam

abbrev pub MethodsAre : Translation → List Bool → (base next form key : ℕ) → List Method → List ℕ → List ℕ → Type 0
MethodsAre x marks base next form key [] [] [] = Unit {0}
MethodsAre x marks base next form key (m ∷ methods) (o ∷ ops) (l ∷ lams) = (o ≡ m.op) × MethodIs x marks base next form key m l × MethodsAre x marks base next form key methods ops lams
MethodsAre x marks base next form key _ _ _ = ⊥

pub record MethodMade (unit : UnitCore) (marks : List Bool) (form : ℕ) (a b : Conversion) (key : ℕ) (m : Method) (l : ℕ) : Type 0 where
  pub grows : GrowsTo a b
  pub holds : (cps : Cps) (origins : List (ℕ × ℕ)) → Includes (translation unit cps origins) b → (base : ℕ) → MethodIs (translation unit cps origins) marks base a.next form key m l

pub record MethodsMade (unit : UnitCore) (marks : List Bool) (form : ℕ) (a b : Conversion) (key : ℕ) (methods : List Method) (ops lams : List ℕ) : Type 0 where
  pub grows : GrowsTo a b
  pub holds : (cps : Cps) (origins : List (ℕ × ℕ)) → Includes (translation unit cps origins) b → (base : ℕ) → MethodsAre (translation unit cps origins) marks base a.next form key methods ops lams
