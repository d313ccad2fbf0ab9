-- Operands, and the nodes whose values they are.
use Rattle.std.specs.Prelude.{◌≡◌, ℕ, ◌≤◌, ◌<◌, ◌⊎◌, Bool, true, false, List, [], ◌∷◌, ◌++◌, Option, Some, None, option_and_then, map}
use Rattle.t_base.specs.declared.basics.Var.{Var}
use Rattle.t_core.specs.declared.forms.UnitCore.{UnitCore}
use Rattle.t_meaning.specs.Programs.{node_at}
use Rattle.t_meaning.specs.Costs.{is_assigned}
use Rattle.cps_ir.specs.declared.args.Arg.{Arg}
use Rattle.cps_ir.specs.declared.args.Arg.TheVariants as Argument
use Rattle.cps_ir.specs.declared.terms.Cont.TheVariants as Continuation
use Rattle.cps_ir.specs.declared.terms.Cps.{Cps}
use Rattle.cps_conversion.specs.Conversion.{Translation, Converting, IsNew, ConvertsWithin, ready_arg}
use Rattle.cps_convert.specs.declared.conversion.Conversion.{Conversion}
use Rattle.cps_convert.specs.declared.operands.Job.{Job}
use Rattle.cps_convert.specs.Growing.{Includes, GrowsTo}
use Rattle.cps_convert.specs.Claims.{IsOuter, AreOuter, IsScopedIn, Setting, translation}

abbrev pub ready_of : UnitCore → ℕ → ℕ → Option Arg
ready_of unit form key = option_and_then (ready_arg unit) (node_at unit form key)

-- the node is ready as this argument; or it isn't, and its value is to go to a new variable
abbrev pub IsOperand : UnitCore → ℕ → (next after : ℕ) → ℕ → Arg → List Job → Type 0
IsOperand unit form next after key a jobs =
    (ready_of unit form key ≡ Some a) × (jobs ≡ []) × (after ≡ next)
    ⊎ (ready_of unit form key ≡ None) × ((v : Var) × (a ≡ Argument.Var v) × (v.0 ≡ next) × (jobs ≡ record { node = key; var = v } ∷ []) × (next < after))

-- the same of nodes from left to right
abbrev pub AreOperands : UnitCore → ℕ → (next after : ℕ) → List ℕ → List Arg → List Job → Type 0
AreOperands unit form next after [] [] jobs = (jobs ≡ []) × (after ≡ next)
AreOperands unit form next after (key ∷ keys) (a ∷ args) jobs =
    (mid : ℕ) × (first : List Job) × (rest : List Job) × (jobs ≡ first ++ rest) × IsOperand unit form next mid key a first × AreOperands unit form mid after keys args rest
AreOperands unit form next after _ _ jobs = ⊥

pub record IsOperandAdded (unit : UnitCore) (form : ℕ) (a b : Conversion) (key : ℕ) (arg : Arg) (jobs more : List Job) : Type 0 where
  pub grows : GrowsTo a b
  pub added : List Job
  pub after : more ≡ jobs ++ added
  pub is : IsOperand unit form a.next b.next key arg added

pub record AreOperandsAdded (unit : UnitCore) (form : ℕ) (a b : Conversion) (keys : List ℕ) (args : List Arg) (jobs more : List Job) : Type 0 where
  pub grows : GrowsTo a b
  pub added : List Job
  pub after : more ≡ jobs ++ added
  pub are : AreOperands unit form a.next b.next keys args added

-- the value of a variable that isn't assigned goes to it
abbrev pub IsLet : UnitCore → ℕ → (next after : ℕ) → Var → ℕ → Arg → List Job → Type 0
IsLet unit form next after v key a jobs =
    (is_assigned unit v ≡ true) × IsOperand unit form next after key a jobs
    ⊎ (is_assigned unit v ≡ false) × (a ≡ Argument.Var v) × (jobs ≡ record { node = key; var = v } ∷ []) × (after ≡ next)

abbrev pub AreLets : UnitCore → ℕ → (next after : ℕ) → List Var → List ℕ → List Arg → List Job → Type 0
AreLets unit form next after [] [] [] jobs = (jobs ≡ []) × (after ≡ next)
AreLets unit form next after (v ∷ vars) (key ∷ keys) (a ∷ args) jobs =
    (mid : ℕ) × (first : List Job) × (rest : List Job) × (jobs ≡ first ++ rest) × IsLet unit form next mid v key a first × AreLets unit form mid after vars keys args rest
AreLets unit form next after _ _ _ jobs = ⊥

pub record IsLetAdded (unit : UnitCore) (form : ℕ) (a b : Conversion) (v : Var) (key : ℕ) (arg : Arg) (jobs more : List Job) : Type 0 where
  pub grows : GrowsTo a b
  pub added : List Job
  pub after : more ≡ jobs ++ added
  pub is : IsLet unit form a.next b.next v key arg added

pub record AreLetsAdded (unit : UnitCore) (form : ℕ) (a b : Conversion) (vars : List Var) (keys : List ℕ) (args : List Arg) (jobs more : List Job) : Type 0 where
  pub grows : GrowsTo a b
  pub added : List Job
  pub after : more ≡ jobs ++ added
  pub are : AreLets unit form a.next b.next vars keys args added

-- the variables of jobs
abbrev pub vars_of : List Job → List Var
vars_of jobs = map (λ j. j.var) jobs

-- from `t` to `last` the values of the nodes go to their variables, from left to right
abbrev pub Evaluates : Translation → Converting → ℕ → (bound held : List ℕ) → List Job → (t last : ℕ) → Type 0
Evaluates x conv form bound held [] t last = last ≡ t
Evaluates x conv form bound held (j ∷ jobs) t last =
    (next : ℕ) × IsNew x held j.var × conv form bound held j.node (Continuation.Lam j.var next) t × Evaluates x conv form bound (j.var.0 ∷ held) jobs next last

-- the variables are new one after the other, and each node stands in the scope
abbrev pub CanEvaluate : Translation → (base next form key : ℕ) → (bound held : List ℕ) → List Job → Type 0
CanEvaluate x base next form key bound held [] = Unit {0}
CanEvaluate x base next form key bound held (j ∷ jobs) =
    IsNew x held j.var × IsOuter x.unit base next form key j.var.0 × IsScopedIn x.unit form j.node bound × CanEvaluate x base next form key bound (j.var.0 ∷ held) jobs

abbrev pub JobsClaim : Translation → List Bool → (base next form key : ℕ) → List Job → (t last : ℕ) → Type 0
JobsClaim x marks base next form key jobs t last =
    Setting x.unit marks base → base ≤ next → (bound held : List ℕ) → AreOuter x.unit base next form key bound → AreOuter x.unit base next form key held → CanEvaluate x base next form key bound held jobs
    → Evaluates x (ConvertsWithin x key) form bound held jobs t last

pub record JobsConverted (unit : UnitCore) (marks : List Bool) (form : ℕ) (a b : Conversion) (key : ℕ) (jobs : List Job) (t last : ℕ) : Type 0 where
  pub grows : GrowsTo a b
  pub holds : (cps : Cps) (origins : List (ℕ × ℕ)) → Includes (translation unit cps origins) b → (base : ℕ) → JobsClaim (translation unit cps origins) marks base a.next form key jobs t last
