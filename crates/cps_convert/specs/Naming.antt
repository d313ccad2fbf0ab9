-- Names in place of assigned variables, and what binds and sets these.
use Rattle.std.specs.Prelude.{◌≡◌, ℕ, ◌≤◌, ◌<◌, ◌⊎◌, Bool, true, false, List, [], ◌∷◌, if◌then◌else◌}
use Rattle.t_base.specs.declared.basics.Var.{Var}
use Rattle.t_base.specs.declared.shared_parts.Const.TheVariants as Constant
use Rattle.cps_ir.specs.declared.args.Arg.{Arg}
use Rattle.cps_ir.specs.declared.args.Arg.TheVariants as Argument
use Rattle.cps_ir.specs.declared.terms.Cont.TheVariants as Continuation
use Rattle.cps_ir.specs.declared.terms.Term.TheVariants as Step
use Rattle.cps_walk.specs.Marked.{is_marked}
use Rattle.cps_conversion.specs.Conversion.{Translation, Stands}
use Rattle.cps_convert.specs.declared.conversion.Conversion.{Conversion}
use Rattle.cps_convert.specs.Growing.{Includes, GrowsTo}

-- an assigned variable has a new name, and another one its own
abbrev pub IsName : List Bool → (next after : ℕ) → Var → Var → Type 0
IsName marks next after v y = (is_marked marks v.0 ≡ true) × (y.0 ≡ next) × (next < after) ⊎ (is_marked marks v.0 ≡ false) × (y ≡ v) × (after ≡ next)

abbrev pub AreNames : List Bool → (next after : ℕ) → List Var → List Var → Type 0
AreNames marks next after [] [] = after ≡ next
AreNames marks next after (v ∷ vars) (y ∷ names) = (mid : ℕ) × IsName marks next mid v y × AreNames marks mid after vars names
AreNames marks next after _ _ = ⊥

pub record IsNamed (a b : Conversion) (marks : List Bool) (v y : Var) : Type 0 where
  pub grows : GrowsTo a b
  pub is : IsName marks a.next b.next v y

pub record AreNamed (a b : Conversion) (marks : List Bool) (vars names : List Var) : Type 0 where
  pub grows : GrowsTo a b
  pub are : AreNames marks a.next b.next vars names

-- Nil for an assigned variable
abbrev pub unset_by : List Bool → Var → Arg
unset_by marks v = if is_marked marks v.0 then Argument.Const Constant.Nil else Argument.Var v

-- from `t` to `next` the variable is bound to its argument, where it is assigned
abbrev pub IsBoundTo : Translation → List Bool → Var → Arg → (t next : ℕ) → Type 0
IsBoundTo x marks v a t next = (is_marked marks v.0 ≡ false) × (next ≡ t) ⊎ (is_marked marks v.0 ≡ true) × Stands x t (Step.Give (Continuation.Lam v next) a)

abbrev pub AreBoundTo : Translation → List Bool → List Var → List Arg → (t next : ℕ) → Type 0
AreBoundTo x marks [] [] t next = next ≡ t
AreBoundTo x marks (v ∷ vars) (a ∷ args) t next = (mid : ℕ) × IsBoundTo x marks v a t mid × AreBoundTo x marks vars args mid next
AreBoundTo x marks _ _ t next = ⊥

pub record BindsOne (a b : Conversion) (marks : List Bool) (v : Var) (value : Arg) (next t : ℕ) : Type 0 where
  pub grows : GrowsTo a b
  pub holds : (x : Translation) → Includes x b → IsBoundTo x marks v value t next

pub record BindsAll (a b : Conversion) (marks : List Bool) (vars : List Var) (args : List Arg) (next t : ℕ) : Type 0 where
  pub grows : GrowsTo a b
  pub holds : (x : Translation) → Includes x b → AreBoundTo x marks vars args t next

-- from `t` to `next` the variable is set to what its name stands for, where it is assigned; an unused variable is at least that
abbrev pub IsSetTo : Translation → List Bool → ℕ → Var → Var → (t next : ℕ) → Type 0
IsSetTo x marks least v y t next =
    (is_marked marks v.0 ≡ false) × (next ≡ t) ⊎ (is_marked marks v.0 ≡ true) × ((unused : Var) × (least ≤ unused.0) × Stands x t (Step.Set v (Argument.Var y) (Continuation.Lam unused next)))

abbrev pub AreSetTo : Translation → List Bool → ℕ → List Var → List Var → (t next : ℕ) → Type 0
AreSetTo x marks least [] [] t next = next ≡ t
AreSetTo x marks least (v ∷ vars) (y ∷ names) t next = (mid : ℕ) × IsSetTo x marks least v y t mid × AreSetTo x marks least vars names mid next
AreSetTo x marks least _ _ t next = ⊥

pub record SetsOne (a b : Conversion) (marks : List Bool) (v y : Var) (next t : ℕ) : Type 0 where
  pub grows : GrowsTo a b
  pub holds : (x : Translation) → Includes x b → IsSetTo x marks a.next v y t next

pub record SetsAll (a b : Conversion) (marks : List Bool) (vars names : List Var) (next t : ℕ) : Type 0 where
  pub grows : GrowsTo a b
  pub holds : (x : Translation) → Includes x b → AreSetTo x marks a.next vars names t next
