-- Small units, each with a program that stands for it.
use Rattle.std.specs.Prelude.{ℕ, true, false, List, [], ◌∷◌, pos, refl}
use Rattle.std.specs.Global.{Global}
use Rattle.t_base.specs.declared.builtins.Builtin.TheVariants.{Add}
use Rattle.t_base.specs.declared.shared_parts.Const.TheVariants as Constant
use Rattle.t_base.specs.declared.shared_parts.GlobalKind.TheVariants.{Proc}
use Rattle.t_base.specs.declared.shared_parts.Shared.{Shared}
use Rattle.t_core.specs.declared.forms.Core.{Core}
use Rattle.t_core.specs.declared.forms.Core.TheVariants as Node
use Rattle.t_core.specs.declared.forms.FormKind.TheVariants.{Define, Plain}
use Rattle.t_core.specs.declared.forms.Form.{Form}
use Rattle.t_core.specs.declared.forms.UnitCore.{UnitCore}
use Rattle.cps_ir.specs.declared.terms.Cps.{Cps}
use Rattle.cps_ir.specs.Writing.{IsShort, vec_of, var, global, bare, plain}
use Rattle.cps_conversion.specs.Conversion.{Converts}

abbrev pub number : ℕ → Core
number n = Node.Const (Constant.Fix (pos n))

abbrev pub unit_of : Global → Shared → (forms : List Form) → IsShort forms → UnitCore
unit_of alloc shared forms short = record { shared = shared; forms = vec_of alloc forms short }

-- (+ 40 2)
abbrev pub sum_unit : Global → UnitCore
sum_unit alloc = unit_of alloc (plain alloc 3) (record { kind = Plain; nodes = vec_of alloc (number 40 ∷ number 2 ∷ Node.Prim Add (0 ∷ 1 ∷ []) ∷ []) refl; root = 2 } ∷ []) refl

-- (let ((x 1)) (set x 2) x)
abbrev pub assignment_unit : Global → UnitCore
assignment_unit alloc =
    unit_of alloc (plain alloc 6)
    (record { kind = Plain; nodes = vec_of alloc (number 1 ∷ number 2 ∷ Node.SetLocal (var 0) 1 ∷ Node.Local (var 0) ∷ Node.Block (2 ∷ 3 ∷ []) ∷ Node.Let (var 0 ∷ []) (0 ∷ []) 4 ∷ []) refl; root = 5 } ∷ []) refl

-- (labels ((g (lambda () (h))) (h (lambda () 3))) (g))
abbrev pub labels_unit : Global → UnitCore
labels_unit alloc =
    unit_of alloc (plain alloc 8)
    (record {
      kind = Plain;
      nodes = vec_of alloc (
          Node.Local (var 1) ∷ Node.Call 0 [] true ∷ Node.Lambda [] 1 ∷ number 3 ∷ Node.Lambda [] 3 ∷ Node.Local (var 0) ∷ Node.Call 5 [] false ∷
          Node.Labels (var 0 ∷ var 1 ∷ []) (2 ∷ 4 ∷ []) 6 ∷ []) refl;
      root = 7;
    } ∷ []) refl

-- (define (f e) (+ 1 (e 5)))
-- (catch a (+ 2 (f a)))
abbrev pub catch_unit : Global → UnitCore
catch_unit alloc =
    unit_of alloc (bare alloc 9 (global 3 Proc ∷ []) refl [] refl)
    (record {
      kind = Define 0;
      nodes = vec_of alloc (number 1 ∷ Node.Local (var 0) ∷ number 5 ∷ Node.Call 1 (2 ∷ []) false ∷ Node.Prim Add (0 ∷ 3 ∷ []) ∷ Node.Lambda (var 0 ∷ []) 4 ∷ []) refl;
      root = 5;
    } ∷ record {
      kind = Plain;
      nodes = vec_of alloc (number 2 ∷ Node.Global 0 ∷ Node.Local (var 5) ∷ Node.Call 1 (2 ∷ []) false ∷ Node.Prim Add (0 ∷ 3 ∷ []) ∷ Node.Catch (var 5) 4 ∷ []) refl;
      root = 5;
    } ∷ []) refl

-- whatever allocator their lists have
abbrev pub StandsFor : (Global → UnitCore) → (Global → Cps) → Type 0
StandsFor unit cps = (alloc : Global) → Converts (unit alloc) (cps alloc)
