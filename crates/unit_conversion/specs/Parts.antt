-- What is made for a unit, and the program of it.
use Rattle.std.specs.Prelude.{◌≡◌, ℕ, ◌+◌, ◌++◌, Bool, List, length, map, filter}
use Rattle.t_base.specs.declared.shared_parts.Const.TheVariants as Constant
use Rattle.t_core.specs.declared.forms.FormKind.TheVariants.{Define, Operation}
use Rattle.t_core.specs.declared.forms.UnitCore.{UnitCore}
use Rattle.cps_ir.specs.declared.args.Arg.TheVariants as Argument
use Rattle.cps_ir.specs.declared.terms.Lam.{Lam}
use Rattle.cps_ir.specs.declared.terms.Cps.{Cps}
use Rattle.cps_ir.specs.Parts.{is_procedure}
use Rattle.cps_conversion.specs.Conversion.{ConvertsWithin, FormsAs}
use Rattle.cps_convert.specs.declared.conversion.Procedure.{Procedure}
use Rattle.cps_convert.specs.Growing.{Includes}
use Rattle.cps_convert.specs.Claims.{Setting, translation}
use Rattle.unit_conversion.specs.declared.program.Parts.{Parts}
use Rattle.unit_conversion.specs.FirstLams.{EachFirst, has_default, picked_globals, picked_ops}

abbrev pub lam_of : Procedure → Lam
lam_of p = p.lam

-- how many procedures stand first
abbrev pub first_count : UnitCore → ℕ
first_count unit = length (filter is_procedure unit.shared.globals.items) + length (filter has_default unit.shared.ops.items)

-- the procedures of globals, the defaults of operations, and all forms are converted, where new variables have numbers from `base` on
pub record ArePartsOf (unit : UnitCore) (marks : List Bool) (base : ℕ) (parts : Parts) : Type 0 where
  pub first : parts.made.first ≡ first_count unit
  pub globals : EachFirst unit marks base parts.made Define (picked_globals unit) parts.globals.items
  pub defaults : EachFirst unit marks base parts.made Operation (picked_ops unit) parts.defaults.items
  pub forms : (cps : Cps) (origins : List (ℕ × ℕ)) → Includes (translation unit cps origins) parts.made → Setting unit marks base → cps.shared ≡ unit.shared
      → FormsAs (translation unit cps origins) (ConvertsWithin (translation unit cps origins) unit.shared.size) 0 unit.forms.items (Argument.Const Constant.Nil) parts.entry

-- the program has these parts, the procedures of globals first, then the defaults
pub record IsJoined (unit : UnitCore) (parts : Parts) (cps : Cps) : Type 0 where
  pub shared : cps.shared ≡ unit.shared
  pub terms : cps.terms.items ≡ parts.made.terms.items
  pub lams : cps.lams.items ≡ (parts.globals.items ++ parts.defaults.items) ++ map lam_of parts.made.procedures.items
  pub entry : cps.entry ≡ parts.entry
