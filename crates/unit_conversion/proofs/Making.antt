-- The parts of the program of a unit, one after the other.
use Rattle.std.proofs.Common.{◌≡◌, ℕ, ◌≤◌, Bool, List, [], ◌∷◌, drop, refl, ◌∙◌, subst, arith}
use Rattle.t_base.specs.declared.shared_parts.Const.TheVariants as Constant
use Rattle.t_core.specs.declared.forms.FormKind.{FormKind}
use Rattle.t_core.specs.declared.forms.FormKind.TheVariants.{Define, Operation}
use Rattle.t_core.specs.declared.forms.Form.{Form}
use Rattle.t_core.specs.declared.forms.UnitCore.{UnitCore}
use Rattle.cps_ir.specs.declared.args.Arg.TheVariants as Argument
use Rattle.cps_ir.specs.declared.terms.Lam.{Lam}
use Rattle.cps_conversion.specs.Conversion.{ConvertsWithin, FormsAs}
use Rattle.cps_convert.specs.declared.conversion.Conversion.{Conversion}
use Rattle.cps_convert.specs.Growing.{GrowsTo}
use Rattle.cps_convert.specs.Claims.{translation}
use Rattle.cps_convert.specs.Forms.{FormsConverted}
use Rattle.cps_convert.proofs.Listing.{grows_more}
use Rattle.unit_conversion.specs.declared.program.Parts.{Parts}
use Rattle.unit_conversion.specs.FirstLams.{IsFirst, EachFirst, FirstsMade, picked_globals, picked_ops}
use Rattle.unit_conversion.specs.Parts.{first_count, ArePartsOf}
use Rattle.unit_conversion.proofs.Picking.{each_more, first_more}

drop_none : (forms : List Form) → drop 0 forms ≡ forms
drop_none [] = refl
drop_none (f ∷ forms) = refl

later : (unit : UnitCore) (marks : List Bool) (less next : ℕ) (a b : Conversion) (kind : ℕ → FormKind) (picked : List Bool) (lams : List Lam) → less ≤ next → GrowsTo a b → EachFirst unit marks next a kind picked lams → EachFirst unit marks less b kind picked lams
later unit marks less next a b kind picked lams le grows h =
    each_more (λ n lam. IsFirst unit marks next a (kind n) lam) (λ n lam. IsFirst unit marks less b (kind n) lam) 0 picked lams (λ n lam f. first_more unit marks next less a b (kind n) lam le grows f) h

pub parts_made : (unit : UnitCore) (marks : List Bool) (base : ℕ) (a b c : Conversion) (parts : Parts) → a.next ≡ base → a.first ≡ first_count unit → FirstsMade unit marks a b Define (picked_globals unit) parts.globals.items
    → FirstsMade unit marks b c Operation (picked_ops unit) parts.defaults.items → FormsConverted unit marks c parts.made 0 (Argument.Const Constant.Nil) parts.entry → ArePartsOf unit marks base parts
parts_made unit marks base a b c parts start first globals defaults forms = record {
  first = forms.grows.first ∙ defaults.grows.first ∙ globals.grows.first ∙ first;
  globals = later unit marks base a.next b parts.made Define (picked_globals unit) parts.globals.items (omega (arith, start)) (grows_more b c parts.made defaults.grows forms.grows) globals.each;
  defaults = later unit marks base b.next c parts.made Operation (picked_ops unit) parts.defaults.items (let l = globals.grows.next in omega (arith, start, l)) forms.grows defaults.each;
  forms = λ cps origins inc setting shared.
      let x = translation unit cps origins in
      subst (λ fs. FormsAs x (ConvertsWithin x unit.shared.size) 0 fs (Argument.Const Constant.Nil) parts.entry) (drop_none unit.forms.items)
      (forms.holds cps origins inc base setting (let l = globals.grows.next in let m = defaults.grows.next in omega (arith, start, l, m)) shared);
}
