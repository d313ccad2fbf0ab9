-- What is made for the forms of a unit.
use Rattle.std.specs.Prelude.{◌≡◌, ℕ, zero, suc, ◌≤◌, ◌<◌, List, Bool, drop, length, Some, slice_get}
use Rattle.t_base.specs.declared.basics.Var.{Var}
use Rattle.t_base.specs.declared.shared_parts.Const.TheVariants as Constant
use Rattle.t_core.specs.declared.forms.FormKind.{FormKind}
use Rattle.t_core.specs.declared.forms.FormKind.TheVariants.{Define, Lset, Operation, Plain}
use Rattle.t_core.specs.declared.forms.Form.{Form}
use Rattle.t_core.specs.declared.forms.UnitCore.{UnitCore}
use Rattle.t_meaning.specs.Operations.{lambda_of}
use Rattle.cps_ir.specs.declared.args.Arg.{Arg}
use Rattle.cps_ir.specs.declared.args.Arg.TheVariants as Argument
use Rattle.cps_ir.specs.declared.terms.Cps.{Cps}
use Rattle.cps_conversion.specs.Conversion.{Translation, ConvertsWithin, InitAs, FormAs, FormsAs, name_of_global, name_of_op}
use Rattle.cps_convert.specs.declared.conversion.Conversion.{Conversion}
use Rattle.cps_convert.specs.Growing.{Includes, GrowsTo}
use Rattle.cps_convert.specs.Claims.{Setting, translation}

-- the argument that stands for what a form of the kind gives: its name, or a variable that was new between these numbers
abbrev pub IsGiven : UnitCore → (next after : ℕ) → FormKind → Arg → Type 0
IsGiven unit next after (Define g) a = name_of_global unit.shared g ≡ Some a
IsGiven unit next after (Lset g) a = name_of_global unit.shared g ≡ Some a
IsGiven unit next after (Operation o) a = name_of_op unit.shared o ≡ Some a
IsGiven unit next after Plain a = (v : Var) × (a ≡ Argument.Var v) × (next ≤ v.0) × (v.0 < after)

pub record Gives (unit : UnitCore) (a b : Conversion) (kind : FormKind) (arg : Arg) : Type 0 where
  pub grows : GrowsTo a b
  pub given : IsGiven unit a.next b.next kind arg

-- what the forms before a place give
abbrev pub IsBefore : UnitCore → (next after : ℕ) → ℕ → Arg → Type 0
IsBefore unit next after zero a = a ≡ Argument.Const Constant.Nil
IsBefore unit next after (suc at) a = (f : Form) × (slice_get unit.forms.items at ≡ Some f) × IsGiven unit next after f.kind a

pub record GivesBefore (unit : UnitCore) (a b : Conversion) (at : ℕ) (arg : Arg) : Type 0 where
  pub grows : GrowsTo a b
  pub before : IsBefore unit a.next b.next at arg

-- the value of the form at a place is the first one of its global, from `t` on, up to `rest`
abbrev pub InitClaim : Translation → (base next at : ℕ) → Form → (g : ℕ) → (rest t : ℕ) → Type 0
InitClaim x base next at form g rest t =
    base ≤ next → slice_get x.unit.forms.items at ≡ Some form → 0 < length form.nodes.items → (a : Arg) → name_of_global x.cps.shared g ≡ Some a
    → InitAs x (ConvertsWithin x x.unit.shared.size) at form.root g t rest a

pub record InitConverted (unit : UnitCore) (marks : List Bool) (a b : Conversion) (at : ℕ) (form : Form) (g rest t : ℕ) : Type 0 where
  pub grows : GrowsTo a b
  pub holds : (cps : Cps) (origins : List (ℕ × ℕ)) → Includes (translation unit cps origins) b → (base : ℕ) → Setting unit marks base → InitClaim (translation unit cps origins) base a.next at form g rest t

-- the form at a place is converted, from `t` on, up to `rest`, where `value` stands for what it gives
abbrev pub FormClaim : Translation → (base next at : ℕ) → Form → Arg → (rest t : ℕ) → Type 0
FormClaim x base next at form value rest t =
    base ≤ next → x.cps.shared ≡ x.unit.shared → slice_get x.unit.forms.items at ≡ Some form → IsGiven x.unit base next form.kind value
    → FormAs x (ConvertsWithin x x.unit.shared.size) at form.kind (lambda_of at form) form.root t rest value

pub record FormConverted (unit : UnitCore) (marks : List Bool) (a b : Conversion) (at : ℕ) (form : Form) (value : Arg) (rest t : ℕ) : Type 0 where
  pub grows : GrowsTo a b
  pub holds : (cps : Cps) (origins : List (ℕ × ℕ)) → Includes (translation unit cps origins) b → (base : ℕ) → Setting unit marks base → FormClaim (translation unit cps origins) base a.next at form value rest t

-- the forms from a place on are converted, where `value` stands for what those before them give
pub record FormsConverted (unit : UnitCore) (marks : List Bool) (a b : Conversion) (at : ℕ) (value : Arg) (t : ℕ) : Type 0 where
  pub grows : GrowsTo a b
  pub before : IsBefore unit a.next b.next at value
  pub holds : (cps : Cps) (origins : List (ℕ × ℕ)) → Includes (translation unit cps origins) b → (base : ℕ) → Setting unit marks base → base ≤ a.next → cps.shared ≡ unit.shared
      → FormsAs (translation unit cps origins) (ConvertsWithin (translation unit cps origins) unit.shared.size) at (drop at unit.forms.items) value t
