-- The innermost binding of a name.
use Rattle.std.specs.Prelude.{◌≡◌, ℕ, ◌+◌, ◌<◌, ◌==◌, Bool, false, if◌then◌else◌, List, [], ◌∷◌, length, map, slice_index_or, Option, Some, None}
use Rattle.t_base.specs.declared.basics.Var.{Var}
use Rattle.t_forms.specs.declared.scope.LocalName.{LocalName}
use Rattle.t_forms.specs.declared.scope.LocalName.TheVariants as key
use Rattle.t_forms.specs.declared.scope.Local.{Local}
use Rattle.t_forms.specs.declared.locals.Binding.{Binding}
use Rattle.t_forms.specs.declared.arena.New.{New}
use Rattle.t_forms.specs.declared.arena.New.TheVariants as new
use Rattle.t_forms.specs.Data.{is_same_new}

abbrev pub is_same_key : LocalName → LocalName → Bool
is_same_key (key.Written a) (key.Written b) = a.0 == b.0
is_same_key (key.Made v) (key.Made w) = is_same_new v w
is_same_key _ _ = false

-- of bindings with the innermost first
abbrev pub var_bound : List Local → LocalName → Option Var
var_bound [] k = None
var_bound (l ∷ others) k = if is_same_key l.name k then Some l.var else var_bound others k

-- ---- the innermost binding of each name, at hand

-- the place of a new variable among the new variables
abbrev pub made_place : New → ℕ
made_place new.Answer = 0
made_place new.Chosen = 1
made_place new.Turn = 2
made_place new.Start = 3
made_place new.Own = 4
made_place new.Content = 5
made_place (new.Part i) = i + 6

abbrev pub slot : List (Option Var) → ℕ → Option Var
slot slots k = slice_index_or slots k None

-- what is at hand for a name
abbrev pub indexed : List (Option Var) → List (Option Var) → LocalName → Option Var
indexed written made (key.Written n) = slot written n.0
indexed written made (key.Made v) = slot made (made_place v)

abbrev pub HasSlot : List (Option Var) → List (Option Var) → LocalName → Type 0
HasSlot written made (key.Written n) = n.0 < length written
HasSlot written made (key.Made v) = made_place v < length made

abbrev pub locals_of : List Binding → List Local
locals_of bindings = map (λ b. b.local) bindings

-- each binding keeps what it hides, of bindings with the innermost first
abbrev pub AreHiding : List Binding → Type 0
AreHiding [] = Unit {0}
AreHiding (b ∷ others) = (b.hidden ≡ var_bound (locals_of others) b.local.name) × AreHiding others

-- what is at hand is the innermost binding
pub record IsIndex (bindings : List Binding) (written made : List (Option Var)) : Type 0 where
  pub found : (k : LocalName) → indexed written made k ≡ var_bound (locals_of bindings) k
  pub hiding : AreHiding bindings
