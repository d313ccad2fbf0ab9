-- Words for writing a unit. An allocator is wanted for its lists, and any will do.
use Rattle.std.specs.Prelude.{◌≡◌, ℕ, ◌-◌, ◌^◌, nat_lt, Bool, true, false, List, [], ◌∷◌, length, map, codes, pos, refl}
use Rattle.std.specs.Global.{Vec, Global}
use Rattle.std.proofs.Math.Nat.{le_refl}
use Rattle.std.proofs.lemmas.Bool.{ltb-true}
use denote.RawPtr.{null_ptr}
use Rattle.t_base.specs.declared.basics.Var.{Var}
use Rattle.t_base.specs.declared.shared_parts.OpInfo.{OpInfo}
use Rattle.t_base.specs.declared.shared_parts.Global1.{Global1}
use Rattle.t_base.specs.declared.shared_parts.GlobalKind.{GlobalKind}
use Rattle.t_base.specs.declared.shared_parts.Const.TheVariants as Constant
use Rattle.t_base.specs.declared.shared_parts.Shared.{Shared}
use Rattle.t_core.specs.declared.forms.Method.{Method}
use Rattle.t_core.specs.declared.forms.Core.{Core}
use Rattle.t_core.specs.declared.forms.Core.TheVariants as Node
use Rattle.t_core.specs.declared.forms.FormKind.{FormKind}
use Rattle.t_core.specs.declared.forms.FormKind.TheVariants.{Define, Lset, Operation, Plain}
use Rattle.t_core.specs.declared.forms.Form.{Form}

abbrev pub IsShort : {X : Type 0} → List X → Type 0
IsShort xs = nat_lt (length xs) (2 ^ 63) ≡ true

abbrev pub vec_of : {X : Type 0} → Global → (xs : List X) → IsShort xs → Vec X
vec_of alloc xs short = record { ptr = null_ptr; len = length xs; cap = length xs; alloc = alloc; items = xs; ok = (refl, le_refl (length xs)); small = ltb-true (length xs) (2 ^ 63) short }

-- ---- nodes

abbrev pub var : ℕ → Var
var n = record { 0 = n }

abbrev pub fix : ℕ → Core
fix n = Node.Const (Constant.Fix (pos n))

abbrev pub nil : Core
nil = Node.Const Constant.Nil

abbrev pub local : ℕ → Core
local x = Node.Local (var x)

abbrev pub lambda : List ℕ → ℕ → Core
lambda params body = Node.Lambda (map var params) body

abbrev pub bind : List ℕ → List ℕ → ℕ → Core
bind vars values body = Node.Let (map var vars) values body

abbrev pub labels : List ℕ → List ℕ → ℕ → Core
labels vars lambdas body = Node.Labels (map var vars) lambdas body

abbrev pub assign : ℕ → ℕ → Core
assign x value = Node.SetLocal (var x) value

abbrev pub catch : ℕ → ℕ → Core
catch x body = Node.Catch (var x) body

abbrev pub method : ℕ → List ℕ → ℕ → Method
method o params body = record { op = o; params = map var params; body = body }

-- ---- forms, of which the last node is the root

abbrev pub form_of : Global → FormKind → (nodes : List Core) → IsShort nodes → Form
form_of alloc kind nodes short = record { kind = kind; nodes = vec_of alloc nodes short; root = length nodes - 1 }

abbrev pub plain : Global → (nodes : List Core) → IsShort nodes → Form
plain alloc = form_of alloc Plain

abbrev pub define : Global → ℕ → (nodes : List Core) → IsShort nodes → Form
define alloc g = form_of alloc (Define g)

abbrev pub lset : Global → ℕ → (nodes : List Core) → IsShort nodes → Form
lset alloc g = form_of alloc (Lset g)

abbrev pub operation : Global → ℕ → (nodes : List Core) → IsShort nodes → Form
operation alloc o = form_of alloc (Operation o)

-- ---- shared parts

abbrev pub op : ℕ → Bool → OpInfo
op n default = record { name = record { 0 = n }; default = default }

abbrev pub global : ℕ → GlobalKind → Global1
global n kind = record { name = record { 0 = n }; kind = kind }

-- the names and the operations that each unit has
abbrev pub first_names : List (List ℕ)
first_names = codes "setter" ∷ codes "contents" ∷ codes "set-contents" ∷ []

abbrev pub first_ops : List OpInfo
first_ops = op 0 false ∷ op 1 false ∷ op 2 false ∷ []

-- nothing else, and the size of the largest form
abbrev pub bare : Global → ℕ → Shared
bare alloc size = record {
  names = first_names;
  strings = vec_of alloc [] refl;
  pairs = vec_of alloc [] refl;
  globals = vec_of alloc [] refl;
  ops = vec_of alloc first_ops refl;
  size = size;
}
