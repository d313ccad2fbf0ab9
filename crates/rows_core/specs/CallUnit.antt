-- The unit `((lambda (x) x) 5)`, which is whole.
use Rattle.std.specs.Prelude.{◌≡◌, ℕ, List, [], ◌∷◌, false, pos}
use Rattle.t_base.specs.declared.basics.Var.{Var}
use Rattle.t_base.specs.declared.shared_parts.OpInfo.{OpInfo}
use Rattle.t_base.specs.declared.shared_parts.Const.{Const}
use Rattle.t_base.specs.declared.shared_parts.Const.TheVariants as Constant
use Rattle.t_base.specs.declared.shared_parts.Shared.{Shared}
use Rattle.t_core.specs.declared.forms.Core.{Core}
use Rattle.t_core.specs.declared.forms.Core.TheVariants as Node
use Rattle.t_core.specs.declared.forms.FormKind.TheVariants.{Plain}
use Rattle.t_core.specs.declared.forms.Form.{Form}
use Rattle.t_core.specs.declared.forms.UnitCore.{UnitCore}

abbrev pub setter : List ℕ
setter = 115 ∷ 101 ∷ 116 ∷ 116 ∷ 101 ∷ 114 ∷ []

abbrev pub first_op : OpInfo
first_op = record { name = record { 0 = 0 }; default = false }

-- shared parts with these pairs, one name and the three builtin operations
pub record IsBare (pairs : List (Const × Const)) (size : ℕ) (shared : Shared) : Type 0 where
  pub names : shared.names ≡ setter ∷ []
  pub strings : shared.strings.items ≡ []
  pub pairs_are : shared.pairs.items ≡ pairs
  pub globals : shared.globals.items ≡ []
  pub ops : shared.ops.items ≡ first_op ∷ first_op ∷ first_op ∷ []
  pub size_is : shared.size ≡ size

abbrev pub x_var : Var
x_var = record { 0 = 0 }

abbrev pub call_nodes : List Core
call_nodes = Node.Local x_var ∷ Node.Lambda (x_var ∷ []) 0 ∷ Node.Const (Constant.Fix (pos 5)) ∷ Node.Call 1 (2 ∷ []) false ∷ []

pub record IsCallUnit (unit : UnitCore) : Type 0 where
  pub shared : IsBare [] 5 unit.shared
  pub form : Form
  pub forms : unit.forms.items ≡ form ∷ []
  pub kind : form.kind ≡ Plain
  pub nodes : form.nodes.items ≡ call_nodes
  pub root : form.root ≡ 3
