-- The units that are built: each form is a fixnum or a sum.
use Rattle.std.specs.Prelude.{◌≡◌, ℕ, ◌<◌, ◌&&◌, ℤ, Bool, true, false, List, [], ◌∷◌, slice_get, Option, Some, None, if◌then◌else◌}
use Rattle.std.specs.List.{list_all}
use Rattle.t_base.specs.declared.builtins.Builtin.{Builtin}
use Rattle.t_base.specs.declared.builtins.Builtin.TheVariants.{Add}
use Rattle.t_base.specs.declared.shared_parts.Const.{Const}
use Rattle.t_base.specs.declared.shared_parts.Const.TheVariants as Constant
use Rattle.t_prim.specs.Operands.{in_range}
use Rattle.t_core.specs.declared.forms.Core.{Core}
use Rattle.t_core.specs.declared.forms.Core.TheVariants as Node
use Rattle.t_core.specs.declared.forms.FormKind.{FormKind}
use Rattle.t_core.specs.declared.forms.FormKind.TheVariants.{Plain}
use Rattle.t_core.specs.declared.forms.Form.{Form}
use Rattle.t_core.specs.declared.forms.UnitCore.{UnitCore}

-- ---- which units are built

abbrev pub is_fixnum : Const → Bool
is_fixnum (Constant.Fix v) = true
is_fixnum _ = false

abbrev pub is_add : Builtin → Bool
is_add Add = true
is_add _ = false

-- a fixnum constant, or the primitive +
abbrev pub is_built_node : Core → Bool
is_built_node (Node.Const c) = is_fixnum c
is_built_node (Node.Prim b operands) = is_add b
is_built_node _ = false

abbrev pub is_plain : FormKind → Bool
is_plain Plain = true
is_plain _ = false

-- a form that defines nothing and has no other node
abbrev pub is_built_form : Form → Bool
is_built_form form = is_plain form.kind && list_all is_built_node form.nodes.items

abbrev pub is_built : UnitCore → Bool
is_built unit = list_all is_built_form unit.forms.items

-- A form has at most 2,000 nodes, and so its term has at most so many sums whose second operand is being evaluated.
abbrev pub most_open : ℕ
most_open = 2000

-- ---- what they are made of

-- a fixnum, or the sum of two terms
pub data Term : Type 0 where
  Literal : (value : ℤ) → Term
  Sum : (first second : Term) → Term

-- its literals are fixnums
abbrev pub HasFixnums : Term → Type 0
HasFixnums (Literal v) = in_range v ≡ true
HasFixnums (Sum a b) = HasFixnums a × HasFixnums b

-- The node at a place stands for the term.
abbrev pub IsTerm : List Core → ℕ → Term → Type 0
IsTerm nodes key (Literal v) = slice_get nodes key ≡ Some (Node.Const (Constant.Fix v))
IsTerm nodes key (Sum a b) =
    (i : ℕ) × (j : ℕ) × (slice_get nodes key ≡ Some (Node.Prim Add (i ∷ j ∷ []))) × (i < key) × (j < key) × IsTerm nodes i a × IsTerm nodes j b

-- what the code of a node relies on: the node stands for the term, its literals are fixnums, and its place is low
pub record IsTermAt (nodes : List Core) (key : ℕ) (t : Term) : Type 0 where
  pub is : IsTerm nodes key t
  pub fixnums : HasFixnums t
  pub low : key < most_open

abbrev pub IsTermForm : Form → Term → Type 0
IsTermForm form t = (form.kind ≡ Plain) × IsTermAt form.nodes.items form.root t

-- the forms stand for the terms, each for one
abbrev pub AreTerms : List Form → List Term → Type 0
AreTerms [] [] = Unit {0}
AreTerms (form ∷ forms) (t ∷ ts) = IsTermForm form t × AreTerms forms ts
AreTerms _ _ = ⊥

-- ---- what stands at a place

abbrev pub fixnum_in : Const → Option ℤ
fixnum_in (Constant.Fix v) = Some v
fixnum_in _ = None

abbrev pub as_fixnum : Option Core → Option ℤ
as_fixnum (Some (Node.Const c)) = fixnum_in c
as_fixnum _ = None

-- two places
pub record Places : Type 0 where
  pub first : ℕ
  pub second : ℕ

abbrev pub places : ℕ → ℕ → Places
places first second = record { first = first; second = second }

abbrev pub two_of : List ℕ → Option Places
two_of (i ∷ j ∷ []) = Some (places i j)
two_of _ = None

-- the operands of a sum
abbrev pub as_sum : Option Core → Option Places
as_sum (Some (Node.Prim b operands)) = if is_add b then two_of operands else None
as_sum _ = None
