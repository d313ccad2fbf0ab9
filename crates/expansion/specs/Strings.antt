-- The string literals that a unit names.
use Rattle.std.specs.Prelude.{ℕ, List, [], ◌∷◌, ◌++◌}
use Rattle.std.specs.List.{flat_map}
use Rattle.t_base.specs.declared.shared_parts.Const.{Const}
use Rattle.t_base.specs.declared.shared_parts.Const.TheVariants as Constant
use Rattle.t_core.specs.declared.forms.Core.{Core}
use Rattle.t_core.specs.declared.forms.Core.TheVariants as Node
use Rattle.t_core.specs.declared.forms.UnitCore.{UnitCore}

-- the places of string literals that a constant names, and a node
abbrev pub string_in : Const → List ℕ
string_in (Constant.Str k) = k ∷ []
string_in _ = []

abbrev pub string_of : Core → List ℕ
string_of (Node.Const c) = string_in c
string_of _ = []

-- the places of string literals that pairs and nodes name
abbrev pub named_strings : UnitCore → List ℕ
named_strings unit = flat_map (λ p. string_in p.0 ++ string_in p.1) unit.shared.pairs.items ++ flat_map (λ form. flat_map string_of form.nodes.items) unit.forms.items
