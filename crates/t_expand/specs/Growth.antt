-- How the shared parts of a unit grow while its forms are expanded.
use Rattle.std.specs.Prelude.{◌≡◌, ◌≢◌, ℕ, List, [], ◌++◌, map, AllPairs}
use Rattle.t_base.specs.declared.shared_parts.Const.{Const}
use Rattle.t_base.specs.declared.shared_parts.Shared.{Shared}
use Rattle.t_forms.specs.Held.{Extends, IsScope}
use Rattle.t_forms.specs.Names.{Bound}
use Rattle.expansion.specs.Meaning.{top_scope}
use Rattle.t_expand.specs.declared.driver_state.Expansion.{Expansion}

-- The second has the names of the first, and its strings and pairs go on those of the first.
pub record IsGrown (old new : Shared) : Type 0 where
  pub names : new.names ≡ old.names
  pub strings : (more : List (List ℕ)) × (new.strings.items ≡ old.strings.items ++ more)
  pub pairs : (more : List (Const × Const)) × (new.pairs.items ≡ old.pairs.items ++ more)

-- what an expansion keeps from one moment to a later one
pub record Keeps (old new : Expansion) : Type 0 where
  pub forms : Extends old.forms new.forms
  pub scope : new.scope ≡ old.scope
  pub shared : IsGrown old.shared new.shared
  pub globals : map (λ g. g.name) new.shared.globals.items ≡ map (λ g. g.name) old.shared.globals.items
  pub ops : new.shared.ops.items ≡ old.shared.ops.items

-- what these definitions give to the names of a unit, with nothing bound around
pub record IsReady (e : Expansion) (defined : List Bound) : Type 0 where
  pub distinct : AllPairs (λ a b. a ≢ b) e.shared.names
  pub scope : IsScope e.shared.names e.scope (top_scope defined)
  pub outside : e.scope.locals ≡ []
