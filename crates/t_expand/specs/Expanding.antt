-- What the expansion of one form does.
use Rattle.std.specs.Prelude.{◌≡◌, ◌⊎◌, ℕ, false, List, Contains, Option, Some, None}
use Rattle.t_forms.specs.Data.{Datum}
use Rattle.t_forms.specs.Names.{Scope}
use Rattle.t_forms.specs.Held.{Extends, vars_of}
use Rattle.t_rows.specs.declared.refusal.Refusal.{Refusal}
use Rattle.expansion.specs.Meaning.{Means}
use Rattle.expansion.specs.Refusals.{Refused, Precedes}
use Rattle.t_expand.specs.Quoting.{AddsConstants}
use Rattle.expansion.specs.Lists.{Adds}
use Rattle.t_expand.specs.declared.driver_state.Expansion.{Expansion}

-- cells, constants and nodes are only added, and a first refusal stays or gives way to an earlier one
pub record Grows (old new : Expansion) : Type 0 where
  pub cells : Extends old.forms new.forms
  pub shared : AddsConstants old.shared new.shared
  pub nodes : Adds old.nodes.nodes new.nodes.nodes
  pub spans : Adds old.nodes.spans new.nodes.spans
  pub first : new.first ≡ None → old.first ≡ None

-- the first refusal comes no later than this one
pub record IsCovered (first : Option Refusal) (r : Refusal) : Type 0 where
  pub by : Refusal
  pub is : first ≡ Some by
  pub precedes : Precedes by r

-- it is the first of a refusal, if there was one, and others
pub record IsFirst (before : Option Refusal) (others : List Refusal) (first : Option Refusal) : Type 0 where
  pub known : (r : Refusal) → first ≡ Some r → (before ≡ Some r) ⊎ Contains others r
  pub least : (r : Refusal) → Contains others r → IsCovered first r
  pub kept : (r : Refusal) → before ≡ Some r → IsCovered first r

-- What was expanded is a datum in a scope. If nothing is refused in it, and nothing was before, the root is its node; else the first
-- refusal is one of those before it and in it, and no other comes before it.
pub record Expands (old new : Expansion) (around : Scope) (d : Datum) (root : ℕ) : Type 0 where
  pub scope : new.scope ≡ old.scope
  pub means : new.first ≡ None → Means new.shared new.nodes (vars_of old.scope) around d false root
  pub known : (r : Refusal) → new.first ≡ Some r → (old.first ≡ Some r) ⊎ Refused around d r
  pub least : (r : Refusal) → Refused around d r → IsCovered new.first r
  pub kept : (r : Refusal) → old.first ≡ Some r → IsCovered new.first r
