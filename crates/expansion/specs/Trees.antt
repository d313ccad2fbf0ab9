-- Nodes whose parts stand before them, each named once.
use Rattle.std.specs.Prelude.{◌≡◌, ℕ, suc, ◌+◌, ◌<◌, ◌≤◌, List, [], ◌∷◌, length, All}
use Rattle.std.specs.List.{flat_map}
use Rattle.t_core.specs.declared.forms.Core.{Core}
use Rattle.t_core.specs.Nodes.{places_of}
use Rattle.expansion.specs.Counting.{times}

-- the parts of each node stand before it, where the first one stands at this place
abbrev pub StandBefore : ℕ → List Core → Type 0
StandBefore start [] = Unit {0}
StandBefore start (c ∷ cs) = All (λ place. place < start) (places_of c) × StandBefore (suc start) cs

-- The nodes of parts, whose roots are these: each is a root or a part of another of them, and so just once.
pub record Grown (start : ℕ) (nodes : List Core) (roots : List ℕ) : Type 0 where
  pub before : StandBefore start nodes
  pub within : All (λ k. k < start + length nodes) roots
  pub below : (k : ℕ) → k < start → times k (flat_map places_of nodes) + times k roots ≡ 0
  pub above : (k : ℕ) → start + length nodes ≤ k → times k (flat_map places_of nodes) + times k roots ≡ 0
  pub once : (k : ℕ) → start ≤ k → k < start + length nodes → times k (flat_map places_of nodes) + times k roots ≡ 1
