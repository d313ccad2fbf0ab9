use Rattle.std.proofs.Common.{◌≡◌, ◌≤◌, ℕ, List, [], ◌∷◌, vec_len}
use Rattle.t_reader.specs.Grammar.{Tree}
use Rattle.t_reader.specs.Build.{weight, bulk, Chains, Grows, IsWell}
use Rattle.t_reader.proofs.build.Build.add_pairs.Given as goal

abbrev pub invariant-pairs : goal.invariant-pairs
invariant-pairs l = record {
  lighter : weight l.self ≤ weight l.initial.self;
  smaller : bulk l.self ≤ bulk l.initial.self;
  chains : (text : List ℕ) (below : List ℕ) (t : Tree) → Chains text l.span below l.first t l.initial.self l.initial.tail → Chains text l.span below l.first t l.self l.tail;
  grows : Grows l.initial.self l.self;
  frames : l.self.frames.items ≡ l.initial.self.frames.items;
  names : l.self.names ≡ l.initial.self.names;
  well : IsWell (l.initial.tail ∷ []) l.initial.self → IsWell (l.tail ∷ []) l.self;
}

abbrev pub decreases-pairs : goal.decreases-pairs
decreases-pairs l = vec_len l.self.items
