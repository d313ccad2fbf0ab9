use Rattle.std.proofs.Common.{◌≡◌, ◌≤◌, ℕ, List, [], ◌∷◌, vec_len}
use Rattle.t_reader.specs.Grammar.{Before}
use Rattle.t_reader.specs.Build.{weight, bulk, Delivers, IsWell}
use Rattle.t_reader.proofs.build.Build.add_datum.Given as goal

abbrev pub invariant-marks : goal.invariant-marks
invariant-marks l = record {
  lighter : weight l.self ≤ weight l.initial.self;
  smaller : bulk l.self ≤ bulk l.initial.self;
  names : l.self.names ≡ l.initial.self.names;
  well : IsWell (l.initial.node ∷ []) l.initial.self → IsWell (l.node ∷ []) l.self;
  delivers : (text : List ℕ) (target : Before) → Delivers text target l.initial.self l.initial.node l.end → Delivers text target l.self l.node l.end;
}

abbrev pub decreases-marks : goal.decreases-marks
decreases-marks l = vec_len l.self.frames
