use Rattle.std.proofs.Common.{◌≢◌, AllPairs}
use Rattle.t_expand.specs.Expanding.{Grows}
use Rattle.t_expand.specs.Driving.{Root, AreUnder}
use Rattle.t_expand.specs.Tallies.{roots_of, reserved, Before, Tallied}
use Rattle.t_expand.proofs.driver_state.Expansion.run.Given as goal

abbrev pub invariant-frames : goal.invariant-frames
invariant-frames l = record {
  grows : Grows l.initial.self l.self;
  under : (root : Root) → AllPairs (λ a b. a ≢ b) l.initial.self.shared.names → AreUnder root l.initial.self l.initial.frames → AreUnder root l.self l.frames;
  tallied : (before : Before) → Tallied before l.initial.self (roots_of l.initial.frames) (reserved l.initial.frames) → Tallied before l.self (roots_of l.frames) (reserved l.frames);
}
