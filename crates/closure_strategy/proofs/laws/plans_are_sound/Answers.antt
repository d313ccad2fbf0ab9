use Rattle.closure_strategy.proofs.Chosen.{plans_are_sound}
use Rattle.closure_strategy.proofs.laws.plans_are_sound.Goals as goal

pub returns : goal.returns
returns c = plans_are_sound
