use Rattle.orbit_build.proofs.EveryCore.{text_means, every_core}
use Rattle.orbit_build.proofs.laws.every_core.Goals as goal

pub returns-clause-meaning : goal.returns-clause-meaning
returns-clause-meaning c text unit other one two = text_means c.cores_mean_the_same.ensures text unit other one two

pub returns-clause-images : goal.returns-clause-images
returns-clause-images c text bytes faithful unit core = every_core c.cores_mean_the_same.ensures text bytes faithful unit core
