use Rattle.orbit_build.proofs.CoresAlike.{text_counts, text_built}
use Rattle.orbit_build.proofs.laws.cores_alike.Goals as goal

pub returns-clause-counts : goal.returns-clause-counts
returns-clause-counts c text unit other one two = text_counts text unit other one two

pub returns-clause-built : goal.returns-clause-built
returns-clause-built c text unit other one two = text_built text unit other one two
