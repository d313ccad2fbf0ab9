use Rattle.frame_objects.proofs.Objects.{object_passes, other_fails}
use Rattle.frame_objects.proofs.laws.objects_pass_calls_on.Goals as goal

pub returns-clause-objects : goal.returns-clause-objects
returns-clause-objects c = object_passes

pub returns-clause-others : goal.returns-clause-others
returns-clause-others c = other_fails
