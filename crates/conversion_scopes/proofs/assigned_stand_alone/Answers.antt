use Rattle.conversion_scopes.proofs.Alone.{assigned_stand_alone}
use Rattle.conversion_scopes.proofs.assigned_stand_alone.Goals as goal

pub returns : goal.returns
returns c = assigned_stand_alone
