use Rattle.lap_values.proofs.All.{all_services_arrive}
use Rattle.lap_values.proofs.laws.all_services_arrive.Goals as goal

pub returns : goal.returns
returns c = all_services_arrive
