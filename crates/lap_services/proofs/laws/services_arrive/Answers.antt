use Rattle.lap_services.proofs.Lines.{characters_arrive, fixnums_arrive, faults_arrive, room_reported}
use Rattle.lap_services.proofs.laws.services_arrive.Goals as goal

pub returns : goal.returns
returns c = record { characters = characters_arrive; fixnums = fixnums_arrive; faults = faults_arrive; room = room_reported }
