use Rattle.lap_blocks.proofs.Apart.{blocks_apart}
use Rattle.lap_blocks.proofs.Blocks.{blocks_stand}
use Rattle.lap_blocks.proofs.laws.blocks_stand.Goals as goal

pub returns : goal.returns
returns c = record { stand = blocks_stand; apart = blocks_apart }
