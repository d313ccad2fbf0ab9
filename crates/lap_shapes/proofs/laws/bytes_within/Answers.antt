use Rattle.lap_shapes.proofs.Bytes.{bytes_within}
use Rattle.lap_shapes.proofs.laws.bytes_within.Goals as goal

pub returns : goal.returns
returns c = bytes_within
