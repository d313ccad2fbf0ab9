use Rattle.static_bytes.proofs.Order.{four_each, stand_in_order}
use Rattle.static_bytes.proofs.laws.bytes_stand_in_order.Goals as goal

pub returns : goal.returns
returns c = record { four = four_each; order = stand_in_order }
