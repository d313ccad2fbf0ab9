use Rattle.std.proofs.lemmas.Option.{get_or_from_slice_get}
use Rattle.m68020_asm.specs.Items.{address}
use Rattle.m68020_asm.proofs.laws.label_address.Goals as goal

pub returns : goal.returns
returns c items bytes labels n k h there = get_or_from_slice_get labels n (address items h.widths k) 0 (h.labelled n k there)
