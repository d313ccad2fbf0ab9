-- What is emitted can be assembled, and how long it is.
use Rattle.std.specs.Prelude.{◌+◌, ◌≤◌, ◌^◌, length, Result, Ok, Err, IfOk}
use Rattle.std.specs.Global.{Vec}
use Rattle.t_base.specs.declared.basics.Memory.{Memory}
use Rattle.word_ir.specs.declared.placed.Placed.{Placed}
use Rattle.word_ir.specs.WholePlaced.{IsWholePlaced}
use Rattle.m68020_code.specs.declared.instr.Width.TheVariants.{Long}
use Rattle.m68020_asm.specs.declared.item.Item.{Item}
use Rattle.m68020_asm.specs.Items.{address, code_start, CanAssemble}
use Rattle.lap_items.specs.Program.{IsEmitted}
use Rattle.lap_shapes.specs.Sizes.{most_bytes}
use Rattle.lap_shapes.proofs.Assembled.{can_be_assembled}
use Rattle.lap_shapes.proofs.Bytes.{bytes_within}

pub assembles : (placed : Placed) (r : Result (Vec Item) Memory) → IsWholePlaced placed → IfOk r (λ v. IsEmitted placed v.items)
    → IfOk r (λ v. address v.items (λ _. Long) (length v.items) ≤ code_start + 2 ^ 28 → CanAssemble v.items)
assembles placed (Ok v) whole is = can_be_assembled placed v.items whole is
assembles placed (Err e) whole is = tt

pub within : (placed : Placed) (r : Result (Vec Item) Memory) → IfOk r (λ v. IsEmitted placed v.items) → IfOk r (λ v. address v.items (λ _. Long) (length v.items) ≤ code_start + most_bytes placed.words)
within placed (Ok v) is = bytes_within placed v.items is
within placed (Err e) is = tt
