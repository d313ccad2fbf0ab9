-- Each operation, and tests.
use Rattle.std.proofs.Common.{ℕ, ◌*◌, ◌≤◌, List, arith}
use Rattle.word_ir.specs.declared.words.Arith.TheVariants as kind
use Rattle.word_ir.specs.declared.words.WordOp.{WordOp}
use Rattle.word_ir.specs.declared.words.WordOp.TheVariants as op
use Rattle.word_ir.specs.declared.words.WordEnd.TheVariants as last
use Rattle.word_ir.specs.Lines.{Op, Last, moves_of}
use Rattle.word_ir.specs.State.{Setting, State as WordState}
use Rattle.word_ir.specs.Effects.{op_effect, end_effect}
use Rattle.m68020_step.specs.Step.{State}
use Rattle.m68020_asm.specs.declared.item.Item.{Item}
use Rattle.lap_paths.specs.Paths.{Assembly}
use Rattle.lap_lines.specs.Arrives.{Arrives}
use Rattle.lap_lines.proofs.Lines.{moves_arrive, loads_arrive, bytes_arrive, stores_arrive, takes_arrive, pushes_arrive, pops_arrive, resets_arrive, sums_arrive, shifts_arrive}
use Rattle.lap_values.proofs.All.{all_services_arrive}
use Rattle.lap_ends.proofs.Tests.{test_line}
use Rattle.lap_operations.specs.Comes.{Comes}
use Rattle.lap_operations.specs.Laws.{OperationsArrive, TestsCome}
use Rattle.lap_operations.proofs.Coming.{arriving, serving}
use Rattle.lap_operations.proofs.Quiet.{IsQuiet, move_quiet, load_quiet, byte_quiet, store_quiet, arith_quiet, take_quiet, push_quiet, pop_quiet, reset_quiet, test_quiet, service_spoken}

-- in so many instructions
of_line : (a : Assembly) (m : Setting) (s : WordState) (t : State) (items : List Item) (o : WordOp) (n : ℕ) → n ≤ 13 * moves_of (Op o) → 1 ≤ n → IsQuiet (op_effect m s o) → Arrives a m s t items n (op_effect m s o)
    → Comes a m s t items (13 * moves_of (Op o)) (op_effect m s o)
of_line a m s t items o n le one quiet x = arriving a m s t items n (13 * moves_of (Op o)) le (op_effect m s o) one quiet x

pub operations_arrive : OperationsArrive
operations_arrive a m s t items (op.Move to from) named housed place is fine shaped stands =
    of_line a m s t items (op.Move to from) 3 (omega arith) (omega arith) (move_quiet m s to from) (moves_arrive to from a m s t items housed place is fine stands)
operations_arrive a m s t items (op.Load to base offset) named housed place is fine shaped stands =
    of_line a m s t items (op.Load to base offset) 3 (omega arith) (omega arith) (load_quiet m s to base offset) (loads_arrive to base offset a m s t items housed place is fine stands)
operations_arrive a m s t items (op.LoadByte to base index offset) named housed place is fine shaped stands =
    of_line a m s t items (op.LoadByte to base index offset) 11 (omega arith) (omega arith) (byte_quiet m s to base index offset) (bytes_arrive to base index offset a m s t items housed place is fine stands)
operations_arrive a m s t items (op.Store base offset from) named housed place is fine shaped stands =
    of_line a m s t items (op.Store base offset from) 6 (omega arith) (omega arith) (store_quiet m s base from offset) (stores_arrive base from offset a m s t items housed place is fine stands)
operations_arrive a m s t items (op.Take to bytes full) named housed place is fine shaped stands =
    of_line a m s t items (op.Take to bytes full) 10 (omega arith) (omega arith) (take_quiet m s to bytes full) (takes_arrive to bytes full a m s t items housed place is fine stands)
operations_arrive a m s t items (op.Push words full) named housed place is fine shaped stands =
    of_line a m s t items (op.Push words full) 5 (omega arith) (omega arith) (push_quiet m s words full) (pushes_arrive words full a m s t items housed place is fine stands)
operations_arrive a m s t items (op.Pop words) named housed place is fine shaped stands =
    of_line a m s t items (op.Pop words) 1 (omega arith) (omega arith) (pop_quiet m s words) (pops_arrive words a m s t items housed place is fine stands)
operations_arrive a m s t items (op.Reset to) named housed place is fine shaped stands =
    of_line a m s t items (op.Reset to) 3 (omega arith) (omega arith) (reset_quiet m s to) (resets_arrive to a m s t items housed place is fine stands)
operations_arrive a m s t items (op.Service number args) named housed place is fine shaped stands =
    serving a m s t items 9 (13 * moves_of (Op (op.Service number args))) (omega arith) (op_effect m s (op.Service number args)) (service_spoken m s number args)
    (all_services_arrive number args shaped a m s t items named housed place is fine.operands stands)
operations_arrive a m s t items (op.Arith to kind.Add x y over) named housed place is fine shaped stands =
    of_line a m s t items (op.Arith to kind.Add x y over) 8 (omega arith) (omega arith) (arith_quiet m s to kind.Add x y over) (sums_arrive.add to x y over a m s t items housed place is fine stands)
operations_arrive a m s t items (op.Arith to kind.Sub x y over) named housed place is fine shaped stands =
    of_line a m s t items (op.Arith to kind.Sub x y over) 8 (omega arith) (omega arith) (arith_quiet m s to kind.Sub x y over) (sums_arrive.subtract to x y over a m s t items housed place is fine stands)
operations_arrive a m s t items (op.Arith to kind.Mul x y over) named housed place is fine shaped stands =
    of_line a m s t items (op.Arith to kind.Mul x y over) 9 (omega arith) (omega arith) (arith_quiet m s to kind.Mul x y over) (sums_arrive.multiply to x y over a m s t items housed place is fine stands)
operations_arrive a m s t items (op.Arith to kind.Quotient x y over) named housed place is fine shaped stands =
    of_line a m s t items (op.Arith to kind.Quotient x y over) 9 (omega arith) (omega arith) (arith_quiet m s to kind.Quotient x y over) (sums_arrive.quotient to x y over a m s t items housed place is fine stands)
operations_arrive a m s t items (op.Arith to kind.Remainder x y over) named housed place is fine shaped stands =
    of_line a m s t items (op.Arith to kind.Remainder x y over) 9 (omega arith) (omega arith) (arith_quiet m s to kind.Remainder x y over) (sums_arrive.remainder to x y over a m s t items housed place is fine stands)
operations_arrive a m s t items (op.Arith to kind.And x y over) named housed place is fine shaped stands =
    of_line a m s t items (op.Arith to kind.And x y over) 8 (omega arith) (omega arith) (arith_quiet m s to kind.And x y over) (sums_arrive.both to x y over a m s t items housed place is fine stands)
operations_arrive a m s t items (op.Arith to kind.Or x y over) named housed place is fine shaped stands =
    of_line a m s t items (op.Arith to kind.Or x y over) 8 (omega arith) (omega arith) (arith_quiet m s to kind.Or x y over) (sums_arrive.either to x y over a m s t items housed place is fine stands)
operations_arrive a m s t items (op.Arith to (kind.Shift count) x y over) named housed place is fine shaped stands =
    of_line a m s t items (op.Arith to (kind.Shift count) x y over) 14 (omega arith) (omega arith) (arith_quiet m s to (kind.Shift count) x y over) (shifts_arrive count to x y over a m s t items housed place is fine stands)

pub tests_come : TestsCome
tests_come a m s t items k x y at_true at_false codes housed place is usable_x usable_y sized stands =
    arriving a m s t items 8 (13 * moves_of (Last (last.Test k x y at_true at_false))) (omega arith) (end_effect m s (last.Test k x y at_true at_false)) (omega arith) (test_quiet m s k x y at_true at_false)
    (test_line a m s housed place codes t items x y at_true at_false is usable_x usable_y k sized stands)
