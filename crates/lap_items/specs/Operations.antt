-- The items of an operation: a table by its kind.
use Rattle.std.specs.Prelude.{ℕ, ◌*◌, ◌-◌, ◌^◌, min, List, [], ◌∷◌, ◌++◌}
use Rattle.word_ir.specs.declared.operands.Operand.{Operand}
use Rattle.word_ir.specs.declared.placed.Home.{Home}
use Rattle.word_ir.specs.declared.words.WordOp.{WordOp}
use Rattle.word_ir.specs.declared.words.WordOp.TheVariants as op
use Rattle.m68020_code.specs.declared.instr.Cond.TheVariants.{Cs}
use Rattle.m68020_code.specs.declared.instr.Ea.TheVariants.{D, A, Imm}
use Rattle.m68020_code.specs.declared.instr.Instr.TheVariants.{MoveL, MoveaL, SubL, CmpL, CmpiL, AddaL, SubaL}
use Rattle.m68020_asm.specs.declared.item.Item.{Item}
use Rattle.m68020_asm.specs.declared.item.Item.TheVariants.{Plain, Branch}
use Rattle.lap_items.specs.Homes.{home_of, put_into}
use Rattle.lap_items.specs.Operands.{source_items, source_of, load_items}
use Rattle.lap_items.specs.Storage.{read_items, read_byte_items, write_items}
use Rattle.lap_items.specs.Arithmetic.{arith_items}
use Rattle.lap_items.specs.Services.{service_items}

unfoldable pub move_items : List Home → Home → Operand → List Item
move_items homes to from = source_items from ++ put_into (source_of homes from) to ∷ []

-- A6 - A4 is what is left.
unfoldable pub take_items : List Home → Home → Operand → ℕ → List Item
take_items homes to bytes full =
    load_items homes bytes 6 ++ Plain (MoveL (A 6) (D 7)) ∷ Plain (SubL (A 4) 7) ∷ Plain (CmpL (D 6) 7) ∷ Branch Cs full
    ∷ Plain (MoveL (A 4) (D 7)) ∷ Plain (AddaL (D 6) 4) ∷ put_into (D 7) to ∷ []

-- so many words in bytes; more than a long word holds are as many as it holds, for which there is no room either
abbrev pub bytes_of_words : ℕ → ℕ
bytes_of_words words = min (4 * words) (2 ^ 32 - 1)

-- A7 - A5 is what is left. A7 is lowered by one instruction.
unfoldable pub push_items : ℕ → ℕ → List Item
push_items words full =
    Plain (MoveL (A 7) (D 7)) ∷ Plain (SubL (A 5) 7) ∷ Plain (CmpiL (bytes_of_words words) (D 7)) ∷ Branch Cs full
    ∷ Plain (SubaL (Imm (bytes_of_words words)) 7) ∷ []

unfoldable pub op_items : List Home → WordOp → List Item
op_items homes (op.Move to from) = move_items homes (home_of homes to) from
op_items homes (op.Load to base offset) = read_items homes base offset (home_of homes to)
op_items homes (op.LoadByte to base index offset) = read_byte_items homes base index offset (home_of homes to)
op_items homes (op.Store base offset from) = write_items homes base offset from
op_items homes (op.Arith to kind a b over) = arith_items homes (home_of homes to) kind a b over
op_items homes (op.Take to bytes full) = take_items homes (home_of homes to) bytes full
op_items homes (op.Push words full) = push_items words full
op_items homes (op.Pop words) = Plain (AddaL (Imm (bytes_of_words words)) 7) ∷ []
op_items homes (op.Service number args) = service_items homes number args
op_items homes (op.Reset to) = source_items to ++ Plain (MoveaL (source_of homes to) 7) ∷ []
