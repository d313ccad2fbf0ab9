-- Arithmetic: the first operand's word in D7, and the result in D7, or D6 for a remainder. The branch for a result that doesn't fit
-- stands before the result is put into its home.
use Rattle.std.specs.Prelude.{ℕ, zero, suc, ◌+◌, ◌/◌, ◌%◌, ◌==◌, min, if◌then◌else◌, ℤ, pos, negsuc, List, [], ◌∷◌, ◌++◌}
use Rattle.word_ir.specs.declared.operands.Operand.{Operand}
use Rattle.word_ir.specs.declared.placed.Home.{Home}
use Rattle.word_ir.specs.declared.words.Arith.{Arith}
use Rattle.word_ir.specs.declared.words.Arith.TheVariants as arith
use Rattle.m68020_code.specs.declared.instr.Cond.TheVariants.{Vs}
use Rattle.m68020_code.specs.declared.instr.Ea.TheVariants.{D}
use Rattle.m68020_code.specs.declared.instr.Instr.TheVariants.{AddL, SubL, AndL, OrL, MulsL, DivslL, AslL, AsrL}
use Rattle.m68020_asm.specs.declared.item.Item.{Item}
use Rattle.m68020_asm.specs.declared.item.Item.TheVariants.{Plain, Branch}
use Rattle.lap_items.specs.Homes.{put_into}
use Rattle.lap_items.specs.Operands.{source_items, source_of, load_items, settled_items, settled}

-- ---- shifts: one instruction shifts by 8 bits at most

abbrev pub left_shift : ℕ → ℕ → List Item
left_shift over count = Plain (AslL count 7) ∷ Branch Vs over ∷ []

abbrev pub right_shift : ℕ → List Item
right_shift count = Plain (AsrL count 7) ∷ []

-- the same items so many times
abbrev pub repeated : List Item → ℕ → List Item
repeated items zero = []
repeated items (suc n) = repeated items n ++ items

abbrev pub left_items : ℕ → ℕ → List Item
left_items over n = repeated (left_shift over 8) (n / 8) ++ (if n % 8 == 0 then [] else left_shift over (n % 8))

abbrev pub right_items : ℕ → List Item
right_items n = repeated (right_shift 8) (n / 8) ++ (if n % 8 == 0 then [] else right_shift (n % 8))

-- past 32 bits to the left, and past 31 to the right, nothing changes any more
abbrev pub shift_items : ℤ → ℕ → List Item
shift_items (pos n) over = left_items over (min n 32)
shift_items (negsuc n) over = right_items (min (n + 1) 31)

-- ---- all operations

unfoldable pub computing_items : List Home → Arith → Operand → ℕ → List Item
computing_items homes arith.Add b over = source_items b ++ Plain (AddL (source_of homes b) 7) ∷ Branch Vs over ∷ []
computing_items homes arith.Sub b over = source_items b ++ Plain (SubL (source_of homes b) 7) ∷ Branch Vs over ∷ []
computing_items homes arith.Mul b over = settled_items homes b ++ Plain (MulsL (settled (source_of homes b)) 7) ∷ Branch Vs over ∷ []
computing_items homes arith.Quotient b over = load_items homes b 6 ++ Plain (DivslL (D 6) 7 6) ∷ Branch Vs over ∷ []
computing_items homes arith.Remainder b over = load_items homes b 6 ++ Plain (DivslL (D 6) 7 6) ∷ Branch Vs over ∷ []
computing_items homes (arith.Shift count) b over = shift_items count over
computing_items homes arith.And b over = settled_items homes b ++ Plain (AndL (settled (source_of homes b)) 7) ∷ []
computing_items homes arith.Or b over = settled_items homes b ++ Plain (OrL (settled (source_of homes b)) 7) ∷ []

abbrev pub result_in : Arith → ℕ
result_in arith.Remainder = 6
result_in arith.Add = 7
result_in arith.Sub = 7
result_in arith.Mul = 7
result_in arith.Quotient = 7
result_in (arith.Shift count) = 7
result_in arith.And = 7
result_in arith.Or = 7

unfoldable pub arith_items : List Home → Home → Arith → Operand → Operand → ℕ → List Item
arith_items homes to kind a b over = load_items homes a 7 ++ computing_items homes kind b over ++ put_into (D (result_in kind)) to ∷ []
