-- The run of a list of items: the machine's instructions at the items' places, where a label stands for its address.
use Rattle.std.specs.Prelude.{ℕ, zero, suc, ◌+◌, ◌==◌, if◌then◌else◌, List, length, slice_get, slice_index, Option, Some, None, option_map}
use Rattle.m68020_code.specs.declared.instr.Ea.TheVariants.{Abs}
use Rattle.m68020_code.specs.declared.instr.Instr.{Instr}
use Rattle.m68020_code.specs.declared.instr.Instr.TheVariants.{Bcc, Lea}
use Rattle.m68020_code.specs.declared.instr.Width.{Width}
use Rattle.m68020_code.specs.Table.{spelling}
use Rattle.m68020_step.specs.declared.machine.Sizes.{Sizes}
use Rattle.m68020_step.specs.declared.machine.Step.{Step}
use Rattle.m68020_step.specs.Boot.{boot_of}
use Rattle.m68020_step.specs.Operand.{with_pc}
use Rattle.m68020_step.specs.Step.{State, executed, after, step_of}
use Rattle.m68020_asm.specs.declared.item.Item.{Item}
use Rattle.m68020_asm.specs.declared.item.Item.TheVariants.{Plain, Label, Branch, CodeAddr}
use Rattle.m68020_asm.specs.Items.{address}
use Rattle.m68020_asm.specs.Widths.{displacement}
use Rattle.m68020_asm.specs.Assembled.{IsAssembled}

-- Items as they stand in code: the width of each branch, and the address of each label.
pub record Program : Type 0 where
  pub items : List Item
  pub widths : ℕ → Width
  pub labels : List ℕ

-- the items as they stand in the code that came of them
abbrev pub program_of : (items : List Item) (bytes labels : List ℕ) → IsAssembled items bytes labels → Program
program_of items bytes labels h = record { items = items; widths = h.widths; labels = labels }

-- the address of the item at a place
abbrev pub address_in : Program → ℕ → ℕ
address_in p k = address p.items p.widths k

-- the instruction that an item stands for at an address; a label stands for none
abbrev pub instruction_of : List ℕ → Width → ℕ → Item → Option Instr
instruction_of labels width at (Plain i) = Some i
instruction_of labels width at (Label n) = None
instruction_of labels width at (Branch cond n) = Some (Bcc cond width (displacement at (slice_index labels n)))
instruction_of labels width at (CodeAddr reg n) = Some (Lea (Abs (slice_index labels n)) reg)

abbrev pub instruction_of_any : List ℕ → Width → ℕ → Option Item → Option Instr
instruction_of_any labels width at None = None
instruction_of_any labels width at (Some item) = instruction_of labels width at item

-- the instruction at a place
abbrev pub instruction_in : Program → ℕ → Option Instr
instruction_in p k = instruction_of_any p.labels (p.widths k) (address_in p k) (slice_get p.items k)

abbrev pub or_else : Option Instr → Option Instr → Option Instr
or_else (Some i) other = Some i
or_else None other = other

-- the instruction at an address, where one of the places before this one has it
unfoldable pub found_at : Program → ℕ → ℕ → Option Instr
found_at p at zero = None
found_at p at (suc k) = if address_in p k == at then or_else (instruction_in p k) (found_at p at k) else found_at p at k

abbrev pub carried_out : State → Instr → Step × State
carried_out s i = after s (executed s.storage s.registers.pc (with_pc s.registers (s.registers.pc + length (spelling i))) i)

-- one step: the instruction at the program counter, where an item stands there
abbrev pub item_step : Program → State → Option (Step × State)
item_step p s = option_map (carried_out s) (found_at p s.registers.pc (length p.items))

abbrev pub went_on : Program → Option State → Option State
went_on p None = None
went_on p (Some s) = option_map (λ x. x.1) (item_step p s)

-- the run: the state after so many steps, where an item stood at each
unfoldable pub reached : Program → State → ℕ → Option State
reached p s zero = Some s
reached p s (suc n) = went_on p (reached p s n)

-- the machine's state after so many steps of its own
unfoldable pub machine_after : State → ℕ → State
machine_after s zero = s
machine_after s (suc n) = (step_of (machine_after s n)).1

-- where the run starts: at the entry's label, with the code and these static words
abbrev pub start_of : Program → List ℕ → List ℕ → ℕ → Sizes → State
start_of p code statics entry sizes = boot_of code statics (slice_index p.labels entry) sizes
