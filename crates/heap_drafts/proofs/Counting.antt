-- How an operation changes the slots of a frame.
use Rattle.std.proofs.Common.{◌≡◌, ℕ, zero, suc, ◌+◌, ◌<◌, true, false, if◌then◌else◌, List, ◌∷◌, length, drop, get_or, refl, sym, ap, ◌∙◌}
use Rattle.frame_ir.specs.declared.forms.Place.TheVariants as At
use Rattle.frame_ir.specs.declared.forms.FrameOp.{FrameOp}
use Rattle.frame_ir.specs.declared.forms.FrameOp.TheVariants as Op
use Rattle.frame_ir.specs.Operations.{slots_behind}
use Rattle.heap_drafts.specs.declared.slots.Count.{Count}
use Rattle.heap_drafts.specs.Slots.{change_of, by_change, Counts}
use Rattle.heap_drafts.proofs.Remaining.{drop_one}

-- each operation, by the count of frames above
pub slots_change : (above : ℕ) (op : FrameOp) (ops : List FrameOp) (n : ℕ) → slots_behind above (op ∷ ops) n ≡ by_change (change_of op) above n (λ a m. slots_behind a ops m)
slots_change zero (Op.Prim to p args) ops n = refl
slots_change (suc above) (Op.Prim to p args) ops n = refl
slots_change zero (Op.Closure to code kept At.Heap) ops n = refl
slots_change (suc above) (Op.Closure to code kept At.Heap) ops n = refl
slots_change zero (Op.Closure to code kept At.Static) ops n = refl
slots_change (suc above) (Op.Closure to code kept At.Static) ops n = refl
slots_change zero (Op.Closure to code kept (At.Frame slot)) ops n = refl
slots_change (suc above) (Op.Closure to code kept (At.Frame slot)) ops n = refl
slots_change zero (Op.ClosureGet to from slot) ops n = refl
slots_change (suc above) (Op.ClosureGet to from slot) ops n = refl
slots_change zero (Op.FrameGet to slot) ops n = refl
slots_change (suc above) (Op.FrameGet to slot) ops n = refl
slots_change zero (Op.Cell to value) ops n = refl
slots_change (suc above) (Op.Cell to value) ops n = refl
slots_change zero (Op.CellGet to cell) ops n = refl
slots_change (suc above) (Op.CellGet to cell) ops n = refl
slots_change zero (Op.CellSet cell value) ops n = refl
slots_change (suc above) (Op.CellSet cell value) ops n = refl
slots_change zero (Op.GlobalGet to global) ops n = refl
slots_change (suc above) (Op.GlobalGet to global) ops n = refl
slots_change zero (Op.GlobalPut global value first) ops n = refl
slots_change (suc above) (Op.GlobalPut global value first) ops n = refl
slots_change zero (Op.Push kept back) ops n = refl
slots_change (suc above) (Op.Push kept back) ops n = refl
slots_change zero Op.Pop ops n = refl
slots_change (suc above) Op.Pop ops n = refl
slots_change zero (Op.CatchOpen to back) ops n = refl
slots_change (suc above) (Op.CatchOpen to back) ops n = refl
slots_change zero Op.CatchClose ops n = refl
slots_change (suc above) Op.CatchClose ops n = refl
slots_change zero (Op.Object to template proc kept) ops n = refl
slots_change (suc above) (Op.Object to template proc kept) ops n = refl

-- the end of the rest of the operations, behind one of them
behind_one : (ops : List FrameOp) (i above n whole : ℕ) (op : FrameOp) (count : Count) → op ≡ get_or ops i op → i < length ops → Counts (change_of op) above n count → slots_behind above (drop i ops) n ≡ whole
    → (if count.open then slots_behind count.above (drop (i + 1) ops) count.slots else count.slots) ≡ whole
behind_one ops i above n whole op count at lt counts is =
    sym (counts (λ a m. slots_behind a (drop (i + 1) ops) m)) ∙ (sym (slots_change above op (drop (i + 1) ops) n) ∙ (ap (λ xs. slots_behind above xs n) (sym (drop_one ops i op at lt)) ∙ is))

pub goes_on : (ops : List FrameOp) (i above n whole : ℕ) (op : FrameOp) (count : Count) → op ≡ get_or ops i op → i < length ops → Counts (change_of op) above n count → count.open ≡ true → slots_behind above (drop i ops) n ≡ whole
    → slots_behind count.above (drop (i + 1) ops) count.slots ≡ whole
goes_on ops i above n whole op count at lt counts shown is =
    sym (ap (λ b. if b then slots_behind count.above (drop (i + 1) ops) count.slots else count.slots) shown) ∙ behind_one ops i above n whole op count at lt counts is

pub is_shut : (ops : List FrameOp) (i above n whole : ℕ) (op : FrameOp) (count : Count) → op ≡ get_or ops i op → i < length ops → Counts (change_of op) above n count → count.open ≡ false → slots_behind above (drop i ops) n ≡ whole
    → count.slots ≡ whole
is_shut ops i above n whole op count at lt counts shown is =
    sym (ap (λ b. if b then slots_behind count.above (drop (i + 1) ops) count.slots else count.slots) shown) ∙ behind_one ops i above n whole op count at lt counts is
