use Rattle.std.proofs.Common.{rules, ◌≡◌, OnOk, List, sym, subst}
use Rattle.t_base.specs.declared.shared_parts.Shared.{Shared}
use Rattle.frame_ir.specs.declared.forms.FrameOp.{FrameOp}
use Rattle.frame_ir.specs.declared.forms.FrameOp.TheVariants as Op
use Rattle.word_selection.specs.Codes.{Choice, op_code}
use Rattle.word_drafts.specs.Drafts.{Writes}
use Rattle.block_drafts.specs.Fitting.{IsChoice}
use Rattle.block_drafts.proofs.operations.plain.Goals as goal

pub returns-in-Prim-clause-code : goal.returns-in-Prim-clause-code
returns-in-Prim-clause-code c =
    let args : c.as_slice.result.now ≡ c.in-Prim.args = search rules in
    subst (λ op. (h : Choice) (shared : Shared) (ops : List FrameOp) → IsChoice h shared c.args.places.now → OnOk c.builtin.result (Writes (op_code h shared c.args.places.now.free op ops) c.args.draft.now c.builtin.new.draft)) (sym c.in-Prim.is)
    (subst (λ xs. (h : Choice) (shared : Shared) (ops : List FrameOp) → IsChoice h shared c.args.places.now → OnOk c.builtin.result (Writes (op_code h shared c.args.places.now.free (Op.Prim c.in-Prim.to c.in-Prim.p xs) ops) c.args.draft.now c.builtin.new.draft)) args c.builtin.ensures.code)

pub returns-in-CellSet-clause-code : goal.returns-in-CellSet-clause-code
returns-in-CellSet-clause-code c = subst (λ op. (h : Choice) (shared : Shared) (ops : List FrameOp) → IsChoice h shared c.args.places.now → OnOk c.set_cell.result (Writes (op_code h shared c.args.places.now.free op ops) c.args.draft.now c.set_cell.new.draft)) (sym c.in-CellSet.is) c.set_cell.ensures.code

pub returns-in-GlobalPut-clause-code : goal.returns-in-GlobalPut-clause-code
returns-in-GlobalPut-clause-code c = subst (λ op. (h : Choice) (shared : Shared) (ops : List FrameOp) → IsChoice h shared c.args.places.now → OnOk c.put_global.result (Writes (op_code h shared c.args.places.now.free op ops) c.args.draft.now c.put_global.new.draft)) (sym c.in-GlobalPut.is) c.put_global.ensures.code
