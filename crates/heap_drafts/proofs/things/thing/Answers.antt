use Rattle.std.proofs.Common.{◌*◌, subst}
use Rattle.word_ir.specs.declared.words.Arith.TheVariants as kind
use Rattle.select_rows.specs.Macros.{of_var, word}
use Rattle.select_rows.specs.Codes.{make, take}
use Rattle.frame_heap.specs.Codes.{heap_stores}
use Rattle.word_drafts.specs.Drafts.{Writes}
use Rattle.word_drafts.proofs.Joining.{then_writes}
use Rattle.heap_drafts.proofs.things.thing.Goals as goal

pub returns : goal.returns
returns c =
    then_writes (take c.args.t (4 * c.args.count)) (λ rest. heap_stores c.args.t 0 c.args.xs.now (make kind.Add (of_var c.args.t) (word 2) c.args.to rest)) c.args.draft.now c.room.new.self c.make.new.self
    (subst (λ n. Writes (take c.args.t n) c.args.draft.now c.room.new.self) c.in_ok-bytes.ensures c.in_ok-room.ensures)
    (then_writes (heap_stores c.args.t 0 c.args.xs.now) (make kind.Add (of_var c.args.t) (word 2) c.args.to) c.room.new.self c.heap_stores.new.draft c.make.new.self c.in_ok-heap_stores.ensures c.in_ok-make.ensures)
