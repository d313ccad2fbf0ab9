use Rattle.word_drafts.proofs.Joining.{then_writes}
use Rattle.row_drafts.proofs.data.string_elt.Goals as goal

pub returns : goal.returns
returns c =
    then_writes _ _ c.args.draft.now c.object.new.self c.make-3.new.self c.in_ok-object.ensures
    (then_writes _ _ c.object.new.self c.fixnum.new.self c.make-3.new.self c.in_ok-fixnum.ensures
    (then_writes _ _ c.fixnum.new.self c.line.new.self c.make-3.new.self c.in_ok-line.ensures.written
    (then_writes _ _ c.line.new.self c.index.new.self c.make-3.new.self c.in_ok-index.ensures
    (then_writes _ _ c.index.new.self c.make.new.self c.make-3.new.self c.in_ok-make.ensures
    (then_writes _ _ c.make.new.self c.line-2.new.self c.make-3.new.self c.in_ok-line-2.ensures.written
    (then_writes _ _ c.line-2.new.self c.make-2.new.self c.make-3.new.self c.in_ok-make-2.ensures
    (c.in_ok-make-3.ensures)))))))

pub make-requires-3 : goal.make-requires-3
make-requires-3 c = c.in_ok-make-2.ensures.proper (c.in_ok-line-2.ensures.written.proper (c.in_ok-make.ensures.proper (c.in_ok-index.ensures.proper (c.in_ok-line.ensures.written.proper (c.in_ok-fixnum.ensures.proper (c.in_ok-object.ensures.proper c.requires.proper))))))
