use Rattle.closure_layout.proofs.layouts.layout.Goals as goal

pub returns-clause-laid : goal.returns-clause-laid
returns-clause-laid c = c.in_ok-frames.ensures.laid

pub returns-clause-whole : goal.returns-clause-whole
returns-clause-whole c = c.laid_out_is_whole.ensures c.args.cps c.in_ok-frames.frames c.requires.whole c.in_ok-frames.ensures.laid c.in_ok-frames.ensures.owed

pub returns-clause-small : goal.returns-clause-small
returns-clause-small c = c.laid_out_is_small.ensures c.args.cps c.in_ok-frames.frames c.in_ok-frames.ensures.laid

pub returns-clause-heap : goal.returns-clause-heap
returns-clause-heap c = c.laid_out_is_on_heap.ensures c.args.cps c.in_ok-frames.frames c.requires.whole c.in_ok-frames.ensures.laid
