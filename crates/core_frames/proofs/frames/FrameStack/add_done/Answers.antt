use Rattle.std.proofs.Common.{◌≡◌, ◌-◌, ◌∙◌, ap, sym, reverse, length, arith}
use Rattle.core_frames.proofs.FrameLemmas.{done_in}
use Rattle.core_frames.proofs.frames.FrameStack.add_done.Goals as goal

pub returns-clause-added : goal.returns-clause-added
returns-clause-added c f others e =
    let s = c.self.inside in
    let is = s.counted.ok.0 in
    let at : c.len-count.result - 1 ≡ length s.counted.items - 1 = ap (λ n. n - 1) (c.len-count.ensures ∙ is) in
    done_in s.counted.items (reverse s.left.items) s.done.items c.push.new.self.items f others (c.len-count.result - 1) c.in-Some.more c.index.result.now c.index_mut.result.now c.args.done
    (sym (c.self.view_is ∙ e)) at c.index.ensures c.index_mut.ensures.value (omega arith) c.in_ok-push.ensures.items
