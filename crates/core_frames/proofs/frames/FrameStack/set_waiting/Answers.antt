use Rattle.std.proofs.Common.{◌≡◌, ◌-◌, ◌∙◌, ap, sym, reverse, length}
use Rattle.core_frames.proofs.FrameLemmas.{waits_in}
use Rattle.core_frames.proofs.frames.FrameStack.set_waiting.Goals as goal

pub returns-then-count-gt0 : goal.returns-then-count-gt0
returns-then-count-gt0 c f others e =
    let s = c.self.inside in
    let is = s.counted.ok.0 in
    let at : c.len-count.result - 1 ≡ length s.counted.items - 1 = ap (λ n. n - 1) (c.len-count.ensures ∙ is) in
    waits_in s.counted.items (reverse s.left.items) s.done.items f others (c.len-count.result - 1) c.index_mut.result.now c.index_mut-then-count-gt0.result.now c.args.bound c.args.part_tail
    (sym (c.self.view_is ∙ e)) at c.index_mut.ensures.value c.index_mut-then-count-gt0.ensures.value
