use Rattle.std.proofs.Common.{◌≡◌, ◌-◌, ◌∙◌, ap, length, arith}
use Rattle.core_frames.proofs.FrameLemmas.{taken_in}
use Rattle.core_frames.proofs.frames.FrameStack.take_part.Goals as goal

pub returns-in-Some : goal.returns-in-Some
returns-in-Some c =
    let s = c.self.inside in
    let is = s.counted.ok.0 in
    let at : c.len-count.result - 1 ≡ length s.counted.items - 1 = ap (λ n. n - 1) (c.len-count.ensures ∙ is) in
    taken_in s.counted.items s.left.items c.pop.new.self.items s.done.items c.args.self.now (c.len-count.result - 1) c.index.result.now c.index_mut.result.now c.in-Some.part c.self.view_is
    (omega arith) at c.index.ensures c.index_mut.ensures.value (omega arith) c.in-Some.ensures.items
