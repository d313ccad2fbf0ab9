use Rattle.std.proofs.Common.{◌≡◌, ◌∙◌, ◌-◌, ◌==◌, ap, subst, length, slice_get}
use Rattle.core_frames.specs.Frames.{is_last}
use Rattle.core_frames.proofs.FrameLemmas.{last_in}
use Rattle.core_frames.proofs.frames.FrameStack.is_last.Goals as goal

pub returns-else-counted-eq0 : goal.returns-else-counted-eq0
returns-else-counted-eq0 c =
    let s = c.self.inside in
    subst (λ l. c.is_empty.result ≡ is_last l) c.self.view_is
    (last_in s.counted.items s.left.items s.done.items c.in-Some.counted.now c.is_empty.result
    (c.in-Some.ensures.value ∙ ap (λ l. slice_get l (length l - 1)) c.deref.ensures.value) c.if-counted-eq0.false (c.is_empty.ensures ∙ ap (λ n. n == 0) s.left.ok.0))
