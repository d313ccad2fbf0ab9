use Rattle.std.proofs.Common.{◌≡◌, ◌-◌, ◌∙◌, ap, reverse, take, drop, length, arith}
use Rattle.core_frames.specs.Frames.{frames}
use Rattle.core_frames.proofs.FrameLemmas.{popped_in}
use Rattle.core_frames.proofs.frames.FrameStack.pop.Goals.{in-Object-1, in-Constant-1}
use Rattle.core_frames.proofs.frames.FrameStack.pop.Goals as goal

pub returns-in-Some : goal.returns-in-Some
returns-in-Some c = elim c.match-counted.branch [ in-Object-1 w ↦ w.self-is ∙ here | in-Constant-1 w ↦ w.self-is ∙ here ]
  where
    rest_is : c.saturating_sub-rest.result ≡ length c.self.inside.done.items - c.in-Some.counted.done_count
    rest_is = let is = c.self.inside.done.ok.0 in omega arith

    here : frames (reverse c.pop.new.self.items) (reverse c.self.inside.left.items) c.truncate.new.self.items ≡ drop 1 c.args.self.now
    here =
        let s = c.self.inside in
        ap (λ l. frames (reverse c.pop.new.self.items) (reverse s.left.items) l) (c.truncate.ensures.items ∙ ap (λ n. take n s.done.items) rest_is)
        ∙ popped_in s.counted.items c.pop.new.self.items (reverse s.left.items) s.done.items c.in-Some.counted c.args.self.now c.self.view_is c.requires c.in-Some.ensures.items
