use Rattle.std.proofs.Common.{◌≡◌, [], ◌∙◌, ap, drop, subst}
use Rattle.core_frames.specs.Frames.{NoneLeft}
use Rattle.core_frames.proofs.FrameLemmas.{first_frame}
use Rattle.t_expand.proofs.StepLemmas.{closes_made}
use Rattle.t_expand.proofs.TallyLemmas.{closes_tallied_made}
use Rattle.t_expand.proofs.driver_state.Expansion.close.Goals as goal

pub returns-clause-back : goal.returns-clause-back
returns-clause-back c root u =
    let x = first_frame c.args.frames.now c.in-Some.state.now c.in-Some.ensures in
    let last : (x.0).left ≡ [] = subst (λ l. NoneLeft l) x.2 c.requires in
    closes_made root c.args.self.now c.make_node.new.self c.args.frames.now c.pop.new.self x.0 x.1 c.in-Some.state.now c.done.result.now c.in_ok-key.key x.2 last c.in-Some.ensures
    (c.done.ensures x.0 x.1 x.2) (c.pop.ensures ∙ ap (drop 1) x.2) c.in_ok-key.ensures.made u

pub returns-clause-tallied : goal.returns-clause-tallied
returns-clause-tallied c before t =
    let x = first_frame c.args.frames.now c.in-Some.state.now c.in-Some.ensures in
    let last : (x.0).left ≡ [] = subst (λ l. NoneLeft l) x.2 c.requires in
    closes_tallied_made before c.args.self.now c.make_node.new.self c.args.frames.now c.pop.new.self x.0 x.1 c.in-Some.state.now c.done.result.now c.in_ok-key.key x.2 c.in-Some.ensures
    (c.done.ensures x.0 x.1 x.2) (c.pop.ensures ∙ ap (drop 1) x.2) c.in_ok-key.ensures.made t
