use Rattle.std.proofs.Common.{◌≡◌, ◌∙◌, sym, ap, ◌+◌}
use Rattle.t_reader.specs.Grammar.{at, room}
use Rattle.t_reader.specs.Build.{datum_fault_of, last_frame}
use Rattle.t_reader.proofs.Depth.{last_fault, depth, answers}
use Rattle.t_reader.proofs.reader.add_open.Goals as goal

pub returns-in-Some-clause-gives : goal.returns-in-Some-clause-gives
returns-in-Some-clause-gives c text b r s =
    let frame_is : c.copied.result ≡ last_frame c.args.build.now.frames.items = c.copied.ensures ∙ c.last.ensures.value ∙ ap last_frame c.deref.ensures.value in
    let deep : c.len.result + room b ≡ 400 = ap (λ n. n + room b) (c.len.ensures ∙ c.args.build.now.frames.ok.0) ∙ depth text _ _ b _ _ r s in
    let k = c.in-Some.ensures b (last_fault text _ _ b _ _ r ∙ ap datum_fault_of (sym frame_is)) deep in
    rw c.fault.ensures (ap (at c.args.span) (sym k))

pub returns-in-None-clause-gives : goal.returns-in-None-clause-gives
returns-in-None-clause-gives c text b r s =
    let frame_is : c.copied.result ≡ last_frame c.args.build.now.frames.items = c.copied.ensures ∙ c.last.ensures.value ∙ ap last_frame c.deref.ensures.value in
    let deep : c.len.result + room b ≡ 400 = ap (λ n. n + room b) (c.len.ensures ∙ c.args.build.now.frames.ok.0) ∙ depth text _ _ b _ _ r s in
    let k = c.in-None.ensures b (last_fault text _ _ b _ _ r ∙ ap datum_fault_of (sym frame_is)) deep in
    answers _ _ _ (ap (at c.args.span) (sym k)) (c.open.ensures.reached text b r) c.open.ensures.memory
