use Rattle.std.proofs.Common.{◌≡◌, [], ap, ◌∙◌, refl, Some}
use Rattle.std.specs.Prelude.{OnOk}
use Rattle.t_reader.specs.declared.build.Frame.TheVariants as frame
use Rattle.t_reader.specs.declared.build.Tail.TheVariants as tails
use Rattle.t_reader.specs.Build.{last_frame, Reached}
use Rattle.t_reader.proofs.LastList.{closes_dotted, closes_list}
use Rattle.t_reader.proofs.Wholeness.{popped, takes_frame}
use Rattle.t_reader.proofs.build.Build.close.Goals as goal

pub returns-in-Datum-clause-well : goal.returns-in-Datum-clause-well
returns-in-Datum-clause-well c w =
    c.close_dotted.ensures.well
    (takes_frame [] (frame.List c.args.open c.args.first c.args.tail) c.args.self.now (record c.args.self.now { frames = c.pop.new.self }) refl refl refl
    (popped c.args.self.now.frames.items c.pop.new.self.items c.args.self.now.frames.len _ c.pop.ensures.rest c.args.self.now.frames.ok.0 c.requires.last) w)

pub returns-in-Datum-clause-reached : goal.returns-in-Datum-clause-reached
returns-in-Datum-clause-reached c text b r s k =
    let last : last_frame c.args.self.now.frames.items ≡ Some (frame.List c.args.open c.args.first tails.Datum) = c.requires.last ∙ ap (λ t. Some (frame.List c.args.open c.args.first t)) c.in-Datum.is in
    closes_dotted text c.args.self.now.names c.args.self.now.nodes.items c.args.self.now.items.items c.args.self.now.frames.items c.pop.new.self.items c.args.open c.args.close c.args.first
    (λ v. OnOk c.close_dotted.result (Reached text v c.close_dotted.new.self))
    (popped c.args.self.now.frames.items c.pop.new.self.items c.args.self.now.frames.len _ c.pop.ensures.rest c.args.self.now.frames.ok.0 last)
    (λ b' fs g t below mine st ta so own items held d. c.close_dotted.ensures.reached text b' fs g t below mine st ta so own items held c.args.open d c.args.close refl)
    b r s k

pub returns-in_default-clause-well : goal.returns-in_default-clause-well
returns-in_default-clause-well c w =
    c.close_list.ensures.well
    (takes_frame [] (frame.List c.args.open c.args.first c.args.tail) c.args.self.now (record c.args.self.now { frames = c.pop.new.self }) refl refl refl
    (popped c.args.self.now.frames.items c.pop.new.self.items c.args.self.now.frames.len _ c.pop.ensures.rest c.args.self.now.frames.ok.0 c.requires.last) w)

pub returns-in_default-clause-reached : goal.returns-in_default-clause-reached
returns-in_default-clause-reached c text b r s k =
    closes_list text c.args.self.now.names c.args.self.now.nodes.items c.args.self.now.items.items c.args.self.now.frames.items c.pop.new.self.items c.args.open c.args.close c.args.first c.args.tail
    (λ v. OnOk c.close_list.result (Reached text v c.close_list.new.self))
    (popped c.args.self.now.frames.items c.pop.new.self.items c.args.self.now.frames.len _ c.pop.ensures.rest c.args.self.now.frames.ok.0 c.requires.last)
    c.in_default.not-Datum
    (λ b' fs below mine st ta so own items held. c.close_list.ensures.reached text b' fs below mine st ta so own items held c.args.open c.args.close refl)
    b r s k
