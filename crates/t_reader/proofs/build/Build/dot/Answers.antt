use Rattle.std.proofs.Common.{[], refl}
use Rattle.t_reader.specs.declared.build.Frame.TheVariants as frame
use Rattle.t_reader.specs.declared.build.Tail.TheVariants as tails
use Rattle.t_reader.proofs.LastList.{dots}
use Rattle.t_reader.proofs.Wholeness.{popped, takes_frame, puts_frame}
use Rattle.t_reader.proofs.build.Build.dot.Goals as goal

pub returns-clause-well : goal.returns-clause-well
returns-clause-well c w =
    puts_frame [] (frame.List c.args.open c.args.first tails.Dot) (record c.args.self.now { frames = c.pop.new.self }) (record c.args.self.now { frames = c.push.new.self }) refl refl refl c.in_ok-push.ensures.items
    (takes_frame [] (frame.List c.args.open c.args.first tails.Nothing) c.args.self.now (record c.args.self.now { frames = c.pop.new.self }) refl refl refl
    (popped c.args.self.now.frames.items c.pop.new.self.items c.args.self.now.frames.len _ c.pop.ensures.rest c.args.self.now.frames.ok.0 c.requires) w)

pub returns-clause-reached : goal.returns-clause-reached
returns-clause-reached c text b s r k =
    dots text c.args.self.now.names c.args.self.now.nodes.items c.args.self.now.items.items c.args.self.now.frames.items c.push.new.self.items c.pop.new.self.items c.args.open c.args.first
    (popped c.args.self.now.frames.items c.pop.new.self.items c.args.self.now.frames.len _ c.pop.ensures.rest c.args.self.now.frames.ok.0 c.requires)
    c.in_ok-push.ensures.items b s r k
