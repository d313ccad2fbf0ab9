use Rattle.std.proofs.Common.{ap, refl, []}
use Rattle.t_reader.proofs.Wholeness.{takes_item}
use Rattle.t_base.specs.declared.basics.Span.{Span}
use Rattle.t_reader.specs.Grammar.{tree, dotted}
use Rattle.t_reader.specs.Steps.{put}
use Rattle.t_reader.proofs.Closing.{dotted_chains, dotted_delivers}
use Rattle.t_reader.proofs.build.Build.close_dotted.Goals as goal

pub returns-in_ok-add_datum-clause-reached : goal.returns-in_ok-add_datum-clause-reached
returns-in_ok-add_datum-clause-reached c text b fs g t below mine r ta s f own h o d l e =
    let p = c.in_ok-node.ensures.pairs text below (tree text (dotted o fs g d t l))
    (dotted_chains text o d l c.args.span below mine c.pop.new.self.items c.args.first c.in-Some.last fs g t c.args.self.now (record c.args.self.now { items = c.pop.new.self }) refl refl refl c.in-Some.ensures.items e f own h) in
    c.in_ok-add_datum.ensures.reached text (put b (dotted o fs g d t l))
    (dotted_delivers text o d l fs g t b below (record c.args.self.now { items = c.pop.new.self }) c.add_pairs.new.self c.in_ok-node.node c.args.span.end
    c.in_ok-node.ensures.grows p.1 c.in_ok-node.ensures.frames p.0 r ta s (ap (λ (v : Span). v.end) e))

pub returns-in_ok-add_datum-clause-well : goal.returns-in_ok-add_datum-clause-well
returns-in_ok-add_datum-clause-well c w =
    c.in_ok-add_datum.ensures.well (c.in_ok-node.ensures.well (takes_item [] c.in-Some.last c.args.self.now (record c.args.self.now { items = c.pop.new.self }) refl refl c.in-Some.ensures.items refl w))
