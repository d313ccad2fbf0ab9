use Rattle.std.proofs.Common.{◌∙◌, ap, [], refl}
use Rattle.t_reader.specs.declared.unit.Datum.TheVariants as data_
use Rattle.t_reader.proofs.Wholeness.{adds_leaf}
use Rattle.t_base.specs.declared.basics.Span.{Span}
use Rattle.t_reader.specs.Grammar.{tree, listed}
use Rattle.t_reader.specs.Steps.{put}
use Rattle.t_reader.proofs.Holding.{AddsNode-grows}
use Rattle.t_reader.proofs.Closing.{nil_chains, list_delivers, grows_on}
use Rattle.t_reader.proofs.build.Build.close_list.Goals as goal

pub returns-clause-reached : goal.returns-clause-reached
returns-clause-reached c text b fs below mine r t s f own h o l e =
    let p = c.in_ok-node.ensures.pairs text below (tree text (listed o fs l))
    (nil_chains text o l c.args.span below mine c.args.first fs c.args.self.now c.nil.new.self c.in_ok-last.last c.in_ok-last.ensures.adds e f own h) in
    c.in_ok-add_datum.ensures.reached text (put b (listed o fs l))
    (list_delivers text o l fs b below c.args.self.now c.add_pairs.new.self c.in_ok-node.node c.args.span.end
    (grows_on c.args.self.now c.nil.new.self c.add_pairs.new.self (AddsNode-grows _ _ _ _ _ c.in_ok-last.ensures.adds) c.in_ok-node.ensures.grows)
    p.1 (c.in_ok-node.ensures.frames ∙ c.in_ok-last.ensures.adds.rest_same.frames_same) p.0 r t s (ap (λ (v : Span). v.end) e))

pub returns-clause-well : goal.returns-clause-well
returns-clause-well c w =
    c.in_ok-add_datum.ensures.well (c.in_ok-node.ensures.well (adds_leaf [] c.args.self.now c.nil.new.self c.in_ok-last.last c.args.span data_.Nil c.in_ok-last.ensures.adds tt refl w))
