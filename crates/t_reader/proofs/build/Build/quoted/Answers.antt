use Rattle.t_reader.specs.Build.{AddsNode}
use Rattle.t_reader.specs.declared.unit.Datum.TheVariants as data_
use Rattle.t_reader.proofs.Holding.{HasTree-quoted, AddsNode-grows}
use Rattle.t_reader.proofs.Closing.{grows_on}
use Rattle.t_reader.proofs.Wholeness.{quotes}
use Rattle.t_reader.proofs.build.Build.quoted.Goals as goal

pub returns-clause-tree : goal.returns-clause-tree
returns-clause-tree c w t hw ht =
    HasTree-quoted c.args.self.now c.add_node.new.self c.add_node-2.new.self c.add_node-3.new.self c.in_ok-nil.nil c.in_ok-tail.tail c.in_ok-pair.pair c.args.word c.args.node c.args.span w t
    (record { place = c.in_ok-nil.ensures.place; nodes_are = c.in_ok-nil.ensures.nodes; rest_same = c.in_ok-nil.ensures.rest })
    (record { place = c.in_ok-tail.ensures.place; nodes_are = c.in_ok-tail.ensures.nodes; rest_same = c.in_ok-tail.ensures.rest })
    (record { place = c.in_ok-pair.ensures.place; nodes_are = c.in_ok-pair.ensures.nodes; rest_same = c.in_ok-pair.ensures.rest })
    hw ht

pub returns-clause-well : goal.returns-clause-well
returns-clause-well c w =
    quotes c.args.self.now c.add_node.new.self c.add_node-2.new.self c.add_node-3.new.self c.in_ok-nil.nil c.in_ok-tail.tail c.in_ok-pair.pair c.args.word c.args.node c.args.span
    (record { place = c.in_ok-nil.ensures.place; nodes_are = c.in_ok-nil.ensures.nodes; rest_same = c.in_ok-nil.ensures.rest })
    (record { place = c.in_ok-tail.ensures.place; nodes_are = c.in_ok-tail.ensures.nodes; rest_same = c.in_ok-tail.ensures.rest })
    (record { place = c.in_ok-pair.ensures.place; nodes_are = c.in_ok-pair.ensures.nodes; rest_same = c.in_ok-pair.ensures.rest })
    w

pub returns-clause-grows : goal.returns-clause-grows
returns-clause-grows c =
    let one : AddsNode c.args.self.now c.add_node.new.self c.in_ok-nil.nil c.args.span data_.Nil = record { place = c.in_ok-nil.ensures.place; nodes_are = c.in_ok-nil.ensures.nodes; rest_same = c.in_ok-nil.ensures.rest } in
    let two : AddsNode c.add_node.new.self c.add_node-2.new.self c.in_ok-tail.tail c.args.span (data_.Pair c.args.node c.in_ok-nil.nil) = record { place = c.in_ok-tail.ensures.place; nodes_are = c.in_ok-tail.ensures.nodes; rest_same = c.in_ok-tail.ensures.rest } in
    let three : AddsNode c.add_node-2.new.self c.add_node-3.new.self c.in_ok-pair.pair c.args.span (data_.Pair c.args.word c.in_ok-tail.tail) = record { place = c.in_ok-pair.ensures.place; nodes_are = c.in_ok-pair.ensures.nodes; rest_same = c.in_ok-pair.ensures.rest } in
    grows_on _ _ _ (AddsNode-grows _ _ _ _ _ one) (grows_on _ _ _ (AddsNode-grows _ _ _ _ _ two) (AddsNode-grows _ _ _ _ _ three))
