use Rattle.t_reader.specs.Grammar.{single}
use Rattle.t_reader.specs.Steps.{put}
use Rattle.std.proofs.Common.{[]}
use Rattle.t_reader.proofs.Adding.{atom_delivers}
use Rattle.t_reader.proofs.Wholeness.{adds_leaf, atom_whole, atom_leaf, atom_named}
use Rattle.t_reader.proofs.build.Build.add_atom.Goals as goal

pub returns-clause-reached : goal.returns-clause-reached
returns-clause-reached c text b r t h e =
    c.in_ok-add_datum.ensures.reached text (put b (single c.args.atom c.args.span))
    (atom_delivers text b c.args.self.now c.atom.new.self c.add_node.new.self c.in_ok-node.node c.args.atom c.args.span c.in_ok-datum.datum c.args.bytes.now
    c.in_ok-datum.ensures.grows c.in_ok-datum.ensures.rest c.in_ok-datum.ensures.value
    (record { place = c.in_ok-node.ensures.place; nodes_are = c.in_ok-node.ensures.nodes; rest_same = c.in_ok-node.ensures.rest })
    r t h e)

pub returns-clause-well : goal.returns-clause-well
returns-clause-well c w h =
    c.in_ok-add_datum.ensures.well
    (adds_leaf [] c.atom.new.self c.add_node.new.self c.in_ok-node.node c.args.span c.in_ok-datum.datum
    (record { place = c.in_ok-node.ensures.place; nodes_are = c.in_ok-node.ensures.nodes; rest_same = c.in_ok-node.ensures.rest })
    (atom_whole _ _ c.args.atom c.args.bytes.now c.in_ok-datum.datum c.in_ok-datum.ensures.value h)
    (atom_leaf _ c.args.atom c.args.bytes.now c.in_ok-datum.datum c.in_ok-datum.ensures.value)
    (atom_named [] c.args.self.now c.atom.new.self c.args.atom c.args.bytes.now c.in_ok-datum.ensures.rest c.in_ok-datum.ensures.names h (c.in_ok-datum.ensures.distinct w.names_distinct) w))
