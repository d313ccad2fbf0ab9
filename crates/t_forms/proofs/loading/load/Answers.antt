use Rattle.std.proofs.Common.{◌≡◌, ◌<◌, Some, length, refl, slice_get, arith}
use Rattle.std.proofs.lemmas.Option.{slice_get_read}
use Rattle.t_forms.proofs.Loads.{holds_within, loaded_more}
use Rattle.t_forms.proofs.loading.load.Goals as goal

pub nodes-preserved : goal.nodes-preserved
nodes-preserved c =
    let at : slice_get c.args.nodes.now c.nodes.node-index ≡ Some c.node-item.result = slice_get_read c.args.nodes.now (length c.args.nodes.now) c.nodes.node-index c.node-item.result refl c.nodes-test.true c.node-item.is in
    record {
      count = omega (arith, c.in_ok-load_node.ensures.count, c.nodes.invariant.count);
      held = loaded_more c.args.names.now c.args.nodes.now c.nodes.forms c.load_node.new.forms c.node-item.result c.in_ok-load_node.field-0 c.nodes.node-index
          c.nodes.invariant.count c.in_ok-load_node.ensures.place at
          (record { grown = c.in_ok-load_node.ensures.grown; atom = c.in_ok-load_node.ensures.atom; pair = c.in_ok-load_node.ensures.pair }) c.nodes.invariant.held;
    }

pub returns : goal.returns
returns c k t h =
    let within : k < length c.args.nodes.now = holds_within c.args.names.now c.args.nodes.now k t h in
    c.nodes.invariant.held k t (omega arith) h
