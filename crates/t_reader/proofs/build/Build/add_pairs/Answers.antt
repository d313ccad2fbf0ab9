use Rattle.std.proofs.Common.{[], ◌∷◌, refl, arith, ◌∙◌}
use Rattle.t_reader.proofs.Chaining.{chains_step, chains_end}
use Rattle.t_reader.proofs.Holding.{AddsNode-grows}
use Rattle.t_reader.proofs.Wholeness.{takes_item, adds_pair}
use Rattle.t_reader.specs.Build.{AddsNode, Grows}
use Rattle.t_reader.specs.declared.unit.Datum.TheVariants as data_
use Rattle.t_reader.proofs.build.Build.add_pairs.Goals as goal

pub pairs-preserved-in-Some : goal.pairs-preserved-in-Some
pairs-preserved-in-Some c =
    let adds : AddsNode (record c.pairs.self { items = c.pop.new.self }) c.add_node.new.self c.in_ok-tail.tail c.args.span (data_.Pair c.in-Some.head c.pairs.tail) =
    record { place = c.in_ok-tail.ensures.place; nodes_are = c.in_ok-tail.ensures.nodes; rest_same = c.in_ok-tail.ensures.rest } in
    let mid_grows : Grows (record c.pairs.self { items = c.pop.new.self }) c.add_node.new.self = AddsNode-grows _ _ _ _ _ adds in
    record {
      lighter = omega (arith, c.in_ok-tail.ensures.weight, c.in-Some.ensures.len, c.pairs.invariant.lighter);
      smaller = omega (arith, c.in_ok-tail.ensures.bulk, c.pairs.invariant.smaller);
      chains = λ text below t d.
          let e = c.pairs.invariant.chains text below t d in
          chains_step text c.args.span below c.args.first t c.pairs.self c.add_node.new.self c.pairs.tail c.in_ok-tail.tail c.in-Some.head c.pop.new.self.items
          (omega (arith, c.pairs-test.true, c.len.ensures, c.pairs.self.items.ok.0)) c.in-Some.ensures.items c.in_ok-tail.ensures.rest.items_same
          (record c.pairs.self { items = c.pop.new.self }) refl refl adds
          e.mine e.forms e.last e.first_is e.items_are e.items_hold e.last_held e.tree_is;
      grows = record {
        names_stay = λ k x z. mid_grows.names_stay k x (c.pairs.invariant.grows.names_stay k x z);
        nodes_stay = λ k x z. mid_grows.nodes_stay k x (c.pairs.invariant.grows.nodes_stay k x z);
      };
      frames = c.in_ok-tail.ensures.rest.frames_same ∙ c.pairs.invariant.frames;
      names = c.in_ok-tail.ensures.rest.names_same ∙ c.pairs.invariant.names;
      well = λ w.
          adds_pair [] (record c.pairs.self { items = c.pop.new.self }) c.add_node.new.self c.in_ok-tail.tail c.args.span c.in-Some.head c.pairs.tail adds
          (takes_item (c.pairs.tail ∷ []) c.in-Some.head c.pairs.self (record c.pairs.self { items = c.pop.new.self }) refl refl c.in-Some.ensures.items refl (c.pairs.invariant.well w));
    }

pub returns-clause-pairs : goal.returns-clause-pairs
returns-clause-pairs c text below t d =
    let e = c.pairs.invariant.chains text below t d in
    chains_end text c.args.span below c.args.first t c.pairs.self c.pairs.tail
    (omega (arith, c.pairs-test.false, c.len.ensures, c.pairs.self.items.ok.0))
    e.mine e.forms e.last e.first_is e.items_are e.items_hold e.last_held e.tree_is
