use Rattle.std.proofs.Common.{refl, []}
use Rattle.std.specs.Prelude.{codes}
use Rattle.t_reader.specs.declared.build.Frame.TheVariants as frame
use Rattle.t_reader.proofs.Wholeness.{puts_frame, adds_leaf, symbol_whole, symbol_leaf, puts_name}
use Rattle.t_reader.proofs.Adding.{waits}
use Rattle.t_reader.proofs.build.Build.quote.Goals as goal

pub returns-clause-reached : goal.returns-clause-reached
returns-clause-reached c text b r =
    waits text b c.args.self.now c.symbol.new.self c.add_node.new.self (record c.add_node.new.self { frames = c.push.new.self }) c.in_ok-word.word c.args.span c.in_ok-datum.datum
    c.in_ok-datum.ensures.grows c.in_ok-datum.ensures.rest c.in_ok-datum.ensures.value
    (record { place = c.in_ok-word.ensures.place; nodes_are = c.in_ok-word.ensures.nodes; rest_same = c.in_ok-word.ensures.rest })
    refl refl refl c.in_ok-push.ensures.items r

pub returns-clause-well : goal.returns-clause-well
returns-clause-well c w =
    puts_frame [] (frame.Quote c.args.span c.in_ok-word.word) c.add_node.new.self (record c.add_node.new.self { frames = c.push.new.self }) refl refl refl c.in_ok-push.ensures.items
    (adds_leaf [] c.symbol.new.self c.add_node.new.self c.in_ok-word.word c.args.span c.in_ok-datum.datum
    (record { place = c.in_ok-word.ensures.place; nodes_are = c.in_ok-word.ensures.nodes; rest_same = c.in_ok-word.ensures.rest })
    (symbol_whole _ _ (codes "quote") c.in_ok-datum.datum c.in_ok-datum.ensures.value)
    (symbol_leaf _ (codes "quote") c.in_ok-datum.datum c.in_ok-datum.ensures.value)
    (puts_name [] c.args.self.now c.symbol.new.self (codes "quote") c.in_ok-datum.ensures.rest c.in_ok-datum.ensures.names refl c.in_ok-datum.ensures.distinct w))
