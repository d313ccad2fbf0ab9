use Rattle.std.proofs.Common.{◌∙◌, ◌++◌, ap}
use Rattle.cps_live.specs.Gathered.{seen_in_lambdas}
use Rattle.cps_live.proofs.Joined.{parts_seen}
use Rattle.cps_live.proofs.gathering.push_parts.Goals as goal

pub returns-clause-wanted : goal.returns-clause-wanted
returns-clause-wanted c =
    parts_seen c.args.cps.now c.args.lists.now c.args.term.now c.hide_labels.new.outer c.in_ok-lams.lams.items c.args.wanted.now.items c.push_lambdas.new.wanted.items c.push_own.new.wanted.items c.in_ok-lams.ensures
    c.in_ok-hide_labels.ensures (c.in_ok-push_lambdas.ensures.wanted ∙ ap (λ ls. c.args.wanted.now.items ++ seen_in_lambdas c.args.cps.now c.args.lists.now c.hide_labels.new.outer ls) c.deref.ensures.value) c.in_ok-push_own.ensures.wanted
