use Rattle.cps_convert.proofs.Listing.{names_step}
use Rattle.cps_convert.proofs.variables.names_for.Goals as goal

pub vars-preserved : goal.vars-preserved
vars-preserved c =
    names_step c.args.made.now c.vars.made c.name_for.new.made c.args.marks.now c.args.vars.now c.vars.var-index _ c.vars.names.items c.push.new.self.items c.in_ok-name.name c.vars-test.true c.vars.invariant
    c.in_ok-name.ensures c.in_ok-push.ensures.items
