use Rattle.std.proofs.Common.{refl, subst, ◌<◌}
use Rattle.layout_tables.specs.declared.requests.Request.TheVariants as For
use Rattle.layout_tables.specs.Sketches.{rank_of}
use Rattle.layout_tables.proofs.Growing.{grows_asked}
use Rattle.layout_steps.proofs.Laying.{laid_join}
use Rattle.layout_tables.proofs.Adding.{adds_asked}
use Rattle.layout_steps.proofs.terms.lay_join.Goals as goal

pub returns : goal.returns
returns c = laid_join c.args.cps.now c.args.tables.now c.args.work.now c.request.new.self c.args.line.now (record { ops = c.args.line.now.ops; scope = c.args.line.now.scope; site = c.meet.new.self }) c.args.term c.args.k c.args.param c.args.body c.args.rest c.in_ok-block.block c.requires refl refl
    (grows_asked c.args.tables.now c.args.work.now c.request.new.self (For.Begins c.in_ok-vars.vars c.in_ok-site.site c.args.body) c.in_ok-block.ensures.requests c.in_ok-block.ensures.templates c.in_ok-block.ensures.next)
    (adds_asked c.args.work.now c.request.new.self (For.Begins c.in_ok-vars.vars c.in_ok-site.site c.args.body) c.in_ok-block.ensures.requests c.in_ok-block.ensures.next tt)
    c.in_ok-meet.ensures (subst (λ n. n < rank_of c.args.tables.now c.args.term) c.rank_of.ensures (subst (λ n. c.rank_of.result < n) c.rank_of-2.ensures c.if-rank_of.false))
