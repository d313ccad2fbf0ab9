use Rattle.std.proofs.Common.{subst}
use Rattle.cps_ir.specs.declared.terms.Term.TheVariants as Step
use Rattle.cps_convert.specs.Growing.{AddsTerm}
use Rattle.cps_convert.proofs.Listing.{prim_made}
use Rattle.cps_convert.proofs.terms.prim.Goals as goal

pub returns : goal.returns
returns c = λ marks.
    prim_made c.args.unit.now c.args.form c.args.made.now c.operands.new.made c.add.new.self c.args.keys.now c.in_ok-args.args.items c.args.jobs.now.items c.operands.new.jobs.items c.args.p c.args.k c.in_ok-place.place
    (c.in_ok-args.ensures marks) (subst (λ l. AddsTerm c.operands.new.made c.add.new.self (Step.Prim c.args.p l c.args.k) c.in_ok-place.place) c.from_vec.ensures c.in_ok-place.ensures)
