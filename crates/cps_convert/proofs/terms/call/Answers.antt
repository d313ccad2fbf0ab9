use Rattle.std.proofs.Common.{subst}
use Rattle.cps_ir.specs.declared.terms.Term.TheVariants as Step
use Rattle.cps_convert.specs.Growing.{AddsTerm}
use Rattle.cps_convert.proofs.Listing.{call_made}
use Rattle.cps_convert.proofs.terms.call.Goals as goal

pub returns : goal.returns
returns c = λ tail marks.
    call_made c.args.unit.now c.args.form c.args.made.now c.operand.new.made c.operands.new.made c.add.new.self c.args.operator c.in_ok-f.f c.args.keys.now c.in_ok-args.args.items c.args.jobs.now.items
    c.operand.new.jobs.items c.operands.new.jobs.items tail c.args.k c.in_ok-place.place (c.in_ok-f.ensures marks) (c.in_ok-args.ensures marks)
    (subst (λ l. AddsTerm c.operands.new.made c.add.new.self (Step.Call c.in_ok-f.f l c.args.k) c.in_ok-place.place) c.from_vec.ensures c.in_ok-place.ensures)
