use Rattle.cps_convert.proofs.Listing.{one_made}
use Rattle.cps_convert.proofs.terms.set_global.Goals as goal

pub returns : goal.returns
returns c = λ marks.
    one_made c.args.unit.now c.args.form c.args.made.now c.operand.new.made c.add.new.self c.args.key c.in_ok-value.value c.args.jobs.now.items c.operand.new.jobs.items _ c.args.k _ c.in_ok-place.place
    (λ x after jobs are stands. (c.in_ok-value.value, are, stands)) (c.in_ok-value.ensures marks) c.in_ok-place.ensures
