use Rattle.std.proofs.Common.{refl, sym, subst, ap, ◌∙◌}
use Rattle.t_core.specs.declared.forms.Core.TheVariants as Node
use Rattle.cps_convert.specs.Growing.{AddsTerm}
use Rattle.cps_convert.specs.Kinds.{LastMade}
use Rattle.cps_convert.proofs.Listing.{atom_made}
use Rattle.cps_convert.proofs.terms.last_term.Goals as goal

pub returns-in_ok-place-in-Const : goal.returns-in_ok-place-in-Const
returns-in_ok-place-in-Const c = λ marks.
    subst (λ core. LastMade c.args.unit.now c.args.form c.args.made.now c.add.new.self core c.args.k c.args.jobs.now.items c.args.jobs.now.items c.in_ok-place-in-Const.place) (sym c.in-Const.is)
    (atom_made c.args.unit.now c.args.form c.args.made.now c.add.new.self c.args.jobs.now.items _ c.args.k _ c.in_ok-place-in-Const.place (λ cps origins stands. (refl, stands)) c.in_ok-place-in-Const.ensures)

pub returns-in_ok-place-in-Local : goal.returns-in_ok-place-in-Local
returns-in_ok-place-in-Local c = λ marks.
    subst (λ core. LastMade c.args.unit.now c.args.form c.args.made.now c.add-in-Local.new.self core c.args.k c.args.jobs.now.items c.args.jobs.now.items c.in_ok-place-in-Local.place) (sym c.in-Local.is)
    (atom_made c.args.unit.now c.args.form c.args.made.now c.add-in-Local.new.self c.args.jobs.now.items _ c.args.k _ c.in_ok-place-in-Local.place (λ cps origins stands. (refl, stands)) c.in_ok-place-in-Local.ensures)

pub returns-in_ok-place-in-Builtin : goal.returns-in_ok-place-in-Builtin
returns-in_ok-place-in-Builtin c = λ marks.
    subst (λ core. LastMade c.args.unit.now c.args.form c.args.made.now c.add-in-Builtin.new.self core c.args.k c.args.jobs.now.items c.args.jobs.now.items c.in_ok-place-in-Builtin.place) (sym c.in-Builtin.is)
    (atom_made c.args.unit.now c.args.form c.args.made.now c.add-in-Builtin.new.self c.args.jobs.now.items _ c.args.k _ c.in_ok-place-in-Builtin.place (λ cps origins stands. (refl, stands)) c.in_ok-place-in-Builtin.ensures)

pub returns-in_ok-place-in-Op : goal.returns-in_ok-place-in-Op
returns-in_ok-place-in-Op c = λ marks.
    subst (λ core. LastMade c.args.unit.now c.args.form c.args.made.now c.add-in-Op.new.self core c.args.k c.args.jobs.now.items c.args.jobs.now.items c.in_ok-place-in-Op.place) (sym c.in-Op.is)
    (atom_made c.args.unit.now c.args.form c.args.made.now c.add-in-Op.new.self c.args.jobs.now.items _ c.args.k _ c.in_ok-place-in-Op.place (λ cps origins stands. (refl, stands)) c.in_ok-place-in-Op.ensures)

pub returns-in_ok-place-in-Global : goal.returns-in_ok-place-in-Global
returns-in_ok-place-in-Global c = λ marks.
    subst (λ core. LastMade c.args.unit.now c.args.form c.args.made.now c.add-in-Global.new.self core c.args.k c.args.jobs.now.items c.args.jobs.now.items c.in_ok-place-in-Global.place) (sym c.in-Global.is)
    (atom_made c.args.unit.now c.args.form c.args.made.now c.add-in-Global.new.self c.args.jobs.now.items _ c.args.k _ c.in_ok-place-in-Global.place (λ cps origins stands. (refl, stands)) (subst (λ s. AddsTerm c.args.made.now c.add-in-Global.new.self s c.in_ok-place-in-Global.place) c.global.ensures c.in_ok-place-in-Global.ensures))

pub returns-in_ok-place-in-Call : goal.returns-in_ok-place-in-Call
returns-in_ok-place-in-Call c = λ marks.
    subst (λ core. LastMade c.args.unit.now c.args.form c.args.made.now c.call.new.made core c.args.k c.args.jobs.now.items c.call.new.jobs.items c.in_ok-place-in-Call.place)
    (ap (λ l. Node.Call c.in-Call.operator l c.in-Call.tail) c.as_slice.ensures ∙ sym c.in-Call.is) (c.in_ok-place-in-Call.ensures c.in-Call.tail marks)
