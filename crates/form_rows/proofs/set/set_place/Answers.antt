use Rattle.std.proofs.Common.{sym, ◌∙◌}
use Rattle.t_forms.specs.Held.{vars_of}
use Rattle.form_rows.proofs.SetLemmas.{pair_place, name_place, meant_place}
use Rattle.form_rows.proofs.set.set_place.Goals as goal

pub returns-then-is_pair-clause-row : goal.returns-then-is_pair-clause-row
returns-then-is_pair-clause-row c around d v apart h k s =
    rw (pair_place around c.args.span d v (sym (c.is_pair.ensures c.args.names.now d h) ∙ c.if-is_pair.true)) (c.set_items.ensures.row around d v apart h k s)

pub returns-in-None-clause-row : goal.returns-in-None-clause-row
returns-in-None-clause-row c around d v apart h k s =
    rw (name_place around c.args.span d v (sym (c.is_pair.ensures c.args.names.now d h) ∙ c.if-is_pair.false) (c.in-None.ensures d around apart h s))
    (c.no_row.ensures.row c.args.names.now (vars_of c.args.scope.now))

pub returns-in-Some-clause-row : goal.returns-in-Some-clause-row
returns-in-Some-clause-row c around d v apart h k s =
    let m = c.in-Some.ensures d around apart h s in
    rw (meant_place around c.args.span d v m.0 (sym (c.is_pair.ensures c.args.names.now d h) ∙ c.if-is_pair.false) m.1, sym (c.span_of-at.ensures c.args.names.now d h))
    (c.set_name.ensures.row c.args.names.now (vars_of c.args.scope.now) m.0 v m.2 k)
