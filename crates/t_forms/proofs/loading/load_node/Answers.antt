use Rattle.std.proofs.Common.{◌≡◌, sym, ap, ◌∙◌}
use Rattle.t_reader.specs.declared.unit.Datum.TheVariants.{Pair}
use Rattle.t_reader.specs.declared.unit.Node.{Node}
use Rattle.t_forms.proofs.Lists.{held_continues}
use Rattle.t_forms.proofs.loading.load_node.Goals as goal

pub returns-in-Pair-clause-pair : goal.returns-in-Pair-clause-pair
returns-in-Pair-clause-pair c s i j h t e held_head held_tail =
    let parts : Pair i j ≡ Pair c.in-Pair.head c.in-Pair.tail = sym (ap (λ (n : Node). n.datum) e) ∙ c.in-Pair.is in
    let first : i ≡ c.in-Pair.head = cc in
    let second : j ≡ c.in-Pair.tail = cc in
    rw (sym (ap (λ (n : Node). n.span) e))
    (c.cons.ensures.held c.args.names.now h t (rw (sym first) held_head)
    (held_continues c.args.names.now c.args.forms.now c.in-Pair.tail t (rw (sym second) held_tail)))
