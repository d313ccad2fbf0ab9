use Rattle.std.proofs.Common.{map, refl}
use Rattle.t_forms.specs.declared.arena.New.TheVariants as new
use Rattle.t_forms.specs.Data.{variable, a_variable}
use Rattle.t_rows.proofs.Growth.{extends_trans, items_grow}
use Rattle.binding_rows.proofs.loops.turn_call.Goals as goal

pub returns-clause-grown : goal.returns-clause-grown
returns-clause-grown c = extends_trans c.in_ok-operands.ensures.grown (extends_trans c.in_ok-turn.ensures.grown c.in_ok-call.ensures.grown)

pub returns-clause-made : goal.returns-clause-made
returns-clause-made c names xs z =
    c.in_ok-call.ensures.list names (a_variable c.args.span new.Turn) (map (λ x. x.next) xs) (c.in_ok-turn.ensures.made names (variable new.Turn) refl)
    (items_grow c.in_ok-turn.ensures.grown names c.in_ok-operands.operands (map (λ x. x.next) xs)
    (c.in_ok-operands.ensures.made names (map (λ x. x.next) xs) (rw c.as_slice.ensures.value (c.in_ok-values.ensures names c.args.forms.now xs z))))
