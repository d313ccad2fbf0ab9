use Rattle.std.proofs.Common.{[], ◌∷◌, refl}
use Rattle.t_forms.specs.Data.{variable, atom}
use Rattle.t_forms.specs.declared.arena.New.TheVariants.{Answer}
use Rattle.t_rows.proofs.Growth.{extends_trans, items_grow}
use Rattle.choice_rows.proofs.or_forms.or_test.Goals as goal

pub returns-clause-grown : goal.returns-clause-grown
returns-clause-grown c = extends_trans c.in_ok-u.ensures.grown c.in_ok-form.ensures.grown

pub returns-clause-made : goal.returns-clause-made
returns-clause-made c names ds h =
    c.in_ok-form.ensures.made names (atom c.args.span (variable Answer) ∷ []) (ds ∷ []) (c.in_ok-u.ensures.made names (variable Answer) refl, tt)
    (items_grow c.in_ok-u.ensures.grown names c.args.others ds h, tt)
