use Rattle.std.proofs.Common.{[], ◌∷◌, refl}
use Rattle.t_base.specs.declared.builtins.Builtin.TheVariants as Builtins
use Rattle.t_reader.specs.Grammar.{nil}
use Rattle.t_forms.specs.Data.{given, listing, atom, listed}
use Rattle.t_rows.specs.Rows.{primitive}
use Rattle.t_rows.proofs.Growth.{held_grows}
use Rattle.form_rows.proofs.calls.list_row.Goals as goal

pub returns-in-None-clause-row : goal.returns-in-None-clause-row
returns-in-None-clause-row c names vars ds r = rw (c.in-None.ensures names ds r) (c.stands_for_atom.ensures.row names vars (given nil) refl)

pub returns-in_ok-rest-in-Some-clause-row : goal.returns-in_ok-rest-in-Some-clause-row
returns-in_ok-rest-in-Some-clause-row c names vars ds r =
    let a = c.in-Some.ensures names ds r in
    rw a.2
    (c.plain_node.ensures.row names vars (primitive Builtins.Cons) (a.0 ∷ listed c.args.span (atom c.args.span listing ∷ a.1) ∷ []) refl
    (held_grows c.in_ok-rest-in-Some.ensures.grown names c.in-Some.a a.0 a.3, (c.in_ok-rest-in-Some.ensures.made names [] (a.1 ∷ []) tt (a.4, tt), tt)))
