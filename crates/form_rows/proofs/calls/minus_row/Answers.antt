use Rattle.std.proofs.Common.{◌≡◌, [], ◌∷◌, refl, pos}
use Rattle.t_base.specs.declared.builtins.Builtin.TheVariants as Builtins
use Rattle.t_reader.specs.Grammar.{fix}
use Rattle.t_forms.specs.Data.{given, a_number}
use Rattle.t_rows.specs.Rows.{primitive}
use Rattle.t_rows.proofs.Growth.{held_grows}
use Rattle.form_rows.proofs.calls.minus_row.Goals as goal

pub returns-in-None-clause-row : goal.returns-in-None-clause-row
returns-in-None-clause-row c names vars f ds h r =
    let none = c.in-None.ensures names ds r in
    rw none (c.builtin_row.ensures.row names vars f [] h (rw none at r))

pub returns-in_ok-zero-in-None-split-clause-row : goal.returns-in_ok-zero-in-None-split-clause-row
returns-in_ok-zero-in-None-split-clause-row c names vars f ds h r =
    let a = c.in-Some.ensures names ds r in
    let n = c.in-None-split.ensures names a.1 a.4 in
    let e : ds ≡ a.0 ∷ [] = cc in
    rw e
    (c.plain_node.ensures.row names vars (primitive Builtins.Sub) (a_number c.args.span 0 ∷ a.0 ∷ []) refl
    (c.in_ok-zero-in-None-split.ensures.made names (given (fix (pos 0))) refl, (held_grows c.in_ok-zero-in-None-split.ensures.grown names c.in-Some.a a.0 a.3, tt)))

pub returns-in-Some-split-clause-row : goal.returns-in-Some-split-clause-row
returns-in-Some-split-clause-row c names vars f ds h r =
    let a = c.in-Some.ensures names ds r in
    let n = c.in-Some-split.ensures names a.1 a.4 in
    let e : ds ≡ a.0 ∷ n.0 ∷ n.1 = cc in
    rw e (c.builtin_row-in-Some-split.ensures.row names vars f (a.0 ∷ n.0 ∷ n.1) h (rw e at r))
