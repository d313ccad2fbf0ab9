use Rattle.std.proofs.Common.{◌≡◌, [], ◌∷◌, refl, pos}
use Rattle.t_reader.specs.Grammar.{fix}
use Rattle.t_forms.specs.Data.{given, a_number}
use Rattle.t_rows.specs.Rows.{primitive}
use Rattle.t_rows.proofs.Growth.{held_grows}
use Rattle.form_rows.proofs.calls.fold_row.Goals as goal

pub returns-in-None-clause-row : goal.returns-in-None-clause-row
returns-in-None-clause-row c names vars ds r =
    rw (c.in-None.ensures names ds r) (c.stands_for_atom.ensures.row names vars (given (fix (pos c.args.unit))) c.fixnum.ensures)

pub returns-in_ok-number-in-None-split-clause-row : goal.returns-in_ok-number-in-None-split-clause-row
returns-in_ok-number-in-None-split-clause-row c names vars ds r =
    let a = c.in-Some.ensures names ds r in
    let n = c.in-None-split.ensures names a.1 a.4 in
    let e : ds ≡ a.0 ∷ [] = cc in
    rw e
    (c.plain_node.ensures.row names vars (primitive c.args.p) (a_number c.args.span c.args.unit ∷ a.0 ∷ []) refl
    (c.in_ok-number-in-None-split.ensures.made names (given (fix (pos c.args.unit))) c.fixnum-in-None-split.ensures, (held_grows c.in_ok-number-in-None-split.ensures.grown names c.in-Some.a a.0 a.3, tt)))

pub returns-in-None-split-2-clause-row : goal.returns-in-None-split-2-clause-row
returns-in-None-split-2-clause-row c names vars ds r =
    let a = c.in-Some.ensures names ds r in
    let b = c.in-Some-split.ensures names a.1 a.4 in
    let n = c.in-None-split-2.ensures names b.1 b.4 in
    let e : ds ≡ a.0 ∷ b.0 ∷ [] = cc in
    rw e (c.plain_node-in-None-split-2.ensures.row names vars (primitive c.args.p) (a.0 ∷ b.0 ∷ []) refl (a.3, (b.3, tt)))

pub returns-in-Some-split-2-clause-row : goal.returns-in-Some-split-2-clause-row
returns-in-Some-split-2-clause-row c names vars ds r =
    let a = c.in-Some.ensures names ds r in
    let b = c.in-Some-split.ensures names a.1 a.4 in
    let n = c.in-Some-split-2.ensures names b.1 b.4 in
    let e : ds ≡ a.0 ∷ b.0 ∷ n.0 ∷ n.1 = cc in
    rw e (c.rewritten.ensures.row names vars (a.0 ∷ b.0 ∷ []) ((n.0 ∷ n.1) ∷ []) (a.3, (b.3, tt)) (rw n.2 at b.4, tt))
