use Rattle.std.proofs.Common.{◌≡◌, [], ◌∷◌, refl}
use Rattle.t_reader.specs.Grammar.{nil}
use Rattle.t_forms.specs.Data.{given, variable, atom}
use Rattle.t_forms.specs.declared.arena.New.TheVariants.{Answer}
use Rattle.t_rows.proofs.Growth.{extends_trans, held_grows, items_grow}
use Rattle.choice_rows.proofs.cond.or_row.Goals as goal

pub returns-in-None-clause-row : goal.returns-in-None-clause-row
returns-in-None-clause-row c names vars ds h = rw (c.in-None.ensures names ds h) (c.stands_for_atom.ensures.row names vars (given nil) refl)

pub returns-in-None-split-clause-row : goal.returns-in-None-split-clause-row
returns-in-None-split-clause-row c names vars ds h =
    let f = c.in-Some.ensures names ds h in
    let n = c.in-None-split.ensures names f.1 f.4 in
    let e : ds ≡ f.0 ∷ [] = cc in
    rw e (c.stands_for.ensures.row names vars f.0 f.3)

pub returns-in_ok-row-in-Some-split-clause-grown : goal.returns-in_ok-row-in-Some-split-clause-grown
returns-in_ok-row-in-Some-split-clause-grown c = extends_trans c.in_ok-u-in-Some-split.ensures.grown c.in_ok-row-in-Some-split.ensures.grown

pub returns-in_ok-row-in-Some-split-clause-row : goal.returns-in_ok-row-in-Some-split-clause-row
returns-in_ok-row-in-Some-split-clause-row c names vars ds h =
    let f = c.in-Some.ensures names ds h in
    let n = c.in-Some-split.ensures names f.1 f.4 in
    let e : ds ≡ f.0 ∷ n.0 ∷ n.1 = cc in
    let g = c.in_ok-u-in-Some-split.ensures.grown in
    let u = c.in_ok-u-in-Some-split.ensures.made names (variable Answer) refl in
    rw e (c.in_ok-row-in-Some-split.ensures.row names vars (f.0 ∷ atom c.args.span (variable Answer) ∷ []) ((n.0 ∷ n.1) ∷ [])
    (held_grows g names c.in-Some.a f.0 f.3, (u, tt)) (items_grow g names c.in-Some.others (n.0 ∷ n.1) (rw n.2 at f.4), tt))
