use Rattle.std.proofs.Common.{◌∷◌, refl, sym, ◌∙◌}
use Rattle.t_forms.specs.Data.{binders_of}
use Rattle.form_rows.proofs.DefinitionLemmas.{is_none_of, is_some_of, procedure_params, procedure_name, procedure_is}
use Rattle.form_rows.proofs.definitions.define_procedure.Goals as goal

pub returns-else-named-clause-definition : goal.returns-else-named-clause-definition
returns-else-named-clause-definition c names f xs b bs h r o =
    rw (procedure_params c.args.span f xs b bs (is_none_of (binders_of xs) (sym c.if-named.false ∙ c.in_ok-named.ensures names xs r))) refl

pub returns-in-None-clause-definition : goal.returns-in-None-clause-definition
returns-in-None-clause-definition c names f xs b bs h r o =
    let ps = is_some_of (binders_of xs) (sym c.if-named.true ∙ c.in_ok-named.ensures names xs r) in
    rw (procedure_name c.args.span f xs b bs ps.0 ps.1 (c.in-None.ensures names f h)) refl

pub returns-in_ok-value-in-Some-clause-definition : goal.returns-in_ok-value-in-Some-clause-definition
returns-in_ok-value-in-Some-clause-definition c names f xs b bs h r o =
    let ps = is_some_of (binders_of xs) (sym c.if-named.true ∙ c.in_ok-named.ensures names xs r) in
    let g = c.in-Some.ensures names f h in
    rw (procedure_is c.args.span f xs b bs ps.0 g.0 ps.1 g.1)
    (_, refl, (_, _, refl, g.2, c.in_ok-value-in-Some.ensures.made names xs (b ∷ bs) r o))
