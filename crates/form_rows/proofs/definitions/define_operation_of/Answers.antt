use Rattle.std.proofs.Common.{refl, sym, ◌∙◌}
use Rattle.form_rows.proofs.DefinitionLemmas.{operation_pair, operation_short}
use Rattle.form_rows.proofs.definitions.define_operation_of.Goals as goal

pub returns-in-None-clause-definition : goal.returns-in-None-clause-definition
returns-in-None-clause-definition c names ds h = rw (c.in-None.ensures names ds h) refl

pub returns-in-None-items_of-clause-definition : goal.returns-in-None-items_of-clause-definition
returns-in-None-items_of-clause-definition c names ds h =
    let f = c.in-Some.ensures names ds h in
    let p = sym (c.is_pair.ensures names f.0 f.3) ∙ c.if-is_pair.true in
    rw (f.2, operation_pair c.args.span f.0 f.1 p, c.in-None-items_of.ensures names f.0 f.3) refl

pub returns-in-None-with_body-clause-definition : goal.returns-in-None-with_body-clause-definition
returns-in-None-with_body-clause-definition c names ds h =
    let f = c.in-Some.ensures names ds h in
    let p = sym (c.is_pair.ensures names f.0 f.3) ∙ c.if-is_pair.true in
    let i = c.in-Some-items_of.ensures names f.0 f.3 in
    rw (f.2, operation_pair c.args.span f.0 f.1 p, i.1) (rw (operation_short c.args.span i.0 f.1 (c.in-None-with_body.ensures names i.0 i.2)) refl)

pub returns-in-Some-with_body-clause-definition : goal.returns-in-Some-with_body-clause-definition
returns-in-Some-with_body-clause-definition c names ds h =
    let f = c.in-Some.ensures names ds h in
    let p = sym (c.is_pair.ensures names f.0 f.3) ∙ c.if-is_pair.true in
    let i = c.in-Some-items_of.ensures names f.0 f.3 in
    let w = c.in-Some-with_body.ensures names i.0 i.2 in
    rw (f.2, operation_pair c.args.span f.0 f.1 p, i.1, w.3) (c.define_operation_with.ensures.definition names w.0 w.1 w.2 f.1 w.4 w.5 f.4)

pub returns-else-is_pair-clause-definition : goal.returns-else-is_pair-clause-definition
returns-else-is_pair-clause-definition c names ds h =
    let f = c.in-Some.ensures names ds h in
    let p = sym (c.is_pair.ensures names f.0 f.3) ∙ c.if-is_pair.false in
    rw f.2 (c.define_operation_named.ensures.definition names c.args.span f.0 f.1 p f.3 f.4)
