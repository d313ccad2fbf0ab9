use Rattle.std.proofs.Common.{refl, sym, ◌∙◌}
use Rattle.form_rows.proofs.DefinitionLemmas.{define_pair}
use Rattle.form_rows.proofs.definitions.define_of.Goals as goal

pub returns-in-None-clause-definition : goal.returns-in-None-clause-definition
returns-in-None-clause-definition c names ds h = rw (c.in-None.ensures names ds h) refl

pub returns-in-None-items_of-clause-definition : goal.returns-in-None-items_of-clause-definition
returns-in-None-items_of-clause-definition c names ds h =
    let f = c.in-Some.ensures names ds h in
    let p = sym (c.is_pair.ensures names f.0 f.3) ∙ c.if-is_pair.true in
    rw (f.2, define_pair c.args.span f.0 f.1 p, c.in-None-items_of.ensures names f.0 f.3) refl

pub returns-in-Some-items_of-clause-definition : goal.returns-in-Some-items_of-clause-definition
returns-in-Some-items_of-clause-definition c names ds h =
    let f = c.in-Some.ensures names ds h in
    let p = sym (c.is_pair.ensures names f.0 f.3) ∙ c.if-is_pair.true in
    let i = c.in-Some-items_of.ensures names f.0 f.3 in
    rw (f.2, define_pair c.args.span f.0 f.1 p, i.1) (c.define_headed.ensures.definition names i.0 f.1 i.2 f.4)

pub returns-else-is_pair-clause-definition : goal.returns-else-is_pair-clause-definition
returns-else-is_pair-clause-definition c names ds h =
    let f = c.in-Some.ensures names ds h in
    let p = sym (c.is_pair.ensures names f.0 f.3) ∙ c.if-is_pair.false in
    rw f.2 (c.define_name.ensures.definition names c.args.span f.0 f.1 p f.3 f.4)
