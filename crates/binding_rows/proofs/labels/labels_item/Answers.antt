use Rattle.std.proofs.Common.{refl, sym, ◌∙◌}
use Rattle.binding_rows.proofs.ProcedureLemmas.{labels_pair, labels_atom}
use Rattle.binding_rows.proofs.labels.labels_item.Goals as goal

pub returns-in-None-clause-made : goal.returns-in-None-clause-made
returns-in-None-clause-made c names ds h = rw (c.in-None.ensures names ds h) refl

pub returns-in-None-items_of-clause-made : goal.returns-in-None-items_of-clause-made
returns-in-None-items_of-clause-made c names ds h =
    let f = c.in-Some.ensures names ds h in
    let p = sym (c.is_pair.ensures names f.0 f.3) ∙ c.if-is_pair.true in
    rw (f.2, labels_pair c.args.span f.0 f.1 p, c.in-None-items_of.ensures names f.0 f.3) refl

pub returns-in-Some-items_of-clause-made : goal.returns-in-Some-items_of-clause-made
returns-in-Some-items_of-clause-made c names ds h =
    let f = c.in-Some.ensures names ds h in
    let p = sym (c.is_pair.ensures names f.0 f.3) ∙ c.if-is_pair.true in
    let i = c.in-Some-items_of.ensures names f.0 f.3 in
    rw (f.2, labels_pair c.args.span f.0 f.1 p, i.1) (c.procedure_item.ensures.made names i.0 f.1 i.2 f.4)

pub returns-else-is_pair-clause-made : goal.returns-else-is_pair-clause-made
returns-else-is_pair-clause-made c names ds h =
    let f = c.in-Some.ensures names ds h in
    let p = sym (c.is_pair.ensures names f.0 f.3) ∙ c.if-is_pair.false in
    rw (f.2, labels_atom c.args.span f.0 f.1 p) (c.lambda_item.ensures names f.0 f.1 f.3 f.4)
