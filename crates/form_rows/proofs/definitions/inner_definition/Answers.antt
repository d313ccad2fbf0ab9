use Rattle.std.proofs.Common.{Some, sym, ◌∙◌}
use Rattle.t_rows.specs.Rows.{definition_of_word}
use Rattle.form_rows.proofs.DefinitionLemmas.{not_defining, inner_refused}
use Rattle.form_rows.proofs.definitions.inner_definition.Goals as goal

pub returns-in_ok-row-clause-row : goal.returns-in_ok-row-clause-row
returns-in_ok-row-clause-row c names vars ds h =
    rw (inner_refused c.args.span (definition_of_word c.args.span ds (Some c.args.word)) (sym c.if-formed.true ∙ c.in_ok-formed.ensures.is names ds h))
    (c.in_ok-row.ensures names c.is_definition.new.forms vars)

pub returns-else-formed-clause-row : goal.returns-else-formed-clause-row
returns-else-formed-clause-row c names vars ds h =
    rw (not_defining c.args.span (definition_of_word c.args.span ds (Some c.args.word)) (sym c.if-formed.false ∙ c.in_ok-formed.ensures.is names ds h))
    (c.malformed.ensures.row names vars)
