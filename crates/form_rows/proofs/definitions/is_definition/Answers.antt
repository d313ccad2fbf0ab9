use Rattle.std.proofs.Common.{Some, ◌∙◌}
use Rattle.t_rows.specs.Rows.{definition_of_word}
use Rattle.form_rows.proofs.DefinitionLemmas.{same_is_some}
use Rattle.form_rows.proofs.definitions.is_definition.Goals as goal

pub returns-clause-is : goal.returns-clause-is
returns-clause-is c names ds h =
    c.is_some.ensures ∙ same_is_some names c.definition_of.new.forms _ (definition_of_word c.args.span ds (Some c.args.word)) (c.in_ok-found.ensures.definition names ds h)
