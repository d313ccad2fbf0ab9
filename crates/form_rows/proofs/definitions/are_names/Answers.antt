use Rattle.std.proofs.Common.{◌∙◌}
use Rattle.t_forms.specs.Data.{binders_of}
use Rattle.t_rows.specs.Bindings.{IsBinder}
use Rattle.form_rows.proofs.DefinitionLemmas.{all_is_some}
use Rattle.form_rows.proofs.definitions.are_names.Goals as goal

pub returns : goal.returns
returns c names ds h = c.is_some.ensures ∙ all_is_some (IsBinder names) _ (binders_of ds) (c.in_ok-found.ensures names ds h)
