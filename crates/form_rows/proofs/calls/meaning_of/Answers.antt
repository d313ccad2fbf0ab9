use Rattle.t_forms.specs.Held.{vars_of}
use Rattle.t_forms.specs.Names.{meaning}
use Rattle.form_rows.proofs.CallLemmas.{means_as}
use Rattle.form_rows.proofs.calls.meaning_of.Goals as goal

pub returns : goal.returns
returns c n around apart h s = means_as (vars_of c.args.scope.now) c.meaning.result (meaning around n) (c.meaning.ensures n around apart h s)
