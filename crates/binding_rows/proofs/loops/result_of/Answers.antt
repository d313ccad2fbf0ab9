use Rattle.std.proofs.Common.{[], ◌∷◌, refl}
use Rattle.t_reader.specs.Grammar.{nil}
use Rattle.t_forms.specs.Data.{given}
use Rattle.binding_rows.proofs.loops.result_of.Goals as goal

pub returns-in_ok-nil-in-None-clause-made : goal.returns-in_ok-nil-in-None-clause-made
returns-in_ok-nil-in-None-clause-made c names rs r = rw (c.in-None.ensures names rs r) (c.in_ok-nil-in-None.ensures.made names (given nil) refl)

pub returns-in_ok-block-in-Some-clause-made : goal.returns-in_ok-block-in-Some-clause-made
returns-in_ok-block-in-Some-clause-made c names rs r =
    let f = c.in-Some.ensures names rs r in
    rw f.2 (c.in_ok-block-in-Some.ensures.made names [] ((f.0 ∷ f.1) ∷ []) tt (rw f.2 at r, tt))
