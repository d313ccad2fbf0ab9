use Rattle.std.proofs.Common.{sym, subst, true, slice_set, ◌++◌, ◌∷◌, [], List, Bool}
use Rattle.unit_tops.specs.Marks.{Marks}
use Rattle.unit_tops.proofs.MarkLemmas.{marked}
use Rattle.unit_tops.proofs.unit_marks.NameMarks.mark.Goals as goal

pub returns-in-Some-clause-marked : goal.returns-in-Some-clause-marked
returns-in-Some-clause-marked c names defined n apart is m =
    subst (λ (ms : List Bool). Marks names (slice_set ms c.in-Written.name.0 true) (defined ++ n ∷ [])) (sym c.self.view_is)
    (marked names defined n c.args.name c.in-Written.name c.args.self.now c.in-Some.was apart is c.in-Written.is m (sym c.in-Some.ensures))
