use Rattle.expansion.specs.Refusals.{number}
use Rattle.expansion.proofs.FirstRefusals.{same_start, same_number, same_kind}
use Rattle.expansion.proofs.laws.one_refusal.Goals as goal

pub returns-clause-place : goal.returns-clause-place
returns-clause-place c trees a b f g = same_start a.span.start b.span.start (number a.kind) (number b.kind) (f.first b g.stands) (g.first a f.stands)

pub returns-clause-kind : goal.returns-clause-kind
returns-clause-kind c trees a b f g =
    same_kind a.kind b.kind (same_number a.span.start b.span.start (number a.kind) (number b.kind) (f.first b g.stands) (g.first a f.stands))
