use Rattle.closure_strategy.specs.Plans.{strategy_of}
use Rattle.closure_strategy.proofs.Chosen.{IsMade}
use Rattle.closure_strategy.proofs.choice.choose.Given as goal

abbrev pub invariant-loop-place : goal.invariant-loop-place
invariant-loop-place l = record { of : IsMade (strategy_of l.cps) l.place l.of.items; template : IsMade (λ n. n) l.place l.template.items }
