use Rattle.std.proofs.Common.{◌≡◌, List, ℕ, ap, sym, ◌∙◌, subst}
use Rattle.machine_services.specs.Runs.{act}
use Rattle.orbit_monitor.specs.Answering.{Loaded, after}
use Rattle.orbit_monitor.proofs.Turns.{act-output, turn-service}
use Rattle.orbit_monitor.proofs.monitor.turn.Goals as goal

pub returns-in_ok-outcome-in-Service-clause-loaded : goal.returns-in_ok-outcome-in-Service-clause-loaded
returns-in_ok-outcome-in-Service-clause-loaded g c =
    let i : Loaded = record { names = c.boot.inside.names; state = c.boot.inside.machine; end = c.boot.inside.end; last = c.boot.inside.last } in
    let going = ap (λ (l : Loaded). l.end) c.boot.view_is ∙ c.requires in
    subst (λ (b : Loaded). c.settle.new.self ≡ after b (act b.names b.state)) c.boot.view_is
    (turn-service i c.settle.new.self c.step.new.self c.in-Service.vector c.pc-at.result c.in_ok-outcome-in-Service.outcome c.in-Service.ensures.exact c.pc-at.ensures going c.in_ok-outcome-in-Service.ensures.outcome c.settle.ensures)

pub returns-in_ok-outcome-in-Service-clause-end : goal.returns-in_ok-outcome-in-Service-clause-end
returns-in_ok-outcome-in-Service-clause-end g c =
    ap (λ (l : Loaded). l.end) (c.boot-in-Service.view_is ∙ returns-in_ok-outcome-in-Service-clause-loaded g c)

pub returns-in_ok-outcome-in-Service-clause-took : goal.returns-in_ok-outcome-in-Service-clause-took
returns-in_ok-outcome-in-Service-clause-took g c =
    let put = act-output c.boot.inside.names c.boot.inside.machine c.step.new.self c.in-Service.vector c.in-Service.ensures.exact in
    subst (λ (b : Loaded). g.S.Sink.took c.args.out.now (act b.names b.state).output c.serve.new.out) c.boot.view_is
    (subst (λ (l : List ℕ). g.S.Sink.took c.args.out.now l c.serve.new.out) (sym put) c.in_ok-outcome-in-Service.ensures.took)
