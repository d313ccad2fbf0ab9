use Rattle.std.proofs.Common.{◌+◌, ◌≤◌, refl, ap, sym, ◌∙◌, subst, arith}
use Rattle.orbit_monitor.specs.declared.end.End.{End}
use Rattle.orbit_monitor.specs.declared.end.End.TheVariants as answer
use Rattle.machine_services.specs.Runs.{Progress}
use Rattle.orbit_monitor.specs.Answering.{Loaded, after, IfRan}
use Rattle.orbit_monitor.proofs.Turns.{run_on-ended, pieces-next, pieces-up, goes_further, Ends, ends_here, fails_here}
use Rattle.orbit_monitor.proofs.monitor.run.Goals as goal

if_ran : (x : End) (P : Type 0) → P → IfRan x P
if_ran answer.Sink P p = tt
if_ran answer.Steps P p = p
if_ran (answer.Done face) P p = p
if_ran (answer.Fault fault) P p = p
if_ran (answer.Full stack asked left) P p = p
if_ran (answer.Stop why at) P p = p

pub returns-in-Some-clause-end : goal.returns-in-Some-clause-end
returns-in-Some-clause-end g c =
    let e = sym (ap (λ (l : Loaded). l.end) c.boot.view_is) ∙ c.in-Some.is in
    let ended = ap (λ (p : Progress). p.end) (run_on-ended c.args.boot.now c.args.steps c.in-Some.exit e) ∙ e in
    if_ran _ _ (ended ∙ sym c.from.ensures)

pub returns-in-Some-clause-took : goal.returns-in-Some-clause-took
returns-in-Some-clause-took g c =
    let e = sym (ap (λ (l : Loaded). l.end) c.boot.view_is) ∙ c.in-Some.is in
    let ended = run_on-ended c.args.boot.now c.args.steps c.in-Some.exit e in
    if_ran _ _ (subst (λ (p : Progress). g.S.Sink.took c.args.out.now p.output c.args.out.now) (sym ended) (g.met.S.Sink.took_nothing c.args.out.now))

pub returns-in-Some-clause-loaded : goal.returns-in-Some-clause-loaded
returns-in-Some-clause-loaded g c =
    let e = sym (ap (λ (l : Loaded). l.end) c.boot.view_is) ∙ c.in-Some.is in
    let ended = run_on-ended c.args.boot.now c.args.steps c.in-Some.exit e in
    if_ran _ _ (sym (ap (λ (p : Progress). after c.args.boot.now p) ended))

last_turn : (g : _) (c : goal.After-from-in-Ok-Some g) → Ends g.S.Sink.took c.args.boot.now c.args.steps c.turn.new.boot c.in-Ok-Some.exit c.args.out.now c.turn.new.out
last_turn g c =
    let within : c.loop-done._done + 1 ≤ c.args.steps = omega arith in
    ends_here g.S.Sink.took g.met.S.Sink.took_both c.args.boot.now c.loop-done.boot c.turn.new.boot c.loop-done._done c.args.steps c.in-Ok-Some.exit c.args.out.now c.loop-done.out c.turn.new.out c.loop-done.invariant.at within c.in-Ok-Some.ensures.loaded (sym c.in-Ok-Some.field-0-is ∙ c.in-Ok-Some.ensures.end) c.in-Ok-Some.ensures.took

pub returns-in-Ok-Some-clause-end : goal.returns-in-Ok-Some-clause-end
returns-in-Ok-Some-clause-end g c = if_ran _ _ ((last_turn g c).end ∙ sym c.from-in-Ok-Some.ensures)

pub returns-in-Ok-Some-clause-took : goal.returns-in-Ok-Some-clause-took
returns-in-Ok-Some-clause-took g c = if_ran _ _ (last_turn g c).given

pub returns-in-Ok-Some-clause-loaded : goal.returns-in-Ok-Some-clause-loaded
returns-in-Ok-Some-clause-loaded g c = if_ran _ _ (last_turn g c).loaded

pub returns-in-Some-clause-stands : goal.returns-in-Some-clause-stands
returns-in-Some-clause-stands g c = if_ran _ _ refl

pub returns-in-Ok-Some-clause-stands : goal.returns-in-Ok-Some-clause-stands
returns-in-Ok-Some-clause-stands g c = if_ran _ _ (c.in-Ok-Some.ensures.cause.kept ∙ c.loop-done.invariant.stands)

pub returns-in-Err-clause-sink : goal.returns-in-Err-clause-sink
returns-in-Err-clause-sink g c =
    fails_here g.S.Sink.took g.met.S.Sink.took_both c.args.boot.now c.loop-done.boot c.turn.new.boot c.loop-done._done c.args.steps c.args.out.now c.loop-done.out c.turn.new.out c.loop-done.invariant.at (omega arith) c.in-Err.ensures.part

pub returns-in-Ok-Some-clause-pieces : goal.returns-in-Ok-Some-clause-pieces
returns-in-Ok-Some-clause-pieces g c =
    let next = pieces-next c.args.boot.now c.loop-done.boot c.loop-done._done c.loop-done.invariant.at.loaded c.loop-done.invariant.at.going in
    let up = pieces-up c.args.boot.now (c.loop-done._done + 1) c.args.steps (omega arith) in
    omega (arith, next, up, c.loop-done.invariant.pieces, c.turn.ensures.pieces)

pub returns-in-Err-clause-pieces : goal.returns-in-Err-clause-pieces
returns-in-Err-clause-pieces g c =
    let next = pieces-next c.args.boot.now c.loop-done.boot c.loop-done._done c.loop-done.invariant.at.loaded c.loop-done.invariant.at.going in
    let up = pieces-up c.args.boot.now (c.loop-done._done + 1) c.args.steps (omega arith) in
    omega (arith, next, up, c.loop-done.invariant.pieces, c.turn.ensures.pieces)

pub loop-done-preserved : goal.loop-done-preserved
loop-done-preserved g c = record {
  at = goes_further g.S.Sink.took g.met.S.Sink.took_both c.args.boot.now c.loop-done.boot c.turn.new.boot c.loop-done._done c.args.out.now c.loop-done.out c.turn.new.out c.loop-done.invariant.at c.in-Ok-None.ensures.loaded (sym c.in-Ok-None.field-0-is ∙ c.in-Ok-None.ensures.end) c.in-Ok-None.ensures.took;
  stands = c.in-Ok-None.ensures.cause.kept ∙ c.loop-done.invariant.stands;
  pieces =
      let next = pieces-next c.args.boot.now c.loop-done.boot c.loop-done._done c.loop-done.invariant.at.loaded c.loop-done.invariant.at.going in
      omega (arith, next, c.loop-done.invariant.pieces, c.turn.ensures.pieces);
}
