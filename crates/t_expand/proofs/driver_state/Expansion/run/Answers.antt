use Rattle.std.proofs.Common.{◌≢◌, sym, subst, AllPairs}
use Rattle.t_expand.specs.Driving.{IsNext}
use Rattle.t_expand.specs.Tallies.{TalliedNext}
use Rattle.t_expand.proofs.GrowthLemmas.{Grows_refl, Grows_trans}
use Rattle.t_expand.proofs.driver_state.Expansion.run.Goals as goal

pub frames-init : goal.frames-init
frames-init c = record { grows = Grows_refl c.args.self.now; under = λ root distinct u. u; tallied = λ before t. t }

pub frames-preserved : goal.frames-preserved
frames-preserved c = record {
  grows = Grows_trans c.args.self.now c.frames.self c.step.new.self c.frames.invariant.grows c.in_ok-step.ensures.grows;
  under = λ root distinct u.
      subst (λ s. IsNext root c.step.new.self c.step.new.frames s) c.in-None.is
      (c.in_ok-step.ensures.next root (subst (λ n. AllPairs (λ a b. a ≢ b) n) (sym c.frames.invariant.grows.shared.names) distinct) (c.frames.invariant.under root distinct u));
  tallied = λ before t. subst (λ s. TalliedNext before c.step.new.self c.step.new.frames s) c.in-None.is (c.in_ok-step.ensures.tallied before (c.frames.invariant.tallied before t));
}

pub returns-in-Some-clause-end : goal.returns-in-Some-clause-end
returns-in-Some-clause-end c root distinct u =
    subst (λ s. IsNext root c.step.new.self c.step.new.frames s) c.in-Some.is
    (c.in_ok-step.ensures.next root (subst (λ n. AllPairs (λ a b. a ≢ b) n) (sym c.frames.invariant.grows.shared.names) distinct) (c.frames.invariant.under root distinct u))

pub returns-in-Some-clause-tallied : goal.returns-in-Some-clause-tallied
returns-in-Some-clause-tallied c before t =
    subst (λ s. TalliedNext before c.step.new.self c.step.new.frames s) c.in-Some.is (c.in_ok-step.ensures.tallied before (c.frames.invariant.tallied before t))
