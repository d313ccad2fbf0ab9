-- Runs by their steps: that they only go on, and that their moves are their steps. And so of the machine with its services.
use Rattle.std.proofs.Common.{◌≡◌, ℕ, zero, suc, ◌+◌, ◌⊎◌, List, Option, Some, None, refl, sym, ap, subst, ◌∙◌, arith, le_trans, inl, inr, ⊎_elim}
use Rattle.std.specs.Prelude.{option_map}
use Rattle.program_runs.specs.Runs.{End, Broken, Observation, Run}
use Rattle.program_runs.specs.Follows.{IsLater, GoesOn, after}
use Rattle.program_runs.specs.LawsOfKeeps.{CountsSteps}
use Rattle.program_runs.proofs.Prefixes.{prefix_refl, prefix_trans}
use Rattle.program_runs.proofs.Simulate.{after_last}
use Rattle.m68020_step.specs.declared.machine.Step.{Step}
use Rattle.m68020_step.specs.declared.machine.Step.TheVariants as step
use Rattle.m68020_step.specs.Step.{State, step_of}
use Rattle.machine_services.specs.declared.exit.Exit.{Exit}
use Rattle.machine_services.specs.Services.{Served, Puts, Exits, Bad, serve}
use Rattle.machine_services.specs.Runs.{Progress, start_of, served, stepped, act, followed, further, run_from}
use Rattle.machine_services.specs.Observed.{end_of, observation_of, observed_from, service_machine}
use Rattle.machine_services.specs.Laws.{ObservedIsMachine, ObservedGoesOn, ObservedCounts}

none_some : {A : Type 0} (x : A) → None ≡ Some x → ⊥
none_some x e = cc

-- ---- of any run

pub later_refl : (x : Observation) → IsLater x x
later_refl x = record { output = prefix_refl x.output; moves = omega arith; ended = λ e h. refl }

pub later_trans : (x y z : Observation) → IsLater x y → IsLater y z → IsLater x z
later_trans x y z h k = record {
  output = prefix_trans _ _ _ h.output k.output;
  moves = le_trans h.moves k.moves;
  ended = λ e q. let s = h.ended e q in k.ended e (ap (λ m. m.end) s ∙ q) ∙ s;
}

-- a run each of whose steps goes on
pub goes_on_by_steps : (b : Run) → ((k : ℕ) → IsLater (b k) (b (suc k))) → GoesOn b
goes_on_by_steps b later k zero = subst (λ n. IsLater (b k) (b n)) (let e : k ≡ k + 0 = omega arith in e) (later_refl (b k))
goes_on_by_steps b later k (suc j) = subst (λ n. IsLater (b k) (b n)) (let e : suc (k + j) ≡ k + suc j = omega arith in e) (later_trans _ _ _ (goes_on_by_steps b later k j) (later (k + j)))

-- what has not ended had not ended before
pub going_before : (x y : Observation) → IsLater x y → y.end ≡ None → x.end ≡ None
going_before x y later going = by x.end refl
  where
    by : (o : Option End) → x.end ≡ o → x.end ≡ None
    by None is = is
    by (Some e) is = absurd (none_some e (sym going ∙ ap (λ m. m.end) (later.ended e is) ∙ is))

-- a step from x to y counts one, or breaks the run
pub record CountsOne (x y : Observation) : Type 0 where
  pub one : x.end ≡ None → (y.moves ≡ x.moves + 1) ⊎ (y.end ≡ Some Broken)

module _ (b : Run) (none : (b 0).moves ≡ 0) (later : (k : ℕ) → IsLater (b k) (b (suc k))) (one : (k : ℕ) → CountsOne (b k) (b (suc k))) where
  counted : (k : ℕ) → (b k).end ≡ None → (b k).moves ≡ k
  counted zero going = none
  counted (suc k) going =
      let before = going_before (b k) (b (suc k)) (later k) going in
      let so_far = counted k before in
      ⊎_elim (λ m. omega (arith, m, so_far)) (λ broken. absurd (none_some Broken (sym going ∙ broken))) ((one k).one before)

  pub counts_by_steps : CountsSteps b
  counts_by_steps k going = let so_far = counted k going in ⊎_elim (λ m. inl (omega (arith, m, so_far))) (λ broken. inr broken) ((one k).one going)

-- ---- of the machine with its services

-- a service leaves the machine as it is
served-state : (s : State) (at : ℕ) (x : Served) → (served s at x).state ≡ s
served-state s at (Puts bytes) = refl
served-state s at (Exits how) = refl
served-state s at Bad = refl

pub stepped-state : (names : List (List ℕ)) (at : ℕ) (x : Step × State) → (stepped names at x).state ≡ x.1
stepped-state names at (step.On, s) = refl
stepped-state names at (step.Service vector, s) = served-state s at (serve names s vector)
stepped-state names at (step.Stop why, s) = refl

-- one instruction, or an end that is seen as Broken
abbrev pub IsOne : List (List ℕ) → Progress → Type 0
IsOne names p = (p.instructions ≡ 1) ⊎ (option_map (end_of names) p.end ≡ Some Broken)

served-one : (names : List (List ℕ)) (s : State) (at : ℕ) (x : Served) → IsOne names (served s at x)
served-one names s at (Puts bytes) = inl refl
served-one names s at (Exits how) = inl refl
served-one names s at Bad = inr refl

pub stepped-one : (names : List (List ℕ)) (at : ℕ) (x : Step × State) → IsOne names (stepped names at x)
stepped-one names at (step.On, s) = inl refl
stepped-one names at (step.Service vector, s) = served-one names s at (serve names s vector)
stepped-one names at (step.Stop why, s) = inr refl

-- what follows is later
pub followed-later : (names : List (List ℕ)) (p q : Progress) → p.end ≡ None → IsLater (observation_of names p) (observation_of names (followed p q))
followed-later names p q is = record {
  output = (q.output, refl);
  moves = omega arith;
  ended = λ e h. absurd (none_some e (sym (ap (option_map (end_of names)) is) ∙ h));
}

pub followed-counts : (names : List (List ℕ)) (p q : Progress) → IsOne names q → CountsOne (observation_of names p) (observation_of names (followed p q))
followed-counts names p q one = record { one = λ going. ⊎_elim (λ h. inl (omega (arith, h))) (λ h. inr h) one }

-- what has ended is not counted on
pub ended-counts : (names : List (List ℕ)) (p : Progress) (e : Exit) → p.end ≡ Some e → CountsOne (observation_of names p) (observation_of names p)
ended-counts names p e is = record { one = λ going. absurd (none_some (end_of names e) (sym going ∙ ap (option_map (end_of names)) is)) }

further-later : (names : List (List ℕ)) (p : Progress) (o : Option Exit) → p.end ≡ o → IsLater (observation_of names p) (observation_of names (further names p o))
further-later names p (Some e) is = later_refl (observation_of names p)
further-later names p None is = followed-later names p (act names p.state) is

further-counts : (names : List (List ℕ)) (p : Progress) (o : Option Exit) → p.end ≡ o → CountsOne (observation_of names p) (observation_of names (further names p o))
further-counts names p (Some e) is = ended-counts names p e is
further-counts names p None is = followed-counts names p (act names p.state) (stepped-one names p.state.registers.pc (step_of p.state))

each_later : (names : List (List ℕ)) (s : State) (k : ℕ) → IsLater (observed_from names s k) (observed_from names s (suc k))
each_later names s k = let p = run_from names (start_of s) k in further-later names p p.end refl

pub observed_goes_on : ObservedGoesOn
observed_goes_on names s = goes_on_by_steps (observed_from names s) (each_later names s)

pub observed_counts : ObservedCounts
observed_counts names s = counts_by_steps (observed_from names s) refl (each_later names s) (λ k. let p = run_from names (start_of s) k in further-counts names p p.end refl)

-- ---- as a machine

steps_are : (names : List (List ℕ)) (p : Progress) (k : ℕ) → after (service_machine names).step k p ≡ run_from names p k
steps_are names p zero = refl
steps_are names p (suc k) = after_last (service_machine names).step k p ∙ ap (λ (q : Progress). further names q q.end) (steps_are names p k)

pub observed_is_machine : ObservedIsMachine
observed_is_machine names s = λ i k. ap (observation_of names) (steps_are names (start_of s) k) i
