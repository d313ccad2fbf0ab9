-- Ways of one instruction.
use Rattle.std.proofs.Common.{◌≡◌, ℕ, suc, [], None, refl, ap, sym, subst, ◌∙◌, arith}
use Rattle.m68020_step.specs.Step.{State}
use Rattle.machine_services.specs.Runs.{Progress}
use Rattle.lap_runs.specs.Goes.{Goes}
use Rattle.lap_paths.specs.Paths.{Assembly, code, Path}
use Rattle.lap_paths.proofs.Steps.{goes_on}

module _ (a : Assembly) (t : State) where
  fresh : Progress
  fresh = record { state = t; output = []; end = None; instructions = 0 }

  -- it is one instruction
  one : (Q : State → Type 0) (p : Path a 1 t Q) → Goes a.names (code a) t p.to 1
  one Q p =
      let same : p.count ≡ 1 = omega (arith, p.few, p.some (omega arith)) in
      subst (λ (n : ℕ). Goes a.names (code a) t p.to n) same p.goes

  -- and then others
  pub then_goes : (n : ℕ) (P Q : State → Type 0) → Path a 1 t P → ((u : State) → P u → Path a n u Q) → Path a (suc n) t Q
  then_goes n P Q p rest = goes_on a n t p.to Q (one P p) (p.costs 0 (omega arith) (record { state = t; output = []; end = None; instructions = 0 }) refl refl) (rest p.to p.there)

  -- two ways of one instruction come to one state
  pub both_hold : (P Q : State → Type 0) → Path a 1 t P → Path a 1 t Q → Path a 1 t (λ u. P u × Q u)
  both_hold P Q p q =
      let left = (one P p).runs (record { state = t; output = []; end = None; instructions = 0 }) refl refl in
      let right = (one Q q).runs (record { state = t; output = []; end = None; instructions = 0 }) refl refl in
      let same : q.to ≡ p.to = ap (λ (x : Progress). x.state) (sym right ∙ left) in
      record { count = p.count; few = p.few; some = p.some; to = p.to; goes = p.goes; costs = p.costs; there = (p.there, subst Q same q.there) }
