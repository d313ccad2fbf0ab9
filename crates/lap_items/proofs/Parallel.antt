-- Moves to places that are apart can be done at once.
use Rattle.std.proofs.Common.{◌≡◌, ◌≢◌, ℕ, suc, ◌+◌, ◌<◌, ◌≤◌, ◌==◌, Bool, true, false, List, [], ◌∷◌, length, get_or, refl, sym, ap, ◌∙◌, arith}
use Rattle.std.specs.Prelude.{All, AllPairs, if◌then◌else◌}
use Rattle.std.proofs.lemmas.Bool.{eqb-true, ne_eqb}
use Rattle.word_ir.specs.declared.operands.Operand.{Operand}
use Rattle.word_ir.specs.declared.operands.Operand.TheVariants as operand
use Rattle.word_ir.specs.declared.placed.Home.{Home}
use Rattle.word_ir.specs.declared.placed.Home.TheVariants as home
use Rattle.parallel_moves.specs.Moves.{scratch, targets_at, sources_at, AreParallel}
use Rattle.lap_items.specs.Homes.{home_of, number_of_home}
use Rattle.lap_items.specs.Moves.{moving, moves_to}
use Rattle.lap_items.specs.Program.{moves_between}

-- one where a number is this one
one_at : ℕ → ℕ → ℕ
one_at p n = if n == p then 1 else 0

one_at_other : (p n : ℕ) → n ≢ p → one_at p n ≡ 0
unfolding one_at
one_at_other p n other = ap (λ (b : Bool). if b then 1 else 0) (ne_eqb n p other)

one_at_false : (p n : ℕ) → (n == p) ≡ false → one_at p n ≡ 0
unfolding one_at
one_at_false p n e = ap (λ (b : Bool). if b then 1 else 0) e

added_none : (n rest : ℕ) → one_at scratch n ≡ 0 → rest ≡ 0 → (if n == scratch then 1 else 0) + rest ≡ 0
unfolding one_at
added_none n rest p q = omega (arith, p, q)

one_at_most : (p n : ℕ) → one_at p n ≤ 1
unfolding one_at
one_at_most p n = by (n == p) where
  by : (b : Bool) → (if b then 1 else 0) ≤ 1
  by true = omega arith
  by false = omega arith

-- how many of the places have this number
places_at : ℕ → List Home → ℕ
places_at p [] = 0
places_at p (h ∷ places) = one_at p (number_of_home h) + places_at p places

-- ---- places

pub record AreApart (places : List Home) : Type 0 where
  pub apart : AllPairs (λ a b. number_of_home a ≢ number_of_home b) places
  pub small : All (λ a. number_of_home a < scratch) places

none_at : (p : ℕ) (places : List Home) → ((k : ℕ) (d : Home) → k < length places → number_of_home (get_or places k d) ≢ p) → places_at p places ≡ 0
unfolding places_at
none_at p [] other = refl
none_at p (h ∷ places) other =
    let here : one_at p (number_of_home h) ≡ 0 = one_at_other p (number_of_home h) (other 0 h (omega arith)) in
    let there : places_at p places ≡ 0 = none_at p places (λ k d lt. other (suc k) d (omega arith)) in
    omega (arith, here, there)

one_place : (p : ℕ) (places : List Home) → AllPairs (λ a b. number_of_home a ≢ number_of_home b) places → places_at p places ≤ 1
unfolding places_at
one_place p [] apart = omega arith
one_place p (h ∷ places) apart = by (number_of_home h == p) refl (one_place p places (λ i j d lt within. apart (suc i) (suc j) d (omega arith) (omega arith))) where
  by : (b : Bool) → (number_of_home h == p) ≡ b → places_at p places ≤ 1 → one_at p (number_of_home h) + places_at p places ≤ 1
  by true e rest =
      let same : number_of_home h ≡ p = eqb-true (number_of_home h) p e in
      let none : places_at p places ≡ 0 = none_at p places (λ k d lt is. apart 0 (suc k) d (omega arith) (omega arith) (same ∙ sym is)) in
      omega (arith, none, one_at_most p (number_of_home h))
  by false e rest =
      let none : one_at p (number_of_home h) ≡ 0 = one_at_false p (number_of_home h) e in
      omega (arith, none, rest)

-- ---- moves

targets_within : (homes : List Home) (args : List Operand) (places : List Home) (p : ℕ) → targets_at p (moves_to homes args places) ≤ places_at p places
unfolding places_at one_at moving
targets_within homes [] places p = omega arith
targets_within homes (x ∷ args) [] p = omega arith
targets_within homes (operand.Var v ∷ args) (to ∷ places) p = omega (arith, targets_within homes args places p)
targets_within homes (operand.Word n ∷ args) (to ∷ places) p = omega (arith, targets_within homes args places p)
targets_within homes (operand.Static n ∷ args) (to ∷ places) p = omega (arith, targets_within homes args places p)
targets_within homes (operand.Code n ∷ args) (to ∷ places) p = omega (arith, targets_within homes args places p)
targets_within homes (operand.Slot n ∷ args) (to ∷ places) p = omega (arith, targets_within homes args places p)

targets_between : (sources places : List Home) (p : ℕ) → targets_at p (moves_between sources places) ≤ places_at p places
unfolding places_at one_at
targets_between [] places p = omega arith
targets_between (from ∷ sources) [] p = omega arith
targets_between (from ∷ sources) (to ∷ places) p = omega (arith, targets_between sources places p)

-- no home is the place between them
no_source : (homes : List Home) (args : List Operand) (places : List Home) → ((n : ℕ) → number_of_home (get_or homes n (home.D 0)) < scratch) → sources_at scratch (moves_to homes args places) ≡ 0
unfolding moving
no_source homes [] places small = refl
no_source homes (x ∷ args) [] small = refl
no_source homes (operand.Var v ∷ args) (to ∷ places) small =
    let here : one_at scratch (number_of_home (home_of homes v)) ≡ 0 = one_at_other scratch (number_of_home (home_of homes v)) (λ is. absurd (omega (arith, is, small v.0))) in
    added_none (number_of_home (home_of homes v)) (sources_at scratch (moves_to homes args places)) here (no_source homes args places small)
no_source homes (operand.Word n ∷ args) (to ∷ places) small = no_source homes args places small
no_source homes (operand.Static n ∷ args) (to ∷ places) small = no_source homes args places small
no_source homes (operand.Code n ∷ args) (to ∷ places) small = no_source homes args places small
no_source homes (operand.Slot n ∷ args) (to ∷ places) small = no_source homes args places small

pub arguments_parallel : (homes : List Home) (args : List Operand) (places : List Home) → ((n : ℕ) → number_of_home (get_or homes n (home.D 0)) < scratch) → AreApart places → AreParallel (moves_to homes args places)
arguments_parallel homes args places small are = record {
  apart = λ p. omega (arith, targets_within homes args places p, one_place p places are.apart);
  no_target = omega (arith, targets_within homes args places scratch, none_at scratch places (λ k d lt is. absurd (omega (arith, is, are.small k d lt))));
  no_source = no_source homes args places small;
}

-- from homes to homes
between_no_source : (sources places : List Home) → All (λ a. number_of_home a < scratch) sources → sources_at scratch (moves_between sources places) ≡ 0
between_no_source [] places small = refl
between_no_source (from ∷ sources) [] small = refl
between_no_source (from ∷ sources) (to ∷ places) small =
    let here : one_at scratch (number_of_home from) ≡ 0 = one_at_other scratch (number_of_home from) (λ is. absurd (omega (arith, is, small 0 from (omega arith)))) in
    added_none (number_of_home from) (sources_at scratch (moves_between sources places)) here (between_no_source sources places (λ k d lt. small (suc k) d (omega arith)))

pub between_parallel : (sources places : List Home) → All (λ a. number_of_home a < scratch) sources → AreApart places → AreParallel (moves_between sources places)
between_parallel sources places small are = record {
  apart = λ p. omega (arith, targets_between sources places p, one_place p places are.apart);
  no_target = omega (arith, targets_between sources places scratch, none_at scratch places (λ k d lt is. absurd (omega (arith, is, are.small k d lt))));
  no_source = between_no_source sources places small;
}

pub nothing_parallel : AreParallel []
nothing_parallel = record { apart = λ p. omega arith; no_target = refl; no_source = refl }
