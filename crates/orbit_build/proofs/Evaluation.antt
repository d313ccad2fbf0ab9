-- What terms come to, by recursion on them, with the work and the depth of their evaluation.
use Rattle.std.specs.Prelude.{ℕ, suc, ◌+◌, max, List, [], ◌∷◌, ℤ, ◌+ℤ◌, if◌then◌else◌}
use Rattle.program_runs.specs.Runs.{End, Shown, Fixnum}
use Rattle.program_runs.specs.Runs as runs
use Rattle.t_base.specs.declared.faults.Fault.{Fault}
use Rattle.t_base.specs.declared.faults.Fault.TheVariants.{FixnumOverflow}
use Rattle.t_prim.specs.Operands.{in_range}
use Rattle.orbit_build.specs.Sums.{Term, Literal, Sum}

pub data Outcome : Type 0 where
  Value : (number : ℤ) → Outcome
  Faulted : (fault : Fault) → Outcome

-- the evaluations so far, and the deepest of them
pub record Counters : Type 0 where
  pub work : ℕ
  pub deepest : ℕ

pub record Evaluation : Type 0 where
  pub counters : Counters
  pub outcome : Outcome

-- one more evaluation, at depth d
abbrev pub entered : ℕ → Counters → Counters
entered d s = record { work = s.work + 1; deepest = max s.deepest d }

abbrev pub gives : Counters → Outcome → Evaluation
gives s o = record { counters = s; outcome = o }

-- a part that gives a value goes on, and a fault ends the whole
abbrev pub passed : Counters → Outcome → (Counters → ℤ → Evaluation) → Evaluation
passed s (Value v) rest = rest s v
passed s (Faulted fault) rest = gives s (Faulted fault)

abbrev pub with_value : Evaluation → (Counters → ℤ → Evaluation) → Evaluation
with_value r rest = passed r.counters r.outcome rest

-- a sum outside the fixnums is a fault
abbrev pub sum_of : ℤ → ℤ → Outcome
sum_of a b = if in_range (a +ℤ b) then Value (a +ℤ b) else Faulted FixnumOverflow

-- a term at depth d; the operands of a sum are one deeper, from left to right
unfoldable pub whole : ℕ → Term → Counters → Evaluation
whole d (Literal v) s = gives (entered d s) (Value v)
whole d (Sum a b) s = with_value (whole (suc d) a (entered d s)) (λ t x. with_value (whole (suc d) b t) (λ u y. gives u (sum_of x y)))

-- a bound that is large enough for its evaluation
unfoldable pub height : Term → ℕ
height (Literal v) = 1
height (Sum a b) = suc (max (height a) (height b))

-- ---- a unit

-- a unit's counters and its end
pub record Progress : Type 0 where
  pub counters : Counters
  pub end : End

abbrev pub reached : Counters → End → Progress
reached s e = record { counters = s; end = e }

-- each form counts by itself
abbrev pub counted : Counters → Counters
counted s = record { work = s.work + 1; deepest = s.deepest }

-- behind a form: its value is shown where no other form stands behind it
abbrev pub continued : Counters → Outcome → (Counters → Shown → Progress) → Progress
continued s (Value v) rest = rest s (Fixnum v)
continued s (Faulted fault) rest = reached s (runs.Faulted fault)

-- the terms in order, each at depth 1; `last` is what is shown of the value before them
unfoldable pub whole_run : List Term → Counters → Shown → Progress
whole_run [] s last = reached s (runs.Value last)
whole_run (t ∷ ts) s last = let r = whole 1 t (counted s) in continued r.counters r.outcome (λ u shown. whole_run ts u shown)

unfoldable pub top : List Term → ℕ
top [] = 0
top (t ∷ ts) = max (height t) (top ts)

abbrev pub fresh : Counters
fresh = record { work = 0; deepest = 0 }
