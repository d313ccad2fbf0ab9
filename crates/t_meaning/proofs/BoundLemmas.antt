-- An evaluation only adds, and a greater bound gives the same or adds more: one lemma for each way of going on.
use Rattle.std.specs.Prelude.{◌==◌}
use Rattle.std.proofs.Common.{◌≡◌, ℕ, suc, List, [], ◌∷◌, Option, Some, None, Bool, true, false, refl, sym, subst, arith, le_trans}
use Rattle.std.specs.List.{list_any}
use Rattle.t_base.specs.declared.faults.Fault.{Fault}
use Rattle.t_base.specs.declared.faults.Fault.TheVariants.{DeadEscape}
use Rattle.t_base.specs.declared.basics.Var.{Var}
use Rattle.program_runs.proofs.Prefixes.{prefix_refl, prefix_trans}
use Rattle.t_prim.specs.Values.{Val}
use Rattle.t_prim.specs.Operands.{Row, Gives, Changes, Faults}
use Rattle.t_prim.proofs.RowLaws.{RowGrows}
use Rattle.t_meaning.specs.Programs.{Program}
use Rattle.t_meaning.specs.Environment.{Env}
use Rattle.t_meaning.specs.State.{State, with_live, taking, working, entered, with_locations, with_location_at}
use Rattle.t_meaning.specs.Outcomes.{Outcome, Value, Escaping, Faulted, Out, Context, Task, Evaluate, Doing, with_value, provided, or_unbound, after_row, early, last, with_values}
use Rattle.t_meaning.specs.Bindings.{binding, filling}
use Rattle.t_meaning.specs.Catches.{opened, arrived, closed, escape}
use Rattle.t_meaning.specs.BoundLaws.{Seen, seen, IsWithin, state_of, Extends}

-- ---- the order

pub within_refl : (s : Seen) → IsWithin s s
within_refl s = record { output = prefix_refl s.output; heap = omega arith; work = omega arith; deepest = omega arith }

pub within_trans : (s t u : Seen) → IsWithin s t → IsWithin t u → IsWithin s u
within_trans s t u h k = record { output = prefix_trans _ _ _ h.output k.output; heap = le_trans h.heap k.heap; work = le_trans h.work k.work; deepest = le_trans h.deepest k.deepest }

-- an outcome from s has all that s has
abbrev pub Adds : State → Outcome → Type 0
Adds s o = IsWithin (seen s) (seen (state_of o))

pub taking_adds : (words : ℕ) (s : State) → IsWithin (seen s) (seen (taking words s))
taking_adds words s = record { output = prefix_refl _; heap = omega arith; work = omega arith; deepest = omega arith }

pub working_adds : (n : ℕ) (s : State) → IsWithin (seen s) (seen (working n s))
working_adds n s = record { output = prefix_refl _; heap = omega arith; work = omega arith; deepest = omega arith }

pub entered_adds : (d : ℕ) (s : State) → IsWithin (seen s) (seen (entered d s))
entered_adds d s = record { output = prefix_refl _; heap = omega arith; work = omega arith; deepest = omega arith }

pub opened_adds : (s : State) → IsWithin (seen s) (seen (opened s))
opened_adds s = record { output = prefix_refl _; heap = omega arith; work = omega arith; deepest = omega arith }

pub row_adds : (s : State) (r : Row) → RowGrows s.store r → Adds s (after_row s r)
row_adds s (Gives v) h = within_refl (seen s)
row_adds s (Changes t v) h = record { output = h.output; heap = h.heap; work = omega arith; deepest = omega arith }
row_adds s (Faults fault) h = within_refl (seen s)

-- ---- two outcomes

-- o is from s under a bound, and p from s under a greater one
pub record Extended (s : State) (o p : Outcome) : Type 0 where
  pub low : Adds s o
  pub high : Adds s p
  pub extends : Extends o p

pub extends_refl : (o : Outcome) → Extends o o
extends_refl (Value s v) = refl
extends_refl (Escaping s i v) = refl
extends_refl (Faulted s fault) = refl
extends_refl (Out s) = within_refl (seen s)

pub extended_refl : (s : State) (o : Outcome) → Adds s o → Extended s o o
extended_refl s o h = record { low = h; high = h; extends = extends_refl o }

-- an outcome that leaves the state as it is
pub unchanged : (s : State) (o : Outcome) → seen (state_of o) ≡ seen s → Extended s o o
unchanged s o e = extended_refl s o (subst (λ x. IsWithin (seen s) x) (sym e) (within_refl (seen s)))

pub extended_from : (s t : State) (o p : Outcome) → IsWithin (seen s) (seen t) → Extended t o p → Extended s o p
extended_from s t o p h x = record { low = within_trans _ _ _ h x.low; high = within_trans _ _ _ h x.high; extends = x.extends }

-- ---- going on

value_adds : (s : State) (o : Outcome) (rest : State → Val → Outcome) → Adds s o → ((t : State) (v : Val) → Adds t (rest t v)) → Adds s (with_value o rest)
value_adds s (Value t v) rest h k = within_trans _ _ _ h (k t v)
value_adds s (Escaping t i v) rest h k = h
value_adds s (Faulted t fault) rest h k = h
value_adds s (Out t) rest h k = h

pub value_extended : (s : State) (o p : Outcome) (f g : State → Val → Outcome) → Extended s o p → ((t : State) (v : Val) → Extended t (f t v) (g t v)) → Extended s (with_value o f) (with_value p g)
value_extended s (Value t v) p f g x h = subst (λ q. Extended s (f t v) (with_value q g)) (sym x.extends) (extended_from s t _ _ x.low (h t v))
value_extended s (Escaping t i v) p f g x h = subst (λ q. Extended s (Escaping t i v) (with_value q g)) (sym x.extends) (extended_refl s _ x.low)
value_extended s (Faulted t fault) p f g x h = subst (λ q. Extended s (Faulted t fault) (with_value q g)) (sym x.extends) (extended_refl s _ x.low)
value_extended s (Out t) p f g x h = record { low = x.low; high = value_adds s p g x.high (λ u v. (h u v).high); extends = value_adds t p g x.extends (λ u v. (h u v).high) }

pub provided_extended : (b : Bool) (fault : Fault) (s : State) (f g : State → Outcome) → Extended s (f s) (g s) → Extended s (provided b fault s f) (provided b fault s g)
provided_extended true fault s f g h = h
provided_extended false fault s f g h = unchanged s _ refl

pub unbound_extended : {X : Type 0} (o : Option X) (s : State) (f g : X → Outcome) → ((x : X) → Extended s (f x) (g x)) → Extended s (or_unbound o s f) (or_unbound o s g)
unbound_extended None s f g h = unchanged s _ refl
unbound_extended (Some x) s f g h = h x

-- ---- parts, done by f under a bound and by g under a greater one

abbrev pub AllExtended : Doing → Doing → Type 0
AllExtended f g = (d : ℕ) (task : Task) (s : State) → Extended s (f d task s) (g d task s)

module _ (f g : Doing) (all : AllExtended f g) where
  pub early_extended : (d : ℕ) (c : Context) (k : ℕ) (s : State) → Extended s (early f d c k s) (early g d c k s)
  early_extended d c k s = all (suc d) _ s

  pub last_extended : (d : ℕ) (c : Context) (k : ℕ) (s : State) → Extended s (last f d c k s) (last g d c k s)
  last_extended d c k s = all _ (Evaluate k c) s

  pub values_extended : (d : ℕ) (c : Context) (ks : List ℕ) (s : State) (h k : State → List Val → Outcome) → ((t : State) (vs : List Val) → Extended t (h t vs) (k t vs)) → Extended s (with_values f d c ks s h) (with_values g d c ks s k)
  values_extended d c [] s h k x = x s []
  values_extended d c (j ∷ ks) s h k x =
      value_extended s _ _ _ _ (early_extended d c j s) (λ t v. values_extended d c ks t (λ u vs. h u (v ∷ vs)) (λ u vs. k u (v ∷ vs)) (λ u vs. x u (v ∷ vs)))

  pub filling_extended : (d : ℕ) (c : Context) (l : ℕ) (ks : List ℕ) (s : State) (h k : State → Outcome) → ((t : State) → Extended t (h t) (k t)) → Extended s (filling f d c l ks s h) (filling g d c l ks s k)
  filling_extended d c l [] s h k x = x s
  filling_extended d c l (j ∷ ks) s h k x =
      value_extended s _ _ _ _ (early_extended d c j s) (λ t v. extended_from t (with_location_at t l v) _ _ (within_refl _) (filling_extended d c (suc l) ks (with_location_at t l v) h k x))

pub binding_extended : (p : Program) (vars : List Var) (vs : List Val) (env : Env) (s : State) (h k : Env → State → Outcome) → ((e : Env) (t : State) → Extended t (h e t) (k e t)) → Extended s (binding p vars vs env s h) (binding p vars vs env s k)
binding_extended p vars vs env s h k x = extended_from s _ _ _ (taking_adds _ (with_locations s vs)) (x _ _)

-- ---- catches

arrived_state : (b : Bool) (s : State) (i : ℕ) (v : Val) → state_of (arrived b s i v) ≡ s
arrived_state true s i v = refl
arrived_state false s i v = refl

closed_adds : (i : ℕ) (outer : List ℕ) (s : State) (o : Outcome) → Adds s o → Adds s (closed i outer o)
closed_adds i outer s (Value t v) h = h
closed_adds i outer s (Escaping t j v) h = subst (λ u. IsWithin (seen s) (seen u)) (sym (arrived_state _ (with_live t outer) j v)) h
closed_adds i outer s (Faulted t fault) h = h
closed_adds i outer s (Out t) h = h

pub closed_extended : (i : ℕ) (outer : List ℕ) (s : State) (o p : Outcome) → Extended s o p → Extended s (closed i outer o) (closed i outer p)
closed_extended i outer s (Value t v) p x = subst (λ q. Extended s (closed i outer (Value t v)) (closed i outer q)) (sym x.extends) (extended_refl s _ x.low)
closed_extended i outer s (Escaping t j v) p x = subst (λ q. Extended s (closed i outer (Escaping t j v)) (closed i outer q)) (sym x.extends) (extended_refl s _ (closed_adds i outer s (Escaping t j v) x.low))
closed_extended i outer s (Faulted t fault) p x = subst (λ q. Extended s (Faulted t fault) (closed i outer q)) (sym x.extends) (extended_refl s _ x.low)
closed_extended i outer s (Out t) p x = record { low = x.low; high = closed_adds i outer s p x.high; extends = closed_adds i outer t p x.extends }

pub escape_extended : (i : ℕ) (args : List Val) (s : State) → Extended s (escape i args s) (escape i args s)
escape_extended i [] s = unchanged s _ refl
escape_extended i (v ∷ []) s = provided_extended (list_any (λ j. j == i) s.live) DeadEscape s _ _ (unchanged s _ refl)
escape_extended i (v ∷ w ∷ vs) s = unchanged s _ refl
