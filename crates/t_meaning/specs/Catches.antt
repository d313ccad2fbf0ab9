-- CATCH and its escapes. An escape is an outcome that travels outwards to its CATCH.
use Rattle.std.specs.Prelude.{ℕ, suc, ◌==◌, Bool, true, false, List, [], ◌∷◌}
use Rattle.std.specs.List.{list_any}
use Rattle.t_base.specs.declared.basics.Var.{Var}
use Rattle.t_base.specs.declared.faults.Fault.TheVariants.{WrongCount, DeadEscape}
use Rattle.t_prim.specs.Values.{Val, EscapeV}
use Rattle.t_meaning.specs.Programs.{Program}
use Rattle.t_meaning.specs.State.{State, with_live, with_catch, taking, working}
use Rattle.t_meaning.specs.Costs.{catch_words}
use Rattle.t_meaning.specs.Outcomes.{Outcome, Value, Escaping, Faulted, Out, Context, Evaluate, Doing, provided}
use Rattle.t_meaning.specs.Bindings.{binding}

-- a catch opens: it is new and live, takes words of heap, and is two of work
abbrev pub opened : State → State
opened s = working 2 (taking catch_words (with_catch s))

-- a value on its way out has come to its own catch, or to an inner one
abbrev pub arrived : Bool → State → ℕ → Val → Outcome
arrived true s i v = Value s v
arrived false s i v = Escaping s i v

-- catch i ends: it and all later ones are live no more, and its escape's value is the value of the CATCH
abbrev pub closed : ℕ → List ℕ → Outcome → Outcome
closed i outer (Value s v) = Value (with_live s outer) v
closed i outer (Escaping s j v) = arrived (i == j) (with_live s outer) j v
closed i outer (Faulted s fault) = Faulted s fault
closed i outer (Out s) = Out s

-- the body, two deeper, with the variable bound to the new escape
abbrev pub catching : Program → Doing → ℕ → Context → Var → ℕ → State → Outcome
catching p part d c x body s =
    closed s.catches s.live (binding p (x ∷ []) (EscapeV s.catches ∷ []) c.env (opened s) (λ env t. part (suc (suc d)) (Evaluate body (record c { tail = false; env = env })) t))

-- an escape takes one operand, and must be live
abbrev pub escape : ℕ → List Val → State → Outcome
escape i (v ∷ []) s = provided (list_any (λ j. j == i) s.live) DeadEscape s (λ t. Escaping t i v)
escape i _ s = Faulted s WrongCount
