-- What an evaluation has made so far.
use Rattle.std.specs.Prelude.{ℕ, suc, ◌+◌, max, List, [], ◌∷◌, ◌++◌, Option, Some, slice_set}
use Rattle.t_base.specs.declared.basics.Var.{Var}
use Rattle.t_prim.specs.Values.{Val, Store}
use Rattle.t_meaning.specs.Environment.{Env}

-- what a call enters: parameters, the node of a body in a form, and the environment around it
pub record Procedure : Type 0 where
  pub params : List Var
  pub form : ℕ
  pub body : ℕ
  pub env : Env

-- a method: the operation that it is for, and what is called then
pub record Handler : Type 0 where
  pub op : ℕ
  pub procedure : Procedure

-- an object: what a call of it calls, and its methods in order
pub record Object : Type 0 where
  pub procedure : Val
  pub handlers : List Handler

-- A location, a closure and an object are known by their place in a list, an escape by the number of the CATCHes before its own.
-- A global is None as long as it is Unbound. The store has pairs, vectors, output and words of heap.
pub record State : Type 0 where
  pub store : Store
  pub locations : List Val
  pub closures : List Procedure
  pub objects : List Object
  pub globals : List (Option Val)
  -- the catches whose body is being evaluated, the innermost one first
  pub live : List ℕ
  -- how many catches there were
  pub catches : ℕ
  pub work : ℕ
  pub deepest : ℕ

-- ---- changes

abbrev pub with_store : State → Store → State
with_store s t = record s { store = t }

abbrev pub with_locations : State → List Val → State
with_locations s values = record s { locations = s.locations ++ values }

abbrev pub with_location_at : State → ℕ → Val → State
with_location_at s l v = record s { locations = slice_set s.locations l v }

abbrev pub with_global_at : State → ℕ → Val → State
with_global_at s g v = record s { globals = slice_set s.globals g (Some v) }

abbrev pub with_closure : State → Procedure → State
with_closure s f = record s { closures = s.closures ++ f ∷ [] }

abbrev pub with_object : State → Object → State
with_object s object = record s { objects = s.objects ++ object ∷ [] }

abbrev pub with_live : State → List ℕ → State
with_live s catches = record s { live = catches }

-- a new catch, which is live
abbrev pub with_catch : State → State
with_catch s = record s { live = s.catches ∷ s.live; catches = suc s.catches }

-- ---- counters

-- so many words of heap more
abbrev pub taking : ℕ → State → State
taking words s = record s { store = record s.store { heap = s.store.heap + words } }

abbrev pub working : ℕ → State → State
working n s = record s { work = s.work + n }

-- one more evaluation or application, at depth d
abbrev pub entered : ℕ → State → State
entered d s = record s { work = s.work + 1; deepest = max s.deepest d }
