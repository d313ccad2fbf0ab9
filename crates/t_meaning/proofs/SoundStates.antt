-- Scopes, states and their changes.
use Rattle.std.specs.Prelude.{◌==◌, is_some}
use Rattle.std.proofs.Common.{◌≡◌, ℕ, zero, suc, ◌+◌, ◌≤◌, ◌<◌, List, [], ◌∷◌, ◌++◌, length, Option, Some, None, Bool, true, false, if◌then◌else◌, slice_get, slice_set, refl, ap, ◌∙◌, subst, arith, le_trans, length-append}
use Rattle.std.proofs.lemmas.Bool.{false≢true}
use Rattle.std.proofs.lemmas.List.{length-set}
use Rattle.t_base.specs.declared.basics.Var.{Var}
use Rattle.t_base.specs.declared.shared_parts.Global1.{Global1}
use Rattle.t_core.specs.declared.forms.UnitCore.{UnitCore}
use Rattle.t_prim.specs.Values.{Val, Store}
use Rattle.made_values.specs.Made.{Made, IsLater, IsMade, AreMade, IsMadeStore}
use Rattle.made_values.proofs.Lists.{some_same, none_some, each_append, each_set, each_more}
use Rattle.made_values.proofs.Later.{made_later, values_later, store_later}
use Rattle.t_meaning.specs.Environment.{Env, location_of, extended}
use Rattle.t_meaning.specs.State.{Procedure, Handler, Object, State, with_store, with_locations, with_location_at, with_global_at, with_closure, with_object, with_live, with_catch, taking, working, entered}
use Rattle.t_meaning.specs.Soundness.{made, Covers, IsMadeEnv, CanEvaluate, CanEnter, HandlersCanEnter, IsSoundObject, AreSoundGlobals, IsSoundIn, IsSound}

-- ---- environments

bound_some : (b : Bool) (l : ℕ) (o : Option ℕ) → (b ≡ false → is_some o ≡ true) → is_some (if b then Some l else o) ≡ true
bound_some true l o h = refl
bound_some false l o h = h refl

location_more : (env : Env) (y l x : ℕ) → is_some (location_of env x) ≡ true → is_some (location_of ((y, l) ∷ env) x) ≡ true
location_more env y l x h = bound_some (y == x) l (location_of env x) (λ e. h)

extended_more : (ys : List Var) (next : ℕ) (env : Env) (x : ℕ) → is_some (location_of env x) ≡ true → is_some (location_of (extended ys next env) x) ≡ true
extended_more [] next env x h = h
extended_more (y ∷ ys) next env x h = extended_more ys (suc next) ((y.0, next) ∷ env) x (location_more env y.0 next x h)

found_first : (env : Env) (x l : ℕ) → is_some (location_of ((x, l) ∷ env) x) ≡ true
found_first env x l = by_test (x == x) same
  where
    same : (x == x) ≡ true
    same = grind arith

    by_test : (b : Bool) → b ≡ true → is_some (if b then Some l else location_of env x) ≡ true
    by_test true e = refl
    by_test false e = absurd (false≢true e)

-- variables in front of those in scope, at new locations
pub covers_extended : (ys : List Var) (next : ℕ) (scope : List Var) (env : Env) → Covers scope env → Covers (ys ++ scope) (extended ys next env)
covers_extended [] next scope env c x h = c x h
covers_extended (y ∷ ys) next scope env c x (zero, lt, e) =
    extended_more ys (suc next) ((y.0, next) ∷ env) x.0 (subst (λ (z : Var). is_some (location_of ((y.0, next) ∷ env) z.0) ≡ true) e (found_first env y.0 next))
covers_extended (y ∷ ys) next scope env c x (suc k, lt, e) = covers_extended ys (suc next) scope ((y.0, next) ∷ env) (λ z g. location_more env y.0 next z.0 (c z g)) x (k, omega (arith, lt), e)

pub env_extended : (ys : List Var) (next : ℕ) (env : Env) (w : Made) → IsMadeEnv w env → next + length ys ≤ w.locations → IsMadeEnv w (extended ys next env)
env_extended [] next env w h le = h
env_extended (y ∷ ys) next env w h le = env_extended ys (suc next) ((y.0, next) ∷ env) w (omega (arith, le), h) (omega (arith, le))

-- a variable that has a location has one that is there
pub record HasLocation (w : Made) (env : Env) (x : ℕ) : Type 0 where
  pub location : ℕ
  pub found : location_of env x ≡ Some location
  pub there : location < w.locations

pub location_there : (w : Made) (env : Env) (x : ℕ) → IsMadeEnv w env → is_some (location_of env x) ≡ true → HasLocation w env x
location_there w [] x h s = absurd (false≢true s)
location_there w (b ∷ env) x h s = by_test (b.0 == x) refl (λ q. location_there w env x h.1 q) s
  where
    by_test : (t : Bool) → (b.0 == x) ≡ t → (is_some (location_of env x) ≡ true → HasLocation w env x) → is_some (if t then Some b.1 else location_of env x) ≡ true → HasLocation w (b ∷ env) x
    by_test true e go q = record { location = b.1; found = ap (λ z. if z then Some b.1 else location_of env x) e; there = h.0 }
    by_test false e go q = let r : HasLocation w env x = go q in record { location = r.location; found = ap (λ z. if z then Some b.1 else location_of env x) e ∙ r.found; there = r.there }

-- ---- where more is made

module _ (a b : Made) (more : IsLater a b) where
  pub env_later : (env : Env) → IsMadeEnv a env → IsMadeEnv b env
  env_later env h = each_more (λ (x : ℕ × ℕ). x.1 < a.locations) (λ (x : ℕ × ℕ). x.1 < b.locations) env (λ x k. le_trans k more.locations) h

  module _ (u : UnitCore) where
    pub evaluate_later : (form node : ℕ) (env : Env) → CanEvaluate u a form node env → CanEvaluate u b form node env
    evaluate_later form node env h = record { scope = h.scope; at = h.at; covers = h.covers; locations = env_later env h.locations }

    pub enter_later : (f : Procedure) → CanEnter u a f → CanEnter u b f
    enter_later f h = record { scope = h.scope; at = h.at; covers = h.covers; locations = env_later f.env h.locations }

    pub handlers_later : (hs : List Handler) → HandlersCanEnter u a hs → HandlersCanEnter u b hs
    handlers_later hs h = each_more (λ (x : Handler). CanEnter u a x.procedure) (λ (x : Handler). CanEnter u b x.procedure) hs (λ x k. enter_later x.procedure k) h

    globals_later : (gs : List Global1) (os : List (Option Val)) → AreSoundGlobals a gs os → AreSoundGlobals b gs os
    globals_later [] [] h = tt
    globals_later [] (o ∷ os) h = absurd h
    globals_later (g ∷ gs) [] h = absurd h
    globals_later (g ∷ gs) (None ∷ os) h = (h.0, globals_later gs os h.1)
    globals_later (g ∷ gs) (Some v ∷ os) h = (made_later a b more v h.0, globals_later gs os h.1)

    pub sound_later : (s : State) → IsSoundIn u a s → IsSoundIn u b s
    sound_later s h = record {
      store = store_later a b more s.store h.store;
      locations = values_later a b more s.locations h.locations;
      closures = each_more (CanEnter u a) (CanEnter u b) s.closures enter_later h.closures;
      objects = each_more (IsSoundObject u a) (IsSoundObject u b) s.objects (λ o k. record { procedure = made_later a b more o.procedure k.procedure; handlers = handlers_later o.handlers k.handlers }) h.objects;
      globals = globals_later u.shared.globals.items s.globals h.globals;
    }

-- ---- changes

module _ (u : UnitCore) where
  pub live_sound : (w : Made) (s : State) (live : List ℕ) → IsSoundIn u w s → IsSoundIn u w (with_live s live)
  live_sound w s live h = record { store = h.store; locations = h.locations; closures = h.closures; objects = h.objects; globals = h.globals }

  pub catch_sound : (w : Made) (s : State) → IsSoundIn u w s → IsSoundIn u w (with_catch s)
  catch_sound w s h = record { store = h.store; locations = h.locations; closures = h.closures; objects = h.objects; globals = h.globals }

  pub working_sound : (w : Made) (n : ℕ) (s : State) → IsSoundIn u w s → IsSoundIn u w (working n s)
  working_sound w n s h = record { store = h.store; locations = h.locations; closures = h.closures; objects = h.objects; globals = h.globals }

  pub entered_sound : (w : Made) (d : ℕ) (s : State) → IsSoundIn u w s → IsSoundIn u w (entered d s)
  entered_sound w d s h = record { store = h.store; locations = h.locations; closures = h.closures; objects = h.objects; globals = h.globals }

  pub taking_sound : (w : Made) (n : ℕ) (s : State) → IsSoundIn u w s → IsSoundIn u w (taking n s)
  taking_sound w n s h = record { store = record { pairs = (h.store).pairs; vectors = (h.store).vectors }; locations = h.locations; closures = h.closures; objects = h.objects; globals = h.globals }

  pub store_sound : (w : Made) (s : State) (t : Store) → IsSoundIn u w s → IsMadeStore w t → IsSoundIn u w (with_store s t)
  store_sound w s t h k = record { store = k; locations = h.locations; closures = h.closures; objects = h.objects; globals = h.globals }

  -- values at new locations
  pub locations_more : (s : State) (values : List Val) → IsLater (made s) (made (with_locations s values))
  locations_more s values = record { closures = omega arith; objects = omega arith; locations = omega (arith, length-append s.locations values) }

  pub locations_sound : (s : State) (values : List Val) → IsSound u s → AreMade (made s) values → IsSound u (with_locations s values)
  locations_sound s values h vs =
      let b = made (with_locations s values) in
      let k = sound_later (made s) b (locations_more s values) u s h in
      record { store = k.store; locations = each_append (IsMade b) s.locations values k.locations (values_later (made s) b (locations_more s values) values vs); closures = k.closures; objects = k.objects; globals = k.globals }

  -- a value at a location that is there
  pub location_more_at : (s : State) (l : ℕ) (v : Val) → IsLater (made s) (made (with_location_at s l v))
  location_more_at s l v = record { closures = omega arith; objects = omega arith; locations = omega (arith, length-set s.locations l v) }

  pub location_sound : (s : State) (l : ℕ) (v : Val) → IsSound u s → IsMade (made s) v → IsSound u (with_location_at s l v)
  location_sound s l v h x =
      let b = made (with_location_at s l v) in
      let k = sound_later (made s) b (location_more_at s l v) u s h in
      record { store = k.store; locations = each_set (IsMade b) s.locations l v k.locations (made_later (made s) b (location_more_at s l v) v x); closures = k.closures; objects = k.objects; globals = k.globals }

  -- a closure
  pub closure_more : (s : State) (f : Procedure) → IsLater (made s) (made (with_closure s f))
  closure_more s f = record { closures = omega (arith, length-append s.closures (f ∷ [])); objects = omega arith; locations = omega arith }

  pub closure_sound : (s : State) (f : Procedure) → IsSound u s → CanEnter u (made s) f → IsSound u (with_closure s f)
  closure_sound s f h x =
      let b = made (with_closure s f) in
      let k = sound_later (made s) b (closure_more s f) u s h in
      record { store = k.store; locations = k.locations; closures = each_append (CanEnter u b) s.closures (f ∷ []) k.closures (enter_later (made s) b (closure_more s f) u f x, tt); objects = k.objects; globals = k.globals }

  -- an object
  pub object_more : (s : State) (o : Object) → IsLater (made s) (made (with_object s o))
  object_more s o = record { closures = omega arith; objects = omega (arith, length-append s.objects (o ∷ [])); locations = omega arith }

  pub object_sound : (s : State) (o : Object) → IsSound u s → IsSoundObject u (made s) o → IsSound u (with_object s o)
  object_sound s o h x =
      let b = made (with_object s o) in
      let more = object_more s o in
      let k = sound_later (made s) b more u s h in
      record {
        store = k.store;
        locations = k.locations;
        closures = k.closures;
        objects =
            each_append (IsSoundObject u b) s.objects (o ∷ []) k.objects
            (record { procedure = made_later (made s) b more o.procedure x.procedure; handlers = handlers_later (made s) b more u o.handlers x.handlers }, tt);
        globals = k.globals;
      }

  -- a global's value
  globals_set : (w : Made) (gs : List Global1) (os : List (Option Val)) (g : ℕ) (v : Val) → AreSoundGlobals w gs os → IsMade w v → AreSoundGlobals w gs (slice_set os g (Some v))
  globals_set w [] [] g v h k = tt
  globals_set w [] (o ∷ os) g v h k = absurd h
  globals_set w (x ∷ gs) [] g v h k = absurd h
  globals_set w (x ∷ gs) (None ∷ os) zero v h k = (k, h.1)
  globals_set w (x ∷ gs) (Some z ∷ os) zero v h k = (k, h.1)
  globals_set w (x ∷ gs) (None ∷ os) (suc g) v h k = (h.0, globals_set w gs os g v h.1 k)
  globals_set w (x ∷ gs) (Some z ∷ os) (suc g) v h k = (h.0, globals_set w gs os g v h.1 k)

  pub global_sound : (w : Made) (s : State) (g : ℕ) (v : Val) → IsSoundIn u w s → IsMade w v → IsSoundIn u w (with_global_at s g v)
  global_sound w s g v h k = record { store = h.store; locations = h.locations; closures = h.closures; objects = h.objects; globals = globals_set w u.shared.globals.items s.globals g v h.globals k }

-- a global is there, with a value or without
pub record GlobalThere (w : Made) (os : List (Option Val)) (g : ℕ) : Type 0 where
  pub value : Option Val
  pub found : slice_get os g ≡ Some value
  pub valid : (v : Val) → value ≡ Some v → IsMade w v

pub global_there : (w : Made) (gs : List Global1) (os : List (Option Val)) (g : ℕ) → AreSoundGlobals w gs os → g < length gs → GlobalThere w os g
global_there w [] os g h lt = absurd (omega (arith, lt))
global_there w (x ∷ gs) [] g h lt = absurd h
global_there w (x ∷ gs) (None ∷ os) zero h lt = record { value = None; found = refl; valid = λ v e. none_some v e }
global_there w (x ∷ gs) (Some v ∷ os) zero h lt = record { value = Some v; found = refl; valid = λ z e. subst (IsMade w) (some_same v z e) h.0 }
global_there w (x ∷ gs) (None ∷ os) (suc g) h lt = let r = global_there w gs os g h.1 (omega (arith, lt)) in record { value = r.value; found = r.found; valid = r.valid }
global_there w (x ∷ gs) (Some v ∷ os) (suc g) h lt = let r = global_there w gs os g h.1 (omega (arith, lt)) in record { value = r.value; found = r.found; valid = r.valid }
