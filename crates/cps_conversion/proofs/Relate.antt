-- What a state of the unit's evaluation and a state of the program have in common.
use Rattle.std.proofs.Common.{◌≡◌, ℕ, zero, suc, ◌+◌, ◌*◌, ◌≤◌, ◌<◌, ◌⊎◌, ◌==◌, Bool, true, false, if◌then◌else◌, List, [], ◌∷◌, ◌++◌, length, Option, Some, None, slice_get, refl, sym, ap, ◌∙◌, subst, arith, inl, inr, ⊎_elim, append_assoc, append-nil, length-append}
use Rattle.std.proofs.lemmas.Bool.{eqb-true}
use Rattle.t_prim.specs.Values.{Val, Store}
use Rattle.t_meaning.specs.Environment.{Env, location_of}
use Rattle.t_meaning.specs.Costs.{is_assigned}
use Rattle.t_meaning.specs.State.{Procedure, Handler, Object, State as Made}
use Rattle.cps_ir.specs.States.{Meant, Direct, InLocation, Scope, Closure, Handler as CpsHandler, Object as CpsObject, Waiting, Back, Live, State}
use Rattle.cps_ir.specs.Giving.{meant_by}
use Rattle.cps_ir.specs.Reaches.{is_in}
use Rattle.cps_conversion.specs.Conversion.{Translation, ConvertsWithin, LamAt, is_proc}
use Rattle.cps_conversion.proofs.Zips.{Zipped, zipped_more}
use Rattle.cps_conversion.proofs.Scopes.{Extends, in_cases}

-- ---- lists

none_some : {X : Type 0} (v : X) → None ≡ Some v → ⊥
none_some v h = cc

pub get_append : {X : Type 0} (a r : List X) (i : ℕ) (v : X) → slice_get a i ≡ Some v → slice_get (a ++ r) i ≡ Some v
get_append [] r i v h = absurd (none_some v h)
get_append (y ∷ a) r zero v h = h
get_append (y ∷ a) r (suc i) v h = get_append a r i v h

pub get_seam : {X : Type 0} (a r : List X) (v : X) → slice_get (a ++ v ∷ r) (length a) ≡ Some v
get_seam [] r v = refl
get_seam (y ∷ a) r v = get_seam a r v

pub last_cases : {X : Type 0} (a : List X) (v : X) (i : ℕ) (y : X) → slice_get (a ++ v ∷ []) i ≡ Some y → (slice_get a i ≡ Some y) ⊎ (i ≡ length a) × (y ≡ v)
last_cases [] v zero y h = inr (refl, cc)
last_cases [] v (suc i) y h = absurd (none_some y h)
last_cases (z ∷ a) v zero y h = inl h
last_cases (z ∷ a) v (suc i) y h = ⊎_elim (λ e. inl e) (λ e. inr (ap suc e.0, e.1)) (last_cases a v i y h)

pub get_within : {X : Type 0} (a : List X) (i : ℕ) (v : X) → slice_get a i ≡ Some v → i < length a
get_within [] i v h = absurd (none_some v h)
get_within (y ∷ a) zero v h = omega arith
get_within (y ∷ a) (suc i) v h = let k = get_within a i v h in omega (arith, k)

pub there : {X : Type 0} (a : List X) (i : ℕ) → i < length a → (v : X) × (slice_get a i ≡ Some v)
there [] i h = absurd (omega (arith, h))
there (y ∷ a) zero h = (y, refl)
there (y ∷ a) (suc i) h = there a i (omega (arith, h))

-- ---- locations

-- For each location of the unit: none of the program, where the variable is never assigned, or the place of the program's location.
abbrev pub Kinds : Type 0
Kinds = List (Option ℕ)

pub record LocationsAs (kinds : Kinds) (locations : List Val) (cells : List Val) : Type 0 where
  pub as_many : length kinds ≡ length locations
  pub within : (l m : ℕ) → slice_get kinds l ≡ Some (Some m) → m < length cells
  pub same : (l m : ℕ) → slice_get kinds l ≡ Some (Some m) → slice_get cells m ≡ slice_get locations l
  pub apart : (l j m : ℕ) → slice_get kinds l ≡ Some (Some m) → slice_get kinds j ≡ Some (Some m) → l ≡ j

-- the locations of the unit have become more, and one of a variable that is never assigned stays; so do the procedures of globals
pub record GrownTo (x : Translation) (kinds : Kinds) (ls : List Val) (globals : List (Option Val)) (now : Kinds) (ms : List Val) (later : List (Option Val)) : Type 0 where
  pub rest : Kinds
  pub more : now ≡ kinds ++ rest
  pub kept : (l : ℕ) (v : Val) → slice_get kinds l ≡ Some None → slice_get ls l ≡ Some v → slice_get ms l ≡ Some v
  pub procs : (g : ℕ) → is_proc x.unit g ≡ true → slice_get later g ≡ slice_get globals g

abbrev pub Grown : Translation → Kinds → Made → Kinds → Made → Type 0
Grown x kinds s now r = GrownTo x kinds s.locations s.globals now r.locations r.globals

pub grown_same : (x : Translation) (kinds : Kinds) (s r : Made) → r.locations ≡ s.locations → r.globals ≡ s.globals → Grown x kinds s kinds r
grown_same x kinds s r e f = record { rest = []; more = sym (append-nil kinds); kept = λ l v k h. ap (λ a. slice_get a l) e ∙ h; procs = λ g p. ap (λ a. slice_get a g) f }

pub kind_stays : (kinds now rest : Kinds) (l : ℕ) (o : Option ℕ) → now ≡ kinds ++ rest → slice_get kinds l ≡ Some o → slice_get now l ≡ Some o
kind_stays kinds now rest l o e h = ap (λ a. slice_get a l) e ∙ get_append kinds rest l o h

pub grown_trans : (x : Translation) (a b c : Kinds) (s r u : Made) → Grown x a s b r → Grown x b r c u → Grown x a s c u
grown_trans x a b c s r u g h = record {
  rest = g.rest ++ h.rest;
  more = h.more ∙ ap (λ k. k ++ h.rest) g.more ∙ append_assoc a g.rest h.rest;
  kept = λ l v k e. h.kept l v (kind_stays a b g.rest l None g.more k) (g.kept l v k e);
  procs = λ j p. h.procs j p ∙ g.procs j p;
}

-- ---- environments

-- what a variable's kind of location is, what it holds, and what the scope means by the variable
abbrev pub EntryAs : Bool → Option (Option ℕ) → Option Val → Option Meant → Type 0
EntryAs assigned None content m = ⊥
EntryAs assigned (Some None) content m = (assigned ≡ false) × ((v : Val) × (content ≡ Some v) × (m ≡ Some (Direct v)))
EntryAs assigned (Some (Some i)) content m = (assigned ≡ true) × (m ≡ Some (InLocation i))

-- a variable that is in use has a location, which holds what the scope means by it
pub record VariableAs (x : Translation) (kinds : Kinds) (locations : List Val) (env : Env) (sc : Scope) (y : ℕ) : Type 0 where
  pub location : ℕ
  pub found : location_of env y ≡ Some location
  pub entry : EntryAs (is_assigned x.unit (record { 0 = y })) (slice_get kinds location) (slice_get locations location) (meant_by sc y)

abbrev pub EnvAs : Translation → List ℕ → Kinds → List Val → Env → Scope → Type 0
EnvAs x held kinds locations env sc = (y : ℕ) → is_in held y ≡ true → VariableAs x kinds locations env sc y

entry_grown : (assigned : Bool) (kinds now rest : Kinds) (ls ms : List Val) (l : ℕ) (m : Option Meant) (o : Option (Option ℕ)) → slice_get kinds l ≡ o → now ≡ kinds ++ rest → ((v : Val) → slice_get kinds l ≡ Some None → slice_get ls l ≡ Some v → slice_get ms l ≡ Some v) → EntryAs assigned o (slice_get ls l) m → EntryAs assigned (slice_get now l) (slice_get ms l) m
entry_grown assigned kinds now rest ls ms l m None e more kept h = absurd h
entry_grown assigned kinds now rest ls ms l m (Some None) e more kept h =
    subst (λ k. EntryAs assigned k (slice_get ms l) m) (sym (kind_stays kinds now rest l None more e)) (h.0, (h.1.0, kept h.1.0 e h.1.1, h.1.2))
entry_grown assigned kinds now rest ls ms l m (Some (Some i)) e more kept h =
    subst (λ k. EntryAs assigned k (slice_get ms l) m) (sym (kind_stays kinds now rest l (Some i) more e)) h

pub env_later : (x : Translation) (held : List ℕ) (kinds now : Kinds) (ls ms : List Val) (gs later : List (Option Val)) (env : Env) (sc : Scope) → GrownTo x kinds ls gs now ms later → EnvAs x held kinds ls env sc → EnvAs x held now ms env sc
env_later x held kinds now ls ms gs later env sc g h y e = let a = h y e in record {
  location = a.location;
  found = a.found;
  entry = entry_grown (is_assigned x.unit (record { 0 = y })) kinds now g.rest ls ms a.location (meant_by sc y) (slice_get kinds a.location) refl g.more (λ v. g.kept a.location v) a.entry;
}

pub env_grown : (x : Translation) (held : List ℕ) (kinds now : Kinds) (s r : Made) (env : Env) (sc : Scope) → Grown x kinds s now r → EnvAs x held kinds s.locations env sc → EnvAs x held now r.locations env sc
env_grown x held kinds now s r env sc g h = env_later x held kinds now s.locations r.locations s.globals r.globals env sc g h

-- one more location
pub grown_one : (x : Translation) (kinds : Kinds) (k : Option ℕ) (ls : List Val) (v : Val) (gs : List (Option Val)) → GrownTo x kinds ls gs (kinds ++ k ∷ []) (ls ++ v ∷ []) gs
grown_one x kinds k ls v gs = record { rest = k ∷ []; more = refl; kept = λ l w a e. get_append ls (v ∷ []) l w e; procs = λ g p. refl }

pub locations_direct : (kinds : Kinds) (ls cells : List Val) (v : Val) → LocationsAs kinds ls cells → LocationsAs (kinds ++ None ∷ []) (ls ++ v ∷ []) cells
locations_direct kinds ls cells v h = record {
  as_many = length-append kinds (None ∷ []) ∙ (let e = h.as_many in let f = length-append ls (v ∷ []) in omega (arith, e, f));
  within = λ l m e. h.within l m (old l m e);
  same = λ l m e. (let c = cell l m e in c.1 ∙ sym (get_append ls (v ∷ []) l c.0 c.2));
  apart = λ l j m e f. h.apart l j m (old l m e) (old j m f);
}
  where
    old : (l m : ℕ) → slice_get (kinds ++ None ∷ []) l ≡ Some (Some m) → slice_get kinds l ≡ Some (Some m)
    old l m e = ⊎_elim (λ a. a) (λ a. absurd (none_some m (sym a.1))) (last_cases kinds None l (Some m) e)

    cell : (l m : ℕ) → slice_get (kinds ++ None ∷ []) l ≡ Some (Some m) → (w : Val) × (slice_get cells m ≡ Some w) × (slice_get ls l ≡ Some w)
    cell l m e = let o = old l m e in let w = there cells m (h.within l m o) in (w.0, w.1, sym (h.same l m o) ∙ w.1)

pub locations_cell : (kinds : Kinds) (ls cells : List Val) (v : Val) → LocationsAs kinds ls cells → LocationsAs (kinds ++ Some (length cells) ∷ []) (ls ++ v ∷ []) (cells ++ v ∷ [])
locations_cell kinds ls cells v h = record {
  as_many = length-append kinds (Some (length cells) ∷ []) ∙ (let e = h.as_many in let f = length-append ls (v ∷ []) in omega (arith, e, f));
  within = λ l m e. ⊎_elim (λ a. (let b = h.within l m a in let f = length-append cells (v ∷ []) in omega (arith, b, f))) (λ a. (let e2 : m ≡ length cells = cc (a.1) in let f = length-append cells (v ∷ []) in omega (arith, e2, f))) (last_cases kinds (Some (length cells)) l (Some m) e);
  same = λ l m e. ⊎_elim
      (λ a. (let w = there cells m (h.within l m a) in get_append cells (v ∷ []) m w.0 w.1 ∙ sym (get_append ls (v ∷ []) l w.0 (sym (h.same l m a) ∙ w.1))))
      (λ a. (let e2 : m ≡ length cells = cc (a.1) in ap (slice_get (cells ++ v ∷ [])) e2 ∙ get_seam cells [] v ∙ sym (ap (slice_get (ls ++ v ∷ [])) (a.0 ∙ h.as_many) ∙ get_seam ls [] v)))
      (last_cases kinds (Some (length cells)) l (Some m) e);
  apart = λ l j m e f. ⊎_elim
      (λ a. ⊎_elim (λ b. h.apart l j m a b) (λ b. (let e2 : m ≡ length cells = cc (b.1) in let w = h.within l m a in absurd (omega (arith, e2, w)))) (last_cases kinds (Some (length cells)) j (Some m) f))
      (λ a. ⊎_elim (λ b. (let e2 : m ≡ length cells = cc (a.1) in let w = h.within j m b in absurd (omega (arith, e2, w)))) (λ b. a.0 ∙ sym b.0) (last_cases kinds (Some (length cells)) j (Some m) f))
      (last_cases kinds (Some (length cells)) l (Some m) e);
}

pub env_meant : (x : Translation) (held : List ℕ) (kinds : Kinds) (ls : List Val) (env : Env) (sc sd : Scope) → ((y : ℕ) → is_in held y ≡ true → meant_by sd y ≡ meant_by sc y) → EnvAs x held kinds ls env sc → EnvAs x held kinds ls env sd
env_meant x held kinds ls env sc sd f h y e = let a = h y e in record {
  location = a.location;
  found = a.found;
  entry = subst (λ m. EntryAs (is_assigned x.unit (record { 0 = y })) (slice_get kinds a.location) (slice_get ls a.location) m) (sym (f y e)) a.entry;
}

pub env_extends : (x : Translation) (held : List ℕ) (kinds : Kinds) (ls : List Val) (env : Env) (sc sd : Scope) → Extends held sc sd → EnvAs x held kinds ls env sc → EnvAs x held kinds ls env sd
env_extends x held kinds ls env sc sd o h = env_meant x held kinds ls env sc sd o.meant h

pub env_less : (x : Translation) (held less : List ℕ) (kinds : Kinds) (ls : List Val) (env : Env) (sc : Scope) → ((y : ℕ) → is_in less y ≡ true → is_in held y ≡ true) → EnvAs x held kinds ls env sc → EnvAs x less kinds ls env sc
env_less x held less kinds ls env sc f h y e = h y (f y e)

-- one more variable, at a location whose entry is known
pub env_more : (x : Translation) (held : List ℕ) (kinds : Kinds) (ls : List Val) (env : Env) (sc : Scope) (v l : ℕ) → EntryAs (is_assigned x.unit (record { 0 = v })) (slice_get kinds l) (slice_get ls l) (meant_by sc v) → EnvAs x held kinds ls env sc → EnvAs x (v ∷ held) kinds ls ((v, l) ∷ env) sc
env_more x held kinds ls env sc v l entry h y e = ⊎_elim here before (in_cases v y held e)
  where
    here : (v == y) ≡ true → VariableAs x kinds ls ((v, l) ∷ env) sc y
    here t = record {
      location = l;
      found = ap (λ b. if b then Some l else location_of env y) t;
      entry = subst (λ z. EntryAs (is_assigned x.unit (record { 0 = z })) (slice_get kinds l) (slice_get ls l) (meant_by sc z)) (eqb-true v y t) entry;
    }

    before : ((v == y) ≡ false) × (is_in held y ≡ true) → VariableAs x kinds ls ((v, l) ∷ env) sc y
    before t = let a = h y t.1 in record {
      location = a.location;
      found = ap (λ b. if b then Some l else location_of env y) t.0 ∙ a.found;
      entry = a.entry;
    }

-- ---- procedures and objects

module _ (x : Translation) (M : ℕ) where
  pub record ProcedureAs (kinds : Kinds) (locations : List Val) (f : Procedure) (c : Closure) : Type 0 where
    pub depth : ℕ
    pub bound : List ℕ
    pub shallow : depth < M
    pub lam_at : LamAt x (ConvertsWithin x depth) f.form bound f.params f.body c.lam
    pub env_as : EnvAs x bound kinds locations f.env c.scope

  pub record HandlerAs (kinds : Kinds) (locations : List Val) (h : Handler) (k : CpsHandler) : Type 0 where
    pub op : k.op ≡ h.op
    pub procedure_as : ProcedureAs kinds locations h.procedure k.closure

  pub record ThingAs (kinds : Kinds) (locations : List Val) (a : Object) (b : CpsObject) : Type 0 where
    pub procedure : b.procedure ≡ a.procedure
    pub handlers : Zipped (HandlerAs kinds locations) a.handlers b.handlers

  pub procedure_grown : (kinds now : Kinds) (s r : Made) → Grown x kinds s now r → (f : Procedure) (c : Closure) → ProcedureAs kinds s.locations f c → ProcedureAs now r.locations f c
  procedure_grown kinds now s r g f c a = record { depth = a.depth; bound = a.bound; shallow = a.shallow; lam_at = a.lam_at; env_as = env_grown x a.bound kinds now s r f.env c.scope g a.env_as }

  pub thing_grown : (kinds now : Kinds) (s r : Made) → Grown x kinds s now r → (a : Object) (b : CpsObject) → ThingAs kinds s.locations a b → ThingAs now r.locations a b
  thing_grown kinds now s r g a b h = record {
    procedure = h.procedure;
    handlers = zipped_more (HandlerAs kinds s.locations) (HandlerAs now r.locations) (λ u v k. record { op = k.op; procedure_as = procedure_grown kinds now s r g u.procedure v.closure k.procedure_as }) a.handlers b.handlers h.handlers;
  }

  -- ---- states

  -- the live catches among what waits, the innermost one first
  abbrev pub live_of : List Waiting → List ℕ
  live_of [] = []
  live_of (Back pending ∷ ws) = live_of ws
  live_of (Live i own ∷ ws) = i ∷ live_of ws

  -- all that is equal or related, but for the counters
  pub record World (kinds : Kinds) (store : Store) (globals : List (Option Val)) (catches : ℕ) (live : List ℕ) (locations : List Val) (closures : List Procedure) (objects : List Object) (store2 : Store) (globals2 : List (Option Val)) (catches2 : ℕ) (live2 : List ℕ) (cells : List Val) (closures2 : List Closure) (objects2 : List CpsObject) : Type 0 where
    pub store_as : store2 ≡ store
    pub globals_as : globals2 ≡ globals
    pub catches_as : catches2 ≡ catches
    pub live_as : live2 ≡ live
    pub locations_as : LocationsAs kinds locations cells
    pub closures_as : Zipped (ProcedureAs kinds locations) closures closures2
    pub objects_as : Zipped (ThingAs kinds locations) objects objects2

  abbrev pub Alike : Kinds → Made → State → Type 0
  Alike kinds s t = World kinds s.store s.globals s.catches s.live s.locations s.closures s.objects t.store t.globals t.catches (live_of t.waiting) t.locations t.closures t.objects

  -- the two are alike, and so many moves may be made yet at once
  pub record Sync (owed : ℕ) (kinds : Kinds) (s : Made) (t : State) : Type 0 where
    pub world : Alike kinds s t
    pub moves : t.moves + owed ≤ 5 * s.work
