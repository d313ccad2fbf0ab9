-- LABELS. No closure is related while its location is still empty: the state is compared again behind all of them.
use Rattle.std.proofs.Common.{◌≡◌, ℕ, zero, suc, ◌+◌, ◌≤◌, ◌<◌, Bool, true, false, if◌then◌else◌, List, [], ◌∷◌, ◌++◌, length, map, replicate, sum_by, Option, Some, None, option_and_then, slice_get, slice_set, refl, sym, ap, ◌∙◌, subst, arith, inl, inr, ⊎_elim, append_assoc, append-nil, length-append}
use Rattle.std.proofs.lemmas.Bool.{true≢false}
use Rattle.std.proofs.lemmas.List.Sums.{sum_by-cons}
use Rattle.t_base.specs.declared.basics.Var.{Var}
use Rattle.t_base.specs.declared.shared_parts.Const.TheVariants as Constant
use Rattle.t_prim.specs.Values.{Val, Store, NilV, ClosureV}
use Rattle.t_core.specs.declared.forms.Core.{Core}
use Rattle.t_core.specs.declared.forms.Core.TheVariants as Node
use Rattle.t_meaning.specs.Programs.{Marking, node_at}
use Rattle.t_meaning.specs.Environment.{Env, extended}
use Rattle.t_meaning.specs.Costs.{is_assigned, binding_words, lambda_words}
use Rattle.t_meaning.specs.State.{Procedure, State as Made, with_closure, with_location_at as location_set, taking as taken, entered}
use Rattle.t_meaning.specs.Outcomes.{Outcome, Context, Doing, under, with_value, last}
use Rattle.t_meaning.specs.Bindings.{binding, filling}
use Rattle.t_meaning.specs.Expressions.{evaluate}
use Rattle.t_meaning.specs.Performing.{perform}
use Rattle.cps_ir.specs.declared.args.Arg.TheVariants as Argument
use Rattle.cps_ir.specs.declared.terms.Cont.TheVariants as Continuation
use Rattle.cps_ir.specs.declared.terms.Term.TheVariants as Step
use Rattle.cps_ir.specs.States.{Marking as CpsMarking, Meant, Direct, InLocation, Bound, Scope, State, At, going, counting, taking, with_location, with_location_at, with_closures}
use Rattle.cps_ir.specs.Giving.{or_unbound as cps_unbound, meant_by, location_of as place_of, lam_words, located, way, give}
use Rattle.cps_ir.specs.Running.{new_closures, closures_of}
use Rattle.cps_ir.specs.Reaches.{is_in}
use Rattle.cps_conversion.specs.Conversion.{Translation, ConvertsWithin, adding, variables, Assigned, unset, adding_assigned, Names, Sets, LambdaNode, LambdaNodes, LabelsAs}
use Rattle.cps_conversion.proofs.Zips.{Zipped, zipped_more, zipped_append, zipped_length}
use Rattle.cps_conversion.proofs.Scopes.{Extends, extends_same, extends_trans, extends_less, extends_bound, in_here, in_more, in_adding, meant_here, total, waits_more}
use Rattle.cps_conversion.proofs.Relate.{Kinds, Grown, grown_trans, get_append, get_seam, get_within, LocationsAs, locations_direct, locations_cell, EntryAs, EnvAs, env_later, env_extends, env_more, ProcedureAs, ThingAs, procedure_grown, thing_grown, live_of, Sync}
use Rattle.cps_conversion.proofs.Paths.{Runs, gone_none, runs_step, runs_since, runs_wider}
use Rattle.cps_conversion.proofs.Claims.{before, behind, Facts, Given, Away, Claims, step_at, ArgMeans, arg_means, means_later}
use Rattle.cps_conversion.proofs.Operands.{given_plain}
use Rattle.cps_conversion.proofs.Spots.{Spot, at, Done, Goal, part, stays, now_waits, still_waits, deeper_last, given_over}
use Rattle.cps_conversion.proofs.Atoms.{lambda_words_as}
use Rattle.cps_conversion.proofs.Terms.{get_set_other}
use Rattle.cps_conversion.proofs.Sets.{get_set_same, locations_set}
use Rattle.cps_conversion.proofs.Catches.{zero_or}
use Rattle.cps_conversion.proofs.Lets.{words_most, bound_state, adding_inside}
use Rattle.cps_conversion.proofs.Applying.{naming, naming_all, naming_extends, naming_means}

-- ---- lists

-- values put into a list, from a place on
abbrev pub fill : List Val → ℕ → List Val → List Val
fill ls l [] = ls
fill ls l (v ∷ vs) = fill (slice_set ls l v) (suc l) vs

-- these items stand in the list, from a place on
abbrev pub Stretch : {X : Type 0} → List X → ℕ → List X → Type 0
Stretch all l [] = Unit {0}
Stretch all l (x ∷ xs) = (slice_get all l ≡ Some x) × Stretch all (suc l) xs

stretch_append : {X : Type 0} (a xs : List X) (l : ℕ) → l ≡ length a → Stretch (a ++ xs) l xs
stretch_append a [] l e = tt
stretch_append a (x ∷ xs) l e = (
  ap (slice_get (a ++ x ∷ xs)) e ∙ get_seam a xs x,
  subst (λ all. Stretch all (suc l) xs) (append_assoc a (x ∷ []) xs) (stretch_append (a ++ x ∷ []) xs (suc l) (let f = length-append a (x ∷ []) in omega (arith, e, f))),
)

set_length : {X : Type 0} (xs : List X) (i : ℕ) (v : X) → length (slice_set xs i v) ≡ length xs
set_length [] i v = refl
set_length (a ∷ xs) zero v = refl
set_length (a ∷ xs) (suc i) v = ap suc (set_length xs i v)

fill_length : (ls : List Val) (l : ℕ) (vs : List Val) → length (fill ls l vs) ≡ length ls
fill_length ls l [] = refl
fill_length ls l (v ∷ vs) = fill_length (slice_set ls l v) (suc l) vs ∙ set_length ls l v

fill_before : (ls : List Val) (l : ℕ) (vs : List Val) (j : ℕ) → j < l → slice_get (fill ls l vs) j ≡ slice_get ls j
fill_before ls l [] j h = refl
fill_before ls l (v ∷ vs) j h = fill_before (slice_set ls l v) (suc l) vs j (omega (arith, h)) ∙ get_set_other ls l j v (λ e. omega (arith, e, h))

fill_stretch : (ls : List Val) (l : ℕ) (vs : List Val) → l + length vs ≤ length ls → Stretch (fill ls l vs) l vs
fill_stretch ls l [] h = tt
fill_stretch ls l (v ∷ vs) h = (
  fill_before (slice_set ls l v) (suc l) vs l (omega arith) ∙ get_set_same ls l v (omega (arith, h)),
  fill_stretch (slice_set ls l v) (suc l) vs (let f = set_length ls l v in omega (arith, h, f)),
)

closures_alike : (b : ℕ) (xs ys : List ℕ) → length xs ≡ length ys → new_closures b xs ≡ new_closures b ys
closures_alike b [] [] e = refl
closures_alike b (x ∷ xs) (y ∷ ys) e = ap (λ l. ClosureV b ∷ l) (closures_alike (suc b) xs ys (omega (arith, e)))
closures_alike b [] (y ∷ ys) e = absurd (omega (arith, e))
closures_alike b (x ∷ xs) [] e = absurd (omega (arith, e))

closures_length : (b : ℕ) (xs : List ℕ) → length (new_closures b xs) ≡ length xs
closures_length b [] = refl
closures_length b (x ∷ xs) = ap suc (closures_length (suc b) xs)

-- a location that the program has not
locations_unseen : (kinds : Kinds) (ls cells : List Val) (l : ℕ) (v : Val) → slice_get kinds l ≡ Some None → LocationsAs kinds ls cells → LocationsAs kinds (slice_set ls l v) cells
locations_unseen kinds ls cells l v here h = record {
  as_many = h.as_many ∙ sym (set_length ls l v);
  within = h.within;
  same = λ j m e. h.same j m e ∙ sym (get_set_other ls l j v (other j m e));
  apart = h.apart;
}
  where
    differ : (m : ℕ) (a : Option (Option ℕ)) → a ≡ Some None → a ≡ Some (Some m) → ⊥
    differ m a e f = cc

    other : (j m : ℕ) → slice_get kinds j ≡ Some (Some m) → l ≡ j → ⊥
    other j m e f = differ m (slice_get kinds l) here (ap (slice_get kinds) f ∙ e)

-- ---- what the unit does

-- the procedure of a LAMBDA
abbrev procedure_at : ℕ → Env → Option Core → Procedure
procedure_at form env (Some (Node.Lambda params body)) = record { params = params; form = form; body = body; env = env }
procedure_at form env _ = record { params = []; form = form; body = 0; env = env }

module _ (x : Translation) (M : ℕ) (marks : Marking) (escapes : CpsMarking) where
  abbrev procedures : Context → List ℕ → List Procedure
  procedures c keys = map (λ k. procedure_at c.form c.env (node_at x.unit c.form k)) keys

  abbrev words : Context → List ℕ → ℕ
  words c keys = sum_by (lambda_words (before x M marks escapes) c.form) keys

  -- one LAMBDA more is in its location
  abbrev filled_one : ℕ → Context → ℕ → ℕ → Made → Made
  filled_one d c l k s = location_set (taken (lambda_words (before x M marks escapes) c.form k) (with_closure (entered (suc d) s) (procedure_at c.form c.env (node_at x.unit c.form k)))) l (ClosureV (length s.closures))

  abbrev filled : ℕ → Context → ℕ → List ℕ → Made → Made
  filled d c l [] s = s
  filled d c l (k ∷ ks) s = filled d c (suc l) ks (filled_one d c l k s)

  lambda_closes : (does : Doing) (d key : ℕ) (c : Context) (bound : List ℕ) (m l : ℕ) (s : Made) (go : Made → Val → Outcome) (o : Option Core) → LambdaNode x (ConvertsWithin x m) c.form bound key o l → with_value (evaluate (before x M marks escapes) does d key c o s) go ≡ go (taken (lambda_words (before x M marks escapes) c.form key) (with_closure s (procedure_at c.form c.env o))) (ClosureV (length s.closures))
  lambda_closes does d key c bound m l s go None h = absurd h
  lambda_closes does d key c bound m l s go (Some (Node.Lambda params body)) h = refl
  lambda_closes does d key c bound m l s go (Some (Node.Const k)) h = absurd h
  lambda_closes does d key c bound m l s go (Some (Node.Local v)) h = absurd h
  lambda_closes does d key c bound m l s go (Some (Node.Global g)) h = absurd h
  lambda_closes does d key c bound m l s go (Some (Node.Builtin b)) h = absurd h
  lambda_closes does d key c bound m l s go (Some (Node.Op k)) h = absurd h
  lambda_closes does d key c bound m l s go (Some (Node.If test first second)) h = absurd h
  lambda_closes does d key c bound m l s go (Some (Node.Block items)) h = absurd h
  lambda_closes does d key c bound m l s go (Some (Node.Let vars values body)) h = absurd h
  lambda_closes does d key c bound m l s go (Some (Node.Labels vars lambdas body)) h = absurd h
  lambda_closes does d key c bound m l s go (Some (Node.SetLocal v value)) h = absurd h
  lambda_closes does d key c bound m l s go (Some (Node.SetGlobal g value)) h = absurd h
  lambda_closes does d key c bound m l s go (Some (Node.Catch v body)) h = absurd h
  lambda_closes does d key c bound m l s go (Some (Node.Object proc methods)) h = absurd h
  lambda_closes does d key c bound m l s go (Some (Node.Call operator operands tail)) h = absurd h
  lambda_closes does d key c bound m l s go (Some (Node.Prim b operands)) h = absurd h

  filling_is : (j d : ℕ) (c : Context) (bound : List ℕ) (m l : ℕ) (keys lams : List ℕ) (s : Made) (rest : Made → Outcome) → LambdaNodes x (ConvertsWithin x m) c.form bound keys lams → filling (perform (before x M marks escapes) (suc j)) d c l keys s rest ≡ rest (filled d c l keys s)
  filling_is j d c bound m l [] [] s rest h = refl
  filling_is j d c bound m l (k ∷ ks) (i ∷ lams) s rest h =
      lambda_closes (perform (before x M marks escapes) j) (suc d) k (record c { tail = false }) bound m i (entered (suc d) s) (λ t v. filling (perform (before x M marks escapes) (suc j)) d c (suc l) ks (location_set t l v) rest) (node_at x.unit c.form k) h.0
      ∙ filling_is j d c bound m (suc l) ks lams (filled_one d c l k s) rest h.1
  filling_is j d c bound m l [] (i ∷ lams) s rest h = absurd h
  filling_is j d c bound m l (k ∷ ks) [] s rest h = absurd h

  record FilledAs (c : Context) (l : ℕ) (keys : List ℕ) (s q : Made) : Type 0 where
    store : q.store ≡ record s.store { heap = s.store.heap + words c keys }
    locations : q.locations ≡ fill s.locations l (new_closures (length s.closures) keys)
    closures : q.closures ≡ s.closures ++ procedures c keys
    objects : q.objects ≡ s.objects
    globals : q.globals ≡ s.globals
    live : q.live ≡ s.live
    catches : q.catches ≡ s.catches
    work : q.work ≡ s.work + length keys
    deep : s.deepest ≤ q.deepest

  filled_as : (d : ℕ) (c : Context) (l : ℕ) (keys : List ℕ) (s : Made) → FilledAs c l keys s (filled d c l keys s)
  filled_as d c l [] s = record {
    store = ap {A = ℕ} (λ i. record s.store { heap = i }) (let e : s.store.heap ≡ s.store.heap + 0 = omega arith in e);
    locations = refl;
    closures = sym (append-nil s.closures);
    objects = refl;
    globals = refl;
    live = refl;
    catches = refl;
    work = omega arith;
    deep = omega arith;
  }
  filled_as d c l (k ∷ ks) s =
      let h = filled_as d c (suc l) ks (filled_one d c l k s) in
      let f = procedure_at c.form c.env (node_at x.unit c.form k) in
      let w = lambda_words (before x M marks escapes) c.form k in
      let sum = sum_by-cons (lambda_words (before x M marks escapes) c.form) k ks in
      let count : length (s.closures ++ f ∷ []) ≡ suc (length s.closures) = (let e = length-append s.closures (f ∷ []) in omega (arith, e)) in
      record {
        store = h.store ∙ ap {A = ℕ} (λ i. record s.store { heap = i }) (let e : (s.store.heap + w) + words c ks ≡ s.store.heap + words c (k ∷ ks) = omega (arith, sum) in e);
        locations = h.locations ∙ ap (λ i. fill (slice_set s.locations l (ClosureV (length s.closures))) (suc l) (new_closures i ks)) count;
        closures = h.closures ∙ append_assoc s.closures (f ∷ []) (procedures c ks);
        objects = h.objects;
        globals = h.globals;
        live = h.live;
        catches = h.catches;
        work = (let e = h.work in omega (arith, e));
        deep = (let e = h.deep in omega (arith, e));
      }

-- ---- what the program does

-- a variable's location in the program, where it has one
abbrev SlotAs : Bool → Option ℕ → Option Meant → Type 0
SlotAs assigned None m = assigned ≡ false
SlotAs assigned (Some i) m = (assigned ≡ true) × (m ≡ Some (InLocation i))

module _ (x : Translation) where
  abbrev Slots : List Var → Kinds → Scope → Type 0
  Slots [] [] sc = Unit {0}
  Slots (v ∷ vars) (k ∷ slots) sc = SlotAs (is_assigned x.unit v) k (meant_by sc v.0) × Slots vars slots sc
  Slots _ _ sc = ⊥

  in_assigned : (vars : List Var) (y : ℕ) (held : List ℕ) → is_in held y ≡ true → is_in (adding_assigned x.unit vars held) y ≡ true
  in_assigned [] y held e = e
  in_assigned (v ∷ vars) y held e = in_assigned vars y (if is_assigned x.unit v then v.0 ∷ held else held) (by_test (is_assigned x.unit v))
    where
      by_test : (b : Bool) → is_in (if b then v.0 ∷ held else held) y ≡ true
      by_test true = in_more v.0 y held e
      by_test false = e

  -- the slots of variables that stay as they are
  slots_later : (vars : List Var) (slots : Kinds) (held : List ℕ) (sc sd : Scope) → ((y : ℕ) → is_in (adding_assigned x.unit vars held) y ≡ true → meant_by sd y ≡ meant_by sc y) → Slots vars slots sc → Slots vars slots sd
  slots_later [] [] held sc sd f h = tt
  slots_later (v ∷ vars) (None ∷ slots) held sc sd f h = (h.0, slots_later vars slots (if is_assigned x.unit v then v.0 ∷ held else held) sc sd f h.1)
  slots_later (v ∷ vars) (Some i ∷ slots) held sc sd f h = (
    (h.0.0, f v.0 (in_assigned vars v.0 (if is_assigned x.unit v then v.0 ∷ held else held) (subst (λ b. is_in (if b then v.0 ∷ held else held) v.0 ≡ true) (sym h.0.0) (in_here v.0 held))) ∙ h.0.1),
    slots_later vars slots (if is_assigned x.unit v then v.0 ∷ held else held) sc sd f h.1,
  )
  slots_later [] (k ∷ slots) held sc sd f h = absurd h
  slots_later (v ∷ vars) [] held sc sd f h = absurd h

module _ (x : Translation) (M : ℕ) (marks : Marking) (escapes : CpsMarking) (facts : Facts x M marks escapes) where
  -- the variables in scope, where each has its slot and its value
  env_all : (vars names : List Var) (slots : Kinds) (vals : List Val) (kinds : Kinds) (ls : List Val) (bnd inner : List ℕ) (globals : List (Option Val)) (env : Env) (next : ℕ) (sc : Scope) → EnvAs x bnd kinds ls env sc → Stretch kinds next slots → Stretch ls next vals → Slots x vars slots sc → Names x.unit vars names → Zipped (ArgMeans x M marks escapes inner globals sc) (variables names) vals → EnvAs x (adding vars bnd) kinds ls (extended vars next env) sc
  env_all [] [] [] [] kinds ls bnd inner globals env next sc ea ks vs so na me = ea
  env_all (v ∷ vars) (y ∷ names) (None ∷ slots) (w ∷ vals) kinds ls bnd inner globals env next sc ea ks vs so na me =
      let same : y ≡ v = ⊎_elim (λ e. absurd (true≢false (sym e ∙ so.0))) (λ e. e) na.0 in
      env_all vars names slots vals kinds ls (v.0 ∷ bnd) inner globals ((v.0, next) ∷ env) (suc next) sc
      (env_more x bnd kinds ls env sc v.0 next (subst (λ k. EntryAs (is_assigned x.unit v) k (slice_get ls next) (meant_by sc v.0)) (sym ks.0) (so.0, (w, vs.0, ap (λ z. meant_by sc z.0) (sym same) ∙ me.0.1))) ea) ks.1 vs.1 so.1 na.1 me.1
  env_all (v ∷ vars) (y ∷ names) (Some i ∷ slots) (w ∷ vals) kinds ls bnd inner globals env next sc ea ks vs so na me =
      env_all vars names slots vals kinds ls (v.0 ∷ bnd) inner globals ((v.0, next) ∷ env) (suc next) sc
      (env_more x bnd kinds ls env sc v.0 next (subst (λ k. EntryAs (is_assigned x.unit v) k (slice_get ls next) (meant_by sc v.0)) (sym ks.0) so.0) ea) ks.1 vs.1 so.1 na.1 me.1
  env_all [] (y ∷ names) slots vals kinds ls bnd inner globals env next sc ea ks vs so na me = absurd na
  env_all [] [] (k ∷ slots) vals kinds ls bnd inner globals env next sc ea ks vs so na me = absurd so
  env_all [] [] [] (w ∷ vals) kinds ls bnd inner globals env next sc ea ks vs so na me = absurd me
  env_all (v ∷ vars) [] slots vals kinds ls bnd inner globals env next sc ea ks vs so na me = absurd na
  env_all (v ∷ vars) (y ∷ names) [] vals kinds ls bnd inner globals env next sc ea ks vs so na me = absurd so
  env_all (v ∷ vars) (y ∷ names) (None ∷ slots) [] kinds ls bnd inner globals env next sc ea ks vs so na me = absurd me
  env_all (v ∷ vars) (y ∷ names) (Some i ∷ slots) [] kinds ls bnd inner globals env next sc ea ks vs so na me = absurd me

  one_words : (v : Var) (vars : List Var) (b : Bool) → is_assigned x.unit v ≡ b → binding_words x.unit (v ∷ vars) ≡ (if b then 2 else 0) + binding_words x.unit vars
  one_words v vars b e = sum_by-cons (λ y. if is_assigned x.unit y then 2 else 0) v vars ∙ ap (λ c. (if c then 2 else 0) + binding_words x.unit vars) e

  -- what has come of the Gives of Nil
  record Unset (held : List ℕ) (kinds : Kinds) (ls : List Val) (vars : List Var) (sc : Scope) (u : State) (se : Scope) (v : State) (slots : Kinds) : Type 0 where
    over : Extends held sc se
    locations_as : LocationsAs (kinds ++ slots) (ls ++ replicate (length vars) NilV) v.locations
    slots_as : Slots x vars slots se
    store_as : v.store ≡ record u.store { heap = u.store.heap + binding_words x.unit vars }
    moves_as : v.moves ≡ u.moves + binding_words x.unit vars
    waiting_as : v.waiting ≡ u.waiting
    closures_as : v.closures ≡ u.closures
    objects_as : v.objects ≡ u.objects
    globals_as : v.globals ≡ u.globals
    catches_as : v.catches ≡ u.catches

  -- what has come of the Sets
  record Reset (inner : List ℕ) (kinds : Kinds) (ls : List Val) (l : ℕ) (vars : List Var) (vals : List Val) (sc : Scope) (u : State) (se : Scope) (v : State) : Type 0 where
    over : Extends inner sc se
    locations_as : LocationsAs kinds (fill ls l vals) v.locations
    store_as : v.store ≡ u.store
    moves_as : v.moves ≡ u.moves + binding_words x.unit vars
    waiting_as : v.waiting ≡ u.waiting
    closures_as : v.closures ≡ u.closures
    objects_as : v.objects ≡ u.objects
    globals_as : v.globals ≡ u.globals
    catches_as : v.catches ≡ u.catches

  module _ (Away' : Made → ℕ → Val → State → Type 0) (m n : ℕ) (r : Made) (o : Outcome) (Done' : Made → Val → State → Type 0) (next : ℕ) where
    unset_run : (vars : List Var) (held : List ℕ) (kinds : Kinds) (ls : List Val) (sc : Scope) (u : State) (place : ℕ) → Assigned x held vars (map (unset x.unit) vars) place next → LocationsAs kinds ls u.locations → total u.waiting ≤ r.deepest
        → ((se : Scope) (v : State) (slots : Kinds) → Unset held kinds ls vars sc u se v slots → Runs (behind x M marks escapes) M Away' m n (going (At next se) v) r o Done')
        → Runs (behind x M marks escapes) M Away' m n (going (At place sc) u) r o Done'
    unset_run [] held kinds ls sc u place h la low cont =
        subst (λ z. Runs (behind x M marks escapes) M Away' m n (going (At z sc) u) r o Done') h
        (cont sc u [] (record {
          over = extends_same held sc;
          locations_as = subst (λ k. LocationsAs k (ls ++ []) u.locations) (sym (append-nil kinds)) (subst (λ a. LocationsAs kinds a u.locations) (sym (append-nil ls)) la);
          slots_as = tt;
          store_as = ap {A = ℕ} (λ i. record u.store { heap = i }) (let e : u.store.heap ≡ u.store.heap + 0 = omega arith in e);
          moves_as = omega arith;
          waiting_as = refl;
          closures_as = refl;
          objects_as = refl;
          globals_as = refl;
          catches_as = refl;
        }))
    unset_run (v ∷ vars) held kinds ls sc u place (inl h) la low cont =
        unset_run vars held (kinds ++ None ∷ []) (ls ++ NilV ∷ []) sc u place h.2 (locations_direct kinds ls u.locations NilV la) low
        (λ se t slots k. cont se t (None ∷ slots) (record {
          over = k.over;
          locations_as = subst (λ a. LocationsAs a (ls ++ NilV ∷ replicate (length vars) NilV) t.locations) (append_assoc kinds (None ∷ []) slots) (subst (λ a. LocationsAs ((kinds ++ None ∷ []) ++ slots) a t.locations) (append_assoc ls (NilV ∷ []) (replicate (length vars) NilV)) k.locations_as);
          slots_as = (h.0, k.slots_as);
          store_as = k.store_as ∙ ap {A = ℕ} (λ i. record u.store { heap = u.store.heap + i }) (sym (one_words v vars false h.0 ∙ (let e : 0 + binding_words x.unit vars ≡ binding_words x.unit vars = omega arith in e)));
          moves_as = (let f = one_words v vars false h.0 in omega (arith, k.moves_as, f));
          waiting_as = k.waiting_as;
          closures_as = k.closures_as;
          objects_as = k.objects_as;
          globals_as = k.globals_as;
          catches_as = k.catches_as;
        }))
    unset_run (v ∷ vars) held kinds ls sc u place (inr h) la low cont =
        let u1 = counting 2 (going (At place sc) u) in
        let i = length u.locations in
        let sd : Scope = Bound v.0 (InLocation i) ∷ sc in
        let u2 = taking 2 (with_location u1 NilV) in
        let over = extends_bound held v.0 (InLocation i) sc h.1 in
        let nil : unset x.unit v ≡ Argument.Const Constant.Nil = ap (λ b. if b then Argument.Const Constant.Nil else Argument.Var v) h.0 in
        runs_step (behind x M marks escapes) M Away' m n (going (At place sc) u) (going (At h.2.0 sd) u2) r o Done'
        (step_at x M marks escapes place sc u (Step.Give (Continuation.Lam v h.2.0) (unset x.unit v)) h.2.1
        ∙ arg_means x M marks escapes held sc (unset x.unit v) NilV u1 (λ t z. give (behind x M marks escapes) sc (Continuation.Lam v h.2.0) z t) (subst (λ a. ArgMeans x M marks escapes held u.globals sc a NilV) (sym nil) refl)
        ∙ ap (λ b. if b then located v.0 NilV sc u1 (λ scope t. going (At h.2.0 scope) t) else going (At h.2.0 (Bound v.0 (Direct NilV) ∷ sc)) u1) (facts.assigned v ∙ h.0))
        low
        (unset_run vars (v.0 ∷ held) (kinds ++ Some i ∷ []) (ls ++ NilV ∷ []) sd u2 h.2.0 h.2.2 (locations_cell kinds ls u.locations NilV la) low
        (λ se t slots k. cont se t (Some i ∷ slots) (record {
          over = extends_trans held sc sd se over (extends_less (v.0 ∷ held) held sd se (λ y e. in_more v.0 y held e) k.over);
          locations_as = subst (λ a. LocationsAs a (ls ++ NilV ∷ replicate (length vars) NilV) t.locations) (append_assoc kinds (Some i ∷ []) slots) (subst (λ a. LocationsAs ((kinds ++ Some i ∷ []) ++ slots) a t.locations) (append_assoc ls (NilV ∷ []) (replicate (length vars) NilV)) k.locations_as);
          slots_as = ((h.0, k.over.meant v.0 (in_here v.0 held) ∙ meant_here v.0 (InLocation i) sc), k.slots_as);
          store_as = k.store_as ∙ ap {A = ℕ} (λ j. record u.store { heap = j }) (let f = one_words v vars true h.0 in let e : (u.store.heap + 2) + binding_words x.unit vars ≡ u.store.heap + binding_words x.unit (v ∷ vars) = omega (arith, f) in e);
          moves_as = (let f = one_words v vars true h.0 in omega (arith, k.moves_as, f));
          waiting_as = k.waiting_as;
          closures_as = k.closures_as;
          objects_as = k.objects_as;
          globals_as = k.globals_as;
          catches_as = k.catches_as;
        })))

    sets_run : (vars names : List Var) (slots : Kinds) (vals : List Val) (inner : List ℕ) (kinds : Kinds) (ls : List Val) (l : ℕ) (sc : Scope) (u : State) (place : ℕ) → Sets x inner vars names place next → Slots x vars slots sc → Zipped (ArgMeans x M marks escapes inner u.globals sc) (variables names) vals → Stretch kinds l slots → LocationsAs kinds ls u.locations → ((sd : Scope) → Extends inner sc sd → Slots x vars slots sd) → total u.waiting ≤ r.deepest
        → ((se : Scope) (v : State) → Reset inner kinds ls l vars vals sc u se v → Runs (behind x M marks escapes) M Away' m n (going (At next se) v) r o Done')
        → Runs (behind x M marks escapes) M Away' m n (going (At place sc) u) r o Done'
    sets_run [] [] [] [] inner kinds ls l sc u place h so me st la later low cont =
        subst (λ z. Runs (behind x M marks escapes) M Away' m n (going (At z sc) u) r o Done') h
        (cont sc u (record { over = extends_same inner sc; locations_as = la; store_as = refl; moves_as = omega arith; waiting_as = refl; closures_as = refl; objects_as = refl; globals_as = refl; catches_as = refl }))
    sets_run (v ∷ vars) (y ∷ names) (None ∷ slots) (w ∷ vals) inner kinds ls l sc u place (inl h) so me st la later low cont =
        sets_run vars names slots vals inner kinds (slice_set ls l w) (suc l) sc u place h.1 so.1 me.1 st.1 (locations_unseen kinds ls u.locations l w st.0 la) (λ sd e. (later sd e).1) low
        (λ se t k. cont se t (record { over = k.over; locations_as = k.locations_as; store_as = k.store_as; moves_as = (let f = one_words v vars false h.0 in omega (arith, k.moves_as, f)); waiting_as = k.waiting_as; closures_as = k.closures_as; objects_as = k.objects_as; globals_as = k.globals_as; catches_as = k.catches_as }))
    sets_run (v ∷ vars) (y ∷ names) (Some i ∷ slots) (w ∷ vals) inner kinds ls l sc u place (inl h) so me st la later low cont = absurd (true≢false (sym so.0.0 ∙ h.0))
    sets_run (v ∷ vars) (y ∷ names) (None ∷ slots) (w ∷ vals) inner kinds ls l sc u place (inr h) so me st la later low cont = absurd (true≢false (sym h.0 ∙ so.0))
    sets_run (v ∷ vars) (y ∷ names) (Some i ∷ slots) (w ∷ vals) inner kinds ls l sc u place (inr h) so me st la later low cont =
        let unused = h.1.0 in
        let rest = h.1.1 in
        let new = h.1.2 in
        let u1 = counting 2 (going (At place sc) u) in
        let u2 = with_location_at u1 i w in
        let sd : Scope = Bound unused.0 (Direct w) ∷ sc in
        let over = extends_bound inner unused.0 (Direct w) sc new.apart in
        runs_step (behind x M marks escapes) M Away' m n (going (At place sc) u) (going (At rest sd) u2) r o Done'
        (step_at x M marks escapes place sc u (Step.Set v (Argument.Var y) (Continuation.Lam unused rest)) h.1.3
        ∙ arg_means x M marks escapes inner sc (Argument.Var y) w u1 (λ t z. cps_unbound (option_and_then place_of (meant_by sc v.0)) t (λ p. give (behind x M marks escapes) sc (Continuation.Lam unused rest) z (with_location_at t p z))) me.0
        ∙ ap (λ a. cps_unbound (option_and_then place_of a) u1 (λ p. give (behind x M marks escapes) sc (Continuation.Lam unused rest) w (with_location_at u1 p w))) so.0.1
        ∙ given_plain x M marks escapes facts unused rest sc w u2 new.unassigned)
        low
        (sets_run vars names slots vals inner kinds (slice_set ls l w) (suc l) sd u2 rest h.1.4 (later sd over).1
        (zipped_more (ArgMeans x M marks escapes inner u.globals sc) (ArgMeans x M marks escapes inner u.globals sd) (means_later x M marks escapes inner inner u.globals u.globals sc sd (λ z e. e) (λ g p. refl) over) (variables names) vals me.1)
        st.1 (locations_set kinds ls u.locations l i w st.0 la) (λ se e. (later se (extends_trans inner sc sd se over e)).1) low
        (λ se t k. cont se t (record { over = extends_trans inner sc sd se over k.over; locations_as = k.locations_as; store_as = k.store_as; moves_as = (let f = one_words v vars true h.0 in omega (arith, k.moves_as, f)); waiting_as = k.waiting_as; closures_as = k.closures_as; objects_as = k.objects_as; globals_as = k.globals_as; catches_as = k.catches_as })))
    sets_run [] (y ∷ names) slots vals inner kinds ls l sc u place h so me st la later low cont = absurd h
    sets_run [] [] (k ∷ slots) vals inner kinds ls l sc u place h so me st la later low cont = absurd so
    sets_run [] [] [] (w ∷ vals) inner kinds ls l sc u place h so me st la later low cont = absurd me
    sets_run (v ∷ vars) [] slots vals inner kinds ls l sc u place h so me st la later low cont = absurd h
    sets_run (v ∷ vars) (y ∷ names) [] vals inner kinds ls l sc u place h so me st la later low cont = absurd so
    sets_run (v ∷ vars) (y ∷ names) (None ∷ slots) [] inner kinds ls l sc u place h so me st la later low cont = absurd me
    sets_run (v ∷ vars) (y ∷ names) (Some i ∷ slots) [] inner kinds ls l sc u place h so me st la later low cont = absurd me

  -- ---- the closures that are made together

  nodes_length : (m form : ℕ) (bound : List ℕ) (keys lams : List ℕ) → LambdaNodes x (ConvertsWithin x m) form bound keys lams → length lams ≡ length keys
  nodes_length m form bound [] [] h = refl
  nodes_length m form bound (k ∷ ks) (l ∷ lams) h = ap suc (nodes_length m form bound ks lams h.1)
  nodes_length m form bound [] (l ∷ lams) h = absurd h
  nodes_length m form bound (k ∷ ks) [] h = absurd h

  node_lambda : (m : ℕ) (c : Context) (bound : List ℕ) (key l : ℕ) (kinds : Kinds) (ls : List Val) (sc : Scope) (o : Option Core) → m < M → EnvAs x bound kinds ls c.env sc → LambdaNode x (ConvertsWithin x m) c.form bound key o l → ProcedureAs x M kinds ls (procedure_at c.form c.env o) (record { lam = l; scope = sc }) × (lam_words (behind x M marks escapes) l ≡ lambda_words (before x M marks escapes) c.form key)
  node_lambda m c bound key l kinds ls sc None lt ea h = absurd h
  node_lambda m c bound key l kinds ls sc (Some (Node.Lambda params body)) lt ea h = (record { depth = m; bound = bound; shallow = lt; lam_at = h.lam_at; env_as = ea }, lambda_words_as x M marks escapes facts c.form key l bound m params body h)
  node_lambda m c bound key l kinds ls sc (Some (Node.Const k)) lt ea h = absurd h
  node_lambda m c bound key l kinds ls sc (Some (Node.Local v)) lt ea h = absurd h
  node_lambda m c bound key l kinds ls sc (Some (Node.Global g)) lt ea h = absurd h
  node_lambda m c bound key l kinds ls sc (Some (Node.Builtin b)) lt ea h = absurd h
  node_lambda m c bound key l kinds ls sc (Some (Node.Op k)) lt ea h = absurd h
  node_lambda m c bound key l kinds ls sc (Some (Node.If test first second)) lt ea h = absurd h
  node_lambda m c bound key l kinds ls sc (Some (Node.Block items)) lt ea h = absurd h
  node_lambda m c bound key l kinds ls sc (Some (Node.Let vars values body)) lt ea h = absurd h
  node_lambda m c bound key l kinds ls sc (Some (Node.Labels vars lambdas body)) lt ea h = absurd h
  node_lambda m c bound key l kinds ls sc (Some (Node.SetLocal v value)) lt ea h = absurd h
  node_lambda m c bound key l kinds ls sc (Some (Node.SetGlobal g value)) lt ea h = absurd h
  node_lambda m c bound key l kinds ls sc (Some (Node.Catch v body)) lt ea h = absurd h
  node_lambda m c bound key l kinds ls sc (Some (Node.Object proc methods)) lt ea h = absurd h
  node_lambda m c bound key l kinds ls sc (Some (Node.Call operator operands tail)) lt ea h = absurd h
  node_lambda m c bound key l kinds ls sc (Some (Node.Prim b operands)) lt ea h = absurd h

  nodes_lambdas : (m : ℕ) (c : Context) (bound keys lams : List ℕ) (kinds : Kinds) (ls : List Val) (sc : Scope) → m < M → EnvAs x bound kinds ls c.env sc → LambdaNodes x (ConvertsWithin x m) c.form bound keys lams → Zipped (ProcedureAs x M kinds ls) (procedures x M marks escapes c keys) (closures_of lams sc) × (sum_by (lam_words (behind x M marks escapes)) lams ≡ words x M marks escapes c keys)
  nodes_lambdas m c bound [] [] kinds ls sc lt ea h = (tt, refl)
  nodes_lambdas m c bound (k ∷ ks) (l ∷ lams) kinds ls sc lt ea h =
      let one = node_lambda m c bound k l kinds ls sc (node_at x.unit c.form k) lt ea h.0 in
      let more = nodes_lambdas m c bound ks lams kinds ls sc lt ea h.1 in
      ((one.0, more.0), sum_by-cons (lam_words (behind x M marks escapes)) l lams ∙ ap (λ i. i + sum_by (lam_words (behind x M marks escapes)) lams) one.1 ∙ ap (λ i. lambda_words (before x M marks escapes) c.form k + i) more.1 ∙ sym (sum_by-cons (lambda_words (before x M marks escapes) c.form) k ks))
  nodes_lambdas m c bound [] (l ∷ lams) kinds ls sc lt ea h = absurd h
  nodes_lambdas m c bound (k ∷ ks) [] kinds ls sc lt ea h = absurd h

  names_length : (vars names : List Var) → Names x.unit vars names → length names ≡ length vars
  names_length [] [] h = refl
  names_length (v ∷ vars) (y ∷ names) h = ap suc (names_length vars names h.1)
  names_length [] (y ∷ names) h = absurd h
  names_length (v ∷ vars) [] h = absurd h

nils_length : (vars : List Var) → length (replicate (length vars) NilV) ≡ length vars
nils_length [] = refl
nils_length (v ∷ vars) = ap suc (nils_length vars)

module _ (x : Translation) (M : ℕ) (marks : Marking) (escapes : CpsMarking) (facts : Facts x M marks escapes) (n : ℕ) (cl : Claims x M marks escapes n) where
  abbrev pt : Doing
  pt = part x M marks escapes facts n cl

  abbrev behind_all : Spot x M marks escapes facts n cl → List Var → List ℕ → Made
  behind_all z vars keys = filled x M marks escapes z.d (under (extended vars (length z.s.locations) z.c.env) z.c) (length z.s.locations) keys (bound_state x M marks escapes facts vars (replicate (length vars) NilV) z.s)

  filled_run : (z : Spot x M marks escapes facts n cl) (vars : List Var) (keys : List ℕ) (body : ℕ) → z.owed + 5 ≤ z.has → LabelsAs x (ConvertsWithin x z.m) z.c.form z.bound z.held vars keys body z.k z.place → Goal x M marks escapes facts n cl z (last pt z.d (under (extended vars (length z.s.locations) z.c.env) z.c) body (behind_all z vars keys))
  filled_run z vars keys body le h =
      let l = length z.s.locations in
      let nils = replicate (length vars) NilV in
      let s1 = bound_state x M marks escapes facts vars nils z.s in
      let env = extended vars l z.c.env in
      let c1 : Context = under env z.c in
      let q = behind_all z vars keys in
      let fa = filled_as x M marks escapes z.d c1 l keys s1 in
      let o = last pt z.d c1 body q in
      let w = z.here.ready.sync.world in
      let s0 = stays x M marks escapes facts n cl z in
      let dp = fa.deep in
      let as_names = names_length x M marks escapes facts vars h.names h.names_for in
      let as_lams = nodes_length x M marks escapes facts z.m z.c.form (adding vars z.bound) keys h.lams h.lambdas in
      let keys_many = h.as_many in
      let most = words_most x M marks escapes facts vars in
      let inner = adding h.names (adding_assigned x.unit vars z.held) in
      let held2 = adding_assigned x.unit vars z.held in
      runs_since (behind x M marks escapes) M (Away x M marks escapes z.ws z.b) z.m n (at x M marks escapes facts n cl z) z.s q o (Done x M marks escapes facts n cl z) dp
      (unset_run x M marks escapes facts (Away x M marks escapes z.ws z.b) z.m n q o (Done x M marks escapes facts n cl z) h.at vars z.held z.kinds z.s.locations z.sc z.t z.place h.unset w.locations_as (omega (arith, s0, dp, ap total z.here.ready.waiting))
      (λ sa u1 slots un.
      let vals = new_closures (length u1.closures) h.lams in
      let s2 = naming h.names vals sa in
      let u1c = counting (1 + length h.names) (going (At h.at sa) u1) in
      let words2 = sum_by (lam_words (behind x M marks escapes)) h.lams in
      let u2 = taking words2 (with_closures u1c (closures_of h.lams s2)) in
      let kinds2 = z.kinds ++ slots in
      let ls = z.s.locations ++ nils in
      let as_vals = closures_length (length u1.closures) h.lams in
      let many : length h.names ≡ length vals = omega (arith, as_names, as_lams, keys_many, as_vals) in
      let over2 : Extends held2 sa s2 = naming_extends x M marks escapes facts held2 h.names vals sa h.names_new in
      let slots2 = slots_later x vars slots z.held sa s2 over2.meant un.slots_as in
      let means2 = naming_means x M marks escapes facts held2 h.names vals u2.globals sa h.names_new many in
      let slots_at = stretch_append z.kinds slots l (sym w.locations_as.as_many) in
      let waiting1 = un.waiting_as ∙ z.here.ready.waiting in
      runs_step (behind x M marks escapes) M (Away x M marks escapes z.ws z.b) z.m n (going (At h.at sa) u1) (going (At h.behind s2) u2) q o (Done x M marks escapes facts n cl z)
      (step_at x M marks escapes h.at sa u1 (Step.Labels h.names h.lams h.behind) h.stands
      ∙ naming_all x M marks escapes facts held2 h.names vals sa u1c (λ scope t. going (At h.behind scope) (taking words2 (with_closures t (closures_of h.lams scope)))) h.names_new many)
      (omega (arith, s0, dp, ap total waiting1))
      (sets_run x M marks escapes facts (Away x M marks escapes z.ws z.b) z.m n q o (Done x M marks escapes facts n cl z) h.start vars h.names slots vals inner kinds2 ls l s2 u2 h.behind h.sets slots2 means2 slots_at un.locations_as
      (λ sd e. slots_later x vars slots z.held s2 sd (λ y i. e.meant y (in_adding h.names y held2 i)) slots2)
      (omega (arith, s0, dp, ap total waiting1))
      (λ s3 u3 rs.
      let count : length u1.closures ≡ length z.s.closures = ap length un.closures_as ∙ zipped_length (ProcedureAs x M z.kinds z.s.locations) z.s.closures z.t.closures w.closures_as in
      let eq_vals : new_closures (length z.s.closures) keys ≡ vals = closures_alike (length z.s.closures) keys h.lams (sym as_lams) ∙ ap (λ i. new_closures i h.lams) (sym count) in
      let eq_ls : q.locations ≡ fill ls l vals = fa.locations ∙ ap (fill ls l) eq_vals in
      let nil_many = nils_length vars in
      let ls_many = length-append z.s.locations nils in
      let grown2 : Grown x z.kinds z.s kinds2 q = record {
        rest = slots;
        more = refl;
        kept = λ j v k e. ap (λ a. slice_get a j) eq_ls ∙ fill_before ls l vals j (get_within z.s.locations j v e) ∙ get_append z.s.locations nils j v e;
        procs = λ g e. ap (λ a. slice_get a g) fa.globals;
      } in
      let over_a : Extends z.held sa s2 = extends_less held2 z.held sa s2 (λ y i. in_assigned x vars y z.held i) over2 in
      let over_b : Extends z.held z.sc s2 = extends_trans z.held z.sc sa s2 un.over over_a in
      let over_c : Extends z.held s2 s3 = extends_less inner z.held s2 s3 (λ y i. in_adding h.names y held2 (in_assigned x vars y z.held i)) rs.over in
      let over_d : Extends z.held z.sc s3 = extends_trans z.held z.sc s2 s3 over_b over_c in
      let ea : EnvAs x z.bound kinds2 q.locations z.c.env z.sc = env_later x z.bound z.kinds kinds2 z.s.locations q.locations z.s.globals q.globals z.c.env z.sc grown2 z.here.env_as in
      let vals_at : Stretch q.locations l vals = subst (λ a. Stretch a l vals) (sym eq_ls) (fill_stretch ls l vals (omega (arith, nil_many, ls_many, as_vals, as_lams, keys_many))) in
      let env2 : EnvAs x (adding vars z.bound) kinds2 q.locations env s2 = env_all x M marks escapes facts vars h.names slots vals kinds2 q.locations z.bound inner u2.globals z.c.env l s2 (env_extends x z.bound kinds2 q.locations z.c.env z.sc s2 (extends_less z.held z.bound z.sc s2 z.here.inside over_b) ea) slots_at vals_at slots2 h.names_for means2 in
      let slots3 = slots_later x vars slots z.held s2 s3 (λ y i. rs.over.meant y (in_adding h.names y held2 i)) slots2 in
      let means3 = zipped_more (ArgMeans x M marks escapes inner u2.globals s2) (ArgMeans x M marks escapes inner u2.globals s3) (means_later x M marks escapes inner inner u2.globals u2.globals s2 s3 (λ y i. i) (λ g p. refl) rs.over) (variables h.names) vals means2 in
      let env3 : EnvAs x (adding vars z.bound) kinds2 q.locations env s3 = env_all x M marks escapes facts vars h.names slots vals kinds2 q.locations z.bound inner u2.globals z.c.env l s3 (env_extends x z.bound kinds2 q.locations z.c.env z.sc s3 (extends_less z.held z.bound z.sc s3 z.here.inside over_d) ea) slots_at vals_at slots3 h.names_for means3 in
      let made = nodes_lambdas x M marks escapes facts z.m c1 (adding vars z.bound) keys h.lams kinds2 q.locations s2 z.shallow env2 h.lambdas in
      let bw = binding_words x.unit vars in
      let all_closures : Zipped (ProcedureAs x M kinds2 q.locations) (z.s.closures ++ procedures x M marks escapes c1 keys) (z.t.closures ++ closures_of h.lams s2) =
      zipped_append (ProcedureAs x M kinds2 q.locations) z.s.closures (procedures x M marks escapes c1 keys) z.t.closures (closures_of h.lams s2)
      (zipped_more (ProcedureAs x M z.kinds z.s.locations) (ProcedureAs x M kinds2 q.locations) (procedure_grown x M z.kinds kinds2 z.s q grown2) z.s.closures z.t.closures w.closures_as) made.0 in
      let closures3 : u3.closures ≡ z.t.closures ++ closures_of h.lams s2 = rs.closures_as ∙ ap (λ a. a ++ closures_of h.lams s2) un.closures_as in
      let all_objects : Zipped (ThingAs x M kinds2 q.locations) z.s.objects z.t.objects = zipped_more (ThingAs x M z.kinds z.s.locations) (ThingAs x M kinds2 q.locations) (thing_grown x M z.kinds kinds2 z.s q grown2) z.s.objects z.t.objects w.objects_as in
      let sync3 : Sync x M z.owed kinds2 q u3 = record {
        world = record {
          store_as = rs.store_as ∙ ap {A = Store} (λ a. record a { heap = a.heap + words2 }) (un.store_as ∙ ap {A = Store} (λ a. record a { heap = a.heap + bw }) w.store_as) ∙ ap {A = ℕ} (λ i. record s1.store { heap = s1.store.heap + i }) made.1 ∙ sym fa.store;
          globals_as = rs.globals_as ∙ un.globals_as ∙ w.globals_as ∙ sym fa.globals;
          catches_as = rs.catches_as ∙ un.catches_as ∙ w.catches_as ∙ sym fa.catches;
          live_as = ap (live_of x M) (rs.waiting_as ∙ un.waiting_as) ∙ w.live_as ∙ sym fa.live;
          locations_as = subst (λ a. LocationsAs kinds2 a u3.locations) (sym eq_ls) rs.locations_as;
          closures_as = subst (λ a. Zipped (ProcedureAs x M kinds2 q.locations) a u3.closures) (sym fa.closures) (subst (λ a. Zipped (ProcedureAs x M kinds2 q.locations) (z.s.closures ++ procedures x M marks escapes c1 keys) a) (sym closures3) all_closures);
          objects_as = subst (λ a. Zipped (ThingAs x M kinds2 q.locations) a u3.objects) (sym fa.objects) (subst (λ a. Zipped (ThingAs x M kinds2 q.locations) z.s.objects a) (sym (rs.objects_as ∙ un.objects_as)) all_objects);
        };
        moves = (let a = rs.moves_as in let b = un.moves_as in let c = z.here.ready.sync.moves in let d = fa.work in omega (arith, a, b, c, d, le, most, as_names, keys_many));
      } in
      runs_wider (behind x M marks escapes) M (Away x M marks escapes z.ws z.b) z.m n (going (At h.start s3) u3) q o (Given x M marks escapes (adding vars z.held) z.k s3 z.ws z.since z.from z.owed) (Done x M marks escapes facts n cl z)
      (cl.evaluates z.m c1 body (adding vars z.bound) (adding vars z.held) z.k h.start (if z.c.tail then z.d else suc z.d) z.owed s3 z.ws z.b z.since z.from kinds2 q u3
      (grown_trans x z.since z.kinds kinds2 z.from z.s q z.grown grown2) h.body_as (let sh = z.shallow in omega (arith, sh)) (waits_more (way s3 z.k) z.ws z.d (if z.c.tail then z.d else suc z.d) (deeper_last x M marks escapes facts n cl z.c.tail z.d) (still_waits x M marks escapes facts n cl z s3 over_d)) (omega (arith, s0, dp))
      (record {
        ready = record { waiting = rs.waiting_as ∙ waiting1; least = z.least; grown = grown_trans x z.b.kinds z.kinds kinds2 z.b.made z.s q z.here.ready.grown grown2; sync = sync3 };
        inside = adding_inside vars z.bound z.held z.here.inside;
        env_as = env3;
      }))
      (λ p a e deeper gv. given_over x M marks escapes facts n cl z.held z.k z.sc s3 z.ws z.since z.from p z.owed a e over_d
      (record { scope = gv.scope; state = gv.state; kinds = gv.kinds; lands = gv.lands; waiting = gv.waiting; over = extends_less (adding vars z.held) z.held s3 gv.scope (λ y i. in_adding vars y z.held i) gv.over; grown = gv.grown; sync = gv.sync }))))))

  -- the bound is over before the first LAMBDA
  over_now : (z : Spot x M marks escapes facts n cl) (vars : List Var) (key : ℕ) (keys : List ℕ) (rest : Made → Outcome) → n ≡ 0 → z.owed + 5 ≤ z.has → Goal x M marks escapes facts n cl z (filling pt z.d (under (extended vars (length z.s.locations) z.c.env) z.c) (length z.s.locations) (key ∷ keys) (bound_state x M marks escapes facts vars (replicate (length vars) NilV) z.s) rest)
  over_now z vars key keys rest e le =
      let q = bound_state x M marks escapes facts vars (replicate (length vars) NilV) z.s in
      let l = length z.s.locations in
      let c1 : Context = under (extended vars l z.c.env) z.c in
      let w = z.here.ready.sync.world in
      subst (λ i. Goal x M marks escapes facts n cl z (filling (perform (before x M marks escapes) i) z.d c1 l (key ∷ keys) q rest)) (sym e) (
        at x M marks escapes facts n cl z,
        gone_none (behind x M marks escapes) M (at x M marks escapes facts n cl z) z.s q (now_waits x M marks escapes facts n cl z) (omega arith),
        refl,
        record { output = ap (λ a. a.output) w.store_as; heap = (let f = ap (λ a. a.heap) w.store_as in omega (arith, f)); moves = omega (arith, z.here.ready.sync.moves) },
        omega (arith, e),
      )

  by_keys : (z : Spot x M marks escapes facts n cl) (vars : List Var) (keys : List ℕ) (body : ℕ) → z.owed + 5 ≤ z.has → LabelsAs x (ConvertsWithin x z.m) z.c.form z.bound z.held vars keys body z.k z.place → Goal x M marks escapes facts n cl z (filling pt z.d (under (extended vars (length z.s.locations) z.c.env) z.c) (length z.s.locations) keys (bound_state x M marks escapes facts vars (replicate (length vars) NilV) z.s) (λ u. last pt z.d (under (extended vars (length z.s.locations) z.c.env) z.c) body u))
  by_keys z vars [] body le h = filled_run z vars [] body le h
  by_keys z vars (key ∷ keys) body le h = ⊎_elim
      (λ e. over_now z vars key keys (λ u. last pt z.d (under (extended vars (length z.s.locations) z.c.env) z.c) body u) e le)
      (λ e.
      let l = length z.s.locations in
      let c1 : Context = under (extended vars l z.c.env) z.c in
      let s1 = bound_state x M marks escapes facts vars (replicate (length vars) NilV) z.s in
      let rest : Made → Outcome = (λ u. last pt z.d c1 body u) in
      subst (λ o. Goal x M marks escapes facts n cl z o)
      (sym (ap (λ i. filling (perform (before x M marks escapes) i) z.d c1 l (key ∷ keys) s1 rest) e.1 ∙ filling_is x M marks escapes e.0 z.d c1 (adding vars z.bound) z.m l (key ∷ keys) h.lams s1 rest h.lambdas))
      (filled_run z vars (key ∷ keys) body le h))
      (zero_or n)

  pub labels_runs : (z : Spot x M marks escapes facts n cl) (vars : List Var) (keys : List ℕ) (body : ℕ) → z.owed + 5 ≤ z.has → LabelsAs x (ConvertsWithin x z.m) z.c.form z.bound z.held vars keys body z.k z.place → Goal x M marks escapes facts n cl z (binding (before x M marks escapes) vars (replicate (length vars) NilV) z.c.env z.s (λ env t. filling pt z.d (under env z.c) (length z.s.locations) keys t (λ u. last pt z.d (under env z.c) body u)))
  labels_runs z vars keys body le h = by_keys z vars keys body le h
