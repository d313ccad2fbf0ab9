-- How variables are bound: those that are assigned by a Give each.
use Rattle.std.proofs.Common.{◌≡◌, ℕ, suc, ◌+◌, ◌≤◌, ◌⊎◌, ◌==◌, Bool, true, false, if◌then◌else◌, List, [], ◌∷◌, ◌++◌, length, Some, None, slice_get, refl, sym, ap, ◌∙◌, subst, arith, inl, inr, append_assoc, append-nil, length-append}
use Rattle.std.proofs.lemmas.Bool.{eqb-true}
use Rattle.std.proofs.lemmas.List.Sums.{sum_by-cons}
use Rattle.t_base.specs.declared.basics.Var.{Var}
use Rattle.t_prim.specs.Values.{Val}
use Rattle.t_meaning.specs.Programs.{Marking}
use Rattle.t_meaning.specs.Environment.{Env, extended}
use Rattle.t_meaning.specs.Costs.{is_assigned, binding_words}
use Rattle.t_meaning.specs.State.{State as Made}
use Rattle.t_meaning.specs.Outcomes.{Outcome}
use Rattle.cps_ir.specs.declared.args.Arg.{Arg}
use Rattle.cps_ir.specs.declared.args.Arg.TheVariants as Argument
use Rattle.cps_ir.specs.declared.terms.Cont.TheVariants as Continuation
use Rattle.cps_ir.specs.declared.terms.Term.TheVariants as Step
use Rattle.cps_ir.specs.States.{Marking as CpsMarking, Direct, InLocation, Bound, Scope, State, At, going, counting, taking, with_location}
use Rattle.cps_ir.specs.Giving.{meant_by, located, give}
use Rattle.cps_ir.specs.Reaches.{is_in}
use Rattle.cps_conversion.specs.Conversion.{Translation, adding, Assigned}
use Rattle.cps_conversion.proofs.Zips.{Zipped, zipped_more}
use Rattle.cps_conversion.proofs.Scopes.{Extends, extends_same, extends_trans, extends_less, extends_bound, in_cases, in_here, in_more, meant_here, total}
use Rattle.cps_conversion.proofs.Relate.{Kinds, grown_one, get_seam, LocationsAs, locations_direct, locations_cell, EnvAs, EntryAs, env_later, env_extends, env_more}
use Rattle.cps_conversion.proofs.Paths.{Runs, runs_step}
use Rattle.cps_conversion.proofs.Claims.{behind, Facts, step_at, ArgMeans, arg_means, means_later}

module _ (x : Translation) (M : ℕ) (marks : Marking) (escapes : CpsMarking) (facts : Facts x M marks escapes) where
  -- what has come of it: the state v, the scope se and the kinds now
  pub record Bounded (bnd held : List ℕ) (env : Env) (kinds : Kinds) (ls : List Val) (vars : List Var) (vs : List Val) (sc : Scope) (u : State) (se : Scope) (v : State) (now : Kinds) : Type 0 where
    pub over : Extends held sc se
    pub rest : Kinds
    pub more : now ≡ kinds ++ rest
    pub locations_as : LocationsAs now (ls ++ vs) v.locations
    pub env_as : EnvAs x (adding vars bnd) now (ls ++ vs) (extended vars (length ls) env) se
    pub store_as : v.store ≡ record u.store { heap = u.store.heap + binding_words x.unit vars }
    pub moves_as : v.moves ≡ u.moves + binding_words x.unit vars
    pub waiting_as : v.waiting ≡ u.waiting
    pub closures_as : v.closures ≡ u.closures
    pub objects_as : v.objects ≡ u.objects
    pub globals_as : v.globals ≡ u.globals
    pub catches_as : v.catches ≡ u.catches

  one_words : (v : Var) (vars : List Var) (b : Bool) → is_assigned x.unit v ≡ b → binding_words x.unit (v ∷ vars) ≡ (if b then 2 else 0) + binding_words x.unit vars
  one_words v vars b e = sum_by-cons (λ y. if is_assigned x.unit y then 2 else 0) v vars ∙ ap (λ c. (if c then 2 else 0) + binding_words x.unit vars) e

  -- with another list of the same locations
  env_at : (bnd : List ℕ) (now : Kinds) (ls : List Val) (w : Val) (vs : List Val) (vars : List Var) (env : Env) (se : Scope) → EnvAs x bnd now ((ls ++ w ∷ []) ++ vs) (extended vars (length (ls ++ w ∷ [])) env) se → EnvAs x bnd now (ls ++ w ∷ vs) (extended vars (suc (length ls)) env) se
  env_at bnd now ls w vs vars env se h =
      let e : length (ls ++ w ∷ []) ≡ suc (length ls) = length-append ls (w ∷ []) ∙ (let a : length ls + 1 ≡ suc (length ls) = omega arith in a) in
      subst (λ i. EnvAs x bnd now (ls ++ w ∷ vs) (extended vars i env) se) e
      (subst (λ a. EnvAs x bnd now a (extended vars (length (ls ++ w ∷ [])) env) se) (append_assoc ls (w ∷ []) vs) h)

  module _ (Away' : Made → ℕ → Val → State → Type 0) (m n : ℕ) (r : Made) (o : Outcome) (Done : Made → Val → State → Type 0) (next : ℕ) where
    pub assigned_run : (vars : List Var) (args : List Arg) (vs : List Val) (bnd held : List ℕ) (env : Env) (kinds : Kinds) (ls : List Val) (sc : Scope) (u : State) (place : ℕ)
        → Assigned x held vars args place next → Zipped (ArgMeans x M marks escapes held u.globals sc) args vs → ((y : ℕ) → is_in bnd y ≡ true → is_in held y ≡ true) → EnvAs x bnd kinds ls env sc → LocationsAs kinds ls u.locations → total u.waiting ≤ r.deepest
        → ((se : Scope) (v : State) (now : Kinds) → Bounded bnd held env kinds ls vars vs sc u se v now → Runs (behind x M marks escapes) M Away' m n (going (At next se) v) r o Done)
        → Runs (behind x M marks escapes) M Away' m n (going (At place sc) u) r o Done
    assigned_run [] [] [] bnd held env kinds ls sc u place h means inside ea la low cont =
        subst (λ z. Runs (behind x M marks escapes) M Away' m n (going (At z sc) u) r o Done) h
        (cont sc u kinds (record {
          over = extends_same held sc;
          rest = [];
          more = sym (append-nil kinds);
          locations_as = subst (λ a. LocationsAs kinds a u.locations) (sym (append-nil ls)) la;
          env_as = subst (λ a. EnvAs x bnd kinds a env sc) (sym (append-nil ls)) ea;
          store_as = ap {A = ℕ} (λ i. record u.store { heap = i }) (let e : u.store.heap ≡ u.store.heap + 0 = omega arith in e);
          moves_as = omega arith;
          waiting_as = refl;
          closures_as = refl;
          objects_as = refl;
          globals_as = refl;
          catches_as = refl;
        }))
    assigned_run (v ∷ vars) (a ∷ args) (w ∷ vs) bnd held env kinds ls sc u place (inl h) means inside ea la low cont =
        let mean : ArgMeans x M marks escapes held u.globals sc (Argument.Var v) w = subst (λ z. ArgMeans x M marks escapes held u.globals sc z w) h.1 means.0 in
        let kinds2 = kinds ++ None ∷ [] in
        let ls2 = ls ++ w ∷ [] in
        let entry : EntryAs (is_assigned x.unit v) (slice_get kinds2 (length ls)) (slice_get ls2 (length ls)) (meant_by sc v.0) =
        subst (λ k. EntryAs (is_assigned x.unit v) k (slice_get ls2 (length ls)) (meant_by sc v.0)) (sym (ap (slice_get kinds2) (sym la.as_many) ∙ get_seam kinds [] None)) (h.0, (w, get_seam ls [] w, mean.1)) in
        assigned_run vars args vs (v.0 ∷ bnd) held ((v.0, length ls) ∷ env) kinds2 ls2 sc u place h.2 means.1
        (λ y i. both y (in_cases v.0 y bnd i) mean.0)
        (env_more x bnd kinds2 ls2 env sc v.0 (length ls) entry (env_later x bnd kinds kinds2 ls ls2 u.globals u.globals env sc (grown_one x kinds None ls w u.globals) ea))
        (locations_direct kinds ls u.locations w la) low
        (λ se t now k. cont se t now (record {
          over = k.over;
          rest = None ∷ k.rest;
          more = k.more ∙ append_assoc kinds (None ∷ []) k.rest;
          locations_as = subst (λ l. LocationsAs now l t.locations) (append_assoc ls (w ∷ []) vs) k.locations_as;
          env_as = env_at (adding vars (v.0 ∷ bnd)) now ls w vs vars ((v.0, length ls) ∷ env) se k.env_as;
          store_as = k.store_as ∙ ap {A = ℕ} (λ i. record u.store { heap = u.store.heap + i }) (sym (one_words v vars false h.0 ∙ (let e : 0 + binding_words x.unit vars ≡ binding_words x.unit vars = omega arith in e)));
          moves_as = (let f = one_words v vars false h.0 in omega (arith, k.moves_as, f));
          waiting_as = k.waiting_as;
          closures_as = k.closures_as;
          objects_as = k.objects_as;
          globals_as = k.globals_as;
          catches_as = k.catches_as;
        }))
      where
        both : (y : ℕ) → ((v.0 == y) ≡ true) ⊎ ((v.0 == y) ≡ false) × (is_in bnd y ≡ true) → is_in held v.0 ≡ true → is_in held y ≡ true
        both y (inl e) here = subst (λ z. is_in held z ≡ true) (eqb-true v.0 y e) here
        both y (inr e) here = inside y e.1
    assigned_run (v ∷ vars) (a ∷ args) (w ∷ vs) bnd held env kinds ls sc u place (inr h) means inside ea la low cont =
        let u1 = counting 2 (going (At place sc) u) in
        let i = length u.locations in
        let sd : Scope = Bound v.0 (InLocation i) ∷ sc in
        let u2 = taking 2 (with_location u1 w) in
        let over = extends_bound held v.0 (InLocation i) sc h.1 in
        let kinds2 = kinds ++ Some i ∷ [] in
        let ls2 = ls ++ w ∷ [] in
        let entry : EntryAs (is_assigned x.unit v) (slice_get kinds2 (length ls)) (slice_get ls2 (length ls)) (meant_by sd v.0) =
        subst (λ k. EntryAs (is_assigned x.unit v) k (slice_get ls2 (length ls)) (meant_by sd v.0)) (sym (ap (slice_get kinds2) (sym la.as_many) ∙ get_seam kinds [] (Some i))) (h.0, meant_here v.0 (InLocation i) sc) in
        runs_step (behind x M marks escapes) M Away' m n (going (At place sc) u) (going (At h.2.0 sd) u2) r o Done
        (step_at x M marks escapes place sc u (Step.Give (Continuation.Lam v h.2.0) a) h.2.1
        ∙ arg_means x M marks escapes held sc a w u1 (λ t z. give (behind x M marks escapes) sc (Continuation.Lam v h.2.0) z t) means.0
        ∙ ap (λ b. if b then located v.0 w sc u1 (λ scope t. going (At h.2.0 scope) t) else going (At h.2.0 (Bound v.0 (Direct w) ∷ sc)) u1) (facts.assigned v ∙ h.0))
        low
        (assigned_run vars args vs (v.0 ∷ bnd) (v.0 ∷ held) ((v.0, length ls) ∷ env) kinds2 ls2 sd u2 h.2.0 h.2.2
        (zipped_more (ArgMeans x M marks escapes held u.globals sc) (ArgMeans x M marks escapes (v.0 ∷ held) u.globals sd) (means_later x M marks escapes held (v.0 ∷ held) u.globals u.globals sc sd (λ y e. in_more v.0 y held e) (λ g p. refl) over) args vs means.1)
        (λ y e. both y (in_cases v.0 y bnd e))
        (env_more x bnd kinds2 ls2 env sd v.0 (length ls) entry (env_extends x bnd kinds2 ls2 env sc sd (extends_less held bnd sc sd inside over) (env_later x bnd kinds kinds2 ls ls2 u.globals u.globals env sc (grown_one x kinds (Some i) ls w u.globals) ea)))
        (locations_cell kinds ls u.locations w la) low
        (λ se t now k. cont se t now (record {
          over = extends_trans held sc sd se over (extends_less (v.0 ∷ held) held sd se (λ y e. in_more v.0 y held e) k.over);
          rest = Some i ∷ k.rest;
          more = k.more ∙ append_assoc kinds (Some i ∷ []) k.rest;
          locations_as = subst (λ l. LocationsAs now l t.locations) (append_assoc ls (w ∷ []) vs) k.locations_as;
          env_as = env_at (adding vars (v.0 ∷ bnd)) now ls w vs vars ((v.0, length ls) ∷ env) se k.env_as;
          store_as = k.store_as ∙ ap {A = ℕ} (λ j. record u.store { heap = j }) (let f = one_words v vars true h.0 in let e : (u.store.heap + 2) + binding_words x.unit vars ≡ u.store.heap + binding_words x.unit (v ∷ vars) = omega (arith, f) in e);
          moves_as = (let f = one_words v vars true h.0 in omega (arith, k.moves_as, f));
          waiting_as = k.waiting_as;
          closures_as = k.closures_as;
          objects_as = k.objects_as;
          globals_as = k.globals_as;
          catches_as = k.catches_as;
        })))
      where
        both : (y : ℕ) → ((v.0 == y) ≡ true) ⊎ ((v.0 == y) ≡ false) × (is_in bnd y ≡ true) → is_in (v.0 ∷ held) y ≡ true
        both y (inl e) = subst (λ z. is_in (v.0 ∷ held) z ≡ true) (eqb-true v.0 y e) (in_here v.0 held)
        both y (inr e) = in_more v.0 y held (inside y e.1)
    assigned_run [] [] (w ∷ vs) bnd held env kinds ls sc u place h means inside ea la low cont = absurd means
    assigned_run (v ∷ vars) (a ∷ args) [] bnd held env kinds ls sc u place h means inside ea la low cont = absurd means
    assigned_run [] (a ∷ args) vs bnd held env kinds ls sc u place h means inside ea la low cont = absurd h
    assigned_run (v ∷ vars) [] vs bnd held env kinds ls sc u place h means inside ea la low cont = absurd h
