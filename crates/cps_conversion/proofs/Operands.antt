-- The values of operands, from left to right.
use Rattle.std.proofs.Common.{◌≡◌, ℕ, zero, suc, ◌+◌, ◌*◌, ◌≤◌, true, false, if◌then◌else◌, List, [], ◌∷◌, length, Option, Some, None, slice_get, refl, sym, ap, ◌∙◌, subst, arith, le_trans, inl, inr}
use Rattle.t_base.specs.declared.basics.Var.{Var}
use Rattle.t_prim.specs.Values.{Val}
use Rattle.t_meaning.specs.Programs.{Marking, node_at}
use Rattle.t_meaning.specs.Costs.{is_assigned}
use Rattle.t_meaning.specs.State.{State as Made, entered}
use Rattle.t_meaning.specs.Outcomes.{Outcome, Context, Evaluate, Doing, with_value, with_values}
use Rattle.t_meaning.specs.Performing.{perform}
use Rattle.cps_ir.specs.declared.args.Arg.{Arg}
use Rattle.cps_ir.specs.declared.args.Arg.TheVariants as Argument
use Rattle.cps_ir.specs.declared.terms.Cont.TheVariants as Continuation
use Rattle.cps_ir.specs.States.{Marking as CpsMarking, Direct, Bound, Scope, Waiting, At, State, going}
use Rattle.cps_ir.specs.Giving.{meant_by, located, give}
use Rattle.cps_ir.specs.Reaches.{is_in}
use Rattle.cps_conversion.specs.Conversion.{Translation, ConvertsWithin, IsNew, ready_at, is_proc, IsBound, Values}
use Rattle.cps_conversion.proofs.Zips.{Zipped}
use Rattle.cps_conversion.proofs.Scopes.{Extends, extends_same, extends_trans, extends_less, extends_bound, in_here, in_more, meant_here, total}
use Rattle.cps_conversion.proofs.Relate.{Kinds, Grown, grown_same, grown_trans, env_grown, env_extends}
use Rattle.cps_conversion.proofs.Paths.{Runs, runs_bind, runs_since}
use Rattle.cps_conversion.proofs.Claims.{before, behind, Facts, Base, Here, Given, Away, Claims, out_now, common_of, ArgMeans, means_later, node_ready}

module _ (x : Translation) (M : ℕ) (marks : Marking) (escapes : CpsMarking) where
  -- the procedures of globals are there
  pub procs_there : (b : Base x M marks escapes) (kinds : Kinds) (s : Made) → Grown x b.kinds b.made kinds s → (g : ℕ) → is_proc x.unit g ≡ true → (v : Val) × (slice_get s.globals g ≡ Some (Some v))
  procs_there b kinds s h g e = let w = b.procs g e in (w.0, h.procs g e ∙ w.1)

  -- a node that is ready has its value at once, where the bound isn't over
  pub ready_bind : (n m d key : ℕ) (c : Context) (bound held : List ℕ) (a : Arg) (place owed : ℕ) (sc : Scope) (ws : List Waiting) (b : Base x M marks escapes) (kinds : Kinds) (s : Made) (t : State) (go : Made → Val → Outcome) (Done : Made → Val → State → Type 0) → ready_at x c.form key ≡ Some a → IsBound bound a → total ws ≤ s.deepest → Here x M marks escapes bound held sc c.env ws b owed kinds s t → ((v : Val) → ArgMeans x M marks escapes bound s.globals sc a v → Runs (behind x M marks escapes) M (Away x M marks escapes ws b) m n (going (At place sc) t) (entered d s) (go (entered d s) v) Done) → Runs (behind x M marks escapes) M (Away x M marks escapes ws b) m n (going (At place sc) t) s (with_value (perform (before x M marks escapes) n d (Evaluate key c) s) go) Done
  ready_bind zero m d key c bound held a place owed sc ws b kinds s t go Done at i low h k =
      out_now x M marks escapes (Away x M marks escapes ws b) m owed (going (At place sc) t) kinds s t Done (omega (arith, ap total h.ready.waiting, low)) refl (common_of x M marks escapes owed kinds s t h.ready.sync)
  ready_bind (suc n) m d key c bound held a place owed sc ws b kinds s t go Done at i low h k =
      let w = node_ready x M marks escapes (perform (before x M marks escapes) n) d key c bound sc a kinds (entered d s) (node_at x.unit c.form key) at i h.env_as (procs_there b kinds s h.ready.grown) in
      subst (λ o. Runs (behind x M marks escapes) M (Away x M marks escapes ws b) m (suc n) (going (At place sc) t) s (with_value o go) Done) (sym w.gives)
      (runs_since (behind x M marks escapes) M (Away x M marks escapes ws b) m (suc n) (going (At place sc) t) s (entered d s) (go (entered d s) w.value) Done (omega arith) (k w.value w.means))

  -- a value that goes to a variable that is never assigned
  pub given_plain : Facts x M marks escapes → (v : Var) (next : ℕ) (sc : Scope) (w : Val) (t : State) → is_assigned x.unit v ≡ false → give (behind x M marks escapes) sc (Continuation.Lam v next) w t ≡ going (At next (Bound v.0 (Direct w) ∷ sc)) t
  given_plain facts v next sc w t e = ap (λ bl. if bl then located v.0 w sc t (λ scope u. going (At next scope) u) else going (At next (Bound v.0 (Direct w) ∷ sc)) t) (facts.assigned v ∙ e)

  -- what has come of values, up to the state r and the scope sd
  pub record Valued (c : Context) (bound held inner : List ℕ) (args : List Arg) (sc : Scope) (ws : List Waiting) (b : Base x M marks escapes) (owed : ℕ) (since : Kinds) (s r : Made) (vs : List Val) (sd : Scope) (u : State) (kinds : Kinds) : Type 0 where
    pub over : Extends held sc sd
    pub wider : (y : ℕ) → is_in held y ≡ true → is_in inner y ≡ true
    pub deep : s.deepest ≤ r.deepest
    pub grown : Grown x since s kinds r
    pub means : Zipped (ArgMeans x M marks escapes inner r.globals sd) args vs
    pub here : Here x M marks escapes bound held sd c.env ws b owed kinds r u

  module _ (facts : Facts x M marks escapes) (n : ℕ) (cl : Claims x M marks escapes n) where
    abbrev Path : List Waiting → Base x M marks escapes → ℕ → State → Made → Outcome → (Made → Val → State → Type 0) → Type 0
    Path ws b m c s o Done = Runs (behind x M marks escapes) M (Away x M marks escapes ws b) m n c s o Done

    abbrev part : Doing
    part = perform (before x M marks escapes) n

    -- the same debt, counted otherwise
    owed_as : (bound held : List ℕ) (sc : Scope) (c : Context) (ws : List Waiting) (b : Base x M marks escapes) (owed as' : ℕ) (kinds : Kinds) (s : Made) (t : State) → owed ≡ as' → Here x M marks escapes bound held sc c.env ws b owed kinds s t → Here x M marks escapes bound held sc c.env ws b as' kinds s t
    owed_as bound held sc c ws b owed as' kinds s t e h = subst (λ z. Here x M marks escapes bound held sc c.env ws b z kinds s t) e h

    -- a value that has gone to a new variable
    pub record One (c : Context) (bound held : List ℕ) (v : Var) (sc : Scope) (ws : List Waiting) (b : Base x M marks escapes) (owed : ℕ) (since : Kinds) (s r : Made) (w : Val) (sd : Scope) (u : State) (kinds : Kinds) : Type 0 where
      pub over : Extends held sc sd
      pub meant : meant_by sd v.0 ≡ Some (Direct w)
      pub deep : s.deepest ≤ r.deepest
      pub grown : Grown x since s kinds r
      pub here : Here x M marks escapes bound (v.0 ∷ held) sd c.env ws b owed kinds r u

    pub value_then : (m : ℕ) (c : Context) (bound held : List ℕ) (key : ℕ) (v : Var) (place next d owed : ℕ) (sc : Scope) (ws : List Waiting) (b : Base x M marks escapes) (kinds : Kinds) (s : Made) (t : State) (go : Made → Val → Outcome) (Done : Made → Val → State → Type 0)
        → IsNew x held v → ConvertsWithin x m c.form bound held key (Continuation.Lam v next) place → m ≤ M → total ws ≤ d → total ws ≤ s.deepest → Here x M marks escapes bound held sc c.env ws b owed kinds s t
        → ((r : Made) (w : Val) (sd : Scope) (u : State) (now : Kinds) → One c bound held v sc ws b (owed + 3) kinds s r w sd u now → Path ws b m (going (At next sd) u) r (go r w) Done)
        → Path ws b m (going (At place sc) t) s (with_value (part (suc d) (Evaluate key (record c { tail = false })) s) go) Done
    value_then m c bound held key v place next d owed sc ws b kinds s t go Done new conv le low deep here cont =
        runs_bind (behind x M marks escapes) M (Away x M marks escapes ws b) m n (going (At place sc) t) s (part (suc d) (Evaluate key (record c { tail = false })) s) go (Given x M marks escapes held (Continuation.Lam v next) sc ws kinds s owed) Done
        (cl.evaluates m (record c { tail = false }) key bound held (Continuation.Lam v next) place (suc d) owed sc ws b kinds s kinds s t (grown_same x kinds s s refl refl) conv le (omega (arith, low)) deep here)
        (λ r w e deeper g.
        let sd : Scope = Bound v.0 (Direct w) ∷ g.scope in
        let over : Extends held sc sd = extends_trans held sc g.scope sd g.over (extends_bound held v.0 (Direct w) g.scope new.apart) in
        subst (λ z. Path ws b m z r (go r w) Done) (sym (g.lands ∙ given_plain facts v next g.scope w g.state new.unassigned))
        (cont r w sd g.state g.kinds (record {
          over = over;
          meant = meant_here v.0 (Direct w) g.scope;
          deep = deeper;
          grown = g.grown;
          here = record {
            ready = record { waiting = g.waiting; least = omega (arith, here.ready.least); grown = grown_trans x b.kinds kinds g.kinds b.made s r here.ready.grown g.grown; sync = g.sync };
            inside = λ y i. in_more v.0 y held (here.inside y i);
            env_as = env_extends x bound g.kinds r.locations c.env sc sd (extends_less held bound sc sd here.inside over) (env_grown x bound kinds g.kinds s r c.env sc g.grown here.env_as);
          };
        })))

    -- a value in front of others
    valued_more : (c : Context) (bound held inner : List ℕ) (v : Var) (a : Arg) (args : List Arg) (sc : Scope) (ws : List Waiting) (b : Base x M marks escapes) (owed count : ℕ) (kinds : Kinds) (s r : Made) (w : Val) (sd : Scope) (u : State) (now : Kinds) (r2 : Made) (vs : List Val) (se : Scope) (u2 : State) (now2 : Kinds)
        → a ≡ Argument.Var v → ((y : ℕ) → is_in bound y ≡ true → is_in held y ≡ true) → b.owed ≤ owed → One c bound held v sc ws b (owed + 3) kinds s r w sd u now → Valued c bound (v.0 ∷ held) inner args sd ws b (owed + 3 + 3 * count) now r r2 vs se u2 now2
        → Valued c bound held inner (a ∷ args) sc ws b (owed + 3 * suc count) kinds s r2 (w ∷ vs) se u2 now2
    valued_more c bound held inner v a args sc ws b owed count kinds s r w sd u now r2 vs se u2 now2 f inside least o k = record {
      over = extends_trans held sc sd se o.over (extends_less (v.0 ∷ held) held sd se (λ y i. in_more v.0 y held i) k.over);
      wider = λ y i. k.wider y (in_more v.0 y held i);
      deep = le_trans o.deep k.deep;
      grown = grown_trans x kinds now now2 s r r2 o.grown k.grown;
      means = (subst (λ z. ArgMeans x M marks escapes inner r2.globals se z w) (sym f) (k.wider v.0 (in_here v.0 held), k.over.meant v.0 (in_here v.0 held) ∙ o.meant), k.means);
      here = record { ready = record { waiting = k.here.ready.waiting; least = omega (arith, least); grown = k.here.ready.grown; sync = record { world = k.here.ready.sync.world; moves = omega (arith, k.here.ready.sync.moves) } }; inside = inside; env_as = k.here.env_as };
    }

    pub values_run : (m : ℕ) (c : Context) (bound held inner : List ℕ) (tos : List (Option Var)) (keys : List ℕ) (args : List Arg) (place last d owed : ℕ) (sc : Scope) (ws : List Waiting) (b : Base x M marks escapes) (kinds : Kinds) (s : Made) (t : State) (go : Made → List Val → Outcome) (Done : Made → Val → State → Type 0)
        → Values x (ConvertsWithin x m) c.form bound held tos keys args place last inner → m ≤ M → total ws ≤ d → total ws ≤ s.deepest → Here x M marks escapes bound held sc c.env ws b owed kinds s t
        → ((r : Made) (vs : List Val) (sd : Scope) (u : State) (now : Kinds) → Valued c bound held inner args sc ws b (owed + 3 * length keys) kinds s r vs sd u now → Path ws b m (going (At last sd) u) r (go r vs) Done)
        → Path ws b m (going (At place sc) t) s (with_values part d c keys s go) Done
    values_run m c bound held inner [] [] [] place last d owed sc ws b kinds s t go Done h le low deep here cont =
        subst (λ z. Path ws b m (going (At z sc) t) s (go s []) Done) h.0
        (cont s [] sc t kinds (record {
          over = extends_same held sc;
          wider = λ y e. subst (λ l. is_in l y ≡ true) (sym h.1) e;
          deep = omega arith;
          grown = grown_same x kinds s s refl refl;
          means = tt;
          here = owed_as bound held sc c ws b owed (owed + 3 * 0) kinds s t (omega arith) here;
        }))
    values_run m c bound held inner (None ∷ tos) (key ∷ keys) (a ∷ args) place last d owed sc ws b kinds s t go Done (inl h) le low deep here cont =
        ready_bind n m (suc d) key (record c { tail = false }) bound held a place owed sc ws b kinds s t (λ r v. with_values part d c keys r (λ u vs. go u (v ∷ vs))) Done h.0 h.1 deep here
        (λ v means.
        values_run m c bound held inner tos keys args place last d (owed + 3) sc ws b kinds (entered (suc d) s) t (λ u vs. go u (v ∷ vs)) Done h.2 le low (omega (arith, deep))
        (record { ready = record { waiting = here.ready.waiting; least = omega (arith, here.ready.least); grown = here.ready.grown; sync = record { world = here.ready.sync.world; moves = omega (arith, here.ready.sync.moves) } }; inside = here.inside; env_as = here.env_as })
        (λ r vs sd u now k. cont r (v ∷ vs) sd u now (record {
          over = k.over;
          wider = k.wider;
          deep = omega (arith, k.deep);
          grown = k.grown;
          means = (means_later x M marks escapes bound inner s.globals r.globals sc sd (λ y e. k.wider y (here.inside y e)) k.grown.procs (extends_less held bound sc sd here.inside k.over) a v means, k.means);
          here = owed_as bound held sd c ws b (owed + 3 + 3 * length keys) (owed + 3 * suc (length keys)) now r u (omega arith) k.here;
        })))
    values_run m c bound held inner (None ∷ tos) (key ∷ keys) (a ∷ args) place last d owed sc ws b kinds s t go Done (inr h) le low deep here cont =
        let v = h.1.0 in
        value_then m c bound held key v place h.1.1 d owed sc ws b kinds s t (λ r w. with_values part d c keys r (λ u vs. go u (w ∷ vs))) Done h.1.3 h.1.4 le low deep here
        (λ r w sd u now o.
        values_run m c bound (v.0 ∷ held) inner tos keys args h.1.1 last d (owed + 3) sd ws b now r u (λ z vs. go z (w ∷ vs)) Done h.1.5 le low (le_trans deep o.deep) o.here
        (λ r2 vs se u2 now2 k. cont r2 (w ∷ vs) se u2 now2 (valued_more c bound held inner v a args sc ws b owed (length keys) kinds s r w sd u now r2 vs se u2 now2 h.1.2 here.inside here.ready.least o k)))
    values_run m c bound held inner (Some v ∷ tos) (key ∷ keys) (a ∷ args) place last d owed sc ws b kinds s t go Done h le low deep here cont =
        value_then m c bound held key v place h.0 d owed sc ws b kinds s t (λ r w. with_values part d c keys r (λ u vs. go u (w ∷ vs))) Done h.2 h.3 le low deep here
        (λ r w sd u now o.
        values_run m c bound (v.0 ∷ held) inner tos keys args h.0 last d (owed + 3) sd ws b now r u (λ z vs. go z (w ∷ vs)) Done h.4 le low (le_trans deep o.deep) o.here
        (λ r2 vs se u2 now2 k. cont r2 (w ∷ vs) se u2 now2 (valued_more c bound held inner v a args sc ws b owed (length keys) kinds s r w sd u now r2 vs se u2 now2 h.1 here.inside here.ready.least o k)))
    values_run m c bound held inner [] [] (a ∷ args) place last d owed sc ws b kinds s t go Done h le low deep here cont = absurd h
    values_run m c bound held inner [] (key ∷ keys) args place last d owed sc ws b kinds s t go Done h le low deep here cont = absurd h
    values_run m c bound held inner (None ∷ tos) [] args place last d owed sc ws b kinds s t go Done h le low deep here cont = absurd h
    values_run m c bound held inner (Some v ∷ tos) [] args place last d owed sc ws b kinds s t go Done h le low deep here cont = absurd h
    values_run m c bound held inner (None ∷ tos) (key ∷ keys) [] place last d owed sc ws b kinds s t go Done h le low deep here cont = absurd h
    values_run m c bound held inner (Some v ∷ tos) (key ∷ keys) [] place last d owed sc ws b kinds s t go Done h le low deep here cont = absurd h
