-- Values that are given.
use Rattle.std.proofs.Common.{◌≡◌, ℕ, ◌+◌, ◌-◌, ◌<◌, ◌≤◌, List, [], ◌∷◌, length, map, drop, slice_get, Some, refl, sym, ap, subst, ◌∙◌, arith}
use Rattle.std.specs.Option.{option_map}
use Rattle.std.proofs.lemmas.Option.{slice_get-map}
use Rattle.t_base.specs.declared.basics.Var.{Var}
use Rattle.cps_ir.specs.declared.args.Arg.{Arg}
use Rattle.cps_ir.specs.declared.args.Arg.TheVariants as Argument
use Rattle.cps_ir.specs.declared.terms.Cont.{Cont}
use Rattle.cps_ir.specs.declared.terms.Cont.TheVariants as Continuation
use Rattle.cps_ir.specs.declared.terms.Cps.{Cps}
use Rattle.frame_ir.specs.declared.forms.FrameEnd.{FrameEnd}
use Rattle.frame_ir.specs.declared.forms.FrameEnd.TheVariants as Last
use Rattle.layout_relation.specs.Contexts.{Begins, Purpose}
use Rattle.frame_ir.specs.declared.forms.Template.{Template}
use Rattle.layout_relation.specs.Laid.{IsFor, numbers, AreHeld, IsNewIn, Gives, gives_out, gives_join, gives_jump, gives_here, gives_unused, GoesOn, goes_to, Lays, variables}
use Rattle.layout_relation.proofs.Lists.{zipped_length}
use Rattle.layout_relation.proofs.Scopes.{eqb_same}
use Rattle.layout_tables.specs.declared.tables.Tables.{Tables}
use Rattle.layout_tables.specs.declared.requests.Work.{Work}
use Rattle.layout_tables.specs.declared.requests.Request.TheVariants as For
use Rattle.layout_tables.specs.declared.lines.Line.{Line}
use Rattle.layout_tables.specs.declared.lines.Step.TheVariants.{Next, Done}
use Rattle.layout_tables.specs.declared.sites.Join.{Join}
use Rattle.layout_tables.specs.declared.sites.Way.TheVariants as To
use Rattle.layout_tables.specs.Around.{Around}
use Rattle.layout_tables.specs.Sketches.{Scoped, Ever, Grows, Leads, AreBelow, needs_behind, term_needs, meeting_of, exits_of, exits_at, catches_of, catching_of, context_at, context_of, purpose_of, sketch_of, IsWay}
use Rattle.layout_steps.specs.Steps.{Arrives, IsJumpTo, IsGiven, MayGoOn, start_of, Ends}
use Rattle.layout_tables.proofs.Basics.{not_behind}
use Rattle.layout_tables.proofs.Growing.{grows_none}
use Rattle.frame_ir.specs.Parts.{arms_of}
use Rattle.layout_tables.specs.Additions.{Adds}
use Rattle.layout_tables.proofs.Adding.{adds_none}

-- a block that was asked for begins behind a continuation
pub begins_asked : (w : Tables) (k : Work) (block : ℕ) (vars : List Var) (a : Around) (param : Var) (body : ℕ) → slice_get k.requests.items block ≡ Some (For.Begins vars a body) → numbers vars ≡ param.0 ∷ needs_behind w param body
    → Ever w k (λ v. IsFor v block (Begins (start_of w a param body)))
begins_asked w k block vars a param body asked e purposes templates f g = f block (Begins (start_of w a param body))
    (slice_get-map (purpose_of w) k.requests.items block ∙ ap (option_map (purpose_of w)) asked ∙ ap (λ ns. Some (Begins (record { vars = ns; exits = exits_at w a; catches = catches_of a; term = body }))) e)

pub begins_new : (w : Tables) (k : Work) (block : ℕ) (vars : List Var) (a b : Around) (param : Var) (body : ℕ) → Ever w k (λ v. IsFor v block (purpose_of w (For.Begins vars b body))) → b ≡ a → numbers vars ≡ param.0 ∷ needs_behind w param body
    → Ever w k (λ v. IsFor v block (Begins (start_of w a param body)))
begins_new w k block vars a b param body h same e purposes templates f g =
    subst (λ c. IsFor (sketch_of w purposes templates) block (Begins (start_of w c param body))) same
    (subst (λ ns. IsFor (sketch_of w purposes templates) block (Begins (record { vars = ns; exits = exits_at w b; catches = catches_of b; term = body }))) e (h purposes templates f g))

-- an end that is no If
pub adds_end : (old new : Work) (last : FrameEnd) → Adds old new [] [] → arms_of last ≡ [] → Adds old new [] (arms_of last)
adds_end old new last h e = subst (Adds old new []) (sym e) h

module _ (cps : Cps) (w : Tables) (vars : Scoped) where
  is_new : (ps : List Purpose) (ts : List Template) (a : Around) (param : Var) (body : ℕ) (ats : List Var) → Arrives cps w vars a param body ats → IsNewIn (sketch_of w ps ts) (needs_behind w param body) (exits_at w a) param.0
  is_new ps ts a param body ats h = record { plain = h.plain; apart = not_behind (term_needs w body) param.0 param.0 (eqb_same param.0); unneeded = h.unneeded }

  few_needs : (a : Around) (param : Var) (body : ℕ) (ats : List Var) → Arrives cps w vars a param body ats → length (needs_behind w param body) ≤ cps.shared.size + 2
  few_needs a param body ats h = let e = zipped_length _ _ _ h.held in let f = h.few in omega (arith, e, f)

  pub given_out : (k : Work) (a : Around) (j : Var) (value : Arg) → IsWay w a j To.Leaves → a.catches ≡ [] → IsGiven cps w k vars a j value (Last.Return value)
  given_out k a j value way none = record { ever = λ ps ts f g t. gives_out (context_at w vars a) t j value way (ap (map catching_of) none); tests_nothing = refl }

  pub given_join : (k : Work) (a b : Around) (j : Var) (join : Join) (place : ℕ) (value : Arg) (last : FrameEnd) → IsWay w a j (To.Meets join place) → b ≡ record a { joins = drop (place + 1) a.joins }
      → IsJumpTo cps w k vars b join.block join.param join.body value last → IsGiven cps w k vars a j value last
  given_join k a b j join place value last way same h = by (subst (λ c. IsJumpTo cps w k vars c join.block join.param join.body value last) same h)
    where
      by : IsJumpTo cps w k vars (record a { joins = drop (place + 1) a.joins }) join.block join.param join.body value last → IsGiven cps w k vars a j value last
      by i = record {
        tests_nothing = ap arms_of i.is;
        ever = λ ps ts f g t. subst (λ e. Gives cps (sketch_of w ps ts) (context_at w vars a) t (Continuation.Var j) value [] e) (sym i.is)
            (gives_join (context_at w vars a) t j value (meeting_of w join) (exits_of w (drop (place + 1) a.joins) a.own) i.ats way (i.begins ps ts f g) i.arrives.held
            (is_new ps ts (record a { joins = drop (place + 1) a.joins }) join.param join.body i.ats i.arrives) (few_needs (record a { joins = drop (place + 1) a.joins }) join.param join.body i.ats i.arrives));
      }

  pub given_jump : (k : Work) (a : Around) (block : ℕ) (param : Var) (body : ℕ) (value : Arg) (last : FrameEnd) → IsJumpTo cps w k vars a block param body value last
      → Ever w k (λ v. (t : ℕ) → Gives cps v (context_at w vars a) t (Continuation.Lam param body) value [] last)
  given_jump k a block param body value last i = λ ps ts f g t. subst (λ e. Gives cps (sketch_of w ps ts) (context_at w vars a) t (Continuation.Lam param body) value [] e) (sym i.is)
      (gives_jump (context_at w vars a) t param body value block (needs_behind w param body) i.ats (i.begins ps ts f g) i.arrives.held (is_new ps ts a param body i.ats i.arrives) (few_needs a param body i.ats i.arrives))

module _ (cps : Cps) (w : Tables) where
  pub leads_done : (old new : Work) (before after : Line) (k : Cont) (t : ℕ) (value : Arg) (last : FrameEnd) → Grows w old new → Adds old new [] (arms_of last) → AreBelow new.next after.scope
      → Ever w new (λ v. (u : ℕ) → Gives cps v (context_of w before) u k value [] last) → Leads w cps old new [] after (λ v ops end. Gives cps v (context_of w before) t k value ops end) (Done last)
  leads_done old new before after k t value last grows adds below h = record { grows = grows; adds = adds; below = below; reaches = λ ps ts f g. h ps ts f g t }

  pub leads_here : (old : Work) (before after : Line) (k : Cont) (t : ℕ) (param : Var) (body : ℕ) (to : Var) → k ≡ Continuation.Lam param body → after.site ≡ before.site → after.scope ≡ (param.0, to.0) ∷ before.scope → AreBelow old.next before.scope → to.0 < old.next
      → MayGoOn w before t param body → Leads w cps old old [] after (λ v ops last. Gives cps v (context_of w before) t k (Argument.Var to) ops last) (Next body)
  leads_here old before after k t param body to e site scope below less may = record {
    grows = grows_none w old;
    adds = adds_none old;
    below = subst (AreBelow old.next) (sym scope) (less, below);
    reaches = λ ps ts f g ops last lay. subst (λ j. Gives cps (sketch_of w ps ts) (context_of w before) t j (Argument.Var to) ops last) (sym e)
        (gives_here (context_of w before) t param body to ops last may.fresh may.plain may.lower
        (subst (λ s. Lays cps (sketch_of w ps ts) (context_at w ((param.0, to.0) ∷ before.scope) s) body ops last) site (subst (λ s. Lays cps (sketch_of w ps ts) (context_at w s after.site) body ops last) scope lay)));
  }

  pub leads_unused : (old : Work) (before after : Line) (k : Cont) (t : ℕ) (param : Var) (body : ℕ) (value : Arg) → k ≡ Continuation.Lam param body → after.site ≡ before.site → after.scope ≡ before.scope → AreBelow old.next before.scope
      → MayGoOn w before t param body → Leads w cps old old [] after (λ v ops last. Gives cps v (context_of w before) t k value ops last) (Next body)
  leads_unused old before after k t param body value e site scope below may = record {
    grows = grows_none w old;
    adds = adds_none old;
    below = subst (AreBelow old.next) (sym scope) below;
    reaches = λ ps ts f g ops last lay. subst (λ j. Gives cps (sketch_of w ps ts) (context_of w before) t j value ops last) (sym e)
        (gives_unused (context_of w before) t param body value ops last may.fresh may.lower
        (subst (λ s. Lays cps (sketch_of w ps ts) (context_at w before.scope s) body ops last) site (subst (λ s. Lays cps (sketch_of w ps ts) (context_at w s after.site) body ops last) scope lay)));
  }

  pub ends_in : (old new : Work) (vars : Scoped) (a : Around) (k : Cont) (value : Arg) (last : FrameEnd) → Grows w old new → new.next ≡ old.next → Adds old new [] (arms_of last) → (j : Cont) → k ≡ j → Ever w new (λ v. (t : ℕ) → Gives cps v (context_at w vars a) t j value [] last)
      → Ends w old new last (λ v. (t : ℕ) → Gives cps v (context_at w vars a) t k value [] last)
  ends_in old new vars a k value last grows next adds j e h = record { grows = grows; next = next; adds = adds; ever = λ ps ts f g t. subst (λ i. Gives cps (sketch_of w ps ts) (context_at w vars a) t i value [] last) (sym e) (h ps ts f g t) }

  pub goes_away : (old new : Work) (vars : Scoped) (a : Around) (t block : ℕ) (needs ats : List Var) (last : FrameEnd) → Grows w old new → new.next ≡ old.next → Adds old new [] [] → Ever w new (λ v. IsFor v block (purpose_of w (For.Begins needs a t))) → AreHeld vars (numbers needs) ats
      → length ats ≤ cps.shared.size + 2 → last ≡ Last.Jump block (variables ats) → Ends w old new last (λ v. GoesOn cps v (context_at w vars a) t [] last)
  goes_away old new vars a t block needs ats last grows next adds h held few e = record {
    grows = grows;
    next = next;
    adds = adds_end old new last adds (ap arms_of e);
    ever = λ ps ts f g. subst (λ i. GoesOn cps (sketch_of w ps ts) (context_at w vars a) t [] i) (sym e)
        (goes_to (context_at w vars a) t block (numbers needs) ats (h ps ts f g) held (let l = zipped_length _ _ _ held in omega (arith, l, few)));
  }

  pub goes_to_join : (k : Work) (vars : Scoped) (a : Around) (param : Var) (body block : ℕ) (needs ats : List Var) (last : FrameEnd) → slice_get k.requests.items block ≡ Some (For.Begins needs a body) → AreHeld vars (numbers needs) ats → length ats - 1 ≤ cps.shared.size + 2
      → last ≡ Last.Jump block (variables ats) → Ends w k k last (λ v. GoesOn cps v (context_at w vars a) body [] last)
  goes_to_join k vars a param body block needs ats last asked held few e = record {
    grows = grows_none w k;
    next = refl;
    adds = adds_end k k last (adds_none k) (ap arms_of e);
    ever = λ ps ts f g. subst (λ i. GoesOn cps (sketch_of w ps ts) (context_at w vars a) body [] i) (sym e)
        (goes_to (context_at w vars a) body block (numbers needs) ats (f block (purpose_of w (For.Begins needs a body)) (slice_get-map (purpose_of w) k.requests.items block ∙ ap (option_map (purpose_of w)) asked)) held (let l = zipped_length _ _ _ held in omega (arith, l, few)));
  }
