-- A term that is about to be done: what holds there, and what its arguments come to.
use Rattle.std.proofs.Common.{◌≡◌, ℕ, ◌≤◌, ◌⊎◌, List, [], ◌∷◌, length, Option, Some, None, refl, sym, ap, subst, ◌∙◌, arith}
use Rattle.std.specs.Prelude.{option_and_then, sum_by}
use Rattle.std.specs.Option.{option_map}
use Rattle.std.proofs.lemmas.List.Sums.{sum_by-cons}
use Rattle.t_base.specs.declared.shared_parts.Shared.{Shared}
use Rattle.t_prim.specs.Values.{Val}
use Rattle.cps_ir.specs.declared.args.Arg.{Arg}
use Rattle.cps_ir.specs.declared.terms.Cps.{Cps}
use Rattle.cps_ir.specs.States.{Live, Scope, State, marked, all_escape, Waiting, Back, count_of, broken}
use Rattle.cps_ir.specs.Giving.{with_args}
use Rattle.frame_ir.specs.declared.forms.FrameOp.{FrameOp}
use Rattle.frame_ir.specs.declared.forms.FrameEnd.{FrameEnd}
use Rattle.frame_ir.specs.declared.forms.Frames.{Frames}
use Rattle.frame_ir.specs.Values.{Frame, Env}
use Rattle.frame_ir.specs.States.{State as FrameState}
use Rattle.frame_ir.specs.Arguments.{lasting_value, lasting_values}
use Rattle.layout_relation.specs.Links.{Zipped, zip_none, zip_one, Links, SameVal}
use Rattle.layout_relation.specs.Contexts.{Context, Catching}
use Rattle.layout_relation.specs.Laid.{Sketch, StartsApart, Prepares, IsLaidOut}
use Rattle.layout_relation.specs.Related.{waits_bare, waits_framed, Leads, HoldAll, Waits, waits_none, waits_back, SameMade}
use Rattle.layout_relation.proofs.Preparing.{Prepared, prepared}

-- ---- what waits, counted

abbrev pub waiting_count : List Waiting → ℕ
waiting_count waiting = sum_by count_of waiting

pub waits_count : (w : Sketch) (links : Links) (frames : List Frame) (cs : List Catching) (waiting : List Waiting) (live : List ℕ) → Waits w links frames cs waiting live → length live ≡ waiting_count waiting
waits_count w links frames cs waiting live waits_none = refl
waits_count w links frames cs waiting live (waits_back pending rest birth older r f h) =
    let e = waits_count w links frames r.catches rest older h in
    let d = sum_by-cons count_of (Back pending) rest in
    omega (arith, e, d)
waits_count w links frames cs waiting live (waits_bare catch rest birth older back c passes h) =
    let e = waits_count w links frames [] rest older h in
    let d = sum_by-cons count_of (Live catch None) rest in
    omega (arith, e, d)
waits_count w links frames cs waiting live (waits_framed catch pending rest birth push older r f c h) =
    let e = waits_count w links frames r.catches rest older h in
    let d = sum_by-cons count_of (Live catch (Some pending)) rest in
    omega (arith, e, d)

-- ---- lists of values

pub record Cons (shared : Shared) (env : Env) (b : Arg) (bs : List Arg) (values : List Val) : Type 0 where
  pub head : Val
  pub tail : List Val
  pub are : values ≡ head ∷ tail
  pub first : lasting_value shared env b ≡ Some head
  pub others : lasting_values shared env bs ≡ Some tail

read_from : (shared : Shared) (env : Env) (b : Arg) (bs : List Arg) (values : List Val) (o : Option Val) (os : Option (List Val)) → lasting_value shared env b ≡ o → lasting_values shared env bs ≡ os
    → option_and_then (λ y. option_map (λ ys. y ∷ ys) os) o ≡ Some values → Cons shared env b bs values
read_from shared env b bs values None os e f h = absurd (never values h)
  where
    never : (vs : List Val) → None ≡ Some vs → ⊥
    never vs h = cc
read_from shared env b bs values (Some v) None e f h = absurd (never values h)
  where
    never : (vs : List Val) → None ≡ Some vs → ⊥
    never vs h = cc
read_from shared env b bs values (Some v) (Some vs) e f h = record { head = v; tail = vs; are = sym (same (v ∷ vs) values h); first = e; others = f }
  where
    same : (a b : List Val) → Some a ≡ Some b → a ≡ b
    same a b h = cc

pub read_cons : (shared : Shared) (env : Env) (b : Arg) (bs : List Arg) (values : List Val) → lasting_values shared env (b ∷ bs) ≡ Some values → Cons shared env b bs values
read_cons shared env b bs values e = read_from shared env b bs values (lasting_value shared env b) (lasting_values shared env bs) refl refl e

pub record ZipCons {A B : Type 0} (R : A → B → Type 0) (xs : List A) (y : B) (ys : List B) : Type 0 where
  pub head : A
  pub tail : List A
  pub are : xs ≡ head ∷ tail
  pub first : R head y
  pub others : Zipped R tail ys

pub zip_cons : {A B : Type 0} (R : A → B → Type 0) (xs : List A) (y : B) (ys : List B) → Zipped R xs (y ∷ ys) → ZipCons R xs y ys
zip_cons {A} {B} R xs y ys h = by xs (y ∷ ys) h refl
  where
    head_same : (a b : B) (xs ys : List B) → a ∷ xs ≡ b ∷ ys → a ≡ b
    head_same a b xs ys h = cc

    tail_same : (a b : B) (xs ys : List B) → a ∷ xs ≡ b ∷ ys → xs ≡ ys
    tail_same a b xs ys h = cc

    by : (us : List A) (vs : List B) → Zipped R us vs → vs ≡ y ∷ ys → ZipCons R us y ys
    by us vs zip_none e = absurd (never e)
      where
        never : [] ≡ y ∷ ys → ⊥
        never h = cc
    by us vs (zip_one a b as_ bs r rest) e = record { head = a; tail = as_; are = refl; first = subst (λ z. R a z) (head_same b y bs ys e) r; others = subst (λ zs. Zipped R as_ zs) (tail_same b y bs ys e) rest }

-- ---- a term

-- goes on with the first value and the others
abbrev pub with_others : (State → Val → List Val → State) → State → List Val → State
with_others go s [] = broken s
with_others go s (v ∷ vs) = go s v vs

-- arguments, of which there is a first one
pub record First (cps : Cps) (p : Frames) (laid : IsLaidOut cps p) (Low : ℕ → ℕ → Type 0) (links : Links) (scope : Scope) (vars : List (ℕ × ℕ)) (s : State) (u : FrameState) (a : Arg) (args : List Arg) (ms ops : List FrameOp) (b : Arg) (bs : List Arg) (last : FrameEnd) (env : Env) : Type 0 where
  pub x : Prepared cps p laid.sketch laid.small Low links scope vars s u (a ∷ args) ms ops (b ∷ bs) last env
  pub v : Val
  pub vs : List Val
  pub r : Val
  pub rs : List Val
  pub gives : (go : State → Val → List Val → State) → with_args (marked cps all_escape) scope (a ∷ args) s (with_others go) ≡ go x.left v vs
  pub reads : lasting_value p.shared x.env2 b ≡ Some r
  pub others : lasting_values p.shared x.env2 bs ≡ Some rs
  pub same : SameVal x.links2 v r
  pub sames : Zipped (SameVal x.links2) vs rs

pub first : (cps : Cps) (p : Frames) (laid : IsLaidOut cps p) (Low : ℕ → ℕ → Type 0) (links : Links) (scope : Scope) (vars : List (ℕ × ℕ)) (s : State) (u : FrameState) (a : Arg) (args : List Arg) (ms ops : List FrameOp) (b : Arg) (bs : List Arg) (last : FrameEnd) (env : Env)
    → SameMade cps laid.sketch links s u → HoldAll laid.sketch links scope env vars → Prepares cps laid.sketch vars (a ∷ args) ms (b ∷ bs) → StartsApart ops → First cps p laid Low links scope vars s u a args ms ops b bs last env
first cps p laid Low links scope vars s u a args ms ops b bs last env made held d apart =
    let x = prepared cps p laid.sketch laid.small Low links scope vars s u (a ∷ args) ms ops (b ∷ bs) last env made held d apart in
    let r = read_cons cps.shared x.env2 b bs x.rights x.reads in
    let z = zip_cons (SameVal x.links2) x.lefts r.head r.tail (subst (λ vs. Zipped (SameVal x.links2) x.lefts vs) r.are x.same) in
    record {
      x = x;
      v = z.head;
      vs = z.tail;
      r = r.head;
      rs = r.tail;
      gives = λ go. x.gives (with_others go) ∙ ap (with_others go x.left) z.are;
      reads = subst (λ sh. lasting_value sh x.env2 b ≡ Some r.head) (sym laid.shared) r.first;
      others = subst (λ sh. lasting_values sh x.env2 bs ≡ Some r.tail) (sym laid.shared) r.others;
      same = z.first;
      sames = z.others;
    }

-- What holds where a term is done: so much is low that the term comes to.
pub record Staged (cps : Cps) (p : Frames) (w : Sketch) (Low : ℕ → ℕ → Type 0) (c : Context) (scope : Scope) (env : Env) (s final : State) (u : FrameState) : Type 0 where
  pub links : Links
  pub made : SameMade cps w links s u
  pub held : HoldAll w links scope env c.vars
  pub leads : Leads scope c.exits
  pub waits : Waits w links u.frames c.catches s.waiting u.live
  pub low : (h n : ℕ) → h ≤ final.store.heap → (n ≤ length u.live) ⊎ (n ≤ waiting_count final.waiting) → Low h n
