-- Variables that a node binds: each is bound there alone, and what stands in place of the assigned ones.
use Rattle.std.proofs.Common.{◌≡◌, ℕ, suc, ◌<◌, ◌≤◌, Bool, true, false, ◌||◌, List, [], ◌∷◌, Option, Some, None, slice_get, option_and_then, refl, sym, ap, ◌∙◌, subst, arith, inl, inr, ne_eqb}
use Rattle.std.proofs.lemmas.Bool.{true≢false, eqb-true}
use Rattle.std.specs.List.{flat_map}
use Rattle.t_base.specs.declared.basics.Var.{Var}
use Rattle.t_core.specs.declared.forms.Core.{Core}
use Rattle.t_core.specs.declared.forms.Form.{Form}
use Rattle.t_core.specs.declared.forms.UnitCore.{UnitCore}
use Rattle.t_core.specs.Nodes.{binders_of}
use Rattle.t_core.specs.Whole.{binders}
use Rattle.t_meaning.specs.Programs.{node_at}
use Rattle.t_meaning.specs.Costs.{is_assigned}
use Rattle.expand_laws.proofs.Standing.{StandsOnce, once_within, one_piece, once_distinct}
use Rattle.cps_ir.specs.declared.args.Arg.{Arg}
use Rattle.cps_ir.specs.declared.args.Arg.TheVariants as Argument
use Rattle.cps_ir.specs.Reaches.{is_in}
use Rattle.cps_conversion.specs.Conversion.{Translation, IsNew, AreNew, Assigned, adding, variables}
use Rattle.cps_conversion.proofs.Scopes.{in_here, in_more, in_cases, in_adding}
use Rattle.cps_convert.specs.Claims.{HasMarks, IsBinder, Setting, IsOuter, AreOuter, AreOwn}
use Rattle.cps_convert.specs.Naming.{IsName, AreNames, IsBoundTo, AreBoundTo}
use Rattle.cps_convert.proofs.Spots.{are_more, outer_cons, fresh_new}

-- ---- once in the unit

pub form_of : (unit : UnitCore) (form key : ℕ) (node : Core) → node_at unit form key ≡ Some node → (f : Form) × (slice_get unit.forms.items form ≡ Some f) × (slice_get f.nodes.items key ≡ Some node)
form_of unit form key node there = by (slice_get unit.forms.items form) refl there
  where
    by : (o : Option Form) → slice_get unit.forms.items form ≡ o → option_and_then (λ f. slice_get f.nodes.items key) o ≡ Some node
        → (f : Form) × (slice_get unit.forms.items form ≡ Some f) × (slice_get f.nodes.items key ≡ Some node)
    by None e h = cc
    by (Some f) e h = (f, e, h)

pub once_in_form : (unit : UnitCore) (marks : List Bool) (base form : ℕ) (f : Form) (v : Var) → Setting unit marks base → slice_get unit.forms.items form ≡ Some f → StandsOnce (flat_map binders_of f.nodes.items) v
once_in_form unit marks base form f v setting at =
    once_within (λ g. flat_map binders_of g.nodes.items) unit.forms.items form f v (once_distinct (binders unit) v setting.whole.scopes.bound_once) at

-- a variable is bound at one node
pub one_binder : (unit : UnitCore) (marks : List Bool) (base form p q v : ℕ) → Setting unit marks base → IsBinder unit form p v → IsBinder unit form q v → p ≡ q
one_binder unit marks base form p q v setting a b =
    let f = form_of unit form p a.node a.there in
    let g = form_of unit form q b.node b.there in
    let same : g.0 ≡ f.0 = by_some (sym g.1 ∙ f.1) in
    let var : b.var ≡ a.var = ap (λ n. record { 0 = n }) (b.number ∙ sym a.number) in
    one_piece binders_of f.0.nodes.items p q a.place b.place a.node b.node a.var (once_in_form unit marks base form f.0 a.var setting f.1) f.2
    (subst (λ h. slice_get h.nodes.items q ≡ Some b.node) same g.2) a.binds (subst (λ w. slice_get (binders_of b.node) b.place ≡ Some w) var b.binds)
  where
    by_some : {f g : Form} → Some f ≡ Some g → f ≡ g
    by_some e = cc

pub own_apart : (unit : UnitCore) (marks : List Bool) (base next form key v : ℕ) (held : List ℕ) → Setting unit marks base → IsBinder unit form key v → AreOuter unit base next form (suc key) held → is_in held v ≡ false
own_apart unit marks base next form key v held setting own outs = by (is_in held v) refl
  where
    none : IsOuter unit base next form (suc key) v → ⊥
    none (inl o) = let below : v < base = setting.binders form key v own in omega (arith, below, o.0)
    none (inr o) = let same : o.0 ≡ key = one_binder unit marks base form o.0 key v setting o.2 own in omega (arith, same, o.1)

    by : (b : Bool) → is_in held v ≡ b → is_in held v ≡ false
    by true e = absurd (none (outs v e))
    by false e = e

-- ---- variables that aren't held

-- none of the variables is held
abbrev pub NoneHeld : List ℕ → List Var → Type 0
NoneHeld held [] = Unit {0}
NoneHeld held (v ∷ vars) = (is_in held v.0 ≡ false) × NoneHeld held vars

-- of those that are assigned
abbrev pub NoneSet : UnitCore → List ℕ → List Var → Type 0
NoneSet unit held [] = Unit {0}
NoneSet unit held (v ∷ vars) = (is_assigned unit v ≡ true → is_in held v.0 ≡ false) × NoneSet unit held vars

pub not_in_cons : (y v : ℕ) (held : List ℕ) → (y ≡ v → ⊥) → is_in held v ≡ false → is_in (y ∷ held) v ≡ false
not_in_cons y v held apart e = ap (λ b. b || is_in held v) (ne_eqb y v apart) ∙ e

pub none_held : (unit : UnitCore) (marks : List Bool) (base next form key : ℕ) (held : List ℕ) (vars : List Var) → Setting unit marks base → AreOuter unit base next form (suc key) held → AreOwn unit form key vars → NoneHeld held vars
none_held unit marks base next form key held [] setting outs own = tt
none_held unit marks base next form key held (v ∷ vars) setting outs own =
    (own_apart unit marks base next form key v.0 held setting own.0 outs, none_held unit marks base next form key held vars setting outs own.2)

-- a new variable more is held
pub none_fresh : (unit : UnitCore) (marks : List Bool) (base form key y : ℕ) (held : List ℕ) (vars : List Var) → Setting unit marks base → base ≤ y → AreOwn unit form key vars → NoneHeld held vars → NoneHeld (y ∷ held) vars
none_fresh unit marks base form key y held [] setting new own h = tt
none_fresh unit marks base form key y held (v ∷ vars) setting new own h =
    let below : v.0 < base = setting.binders form key v.0 own.0 in
    (not_in_cons y v.0 held (λ e. omega (arith, e, below, new)) h.0, none_fresh unit marks base form key y held vars setting new own.2 h.1)

pub adding_other : (vars : List Var) (n : ℕ) (held more : List ℕ) → is_in (adding vars (held)) n ≡ false → ((m : ℕ) → is_in more m ≡ true → is_in held m ≡ true) → is_in (adding vars more) n ≡ false
adding_other [] n held more h sub = by (is_in more n) refl
  where
    by : (b : Bool) → is_in more n ≡ b → is_in more n ≡ false
    by true e = absurd (true≢false (sym (sub n e) ∙ h))
    by false e = e
adding_other (v ∷ vars) n held more h sub = adding_other vars n (v.0 ∷ held) (v.0 ∷ more) h (λ m e. elim (in_cases v.0 m more e) [ inl s ↦ subst (λ k. is_in (k ∷ held) m ≡ true) (sym (eqb-true v.0 m s)) (in_here m held) | inr r ↦ in_more v.0 m held (sub m r.1) ])

-- one of the variables themselves more is held, which none of the others is
pub none_own : (v : Var) (held : List ℕ) (vars : List Var) → is_in (adding vars []) v.0 ≡ false → NoneHeld held vars → NoneHeld (v.0 ∷ held) vars
none_own v held [] apart h = tt
none_own v held (w ∷ vars) apart h = (
  not_in_cons v.0 w.0 held (λ e. true≢false (sym (in_adding vars v.0 (w.0 ∷ []) (subst (λ n. is_in (n ∷ []) v.0 ≡ true) e (in_here v.0 []))) ∙ apart)) h.0,
  none_own v held vars (adding_other vars v.0 (w.0 ∷ []) [] apart (λ m e. absurd (true≢false (sym e)))) h.1,
)

-- ---- names

-- names in place of variables that the node binds are new
pub names_new : (x : Translation) (marks : List Bool) (base next after form key : ℕ) (vars names : List Var) (acc : List ℕ) → Setting x.unit marks base → base ≤ next → AreOuter x.unit base next form key acc
    → AreOwn x.unit form key vars → NoneHeld acc vars → AreNames marks next after vars names → AreNew x acc names
names_new x marks base next after form key [] [] acc setting first outs own none h = tt
names_new x marks base next after form key (v ∷ vars) (y ∷ names) acc setting first outs own none h =
    by h.1 (λ first' outs' none'. names_new x marks base h.0 after form key vars names (y.0 ∷ acc) setting first' outs' own.2 none' h.2)
  where
    by : IsName marks next h.0 v y → (base ≤ h.0 → AreOuter x.unit base h.0 form key (y.0 ∷ acc) → NoneHeld (y.0 ∷ acc) vars → AreNew x (y.0 ∷ acc) names) → IsNew x acc y × AreNew x (y.0 ∷ acc) names
    by (inl n) go =
        let is : y.0 ≡ next = n.1 in
        let up : next < h.0 = n.2 in
        let new : base ≤ y.0 = omega (arith, first, is) in (
          fresh_new x marks base next form key y acc setting first (omega (arith, is)) outs,
          go (omega (arith, first, up)) (outer_cons x.unit base h.0 form key y.0 acc (inl (new, omega (arith, is, up))) (are_more x.unit base next h.0 form key key (omega (arith, up)) (omega arith) acc outs))
              (none_fresh x.unit marks base form key y.0 acc vars setting new own.2 none.1),
        )
    by (inr n) go =
        let same : v ≡ y = sym n.1 in
        let up : h.0 ≡ next = n.2 in (
          record { apart = subst (λ w. is_in acc w.0 ≡ false) same none.0; unassigned = subst (λ w. is_assigned x.unit w ≡ false) same (sym (setting.marked v) ∙ n.0) },
          go (omega (arith, first, up))
              (subst (λ w. AreOuter x.unit base h.0 form key (w.0 ∷ acc)) same
              (outer_cons x.unit base h.0 form key v.0 acc (inr (key, omega arith, own.0)) (are_more x.unit base next h.0 form key key (omega (arith, up)) (omega arith) acc outs)))
              (subst (λ w. NoneHeld (w.0 ∷ acc) vars) same (none_own v acc vars own.1 none.1)),
        )
names_new x marks base next after form key [] (y ∷ names) acc setting first outs own none h = absurd h
names_new x marks base next after form key (v ∷ vars) [] acc setting first outs own none h = absurd h

-- no assigned variable is among them
pub names_apart : (unit : UnitCore) (marks : List Bool) (base next after : ℕ) (vars names : List Var) (acc : List ℕ) (w : Var) → Setting unit marks base → base ≤ next → is_assigned unit w ≡ true → is_in acc w.0 ≡ false
    → AreNames marks next after vars names → is_in (adding names acc) w.0 ≡ false
names_apart unit marks base next after [] [] acc w setting first set out h = out
names_apart unit marks base next after (v ∷ vars) (y ∷ names) acc w setting first set out h =
    by h.1 (λ first' out'. names_apart unit marks base h.0 after vars names (y.0 ∷ acc) w setting first' set out' h.2)
  where
    by : IsName marks next h.0 v y → (base ≤ h.0 → is_in (y.0 ∷ acc) w.0 ≡ false → is_in (adding names (y.0 ∷ acc)) w.0 ≡ false) → is_in (adding names (y.0 ∷ acc)) w.0 ≡ false
    by (inl n) go =
        let below : w.0 < base = setting.assigned w set in
        go (omega (arith, first, n.2)) (not_in_cons y.0 w.0 acc (λ e. omega (arith, e, below, first, n.1)) out)
    by (inr n) go =
        let free : is_assigned unit v ≡ false = sym (setting.marked v) ∙ n.0 in
        go (omega (arith, first, n.2))
        (not_in_cons y.0 w.0 acc (λ e. let same : v ≡ w = ap (λ k. record { 0 = k }) (ap (λ z. z.0) (sym n.1) ∙ e) in true≢false (sym set ∙ sym (ap (is_assigned unit) same) ∙ free)) out)
names_apart unit marks base next after [] (y ∷ names) acc w setting first set out h = absurd h
names_apart unit marks base next after (v ∷ vars) [] acc w setting first set out h = absurd h

-- ---- assigned variables

-- one more is held, which none of the others is
pub set_more : (unit : UnitCore) (v : Var) (held : List ℕ) (vars : List Var) → is_in (adding vars []) v.0 ≡ false → NoneSet unit held vars → NoneSet unit (v.0 ∷ held) vars
set_more unit v held [] apart h = tt
set_more unit v held (w ∷ vars) apart h = (
  (λ set. not_in_cons v.0 w.0 held (λ e. true≢false (sym (in_adding vars v.0 (w.0 ∷ []) (subst (λ n. is_in (n ∷ []) v.0 ≡ true) e (in_here v.0 []))) ∙ apart)) (h.0 set)),
  set_more unit v held vars (adding_other vars v.0 (w.0 ∷ []) [] apart (λ m e. absurd (true≢false (sym e)))) h.1,
)

-- an argument for a variable that isn't assigned is the variable
abbrev pub ArePlain : UnitCore → List Var → List Arg → Type 0
ArePlain unit [] [] = Unit {0}
ArePlain unit (v ∷ vars) (a ∷ args) = (is_assigned unit v ≡ false → a ≡ Argument.Var v) × ArePlain unit vars args
ArePlain unit _ _ = ⊥

pub names_plain : (unit : UnitCore) (marks : List Bool) (next after : ℕ) (vars names : List Var) → HasMarks unit marks → AreNames marks next after vars names → ArePlain unit vars (variables names)
names_plain unit marks next after [] [] marked h = tt
names_plain unit marks next after (v ∷ vars) (y ∷ names) marked h = (by h.1, names_plain unit marks h.0 after vars names marked h.2)
  where
    by : IsName marks next h.0 v y → is_assigned unit v ≡ false → Argument.Var y ≡ Argument.Var v
    by (inl n) free = absurd (true≢false (sym n.0 ∙ marked v ∙ free))
    by (inr n) free = ap Argument.Var n.1
names_plain unit marks next after [] (y ∷ names) marked h = absurd h
names_plain unit marks next after (v ∷ vars) [] marked h = absurd h

pub assigned_from : (x : Translation) (marks : List Bool) (form key : ℕ) (held : List ℕ) (vars : List Var) (args : List Arg) (t next : ℕ) → HasMarks x.unit marks → AreOwn x.unit form key vars → NoneSet x.unit held vars
    → ArePlain x.unit vars args → AreBoundTo x marks vars args t next → Assigned x held vars args t next
assigned_from x marks form key held [] [] t next marked own none plain h = h
assigned_from x marks form key held (v ∷ vars) (a ∷ args) t next marked own none plain h =
    by h.1 (assigned_from x marks form key held vars args h.0 next marked own.2 none.1 plain.1 h.2)
    (assigned_from x marks form key (v.0 ∷ held) vars args h.0 next marked own.2 (set_more x.unit v held vars own.1 none.1) plain.1 h.2)
  where
    by : IsBoundTo x marks v a t h.0 → Assigned x held vars args h.0 next → Assigned x (v.0 ∷ held) vars args h.0 next → Assigned x held (v ∷ vars) (a ∷ args) t next
    by (inl b) same more = let free : is_assigned x.unit v ≡ false = sym (marked v) ∙ b.0 in inl (free, plain.0 free, subst (λ n. Assigned x held vars args n next) b.1 same)
    by (inr b) same more = let set : is_assigned x.unit v ≡ true = sym (marked v) ∙ b.0 in inr (set, none.0 set, (h.0, b.1, more))
assigned_from x marks form key held [] (a ∷ args) t next marked own none plain h = absurd h
assigned_from x marks form key held (v ∷ vars) [] t next marked own none plain h = absurd h

-- what holds of all holds of the assigned ones
pub none_set : (unit : UnitCore) (held : List ℕ) (vars : List Var) → NoneHeld held vars → NoneSet unit held vars
none_set unit held [] h = tt
none_set unit held (v ∷ vars) h = ((λ set. h.0), none_set unit held vars h.1)

-- where names are held too
pub named_set : (unit : UnitCore) (marks : List Bool) (base next after : ℕ) (all names : List Var) (held : List ℕ) (vars : List Var) → Setting unit marks base → base ≤ next → AreNames marks next after all names → NoneHeld held vars
    → NoneSet unit (adding names held) vars
named_set unit marks base next after all names held [] setting first h none = tt
named_set unit marks base next after all names held (v ∷ vars) setting first h none =
    ((λ set. names_apart unit marks base next after all names held v setting first set none.0 h), named_set unit marks base next after all names held vars setting first h none.1)
