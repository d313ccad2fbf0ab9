-- Scopes, and where continuations lead.
use Rattle.std.proofs.Common.{◌≡◌, ℕ, ◌==◌, Bool, true, false, if◌then◌else◌, List, ◌∷◌, Some, refl, sym, ap, subst, ◌∙◌}
use Rattle.std.specs.List.{AllByRecursion}
use Rattle.std.proofs.lemmas.Bool.{eq-eqb, ne_eqb, eqb-false}
use Rattle.cps_ir.specs.Reaches.{is_in}
use Rattle.cps_ir.specs.States.{Meant, Bound, Joined, Scope}
use Rattle.cps_ir.specs.Giving.{meant_by, Out, On, Lost, way_of}
use Rattle.frame_ir.specs.Values.{Value, Env, value_at}
use Rattle.layout_relation.specs.Links.{IsIn, first, later, Links, SameMeant}
use Rattle.layout_relation.specs.Contexts.{Meeting, Exits, NoExit, OwnExit, JoinExit, Leaves, Meets, Nowhere, exit_of, IsUnneeded, IsUnused}
use Rattle.layout_relation.specs.Laid.{Sketch}
use Rattle.layout_relation.specs.Related.{Leads, leads_none, leads_own, leads_join, leads_bound, Holds, HoldAll, IsCaptured}
use Rattle.layout_relation.proofs.Lists.{all_in, in_is_not}

-- ---- where a continuation leads

-- a continuation that leaves the procedure
leaves_not : (m : Meeting) (rest : Exits) → Meets m rest ≡ Leaves → ⊥
leaves_not m rest h = cc

pub leads_out : (scope : Scope) (exits : Exits) (k : ℕ) → Leads scope exits → exit_of exits k ≡ Leaves → way_of scope k ≡ Out
leads_out scope exits k (leads_none s) e = absurd (never e)
  where
    never : Nowhere ≡ Leaves → ⊥
    never h = cc
leads_out scope exits k (leads_own j s) e = by (j == k) e
  where
    by : (b : Bool) → (if b then Leaves else Nowhere) ≡ Leaves → (if b then Out else Lost) ≡ Out
    by true h = refl
    by false h = absurd (never h)
      where
        never : Nowhere ≡ Leaves → ⊥
        never h = cc
leads_out scope exits k (leads_join m s rest h) e = by (leads_out s rest k h) (m.k == k) e
  where
    by : (exit_of rest k ≡ Leaves → way_of s k ≡ Out) → (b : Bool) → (if b then Meets m rest else exit_of rest k) ≡ Leaves → (if b then On (record { param = m.param; body = m.body; scope = s }) else way_of s k) ≡ Out
    by go true g = absurd (leaves_not m rest g)
    by go false g = go g
leads_out scope exits k (leads_bound x meant s es u h) e = leads_out s es k h e

-- a continuation that leads to a Join: the scope there, in which the needed variables mean the same
pub record LeadsTo (scope : Scope) (k : ℕ) (m : Meeting) (rest : Exits) : Type 0 where
  pub inner : Scope
  pub way : way_of scope k ≡ On (record { param = m.param; body = m.body; scope = inner })
  pub leads : Leads inner rest
  pub same : (x : ℕ) → IsIn x m.needs → meant_by inner x ≡ meant_by scope x

-- what a Join needs isn't what is bound behind it
pub needed_there : (exits : Exits) (k x : ℕ) (m : Meeting) (rest : Exits) → exit_of exits k ≡ Meets m rest → IsUnneeded exits x → is_in m.needs x ≡ false
needed_there NoExit k x m rest e u = absurd (never e)
  where
    never : Nowhere ≡ Meets m rest → ⊥
    never h = cc
needed_there (OwnExit j) k x m rest e u = absurd (by (j == k) e)
  where
    by : (b : Bool) → (if b then Leaves else Nowhere) ≡ Meets m rest → ⊥
    by true h = cc
    by false h = cc
needed_there (JoinExit n inner) k x m rest e u = by (λ h. needed_there inner k x m rest h u.1) (n.k == k) e
  where
    meets_same : Meets n inner ≡ Meets m rest → n ≡ m
    meets_same h = cc

    by : (exit_of inner k ≡ Meets m rest → is_in m.needs x ≡ false) → (b : Bool) → (if b then Meets n inner else exit_of inner k) ≡ Meets m rest → is_in m.needs x ≡ false
    by go true h = subst (λ o. is_in o.needs x ≡ false) (meets_same h) u.0
    by go false h = go h

pub other_meant : (y x : ℕ) (meant : Meant) (scope : Scope) → (y == x) ≡ false → meant_by (Bound y meant ∷ scope) x ≡ meant_by scope x
other_meant y x meant scope e = ap (λ b. if b then Some meant else meant_by scope x) e

pub eqb_flip : (x y : ℕ) → (x == y) ≡ false → (y == x) ≡ false
eqb_flip x y e = ne_eqb y x (λ (h : y ≡ x). eqb-false x y e (sym h))

pub leads_to : (scope : Scope) (exits : Exits) (k : ℕ) (m : Meeting) (rest : Exits) → Leads scope exits → exit_of exits k ≡ Meets m rest → LeadsTo scope k m rest
leads_to scope exits k m rest (leads_none s) e = absurd (never e)
  where
    never : Nowhere ≡ Meets m rest → ⊥
    never h = cc
leads_to scope exits k m rest (leads_own j s) e = absurd (by (j == k) e)
  where
    by : (b : Bool) → (if b then Leaves else Nowhere) ≡ Meets m rest → ⊥
    by true h = cc
    by false h = cc
leads_to scope exits k m rest (leads_join n s inner h) e = by (λ g. leads_to s inner k m rest h g) (n.k == k) refl
  where
    same_meeting : Meets n inner ≡ Meets m rest → n ≡ m
    same_meeting g = cc

    same_rest : Meets n inner ≡ Meets m rest → inner ≡ rest
    same_rest g = cc

    by : (exit_of inner k ≡ Meets m rest → LeadsTo s k m rest) → (b : Bool) → (n.k == k) ≡ b → LeadsTo (Joined n.k n.param n.body ∷ s) k m rest
    by go true g =
        let found : Meets n inner ≡ Meets m rest = sym (ap (λ b. if b then Meets n inner else exit_of inner k) g) ∙ e in
        record {
          inner = s;
          way = ap (λ b. if b then On (record { param = n.param; body = n.body; scope = s }) else way_of s k) g ∙ ap (λ o. On (record { param = o.param; body = o.body; scope = s })) (same_meeting found);
          leads = subst (λ es. Leads s es) (same_rest found) h;
          same = λ x i. refl;
        }
    by go false g =
        let r = go (sym (ap (λ b. if b then Meets n inner else exit_of inner k) g) ∙ e) in
        record {
          inner = r.inner;
          way = ap (λ b. if b then On (record { param = n.param; body = n.body; scope = s }) else way_of s k) g ∙ r.way;
          leads = r.leads;
          same = r.same;
        }
leads_to scope exits k m rest (leads_bound x meant s es u h) e =
    let r = leads_to s es k m rest h e in
    record {
      inner = r.inner;
      way = r.way;
      leads = r.leads;
      same = λ y i. r.same y i ∙ sym (other_meant x y meant s (eqb_flip y x (in_is_not m.needs x y (needed_there es k x m rest e u) i)));
    }

-- ---- what holds

pub other_value : (y x : ℕ) (v : Value) (env : Env) → (y == x) ≡ false → value_at ((y, v) ∷ env) x ≡ value_at env x
other_value y x v env e = ap (λ b. if b then Some v else value_at env x) e

pub eqb_same : (x : ℕ) → (x == x) ≡ true
eqb_same x = eq-eqb x x refl

module _ (w : Sketch) (links : Links) where
  -- one variable more in the scope
  pub hold_bound : (scope : Scope) (env : Env) (vars : List (ℕ × ℕ)) (x : ℕ) (meant : Meant) → AllByRecursion (λ p. (p.0 == x) ≡ false) vars → HoldAll w links scope env vars → HoldAll w links (Bound x meant ∷ scope) env vars
  hold_bound scope env vars x meant fresh h a b i =
      let k = h a b i in
      record { meant = k.meant; value = k.value; is = other_meant x a meant scope (eqb_flip a x (all_in (λ p. (p.0 == x) ≡ false) vars (a, b) fresh i)) ∙ k.is; at = k.at; same = k.same }

  -- one variable of the frames more
  pub hold_set : (scope : Scope) (env : Env) (vars : List (ℕ × ℕ)) (y : ℕ) (v : Value) → IsUnused vars y → HoldAll w links scope env vars → HoldAll w links scope ((y, v) ∷ env) vars
  hold_set scope env vars y v unused h a b i =
      let k = h a b i in
      record { meant = k.meant; value = k.value; is = k.is; at = other_value y b v env (eqb_flip b y (all_in (λ p. (p.1 == y) ≡ false) vars (a, b) unused i)) ∙ k.at; same = k.same }

  pub hold_more : (scope : Scope) (env : Env) (vars : List (ℕ × ℕ)) (x y : ℕ) → Holds w links scope env x y → HoldAll w links scope env vars → HoldAll w links scope env ((x, y) ∷ vars)
  hold_more scope env vars x y new h a b i = by a b (x, y) vars i new h
    where
      by : (a b : ℕ) (p : ℕ × ℕ) (vars : List (ℕ × ℕ)) → IsIn (a, b) (p ∷ vars) → Holds w links scope env p.0 p.1 → HoldAll w links scope env vars → Holds w links scope env a b
      by a b p vars (first q qs) new h = new
      by a b p vars (later q r qs i) new h = h a b i

  -- what is held is captured
  pub captures : (scope : Scope) (env : Env) (vars : List (ℕ × ℕ)) (x : ℕ) (y : ℕ) (v : Value) → HoldAll w links scope env vars → IsIn (x, y) vars → value_at env y ≡ Some v → IsCaptured w links scope x v
  captures scope env vars x y v h i e =
      let k = h x y i in
      record { meant = k.meant; is = k.is; same = subst (λ u. SameMeant links (w.celled x) k.meant u) (same_some k.value v (sym k.at ∙ e)) k.same }
    where
      same_some : (a b : Value) → Some a ≡ Some b → a ≡ b
      same_some a b h = cc
