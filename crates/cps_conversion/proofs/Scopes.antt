-- Scopes that bind more, where certain variables stay as they are.
use Rattle.std.proofs.Common.{◌≡◌, ℕ, suc, ◌+◌, ◌≤◌, ◌⊎◌, ◌==◌, Bool, true, false, ◌||◌, if◌then◌else◌, List, [], ◌∷◌, sum_by, Option, Some, refl, sym, ap, ◌∙◌, arith, inl, inr, ne_eqb, eq-eqb}
use Rattle.std.proofs.lemmas.Bool.{true≢false}
use Rattle.std.proofs.lemmas.List.Sums.{sum_by-cons}
use Rattle.t_base.specs.declared.basics.Var.{Var}
use Rattle.cps_ir.specs.Reaches.{is_in}
use Rattle.cps_ir.specs.States.{Meant, Bound, Scope, Pending, Waiting, Back, Live, count_of}
use Rattle.cps_ir.specs.Giving.{meant_by, Way, Out, On, Lost, way_of}
use Rattle.cps_conversion.specs.Conversion.{adding}

-- ---- what is in use

pub same_number : (v : ℕ) → (v == v) ≡ true
same_number v = eq-eqb v v refl

pub in_here : (v : ℕ) (held : List ℕ) → is_in (v ∷ held) v ≡ true
in_here v held = ap (λ b. b || is_in held v) (same_number v)

or_right : (a b : Bool) → b ≡ true → (a || b) ≡ true
or_right true b e = refl
or_right false b e = e

pub in_more : (v y : ℕ) (held : List ℕ) → is_in held y ≡ true → is_in (v ∷ held) y ≡ true
in_more v y held e = or_right (v == y) (is_in held y) e

pub in_cases : (v y : ℕ) (held : List ℕ) → is_in (v ∷ held) y ≡ true → ((v == y) ≡ true) ⊎ ((v == y) ≡ false) × (is_in held y ≡ true)
in_cases v y held h = by_test (v == y) refl h
  where
    by_test : (b : Bool) → (v == y) ≡ b → (b || is_in held y) ≡ true → ((v == y) ≡ true) ⊎ ((v == y) ≡ false) × (is_in held y ≡ true)
    by_test true e k = inl e
    by_test false e k = inr (e, k)

pub apart : (v y : ℕ) (held : List ℕ) → is_in held v ≡ false → is_in held y ≡ true → (v == y) ≡ false
apart v y held new old = ne_eqb v y (λ e. true≢false (sym old ∙ ap (is_in held) (sym e) ∙ new))

pub in_adding : (vars : List Var) (y : ℕ) (held : List ℕ) → is_in held y ≡ true → is_in (adding vars held) y ≡ true
in_adding [] y held e = e
in_adding (v ∷ vars) y held e = in_adding vars y (v.0 ∷ held) (in_more v.0 y held e)

-- ---- scopes

-- what is in use is meant as before, and every k leads where it led
pub record Extends (held : List ℕ) (sc sd : Scope) : Type 0 where
  pub meant : (y : ℕ) → is_in held y ≡ true → meant_by sd y ≡ meant_by sc y
  pub ways : (k : ℕ) → way_of sd k ≡ way_of sc k

pub extends_same : (held : List ℕ) (sc : Scope) → Extends held sc sc
extends_same held sc = record { meant = λ y e. refl; ways = λ k. refl }

pub extends_trans : (held : List ℕ) (sc sd se : Scope) → Extends held sc sd → Extends held sd se → Extends held sc se
extends_trans held sc sd se h k = record { meant = λ y e. k.meant y e ∙ h.meant y e; ways = λ j. k.ways j ∙ h.ways j }

-- less is in use
pub extends_less : (held less : List ℕ) (sc sd : Scope) → ((y : ℕ) → is_in less y ≡ true → is_in held y ≡ true) → Extends held sc sd → Extends less sc sd
extends_less held less sc sd f h = record { meant = λ y e. h.meant y (f y e); ways = h.ways }

pub meant_here : (v : ℕ) (m : Meant) (sc : Scope) → meant_by (Bound v m ∷ sc) v ≡ Some m
meant_here v m sc = ap (λ b. if b then Some m else meant_by sc v) (same_number v)

pub meant_before : (v y : ℕ) (m : Meant) (sc : Scope) → (v == y) ≡ false → meant_by (Bound v m ∷ sc) y ≡ meant_by sc y
meant_before v y m sc e = ap (λ b. if b then Some m else meant_by sc y) e

pub extends_bound : (held : List ℕ) (v : ℕ) (m : Meant) (sc : Scope) → is_in held v ≡ false → Extends held sc (Bound v m ∷ sc)
extends_bound held v m sc new = record { meant = λ y e. meant_before v y m sc (apart v y held new e); ways = λ k. refl }

-- ---- what waits

abbrev pub total : List Waiting → ℕ
total ws = sum_by count_of ws

pub total_back : (pending : Pending) (ws : List Waiting) → total (Back pending ∷ ws) ≡ suc (total ws)
total_back pending ws = omega (arith, sum_by-cons count_of (Back pending) ws)

pub total_live : (i : ℕ) (own : Option Pending) (ws : List Waiting) → total (Live i own ∷ ws) ≡ count_of (Live i own) + total ws
total_live i own ws = sum_by-cons count_of (Live i own) ws

-- a call waits first
abbrev pub IsBack : List Waiting → Type 0
IsBack [] = ⊥
IsBack (Back pending ∷ ws) = Unit {0}
IsBack (Live i own ∷ ws) = ⊥

-- with the continuation that leads there no more waits than that; what leads out leads to a call
abbrev pub Waits : Way → List Waiting → ℕ → Type 0
Waits Out ws d = IsBack ws × (total ws ≤ d)
Waits (On pending) ws d = suc (total ws) ≤ d
Waits Lost ws d = ⊥

pub waits_least : (w : Way) (ws : List Waiting) (d : ℕ) → Waits w ws d → total ws ≤ d
waits_least Out ws d h = h.1
waits_least (On pending) ws d h = omega (arith, h)
waits_least Lost ws d h = absurd h

pub waits_more : (w : Way) (ws : List Waiting) (d e : ℕ) → d ≤ e → Waits w ws d → Waits w ws e
waits_more Out ws d e le h = (h.0, omega (arith, h.1, le))
waits_more (On pending) ws d e le h = omega (arith, h, le)
waits_more Lost ws d e le h = h
