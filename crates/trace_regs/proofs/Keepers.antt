-- Keepers of words, and what two environments keep alike: one by variables themselves, the other by their homes.
use Rattle.std.proofs.Common.{◌≡◌, ◌≢◌, ℕ, zero, suc, ◌<◌, ◌==◌, Bool, true, false, not, ◌||◌, if◌then◌else◌, List, [], ◌∷◌, length, get_or, slice_get, Some, All, Contains, refl, sym, ap, subst, ◌∙◌, arith, ◌⊎◌, inl, inr}
use Rattle.std.specs.Prelude.{filter}
use Rattle.std.specs.List.{list_any}
use Rattle.std.specs.Option.{option_map_or}
use Rattle.std.proofs.lemmas.Bool.{eqb-true, true≢false}
use Rattle.t_base.specs.declared.basics.Var.{Var}
use Rattle.word_ir.specs.declared.placed.Home.{Home}
use Rattle.word_ir.specs.declared.placed.Home.TheVariants as home
use Rattle.word_ir.specs.Word.{Word}
use Rattle.word_ir.specs.State.{Keeper, Own, At, keeper_of, same_home, same_keeper, Env, kept, State, held, has_room, hold, hold_all, is_in_frame}
use Rattle.word_ir.specs.WholePlaced.{same_var, without, AreApart}
use Rattle.word_ir.proofs.WholeLemmas.{not_so, own_number, same_var_is}
use Rattle.trace_regs.specs.Homes.{IsOutside}

-- ---- choices

pub chosen : {A : Type 0} (b : Bool) (x y : A) → b ≡ true → (if b then x else y) ≡ x
chosen true x y e = refl
chosen false x y e = not_so e

pub refused : {A : Type 0} (b : Bool) (x y : A) → b ≡ false → (if b then x else y) ≡ y
refused true x y e = absurd (true≢false e)
refused false x y e = refl

-- ---- keepers are told apart

home_is : (h k : Home) → same_home h k ≡ true → h ≡ k
home_is (home.D i) (home.D j) e = let same : i ≡ j = eqb-true i j e in ap (λ n. home.D n) same
home_is (home.D i) (home.A j) e = not_so e
home_is (home.D i) (home.Stack j) e = not_so e
home_is (home.D i) (home.Static j) e = not_so e
home_is (home.A i) (home.D j) e = not_so e
home_is (home.A i) (home.A j) e = let same : i ≡ j = eqb-true i j e in ap (λ n. home.A n) same
home_is (home.A i) (home.Stack j) e = not_so e
home_is (home.A i) (home.Static j) e = not_so e
home_is (home.Stack i) (home.D j) e = not_so e
home_is (home.Stack i) (home.A j) e = not_so e
home_is (home.Stack i) (home.Stack j) e = let same : i ≡ j = eqb-true i j e in ap (λ n. home.Stack n) same
home_is (home.Stack i) (home.Static j) e = not_so e
home_is (home.Static i) (home.D j) e = not_so e
home_is (home.Static i) (home.A j) e = not_so e
home_is (home.Static i) (home.Stack j) e = not_so e
home_is (home.Static i) (home.Static j) e = let same : i ≡ j = eqb-true i j e in ap (λ n. home.Static n) same

keeper_is : (a b : Keeper) → same_keeper a b ≡ true → a ≡ b
keeper_is (Own v) (Own w) e = let same : v ≡ w = eqb-true v w e in ap (λ n. Own n) same
keeper_is (Own v) (At h) e = not_so e
keeper_is (At h) (Own w) e = not_so e
keeper_is (At h) (At k) e = ap (λ x. At x) (home_is h k e)

own_home : (h : Home) → same_home h h ≡ true
own_home (home.D i) = own_number i
own_home (home.A i) = own_number i
own_home (home.Stack n) = own_number n
own_home (home.Static p) = own_number p

own_keeper : (k : Keeper) → same_keeper k k ≡ true
own_keeper (Own v) = own_number v
own_keeper (At h) = own_home h

other_keeper : (a b : Keeper) → a ≢ b → same_keeper a b ≡ false
other_keeper a b ne = by (same_keeper a b) refl
  where
    by : (t : Bool) → same_keeper a b ≡ t → t ≡ false
    by false e = refl
    by true e = absurd (ne (keeper_is a b e))

-- ---- keepers outside the stack

abbrev pub KeepsOutside : Keeper → Type 0
KeepsOutside (Own v) = Unit {0}
KeepsOutside (At h) = IsOutside h

pub outside_at : (homes : List Home) (n : ℕ) (k : Keeper) → KeepsOutside k → All IsOutside homes → KeepsOutside (option_map_or At (slice_get homes n) k)
outside_at [] n k o h = o
outside_at (x ∷ homes) zero k o h = h 0 x (omega arith)
outside_at (x ∷ homes) (suc n) k o h = outside_at homes n k o (λ i d lt. h (suc i) d (omega arith))

pub held_outside : (s : State) (k : Keeper) → KeepsOutside k → held s k ≡ kept s.env k
held_outside s (Own v) o = refl
held_outside s (At (home.D i)) o = refl
held_outside s (At (home.A i)) o = refl
held_outside s (At (home.Static p)) o = refl
held_outside s (At (home.Stack n)) o = absurd o

pub room_outside : (s : State) (k : Keeper) → KeepsOutside k → has_room s k ≡ true
room_outside s (Own v) o = refl
room_outside s (At (home.D i)) o = refl
room_outside s (At (home.A i)) o = refl
room_outside s (At (home.Static p)) o = refl
room_outside s (At (home.Stack n)) o = absurd o

pub frame_outside : (k : Keeper) → KeepsOutside k → is_in_frame k ≡ false
frame_outside (Own v) o = refl
frame_outside (At (home.D i)) o = refl
frame_outside (At (home.A i)) o = refl
frame_outside (At (home.Static p)) o = refl
frame_outside (At (home.Stack n)) o = absurd o

pub hold_outside : (s : State) (k : Keeper) (x : Word) → KeepsOutside k → hold s k x ≡ record s { env = (k, x) ∷ s.env }
hold_outside s (Own v) x o = refl
hold_outside s (At (home.D i)) x o = refl
hold_outside s (At (home.A i)) x o = refl
hold_outside s (At (home.Static p)) x o = refl
hold_outside s (At (home.Stack n)) x o = absurd o

-- ---- what is kept

kept_here : {X : Type 0} (env : Env X) (k : Keeper) (x : X) → kept ((k, x) ∷ env) k ≡ Some x
kept_here env k x = chosen (same_keeper k k) (Some x) (kept env k) (own_keeper k)

kept_past : {X : Type 0} (env : Env X) (a k : Keeper) (x : X) → a ≢ k → kept ((a, x) ∷ env) k ≡ kept env k
kept_past env a k x ne = refused (same_keeper a k) (Some x) (kept env k) (other_keeper a k ne)

pub same_or_not : (v w : Var) → (v ≡ w) ⊎ (v ≢ w)
same_or_not v w = by (same_var v w) refl
  where
    by : (b : Bool) → same_var v w ≡ b → (v ≡ w) ⊎ (v ≢ w)
    by true e = inl (sym (same_var_is v w e))
    by false e = inr (λ same. true≢false (sym (own_number v.0) ∙ ap (λ (u : Var). v.0 == u.0) same ∙ e))

own_apart : (v w : Var) → v ≢ w → Own v.0 ≢ Own w.0
own_apart v w ne e = ne (var_is v w (own_is v.0 w.0 e))
  where
    own_is : (i j : ℕ) → Own i ≡ Own j → i ≡ j
    own_is i j e = cc

    var_is : (v w : Var) → v.0 ≡ w.0 → v ≡ w
    var_is v w e = ap (λ (n : ℕ). record { 0 = n }) e

-- the first keeps variables by themselves, the second by their homes
abbrev pub Agree : {X : Type 0} → List Home → Env X → Env X → List Var → Type 0
Agree homes e f vars = (v : Var) → Contains vars v → kept e (Own v.0) ≡ kept f (keeper_of homes v)

-- one more word of another variable, with another home, or of the same one
pub agree_more : {X : Type 0} (homes : List Home) (e f : Env X) (w v : Var) (x : X) → (w ≢ v → keeper_of homes w ≢ keeper_of homes v) → (w ≢ v → kept e (Own v.0) ≡ kept f (keeper_of homes v))
    → kept ((Own w.0, x) ∷ e) (Own v.0) ≡ kept ((keeper_of homes w, x) ∷ f) (keeper_of homes v)
agree_more homes e f w v x apart h = by (same_or_not w v)
  where
    by : (w ≡ v) ⊎ (w ≢ v) → kept ((Own w.0, x) ∷ e) (Own v.0) ≡ kept ((keeper_of homes w, x) ∷ f) (keeper_of homes v)
    by (inl same) =
        subst (λ (u : Var). kept ((Own w.0, x) ∷ e) (Own u.0) ≡ kept ((keeper_of homes w, x) ∷ f) (keeper_of homes u)) same (kept_here e (Own w.0) x ∙ sym (kept_here f (keeper_of homes w) x))
    by (inr ne) = kept_past e (Own w.0) (Own v.0) x (own_apart w v ne) ∙ h ne ∙ sym (kept_past f (keeper_of homes w) (keeper_of homes v) x (apart ne))

-- ---- lists of variables

contains_filter : (p : Var → Bool) (vars : List Var) (v : Var) (k : ℕ) → k < length vars → get_or vars k v ≡ v → p v ≡ true → Contains (filter p vars) v
contains_filter p [] v k lt e h = absurd (omega arith)
contains_filter p (w ∷ vars) v zero lt e h = here (p w) refl
  where
    passes : p w ≡ true
    passes = ap p e ∙ h

    here : (b : Bool) → p w ≡ b → Contains (filter p (w ∷ vars)) v
    here true q = rw q (0, omega arith, e)
    here false q = absurd (true≢false (sym passes ∙ q))
contains_filter p (w ∷ vars) v (suc k) lt e h = there (p w) refl (contains_filter p vars v k (omega arith) e h)
  where
    there : (b : Bool) → p w ≡ b → Contains (filter p vars) v → Contains (filter p (w ∷ vars)) v
    there true q c = let low : c.0 < length (filter p vars) = c.1 in rw q (suc c.0, omega arith, c.2)
    there false q c = rw q c

pub without_none : (vars : List Var) (v : Var) → Contains vars v → Contains (without [] vars) v
without_none vars v c = contains_filter (λ w. not (list_any (same_var w) [])) vars v c.0 c.1 c.2 refl

pub without_one : (to : Var) (vars : List Var) (v : Var) → to ≢ v → Contains vars v → Contains (without (to ∷ []) vars) v
without_one to vars v ne c = contains_filter (λ w. not (list_any (same_var w) (to ∷ []))) vars v c.0 c.1 c.2 (by (same_var v to) refl)
  where
    by : (b : Bool) → same_var v to ≡ b → not (b || false) ≡ true
    by true e = absurd (ne (same_var_is v to e))
    by false e = refl

-- what a line binds, beside what is still used
pub agree_bound : {X : Type 0} (homes : List Home) (e f : Env X) (to : Var) (x : X) (rest : List Var) → AreApart homes (to ∷ rest) → Agree homes e f (without (to ∷ []) rest)
    → Agree homes ((Own to.0, x) ∷ e) ((keeper_of homes to, x) ∷ f) rest
agree_bound homes e f to x rest apart h v c =
    let low : c.0 < length rest = c.1 in
    agree_more homes e f to v x (λ ne. apart to v (0, omega arith, refl) (suc c.0, omega arith, c.2) ne) (λ ne. h v (without_one to rest v ne c))

-- ---- words that are bound at once

-- all of them, the last one first
abbrev pub all_kept : {X : Type 0} → Env X → Env X → Env X
all_kept base [] = base
all_kept base (b ∷ env) = all_kept (b ∷ base) env

-- the words of some parameters by themselves and by their homes
pub data Paired (X : Type 0) (homes : List Home) : List Var → Env X → Env X → Type 0 where
  Done : (params : List Var) → Paired X homes params [] []
  Both : (v : Var) (params : List Var) (x : X) (e f : Env X) → Paired X homes params e f → Paired X homes (v ∷ params) ((Own v.0, x) ∷ e) ((keeper_of homes v, x) ∷ f)
  Neither : (v : Var) (params : List Var) (e f : Env X) → Paired X homes params e f → Paired X homes (v ∷ params) e f

pub agree_paired : {X : Type 0} (homes : List Home) (v : Var) (params : List Var) (e f g h : Env X) → Paired X homes params e f → ((w : Var) → Contains params w → w ≢ v → keeper_of homes w ≢ keeper_of homes v)
    → kept g (Own v.0) ≡ kept h (keeper_of homes v) → kept (all_kept g e) (Own v.0) ≡ kept (all_kept h f) (keeper_of homes v)
agree_paired homes v params e f g h (Done all) apart same = same
agree_paired homes v params e f g h (Both w rest x d c p) apart same =
    agree_paired homes v rest d c ((Own w.0, x) ∷ g) ((keeper_of homes w, x) ∷ h) p (λ u k. apart u (let low : k.0 < length rest = k.1 in (suc k.0, omega arith, k.2)))
    (agree_more homes g h w v x (apart w (0, omega arith, refl)) (λ ne. same))
agree_paired homes v params e f g h (Neither w rest d c p) apart same =
    agree_paired homes v rest d c g h p (λ u k. apart u (let low : k.0 < length rest = k.1 in (suc k.0, omega arith, k.2))) same

-- each keeper is outside
abbrev pub AreOutside : {X : Type 0} → Env X → Type 0
AreOutside [] = Unit {0}
AreOutside (b ∷ env) = KeepsOutside b.0 × AreOutside env

pub hold_all_outside : (s : State) (env : Env Word) → AreOutside env → hold_all s env ≡ record s { env = all_kept s.env env }
hold_all_outside s [] o = refl
hold_all_outside s (b ∷ env) o = ap (λ t. hold_all t env) (hold_outside s b.0 b.1 o.0) ∙ hold_all_outside (record s { env = b ∷ s.env }) env o.1
