-- A block's parameters have their words where their homes do.
use Rattle.std.proofs.Common.{◌≡◌, ◌≢◌, ℕ, zero, suc, ◌+◌, ◌*◌, Bool, true, false, inl, inr, ◌⊎◌, List, [], ◌∷◌, Option, Some, None, slice_get, map, refl, ap, sym, subst, ◌∙◌}
use Rattle.std.specs.Prelude.{if◌then◌else◌, option_map}
use Rattle.std.specs.Option.{option_map_or}
use Rattle.std.proofs.lemmas.Bool.{eq-eqb}
use Rattle.std.proofs.lemmas.Bool.Decides.{eqb_tells}
use Rattle.std.proofs.lemmas.Option.{get_or_from_slice_get}
use Rattle.t_base.specs.declared.basics.Var.{Var}
use Rattle.word_ir.specs.declared.operands.Operand.{Operand}
use Rattle.word_ir.specs.declared.placed.Home.{Home}
use Rattle.word_ir.specs.declared.placed.Home.TheVariants as home
use Rattle.word_ir.specs.Word.{Word}
use Rattle.word_ir.specs.Storage.{long_at}
use Rattle.word_ir.specs.State.{Setting, State as WordState, Env, Keeper, Own, At, keeper_of, held, hold, hold_all, has_room, stack_at}
use Rattle.word_ir.specs.Effects.{word_of, paired, pairs_of}
use Rattle.word_ir.specs.Step.{into}
use Rattle.m68020_step.specs.Step.{State}
use Rattle.lap_items.specs.Homes.{home_of}
use Rattle.lap_runs.specs.Represents.{HasWord, Represents}
use Rattle.lap_paths.specs.Housed.{HasHome}
use Rattle.lap_paths.proofs.WordStorage.{stored_same, stored_other, visible, seen}
use Rattle.lap_lines.proofs.Arriving.{turning}
use Rattle.lap_jumps.proofs.Completing.{other_kept}

some_same : {X : Type 0} (x y : X) → Some x ≡ Some y → x ≡ y
some_same x y e = cc

key_same : (k l : Keeper) (w x : Word) → ◌≡◌ {A = Option (Keeper × Word)} (Some (k, w)) (Some (l, x)) → k ≡ l
key_same k l w x e = ap (λ (p : Keeper × Word). p.0) (some_same {X = Keeper × Word} (k, w) (l, x) e)

word_same : (k l : Keeper) (w x : Word) → ◌≡◌ {A = Option (Keeper × Word)} (Some (k, w)) (Some (l, x)) → w ≡ x
word_same k l w x e = ap (λ (p : Keeper × Word). p.1) (some_same {X = Keeper × Word} (k, w) (l, x) e)

home_same : (h k : Home) → At h ≡ At k → h ≡ k
home_same h k e = cc

frame_same : (n i : ℕ) → home.Stack n ≡ home.Stack i → n ≡ i
frame_same n i e = cc

-- ---- which words are bound

module _ (m : Setting) (s : WordState) (P : Home → Word → Type 0) where
  pub record Tells (params : List Var) (env : Env Word) : Type 0 where
    pub told : (j : ℕ) (k : Keeper) (w : Word) → slice_get env j ≡ Some (k, w) → (h : Home) × (k ≡ At h) × P h w × (has_room s (At h) ≡ true)
    pub bound : (k n : ℕ) → slice_get (map (home_of m.homes) params) k ≡ Some (home.Stack n) → (j : ℕ) × (w : Word) × (slice_get env j ≡ Some (At (home.Stack n), w))

  bound_one : (v : Var) (params : List Var) (h : Home) (x : Word) (env : Env Word) → home_of m.homes v ≡ h → P h x → has_room s (At h) ≡ true → Tells params env → Tells (v ∷ params) ((At h, x) ∷ env)
  bound_one v params h x env at holds room rest = record { told = told; bound = bound }
    where
      told : (j : ℕ) (k : Keeper) (w : Word) → slice_get ((At h, x) ∷ env) j ≡ Some (k, w) → (y : Home) × (k ≡ At y) × P y w × (has_room s (At y) ≡ true)
      told zero k w e = (h, sym (key_same (At h) k x w e), subst (P h) (word_same (At h) k x w e) holds, room)
      told (suc j) k w e = rest.told j k w e

      bound : (k n : ℕ) → slice_get (map (home_of m.homes) (v ∷ params)) k ≡ Some (home.Stack n) → (j : ℕ) × (w : Word) × (slice_get ((At h, x) ∷ env) j ≡ Some (At (home.Stack n), w))
      bound zero n e = let same : h ≡ home.Stack n = cc in (0, x, ap (λ (y : Home). Some (At y, x)) same)
      bound (suc k) n e = let r = rest.bound k n e in (suc r.0, r.1, r.2)

  unbound_one : (v : Var) (params : List Var) (env : Env Word) → ((n : ℕ) → home_of m.homes v ≢ home.Stack n) → Tells params env → Tells (v ∷ params) env
  unbound_one v params env no_frame rest = record { told = rest.told; bound = bound }
    where
      bound : (k n : ℕ) → slice_get (map (home_of m.homes) (v ∷ params)) k ≡ Some (home.Stack n) → (j : ℕ) × (w : Word) × (slice_get env j ≡ Some (At (home.Stack n), w))
      bound zero n e = let same : home_of m.homes v ≡ home.Stack n = cc in absurd (no_frame n same)
      bound (suc k) n e = rest.bound k n e

  one_told : (v : Var) (params : List Var) (h : Home) (o : Option Word) (rest : Option (Env Word)) (env : Env Word) → home_of m.homes v ≡ h → paired s (At h) o rest ≡ Some env → ((w : Word) → o ≡ Some w → P h w)
      → ((e : Env Word) → rest ≡ Some e → Tells params e) → Tells (v ∷ params) env
  one_told v params h (Some x) rest env at is gives others = by (has_room s (At h)) refl rest refl is
    where
      by : (b : Bool) → has_room s (At h) ≡ b → (r : Option (Env Word)) → rest ≡ r → (if b then option_map (λ e. (At h, x) ∷ e) r else None) ≡ Some env → Tells (v ∷ params) env
      by true room (Some e) here is = let same : (At h, x) ∷ e ≡ env = cc in subst (Tells (v ∷ params)) same (bound_one v params h x e at (gives x refl) room (others e here))
      by true room None here is = absurd (cc)
      by false room r here is = absurd (cc)
  one_told v params (home.D i) None rest env at is gives others = unbound_one v params env (λ n e. let both = sym at ∙ e in absurd (cc)) (others env is)
  one_told v params (home.A i) None rest env at is gives others = unbound_one v params env (λ n e. let both = sym at ∙ e in absurd (cc)) (others env is)
  one_told v params (home.Static i) None rest env at is gives others = unbound_one v params env (λ n e. let both = sym at ∙ e in absurd (cc)) (others env is)
  one_told v params (home.Stack i) None rest env at is gives others = absurd (cc)

  pub tells : (params : List Var) (args : List Operand) (env : Env Word) → ((k : ℕ) (v : Var) → slice_get params k ≡ Some v → HasHome m v) → pairs_of m s params (map (word_of m s) args) ≡ Some env
      → ((k : ℕ) (x : Operand) (to : Home) (w : Word) → slice_get args k ≡ Some x → slice_get (map (home_of m.homes) params) k ≡ Some to → word_of m s x ≡ Some w → P to w) → Tells params env
  tells [] args env homed is gives =
      let none : [] ≡ env = cc in
      subst (Tells []) none (record { told = λ j k w e. absurd (cc); bound = λ k n e. absurd (cc) })
  tells (v ∷ params) [] env homed is gives =
      let h = homed 0 v refl in
      let at : home_of m.homes v ≡ h.0 = get_or_from_slice_get m.homes v.0 h.0 (home.D 0) h.1 in
      let keeper : keeper_of m.homes v ≡ At h.0 = ap (λ (o : Option Home). option_map_or At o (Own v.0)) h.1 in
      one_told v params h.0 None (pairs_of m s params []) env at (subst (λ k. paired s k None (pairs_of m s params []) ≡ Some env) keeper is) (λ w e. absurd (cc))
      (λ e here. tells params [] e (λ k. homed (suc k)) here (λ k x to w p q r. absurd (cc)))
  tells (v ∷ params) (x ∷ args) env homed is gives =
      let h = homed 0 v refl in
      let at : home_of m.homes v ≡ h.0 = get_or_from_slice_get m.homes v.0 h.0 (home.D 0) h.1 in
      let keeper : keeper_of m.homes v ≡ At h.0 = ap (λ (o : Option Home). option_map_or At o (Own v.0)) h.1 in
      one_told v params h.0 (word_of m s x) (pairs_of m s params (map (word_of m s) args)) env at (subst (λ k. paired s k (word_of m s x) (pairs_of m s params (map (word_of m s) args)) ≡ Some env) keeper is)
      (λ w e. gives 0 x h.0 w refl (ap Some at) e) (λ e here. tells params args e (λ k. homed (suc k)) here (λ k. gives (suc k)))

-- ---- what is held behind them

module _ (m : Setting) (labels : List ℕ) (s y : WordState) (u : State) (is : Represents m labels y u) (top : y.top ≡ s.top) (next : y.next ≡ s.next) where
  abbrev pub IsFree : Env Word → ℕ → Type 0
  IsFree env at = (j n : ℕ) (w : Word) → slice_get env j ≡ Some (At (home.Stack n), w) → at ≢ stack_at s n

  -- a state on the way to that behind all of them
  record Nears (e : WordState) (env : Env Word) : Type 0 where
    registers : (h : Home) (w : Word) → ((n : ℕ) → h ≢ home.Stack n) → held e (At h) ≡ Some w → held y (At h) ≡ Some w
    storage : (at : ℕ) (w : Word) → IsFree env at → long_at e.storage at ≡ Some w → long_at y.storage at ≡ Some w
    there : (n : ℕ) (w : Word) → long_at s.storage (stack_at s n) ≡ Some w → (v : Word) × (long_at e.storage (stack_at s n) ≡ Some v)
    top_same : e.top ≡ s.top
    next_same : e.next ≡ s.next

  register_nears : (e : WordState) (h : Home) (w : Word) (env : Env Word) → held y (At h) ≡ Some w → ((n : ℕ) → h ≢ home.Stack n) → hold e (At h) w ≡ record e { env = (At h, w) ∷ e.env } → ((k : Home) → h ≢ k → held (hold e (At h) w) (At k) ≡ held e (At k))
      → held (hold e (At h) w) (At h) ≡ Some w → ((k : Home) → (h ≡ k) ⊎ (h ≢ k)) → Nears e ((At h, w) ∷ env) → Nears (hold e (At h) w) env
  register_nears e h w env has no_frame same others now decide near = record {
    registers = registers;
    storage = λ at x free here. near.storage at x (frees at free) (ap (λ (z : WordState). long_at z.storage at) (sym same) ∙ here);
    there = λ n x here. let r = near.there n x here in (r.0, ap (λ (z : WordState). long_at z.storage (stack_at s n)) same ∙ r.1);
    top_same = ap (λ (z : WordState). z.top) same ∙ near.top_same;
    next_same = ap (λ (z : WordState). z.next) same ∙ near.next_same;
  }
    where
      registers : (k : Home) (x : Word) → ((n : ℕ) → k ≢ home.Stack n) → held (hold e (At h) w) (At k) ≡ Some x → held y (At k) ≡ Some x
      registers k x free here = elim (decide k) [
        | inl p ↦
            let both : Some w ≡ Some x = sym now ∙ subst (λ z. held (hold e (At h) w) (At z) ≡ Some x) (sym p) here in
            subst (λ z. held y (At z) ≡ Some x) p (has ∙ both)
        | inr p ↦ near.registers k x free (sym (others k p) ∙ here)
      ]

      frees : (at : ℕ) → ((j n : ℕ) (x : Word) → slice_get env j ≡ Some (At (home.Stack n), x) → at ≢ stack_at s n) → (j n : ℕ) (x : Word) → slice_get ((At h, w) ∷ env) j ≡ Some (At (home.Stack n), x) → at ≢ stack_at s n
      frees at free zero n x e = absurd (no_frame n (home_same h (home.Stack n) (key_same (At h) (At (home.Stack n)) w x e)))
      frees at free (suc j) n x e = free j n x e

  d_same : (i j : ℕ) → home.D i ≡ home.D j → i ≡ j
  d_same i j e = cc

  a_same : (i j : ℕ) → home.A i ≡ home.A j → i ≡ j
  a_same i j e = cc

  static_same : (i j : ℕ) → home.Static i ≡ home.Static j → i ≡ j
  static_same i j e = cc

  same_or_not : (h k : Home) → (h ≡ k) ⊎ (h ≢ k)
  same_or_not (home.D i) (home.D j) = elim (eqb_tells i j) [
    | inl p ↦ inl (ap home.D p.1)
    | inr p ↦ inr (λ e. p.1 (d_same i j e))
  ]
  same_or_not (home.A i) (home.A j) = elim (eqb_tells i j) [
    | inl p ↦ inl (ap home.A p.1)
    | inr p ↦ inr (λ e. p.1 (a_same i j e))
  ]
  same_or_not (home.Static i) (home.Static j) = elim (eqb_tells i j) [
    | inl p ↦ inl (ap home.Static p.1)
    | inr p ↦ inr (λ e. p.1 (static_same i j e))
  ]
  same_or_not (home.Stack i) (home.Stack j) = elim (eqb_tells i j) [
    | inl p ↦ inl (ap home.Stack p.1)
    | inr p ↦ inr (λ e. p.1 (frame_same i j e))
  ]
  same_or_not (home.D i) (home.A j) = inr (λ e. absurd (cc))
  same_or_not (home.D i) (home.Static j) = inr (λ e. absurd (cc))
  same_or_not (home.D i) (home.Stack j) = inr (λ e. absurd (cc))
  same_or_not (home.A i) (home.D j) = inr (λ e. absurd (cc))
  same_or_not (home.A i) (home.Static j) = inr (λ e. absurd (cc))
  same_or_not (home.A i) (home.Stack j) = inr (λ e. absurd (cc))
  same_or_not (home.Static i) (home.D j) = inr (λ e. absurd (cc))
  same_or_not (home.Static i) (home.A j) = inr (λ e. absurd (cc))
  same_or_not (home.Static i) (home.Stack j) = inr (λ e. absurd (cc))
  same_or_not (home.Stack i) (home.D j) = inr (λ e. absurd (cc))
  same_or_not (home.Stack i) (home.A j) = inr (λ e. absurd (cc))
  same_or_not (home.Stack i) (home.Static j) = inr (λ e. absurd (cc))

  stack_nears : (e : WordState) (n : ℕ) (w old : Word) (env : Env Word) → held y (At (home.Stack n)) ≡ Some w → long_at e.storage (stack_at s n) ≡ Some old → Nears e ((At (home.Stack n), w) ∷ env) → Nears (hold e (At (home.Stack n)) w) env
  stack_nears e n w old env has here near = record {
    registers = registers;
    storage = storage;
    there = there;
    top_same = near.top_same;
    next_same = near.next_same;
  }
    where
      place : stack_at e n ≡ stack_at s n
      place = ap (λ (z : ℕ). z + 4 * n) near.top_same

      old_there : long_at e.storage (stack_at e n) ≡ Some old
      old_there = ap (long_at e.storage) place ∙ here

      registers : (k : Home) (x : Word) → ((j : ℕ) → k ≢ home.Stack j) → held (hold e (At (home.Stack n)) w) (At k) ≡ Some x → held y (At k) ≡ Some x
      registers (home.D i) x free h = near.registers (home.D i) x free h
      registers (home.A i) x free h = near.registers (home.A i) x free h
      registers (home.Static i) x free h = near.registers (home.Static i) x free h
      registers (home.Stack i) x free h = absurd (free i refl)

      storage : (at : ℕ) (x : Word) → ((j i : ℕ) (z : Word) → slice_get env j ≡ Some (At (home.Stack i), z) → at ≢ stack_at s i) → long_at (hold e (At (home.Stack n)) w).storage at ≡ Some x → long_at y.storage at ≡ Some x
      storage at x free h = elim (eqb_tells at (stack_at e n)) [
        | inl p ↦
            let both : Some w ≡ Some x = sym (stored_same e.storage (stack_at e n) w old old_there) ∙ subst (λ q. long_at (hold e (At (home.Stack n)) w).storage q ≡ Some x) p.1 h in
            let there_y : at ≡ stack_at y n = p.1 ∙ place ∙ ap (λ (z : ℕ). z + 4 * n) (sym top) in
            ap (long_at y.storage) there_y ∙ has ∙ both
        | inr p ↦ near.storage at x (frees at p.1 free) (sym (stored_other e.storage (stack_at e n) at w old old_there p.1) ∙ h)
      ]
        where
          frees : (at : ℕ) → at ≢ stack_at e n → ((j i : ℕ) (z : Word) → slice_get env j ≡ Some (At (home.Stack i), z) → at ≢ stack_at s i) → (j i : ℕ) (z : Word) → slice_get ((At (home.Stack n), w) ∷ env) j ≡ Some (At (home.Stack i), z) → at ≢ stack_at s i
          frees at ne free zero i z g = let same : n ≡ i = frame_same n i (home_same (home.Stack n) (home.Stack i) (key_same (At (home.Stack n)) (At (home.Stack i)) w z g)) in λ q. ne (q ∙ ap (λ (k : ℕ). stack_at s k) (sym same) ∙ sym place)
          frees at ne free (suc j) i z g = free j i z g

      there : (i : ℕ) (x : Word) → long_at s.storage (stack_at s i) ≡ Some x → (v : Word) × (long_at (hold e (At (home.Stack n)) w).storage (stack_at s i) ≡ Some v)
      there i x h = elim (eqb_tells (stack_at s i) (stack_at e n)) [
        | inl p ↦ (w, ap (long_at (hold e (At (home.Stack n)) w).storage) p.1 ∙ stored_same e.storage (stack_at e n) w old old_there)
        | inr p ↦ let r = near.there i x h in (r.0, stored_other e.storage (stack_at e n) (stack_at s i) w old old_there p.1 ∙ r.1)
      ]

  abbrev pub Told : Env Word → Type 0
  Told env = (j : ℕ) (k : Keeper) (w : Word) → slice_get env j ≡ Some (k, w) → (h : Home) × (k ≡ At h) × (held y (At h) ≡ Some w) × ((n : ℕ) → h ≡ home.Stack n → (old : Word) × (long_at s.storage (stack_at s n) ≡ Some old))

  all_near : (e : WordState) (env : Env Word) → Told env → Nears e env → Nears (hold_all e env) []
  all_near e [] told near = near
  all_near e ((k, w) ∷ env) told near =
      let first = told 0 k w refl in
      all_near (hold e k w) env (λ j. told (suc j))
      (subst (λ q. Nears (hold e q w) env) (sym first.1) (by first.0 first.2 first.3 (subst (λ q. Nears e ((q, w) ∷ env)) first.1 near)))
    where
      by : (h : Home) → held y (At h) ≡ Some w → ((n : ℕ) → h ≡ home.Stack n → (old : Word) × (long_at s.storage (stack_at s n) ≡ Some old)) → Nears e ((At h, w) ∷ env) → Nears (hold e (At h) w) env
      by (home.D i) has room near = register_nears e (home.D i) w env has (λ n q. absurd (cc)) refl (λ k ne. other_kept e (home.D i) k w ne) (rw (eq-eqb i i refl) refl) (same_or_not (home.D i)) near
      by (home.A i) has room near = register_nears e (home.A i) w env has (λ n q. absurd (cc)) refl (λ k ne. other_kept e (home.A i) k w ne) (rw (eq-eqb i i refl) refl) (same_or_not (home.A i)) near
      by (home.Static i) has room near = register_nears e (home.Static i) w env has (λ n q. absurd (cc)) refl (λ k ne. other_kept e (home.Static i) k w ne) (rw (eq-eqb i i refl) refl) (same_or_not (home.Static i)) near
      by (home.Stack n) has room near = let old = room n refl in let now = near.there n old.0 old.1 in stack_nears e n w now.0 env has now.1 near

  pub bound_represents : (block : ℕ) (env : Env Word) → Told env → ((at : ℕ) (w : Word) → IsFree env at → long_at s.storage at ≡ Some w → long_at y.storage at ≡ Some w) → Represents m labels (into block (hold_all (record s { env = [] }) env)) u
  bound_represents block env told free =
      let near = all_near (record s { env = [] }) env told (record { registers = none_held; storage = free; there = λ n w h. (w, h); top_same = refl; next_same = refl }) in
      turning m labels (hold_all (record s { env = [] }) env) u block (finish (hold_all (record s { env = [] }) env) near)
    where
      none_held : (h : Home) (w : Word) → ((n : ℕ) → h ≢ home.Stack n) → held (record s { env = [] }) (At h) ≡ Some w → held y (At h) ≡ Some w
      none_held (home.D i) w no_frame q = absurd (cc)
      none_held (home.A i) w no_frame q = absurd (cc)
      none_held (home.Static i) w no_frame q = absurd (cc)
      none_held (home.Stack n) w no_frame q = absurd (no_frame n refl)

      finish : (z : WordState) → Nears z [] → Represents m labels z u
      finish z near = record {
        homes = homes;
        words = λ at w here. let v = visible m z at w here in is.words at w (seen m y at w v.shown (near.storage at w (λ j n x e. absurd (cc)) v.there));
        statics = is.statics;
        next = is.next ∙ next ∙ sym near.next_same;
        limit = is.limit;
        end = is.end;
        top = is.top ∙ top ∙ sym near.top_same;
      }
        where
          homes : (k : ℕ) (h : Home) (w : Word) → slice_get m.homes k ≡ Some h → held z (At h) ≡ Some w → HasWord m labels u h w
          homes k (home.D i) w here q = is.homes k (home.D i) w here (near.registers (home.D i) w (λ n e. absurd (cc)) q)
          homes k (home.A i) w here q = is.homes k (home.A i) w here (near.registers (home.A i) w (λ n e. absurd (cc)) q)
          homes k (home.Static i) w here q = is.homes k (home.Static i) w here (near.registers (home.Static i) w (λ n e. absurd (cc)) q)
          homes k (home.Stack n) w here q =
              let same : stack_at y n ≡ stack_at z n = ap (λ (x : ℕ). x + 4 * n) (top ∙ sym near.top_same) in
              is.homes k (home.Stack n) w here (ap (long_at y.storage) same ∙ near.storage (stack_at z n) w (λ j i x e. absurd (cc)) q)
