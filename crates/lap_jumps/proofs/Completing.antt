-- Homes without a word are given what the machine has there, so that each home with room has a word.
use Rattle.std.proofs.Common.{◌≡◌, ◌≢◌, ℕ, zero, suc, ◌<◌, ◌^◌, Bool, true, false, List, [], ◌∷◌, Option, Some, None, slice_get, refl, ap, sym, subst, ◌∙◌, arith}
use Rattle.std.specs.Prelude.{min, ◌*◌}
use Rattle.std.proofs.lemmas.Bool.{ne_eqb, eq-eqb, eqb-true, lt-ltb}
use Rattle.word_ir.specs.declared.placed.Home.{Home}
use Rattle.word_ir.specs.declared.placed.Home.TheVariants as home
use Rattle.word_ir.specs.Word.{Word, Number}
use Rattle.word_ir.specs.State.{Setting, State as WordState, Env, At, held, with_kept, has_room, stack_at, same_home}
use Rattle.word_ir.specs.Storage.{static_at}
use Rattle.word_ir.specs.WholePlaced.{IsHome}
use Rattle.word_ir.specs.Ranges.{IsInPlace}
use Rattle.m68020_step.specs.Operand.{with_pc, data_at, address_at, long_operand}
use Rattle.m68020_step.specs.Ranges.{IsInRange}
use Rattle.m68020_step.specs.Step.{State}
use Rattle.m68020_step.proofs.InRange.{FetchFits, long_operand_fits, pc_fits}
use Rattle.lap_items.specs.Homes.{at_home}
use Rattle.lap_runs.specs.Represents.{HomeHas, HasWord, Represents}
use Rattle.lap_paths.specs.Paths.{Reads}
use Rattle.lap_paths.specs.Housed.{IsHoused}
use Rattle.lap_paths.proofs.Besides.{home_reads, is_reached}
use Rattle.lap_paths.proofs.WordStorage.{stack_word, visible}
use Rattle.lap_jumps.specs.Carries.{IsOne}

pub other_kept : (s : WordState) (h k : Home) (w : Word) → h ≢ k → held (with_kept s (At h) w) (At k) ≡ held s (At k)
other_kept s (home.D i) (home.D j) w ne = rw (ne_eqb i j (λ e. ne (ap home.D e))) refl
other_kept s (home.D i) (home.A j) w ne = refl
other_kept s (home.D i) (home.Static j) w ne = refl
other_kept s (home.D i) (home.Stack j) w ne = refl
other_kept s (home.A i) (home.D j) w ne = refl
other_kept s (home.A i) (home.A j) w ne = rw (ne_eqb i j (λ e. ne (ap home.A e))) refl
other_kept s (home.A i) (home.Static j) w ne = refl
other_kept s (home.A i) (home.Stack j) w ne = refl
other_kept s (home.Static i) (home.D j) w ne = refl
other_kept s (home.Static i) (home.A j) w ne = refl
other_kept s (home.Static i) (home.Static j) w ne = rw (ne_eqb i j (λ e. ne (ap home.Static e))) refl
other_kept s (home.Static i) (home.Stack j) w ne = refl
other_kept s (home.Stack i) k w ne = stays k
  where
    stays : (k : Home) → held (with_kept s (At (home.Stack i)) w) (At k) ≡ held s (At k)
    stays (home.D j) = refl
    stays (home.A j) = refl
    stays (home.Static j) = refl
    stays (home.Stack j) = refl

abbrev pub with_env : WordState → Env Word → WordState
with_env s env = record s { env = env }

pub record Completed (m : Setting) (labels : List ℕ) (s : WordState) (t : State) (homes : List Home) : Type 0 where
  pub env : Env Word
  pub is : Represents m labels (with_env s env) t
  pub keeps : (h : Home) (x : Word) → held s (At h) ≡ Some x → held (with_env s env) (At h) ≡ Some x
  pub each : (h : Home) → IsOne homes h → has_room s (At h) ≡ true → (w : Word) × (held (with_env s env) (At h) ≡ Some w)

module _ (m : Setting) (labels : List ℕ) (s : WordState) (t : State) (housed : IsHoused m) (place : IsInPlace m s) (range : IsInRange t) where
  -- what a home has is a long word
  all_fit : (h : Home) (v : ℕ) → Reads t (at_home h) v → FetchFits (2 ^ 32) (long_operand t.storage (with_pc t.registers 0) (at_home h)) → v < 2 ^ 32
  all_fit h v reads fits = let f = subst (FetchFits (2 ^ 32)) (reads 0) fits in f.1

  fits_of : (h : Home) → IsHome m.words h → FetchFits (2 ^ 32) (long_operand t.storage (with_pc t.registers 0) (at_home h))
  fits_of (home.D i) near = long_operand_fits t.storage (with_pc t.registers 0) (at_home (home.D i)) (lt-ltb i 8 (omega (arith, near))) range.storage (pc_fits t.registers 0 range.registers (omega arith))
  fits_of (home.A i) near = long_operand_fits t.storage (with_pc t.registers 0) (at_home (home.A i)) (lt-ltb i 8 (omega (arith, near))) range.storage (pc_fits t.registers 0 range.registers (omega arith))
  fits_of (home.Stack i) near = long_operand_fits t.storage (with_pc t.registers 0) (at_home (home.Stack i)) (lt-ltb (4 * min i 8191) 32768 (omega arith)) range.storage (pc_fits t.registers 0 range.registers (omega arith))
  fits_of (home.Static i) near = long_operand_fits t.storage (with_pc t.registers 0) (at_home (home.Static i)) (lt-ltb (static_at i) (2 ^ 32) (omega arith)) range.storage (pc_fits t.registers 0 range.registers (omega arith))

  pub long_known : (h : Home) (v : ℕ) → IsHome m.words h → address_at t.registers 7 ≡ s.top → HomeHas t h v → v < 2 ^ 32
  long_known h v near top has = all_fit h v (home_reads t h v (is_reached m s t h housed place top near) has) (fits_of h near)

  -- one more word is kept
  more : (e : WordState) (h : Home) (v : ℕ) → Represents m labels e t → held (with_kept e (At h) (Number v)) (At h) ≡ Some (Number v) → HasWord m labels t h (Number v) → Represents m labels (with_kept e (At h) (Number v)) t
  more e h v is now has = record {
    homes = λ k x w here holds. by k x w here holds (same_home h x) refl;
    words = is.words;
    statics = is.statics;
    next = is.next;
    limit = is.limit;
    end = is.end;
    top = is.top;
  }
    where
      told : (x y : Home) → same_home x y ≡ true → x ≡ y
      told (home.D i) (home.D j) q = ap home.D (eqb-true i j q)
      told (home.D i) (home.A j) q = absurd (cc)
      told (home.D i) (home.Static j) q = absurd (cc)
      told (home.D i) (home.Stack j) q = absurd (cc)
      told (home.A i) (home.A j) q = ap home.A (eqb-true i j q)
      told (home.A i) (home.D j) q = absurd (cc)
      told (home.A i) (home.Static j) q = absurd (cc)
      told (home.A i) (home.Stack j) q = absurd (cc)
      told (home.Static i) (home.Static j) q = ap home.Static (eqb-true i j q)
      told (home.Static i) (home.A j) q = absurd (cc)
      told (home.Static i) (home.D j) q = absurd (cc)
      told (home.Static i) (home.Stack j) q = absurd (cc)
      told (home.Stack i) (home.Stack j) q = ap home.Stack (eqb-true i j q)
      told (home.Stack i) (home.A j) q = absurd (cc)
      told (home.Stack i) (home.Static j) q = absurd (cc)
      told (home.Stack i) (home.D j) q = absurd (cc)

      self : (x : Home) → same_home x x ≡ true
      self (home.D i) = eq-eqb i i refl
      self (home.A i) = eq-eqb i i refl
      self (home.Static i) = eq-eqb i i refl
      self (home.Stack i) = eq-eqb i i refl

      by : (k : ℕ) (x : Home) (w : Word) → slice_get m.homes k ≡ Some x → held (with_kept e (At h) (Number v)) (At x) ≡ Some w → (b : Bool) → same_home h x ≡ b → HasWord m labels t x w
      by k x w here holds true q =
          let same : h ≡ x = told h x q in
          let both : Some (Number v) ≡ Some w = sym (subst (λ y. held (with_kept e (At h) (Number v)) (At y) ≡ Some (Number v)) same now) ∙ holds in
          let word : Number v ≡ w = cc in
          subst (λ y. HasWord m labels t y w) same (subst (HasWord m labels t h) word has)
      by k x w here holds false q = is.homes k x w here (sym (other_kept e h x (Number v) (λ same. let r = subst (λ y. same_home h y ≡ false) (sym same) q in let u = self h in absurd (cc))) ∙ holds)

  added : (h : Home) (homes : List Home) (c : Completed m labels s t homes) (v : ℕ) → held (with_env s c.env) (At h) ≡ None → held (with_kept (with_env s c.env) (At h) (Number v)) (At h) ≡ Some (Number v) → HasWord m labels t h (Number v) → Completed m labels s t (h ∷ homes)
  added h homes c v none now has = record {
    env = (At h, Number v) ∷ c.env;
    is = more (with_env s c.env) h v c.is now has;
    keeps = λ k x q. stays k x (c.keeps k x q);
    each = each;
  }
    where
      stays : (k : Home) (x : Word) → held (with_env s c.env) (At k) ≡ Some x → held (with_kept (with_env s c.env) (At h) (Number v)) (At k) ≡ Some x
      stays k x q = other_kept (with_env s c.env) h k (Number v) (λ same. let r = subst (λ y. held (with_env s c.env) (At y) ≡ None) same none in absurd (cc)) ∙ q

      each : (k : Home) → IsOne (h ∷ homes) k → has_room s (At k) ≡ true → (w : Word) × (held (with_kept (with_env s c.env) (At h) (Number v)) (At k) ≡ Some w)
      each k (zero, e) room = let same : h ≡ k = cc in (Number v, subst (λ y. held (with_kept (with_env s c.env) (At h) (Number v)) (At y) ≡ Some (Number v)) same now)
      each k (suc i, e) room = let r = c.each k (i, e) room in (r.0, stays k r.0 r.1)

  as_it_is : (h : Home) (homes : List Home) (c : Completed m labels s t homes) → (has_room s (At h) ≡ true → (w : Word) × (held (with_env s c.env) (At h) ≡ Some w)) → Completed m labels s t (h ∷ homes)
  as_it_is h homes c first = record { env = c.env; is = c.is; keeps = c.keeps; each = each }
    where
      each : (k : Home) → IsOne (h ∷ homes) k → has_room s (At k) ≡ true → (w : Word) × (held (with_env s c.env) (At k) ≡ Some w)
      each k (zero, e) room = let same : h ≡ k = cc in subst (λ y. (w : Word) × (held (with_env s c.env) (At y) ≡ Some w)) same (first (subst (λ y. has_room s (At y) ≡ true) (sym same) room))
      each k (suc i, e) room = c.each k (i, e) room

  one_more : (h : Home) (homes : List Home) → IsHome m.words h → Completed m labels s t homes → Completed m labels s t (h ∷ homes)
  one_more (home.D i) homes near c = by (held (with_env s c.env) (At (home.D i))) refl
    where
      by : (o : Option Word) → held (with_env s c.env) (At (home.D i)) ≡ o → Completed m labels s t (home.D i ∷ homes)
      by (Some w) q = as_it_is (home.D i) homes c (λ room. (w, q))
      by None q = added (home.D i) homes c (data_at t.registers i) q (rw (eq-eqb i i refl) refl) (refl, long_known (home.D i) (data_at t.registers i) near c.is.top refl)
  one_more (home.A i) homes near c = by (held (with_env s c.env) (At (home.A i))) refl
    where
      by : (o : Option Word) → held (with_env s c.env) (At (home.A i)) ≡ o → Completed m labels s t (home.A i ∷ homes)
      by (Some w) q = as_it_is (home.A i) homes c (λ room. (w, q))
      by None q = added (home.A i) homes c (address_at t.registers i) q (rw (eq-eqb i i refl) refl) (refl, long_known (home.A i) (address_at t.registers i) near c.is.top refl)
  one_more (home.Static i) homes near c = by (held (with_env s c.env) (At (home.Static i))) refl
    where
      by : (o : Option Word) → held (with_env s c.env) (At (home.Static i)) ≡ o → Completed m labels s t (home.Static i ∷ homes)
      by (Some w) q = as_it_is (home.Static i) homes c (λ room. (w, q))
      by None q = let there = c.is.statics i near in added (home.Static i) homes c there.0 q (rw (eq-eqb i i refl) refl) (there.1, long_known (home.Static i) there.0 near c.is.top there.1)
  one_more (home.Stack n) homes near c =
      as_it_is (home.Stack n) homes c (λ room. let w = stack_word m s n housed place room in (w.0, (visible m s (stack_at s n) w.0 w.1).there))

  pub completed : (homes : List Home) → ((h : Home) → IsOne homes h → IsHome m.words h) → Represents m labels s t → Completed m labels s t homes
  completed [] near is = record { env = s.env; is = is; keeps = λ h x q. q; each = λ h one room. absurd (cc) }
  completed (h ∷ homes) near is = one_more h homes (near h (0, refl)) (completed homes (λ k one. near k (suc one.0, one.1)) is)
