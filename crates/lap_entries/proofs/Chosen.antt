-- Each register that is a home has a word: the one that is wanted there, or else what the machine has.
use Rattle.std.proofs.Common.{◌≡◌, ◌≢◌, ℕ, zero, suc, Bool, true, false, List, [], ◌∷◌, Option, Some, None, slice_get, refl, ap, sym, subst, ◌∙◌}
use Rattle.std.proofs.lemmas.Bool.{eq-eqb, eqb-true}
use Rattle.word_ir.specs.declared.placed.Home.{Home}
use Rattle.word_ir.specs.declared.placed.Home.TheVariants as home
use Rattle.word_ir.specs.Word.{Word, Number}
use Rattle.word_ir.specs.State.{Setting, State as WordState, Env, At, held, with_kept, has_room, stack_at, same_home}
use Rattle.word_ir.specs.WholePlaced.{IsHome}
use Rattle.word_ir.specs.Ranges.{IsInPlace}
use Rattle.m68020_step.specs.Operand.{data_at, address_at}
use Rattle.m68020_step.specs.Ranges.{IsInRange}
use Rattle.m68020_step.specs.Step.{State}
use Rattle.lap_runs.specs.Represents.{HasWord, Represents}
use Rattle.lap_paths.specs.Housed.{IsHoused}
use Rattle.lap_paths.proofs.WordStorage.{stack_word, visible}
use Rattle.lap_jumps.specs.Carries.{IsOne}
use Rattle.lap_jumps.proofs.Completing.{other_kept, with_env, long_known}

-- a home that isn't in the stack
abbrev pub NotInStack : Home → Type 0
NotInStack h = (n : ℕ) → h ≢ home.Stack n

pub record Chosen (m : Setting) (labels : List ℕ) (want : Home → Option Word) (s : WordState) (t : State) (homes : List Home) : Type 0 where
  pub env : Env Word
  pub is : Represents m labels (with_env s env) t
  pub wanted : (h : Home) (w : Word) → IsOne homes h → NotInStack h → want h ≡ Some w → held (with_env s env) (At h) ≡ Some w
  pub each : (h : Home) → IsOne homes h → has_room s (At h) ≡ true → (w : Word) × (held (with_env s env) (At h) ≡ Some w)

pub same_told : (x y : Home) → same_home x y ≡ true → x ≡ y
same_told (home.D i) (home.D j) q = ap home.D (eqb-true i j q)
same_told (home.D i) (home.A j) q = absurd (cc)
same_told (home.D i) (home.Static j) q = absurd (cc)
same_told (home.D i) (home.Stack j) q = absurd (cc)
same_told (home.A i) (home.A j) q = ap home.A (eqb-true i j q)
same_told (home.A i) (home.D j) q = absurd (cc)
same_told (home.A i) (home.Static j) q = absurd (cc)
same_told (home.A i) (home.Stack j) q = absurd (cc)
same_told (home.Static i) (home.Static j) q = ap home.Static (eqb-true i j q)
same_told (home.Static i) (home.A j) q = absurd (cc)
same_told (home.Static i) (home.D j) q = absurd (cc)
same_told (home.Static i) (home.Stack j) q = absurd (cc)
same_told (home.Stack i) (home.Stack j) q = ap home.Stack (eqb-true i j q)
same_told (home.Stack i) (home.A j) q = absurd (cc)
same_told (home.Stack i) (home.Static j) q = absurd (cc)
same_told (home.Stack i) (home.D j) q = absurd (cc)

pub same_self : (x : Home) → same_home x x ≡ true
same_self (home.D i) = eq-eqb i i refl
same_self (home.A i) = eq-eqb i i refl
same_self (home.Static i) = eq-eqb i i refl
same_self (home.Stack i) = eq-eqb i i refl

module _ (m : Setting) (labels : List ℕ) (want : Home → Option Word) (s : WordState) (t : State) (housed : IsHoused m) (place : IsInPlace m s) (range : IsInRange t) (real_want : (h : Home) (w : Word) → want h ≡ Some w → HasWord m labels t h w) where
  -- one more word is kept
  more : (e : WordState) (h : Home) (v : Word) → Represents m labels e t → held (with_kept e (At h) v) (At h) ≡ Some v → HasWord m labels t h v → Represents m labels (with_kept e (At h) v) t
  more e h v is now has = record {
    homes = λ k x w here holds. by k x w here holds (same_home h x) refl;
    words = is.words;
    statics = is.statics;
    next = is.next;
    limit = is.limit;
    end = is.end;
    top = is.top;
  }
    where
      by : (k : ℕ) (x : Home) (w : Word) → slice_get m.homes k ≡ Some x → held (with_kept e (At h) v) (At x) ≡ Some w → (b : Bool) → same_home h x ≡ b → HasWord m labels t x w
      by k x w here holds true q =
          let same : h ≡ x = same_told h x q in
          let both : Some v ≡ Some w = sym (subst (λ y. held (with_kept e (At h) v) (At y) ≡ Some v) same now) ∙ holds in
          let word : v ≡ w = cc in
          subst (λ y. HasWord m labels t y w) same (subst (HasWord m labels t h) word has)
      by k x w here holds false q = is.homes k x w here (sym (other_kept e h x v (λ same. let r = subst (λ y. same_home h y ≡ false) (sym same) q in let u = same_self h in absurd (cc))) ∙ holds)

  -- the word that is put there stays what it was, or is what is wanted
  added : (h : Home) (homes : List Home) (c : Chosen m labels want s t homes) (v : Word) → held (with_kept (with_env s c.env) (At h) v) (At h) ≡ Some v → ((w : Word) → want h ≡ Some w → w ≡ v) → HasWord m labels t h v → Chosen m labels want s t (h ∷ homes)
  added h homes c v now is_wanted has = record {
    env = (At h, v) ∷ c.env;
    is = more (with_env s c.env) h v c.is now has;
    wanted = wanted;
    each = λ k one room. by_each k one room (same_home h k) refl;
  }
    where
      stays : (k : Home) → h ≢ k → held (with_kept (with_env s c.env) (At h) v) (At k) ≡ held (with_env s c.env) (At k)
      stays k ne = other_kept (with_env s c.env) h k v ne

      differs : (k : Home) → same_home h k ≡ false → h ≢ k
      differs k q same = let r = subst (λ y. same_home h y ≡ false) (sym same) q in let u = same_self h in absurd (cc)

      here : (k : Home) → same_home h k ≡ true → held (with_kept (with_env s c.env) (At h) v) (At k) ≡ Some v
      here k q = subst (λ y. held (with_kept (with_env s c.env) (At h) v) (At y) ≡ Some v) (same_told h k q) now

      behind : (k : Home) → IsOne (h ∷ homes) k → same_home h k ≡ false → IsOne homes k
      behind k (zero, e) q = let same : h ≡ k = cc in absurd (differs k q same)
      behind k (suc i, e) q = (i, e)

      wanted : (k : Home) (w : Word) → IsOne (h ∷ homes) k → NotInStack k → want k ≡ Some w → held (with_kept (with_env s c.env) (At h) v) (At k) ≡ Some w
      wanted k w one out q = by (same_home h k) refl
        where
          by : (b : Bool) → same_home h k ≡ b → held (with_kept (with_env s c.env) (At h) v) (At k) ≡ Some w
          by true e = here k e ∙ ap Some (sym (is_wanted w (ap want (same_told h k e) ∙ q)))
          by false e = stays k (differs k e) ∙ c.wanted k w (behind k one e) out q

      by_each : (k : Home) → IsOne (h ∷ homes) k → has_room s (At k) ≡ true → (b : Bool) → same_home h k ≡ b → (w : Word) × (held (with_kept (with_env s c.env) (At h) v) (At k) ≡ Some w)
      by_each k one room true e = (v, here k e)
      by_each k one room false e = let r = c.each k (behind k one e) room in (r.0, stays k (differs k e) ∙ r.1)

  -- a home in the stack has the word that is there
  stacked : (n : ℕ) (homes : List Home) → Chosen m labels want s t homes → Chosen m labels want s t (home.Stack n ∷ homes)
  stacked n homes c = record { env = c.env; is = c.is; wanted = wanted; each = each }
    where
      wanted : (k : Home) (w : Word) → IsOne (home.Stack n ∷ homes) k → NotInStack k → want k ≡ Some w → held (with_env s c.env) (At k) ≡ Some w
      wanted k w (zero, e) out q = let same : home.Stack n ≡ k = cc in absurd (out n (sym same))
      wanted k w (suc i, e) out q = c.wanted k w (i, e) out q

      each : (k : Home) → IsOne (home.Stack n ∷ homes) k → has_room s (At k) ≡ true → (w : Word) × (held (with_env s c.env) (At k) ≡ Some w)
      each k (zero, e) room =
          let same : home.Stack n ≡ k = cc in
          subst (λ y. (w : Word) × (held (with_env s c.env) (At y) ≡ Some w)) same (let w = stack_word m s n housed place (subst (λ y. has_room s (At y) ≡ true) (sym same) room) in (w.0, (visible m s (stack_at s n) w.0 w.1).there))
      each k (suc i, e) room = c.each k (i, e) room

  register : (h : Home) (homes : List Home) (c : Chosen m labels want s t homes) → ((v : Word) → held (with_kept (with_env s c.env) (At h) v) (At h) ≡ Some v) → (long : ℕ) → HasWord m labels t h (Number long) → Chosen m labels want s t (h ∷ homes)
  register h homes c now long has = by (want h) refl
    where
      some_same : (v w : Word) → Some v ≡ Some w → v ≡ w
      some_same v w e = cc

      by : (o : Option Word) → want h ≡ o → Chosen m labels want s t (h ∷ homes)
      by (Some v) q = added h homes c v (now v) (λ w e. some_same w v (sym e ∙ q)) (real_want h v q)
      by None q = added h homes c (Number long) (now (Number long)) (λ w e. let r : None ≡ Some w = sym q ∙ e in absurd (cc)) has

  one_more : (h : Home) (homes : List Home) → IsHome m.words h → Chosen m labels want s t homes → Chosen m labels want s t (h ∷ homes)
  one_more (home.D i) homes near c = register (home.D i) homes c (λ v. rw (eq-eqb i i refl) refl) (data_at t.registers i) (refl, long_known m labels s t housed place range (home.D i) (data_at t.registers i) near c.is.top refl)
  one_more (home.A i) homes near c = register (home.A i) homes c (λ v. rw (eq-eqb i i refl) refl) (address_at t.registers i) (refl, long_known m labels s t housed place range (home.A i) (address_at t.registers i) near c.is.top refl)
  one_more (home.Static i) homes near c =
      let there = c.is.statics i near in register (home.Static i) homes c (λ v. rw (eq-eqb i i refl) refl) there.0 (there.1, long_known m labels s t housed place range (home.Static i) there.0 near c.is.top there.1)
  one_more (home.Stack n) homes near c = stacked n homes c

  pub chosen : (homes : List Home) → ((h : Home) → IsOne homes h → IsHome m.words h) → Represents m labels (record s { env = [] }) t → Chosen m labels want s t homes
  chosen [] near is = record { env = []; is = is; wanted = λ h w one. absurd (cc); each = λ h one room. absurd (cc) }
  chosen (h ∷ homes) near is = one_more h homes (near h (0, refl)) (chosen homes (λ k one. near k (suc one.0, one.1)) is)
