-- The program with seven variables more, whose homes are where an Enter puts its arguments.
use Rattle.std.specs.List.{list_any}
use Rattle.std.specs.Option.{option_map_or}
use Rattle.std.specs.Prelude.{if◌then◌else◌}
use Rattle.std.proofs.Common.{◌≡◌, ◌≢◌, ℕ, zero, suc, ◌+◌, ◌≤◌, false, ◌||◌, List, [], ◌∷◌, ◌++◌, length, Some, None, slice_get, inl, inr, ◌⊎◌, ⊎_elim, refl, sym, ap, subst, ◌∙◌, arith}
use Rattle.std.proofs.lemmas.Option.{get_or_from_slice_get}
use Rattle.t_base.specs.declared.basics.Var.{Var}
use Rattle.word_ir.specs.declared.operands.Operand.{Operand}
use Rattle.word_ir.specs.declared.operands.Operand.TheVariants as operand
use Rattle.word_ir.specs.declared.placed.Home.{Home}
use Rattle.word_ir.specs.declared.placed.Home.TheVariants as home
use Rattle.word_ir.specs.Word.{Word}
use Rattle.word_ir.specs.State.{Setting, State as WordState, Own, At, keeper_of, held, is_static_home, word_at}
use Rattle.word_ir.specs.Effects.{word_of}
use Rattle.word_ir.specs.WholePlaced.{IsHome}
use Rattle.m68020_step.specs.Step.{State}
use Rattle.lap_items.specs.Homes.{home_of, convention}
use Rattle.word_ir.specs.Storage.{long_at}
use Rattle.lap_items.specs.Moves.{move_between, moving, moves_to, filling, fill_items}
use Rattle.lap_runs.specs.Represents.{HasWord, Represents}
use Rattle.lap_paths.specs.Housed.{IsHoused, HasHome, IsUsable}
use Rattle.lap_jumps.specs.Carries.{IsOne}

-- ---- lists behind each other

pub get_left : {X : Type 0} (xs ys : List X) (k : ℕ) (x : X) → slice_get xs k ≡ Some x → slice_get (xs ++ ys) k ≡ Some x
get_left [] ys k x e = absurd (cc)
get_left (z ∷ xs) ys zero x e = e
get_left (z ∷ xs) ys (suc k) x e = get_left xs ys k x e

pub get_right : {X : Type 0} (xs ys : List X) (k : ℕ) → slice_get (xs ++ ys) (length xs + k) ≡ slice_get ys k
get_right [] ys k = ap (slice_get ys) (let e : 0 + k ≡ k = omega arith in e)
get_right (z ∷ xs) ys k = ap (slice_get (z ∷ (xs ++ ys))) (let e : suc (length xs) + k ≡ suc (length xs + k) = omega arith in e) ∙ get_right xs ys k

pub in_either : (xs ys : List Home) (h : Home) → IsOne (xs ++ ys) h → IsOne xs h ⊎ IsOne ys h
in_either [] ys h one = inr one
in_either (x ∷ xs) ys h (zero, e) = inl (0, e)
in_either (x ∷ xs) ys h (suc k, e) = ⊎_elim (λ l. inl (suc l.0, l.1)) (λ r. inr r) (in_either xs ys h (k, e))

any_nothing : (at : ℕ) (xs ys : List Home) → list_any (is_static_home at) ys ≡ false → list_any (is_static_home at) (xs ++ ys) ≡ list_any (is_static_home at) xs
any_nothing at [] ys e = e
any_nothing at (x ∷ xs) ys e = ap (λ b. is_static_home at x || b) (any_nothing at xs ys e)

-- ---- homes of the convention

abbrev pub IsRegister : Home → Type 0
IsRegister (home.D i) = i ≤ 5
IsRegister (home.A i) = i ≤ 2
IsRegister (home.Stack n) = ⊥
IsRegister (home.Static place) = ⊥

pub convention_registers : (h : Home) → IsOne convention h → IsRegister h
convention_registers h one = by one.0 one.1
  where
    told : (x : Home) → IsRegister x → Some x ≡ Some h → IsRegister h
    told x r e = let same : x ≡ h = cc in subst IsRegister same r

    by : (k : ℕ) → slice_get convention k ≡ Some h → IsRegister h
    by zero e = told (home.D 0) (omega arith) e
    by (suc zero) e = told (home.A 0) (omega arith) e
    by (suc (suc zero)) e = told (home.D 1) (omega arith) e
    by (suc (suc (suc zero))) e = told (home.D 2) (omega arith) e
    by (suc (suc (suc (suc zero)))) e = told (home.D 3) (omega arith) e
    by (suc (suc (suc (suc (suc zero))))) e = told (home.D 4) (omega arith) e
    by (suc (suc (suc (suc (suc (suc zero)))))) e = told (home.D 5) (omega arith) e
    by (suc (suc (suc (suc (suc (suc (suc k))))))) e = absurd (cc)

pub no_stack : (h : Home) → IsRegister h → (n : ℕ) → h ≢ home.Stack n
no_stack (home.D i) r n e = cc
no_stack (home.A i) r n e = cc
no_stack (home.Stack i) r n e = absurd r
no_stack (home.Static i) r n e = absurd r

-- ---- the setting

abbrev pub with_convention : Setting → Setting
with_convention m = record m { homes = m.homes ++ convention }

-- the variable whose home is where the argument at a place goes
abbrev pub given_var : Setting → ℕ → Var
given_var m k = record { 0 = length m.homes + k }

module _ (m : Setting) where
  register_home : (h : Home) → IsRegister h → IsHome m.words h
  register_home (home.D i) r = r
  register_home (home.A i) r = r
  register_home (home.Stack i) r = absurd r
  register_home (home.Static i) r = absurd r

  pub housed_too : IsHoused m → IsHoused (with_convention m)
  housed_too housed = record {
    homes = λ k h e. ⊎_elim (λ l. housed.homes l.0 h l.1) (λ r. register_home h (convention_registers h r)) (in_either m.homes convention h (k, e));
    few = housed.few;
    heap = housed.heap;
    stack = housed.stack;
  }

  pub has_home_too : (v : Var) → HasHome m v → HasHome (with_convention m) v
  has_home_too v h = (h.0, get_left m.homes convention v.0 h.0 h.1)

  pub usable_too : (x : Operand) → IsUsable m x → IsUsable (with_convention m) x
  usable_too (operand.Var v) u = has_home_too v u
  usable_too (operand.Word n) u = u
  usable_too (operand.Static p) u = u
  usable_too (operand.Code b) u = u
  usable_too (operand.Slot n) u = u

  pub home_same : (v : Var) → HasHome m v → home_of (m.homes ++ convention) v ≡ home_of m.homes v
  home_same v h = get_or_from_slice_get (m.homes ++ convention) v.0 h.0 (home.D 0) (get_left m.homes convention v.0 h.0 h.1) ∙ sym (get_or_from_slice_get m.homes v.0 h.0 (home.D 0) h.1)

  pub keeper_same : (v : Var) → HasHome m v → keeper_of (m.homes ++ convention) v ≡ keeper_of m.homes v
  keeper_same v h = ap (λ o. option_map_or At o (Own v.0)) (get_left m.homes convention v.0 h.0 h.1 ∙ sym h.1)

  pub word_same : (s : WordState) (x : Operand) → IsUsable m x → word_of (with_convention m) s x ≡ word_of m s x
  word_same s (operand.Var v) u = ap (held s) (keeper_same v u)
  word_same s (operand.Word n) u = refl
  word_same s (operand.Static p) u = refl
  word_same s (operand.Code b) u = refl
  word_same s (operand.Slot n) u = refl

  word_at_same : (s : WordState) (at : ℕ) → word_at (with_convention m) s at ≡ word_at m s at
  word_at_same s at = ap (λ b. if b then None else long_at s.storage at) (any_nothing at m.homes convention refl)

  -- from one to the other
  pub represents_less : (labels : List ℕ) (s : WordState) (t : State) → Represents (with_convention m) labels s t → Represents m labels s t
  represents_less labels s t is = record {
    homes = λ k h w e q. is.homes k h w (get_left m.homes convention k h e) q;
    words = λ at w e. is.words at w (word_at_same s at ∙ e);
    statics = is.statics;
    next = is.next;
    limit = is.limit;
    end = is.end;
    top = is.top;
  }

  -- with nothing held in registers
  pub bare_represents : (labels : List ℕ) (s : WordState) (t : State) → Represents m labels s t → Represents (with_convention m) labels (record s { env = [] }) t
  bare_represents labels s t is = record {
    homes = homes;
    words = λ at w e. is.words at w (sym (word_at_same s at) ∙ e);
    statics = is.statics;
    next = is.next;
    limit = is.limit;
    end = is.end;
    top = is.top;
  }
    where
      homes : (k : ℕ) (h : Home) (w : Word) → slice_get (m.homes ++ convention) k ≡ Some h → held (record s { env = [] }) (At h) ≡ Some w → HasWord (with_convention m) labels t h w
      homes k (home.D i) w e q = absurd (cc)
      homes k (home.A i) w e q = absurd (cc)
      homes k (home.Static i) w e q = absurd (cc)
      homes k (home.Stack n) w e q = ⊎_elim (λ l. is.homes l.0 (home.Stack n) w l.1 q) (λ r. absurd (convention_registers (home.Stack n) r)) (in_either m.homes convention (home.Stack n) (k, e))

  -- ---- moves and fillings

  pub moves_same : (args : List Operand) (places : List Home) → ((k : ℕ) (x : Operand) → slice_get args k ≡ Some x → IsUsable m x) → moves_to (m.homes ++ convention) args places ≡ moves_to m.homes args places
  unfolding moving
  moves_same [] places usable = refl
  moves_same (x ∷ args) [] usable = refl
  moves_same (operand.Var v ∷ args) (p ∷ places) usable =
      ap (λ h. move_between h p ∷ moves_to (m.homes ++ convention) args places) (home_same v (usable 0 (operand.Var v) refl)) ∙ ap (λ ms. move_between (home_of m.homes v) p ∷ ms) (moves_same args places (λ k. usable (suc k)))
  moves_same (operand.Word n ∷ args) (p ∷ places) usable = moves_same args places (λ k. usable (suc k))
  moves_same (operand.Static n ∷ args) (p ∷ places) usable = moves_same args places (λ k. usable (suc k))
  moves_same (operand.Code n ∷ args) (p ∷ places) usable = moves_same args places (λ k. usable (suc k))
  moves_same (operand.Slot n ∷ args) (p ∷ places) usable = moves_same args places (λ k. usable (suc k))

  pub fills_same : (args : List Operand) (places : List Home) → fill_items (m.homes ++ convention) args places ≡ fill_items m.homes args places
  unfolding filling
  fills_same [] places = refl
  fills_same (x ∷ args) [] = refl
  fills_same (operand.Var v ∷ args) (p ∷ places) = fills_same args places
  fills_same (operand.Word n ∷ args) (p ∷ places) = ap (λ is. filling m.homes (operand.Word n) p ++ is) (fills_same args places)
  fills_same (operand.Static n ∷ args) (p ∷ places) = ap (λ is. filling m.homes (operand.Static n) p ++ is) (fills_same args places)
  fills_same (operand.Code n ∷ args) (p ∷ places) = ap (λ is. filling m.homes (operand.Code n) p ++ is) (fills_same args places)
  fills_same (operand.Slot n ∷ args) (p ∷ places) = ap (λ is. filling m.homes (operand.Slot n) p ++ is) (fills_same args places)
