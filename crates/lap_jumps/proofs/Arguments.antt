-- Arguments go to places at once.
use Rattle.std.proofs.Common.{◌≡◌, ◌≢◌, ℕ, zero, suc, ◌+◌, ◌*◌, ◌<◌, ◌^◌, ◌==◌, Bool, true, false, ◌||◌, IsTrue, List, [], ◌∷◌, ◌++◌, Option, Some, None, slice_get, length, refl, ap, sym, subst, ◌∙◌, arith, append_assoc}
use Rattle.std.specs.Prelude.{if◌then◌else◌}
use Rattle.std.specs.List.{list_any}
use Rattle.std.specs.Option.{option_map_or}
use Rattle.std.proofs.lemmas.Bool.{ne_eqb, eq-eqb, eqb-true, eqb-false}
use Rattle.std.proofs.lemmas.Option.{get_or_from_slice_get}
use Rattle.word_ir.specs.declared.operands.Operand.{Operand}
use Rattle.word_ir.specs.declared.operands.Operand.TheVariants as operand
use Rattle.word_ir.specs.declared.placed.Home.{Home}
use Rattle.word_ir.specs.declared.placed.Home.TheVariants as home
use Rattle.word_ir.specs.Word.{Word, Number, Code, wrap}
use Rattle.word_ir.specs.Storage.{static_at}
use Rattle.t_base.specs.declared.basics.Var.{Var}
use Rattle.word_ir.specs.State.{Setting, State as WordState, Own, At, held, hold}
use Rattle.word_ir.specs.Effects.{word_of}
use Rattle.word_ir.specs.Ranges.{IsInPlace}
use Rattle.parallel_moves.specs.declared.OneMove.{OneMove}
use Rattle.parallel_moves.specs.Moves.{scratch, after, gets, MovesPass}
use Rattle.m68020_step.specs.Operand.{data_at}
use Rattle.m68020_step.specs.Step.{State}
use Rattle.m68020_asm.specs.declared.item.Item.{Item}
use Rattle.lap_items.specs.Homes.{home_of, number_of_home, home_at, put_into}
use Rattle.lap_items.specs.Operands.{source_items, source_of}
use Rattle.lap_items.specs.Moves.{moving, moves_to, filling, fill_items, moved_items, DoesAtOnce}
use Rattle.lap_items.proofs.Numbers.{same_number}
use Rattle.lap_runs.specs.Represents.{real, IsKnown, Represents}
use Rattle.lap_paths.specs.Paths.{Assembly, Stands, Path}
use Rattle.lap_paths.specs.Housed.{IsHoused, IsUsable}
use Rattle.lap_paths.proofs.Besides.{beside_represents}
use Rattle.lap_paths.proofs.Loads.{source_goes}
use Rattle.lap_paths.proofs.Puts.{put_goes}
use Rattle.lap_lines.proofs.Moves.{operand_known}
use Rattle.lap_jumps.specs.Carries.{numbered, word_numbered, IsOne, is_place, Carries, KeepsOthers}
use Rattle.lap_jumps.specs.Arguments.{AreDistinct, ComesFrom, Given}
use Rattle.lap_jumps.proofs.Places.{word_back}
use Rattle.lap_jumps.proofs.Holding.{held_same, held_other, room_there, hold_in_place, keeps_all, keeps_trans, hold_keeps}
use Rattle.lap_jumps.proofs.Carrying.{data_stays, is_home, near_one, back, small, steps_after, moves_go}
use Rattle.lap_jumps.proofs.Singles.{then_goes, both_hold}
use Rattle.lap_paths.proofs.Steps.{arrived}

-- ---- what places hold

pub word_or : Option Word → Word
word_or (Some w) = w
word_or None = Number 0

pub held_numbers : WordState → ℕ → ℕ → ℕ
held_numbers s between p = if p == scratch then 2 * between else numbered (word_or (held s (At (home_at p))))

pub is_any : (homes : List Home) (h : Home) (k : ℕ) → slice_get homes k ≡ Some h → list_any (λ x. number_of_home x == number_of_home h) homes ≡ true
is_any [] h k e = absurd (cc)
is_any (x ∷ homes) h zero e = let same : x ≡ h = cc in rw (eq-eqb (number_of_home x) (number_of_home h) (ap number_of_home same)) refl
is_any (x ∷ homes) h (suc k) e = or_right (number_of_home x == number_of_home h) (list_any (λ y. number_of_home y == number_of_home h) homes) (is_any homes h k e)
  where
    or_right : (b c : Bool) → c ≡ true → (b || c) ≡ true
    or_right true c q = refl
    or_right false c q = q

pub passes : (homes : List Home) (h : Home) → IsOne homes h → IsTrue (is_place homes (number_of_home h))
passes homes h one = by (number_of_home h == scratch)
  where
    by : (b : Bool) → (b || list_any (λ x. number_of_home x == number_of_home h) homes) ≡ true
    by true = refl
    by false = is_any homes h one.0 one.1

module _ (a : Assembly) (m : Setting) (homes : List Home) (housed : IsHoused m) (lodged : (h : Home) → IsOne homes h → IsOne m.homes h) where
  number_apart : (h k : Home) → IsOne homes h → IsOne homes k → h ≢ k → number_of_home h ≢ number_of_home k
  number_apart h k p q ne e = ne (same_number (length m.words.statics.items) h k (omega (arith, housed.few)) (near_one a m homes housed lodged h p) (near_one a m homes housed lodged k q) e)

  numbers_held : (s : WordState) (between : ℕ) (h : Home) (w : Word) → IsOne homes h → held s (At h) ≡ Some w → held_numbers s between (number_of_home h) ≡ numbered w
  unfolding held_numbers word_or
  numbers_held s between h w one has =
      let low = small a m homes housed lodged h one in
      ap (λ (b : Bool). if b then 2 * between else numbered (word_or (held s (At (home_at (number_of_home h)))))) (ne_eqb (number_of_home h) scratch (λ e. absurd (omega (arith, e, low))))
      ∙ ap (λ (x : Home). numbered (word_or (held s (At x)))) (back a m homes housed lodged h (number_of_home h) one refl) ∙ ap (λ (o : Option Word). numbered (word_or o)) has

  starts : (s : WordState) (t : State) → Represents m a.labels s t → IsInPlace m s → data_at t.registers 7 < 2 ^ 32 → ((h : Home) → IsOne homes h → (w : Word) × (held s (At h) ≡ Some w)) → Carries a m homes s t (held_numbers s (data_at t.registers 7))
  unfolding held_numbers
  starts s t is place low each = record {
    is = is;
    place = place;
    each = λ h one. let w = each h one in w.1 ∙ ap Some (sym (ap word_numbered (numbers_held s (data_at t.registers 7) h w.0 one w.1) ∙ word_back w.0));
    between = ap (real a.labels) (sym (word_back (Number (data_at t.registers 7))));
    known = subst (λ (w : Word). IsKnown m w) (sym (word_back (Number (data_at t.registers 7)))) low;
  }

  -- ---- the moves

  moves_pass : (args : List Operand) (places : List Home) → ((k : ℕ) (x : Operand) → slice_get args k ≡ Some x → ComesFrom m homes x) → ((k : ℕ) (h : Home) → slice_get places k ≡ Some h → IsOne homes h) → MovesPass (is_place homes) (moves_to m.homes args places)
  unfolding moving
  moves_pass [] places from to = tt
  moves_pass (x ∷ args) [] from to = tt
  moves_pass (operand.Var v ∷ args) (p ∷ places) from to =
      (passes homes (home_of m.homes v) (from 0 (operand.Var v) refl), passes homes p (to 0 p refl), moves_pass args places (λ k. from (suc k)) (λ k. to (suc k)))
  moves_pass (operand.Word n ∷ args) (p ∷ places) from to = moves_pass args places (λ k. from (suc k)) (λ k. to (suc k))
  moves_pass (operand.Static n ∷ args) (p ∷ places) from to = moves_pass args places (λ k. from (suc k)) (λ k. to (suc k))
  moves_pass (operand.Code n ∷ args) (p ∷ places) from to = moves_pass args places (λ k. from (suc k)) (λ k. to (suc k))
  moves_pass (operand.Slot n ∷ args) (p ∷ places) from to = moves_pass args places (λ k. from (suc k)) (λ k. to (suc k))

  module _ (holds : ℕ → ℕ) where
    skips : (p q d f : ℕ) → p ≢ q → (if p == q then d else f) ≡ f
    skips p q d f ne = ap (λ (b : Bool). if b then d else f) (ne_eqb p q ne)

    gets_none : (args : List Operand) (places : List Home) (h : Home) (d : ℕ) → IsOne homes h → ((k : ℕ) (p : Home) → slice_get places k ≡ Some p → IsOne homes p) → (IsOne places h → ⊥) → gets (moves_to m.homes args places) holds (number_of_home h) d ≡ d
    unfolding moving
    gets_none [] places h d one to out = refl
    gets_none (x ∷ args) [] h d one to out = refl
    gets_none (operand.Var v ∷ args) (p ∷ places) h d one to out =
        skips (number_of_home p) (number_of_home h) (holds (number_of_home (home_of m.homes v))) (gets (moves_to m.homes args places) holds (number_of_home h) d) (number_apart p h (to 0 p refl) one (λ e. out (0, ap Some e)))
        ∙ gets_none args places h d one (λ k. to (suc k)) (λ q. out (suc q.0, q.1))
    gets_none (operand.Word n ∷ args) (p ∷ places) h d one to out = gets_none args places h d one (λ k. to (suc k)) (λ q. out (suc q.0, q.1))
    gets_none (operand.Static n ∷ args) (p ∷ places) h d one to out = gets_none args places h d one (λ k. to (suc k)) (λ q. out (suc q.0, q.1))
    gets_none (operand.Code n ∷ args) (p ∷ places) h d one to out = gets_none args places h d one (λ k. to (suc k)) (λ q. out (suc q.0, q.1))
    gets_none (operand.Slot n ∷ args) (p ∷ places) h d one to out = gets_none args places h d one (λ k. to (suc k)) (λ q. out (suc q.0, q.1))

    one_less : (p : Home) (places : List Home) → AreDistinct (p ∷ places) → AreDistinct places
    one_less p places distinct i j h x y = let e = distinct (suc i) (suc j) h x y in omega (arith, e)

    gets_at : (args : List Operand) (places : List Home) (k : ℕ) (v : _) (to : Home) (d : ℕ) → AreDistinct places → ((k : ℕ) (p : Home) → slice_get places k ≡ Some p → IsOne homes p) → slice_get args k ≡ Some (operand.Var v) → slice_get places k ≡ Some to
        → gets (moves_to m.homes args places) holds (number_of_home to) d ≡ holds (number_of_home (home_of m.homes v))
    unfolding moving
    gets_at [] places k v to d distinct all x y = absurd (cc)
    gets_at (z ∷ args) [] k v to d distinct all x y = absurd (cc)
    gets_at (operand.Var w ∷ args) (p ∷ places) zero v to d distinct all x y =
        let var : w ≡ v = cc in
        let same : p ≡ to = cc in
        ap (λ (b : Bool). if b then holds (number_of_home (home_of m.homes w)) else gets (moves_to m.homes args places) holds (number_of_home to) d) (eq-eqb (number_of_home p) (number_of_home to) (ap number_of_home same))
        ∙ ap (λ u. holds (number_of_home (home_of m.homes u))) var
    gets_at (operand.Word n ∷ args) (p ∷ places) zero v to d distinct all x y = absurd (cc)
    gets_at (operand.Static n ∷ args) (p ∷ places) zero v to d distinct all x y = absurd (cc)
    gets_at (operand.Code n ∷ args) (p ∷ places) zero v to d distinct all x y = absurd (cc)
    gets_at (operand.Slot n ∷ args) (p ∷ places) zero v to d distinct all x y = absurd (cc)
    gets_at (operand.Var w ∷ args) (p ∷ places) (suc k) v to d distinct all x y =
        skips (number_of_home p) (number_of_home to) (holds (number_of_home (home_of m.homes w))) (gets (moves_to m.homes args places) holds (number_of_home to) d)
        (number_apart p to (all 0 p refl) (all (suc k) to y) (λ e. let i = distinct 0 (suc k) to (ap Some e) y in absurd (omega (arith, i))))
        ∙ gets_at args places k v to d (one_less p places distinct) (λ j. all (suc j)) x y
    gets_at (operand.Word n ∷ args) (p ∷ places) (suc k) v to d distinct all x y = gets_at args places k v to d (one_less p places distinct) (λ j. all (suc j)) x y
    gets_at (operand.Static n ∷ args) (p ∷ places) (suc k) v to d distinct all x y = gets_at args places k v to d (one_less p places distinct) (λ j. all (suc j)) x y
    gets_at (operand.Code n ∷ args) (p ∷ places) (suc k) v to d distinct all x y = gets_at args places k v to d (one_less p places distinct) (λ j. all (suc j)) x y
    gets_at (operand.Slot n ∷ args) (p ∷ places) (suc k) v to d distinct all x y = gets_at args places k v to d (one_less p places distinct) (λ j. all (suc j)) x y

  -- ---- the others, one by one

  IsNoVariable : Operand → Type 0
  IsNoVariable (operand.Var v) = ⊥
  IsNoVariable (operand.Word n) = Unit {0}
  IsNoVariable (operand.Static place) = Unit {0}
  IsNoVariable (operand.Code block) = Unit {0}
  IsNoVariable (operand.Slot bytes) = Unit {0}

  same_word : (x y : WordState) (o : Operand) → IsNoVariable o → y.top ≡ x.top → word_of m y o ≡ word_of m x o
  unfolding IsNoVariable
  same_word x y (operand.Var v) none top = absurd none
  same_word x y (operand.Word n) none top = refl
  same_word x y (operand.Static p) none top = refl
  same_word x y (operand.Code b) none top = refl
  same_word x y (operand.Slot n) none top = ap (λ (at : ℕ). Some (Number (wrap (at + n)))) top

  record Filled (x y : WordState) (args : List Operand) (places : List Home) : Type 0 where
    other : (h : Home) → IsOne homes h → (IsOne places h → ⊥) → held y (At h) ≡ held x (At h)
    variable : (k : ℕ) (v : Var) (to : Home) → slice_get args k ≡ Some (operand.Var v) → slice_get places k ≡ Some to → held y (At to) ≡ held x (At to)
    word : (k : ℕ) (o : Operand) (to : Home) (w : Word) → IsNoVariable o → slice_get args k ≡ Some o → slice_get places k ≡ Some to → word_of m x o ≡ Some w → held y (At to) ≡ Some w

  abbrev pub Ones : List Home → Type 0
  Ones places = (k : ℕ) (p : Home) → slice_get places k ≡ Some p → IsOne homes p

  out_of : (p : Home) (places : List Home) → AreDistinct (p ∷ places) → IsOne places p → ⊥
  out_of p places distinct q = let e = distinct 0 (suc q.0) p refl q.1 in absurd (omega (arith, e))

  rest_distinct : (p : Home) (places : List Home) → AreDistinct (p ∷ places) → AreDistinct places
  rest_distinct p places distinct i j h x y = let e = distinct (suc i) (suc j) h x y in omega (arith, e)

  past_variable : (x y : WordState) (v : Var) (p : Home) (args : List Operand) (places : List Home) → Ones (p ∷ places) → AreDistinct (p ∷ places) → Filled x y args places → Filled x y (operand.Var v ∷ args) (p ∷ places)
  unfolding IsNoVariable
  past_variable x y v p args places ones distinct f = record {
    other = λ h one out. f.other h one (λ q. out (suc q.0, q.1));
    variable = variable;
    word = word;
  }
    where
      variable : (k : ℕ) (w : Var) (to : Home) → slice_get (operand.Var v ∷ args) k ≡ Some (operand.Var w) → slice_get (p ∷ places) k ≡ Some to → held y (At to) ≡ held x (At to)
      variable zero w to e g = let same : p ≡ to = cc in subst (λ h. held y (At h) ≡ held x (At h)) same (f.other p (ones 0 p refl) (out_of p places distinct))
      variable (suc k) w to e g = f.variable k w to e g

      word : (k : ℕ) (o : Operand) (to : Home) (w : Word) → IsNoVariable o → slice_get (operand.Var v ∷ args) k ≡ Some o → slice_get (p ∷ places) k ≡ Some to → word_of m x o ≡ Some w → held y (At to) ≡ Some w
      word zero o to w none e g there = let same : operand.Var v ≡ o = cc in absurd (subst IsNoVariable (sym same) none)
      word (suc k) o to w none e g there = f.word k o to w none e g there

  past_word : (x y : WordState) (o : Operand) (w old : Word) (p : Home) (args : List Operand) (places : List Home) → IsNoVariable o → word_of m x o ≡ Some w → held x (At p) ≡ Some old → Ones (p ∷ places) → AreDistinct (p ∷ places)
      → Filled (hold x (At p) w) y args places → Filled x y (o ∷ args) (p ∷ places)
  unfolding IsNoVariable
  past_word x y o w old p args places none first has ones distinct f = record {
    other = λ h one out. f.other h one (λ q. out (suc q.0, q.1)) ∙ held_other x p h w old has (λ e. out (0, ap Some e));
    variable = variable;
    word = word;
  }
    where
      apart : (k : ℕ) (to : Home) → slice_get places k ≡ Some to → p ≢ to
      apart k to g e = out_of p places distinct (k, g ∙ ap Some (sym e))

      variable : (k : ℕ) (v : Var) (to : Home) → slice_get (o ∷ args) k ≡ Some (operand.Var v) → slice_get (p ∷ places) k ≡ Some to → held y (At to) ≡ held x (At to)
      variable zero v to e g = let same : o ≡ operand.Var v = cc in absurd (subst IsNoVariable same none)
      variable (suc k) v to e g = f.variable k v to e g ∙ held_other x p to w old has (apart k to g)

      word : (k : ℕ) (q : Operand) (to : Home) (z : Word) → IsNoVariable q → slice_get (o ∷ args) k ≡ Some q → slice_get (p ∷ places) k ≡ Some to → word_of m x q ≡ Some z → held y (At to) ≡ Some z
      word zero q to z plain e g there =
          let same : o ≡ q = cc in
          let at : p ≡ to = cc in
          let both : Some w ≡ Some z = sym first ∙ ap (word_of m x) same ∙ there in
          subst (λ h. held y (At h) ≡ Some z) at (f.other p (ones 0 p refl) (out_of p places distinct) ∙ held_same x p w old has ∙ both)
      word (suc k) q to z plain e g there = f.word k q to z plain e g (same_word x (hold x (At p) w) q plain (hold_keeps homes x p w old (ones 0 p refl) has).top ∙ there)

  unfoldable pub fill_steps : List Operand → List Home → ℕ → ℕ
  fill_steps [] places n = n
  fill_steps (x ∷ args) [] n = n
  fill_steps (operand.Var v ∷ args) (to ∷ places) n = fill_steps args places n
  fill_steps (operand.Word k ∷ args) (to ∷ places) n = suc (suc (suc (fill_steps args places n)))
  fill_steps (operand.Static k ∷ args) (to ∷ places) n = suc (suc (suc (fill_steps args places n)))
  fill_steps (operand.Code k ∷ args) (to ∷ places) n = suc (suc (suc (fill_steps args places n)))
  fill_steps (operand.Slot k ∷ args) (to ∷ places) n = suc (suc (suc (fill_steps args places n)))

  abbrev pub AllHave : WordState → Type 0
  AllHave x = (h : Home) → IsOne homes h → (w : Word) × (held x (At h) ≡ Some w)

  still_have : (x : WordState) (p : Home) (w : Word) → IsOne homes p → AllHave x → AllHave (hold x (At p) w)
  still_have x p w one all h q = by h q (number_of_home p == number_of_home h) refl
    where
      by : (h : Home) → IsOne homes h → (b : Bool) → (number_of_home p == number_of_home h) ≡ b → (v : Word) × (held (hold x (At p) w) (At h) ≡ Some v)
      by h q true e =
          let same : p ≡ h = same_number (length m.words.statics.items) p h (omega (arith, housed.few)) (near_one a m homes housed lodged p one) (near_one a m homes housed lodged h q) (eqb-true (number_of_home p) (number_of_home h) e) in
          (w, subst (λ k. held (hold x (At p) w) (At k) ≡ Some w) same (held_same x p w (all p one).0 (all p one).1))
      by h q false e =
          let v = all h q in
          (v.0, held_other x p h w (all p one).0 (all p one).1 (λ same. eqb-false (number_of_home p) (number_of_home h) e (ap number_of_home same)) ∙ v.1)

  -- one word goes to its place
  fill_one : (n : ℕ) (x : WordState) (u : State) (o : Operand) (w : Word) (to : Home) (items : List Item) (Q : State → Type 0) → Represents m a.labels x u → IsInPlace m x → AllHave x → IsUsable m o → word_of m x o ≡ Some w → IsOne homes to
      → Stands a u ((source_items o ++ put_into (source_of m.homes o) to ∷ []) ++ items) → ((v : State) → Represents m a.labels (hold x (At to) w) v → data_at v.registers 6 ≡ data_at u.registers 6 → Stands a v items → Path a n v Q) → Path a (suc (suc (suc n))) u Q
  fill_one n x u o w to items Q is place all usable word one stands rest =
      let k = lodged to one in
      let old = all to one in
      source_goes a m housed n x u o w (put_into (source_of m.homes o) to ∷ items) Q place is usable word (subst (Stands a u) (append_assoc (source_items o) (put_into (source_of m.homes o) to ∷ []) items) stands)
      (λ v beside reads stands2.
      let is2 = beside_represents m a.labels 8 x u v housed (omega arith) is beside in
      let known = operand_known a m x housed place u o w is usable word in
      let room = room_there m x to old.0 place old.1 in
      let P : State → Type 0 = λ y. Represents m a.labels (hold x (At to) w) y × Stands a y items in
      let Kept6 : State → Type 0 = λ y. data_at y.registers 6 ≡ data_at v.registers 6 in
      then_goes a v n (λ y. P y × Kept6 y) Q
      (both_hold a v P Kept6 (put_goes a m 0 x v (source_of m.homes o) k.0 to w items P housed place is2 known k.1 room stands2 reads (λ y is3 stands3. arrived a y P (is3, stands3)))
      (data_stays a m x v (source_of m.homes o) w items housed place is2 known reads 6 (omega arith) (omega arith) to (is_home a m homes housed lodged to one) room stands2))
      (λ y both. rest y both.0.0 (both.1 ∙ beside.numbers 6 (omega arith) (λ e. absurd (omega (arith, e)))) both.0.1))

  module _ (n : ℕ) (items : List Item) (Q : State → Type 0) where
    Rest : WordState → State → List Operand → List Home → Type 0
    Rest x u args places = (y : WordState) (v : State) → Represents m a.labels y v → IsInPlace m y → KeepsOthers homes x y → Filled x y args places → data_at v.registers 6 ≡ data_at u.registers 6 → Stands a v items → Path a n v Q

    fills_go : (x : WordState) (u : State) (args : List Operand) (places : List Home) → Represents m a.labels x u → IsInPlace m x → AllHave x → ((k : ℕ) (o : Operand) → slice_get args k ≡ Some o → IsUsable m o) → Ones places → AreDistinct places
        → Stands a u (fill_items m.homes args places ++ items) → Rest x u args places → Path a (fill_steps args places n) u Q
    unfolding filling fill_steps Rest IsNoVariable
    fills_go x u [] places is place all usable ones distinct stands rest =
        rest x u is place (keeps_all homes x) (record { other = λ h one out. refl; variable = λ k v to e g. absurd (cc); word = λ k o to w none e g there. absurd (cc) }) refl stands
    fills_go x u (o ∷ args) [] is place all usable ones distinct stands rest =
        rest x u is place (keeps_all homes x) (record { other = λ h one out. refl; variable = λ k v to e g. absurd (cc); word = λ k o to w none e g there. absurd (cc) }) refl stands
    fills_go x u (operand.Var v ∷ args) (p ∷ places) is place all usable ones distinct stands rest =
        fills_go x u args places is place all (λ k. usable (suc k)) (λ k. ones (suc k)) (rest_distinct p places distinct) stands
        (λ y z is2 place2 keeps f six stands2. rest y z is2 place2 keeps (past_variable x y v p args places ones distinct f) six stands2)
    fills_go x u (operand.Word k ∷ args) (p ∷ places) is place all usable ones distinct stands rest =
        let w : Word = Number k in
        let old = all p (ones 0 p refl) in
        fill_one (fill_steps args places n) x u (operand.Word k) w p (fill_items m.homes args places ++ items) Q is place all (usable 0 (operand.Word k) refl) refl (ones 0 p refl) stands
        (λ v is2 six stands2. fills_go (hold x (At p) w) v args places is2 (hold_in_place m x p w place) (still_have x p w (ones 0 p refl) all) (λ k. usable (suc k)) (λ k. ones (suc k)) (rest_distinct p places distinct) stands2
        (λ y z is3 place3 keeps f six2 stands3. rest y z is3 place3 (keeps_trans homes x (hold x (At p) w) y (hold_keeps homes x p w old.0 (ones 0 p refl) old.1) keeps) (past_word x y (operand.Word k) w old.0 p args places tt refl old.1 ones distinct f) (six2 ∙ six) stands3))
    fills_go x u (operand.Static k ∷ args) (p ∷ places) is place all usable ones distinct stands rest =
        let w : Word = Number (static_at k) in
        let old = all p (ones 0 p refl) in
        fill_one (fill_steps args places n) x u (operand.Static k) w p (fill_items m.homes args places ++ items) Q is place all (usable 0 (operand.Static k) refl) refl (ones 0 p refl) stands
        (λ v is2 six stands2. fills_go (hold x (At p) w) v args places is2 (hold_in_place m x p w place) (still_have x p w (ones 0 p refl) all) (λ k. usable (suc k)) (λ k. ones (suc k)) (rest_distinct p places distinct) stands2
        (λ y z is3 place3 keeps f six2 stands3. rest y z is3 place3 (keeps_trans homes x (hold x (At p) w) y (hold_keeps homes x p w old.0 (ones 0 p refl) old.1) keeps) (past_word x y (operand.Static k) w old.0 p args places tt refl old.1 ones distinct f) (six2 ∙ six) stands3))
    fills_go x u (operand.Code k ∷ args) (p ∷ places) is place all usable ones distinct stands rest =
        let w : Word = Code k in
        let old = all p (ones 0 p refl) in
        fill_one (fill_steps args places n) x u (operand.Code k) w p (fill_items m.homes args places ++ items) Q is place all (usable 0 (operand.Code k) refl) refl (ones 0 p refl) stands
        (λ v is2 six stands2. fills_go (hold x (At p) w) v args places is2 (hold_in_place m x p w place) (still_have x p w (ones 0 p refl) all) (λ k. usable (suc k)) (λ k. ones (suc k)) (rest_distinct p places distinct) stands2
        (λ y z is3 place3 keeps f six2 stands3. rest y z is3 place3 (keeps_trans homes x (hold x (At p) w) y (hold_keeps homes x p w old.0 (ones 0 p refl) old.1) keeps) (past_word x y (operand.Code k) w old.0 p args places tt refl old.1 ones distinct f) (six2 ∙ six) stands3))
    fills_go x u (operand.Slot k ∷ args) (p ∷ places) is place all usable ones distinct stands rest =
        let w : Word = Number (wrap (x.top + k)) in
        let old = all p (ones 0 p refl) in
        fill_one (fill_steps args places n) x u (operand.Slot k) w p (fill_items m.homes args places ++ items) Q is place all (usable 0 (operand.Slot k) refl) refl (ones 0 p refl) (subst (Stands a u) (append_assoc (filling m.homes (operand.Slot k) p) (fill_items m.homes args places) items) stands)
        (λ v is2 six stands2. fills_go (hold x (At p) w) v args places is2 (hold_in_place m x p w place) (still_have x p w (ones 0 p refl) all) (λ k. usable (suc k)) (λ k. ones (suc k)) (rest_distinct p places distinct) stands2
        (λ y z is3 place3 keeps f six2 stands3. rest y z is3 place3 (keeps_trans homes x (hold x (At p) w) y (hold_keeps homes x p w old.0 (ones 0 p refl) old.1) keeps) (past_word x y (operand.Slot k) w old.0 p args places tt refl old.1 ones distinct f) (six2 ∙ six) stands3))

  -- ---- all arguments

  module _ (s : WordState) (t : State) (args : List Operand) (places : List Home) (done : List OneMove) (is : Represents m a.labels s t) (place : IsInPlace m s) (all : AllHave s)
      (usable : (k : ℕ) (o : Operand) → slice_get args k ≡ Some o → IsUsable m o) (from : (k : ℕ) (o : Operand) → slice_get args k ≡ Some o → ComesFrom m homes o) (ones : Ones places) (distinct : AreDistinct places)
      (does : DoesAtOnce (moves_to m.homes args places) done) where
    holds : ℕ → ℕ
    holds = held_numbers s (data_at t.registers 7)

    behind : (h : Home) → IsOne homes h → after done holds (number_of_home h) ≡ gets (moves_to m.homes args places) holds (number_of_home h) (holds (number_of_home h))
    behind h one = let low = small a m homes housed lodged h one in does.effect holds (number_of_home h) (λ e. absurd (omega (arith, e, low)))

    kept_word : (h : Home) (w : Word) → IsOne homes h → (IsOne places h → ⊥) → held s (At h) ≡ Some w → word_numbered (after done holds (number_of_home h)) ≡ w
    unfolding holds
    kept_word h w one out has = ap word_numbered (behind h one ∙ gets_none holds args places h (holds (number_of_home h)) one ones out ∙ numbers_held s (data_at t.registers 7) h w one has) ∙ word_back w

    moved_word : (k : ℕ) (v : Var) (to : Home) (w : Word) → slice_get args k ≡ Some (operand.Var v) → slice_get places k ≡ Some to → held s (At (home_of m.homes v)) ≡ Some w → word_numbered (after done holds (number_of_home to)) ≡ w
    unfolding holds
    moved_word k v to w e g has =
        ap word_numbered (behind to (ones k to g) ∙ gets_at holds args places k v to (holds (number_of_home to)) distinct ones e g ∙ numbers_held s (data_at t.registers 7) (home_of m.homes v) w (from k (operand.Var v) e) has) ∙ word_back w

    given : (x y : WordState) (u v : State) → Carries a m homes x u (after done holds) → KeepsOthers homes s x → Represents m a.labels y v → IsInPlace m y → KeepsOthers homes x y → Filled x y args places → Given a m homes s args places y v
    unfolding IsNoVariable
    given x y u v c keeps is2 place2 more f = record {
      is = is2;
      place = place2;
      gets = gets_word;
      keeps = λ h w one out has. f.other h one out ∙ c.each h one ∙ ap Some (kept_word h w one out has);
      others = keeps_trans homes s x y keeps more;
    }
      where
        gets_word : (k : ℕ) (o : Operand) (to : Home) (w : Word) → slice_get args k ≡ Some o → slice_get places k ≡ Some to → word_of m s o ≡ Some w → held y (At to) ≡ Some w
        gets_word k (operand.Var var) to w e g there =
            let h = usable k (operand.Var var) e in
            let at : home_of m.homes var ≡ h.0 = get_or_from_slice_get m.homes var.0 h.0 (home.D 0) h.1 in
            let has : held s (At (home_of m.homes var)) ≡ Some w = ap (λ (x : Home). held s (At x)) at ∙ sym (ap (λ (q : Option Home). held s (option_map_or At q (Own var.0))) h.1) ∙ there in
            f.variable k var to e g ∙ c.each to (ones k to g) ∙ ap Some (moved_word k var to w e g has)
        gets_word k (operand.Word n) to w e g there = f.word k (operand.Word n) to w tt e g (same_word s x (operand.Word n) tt keeps.top ∙ there)
        gets_word k (operand.Static n) to w e g there = f.word k (operand.Static n) to w tt e g (same_word s x (operand.Static n) tt keeps.top ∙ there)
        gets_word k (operand.Code n) to w e g there = f.word k (operand.Code n) to w tt e g (same_word s x (operand.Code n) tt keeps.top ∙ there)
        gets_word k (operand.Slot n) to w e g there = f.word k (operand.Slot n) to w tt e g (same_word s x (operand.Slot n) tt keeps.top ∙ there)

    pub arguments_go : (n : ℕ) (items : List Item) (Q : State → Type 0) → Stands a t (moved_items done ++ (fill_items m.homes args places ++ items))
        → ((y : WordState) (v : State) → Given a m homes s args places y v → data_at v.registers 6 ≡ data_at t.registers 6 → Stands a v items → Path a n v Q) → Path a (steps_after a m homes housed lodged done (fill_steps args places n)) t Q
    unfolding Rest holds
    arguments_go n items Q stands rest =
        moves_go a m homes housed lodged (fill_steps args places n) s t holds done (fill_items m.homes args places ++ items) Q (starts s t is place (stands.range.registers.d 7) all)
        (does.places (is_place homes) refl (moves_pass args places from ones)) stands
        (λ x u c keeps six stands2. fills_go n items Q x u args places c.is c.place (λ h one. (word_numbered (after done holds (number_of_home h)), c.each h one)) usable ones distinct stands2
        (λ y v is2 place2 more f six2 stands3. rest y v (given x y u v c keeps is2 place2 more f) (six2 ∙ six) stands3))
