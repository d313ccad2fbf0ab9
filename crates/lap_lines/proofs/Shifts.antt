-- Shifts: by 8 bits at most at a time.
use Rattle.std.proofs.Common.{◌≡◌, ℕ, zero, suc, ◌+◌, ◌-◌, ◌*◌, ◌/◌, ◌%◌, ◌^◌, ◌<◌, ◌≤◌, ◌==◌, ◌||◌, Bool, true, false, not, List, [], ◌∷◌, ◌++◌, inl, inr, refl, ap, sym, subst, ◌∙◌, arith, append_assoc}
use Rattle.std.specs.Prelude.{if◌then◌else◌, ℤ, pos, negsuc, ◌*ℤ◌, min}
use Rattle.std.specs.Int.{w32, int_shr}
use Rattle.std.proofs.lemmas.Int.{of_z-to_z}
use Rattle.std.proofs.lemmas.Bool.{eqb-true}
use Rattle.std.proofs.lemmas.Bool.Decides.{leb_tells}
use Rattle.t_base.specs.declared.basics.Var.{Var}
use Rattle.word_ir.specs.declared.operands.Operand.{Operand}
use Rattle.word_ir.specs.declared.words.Arith.TheVariants as kind
use Rattle.word_ir.specs.declared.words.WordOp.TheVariants as op
use Rattle.word_ir.specs.Word.{Number, signed, unsigned, fits}
use Rattle.word_ir.specs.Computing.{Gives, Over, fitted}
use Rattle.word_ir.specs.State.{Setting, State as WordState, keeper_of}
use Rattle.word_ir.specs.Effects.{Binds, binds, bind_result, op_effect}
use Rattle.word_ir.specs.Step.{changed}
use Rattle.word_ir.specs.Ranges.{IsInPlace}
use Rattle.m68020_code.specs.declared.instr.Cond.TheVariants.{Vs}
use Rattle.m68020_code.specs.declared.instr.Ea.TheVariants.{D}
use Rattle.m68020_code.specs.declared.instr.Instr.TheVariants.{AslL, AsrL}
use Rattle.m68020_step.specs.declared.registers.Effect.TheVariants.{Nothing}
use Rattle.m68020_step.specs.Logic.{shift_left, shift_right}
use Rattle.m68020_step.specs.ConditionCodes.{flags_of_left_shift, flags_of_right_shift, sign_changes}
use Rattle.m68020_step.specs.Operand.{next, with_pc, with_data, with_flags, data_at}
use Rattle.m68020_step.specs.Step.{State, executed}
use Rattle.m68020_step.specs.Word.{wrap}
use Rattle.m68020_asm.specs.declared.item.Item.{Item}
use Rattle.m68020_asm.specs.declared.item.Item.TheVariants.{Plain, Branch}
use Rattle.lap_items.specs.Homes.{home_of, put_into}
use Rattle.lap_items.specs.Arithmetic.{left_shift, right_shift, repeated, left_items, right_items, computing_items}
use Rattle.lap_items.specs.Operations.{op_items}
use Rattle.lap_runs.specs.Represents.{Represents}
use Rattle.lap_paths.specs.Paths.{Assembly, Stands, Path, IsAt, at_pc}
use Rattle.lap_paths.specs.Housed.{IsHoused, HasHome, IsUsable}
use Rattle.lap_paths.proofs.Steps.{branch, widen}
use Rattle.lap_paths.proofs.Besides.{beside_represents, beside_pc}
use Rattle.lap_lines.specs.Arrives.{Behind, Opened, Arrives}
use Rattle.lap_lines.proofs.Arriving.{number_arrives, kept_arrives}
use Rattle.lap_lines.proofs.Alu.{gives}
use Rattle.lap_lines.proofs.Stack.{opened}
use Rattle.lap_lines.proofs.Sums.{loaded, number_bound, parted}
use Rattle.lap_lines.proofs.ShiftNumbers.{wrapped_more, changes_more, overflow_is, fits_left, value_left, left_most, right_fits, right_more, right_most}

does_left : (t : State) (e old at pc : ℕ) → data_at t.registers 7 ≡ old → executed t.storage at (with_pc t.registers pc) (AslL e 7) ≡ next (with_flags (with_data (with_pc t.registers pc) 7 (wrap (old * 2 ^ e))) (flags_of_left_shift old e)) Nothing
unfolding executed shift_left
does_left t e old at pc is = ap (λ (x : ℕ). next (with_flags (with_data (with_pc t.registers pc) 7 (wrap (x * 2 ^ e))) (flags_of_left_shift x e)) Nothing) is

does_right : (t : State) (e old at pc : ℕ) → data_at t.registers 7 ≡ old
    → executed t.storage at (with_pc t.registers pc) (AsrL e 7) ≡ next (with_flags (with_data (with_pc t.registers pc) 7 (unsigned (int_shr (signed old) e))) (flags_of_right_shift old e (unsigned (int_shr (signed old) e)))) Nothing
unfolding executed shift_right
does_right t e old at pc is =
    ap (λ (x : ℕ). next (with_flags (with_data (with_pc t.registers pc) 7 (unsigned (int_shr (signed x) e))) (flags_of_right_shift x e (unsigned (int_shr (signed x) e)))) Nothing) is

module _ (a : Assembly) (m : Setting) (s : WordState) (housed : IsHoused m) (place : IsInPlace m s) (i : ℕ) (lt : i < 2 ^ 32) (Q : State → Type 0) where
  -- ---- to the right

  right_part : (n e k : ℕ) (t : State) (here : List Item) → Represents m a.labels s t → data_at t.registers 7 ≡ unsigned (int_shr (signed i) k) → Stands a t (Plain (AsrL e 7) ∷ here)
      → ((u : State) → Represents m a.labels s u → data_at u.registers 7 ≡ unsigned (int_shr (signed i) (k + e)) → Stands a u here → Path a n u Q) → Path a (suc n) t Q
  right_part n e k t here is there stands rest =
      let old : ℕ = unsigned (int_shr (signed i) k) in
      gives a n t (AsrL e 7) 7 (unsigned (int_shr (signed old) e)) (flags_of_right_shift old e (unsigned (int_shr (signed old) e))) here Q (omega arith) stands (λ at pc. does_right t e old at pc there)
      (λ u beside has flags stands2. rest u (beside_represents m a.labels 7 s t u housed (omega arith) is beside) (has ∙ right_more i k e lt) stands2)

  right_run : (q n : ℕ) (t : State) (here : List Item) → Represents m a.labels s t → data_at t.registers 7 ≡ unsigned (int_shr (signed i) 0) → Stands a t (repeated (right_shift 8) q ++ here)
      → ((u : State) → Represents m a.labels s u → data_at u.registers 7 ≡ unsigned (int_shr (signed i) (8 * q)) → Stands a u here → Path a (suc n) u Q) → Path a (q + suc n) t Q
  right_run zero n t here is there stands rest = subst (λ (k : ℕ). Path a k t Q) (omega arith) (rest t is there stands)
  right_run (suc q) n t here is there stands rest =
      subst (λ (k : ℕ). Path a k t Q) (omega arith)
      (right_run q (suc n) t (Plain (AsrL 8 7) ∷ here) is there (subst (Stands a t) (append_assoc (repeated (right_shift 8) q) (right_shift 8) here) stands)
      (λ u at_u has stands2. right_part (suc n) 8 (8 * q) u here at_u has stands2
      (λ v at_v had stands3. rest v at_v (had ∙ ap (λ (k : ℕ). unsigned (int_shr (signed i) k)) (omega arith)) stands3)))

  pub right_goes : (c : ℕ) (t : State) (here : List Item) → c ≤ 31 → Represents m a.labels s t → data_at t.registers 7 ≡ unsigned (int_shr (signed i) 0) → Stands a t (right_items c ++ here)
      → ((u : State) → Represents m a.labels s u → data_at u.registers 7 ≡ unsigned (int_shr (signed i) c) → Stands a u here → Path a 1 u Q) → Path a 5 t Q
  right_goes c t here le is there stands rest =
      let last : List Item = if c % 8 == 0 then [] else right_shift (c % 8) in
      widen a (c / 8 + 2) 5 t Q (omega arith) (omega (arith, le))
      (right_run (c / 8) 1 t (last ++ here) is there (subst (Stands a t) (append_assoc (repeated (right_shift 8) (c / 8)) last here) stands) (λ u at_u has stands2. by (c % 8 == 0) refl u at_u has stands2))
    where
      by : (b : Bool) → (c % 8 == 0) ≡ b → (u : State) → Represents m a.labels s u → data_at u.registers 7 ≡ unsigned (int_shr (signed i) (8 * (c / 8))) → Stands a u ((if b then [] else right_shift (c % 8)) ++ here) → Path a 2 u Q
      by true e u at_u has stands2 = widen a 1 2 u Q (omega arith) (omega arith) (rest u at_u (has ∙ ap (λ (k : ℕ). unsigned (int_shr (signed i) k)) (omega (arith, eqb-true (c % 8) 0 e))) stands2)
      by false e u at_u has stands2 =
          right_part 1 (c % 8) (8 * (c / 8)) u here at_u has stands2 (λ v at_v had stands3. rest v at_v (had ∙ ap (λ (k : ℕ). unsigned (int_shr (signed i) k)) (omega arith)) stands3)

  -- ---- to the left

  module _ (c over : ℕ) (no_fit : sign_changes c i ≡ true → (u : State) (pc : ℕ) → Represents m a.labels s u → IsAt a (at_pc u pc) over → Path a 0 (at_pc u pc) Q) where
    still_over : (k r : ℕ) → k + r ≡ c → sign_changes k i ≡ true → sign_changes c i ≡ true
    still_over k r sum h = ap (λ (n : ℕ). sign_changes n i) (sym sum) ∙ changes_more k r i lt ∙ ap (λ b. b || sign_changes r (wrap (i * 2 ^ k))) h

    left_part : (n e k r : ℕ) (t : State) (here : List Item) → k + e + r ≡ c → Represents m a.labels s t → data_at t.registers 7 ≡ wrap (i * 2 ^ k) → sign_changes k i ≡ false → Stands a t (Plain (AslL e 7) ∷ Branch Vs over ∷ here)
        → ((u : State) → Represents m a.labels s u → data_at u.registers 7 ≡ wrap (i * 2 ^ (k + e)) → sign_changes (k + e) i ≡ false → Stands a u here → Path a n u Q) → Path a (suc (suc n)) t Q
    left_part n e k r t here sum is there kept stands rest =
        let old : ℕ = wrap (i * 2 ^ k) in
        let changes : sign_changes (k + e) i ≡ sign_changes e old = changes_more k e i lt ∙ ap (λ b. b || sign_changes e old) kept in
        gives a (suc n) t (AslL e 7) 7 (wrap (old * 2 ^ e)) (flags_of_left_shift old e) (Branch Vs over ∷ here) Q (omega arith) stands (λ at pc. does_left t e old at pc there)
        (λ u beside has flags stands2.
        let at_u = beside_represents m a.labels 7 s t u housed (omega arith) is beside in
        let overflow : u.registers.flags.v ≡ sign_changes (k + e) i = ap (λ f. f.v) flags ∙ sym changes in
        branch a n u Vs over here Q stands2 (λ h pc at. no_fit (still_over (k + e) r sum (sym overflow ∙ h)) u pc at_u at)
        (λ h pc stands3. rest (at_pc u pc) (beside_represents m a.labels 8 s u (at_pc u pc) housed (omega arith) at_u (beside_pc u pc 8)) (has ∙ wrapped_more i k e) (sym overflow ∙ h) stands3))

    left_run : (q n r : ℕ) (t : State) (here : List Item) → 8 * q + r ≡ c → Represents m a.labels s t → data_at t.registers 7 ≡ wrap (i * 2 ^ 0) → Stands a t (repeated (left_shift over 8) q ++ here)
        → ((u : State) → Represents m a.labels s u → data_at u.registers 7 ≡ wrap (i * 2 ^ (8 * q)) → sign_changes (8 * q) i ≡ false → Stands a u here → Path a (suc n) u Q) → Path a (q + q + suc n) t Q
    unfolding sign_changes
    left_run zero n r t here sum is there stands rest = subst (λ (k : ℕ). Path a k t Q) (omega arith) (rest t is there refl stands)
    left_run (suc q) n r t here sum is there stands rest =
        subst (λ (k : ℕ). Path a k t Q) (omega arith)
        (left_run q (suc (suc n)) (8 + r) t (left_shift over 8 ++ here) (omega (arith, sum)) is there (subst (Stands a t) (append_assoc (repeated (left_shift over 8) q) (left_shift over 8) here) stands)
        (λ u at_u has kept stands2. left_part (suc n) 8 (8 * q) r u here (omega (arith, sum)) at_u has kept stands2
        (λ v at_v had kept2 stands3. rest v at_v (had ∙ ap (λ (k : ℕ). wrap (i * 2 ^ k)) (omega arith)) (ap (λ (k : ℕ). sign_changes k i) (omega arith) ∙ kept2) stands3)))

    pub left_goes : (t : State) (here : List Item) → c ≤ 32 → Represents m a.labels s t → data_at t.registers 7 ≡ wrap (i * 2 ^ 0) → Stands a t (left_items over c ++ here)
        → ((u : State) → Represents m a.labels s u → data_at u.registers 7 ≡ wrap (i * 2 ^ c) → sign_changes c i ≡ false → Stands a u here → Path a 1 u Q) → Path a 11 t Q
    left_goes t here le is there stands rest =
        let last : List Item = if c % 8 == 0 then [] else left_shift over (c % 8) in
        widen a (c / 8 + c / 8 + 3) 11 t Q (omega arith) (omega (arith, le))
        (left_run (c / 8) 2 (c % 8) t (last ++ here) (omega arith) is there (subst (Stands a t) (append_assoc (repeated (left_shift over 8) (c / 8)) last here) stands) (λ u at_u has kept stands2. by (c % 8 == 0) refl u at_u has kept stands2))
      where
        by : (b : Bool) → (c % 8 == 0) ≡ b → (u : State) → Represents m a.labels s u → data_at u.registers 7 ≡ wrap (i * 2 ^ (8 * (c / 8))) → sign_changes (8 * (c / 8)) i ≡ false
            → Stands a u ((if b then [] else left_shift over (c % 8)) ++ here) → Path a 3 u Q
        by true e u at_u has kept stands2 =
            let all : 8 * (c / 8) ≡ c = omega (arith, eqb-true (c % 8) 0 e) in
            widen a 1 3 u Q (omega arith) (omega arith) (rest u at_u (has ∙ ap (λ (k : ℕ). wrap (i * 2 ^ k)) all) (ap (λ (k : ℕ). sign_changes k i) (sym all) ∙ kept) stands2)
        by false e u at_u has kept stands2 =
            let all : 8 * (c / 8) + c % 8 ≡ c = omega arith in
            left_part 1 (c % 8) (8 * (c / 8)) 0 u here (omega arith) at_u has kept stands2
            (λ v at_v had kept2 stands3. rest v at_v (had ∙ ap (λ (k : ℕ). wrap (i * 2 ^ k)) all) (ap (λ (k : ℕ). sign_changes k i) (sym all) ∙ kept2) stands3)

-- ---- the whole shift

left_all : (i n : ℕ) → i < 2 ^ 32 → (sign_changes (min n 32) i ≡ not (fits (signed i *ℤ pos (2 ^ n)))) × (fits (signed i *ℤ pos (2 ^ n)) ≡ true → wrap (i * 2 ^ min n 32) ≡ unsigned (signed i *ℤ pos (2 ^ n)))
left_all i n lt = elim (leb_tells n 32) [
  | inl p ↦
      let all : min n 32 ≡ n = omega (arith, p.1) in (
        ap (λ (k : ℕ). sign_changes k i) all ∙ overflow_is n i lt ∙ ap not (sym (fits_left i n lt)),
        λ h. ap (λ (k : ℕ). wrap (i * 2 ^ k)) all ∙ value_left i n lt (sym (fits_left i n lt) ∙ h),
      )
  | inr p ↦
      let most : min n 32 ≡ 32 = omega (arith, p.1) in
      let behind : 32 + (n - 32) ≡ n = omega (arith, p.1) in
      let none : wrap (i * 2 ^ 32) ≡ 0 = omega arith in
      let zeros : wrap (0 * 2 ^ (n - 32)) ≡ 0 = omega arith in (
        ap (λ (k : ℕ). sign_changes k i) most ∙ overflow_is 32 i lt ∙ ap not (sym (left_most i n lt (omega (arith, p.1))) ∙ sym (fits_left i n lt)),
        λ h. ap (λ (k : ℕ). wrap (i * 2 ^ k)) most ∙ none ∙ sym zeros ∙ ap (λ (x : ℕ). wrap (x * 2 ^ (n - 32))) (sym none) ∙ wrapped_more i 32 (n - 32) ∙ ap (λ (k : ℕ). wrap (i * 2 ^ k)) behind
            ∙ value_left i n lt (sym (fits_left i n lt) ∙ h),
      )
]

unshifted : (z : ℤ) → int_shr z 0 ≡ z
unshifted (pos b) = ap pos (omega arith)
unshifted (negsuc b) = ap negsuc (omega arith)

right_all : (i n : ℕ) → i < 2 ^ 32 → unsigned (int_shr (signed i) (min (n + 1) 31)) ≡ unsigned (int_shr (signed i) (suc n))
right_all i n lt = elim (leb_tells (suc n) 31) [
  | inl p ↦ let all : min (n + 1) 31 ≡ suc n = omega (arith, p.1) in ap (λ (k : ℕ). unsigned (int_shr (signed i) k)) all
  | inr p ↦ let most : min (n + 1) 31 ≡ 31 = omega (arith, p.1) in ap (λ (k : ℕ). unsigned (int_shr (signed i) k)) most ∙ ap unsigned (sym (right_most i (suc n) lt (omega (arith, p.1))))
]

module _ (a : Assembly) (m : Setting) (s : WordState) (housed : IsHoused m) (place : IsInPlace m s) (t : State) (items : List Item) (to : Var) (x y : Operand) (over : ℕ) (is : Represents m a.labels s t) (has : HasHome m to) (usable_x : IsUsable m x) where
  lefts : (u : State) (i n : ℕ) (b : Bool) → fits (signed i *ℤ pos (2 ^ n)) ≡ b → i < 2 ^ 32 → Represents m a.labels s u → data_at u.registers 7 ≡ i → Stands a u (left_items over (min n 32) ++ put_into (D 7) (home_of m.homes to) ∷ items)
      → Arrives a m s u items 11 (bind_result m s to over (if b then Gives (unsigned (signed i *ℤ pos (2 ^ n))) else Over))
  lefts u i n true e lt at_u there stands =
      let whole = left_all i n lt in
      kept_arrives a m s u items 11 (keeper_of m.homes to) (λ k. Binds k (Number (unsigned (signed i *ℤ pos (2 ^ n))))) (λ room.
      left_goes a m s housed place i lt (Behind a m (changed s (Binds (keeper_of m.homes to) (Number (unsigned (signed i *ℤ pos (2 ^ n)))))) items) (min n 32) over
      (λ h v pc at_v at. let no_change : sign_changes (min n 32) i ≡ false = whole.0 ∙ ap not e in absurd (cc))
      u (put_into (D 7) (home_of m.homes to) ∷ items) (omega arith) at_u (there ∙ omega (arith, lt)) stands
      (λ v at_v had kept stands2. number_bound a m s housed place v items to 7 (wrap (i * 2 ^ min n 32)) (unsigned (signed i *ℤ pos (2 ^ n))) has at_v had (whole.1 e) stands2 room))
  lefts u i n false e lt at_u there stands =
      let whole = left_all i n lt in
      left_goes a m s housed place i lt (Opened a m s over) (min n 32) over (λ h v pc at_v at. opened a m s housed place v over pc at_v at)
      u (put_into (D 7) (home_of m.homes to) ∷ items) (omega arith) at_u (there ∙ omega (arith, lt)) stands
      (λ v at_v had kept stands2. let change : sign_changes (min n 32) i ≡ true = whole.0 ∙ ap not e in absurd (cc))

  rights : (u : State) (i n : ℕ) → i < 2 ^ 32 → Represents m a.labels s u → data_at u.registers 7 ≡ i → Stands a u (right_items (min (n + 1) 31) ++ put_into (D 7) (home_of m.homes to) ∷ items)
      → Arrives a m s u items 11 (binds m s to (Number (unsigned (int_shr (signed i) (suc n)))))
  rights u i n lt at_u there stands =
      kept_arrives a m s u items 11 (keeper_of m.homes to) (λ k. Binds k (Number (unsigned (int_shr (signed i) (suc n))))) (λ room.
      let Q : State → Type 0 = Behind a m (changed s (Binds (keeper_of m.homes to) (Number (unsigned (int_shr (signed i) (suc n)))))) items in
      widen a 5 11 u Q (omega arith) (omega arith)
      (right_goes a m s housed place i lt Q (min (n + 1) 31) u (put_into (D 7) (home_of m.homes to) ∷ items) (omega arith) at_u (there ∙ sym (ap unsigned (unshifted (signed i)) ∙ of_z-to_z w32 i lt)) stands
      (λ v at_v had stands2. number_bound a m s housed place v items to 7 (unsigned (int_shr (signed i) (min (n + 1) 31))) (unsigned (int_shr (signed i) (suc n))) has at_v had (right_all i n lt) stands2 room)))

  pub shift_line : (count : ℤ) → Stands a t (op_items m.homes (op.Arith to (kind.Shift count) x y over) ++ items) → Arrives a m s t items 14 (op_effect m s (op.Arith to (kind.Shift count) x y over))
  unfolding computing_items
  shift_line (pos n) stands =
      number_arrives a m s t items 14 x (λ i. bind_result m s to over (fitted (signed i *ℤ pos (2 ^ n)))) (λ i word.
      loaded a m s housed place t x 7 i 11 (left_items over (min n 32) ++ put_into (D 7) (home_of m.homes to) ∷ items) items (bind_result m s to over (fitted (signed i *ℤ pos (2 ^ n)))) (omega arith) (omega arith) is usable_x word
      (parted a m s housed place t to (kind.Shift (pos n)) x y over items stands)
      (λ u p. lefts u i n (fits (signed i *ℤ pos (2 ^ n))) refl (omega (arith, p.3.range.registers.d 7, p.2)) p.0 p.2 p.3))
  shift_line (negsuc n) stands =
      number_arrives a m s t items 14 x (λ i. bind_result m s to over (fitted (int_shr (signed i) (suc n)))) (λ i word.
      loaded a m s housed place t x 7 i 11 (right_items (min (n + 1) 31) ++ put_into (D 7) (home_of m.homes to) ∷ items) items (bind_result m s to over (fitted (int_shr (signed i) (suc n)))) (omega arith) (omega arith) is usable_x word
      (parted a m s housed place t to (kind.Shift (negsuc n)) x y over items stands)
      (λ u p.
      let lt : i < 2 ^ 32 = omega (arith, p.3.range.registers.d 7, p.2) in
      subst (λ b. Arrives a m s u items 11 (bind_result m s to over (if b then Gives (unsigned (int_shr (signed i) (suc n))) else Over))) (sym (right_fits i (suc n) lt)) (rights u i n lt p.0 p.2 p.3)))
