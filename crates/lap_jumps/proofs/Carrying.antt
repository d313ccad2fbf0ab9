-- Moves between homes, one after another.
use Rattle.std.proofs.Common.{◌≡◌, ℕ, suc, ◌+◌, ◌<◌, ◌≤◌, ◌==◌, Bool, true, false, List, [], ◌∷◌, ◌++◌, Some, length, refl, ap, sym, subst, ◌∙◌, arith}
use Rattle.std.specs.Prelude.{if◌then◌else◌}
use Rattle.std.proofs.lemmas.Bool.{ne_eqb, eqb-true, eqb-false}
use Rattle.std.proofs.lemmas.List.{get_or-set_other}
use Rattle.word_ir.specs.declared.placed.Home.{Home}
use Rattle.word_ir.specs.declared.placed.Home.TheVariants as home
use Rattle.word_ir.specs.Word.{Word}
use Rattle.word_ir.specs.Storage.{static_at}
use Rattle.word_ir.specs.State.{Setting, State as WordState, At, held, hold, has_room, stack_at}
use Rattle.word_ir.specs.WholePlaced.{IsHome}
use Rattle.word_ir.specs.Ranges.{IsInPlace}
use Rattle.parallel_moves.specs.declared.OneMove.{OneMove}
use Rattle.parallel_moves.specs.Moves.{scratch, put, after, StepsPass}
use Rattle.m68020_code.specs.declared.instr.Ea.{Ea}
use Rattle.m68020_code.specs.declared.instr.Ea.TheVariants.{Abs}
use Rattle.m68020_code.specs.declared.instr.Instr.TheVariants.{MoveaL}
use Rattle.m68020_step.specs.declared.registers.Effect.TheVariants.{Nothing}
use Rattle.m68020_step.specs.Operand.{with_pc, with_address, data_at}
use Rattle.m68020_step.specs.Step.{State}
use Rattle.m68020_asm.specs.declared.item.Item.{Item}
use Rattle.m68020_asm.specs.declared.item.Item.TheVariants.{Plain}
use Rattle.lap_items.specs.Homes.{number_of_home, home_at, at_home, put_into}
use Rattle.lap_items.specs.Moves.{moved_items}
use Rattle.lap_items.proofs.Numbers.{IsNear, number_small, same_number}
use Rattle.lap_runs.specs.Represents.{real, IsKnown, Represents}
use Rattle.lap_paths.specs.Paths.{Assembly, Stands, Path, Reads}
use Rattle.lap_paths.specs.Housed.{IsHoused}
use Rattle.lap_paths.proofs.Steps.{act, arrived}
use Rattle.lap_paths.proofs.Besides.{beside_represents, home_reads, is_reached}
use Rattle.lap_paths.proofs.Loads.{does_move_address, reads_data, move_goes}
use Rattle.lap_paths.proofs.WordStorage.{stack_word}
use Rattle.lap_paths.proofs.Writes.{there_writes, write_goes, can}
use Rattle.lap_paths.proofs.Puts.{real_small, stack_places, absolute_places, put_goes}
use Rattle.lap_jumps.specs.Carries.{word_numbered, IsOne, is_place, Carries, KeepsOthers, Carried}
use Rattle.lap_jumps.specs.Laws.{MovesCarry}
use Rattle.lap_jumps.proofs.Singles.{then_goes, both_hold}
use Rattle.lap_jumps.proofs.Places.{near, home_back, Place, Between, Lies, place_told}
use Rattle.lap_jumps.proofs.Holding.{held_same, held_other, room_there, hold_in_place, keeps_all, keeps_trans, hold_keeps}

-- ---- D6 and D7 stay where a word goes into a home

module _ (a : Assembly) (m : Setting) (s : WordState) (t : State) (from : Ea) (w : Word) (items : List Item) (housed : IsHoused m) (place : IsInPlace m s) (is : Represents m a.labels s t) (known : IsKnown m w) (reads : Reads t from (real a.labels w)) where
  pub data_stays : (j : ℕ) → 6 ≤ j → j < 8 → (h : Home) → IsHome m.words h → has_room s (At h) ≡ true → Stands a t (put_into from h ∷ items) → Path a 1 t (λ u. data_at u.registers j ≡ data_at t.registers j)
  data_stays j low high (home.D i) near room stands =
      move_goes a m housed 0 t from i (real a.labels w) items (λ u. data_at u.registers j ≡ data_at t.registers j) (omega (arith, near)) stands reads
      (λ u beside there stands2. arrived a u (λ u. data_at u.registers j ≡ data_at t.registers j) (beside.numbers j high (λ e. absurd (omega (arith, e, near, low)))))
  data_stays j low high (home.A i) near room stands =
      act a 0 t (Plain (MoveaL from i)) (MoveaL from i) items (λ pc. with_address (with_pc t.registers pc) i (real a.labels w)) Nothing (λ u. data_at u.registers j ≡ data_at t.registers j) stands
      (λ width at. refl) (λ at pc. does_move_address t from i (real a.labels w) at pc reads) refl (λ pc. refl)
      (λ pc. let same = get_or-set_other t.registers.a i 4 (real a.labels w) 0 (λ e. absurd (omega (arith, e, near))) in omega (arith, same))
      (λ pc stands2. arrived a _ (λ u. data_at u.registers j ≡ data_at t.registers j) refl)
  data_stays j low high (home.Stack n) near room stands =
      let old = stack_word m s n housed place room in
      write_goes a 0 t from (at_home (home.Stack n)) (real a.labels w) (stack_at s n) items (λ u. data_at u.registers j ≡ data_at t.registers j) stands reads (stack_places m s t n housed place is.top near)
      (can m a.labels s t (stack_at s n) w old.0 housed place is known (real_small a m w known) old.1 0 t.registers.flags)
      (λ pc f stands2. arrived a _ (λ u. data_at u.registers j ≡ data_at t.registers j) refl)
  data_stays j low high (home.Static p) near room stands =
      let there = is.statics p near in
      write_goes a 0 t from (Abs (static_at p)) (real a.labels w) (static_at p) items (λ u. data_at u.registers j ≡ data_at t.registers j) stands reads (absolute_places t (static_at p))
      (there_writes t.storage (static_at p) there.0 (omega (arith, near, housed.few)) there.1)
      (λ pc f stands2. arrived a _ (λ u. data_at u.registers j ≡ data_at t.registers j) refl)

-- ---- one move

module _ (a : Assembly) (m : Setting) (homes : List Home) (housed : IsHoused m) (lodged : (h : Home) → IsOne homes h → IsOne m.homes h) where
  pub is_home : (h : Home) → IsOne homes h → IsHome m.words h
  is_home h one = let k = lodged h one in housed.homes k.0 h k.1

  pub near_one : (h : Home) → IsOne homes h → IsNear (length m.words.statics.items) h
  near_one h one = near m.words h (is_home h one)

  pub back : (h : Home) (p : ℕ) → IsOne homes h → number_of_home h ≡ p → home_at p ≡ h
  back h p one same = ap home_at (sym same) ∙ home_back (length m.words.statics.items) h (omega (arith, housed.few)) (near_one h one)

  pub small : (h : Home) → IsOne homes h → number_of_home h < scratch
  small h one = number_small (length m.words.statics.items) h (omega (arith, housed.few)) (near_one h one)

  module _ (s : WordState) (t : State) (holds : ℕ → ℕ) (c : Carries a m homes s t holds) where
    source : (p : ℕ) → Place homes p → Reads t (at_home (home_at p)) (real a.labels (word_numbered (holds p))) × IsKnown m (word_numbered (holds p))
    source p (Between e) = subst (λ q. Reads t (at_home (home_at q)) (real a.labels (word_numbered (holds q))) × IsKnown m (word_numbered (holds q))) (sym e) (reads_data t 7 (real a.labels (word_numbered (holds scratch))) c.between, c.known)
    source p (Lies h one same) =
        let k = lodged h one in
        let w : Word = word_numbered (holds p) in
        let has : held s (At h) ≡ Some w = c.each h one ∙ ap (λ (q : ℕ). Some (word_numbered (holds q))) same in
        let there = c.is.homes k.0 h w k.1 has in
        (subst (λ x. Reads t (at_home x) (real a.labels w)) (sym (back h p one same)) (home_reads t h (real a.labels w) (is_reached m s t h housed c.place c.is.top (is_home h one)) there.0), there.1)

    other_than_between : (h : Home) (v : ℕ) → IsOne homes h → put holds scratch v (number_of_home h) ≡ holds (number_of_home h)
    other_than_between h v one = ap (λ (b : Bool). if b then v else holds (number_of_home h)) (ne_eqb (number_of_home h) scratch (λ e. absurd (omega (arith, e, small h one))))

    to_between : (u : State) (v : ℕ) → Represents m a.labels s u → data_at u.registers 7 ≡ real a.labels (word_numbered v) → IsKnown m (word_numbered v) → Carries a m homes s u (put holds scratch v)
    to_between u v is there known = record {
      is = is;
      place = c.place;
      each = λ h one. c.each h one ∙ ap (λ (n : ℕ). Some (word_numbered n)) (sym (other_than_between h v one));
      between = there;
      known = known;
    }

    to_home : (u : State) (h : Home) (v : ℕ) → IsOne homes h → Represents m a.labels (hold s (At h) (word_numbered v)) u → data_at u.registers 7 ≡ data_at t.registers 7 → Carries a m homes (hold s (At h) (word_numbered v)) u (put holds (number_of_home h) v)
    to_home u h v one is same = record {
      is = is;
      place = hold_in_place m s h (word_numbered v) c.place;
      each = λ k is_one. by k is_one (number_of_home k == number_of_home h) refl;
      between = same ∙ c.between ∙ ap (λ (n : ℕ). real a.labels (word_numbered n)) (sym stays);
      known = subst (λ (n : ℕ). IsKnown m (word_numbered n)) (sym stays) c.known;
    }
      where
        stays : put holds (number_of_home h) v scratch ≡ holds scratch
        stays = ap (λ (b : Bool). if b then v else holds scratch) (ne_eqb scratch (number_of_home h) (λ e. absurd (omega (arith, e, small h one))))

        by : (k : Home) → IsOne homes k → (b : Bool) → (number_of_home k == number_of_home h) ≡ b → held (hold s (At h) (word_numbered v)) (At k) ≡ Some (word_numbered (if b then v else holds (number_of_home k)))
        by k is_one true e =
            let eq : h ≡ k = sym (same_number (length m.words.statics.items) k h (omega (arith, housed.few)) (near_one k is_one) (near_one h one) (eqb-true (number_of_home k) (number_of_home h) e)) in
            subst (λ x. held (hold s (At h) (word_numbered v)) (At x) ≡ Some (word_numbered v)) eq (held_same s h (word_numbered v) (word_numbered (holds (number_of_home h))) (c.each h one))
        by k is_one false e =
            held_other s h k (word_numbered v) (word_numbered (holds (number_of_home h))) (c.each h one) (λ eq. eqb-false (number_of_home k) (number_of_home h) e (ap number_of_home (sym eq))) ∙ c.each k is_one

    put_carries : (n : ℕ) (from : Ea) (v p : ℕ) (items : List Item) (Q : State → Type 0) → Place homes p → Reads t from (real a.labels (word_numbered v)) → IsKnown m (word_numbered v) → Stands a t (put_into from (home_at p) ∷ items)
        → ((x : WordState) (u : State) → Carries a m homes x u (put holds p v) → KeepsOthers homes s x → data_at u.registers 6 ≡ data_at t.registers 6 → Stands a u items → Path a n u Q) → Path a (suc n) t Q
    put_carries n from v p items Q (Between e) reads known stands rest =
        move_goes a m housed n t from 7 (real a.labels (word_numbered v)) items Q (omega arith) (subst (λ q. Stands a t (put_into from (home_at q) ∷ items)) e stands) reads
        (λ u beside there stands2. rest s u
        (subst (λ q. Carries a m homes s u (put holds q v)) (sym e) (to_between u v (beside_represents m a.labels 7 s t u housed (omega arith) c.is beside) there known)) (keeps_all homes s) (beside.numbers 6 (omega arith) (λ e. absurd (omega (arith, e)))) stands2)
    put_carries n from v p items Q (Lies h one same) reads known stands rest =
        let k = lodged h one in
        let w : Word = word_numbered v in
        let there : Stands a t (put_into from h ∷ items) = subst (λ x. Stands a t (put_into from x ∷ items)) (back h p one same) stands in
        let room = room_there m s h (word_numbered (holds (number_of_home h))) c.place (c.each h one) in
        let P : State → Type 0 = λ u. Represents m a.labels (hold s (At h) w) u × Stands a u items in
        let Between7 : State → Type 0 = λ u. data_at u.registers 7 ≡ data_at t.registers 7 in
        let Kept6 : State → Type 0 = λ u. data_at u.registers 6 ≡ data_at t.registers 6 in
        then_goes a t n (λ u. P u × (Between7 u × Kept6 u)) Q
        (both_hold a t P (λ u. Between7 u × Kept6 u)
        (put_goes a m 0 s t from k.0 h w items P housed c.place c.is known k.1 room there reads (λ u is stands2. arrived a u P (is, stands2)))
        (both_hold a t Between7 Kept6 (data_stays a m s t from w items housed c.place c.is known reads 7 (omega arith) (omega arith) h (is_home h one) room there)
        (data_stays a m s t from w items housed c.place c.is known reads 6 (omega arith) (omega arith) h (is_home h one) room there)))
        (λ u x. rest (hold s (At h) w) u (subst (λ q. Carries a m homes (hold s (At h) w) u (put holds q v)) same (to_home u h v one x.0.0 x.1.0))
        (hold_keeps homes s h w (word_numbered (holds (number_of_home h))) one (c.each h one)) x.1.1 x.0.1)

  -- ---- one after another

  pub steps_after : List OneMove → ℕ → ℕ
  steps_after [] n = n
  steps_after (x ∷ done) n = suc (steps_after done n)

  pub moves_go : (n : ℕ) (s : WordState) (t : State) (holds : ℕ → ℕ) (done : List OneMove) (items : List Item) (Q : State → Type 0) → Carries a m homes s t holds → StepsPass (is_place homes) done → Stands a t (moved_items done ++ items)
      → ((x : WordState) (u : State) → Carries a m homes x u (after done holds) → KeepsOthers homes s x → data_at u.registers 6 ≡ data_at t.registers 6 → Stands a u items → Path a n u Q) → Path a (steps_after done n) t Q
  unfolding steps_after
  moves_go n s t holds [] items Q c pass stands rest = rest s t c (keeps_all homes s) refl stands
  moves_go n s t holds (x ∷ done) items Q c pass stands rest =
      let from = source s t holds c x.from (place_told homes x.from pass.0) in
      put_carries s t holds c (steps_after done n) (at_home (home_at x.from)) (holds x.from) x.to (moved_items done ++ items) Q (place_told homes x.to pass.1) from.0 from.1 stands
      (λ y u c2 keeps six stands2. moves_go n y u (put holds x.to (holds x.from)) done items Q c2 pass.2 stands2
      (λ z v c3 more six2 stands3. rest z v c3 (keeps_trans homes s y z keeps more) (six2 ∙ six) stands3))

  pub steps_many : (done : List OneMove) (n : ℕ) → steps_after done n ≡ length done + n
  unfolding steps_after
  steps_many [] n = omega arith
  steps_many (x ∷ done) n = omega (arith, steps_many done n)

pub moves_carry : MovesCarry
moves_carry a m homes s t holds done items housed lodged c pass stands =
    let same : steps_after a m homes housed lodged done 0 ≡ length done = omega (arith, steps_many a m homes housed lodged done 0) in
    let Q : State → Type 0 = Carried a m homes s (after done holds) items in
    subst (λ n. Path a n t Q) same
    (moves_go a m homes housed lodged 0 s t holds done items Q c pass stands
    (λ x u carries keeps six stands2. arrived a u Q (record { words = x; carries = carries; others = keeps; stands = stands2 })))
