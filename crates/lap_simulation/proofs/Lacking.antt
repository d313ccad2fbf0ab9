-- A line whose effect is the end for want of room is the service for it.
use Rattle.std.specs.Prelude.{if◌then◌else◌}
use Rattle.std.proofs.Common.{◌≡◌, ℕ, ◌==◌, Bool, true, false, ◌||◌, ◌&&◌, List, [], ◌∷◌, Option, Some, None, refl, sym, ap, subst, ◌∙◌}
use Rattle.std.proofs.lemmas.Bool.{eqb-true}
use Rattle.program_runs.specs.Runs.{Faulted, Full}
use Rattle.word_ir.specs.declared.operands.Operand.{Operand}
use Rattle.word_ir.specs.declared.operands.Operand.TheVariants as operand
use Rattle.word_ir.specs.declared.words.WordOp.{WordOp}
use Rattle.word_ir.specs.declared.words.WordOp.TheVariants as op
use Rattle.word_faces.specs.Faces.{face_of, character_of, fixnum_of}
use Rattle.word_faces.specs.Operands.{fault_of, string_of}
use Rattle.word_ir.specs.Word.{Word, Number, Code, number_of}
use Rattle.word_ir.specs.State.{Setting, State as WordState}
use Rattle.word_ir.specs.Effects.{Effect, Ends, breaks, or_broken, word_of, with_number, lacking, service_effect, reader, names_of, op_effect}
use Rattle.word_ir.specs.Whole.{is_bit, is_op_shaped}
use Rattle.lap_operations.proofs.Quiet.{IsQuiet, move_quiet, load_quiet, byte_quiet, store_quiet, arith_quiet, take_quiet, push_quiet, pop_quiet, reset_quiet}
use Rattle.lap_room.specs.Laws.{room_of, kind_of}

pub record IsLacking (m : Setting) (s : WordState) (o : WordOp) (stack : Bool) (asked left : ℕ) : Type 0 where
  pub x : Operand
  pub is : o ≡ op.Service 4 (x ∷ kind_of stack ∷ [])
  pub word : word_of m s x ≡ Some (Number asked)
  pub rest : left ≡ room_of stack m s

module _ (m : Setting) (s : WordState) (o : WordOp) where
  abbrev Only : Effect → Type 0
  Only e = (stack : Bool) (asked left : ℕ) → e ≡ Ends (Full stack asked left) → IsLacking m s o stack asked left

  or_only : {X : Type 0} (x : Option X) (go : X → Effect) → ((v : X) → x ≡ Some v → Only (go v)) → Only (or_broken x go)
  or_only (Some v) go h = h v refl
  or_only None go h = λ stack asked left e. absurd (cc)

  if_only : (b : Bool) (x y : Effect) → (b ≡ true → Only x) → (b ≡ false → Only y) → Only (if b then x else y)
  if_only true x y h k = h refl
  if_only false x y h k = k refl

  number_is : (x : Operand) (w : Word) (n : ℕ) → word_of m s x ≡ Some w → number_of w ≡ Some n → word_of m s x ≡ Some (Number n)
  number_is x (Number k) n e q = let same : k ≡ n = cc in e ∙ ap (λ i. Some (Number i)) same
  number_is x (Code b) n e q = absurd (cc)

  number_only : (x : Operand) (go : ℕ → Effect) → ((n : ℕ) → word_of m s x ≡ Some (Number n) → Only (go n)) → Only (with_number m s x go)
  number_only x go h = or_only (word_of m s x) (λ w. or_broken (number_of w) go) (λ w e. or_only (number_of w) go (λ n q. h n (number_is x w n e q)))

  quiet_only : (e : Effect) → IsQuiet e → Only e
  quiet_only e q stack asked left is = absurd (subst IsQuiet is q)

  broken_only : Only breaks
  broken_only stack asked left e = absurd (cc)

  fault_only : (number x : ℕ) → Only (or_broken (fault_of number x) (λ f. Ends (Faulted f)))
  fault_only number x = or_only (fault_of number x) _ (λ f q stack asked left e. absurd (cc))

  -- with one operand
  one_only : (number n : ℕ) → Only (service_effect m s number (n ∷ []))
  one_only number n =
      if_only (number == 0) _ _ (λ z. or_only (face_of (reader m s) (names_of m) n) _ (λ f q stack asked left e. absurd (cc)))
      (λ z0. if_only (number == 1) _ _ (λ z. or_only (character_of n) _ (λ f q stack asked left e. absurd (cc)))
      (λ z1. if_only (number == 2) _ _ (λ z. or_only (fixnum_of n) _ (λ f q stack asked left e. absurd (cc)))
      (λ z2. if_only (number == 3) _ _ (λ z. if_only (n == 15) _ _ (λ y. broken_only) (λ y. fault_only n 0))
      (λ z3. if_only (number == 4) _ _ (λ z. broken_only)
      (λ z4. if_only (number == 5) _ _ (λ z. or_only (string_of (reader m s) n) _ (λ f q stack asked left e. absurd (cc))) (λ z5. broken_only))))))

  -- with two
  two_only : (number n k : ℕ) → (number ≡ 4 → Only (lacking m s n k)) → Only (service_effect m s number (n ∷ k ∷ []))
  two_only number n k h =
      if_only (number == 0) _ _ (λ z. broken_only)
      (λ z0. if_only (number == 1) _ _ (λ z. broken_only)
      (λ z1. if_only (number == 2) _ _ (λ z. broken_only)
      (λ z2. if_only (number == 3) _ _ (λ z. if_only (n == 15) _ _ (λ y. fault_only n k) (λ y. broken_only))
      (λ z3. if_only (number == 4) _ _ (λ z. h (eqb-true number 4 z)) (λ z4. if_only (number == 5) _ _ (λ z. broken_only) (λ z5. broken_only))))))

  -- which of them it is
  lacking_only : (x : Operand) (n k : ℕ) → word_of m s x ≡ Some (Number n) → o ≡ op.Service 4 (x ∷ operand.Word k ∷ []) → Only (lacking m s n k)
  lacking_only x n k word is =
      if_only (k == 0) _ _
      (λ z stack asked left e.
      let which : false ≡ stack = cc in
      let amount : n ≡ asked = cc in
      let room : room_of false m s ≡ left = cc in
      let kind : k ≡ 0 = eqb-true k 0 z in
      subst (λ b. IsLacking m s o b asked left) which (record { x = x; is = is ∙ ap (λ (i : ℕ). op.Service 4 (x ∷ operand.Word i ∷ [])) kind; word = word ∙ ap (λ i. Some (Number i)) amount; rest = sym room }))
      (λ z0. if_only (k == 1) _ _
      (λ z stack asked left e.
      let which : true ≡ stack = cc in
      let amount : n ≡ asked = cc in
      let room : room_of true m s ≡ left = cc in
      let kind : k ≡ 1 = eqb-true k 1 z in
      subst (λ b. IsLacking m s o b asked left) which (record { x = x; is = is ∙ ap (λ (i : ℕ). op.Service 4 (x ∷ operand.Word i ∷ [])) kind; word = word ∙ ap (λ i. Some (Number i)) amount; rest = sym room }))
      (λ z1. broken_only))

module _ (m : Setting) (s : WordState) where
  bit_word : (y : Operand) → is_bit y ≡ true → (k : ℕ) × (y ≡ operand.Word k)
  bit_word (operand.Word k) e = (k, refl)
  bit_word (operand.Var v) e = absurd (cc)
  bit_word (operand.Static p) e = absurd (cc)
  bit_word (operand.Code b) e = absurd (cc)
  bit_word (operand.Slot n) e = absurd (cc)

  is_room : (number : ℕ) (y : Operand) → number ≡ 4 → ((number == 3) || ((number == 4) && is_bit y)) ≡ true → is_bit y ≡ true
  is_room number y four shaped = subst (λ n. ((n == 3) || ((n == 4) && is_bit y)) ≡ true) four shaped

  service_only : (number : ℕ) (args : List Operand) → is_op_shaped (op.Service number args) ≡ true → Only m s (op.Service number args) (op_effect m s (op.Service number args))
  service_only number [] shaped = absurd (cc)
  service_only number (x ∷ []) shaped = number_only m s (op.Service number (x ∷ [])) x (λ n. service_effect m s number (n ∷ [])) (λ n word. one_only m s (op.Service number (x ∷ [])) number n)
  service_only number (x ∷ y ∷ []) shaped =
      let o : WordOp = op.Service number (x ∷ y ∷ []) in
      number_only m s o x (λ n. with_number m s y (λ k. service_effect m s number (n ∷ k ∷ [])))
      (λ n word. number_only m s o y (λ k. service_effect m s number (n ∷ k ∷ []))
      (λ k word2. two_only m s o number n k (λ four.
      let bit = bit_word y (is_room number y four shaped) in
      let same : bit.0 ≡ k = let both : Some (Number bit.0) ≡ Some (Number k) = ap (word_of m s) (sym bit.1) ∙ word2 in cc in
      lacking_only m s o x n k word (ap (λ (i : ℕ). op.Service i (x ∷ y ∷ [])) four ∙ ap (λ (z : Operand). op.Service 4 (x ∷ z ∷ [])) (bit.1 ∙ ap operand.Word same)))))
  service_only number (x ∷ y ∷ z ∷ rest) shaped = absurd (cc)

  pub is_lacking : (o : WordOp) → is_op_shaped o ≡ true → (stack : Bool) (asked left : ℕ) → op_effect m s o ≡ Ends (Full stack asked left) → IsLacking m s o stack asked left
  is_lacking (op.Move to from) shaped = quiet_only m s (op.Move to from) (op_effect m s (op.Move to from)) (move_quiet m s to from)
  is_lacking (op.Load to base offset) shaped = quiet_only m s (op.Load to base offset) (op_effect m s (op.Load to base offset)) (load_quiet m s to base offset)
  is_lacking (op.LoadByte to base index offset) shaped = quiet_only m s (op.LoadByte to base index offset) (op_effect m s (op.LoadByte to base index offset)) (byte_quiet m s to base index offset)
  is_lacking (op.Store base offset from) shaped = quiet_only m s (op.Store base offset from) (op_effect m s (op.Store base offset from)) (store_quiet m s base from offset)
  is_lacking (op.Arith to k x y over) shaped = quiet_only m s (op.Arith to k x y over) (op_effect m s (op.Arith to k x y over)) (arith_quiet m s to k x y over)
  is_lacking (op.Take to bytes full) shaped = quiet_only m s (op.Take to bytes full) (op_effect m s (op.Take to bytes full)) (take_quiet m s to bytes full)
  is_lacking (op.Push words full) shaped = quiet_only m s (op.Push words full) (op_effect m s (op.Push words full)) (push_quiet m s words full)
  is_lacking (op.Pop words) shaped = quiet_only m s (op.Pop words) (op_effect m s (op.Pop words)) (pop_quiet m s words)
  is_lacking (op.Reset to) shaped = quiet_only m s (op.Reset to) (op_effect m s (op.Reset to)) (reset_quiet m s to)
  is_lacking (op.Service number args) shaped = service_only number args shaped
