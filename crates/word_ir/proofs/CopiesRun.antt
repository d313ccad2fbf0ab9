-- Copies run alike.
use Rattle.std.proofs.Common.{◌≡◌, ℕ, zero, suc, ◌+◌, ◌==◌, ◌&&◌, Bool, true, false, if◌then◌else◌, List, [], ◌∷◌, length, map, replicate, Option, Some, None, option_and_then, refl, ap, ◌∙◌}
use Rattle.std.specs.List.{list_all}
use Rattle.std.specs.Option.{option_map_or}
use Rattle.t_base.specs.declared.basics.Var.{Var}
use Rattle.program_runs.specs.Runs.{Value}
use Rattle.program_runs.specs.Follows.{after}
use Rattle.word_faces.specs.Faces.{face_of, shown_of}
use Rattle.word_ir.specs.declared.operands.Operand.{Operand}
use Rattle.word_ir.specs.declared.operands.Operand.TheVariants as operand
use Rattle.word_ir.specs.declared.placed.Home.{Home}
use Rattle.word_ir.specs.declared.words.Arith.{Arith}
use Rattle.word_ir.specs.declared.words.StaticWord.{StaticWord}
use Rattle.word_ir.specs.declared.words.WordOp.{WordOp}
use Rattle.word_ir.specs.declared.words.WordOp.TheVariants as op
use Rattle.word_ir.specs.declared.words.WordEnd.{WordEnd}
use Rattle.word_ir.specs.declared.words.WordEnd.TheVariants as last
use Rattle.word_ir.specs.declared.words.WordBlock.{WordBlock}
use Rattle.word_ir.specs.declared.words.Words.{Words}
use Rattle.word_ir.specs.Word.{Word, moved, number_of, block_of}
use Rattle.word_ir.specs.Storage.{Sizes, long_at, is_in_stack}
use Rattle.word_ir.specs.Names.{image_names}
use Rattle.word_ir.specs.Lines.{Line, Op, Last, line_at, moves_of}
use Rattle.word_ir.specs.Computing.{Result, Gives, Over, Bad, computed, is_shift, is_of_tag}
use Rattle.word_ir.specs.State.{Setting, keeper_of, State, static_word, start, seen}
use Rattle.word_ir.specs.Effects.{Effect, Binds, Stores, Takes, SetsTop, Puts, Turns, Enters, Ends, breaks, or_broken, word_of, with_word, with_number, with_numbers, paired, pairs_of, enters, bind_result, arith_effect, reader, names_of, with_one, with_two, service_effect, op_effect, jump_effect, block_at, end_effect, line_effect}
use Rattle.word_ir.specs.Step.{changed, broken, moving, done, unless_ended, step, run_in}
use Rattle.word_ir.specs.Stamps.{Stamp, Marks, Stamped, stamped_start, birth_at, stamp_of, is_birth, is_written, reaches_by_stamp, reaches, number_at, if_number, may_load_byte, op_may, operand_may, op_reads, end_reads, line_may, mark_held, mark_stored, mark_params, params_at, args_of, bound_stamp, stored_stamp, marked, counted, stamped_done, stamped_unless, stamped_step, stamped_run_in}
use Rattle.word_ir.specs.Copies.{IsCopyOfBlock, IsCopyOf}
use Rattle.word_ir.specs.CopyLaws.{with_homes, CopiesRunAlike}
use Rattle.word_ir.proofs.CopiesWeigh.{by_copies, line_same}

-- ---- of what effects are made

or_same : {X : Type 0} (o : Option X) (f g : X → Effect) → ((x : X) → f x ≡ g x) → or_broken o f ≡ or_broken o g
or_same (Some x) f g h = h x
or_same None f g h = refl

if_same : {X : Type 0} (b : Bool) (x y u v : X) → x ≡ u → y ≡ v → (if b then x else y) ≡ (if b then u else v)
if_same true x y u v h k = h
if_same false x y u v h k = k

one_same : (args : List ℕ) (f g : ℕ → Effect) → ((x : ℕ) → f x ≡ g x) → with_one args f ≡ with_one args g
one_same [] f g h = refl
one_same (a ∷ []) f g h = h a
one_same (a ∷ b ∷ rest) f g h = refl

two_same : (args : List ℕ) (f g : ℕ → ℕ → Effect) → ((x y : ℕ) → f x y ≡ g x y) → with_two args f ≡ with_two args g
two_same [] f g h = refl
two_same (a ∷ []) f g h = refl
two_same (a ∷ b ∷ []) f g h = h a b
two_same (a ∷ b ∷ c ∷ rest) f g h = refl

test_same : (o : Option ℕ) (f g : ℕ → Bool) → ((x : ℕ) → f x ≡ g x) → option_map_or f o true ≡ option_map_or g o true
test_same (Some x) f g h = h x
test_same None f g h = refl

module _ (old new : Words) (homes : List Home) (sizes : Sizes) (copy : IsCopyOf old new) where
  abbrev m : Setting
  m = with_homes old homes sizes

  abbrev n : Setting
  n = with_homes new homes sizes

  -- ---- operands

  word_same : (s : State) (x : Operand) → word_of n s x ≡ word_of m s x
  word_same s (operand.Var v) = refl
  word_same s (operand.Word w) = refl
  word_same s (operand.Static place) = refl
  word_same s (operand.Code block) = refl
  word_same s (operand.Slot bytes) = refl

  with_word_same : (s : State) (x : Operand) (f g : Word → Effect) → ((w : Word) → f w ≡ g w) → with_word n s x f ≡ with_word m s x g
  with_word_same s x f g h = ap (λ o. or_broken o f) (word_same s x) ∙ or_same (word_of m s x) f g h

  with_number_same : (s : State) (x : Operand) (f g : ℕ → Effect) → ((k : ℕ) → f k ≡ g k) → with_number n s x f ≡ with_number m s x g
  with_number_same s x f g h = with_word_same s x (λ w. or_broken (number_of w) f) (λ w. or_broken (number_of w) g) (λ w. or_same (number_of w) f g h)

  with_numbers_same : (s : State) (xs : List Operand) (f g : List ℕ → Effect) → ((ks : List ℕ) → f ks ≡ g ks) → with_numbers n s xs f ≡ with_numbers m s xs g
  with_numbers_same s [] f g h = h []
  with_numbers_same s (x ∷ xs) f g h =
      with_number_same s x (λ k. with_numbers n s xs (λ ks. f (k ∷ ks))) (λ k. with_numbers m s xs (λ ks. g (k ∷ ks)))
      (λ k. with_numbers_same s xs (λ ks. f (k ∷ ks)) (λ ks. g (k ∷ ks)) (λ ks. h (k ∷ ks)))

  words_same : (s : State) (xs : List Operand) → map (word_of n s) xs ≡ map (word_of m s) xs
  words_same s [] = refl
  words_same s (x ∷ xs) = ap (λ w. w ∷ map (word_of n s) xs) (word_same s x) ∙ ap (λ ws. word_of m s x ∷ ws) (words_same s xs)

  pairs_same : (s : State) (params : List Var) (words : List (Option Word)) → pairs_of n s params words ≡ pairs_of m s params words
  pairs_same s [] words = refl
  pairs_same s (v ∷ params) [] = ap (λ rest. paired s (keeper_of homes v) None rest) (pairs_same s params [])
  pairs_same s (v ∷ params) (x ∷ words) = ap (λ rest. paired s (keeper_of homes v) x rest) (pairs_same s params words)

  enters_same : (s : State) (block : ℕ) (params : List Var) (args : List Operand) → enters n s block params args ≡ enters m s block params args
  enters_same s block params args =
      ap (λ words. or_broken (pairs_of n s params words) (λ env. Enters block env)) (words_same s args)
      ∙ ap (λ pairs. or_broken pairs (λ env. Enters block env)) (pairs_same s params (map (word_of m s) args))

  -- ---- operations

  bind_same : (s : State) (to : Var) (over : ℕ) (r : Result) → bind_result n s to over r ≡ bind_result m s to over r
  bind_same s to over (Gives k) = refl
  bind_same s to over Over = refl
  bind_same s to over Bad = refl

  arith_same : (s : State) (to : Var) (kind : Arith) (a b : Operand) (over : ℕ) → arith_effect n s to kind a b over ≡ arith_effect m s to kind a b over
  arith_same s to kind a b over =
      with_number_same s a _ _
      (λ x. if_same (is_shift kind) (bind_result n s to over (computed kind x 0)) (with_number n s b (λ y. bind_result n s to over (computed kind x y)))
      (bind_result m s to over (computed kind x 0)) (with_number m s b (λ y. bind_result m s to over (computed kind x y)))
      (bind_same s to over (computed kind x 0)) (with_number_same s b _ _ (λ y. bind_same s to over (computed kind x y))))

  value_same : (s : State) (args : List ℕ) → with_one args (λ w. or_broken (face_of (reader n s) (names_of n) w) (λ face. Ends (Value (shown_of (names_of n) face))))
      ≡ with_one args (λ w. or_broken (face_of (reader m s) (names_of m) w) (λ face. Ends (Value (shown_of (names_of m) face))))
  value_same s args = ap (λ names. with_one args (λ w. or_broken (face_of (reader m s) names w) (λ face. Ends (Value (shown_of names face))))) (ap image_names copy.shared.names)

  service_same : (s : State) (number : ℕ) (args : List ℕ) → service_effect n s number args ≡ service_effect m s number args
  service_same s number args =
      if_same (number == 0) _ _ _ _ (value_same s args) (if_same (number == 1) _ _ _ _ refl (if_same (number == 2) _ _ _ _ refl (if_same (number == 3) _ _ _ _ refl
      (if_same (number == 4) _ _ _ _ (two_same args _ _ (λ x y. refl)) refl))))

  op_same : (s : State) (o : WordOp) → op_effect n s o ≡ op_effect m s o
  op_same s (op.Move to from) = with_word_same s from _ _ (λ x. refl)
  op_same s (op.Load to base offset) = with_number_same s base _ _ (λ at. refl)
  op_same s (op.LoadByte to base index offset) = with_number_same s base _ _ (λ at. with_number_same s index _ _ (λ i. refl))
  op_same s (op.Store base offset from) = with_number_same s base _ _ (λ at. with_word_same s from _ _ (λ x. refl))
  op_same s (op.Arith to kind a b over) = arith_same s to kind a b over
  op_same s (op.Take to bytes full) = with_number_same s bytes _ _ (λ k. refl)
  op_same s (op.Push words full) = refl
  op_same s (op.Pop words) = refl
  op_same s (op.Service number args) = with_numbers_same s args _ _ (λ ks. service_same s number ks)
  op_same s (op.Reset to) = with_number_same s to _ _ (λ at. refl)

  -- ---- ends

  block_same : (block : ℕ) (f g : WordBlock → Effect) → ((x y : WordBlock) → IsCopyOfBlock x y → f y ≡ g x) → or_broken (block_at n block) f ≡ or_broken (block_at m block) g
  block_same block f g h = by_copies (λ o p. or_broken p f ≡ or_broken o g) old.blocks.items new.blocks.items block copy.blocks refl h

  jump_same : (s : State) (block : ℕ) (args : List Operand) (x y : WordBlock) → IsCopyOfBlock x y → jump_effect n s block args y ≡ jump_effect m s block args x
  jump_same s block args x y c =
      ap (λ (params : List Var). if length args == length params then enters n s block params args else breaks) c.params
      ∙ if_same (length args == length x.params) _ _ _ _ (enters_same s block x.params args) refl

  enter_same : (s : State) (block : ℕ) (args : List Operand) (x y : WordBlock) → IsCopyOfBlock x y → enters n s block y.params args ≡ enters m s block x.params args
  enter_same s block args x y c = ap (λ (params : List Var). enters n s block params args) c.params ∙ enters_same s block x.params args

  end_same : (s : State) (e : WordEnd) → end_effect n s e ≡ end_effect m s e
  end_same s (last.Jump block args) = block_same block (jump_effect n s block args) (jump_effect m s block args) (jump_same s block args)
  end_same s (last.Test kind a b at_true at_false) =
      with_word_same s a _ _ (λ x. if_same (is_of_tag kind) _ _ _ _ refl (with_word_same s b _ _ (λ y. refl)))
  end_same s (last.Enter code args) =
      with_word_same s code _ _ (λ x. or_same (block_of x) _ _ (λ block. block_same block (λ y. enters n s block y.params args) (λ x. enters m s block x.params args) (enter_same s block args)))
  end_same s last.Stop = refl

  effect_same : (s : State) (line : Line) → line_effect n s line ≡ line_effect m s line
  effect_same s (Op o) = op_same s o
  effect_same s (Last e) = end_same s e

  -- ---- steps

  done_same : (s : State) (line : Option Line) → done n s line ≡ done m s line
  done_same s (Some line) = ap (λ e. moving (moves_of line) (changed s e)) (effect_same s line)
  done_same s None = refl

  at_same : (s : State) → line_at new s.block s.place ≡ line_at old s.block s.place
  at_same s = line_same old new s.block s.place copy.blocks

  step_same : (s : State) → step n s ≡ step m s
  unfolding step
  step_same s =
      ap (λ line. unless_ended s.end s (done n s line)) (at_same s) ∙ ap (λ t. unless_ended s.end s t) (done_same s (line_at old s.block s.place))

  abbrev first_state : List StaticWord → ℕ → State
  first_state statics entry = record (start m) { storage = record (start m).storage { statics = map static_word statics }; block = entry }

  start_same : start n ≡ start m
  start_same = ap (λ statics. first_state statics new.entry) copy.statics ∙ ap (λ entry. first_state old.statics.items entry) copy.entry

  states_same : (k : ℕ) (s t : State) → s ≡ t → after (step n) k s ≡ after (step m) k t
  states_same zero s t e = e
  states_same (suc k) s t e = states_same k (step n s) (step m t) (step_same s ∙ ap (step m) e)

  plain_same : (k : ℕ) → run_in n k ≡ run_in m k
  plain_same k = ap (λ s. seen m s) (states_same k (start n) (start m) start_same)

  -- ---- what may be used

  stamp_same : (s : State) (k : Marks) (x : Operand) → stamp_of n s k x ≡ stamp_of m s k x
  stamp_same s k (operand.Var v) = refl
  stamp_same s k (operand.Slot bytes) = refl
  stamp_same s k (operand.Word w) = refl
  stamp_same s k (operand.Static place) = refl
  stamp_same s k (operand.Code block) = refl

  number_same : (s : State) (x : Operand) → number_at n s x ≡ number_at m s x
  number_same s x = ap (λ o. option_and_then number_of o) (word_same s x)

  if_number_same : (s : State) (x : Operand) (f g : ℕ → Bool) → ((at : ℕ) → f at ≡ g at) → if_number n s x f ≡ if_number m s x g
  if_number_same s x f g h = ap (λ o. option_map_or f o true) (number_same s x) ∙ test_same (number_at m s x) f g h

  by_stamp_same : (s : State) (k : Marks) (base : Operand) (at : ℕ) → reaches_by_stamp n s k base at ≡ reaches_by_stamp m s k base at
  by_stamp_same s k base at = ap (λ stamp. if is_in_stack s.storage at then is_birth stamp (birth_at m s k at) else true) (stamp_same s k base)

  reaches_same : (s : State) (k : Marks) (base : Operand) (at : ℕ) → reaches n s k base at ≡ reaches m s k base at
  reaches_same s k (operand.Slot bytes) at = refl
  reaches_same s k (operand.Var v) at = by_stamp_same s k (operand.Var v) at
  reaches_same s k (operand.Word w) at = by_stamp_same s k (operand.Word w) at
  reaches_same s k (operand.Static place) at = by_stamp_same s k (operand.Static place) at
  reaches_same s k (operand.Code block) at = by_stamp_same s k (operand.Code block) at

  op_may_same : (s : State) (k : Marks) (o : WordOp) → op_may n s k o ≡ op_may m s k o
  op_may_same s k (op.Load to base offset) = if_number_same s base _ _ (λ at. ap (λ b. b && is_written s k (moved at offset)) (reaches_same s k base (moved at offset)))
  op_may_same s k (op.LoadByte to base index offset) = by_index
    where
      by_index : op_may n s k (op.LoadByte to base index offset) ≡ op_may m s k (op.LoadByte to base index offset)
      by_index = if_number_same s base _ _ (λ at. if_number_same s index _ _ (λ i. byte_same at i))
        where
          byte_same : (at i : ℕ) → may_load_byte n s k base (moved (at + i) offset) ≡ may_load_byte m s k base (moved (at + i) offset)
          byte_same at i = ap (λ b. b && is_written s k (moved (at + i) offset)) (by_stamp_same s k base (moved (at + i) offset))
  op_may_same s k (op.Store base offset from) = if_number_same s base _ _ (λ at. reaches_same s k base (moved at offset))
  op_may_same s k (op.Reset to) = if_number_same s to _ _ (λ at. ap (λ stamp. is_birth stamp (birth_at m s k at)) (stamp_same s k to))
  op_may_same s k (op.Move to from) = refl
  op_may_same s k (op.Arith to kind a b over) = refl
  op_may_same s k (op.Take to bytes full) = refl
  op_may_same s k (op.Push words full) = refl
  op_may_same s k (op.Pop words) = refl
  op_may_same s k (op.Service number args) = refl

  operand_may_same : (s : State) (k : Marks) (x : Operand) → operand_may n s k x ≡ operand_may m s k x
  operand_may_same s k (operand.Var v) = refl
  operand_may_same s k (operand.Word w) = refl
  operand_may_same s k (operand.Static place) = refl
  operand_may_same s k (operand.Code block) = refl
  operand_may_same s k (operand.Slot bytes) = refl

  all_may_same : (s : State) (k : Marks) (xs : List Operand) → list_all (operand_may n s k) xs ≡ list_all (operand_may m s k) xs
  all_may_same s k [] = refl
  all_may_same s k (x ∷ xs) = ap (λ b. b && list_all (operand_may n s k) xs) (operand_may_same s k x) ∙ ap (λ b. operand_may m s k x && b) (all_may_same s k xs)

  line_may_same : (s : State) (k : Marks) (line : Line) → line_may n s k line ≡ line_may m s k line
  line_may_same s k (Op o) = ap (λ b. b && op_may n s k o) (all_may_same s k (op_reads o)) ∙ ap (λ b. list_all (operand_may m s k) (op_reads o) && b) (op_may_same s k o)
  line_may_same s k (Last e) = all_may_same s k (end_reads e)

  -- ---- marks

  bound_same : (s : State) (k : Marks) (line : Line) → bound_stamp n s k line ≡ bound_stamp m s k line
  bound_same s k (Op (op.Move to from)) = stamp_same s k from
  bound_same s k (Op (op.Load to base offset)) = ap (λ o. option_and_then (λ at. option_and_then (λ stamp. stamp) (long_at k.longs (moved at offset))) o) (number_same s base)
  bound_same s k (Op (op.LoadByte to base index offset)) = refl
  bound_same s k (Op (op.Store base offset from)) = refl
  bound_same s k (Op (op.Arith to kind a b over)) = refl
  bound_same s k (Op (op.Take to bytes full)) = refl
  bound_same s k (Op (op.Push words full)) = refl
  bound_same s k (Op (op.Pop words)) = refl
  bound_same s k (Op (op.Service number args)) = refl
  bound_same s k (Op (op.Reset to)) = refl
  bound_same s k (Last e) = refl

  stored_same : (s : State) (k : Marks) (line : Line) → stored_stamp n s k line ≡ stored_stamp m s k line
  stored_same s k (Op (op.Store base offset from)) = stamp_same s k from
  stored_same s k (Op (op.Move to from)) = refl
  stored_same s k (Op (op.Load to base offset)) = refl
  stored_same s k (Op (op.LoadByte to base index offset)) = refl
  stored_same s k (Op (op.Arith to kind a b over)) = refl
  stored_same s k (Op (op.Take to bytes full)) = refl
  stored_same s k (Op (op.Push words full)) = refl
  stored_same s k (Op (op.Pop words)) = refl
  stored_same s k (Op (op.Service number args)) = refl
  stored_same s k (Op (op.Reset to)) = refl
  stored_same s k (Last e) = refl

  stamps_same : (s : State) (k : Marks) (xs : List Operand) → map (stamp_of n s k) xs ≡ map (stamp_of m s k) xs
  stamps_same s k [] = refl
  stamps_same s k (x ∷ xs) = ap (λ t. t ∷ map (stamp_of n s k) xs) (stamp_same s k x) ∙ ap (λ ts. stamp_of m s k x ∷ ts) (stamps_same s k xs)

  params_same : (block : ℕ) → params_at n block ≡ params_at m block
  params_same block =
      by_copies (λ o p. option_map_or (λ (b : WordBlock). b.params) p [] ≡ option_map_or (λ (b : WordBlock). b.params) o []) old.blocks.items new.blocks.items block copy.blocks refl (λ x y c. c.params)

  mark_params_same : (s : State) (k : Marks) (params : List Var) (stamps : List Stamp) → mark_params n s k params stamps ≡ mark_params m s k params stamps
  mark_params_same s k [] stamps = refl
  mark_params_same s k (v ∷ params) [] = refl
  mark_params_same s k (v ∷ params) (stamp ∷ stamps) = mark_params_same s (mark_held s k (keeper_of homes v) stamp) params stamps

  marked_same : (s : State) (k : Marks) (line : Line) (e : Effect) → marked n s k line e ≡ marked m s k line e
  marked_same s k line (Binds to x) = ap (λ stamp. mark_held s k to stamp) (bound_same s k line)
  marked_same s k line (Stores at x) = ap (λ stamp. mark_stored s k at stamp) (stored_same s k line)
  marked_same s k line (Takes to bytes) = refl
  marked_same s k line (SetsTop top) = refl
  marked_same s k line (Puts bytes) = refl
  marked_same s k line (Turns block) = refl
  marked_same s k line (Enters block env) =
      ap (λ params. mark_params n s (record k { env = [] }) params (map (stamp_of n s k) (args_of line))) (params_same block)
      ∙ ap (λ stamps. mark_params n s (record k { env = [] }) (params_at m block) stamps) (stamps_same s k (args_of line))
      ∙ mark_params_same s (record k { env = [] }) (params_at m block) (map (stamp_of m s k) (args_of line))
  marked_same s k line (Ends e) = refl

  -- ---- stamped steps

  abbrev coming : Stamped → Bool → State → Marks → Stamped
  coming t may s k = if may then record { state = s; marks = counted k } else record { state = broken t.state; marks = t.marks }

  stamped_done_same : (t : Stamped) (line : Option Line) → stamped_done n t line ≡ stamped_done m t line
  stamped_done_same t (Some line) =
      ap (λ may. coming t may (step n t.state) (marked n t.state t.marks line (line_effect n t.state line))) (line_may_same t.state t.marks line)
      ∙ ap (λ s. coming t (line_may m t.state t.marks line) s (marked n t.state t.marks line (line_effect n t.state line))) (step_same t.state)
      ∙ ap (λ e. coming t (line_may m t.state t.marks line) (step m t.state) (marked n t.state t.marks line e)) (effect_same t.state line)
      ∙ ap (λ k. coming t (line_may m t.state t.marks line) (step m t.state) k) (marked_same t.state t.marks line (line_effect m t.state line))
  stamped_done_same t None = ap (λ (s : State). record { state = s; marks = t.marks }) (step_same t.state)

  stamped_step_same : (t : Stamped) → stamped_step n t ≡ stamped_step m t
  unfolding stamped_step
  stamped_step_same t =
      ap (λ line. stamped_unless t.state.end t (stamped_done n t line)) (at_same t.state)
      ∙ ap (λ u. stamped_unless t.state.end t u) (stamped_done_same t (line_at old t.state.block t.state.place))

  abbrev first_stamped : ℕ → State → Stamped
  first_stamped count s = record (stamped_start m) { state = s; marks = record (stamped_start m).marks { longs = record (stamped_start m).marks.longs { statics = replicate count None } } }

  stamped_start_same : stamped_start n ≡ stamped_start m
  stamped_start_same = ap (λ count. first_stamped count (start n)) (ap length copy.statics) ∙ ap (λ s. first_stamped (length old.statics.items) s) start_same

  stamped_same : (k : ℕ) (t u : Stamped) → t ≡ u → after (stamped_step n) k t ≡ after (stamped_step m) k u
  stamped_same zero t u e = e
  stamped_same (suc k) t u e = stamped_same k (stamped_step n t) (stamped_step m u) (stamped_step_same t ∙ ap (stamped_step m) e)

  stamped_run_same : (k : ℕ) → stamped_run_in n k ≡ stamped_run_in m k
  stamped_run_same k = ap (λ (t : Stamped). seen m t.state) (stamped_same k (stamped_start n) (stamped_start m) stamped_start_same)

pub copies_run_alike : CopiesRunAlike
copies_run_alike old new homes sizes copy k = record { plain = plain_same old new homes sizes copy k; stamped = stamped_run_same old new homes sizes copy k }
