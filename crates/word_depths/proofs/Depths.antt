-- What each line leaves of the stack.
use Rattle.std.proofs.Common.{◌≡◌, ℕ, ◌+◌, ◌-◌, ◌*◌, ◌%◌, ◌≤◌, ◌==◌, ◌&&◌, nat_lt, nat_le, Bool, true, false, if◌then◌else◌, inl, inr, List, [], ◌∷◌, length, map, is_some, Option, Some, None, refl, ap, ◌∙◌, arith}
use Rattle.std.specs.Prelude.{Contains}
use Rattle.std.proofs.lemmas.Bool.{and_parts, ltb-false, leb-true}
use Rattle.t_base.specs.declared.basics.Var.{Var}
use Rattle.word_ir.specs.declared.operands.Operand.{Operand}
use Rattle.word_ir.specs.declared.words.Arith.{Arith}
use Rattle.word_ir.specs.declared.words.Test.{Test}
use Rattle.word_ir.specs.declared.words.WordOp.TheVariants as op
use Rattle.word_ir.specs.declared.words.WordEnd.TheVariants as last
use Rattle.word_ir.specs.Word.{Word, Number, Code, moved, number_of, block_of}
use Rattle.word_ir.specs.Storage.{STACK_START, byte_at}
use Rattle.word_ir.specs.Computing.{Result, Gives, Over, Bad, computed, compared, is_shift, is_of_tag}
use Rattle.word_ir.specs.Lines.{Line, Op, Last, exits_of}
use Rattle.word_ir.specs.WholePlaced.{depth_behind}
use Rattle.word_ir.specs.State.{Setting, State, stack_end, has_room, keeper_of, word_at}
use Rattle.word_ir.specs.Effects.{Effect, Binds, Stores, Takes, SetsTop, Turns, Enters, breaks, or_broken, kept_at, binds, word_of, with_word, with_number, with_numbers, with_word_at, with_byte_at, store_effect, bind_result, arith_effect, heap_room, stack_room, take_effect, push_effect, pop_effect, reset_effect, service_effect, turned, test_effect, pairs_of, enters, jump_effect, block_at, line_effect}
use Rattle.word_ir.specs.Ranges.{IsInPlace}
use Rattle.word_depths.proofs.Services.{service_holds}
use Rattle.word_depths.specs.Laws.{IsDeep, KeepsDepth, LinesKeepDepth}

record Kept (m : Setting) (s : State) (depth : ℕ) (line : Line) (e : Effect) : Type 0 where
  kept : KeepsDepth m s depth line e

block_is : (w : Word) (b : ℕ) → block_of w ≡ Some b → w ≡ Code b
block_is (Number n) b e = absurd (cc)
block_is (Code c) b e = let same : c ≡ b = cc in ap Code same

module _ (m : Setting) (s : State) (depth : ℕ) (line : Line) where
  abbrev K : Effect → Type 0
  K e = Kept m s depth line e

  or_kept : {X : Type 0} (o : Option X) (go : X → Effect) → ((x : X) → o ≡ Some x → K (go x)) → K (or_broken o go)
  or_kept (Some x) go h = h x refl
  or_kept None go h = record { kept = tt }

  if_kept : (b : Bool) (x y : Effect) → (b ≡ true → K x) → (b ≡ false → K y) → K (if b then x else y)
  if_kept true x y h k = h refl
  if_kept false x y h k = k refl

  broken_kept : K breaks
  broken_kept = record { kept = tt }

  number_kept : (x : Operand) (go : ℕ → Effect) → ((n : ℕ) → K (go n)) → K (with_number m s x go)
  number_kept x go h = or_kept (word_of m s x) (λ w. or_broken (number_of w) go) (λ w e. or_kept (number_of w) go (λ n f. h n))

  numbers_kept : (xs : List Operand) (go : List ℕ → Effect) → ((ns : List ℕ) → K (go ns)) → K (with_numbers m s xs go)
  numbers_kept [] go h = h []
  numbers_kept (x ∷ xs) go h = number_kept x (λ n. with_numbers m s xs (λ ns. go (n ∷ ns))) (λ n. numbers_kept xs (λ ns. go (n ∷ ns)) (λ ns. h (n ∷ ns)))

  module _ (deep : IsDeep m s.top (depth_behind depth line)) where
    binds_kept : (to : Var) (x : Word) → K (binds m s to x)
    binds_kept to x = if_kept (has_room s (keeper_of m.homes to)) (Binds (keeper_of m.homes to) x) breaks (λ e. record { kept = deep }) (λ e. broken_kept)

    result_kept : (to : Var) (over : ℕ) (r : Result) → Contains (exits_of line) over → K (bind_result m s to over r)
    result_kept to over (Gives n) c = binds_kept to (Number n)
    result_kept to over Over c = record { kept = c }
    result_kept to over Bad c = broken_kept

    take_kept : (to : Var) (bytes full : ℕ) → Contains (exits_of line) full → K (take_effect m s to bytes full)
    take_kept to bytes full c =
        let take : Effect = kept_at s (keeper_of m.homes to) (λ k. Takes k bytes) in
        if_kept (nat_lt (heap_room m s) bytes) (Turns full) (if bytes % 8 == 0 then take else breaks) (λ e. record { kept = c })
        (λ room. if_kept (bytes % 8 == 0) take breaks
        (λ whole. if_kept (has_room s (keeper_of m.homes to)) (Takes (keeper_of m.homes to) bytes) breaks (λ e. record { kept = deep }) (λ e. broken_kept)) (λ e. broken_kept))

    arith_kept : (to : Var) (kind : Arith) (a b : Operand) (over : ℕ) → Contains (exits_of line) over → K (arith_effect m s to kind a b over)
    arith_kept to kind a b over c =
        number_kept a (λ x. if is_shift kind then bind_result m s to over (computed kind x 0) else with_number m s b (λ y. bind_result m s to over (computed kind x y)))
        (λ x. if_kept (is_shift kind) (bind_result m s to over (computed kind x 0)) (with_number m s b (λ y. bind_result m s to over (computed kind x y)))
        (λ e. result_kept to over (computed kind x 0) c)
        (λ e. number_kept b (λ y. bind_result m s to over (computed kind x y)) (λ y. result_kept to over (computed kind x y) c)))

  turned_kept : (at_true at_false : ℕ) (b : Bool) → Contains (exits_of line) at_true → Contains (exits_of line) at_false → K (turned at_true at_false b)
  turned_kept at_true at_false true c d = record { kept = c }
  turned_kept at_true at_false false c d = record { kept = d }

  test_kept : (kind : Test) (a b : Operand) (at_true at_false : ℕ) → Contains (exits_of line) at_true → Contains (exits_of line) at_false → K (test_effect m s kind a b at_true at_false)
  test_kept kind a b at_true at_false c d =
      or_kept (word_of m s a) (λ x. if is_of_tag kind then or_broken (compared kind x x) (turned at_true at_false) else with_word m s b (λ y. or_broken (compared kind x y) (turned at_true at_false)))
      (λ x e. if_kept (is_of_tag kind) (or_broken (compared kind x x) (turned at_true at_false)) (with_word m s b (λ y. or_broken (compared kind x y) (turned at_true at_false)))
      (λ f. or_kept (compared kind x x) (turned at_true at_false) (λ z g. turned_kept at_true at_false z c d))
      (λ f. or_kept (word_of m s b) (λ y. or_broken (compared kind x y) (turned at_true at_false)) (λ y g. or_kept (compared kind x y) (turned at_true at_false) (λ z h. turned_kept at_true at_false z c d))))

push_kept : (m : Setting) (s : State) (depth words full : ℕ) → IsInPlace m s → IsDeep m s.top depth → Kept m s depth (Op (op.Push words full)) (push_effect s (4 * words) full)
push_kept m s depth words full place deep =
    if_kept m s depth (Op (op.Push words full)) (nat_lt (stack_room s) (4 * words)) (Turns full) (SetsTop (s.top - 4 * words)) (λ e. record { kept = (0, omega arith, refl) })
    (λ room.
    let le : 4 * words ≤ s.top - STACK_START = ltb-false (stack_room s) (4 * words) room in
    record { kept = omega (arith, le, deep) })

pop_kept : (m : Setting) (s : State) (depth words full : ℕ) → IsDeep m s.top depth → Kept m s depth (Op (op.Pop words)) (pop_effect m s (4 * words))
pop_kept m s depth words full deep =
    if_kept m s depth (Op (op.Pop words)) (nat_le (s.top + 4 * words) (stack_end m)) (SetsTop (s.top + 4 * words)) breaks
    (λ e. let le : s.top + 4 * words ≤ stack_end m = leb-true (s.top + 4 * words) (stack_end m) e in record { kept = omega (arith, le, deep) })
    (λ e. record { kept = tt })

reset_kept : (m : Setting) (s : State) (depth at : ℕ) (to : Operand) → Kept m s depth (Op (op.Reset to)) (reset_effect m at)
reset_kept m s depth at to =
    if_kept m s depth (Op (op.Reset to)) ((at % 4 == 0) && nat_le STACK_START at && nat_le at (stack_end m)) (SetsTop at) breaks
    (λ e. let le : at ≤ stack_end m = leb-true at (stack_end m) (and_parts ((at % 4 == 0) && nat_le STACK_START at) (nat_le at (stack_end m)) e).1 in record { kept = omega (arith, le) })
    (λ e. record { kept = tt })

enters_kept : (m : Setting) (s : State) (depth : ℕ) (line : Line) (block : ℕ) (params : List Var) (args : List Operand) → ((env : _) → KeepsDepth m s depth line (Enters block env)) → Kept m s depth line (enters m s block params args)
enters_kept m s depth line block params args h = or_kept m s depth line (pairs_of m s params (map (word_of m s) args)) (λ env. Enters block env) (λ env e. record { kept = h env })

line_kept : (m : Setting) (s : State) (depth : ℕ) (line : Line) → IsInPlace m s → IsDeep m s.top depth → Kept m s depth line (line_effect m s line)
line_kept m s depth (Op (op.Move to from)) place deep =
    or_kept m s depth (Op (op.Move to from)) (word_of m s from) (λ x. binds m s to x) (λ x e. binds_kept m s depth (Op (op.Move to from)) deep to x)
line_kept m s depth (Op (op.Load to base offset)) place deep =
    number_kept m s depth (Op (op.Load to base offset)) base (λ at. with_word_at m s (moved at offset) (λ x. binds m s to x))
    (λ at. or_kept m s depth (Op (op.Load to base offset)) (word_at m s (moved at offset)) (λ x. binds m s to x) (λ x e. binds_kept m s depth (Op (op.Load to base offset)) deep to x))
line_kept m s depth (Op (op.LoadByte to base index offset)) place deep =
    let line : Line = Op (op.LoadByte to base index offset) in
    number_kept m s depth line base (λ at. with_number m s index (λ i. with_byte_at m s (moved (at + i) offset) (λ n. binds m s to (Number n))))
    (λ at. number_kept m s depth line index (λ i. with_byte_at m s (moved (at + i) offset) (λ n. binds m s to (Number n)))
    (λ i. or_kept m s depth line (byte_at (word_at m s) (moved (at + i) offset)) (λ n. binds m s to (Number n)) (λ n e. binds_kept m s depth line deep to (Number n))))
line_kept m s depth (Op (op.Store base offset from)) place deep =
    let line : Line = Op (op.Store base offset from) in
    number_kept m s depth line base (λ at. with_word m s from (λ x. store_effect m s (moved at offset) x))
    (λ at. or_kept m s depth line (word_of m s from) (λ x. store_effect m s (moved at offset) x)
    (λ x e. if_kept m s depth line (is_some (word_at m s (moved at offset))) (Stores (moved at offset) x) breaks (λ f. record { kept = deep }) (λ f. record { kept = tt })))
line_kept m s depth (Op (op.Arith to kind a b over)) place deep = arith_kept m s depth (Op (op.Arith to kind a b over)) deep to kind a b over (0, omega arith, refl)
line_kept m s depth (Op (op.Take to bytes full)) place deep =
    number_kept m s depth (Op (op.Take to bytes full)) bytes (λ n. take_effect m s to n full) (λ n. take_kept m s depth (Op (op.Take to bytes full)) deep to n full (0, omega arith, refl))
line_kept m s depth (Op (op.Push words full)) place deep = push_kept m s depth words full place deep
line_kept m s depth (Op (op.Pop words)) place deep = pop_kept m s depth words 0 deep
line_kept m s depth (Op (op.Reset to)) place deep = number_kept m s depth (Op (op.Reset to)) to (λ at. reset_effect m at) (λ at. reset_kept m s depth at to)
line_kept m s depth (Op (op.Service number args)) place deep =
    numbers_kept m s depth (Op (op.Service number args)) args (λ ns. service_effect m s number ns) (λ ns. service_holds (Kept m s depth (Op (op.Service number args))) (λ e. record { kept = tt }) (λ bytes. record { kept = deep }) m s number ns)
line_kept m s depth (Last (last.Jump block args)) place deep =
    or_kept m s depth (Last (last.Jump block args)) (block_at m block) (jump_effect m s block args)
    (λ target e. if_kept m s depth (Last (last.Jump block args)) (length args == length target.params) (enters m s block target.params args) breaks
    (λ f. enters_kept m s depth (Last (last.Jump block args)) block target.params args (λ env. inl (0, omega arith, refl))) (λ f. record { kept = tt }))
line_kept m s depth (Last (last.Test kind a b at_true at_false)) place deep =
    test_kept m s depth (Last (last.Test kind a b at_true at_false)) kind a b at_true at_false (0, omega arith, refl) (1, omega arith, refl)
line_kept m s depth (Last (last.Enter code args)) place deep =
    let line : Line = Last (last.Enter code args) in
    or_kept m s depth line (word_of m s code) (λ x. or_broken (block_of x) (λ block. or_broken (block_at m block) (λ target. enters m s block target.params args)))
    (λ x e. or_kept m s depth line (block_of x) (λ block. or_broken (block_at m block) (λ target. enters m s block target.params args))
    (λ block f. or_kept m s depth line (block_at m block) (λ target. enters m s block target.params args)
    (λ target g. enters_kept m s depth line block target.params args (λ env. inr (record { code = code; args = args; is = refl; leads = e ∙ ap Some (block_is x block f) })))))
line_kept m s depth (Last last.Stop) place deep = record { kept = tt }

pub lines_keep_depth : LinesKeepDepth
lines_keep_depth m s depth line place deep = (line_kept m s depth line place deep).kept
