-- What a line does to variables, blocks and the depth of the stack.
use Rattle.std.proofs.Common.{◌≡◌, ℕ, ◌+◌, ◌-◌, ◌*◌, ◌%◌, ◌≤◌, ◌==◌, ◌&&◌, nat_lt, nat_le, Bool, true, false, if◌then◌else◌, List, [], ◌∷◌, length, map, is_some, slice_get, Option, Some, None, Contains, refl, ap, ◌∙◌, arith, ◌⊎◌, inl, inr}
use Rattle.std.specs.List.{flat_map}
use Rattle.std.proofs.lemmas.Bool.{and_parts, ltb-false, leb-true, eqb-true}
use Rattle.std.proofs.lemmas.Bool.Decides.{leb_tells}
use Rattle.std.proofs.lemmas.List.{length-map}
use Rattle.std.proofs.lemmas.List.Elements.{Contains-append_right}
use Rattle.t_base.specs.declared.basics.Var.{Var}
use Rattle.program_runs.specs.Runs.{End, Broken}
use Rattle.word_ir.specs.declared.operands.Operand.{Operand}
use Rattle.word_ir.specs.declared.words.Arith.{Arith}
use Rattle.word_ir.specs.declared.words.Test.{Test}
use Rattle.word_ir.specs.declared.words.WordBlock.{WordBlock}
use Rattle.word_ir.specs.declared.words.WordOp.{WordOp}
use Rattle.word_ir.specs.declared.words.WordOp.TheVariants as op
use Rattle.word_ir.specs.declared.words.WordEnd.{WordEnd}
use Rattle.word_ir.specs.declared.words.WordEnd.TheVariants as last
use Rattle.word_ir.specs.Word.{Word, Number, Code, moved, number_of, block_of}
use Rattle.word_ir.specs.Storage.{STACK_START, byte_at}
use Rattle.word_ir.specs.Computing.{Result, Gives, Over, Bad, computed, is_shift, compared, is_of_tag}
use Rattle.word_ir.specs.Lines.{Op, Last, line_at, uses_of, op_binds, op_exits, end_exits, operand_var}
use Rattle.word_ir.specs.State.{Setting, stack_end, Keeper, keeper_of, Env, State, has_room, word_at}
use Rattle.word_ir.specs.Effects.{Effect, Binds, Stores, Takes, SetsTop, Puts, Turns, Enters, Ends, breaks, or_broken, word_of, with_word, with_number, with_numbers, with_word_at, with_byte_at, binds, pairs_of, enters, bind_result, arith_effect, heap_room, stack_room, take_effect, reset_effect, service_effect, store_effect, op_effect, test_effect, turned, jump_effect, block_at, end_effect, kept_at}
use Rattle.word_ir.specs.Whole.{end_jumps, taken_blocks}
use Rattle.word_ir.specs.WholePlaced.{depth_behind}
use Rattle.word_scopes.specs.Ahead.{HasWord, EntersShort}
use Rattle.word_scopes.proofs.Given.{HasKey, pairs_have, args_there}
use Rattle.word_scopes.proofs.Services.{or_is, if_is, service_is}
use Rattle.word_scopes.proofs.Taken.{HoldsTaken, line_named, code_taken}

-- ---- operations

-- the words that are pushed stay
abbrev Level : WordOp → Type 0
Level o = (depth : ℕ) → depth_behind depth (Op o) ≡ depth

-- a variable is bound that is kept there
pub record BindsOne (m : Setting) (o : WordOp) (to : Keeper) : Type 0 where
  pub var : Var
  pub binds : op_binds o ≡ var ∷ []
  pub at : keeper_of m.homes var ≡ to
  pub level : Level o

pub record BindsNone (o : WordOp) : Type 0 where
  pub binds : op_binds o ≡ []
  pub level : Level o

pub record Pushes (m : Setting) (s : State) (o : WordOp) (top : ℕ) : Type 0 where
  pub binds : op_binds o ≡ []
  pub deep : (depth : ℕ) → s.top + 4 * depth ≤ stack_end m → top + 4 * depth_behind depth (Op o) ≤ stack_end m

abbrev pub OpFollows : Setting → State → WordOp → Effect → Type 0
OpFollows m s o (Binds to x) = BindsOne m o to
OpFollows m s o (Takes to bytes) = BindsOne m o to
OpFollows m s o (Stores at x) = BindsNone o
OpFollows m s o (Puts bytes) = BindsNone o
OpFollows m s o (SetsTop top) = Pushes m s o top
OpFollows m s o (Turns b) = Contains (op_exits o) b
OpFollows m s o (Enters b env) = ⊥
OpFollows m s o (Ends e) = Unit {0}

pub record OpDoes (m : Setting) (s : State) (o : WordOp) (e : Effect) : Type 0 where
  pub does : OpFollows m s o e

module _ (m : Setting) (s : State) where
  ends : (o : WordOp) (e : End) → OpDoes m s o (Ends e)
  ends o e = record { does = tt }

  any : {X : Type 0} (o : WordOp) (x : Option X) (go : X → Effect) → ((x : X) → OpDoes m s o (go x)) → OpDoes m s o (or_broken x go)
  any o x go h = or_is (OpDoes m s o) (ends o) x go (λ y e. h y)

  when : (o : WordOp) (b : Bool) (x y : Effect) → (b ≡ true → OpDoes m s o x) → (b ≡ false → OpDoes m s o y) → OpDoes m s o (if b then x else y)
  when o b x y h k = if_is (OpDoes m s o) (ends o) b x y h k

  number : (o : WordOp) (x : Operand) (go : ℕ → Effect) → ((n : ℕ) → OpDoes m s o (go n)) → OpDoes m s o (with_number m s x go)
  number o x go h = any o (word_of m s x) (λ w. or_broken (number_of w) go) (λ w. any o (number_of w) go h)

  numbers : (o : WordOp) (xs : List Operand) (go : List ℕ → Effect) → ((ns : List ℕ) → OpDoes m s o (go ns)) → OpDoes m s o (with_numbers m s xs go)
  numbers o [] go h = h []
  numbers o (x ∷ xs) go h = number o x (λ n. with_numbers m s xs (λ ns. go (n ∷ ns))) (λ n. numbers o xs (λ ns. go (n ∷ ns)) (λ ns. h (n ∷ ns)))

  bound : (o : WordOp) (to : Var) (x : Word) → BindsOne m o (keeper_of m.homes to) → OpDoes m s o (binds m s to x)
  bound o to x h = when o (has_room s (keeper_of m.homes to)) (Binds (keeper_of m.homes to) x) breaks (λ e. record { does = h }) (λ e. ends o Broken)

  result : (o : WordOp) (to : Var) (over : ℕ) (r : Result) → BindsOne m o (keeper_of m.homes to) → Contains (op_exits o) over → OpDoes m s o (bind_result m s to over r)
  result o to over (Gives n) h c = bound o to (Number n) h
  result o to over Over h c = record { does = c }
  result o to over Bad h c = ends o Broken

  arith_does : (o : WordOp) (to : Var) (how : Arith) (a b : Operand) (over : ℕ) → BindsOne m o (keeper_of m.homes to) → Contains (op_exits o) over → OpDoes m s o (arith_effect m s to how a b over)
  arith_does o to how a b over h c =
      number o a (λ x. if is_shift how then bind_result m s to over (computed how x 0) else with_number m s b (λ y. bind_result m s to over (computed how x y)))
      (λ x. when o (is_shift how) (bind_result m s to over (computed how x 0)) (with_number m s b (λ y. bind_result m s to over (computed how x y)))
      (λ e. result o to over (computed how x 0) h c)
      (λ e. number o b (λ y. bind_result m s to over (computed how x y)) (λ y. result o to over (computed how x y) h c)))

  take_does : (o : WordOp) (to : Var) (bytes full : ℕ) → BindsOne m o (keeper_of m.homes to) → Contains (op_exits o) full → OpDoes m s o (take_effect m s to bytes full)
  take_does o to bytes full h c =
      let take : Effect = kept_at s (keeper_of m.homes to) (λ k. Takes k bytes) in
      when o (nat_lt (heap_room m s) bytes) (Turns full) (if bytes % 8 == 0 then take else breaks) (λ e. record { does = c })
      (λ e. when o (bytes % 8 == 0) take breaks
      (λ e. when o (has_room s (keeper_of m.homes to)) (Takes (keeper_of m.homes to) bytes) breaks (λ e. record { does = h }) (λ e. ends o Broken)) (λ e. ends o Broken))

  push_deep : (words : ℕ) → 4 * words ≤ stack_room s → (depth : ℕ) → s.top + 4 * depth ≤ stack_end m → (s.top - 4 * words) + 4 * (depth + words) ≤ stack_end m
  push_deep words room depth le = omega (arith, room, le)

  pop_deep : (words : ℕ) → s.top + 4 * words ≤ stack_end m → (depth : ℕ) → s.top + 4 * depth ≤ stack_end m → (s.top + 4 * words) + 4 * (depth - words) ≤ stack_end m
  pop_deep words room depth le = elim (leb_tells words depth) [
    | inl p ↦ omega (arith, p.1, le)
    | inr p ↦ omega (arith, p.1, room)
  ]

  pub op_does : (o : WordOp) → OpDoes m s o (op_effect m s o)
  op_does (op.Move to from) =
      let o : WordOp = op.Move to from in
      any o (word_of m s from) (λ x. binds m s to x) (λ x. bound o to x (record { var = to; binds = refl; at = refl; level = λ d. refl }))
  op_does (op.Load to base offset) =
      let o : WordOp = op.Load to base offset in
      number o base (λ at. with_word_at m s (moved at offset) (λ x. binds m s to x))
      (λ at. any o (word_at m s (moved at offset)) (λ x. binds m s to x) (λ x. bound o to x (record { var = to; binds = refl; at = refl; level = λ d. refl })))
  op_does (op.LoadByte to base index offset) =
      let o : WordOp = op.LoadByte to base index offset in
      number o base (λ at. with_number m s index (λ i. with_byte_at m s (moved (at + i) offset) (λ n. binds m s to (Number n))))
      (λ at. number o index (λ i. with_byte_at m s (moved (at + i) offset) (λ n. binds m s to (Number n)))
      (λ i. any o (byte_at (word_at m s) (moved (at + i) offset)) (λ n. binds m s to (Number n)) (λ n. bound o to (Number n) (record { var = to; binds = refl; at = refl; level = λ d. refl }))))
  op_does (op.Store base offset from) =
      let o : WordOp = op.Store base offset from in
      number o base (λ at. with_word m s from (λ x. store_effect m s (moved at offset) x))
      (λ at. any o (word_of m s from) (λ x. store_effect m s (moved at offset) x)
      (λ x. when o (is_some (word_at m s (moved at offset))) (Stores (moved at offset) x) breaks (λ e. record { does = record { binds = refl; level = λ d. refl } }) (λ e. ends o Broken)))
  op_does (op.Arith to how a b over) = arith_does (op.Arith to how a b over) to how a b over (record { var = to; binds = refl; at = refl; level = λ d. refl }) (0, omega arith, refl)
  op_does (op.Take to bytes full) =
      let o : WordOp = op.Take to bytes full in
      number o bytes (λ n. take_effect m s to n full) (λ n. take_does o to n full (record { var = to; binds = refl; at = refl; level = λ d. refl }) (0, omega arith, refl))
  op_does (op.Push words full) =
      let o : WordOp = op.Push words full in
      when o (nat_lt (stack_room s) (4 * words)) (Turns full) (SetsTop (s.top - 4 * words)) (λ e. record { does = (0, omega arith, refl) })
      (λ e. record { does = record { binds = refl; deep = push_deep words (ltb-false (stack_room s) (4 * words) e) } })
  op_does (op.Pop words) =
      let o : WordOp = op.Pop words in
      when o (nat_le (s.top + 4 * words) (stack_end m)) (SetsTop (s.top + 4 * words)) breaks
      (λ e. record { does = record { binds = refl; deep = pop_deep words (leb-true (s.top + 4 * words) (stack_end m) e) } }) (λ e. ends o Broken)
  op_does (op.Service n args) =
      let o : WordOp = op.Service n args in
      numbers o args (λ ns. service_effect m s n ns) (λ ns. service_is (OpDoes m s o) (ends o) (λ bytes. record { does = record { binds = refl; level = λ d. refl } }) m s n ns)
  op_does (op.Reset to) =
      let o : WordOp = op.Reset to in
      number o to (λ at. reset_effect m at)
      (λ at. when o ((at % 4 == 0) && nat_le STACK_START at && nat_le at (stack_end m)) (SetsTop at) breaks
      (λ e.
      let le : at ≤ stack_end m = leb-true at (stack_end m) (and_parts ((at % 4 == 0) && nat_le STACK_START at) (nat_le at (stack_end m)) e).1 in
      record { does = record { binds = refl; deep = λ d h. omega (arith, le) } })
      (λ e. ends o Broken))

-- ---- ends

-- A block is entered that a jump names or whose code is taken; each of its parameters has a word, unless too little was brought.
pub record EntersBlock (m : Setting) (s : State) (e : WordEnd) (block : ℕ) (env : Env Word) : Type 0 where
  pub target : WordBlock
  pub found : slice_get m.words.blocks.items block ≡ Some target
  pub named : Contains (end_jumps e) block ⊎ Contains (taken_blocks m.words) block
  pub brought : EntersShort m s ⊎ ((v : Var) → Contains target.params v → HasKey env (keeper_of m.homes v))

abbrev pub EndFollows : Setting → State → WordEnd → Effect → Type 0
EndFollows m s e (Binds to x) = ⊥
EndFollows m s e (Takes to bytes) = ⊥
EndFollows m s e (Stores at x) = ⊥
EndFollows m s e (Puts bytes) = ⊥
EndFollows m s e (SetsTop top) = ⊥
EndFollows m s e (Turns b) = Contains (end_exits e) b
EndFollows m s e (Enters b env) = EntersBlock m s e b env
EndFollows m s e (Ends d) = Unit {0}

pub record EndDoes (m : Setting) (s : State) (e : WordEnd) (f : Effect) : Type 0 where
  pub does : EndFollows m s e f

module _ (m : Setting) (s : State) (holds : HoldsTaken m s) (runs : s.end ≡ None) where
  stops : (e : WordEnd) (d : End) → EndDoes m s e (Ends d)
  stops e d = record { does = tt }

  some : {X : Type 0} (e : WordEnd) (x : Option X) (go : X → Effect) → ((y : X) → x ≡ Some y → EndDoes m s e (go y)) → EndDoes m s e (or_broken x go)
  some e x go h = or_is (EndDoes m s e) (stops e) x go h

  -- enough is brought, where all words are there
  brings : (params : List Var) (args : List Operand) (env : Env Word) → pairs_of m s params (map (word_of m s) args) ≡ Some env → ((v : Var) → Contains (flat_map operand_var args) v → HasWord m s v)
      → length params ≤ length args → (v : Var) → Contains params v → HasKey env (keeper_of m.homes v)
  brings params args env e h le v c =
      let count : length (map (word_of m s) args) ≡ length args = length-map args (word_of m s) in
      pairs_have m s params (map (word_of m s) args) env e (args_there m s args h) (omega (arith, le, count)) v c.0 c.1 c.2

  jump_does : (block : ℕ) (args : List Operand) → ((v : Var) → Contains (flat_map operand_var args) v → HasWord m s v) → EndDoes m s (last.Jump block args) (end_effect m s (last.Jump block args))
  jump_does block args h =
      let j : WordEnd = last.Jump block args in
      some j (block_at m block) (jump_effect m s block args)
      (λ target found. if_is (EndDoes m s j) (stops j) (length args == length target.params) (enters m s block target.params args) breaks
      (λ same.
      let count : length args ≡ length target.params = eqb-true (length args) (length target.params) same in
      some j (pairs_of m s target.params (map (word_of m s) args)) (λ env. Enters block env)
      (λ env e. record { does = record { target = target; found = found; named = inl (0, omega arith, refl); brought = inr (λ v c. brings target.params args env e h (omega (arith, count)) v c) } }))
      (λ other. stops j Broken))

  test_does : (how : Test) (a b : Operand) (at_true at_false : ℕ) → EndDoes m s (last.Test how a b at_true at_false) (test_effect m s how a b at_true at_false)
  test_does how a b at_true at_false =
      some t (word_of m s a) (λ x. if is_of_tag how then or_broken (compared how x x) (turned at_true at_false) else with_word m s b (λ y. or_broken (compared how x y) (turned at_true at_false)))
      (λ x e. if_is (EndDoes m s t) (stops t) (is_of_tag how) (or_broken (compared how x x) (turned at_true at_false)) (with_word m s b (λ y. or_broken (compared how x y) (turned at_true at_false)))
      (λ e. some t (compared how x x) (turned at_true at_false) (λ answer q. turns answer))
      (λ e. some t (word_of m s b) (λ y. or_broken (compared how x y) (turned at_true at_false)) (λ y q. some t (compared how x y) (turned at_true at_false) (λ answer q. turns answer))))
    where
      t : WordEnd
      t = last.Test how a b at_true at_false

      turns : (answer : Bool) → EndDoes m s (last.Test how a b at_true at_false) (turned at_true at_false answer)
      turns true = record { does = (0, omega arith, refl) }
      turns false = record { does = (1, omega arith, refl) }

  module _ (code : Operand) (args : List Operand) (line : line_at m.words s.block s.place ≡ Some (Last (last.Enter code args))) where
    abbrev e : WordEnd
    e = last.Enter code args

    code_is : (w : Word) (block : ℕ) → block_of w ≡ Some block → w ≡ Code block
    code_is (Number n) block q = absurd (cc)
    code_is (Code b) block q = let same : b ≡ block = cc in ap (λ (n : ℕ). Code n) same

    enter_does : ((v : Var) → Contains (flat_map operand_var args) v → HasWord m s v) → EndDoes m s (last.Enter code args) (end_effect m s (last.Enter code args))
    enter_does h =
        some e (word_of m s code) (λ x. or_broken (block_of x) (λ block. or_broken (block_at m block) (λ target. enters m s block target.params args)))
        (λ w word. some e (block_of w) (λ block. or_broken (block_at m block) (λ target. enters m s block target.params args))
        (λ block is. some e (block_at m block) (λ target. enters m s block target.params args)
        (λ target found. some e (pairs_of m s target.params (map (word_of m s) args)) (λ env. Enters block env)
        (λ env pairs.
        let leads : word_of m s code ≡ Some (Code block) = word ∙ ap (λ (x : Word). Some x) (code_is w block is) in
        record {
          does = record {
            target = target;
            found = found;
            named = inr (code_taken m s code block holds (line_named m s.block s.place (Last e) line).0 leads);
            brought = elim (leb_tells (length target.params) (length args)) [
              | inl p ↦ inr (λ v c. brings target.params args env pairs h p.1 v c)
              | inr p ↦ inl (record { runs = runs; code = code; args = args; block = block; target = target; line = line; leads = leads; there = found; fewer = omega (arith, p.1) })
            ];
          };
        }))))

  pub end_does : (e : WordEnd) → line_at m.words s.block s.place ≡ Some (Last e) → ((v : Var) → Contains (uses_of (Last e)) v → HasWord m s v) → EndDoes m s e (end_effect m s e)
  end_does (last.Jump block args) line h = jump_does block args h
  end_does (last.Test how a b at_true at_false) line h = test_does how a b at_true at_false
  end_does (last.Enter code args) line h = enter_does code args line (λ v c. h v (Contains-append_right (operand_var code) (flat_map operand_var args) v c))
  end_does last.Stop line h = stops last.Stop Broken
