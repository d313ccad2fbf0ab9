-- Operands of arguments hold the words of their values.
use Rattle.std.proofs.Common.{◌≡◌, ℕ, ◌+◌, ◌*◌, Option, Some, None, is_some, option_map, option_and_then, true, refl, sym, ap, ◌∙◌, subst}
use Rattle.t_base.specs.declared.shared_parts.Shared.{Shared}
use Rattle.t_prim.specs.Values.{Val, FixV, CharV, NilV, TrueV, SymbolV, StringV, PairV, VectorV, ClosureV, ObjectV, OperationV, BuiltinV, EscapeV, val_of}
use Rattle.cps_ir.specs.declared.args.Arg.{Arg}
use Rattle.cps_ir.specs.declared.args.Arg.TheVariants as Argument
use Rattle.word_ir.specs.declared.operands.Operand.TheVariants as operand
use Rattle.word_ir.specs.declared.words.Words.{Words}
use Rattle.word_ir.specs.Word.{Number}
use Rattle.word_ir.specs.Storage.{Sizes}
use Rattle.frame_ir.specs.Values.{Value, Lasting, InFrame, CellAt, Env, lasting_of}
use Rattle.frame_ir.specs.States.{State, APair, AClosure}
use Rattle.frame_ir.specs.Arguments.{value_of, lasting_value, code_of_global}
use Rattle.word_trees.specs.Cores.{Core}
use Rattle.frame_words.specs.Layouts.{Layout, ClosureOf, PairOf, fixed_address}
use Rattle.frame_words.specs.ValueWords.{heap_place, or_other, tagged, or_zero, word_for}
use Rattle.frame_words.specs.Contents.{Escapes}
use Rattle.frame_words.specs.Origins.{InStatics}
use Rattle.frame_words.proofs.Values.{in_statics}
use Rattle.select_rows.specs.Kept.{Has}
use Rattle.frame_stacks.specs.Stacks.{Ways}
use Rattle.frame_stacks.specs.Frames.{HoldsVariable, Holds}
use Rattle.frame_stacks.specs.Laws.{HasValue}
use Rattle.prim_holds.specs.Operands.{fixed_word, IsNamed, operand_of}

-- ---- what is named has the same word in each state

none_first : (s : State) (n : ℕ) (o other : Option ℕ) (tag : ℕ) → o ≡ None → tagged tag other ≡ Some n → tagged tag (or_other (option_map (λ p. Rattle.word_ir.specs.Storage.HEAP_START + 4 * p) o) other) ≡ Some n
none_first s n o other tag none h = rw none h

some_is : (o : Option ℕ) → is_some o ≡ true → o ≡ Some (or_zero o)
some_is (Some n) h = refl
some_is None h = absurd (cc)

module _ (words : Words) (sizes : Sizes) (l : Layout) (e : Escapes) (g : Ways) (t : ℕ) (s : State) (env : Env) (c : Core) (h : Holds sizes l e g t s env c) where
  fixed_word_is : (v : Val) (n : ℕ) → fixed_word l v ≡ Some n → word_for l s v ≡ Some n
  fixed_word_is (FixV x) n at = at
  fixed_word_is (CharV k) n at = at
  fixed_word_is NilV n at = at
  fixed_word_is TrueV n at = at
  fixed_word_is (SymbolV k) n at = at
  fixed_word_is (StringV k) n at = at
  fixed_word_is (PairV k) n at =
      let o : InStatics l 3 (PairOf k) n = in_statics l 3 (PairOf k) n at in
      none_first s n (heap_place s (APair k)) (fixed_address l (PairOf k)) 3 (h.data_held.pairs_apart k o.place o.found) at
  fixed_word_is (VectorV k) n at = absurd (cc)
  fixed_word_is (ClosureV k) n at =
      let o : InStatics l 2 (ClosureOf k) n = in_statics l 2 (ClosureOf k) n at in
      none_first s n (heap_place s (AClosure k)) (fixed_address l (ClosureOf k)) 2 (h.escapes.closures_apart k o.place o.found) at
  fixed_word_is (ObjectV k) n at = absurd (cc)
  fixed_word_is (OperationV k) n at = at
  fixed_word_is (BuiltinV k) n at = at
  fixed_word_is (EscapeV k) n at = absurd (cc)

  -- ---- operands

  same_value : (v w : Value) → Some v ≡ Some w → v ≡ w
  same_value v w eq = cc

  fixed_has : (v : Val) (w : Value) (o : Option ℕ) → o ≡ fixed_word l v → is_some o ≡ true → Some (Lasting v) ≡ Some w → HasValue words sizes l g t s c (operand.Word (or_zero o)) w
  fixed_has v w o eq named is =
      subst (λ x. HasValue words sizes l g t s c (operand.Word (or_zero o)) x) (same_value (Lasting v) w is)
      (record { word = Number (or_zero o); stamp = None; held = refl; stamped = refl; stands = record { number = or_zero o; known = fixed_word_is v (or_zero o) (sym eq ∙ some_is o named); is = refl }; older = tt })

  global_has : (o : Option ℕ) (w : Value) → is_some (option_and_then (λ code. fixed_word l (ClosureV code)) o) ≡ true → option_map (λ code. Lasting (ClosureV code)) o ≡ Some w → HasValue words sizes l g t s c (operand.Word (or_zero (option_and_then (λ code. fixed_word l (ClosureV code)) o))) w
  global_has (Some code) w named is = fixed_has (ClosureV code) w (fixed_word l (ClosureV code)) refl named is
  global_has None w named is = absurd (cc)

  pub operand_has : (shared : Shared) (a : Arg) (v : Value) → IsNamed l shared a → value_of shared env a ≡ Some v → HasValue words sizes l g t s c (operand_of l shared a) v
  operand_has shared (Argument.Const k) v named is = fixed_has (val_of k) v (fixed_word l (val_of k)) refl named is
  operand_has shared (Argument.Var x) v named is =
      let o : HoldsVariable sizes l g t s c x.0 v = h.variables.each x.0 v is in
      record { word = o.word; stamp = o.stamp; held = o.held; stamped = o.stamped; stands = o.stands; older = o.older }
  operand_has shared (Argument.Proc block) v named is = fixed_has (ClosureV block) v (fixed_word l (ClosureV block)) refl named is
  operand_has shared (Argument.Global k) v named is = global_has (code_of_global shared k) v named is
  operand_has shared (Argument.Builtin p) v named is = fixed_has (BuiltinV p) v (fixed_word l (BuiltinV p)) refl named is
  operand_has shared (Argument.Op o) v named is = fixed_has (OperationV o) v (fixed_word l (OperationV o)) refl named is

  -- ---- of values that need no frame

  lasting_is : (w : Value) (v : Val) → lasting_of w ≡ Some v → w ≡ Lasting v
  lasting_is (Lasting x) v is = ap Lasting (cc)
  lasting_is (InFrame birth slot) v is = absurd (cc)
  lasting_is (CellAt k) v is = absurd (cc)

  lasting_by : (shared : Shared) (a : Arg) (o : Option Value) (v : Val) → value_of shared env a ≡ o → option_and_then lasting_of o ≡ Some v → value_of shared env a ≡ Some (Lasting v)
  lasting_by shared a (Some w) v at is = at ∙ ap Some (lasting_is w v is)
  lasting_by shared a None v at is = absurd (cc)

  pub lasting_has : (shared : Shared) (a : Arg) (v : Val) → IsNamed l shared a → lasting_value shared env a ≡ Some v → Has l s t c (operand_of l shared a) v
  lasting_has shared a v named is =
      let o : HasValue words sizes l g t s c (operand_of l shared a) (Lasting v) = operand_has shared a (Lasting v) named (lasting_by shared a (value_of shared env a) v refl is) in
      record { number = o.stands.number; is = o.stands.known; held = o.held ∙ ap Some o.stands.is; older = o.older }
