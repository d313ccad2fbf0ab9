-- What the ends of blocks in a tree lead to.
use Rattle.std.proofs.Common.{◌≡◌, ℕ, suc, ◌+◌, Bool, true, false, if◌then◌else◌, List, [], ◌∷◌, Option, Some, None, slice_get, refl, ◌∙◌, arith, map, length}
use Rattle.std.proofs.lemmas.Bool.{eq-eqb}
use Rattle.t_base.specs.declared.basics.Var.{Var}
use Rattle.word_ir.specs.declared.operands.Operand.{Operand}
use Rattle.word_ir.specs.declared.words.Test.{Test}
use Rattle.word_ir.specs.declared.words.Test.TheVariants as test
use Rattle.word_ir.specs.declared.words.WordBlock.{WordBlock}
use Rattle.word_ir.specs.declared.words.WordEnd.TheVariants as last
use Rattle.word_ir.specs.declared.words.Words.{Words}
use Rattle.word_ir.specs.Word.{Word, Code}
use Rattle.word_ir.specs.Storage.{Sizes}
use Rattle.word_ir.specs.Lines.{Last}
use Rattle.word_ir.specs.Computing.{compared}
use Rattle.word_ir.specs.State.{Setting, State, Own, Env, hold_all}
use Rattle.word_ir.specs.Effects.{Turns, Enters, pairs_of, enters, line_effect}
use Rattle.word_ir.specs.Step.{words_in, changed, moving}
use Rattle.word_ir.specs.Stamps.{Stamp, Marks, Stamped, mark_params, stamp_of, counted, end_reads}
use Rattle.word_trees.specs.Trees.{Tree, Ask, Close}
use Rattle.word_trees.specs.Cores.{Core, at, word_in, entering, bound_words, bound_stamps}
use Rattle.word_trees.specs.Leads.{Steps, EntersBlock}
use Rattle.word_trees.proofs.Lines.{line_steps, word_at_core, words_at_core, stamps_at_core, may_use_all}

module _ (words : Words) (sizes : Sizes) where
  abbrev setting : Setting
  setting = words_in words sizes

  -- ---- Test

  -- a test of the tag doesn't look at its second operand
  test_result : (c : Core) (block place moves steps : ℕ) (kind : Test) (a b : Operand) (x y : Word) (first second : ℕ) (answer : Bool) → word_in c a ≡ Some x → word_in c b ≡ Some y → compared kind x y ≡ Some answer → line_effect setting (at c block place moves steps).state (Last (last.Test kind a b first second)) ≡ (if answer then Turns first else Turns second)
  test_result c block place moves steps test.Eq a b x y first second answer e f r = rw (word_at_core words sizes c block place moves steps a, e, word_at_core words sizes c block place moves steps b, f, r) refl
  test_result c block place moves steps test.Lt a b x y first second answer e f r = rw (word_at_core words sizes c block place moves steps a, e, word_at_core words sizes c block place moves steps b, f, r) refl
  test_result c block place moves steps test.Le a b x y first second answer e f r = rw (word_at_core words sizes c block place moves steps a, e, word_at_core words sizes c block place moves steps b, f, r) refl
  test_result c block place moves steps test.Below a b x y first second answer e f r = rw (word_at_core words sizes c block place moves steps a, e, word_at_core words sizes c block place moves steps b, f, r) refl
  test_result c block place moves steps (test.TagIs tag) a b x y first second answer e f r = rw (word_at_core words sizes c block place moves steps a, e, r) refl

  pub ask_holds : (c : Core) (kind : Test) (a b : Operand) (x y : Word) (at_true at_false : Tree) → word_in c a ≡ Some x → word_in c b ≡ Some y → compared kind x y ≡ Some true → Steps words sizes 3 (Ask kind a b at_true at_false) c at_true c
  ask_holds c kind a b x y at_true at_false e f r block place moves steps h =
      record {
        block = h.0;
        place = 0;
        spelled = h.3;
        step = line_steps words sizes c block place moves steps (Last (last.Test kind a b h.0 h.1)) (Turns h.0) h.2
            (test_result c block place moves steps kind a b x y h.0 h.1 true e f r) (may_use_all words sizes c block place moves steps (end_reads (last.Test kind a b h.0 h.1)));
      }

  pub ask_fails : (c : Core) (kind : Test) (a b : Operand) (x y : Word) (at_true at_false : Tree) → word_in c a ≡ Some x → word_in c b ≡ Some y → compared kind x y ≡ Some false → Steps words sizes 3 (Ask kind a b at_true at_false) c at_false c
  ask_fails c kind a b x y at_true at_false e f r block place moves steps h =
      record {
        block = h.1;
        place = 0;
        spelled = h.4;
        step = line_steps words sizes c block place moves steps (Last (last.Test kind a b h.0 h.1)) (Turns h.1) h.2
            (test_result c block place moves steps kind a b x y h.0 h.1 false e f r) (may_use_all words sizes c block place moves steps (end_reads (last.Test kind a b h.0 h.1)));
      }

  -- ---- parameters

  abbrev paired_words : List Var → List (Option Word) → Env Word
  paired_words [] ws = []
  paired_words (v ∷ params) [] = []
  paired_words (v ∷ params) (Some x ∷ ws) = (Own v.0, x) ∷ paired_words params ws
  paired_words (v ∷ params) (None ∷ ws) = paired_words params ws

  pairs_none : (s : State) (params : List Var) → pairs_of setting s params [] ≡ Some []
  pairs_none s [] = refl
  pairs_none s (v ∷ params) = pairs_none s params

  pairs_are : (s : State) (params : List Var) (ws : List (Option Word)) → pairs_of setting s params ws ≡ Some (paired_words params ws)
  pairs_are s [] ws = refl
  pairs_are s (v ∷ params) [] = pairs_none s params
  pairs_are s (v ∷ params) (Some x ∷ ws) = rw (pairs_are s params ws) refl
  pairs_are s (v ∷ params) (None ∷ ws) = pairs_are s params ws

  hold_paired : (s : State) (params : List Var) (ws : List (Option Word)) → hold_all s (paired_words params ws) ≡ record s { env = bound_words params ws s.env }
  hold_paired s [] ws = refl
  hold_paired s (v ∷ params) [] = refl
  hold_paired s (v ∷ params) (Some x ∷ ws) = hold_paired (record s { env = (Own v.0, x) ∷ s.env }) params ws
  hold_paired s (v ∷ params) (None ∷ ws) = hold_paired s params ws

  mark_bound : (s : State) (k : Marks) (params : List Var) (stamps : List Stamp) → mark_params setting s k params stamps ≡ record k { env = bound_stamps params stamps k.env }
  mark_bound s k [] stamps = refl
  mark_bound s k (v ∷ params) [] = refl
  mark_bound s k (v ∷ params) (stamp ∷ stamps) = mark_bound s (record k { env = (Own v.0, stamp) ∷ k.env }) params stamps

  -- ---- Jump and Enter

  enters_effect : (c : Core) (block place moves steps turn : ℕ) (params : List Var) (args : List Operand) → enters setting (at c block place moves steps).state turn params args ≡ Enters turn (paired_words params (map (word_in c) args))
  enters_effect c block place moves steps turn params args =
      rw (words_at_core words sizes c block place moves steps args, pairs_are (at c block place moves steps).state params (map (word_in c) args)) refl

  -- the state at the start of the block
  abbrev entered_state : (c : Core) (block place moves steps turn cost : ℕ) (params : List Var) (args : List Operand) → Stamped
  entered_state c block place moves steps turn cost params args = record {
    state = moving cost (changed (at c block place moves steps).state (Enters turn (paired_words params (map (word_in c) args))));
    marks = counted (mark_params setting (at c block place moves steps).state (record (at c block place moves steps).marks { env = [] }) params (map (stamp_of setting (at c block place moves steps).state (at c block place moves steps).marks) args));
  }

  entered_at : (c : Core) (block place moves steps turn cost : ℕ) (params : List Var) (args : List Operand) → entered_state c block place moves steps turn cost params args ≡ at (entering setting c params args) turn 0 (moves + cost) (suc steps)
  entered_at c block place moves steps turn cost params args =
      rw (
        hold_paired (record (at c block place moves steps).state { env = [] }) params (map (word_in c) args),
        mark_bound (at c block place moves steps).state (record (at c block place moves steps).marks { env = [] }) params (map (stamp_of setting (at c block place moves steps).state (at c block place moves steps).marks) args),
        stamps_at_core words sizes c block place moves steps args,
      ) refl

  pub jump_enters : (c : Core) (turn : ℕ) (target : WordBlock) (args : List Operand) → slice_get words.blocks.items turn ≡ Some target → length args ≡ length target.params → EntersBlock words sizes (1 + length args) (Close (last.Jump turn args)) c turn (entering setting c target.params args)
  jump_enters c turn target args found count block place moves steps h =
      let s : State = (at c block place moves steps).state in
      let effect : line_effect setting s (Last (last.Jump turn args)) ≡ Enters turn (paired_words target.params (map (word_in c) args)) =
      rw (found, eq-eqb (length args) (length target.params) count) (enters_effect c block place moves steps turn target.params args) in
      line_steps words sizes c block place moves steps (Last (last.Jump turn args)) _ h effect (may_use_all words sizes c block place moves steps args)
      ∙ rw found (entered_at c block place moves steps turn (1 + length args) target.params args)

  pub enter_enters : (c : Core) (code : Operand) (turn : ℕ) (target : WordBlock) (args : List Operand) → word_in c code ≡ Some (Code turn) → slice_get words.blocks.items turn ≡ Some target → EntersBlock words sizes (2 + length args) (Close (last.Enter code args)) c turn (entering setting c target.params args)
  enter_enters c code turn target args e found block place moves steps h =
      let s : State = (at c block place moves steps).state in
      let effect : line_effect setting s (Last (last.Enter code args)) ≡ Enters turn (paired_words target.params (map (word_in c) args)) =
      rw (word_at_core words sizes c block place moves steps code, e, found) (enters_effect c block place moves steps turn target.params args) in
      let n : 1 + suc (length args) ≡ 2 + length args = omega arith in
      line_steps words sizes c block place moves steps (Last (last.Enter code args)) _ h effect (may_use_all words sizes c block place moves steps (code ∷ args))
      ∙ rw (found, n) (entered_at c block place moves steps turn (2 + length args) target.params args)
