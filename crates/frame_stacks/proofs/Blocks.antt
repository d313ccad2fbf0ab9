-- Going to a block with values.
use Rattle.std.proofs.Common.{◌≡◌, ℕ, ◌+◌, ◌-◌, ◌*◌, ◌/◌, ◌%◌, ◌^◌, ◌<◌, ◌≤◌, ◌==◌, Bool, true, false, if◌then◌else◌, List, [], ◌∷◌, map, length, slice_get, Option, Some, None, pos, refl, sym, ap, ◌∙◌, subst, arith}
use Rattle.std.specs.List.{AllByRecursion}
use Rattle.std.proofs.lemmas.Bool.{eq-eqb, eqb-true, eqb-false, ne_eqb}
use Rattle.std.proofs.lemmas.Option.{slice_get_within}
use Rattle.t_base.specs.declared.basics.Var.{Var}
use Rattle.word_ir.specs.declared.operands.Operand.{Operand}
use Rattle.word_ir.specs.declared.operands.Operand.TheVariants as operand
use Rattle.word_ir.specs.declared.words.WordBlock.{WordBlock}
use Rattle.word_ir.specs.declared.words.Words.{Words}
use Rattle.word_ir.specs.Word.{Word, Number, Code, moved, wrap}
use Rattle.word_ir.specs.Storage.{Sizes, STACK_START, long_at}
use Rattle.word_ir.specs.State.{Own, kept}
use Rattle.word_ir.specs.State as word_state
use Rattle.word_ir.specs.Step.{words_in}
use Rattle.word_ir.specs.Stamps.{Stamp}
use Rattle.frame_ir.specs.Values.{Value, Frame, Env, value_at}
use Rattle.frame_ir.specs.Arguments.{bound}
use Rattle.frame_ir.specs.States.{State}
use Rattle.word_trees.specs.Trees.{Tree, Close}
use Rattle.word_trees.specs.Cores.{Core, word_in, stamp_in, some_stamp, binding, entering, bound_words, bound_stamps}
use Rattle.word_trees.specs.Leads.{Performs, MayRead}
use Rattle.word_trees.proofs.Ends.{jump_enters, enter_enters}
use Rattle.word_trees.proofs.Performing.{performs_more, enters_performs, here_leads, load_performs}
use Rattle.frame_words.specs.Layouts.{Layout}
use Rattle.frame_words.specs.Contents.{Escapes}
use Rattle.select_rows.specs.Kept.{IsOlder}
use Rattle.select_rows.specs.Macros.{var, of_var}
use Rattle.select_rows.proofs.Keeping.{older_kept, newest_kept}
use Rattle.frame_stacks.specs.Stacks.{Stack, Ways, stack_of, frames_place, stack_address, StandsFor, IsStored}
use Rattle.frame_stacks.specs.Frames.{HoldsFrame, HoldsFrames, HoldsEscapes, HoldsVariable, HoldsVariables, Holds}
use Rattle.frame_stacks.specs.Codes.{jump, give_back}
use Rattle.frame_stacks.specs.Laws.{HasValue, HaveValues, AreParameters, Begins}
use Rattle.frame_stacks.proofs.Reading.{stack_long, may_read_stack}
use Rattle.frame_stacks.proofs.Gets.{IsYoungest, youngest_held}

-- ---- parameters

missing_word : (params : List Var) (ws : List (Option Word)) (env : word_state.Env Word) (x : ℕ) → AllByRecursion (λ y. x ≡ y.0 → ⊥) params → kept (bound_words params ws env) (Own x) ≡ kept env (Own x)
missing_word [] ws env x h = refl
missing_word (p ∷ params) [] env x h = refl
missing_word (p ∷ params) (Some w ∷ ws) env x h = missing_word params ws ((Own p.0, w) ∷ env) x h.1 ∙ rw (ne_eqb p.0 x (λ eq. h.0 (sym eq))) refl
missing_word (p ∷ params) (None ∷ ws) env x h = missing_word params ws env x h.1

missing_stamp : (params : List Var) (ws : List Stamp) (env : word_state.Env Stamp) (x : ℕ) → AllByRecursion (λ y. x ≡ y.0 → ⊥) params → kept (bound_stamps params ws env) (Own x) ≡ kept env (Own x)
missing_stamp [] ws env x h = refl
missing_stamp (p ∷ params) [] env x h = refl
missing_stamp (p ∷ params) (w ∷ ws) env x h = missing_stamp params ws ((Own p.0, w) ∷ env) x h.1 ∙ rw (ne_eqb p.0 x (λ eq. h.0 (sym eq))) refl

first_word : (p : Var) (params : List Var) (o : Option Word) (w : Word) (ws : List (Option Word)) (env : word_state.Env Word) → o ≡ Some w → bound_words (p ∷ params) (o ∷ ws) env ≡ bound_words params ws ((Own p.0, w) ∷ env)
first_word p params o w ws env h = rw h refl

module _ (words : Words) (sizes : Sizes) (l : Layout) (e : Escapes) (g : Ways) (t : ℕ) (s : State) (c : Core) where
  same_value : (v w : Value) → Some v ≡ Some w → v ≡ w
  same_value v w eq = cc

  abbrev with_params : List Var → List Operand → word_state.Env Word → word_state.Env Stamp → Core
  with_params params args env stamps = record c { env = bound_words params (map (word_in c) args) env; stamps = bound_stamps params (map (stamp_in (words_in words sizes) c) args) stamps }

  head_held : (p : Var) (params : List Var) (a : Operand) (args : List Operand) (w : Value) (vs : List Value) (env : word_state.Env Word) (stamps : word_state.Env Stamp) (x : ℕ) (v : Value) (b : Bool) → (p.0 == x) ≡ b → AreParameters t (p ∷ params) → (h : HasValue words sizes l g t s c a w) → (value_at (bound params vs) x ≡ Some v → HoldsVariable sizes l g t s (with_params params args ((Own p.0, h.word) ∷ env) ((Own p.0, stamp_in (words_in words sizes) c a) ∷ stamps)) x v) → (if b then Some w else value_at (bound params vs) x) ≡ Some v → HoldsVariable sizes l g t s (with_params (p ∷ params) (a ∷ args) env stamps) x v
  head_held p params a args w vs env stamps x v true eq d h next found =
      let n : p.0 ≡ x = eqb-true p.0 x eq in
      subst (λ z. HoldsVariable sizes l g t s (with_params (p ∷ params) (a ∷ args) env stamps) z v) n
      (subst (λ u. HoldsVariable sizes l g t s (with_params (p ∷ params) (a ∷ args) env stamps) p.0 u) (same_value w v found)
      (record {
        older = d.0;
        word = h.word;
        stamp = h.stamp;
        held = ap (λ m. kept m (Own p.0)) (first_word p params (word_in c a) h.word (map (word_in c) args) env h.held)
            ∙ (missing_word params (map (word_in c) args) ((Own p.0, h.word) ∷ env) p.0 d.1 ∙ newest_kept env p.0 h.word);
        stamped = ap some_stamp (missing_stamp params (map (stamp_in (words_in words sizes) c) args) ((Own p.0, stamp_in (words_in words sizes) c a) ∷ stamps) p.0 d.1 ∙ newest_kept stamps p.0 (stamp_in (words_in words sizes) c a)) ∙ h.stamped;
        stands = h.stands;
      }))
  head_held p params a args w vs env stamps x v false eq d h next found =
      let o : HoldsVariable sizes l g t s (with_params params args ((Own p.0, h.word) ∷ env) ((Own p.0, stamp_in (words_in words sizes) c a) ∷ stamps)) x v = next found in
      record {
        older = o.older;
        word = o.word;
        stamp = o.stamp;
        held = ap (λ m. kept m (Own x)) (first_word p params (word_in c a) h.word (map (word_in c) args) env h.held) ∙ o.held;
        stamped = o.stamped;
        stands = o.stands;
      }

  params_held : (params : List Var) (args : List Operand) (vs : List Value) (env : word_state.Env Word) (stamps : word_state.Env Stamp) (x : ℕ) (v : Value) → AreParameters t params → HaveValues words sizes l g t s c args vs → value_at (bound params vs) x ≡ Some v → HoldsVariable sizes l g t s (with_params params args env stamps) x v
  params_held [] args vs env stamps x v d h found = absurd (cc)
  params_held (p ∷ params) args [] env stamps x v d h found = absurd (cc)
  params_held (p ∷ params) [] (w ∷ vs) env stamps x v d h found = absurd h
  params_held (p ∷ params) (a ∷ args) (w ∷ vs) env stamps x v d h found = head_held p params a args w vs env stamps x v (p.0 == x) refl d h.0
      (λ later. params_held params args vs ((Own p.0, h.0.word) ∷ env) ((Own p.0, stamp_in (words_in words sizes) c a) ∷ stamps) x v d.2 h.1 later) found

  pub entering_held : (params : List Var) (args : List Operand) (vs : List Value) (old : Env) → Holds sizes l e g t s old c → AreParameters t params → HaveValues words sizes l g t s c args vs → Holds sizes l e g t s (bound params vs) (entering (words_in words sizes) c params args)
  entering_held params args vs old h d hs = record {
    data_held = h.data_held;
    frames = h.frames;
    escapes = record { inner = h.escapes.inner; made = h.escapes.made; frames = h.escapes.frames; caught = h.escapes.caught; outer = h.escapes.outer; stamps = h.escapes.stamps; closures_apart = h.escapes.closures_apart };
    variables = record { each = λ x v found. let o = params_held params args vs [] [] x v d hs found in record { older = o.older; word = o.word; stamp = o.stamp; held = o.held; stamped = o.stamped; stands = o.stands } };
  }

  same_length : (args : List Operand) (vs : List Value) → HaveValues words sizes l g t s c args vs → length args ≡ length vs
  same_length [] [] h = refl
  same_length [] (v ∷ vs) h = absurd h
  same_length (x ∷ xs) [] h = absurd h
  same_length (x ∷ xs) (v ∷ vs) h = omega (arith, same_length xs vs h.1)

pub jump_performs : (words : Words) (sizes : Sizes) (l : Layout) (e : Escapes) (g : Ways) (t : ℕ) (s : State) (env : Env) (c : Core) (block : ℕ) (target : WordBlock) (args : List Operand) (vs : List Value) → Holds sizes l e g t s env c → HaveValues words sizes l g t s c args vs → slice_get words.blocks.items (g.begins block) ≡ Some target → length target.params ≡ length vs → AreParameters t target.params → Performs words sizes (Begins sizes l e g t s (bound target.params vs) block) 1 (1 + length args) (jump (g.begins block) args) c
jump_performs words sizes l e g t s env c block target args vs h hs found count d =
    performs_more words sizes (Begins sizes l e g t s (bound target.params vs) block) (1 + length args) (omega arith)
    (enters_performs words sizes (Begins sizes l e g t s (bound target.params vs) block) 0 0 (1 + length args) (g.begins block) (jump (g.begins block) args) c (entering (words_in words sizes) c target.params args)
    (jump_enters words sizes c (g.begins block) target args found (omega (arith, same_length words sizes l e g t s c args vs hs, count)))
    (λ moves steps. here_leads words sizes (Begins sizes l e g t s (bound target.params vs) block) 0 _
    (record { core = entering (words_in words sizes) c target.params args; holds = entering_held words sizes l e g t s c target.params args vs env h d hs; moves = moves; steps = steps; there = refl })))

-- ---- returns

pub older_value : (words : Words) (sizes : Sizes) (l : Layout) (g : Ways) (t : ℕ) (s : State) (c : Core) (y : Word) (stamp : Stamp) (x : Operand) (v : Value) → HasValue words sizes l g t s c x v → HasValue words sizes l g t s (binding c (var t) y stamp) x v
older_value words sizes l g t s c y stamp (operand.Var z) v h = record {
  word = h.word;
  stamp = h.stamp;
  held = older_kept c.env t z.0 y h.older ∙ h.held;
  stamped = ap some_stamp (older_kept c.stamps t z.0 stamp h.older) ∙ h.stamped;
  stands = h.stands;
  older = h.older;
}
older_value words sizes l g t s c y stamp (operand.Word n) v h = record { word = h.word; stamp = h.stamp; held = h.held; stamped = h.stamped; stands = h.stands; older = tt }
older_value words sizes l g t s c y stamp (operand.Static n) v h = record { word = h.word; stamp = h.stamp; held = h.held; stamped = h.stamped; stands = h.stands; older = tt }
older_value words sizes l g t s c y stamp (operand.Code n) v h = record { word = h.word; stamp = h.stamp; held = h.held; stamped = h.stamped; stands = h.stands; older = tt }
older_value words sizes l g t s c y stamp (operand.Slot n) v h = record { word = h.word; stamp = h.stamp; held = h.held; stamped = h.stamped; stands = h.stands; older = tt }

-- what is bound from t on doesn't matter
pub temporary_held : (sizes : Sizes) (l : Layout) (e : Escapes) (g : Ways) (t : ℕ) (s : State) (env : Env) (c : Core) (y : Word) (stamp : Stamp) → Holds sizes l e g t s env c → Holds sizes l e g t s env (binding c (var t) y stamp)
temporary_held sizes l e g t s env c y stamp h = record {
  data_held = h.data_held;
  frames = h.frames;
  escapes = record { inner = h.escapes.inner; made = h.escapes.made; frames = h.escapes.frames; caught = h.escapes.caught; outer = h.escapes.outer; stamps = h.escapes.stamps; closures_apart = h.escapes.closures_apart };
  variables = record {
    each = λ x v found.
        let o : HoldsVariable sizes l g t s c x v = h.variables.each x v found in
        record { older = o.older; word = o.word; stamp = o.stamp; held = older_kept c.env t x y o.older ∙ o.held; stamped = ap some_stamp (older_kept c.stamps t x stamp o.older) ∙ o.stamped; stands = o.stands };
  };
}

-- the words at the newest one
pub word_address : (top place n : ℕ) → top ≡ stack_address place → place + n < 2 ^ 26 → moved (wrap (top + 4 * n)) (pos 0) ≡ stack_address (place + n)
word_address top place n e lt = omega (arith, e, lt)

pub stored_word_performs : (words : Words) (sizes : Sizes) (Q : Rattle.word_ir.specs.Stamps.Stamped → Type 0) (l : Layout) (g : Ways) (s : State) (c : Core) (least cost bytes step place : ℕ) (x : Word) (stamp : Stamp) (to : Var) (rest : Tree) → HoldsFrames sizes l g s (stack_of c) → c.top + bytes ≡ stack_address place → IsStored (stack_of c) step place x stamp → Performs words sizes Q least cost rest (binding c to x stamp) → Performs words sizes Q 1 (2 + cost) (Rattle.word_trees.specs.Trees.Do (Rattle.word_ir.specs.declared.words.WordOp.TheVariants.Load to (operand.Slot bytes) (pos 0)) rest) c
stored_word_performs words sizes Q l g s c least cost bytes step place x stamp to rest h at stored next =
    let inside : place < length c.storage.stack = slice_get_within c.storage.stack place x stored.reads in
    let small : place < 2 ^ 26 = omega (arith, inside, h.words, h.small) in
    let address : moved (wrap (c.top + bytes)) (pos 0) ≡ stack_address place = omega (arith, at, small) in
    let read : long_at c.storage (moved (wrap (c.top + bytes)) (pos 0)) ≡ Some x = ap (long_at c.storage) address ∙ (stack_long c.storage place small ∙ stored.reads) in
    let stamped : long_at c.longs (moved (wrap (c.top + bytes)) (pos 0)) ≡ Some stamp = ap (long_at c.longs) address ∙ (stack_long c.longs place small ∙ stored.stamped) in
    let may : MayRead (words_in words sizes) c (operand.Slot bytes) (moved (wrap (c.top + bytes)) (pos 0)) =
    subst (MayRead (words_in words sizes) c (operand.Slot bytes)) (sym address) (may_read_stack words sizes c step place x stamp h.words stored bytes) in
    load_performs words sizes Q (wrap (c.top + bytes)) x refl read may (subst (λ k. Performs words sizes Q least cost rest (binding c to x (some_stamp k))) (sym stamped) next)

pub return_performs : (words : Words) (sizes : Sizes) (l : Layout) (e : Escapes) (g : Ways) (t : ℕ) (s : State) (env : Env) (c : Core) (birth : ℕ) (older : List ℕ) (f : Frame) (target : WordBlock) (x : Operand) (v : Value) → Holds sizes l e g t s env c → HasValue words sizes l g t s c x v → s.live ≡ birth ∷ older → slice_get s.frames birth ≡ Some f → slice_get words.blocks.items (g.begins f.back) ≡ Some target → length target.params ≡ 1 → AreParameters t target.params → Performs words sizes (Begins sizes l e g t s (bound target.params (v ∷ [])) f.back) 1 5 (give_back t x) c
return_performs words sizes l e g t s env c birth older f target x v h hx live there found count d =
    let y : IsYoungest sizes l g s (stack_of c) birth older f = youngest_held birth older f h.frames live there in
    let place : ℕ = frames_place sizes s.frames (birth ∷ older) in
    let back : Core = binding c (var t) (Code (g.begins f.back)) None in
    let holds : Holds sizes l e g t s env back = temporary_held sizes l e g t s env c (Code (g.begins f.back)) None h in
    let value : HasValue words sizes l g t s back x v = older_value words sizes l g t s c (Code (g.begins f.back)) None x v hx in
    let at : c.top + 0 ≡ stack_address place = omega (arith, y.top) in
    stored_word_performs words sizes (Begins sizes l e g t s (bound target.params (v ∷ [])) f.back) l g s c 1 3 0 (g.born birth) place (Code (g.begins f.back)) None (var t) (Close (Rattle.word_ir.specs.declared.words.WordEnd.TheVariants.Enter (of_var t) (x ∷ []))) h.frames at y.frame.back
    (enters_performs words sizes (Begins sizes l e g t s (bound target.params (v ∷ [])) f.back) 0 0 3 (g.begins f.back) (Close (Rattle.word_ir.specs.declared.words.WordEnd.TheVariants.Enter (of_var t) (x ∷ []))) back (entering (words_in words sizes) back target.params (x ∷ []))
    (enter_enters words sizes back (of_var t) (g.begins f.back) target (x ∷ []) (newest_kept c.env t (Code (g.begins f.back))) found)
    (λ moves steps. here_leads words sizes (Begins sizes l e g t s (bound target.params (v ∷ [])) f.back) 0 _
    (record { core = entering (words_in words sizes) back target.params (x ∷ []); holds = entering_held words sizes l e g t s back target.params (x ∷ []) (v ∷ []) env holds d (value, tt); moves = moves; steps = steps; there = refl })))
