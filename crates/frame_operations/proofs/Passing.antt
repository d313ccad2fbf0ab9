-- The variables of a call are passed on, with a procedure and more.
use Rattle.std.proofs.Common.{◌≡◌, ℕ, suc, ◌+◌, ◌<◌, ◌≤◌, List, [], ◌∷◌, ◌++◌, length, map, slice_get, Some, option_map, refl, sym, ap, ◌∙◌, arith}
use Rattle.std.proofs.lemmas.Bool.{ne_eqb}
use Rattle.std.proofs.lemmas.Option.{slice_get-map}
use Rattle.t_prim.specs.Values.{Val}
use Rattle.word_ir.specs.declared.operands.Operand.{Operand}
use Rattle.word_ir.specs.declared.operands.Operand.TheVariants as operand
use Rattle.word_ir.specs.declared.words.WordBlock.{WordBlock}
use Rattle.word_ir.specs.declared.words.WordEnd.TheVariants as last
use Rattle.word_ir.specs.declared.words.Words.{Words}
use Rattle.word_ir.specs.Word.{Word, Number, Code}
use Rattle.word_ir.specs.Storage.{Sizes}
use Rattle.word_ir.specs.State.{Own, kept}
use Rattle.word_ir.specs.State as word_state
use Rattle.word_ir.specs.Step.{words_in}
use Rattle.word_ir.specs.Stamps.{Stamp}
use Rattle.frame_ir.specs.Values.{Value}
use Rattle.frame_ir.specs.States.{State}
use Rattle.word_trees.specs.Trees.{Close}
use Rattle.word_trees.specs.Cores.{Core, at, word_in, stamp_in, some_stamp, entering, bound_words, bound_stamps}
use Rattle.word_trees.specs.Leads.{Performs}
use Rattle.word_trees.proofs.Ends.{enter_enters}
use Rattle.word_trees.proofs.Performing.{enters_performs, here_leads}
use Rattle.frame_words.specs.Layouts.{Layout}
use Rattle.frame_words.specs.ValueWords.{val_word}
use Rattle.frame_words.specs.Contents.{Escapes}
use Rattle.frame_words.proofs.Segments.{get_left}
use Rattle.select_rows.specs.Macros.{of_var}
use Rattle.frame_stacks.specs.Stacks.{Ways, StandsFor}
use Rattle.frame_calls.specs.Codes.{params_from, call_params}
use Rattle.frame_calls.specs.Calls.{HoldsCall, Calls}
use Rattle.frame_calls.proofs.Passing.{word_bound, stamp_bound, param_at}
use Rattle.frame_calls.proofs.Calling.{none_bound}
use Rattle.frame_dispatch.specs.Codes.{passed}

pub other_kept : {X : Type 0} (env : word_state.Env X) (u v : ℕ) (x : X) → (u ≡ v → ⊥) → kept ((Own u, x) ∷ env) (Own v) ≡ kept env (Own v)
other_kept env u v x ne = rw (ne_eqb u v ne) refl

-- what is bound behind the variables of a call
pub kept_behind : {X : Type 0} (env : word_state.Env X) (t k i : ℕ) (x : X) → 7 ≤ k → i < 7 → kept ((Own (t + k), x) ∷ env) (Own (t + i)) ≡ kept env (Own (t + i))
kept_behind env t k i x le lt = other_kept env (t + k) (t + i) x (λ eq. absurd (omega (arith, eq, le, lt)))

-- the variables of a call are as they were
pub record SameCall {X : Type 0} (t : ℕ) (old new : word_state.Env X) : Type 0 where
  pub each : (i : ℕ) → i < 7 → kept new (Own (t + i)) ≡ kept old (Own (t + i))

pub same_call : {X : Type 0} (t : ℕ) (env : word_state.Env X) → SameCall t env env
same_call t env = record { each = λ i lt. refl }

pub one_more : {X : Type 0} (t k : ℕ) (old env : word_state.Env X) (x : X) → 7 ≤ k → SameCall t old env → SameCall t old ((Own (t + k), x) ∷ env)
one_more t k old env x le h = record { each = λ i lt. kept_behind env t k i x le lt ∙ h.each i lt }

module _ (words : Words) (sizes : Sizes) (l : Layout) (e : Escapes) (g : Ways) (t : ℕ) (s : State) (f : Value) (args : List Val) (c : Core) (h : HoldsCall sizes l e g t s f args c) (ws : word_state.Env Word) (ss : word_state.Env Stamp) (same : SameCall t c.env ws) where
  abbrev pub now : Core
  now = record c { env = ws; stamps = ss }

  -- at parameters from another number on
  abbrev pub begun : ℕ → ℕ → ℕ → List Operand → Core
  begun r n u more = record c { env = bound_words (params_from r n) (map (word_in now) (passed t u more)) []; stamps = bound_stamps (params_from r n) (map (stamp_in (words_in words sizes) now) (passed t u more)) [] }

  operand_at : (j : ℕ) (more : List Operand) → j < 5 → slice_get (map (word_in now) (map operand.Var (params_from (t + 2) 5) ++ more)) j ≡ Some (kept ws (Own (t + 2 + j)))
  operand_at j more lt =
      let param : slice_get (map operand.Var (params_from (t + 2) 5)) j ≡ Some (of_var (t + 2 + j)) = slice_get-map operand.Var (params_from (t + 2) 5) j ∙ ap (option_map operand.Var) (param_at (t + 2) 5 j lt) in
      slice_get-map (word_in now) (map operand.Var (params_from (t + 2) 5) ++ more) j
      ∙ ap (option_map (word_in now)) (get_left (map operand.Var (params_from (t + 2) 5)) more j (of_var (t + 2 + j)) param)

  -- with a procedure that a variable holds
  pub begun_call : (r n u : ℕ) (more : List Operand) (f' : Value) (w : Word) (stamp : Stamp) → 7 ≤ n → kept ws (Own u) ≡ Some w → some_stamp (kept ss (Own u)) ≡ stamp → StandsFor sizes l g s f' w stamp → HoldsCall sizes l e g r s f' args (begun r n u more)
  begun_call r n u more f' w stamp le held stamped stands =
      let z : t ≡ t + 0 = omega arith in
      let y : r ≡ r + 0 = omega arith in
      let first : kept ws (Own t) ≡ Some (Number (length args)) = ap (λ x. kept ws (Own x)) z ∙ (same.each 0 (omega arith) ∙ (sym (ap (λ x. kept c.env (Own x)) z) ∙ h.count)) in
      record {
        holds = none_bound sizes l e g t r s [] c (begun r n u more).env (begun r n u more).stamps h.holds;
        count = ap (λ x. kept (begun r n u more).env (Own x)) y ∙ word_bound r n 0 (map (word_in now) (passed t u more)) [] (Number (length args)) (omega (arith, le)) (ap Some first);
        few = h.few;
        word = w;
        stamp = stamp;
        held = word_bound r n 1 (map (word_in now) (passed t u more)) [] w (omega (arith, le)) (ap Some held);
        stamped = ap some_stamp (stamp_bound r n 1 (map (stamp_in (words_in words sizes) now) (passed t u more)) [] (some_stamp (kept ss (Own u))) (omega (arith, le)) refl) ∙ stamped;
        stands = stands;
        known = h.known;
        operands = λ i v at lt.
            let m : t + 2 + i ≡ t + (2 + i) = omega arith in
            let q : r + 2 + i ≡ r + (2 + i) = omega arith in
            let k : 2 + i ≡ suc (suc i) = omega arith in
            let old : kept ws (Own (t + 2 + i)) ≡ Some (Number (val_word l s v)) = ap (λ x. kept ws (Own x)) m ∙ (same.each (2 + i) (omega (arith, lt)) ∙ (sym (ap (λ x. kept c.env (Own x)) m) ∙ h.operands i v at lt)) in
            ap (λ x. kept (begun r n u more).env (Own x)) q
            ∙ word_bound r n (2 + i) (map (word_in now) (passed t u more)) [] (Number (val_word l s v)) (omega (arith, lt, le)) (ap (slice_get (map (word_in now) (passed t u more))) k ∙ (operand_at i more lt ∙ ap Some old));
        others = h.others;
      }

  -- the procedure is the same
  pub same_procedure : SameCall t c.stamps ss → (r n : ℕ) (more : List Operand) → 7 ≤ n → HoldsCall sizes l e g r s f args (begun r n (t + 1) more)
  same_procedure stamps r n more le = begun_call r n (t + 1) more f h.word h.stamp le (same.each 1 (omega arith) ∙ h.held) (ap some_stamp (stamps.each 1 (omega arith)) ∙ h.stamped) h.stands

  -- to the entry of a code
  pub enter_performs : (r n u turn : ℕ) (f' : Value) (block : WordBlock) → kept ws (Own n) ≡ Some (Code turn) → HoldsCall sizes l e g r s f' args (begun r 7 u []) → slice_get words.blocks.items turn ≡ Some block → block.params ≡ call_params r
      → Performs words sizes (Calls sizes l e g r s f' args turn) 1 9 (Close (last.Enter (of_var n) (passed t u []))) now
  enter_performs r n u turn f' block code call found params =
      enters_performs words sizes (Calls sizes l e g r s f' args turn) 0 0 9 turn (Close (last.Enter (of_var n) (passed t u []))) now (entering (words_in words sizes) now block.params (passed t u []))
      (enter_enters words sizes now (of_var n) turn block (passed t u []) code found)
      (λ moves steps. here_leads words sizes (Calls sizes l e g r s f' args turn) 0 _
      (record { core = begun r 7 u []; holds = call; moves = moves; steps = steps; there = ap (λ ps. at (entering (words_in words sizes) now ps (passed t u [])) turn 0 moves steps) params }))
