-- The entry of a code, and its block with the operands.
use Rattle.std.proofs.Common.{◌≡◌, ℕ, zero, suc, ◌+◌, ◌-◌, ◌*◌, ◌<◌, ◌≤◌, ◌==◌, inl, inr, Bool, true, false, if◌then◌else◌, List, [], ◌∷◌, length, map, slice_get, Option, Some, None, is_some, pos, refl, sym, ap, ◌∙◌, subst, arith}
use Rattle.std.proofs.lemmas.Bool.{ne_eqb, eq-eqb, eqb-true}
use Rattle.program_runs.specs.Runs.{Faulted}
use Rattle.t_base.specs.declared.basics.Var.{Var}
use Rattle.t_base.specs.declared.faults.Fault.TheVariants.{WrongCount}
use Rattle.t_prim.specs.Values.{Val}
use Rattle.word_ir.specs.declared.operands.Operand.TheVariants as operand
use Rattle.word_ir.specs.declared.words.WordBlock.{WordBlock}
use Rattle.word_ir.specs.declared.words.Words.{Words}
use Rattle.word_ir.specs.Word.{Word, Number, moved}
use Rattle.word_ir.specs.Storage.{Sizes, static_at, long_at}
use Rattle.word_ir.specs.State.{Own, kept}
use Rattle.word_ir.specs.State as word_state
use Rattle.word_ir.specs.Stamps.{Stamp, Stamped}
use Rattle.frame_ir.specs.Values.{Value, Lasting, Env, value_at}
use Rattle.frame_ir.specs.States.{State}
use Rattle.frame_ir.specs.Arguments.{bound}
use Rattle.word_trees.specs.Trees.{Tree}
use Rattle.word_trees.specs.Cores.{Core, at, some_stamp}
use Rattle.word_trees.specs.Leads.{Leads, Performs}
use Rattle.word_trees.proofs.Operations.{service_ends}
use Rattle.word_trees.proofs.Performing.{performs_more, ends, load_performs, ask_performs_true, ask_performs_false}
use Rattle.frame_words.specs.Layouts.{Layout, OPERANDS}
use Rattle.frame_words.specs.ValueWords.{word_for, val_word, or_zero}
use Rattle.frame_words.specs.Contents.{Escapes}
use Rattle.frame_words.specs.Holding.{AreKnown}
use Rattle.select_rows.specs.Macros.{word, fault, never}
use Rattle.select_rows.proofs.Keeping.{may_read, get_some}
use Rattle.frame_stacks.specs.Stacks.{Ways}
use Rattle.frame_stacks.specs.Frames.{HoldsVariable, Holds}
use Rattle.frame_stacks.specs.Codes.{jump}
use Rattle.frame_stacks.specs.Laws.{HaveValues, AreParameters, Begins}
use Rattle.frame_stacks.proofs.Blocks.{jump_performs}
use Rattle.frame_reads.specs.Laws.{Fails}
use Rattle.frame_calls.specs.Codes.{params_from, load_operands, entry_code}
use Rattle.frame_calls.specs.Calls.{HoldsCall}
use Rattle.frame_calls.proofs.Statics.{front_address, static_place}
use Rattle.frame_calls.proofs.Calling.{nothing_bound}

pub performs_map : (words : Words) (sizes : Sizes) (Q R : Stamped → Type 0) (least cost : ℕ) (tree : Tree) (c : Core) → ((x : Stamped) → Q x → R x) → Performs words sizes Q least cost tree c → Performs words sizes R least cost tree c
performs_map words sizes Q R least cost tree c f h = record {
  leads = λ block place moves steps spelled.
      let o : Leads words sizes Q least cost (at c block place moves steps) = h.leads block place moves steps spelled in
      record { count = o.count; enough = o.enough; there = f _ o.there; moves = o.moves };
}

some_number : (o : Option ℕ) → is_some o ≡ true → o ≡ Some (or_zero o)
some_number (Some n) k = refl
some_number None k = absurd (cc)

-- ---- parameters below a number

pub higher_parameters : (t more : ℕ) (params : List Var) → AreParameters t params → AreParameters (t + more) params
higher_parameters t more [] h = tt
higher_parameters t more (x ∷ xs) h = (omega (arith, h.0), h.1, higher_parameters t more xs h.2)

bound_below_by : (t p x : ℕ) (b : Bool) (v w : Value) (env : Env) → (p == x) ≡ b → p < t → (value_at env x ≡ Some w → x < t) → (if b then Some v else value_at env x) ≡ Some w → x < t
bound_below_by t p x true v w env eq lt next found = let same : p ≡ x = eqb-true p x eq in omega (arith, same, lt)
bound_below_by t p x false v w env eq lt next found = next found

bound_below : (t : ℕ) (params : List Var) (vs : List Value) (x : ℕ) (w : Value) → AreParameters t params → value_at (bound params vs) x ≡ Some w → x < t
bound_below t [] vs x w d found = absurd (cc)
bound_below t (p ∷ ps) [] x w d found = absurd (cc)
bound_below t (p ∷ ps) (v ∷ vs) x w d found = bound_below_by t p.0 x (p.0 == x) v w (bound ps vs) refl d.0 (bound_below t ps vs x w d.2) found

pub lower_held : (sizes : Sizes) (l : Layout) (e : Escapes) (g : Ways) (t more : ℕ) (s : State) (params : List Var) (vs : List Value) (c : Core) → AreParameters t params → Holds sizes l e g (t + more) s (bound params vs) c → Holds sizes l e g t s (bound params vs) c
lower_held sizes l e g t more s params vs c d h = record {
  data_held = h.data_held;
  frames = h.frames;
  escapes = h.escapes;
  variables = record {
    each = λ x v found.
        let o : HoldsVariable sizes l g (t + more) s c x v = h.variables.each x v found in
        record { older = bound_below t params vs x v d found; word = o.word; stamp = o.stamp; held = o.held; stamped = o.stamped; stands = o.stands };
  };
}

below_by : (j i : ℕ) → j < 5 + suc i → (j ≡ 5 + i → ⊥) → j < 5 + i
below_by j i lt differs = elim (Rattle.std.proofs.lemmas.Bool.cases_lt j (5 + i)) [
  | inl less ↦ less
  | inr not_less ↦ absurd (differs (omega (arith, lt, not_less)))
]

module _ (words : Words) (sizes : Sizes) (l : Layout) (e : Escapes) (g : Ways) (t : ℕ) (s : State) (f : Value) (args : List Val) (c : Core) (h : HoldsCall sizes l e g t s f args c) where
  abbrev pub with_env : word_state.Env Word → word_state.Env Stamp → Core
  with_env ws stamps = record c { env = ws; stamps = stamps }

  -- the procedure and the first operands are bound
  pub record Loaded (upto : ℕ) (ws : word_state.Env Word) (stamps : word_state.Env Stamp) : Type 0 where
    pub held : kept ws (Own (t + 1)) ≡ Some h.word
    pub stamped : some_stamp (kept stamps (Own (t + 1))) ≡ h.stamp
    pub operands : (i : ℕ) (v : Val) → slice_get args i ≡ Some v → i < upto → kept ws (Own (t + 2 + i)) ≡ Some (Number (val_word l s v))

  other_kept : {X : Type 0} (env : word_state.Env X) (u v : ℕ) (x : X) → (u ≡ v → ⊥) → kept ((Own u, x) ∷ env) (Own v) ≡ kept env (Own v)
  other_kept env u v x ne = rw (ne_eqb u v ne) refl

  one_loaded : (i : ℕ) (v : Val) (ws : word_state.Env Word) (stamps : word_state.Env Stamp) (stamp : Stamp) → slice_get args (5 + i) ≡ Some v → Loaded (5 + i) ws stamps → Loaded (5 + suc i) ((Own (t + 7 + i), Number (val_word l s v)) ∷ ws) ((Own (t + 7 + i), stamp) ∷ stamps)
  one_loaded i v ws stamps stamp there o = record {
    held = other_kept ws (t + 7 + i) (t + 1) (Number (val_word l s v)) (λ eq. absurd (omega (arith, eq))) ∙ o.held;
    stamped = ap some_stamp (other_kept stamps (t + 7 + i) (t + 1) stamp (λ eq. absurd (omega (arith, eq)))) ∙ o.stamped;
    operands = λ j y at lt. by_place j y at lt (j == 5 + i) refl;
  }
    where
      by_place : (j : ℕ) (y : Val) → slice_get args j ≡ Some y → j < 5 + suc i → (b : Bool) → (j == 5 + i) ≡ b → kept ((Own (t + 7 + i), Number (val_word l s v)) ∷ ws) (Own (t + 2 + j)) ≡ Some (Number (val_word l s y))
      by_place j y at lt true q =
          let same : j ≡ 5 + i = eqb-true j (5 + i) q in
          let m : t + 2 + j ≡ t + 7 + i = omega (arith, same) in
          let other : slice_get args (5 + i) ≡ Some y = ap (slice_get args) (sym same) ∙ at in
          let equal : v ≡ y = cc in
          ap (λ x. kept ((Own (t + 7 + i), Number (val_word l s v)) ∷ ws) (Own x)) m ∙ (rw (eq-eqb (t + 7 + i) (t + 7 + i) refl) (ap (λ z. Some (Number (val_word l s z))) equal))
      by_place j y at lt false q =
          let differs : j ≡ 5 + i → ⊥ = Rattle.std.proofs.lemmas.Bool.eqb-false j (5 + i) q in
          other_kept ws (t + 7 + i) (t + 2 + j) (Number (val_word l s v)) (λ eq. differs (omega (arith, eq))) ∙ o.operands j y at (below_by j i lt differs)

  module _ (Q : Stamped → Type 0) where
    pub loads_perform : (k i cost : ℕ) (ws : word_state.Env Word) (stamps : word_state.Env Stamp) (rest : Tree) → 5 + (i + k) ≤ length args → Loaded (5 + i) ws stamps
        → ((ws' : word_state.Env Word) (stamps' : word_state.Env Stamp) → Loaded (5 + (i + k)) ws' stamps' → Performs words sizes Q 1 cost rest (with_env ws' stamps'))
        → Performs words sizes Q 1 (2 * k + cost) (load_operands t i k rest) (with_env ws stamps)
    loads_perform zero i cost ws stamps rest le o next =
        let n : cost ≡ 2 * 0 + cost = omega arith in
        let m : 5 + i ≡ 5 + (i + 0) = omega arith in
        subst (λ y. Performs words sizes Q 1 y rest (with_env ws stamps)) n (next ws stamps (subst (λ y. Loaded y ws stamps) m o))
    loads_perform (suc k) i cost ws stamps rest le o next =
        let v = get_some args (5 + i) (omega (arith, le)) in
        let few : length args ≤ 20 = h.few in
        let n : 2 + (2 * k + cost) ≡ 2 * suc k + cost = omega arith in
        let low : OPERANDS + i < 17 = omega (arith, le, few) in
        let place : 5 + i - 5 ≡ i = omega arith in
        let address : moved (static_at (OPERANDS + i)) (pos 0) ≡ static_at (OPERANDS + i) = front_address (OPERANDS + i) low ∙ sym (static_place (OPERANDS + i) low) in
        let read : long_at c.storage (static_at (OPERANDS + i)) ≡ Some (Number (val_word l s v.0)) = ap (λ y. long_at c.storage (static_at (OPERANDS + y))) (sym place) ∙ h.others (5 + i) v.0 v.1 (omega arith) in
        let stamp : Stamp = some_stamp (long_at c.longs (moved (static_at (OPERANDS + i)) (pos 0))) in
        let upto : 5 + (suc i + k) ≡ 5 + (i + suc k) = omega arith in
        subst (λ y. Performs words sizes Q 1 y (load_operands t i (suc k) rest) (with_env ws stamps)) n
        (load_performs words sizes Q (static_at (OPERANDS + i)) (Number (val_word l s v.0)) refl (ap (long_at c.storage) address ∙ read)
        (may_read words sizes (with_env ws stamps) (operand.Static (OPERANDS + i)) (moved (static_at (OPERANDS + i)) (pos 0)) (omega (arith, address, static_place (OPERANDS + i) low, low)))
        (loads_perform k (suc i) cost ((Own (t + 7 + i), Number (val_word l s v.0)) ∷ ws) ((Own (t + 7 + i), stamp) ∷ stamps) rest (omega (arith, le)) (one_loaded i v.0 ws stamps stamp v.1 o)
        (λ ws' stamps' all. next ws' stamps' (subst (λ y. Loaded y ws' stamps') upto all))))

  -- ---- the jump

  pub operands_have : (ws : word_state.Env Word) (stamps : word_state.Env Stamp) (start : ℕ) (rest : List Val) → ((i : ℕ) (v : Val) → slice_get rest i ≡ Some v → kept ws (Own (start + i)) ≡ Some (Number (val_word l s v))) → AreKnown l s rest → start + length rest ≤ t + 30
      → HaveValues words sizes l g (t + 30) s (with_env ws stamps) (map operand.Var (params_from start (length rest))) (map Lasting rest)
  operands_have ws stamps start [] found known le = tt
  operands_have ws stamps start (v ∷ rest) found known le =
      let z : start ≡ start + 0 = omega arith in (
        record {
          word = Number (val_word l s v);
          stamp = some_stamp (kept stamps (Own start));
          held = ap (λ y. kept ws (Own y)) z ∙ found 0 v refl;
          stamped = refl;
          stands = record { number = val_word l s v; known = some_number (word_for l s v) known.0; is = refl };
          older = omega (arith, le);
        },
        operands_have ws stamps (suc start) rest (λ i y at. let m : suc start + i ≡ start + suc i = omega arith in ap (λ x. kept ws (Own x)) m ∙ found (suc i) y at) known.1 (omega (arith, le)),
      )

  module _ (code : ℕ) (target : WordBlock) (there : slice_get words.blocks.items (g.begins code) ≡ Some target) (count : length target.params ≡ suc (length args)) (params : AreParameters t target.params) where
    abbrev Q : Stamped → Type 0
    Q = Begins sizes l e g t s (bound target.params (f ∷ map Lasting args)) code

    map_length : (vs : List Val) → length (map Lasting vs) ≡ length vs
    map_length [] = refl
    map_length (v ∷ vs) = omega (arith, map_length vs)

    params_length : (n k : ℕ) → length (map operand.Var (params_from n k)) ≡ k
    params_length n zero = refl
    params_length n (suc k) = omega (arith, params_length (suc n) k)

    jumped : (ws : word_state.Env Word) (stamps : word_state.Env Stamp) → Loaded (length args) ws stamps → Performs words sizes Q 1 (2 + length args) (jump (g.begins code) (map operand.Var (params_from (t + 1) (suc (length args))))) (with_env ws stamps)
    jumped ws stamps o =
        let few : length args ≤ 20 = h.few in
        let up : Holds sizes l e g (t + 30) s [] (with_env ws stamps) = raised ws stamps in
        let n = params_length (t + 1) (suc (length args)) in
        performs_map words sizes (Begins sizes l e g (t + 30) s (bound target.params (f ∷ map Lasting args)) code) Q 1 (2 + length args) (jump (g.begins code) (map operand.Var (params_from (t + 1) (suc (length args))))) (with_env ws stamps)
        (λ x b. record { core = b.core; holds = lower_held sizes l e g t 30 s target.params (f ∷ map Lasting args) b.core params b.holds; moves = b.moves; steps = b.steps; there = b.there })
        (performs_more words sizes (Begins sizes l e g (t + 30) s (bound target.params (f ∷ map Lasting args)) code) (2 + length args) (omega (arith, n))
        (jump_performs words sizes l e g (t + 30) s [] (with_env ws stamps) code target (map operand.Var (params_from (t + 1) (suc (length args)))) (f ∷ map Lasting args) up (
          record { word = h.word; stamp = h.stamp; held = o.held; stamped = o.stamped; stands = h.stands; older = omega arith },
          operands_have ws stamps (suc (t + 1)) args (λ i v at. let m : suc (t + 1) + i ≡ t + 2 + i = omega arith in ap (λ x. kept ws (Own x)) m ∙ o.operands i v at (Rattle.std.proofs.lemmas.Option.slice_get_within args i v at)) h.known (omega (arith, few)),
        )
        there (omega (arith, count, map_length args)) (higher_parameters t 30 target.params params)))
      where
        raised : (ws : word_state.Env Word) (stamps : word_state.Env Stamp) → Holds sizes l e g (t + 30) s [] (with_env ws stamps)
        raised ws stamps =
            let k : Holds sizes l e g t s [] (with_env ws stamps) = nothing_bound sizes l e g t s [] c ws stamps h.holds in
            record { data_held = k.data_held; frames = k.frames; escapes = k.escapes; variables = record { each = λ x v found. absurd (cc) } }

    pub at_first : Loaded 5 c.env c.stamps
    at_first = record { held = h.held; stamped = h.stamped; operands = h.operands }

    behind_loads : Performs words sizes Q 1 (2 * (length args - 5) + (2 + length args)) (load_operands t 0 (length args - 5) (jump (g.begins code) (map operand.Var (params_from (t + 1) (suc (length args)))))) c
    behind_loads = elim (Rattle.std.proofs.lemmas.Bool.cases_lt (length args) 5) [
      | inl less ↦
          let none : length args - 5 ≡ 0 = omega (arith, less) in
          subst (λ k. Performs words sizes Q 1 (2 * k + (2 + length args)) (load_operands t 0 k (jump (g.begins code) (map operand.Var (params_from (t + 1) (suc (length args)))))) c) (sym none)
          (performs_more words sizes Q (2 * 0 + (2 + length args)) (omega arith) (jumped c.env c.stamps (record { held = h.held; stamped = h.stamped; operands = λ i v at lt. h.operands i v at (omega (arith, lt, less)) })))
      | inr more ↦
          let all : 5 + (0 + (length args - 5)) ≡ length args = omega (arith, more) in
          loads_perform Q (length args - 5) 0 (2 + length args) c.env c.stamps (jump (g.begins code) (map operand.Var (params_from (t + 1) (suc (length args))))) (omega (arith, all)) at_first
          (λ ws stamps o. jumped ws stamps (subst (λ y. Loaded y ws stamps) all o))
    ]

    pub whole_entry : Performs words sizes Q 1 (5 + 3 * length args) (entry_code t (length args) (g.begins code)) c
    whole_entry =
        performs_more words sizes Q (5 + 3 * length args) (omega arith)
        (ask_performs_true words sizes Q (Number (length args)) (Number (length args)) h.count refl (ap Some (eq-eqb (length args) (length args) refl)) behind_loads)

  pub wrong_count : (count block : ℕ) → (length args ≡ count → ⊥) → Performs words sizes (Fails sizes l e s WrongCount) 1 5 (entry_code t count block) c
  wrong_count count block differs =
      ask_performs_false words sizes (Fails sizes l e s WrongCount) (Number (length args)) (Number count) h.count refl (ap Some (ne_eqb (length args) count differs))
      (ends words sizes (Fails sizes l e s WrongCount) 2 (fault 2) c (Faulted WrongCount) (service_ends words sizes c 3 (word 2) 2 (Faulted WrongCount) never refl refl)
      (λ block place moves steps. record { core = c; data_held = h.holds.data_held; block = block; place = place; moves = moves; steps = steps; there = refl }))

pub entry_performs : (words : Words) (sizes : Sizes) (l : Layout) (e : Escapes) (g : Ways) (t : ℕ) (s : State) (f : Value) (args : List Val) (c : Core) (code : ℕ) (target : WordBlock) → HoldsCall sizes l e g t s f args c → slice_get words.blocks.items (g.begins code) ≡ Some target → length target.params ≡ suc (length args) → AreParameters t target.params → Performs words sizes (Begins sizes l e g t s (bound target.params (f ∷ map Lasting args)) code) 1 (5 + 3 * length args) (entry_code t (length args) (g.begins code)) c
entry_performs words sizes l e g t s f args c code target h there count params = whole_entry words sizes l e g t s f args c h code target there count params

pub entry_fails : (words : Words) (sizes : Sizes) (l : Layout) (e : Escapes) (g : Ways) (t : ℕ) (s : State) (f : Value) (args : List Val) (c : Core) (count block : ℕ) → HoldsCall sizes l e g t s f args c → (length args ≡ count → ⊥) → Performs words sizes (Fails sizes l e s WrongCount) 1 5 (entry_code t count block) c
entry_fails words sizes l e g t s f args c count block h differs = wrong_count words sizes l e g t s f args c h count block differs
