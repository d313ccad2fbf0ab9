-- The entry of a method, and its block with the operands.
use Rattle.std.proofs.Common.{◌≡◌, ℕ, zero, suc, ◌+◌, ◌-◌, ◌*◌, ◌≤◌, inl, inr, List, [], ◌∷◌, length, map, slice_get, Some, refl, sym, ap, subst, arith}
use Rattle.std.proofs.lemmas.Bool.{ne_eqb, eq-eqb, cases_lt}
use Rattle.std.proofs.lemmas.Option.{slice_get_within}
use Rattle.program_runs.specs.Runs.{Faulted}
use Rattle.t_base.specs.declared.faults.Fault.TheVariants.{WrongCount}
use Rattle.t_prim.specs.Values.{Val}
use Rattle.word_ir.specs.declared.operands.Operand.TheVariants as operand
use Rattle.word_ir.specs.declared.words.WordBlock.{WordBlock}
use Rattle.word_ir.specs.declared.words.Words.{Words}
use Rattle.word_ir.specs.Word.{Word, Number}
use Rattle.word_ir.specs.Storage.{Sizes}
use Rattle.word_ir.specs.State as word_state
use Rattle.word_ir.specs.Stamps.{Stamp, Stamped}
use Rattle.frame_ir.specs.Values.{Value, Lasting}
use Rattle.frame_ir.specs.States.{State}
use Rattle.frame_ir.specs.Arguments.{bound}
use Rattle.word_trees.specs.Cores.{Core}
use Rattle.word_trees.specs.Leads.{Performs}
use Rattle.word_trees.proofs.Operations.{service_ends}
use Rattle.word_trees.proofs.Performing.{performs_more, ends, ask_performs_true, ask_performs_false}
use Rattle.frame_words.specs.Layouts.{Layout}
use Rattle.frame_words.specs.Contents.{Escapes}
use Rattle.select_rows.specs.Macros.{word, fault, never}
use Rattle.frame_stacks.specs.Stacks.{Ways}
use Rattle.frame_stacks.specs.Frames.{Holds}
use Rattle.frame_stacks.specs.Codes.{jump}
use Rattle.frame_stacks.specs.Laws.{AreParameters, Begins}
use Rattle.frame_stacks.proofs.Blocks.{jump_performs}
use Rattle.frame_reads.specs.Laws.{Fails}
use Rattle.frame_calls.specs.Codes.{params_from, load_operands}
use Rattle.frame_calls.specs.Calls.{HoldsCall}
use Rattle.frame_calls.proofs.Calling.{nothing_bound}
use Rattle.frame_calls.proofs.Entering.{performs_map, higher_parameters, lower_held, Loaded, loads_perform, operands_have}
use Rattle.frame_methods.specs.Laws.{method_code}

map_length : (vs : List Val) → length (map Lasting vs) ≡ length vs
map_length [] = refl
map_length (v ∷ vs) = omega (arith, map_length vs)

params_length : (n k : ℕ) → length (map operand.Var (params_from n k)) ≡ k
params_length n zero = refl
params_length n (suc k) = omega (arith, params_length (suc n) k)

module _ (words : Words) (sizes : Sizes) (l : Layout) (e : Escapes) (g : Ways) (t : ℕ) (s : State) (f : Value) (args : List Val) (c : Core) (h : HoldsCall sizes l e g t s f args c) (code : ℕ) (target : WordBlock) (there : slice_get words.blocks.items (g.begins code) ≡ Some target) (count : length target.params ≡ length args) (params : AreParameters t target.params) where
  abbrev Q : Stamped → Type 0
  Q = Begins sizes l e g t s (bound target.params (map Lasting args)) code

  raised : (ws : word_state.Env Word) (stamps : word_state.Env Stamp) → Holds sizes l e g (t + 30) s [] (record c { env = ws; stamps = stamps })
  raised ws stamps =
      let k : Holds sizes l e g t s [] (record c { env = ws; stamps = stamps }) = nothing_bound sizes l e g t s [] c ws stamps h.holds in
      record { data_held = k.data_held; frames = k.frames; escapes = k.escapes; variables = record { each = λ x v found. absurd (cc) } }

  jumped : (ws : word_state.Env Word) (stamps : word_state.Env Stamp) → Loaded words sizes l e g t s f args c h (length args) ws stamps → Performs words sizes Q 1 (1 + length args) (jump (g.begins code) (map operand.Var (params_from (t + 2) (length args)))) (record c { env = ws; stamps = stamps })
  jumped ws stamps o =
      let few : length args ≤ 20 = h.few in
      let n = params_length (t + 2) (length args) in
      performs_map words sizes (Begins sizes l e g (t + 30) s (bound target.params (map Lasting args)) code) Q 1 (1 + length args) (jump (g.begins code) (map operand.Var (params_from (t + 2) (length args)))) (record c { env = ws; stamps = stamps })
      (λ x b. record { core = b.core; holds = lower_held sizes l e g t 30 s target.params (map Lasting args) b.core params b.holds; moves = b.moves; steps = b.steps; there = b.there })
      (performs_more words sizes (Begins sizes l e g (t + 30) s (bound target.params (map Lasting args)) code) (1 + length args) (omega (arith, n))
      (jump_performs words sizes l e g (t + 30) s [] (record c { env = ws; stamps = stamps }) code target (map operand.Var (params_from (t + 2) (length args))) (map Lasting args) (raised ws stamps)
      (operands_have words sizes l e g t s f args c h ws stamps (t + 2) args (λ i v at. o.operands i v at (slice_get_within args i v at)) h.known (omega (arith, few)))
      there (omega (arith, count, map_length args)) (higher_parameters t 30 target.params params)))

  behind_loads : Performs words sizes Q 1 (2 * (length args - 5) + (1 + length args)) (load_operands t 0 (length args - 5) (jump (g.begins code) (map operand.Var (params_from (t + 2) (length args))))) c
  behind_loads = elim (cases_lt (length args) 5) [
    | inl less ↦
        let none : length args - 5 ≡ 0 = omega (arith, less) in
        subst (λ k. Performs words sizes Q 1 (2 * k + (1 + length args)) (load_operands t 0 k (jump (g.begins code) (map operand.Var (params_from (t + 2) (length args))))) c) (sym none)
        (performs_more words sizes Q (2 * 0 + (1 + length args)) (omega arith) (jumped c.env c.stamps (record { held = h.held; stamped = h.stamped; operands = λ i v at lt. h.operands i v at (omega (arith, lt, less)) })))
    | inr more ↦
        let all : 5 + (0 + (length args - 5)) ≡ length args = omega (arith, more) in
        loads_perform words sizes l e g t s f args c h Q (length args - 5) 0 (1 + length args) c.env c.stamps (jump (g.begins code) (map operand.Var (params_from (t + 2) (length args)))) (omega (arith, all)) (record { held = h.held; stamped = h.stamped; operands = h.operands })
        (λ ws stamps o. jumped ws stamps (subst (λ y. Loaded words sizes l e g t s f args c h y ws stamps) all o))
  ]

  pub whole_entry : Performs words sizes Q 1 (4 + 3 * length args) (method_code t (length args) (g.begins code)) c
  whole_entry =
      performs_more words sizes Q (4 + 3 * length args) (omega arith)
      (ask_performs_true words sizes Q (Number (length args)) (Number (length args)) h.count refl (ap Some (eq-eqb (length args) (length args) refl)) behind_loads)

pub method_performs : (words : Words) (sizes : Sizes) (l : Layout) (e : Escapes) (g : Ways) (t : ℕ) (s : State) (f : Value) (args : List Val) (c : Core) (code : ℕ) (target : WordBlock) → HoldsCall sizes l e g t s f args c → slice_get words.blocks.items (g.begins code) ≡ Some target → length target.params ≡ length args → AreParameters t target.params → Performs words sizes (Begins sizes l e g t s (bound target.params (map Lasting args)) code) 1 (4 + 3 * length args) (method_code t (length args) (g.begins code)) c
method_performs words sizes l e g t s f args c code target h there count params = whole_entry words sizes l e g t s f args c h code target there count params

pub method_fails : (words : Words) (sizes : Sizes) (l : Layout) (e : Escapes) (g : Ways) (t : ℕ) (s : State) (f : Value) (args : List Val) (c : Core) (count block : ℕ) → HoldsCall sizes l e g t s f args c → (length args ≡ count → ⊥) → Performs words sizes (Fails sizes l e s WrongCount) 1 5 (method_code t count block) c
method_fails words sizes l e g t s f args c count block h differs =
    ask_performs_false words sizes (Fails sizes l e s WrongCount) (Number (length args)) (Number count) h.count refl (ap Some (ne_eqb (length args) count differs))
    (ends words sizes (Fails sizes l e s WrongCount) 2 (fault 2) c (Faulted WrongCount) (service_ends words sizes c 3 (word 2) 2 (Faulted WrongCount) never refl refl)
    (λ block place moves steps. record { core = c; data_held = h.holds.data_held; block = block; place = place; moves = moves; steps = steps; there = refl }))
