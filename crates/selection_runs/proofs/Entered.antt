-- The entry of a code.
use Rattle.std.proofs.Common.{◌≡◌, ℕ, suc, ◌+◌, ◌-◌, ◌*◌, ◌<◌, ◌==◌, inl, inr, Bool, true, false, if◌then◌else◌, List, ◌∷◌, length, map, Option, Some, None, slice_get, refl, sym, ap, ◌∙◌, subst, arith}
use Rattle.std.specs.Prelude.{IsSomeAnd}
use Rattle.std.proofs.lemmas.Bool.{eqb-true, eq-eqb}
use Rattle.std.proofs.lemmas.List.{length-map}
use Rattle.std.proofs.lemmas.List.Elements.{All-contains}
use Rattle.program_runs.specs.Runs.{Faulted}
use Rattle.t_base.specs.declared.faults.Fault.TheVariants.{WrongCount}
use Rattle.t_prim.specs.Values.{Val}
use Rattle.word_ir.specs.Stamps.{Stamped}
use Rattle.frame_ir.specs.declared.forms.Block.{Block}
use Rattle.frame_ir.specs.Values.{Value, Lasting}
use Rattle.frame_ir.specs.States.{State, faulted, counted}
use Rattle.frame_ir.specs.Arguments.{bound}
use Rattle.frame_ir.specs.Calls.{begun}
use Rattle.frame_ir.specs.Parts.{closure_codes}
use Rattle.frame_ir.specs.Whole.{HasParams, IsCodeCount}
use Rattle.word_trees.specs.Trees.{Spells}
use Rattle.word_trees.specs.Cores.{at}
use Rattle.word_trees.specs.Leads.{Leads, Performs}
use Rattle.word_trees.proofs.Performing.{leads_more}
use Rattle.frame_words.specs.Contents.{Escapes}
use Rattle.frame_stacks.specs.Laws.{AreParameters, Begins}
use Rattle.frame_reads.specs.Laws.{Fails}
use Rattle.frame_calls.specs.Codes.{call_params, entry_code}
use Rattle.frame_calls.specs.Calls.{Calls}
use Rattle.frame_calls.proofs.Entering.{entry_performs, entry_fails}
use Rattle.word_selection.specs.Selections.{IsBlockOf, IsEntry, IsClosureCode}
use Rattle.selection_steps.specs.Settings.{Setting, choice_of, layout_of}
use Rattle.selection_steps.specs.Related.{ways_of, Keeps}
use Rattle.selection_steps.specs.Led.{Comes}
use Rattle.selection_steps.proofs.Ending.{ends_by}
use Rattle.selection_runs.proofs.Blocks.{IsKnown, block_known}
use Rattle.selection_runs.proofs.Begun.{begun_runs, parameters_from}

module _ (m : Setting) where
  -- what is performed where a block begins
  pub leads_from : (Q R : Stamped → Type 0) (cost : ℕ) (tree : Rattle.word_trees.specs.Trees.Tree) (c : Rattle.word_trees.specs.Cores.Core) (block moves steps : ℕ) (y : Stamped) → Spells m.words block 0 tree → y ≡ at c block 0 moves steps
      → Performs m.words m.sizes Q 1 cost tree c → ((z : Stamped) → Q z → R z) → Leads m.words m.sizes R 1 cost y
  leads_from Q R cost tree c block moves steps y spelled there performs comes =
      let o : Leads m.words m.sizes Q 1 cost (at c block 0 moves steps) = performs.leads block 0 moves steps spelled in
      subst (Leads m.words m.sizes R 1 cost) (sym there) (record { count = o.count; enough = o.enough; there = comes _ o.there; moves = o.moves })

  -- a code has a parameter for what is called
  some_and : (o : Option Block) (b : Block) → IsSomeAnd o (λ c. IsCodeCount (length c.params)) → o ≡ Some b → 0 < length b.params
  some_and (Some c) b h is = let same : c ≡ b = cc in subst (λ (z : Block). 0 < length z.params) same h.0
  some_and None b h is = absurd (cc)

  pub some_parameter : (k : ℕ) (b : Block) → IsClosureCode m.p k → slice_get m.p.blocks.items k ≡ Some b → 0 < length b.params
  some_parameter k b (inl inside) at = some_and (slice_get m.p.blocks.items k) b (All-contains (HasParams m.p IsCodeCount) (closure_codes m.p) k m.whole.blocks.codes inside) at
  some_parameter k b (inr lt) at = some_and (slice_get m.p.blocks.items k) b (m.whole.blocks.first_codes k lt) at

  module _ (s : State) (keeps : Keeps m s) (e : Escapes) (born : ℕ → ℕ) (f : Value) (args : List Val) (code : ℕ) (b : Block) (is_there : slice_get m.p.blocks.items code ≡ Some b) (some : 0 < length b.params) (target : ℕ)
      (entry : IsEntry (choice_of m) m.words target call_params (λ t. entry_code t (length b.params - 1) ((choice_of m).begins code))) where
    abbrev values : List Value
    values = f ∷ map Lasting args

    abbrev behind : Bool → State
    behind same = if same then begun b (bound b.params values) (counted 1 s) else faulted WrongCount (counted 1 s)

    entry_by : (same : Bool) → (length b.params == length values) ≡ same → (y : Stamped) → Calls m.sizes (layout_of m) e (ways_of m born) entry.t s f args target y → Leads m.words m.sizes (Comes m s (behind same)) 1 (5 + 3 * length args) y
    entry_by true eq y o =
        let h : IsBlockOf (choice_of m) m.p m.words code b = m.selected.blocks.blocks code b is_there in
        let known : IsKnown m b = block_known m code b is_there in
        let same : length b.params ≡ length values = eqb-true (length b.params) (length values) eq in
        let n = length-map args Lasting in
        let many : length b.params ≡ suc (length args) = omega (arith, same, n) in
        let count : length b.params - 1 ≡ length args = omega (arith, many) in
        let spelled : Spells m.words target 0 (entry_code entry.t (length args) ((choice_of m).begins code)) = subst (λ k. Spells m.words target 0 (entry_code entry.t k ((choice_of m).begins code))) count entry.spelled in
        leads_from (Begins m.sizes (layout_of m) e (ways_of m born) entry.t s (bound h.target.params values) code) (Comes m s (begun b (bound b.params values) (counted 1 s))) (5 + 3 * length args)
        (entry_code entry.t (length args) ((choice_of m).begins code)) o.core target o.moves o.steps y spelled o.there
        (entry_performs m.words m.sizes (layout_of m) e (ways_of m born) entry.t s f args o.core code h.target o.holds h.there (ap length h.params ∙ many) (subst (AreParameters entry.t) (sym h.params) (parameters_from (choice_of m).free entry.t b.params entry.above known.params)))
        (λ z q. begun_runs m s e born entry.t code b values (s.moves + 1) s z is_there keeps (subst (λ ps. Begins m.sizes (layout_of m) e (ways_of m born) entry.t s (bound ps values) code z) h.params q))
    entry_by false eq y o =
        let n = length-map args Lasting in
        let differs : length args ≡ length b.params - 1 → ⊥ = λ count. absurd (let same : length b.params ≡ length values = omega (arith, count, n, some) in let yes_ = eq-eqb (length b.params) (length values) same in cc) in
        leads_more m.words m.sizes (Comes m s (faulted WrongCount (counted 1 s))) 1 5 (5 + 3 * length args) y (omega arith)
        (leads_from (Fails m.sizes (layout_of m) e s WrongCount) (Comes m s (faulted WrongCount (counted 1 s))) 5 (entry_code entry.t (length b.params - 1) ((choice_of m).begins code)) o.core target o.moves o.steps y entry.spelled o.there
        (entry_fails m.words m.sizes (layout_of m) e (ways_of m born) entry.t s f args o.core (length b.params - 1) ((choice_of m).begins code) o.holds differs)
        (λ z q. ends_by m s s e (Faulted WrongCount) (s.moves + 1) z keeps (record { core = q.core; data_held = q.data_held; block = q.block; place = q.place; moves = q.moves; steps = q.steps; there = q.there })))

    pub entry_comes : (y : Stamped) → Calls m.sizes (layout_of m) e (ways_of m born) entry.t s f args target y → Leads m.words m.sizes (Comes m s (behind (length b.params == length values))) 1 (5 + 3 * length args) y
    entry_comes y o = entry_by (length b.params == length values) refl y o
