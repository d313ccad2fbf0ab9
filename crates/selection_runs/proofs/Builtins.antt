-- A builtin is called.
use Rattle.std.proofs.Common.{◌≡◌, ℕ, ◌+◌, ◌*◌, ◌≤◌, inl, inr, List, [], ◌∷◌, length, is_some, Some, slice_get, refl, sym, ap, ◌∙◌, subst, arith}
use Rattle.program_runs.specs.Runs.{Faulted}
use Rattle.t_base.specs.declared.builtins.Builtin.{Builtin}
use Rattle.t_base.specs.declared.faults.Fault.{Fault}
use Rattle.t_prim.specs.Values.{Val, ClosureV, BuiltinV, Store}
use Rattle.t_prim.specs.Operands.{Row, Gives, Changes, Faults}
use Rattle.t_prim.specs.Table.{row}
use Rattle.t_prim.proofs.RowLaws.{RowGrows, row_grows}
use Rattle.word_ir.specs.Stamps.{Stamped}
use Rattle.frame_ir.specs.declared.forms.Block.{Block}
use Rattle.frame_ir.specs.Values.{Lasting, Frame}
use Rattle.frame_ir.specs.States.{State, Calling, faulted, counted, after_row, with_store, older_than_youngest}
use Rattle.frame_ir.specs.Arguments.{bound}
use Rattle.frame_ir.specs.Calls.{begun, jumped, returned, called}
use Rattle.word_trees.specs.Leads.{Leads}
use Rattle.word_trees.proofs.Performing.{leads_more}
use Rattle.select_rows.specs.Codes.{code_of}
use Rattle.frame_words.specs.Layouts.{BuiltinOf}
use Rattle.frame_words.specs.Contents.{Escapes}
use Rattle.frame_words.specs.Origins.{InStatics}
use Rattle.frame_words.proofs.Values.{in_statics}
use Rattle.frame_stacks.specs.Stacks.{IsLasting}
use Rattle.frame_stacks.specs.Laws.{AreParameters, Begins}
use Rattle.frame_calls.specs.Codes.{call_params}
use Rattle.frame_calls.specs.Calls.{HoldsCall, Calls}
use Rattle.frame_builtins.specs.Laws.{BuiltinComes}
use Rattle.frame_builtins.proofs.Entries.{builtin_called, fault_ends}
use Rattle.frame_dispatch.specs.Codes.{builtin_code, apply_block}
use Rattle.frame_dispatch.proofs.Headers.{builtin_applied}
use Rattle.frame_dispatch.proofs.Then.{leads_then, any_leads}
use Rattle.prim_holds.specs.Operands.{cost_of}
use Rattle.prim_holds.specs.Laws.{IsFaulted}
use Rattle.word_selection.specs.Selections.{IsBlockOf, IsEntry}
use Rattle.selection_steps.specs.Settings.{Setting, choice_of, layout_of, IsSound}
use Rattle.selection_steps.specs.Related.{ways_of, CallsAt, IsCalling, Keeps}
use Rattle.selection_steps.specs.Led.{saved, caught, paid, Comes, Led}
use Rattle.selection_steps.proofs.Costs.{row_cost}
use Rattle.selection_steps.proofs.Ending.{ends_by, no_room}
use Rattle.selection_steps.proofs.Keeping.{store_kept}
use Rattle.selection_steps.proofs.Youngest.{with_pushed}
use Rattle.selection_runs.proofs.Blocks.{IsKnown, block_known}
use Rattle.selection_runs.proofs.Begun.{begun_runs, with_jumped, parameters_from}
use Rattle.selection_runs.proofs.Entered.{leads_from}

module _ (m : Setting) (s : State) (args : List Val) (x : Stamped) (keeps : Keeps m s) (b : Builtin) where
  abbrev IsBuiltinEntry : Type 0
  IsBuiltinEntry = IsEntry (choice_of m) m.words ((layout_of m).builtin_entry b) call_params (λ t. builtin_code t b)

  abbrev AtEntry : Escapes → (ℕ → ℕ) → ℕ → Stamped → Type 0
  AtEntry e born t y = Calls m.sizes (layout_of m) e (ways_of m born) t s (Lasting (BuiltinV b)) args ((layout_of m).builtin_entry b) y

  -- ---- to the entry

  no_closure : (i : ℕ) → Lasting (BuiltinV b) ≡ Lasting (ClosureV i) → ⊥
  no_closure i eq = absurd (cc)

  same_builtin : (c : Builtin) → Lasting (BuiltinV b) ≡ Lasting (BuiltinV c) → c ≡ b
  same_builtin c eq = cc

  to_entry : (u : State) (cost : ℕ) → ((e : Escapes) (born : ℕ → ℕ) (entry : IsBuiltinEntry) (y : Stamped) → AtEntry e born entry.t y → Leads m.words m.sizes (Comes m s u) 1 cost y) → IsCalling m s (Lasting (BuiltinV b)) args x
      → Leads m.words m.sizes (Comes m s u) 1 (25 + cost) x
  to_entry u cost go (inl o) =
      let h : HoldsCall m.sizes (layout_of m) o.escapes (ways_of m o.born) m.selected.blocks.apply.t s (Lasting (BuiltinV b)) args o.calls.core = o.calls.holds in
      let w : IsLasting (layout_of m) s (Lasting (BuiltinV b)) h.word = h.stands in
      let place : InStatics (layout_of m) 2 (BuiltinOf b) w.number = in_statics (layout_of m) 2 (BuiltinOf b) w.number w.known in
      let entry : IsBuiltinEntry = m.selected.blocks.builtins b (ap is_some place.found) in
      leads_then m.words m.sizes (AtEntry o.escapes o.born entry.t) (Comes m s u) 1 25 cost x
      (leads_from m (AtEntry o.escapes o.born entry.t) (AtEntry o.escapes o.born entry.t) 25 (apply_block m.selected.blocks.apply.t (choice_of m).apply (choice_of m).look (choice_of m).kill) o.calls.core (choice_of m).apply o.calls.moves o.calls.steps x m.selected.blocks.apply.spelled o.calls.there
      (builtin_applied m.words m.sizes (layout_of m) o.escapes (ways_of m o.born) m.selected.blocks.apply.t entry.t s b args o.calls.core (choice_of m).apply (choice_of m).look (choice_of m).kill entry.target h entry.there entry.are)
      (λ z q. q))
      (λ y q. any_leads m.words m.sizes (Comes m s u) (Comes m s u) 1 cost y (go o.escapes o.born entry y q))
  to_entry u cost go (inr (inl o)) = absurd (no_closure o.i o.is)
  to_entry u cost go (inr (inr o)) =
      by_builtin o.b (same_builtin o.b o.is) o.entry o.calls
    where
      by_builtin : (c : Builtin) → c ≡ b → (entry : IsEntry (choice_of m) m.words ((layout_of m).builtin_entry c) call_params (λ t. builtin_code t c)) → CallsAt m s (Lasting (BuiltinV b)) args entry.t ((layout_of m).builtin_entry c) x → Leads m.words m.sizes (Comes m s u) 1 (25 + cost) x
      by_builtin c same = subst (λ d. (entry : IsEntry (choice_of m) m.words ((layout_of m).builtin_entry d) call_params (λ t. builtin_code t d)) → CallsAt m s (Lasting (BuiltinV b)) args entry.t ((layout_of m).builtin_entry d) x → Leads m.words m.sizes (Comes m s u) 1 (25 + cost) x) (sym same)
          (λ entry q. leads_more m.words m.sizes (Comes m s u) 1 cost (25 + cost) x (omega arith) (go q.escapes q.born entry x q.calls))

  -- ---- from there

  abbrev entry_cost : ℕ
  entry_cost = 8 + cost_of (code_of b)

  fault_leads : (f : Fault) → row b args s.store ≡ Faults f → (e : Escapes) (born : ℕ → ℕ) (entry : IsBuiltinEntry) (y : Stamped) → AtEntry e born entry.t y → Leads m.words m.sizes (Comes m s (faulted f (counted 1 s))) 1 entry_cost y
  fault_leads f is e born entry y o =
      leads_from m (IsFaulted m.sizes (layout_of m) e s f) (Comes m s (faulted f (counted 1 s))) entry_cost (builtin_code entry.t b) o.core ((layout_of m).builtin_entry b) o.moves o.steps y entry.spelled o.there
      (fault_ends m.words m.sizes (layout_of m) e (ways_of m born) entry.t s (Lasting (BuiltinV b)) b args o.core f o.holds is)
      (λ z q. ends_by m s s e (Faulted f) (s.moves + 1) z keeps (record { core = q.core; data_held = q.data_held; block = q.block; place = q.place; moves = q.moves; steps = q.steps; there = q.there }))

  module _ (birth : ℕ) (f : Frame) (live : s.live ≡ birth ∷ older_than_youngest s.live) (found : slice_get s.frames birth ≡ Some f) (block : Block) (at : slice_get m.p.blocks.items f.back ≡ Some block) (one : length block.params ≡ 1) where
    abbrev back : IsBlockOf (choice_of m) m.p m.words f.back block
    back = m.selected.blocks.blocks f.back block at

    -- what the code of the entry comes to, by the row
    value_leads : (r : Row) → row b args s.store ≡ r → (u : State) → ((e : Escapes) (born : ℕ → ℕ) (t : ℕ) (z : Stamped) → BuiltinComes m.sizes (layout_of m) e (ways_of m born) t s (back).target.params f.back r z → Comes m s u z)
        → (e : Escapes) (born : ℕ → ℕ) (entry : IsBuiltinEntry) (y : Stamped) → AtEntry e born entry.t y → Leads m.words m.sizes (Comes m s u) 1 entry_cost y
    value_leads r is u comes e born entry y o =
        let known : IsKnown m block = block_known m f.back block at in
        leads_from m (BuiltinComes m.sizes (layout_of m) e (ways_of m born) entry.t s (back).target.params f.back (row b args s.store)) (Comes m s u) entry_cost (builtin_code entry.t b) o.core ((layout_of m).builtin_entry b) o.moves o.steps y entry.spelled o.there
        (builtin_called m.words m.sizes (layout_of m) e (ways_of m born) entry.t s (Lasting (BuiltinV b)) b args o.core birth (older_than_youngest s.live) f (back).target o.holds live found (back).there (ap length (back).params ∙ one)
        (subst (AreParameters entry.t) (sym (back).params) (parameters_from (choice_of m).free entry.t block.params entry.above known.params)))
        (λ z q. comes e born entry.t z (subst (λ k. BuiltinComes m.sizes (layout_of m) e (ways_of m born) entry.t s (back).target.params f.back k z) is q))

    given_comes : (v : Val) (e : Escapes) (born : ℕ → ℕ) (t : ℕ) (z : Stamped) → Begins m.sizes (layout_of m) e (ways_of m born) t s (bound (back).target.params (Lasting v ∷ [])) f.back z → Comes m s (begun block (bound block.params (Lasting v ∷ [])) (counted 1 s)) z
    given_comes v e born t z o =
        begun_runs m s e born t f.back block (Lasting v ∷ []) (s.moves + 1) s z at keeps (subst (λ ps. Begins m.sizes (layout_of m) e (ways_of m born) t s (bound ps (Lasting v ∷ [])) f.back z) (back).params o)

    changed_comes : (store : Store) (v : Val) → row b args s.store ≡ Changes store v → (e : Escapes) (born : ℕ → ℕ) (t : ℕ) (z : Stamped)
        → BuiltinComes m.sizes (layout_of m) e (ways_of m born) t s (back).target.params f.back (Changes store v) z → Comes m s (begun block (bound block.params (Lasting v ∷ [])) (with_store (counted 1 s) store)) z
    changed_comes store v is e born t z (inl o) =
        begun_runs m (with_store s store) e born t f.back block (Lasting v ∷ []) (s.moves + 1) s z at (store_kept m s keeps store (subst (λ r. RowGrows s.store r) is (row_grows b args s.store)))
        (subst (λ ps. Begins m.sizes (layout_of m) e (ways_of m born) t (with_store s store) (bound ps (Lasting v ∷ [])) f.back z) (back).params o)
    changed_comes store v is e born t z (inr o) = inr (no_room m s (with_store s store) (begun block (bound block.params (Lasting v ∷ [])) (with_store (counted 1 s) store)) z e refl o)

  -- ---- by the row

  module _ (doing : s.doing ≡ Calling (Lasting (BuiltinV b)) args) (calling : IsCalling m s (Lasting (BuiltinV b)) args x) where
    has_saved : saved s.doing ≡ 30 + 30 * length args
    has_saved = ap saved doing

    within : (u : State) → saved u.doing ≡ 0 → caught u.frames u.live ≡ caught s.frames s.live → u.moves ≡ s.moves + 1 → 25 + entry_cost + paid u + 40 * s.moves ≤ paid s + 40 * u.moves
    within u none same moves = let cost = row_cost b in let n = paid_enough in omega (arith, cost, none, same, moves, n, few_args)
      where
        paid_enough : saved s.doing ≡ 30 + 30 * length args
        paid_enough = has_saved

        few_args : 0 ≤ length args
        few_args = omega arith

    row_called : (r : Row) → row b args s.store ≡ r → IsSound (after_row r (counted 1 s) (returned m.p)) → Led m s x (after_row r (counted 1 s) (returned m.p))
    row_called (Faults f) is sound =
        record { cost = 25 + entry_cost; leads = to_entry (faulted f (counted 1 s)) entry_cost (fault_leads f is) calling; moves = within (faulted f (counted 1 s)) refl refl refl }
    row_called (Gives v) is sound =
        with_pushed (Led m s x) (counted 1 s) (λ birth f. jumped m.p f.back (Lasting v ∷ []) (counted 1 s)) sound
        (λ birth f live found plain sound2.
        with_jumped m (Led m s x) f.back (Lasting v ∷ []) (counted 1 s) sound2
        (λ block at one.
        record {
          cost = 25 + entry_cost;
          leads = to_entry (begun block (bound block.params (Lasting v ∷ [])) (counted 1 s)) entry_cost
              (value_leads birth f live found block at one (Gives v) is (begun block (bound block.params (Lasting v ∷ [])) (counted 1 s)) (λ e born t z o. given_comes birth f live found block at one v e born t z o)) calling;
          moves = within (begun block (bound block.params (Lasting v ∷ [])) (counted 1 s)) refl refl refl;
        }))
    row_called (Changes store v) is sound =
        with_pushed (Led m s x) (with_store (counted 1 s) store) (λ birth f. jumped m.p f.back (Lasting v ∷ []) (with_store (counted 1 s) store)) sound
        (λ birth f live found plain sound2.
        with_jumped m (Led m s x) f.back (Lasting v ∷ []) (with_store (counted 1 s) store) sound2
        (λ block at one.
        record {
          cost = 25 + entry_cost;
          leads = to_entry (begun block (bound block.params (Lasting v ∷ [])) (with_store (counted 1 s) store)) entry_cost
              (value_leads birth f live found block at one (Changes store v) is (begun block (bound block.params (Lasting v ∷ [])) (with_store (counted 1 s) store)) (λ e born t z o. changed_comes birth f live found block at one store v is e born t z o)) calling;
          moves = within (begun block (bound block.params (Lasting v ∷ [])) (with_store (counted 1 s) store)) refl refl refl;
        }))

    pub builtin_led : IsSound (called m.p (BuiltinV b) args (counted 1 s)) → Led m s x (called m.p (BuiltinV b) args (counted 1 s))
    builtin_led sound = row_called (row b args s.store) refl sound
