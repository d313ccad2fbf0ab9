-- An escape is called.
use Rattle.std.proofs.Common.{◌≡◌, ℕ, ◌+◌, ◌*◌, inl, inr, Bool, true, false, if◌then◌else◌, List, [], ◌∷◌, length, Some, slice_get, refl, sym, ap, ◌∙◌, subst, arith}
use Rattle.program_runs.specs.Runs.{Faulted}
use Rattle.t_base.specs.declared.builtins.Builtin.{Builtin}
use Rattle.t_base.specs.declared.faults.Fault.TheVariants.{WrongCount, DeadEscape}
use Rattle.t_prim.specs.Values.{Val, ClosureV, BuiltinV, EscapeV}
use Rattle.word_ir.specs.Stamps.{Stamped}
use Rattle.frame_ir.specs.declared.forms.Block.{Block}
use Rattle.frame_ir.specs.Values.{Lasting, Frame}
use Rattle.frame_ir.specs.States.{State, Calling, faulted, counted, is_live, older_than, with_live}
use Rattle.frame_ir.specs.Arguments.{bound}
use Rattle.frame_ir.specs.Calls.{begun, jumped, escape, escaped}
use Rattle.word_trees.specs.Leads.{Leads}
use Rattle.frame_stacks.specs.Laws.{AreParameters, Begins}
use Rattle.frame_stacks.specs.Frames.{is_catch}
use Rattle.frame_reads.specs.Laws.{Fails}
use Rattle.frame_dispatch.specs.Codes.{apply_block}
use Rattle.frame_escapes.specs.Ended.{kept_escapes, ended_catches, catches}
use Rattle.frame_escapes.proofs.Calling.{escape_called, dead_escape_fails, wrong_count_fails}
use Rattle.frame_escapes.proofs.Counting.{catches_counted}
use Rattle.word_selection.specs.Selections.{IsBlockOf}
use Rattle.selection_steps.specs.Settings.{Setting, choice_of, layout_of, IsSound}
use Rattle.selection_steps.specs.Related.{ways_of, CallsAt, IsCalling, Keeps}
use Rattle.selection_steps.specs.Led.{saved, caught, Comes, Led}
use Rattle.selection_steps.proofs.Leading.{lookup}
use Rattle.selection_steps.proofs.Ending.{ends_by}
use Rattle.selection_runs.proofs.Blocks.{IsKnown, block_known}
use Rattle.selection_runs.proofs.Begun.{begun_runs, with_jumped}
use Rattle.selection_runs.proofs.Entered.{leads_from}

-- CATCHes among frames are counted alike
same_catches : (s : State) (births : List ℕ) → catches s births ≡ caught s.frames births
same_catches s [] = refl
same_catches s (b ∷ births) = ap (λ n. (if is_catch s b then 1 else 0) + n) (same_catches s births)

module _ (m : Setting) (s : State) (args : List Val) (x : Stamped) (keeps : Keeps m s) (birth : ℕ) where
  no_closure : (i : ℕ) → Lasting (EscapeV birth) ≡ Lasting (ClosureV i) → ⊥
  no_closure i eq = absurd (cc)

  no_builtin : (b : Builtin) → Lasting (EscapeV birth) ≡ Lasting (BuiltinV b) → ⊥
  no_builtin b eq = absurd (cc)

  from_apply : (vs : List Val) (P : Type 0) → IsCalling m s (Lasting (EscapeV birth)) vs x → (CallsAt m s (Lasting (EscapeV birth)) vs m.selected.blocks.apply.t (choice_of m).apply x → P) → P
  from_apply vs P (inl q) go = go q
  from_apply vs P (inr (inl q)) go = absurd (no_closure q.i q.is)
  from_apply vs P (inr (inr q)) go = absurd (no_builtin q.b q.is)

  count_led : (vs : List Val) → (length vs ≡ 1 → ⊥) → s.doing ≡ Calling (Lasting (EscapeV birth)) vs → IsCalling m s (Lasting (EscapeV birth)) vs x → Led m s x (faulted WrongCount (counted 1 s))
  count_led vs differs doing calling =
      let has : saved s.doing ≡ 30 + 30 * length vs = ap saved doing in
      record {
        cost = 25;
        leads = from_apply vs (Leads m.words m.sizes (Comes m s (faulted WrongCount (counted 1 s))) 1 25 x) calling
            (λ q.
            leads_from m (Fails m.sizes (layout_of m) q.escapes s WrongCount) (Comes m s (faulted WrongCount (counted 1 s))) 25 (apply_block m.selected.blocks.apply.t (choice_of m).apply (choice_of m).look (choice_of m).kill) q.calls.core (choice_of m).apply q.calls.moves q.calls.steps x m.selected.blocks.apply.spelled q.calls.there
            (wrong_count_fails m.words m.sizes (layout_of m) q.escapes (ways_of m q.born) m.selected.blocks.apply.t s birth vs q.calls.core (choice_of m).apply (choice_of m).look (choice_of m).kill q.calls.holds differs)
            (λ z f. ends_by m s s q.escapes (Faulted WrongCount) (s.moves + 1) z keeps (record { core = f.core; data_held = f.data_held; block = f.block; place = f.place; moves = f.moves; steps = f.steps; there = f.there })));
        moves = omega (arith, has);
      }

  module _ (v : Val) (doing : s.doing ≡ Calling (Lasting (EscapeV birth)) (v ∷ [])) (calling : IsCalling m s (Lasting (EscapeV birth)) (v ∷ []) x) where
    has : saved s.doing ≡ 60
    has = ap saved doing

    dead_led : is_live s birth ≡ false → Led m s x (faulted DeadEscape (counted 1 s))
    dead_led dead =
        let n = has in
        record {
          cost = 30;
          leads = from_apply (v ∷ []) (Leads m.words m.sizes (Comes m s (faulted DeadEscape (counted 1 s))) 1 30 x) calling
              (λ q.
              leads_from m (Fails m.sizes (layout_of m) q.escapes s DeadEscape) (Comes m s (faulted DeadEscape (counted 1 s))) 30 (apply_block m.selected.blocks.apply.t (choice_of m).apply (choice_of m).look (choice_of m).kill) q.calls.core (choice_of m).apply q.calls.moves q.calls.steps x m.selected.blocks.apply.spelled q.calls.there
              (dead_escape_fails m.words m.sizes (layout_of m) q.escapes (ways_of m q.born) m.selected.blocks.apply.t s birth v q.calls.core (choice_of m).apply (choice_of m).look (choice_of m).kill q.calls.holds dead)
              (λ z f. ends_by m s s q.escapes (Faulted DeadEscape) (s.moves + 1) z keeps (record { core = f.core; data_held = f.data_held; block = f.block; place = f.place; moves = f.moves; steps = f.steps; there = f.there })));
          moves = omega (arith, n);
        }

    abbrev left : State
    left = with_live s (older_than birth s.live)

    live_led : (f : Frame) (b : Block) → is_live s birth ≡ true → slice_get s.frames birth ≡ Some f → slice_get m.p.blocks.items f.back ≡ Some b → length b.params ≡ 1 → Led m s x (begun b (bound b.params (Lasting v ∷ [])) (with_live (counted 1 s) (older_than birth s.live)))
    live_led f b live found at one =
        let h : IsBlockOf (choice_of m) m.p m.words f.back b = m.selected.blocks.blocks f.back b at in
        let known : IsKnown m b = block_known m f.back b at in
        let n = has in
        let count : ended_catches s birth s.live + catches s (older_than birth s.live) ≡ catches s s.live = catches_counted s birth s.live live in
        let before : catches s s.live ≡ caught s.frames s.live = same_catches s s.live in
        let behind : catches s (older_than birth s.live) ≡ caught s.frames (older_than birth s.live) = same_catches s (older_than birth s.live) in
        record {
          cost = 41 + 14 * ended_catches s birth s.live;
          leads = from_apply (v ∷ []) (Leads m.words m.sizes (Comes m s (begun b (bound b.params (Lasting v ∷ [])) (with_live (counted 1 s) (older_than birth s.live)))) 1 (41 + 14 * ended_catches s birth s.live) x) calling
              (λ q.
              leads_from m (Begins m.sizes (layout_of m) (kept_escapes q.escapes (older_than birth s.live)) (ways_of m q.born) (choice_of m).free left (bound h.target.params (Lasting v ∷ [])) f.back)
              (Comes m s (begun b (bound b.params (Lasting v ∷ [])) (with_live (counted 1 s) (older_than birth s.live)))) (41 + 14 * ended_catches s birth s.live)
              (apply_block m.selected.blocks.apply.t (choice_of m).apply (choice_of m).look (choice_of m).kill) q.calls.core (choice_of m).apply q.calls.moves q.calls.steps x m.selected.blocks.apply.spelled q.calls.there
              (escape_called m.words m.sizes (layout_of m) q.escapes (ways_of m q.born) m.selected.blocks.apply.t m.selected.blocks.kill.t (choice_of m).free s birth v q.calls.core f (choice_of m).apply (choice_of m).look (choice_of m).kill m.selected.blocks.kill.target h.target
              q.calls.holds live found m.selected.blocks.kill.there m.selected.blocks.kill.are m.selected.blocks.kill.spelled h.there (ap length h.params ∙ one) (subst (AreParameters (choice_of m).free) (sym h.params) known.params))
              (λ z o. begun_runs m left (kept_escapes q.escapes (older_than birth s.live)) q.born (choice_of m).free f.back b (Lasting v ∷ []) (s.moves + 1) s z at keeps
              (subst (λ ps. Begins m.sizes (layout_of m) (kept_escapes q.escapes (older_than birth s.live)) (ways_of m q.born) (choice_of m).free left (bound ps (Lasting v ∷ [])) f.back z) h.params o)));
          moves = omega (arith, n, count, before, behind);
        }

    by_live : (b : Bool) → is_live s birth ≡ b → IsSound (if b then escaped m.p birth v (counted 1 s) else faulted DeadEscape (counted 1 s)) → Led m s x (if b then escaped m.p birth v (counted 1 s) else faulted DeadEscape (counted 1 s))
    by_live false is sound = dead_led is
    by_live true is sound =
        lookup (Led m s x) (slice_get s.frames birth) (counted 1 s) (λ f. jumped m.p f.back (Lasting v ∷ []) (with_live (counted 1 s) (older_than birth s.live))) sound
        (λ f found sound2.
        with_jumped m (Led m s x) f.back (Lasting v ∷ []) (with_live (counted 1 s) (older_than birth s.live)) sound2
        (λ b at one. live_led f b is found at one))

  by_args : (vs : List Val) → s.doing ≡ Calling (Lasting (EscapeV birth)) vs → IsCalling m s (Lasting (EscapeV birth)) vs x → IsSound (escape m.p birth vs (counted 1 s)) → Led m s x (escape m.p birth vs (counted 1 s))
  by_args [] doing calling sound = count_led [] (λ eq. absurd (omega (arith, eq))) doing calling
  by_args (v ∷ []) doing calling sound = by_live v doing calling (is_live s birth) refl sound
  by_args (v ∷ w ∷ vs) doing calling sound = count_led (v ∷ w ∷ vs) (λ eq. absurd (omega (arith, eq))) doing calling

  pub escape_led : s.doing ≡ Calling (Lasting (EscapeV birth)) args → IsCalling m s (Lasting (EscapeV birth)) args x → IsSound (escape m.p birth args (counted 1 s)) → Led m s x (escape m.p birth args (counted 1 s))
  escape_led doing calling sound = by_args args doing calling sound
