-- A CATCH is opened and closed.
use Rattle.std.proofs.Common.{◌≡◌, ℕ, ◌+◌, ◌-◌, ◌*◌, ◌/◌, ◌<◌, ◌≤◌, ◌==◌, inl, inr, true, if◌then◌else◌, List, [], ◌∷◌, length, refl, ap, ◌∙◌, subst, arith}
use Rattle.t_base.specs.declared.basics.Var.{Var}
use Rattle.t_prim.specs.Values.{EscapeV}
use Rattle.word_ir.specs.Storage.{HEAP_START}
use Rattle.word_ir.specs.Stamps.{Stamped}
use Rattle.frame_ir.specs.declared.forms.FrameOp.{FrameOp}
use Rattle.frame_ir.specs.declared.forms.FrameOp.TheVariants as Op
use Rattle.frame_ir.specs.declared.forms.FrameEnd.{FrameEnd}
use Rattle.frame_ir.specs.Values.{Lasting, Env, frame_words}
use Rattle.frame_ir.specs.Sizes.{most_frame_words}
use Rattle.frame_ir.specs.States.{State, AnEscape, Running, going, counted, with_live, older_than_youngest}
use Rattle.frame_ir.specs.Operations.{catch_frame}
use Rattle.select_rows.specs.Macros.{var}
use Rattle.word_trees.specs.Cores as cores
use Rattle.frame_words.proofs.Growing.{all_append}
use Rattle.frame_stacks.specs.Stacks.{stack_of}
use Rattle.frame_stacks.specs.Laws.{GoesOn, IsOutOfStack}
use Rattle.frame_stacks.proofs.Raising.{live_below}
use Rattle.frame_escapes.specs.Ended.{kept_escapes}
use Rattle.frame_escapes.proofs.Closing.{catch_closed}
use Rattle.frame_catches.specs.Laws.{opened, OpensOrFull}
use Rattle.frame_catches.proofs.Opening.{catch_opened}
use Rattle.selection_steps.specs.Settings.{Setting, choice_of, layout_of, IsSound}
use Rattle.selection_steps.specs.Related.{ways_of, IsNew, Keeps}
use Rattle.selection_steps.specs.Led.{caught, Comes, NoRoom, Led}
use Rattle.selection_steps.proofs.Leading.{below_more, Spot, IsLed, acted, fit, held, below, spot_led_by, goes_on}
use Rattle.selection_steps.proofs.Caught.{one_if, caught_first, caught_pushed}
use Rattle.selection_steps.proofs.Ending.{no_heap}
use Rattle.selection_steps.proofs.Pushes.{frames_together}
use Rattle.selection_steps.proofs.Youngest.{with_catch_frame}

module _ (m : Setting) (s : State) (ops : List FrameOp) (last : FrameEnd) (env : Env) (x : Stamped) where
  -- ---- the end of a CATCH

  pub catch_close_led : Spot m s Op.CatchClose ops last env x → IsSound (acted m s Op.CatchClose ops last env) → IsLed m s Op.CatchClose ops last env x
  catch_close_led sp sound =
      with_catch_frame (Led m s x) s (λ birth f. going (Running ops last env) (counted 1 (with_live s (older_than_youngest s.live)))) sound
      (λ birth f live found catch_is sound2.
      let none = sp.none in
      let e : caught s.frames s.live ≡ one_if f.catch + caught s.frames (older_than_youngest s.live) = caught_first s.frames s.live birth (older_than_youngest s.live) f live found in
      let n : one_if f.catch ≡ 1 = ap one_if catch_is in
      spot_led_by m s Op.CatchClose ops last env x sp (going (Running ops last env) (counted 1 (with_live s (older_than_youngest s.live))))
      (GoesOn m.words m.sizes (layout_of m) (kept_escapes sp.runs.escapes (older_than_youngest s.live)) (ways_of m sp.runs.born) sp.t (with_live s (older_than_youngest s.live)) env sp.rest) 11
      (catch_closed m.words m.sizes (layout_of m) sp.runs.escapes (ways_of m sp.runs.born) sp.t s env sp.runs.core birth (older_than_youngest s.live) f sp.rest (held m s Op.CatchClose ops last env x sp) live found catch_is)
      (λ y o. goes_on m s Op.CatchClose ops last env x sp (with_live s (older_than_youngest s.live)) (kept_escapes sp.runs.escapes (older_than_youngest s.live)) sp.runs.born env (s.moves + 1) y (below m s Op.CatchClose ops last env x sp) sp.keeps o)
      (omega (arith, e, n, none)))

  -- ---- its start

  module _ (to : Var) (back : ℕ) (sp : Spot m s (Op.CatchOpen to back) ops last env x) where
    abbrev opening : State
    opening = going (Running ops last ((to.0, Lasting (EscapeV (length s.frames))) ∷ env)) (counted 1 (opened s back))

    opened_kept : Keeps m (opened s back)
    opened_kept = record {
      names_are = sp.keeps.names_are;
      all = sp.keeps.all;
      codes = sp.keeps.codes;
      news = all_append (IsNew m) s.made (AnEscape (length s.frames) ∷ []) sp.keeps.news (tt, tt);
      bare = all_append (λ f. f.inner ≡ []) s.frames (catch_frame back ∷ []) sp.keeps.bare (refl, tt);
    }

    taken_more : (n k : ℕ) → n ≡ HEAP_START + 4 * k + 16 → (n - HEAP_START) / 4 ≤ k + 4
    taken_more n k is = omega (arith, is)

    out_of_stack : (y : Stamped) → IsOutOfStack m.sizes s (cores.taking sp.runs.core (var sp.t) 16) (catch_frame back) y → NoRoom m s opening y
    out_of_stack y o =
        let all = frames_together (most_frame_words m.p.shared.size) s.frames s.live sp.small in
        let room = o.room in
        let next = sp.runs.holds.data_held.next_is in
        record {
          stack = true;
          asked = 4 * frame_words (catch_frame back);
          left = o.left;
          end = ap (λ z. z.state.end) o.there;
          lacking = o.lacking;
          enough = omega (arith, all, room);
          output = ap (λ z. z.state.output) o.there ∙ sp.runs.holds.data_held.output_is;
          heap = inr (taken_more y.state.next s.store.heap (ap (λ z. z.state.next) o.there ∙ ap (λ k. k + 16) next));
        }

    opened_comes : (y : Stamped) → OpensOrFull m.words m.sizes (layout_of m) sp.runs.escapes (ways_of m sp.runs.born) sp.t s env sp.runs.core back to sp.rest y → Comes m s opening y
    opened_comes y (inl o) =
        goes_on m s (Op.CatchOpen to back) ops last env x sp (opened s back) _ (λ b. if b == length s.frames then o.step else sp.runs.born b) ((to.0, Lasting (EscapeV (length s.frames))) ∷ env) (s.moves + 1) y
        (below_more (choice_of m).free env to.0 (Lasting (EscapeV (length s.frames))) (fit m s (Op.CatchOpen to back) ops last env x sp).binds.0 (below m s (Op.CatchOpen to back) ops last env x sp)) opened_kept o.goes
    opened_comes y (inr (inl o)) = inr (no_heap m s (opened s back) opening y sp.runs.escapes sp.t sp.runs.core sp.runs.holds.data_held refl o)
    opened_comes y (inr (inr o)) = inr (out_of_stack y o)

    pub catch_open_led : IsLed m s (Op.CatchOpen to back) ops last env x
    catch_open_led =
        let lt : to.0 < (choice_of m).free = (fit m s (Op.CatchOpen to back) ops last env x sp).binds.0 in
        let above = sp.above in
        let none = sp.none in
        let e : caught opening.frames opening.live ≡ 1 + caught s.frames s.live = caught_pushed s.frames (catch_frame back) s.live (live_below m.sizes (layout_of m) (ways_of m sp.runs.born) s (stack_of sp.runs.core) s.live sp.runs.holds.frames.frames) in
        spot_led_by m s (Op.CatchOpen to back) ops last env x sp opening
        (OpensOrFull m.words m.sizes (layout_of m) sp.runs.escapes (ways_of m sp.runs.born) sp.t s env sp.runs.core back to sp.rest) 26
        (catch_opened m.words m.sizes (layout_of m) sp.runs.escapes (ways_of m sp.runs.born) sp.t s env sp.runs.core back to sp.rest (held m s (Op.CatchOpen to back) ops last env x sp)
        (subst (λ y. length y.marks.longs.heap ≡ length y.state.storage.heap) sp.runs.there sp.marks) (omega (arith, lt, above)))
        (λ y o. opened_comes y o)
        (omega (arith, e, none))
