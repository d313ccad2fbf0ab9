-- Operations that read: a slot of the youngest frame, what a closure or an object captured, a cell; and a frame that is popped.
use Rattle.std.proofs.Common.{◌≡◌, ℕ, ◌+◌, ◌<◌, if◌then◌else◌, List, ◌∷◌, refl, ap, arith}
use Rattle.t_base.specs.declared.basics.Var.{Var}
use Rattle.word_ir.specs.Stamps.{Stamped}
use Rattle.frame_ir.specs.declared.forms.FrameOp.{FrameOp}
use Rattle.frame_ir.specs.declared.forms.FrameOp.TheVariants as Op
use Rattle.frame_ir.specs.declared.forms.FrameEnd.{FrameEnd}
use Rattle.frame_ir.specs.Values.{Env, value_in}
use Rattle.frame_ir.specs.States.{State, Running, going, counted, or_wrong, with_live, older_than_youngest}
use Rattle.frame_stacks.specs.Laws.{GoesOn}
use Rattle.frame_stacks.proofs.Gets.{frame_get_performs}
use Rattle.frame_stacks.proofs.Pops.{pop_performs}
use Rattle.selection_steps.specs.Settings.{Setting, choice_of, layout_of, IsSound}
use Rattle.selection_steps.specs.Related.{ways_of}
use Rattle.selection_steps.specs.Led.{caught, Led}
use Rattle.selection_steps.proofs.Caught.{one_if, caught_first}
use Rattle.selection_steps.proofs.Leading.{below_more, Spot, IsLed, acted, lookup, fit, held, below, spot_led, goes_on}
use Rattle.selection_steps.proofs.Youngest.{with_pushed}

module _ (m : Setting) (s : State) (ops : List FrameOp) (last : FrameEnd) (env : Env) (x : Stamped) where
  pub frame_get_led : (to : Var) (slot : ℕ) → Spot m s (Op.FrameGet to slot) ops last env x → IsSound (acted m s (Op.FrameGet to slot) ops last env) → IsLed m s (Op.FrameGet to slot) ops last env x
  frame_get_led to slot sp sound =
      with_pushed (Led m s x) s (λ birth f. or_wrong (value_in f slot) s (λ v. going (Running ops last ((to.0, v) ∷ env)) (counted 1 s))) sound
      (λ birth f live found plain sound2.
      lookup (Led m s x) (value_in f slot) s (λ v. going (Running ops last ((to.0, v) ∷ env)) (counted 1 s)) sound2
      (λ v is sound3.
      let lt : to.0 < (choice_of m).free = (fit m s (Op.FrameGet to slot) ops last env x sp).binds.0 in
      let above = sp.above in
      spot_led m s (Op.FrameGet to slot) ops last env x sp (going (Running ops last ((to.0, v) ∷ env)) (counted 1 s)) refl
      (GoesOn m.words m.sizes (layout_of m) sp.runs.escapes (ways_of m sp.runs.born) sp.t s ((to.0, v) ∷ env) sp.rest) 2
      (frame_get_performs m.words m.sizes (layout_of m) sp.runs.escapes (ways_of m sp.runs.born) sp.t s env sp.runs.core to slot birth (older_than_youngest s.live) f v sp.rest (held m s (Op.FrameGet to slot) ops last env x sp) live found is (omega (arith, lt, above)))
      (λ y o. goes_on m s (Op.FrameGet to slot) ops last env x sp s sp.runs.escapes sp.runs.born ((to.0, v) ∷ env) (s.moves + 1) y (below_more (choice_of m).free env to.0 v lt (below m s (Op.FrameGet to slot) ops last env x sp)) sp.keeps o)
      (omega arith)))

  pub pop_led : Spot m s Op.Pop ops last env x → IsSound (acted m s Op.Pop ops last env) → IsLed m s Op.Pop ops last env x
  pop_led sp sound =
      with_pushed (Led m s x) s (λ birth f. going (Running ops last env) (counted 1 (with_live s (older_than_youngest s.live)))) sound
      (λ birth f live found plain sound2.
      spot_led m s Op.Pop ops last env x sp (going (Running ops last env) (counted 1 (with_live s (older_than_youngest s.live)))) (let e : caught s.frames s.live ≡ (if f.catch then 1 else 0) + caught s.frames (older_than_youngest s.live) = caught_first s.frames s.live birth (older_than_youngest s.live) f live found in let n : (if f.catch then 1 else 0) + caught s.frames (older_than_youngest s.live) ≡ 0 + caught s.frames (older_than_youngest s.live) = ap (λ b. one_if b + caught s.frames (older_than_youngest s.live)) plain in omega (arith, e, n))
      (GoesOn m.words m.sizes (layout_of m) sp.runs.escapes (ways_of m sp.runs.born) sp.t (with_live s (older_than_youngest s.live)) env sp.rest) 4
      (pop_performs m.words m.sizes (layout_of m) sp.runs.escapes (ways_of m sp.runs.born) sp.t s env sp.runs.core birth (older_than_youngest s.live) f sp.rest (held m s Op.Pop ops last env x sp) live found plain)
      (λ y o. goes_on m s Op.Pop ops last env x sp (with_live s (older_than_youngest s.live)) sp.runs.escapes sp.runs.born env (s.moves + 1) y (below m s Op.Pop ops last env x sp) sp.keeps o)
      (omega arith))
