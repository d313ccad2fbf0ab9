-- A frame is pushed, or the stack has no room.
use Rattle.std.proofs.Common.{◌≡◌, ℕ, zero, suc, ◌+◌, ◌*◌, ◌<◌, ◌≤◌, ◌⊎◌, ◌==◌, if◌then◌else◌, inl, inr, true, List, [], ◌∷◌, length, map, Option, Some, None, slice_get, refl, ap, ◌∙◌, arith, All}
use Rattle.std.specs.List.{AllByRecursion}
use Rattle.std.specs.Option.{option_map_or}
use Rattle.t_base.specs.declared.basics.Var.{Var}
use Rattle.t_prim.proofs.RowParts.{all_at}
use Rattle.word_ir.specs.declared.operands.Operand.TheVariants as operand
use Rattle.word_ir.specs.Stamps.{Stamped}
use Rattle.frame_ir.specs.declared.forms.Place.TheVariants as At
use Rattle.frame_ir.specs.declared.forms.FrameOp.{FrameOp}
use Rattle.frame_ir.specs.declared.forms.FrameOp.TheVariants as Op
use Rattle.frame_ir.specs.declared.forms.FrameEnd.{FrameEnd}
use Rattle.frame_ir.specs.Values.{Value, Frame, Env, even, record_words, frame_words}
use Rattle.frame_ir.specs.Sizes.{most_frame_words}
use Rattle.frame_ir.specs.States.{State, Running, going, counted, with_frame}
use Rattle.frame_ir.specs.Arguments.{kept_values}
use Rattle.frame_ir.specs.Operations.{slots_behind, slots_of, pushed_frame}
use Rattle.word_trees.specs.Cores.{stack_left}
use Rattle.frame_words.proofs.Growing.{all_append}
use Rattle.frame_stacks.specs.Stacks.{words_of_frames, stack_of}
use Rattle.frame_stacks.proofs.Raising.{live_below}
use Rattle.frame_stacks.specs.Laws.{IsOutOfStack}
use Rattle.frame_stacks.proofs.Pushes.{push_ends}
use Rattle.frame_pushes.specs.Laws.{Pushed}
use Rattle.frame_pushes.proofs.Pushing.{push_holds}
use Rattle.selection_steps.specs.Settings.{Setting, layout_of, IsSound}
use Rattle.selection_steps.specs.Related.{ways_of, Keeps}
use Rattle.selection_steps.specs.Led.{caught, NoRoom, Led}
use Rattle.selection_steps.proofs.Leading.{Spot, IsLed, acted, lookup, fit, held, below, spot_led, goes_on}
use Rattle.selection_steps.proofs.Caught.{caught_pushed}
use Rattle.selection_steps.proofs.Ending.{taken_words}

-- ---- a frame has slots for all that it keeps

record_behind : (above n k : ℕ) (ops : List FrameOp) → even n + record_words k ≤ slots_behind above ops (even n + record_words k) → n ≤ slots_behind above ops (even n + record_words k)
record_behind above n k ops le = omega (arith, le)

slots_more : (above : ℕ) (ops : List FrameOp) (n : ℕ) → n ≤ slots_behind above ops n
slots_more above [] n = omega arith
slots_more zero (Op.Closure to code kept (At.Frame slot) ∷ ops) n = record_behind zero n (length kept) ops (slots_more zero ops (even n + record_words (length kept)))
slots_more (suc above) (Op.Closure to code kept (At.Frame slot) ∷ ops) n = slots_more (suc above) ops n
slots_more zero (Op.Closure to code kept At.Heap ∷ ops) n = slots_more zero ops n
slots_more (suc above) (Op.Closure to code kept At.Heap ∷ ops) n = slots_more (suc above) ops n
slots_more zero (Op.Closure to code kept At.Static ∷ ops) n = slots_more zero ops n
slots_more (suc above) (Op.Closure to code kept At.Static ∷ ops) n = slots_more (suc above) ops n
slots_more zero (Op.Push kept back ∷ ops) n = slots_more 1 ops n
slots_more (suc above) (Op.Push kept back ∷ ops) n = slots_more (suc (suc above)) ops n
slots_more zero (Op.CatchOpen to back ∷ ops) n = slots_more 1 ops n
slots_more (suc above) (Op.CatchOpen to back ∷ ops) n = slots_more (suc (suc above)) ops n
slots_more zero (Op.Pop ∷ ops) n = omega arith
slots_more (suc above) (Op.Pop ∷ ops) n = slots_more above ops n
slots_more zero (Op.CatchClose ∷ ops) n = omega arith
slots_more (suc above) (Op.CatchClose ∷ ops) n = slots_more above ops n
slots_more zero (Op.Prim to b args ∷ ops) n = slots_more zero ops n
slots_more (suc above) (Op.Prim to b args ∷ ops) n = slots_more (suc above) ops n
slots_more zero (Op.ClosureGet to from slot ∷ ops) n = slots_more zero ops n
slots_more (suc above) (Op.ClosureGet to from slot ∷ ops) n = slots_more (suc above) ops n
slots_more zero (Op.FrameGet to slot ∷ ops) n = slots_more zero ops n
slots_more (suc above) (Op.FrameGet to slot ∷ ops) n = slots_more (suc above) ops n
slots_more zero (Op.Cell to value ∷ ops) n = slots_more zero ops n
slots_more (suc above) (Op.Cell to value ∷ ops) n = slots_more (suc above) ops n
slots_more zero (Op.CellGet to cell ∷ ops) n = slots_more zero ops n
slots_more (suc above) (Op.CellGet to cell ∷ ops) n = slots_more (suc above) ops n
slots_more zero (Op.CellSet cell value ∷ ops) n = slots_more zero ops n
slots_more (suc above) (Op.CellSet cell value ∷ ops) n = slots_more (suc above) ops n
slots_more zero (Op.GlobalGet to global ∷ ops) n = slots_more zero ops n
slots_more (suc above) (Op.GlobalGet to global ∷ ops) n = slots_more (suc above) ops n
slots_more zero (Op.GlobalPut global value first ∷ ops) n = slots_more zero ops n
slots_more (suc above) (Op.GlobalPut global value first ∷ ops) n = slots_more (suc above) ops n
slots_more zero (Op.Object to template proc kept ∷ ops) n = slots_more zero ops n
slots_more (suc above) (Op.Object to template proc kept ∷ ops) n = slots_more (suc above) ops n

-- ---- frames of some size

one_frame : (most : ℕ) (frames : List Frame) (birth : ℕ) (o : Option Frame) → slice_get frames birth ≡ o → All (λ f. frame_words f ≤ most) frames → option_map_or frame_words o 0 ≤ most
one_frame most frames birth None is all = omega arith
one_frame most frames birth (Some f) is all = all_at (λ g. frame_words g ≤ most) frames birth f all is

pub frames_together : (most : ℕ) (frames : List Frame) (live : List ℕ) → All (λ f. frame_words f ≤ most) frames → words_of_frames frames live ≤ most * length live
frames_together most frames [] all = omega arith
frames_together most frames (birth ∷ older) all =
    let first = one_frame most frames birth (slice_get frames birth) refl all in
    let rest = frames_together most frames older all in
    omega (arith, first, rest)

module _ (m : Setting) (s : State) (ops : List FrameOp) (last : FrameEnd) (env : Env) (x : Stamped) (kept : List Var) (back : ℕ) (sp : Spot m s (Op.Push kept back) ops last env x) where
  abbrev frame : List Value → Frame
  frame vs = pushed_frame back (slots_of ops (length kept)) vs

  abbrev pushed : List Value → State
  pushed vs = going (Running ops last env) (counted (1 + length kept) (with_frame s (frame vs)))

  pushed_kept : (vs : List Value) → Keeps m (with_frame s (frame vs))
  pushed_kept vs = record { names_are = sp.keeps.names_are; all = sp.keeps.all; codes = sp.keeps.codes; news = sp.keeps.news; bare = all_append (λ f. f.inner ≡ []) s.frames (frame vs ∷ []) sp.keeps.bare (refl, tt) }

  -- the stack has no room for the frame
  out_of_stack : (vs : List Value) (y : Stamped) → IsOutOfStack m.sizes s sp.runs.core (frame vs) y → NoRoom m s (pushed vs) y
  out_of_stack vs y o =
      let most : ℕ = most_frame_words m.p.shared.size in
      let all = frames_together (most_frame_words m.p.shared.size) s.frames s.live sp.small in
      let one : frame_words (frame vs) ≤ most_frame_words m.p.shared.size = (fit m s (Op.Push kept back) ops last env x sp).small in
      let room = o.room in
      let next = sp.runs.holds.data_held.next_is in
      record {
        stack = true;
        asked = 4 * frame_words (frame vs);
        left = o.left;
        end = ap (λ z. z.state.end) o.there;
        lacking = o.lacking;
        enough = omega (arith, all, one, room);
        output = ap (λ z. z.state.output) o.there ∙ sp.runs.holds.data_held.output_is;
        heap = inl (taken_words m y.state.next s.store.heap (ap (λ z. z.state.next) o.there ∙ next));
      }

  all_below : AllByRecursion (λ b. b < length s.frames) s.live
  all_below = live_below m.sizes (layout_of m) (ways_of m sp.runs.born) s (stack_of sp.runs.core) s.live sp.runs.holds.frames.frames

  same_caught : (vs : List Value) → caught (pushed vs).frames (pushed vs).live ≡ caught s.frames s.live
  same_caught vs = caught_pushed s.frames (frame vs) s.live all_below ∙ (let e : 0 + caught s.frames s.live ≡ caught s.frames s.live = omega arith in e)

  with_room : (vs : List Value) → kept_values env kept ≡ Some vs → 4 * frame_words (frame vs) ≤ stack_left sp.runs.core → Led m s x (pushed vs)
  with_room vs have room =
      spot_led m s (Op.Push kept back) ops last env x sp (pushed vs) (same_caught vs)
      (Pushed m.words m.sizes (layout_of m) sp.runs.escapes (ways_of m sp.runs.born) sp.t s env (frame vs) sp.rest) (7 + 3 * length kept)
      (push_holds m.words m.sizes (layout_of m) sp.runs.escapes (ways_of m sp.runs.born) sp.t s env sp.runs.core back (slots_of ops (length kept)) kept vs sp.rest (held m s (Op.Push kept back) ops last env x sp) have (slots_more zero ops (length kept)) room)
      (λ y o. goes_on m s (Op.Push kept back) ops last env x sp (with_frame s (frame vs)) sp.runs.escapes (λ b. if b == length s.frames then o.step else sp.runs.born b) env (s.moves + (1 + length kept)) y (below m s (Op.Push kept back) ops last env x sp) (pushed_kept vs) o.goes)
      (omega arith)

  without_room : (vs : List Value) → stack_left sp.runs.core < 4 * frame_words (frame vs) → Led m s x (pushed vs)
  without_room vs lacking =
      spot_led m s (Op.Push kept back) ops last env x sp (pushed vs) (same_caught vs)
      (IsOutOfStack m.sizes s sp.runs.core (frame vs)) 4
      (push_ends m.words m.sizes (layout_of m) sp.runs.escapes (ways_of m sp.runs.born) sp.t s env sp.runs.core (frame vs) (map operand.Var kept) sp.rest (held m s (Op.Push kept back) ops last env x sp) lacking)
      (λ y o. inr (out_of_stack vs y o))
      (omega arith)

  by_room : (vs : List Value) → kept_values env kept ≡ Some vs → (stack_left sp.runs.core < 4 * frame_words (frame vs)) ⊎ (4 * frame_words (frame vs) ≤ stack_left sp.runs.core) → Led m s x (pushed vs)
  by_room vs have (inl lacking) = without_room vs lacking
  by_room vs have (inr room) = with_room vs have room

  pub push_led : IsSound (acted m s (Op.Push kept back) ops last env) → IsLed m s (Op.Push kept back) ops last env x
  push_led sound =
      lookup (Led m s x) (kept_values env kept) s pushed sound
      (λ vs have sound2. by_room vs have (Rattle.std.proofs.lemmas.Bool.cases_lt (stack_left sp.runs.core) (4 * frame_words (frame vs))))
