-- What a closure or an object captured is read.
use Rattle.std.proofs.Common.{◌≡◌, ℕ, zero, suc, ◌+◌, ◌<◌, Bool, true, false, if◌then◌else◌, List, [], ◌∷◌, Some, slice_get, refl, subst, arith}
use Rattle.std.specs.List.{AllByRecursion}
use Rattle.t_base.specs.declared.basics.Var.{Var}
use Rattle.t_prim.specs.Values.{FixV, CharV, NilV, TrueV, SymbolV, StringV, PairV, VectorV, ClosureV, ObjectV, OperationV, BuiltinV, EscapeV}
use Rattle.word_ir.specs.Stamps.{Stamped}
use Rattle.frame_ir.specs.declared.forms.FrameOp.{FrameOp}
use Rattle.frame_ir.specs.declared.forms.FrameOp.TheVariants as Op
use Rattle.frame_ir.specs.declared.forms.FrameEnd.{FrameEnd}
use Rattle.frame_ir.specs.Values.{Value, Lasting, InFrame, CellAt, Closure, Object, Frame, Env, value_at, closure_in}
use Rattle.frame_ir.specs.States.{State, Running, Stale, going, counted, or_wrong, in_frame, is_live}
use Rattle.frame_ir.specs.Operations.{captured_by}
use Rattle.frame_stacks.specs.Laws.{GoesOn}
use Rattle.frame_reads.proofs.Records.{closure_read, object_read}
use Rattle.selection_steps.specs.Settings.{Setting, choice_of, layout_of, IsSound}
use Rattle.selection_steps.specs.Related.{ways_of, Keeps}
use Rattle.selection_steps.specs.Led.{Led}
use Rattle.selection_steps.proofs.Leading.{below_more, Spot, IsLed, acted, lookup, fit, held, below, spot_led, goes_on}

pub each_at : {X : Type 0} (P : X → Type 0) (xs : List X) (i : ℕ) (x : X) → AllByRecursion P xs → slice_get xs i ≡ Some x → P x
each_at P [] i x h at = absurd (cc)
each_at P (y ∷ ys) zero x h at = let same : y ≡ x = cc in subst P same h.0
each_at P (y ∷ ys) (suc i) x h at = each_at P ys i x h.1 at

-- ---- no closure stands in a frame

live_by : (b : Bool) (s u : State) → IsSound (if b then u else going Stale s) → IsSound u
live_by true s u sound = sound
live_by false s u sound = absurd (cc)

bare_by : (f : Frame) (slot : ℕ) (s : State) (go : Closure → State) → f.inner ≡ [] → IsSound (or_wrong (closure_in f.inner slot) s go) → ⊥
bare_by f slot s go bare sound =
    let none : IsSound (or_wrong (closure_in [] slot) s go) = subst (λ inner. IsSound (or_wrong (closure_in inner slot) s go)) bare sound in
    absurd (cc)

pub no_closure_in_frame : (m : Setting) (s : State) (birth slot : ℕ) (go : Closure → State) → Keeps m s → IsSound (in_frame birth s (λ f. or_wrong (closure_in f.inner slot) s go)) → ⊥
no_closure_in_frame m s birth slot go keeps sound =
    lookup (λ u. ⊥) (slice_get s.frames birth) s (λ f. or_wrong (closure_in f.inner slot) s go)
    (live_by (is_live s birth) s (or_wrong (slice_get s.frames birth) s (λ f. or_wrong (closure_in f.inner slot) s go)) sound)
    (λ f found sound2. bare_by f slot s go (each_at (λ f. f.inner ≡ []) s.frames birth f keeps.bare found) sound2)

module _ (m : Setting) (s : State) (ops : List FrameOp) (last : FrameEnd) (env : Env) (x : Stamped) (to from : Var) (slot : ℕ) (sp : Spot m s (Op.ClosureGet to from slot) ops last env x) where
  abbrev behind : Value → State
  behind w = going (Running ops last ((to.0, w) ∷ env)) (counted 2 s)

  lower : to.0 < (choice_of m).free
  lower = (fit m s (Op.ClosureGet to from slot) ops last env x sp).binds.0

  closure_led : (i : ℕ) (c : Closure) (w : Value) → value_at env from.0 ≡ Some (Lasting (ClosureV i)) → slice_get s.closures i ≡ Some c → slice_get c.captured slot ≡ Some w → Led m s x (behind w)
  closure_led i c w is there captured =
      let above = sp.above in
      let lt = lower in
      spot_led m s (Op.ClosureGet to from slot) ops last env x sp (behind w) refl
      (GoesOn m.words m.sizes (layout_of m) sp.runs.escapes (ways_of m sp.runs.born) sp.t s ((to.0, w) ∷ env) sp.rest) 2
      (closure_read m.words m.sizes (layout_of m) sp.runs.escapes (ways_of m sp.runs.born) sp.t s env sp.runs.core to from i slot c w sp.rest (held m s (Op.ClosureGet to from slot) ops last env x sp) is there captured (omega (arith, lt, above)))
      (λ y o. goes_on m s (Op.ClosureGet to from slot) ops last env x sp s sp.runs.escapes sp.runs.born ((to.0, w) ∷ env) (s.moves + 2) y (below_more (choice_of m).free env to.0 w lt (below m s (Op.ClosureGet to from slot) ops last env x sp)) sp.keeps o)
      (omega arith)

  object_led : (i : ℕ) (c : Object) (w : Value) → value_at env from.0 ≡ Some (Lasting (ObjectV i)) → slice_get s.objects i ≡ Some c → slice_get c.captured slot ≡ Some w → Led m s x (behind w)
  object_led i c w is there captured =
      let above = sp.above in
      let lt = lower in
      spot_led m s (Op.ClosureGet to from slot) ops last env x sp (behind w) refl
      (GoesOn m.words m.sizes (layout_of m) sp.runs.escapes (ways_of m sp.runs.born) sp.t s ((to.0, w) ∷ env) sp.rest) 2
      (object_read m.words m.sizes (layout_of m) sp.runs.escapes (ways_of m sp.runs.born) sp.t s env sp.runs.core to from i slot c w sp.rest (held m s (Op.ClosureGet to from slot) ops last env x sp) is there captured (omega (arith, lt, above)))
      (λ y o. goes_on m s (Op.ClosureGet to from slot) ops last env x sp s sp.runs.escapes sp.runs.born ((to.0, w) ∷ env) (s.moves + 2) y (below_more (choice_of m).free env to.0 w lt (below m s (Op.ClosureGet to from slot) ops last env x sp)) sp.keeps o)
      (omega arith)

  captured_led : (v : Value) → value_at env from.0 ≡ Some v → IsSound (captured_by v slot s behind) → Led m s x (captured_by v slot s behind)
  captured_led (Lasting (ClosureV i)) is sound =
      lookup (Led m s x) (slice_get s.closures i) s (λ c. or_wrong (slice_get c.captured slot) s behind) sound
      (λ c there sound2. lookup (Led m s x) (slice_get c.captured slot) s behind sound2 (λ w captured sound3. closure_led i c w is there captured))
  captured_led (Lasting (ObjectV i)) is sound =
      lookup (Led m s x) (slice_get s.objects i) s (λ c. or_wrong (slice_get c.captured slot) s behind) sound
      (λ c there sound2. lookup (Led m s x) (slice_get c.captured slot) s behind sound2 (λ w captured sound3. object_led i c w is there captured))
  captured_led (Lasting (FixV n)) is sound = absurd (cc)
  captured_led (Lasting (CharV n)) is sound = absurd (cc)
  captured_led (Lasting NilV) is sound = absurd (cc)
  captured_led (Lasting TrueV) is sound = absurd (cc)
  captured_led (Lasting (SymbolV n)) is sound = absurd (cc)
  captured_led (Lasting (StringV n)) is sound = absurd (cc)
  captured_led (Lasting (PairV n)) is sound = absurd (cc)
  captured_led (Lasting (VectorV n)) is sound = absurd (cc)
  captured_led (Lasting (OperationV n)) is sound = absurd (cc)
  captured_led (Lasting (BuiltinV n)) is sound = absurd (cc)
  captured_led (Lasting (EscapeV n)) is sound = absurd (cc)
  captured_led (InFrame birth first) is sound = absurd (no_closure_in_frame m s birth first (λ c. or_wrong (slice_get c.captured slot) s behind) sp.keeps sound)
  captured_led (CellAt k) is sound = absurd (cc)

  pub closure_get_led : IsSound (acted m s (Op.ClosureGet to from slot) ops last env) → IsLed m s (Op.ClosureGet to from slot) ops last env x
  closure_get_led sound = lookup (Led m s x) (value_at env from.0) s (λ v. captured_by v slot s behind) sound (λ v is sound2. captured_led v is sound2)
