-- Frames that don't break end by a value or a fault.
use Rattle.std.proofs.Common.{◌≡◌, ℕ, zero, suc, ◌==◌, Bool, true, false, if◌then◌else◌, List, [], ◌∷◌, length, map, Option, Some, None, slice_get, refl, subst, ◌+◌}
use Rattle.std.specs.List.{list_all}
use Rattle.program_runs.specs.Runs.{End, Broken, IsProper}
use Rattle.program_runs.specs.Follows.{after}
use Rattle.t_prim.specs.Kinds.{is_nil}
use Rattle.t_prim.specs.Operands.{Row, Gives, Changes, Faults}
use Rattle.t_prim.specs.Table.{row}
use Rattle.t_prim.specs.Values.{Val, FixV, CharV, NilV, TrueV, SymbolV, StringV, PairV, VectorV, ClosureV, ObjectV, OperationV, BuiltinV, EscapeV}
use Rattle.frame_ir.specs.declared.forms.Place.{Place}
use Rattle.frame_ir.specs.declared.forms.Place.TheVariants as At
use Rattle.frame_ir.specs.declared.forms.FrameOp.{FrameOp}
use Rattle.frame_ir.specs.declared.forms.FrameOp.TheVariants as Op
use Rattle.frame_ir.specs.declared.forms.FrameEnd.{FrameEnd}
use Rattle.frame_ir.specs.declared.forms.FrameEnd.TheVariants as Last
use Rattle.frame_ir.specs.declared.forms.Frames.{Frames}
use Rattle.frame_ir.specs.Values.{Value, Lasting, InFrame, CellAt, Closure, Frame, Env, value_at, closure_in, value_in, has_room, is_lasting}
use Rattle.frame_ir.specs.States.{Doing, end_of, Running, Calling, Looking, Entering, Ended, Stale, Wrong, State, going, wrong, counted, or_wrong, after_row, in_frame, in_youngest, in_pushed, in_catch, is_live, youngest}
use Rattle.frame_ir.specs.Arguments.{value_of, lasting_value, values_of, lasting_values, kept_values, code_of_default, bound}
use Rattle.frame_ir.specs.Groups.{Making, makings, placed, made, is_empty, addressed}
use Rattle.frame_ir.specs.Calls.{begun, shown, jumped, entered, returned, escaped, escape, operated, called, called_at, defaulted, looked}
use Rattle.frame_ir.specs.Operations.{cell_of, with_cell_of, captured_by, if_bound, performed, branched, ended}
use Rattle.frame_ir.specs.Running.{advance, step, start, run, bare_state}
use Rattle.selection_runs.specs.Laws.{NeverBreaks}

abbrev pub IsProperDoing : Doing → Type 0
IsProperDoing (Ended e) = IsProper e
IsProperDoing _ = Unit {0}

proper_of : (d : Doing) → IsProperDoing d → (end_of d ≡ Some Broken → ⊥) → (e : End) → end_of d ≡ Some e → IsProper e
proper_of (Running ops last env) good sound e is = absurd (cc)
proper_of (Calling f args) good sound e is = absurd (cc)
proper_of (Looking o left args) good sound e is = absurd (cc)
proper_of (Entering code vs) good sound e is = absurd (cc)
proper_of (Ended end) good sound e is = let same : end ≡ e = cc in subst IsProper same good
proper_of Stale good sound e is = absurd (sound refl)
proper_of Wrong good sound e is = absurd (sound refl)

abbrev Good : State → Type 0
Good s = IsProperDoing s.doing

good_or : {X : Type 0} (o : Option X) (s : State) (go : X → State) → ((v : X) → Good (go v)) → Good (or_wrong o s go)
good_or None s go h = tt
good_or (Some v) s go h = h v

good_if : (b : Bool) (s u : State) → Good s → Good u → Good (if b then s else u)
good_if true s u h k = h
good_if false s u h k = k

good_row : (r : Row) (s : State) (go : Val → State → State) → ((v : Val) (t : State) → Good (go v t)) → Good (after_row r s go)
good_row (Gives v) s go h = h v s
good_row (Changes t v) s go h = h v _
good_row (Faults f) s go h = tt

good_youngest : (s : State) (go : ℕ → Frame → State) → ((birth : ℕ) (f : Frame) → Good (go birth f)) → Good (in_youngest s go)
good_youngest s go h = good_or (youngest s.live) s _ (λ birth. good_or (slice_get s.frames birth) s (go birth) (h birth))

good_pushed : (s : State) (go : ℕ → Frame → State) → ((birth : ℕ) (f : Frame) → Good (go birth f)) → Good (in_pushed s go)
good_pushed s go h = good_youngest s _ (λ birth f. good_if f.catch (wrong s) (go birth f) tt (h birth f))

good_catch : (s : State) (go : ℕ → Frame → State) → ((birth : ℕ) (f : Frame) → Good (go birth f)) → Good (in_catch s go)
good_catch s go h = good_youngest s _ (λ birth f. good_if f.catch (go birth f) (wrong s) (h birth f) tt)

good_frame : (birth : ℕ) (s : State) (go : Frame → State) → ((f : Frame) → Good (go f)) → Good (in_frame birth s go)
good_frame birth s go h = good_if (is_live s birth) (or_wrong (slice_get s.frames birth) s go) (going Stale s) (good_or (slice_get s.frames birth) s go h) tt

module _ (p : Frames) where
  jumped_good : (k : ℕ) (vs : List Value) (s : State) → Good (jumped p k vs s)
  jumped_good k vs s = good_or (slice_get p.blocks.items k) s _ (λ b. good_if (length b.params == length vs) (begun b (bound b.params vs) s) (wrong s) tt tt)

  entered_good : (k : ℕ) (vs : List Value) (s : State) → Good (entered p k vs s)
  entered_good k vs s = good_or (slice_get p.blocks.items k) s _ (λ b. good_if (length b.params == length vs) (begun b (bound b.params vs) s) _ tt tt)

  shown_good : (k : ℕ) (env : Env) (s : State) → Good (shown p k env s)
  shown_good k env s = good_or (slice_get p.blocks.items k) s _ (λ b. tt)

  returned_good : (v : Val) (s : State) → Good (returned p v s)
  returned_good v s = good_pushed s _ (λ birth f. jumped_good f.back (Lasting v ∷ []) s)

  escape_good : (birth : ℕ) (args : List Val) (s : State) → Good (escape p birth args s)
  escape_good birth [] s = tt
  escape_good birth (v ∷ []) s = good_if (is_live s birth) (escaped p birth v s) _ (good_or (slice_get s.frames birth) s _ (λ f. jumped_good f.back (Lasting v ∷ []) _)) tt
  escape_good birth (v ∷ w ∷ vs) s = tt

  operated_good : (o : ℕ) (args : List Val) (s : State) → Good (operated p o args s)
  operated_good o [] s = tt
  operated_good o (v ∷ vs) s = tt

  called_good : (v : Val) (args : List Val) (s : State) → Good (called p v args s)
  called_good (ClosureV i) args s = good_or (slice_get s.closures i) s _ (λ c. entered_good c.code (Lasting (ClosureV i) ∷ map Lasting args) s)
  called_good (ObjectV i) args s = good_or (slice_get s.objects i) s _ (λ k. tt)
  called_good (OperationV o) args s = operated_good o args s
  called_good (BuiltinV b) args s = good_row (row b args s.store) s (returned p) (λ v t. returned_good v t)
  called_good (EscapeV birth) args s = escape_good birth args s
  called_good (FixV n) args s = tt
  called_good (CharV n) args s = tt
  called_good NilV args s = tt
  called_good TrueV args s = tt
  called_good (SymbolV n) args s = tt
  called_good (StringV n) args s = tt
  called_good (PairV n) args s = tt
  called_good (VectorV n) args s = tt

  called_at_good : (f : Value) (args : List Val) (s : State) → Good (called_at p f args s)
  called_at_good (Lasting v) args s = called_good v args s
  called_at_good (InFrame birth slot) args s = good_frame birth s _ (λ f. good_or (closure_in f.inner slot) s _ (λ c. entered_good c.code (InFrame birth slot ∷ map Lasting args) s))
  called_at_good (CellAt k) args s = tt

  defaulted_good : (d : Option ℕ) (o : ℕ) (args : List Val) (s : State) → Good (defaulted p d o args s)
  defaulted_good None o args s = tt
  defaulted_good (Some code) o args s = tt

  found_good : (b : Bool) (c d : Doing) (s : State) → IsProperDoing c → IsProperDoing d → Good (going (if b then c else d) s)
  found_good true c d s h k = h
  found_good false c d s h k = k

  looked_good : (o : ℕ) (left : List (ℕ × ℕ)) (args : List Val) (s : State) → Good (looked p o left args s)
  looked_good o [] args s = defaulted_good (code_of_default p.shared o) o args s
  looked_good o (k ∷ left) args s = found_good (k.0 == o) (Entering k.1 (map Lasting args)) (Looking o left args) s tt tt

  -- ---- operations

  placed_good : (at : Place) (c : Closure) (s : State) (go : State → State) → ((t : State) → Good (go t)) → Good (placed at c s go)
  placed_good At.Heap c s go h = good_if (list_all is_lasting c.captured) _ (wrong s) (h _) tt
  placed_good (At.Frame slot) c s go h = good_pushed s _ (λ birth f. good_if (has_room f slot (length c.captured)) _ (wrong s) (h _) tt)
  placed_good At.Static c s go h = good_if (is_empty c.captured) _ (wrong s) (h s) tt

  made_good : (ms : List Making) (env : Env) (s : State) (go : State → State) → ((t : State) → Good (go t)) → Good (made ms env s go)
  made_good [] env s go h = h s
  made_good (x ∷ ms) env s go h = good_or (kept_values env x.kept) s _ (λ vs. placed_good x.at _ _ _ (λ t. made_good ms env t go h))

  captured_good : (v : Value) (slot : ℕ) (s : State) (go : Value → State) → ((w : Value) → Good (go w)) → Good (captured_by v slot s go)
  captured_good (Lasting (ClosureV i)) slot s go h = good_or (slice_get s.closures i) s _ (λ c. good_or (slice_get c.captured slot) s go h)
  captured_good (Lasting (ObjectV i)) slot s go h = good_or (slice_get s.objects i) s _ (λ c. good_or (slice_get c.captured slot) s go h)
  captured_good (Lasting (FixV n)) slot s go h = tt
  captured_good (Lasting (CharV n)) slot s go h = tt
  captured_good (Lasting NilV) slot s go h = tt
  captured_good (Lasting TrueV) slot s go h = tt
  captured_good (Lasting (SymbolV n)) slot s go h = tt
  captured_good (Lasting (StringV n)) slot s go h = tt
  captured_good (Lasting (PairV n)) slot s go h = tt
  captured_good (Lasting (VectorV n)) slot s go h = tt
  captured_good (Lasting (OperationV n)) slot s go h = tt
  captured_good (Lasting (BuiltinV n)) slot s go h = tt
  captured_good (Lasting (EscapeV n)) slot s go h = tt
  captured_good (InFrame birth first) slot s go h = good_frame birth s _ (λ f. good_or (closure_in f.inner first) s _ (λ c. good_or (slice_get c.captured slot) s go h))
  captured_good (CellAt k) slot s go h = tt

  bound_good : (held : Option Val) (s : State) (go : Val → State) → ((v : Val) → Good (go v)) → Good (if_bound held s go)
  bound_good None s go h = tt
  bound_good (Some v) s go h = h v

  cell_good : (o : Option Value) (s : State) (go : ℕ → State) → ((k : ℕ) → Good (go k)) → Good (with_cell_of o s go)
  cell_good o s go h = good_or o s _ (λ v. good_or (cell_of v) s go h)

  performed_good : (op : FrameOp) (ops : List FrameOp) (last : FrameEnd) (env : Env) (s : State) → Good (performed p (op ∷ ops) last env s)
  performed_good (Op.Prim to b args) ops last env s = good_or (lasting_values p.shared env args) s _ (λ vs. good_row (row b vs s.store) _ _ (λ v t. tt))
  performed_good (Op.Closure to code kept at) ops last env s = made_good (makings (Op.Closure to code kept at ∷ ops)) (addressed (makings (Op.Closure to code kept at ∷ ops)) env s) s _ (λ t. tt)
  performed_good (Op.ClosureGet to from slot) ops last env s = good_or (value_at env from.0) s _ (λ v. captured_good v slot s _ (λ w. tt))
  performed_good (Op.FrameGet to slot) ops last env s = good_pushed s _ (λ birth f. good_or (value_in f slot) s _ (λ v. tt))
  performed_good (Op.Cell to value) ops last env s = good_or (lasting_value p.shared env value) s _ (λ v. tt)
  performed_good (Op.CellGet to cell) ops last env s = cell_good (value_at env cell.0) s _ (λ k. good_or (slice_get s.cells k) s _ (λ v. tt))
  performed_good (Op.CellSet cell value) ops last env s = cell_good (value_at env cell.0) s _ (λ k. good_or (lasting_value p.shared env value) s _ (λ v. tt))
  performed_good (Op.GlobalGet to global) ops last env s = good_or (slice_get s.globals global) s _ (λ held. bound_good held _ _ (λ v. tt))
  performed_good (Op.GlobalPut global value first) ops last env s =
      good_or (lasting_value p.shared env value) s _ (λ v. good_or (slice_get s.globals global) s _ (λ held. good_if first _ _ tt (bound_good held _ _ (λ old. tt))))
  performed_good (Op.Push kept back) ops last env s = good_or (kept_values env kept) s _ (λ vs. tt)
  performed_good Op.Pop ops last env s = good_pushed s _ (λ birth f. tt)
  performed_good (Op.CatchOpen to back) ops last env s = tt
  performed_good Op.CatchClose ops last env s = good_catch s _ (λ birth f. tt)
  performed_good (Op.Object to template proc kept) ops last env s =
      good_or (lasting_value p.shared env proc) s _ (λ f. good_or (kept_values env kept) s _ (λ vs. good_if (list_all is_lasting vs) _ (wrong s) tt tt))

  -- ---- ends

  branched_good : (v : Value) (first second : ℕ) (env : Env) (s : State) → Good (branched p v first second env s)
  branched_good (Lasting v) first second env s = shown_good (if is_nil v then second else first) env s
  branched_good (InFrame birth slot) first second env s = shown_good first env s
  branched_good (CellAt k) first second env s = tt

  ended_good : (last : FrameEnd) (env : Env) (s : State) → Good (ended p last env s)
  ended_good (Last.Call f args) env s = good_or (value_of p.shared env f) s _ (λ g. good_or (lasting_values p.shared env args) s _ (λ vs. tt))
  ended_good (Last.Jump block args) env s = good_or (values_of p.shared env args) s _ (λ vs. jumped_good block vs (counted (1 + length args) s))
  ended_good (Last.If test first second) env s = good_or (value_of p.shared env test) s _ (λ v. branched_good v first second env (counted 2 s))
  ended_good (Last.Return value) env s = good_or (lasting_value p.shared env value) s _ (λ v. returned_good v (counted 2 s))
  ended_good (Last.Halt value) env s = good_or (lasting_value p.shared env value) s _ (λ v. tt)

  advance_good : (d : Doing) (s : State) → Good s → Good (advance p d s)
  advance_good (Running [] last env) s h = ended_good last env s
  advance_good (Running (op ∷ ops) last env) s h = performed_good op ops last env s
  advance_good (Calling f args) s h = called_at_good f args (counted 1 s)
  advance_good (Looking o left args) s h = looked_good o left args (counted 1 s)
  advance_good (Entering code vs) s h = entered_good code vs (counted 1 s)
  advance_good (Ended e) s h = h
  advance_good Stale s h = h
  advance_good Wrong s h = h

  good_after : (n : ℕ) (s : State) → Good s → Good (after (step p) n s)
  good_after zero s h = h
  good_after (suc n) s h = good_after n (step p s) (advance_good s.doing s h)

  -- every end of a run is proper, but for those that are Stale or Wrong
  pub ends_good : (n : ℕ) → Good (after (step p) n (start p))
  ends_good n = good_after n (start p) (jumped_good p.entry [] (bare_state p))

  pub ends_properly : NeverBreaks (run p) → (n : ℕ) (e : End) → (run p n).end ≡ Some e → IsProper e
  ends_properly sound n e is = proper_of (after (step p) n (start p)).doing (ends_good n) (sound n) e is
