-- A call is made: of a closure, of an object, which passes it on, and of what is no procedure.
use Rattle.std.proofs.Common.{◌≡◌, ℕ, ◌+◌, ◌-◌, ◌*◌, ◌==◌, ◌⊎◌, inl, inr, Bool, true, false, if◌then◌else◌, List, [], ◌∷◌, length, map, is_some, Option, Some, slice_get, refl, ap, subst, arith}
use Rattle.program_runs.specs.Runs.{Faulted}
use Rattle.t_base.specs.declared.faults.Fault.TheVariants.{NotProcedure, WrongCount}
use Rattle.t_base.specs.declared.builtins.Builtin.{Builtin}
use Rattle.t_prim.specs.Values.{Val, ClosureV, ObjectV, BuiltinV}
use Rattle.t_prim.specs.Kinds.{is_procedure}
use Rattle.word_ir.specs.Stamps.{Stamped}
use Rattle.frame_ir.specs.declared.forms.Block.{Block}
use Rattle.frame_ir.specs.Values.{Value, Lasting, Closure, Object}
use Rattle.frame_ir.specs.States.{State, Thing, Calling, AClosure, thing_words, going, faulted, counted}
use Rattle.frame_ir.specs.Arguments.{bound}
use Rattle.frame_ir.specs.Calls.{begun, entered, called}
use Rattle.word_trees.specs.Cores.{Core}
use Rattle.frame_words.specs.Contents.{Escapes}
use Rattle.word_trees.specs.Leads.{Leads}
use Rattle.word_trees.proofs.Performing.{leads_more}
use Rattle.frame_words.specs.Layouts.{ClosureOf}
use Rattle.frame_words.specs.ValueWords.{same_thing, heap_place}
use Rattle.frame_words.specs.Origins.{OnHeap, InStatics}
use Rattle.frame_words.proofs.Reading.{holds_of, fixed_is}
use Rattle.frame_words.proofs.Sizes.{thing_sound}
use Rattle.frame_words.proofs.Values.{either}
use Rattle.frame_stacks.specs.Stacks.{IsLasting}
use Rattle.frame_reads.specs.Laws.{Fails}
use Rattle.frame_calls.specs.Codes.{call_params, entry_code}
use Rattle.frame_calls.specs.Calls.{HoldsCall, Calls}
use Rattle.frame_calls.proofs.Applying.{closure_applied}
use Rattle.frame_objects.specs.Laws.{object_code}
use Rattle.frame_objects.proofs.Objects.{object_passes}
use Rattle.frame_dispatch.specs.Codes.{others_code, apply_block}
use Rattle.frame_dispatch.proofs.Headers.{not_procedure_fails}
use Rattle.frame_dispatch.proofs.Then.{leads_then, any_leads}
use Rattle.word_selection.specs.Selections.{IsEntry, IsClosureCode}
use Rattle.selection_steps.specs.Settings.{Setting, choice_of, layout_of, IsSound}
use Rattle.selection_steps.specs.Related.{ways_of, CallsAt, IsCalling, IsNew, Keeps}
use Rattle.selection_steps.specs.Led.{saved, caught, Comes, Led}
use Rattle.selection_steps.proofs.Leading.{lookup}
use Rattle.selection_steps.proofs.Ending.{ends_by}
use Rattle.selection_runs.proofs.Counted.{calls_counted}
use Rattle.selection_runs.proofs.Entered.{leads_from, some_parameter, entry_comes}

-- what holds of all that was made holds of what is found there
pub made_new : (m : Setting) (s : State) → Keeps m s → (x : Thing) (p : ℕ) → heap_place s x ≡ Some p → IsNew m x
made_new m s keeps x p is = holds_of same_thing (thing_words s) (IsNew m) s.made x p thing_sound keeps.news is

module _ (m : Setting) (s : State) (args : List Val) (x : Stamped) (keeps : Keeps m s) where
  -- ---- closures

  code_by : (e : Escapes) (t : ℕ) (born : ℕ → ℕ) (c : Core) (f : Value) (h : HoldsCall m.sizes (layout_of m) e (ways_of m born) t s f args c) (i n : ℕ) (k : Closure) → slice_get s.closures i ≡ Some k
      → OnHeap s 2 (AClosure i) n ⊎ InStatics (layout_of m) 2 (ClosureOf i) n → IsClosureCode m.p k.code
  code_by e t born c f h i n k there (inl o) = keeps.codes i k there (made_new m s keeps (AClosure i) o.place o.found)
  code_by e t born c f h i n k there (inr o) =
      let fixed : slice_get s.closures i ≡ Some (record { code = i; captured = [] }) = fixed_is m.sizes (layout_of m) e s c.storage c.next c.output h.holds.data_held (ClosureOf i) o.place o.found in
      let same : record { code = i; captured = [] } ≡ k = cc in
      subst (λ (z : Closure). IsClosureCode m.p z.code) same (m.selected.named.codes i (ap is_some o.found))

  abbrev begun_to : Value → Block → State
  begun_to f b = if length b.params == length (f ∷ map Lasting args) then begun b (bound b.params (f ∷ map Lasting args)) (counted 1 s) else faulted WrongCount (counted 1 s)

  known_code : (i t target : ℕ) (c : Closure) → slice_get s.closures i ≡ Some c → CallsAt m s (Lasting (ClosureV i)) args t target x → IsClosureCode m.p c.code
  known_code i t target c there o =
      let h : HoldsCall m.sizes (layout_of m) o.escapes (ways_of m o.born) t s (Lasting (ClosureV i)) args o.calls.core = o.calls.holds in
      let w : IsLasting (layout_of m) s (Lasting (ClosureV i)) h.word = h.stands in
      code_by o.escapes t o.born o.calls.core (Lasting (ClosureV i)) h i w.number c there (either (layout_of m) s 2 (AClosure i) (ClosureOf i) w.number w.known)

  from_apply : (i : ℕ) (c : Closure) → slice_get s.closures i ≡ Some c → (b : Block) → slice_get m.p.blocks.items c.code ≡ Some b → CallsAt m s (Lasting (ClosureV i)) args m.selected.blocks.apply.t (choice_of m).apply x
      → Leads m.words m.sizes (Comes m s (begun_to (Lasting (ClosureV i)) b)) 1 (19 + (5 + 3 * length args)) x
  from_apply i c there b found o =
      let code : IsClosureCode m.p c.code = known_code i m.selected.blocks.apply.t (choice_of m).apply c there o in
      let entry : IsEntry (choice_of m) m.words ((layout_of m).closure_entry c.code) call_params (λ t. entry_code t (length b.params - 1) ((choice_of m).begins c.code)) = m.selected.blocks.closures c.code b code found in
      leads_then m.words m.sizes (Calls m.sizes (layout_of m) o.escapes (ways_of m o.born) entry.t s (Lasting (ClosureV i)) args ((layout_of m).closure_entry c.code)) (Comes m s (begun_to (Lasting (ClosureV i)) b)) 1 19 (5 + 3 * length args) x
      (leads_from m (Calls m.sizes (layout_of m) o.escapes (ways_of m o.born) entry.t s (Lasting (ClosureV i)) args ((layout_of m).closure_entry c.code)) (Calls m.sizes (layout_of m) o.escapes (ways_of m o.born) entry.t s (Lasting (ClosureV i)) args ((layout_of m).closure_entry c.code)) 19
      (apply_block m.selected.blocks.apply.t (choice_of m).apply (choice_of m).look (choice_of m).kill) o.calls.core (choice_of m).apply o.calls.moves o.calls.steps x m.selected.blocks.apply.spelled o.calls.there
      (closure_applied m.words m.sizes (layout_of m) o.escapes (ways_of m o.born) m.selected.blocks.apply.t entry.t s i c args o.calls.core entry.target (object_code m.selected.blocks.apply.t (choice_of m).apply (others_code m.selected.blocks.apply.t (choice_of m).look (choice_of m).kill)) o.calls.holds there entry.there entry.are)
      (λ z q. q))
      (λ y q. any_leads m.words m.sizes (Comes m s (begun_to (Lasting (ClosureV i)) b)) (Comes m s (begun_to (Lasting (ClosureV i)) b)) 1 (5 + 3 * length args) y
      (entry_comes m s keeps o.escapes o.born (Lasting (ClosureV i)) args c.code b found (some_parameter m c.code b code found) ((layout_of m).closure_entry c.code) entry y q))

  -- at the entry of the closure
  from_entry : (i : ℕ) (c : Closure) → slice_get s.closures i ≡ Some c → (b : Block) → slice_get m.p.blocks.items c.code ≡ Some b
      → (entry : IsEntry (choice_of m) m.words ((layout_of m).closure_entry c.code) call_params (λ t. entry_code t (length b.params - 1) ((choice_of m).begins c.code))) → CallsAt m s (Lasting (ClosureV i)) args entry.t ((layout_of m).closure_entry c.code) x
      → Leads m.words m.sizes (Comes m s (begun_to (Lasting (ClosureV i)) b)) 1 (5 + 3 * length args) x
  from_entry i c there b found entry o =
      entry_comes m s keeps o.escapes o.born (Lasting (ClosureV i)) args c.code b found (some_parameter m c.code b (known_code i entry.t ((layout_of m).closure_entry c.code) c there o) found) ((layout_of m).closure_entry c.code) entry x o.calls

  same_identity : (i j : ℕ) → Lasting (ClosureV i) ≡ Lasting (ClosureV j) → j ≡ i
  same_identity i j eq = cc

  same_closure : (c k : Closure) (o : Option Closure) → o ≡ Some c → o ≡ Some k → k ≡ c
  same_closure c k o x y = cc

  same_block : (c k : Block) (o : Option Block) → o ≡ Some c → o ≡ Some k → k ≡ c
  same_block c k o x y = cc

  no_builtin : (i : ℕ) (b : Builtin) → Lasting (ClosureV i) ≡ Lasting (BuiltinV b) → ⊥
  no_builtin i b eq = absurd (cc)

  closure_leads : (i : ℕ) (c : Closure) → slice_get s.closures i ≡ Some c → (b : Block) → slice_get m.p.blocks.items c.code ≡ Some b → IsCalling m s (Lasting (ClosureV i)) args x
      → Leads m.words m.sizes (Comes m s (begun_to (Lasting (ClosureV i)) b)) 1 (19 + (5 + 3 * length args)) x
  closure_leads i c there b found (inl o) = from_apply i c there b found o
  closure_leads i c there b found (inr (inl o)) =
      let same : o.i ≡ i = same_identity i o.i o.is in
      let own : slice_get s.closures i ≡ Some o.closure = subst (λ j. slice_get s.closures j ≡ Some o.closure) same o.there in
      let code : o.closure.code ≡ c.code = ap (λ z. z.code) (same_closure c o.closure (slice_get s.closures i) there own) in
      let block : o.block ≡ b = same_block b o.block (slice_get m.p.blocks.items c.code) found (subst (λ k. slice_get m.p.blocks.items k ≡ Some o.block) code o.found) in
      subst (λ d. Leads m.words m.sizes (Comes m s (begun_to (Lasting (ClosureV i)) d)) 1 (19 + (5 + 3 * length args)) x) block
      (leads_more m.words m.sizes (Comes m s (begun_to (Lasting (ClosureV i)) o.block)) 1 (5 + 3 * length args) (19 + (5 + 3 * length args)) x (omega arith)
      (from_entry i o.closure own o.block o.found o.entry o.calls))
  closure_leads i c there b found (inr (inr o)) = absurd (no_builtin i o.b o.is)

  moves_of : (f : Value) (b : Block) → (begun_to f b).moves ≡ s.moves + 1
  moves_of f b = by_test (length b.params == length (f ∷ map Lasting args))
    where
      by_test : (q : Bool) → (if q then begun b (bound b.params (f ∷ map Lasting args)) (counted 1 s) else faulted WrongCount (counted 1 s)).moves ≡ s.moves + 1
      by_test true = refl
      by_test false = refl

  saves_none : (f : Value) (b : Block) → saved (begun_to f b).doing ≡ 0
  saves_none f b = by_test (length b.params == length (f ∷ map Lasting args))
    where
      by_test : (q : Bool) → saved (if q then begun b (bound b.params (f ∷ map Lasting args)) (counted 1 s) else faulted WrongCount (counted 1 s)).doing ≡ 0
      by_test true = refl
      by_test false = refl

  caught_same : (f : Value) (b : Block) → caught (begun_to f b).frames (begun_to f b).live ≡ caught s.frames s.live
  caught_same f b = by_test (length b.params == length (f ∷ map Lasting args))
    where
      by_test : (q : Bool) → caught (if q then begun b (bound b.params (f ∷ map Lasting args)) (counted 1 s) else faulted WrongCount (counted 1 s)).frames (if q then begun b (bound b.params (f ∷ map Lasting args)) (counted 1 s) else faulted WrongCount (counted 1 s)).live ≡ caught s.frames s.live
      by_test true = refl
      by_test false = refl

  pub closure_called : (i : ℕ) → s.doing ≡ Calling (Lasting (ClosureV i)) args → IsCalling m s (Lasting (ClosureV i)) args x → IsSound (called m.p (ClosureV i) args (counted 1 s)) → Led m s x (called m.p (ClosureV i) args (counted 1 s))
  closure_called i doing calling sound =
      lookup (Led m s x) (slice_get s.closures i) (counted 1 s) (λ c. entered m.p c.code (Lasting (ClosureV i) ∷ map Lasting args) (counted 1 s)) sound
      (λ c there sound2.
      lookup (Led m s x) (slice_get m.p.blocks.items c.code) (counted 1 s) (begun_to (Lasting (ClosureV i))) sound2
      (λ b found sound3.
      let paid : saved s.doing ≡ 30 + 30 * length args = ap saved doing in
      let moves = moves_of (Lasting (ClosureV i)) b in
      let none = saves_none (Lasting (ClosureV i)) b in
      let same = caught_same (Lasting (ClosureV i)) b in
      record { cost = 19 + (5 + 3 * length args); leads = closure_leads i c there b found calling; moves = omega (arith, paid, moves, none, same) }))

  -- ---- objects

  not_object_closure : (i j : ℕ) → Lasting (ObjectV i) ≡ Lasting (ClosureV j) → ⊥
  not_object_closure i j eq = absurd (cc)

  not_object_builtin : (i : ℕ) (b : Builtin) → Lasting (ObjectV i) ≡ Lasting (BuiltinV b) → ⊥
  not_object_builtin i b eq = absurd (cc)

  abbrev passed_to : Object → State
  passed_to k = going (Calling (Lasting k.procedure) args) (counted 1 s)

  object_leads : (i : ℕ) (k : Object) → slice_get s.objects i ≡ Some k → IsCalling m s (Lasting (ObjectV i)) args x → Leads m.words m.sizes (Comes m s (passed_to k)) 1 21 x
  object_leads i k there (inl o) =
      leads_from m (Calls m.sizes (layout_of m) o.escapes (ways_of m o.born) m.selected.blocks.apply.t s (Lasting k.procedure) args (choice_of m).apply) (Comes m s (passed_to k)) 21
      (apply_block m.selected.blocks.apply.t (choice_of m).apply (choice_of m).look (choice_of m).kill) o.calls.core (choice_of m).apply o.calls.moves o.calls.steps x m.selected.blocks.apply.spelled o.calls.there
      (object_passes m.words m.sizes (layout_of m) o.escapes (ways_of m o.born) m.selected.blocks.apply.t s i k args o.calls.core (choice_of m).apply m.selected.blocks.apply.target (others_code m.selected.blocks.apply.t (choice_of m).look (choice_of m).kill) o.calls.holds there m.selected.blocks.apply.there m.selected.blocks.apply.are)
      (λ z q. inl (
        keeps,
        inl (record {
          escapes = o.escapes;
          born = o.born;
          calls = calls_counted m.sizes (layout_of m) o.escapes (ways_of m o.born) s (s.moves + 1) (Calling (Lasting k.procedure) args) m.selected.blocks.apply.t (Lasting k.procedure) args (choice_of m).apply z q;
        }),
      ))
  object_leads i k there (inr (inl o)) = absurd (not_object_closure i o.i o.is)
  object_leads i k there (inr (inr o)) = absurd (not_object_builtin i o.b o.is)

  pub object_called : (i : ℕ) → s.doing ≡ Calling (Lasting (ObjectV i)) args → IsCalling m s (Lasting (ObjectV i)) args x → IsSound (called m.p (ObjectV i) args (counted 1 s)) → Led m s x (called m.p (ObjectV i) args (counted 1 s))
  object_called i doing calling sound =
      lookup (Led m s x) (slice_get s.objects i) (counted 1 s) passed_to sound
      (λ k there sound2.
      let paid : saved s.doing ≡ 30 + 30 * length args = ap saved doing in
      record { cost = 21; leads = object_leads i k there calling; moves = omega (arith, paid) })

  -- ---- what is no procedure

  is_closure_none : (v : Val) (i : ℕ) → is_procedure v ≡ false → Lasting v ≡ Lasting (ClosureV i) → ⊥
  is_closure_none v i none eq = absurd (let same : v ≡ ClosureV i = cc in let k : is_procedure (ClosureV i) ≡ false = subst (λ w. is_procedure w ≡ false) same none in cc)

  is_builtin_none : (v : Val) (b : Builtin) → is_procedure v ≡ false → Lasting v ≡ Lasting (BuiltinV b) → ⊥
  is_builtin_none v b none eq = absurd (let same : v ≡ BuiltinV b = cc in let k : is_procedure (BuiltinV b) ≡ false = subst (λ w. is_procedure w ≡ false) same none in cc)

  fails_leads : (v : Val) → is_procedure v ≡ false → IsCalling m s (Lasting v) args x → Leads m.words m.sizes (Comes m s (faulted NotProcedure (counted 1 s))) 1 22 x
  fails_leads v none (inl o) =
      leads_from m (Fails m.sizes (layout_of m) o.escapes s NotProcedure) (Comes m s (faulted NotProcedure (counted 1 s))) 22
      (apply_block m.selected.blocks.apply.t (choice_of m).apply (choice_of m).look (choice_of m).kill) o.calls.core (choice_of m).apply o.calls.moves o.calls.steps x m.selected.blocks.apply.spelled o.calls.there
      (not_procedure_fails m.words m.sizes (layout_of m) o.escapes (ways_of m o.born) m.selected.blocks.apply.t s v args o.calls.core (choice_of m).apply (choice_of m).look (choice_of m).kill o.calls.holds none)
      (λ z q. ends_by m s s o.escapes (Faulted NotProcedure) (s.moves + 1) z keeps (record { core = q.core; data_held = q.data_held; block = q.block; place = q.place; moves = q.moves; steps = q.steps; there = q.there }))
  fails_leads v none (inr (inl o)) = absurd (is_closure_none v o.i none o.is)
  fails_leads v none (inr (inr o)) = absurd (is_builtin_none v o.b none o.is)

  pub none_called : (v : Val) → is_procedure v ≡ false → s.doing ≡ Calling (Lasting v) args → IsCalling m s (Lasting v) args x → Led m s x (faulted NotProcedure (counted 1 s))
  none_called v none doing calling =
      let paid : saved s.doing ≡ 30 + 30 * length args = ap saved doing in
      record { cost = 22; leads = fails_leads v none calling; moves = omega (arith, paid) }
