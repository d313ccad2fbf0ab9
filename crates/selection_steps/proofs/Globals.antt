-- A global is read, and gets a value.
use Rattle.std.proofs.Common.{◌≡◌, ℕ, ◌+◌, ◌<◌, Bool, true, false, if◌then◌else◌, List, ◌∷◌, length, Option, Some, None, slice_get, refl, sym, subst, arith}
use Rattle.program_runs.specs.Runs.{Faulted}
use Rattle.t_base.specs.declared.basics.Var.{Var}
use Rattle.t_base.specs.declared.faults.Fault.TheVariants.{Unbound}
use Rattle.cps_ir.specs.declared.args.Arg.{Arg}
use Rattle.t_prim.specs.Values.{Val}
use Rattle.word_ir.specs.Stamps.{Stamped}
use Rattle.frame_ir.specs.declared.forms.FrameOp.{FrameOp}
use Rattle.frame_ir.specs.declared.forms.FrameOp.TheVariants as Op
use Rattle.frame_ir.specs.declared.forms.FrameEnd.{FrameEnd}
use Rattle.frame_ir.specs.Values.{Lasting, Env}
use Rattle.frame_ir.specs.States.{State, Running, going, faulted, counted, or_wrong, with_global_at}
use Rattle.frame_ir.specs.Arguments.{lasting_value}
use Rattle.frame_ir.specs.Operations.{if_bound}
use Rattle.frame_stacks.specs.Laws.{GoesOn}
use Rattle.frame_reads.specs.Laws.{Fails}
use Rattle.frame_reads.proofs.Globals.{global_read, global_fails}
use Rattle.frame_globals.proofs.Globals.{global_is_set, global_is_changed, global_stays}
use Rattle.prim_holds.specs.Operands.{operand_of}
use Rattle.selection_steps.specs.Settings.{Setting, choice_of, layout_of, IsSound}
use Rattle.selection_steps.specs.Related.{ways_of}
use Rattle.selection_steps.specs.Led.{Led}
use Rattle.selection_steps.proofs.Leading.{below_more, Spot, IsLed, acted, lookup, fit, held, below, spot_led, goes_on}
use Rattle.selection_steps.proofs.Ending.{ends_by}
use Rattle.selection_steps.proofs.Cells.{argument_has}

module _ (m : Setting) (s : State) (ops : List FrameOp) (last : FrameEnd) (env : Env) (x : Stamped) where
  module _ (to : Var) (global : ℕ) (sp : Spot m s (Op.GlobalGet to global) ops last env x) where
    abbrev got : Val → State
    got v = going (Running ops last ((to.0, Lasting v) ∷ env)) (counted 1 s)

    got_led : (held_one : Option Val) → slice_get s.globals global ≡ Some held_one → global < (layout_of m).globals → Led m s x (if_bound held_one (counted 1 s) got)
    got_led None there inside =
        spot_led m s (Op.GlobalGet to global) ops last env x sp (faulted Unbound (counted 1 s)) refl
        (Fails m.sizes (layout_of m) sp.runs.escapes s Unbound) 7
        (global_fails m.words m.sizes (layout_of m) sp.runs.escapes (ways_of m sp.runs.born) sp.t s env sp.runs.core to global sp.rest (held m s (Op.GlobalGet to global) ops last env x sp) there inside)
        (λ y o. ends_by m s s sp.runs.escapes (Faulted Unbound) (s.moves + 1) y sp.keeps
        (record { core = o.core; data_held = o.data_held; block = o.block; place = o.place; moves = o.moves; steps = o.steps; there = o.there }))
        (omega arith)
    got_led (Some v) there inside =
        let lt : to.0 < (choice_of m).free = (fit m s (Op.GlobalGet to global) ops last env x sp).binds.0 in
        let above = sp.above in
        spot_led m s (Op.GlobalGet to global) ops last env x sp (got v) refl
        (GoesOn m.words m.sizes (layout_of m) sp.runs.escapes (ways_of m sp.runs.born) sp.t s ((to.0, Lasting v) ∷ env) sp.rest) 5
        (global_read m.words m.sizes (layout_of m) sp.runs.escapes (ways_of m sp.runs.born) sp.t s env sp.runs.core to global v sp.rest (held m s (Op.GlobalGet to global) ops last env x sp) there inside (omega (arith, lt, above)))
        (λ y o. goes_on m s (Op.GlobalGet to global) ops last env x sp s sp.runs.escapes sp.runs.born ((to.0, Lasting v) ∷ env) (s.moves + 1) y (below_more (choice_of m).free env to.0 (Lasting v) lt (below m s (Op.GlobalGet to global) ops last env x sp)) sp.keeps o)
        (omega arith)

    pub global_get_led : IsSound (acted m s (Op.GlobalGet to global) ops last env) → IsLed m s (Op.GlobalGet to global) ops last env x
    global_get_led sound =
        lookup (Led m s x) (slice_get s.globals global) s (λ h. if_bound h (counted 1 s) got) sound
        (λ h there sound2.
        let shaped : global < length m.p.shared.globals.items = (fit m s (Op.GlobalGet to global) ops last env x sp).shaped in
        got_led h there (subst (λ n. global < n) (sym m.selected.statics.globals) shaped))

  module _ (global : ℕ) (value : Arg) where
    abbrev put : Val → State
    put v = going (Running ops last env) (counted 2 (with_global_at s global v))

    inside : (first : Bool) → Spot m s (Op.GlobalPut global value first) ops last env x → global < (layout_of m).globals
    inside first sp =
        let shaped : global < length m.p.shared.globals.items = (fit m s (Op.GlobalPut global value first) ops last env x sp).shaped in
        subst (λ n. global < n) (sym m.selected.statics.globals) shaped

    first_led : (v : Val) (h : Option Val) → Spot m s (Op.GlobalPut global value true) ops last env x → lasting_value m.p.shared env value ≡ Some v → slice_get s.globals global ≡ Some h → Led m s x (put v)
    first_led v h sp given there =
        let named = (fit m s (Op.GlobalPut global value true) ops last env x sp).args in
        spot_led m s (Op.GlobalPut global value true) ops last env x sp (put v) refl
        (GoesOn m.words m.sizes (layout_of m) sp.runs.escapes (ways_of m sp.runs.born) sp.t (with_global_at s global v) env sp.rest) 3
        (global_is_set m.words m.sizes (layout_of m) sp.runs.escapes (ways_of m sp.runs.born) sp.t s env sp.runs.core global (operand_of (layout_of m) m.p.shared value) v h sp.rest (held m s (Op.GlobalPut global value true) ops last env x sp) (argument_has m s (Op.GlobalPut global value true) ops last env x sp value v named.0 given) there (inside true sp))
        (λ y o. goes_on m s (Op.GlobalPut global value true) ops last env x sp (with_global_at s global v) sp.runs.escapes sp.runs.born env (s.moves + 2) y (below m s (Op.GlobalPut global value true) ops last env x sp) sp.keeps o)
        (omega arith)

    change_led : (v : Val) (h : Option Val) → Spot m s (Op.GlobalPut global value false) ops last env x → lasting_value m.p.shared env value ≡ Some v → slice_get s.globals global ≡ Some h → Led m s x (if_bound h (counted 2 s) (λ old. put v))
    change_led v None sp given there =
        spot_led m s (Op.GlobalPut global value false) ops last env x sp (faulted Unbound (counted 2 s)) refl
        (Fails m.sizes (layout_of m) sp.runs.escapes s Unbound) 7
        (global_stays m.words m.sizes (layout_of m) sp.runs.escapes (ways_of m sp.runs.born) sp.t s env sp.runs.core global (operand_of (layout_of m) m.p.shared value) sp.rest (held m s (Op.GlobalPut global value false) ops last env x sp) there (inside false sp))
        (λ y o. ends_by m s s sp.runs.escapes (Faulted Unbound) (s.moves + 2) y sp.keeps
        (record { core = o.core; data_held = o.data_held; block = o.block; place = o.place; moves = o.moves; steps = o.steps; there = o.there }))
        (omega arith)
    change_led v (Some old) sp given there =
        let named = (fit m s (Op.GlobalPut global value false) ops last env x sp).args in
        spot_led m s (Op.GlobalPut global value false) ops last env x sp (put v) refl
        (GoesOn m.words m.sizes (layout_of m) sp.runs.escapes (ways_of m sp.runs.born) sp.t (with_global_at s global v) env sp.rest) 8
        (global_is_changed m.words m.sizes (layout_of m) sp.runs.escapes (ways_of m sp.runs.born) sp.t s env sp.runs.core global (operand_of (layout_of m) m.p.shared value) v old sp.rest (held m s (Op.GlobalPut global value false) ops last env x sp) (argument_has m s (Op.GlobalPut global value false) ops last env x sp value v named.0 given) there (inside false sp))
        (λ y o. goes_on m s (Op.GlobalPut global value false) ops last env x sp (with_global_at s global v) sp.runs.escapes sp.runs.born env (s.moves + 2) y (below m s (Op.GlobalPut global value false) ops last env x sp) sp.keeps o)
        (omega arith)

    by_first : (first : Bool) (v : Val) (h : Option Val) → Spot m s (Op.GlobalPut global value first) ops last env x → lasting_value m.p.shared env value ≡ Some v → slice_get s.globals global ≡ Some h
        → Led m s x (if first then put v else if_bound h (counted 2 s) (λ old. put v))
    by_first true v h sp given there = first_led v h sp given there
    by_first false v h sp given there = change_led v h sp given there

    pub global_put_led : (first : Bool) → Spot m s (Op.GlobalPut global value first) ops last env x → IsSound (acted m s (Op.GlobalPut global value first) ops last env) → IsLed m s (Op.GlobalPut global value first) ops last env x
    global_put_led first sp sound =
        lookup (Led m s x) (lasting_value m.p.shared env value) s (λ v. or_wrong (slice_get s.globals global) s (λ h. if first then put v else if_bound h (counted 2 s) (λ old. put v))) sound
        (λ v given sound2.
        lookup (Led m s x) (slice_get s.globals global) s (λ h. if first then put v else if_bound h (counted 2 s) (λ old. put v)) sound2
        (λ h there sound3. by_first first v h sp given there))
