-- A call at the end of a block.
use Rattle.std.proofs.Common.{◌≡◌, ℕ, ◌+◌, ◌-◌, ◌*◌, ◌<◌, inl, inr, true, false, List, [], ◌∷◌, length, map, Option, Some, None, is_some, option_map, option_and_then, slice_get, refl, sym, ap, ◌∙◌, subst, arith}
use Rattle.std.specs.List.{AllByRecursion}
use Rattle.std.specs.Option.{option_map_or}
use Rattle.std.proofs.lemmas.List.{length-map}
use Rattle.std.proofs.lemmas.Option.{slice_get_cases}
use Rattle.cps_ir.specs.declared.args.Arg.{Arg}
use Rattle.cps_ir.specs.declared.args.Arg.TheVariants as Argument
use Rattle.t_base.specs.declared.builtins.Builtin.{Builtin}
use Rattle.t_prim.specs.Values.{Val, ClosureV, BuiltinV}
use Rattle.word_ir.specs.declared.words.WordBlock.{WordBlock}
use Rattle.word_ir.specs.Stamps.{Stamped}
use Rattle.frame_ir.specs.declared.forms.FrameEnd.TheVariants as Last
use Rattle.frame_ir.specs.declared.forms.Block.{Block}
use Rattle.frame_ir.specs.Values.{Value, Lasting, Env}
use Rattle.frame_ir.specs.States.{State, Calling, going, counted, or_wrong}
use Rattle.frame_ir.specs.Arguments.{value_of, lasting_value, lasting_values, code_of_global}
use Rattle.frame_ir.specs.Operations.{ended}
use Rattle.frame_words.specs.Layouts.{Layout, Fixed, ClosureOf, BuiltinOf, fixed_place, fixed_address}
use Rattle.frame_words.specs.ValueWords.{OBJECT, tagged}
use Rattle.frame_words.proofs.Reading.{fixed_is}
use Rattle.frame_stacks.specs.Laws.{HaveValues}
use Rattle.frame_calls.specs.Codes.{call_params, entry_code}
use Rattle.frame_calls.specs.Calls.{Calls}
use Rattle.frame_calls.proofs.Calling.{call_performs}
use Rattle.frame_dispatch.specs.Codes.{builtin_code}
use Rattle.prim_holds.specs.Operands.{IsNamed, fixed_word, operand_of}
use Rattle.word_selection.specs.Codes.{call_target}
use Rattle.word_selection.specs.Selections.{IsEntry}
use Rattle.selection_steps.specs.Settings.{Setting, choice_of, layout_of, called_code, IsSound}
use Rattle.selection_steps.specs.Related.{ways_of, CallsAt, IsCalling}
use Rattle.selection_steps.specs.Led.{Led}
use Rattle.selection_steps.proofs.Leading.{lookup}
use Rattle.selection_runs.proofs.Begun.{EndSpot, end_held, end_led, has_value, has_lasting}
use Rattle.selection_runs.proofs.Counted.{calls_counted}

-- ---- what stands in static words

record HasPlace (l : Layout) (x : Fixed) : Type 0 where
  place : ℕ
  is : fixed_place l x ≡ Some place
  known : is_some (fixed_place l x) ≡ true

place_of_fixed : (l : Layout) (x : Fixed) (o : Option ℕ) → fixed_place l x ≡ o → is_some (tagged OBJECT (fixed_address l x)) ≡ true → HasPlace l x
place_of_fixed l x (Some p) at is = record { place = p; is = at; known = ap is_some at }
place_of_fixed l x None at is = absurd (let none : is_some (tagged OBJECT (fixed_address l x)) ≡ false = rw at refl in cc)

module _ (m : Setting) (s : State) (f : Arg) (args : List Arg) (env : Env) (x : Stamped) (sp : EndSpot m s (Last.Call f args) env x) where
  -- ---- operands

  count_step : (b : Arg) (bs : List Arg) (ws : List Val) (o : Option Val) (os : Option (List Val)) → ((us : List Val) → os ≡ Some us → length us ≡ length bs) → option_and_then (λ y. option_map (λ ys. y ∷ ys) os) o ≡ Some ws → length ws ≡ length (b ∷ bs)
  count_step b bs [] (Some v) (Some us) rest is = absurd (cc)
  count_step b bs (w ∷ ws) (Some v) (Some us) rest is = let same : us ≡ ws = cc in let n = rest ws (ap Some same) in omega (arith, n)
  count_step b bs ws (Some v) None rest is = absurd (cc)
  count_step b bs ws None os rest is = absurd (cc)

  value_count : (bs : List Arg) (ws : List Val) → lasting_values m.p.shared env bs ≡ Some ws → length ws ≡ length bs
  value_count [] [] is = refl
  value_count [] (w ∷ ws) is = absurd (cc)
  value_count (b ∷ bs) ws is = count_step b bs ws (lasting_value m.p.shared env b) (lasting_values m.p.shared env bs) (λ us eq. value_count bs us eq) is

  abbrev AreOperands : List Arg → List Val → Type 0
  AreOperands bs ws = HaveValues m.words m.sizes (layout_of m) (ways_of m sp.runs.born) sp.t s sp.runs.core (map (operand_of (layout_of m) m.p.shared) bs) (map Lasting ws)

  operands_step : (b : Arg) (bs : List Arg) (ws : List Val) (o : Option Val) (os : Option (List Val)) → lasting_value m.p.shared env b ≡ o → IsNamed (layout_of m) m.p.shared b → ((us : List Val) → os ≡ Some us → AreOperands bs us) → option_and_then (λ y. option_map (λ ys. y ∷ ys) os) o ≡ Some ws → AreOperands (b ∷ bs) ws
  operands_step b bs [] (Some v) (Some us) at named rest is = absurd (cc)
  operands_step b bs (w ∷ ws) (Some v) (Some us) at named rest is =
      let first : v ≡ w = cc in
      let others : us ≡ ws = cc in
      (has_lasting m s (Last.Call f args) env x sp b w named (at ∙ ap Some first), rest ws (ap Some others))
  operands_step b bs ws (Some v) None at named rest is = absurd (cc)
  operands_step b bs ws None os at named rest is = absurd (cc)

  operands_are : (bs : List Arg) (ws : List Val) → AllByRecursion (IsNamed (layout_of m) m.p.shared) bs → lasting_values m.p.shared env bs ≡ Some ws → AreOperands bs ws
  operands_are [] [] named is = tt
  operands_are [] (w ∷ ws) named is = absurd (cc)
  operands_are (b ∷ bs) ws named is = operands_step b bs ws (lasting_value m.p.shared env b) (lasting_values m.p.shared env bs) refl named.0 (λ us eq. operands_are bs us named.1 eq) is

  -- ---- to a block

  module _ (g : Value) (vs : List Val) (value : value_of m.p.shared env f ≡ Some g) (given : lasting_values m.p.shared env args ≡ Some vs) where
    abbrev calling : State
    calling = going (Calling g vs) (counted (1 + length args) s)

    call_to : (target u : ℕ) (block : WordBlock) → call_target (choice_of m) m.p.shared f ≡ target → slice_get m.words.blocks.items target ≡ Some block → block.params ≡ call_params u
        → ((y : Stamped) → CallsAt m calling g vs u target y → IsCalling m calling g vs y) → Led m s x calling
    call_to target u block to there params is =
        let n = length-map args (operand_of (layout_of m) m.p.shared) in
        let k = value_count args vs given in
        let few = sp.runs.fits_end.shaped.0 in
        let found : slice_get m.words.blocks.items (call_target (choice_of m) m.p.shared f) ≡ Some block = subst (λ z. slice_get m.words.blocks.items z ≡ Some block) (sym to) there in
        end_led m s (Last.Call f args) env x sp calling refl
        (Calls m.sizes (layout_of m) sp.runs.escapes (ways_of m sp.runs.born) u s g vs (call_target (choice_of m) m.p.shared f)) (9 + 3 * length (map (operand_of (layout_of m) m.p.shared) args))
        (call_performs m.words m.sizes (layout_of m) sp.runs.escapes (ways_of m sp.runs.born) sp.t u s env sp.runs.core (call_target (choice_of m) m.p.shared f) block (operand_of (layout_of m) m.p.shared f) g (map (operand_of (layout_of m) m.p.shared) args) vs
        (end_held m s (Last.Call f args) env x sp) (has_value m s (Last.Call f args) env x sp f g sp.runs.fits_end.args.0 value) (operands_are args vs sp.runs.fits_end.args.1 given) (omega (arith, n, few)) found params)
        (λ y o. inl (
          sp.keeps,
          is y (record {
            escapes = sp.runs.escapes;
            born = sp.runs.born;
            calls = subst (λ z. Calls m.sizes (layout_of m) sp.runs.escapes (ways_of m sp.runs.born) u calling g vs z y) to
                (calls_counted m.sizes (layout_of m) sp.runs.escapes (ways_of m sp.runs.born) s (s.moves + (1 + length args)) (Calling g vs) u g vs (call_target (choice_of m) m.p.shared f) y o);
          }),
        ))
        (omega (arith, n, k))

    to_apply : call_target (choice_of m) m.p.shared f ≡ (choice_of m).apply → Led m s x calling
    to_apply to = call_to (choice_of m).apply m.selected.blocks.apply.t m.selected.blocks.apply.target to m.selected.blocks.apply.there m.selected.blocks.apply.are (λ y o. inl o)

    to_builtin : (b : Builtin) → call_target (choice_of m) m.p.shared f ≡ (layout_of m).builtin_entry b → g ≡ Lasting (BuiltinV b) → is_some (fixed_word (layout_of m) (BuiltinV b)) ≡ true → Led m s x calling
    to_builtin b to is named =
        let place : HasPlace (layout_of m) (BuiltinOf b) = place_of_fixed (layout_of m) (BuiltinOf b) (fixed_place (layout_of m) (BuiltinOf b)) refl named in
        let entry : IsEntry (choice_of m) m.words ((layout_of m).builtin_entry b) call_params (λ t. builtin_code t b) = m.selected.blocks.builtins b place.known in
        call_to ((layout_of m).builtin_entry b) entry.t entry.target to entry.there entry.are (λ y o. inr (inr (record { b = b; is = is; entry = entry; calls = o })))

    closure_there : (code : ℕ) → code < length m.p.blocks.items → (b : Block) × (slice_get m.p.blocks.items code ≡ Some b)
    closure_there code lt = elim (slice_get_cases m.p.blocks.items code).1 [
      | inl o ↦ (o.0, o.2)
      | inr o ↦ absurd (let le = o.0 in omega (arith, lt, le))
    ]

    to_closure : (code : ℕ) → call_target (choice_of m) m.p.shared f ≡ (layout_of m).closure_entry code → g ≡ Lasting (ClosureV code) → is_some (fixed_word (layout_of m) (ClosureV code)) ≡ true → code < length m.p.blocks.items → Led m s x calling
    to_closure code to is named lt =
        let place : HasPlace (layout_of m) (ClosureOf code) = place_of_fixed (layout_of m) (ClosureOf code) (fixed_place (layout_of m) (ClosureOf code)) refl named in
        let b = closure_there code lt in
        let entry : IsEntry (choice_of m) m.words ((layout_of m).closure_entry code) call_params (λ t. entry_code t (length b.0.params - 1) ((choice_of m).begins code)) = m.selected.blocks.closures code b.0 (m.selected.named.codes code place.known) b.1 in
        let there : slice_get s.closures code ≡ Some (record { code = code; captured = [] }) =
        fixed_is m.sizes (layout_of m) sp.runs.escapes s sp.runs.core.storage sp.runs.core.next sp.runs.core.output sp.runs.holds.data_held (ClosureOf code) place.place place.is in
        call_to ((layout_of m).closure_entry code) entry.t entry.target to entry.there entry.are
        (λ y o. inr (inl (record { i = code; closure = record { code = code; captured = [] }; block = b.0; is = is; there = there; found = b.1; entry = entry; calls = o })))

  -- ---- by what is called

  same_value : (v w : Value) → Some v ≡ Some w → w ≡ v
  same_value v w eq = cc

  callee_led : (a : Arg) → f ≡ a → (g : Value) (vs : List Val) → value_of m.p.shared env f ≡ Some g → lasting_values m.p.shared env args ≡ Some vs → Led m s x (going (Calling g vs) (counted (1 + length args) s))
  callee_led (Argument.Const k) is g vs value given = to_apply g vs value given (ap (call_target (choice_of m) m.p.shared) is)
  callee_led (Argument.Var k) is g vs value given = to_apply g vs value given (ap (call_target (choice_of m) m.p.shared) is)
  callee_led (Argument.Op k) is g vs value given = to_apply g vs value given (ap (call_target (choice_of m) m.p.shared) is)
  callee_led (Argument.Builtin b) is g vs value given =
      to_builtin g vs value given b (ap (call_target (choice_of m) m.p.shared) is) (same_value (Lasting (BuiltinV b)) g (sym (ap (value_of m.p.shared env) is) ∙ value)) (subst (λ a. IsNamed (layout_of m) m.p.shared a) is sp.runs.fits_end.args.0)
  callee_led (Argument.Proc code) is g vs value given =
      to_closure g vs value given code (ap (call_target (choice_of m) m.p.shared) is) (same_value (Lasting (ClosureV code)) g (sym (ap (value_of m.p.shared env) is) ∙ value)) (subst (λ a. IsNamed (layout_of m) m.p.shared a) is sp.runs.fits_end.args.0)
      (sp.runs.fits_end.shaped.1 code (ap (called_code m) is))
  callee_led (Argument.Global k) is g vs value given = by_code (code_of_global m.p.shared k) refl
    where
      by_code : (o : Option ℕ) → code_of_global m.p.shared k ≡ o → Led m s x (going (Calling g vs) (counted (1 + length args) s))
      by_code None at = absurd (let none : value_of m.p.shared env f ≡ None = ap (value_of m.p.shared env) is ∙ ap (λ o. option_map (λ code. Lasting (ClosureV code)) o) at in cc)
      by_code (Some code) at =
          to_closure g vs value given code (ap (call_target (choice_of m) m.p.shared) is ∙ ap (λ o. option_map_or (layout_of m).closure_entry o (choice_of m).apply) at)
          (same_value (Lasting (ClosureV code)) g (sym (ap (λ o. option_map (λ code. Lasting (ClosureV code)) o) at) ∙ (sym (ap (value_of m.p.shared env) is) ∙ value)))
          (subst (λ o. is_some (option_and_then (λ c. fixed_word (layout_of m) (ClosureV c)) o) ≡ true) at (subst (λ a. IsNamed (layout_of m) m.p.shared a) is sp.runs.fits_end.args.0))
          (sp.runs.fits_end.shaped.1 code (ap (called_code m) is ∙ at))

  pub call_led : IsSound (ended m.p (Last.Call f args) env s) → Led m s x (ended m.p (Last.Call f args) env s)
  call_led sound =
      lookup (Led m s x) (value_of m.p.shared env f) s (λ g. or_wrong (lasting_values m.p.shared env args) s (λ vs. going (Calling g vs) (counted (1 + length args) s))) sound
      (λ g value sound2.
      lookup (Led m s x) (lasting_values m.p.shared env args) s (λ vs. going (Calling g vs) (counted (1 + length args) s)) sound2
      (λ vs given sound3. callee_led f refl g vs value given))
