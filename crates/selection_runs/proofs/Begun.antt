-- Where a block begins.
use Rattle.std.proofs.Common.{◌≡◌, ℕ, ◌+◌, ◌*◌, ◌≤◌, ◌==◌, inl, Bool, true, false, if◌then◌else◌, List, [], ◌∷◌, length, map, Option, Some, None, option_map, option_and_then, slice_get, refl, ap, ◌∙◌, subst, arith}
use Rattle.std.specs.List.{AllByRecursion}
use Rattle.std.proofs.lemmas.Bool.{eqb-true}
use Rattle.t_base.specs.declared.basics.Var.{Var}
use Rattle.cps_ir.specs.declared.args.Arg.{Arg}
use Rattle.t_prim.specs.Values.{Val}
use Rattle.word_ir.specs.Stamps.{Stamped}
use Rattle.frame_ir.specs.declared.forms.FrameEnd.{FrameEnd}
use Rattle.frame_ir.specs.declared.forms.Block.{Block}
use Rattle.frame_ir.specs.Values.{Value, Lasting, Env}
use Rattle.frame_ir.specs.States.{State, Running, wrong}
use Rattle.frame_ir.specs.Sizes.{FramesAreSmall}
use Rattle.frame_ir.specs.Arguments.{value_of, values_of, lasting_value, bound}
use Rattle.frame_ir.specs.Calls.{begun, jumped}
use Rattle.word_trees.specs.Trees.{Spells}
use Rattle.word_trees.specs.Leads.{Performs}
use Rattle.frame_words.specs.Contents.{Escapes}
use Rattle.frame_stacks.specs.Frames.{Holds}
use Rattle.frame_stacks.specs.Laws.{AreParameters, Begins, HasValue, HaveValues}
use Rattle.prim_holds.specs.Operands.{IsNamed, operand_of}
use Rattle.prim_holds.proofs.Arguments.{operand_has}
use Rattle.prim_holds.proofs.Keeping.{count_free}
use Rattle.word_selection.specs.Codes.{end_code}
use Rattle.word_selection.specs.Selections.{IsBlockOf}
use Rattle.selection_steps.specs.Settings.{Setting, choice_of, layout_of, IsSound}
use Rattle.selection_steps.specs.Related.{ways_of, Runs, Keeps, Stands}
use Rattle.selection_steps.specs.Led.{most_moves, saved, caught, Comes, Led}
use Rattle.selection_steps.proofs.Leading.{AreBelow, below_more, held_above, held_from, led_by, lookup}
use Rattle.selection_steps.proofs.Cells.{lasting_by}
use Rattle.selection_runs.proofs.Blocks.{IsKnown, block_known}

-- ---- parameters with values

pub bound_below : (t : ℕ) (params : List Var) (vs : List Value) → AreParameters t params → AreBelow t (bound params vs)
bound_below t [] vs d x w found = absurd (cc)
bound_below t (p ∷ ps) [] d x w found = absurd (cc)
bound_below t (p ∷ ps) (v ∷ vs) d x w found = below_more t (bound ps vs) p.0 v d.0 (bound_below t ps vs d.2) x w found

pub parameters_from : (t u : ℕ) (params : List Var) → t ≤ u → AreParameters t params → AreParameters u params
parameters_from t u [] le h = tt
parameters_from t u (x ∷ xs) le h = (let lt = h.0 in omega (arith, lt, le), h.1, parameters_from t u xs le h.2)

module _ (m : Setting) where
  -- ---- the start of a block

  pub begun_stands : (v : State) (e : Escapes) (born : ℕ → ℕ) (t k : ℕ) (b : Block) (vs : List Value) (moves : ℕ) (y : Stamped) → slice_get m.p.blocks.items k ≡ Some b → Keeps m v
      → Begins m.sizes (layout_of m) e (ways_of m born) t v (bound b.params vs) k y → Stands m (record v { moves = moves; doing = Running b.ops.items b.last (bound b.params vs) }) y
  begun_stands v e born t k b vs moves y at keeps o =
      let h : IsBlockOf (choice_of m) m.p m.words k b = m.selected.blocks.blocks k b at in
      let known : IsKnown m b = block_known m k b at in (
        keeps,
        record {
          escapes = e;
          born = born;
          core = o.core;
          holds = count_free m.sizes (layout_of m) e (ways_of m born) (choice_of m).free v (bound b.params vs) o.core moves (Running b.ops.items b.last (bound b.params vs))
              (held_above m e (ways_of m born) t v (bound b.params vs) o.core (choice_of m).free (bound_below (choice_of m).free b.params vs known.params) o.holds);
          tree = h.tree;
          code = h.code;
          fits = known.fits;
          fits_end = known.fits_end;
          block = (choice_of m).begins k;
          place = 0;
          moves = o.moves;
          steps = o.steps;
          spelled = h.spelled;
          there = o.there;
        },
      )

  pub begun_runs : (v : State) (e : Escapes) (born : ℕ → ℕ) (t k : ℕ) (b : Block) (vs : List Value) (moves : ℕ) (s : State) (y : Stamped) → slice_get m.p.blocks.items k ≡ Some b → Keeps m v
      → Begins m.sizes (layout_of m) e (ways_of m born) t v (bound b.params vs) k y → Comes m s (record v { moves = moves; doing = Running b.ops.items b.last (bound b.params vs) }) y
  begun_runs v e born t k b vs moves s y at keeps o = inl (begun_stands v e born t k b vs moves y at keeps o)

  same_count : (P : State → Type 0) (n k : ℕ) (b : Bool) (s u : State) → (n == k) ≡ b → IsSound (if b then u else wrong s) → (n ≡ k → IsSound u → P u) → P (if b then u else wrong s)
  same_count P n k true s u eq sound h = h (eqb-true n k eq) sound
  same_count P n k false s u eq sound h = absurd (cc)

  pub with_jumped : (P : State → Type 0) (k : ℕ) (vs : List Value) (s : State) → IsSound (jumped m.p k vs s) → ((b : Block) → slice_get m.p.blocks.items k ≡ Some b → length b.params ≡ length vs → P (begun b (bound b.params vs) s)) → P (jumped m.p k vs s)
  with_jumped P k vs s sound h =
      lookup P (slice_get m.p.blocks.items k) s (λ b. if length b.params == length vs then begun b (bound b.params vs) s else wrong s) sound
      (λ b at sound2. same_count P (length b.params) (length vs) (length b.params == length vs) s (begun b (bound b.params vs) s) refl sound2 (λ same sound3. h b at same))

  -- ---- an end

  pub record EndSpot (s : State) (last : FrameEnd) (env : Env) (x : Stamped) : Type 0 where
    pub runs : Runs m s [] last env x
    pub keeps : Keeps m s
    pub none : saved s.doing ≡ 0
    pub small : FramesAreSmall m.p.shared.size s
    pub t : ℕ
    pub above : (choice_of m).free ≤ t
    pub is : runs.tree ≡ end_code (choice_of m) m.p.shared t last

  module _ (s : State) (last : FrameEnd) (env : Env) (x : Stamped) (sp : EndSpot s last env x) where
    pub end_held : Holds m.sizes (layout_of m) sp.runs.escapes (ways_of m sp.runs.born) sp.t s env sp.runs.core
    end_held = held_from m sp.runs.escapes (ways_of m sp.runs.born) (choice_of m).free sp.t s env sp.runs.core sp.above sp.runs.holds

    pub end_spelled : Spells m.words sp.runs.block sp.runs.place (end_code (choice_of m) m.p.shared sp.t last)
    end_spelled = subst (Spells m.words sp.runs.block sp.runs.place) sp.is sp.runs.spelled

    pub end_led : (u : State) → caught u.frames u.live ≡ caught s.frames s.live → (Q : Stamped → Type 0) (cost : ℕ) → Performs m.words m.sizes Q 1 cost (end_code (choice_of m) m.p.shared sp.t last) sp.runs.core → ((y : Stamped) → Q y → Comes m s u y)
        → cost + saved u.doing + most_moves * s.moves ≤ most_moves * u.moves → Led m s x u
    end_led u same Q cost performs comes within =
        let none = sp.none in
        led_by m s u x Q cost (end_code (choice_of m) m.p.shared sp.t last) sp.runs.core sp.runs.block sp.runs.place sp.runs.moves sp.runs.steps end_spelled sp.runs.there performs comes (omega (arith, within, none, same))

    -- operands with the words of values
    pub has_value : (a : Arg) (v : Value) → IsNamed (layout_of m) m.p.shared a → value_of m.p.shared env a ≡ Some v → HasValue m.words m.sizes (layout_of m) (ways_of m sp.runs.born) sp.t s sp.runs.core (operand_of (layout_of m) m.p.shared a) v
    has_value a v named is = operand_has m.words m.sizes (layout_of m) sp.runs.escapes (ways_of m sp.runs.born) sp.t s env sp.runs.core end_held m.p.shared a v named is

    pub has_lasting : (a : Arg) (v : Val) → IsNamed (layout_of m) m.p.shared a → lasting_value m.p.shared env a ≡ Some v → HasValue m.words m.sizes (layout_of m) (ways_of m sp.runs.born) sp.t s sp.runs.core (operand_of (layout_of m) m.p.shared a) (Lasting v)
    has_lasting a v named is = has_value a (Lasting v) named (lasting_by (value_of m.p.shared env a) v is)

    values_by : (a : Arg) (args : List Arg) (vs : List Value) (o : Option Value) (os : Option (List Value)) → value_of m.p.shared env a ≡ o → IsNamed (layout_of m) m.p.shared a
        → ((ws : List Value) → os ≡ Some ws → HaveValues m.words m.sizes (layout_of m) (ways_of m sp.runs.born) sp.t s sp.runs.core (map (operand_of (layout_of m) m.p.shared) args) ws)
        → option_and_then (λ y. option_map (λ ys. y ∷ ys) os) o ≡ Some vs → HaveValues m.words m.sizes (layout_of m) (ways_of m sp.runs.born) sp.t s sp.runs.core (map (operand_of (layout_of m) m.p.shared) (a ∷ args)) vs
    values_by a args [] (Some v) (Some ws) at named rest is = absurd (cc)
    values_by a args (w ∷ vs) (Some v) (Some ws) at named rest is =
        let first : v ≡ w = cc in
        let others : ws ≡ vs = cc in
        (has_value a w named (at ∙ ap Some first), rest vs (ap Some others))
    values_by a args vs (Some v) None at named rest is = absurd (cc)
    values_by a args vs None os at named rest is = absurd (cc)

    pub have_values : (args : List Arg) (vs : List Value) → AllByRecursion (IsNamed (layout_of m) m.p.shared) args → values_of m.p.shared env args ≡ Some vs
        → HaveValues m.words m.sizes (layout_of m) (ways_of m sp.runs.born) sp.t s sp.runs.core (map (operand_of (layout_of m) m.p.shared) args) vs
    have_values [] [] named is = tt
    have_values [] (v ∷ vs) named is = absurd (cc)
    have_values (a ∷ args) vs named is = values_by a args vs (value_of m.p.shared env a) (values_of m.p.shared env args) refl named.0 (λ ws eq. have_values args ws named.1 eq) is
