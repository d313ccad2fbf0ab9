-- Ends of blocks but for calls.
use Rattle.std.proofs.Common.{◌≡◌, ℕ, ◌+◌, ◌<◌, inl, inr, Bool, true, false, if◌then◌else◌, List, [], ◌∷◌, length, map, Some, slice_get, refl, sym, ap, ◌∙◌, subst, arith}
use Rattle.std.proofs.lemmas.List.{length-map}
use Rattle.std.proofs.lemmas.Option.{slice_get_cases}
use Rattle.program_runs.specs.Runs as runs
use Rattle.cps_ir.specs.declared.args.Arg.{Arg}
use Rattle.t_prim.specs.Kinds.{is_nil}
use Rattle.t_prim.specs.Values.{Val, shown_of, shown_symbol}
use Rattle.word_ir.specs.Stamps.{Stamped}
use Rattle.frame_ir.specs.declared.forms.FrameEnd.TheVariants as Last
use Rattle.frame_ir.specs.declared.forms.Block.{Block}
use Rattle.frame_ir.specs.Values.{Value, Lasting, InFrame, CellAt, Env}
use Rattle.frame_ir.specs.States.{State, Running, Ended, going, counted, or_wrong, older_than_youngest}
use Rattle.frame_ir.specs.Arguments.{value_of, values_of, lasting_value, bound}
use Rattle.frame_ir.specs.Calls.{begun, shown, jumped, returned}
use Rattle.frame_ir.specs.Operations.{ended, branched}
use Rattle.word_trees.specs.Trees.{Tree, Spells}
use Rattle.word_trees.specs.Leads.{Performs}
use Rattle.frame_stacks.specs.Laws.{AreParameters, Begins, GoesOn, HasValue}
use Rattle.frame_stacks.proofs.Blocks.{jump_performs, return_performs}
use Rattle.frame_reads.specs.Codes.{branch}
use Rattle.frame_reads.proofs.Branches.{branch_performs, frame_branch_performs}
use Rattle.frame_ends.specs.Laws.{EndsWith, AreListed}
use Rattle.frame_ends.proofs.Halting.{halt_performs}
use Rattle.prim_holds.specs.Operands.{operand_of}
use Rattle.prim_holds.proofs.Keeping.{count_free}
use Rattle.word_selection.specs.Selections.{IsBlockOf}
use Rattle.selection_steps.specs.Settings.{Setting, choice_of, layout_of, IsSound}
use Rattle.selection_steps.specs.Related.{ways_of, Keeps}
use Rattle.selection_steps.specs.Led.{Comes, Led}
use Rattle.selection_steps.proofs.Leading.{below_now, held_above, led_by, lookup}
use Rattle.selection_steps.proofs.Ending.{ends_by}
use Rattle.selection_steps.proofs.Youngest.{with_pushed}
use Rattle.selection_runs.proofs.Blocks.{IsKnown, block_known}
use Rattle.selection_runs.proofs.Begun.{EndSpot, begun_runs, with_jumped, end_held, end_led, end_spelled, has_value, has_lasting, have_values, parameters_from}

module _ (m : Setting) (s : State) (env : Env) (x : Stamped) where
  -- ---- jumps

  pub jump_led : (block : ℕ) (args : List Arg) → EndSpot m s (Last.Jump block args) env x → IsSound (ended m.p (Last.Jump block args) env s) → Led m s x (ended m.p (Last.Jump block args) env s)
  jump_led block args sp sound =
      lookup (Led m s x) (values_of m.p.shared env args) s (λ vs. jumped m.p block vs (counted (1 + length args) s)) sound
      (λ vs given sound2.
      with_jumped m (Led m s x) block vs (counted (1 + length args) s) sound2
      (λ b at same.
      let h : IsBlockOf (choice_of m) m.p m.words block b = m.selected.blocks.blocks block b at in
      let known : IsKnown m b = block_known m block b at in
      let many = length-map args (operand_of (layout_of m) m.p.shared) in
      end_led m s (Last.Jump block args) env x sp (begun b (bound b.params vs) (counted (1 + length args) s)) refl
      (Begins m.sizes (layout_of m) sp.runs.escapes (ways_of m sp.runs.born) sp.t s (bound h.target.params vs) block) (1 + length (map (operand_of (layout_of m) m.p.shared) args))
      (jump_performs m.words m.sizes (layout_of m) sp.runs.escapes (ways_of m sp.runs.born) sp.t s env sp.runs.core block h.target (map (operand_of (layout_of m) m.p.shared) args) vs (end_held m s (Last.Jump block args) env x sp)
      (have_values m s (Last.Jump block args) env x sp args vs sp.runs.fits_end.args given) h.there (ap length h.params ∙ same) (subst (AreParameters sp.t) (sym h.params) (parameters_from (choice_of m).free sp.t b.params sp.above known.params)))
      (λ y o. begun_runs m s sp.runs.escapes sp.runs.born sp.t block b vs (s.moves + (1 + length args)) s y at sp.keeps
      (subst (λ ps. Begins m.sizes (layout_of m) sp.runs.escapes (ways_of m sp.runs.born) sp.t s (bound ps vs) block y) h.params o))
      (omega (arith, many))))

  -- ---- returns

  pub return_led : (value : Arg) → EndSpot m s (Last.Return value) env x → IsSound (ended m.p (Last.Return value) env s) → Led m s x (ended m.p (Last.Return value) env s)
  return_led value sp sound =
      lookup (Led m s x) (lasting_value m.p.shared env value) s (λ v. returned m.p v (counted 2 s)) sound
      (λ v given sound2.
      with_pushed (Led m s x) (counted 2 s) (λ birth f. jumped m.p f.back (Lasting v ∷ []) (counted 2 s)) sound2
      (λ birth f live found plain sound3.
      with_jumped m (Led m s x) f.back (Lasting v ∷ []) (counted 2 s) sound3
      (λ b at same.
      let h : IsBlockOf (choice_of m) m.p m.words f.back b = m.selected.blocks.blocks f.back b at in
      let known : IsKnown m b = block_known m f.back b at in
      end_led m s (Last.Return value) env x sp (begun b (bound b.params (Lasting v ∷ [])) (counted 2 s)) refl
      (Begins m.sizes (layout_of m) sp.runs.escapes (ways_of m sp.runs.born) sp.t s (bound h.target.params (Lasting v ∷ [])) f.back) 5
      (return_performs m.words m.sizes (layout_of m) sp.runs.escapes (ways_of m sp.runs.born) sp.t s env sp.runs.core birth (older_than_youngest s.live) f h.target (operand_of (layout_of m) m.p.shared value) (Lasting v) (end_held m s (Last.Return value) env x sp)
      (has_lasting m s (Last.Return value) env x sp value v sp.runs.fits_end.args.0 given) live found h.there (ap length h.params ∙ same) (subst (AreParameters sp.t) (sym h.params) (parameters_from (choice_of m).free sp.t b.params sp.above known.params)))
      (λ y o. begun_runs m s sp.runs.escapes sp.runs.born sp.t f.back b (Lasting v ∷ []) (s.moves + 2) s y at sp.keeps
      (subst (λ ps. Begins m.sizes (layout_of m) sp.runs.escapes (ways_of m sp.runs.born) sp.t s (bound ps (Lasting v ∷ [])) f.back y) h.params o))
      (omega arith))))

  -- ---- ends by a value

  listed_now : Keeps m s → AreListed m.words (layout_of m) s
  listed_now keeps name is =
      let o = m.selected.statics.listed name is in
      record { inside = o.inside; shown = ap (λ names. shown_symbol (slice_get names name)) keeps.names_are ∙ o.shown }

  pub halt_led : (value : Arg) → EndSpot m s (Last.Halt value) env x → IsSound (ended m.p (Last.Halt value) env s) → Led m s x (ended m.p (Last.Halt value) env s)
  halt_led value sp sound =
      lookup (Led m s x) (lasting_value m.p.shared env value) s (λ v. going (Ended (runs.Value (shown_of s.store v))) (counted 2 s)) sound
      (λ v given sound2.
      end_led m s (Last.Halt value) env x sp (going (Ended (runs.Value (shown_of s.store v))) (counted 2 s)) refl
      (EndsWith m.sizes (layout_of m) sp.runs.escapes s (runs.Value (shown_of s.store v))) 2
      (halt_performs m.words m.sizes (layout_of m) sp.runs.escapes (ways_of m sp.runs.born) sp.t s env sp.runs.core (operand_of (layout_of m) m.p.shared value) v (end_held m s (Last.Halt value) env x sp) (listed_now sp.keeps)
      (has_lasting m s (Last.Halt value) env x sp value v sp.runs.fits_end.args.0 given) m.selected.statics.few_names)
      (λ y o. ends_by m s s sp.runs.escapes (runs.Value (shown_of s.store v)) (s.moves + 2) y sp.keeps o)
      (omega arith))

  -- ---- tests

  module _ (test : Arg) (first second : ℕ) (sp : EndSpot m s (Last.If test first second) env x) where
    record IsThere (k : ℕ) : Type 0 where
      block : Block
      at : slice_get m.p.blocks.items k ≡ Some block

    there_is : (k : ℕ) → k < length m.p.blocks.items → IsThere k
    there_is k lt = elim (slice_get_cases m.p.blocks.items k).1 [
      | inl o ↦ record { block = o.0; at = o.2 }
      | inr o ↦ absurd (let le = o.0 in omega (arith, lt, le))
    ]

    abbrev arm_of : (k : ℕ) (i : IsThere k) → IsBlockOf (choice_of m) m.p m.words k i.block
    arm_of k i = m.selected.blocks.blocks k i.block i.at

    arm_runs : (k : ℕ) (i : IsThere k) (t : ℕ) (y : Stamped) → GoesOn m.words m.sizes (layout_of m) sp.runs.escapes (ways_of m sp.runs.born) t s env (arm_of k i).tree y → Comes m s (begun i.block env (counted 2 s)) y
    arm_runs k i t y o =
        let known : IsKnown m i.block = block_known m k i.block i.at in
        inl (
          sp.keeps,
          record {
            escapes = sp.runs.escapes;
            born = sp.runs.born;
            core = o.core;
            holds = count_free m.sizes (layout_of m) sp.runs.escapes (ways_of m sp.runs.born) (choice_of m).free s env o.core (s.moves + 2) (Running i.block.ops.items i.block.last env)
                (held_above m sp.runs.escapes (ways_of m sp.runs.born) t s env o.core (choice_of m).free (below_now m sp.runs.escapes (ways_of m sp.runs.born) (choice_of m).free s env sp.runs.core sp.runs.holds) o.holds);
            tree = (arm_of k i).tree;
            code = (arm_of k i).code;
            fits = known.fits;
            fits_end = known.fits_end;
            block = o.block;
            place = o.place;
            moves = o.moves;
            steps = o.steps;
            spelled = o.spelled;
            there = o.there;
          },
        )

    one : IsThere first
    one = there_is first sp.runs.fits_end.shaped.0

    two : IsThere second
    two = there_is second sp.runs.fits_end.shaped.1

    -- the test as a tree, with both blocks behind
    abbrev asked : Tree
    asked = branch (operand_of (layout_of m) m.p.shared test) (arm_of first one).tree (arm_of second two).tree

    asked_spelled : Spells m.words sp.runs.block sp.runs.place asked
    asked_spelled = ((choice_of m).begins second, (choice_of m).begins first, end_spelled m s (Last.If test first second) env x sp, (arm_of second two).spelled, (arm_of first one).spelled)

    arm_led : (k : ℕ) (i : IsThere k) (Q : Stamped → Type 0) → Performs m.words m.sizes Q 1 3 asked sp.runs.core → ((y : Stamped) → Q y → Comes m s (begun i.block env (counted 2 s)) y) → Led m s x (begun i.block env (counted 2 s))
    arm_led k i Q performs comes =
        let none = sp.none in
        led_by m s (begun i.block env (counted 2 s)) x Q 3 asked sp.runs.core sp.runs.block sp.runs.place sp.runs.moves sp.runs.steps asked_spelled sp.runs.there performs comes (omega (arith, none))

    shown_led : (k : ℕ) (i : IsThere k) → Led m s x (begun i.block env (counted 2 s)) → Led m s x (shown m.p k env (counted 2 s))
    shown_led k i h = subst (λ o. Led m s x (or_wrong o (counted 2 s) (λ b. begun b env (counted 2 s)))) (sym i.at) h

    by_nil : (v : Val) (b : Bool) → is_nil v ≡ b → HasValue m.words m.sizes (layout_of m) (ways_of m sp.runs.born) sp.t s sp.runs.core (operand_of (layout_of m) m.p.shared test) (Lasting v) → Led m s x (shown m.p (if b then second else first) env (counted 2 s))
    by_nil v true is has =
        shown_led second two (arm_led second two (GoesOn m.words m.sizes (layout_of m) sp.runs.escapes (ways_of m sp.runs.born) sp.t s env (if is_nil v then (arm_of second two).tree else (arm_of first one).tree))
        (branch_performs m.words m.sizes (layout_of m) sp.runs.escapes (ways_of m sp.runs.born) sp.t s env sp.runs.core (operand_of (layout_of m) m.p.shared test) v (arm_of first one).tree (arm_of second two).tree (end_held m s (Last.If test first second) env x sp) has)
        (λ y o. arm_runs second two sp.t y (subst (λ q. GoesOn m.words m.sizes (layout_of m) sp.runs.escapes (ways_of m sp.runs.born) sp.t s env (if q then (arm_of second two).tree else (arm_of first one).tree) y) is o)))
    by_nil v false is has =
        shown_led first one (arm_led first one (GoesOn m.words m.sizes (layout_of m) sp.runs.escapes (ways_of m sp.runs.born) sp.t s env (if is_nil v then (arm_of second two).tree else (arm_of first one).tree))
        (branch_performs m.words m.sizes (layout_of m) sp.runs.escapes (ways_of m sp.runs.born) sp.t s env sp.runs.core (operand_of (layout_of m) m.p.shared test) v (arm_of first one).tree (arm_of second two).tree (end_held m s (Last.If test first second) env x sp) has)
        (λ y o. arm_runs first one sp.t y (subst (λ q. GoesOn m.words m.sizes (layout_of m) sp.runs.escapes (ways_of m sp.runs.born) sp.t s env (if q then (arm_of second two).tree else (arm_of first one).tree) y) is o)))

    branched_led : (v : Value) → value_of m.p.shared env test ≡ Some v → IsSound (branched m.p v first second env (counted 2 s)) → Led m s x (branched m.p v first second env (counted 2 s))
    branched_led (Lasting v) is sound = by_nil v (is_nil v) refl (has_value m s (Last.If test first second) env x sp test (Lasting v) sp.runs.fits_end.args.0 is)
    branched_led (InFrame birth slot) is sound =
        shown_led first one (arm_led first one (GoesOn m.words m.sizes (layout_of m) sp.runs.escapes (ways_of m sp.runs.born) sp.t s env (arm_of first one).tree)
        (frame_branch_performs m.words m.sizes (layout_of m) sp.runs.escapes (ways_of m sp.runs.born) sp.t s env sp.runs.core (operand_of (layout_of m) m.p.shared test) birth slot (arm_of first one).tree (arm_of second two).tree (end_held m s (Last.If test first second) env x sp)
        (has_value m s (Last.If test first second) env x sp test (InFrame birth slot) sp.runs.fits_end.args.0 is))
        (λ y o. arm_runs first one sp.t y o))
    branched_led (CellAt k) is sound = absurd (cc)

    pub if_led : IsSound (ended m.p (Last.If test first second) env s) → Led m s x (ended m.p (Last.If test first second) env s)
    if_led sound = lookup (Led m s x) (value_of m.p.shared env test) s (λ v. branched m.p v first second env (counted 2 s)) sound (λ v is sound2. branched_led v is sound2)
