-- An operation is called: it looks at the methods of its first operand, and comes to a method, to its default, or to the fault.
use Rattle.std.proofs.Common.{◌≡◌, ℕ, ◌+◌, ◌-◌, ◌*◌, ◌<◌, ◌≤◌, ◌==◌, ◌⊎◌, inl, inr, Bool, true, false, if◌then◌else◌, List, [], ◌∷◌, length, map, is_some, Option, Some, None, option_map, option_and_then, slice_get, refl, sym, ap, ◌∙◌, subst, arith}
use Rattle.std.specs.Prelude.{Contains, IsSomeAnd}
use Rattle.std.specs.List.{AllByRecursion}
use Rattle.std.specs.Option.{option_map_or}
use Rattle.std.proofs.lemmas.Bool.{eqb-true, eq-eqb}
use Rattle.std.proofs.lemmas.List.{length-map}
use Rattle.std.proofs.lemmas.List.Elements.{All-contains}
use Rattle.program_runs.specs.Runs.{Faulted}
use Rattle.t_base.specs.declared.builtins.Builtin.{Builtin}
use Rattle.t_base.specs.declared.faults.Fault.TheVariants.{WrongCount, NotHandled}
use Rattle.t_prim.specs.Values.{Val, FixV, CharV, NilV, TrueV, SymbolV, StringV, PairV, VectorV, ClosureV, ObjectV, OperationV, BuiltinV, EscapeV}
use Rattle.word_ir.specs.Word.{Word}
use Rattle.word_ir.specs.Storage.{Regions}
use Rattle.word_ir.specs.Stamps.{Stamped}
use Rattle.frame_ir.specs.declared.forms.Block.{Block}
use Rattle.frame_ir.specs.declared.forms.Template.{Template}
use Rattle.frame_ir.specs.Values.{Value, Lasting, Object}
use Rattle.frame_ir.specs.States.{State, Doing, Calling, Looking, Entering, going, faulted, counted, or_wrong}
use Rattle.frame_ir.specs.Arguments.{bound, code_of_default, proc_count, default_count}
use Rattle.frame_ir.specs.Calls.{begun, methods_of, methods_at, operated, defaulted, looked, entered}
use Rattle.frame_ir.specs.Parts.{method_codes}
use Rattle.frame_ir.specs.Whole.{HasParams, IsCodeCount, IsMethodCount}
use Rattle.frame_ir.proofs.KindTexts.{contains_flat}
use Rattle.word_trees.specs.Trees.{Tree, Spells}
use Rattle.word_trees.specs.Leads.{Leads}
use Rattle.word_trees.proofs.Performing.{leads_more}
use Rattle.frame_words.specs.Layouts.{Layout, OperationOf, fixed_place}
use Rattle.frame_words.specs.Contents.{Escapes}
use Rattle.frame_reads.specs.Laws.{Fails}
use Rattle.frame_stacks.specs.Laws.{AreParameters, Begins}
use Rattle.frame_calls.specs.Codes.{call_params, entry_code}
use Rattle.frame_calls.specs.Calls.{Calls}
use Rattle.frame_methods.specs.Laws.{method_code}
use Rattle.frame_methods.proofs.Methods.{method_performs, method_fails}
use Rattle.frame_dispatch.specs.Codes.{look_code, apply_block}
use Rattle.frame_operations.specs.Calls.{AreMethods, Looks, methods_in, HasOperations}
use Rattle.frame_operations.proofs.Looking.{operation_looks, operation_of_none_fails}
use Rattle.frame_operations.proofs.Methods.{method_found, method_passed, default_taken, unhandled_fails}
use Rattle.word_selection.specs.Selections.{IsBlockOf, IsEntry}
use Rattle.selection_steps.specs.Settings.{Setting, choice_of, layout_of}
use Rattle.selection_steps.specs.Related.{ways_of, CallsAt, IsCalling, LooksAt, EntersMethod, EntersDefault, Keeps}
use Rattle.selection_steps.specs.Led.{saved, caught, Comes, Led}
use Rattle.selection_steps.proofs.Ending.{ends_by}
use Rattle.selection_runs.proofs.Blocks.{each_in, among_below, IsKnown, block_known}
use Rattle.selection_runs.proofs.Begun.{begun_runs, parameters_from}
use Rattle.selection_runs.proofs.Counted.{call_counted, calls_counted}
use Rattle.selection_runs.proofs.Entered.{leads_from, some_parameter, entry_comes}

-- ---- methods

methods_after : (l : Layout) (s : State) (moves : ℕ) (doing : Doing) (storage : Regions Word) (address : ℕ) (left : List (ℕ × ℕ)) → AreMethods l s storage address left → AreMethods l (record s { moves = moves; doing = doing }) storage address left
methods_after l s moves doing storage address [] h = h
methods_after l s moves doing storage address (k ∷ left) h = (h.0, h.1, h.2, methods_after l s moves doing storage (address + 8) left h.3)

-- a block that is there
record IsThere (o : Option Block) : Type 0 where
  block : Block
  is : o ≡ Some block

there_by : (P : Block → Type 0) (o : Option Block) → IsSomeAnd o P → IsThere o
there_by P (Some b) h = record { block = b; is = refl }
there_by P None h = absurd h

module _ (m : Setting) where
  method_block : (code : ℕ) → Contains (method_codes m.p) code → IsThere (slice_get m.p.blocks.items code)
  method_block code inside = there_by (λ b. IsMethodCount (length b.params)) (slice_get m.p.blocks.items code) (All-contains (HasParams m.p IsMethodCount) (method_codes m.p) code m.whole.blocks.methods inside)

  default_block : (code : ℕ) → code < proc_count m.p.shared + default_count m.p.shared → IsThere (slice_get m.p.blocks.items code)
  default_block code lt = there_by (λ b. IsCodeCount (length b.params)) (slice_get m.p.blocks.items code) (m.whole.blocks.first_codes code lt)

  has_operations : HasOperations (layout_of m)
  has_operations k known = each_in (λ n. is_some (fixed_place (layout_of m) (OperationOf n.0)) ≡ true) ((layout_of m).methods k) (λ n inside. m.selected.named.operations k n.0 n.1 known inside)

  methods_by : (s : State) (o : Option Object) → option_map_or (λ k. (layout_of m).methods k.template) o [] ≡ option_map_or (λ t. methods_of t.ops t.codes) (option_and_then (λ object. slice_get m.p.templates.items object.template) o) []
  methods_by s (Some k) = m.selected.named.methods k.template
  methods_by s None = refl

  same_methods : (s : State) (v : Val) → methods_in (layout_of m) s v ≡ methods_at m.p s v
  same_methods s (ObjectV i) = methods_by s (slice_get s.objects i)
  same_methods s (FixV n) = refl
  same_methods s (CharV n) = refl
  same_methods s NilV = refl
  same_methods s TrueV = refl
  same_methods s (SymbolV n) = refl
  same_methods s (StringV n) = refl
  same_methods s (PairV n) = refl
  same_methods s (VectorV n) = refl
  same_methods s (ClosureV n) = refl
  same_methods s (OperationV n) = refl
  same_methods s (BuiltinV n) = refl
  same_methods s (EscapeV n) = refl

  codes_of_list : (ops codes : List ℕ) → AllByRecursion (Contains (method_codes m.p)) codes → AllByRecursion (λ k. Contains (method_codes m.p) k.1) (methods_of ops codes)
  codes_of_list [] codes h = tt
  codes_of_list (o ∷ ops) [] h = tt
  codes_of_list (o ∷ ops) (code ∷ codes) h = (h.0, codes_of_list ops codes h.1)

  codes_by : (k : ℕ) (o : Option Template) → slice_get m.p.templates.items k ≡ o → AllByRecursion (λ n. Contains (method_codes m.p) n.1) (option_map_or (λ t. methods_of t.ops t.codes) o [])
  codes_by k (Some t) at = codes_of_list t.ops t.codes (each_in (Contains (method_codes m.p)) t.codes (λ y inside. contains_flat (λ (u : Template). u.codes) m.p.templates.items k t y at inside))
  codes_by k None at = tt

  codes_of_object : (o : Option Object) → AllByRecursion (λ n. Contains (method_codes m.p) n.1) (option_map_or (λ t. methods_of t.ops t.codes) (option_and_then (λ object. slice_get m.p.templates.items object.template) o) [])
  codes_of_object (Some k) = codes_by k.template (slice_get m.p.templates.items k.template) refl
  codes_of_object None = tt

  -- the codes of an object's methods are codes of methods
  pub codes_at : (s : State) (v : Val) → AllByRecursion (λ n. Contains (method_codes m.p) n.1) (methods_at m.p s v)
  codes_at s (ObjectV i) = codes_of_object (slice_get s.objects i)
  codes_at s (FixV n) = tt
  codes_at s (CharV n) = tt
  codes_at s NilV = tt
  codes_at s TrueV = tt
  codes_at s (SymbolV n) = tt
  codes_at s (StringV n) = tt
  codes_at s (PairV n) = tt
  codes_at s (VectorV n) = tt
  codes_at s (ClosureV n) = tt
  codes_at s (OperationV n) = tt
  codes_at s (BuiltinV n) = tt
  codes_at s (EscapeV n) = tt

  -- ---- the call

  module _ (s : State) (x : Stamped) (keeps : Keeps m s) where
    looks_at : (o : ℕ) (v : Val) (vs : List Val) (left : List (ℕ × ℕ)) (moves : ℕ) (e : Escapes) (born : ℕ → ℕ) → AllByRecursion (λ k. Contains (method_codes m.p) k.1) left → (y : Stamped)
        → Looks m.sizes (layout_of m) e (ways_of m born) m.selected.blocks.look.t s o left (v ∷ vs) (choice_of m).look y → LooksAt m (record s { moves = moves; doing = Looking o left (v ∷ vs) }) o left (v ∷ vs) y
    looks_at o v vs left moves e born codes y q = record {
      escapes = e;
      born = born;
      first = v;
      others = vs;
      are = refl;
      codes = codes;
      looks = record {
        core = q.core;
        holds = record {
          call = call_counted m.sizes (layout_of m) e (ways_of m born) s moves (Looking o left (v ∷ vs)) m.selected.blocks.look.t (Lasting (OperationV o)) (v ∷ vs) q.core q.holds.call;
          address = q.holds.address;
          held = q.holds.held;
          methods = methods_after (layout_of m) s moves (Looking o left (v ∷ vs)) q.core.storage q.holds.address left q.holds.methods;
        };
        moves = q.moves;
        steps = q.steps;
        there = q.there;
      };
    }

    no_closure : (o i : ℕ) → Lasting (OperationV o) ≡ Lasting (ClosureV i) → ⊥
    no_closure o i eq = absurd (cc)

    no_builtin : (o : ℕ) (b : Builtin) → Lasting (OperationV o) ≡ Lasting (BuiltinV b) → ⊥
    no_builtin o b eq = absurd (cc)

    from_apply : (o : ℕ) (args : List Val) (P : Type 0) → IsCalling m s (Lasting (OperationV o)) args x → (CallsAt m s (Lasting (OperationV o)) args m.selected.blocks.apply.t (choice_of m).apply x → P) → P
    from_apply o args P (inl q) go = go q
    from_apply o args P (inr (inl q)) go = absurd (no_closure o q.i q.is)
    from_apply o args P (inr (inr q)) go = absurd (no_builtin o q.b q.is)

    pub operation_called : (codes : (v : Val) → AllByRecursion (λ k. Contains (method_codes m.p) k.1) (methods_at m.p s v)) (o : ℕ) (args : List Val) → s.doing ≡ Calling (Lasting (OperationV o)) args → IsCalling m s (Lasting (OperationV o)) args x → Led m s x (operated m.p o args (counted 1 s))
    operation_called codes o [] doing calling =
        let paid : saved s.doing ≡ 30 + 30 * 0 = ap saved doing in
        record {
          cost = 22;
          leads = from_apply o [] (Leads m.words m.sizes (Comes m s (faulted WrongCount (counted 1 s))) 1 22 x) calling
              (λ q.
              leads_from m (Fails m.sizes (layout_of m) q.escapes s WrongCount) (Comes m s (faulted WrongCount (counted 1 s))) 22 (apply_block m.selected.blocks.apply.t (choice_of m).apply (choice_of m).look (choice_of m).kill) q.calls.core (choice_of m).apply q.calls.moves q.calls.steps x m.selected.blocks.apply.spelled q.calls.there
              (operation_of_none_fails m.words m.sizes (layout_of m) q.escapes (ways_of m q.born) m.selected.blocks.apply.t s o q.calls.core (choice_of m).apply (choice_of m).look (choice_of m).kill q.calls.holds)
              (λ z f. ends_by m s s q.escapes (Faulted WrongCount) (s.moves + 1) z keeps (record { core = f.core; data_held = f.data_held; block = f.block; place = f.place; moves = f.moves; steps = f.steps; there = f.there })));
          moves = omega (arith, paid);
        }
    operation_called codes o (v ∷ vs) doing calling =
        let paid : saved s.doing ≡ 30 + 30 * length (v ∷ vs) = ap saved doing in
        record {
          cost = 40;
          leads = from_apply o (v ∷ vs) (Leads m.words m.sizes (Comes m s (going (Looking o (methods_at m.p s v) (v ∷ vs)) (counted 1 s))) 1 40 x) calling
              (λ q.
              leads_from m (Looks m.sizes (layout_of m) q.escapes (ways_of m q.born) m.selected.blocks.look.t s o (methods_in (layout_of m) s v) (v ∷ vs) (choice_of m).look) (Comes m s (going (Looking o (methods_at m.p s v) (v ∷ vs)) (counted 1 s))) 40
              (apply_block m.selected.blocks.apply.t (choice_of m).apply (choice_of m).look (choice_of m).kill) q.calls.core (choice_of m).apply q.calls.moves q.calls.steps x m.selected.blocks.apply.spelled q.calls.there
              (operation_looks m.words m.sizes (layout_of m) q.escapes (ways_of m q.born) m.selected.blocks.apply.t m.selected.blocks.look.t s o v vs q.calls.core (choice_of m).apply (choice_of m).look (choice_of m).kill m.selected.blocks.look.target q.calls.holds has_operations m.selected.blocks.look.there m.selected.blocks.look.are)
              (λ z k. inl (
                keeps,
                looks_at o v vs (methods_at m.p s v) (s.moves + 1) q.escapes q.born (codes v) z
                    (subst (λ left. Looks m.sizes (layout_of m) q.escapes (ways_of m q.born) m.selected.blocks.look.t s o left (v ∷ vs) (choice_of m).look z) (same_methods s v) k),
              )));
          moves = omega (arith, paid);
        }

    -- ---- the loop

    module _ (o : ℕ) (v : Val) (vs : List Val) where
      abbrev look_tree : Tree
      look_tree = look_code m.selected.blocks.look.t (choice_of m).look

      abbrev IsAt : Escapes → (ℕ → ℕ) → List (ℕ × ℕ) → Type 0
      IsAt e born left = Looks m.sizes (layout_of m) e (ways_of m born) m.selected.blocks.look.t s o left (v ∷ vs) (choice_of m).look x

      default_led : (d : Option ℕ) → code_of_default m.p.shared o ≡ d → s.doing ≡ Looking o [] (v ∷ vs) → (e : Escapes) (born : ℕ → ℕ) → IsAt e born [] → Led m s x (defaulted m.p d o (v ∷ vs) (counted 1 s))
      default_led None is doing e born q =
          let paid : saved s.doing ≡ 30 * length (v ∷ vs) = ap saved doing in
          record {
            cost = 15;
            leads = leads_from m (Fails m.sizes (layout_of m) e s NotHandled) (Comes m s (faulted NotHandled (counted 1 s))) 15 look_tree q.core (choice_of m).look q.moves q.steps x m.selected.blocks.look.spelled q.there
                (unhandled_fails m.words m.sizes (layout_of m) e (ways_of m born) m.selected.blocks.look.t s o (v ∷ vs) q.core (choice_of m).look q.holds (m.selected.named.defaults o ∙ ap (option_map (layout_of m).closure_entry) is))
                (λ z f. ends_by m s s e (Faulted NotHandled) (s.moves + 1) z keeps (record { core = f.core; data_held = f.data_held; block = f.block; place = f.place; moves = f.moves; steps = f.steps; there = f.there }));
            moves = omega (arith, paid);
          }
      default_led (Some code) is doing e born q =
          let paid : saved s.doing ≡ 30 * length (v ∷ vs) = ap saved doing in
          let below : code < proc_count m.p.shared + default_count m.p.shared = among_below m (λ info. info.default) m.p.shared.ops.items (proc_count m.p.shared) o code is in
          let b : IsThere (slice_get m.p.blocks.items code) = default_block code below in
          let entry : IsEntry (choice_of m) m.words ((layout_of m).closure_entry code) call_params (λ t. entry_code t (length b.block.params - 1) ((choice_of m).begins code)) = m.selected.blocks.closures code b.block (inr below) b.is in
          let n = length-map (v ∷ vs) Lasting in
          record {
            cost = 22;
            leads = leads_from m (Calls m.sizes (layout_of m) e (ways_of m born) entry.t s (Lasting (OperationV o)) (v ∷ vs) ((layout_of m).closure_entry code)) (Comes m s (going (Entering code (Lasting (OperationV o) ∷ map Lasting (v ∷ vs))) (counted 1 s))) 22 look_tree q.core (choice_of m).look q.moves q.steps x m.selected.blocks.look.spelled q.there
                (default_taken m.words m.sizes (layout_of m) e (ways_of m born) m.selected.blocks.look.t entry.t s o ((layout_of m).closure_entry code) (v ∷ vs) q.core (choice_of m).look entry.target q.holds (m.selected.named.defaults o ∙ ap (option_map (layout_of m).closure_entry) is) entry.there entry.are)
                (λ z k. inl (
                  keeps,
                  inr (record {
                    f = Lasting (OperationV o);
                    args = v ∷ vs;
                    are = refl;
                    block = b.block;
                    found = b.is;
                    is_code = inr below;
                    entry = entry;
                    calls = record { escapes = e; born = born; calls = calls_counted m.sizes (layout_of m) e (ways_of m born) s (s.moves + 1) (Entering code (Lasting (OperationV o) ∷ map Lasting (v ∷ vs))) entry.t (Lasting (OperationV o)) (v ∷ vs) ((layout_of m).closure_entry code) z k };
                  }),
                ));
            moves = omega (arith, paid, n);
          }

      method_led : (k : ℕ × ℕ) (left : List (ℕ × ℕ)) (same : Bool) → (k.0 == o) ≡ same → s.doing ≡ Looking o (k ∷ left) (v ∷ vs) → Contains (method_codes m.p) k.1 → AllByRecursion (λ n. Contains (method_codes m.p) n.1) left
          → (e : Escapes) (born : ℕ → ℕ) → IsAt e born (k ∷ left) → Led m s x (going (if same then Entering k.1 (map Lasting (v ∷ vs)) else Looking o left (v ∷ vs)) (counted 1 s))
      method_led k left true is doing inside codes e born q =
          let paid : saved s.doing ≡ 30 * length (v ∷ vs) = ap saved doing in
          let b : IsThere (slice_get m.p.blocks.items k.1) = method_block k.1 inside in
          let entry : IsEntry (choice_of m) m.words ((layout_of m).method_entry k.1) call_params (λ t. method_code t (length b.block.params) ((choice_of m).begins k.1)) = m.selected.blocks.methods k.1 b.block inside b.is in
          let n = length-map (v ∷ vs) Lasting in
          record {
            cost = 16;
            leads = leads_from m (Calls m.sizes (layout_of m) e (ways_of m born) entry.t s (Lasting v) (v ∷ vs) ((layout_of m).method_entry k.1)) (Comes m s (going (Entering k.1 (map Lasting (v ∷ vs))) (counted 1 s))) 16 look_tree q.core (choice_of m).look q.moves q.steps x m.selected.blocks.look.spelled q.there
                (method_found m.words m.sizes (layout_of m) e (ways_of m born) m.selected.blocks.look.t entry.t s o k left v vs q.core (choice_of m).look entry.target q.holds is entry.there entry.are)
                (λ z c. inl (
                  keeps,
                  inl (record {
                    f = Lasting v;
                    args = v ∷ vs;
                    are = refl;
                    block = b.block;
                    found = b.is;
                    entry = entry;
                    calls = record { escapes = e; born = born; calls = calls_counted m.sizes (layout_of m) e (ways_of m born) s (s.moves + 1) (Entering k.1 (map Lasting (v ∷ vs))) entry.t (Lasting v) (v ∷ vs) ((layout_of m).method_entry k.1) z c };
                  }),
                ));
            moves = omega (arith, paid, n);
          }
      method_led k left false is doing inside codes e born q =
          let paid : saved s.doing ≡ 30 * length (v ∷ vs) = ap saved doing in
          record {
            cost = 20;
            leads = leads_from m (Looks m.sizes (layout_of m) e (ways_of m born) m.selected.blocks.look.t s o left (v ∷ vs) (choice_of m).look) (Comes m s (going (Looking o left (v ∷ vs)) (counted 1 s))) 20 look_tree q.core (choice_of m).look q.moves q.steps x m.selected.blocks.look.spelled q.there
                (method_passed m.words m.sizes (layout_of m) e (ways_of m born) m.selected.blocks.look.t s o k left (v ∷ vs) q.core (choice_of m).look m.selected.blocks.look.target q.holds is m.selected.blocks.look.there m.selected.blocks.look.are)
                (λ z c. inl (keeps, looks_at o v vs left (s.moves + 1) e born codes z c));
            moves = omega (arith, paid);
          }

      looked_by : (left : List (ℕ × ℕ)) → s.doing ≡ Looking o left (v ∷ vs) → AllByRecursion (λ n. Contains (method_codes m.p) n.1) left → (e : Escapes) (born : ℕ → ℕ) → IsAt e born left → Led m s x (looked m.p o left (v ∷ vs) (counted 1 s))
      looked_by [] doing codes e born q = default_led (code_of_default m.p.shared o) refl doing e born q
      looked_by (k ∷ left) doing codes e born q = method_led k left (k.0 == o) refl doing codes.0 codes.1 e born q

    pub look_led : (o : ℕ) (left : List (ℕ × ℕ)) (args : List Val) → s.doing ≡ Looking o left args → LooksAt m s o left args x → Led m s x (looked m.p o left args (counted 1 s))
    look_led o left args doing q =
        subst (λ vs. Led m s x (looked m.p o left vs (counted 1 s))) (sym q.are)
        (looked_by o q.first q.others left (doing ∙ ap (Looking o left) q.are) q.codes q.escapes q.born (subst (λ vs. Looks m.sizes (layout_of m) q.escapes (ways_of m q.born) m.selected.blocks.look.t s o left vs (choice_of m).look x) q.are q.looks))

    -- ---- entries

    module _ (code : ℕ) (b : Block) (found : slice_get m.p.blocks.items code ≡ Some b) where
      abbrev behind : List Value → Bool → State
      behind vs same = if same then begun b (bound b.params vs) (counted 1 s) else faulted WrongCount (counted 1 s)

      behind_moves : (vs : List Value) (same : Bool) → (behind vs same).moves ≡ s.moves + 1
      behind_moves vs true = refl
      behind_moves vs false = refl

      behind_saves : (vs : List Value) (same : Bool) → saved (behind vs same).doing ≡ 0
      behind_saves vs true = refl
      behind_saves vs false = refl

      behind_caught : (vs : List Value) (same : Bool) → caught (behind vs same).frames (behind vs same).live ≡ caught s.frames s.live
      behind_caught vs true = refl
      behind_caught vs false = refl

      method_by : (e : Escapes) (born : ℕ → ℕ) (f : Value) (args : List Val) (entry : IsEntry (choice_of m) m.words ((layout_of m).method_entry code) call_params (λ t. method_code t (length b.params) ((choice_of m).begins code))) (same : Bool)
          → (length b.params == length (map Lasting args)) ≡ same → Calls m.sizes (layout_of m) e (ways_of m born) entry.t s f args ((layout_of m).method_entry code) x → Leads m.words m.sizes (Comes m s (behind (map Lasting args) same)) 1 (5 + 3 * length args) x
      method_by e born f args entry true eq o =
          let h : IsBlockOf (choice_of m) m.p m.words code b = m.selected.blocks.blocks code b found in
          let known : IsKnown m b = block_known m code b found in
          let n = length-map args Lasting in
          let same : length b.params ≡ length (map Lasting args) = eqb-true (length b.params) (length (map Lasting args)) eq in
          let count : length b.params ≡ length args = same ∙ n in
          leads_more m.words m.sizes (Comes m s (begun b (bound b.params (map Lasting args)) (counted 1 s))) 1 (4 + 3 * length args) (5 + 3 * length args) x (omega arith)
          (leads_from m (Begins m.sizes (layout_of m) e (ways_of m born) entry.t s (bound h.target.params (map Lasting args)) code) (Comes m s (begun b (bound b.params (map Lasting args)) (counted 1 s))) (4 + 3 * length args)
          (method_code entry.t (length args) ((choice_of m).begins code)) o.core ((layout_of m).method_entry code) o.moves o.steps x
          (subst (λ k. Spells m.words ((layout_of m).method_entry code) 0 (method_code entry.t k ((choice_of m).begins code))) count entry.spelled) o.there
          (method_performs m.words m.sizes (layout_of m) e (ways_of m born) entry.t s f args o.core code h.target o.holds h.there (ap length h.params ∙ count) (subst (AreParameters entry.t) (sym h.params) (parameters_from (choice_of m).free entry.t b.params entry.above known.params)))
          (λ z q. begun_runs m s e born entry.t code b (map Lasting args) (s.moves + 1) s z found keeps (subst (λ ps. Begins m.sizes (layout_of m) e (ways_of m born) entry.t s (bound ps (map Lasting args)) code z) h.params q)))
      method_by e born f args entry false eq o =
          let n = length-map args Lasting in
          let differs : length args ≡ length b.params → ⊥ = λ count. absurd (let same : length b.params ≡ length (map Lasting args) = omega (arith, count, n) in let is = eq-eqb (length b.params) (length (map Lasting args)) same in cc) in
          leads_more m.words m.sizes (Comes m s (faulted WrongCount (counted 1 s))) 1 5 (5 + 3 * length args) x (omega arith)
          (leads_from m (Fails m.sizes (layout_of m) e s WrongCount) (Comes m s (faulted WrongCount (counted 1 s))) 5 (method_code entry.t (length b.params) ((choice_of m).begins code)) o.core ((layout_of m).method_entry code) o.moves o.steps x entry.spelled o.there
          (method_fails m.words m.sizes (layout_of m) e (ways_of m born) entry.t s f args o.core (length b.params) ((choice_of m).begins code) o.holds differs)
          (λ z q. ends_by m s s e (Faulted WrongCount) (s.moves + 1) z keeps (record { core = q.core; data_held = q.data_held; block = q.block; place = q.place; moves = q.moves; steps = q.steps; there = q.there })))

      behind_led : (vs : List Value) (cost : ℕ) → s.doing ≡ Entering code vs → cost ≤ 40 + 3 * length vs → Leads m.words m.sizes (Comes m s (behind vs (length b.params == length vs))) 1 cost x → Led m s x (entered m.p code vs (counted 1 s))
      behind_led vs cost doing within leads =
          let paid : saved s.doing ≡ 3 * length vs = ap saved doing in
          let moves = behind_moves vs (length b.params == length vs) in
          let none = behind_saves vs (length b.params == length vs) in
          let same = behind_caught vs (length b.params == length vs) in
          subst (λ o. Led m s x (or_wrong o (counted 1 s) (λ c. if length c.params == length vs then begun c (bound c.params vs) (counted 1 s) else faulted WrongCount (counted 1 s)))) (sym found)
          (record { cost = cost; leads = leads; moves = omega (arith, paid, moves, none, within, same) })

    method_entered : (code : ℕ) (vs : List Value) → s.doing ≡ Entering code vs → EntersMethod m s code vs x → Led m s x (entered m.p code vs (counted 1 s))
    method_entered code vs doing q =
        let n = length-map q.args Lasting in
        subst (λ ws. s.doing ≡ Entering code ws → Led m s x (entered m.p code ws (counted 1 s))) (sym q.are)
        (λ d. behind_led code q.block q.found (map Lasting q.args) (5 + 3 * length q.args) d (omega (arith, n))
        (method_by code q.block q.found q.calls.escapes q.calls.born q.f q.args q.entry (length q.block.params == length (map Lasting q.args)) refl q.calls.calls)) doing

    default_entered : (code : ℕ) (vs : List Value) → s.doing ≡ Entering code vs → EntersDefault m s code vs x → Led m s x (entered m.p code vs (counted 1 s))
    default_entered code vs doing q =
        let n = length-map q.args Lasting in
        subst (λ ws. s.doing ≡ Entering code ws → Led m s x (entered m.p code ws (counted 1 s))) (sym q.are)
        (λ d. behind_led code q.block q.found (q.f ∷ map Lasting q.args) (5 + 3 * length q.args) d (omega (arith, n))
        (entry_comes m s keeps q.calls.escapes q.calls.born q.f q.args code q.block q.found (some_parameter m code q.block q.is_code q.found) ((layout_of m).closure_entry code) q.entry x q.calls.calls)) doing

    pub entering_led : (code : ℕ) (vs : List Value) → s.doing ≡ Entering code vs → EntersMethod m s code vs x ⊎ EntersDefault m s code vs x → Led m s x (entered m.p code vs (counted 1 s))
    entering_led code vs doing (inl q) = method_entered code vs doing q
    entering_led code vs doing (inr q) = default_entered code vs doing q
