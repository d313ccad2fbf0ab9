-- Objects.
use Rattle.std.proofs.Common.{◌≡◌, ℕ, suc, ◌+◌, ◌*◌, ◌≤◌, ◌==◌, true, if◌then◌else◌, List, [], ◌∷◌, ◌++◌, length, map, Some, slice_get, refl, sym, ap, subst, ◌∙◌, arith, inl}
use Rattle.t_base.specs.declared.basics.Var.{Var}
use Rattle.t_prim.specs.Values.{Val, ObjectV}
use Rattle.std.specs.Prelude.{zip}
use Rattle.std.specs.List.{list_all}
use Rattle.std.specs.Option.{option_map}
use Rattle.cps_ir.specs.declared.args.Arg.{Arg}
use Rattle.cps_ir.specs.declared.terms.Cont.{Cont}
use Rattle.cps_ir.specs.declared.terms.Term.TheVariants as Node
use Rattle.cps_ir.specs.declared.terms.Cps.{Cps}
use Rattle.cps_ir.specs.States.{Scope, State, Program, marked, all_escape, Object, Handler, taking as taking_to, with_object as with_object_to}
use Rattle.cps_ir.specs.Giving.{with_arg, provided, record_words as most_words, way, give}
use Rattle.cps_ir.specs.Running.{performed, handlers_of}
use Rattle.cps_ir.specs.declared.args.Arg.TheVariants as FrameArgument
use Rattle.frame_ir.specs.declared.forms.Template.{Template}
use Rattle.frame_ir.specs.declared.forms.FrameOp.{FrameOp}
use Rattle.frame_ir.specs.declared.forms.FrameOp.TheVariants as Op
use Rattle.frame_ir.specs.declared.forms.FrameEnd.{FrameEnd}
use Rattle.frame_ir.specs.declared.forms.Frames.{Frames}
use Rattle.frame_ir.specs.Values.{Value, Lasting, Object as FrameObject, is_lasting, record_words, Env}
use Rattle.frame_ir.specs.States.{Running, State as FrameState, going, wrong, counted, taking, with_object, or_wrong}
use Rattle.frame_ir.specs.Arguments.{kept_values}
use Rattle.frame_ir.specs.Calls.{methods_of}
use Rattle.frame_ir.specs.Running.{step}
use Rattle.layout_relation.specs.Links.{Zipped, zip_none, zip_one, Links, Extends, SameVal, object}
use Rattle.layout_relation.specs.Contexts.{Context, IsUnused}
use Rattle.layout_relation.specs.Laid.{Sketch, IsMethod, AreHeld, Prepares, Gives, IsLaidOut}
use Rattle.layout_relation.specs.Related.{SameMade, SameHandler, SameObject, AreCaptured}
use Rattle.layout_relation.proofs.Growing.{waits_grow, hold_grows, val_grows, captured_grows, store_grows, globals_grow, cells_grow, objects_grow, closure_grows}
use Rattle.layout_relation.proofs.Lists.{zip_join, zip_length, zipped_length}
use Rattle.layout_relation.proofs.Making.{kept_all, even_most}
use Rattle.layout_relation.proofs.Stepping.{given_store}
use Rattle.layout_relation.proofs.Bringing.{brings, waits_behind}
use Rattle.layout_relation.proofs.Handing.{LowBelow, Reaches, reaches_after, give_moves}
use Rattle.layout_relation.proofs.Staged.{Staged, first}

module _ (cps : Cps) (p : Frames) (laid : IsLaidOut cps p) (Low : ℕ → ℕ → Type 0) where
  abbrev w : Sketch
  w = laid.sketch

  abbrev P : Program
  P = marked cps all_escape

  one_longer : {X : Type 0} (xs : List X) (x : X) → length (xs ++ x ∷ []) ≡ suc (length xs)
  one_longer [] x = refl
  one_longer (y ∷ xs) x = ap suc (one_longer xs x)

  -- a method for an operation, and its code
  abbrev handler : Scope → ℕ × ℕ → Handler
  handler scope m = record { op = m.0; closure = record { lam = m.1; scope = scope } }

  same_handlers : (links : Links) (scope : Scope) (needs : List ℕ) (captured : List Value) (xs ys : List (ℕ × ℕ)) → AreCaptured w links scope needs captured → Zipped (IsMethod w needs) xs ys → Zipped (SameHandler w links captured needs) (map (handler scope) xs) ys
  same_handlers links scope needs captured xs ys holds zip_none = zip_none
  same_handlers links scope needs captured xs ys holds (zip_one x y us vs h rest) = zip_one (handler scope x) y (map (handler scope) us) vs (record { op = h.op; runs = h.runs; holds = holds }) (same_handlers links scope needs captured us vs holds rest)

  abbrev more_objects : Links → ℕ → Links
  more_objects links n = record links { objects = n }

  more_extends : (links : Links) (n : ℕ) → links.objects ≤ n → Extends links (more_objects links n)
  more_extends links n le = record { closures = λ i j h. h; escapes = λ i j h. h; objects = le; cells = omega arith }

  new_object_made : (links : Links) (s : State) (u : FrameState) (x : Object) (y : FrameObject) (n m : ℕ) → m ≤ n → SameObject w (more_objects links (suc (length s.objects))) x y → SameMade cps w links s u → SameMade cps w (more_objects links (suc (length s.objects))) (taking_to n (with_object_to s x)) (taking m (with_object u y))
  new_object_made links s u x y n m le same made =
      let new = more_objects links (suc (length s.objects)) in
      let more = more_extends links (suc (length s.objects)) (let up = made.objected in omega (arith, up)) in
      let st = store_grows links new more s.store u.store made.store in
      record {
        one = record { closures = made.one.closures; escapes = made.one.escapes };
        store = record { names = st.names; strings = st.strings; pairs = st.pairs; vectors = st.vectors; output = st.output; heap = let low = st.heap in omega (arith, low, le) };
        closures = λ i j h. let at = made.closures i j h in record { left = at.left; right = at.right; is = at.is; at = at.at; same = closure_grows links new more w at.left at.right at.same };
        globals = globals_grow links new more s.globals u.globals made.globals;
        count = made.count;
        procedures = made.procedures;
        cells = cells_grow links new more s.locations u.cells made.cells;
        objects = zip_join (SameObject w new) s.objects u.objects (x ∷ []) (y ∷ []) (objects_grow links new more w s.objects u.objects made.objects) (same, tt);
        located = made.located;
        objected = let n = one_longer s.objects x in omega (arith, n);
        escapes = made.escapes;
      }

  pub object_reaches : (c : Context) (t : ℕ) (scope : Scope) (env : Env) (s : State) (u : FrameState) (proc : Arg) (names methods : List ℕ) (k : Cont) (ms : List FrameOp) (b : Arg) (template : ℕ) (shape : Template) (needs : List ℕ) (kept : List Var) (to : Var) (ops : List FrameOp) (last : FrameEnd)
      → Prepares cps w c.vars (proc ∷ []) ms (b ∷ []) → (length names == length methods) ≡ true → slice_get w.templates template ≡ Some shape → Zipped (IsMethod w needs) (zip names methods) (methods_of shape.ops shape.codes) → AreHeld c.vars needs kept → length needs ≤ cps.shared.size
      → IsUnused c.vars to.0 → Gives cps w c t k (FrameArgument.Var to) ops last → Staged cps p w Low c scope env s (performed P scope (Node.Object proc names methods k) s) u
      → Reaches cps p w Low (performed P scope (Node.Object proc names methods k) s) (going (Running (ms ++ Op.Object to template b kept ∷ ops) last env) u) (1 * (1 + cps.shared.size) + ((2 + length kept) + give_moves cps p laid Low)) (w.rank t)
  object_reaches c t scope env s u proc names methods k ms b template shape needs kept to ops last d count is_shape are_methods held_by small unused onward st =
      let f = first cps p laid Low st.links scope c.vars s u proc [] ms (Op.Object to template b kept ∷ ops) b [] last env st.made st.held d refl in
      let q = f.x in
      let keeps = kept_all w q.links2 scope q.env2 c.vars needs kept q.held held_by in
      let x : Object = record { procedure = f.v; handlers = handlers_of names methods scope } in
      let y : FrameObject = record { procedure = f.r; template = template; captured = keeps.values } in
      let i = length q.left.objects in
      let j = length q.right.objects in
      let go : State → Val → List Val → State = λ t v vs. give P scope k (ObjectV (length t.objects)) (taking_to (most_words cps) (with_object_to t (record { procedure = v; handlers = handlers_of names methods scope }))) in
      let s2 = taking_to (most_words cps) (with_object_to q.left x) in
      let final = give P scope k (ObjectV i) s2 in
      let there : performed P scope (Node.Object proc names methods k) s ≡ final = ap (λ z. provided z s (λ r. with_arg P scope proc r (λ t v. go t v []))) count ∙ f.gives go in
      let heap : (performed P scope (Node.Object proc names methods k) s).store.heap ≡ s2.store.heap = ap (λ z. z.store.heap) there ∙ ap (λ z. z.heap) (given_store cps p laid Low (way scope k) (ObjectV i) s2) in
      let new = more_objects q.links2 (suc i) in
      let more = more_extends q.links2 (suc i) (let up = q.made.objected in omega (arith, up)) in
      let numbers : i ≡ j = zip_length (SameObject w q.links2) q.left.objects q.right.objects q.made.objects in
      let same : SameObject w new x y = record {
        procedure = val_grows q.links2 new more f.v f.r f.same;
        kept = needs;
        methods = methods_of shape.ops shape.codes;
        template = ap (option_map (λ t. methods_of t.ops t.codes)) is_shape;
        handlers = same_handlers new scope needs keeps.values (zip names methods) (methods_of shape.ops shape.codes) (captured_grows q.links2 new more w scope needs keeps.values keeps.captured) are_methods;
      } in
      let words : record_words (length kept) ≤ most_words cps = even_most cps w laid.small (length kept) cps.shared.size (let a = zipped_length _ _ _ held_by in omega (arith, a, small)) in
      let made2 = new_object_made q.links2 q.left q.right x y (most_words cps) (record_words (length kept)) words same q.made in
      let at = going (Running (Op.Object to template b kept ∷ ops) last q.env2) q.right in
      let u2 = counted (2 + length kept) (taking (record_words (length kept)) (with_object q.right y)) in
      let on : Val → List Value → FrameState = λ f vs. going (Running ops last ((to.0, Lasting (ObjectV (length at.objects))) ∷ q.env2)) (counted (2 + length kept) (taking (record_words (length kept)) (with_object at (record { procedure = f; template = template; captured = vs })))) in
      let one : step p at ≡ going (Running ops last ((to.0, Lasting (ObjectV j)) ∷ q.env2)) u2 =
      ap (λ o. or_wrong o at (λ f. or_wrong (kept_values q.env2 kept) at (λ vs. if list_all is_lasting vs then on f vs else wrong at))) f.reads
      ∙ ap (λ o. or_wrong o at (λ vs. if list_all is_lasting vs then on f.r vs else wrong at)) keeps.are
      ∙ ap (λ z. if z then on f.r keeps.values else wrong at) keeps.lasting in
      let waits0 = waits_behind cps p laid Low st.links q.links2 c s q.left u q.right q.extends st.waits q.waiting q.frames q.live in
      let waits = waits_grow q.links2 new more w q.right.frames q.right.frames (λ i f h. h) c.catches q.left.waiting q.right.live waits0 in
      let lows : LowBelow cps p laid Low u2 = λ n le. st.low u2.store.heap n (let a = made2.store.heap in omega (arith, a, heap)) (inl (let e = ap length q.live in omega (arith, le, e))) in
      let values : SameVal new (ObjectV i) (ObjectV j) = subst (λ n. SameVal new (ObjectV i) (ObjectV n)) numbers (object i (omega arith)) in
      let path = q.path (λ h le. st.low h (length u.live) (omega (arith, le, heap)) (inl (omega arith))) in
      subst (λ f. Reaches cps p w Low f (going (Running (ms ++ Op.Object to template b kept ∷ ops) last env) u) (1 * (1 + cps.shared.size) + ((2 + length kept) + give_moves cps p laid Low)) (w.rank t)) (sym there)
      (reaches_after cps p w Low final (going (Running (ms ++ Op.Object to template b kept ∷ ops) last env) u) at (1 * (1 + cps.shared.size)) ((2 + length kept) + give_moves cps p laid Low) (w.rank t) path
      (brings cps p laid Low new c t scope q.env2 s2 at u2 k to ops last (ObjectV i) (ObjectV j) (2 + length kept) unused onward values made2 (hold_grows q.links2 new more w scope q.env2 c.vars q.held) st.leads waits lows one (omega arith)))
