-- Calls: what a procedure does at operands, on both sides.
use Rattle.std.proofs.Common.{◌≡◌, ◌≤◌, ℕ, suc, ◌+◌, ◌*◌, ◌==◌, Bool, true, false, if◌then◌else◌, List, [], ◌∷◌, ◌++◌, length, map, Some, None, slice_get, refl, sym, ap, subst, ◌∙◌, arith, length-append, append-nil}
use Rattle.std.specs.List.{AllByRecursion}
use Rattle.std.proofs.lemmas.Bool.{eq-eqb, ne_eqb, eqb-true, eqb-false}
use Rattle.program_runs.specs.Runs as runs
use Rattle.t_base.specs.declared.basics.Var.{Var}
use Rattle.t_base.specs.declared.faults.Fault.{Fault}
use Rattle.t_base.specs.declared.faults.Fault.TheVariants.{WrongCount}
use Rattle.t_prim.specs.Values.{Val, ClosureV, ObjectV}
use Rattle.cps_ir.specs.declared.terms.Lam.{Lam}
use Rattle.cps_ir.specs.declared.terms.Cps.{Cps}
use Rattle.cps_ir.specs.Reaches.{is_in}
use Rattle.cps_ir.specs.States.{Direct, Bound, Begun, Scope, At, State, Program, marked, all_escape, Closure, going as going_to, faulted as faulted_to}
use Rattle.cps_ir.specs.Giving.{meant_by, binding_all, or_broken}
use Rattle.cps_ir.specs.Calls.{begun as begun_to, entered as entered_to}
use Rattle.frame_ir.specs.declared.forms.FrameOp.{FrameOp}
use Rattle.frame_ir.specs.declared.forms.FrameOp.TheVariants as Op
use Rattle.frame_ir.specs.declared.forms.FrameEnd.TheVariants as Last
use Rattle.frame_ir.specs.declared.forms.Block.{Block}
use Rattle.frame_ir.specs.declared.forms.Frames.{Frames}
use Rattle.frame_ir.specs.Values.{Value, Lasting, Closure as FrameClosure, Env, value_at}
use Rattle.frame_ir.specs.States.{Running, Ended as EndedAt, State as FrameState, going, faulted, or_wrong}
use Rattle.frame_ir.specs.Arguments.{bound}
use Rattle.frame_ir.specs.Calls.{begun, entered}
use Rattle.layout_relation.specs.Links.{IsIn, Zipped, zip_none, zip_one, Links, SameVal}
use Rattle.layout_relation.specs.Contexts.{MethodOf, Begins, OwnExit, paired, Start, CodeOf}
use Rattle.layout_relation.specs.Laid.{AreHeld, Sketch, IsFor, numbers, AreDistinct, variables, Fetches, fetches_none, fetches_one, CodeFits, MethodFits, most_needs, IsLaidOut}
use Rattle.layout_relation.specs.Related.{IsObjectFirst, Leads, leads_own, leads_bound, HoldAll, IsCaptured, AreCaptured, Waits, SameMade, same_end}
use Rattle.layout_relation.proofs.Lists.{zipped_length, zipped_more, in_is_not, is_in_head}
use Rattle.layout_relation.proofs.Scopes.{other_meant, eqb_same}
use Rattle.layout_relation.proofs.Making.{kept_all}
use Rattle.layout_relation.proofs.Preparing.{remade}
use Rattle.layout_relation.proofs.Arriving.{bound_hold, bound_later, in_numbers, variables_read, variables_count, block_at, Arrives, arrives_after, arrives_more, jump_arrives, Fetched, fetched_none, closure_fetches, object_fetches}
use Rattle.layout_relation.proofs.Handing.{LowBelow, bound_to, direct_same, captured_inside}

-- parameters with operands, in the scope
abbrev pub bounds : List Var → List Val → Scope → Scope
bounds [] vs scope = scope
bounds (x ∷ xs) [] scope = scope
bounds (x ∷ xs) (v ∷ vs) scope = bounds xs vs (Bound x.0 (Direct v) ∷ scope)

numbers_count : (xs : List Var) → length (numbers xs) ≡ length xs
numbers_count [] = refl
numbers_count (x ∷ xs) = ap suc (numbers_count xs)

-- what isn't among the parameters stays
bounds_other : (xs : List Var) (vs : List Val) (scope : Scope) (y : ℕ) → is_in (numbers xs) y ≡ false → meant_by (bounds xs vs scope) y ≡ meant_by scope y
bounds_other [] vs scope y e = refl
bounds_other (x ∷ xs) [] scope y e = refl
bounds_other (x ∷ xs) (v ∷ vs) scope y e =
    let parts = is_in_head x.0 (numbers xs) y e in
    bounds_other xs vs (Bound x.0 (Direct v) ∷ scope) y parts.1 ∙ other_meant x.0 y (Direct v) scope parts.0

bounds_lead : (xs : List Var) (vs : List Val) (scope : Scope) (k : ℕ) → Leads scope (OwnExit k) → Leads (bounds xs vs scope) (OwnExit k)
bounds_lead [] vs scope k h = h
bounds_lead (x ∷ xs) [] scope k h = h
bounds_lead (x ∷ xs) (v ∷ vs) scope k h = bounds_lead xs vs (Bound x.0 (Direct v) ∷ scope) k (leads_bound x.0 (Direct v) scope (OwnExit k) tt h)

not_among : (xs : List ℕ) (x y : ℕ) → AllByRecursion (λ z. (is_in xs z ≡ false)) (x ∷ []) → IsIn y xs → (y == x) ≡ false
not_among xs x y h i = in_is_not xs x y h.0 i

-- ---- what is fetched of nothing

module _ (cps : Cps) (p : Frames) (laid : IsLaidOut cps p) (Low : ℕ → ℕ → Type 0) where
  abbrev w : Sketch
  w = laid.sketch

  abbrev P : Program
  P = marked cps all_escape

  pub bind_all : (xs : List Var) (vs : List Val) (scope : Scope) (s : State) (rest : Scope → State → State) → length xs ≡ length vs → binding_all P xs vs scope s rest ≡ rest (bounds xs vs scope) s
  bind_all [] [] scope s rest e = refl
  bind_all [] (v ∷ vs) scope s rest e = absurd (omega (arith, e))
  bind_all (x ∷ xs) [] scope s rest e = absurd (omega (arith, e))
  bind_all (x ∷ xs) (v ∷ vs) scope s rest e = bound_to cps p laid Low x.0 v scope s (λ inner t. binding_all P xs vs inner t rest) ∙ bind_all xs vs (Bound x.0 (Direct v) ∷ scope) s rest (omega (arith, e))

  -- parameters are captured by what they get
  params_captured : (links : Links) (xs : List Var) (vs us : List Val) (scope : Scope) → Zipped (SameVal links) vs us → length xs ≡ length vs → AreDistinct (numbers xs) → AllByRecursion (λ x. w.celled x ≡ false) (numbers xs)
      → AreCaptured w links (bounds xs vs scope) (numbers xs) (map Lasting us)
  params_captured links [] vs us scope zip_none e d plain = zip_none
  params_captured links (x ∷ xs) vs us scope zip_none e d plain = absurd (omega (arith, e))
  params_captured links [] vs us scope (zip_one v u vs2 us2 h rest) e d plain = absurd (omega (arith, e))
  params_captured links (x ∷ xs) vs us scope (zip_one v u vs2 us2 h rest) e d plain =
      zip_one x.0 (Lasting u) (numbers xs) (map Lasting us2)
      (record { meant = Direct v; is = bounds_other xs vs2 (Bound x.0 (Direct v) ∷ scope) x.0 d.0 ∙ ap (λ b. if b then Some (Direct v) else meant_by scope x.0) (eqb_same x.0); same = direct_same cps p laid Low links x.0 v u plain.0 h })
      (params_captured links xs vs2 us2 (Bound x.0 (Direct v) ∷ scope) rest (omega (arith, e)) d.1 plain.1)

  -- what was captured is captured behind the parameters
  captured_behind : (links : Links) (xs : List Var) (vs : List Val) (scope : Scope) (ys : List ℕ) (us : List Value) → AllByRecursion (λ x. is_in ys x ≡ false) (numbers xs) → AreCaptured w links scope ys us → AreCaptured w links (bounds xs vs scope) ys us
  captured_behind links [] vs scope ys us apart h = h
  captured_behind links (x ∷ xs) [] scope ys us apart h = h
  captured_behind links (x ∷ xs) (v ∷ vs) scope ys us apart h = captured_behind links xs vs (Bound x.0 (Direct v) ∷ scope) ys us apart.1 (captured_inside cps p laid Low links x.0 (Direct v) scope ys us apart.0 h)

  -- s2 is reached from y, in which nothing has changed since t
  pub record Stands (s2 : State) (t y : FrameState) (most : ℕ) : Type 0 where
    pub arrives : Arrives cps p w Low s2 y most
    pub moves : y.moves ≡ t.moves
    pub store : y.store ≡ t.store
    pub live : y.live ≡ t.live

  pub stands_by : (s2 s3 : State) (t y z : FrameState) (most : ℕ) → s2 ≡ s3 → y ≡ z → Stands s3 t z most → Stands s2 t y most
  stands_by s2 s3 t y z most e f h = subst (λ s. Stands s t y most) (sym e) (subst (λ x. Stands s3 t x most) (sym f) h)

  abbrev pub entry_moves : ℕ
  entry_moves = 3 * cps.shared.size + 25

  -- ---- a fault

  pub fault_stands : (links : Links) (s : State) (t : FrameState) (fault : Fault) (most : ℕ) → SameMade cps w links s t → Stands (faulted_to fault s) t (faulted fault t) most
  fault_stands links s t fault most made = record {
    arrives = record {
      end = faulted fault t;
      path = record { count = 0; goes = refl; moves = omega arith; low = λ i a b. absurd (omega (arith, a, b)) };
      related = record { links = links; made = remade cps w links s (faulted_to fault s) t (faulted fault t) made refl refl; doing = same_end (runs.Faulted fault) (EndedAt (runs.Faulted fault)) refl };
    };
    moves = refl;
    store = refl;
    live = refl;
  }

  -- ---- a code

  -- where a code finds what the procedure needs: it needs nothing, or in the record of its own closure
  pub data Source (links : Links) (t : FrameState) (c : Closure) (self : Val) : Type 0 where
    needs_none : w.needs c.lam ≡ [] → Source links t c self
    in_record : (i : ℕ) (r : FrameClosure) → self ≡ ClosureV i → slice_get t.closures i ≡ Some r → AreCaptured w links c.scope (w.needs c.lam) r.captured → Source links t c self

  fetches_of_none : (get : Var → ℕ → FrameOp) (apart : ℕ) (kept : List ℕ) (before behind : List (ℕ × ℕ)) (ops : List FrameOp) → Fetches get apart kept before behind ops → kept ≡ [] → (ops ≡ []) × (before ≡ behind)
  fetches_of_none get apart kept before behind ops (fetches_none vars) none = (refl, refl)
  fetches_of_none get apart kept before behind ops (fetches_one x y slot bs as_ ms e unused other more) none = absurd (never (ap (λ xs. slice_get xs slot) (sym none) ∙ e))
    where
      never : None ≡ Some x → ⊥
      never h = cc

  map_count : {A B : Type 0} (f : A → B) (xs : List A) → length (map f xs) ≡ length xs
  map_count f [] = refl
  map_count f (x ∷ xs) = ap suc (map_count f xs)

  both_apart : (needs xs : List ℕ) → AllByRecursion (λ x. (is_in needs x ≡ false) × (w.celled x ≡ false)) xs → AllByRecursion (λ x. is_in needs x ≡ false) xs × AllByRecursion (λ x. w.celled x ≡ false) xs
  both_apart needs [] h = (tt, tt)
  both_apart needs (x ∷ xs) h = let more = both_apart needs xs h.1 in ((h.0.0, more.0), (h.0.1, more.1))

  -- what holds of the codes of procedures and of methods alike
  record Tail (l : ℕ) (b : Block) : Type 0 where
    lam : Lam
    vars : List (ℕ × ℕ)
    ys : List Var
    body : ℕ
    few : length lam.params ≤ 20
    short : length b.ops.items ≤ most_needs cps
    goes : b.last ≡ Last.Jump body (variables ys)
    begins : IsFor w body (Begins (record { vars = numbers lam.params ++ w.needs l; exits = OwnExit lam.k.0; catches = []; term = lam.body }))
    held : AreHeld vars (numbers lam.params ++ w.needs l) ys

  abbrev code_tail : (l : ℕ) (b : Block) → CodeFits cps w l b → Tail l b
  code_tail l b fits = record { lam = fits.lam; vars = fits.vars; ys = fits.ys; body = fits.body; few = fits.few; short = fits.short; goes = fits.goes; begins = fits.begins; held = fits.held }

  -- the code has fetched what the procedure needs, and goes on to the body
  body_arrives : (links : Links) (s : State) (t : FrameState) (self : ℕ) (l : ℕ) (b : Block) (fits : Tail l b) (scope : Scope) (env : Env) → Fetched cps p laid Low links scope fits.vars b.ops.items [] b.last env t self (2 * length b.ops.items)
      → Leads scope (OwnExit fits.lam.k.0) → Waits w links t.frames [] s.waiting t.live → SameMade cps w links s t → LowBelow cps p laid Low t
      → Arrives cps p w Low (going_to (At fits.lam.body scope) s) (going (Running b.ops.items b.last env) t) entry_moves
  body_arrives links s t self l b fits scope env f leads waits made low =
      let s2 = going_to (At fits.lam.body scope) s in
      let u = f.state in
      let names = numbers fits.lam.params ++ w.needs l in
      let k = kept_all w links scope f.env2 fits.vars names fits.ys f.held fits.held in
      let start : Start = record { vars = names; exits = OwnExit fits.lam.k.0; catches = []; term = fits.lam.body } in
      let args = variables fits.ys in
      let lows = subst (λ st. Low st.heap (length u.live)) (sym (ap (λ x. x.store) f.counts.parts)) (subst (λ x. Low t.store.heap (length x)) (sym f.counts.live) (low (length t.live) (omega arith))) in
      let jumps = jump_arrives cps p laid Low links s2 u scope f.env2 fits.body start args k.values fits.begins (variables_read p.shared f.env2 fits.ys ∙ k.are) k.captured leads
      (subst (λ fs. Waits w links fs [] s.waiting u.live) (sym f.counts.frames) (subst (λ x. Waits w links t.frames [] s.waiting x) (sym f.counts.live) waits))
      (remade cps w links s s2 t u made refl f.counts.parts) refl lows in
      let here = subst (λ x. Arrives cps p w Low s2 (going (Running [] x f.env2) u) (1 + length args)) (sym fits.goes) jumps.0 in
      let whole = arrives_after cps p w Low s2 (going (Running (b.ops.items ++ []) b.last env) t) (going (Running [] b.last f.env2) u) (2 * length b.ops.items) (1 + length args) f.path here in
      let total = subst (λ os. Arrives cps p w Low s2 (going (Running os b.last env) t) (2 * length b.ops.items + (1 + length args))) (append-nil b.ops.items) whole in
      arrives_more cps p w Low s2 (going (Running b.ops.items b.last env) t) (2 * length b.ops.items + (1 + length args)) entry_moves
      (let a = fits.short in let c = variables_count fits.ys in let d = zipped_length _ _ _ fits.held in let e = length-append (numbers fits.lam.params) (w.needs l) in let g = numbers_count fits.lam.params in let i = fits.few in let j = laid.small l in omega (arith, a, c, d, e, g, i, j)) total

  begun_captured : (links : Links) (k : ℕ) (scope : Scope) (xs : List ℕ) (vs : List Value) → AreCaptured w links scope xs vs → AreCaptured w links (Begun k ∷ scope) xs vs
  begun_captured links k scope xs vs h = zipped_more (IsCaptured w links scope) (IsCaptured w links (Begun k ∷ scope)) (λ x v c. record { meant = c.meant; is = c.is; same = c.same }) xs vs h

  -- what the procedure needs is fetched from where it is
  source_fetches : (links : Links) (t : FrameState) (c : Closure) (b : Block) (fits : CodeFits cps w c.lam b) (self : Val) (scope : Scope) (env : Env) → value_at env fits.self.0 ≡ Some (Lasting self) → Source links t c self
      → ((us : List Value) → AreCaptured w links c.scope (w.needs c.lam) us → AreCaptured w links scope (w.needs c.lam) us) → HoldAll w links scope env (paired (numbers fits.lam.params) fits.params) → LowBelow cps p laid Low t
      → Fetched cps p laid Low links scope fits.vars b.ops.items [] b.last env t fits.self.0 (2 * length b.ops.items)
  source_fetches links t c b fits self scope env at (needs_none none) there held low =
      let e = fetches_of_none (λ y slot. Op.ClosureGet y fits.self slot) fits.self.0 (w.needs c.lam) (paired (numbers fits.lam.params) fits.params) fits.vars b.ops.items fits.fetches none in
      let plain = fetched_none cps p laid Low links scope fits.vars [] b.last env t fits.self.0 (subst (HoldAll w links scope env) e.1 held) in
      subst (λ os. Fetched cps p laid Low links scope fits.vars os [] b.last env t fits.self.0 (2 * length os)) (sym e.0) (subst (λ n. Fetched cps p laid Low links scope fits.vars [] [] b.last env t fits.self.0 n) (let z : 0 ≡ 2 * 0 = omega arith in z) plain)
  source_fetches links t c b fits self scope env at (in_record i r is_self is captured) there held low =
      closure_fetches cps p laid Low links scope (w.needs c.lam) fits.self (paired (numbers fits.lam.params) fits.params) fits.vars b.ops.items [] b.last env t i r (at ∙ ap (λ v. Some (Lasting v)) is_self) is (there r.captured captured) (low (length t.live) (omega arith)) held fits.fetches

  -- the code runs: as many operands as parameters
  runs_stand : (links : Links) (s : State) (t : FrameState) (c : Closure) (b : Block) (fits : CodeFits cps w c.lam b) (self : Val) (xs ys : List Val) → Source links t c self → Zipped (SameVal links) xs ys → Waits w links t.frames [] s.waiting t.live → SameMade cps w links s t → LowBelow cps p laid Low t
      → length fits.lam.params ≡ length xs → Stands (begun_to P fits.lam c xs s) t (begun b (bound b.params (Lasting self ∷ map Lasting ys)) t) entry_moves
  runs_stand links s t c b fits self xs ys source same waits made low count =
      let inner : Scope = Begun fits.lam.k.0 ∷ c.scope in
      let scope = bounds fits.lam.params xs inner in
      let s2 = going_to (At fits.lam.body scope) s in
      let there : begun_to P fits.lam c xs s ≡ s2 = bind_all fits.lam.params xs inner s (λ scope t. going_to (At fits.lam.body scope) t) count in
      let env : Env = (fits.self.0, Lasting self) ∷ bound fits.params (map Lasting ys) in
      let takes : begun b (bound b.params (Lasting self ∷ map Lasting ys)) t ≡ going (Running b.ops.items b.last env) t = ap (λ ps. going (Running b.ops.items b.last (bound ps (Lasting self ∷ map Lasting ys))) t) fits.takes in
      let parts = both_apart (w.needs c.lam) (numbers fits.lam.params) fits.apart in
      let names = numbers fits.lam.params in
      let captured = params_captured links fits.lam.params xs ys inner same count fits.once parts.1 in
      let held0 = bound_hold w links scope names (map Lasting ys) fits.params captured (let a = numbers_count fits.lam.params in let e = fits.count in omega (arith, a, e)) fits.distinct.1 in
      let held = bound_later w links scope (bound fits.params (map Lasting ys)) (paired names fits.params) fits.self.0 (Lasting self) (λ a d i. in_is_not (numbers fits.params) fits.self.0 d fits.distinct.0 (in_numbers names fits.params a d i)) held0 in
      let leads = bounds_lead fits.lam.params xs inner fits.lam.k.0 (leads_own fits.lam.k.0 c.scope) in
      stands_by (begun_to P fits.lam c xs s) s2 t (begun b (bound b.params (Lasting self ∷ map Lasting ys)) t) (going (Running b.ops.items b.last env) t) entry_moves there takes (record {
        arrives = body_arrives links s t fits.self.0 c.lam b (code_tail c.lam b fits) scope env (source_fetches links t c b fits self scope env (ap (λ x. if x then Some (Lasting self) else value_at (bound fits.params (map Lasting ys)) fits.self.0) (eqb_same fits.self.0)) source (λ us h. captured_behind links fits.lam.params xs inner (w.needs c.lam) us parts.0 (begun_captured links fits.lam.k.0 c.scope (w.needs c.lam) us h)) held low) leads waits made low;
        moves = refl;
        store = refl;
        live = refl;
      })

  wrong_count : (links : Links) (s : State) (t : FrameState) (c : Closure) (b : Block) (fits : CodeFits cps w c.lam b) (self : Val) (xs ys : List Val) → Source links t c self → Zipped (SameVal links) xs ys → Waits w links t.frames [] s.waiting t.live → SameMade cps w links s t → LowBelow cps p laid Low t
      → (n : Bool) → (length fits.lam.params == length xs) ≡ n → (length b.params == length (Lasting self ∷ map Lasting ys)) ≡ n
      → Stands (if n then begun_to P fits.lam c xs s else faulted_to WrongCount s) t (if n then begun b (bound b.params (Lasting self ∷ map Lasting ys)) t else faulted WrongCount t) entry_moves
  wrong_count links s t c b fits self xs ys source same waits made low true e f = runs_stand links s t c b fits self xs ys source same waits made low (eqb-true (length fits.lam.params) (length xs) e)
  wrong_count links s t c b fits self xs ys source same waits made low false e f = fault_stands links s t WrongCount entry_moves made

  counts_alike : (a b c d : ℕ) (n : Bool) → (a == b) ≡ n → (a ≡ b → c ≡ d) → (c ≡ d → a ≡ b) → (c == d) ≡ n
  counts_alike a b c d true e f g = eq-eqb c d (f (eqb-true a b e))
  counts_alike a b c d false e f g = ne_eqb c d (λ (h : c ≡ d). eqb-false a b e (g h))

  -- a procedure is entered
  pub entry_stands : (links : Links) (s : State) (t : FrameState) (c : Closure) (code : ℕ) (self : Val) (xs ys : List Val) → IsFor w code (CodeOf c.lam) → Source links t c self → Zipped (SameVal links) xs ys → Waits w links t.frames [] s.waiting t.live → SameMade cps w links s t → LowBelow cps p laid Low t
      → Stands (entered_to P c xs s) t (entered p code (Lasting self ∷ map Lasting ys) t) entry_moves
  entry_stands links s t c code self xs ys for source same waits made low =
      let at = block_at cps p laid code (CodeOf c.lam) for in
      let fits = at.fits in
      let vs = Lasting self ∷ map Lasting ys in
      let n = length fits.lam.params == length xs in
      let left : entered_to P c xs s ≡ (if n then begun_to P fits.lam c xs s else faulted_to WrongCount s) = ap (λ o. or_broken o s (λ lam. if length lam.params == length xs then begun_to P lam c xs s else faulted_to WrongCount s)) fits.is in
      let same_test : (length at.block.params == length vs) ≡ n =
      let a = ap length fits.takes in let b = fits.count in let d = map_count Lasting ys in let e = zipped_length _ _ _ same in
      counts_alike (length fits.lam.params) (length xs) (length at.block.params) (length vs) n refl (λ h. omega (arith, a, b, d, e, h)) (λ h. omega (arith, a, b, d, e, h)) in
      let right : entered p code vs t ≡ (if n then begun at.block (bound at.block.params vs) t else faulted WrongCount t) =
      ap (λ o. or_wrong o t (λ b. if length b.params == length vs then begun b (bound b.params vs) t else faulted WrongCount t)) at.is
      ∙ ap (λ x. if x then begun at.block (bound at.block.params vs) t else faulted WrongCount t) same_test in
      stands_by (entered_to P c xs s) (if n then begun_to P fits.lam c xs s else faulted_to WrongCount s) t (entered p code vs t) (if n then begun at.block (bound at.block.params vs) t else faulted WrongCount t) entry_moves left right
      (wrong_count links s t c at.block fits self xs ys source same waits made low n refl same_test)

  -- ---- a method

  abbrev method_tail : (l : ℕ) (kept : List ℕ) (b : Block) → MethodFits cps w l kept b → Tail l b
  method_tail l kept b fits = record { lam = fits.lam; vars = fits.vars; ys = fits.ys; body = fits.body; few = fits.few; short = fits.short; goes = fits.goes; begins = fits.begins; held = fits.held }

  method_runs : (links : Links) (s : State) (t : FrameState) (c : Closure) (b : Block) (kept : List ℕ) (fits : MethodFits cps w c.lam kept b) (captured : List Value) (xs ys : List Val) → AreCaptured w links c.scope kept captured → IsObjectFirst t.objects ys captured → Zipped (SameVal links) xs ys
      → Waits w links t.frames [] s.waiting t.live → SameMade cps w links s t → LowBelow cps p laid Low t → length fits.lam.params ≡ length xs → Stands (begun_to P fits.lam c xs s) t (begun b (bound b.params (map Lasting ys)) t) entry_moves
  method_runs links s t c b kept fits captured xs ys holds front same waits made low count =
      let inner : Scope = Begun fits.lam.k.0 ∷ c.scope in
      let scope = bounds fits.lam.params xs inner in
      let s2 = going_to (At fits.lam.body scope) s in
      let there : begun_to P fits.lam c xs s ≡ s2 = bind_all fits.lam.params xs inner s (λ scope t. going_to (At fits.lam.body scope) t) count in
      let env : Env = bound (fits.self ∷ fits.params) (map Lasting ys) in
      let takes : begun b (bound b.params (map Lasting ys)) t ≡ going (Running b.ops.items b.last env) t = ap (λ ps. going (Running b.ops.items b.last (bound ps (map Lasting ys))) t) fits.takes in
      let names = numbers fits.lam.params in
      let parts = both_apart kept names fits.apart in
      let params = params_captured links fits.lam.params xs ys inner same count fits.once parts.1 in
      let held = bound_hold w links scope names (map Lasting ys) (fits.self ∷ fits.params) params (let a = numbers_count fits.lam.params in let e = fits.count in omega (arith, a, e)) fits.distinct in
      let leads = bounds_lead fits.lam.params xs inner fits.lam.k.0 (leads_own fits.lam.k.0 c.scope) in
      let at : value_at env fits.self.0 ≡ Some (Lasting (ObjectV front.object)) = ap (λ vs. value_at (bound (fits.self ∷ fits.params) (map Lasting vs)) fits.self.0) front.are ∙ ap (λ x. if x then Some (Lasting (ObjectV front.object)) else value_at (bound fits.params (map Lasting front.others)) fits.self.0) (eqb_same fits.self.0) in
      let captured2 = captured_behind links fits.lam.params xs inner kept captured parts.0 (begun_captured links fits.lam.k.0 c.scope kept captured holds) in
      let fetched = object_fetches cps p laid Low links scope kept fits.self (paired names (fits.self ∷ fits.params)) fits.vars b.ops.items [] b.last env t front.object front.found at front.is (subst (λ vs. AreCaptured w links scope kept vs) (sym front.holds) captured2) (low (length t.live) (omega arith)) held fits.fetches in
      stands_by (begun_to P fits.lam c xs s) s2 t (begun b (bound b.params (map Lasting ys)) t) (going (Running b.ops.items b.last env) t) entry_moves there takes (record {
        arrives = body_arrives links s t fits.self.0 c.lam b (method_tail c.lam kept b fits) scope env fetched leads waits made low;
        moves = refl;
        store = refl;
        live = refl;
      })

  method_count : (links : Links) (s : State) (t : FrameState) (c : Closure) (b : Block) (kept : List ℕ) (fits : MethodFits cps w c.lam kept b) (captured : List Value) (xs ys : List Val) → AreCaptured w links c.scope kept captured → IsObjectFirst t.objects ys captured → Zipped (SameVal links) xs ys
      → Waits w links t.frames [] s.waiting t.live → SameMade cps w links s t → LowBelow cps p laid Low t → (n : Bool) → (length fits.lam.params == length xs) ≡ n
      → Stands (if n then begun_to P fits.lam c xs s else faulted_to WrongCount s) t (if n then begun b (bound b.params (map Lasting ys)) t else faulted WrongCount t) entry_moves
  method_count links s t c b kept fits captured xs ys holds front same waits made low true e = method_runs links s t c b kept fits captured xs ys holds front same waits made low (eqb-true (length fits.lam.params) (length xs) e)
  method_count links s t c b kept fits captured xs ys holds front same waits made low false e = fault_stands links s t WrongCount entry_moves made

  pub method_stands : (links : Links) (s : State) (t : FrameState) (c : Closure) (code : ℕ) (captured : List Value) (kept : List ℕ) (xs ys : List Val) → IsFor w code (MethodOf c.lam kept) → AreCaptured w links c.scope kept captured → IsObjectFirst t.objects ys captured → Zipped (SameVal links) xs ys
      → Waits w links t.frames [] s.waiting t.live → SameMade cps w links s t → LowBelow cps p laid Low t → Stands (entered_to P c xs s) t (entered p code (map Lasting ys) t) entry_moves
  method_stands links s t c code captured kept xs ys for holds front same waits made low =
      let at = block_at cps p laid code (MethodOf c.lam kept) for in
      let fits = at.fits in
      let vs = map Lasting ys in
      let n = length fits.lam.params == length xs in
      let left : entered_to P c xs s ≡ (if n then begun_to P fits.lam c xs s else faulted_to WrongCount s) = ap (λ o. or_broken o s (λ lam. if length lam.params == length xs then begun_to P lam c xs s else faulted_to WrongCount s)) fits.is in
      let same_test : (length at.block.params == length vs) ≡ n =
      let a = ap length fits.takes in let b = fits.count in let d = map_count Lasting ys in let e = zipped_length _ _ _ same in
      counts_alike (length fits.lam.params) (length xs) (length at.block.params) (length vs) n refl (λ h. omega (arith, a, b, d, e, h)) (λ h. omega (arith, a, b, d, e, h)) in
      let right : entered p code vs t ≡ (if n then begun at.block (bound at.block.params vs) t else faulted WrongCount t) =
      ap (λ o. or_wrong o t (λ b. if length b.params == length vs then begun b (bound b.params vs) t else faulted WrongCount t)) at.is
      ∙ ap (λ x. if x then begun at.block (bound at.block.params vs) t else faulted WrongCount t) same_test in
      stands_by (entered_to P c xs s) (if n then begun_to P fits.lam c xs s else faulted_to WrongCount s) t (entered p code vs t) (if n then begun at.block (bound at.block.params vs) t else faulted WrongCount t) entry_moves left right
      (method_count links s t c at.block kept fits captured xs ys holds front same waits made low n refl)
