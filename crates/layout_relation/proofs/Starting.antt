-- The runs start alike.
use Rattle.std.proofs.Common.{◌≡◌, ℕ, zero, suc, ◌+◌, ◌≤◌, ◌<◌, ◌==◌, nat_eq, Bool, true, false, if◌then◌else◌, List, [], ◌∷◌, length, map, filter, Some, None, slice_get, refl, sym, ap, subst, ◌∙◌, arith}
use Rattle.std.specs.List.{AllZip}
use Rattle.std.proofs.lemmas.Bool.{eq-eqb}
use Rattle.std.proofs.lemmas.Option.{slice_get_within}
use Rattle.t_base.specs.declared.basics.Var.{Var}
use Rattle.t_base.specs.declared.shared_parts.Const.{Const}
use Rattle.t_base.specs.declared.shared_parts.Global1.{Global1}
use Rattle.t_base.specs.declared.shared_parts.GlobalKind.{GlobalKind}
use Rattle.t_base.specs.declared.shared_parts.GlobalKind.TheVariants as Kind
use Rattle.t_base.specs.declared.shared_parts.Shared.{Shared}
use Rattle.t_prim.specs.Values.{ClosureV, val_of, first_store}
use Rattle.cps_ir.specs.declared.terms.Cps.{Cps}
use Rattle.cps_ir.specs.Parts.{is_proc, is_procedure, first_lams}
use Rattle.cps_ir.specs.Running.{first_globals, first_closures, start}
use Rattle.frame_ir.specs.declared.forms.Block.{Block}
use Rattle.frame_ir.specs.declared.forms.Frames.{Frames}
use Rattle.frame_ir.specs.States.{Running, going, wrong, or_wrong}
use Rattle.frame_ir.specs.Arguments.{is_proc as is_proc_at, number_among, bound}
use Rattle.frame_ir.specs.Calls.{begun}
use Rattle.frame_ir.specs.Running.{static_closures, first_globals as first_globals_at, bare_state, start as start_at}
use Rattle.layout_relation.specs.Links.{zip_none, SameOption, neither, both, IsTied, Links, IsOneToOne, SameVal, closure, SamePair, SameStore}
use Rattle.layout_relation.specs.Contexts.{paired, Start, NoExit, CodeOf, Begins}
use Rattle.layout_relation.specs.Laid.{IsLaidOut}
use Rattle.layout_relation.specs.Related.{leads_none, AreCaptured, ClosuresAt, waits_none, SameMade, same_term, Related}
use Rattle.layout_relation.proofs.Lists.{in_none}
use Rattle.layout_relation.proofs.Arguments.{const_same}
use Rattle.layout_relation.proofs.Made.{ties, new_tie, tie_at}
use Rattle.layout_relation.proofs.Preparing.{remade}
use Rattle.layout_relation.proofs.Arriving.{block_at}

-- the procedures among the globals
abbrev procs : List Global1 → List Global1
procs gs = filter is_procedure gs

-- ---- closures

closure_there : (gs : List Global1) (next i : ℕ) → i < length (procs gs) → slice_get (first_closures next gs) i ≡ Some (record { lam = next + i; scope = [] })
closure_there [] next i lt = absurd (omega (arith, lt))
closure_there (g ∷ gs) next i lt = by (is_procedure g) refl i lt (λ n j l. closure_there gs n j l)
  where
    here : (next i : ℕ) → next + i ≡ next + i → (i : ℕ) → i < suc (length (procs gs)) → ((n j : ℕ) → j < length (procs gs) → slice_get (first_closures n gs) j ≡ Some (record { lam = n + j; scope = [] }))
        → slice_get (record { lam = next; scope = [] } ∷ first_closures (suc next) gs) i ≡ Some (record { lam = next + i; scope = [] })
    here next i0 e zero lt go = ap (λ l. Some (record { lam = l; scope = [] })) (let q : next ≡ next + 0 = omega arith in q)
    here next i0 e (suc i) lt go = go (suc next) i (omega (arith, lt)) ∙ ap (λ l. Some (record { lam = l; scope = [] })) (let q : suc next + i ≡ next + suc i = omega arith in q)

    by : (b : Bool) → is_procedure g ≡ b → (i : ℕ) → i < length (procs (g ∷ gs)) → ((n j : ℕ) → j < length (procs gs) → slice_get (first_closures n gs) j ≡ Some (record { lam = n + j; scope = [] }))
        → slice_get (first_closures next (g ∷ gs)) i ≡ Some (record { lam = next + i; scope = [] })
    by true e i lt go =
        ap (λ x. slice_get (if x then record { lam = next; scope = [] } ∷ first_closures (suc next) gs else first_closures next gs) i) e
        ∙ here next i refl i (let l = ap (λ x. length (if x then g ∷ procs gs else procs gs)) e in omega (arith, lt, l)) go
    by false e i lt go =
        ap (λ x. slice_get (if x then record { lam = next; scope = [] } ∷ first_closures (suc next) gs else first_closures next gs) i) e
        ∙ go next i (let l = ap (λ x. length (if x then g ∷ procs gs else procs gs)) e in omega (arith, lt, l))

static_there : (bs : List Block) (n i : ℕ) → i < length bs → slice_get (static_closures n bs) i ≡ Some (record { code = n + i; captured = [] })
static_there [] n i lt = absurd (omega (arith, lt))
static_there (b ∷ bs) n zero lt = ap (λ c. Some (record { code = c; captured = [] })) (let q : n ≡ n + 0 = omega arith in q)
static_there (b ∷ bs) n (suc i) lt = static_there bs (suc n) i (omega (arith, lt)) ∙ ap (λ c. Some (record { code = c; captured = [] })) (let q : suc n + i ≡ n + suc i = omega arith in q)

-- ---- globals

same_kind_of : (k : GlobalKind) → is_proc k ≡ is_proc_at k
same_kind_of Kind.Proc = refl
same_kind_of Kind.Value = refl
same_kind_of Kind.Variable = refl

-- where the numbers from next on are tied
globals_same : (links : Links) (gs : List Global1) (next : ℕ) → ((k : ℕ) → k < length (procs gs) → IsTied links.closures (next + k) (next + k)) → AllZip (SameOption (SameVal links)) (first_globals next gs) (first_globals_at next gs)
globals_same links [] next h = tt
globals_same links (g ∷ gs) next h = by (is_procedure g) (is_proc_at g.kind) (same_kind_of g.kind) refl
    (globals_same links gs (suc next)) (globals_same links gs next)
  where
    by : (x y : Bool) → x ≡ y → is_procedure g ≡ x
        → (((k : ℕ) → k < length (procs gs) → IsTied links.closures (suc next + k) (suc next + k)) → AllZip (SameOption (SameVal links)) (first_globals (suc next) gs) (first_globals_at (suc next) gs))
        → (((k : ℕ) → k < length (procs gs) → IsTied links.closures (next + k) (next + k)) → AllZip (SameOption (SameVal links)) (first_globals next gs) (first_globals_at next gs))
        → AllZip (SameOption (SameVal links)) (if x then Some (ClosureV next) ∷ first_globals (suc next) gs else None ∷ first_globals next gs) (if y then Some (ClosureV next) ∷ first_globals_at (suc next) gs else None ∷ first_globals_at next gs)
    by true y e is go_on go_by =
        let l = ap (λ x. length (if x then g ∷ procs gs else procs gs)) is in
        subst (λ y. AllZip (SameOption (SameVal links)) (Some (ClosureV next) ∷ first_globals (suc next) gs) (if y then Some (ClosureV next) ∷ first_globals_at (suc next) gs else None ∷ first_globals_at next gs)) e (
          both (ClosureV next) (ClosureV next) (closure next next (subst (λ n. IsTied links.closures n n) (let q : next + 0 ≡ next = omega arith in q) (h 0 (omega (arith, l))))),
          go_on (λ k lt. subst (λ n. IsTied links.closures n n) (let q : next + suc k ≡ suc next + k = omega arith in q) (h (suc k) (omega (arith, l, lt)))),
        )
    by false y e is go_on go_by =
        let l = ap (λ x. length (if x then g ∷ procs gs else procs gs)) is in
        subst (λ y. AllZip (SameOption (SameVal links)) (None ∷ first_globals next gs) (if y then Some (ClosureV next) ∷ first_globals_at (suc next) gs else None ∷ first_globals_at next gs)) e
        (neither, go_by (λ k lt. h k (omega (arith, l, lt))))

-- a procedure of a global, by its code
pub record ProcedureAt (next : ℕ) (gs : List Global1) (g code : ℕ) : Type 0 where
  pub from : next ≤ code
  pub within : code < next + length (procs gs)
  pub is : slice_get (first_globals next gs) g ≡ Some (Some (ClosureV code))

procedure_at : (gs : List Global1) (next g code : ℕ) → number_among (λ info. is_proc_at info.kind) next gs g ≡ Some code → ProcedureAt next gs g code
procedure_at [] next g code e = absurd (never e)
  where
    never : None ≡ Some code → ⊥
    never h = cc
procedure_at (x ∷ gs) next g code e = by (is_procedure x) (is_proc_at x.kind) (same_kind_of x.kind) refl refl g e (λ g e. procedure_at gs (suc next) g code e) (λ g e. procedure_at gs next g code e)
  where
    at_first : (b : Bool) → (if b then Some next else None) ≡ Some code → is_procedure x ≡ b → ProcedureAt next (x ∷ gs) 0 code
    at_first true e is =
        let same : next ≡ code = same_number next code e in
        let l = ap (λ b. length (if b then x ∷ procs gs else procs gs)) is in
        record { from = omega (arith, same); within = omega (arith, same, l); is = ap (λ b. slice_get (if b then Some (ClosureV next) ∷ first_globals (suc next) gs else None ∷ first_globals next gs) 0) is ∙ ap (λ n. Some (Some (ClosureV n))) same }
      where
        same_number : (a b : ℕ) → Some a ≡ Some b → a ≡ b
        same_number a b h = cc
    at_first false e is = absurd (never e)
      where
        never : None ≡ Some code → ⊥
        never h = cc

    later_true : (g : ℕ) → is_procedure x ≡ true → ProcedureAt (suc next) gs g code → ProcedureAt next (x ∷ gs) (suc g) code
    later_true g is r =
        let l = ap (λ b. length (if b then x ∷ procs gs else procs gs)) is in let a = r.from in let c = r.within in
        record { from = omega (arith, a); within = omega (arith, c, l); is = ap (λ b. slice_get (if b then Some (ClosureV next) ∷ first_globals (suc next) gs else None ∷ first_globals next gs) (suc g)) is ∙ r.is }

    later_false : (g : ℕ) → is_procedure x ≡ false → ProcedureAt next gs g code → ProcedureAt next (x ∷ gs) (suc g) code
    later_false g is r =
        let l = ap (λ b. length (if b then x ∷ procs gs else procs gs)) is in let a = r.from in let c = r.within in
        record { from = omega (arith, a); within = omega (arith, c, l); is = ap (λ b. slice_get (if b then Some (ClosureV next) ∷ first_globals (suc next) gs else None ∷ first_globals next gs) (suc g)) is ∙ r.is }

    by : (b c : Bool) → b ≡ c → is_procedure x ≡ b → is_proc_at x.kind ≡ c → (g : ℕ) → number_among (λ info. is_proc_at info.kind) next (x ∷ gs) g ≡ Some code
        → ((g : ℕ) → number_among (λ info. is_proc_at info.kind) (suc next) gs g ≡ Some code → ProcedureAt (suc next) gs g code)
        → ((g : ℕ) → number_among (λ info. is_proc_at info.kind) next gs g ≡ Some code → ProcedureAt next gs g code) → ProcedureAt next (x ∷ gs) g code
    by b c same is at zero e go_on go_by = at_first b (sym (ap (λ d. if d then Some next else None) (at ∙ sym same)) ∙ e) is
    by true c same is at (suc g) e go_on go_by = later_true g is (go_on g (sym (ap (λ d. number_among (λ info. is_proc_at info.kind) (if d then suc next else next) gs g) (at ∙ sym same)) ∙ e))
    by false c same is at (suc g) e go_on go_by = later_false g is (go_by g (sym (ap (λ d. number_among (λ info. is_proc_at info.kind) (if d then suc next else next) gs g) (at ∙ sym same)) ∙ e))

globals_count : (gs : List Global1) (next : ℕ) → length (first_globals next gs) ≡ length gs
globals_count [] next = refl
globals_count (g ∷ gs) next = by (is_procedure g) (globals_count gs (suc next)) (globals_count gs next)
  where
    by : (b : Bool) → length (first_globals (suc next) gs) ≡ length gs → length (first_globals next gs) ≡ length gs → length (if b then Some (ClosureV next) ∷ first_globals (suc next) gs else None ∷ first_globals next gs) ≡ suc (length gs)
    by true h k = ap suc h
    by false h k = ap suc k

-- ---- stores

pairs_same : (links : Links) (pairs : List (Const × Const)) → AllZip (SamePair links) (map (λ p. (val_of p.0, val_of p.1)) pairs) (map (λ p. (val_of p.0, val_of p.1)) pairs)
pairs_same links [] = tt
pairs_same links (p ∷ pairs) = (record { head = const_same links p.0; tail = const_same links p.1 }, pairs_same links pairs)

store_same : (links : Links) (shared : Shared) → SameStore links (first_store shared) (first_store shared)
store_same links shared = record { names = refl; strings = refl; pairs = pairs_same links shared.pairs.items; vectors = tt; output = refl; heap = omega arith }

-- ---- the start

equal_numbers : (xs : List Global1) → IsOneToOne (ties 0 0 xs)
equal_numbers xs i j k l g h =
    let x = new_tie xs 0 0 (i, j) g in let y = new_tie xs 0 0 (k, l) h in
    let a = x.left in let b = x.right in let c = y.left in let d = y.right in
    let e : i ≡ j = omega (arith, a, b) in let f : k ≡ l = omega (arith, c, d) in
    ap (λ n. nat_eq n k) e ∙ ap (λ n. nat_eq j n) f

module _ (cps : Cps) (p : Frames) (laid : IsLaidOut cps p) where
  abbrev gs : List Global1
  gs = cps.shared.globals.items

  abbrev links : Links
  links = record { closures = ties 0 0 (procs gs); escapes = []; objects = 0; cells = 0 }

  tied_at : (k : ℕ) → k < length (procs gs) → IsTied links.closures (0 + k) (0 + k)
  tied_at k lt = tie_at (procs gs) 0 0 k lt

  closures_at : (i j : ℕ) → IsTied links.closures i j → ClosuresAt laid.sketch links (first_closures 0 gs) (static_closures 0 p.blocks.items) i j
  closures_at i j h =
      let t = new_tie (procs gs) 0 0 (i, j) h in
      let a = t.left in let b = t.right in let c = t.within in
      let low : i < first_lams cps = omega (arith, a, c) in
      let first = laid.firsts i low in
      let blk = block_at cps p laid i (CodeOf i) first.0 in
      let same : i ≡ j = omega (arith, a, b) in
      let within : i < length p.blocks.items = slice_get_within p.blocks.items i blk.block blk.is in
      record {
        left = record { lam = 0 + i; scope = [] };
        right = record { code = 0 + j; captured = [] };
        is = closure_there gs 0 i (omega (arith, a, c));
        at = static_there p.blocks.items 0 j (omega (arith, same, within));
        same = record {
          runs = subst (λ n. slice_get laid.sketch.purposes n ≡ Some (CodeOf (0 + i))) (let q : i ≡ 0 + j = omega (arith, same) in q) (subst (λ n. slice_get laid.sketch.purposes i ≡ Some (CodeOf n)) (let q : i ≡ 0 + i = omega arith in q) first.0);
          captured = subst (λ xs. AreCaptured laid.sketch links [] xs []) (sym (ap laid.sketch.needs (let q : 0 + i ≡ i = omega arith in q) ∙ first.1)) zip_none;
        };
      }

  made_at_start : SameMade cps laid.sketch links (start cps) (bare_state p)
  made_at_start = record {
    one = record { closures = equal_numbers (procs gs); escapes = λ i j k l g h. absurd (in_none (i, j) g) };
    store = subst (λ sh. SameStore links (first_store cps.shared) (first_store sh)) (sym laid.shared) (store_same links cps.shared);
    closures = closures_at;
    globals = subst (λ sh. AllZip (SameOption (SameVal links)) (first_globals 0 gs) (first_globals_at 0 sh.globals.items)) (sym laid.shared) (globals_same links gs 0 tied_at);
    count = globals_count gs 0;
    cells = tt;
    objects = tt;
    located = omega arith;
    objected = omega arith;
    escapes = λ i j h. absurd (in_none (i, j) h);
    procedures = λ g code e. let r = procedure_at gs 0 g code e in let w = r.within in (r.is, subst (λ n. IsTied links.closures n n) (let q : 0 + code ≡ code = omega arith in q) (tied_at code (omega (arith, w))));
  }

  abbrev entry_start : Start
  entry_start = record { vars = []; exits = NoExit; catches = []; term = cps.entry }

  none_bound : (xs : List Var) → bound xs [] ≡ []
  none_bound [] = refl
  none_bound (x ∷ xs) = refl

  pub start_related : Related cps laid.sketch (start cps) (start_at p)
  start_related =
      let blk = block_at cps p laid p.entry (Begins entry_start) laid.entry in
      let b = blk.block in
      let fits = blk.fits in
      let t = bare_state p in
      let end = going (Running b.ops.items b.last []) t in
      let is : start_at p ≡ end = ap (λ o. or_wrong o t (λ b. if length b.params == 0 then begun b (bound b.params []) t else wrong t)) blk.is
      ∙ ap (λ x. if x then begun b (bound b.params []) t else wrong t) (eq-eqb (length b.params) 0 (let e = fits.count in omega (arith, e)))
      ∙ ap (λ env. begun b env t) (none_bound b.params) in
      subst (λ u. Related cps laid.sketch (start cps) u) (sym is) (record {
        links = links;
        made = remade cps laid.sketch links (start cps) (start cps) t end made_at_start refl refl;
        doing = same_term (record { vars = paired [] b.params; exits = NoExit; catches = [] }) cps.entry [] b.ops.items b.last [] fits.lays (λ x y i. absurd (in_none (x, y) i)) (leads_none []) waits_none;
      })

  -- nothing was moved, and no frame waits
  pub start_is_bare : ((start_at p).moves ≡ 0) × ((start_at p).store.heap ≡ 0) × ((start_at p).live ≡ [])
  start_is_bare =
      let blk = block_at cps p laid p.entry (Begins entry_start) laid.entry in
      let b = blk.block in
      let t = bare_state p in
      let is = ap (λ o. or_wrong o t (λ b. if length b.params == 0 then begun b (bound b.params []) t else wrong t)) blk.is
      ∙ ap (λ x. if x then begun b (bound b.params []) t else wrong t) (eq-eqb (length b.params) 0 (let e = blk.fits.count in omega (arith, e))) in
      (ap (λ u. u.moves) is, ap (λ u. u.store.heap) is, ap (λ u. u.live) is)
