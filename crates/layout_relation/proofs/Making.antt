-- The closures that operations make, as a step of the frames.
use Rattle.std.proofs.Common.{◌≡◌, ℕ, suc, ◌+◌, ◌*◌, ◌%◌, ◌≤◌, ◌<◌, nat_lt, Bool, true, false, ◌&&◌, if◌then◌else◌, List, [], ◌∷◌, ◌++◌, length, Some, refl, sym, ap, ◌∙◌, arith, append_assoc, append-nil}
use Rattle.std.specs.Prelude.{option_and_then, sum_by}
use Rattle.std.specs.Option.{option_map}
use Rattle.std.specs.List.{list_all}
use Rattle.std.proofs.Math.Nat.{mod-lt}
use Rattle.std.proofs.lemmas.List.Sums.{sum_by-cons}
use Rattle.t_base.specs.declared.basics.Var.{Var}
use Rattle.t_prim.specs.Values.{ClosureV}
use Rattle.cps_ir.specs.declared.terms.Cps.{Cps}
use Rattle.cps_ir.specs.Parts.{first_lams}
use Rattle.cps_ir.specs.Reaches.{is_in}
use Rattle.cps_ir.specs.States.{Meant, Scope, Program, marked, all_escape}
use Rattle.cps_ir.specs.Giving.{lam_words}
use Rattle.cps_ir.specs.Running.{closures_of}
use Rattle.frame_ir.specs.declared.forms.Place.TheVariants as At
use Rattle.frame_ir.specs.declared.forms.FrameOp.{FrameOp}
use Rattle.frame_ir.specs.declared.forms.FrameOp.TheVariants as Op
use Rattle.frame_ir.specs.Values.{Value, Lasting, Closure as FrameClosure, Env, value_at, is_lasting, record_words}
use Rattle.frame_ir.specs.States.{State, counted, taking, with_closure, or_wrong, wrong}
use Rattle.frame_ir.specs.Arguments.{kept_values}
use Rattle.frame_ir.specs.Groups.{makings, with_addresses, placed, made}
use Rattle.layout_relation.specs.Links.{Zipped, zip_none, zip_one, Links, SameMeant, value, cell}
use Rattle.layout_relation.specs.Laid.{Sketch, AreHeld, MakesClosure, made_by}
use Rattle.layout_relation.specs.Related.{parts_at, HoldAll, IsCaptured, AreCaptured, SameClosure}
use Rattle.layout_relation.proofs.Lists.{zipped_length, is_in_head}
use Rattle.layout_relation.proofs.Scopes.{other_value, eqb_same}
use Rattle.layout_relation.proofs.Made.{words_in, moves_in, Builds, Makes, makes_none, makes_one}

-- ---- kept variables

pub record Kept (w : Sketch) (links : Links) (scope : Scope) (env : Env) (xs : List ℕ) (kept : List Var) : Type 0 where
  pub values : List Value
  pub are : kept_values env kept ≡ Some values
  pub captured : AreCaptured w links scope xs values
  pub lasting : list_all is_lasting values ≡ true
  pub count : length values ≡ length kept

meant_lasts : (links : Links) (celled : Bool) (m : Meant) (v : Value) → SameMeant links celled m v → is_lasting v ≡ true
meant_lasts links celled m v (value a b h) = refl
meant_lasts links celled m v (cell i lt) = refl

kept_one : (w : Sketch) (links : Links) (scope : Scope) (env : Env) (x : ℕ) (y : Var) (xs : List ℕ) (ys : List Var) (v : Value) → value_at env y.0 ≡ Some v → IsCaptured w links scope x v → Kept w links scope env xs ys → Kept w links scope env (x ∷ xs) (y ∷ ys)
kept_one w links scope env x y xs ys v e h k = record {
  values = v ∷ k.values;
  are = ap (λ o. option_and_then (λ u. option_map (λ us. u ∷ us) (kept_values env ys)) o) e ∙ ap (option_map (λ us. v ∷ us)) k.are;
  captured = zip_one x v xs k.values h k.captured;
  lasting = ap (λ b. b && list_all is_lasting k.values) (meant_lasts links (w.celled x) h.meant v h.same) ∙ k.lasting;
  count = ap suc k.count;
}

pub kept_all : (w : Sketch) (links : Links) (scope : Scope) (env : Env) (vars : List (ℕ × ℕ)) (xs : List ℕ) (kept : List Var) → HoldAll w links scope env vars → AreHeld vars xs kept → Kept w links scope env xs kept
kept_all w links scope env vars xs kept h zip_none = record { values = []; are = refl; captured = zip_none; lasting = refl; count = refl }
kept_all w links scope env vars xs kept h (zip_one x y us vs i rest) =
    let k = h x y.0 i in
    kept_one w links scope env x y us vs k.value k.at (record { meant = k.meant; is = k.is; same = k.same }) (kept_all w links scope env vars us vs h rest)

-- ---- addresses

abbrev pub built : List FrameClosure → State → State
built [] t = t
built (r ∷ rs) t = built rs (taking (record_words (length r.captured)) (with_closure (counted (1 + length r.captured) t) r))

built_front : (r : FrameClosure) (rs : List FrameClosure) (t u : State) → Builds (taking (record_words (length r.captured)) (with_closure (counted (1 + length r.captured) t) r)) u rs → Builds t u (r ∷ rs)
built_front r rs t u b = record {
  parts = b.parts ∙ ap (λ h. record (parts_at t) { store = record t.store { heap = h }; closures = t.closures ++ r ∷ [] ++ rs }) (let e : t.store.heap + record_words (length r.captured) + words_in rs ≡ t.store.heap + (record_words (length r.captured) + words_in rs) = omega arith in e)
      ∙ ap (λ cs. record (parts_at t) { store = record t.store { heap = t.store.heap + (record_words (length r.captured) + words_in rs) }; closures = cs }) (append_assoc t.closures (r ∷ []) rs);
  frames = b.frames;
  live = b.live;
  moves = let m = b.moves in omega (arith, m);
}

built_none : (t : State) → Builds t t []
built_none t = record {
  parts = ap (λ h. record (parts_at t) { store = record t.store { heap = h } }) (let e : t.store.heap ≡ t.store.heap + 0 = omega arith in e)
      ∙ ap (λ cs. record (parts_at t) { store = record t.store { heap = t.store.heap + 0 }; closures = cs }) (sym (append-nil t.closures));
  frames = refl;
  live = refl;
  moves = let e : t.moves ≡ t.moves + 0 = omega arith in e;
}

pub built_is : (rs : List FrameClosure) (t : State) → Builds t (built rs t) rs
built_is [] t = built_none t
built_is (r ∷ rs) t = built_front r rs t (built rs (taking (record_words (length r.captured)) (with_closure (counted (1 + length r.captured) t) r))) (built_is rs (taking (record_words (length r.captured)) (with_closure (counted (1 + length r.captured) t) r)))

module _ (cps : Cps) (w : Sketch) (small : (l : ℕ) → length (w.needs l) ≤ cps.shared.size) where
  -- what isn't made stays
  pub address_other : (vars : List (ℕ × ℕ)) (lams : List ℕ) (ops : List FrameOp) (tos : List Var) (n birth : ℕ) (env : Env) (y : ℕ) → Makes cps w vars lams ops tos → is_in (made_by ops) y ≡ false
      → value_at (with_addresses n birth (makings ops) env) y ≡ value_at env y
  address_other vars lams ops tos n birth env y makes_none e = refl
  address_other vars lams ops tos n birth env y (makes_one l to code kept ls ms ts h rest) e =
      let parts = is_in_head to.0 (made_by ms) y e in
      address_other vars ls ms ts (n + 1) birth ((to.0, Lasting (ClosureV n)) ∷ env) y rest parts.1 ∙ other_value to.0 y (Lasting (ClosureV n)) env parts.0

  -- what is made has its address
  pub address_first : (vars : List (ℕ × ℕ)) (l : ℕ) (to : Var) (code : ℕ) (kept : List Var) (lams : List ℕ) (ops : List FrameOp) (tos : List Var) (n birth : ℕ) (env : Env) → MakesClosure cps w vars l to code kept ops → Makes cps w vars lams ops tos
      → value_at (with_addresses (n + 1) birth (makings ops) ((to.0, Lasting (ClosureV n)) ∷ env)) to.0 ≡ Some (Lasting (ClosureV n))
  address_first vars l to code kept lams ops tos n birth env h rest =
      address_other vars lams ops tos (n + 1) birth ((to.0, Lasting (ClosureV n)) ∷ env) to.0 rest h.later ∙ ap (λ b. if b then Some (Lasting (ClosureV n)) else value_at env to.0) (eqb_same to.0)

  -- ---- records

  abbrev P : Program
  P = marked cps all_escape

  pub even_most : (n size : ℕ) → n ≤ size → record_words n ≤ 4 + size
  even_most n size le = let m : (3 + n) % 2 < 2 = mod-lt (3 + n) (omega arith) in omega (arith, m, le)

  lambda_words : (l : ℕ) → nat_lt l (first_lams cps) ≡ false → lam_words P l ≡ 4 + cps.shared.size
  lambda_words l e = ap (λ b. if b then 0 else 4 + cps.shared.size) e

  pub record Making (links : Links) (scope : Scope) (env : Env) (lams : List ℕ) (ops : List FrameOp) : Type 0 where
    pub records : List FrameClosure
    pub same : Zipped (SameClosure w links) (closures_of lams scope) records
    pub makes : (t : State) (go : State → State) → made (makings ops) env t go ≡ go (built records t)
    pub words : words_in records ≤ sum_by (lam_words P) lams
    pub moves : moves_in records ≤ length lams * (1 + cps.shared.size)

  making_one : (links : Links) (scope : Scope) (env : Env) (vars : List (ℕ × ℕ)) (l : ℕ) (to : Var) (code : ℕ) (kept : List Var) (lams : List ℕ) (ops : List FrameOp) → MakesClosure cps w vars l to code kept ops → Kept w links scope env (w.needs l) kept
      → Making links scope env lams ops → Making links scope env (l ∷ lams) (Op.Closure to code kept At.Heap ∷ ops)
  making_one links scope env vars l to code kept lams ops h k m =
      let r : FrameClosure = record { code = code; captured = k.values } in
      let few : length k.values ≤ cps.shared.size = let a = zipped_length _ _ _ k.captured in let b = small l in omega (arith, a, b) in
      record {
        records = r ∷ m.records;
        same = zip_one (record { lam = l; scope = scope }) r (closures_of lams scope) m.records (record { runs = h.runs; captured = k.captured }) m.same;
        makes = λ t go. ap (λ o. or_wrong o t (λ captured. placed At.Heap (record { code = code; captured = captured }) (counted (1 + length kept) t) (λ u. made (makings ops) env u go))) k.are
            ∙ ap (λ b. if b then made (makings ops) env (taking (record_words (length k.values)) (with_closure (counted (1 + length kept) t) r)) go else wrong (counted (1 + length kept) t)) k.lasting
            ∙ ap (λ n. made (makings ops) env (taking (record_words (length k.values)) (with_closure (counted (1 + n) t) r)) go) (sym k.count)
            ∙ m.makes (taking (record_words (length k.values)) (with_closure (counted (1 + length k.values) t) r)) go;
        words = let a = even_most (length k.values) cps.shared.size few in let b = lambda_words l h.lambda in let c = m.words in let d = sum_by-cons (lam_words P) l lams in omega (arith, a, b, c, d);
        moves = let c = m.moves in omega (arith, c, few);
      }

  pub making : (links : Links) (scope : Scope) (env : Env) (vars : List (ℕ × ℕ)) (lams : List ℕ) (ops : List FrameOp) (tos : List Var) → HoldAll w links scope env vars → Makes cps w vars lams ops tos → Making links scope env lams ops
  making links scope env vars lams ops tos h makes_none = record { records = []; same = zip_none; makes = λ t go. refl; words = omega arith; moves = omega arith }
  making links scope env vars lams ops tos h (makes_one l to code kept ls ms ts i rest) =
      making_one links scope env vars l to code kept ls ms i (kept_all w links scope env vars (w.needs l) kept h i.holds) (making links scope env vars ls ms ts h rest)
