-- What all terms and procedures name is there, and their lists agree.
use Rattle.std.specs.List.{AllByRecursion}
use Rattle.std.specs.Prelude.{nat_lt, not, All, IsSomeAnd, Ok}
use Rattle.std.specs.Option.{option_and_then}
use Rattle.std.proofs.Common.{◌≡◌, ℕ, zero, suc, ◌+◌, ◌≤◌, ◌<◌, Bool, true, false, if◌then◌else◌, ◌⊎◌, inl, inr, List, [], ◌∷◌, length, Option, Some, None, slice_get, get_or, refl, sym, ap, ◌∙◌, subst, arith, map, take, drop}
use Rattle.std.proofs.lemmas.Bool.{cases_lt, ltb-true, ltb-false}
use Rattle.std.proofs.lemmas.Option.{slice_get-get_or, slice_get_within}
use Rattle.t_base.specs.declared.shared_parts.Global1.{Global1}
use Rattle.t_base.specs.declared.shared_parts.Shared.{Shared}
use Rattle.t_prim.specs.SharedParts.{IsWholeShared}
use Rattle.t_core.specs.declared.forms.Core.{Core}
use Rattle.t_core.specs.declared.forms.Core.TheVariants as Node
use Rattle.t_core.specs.declared.forms.Form.{Form}
use Rattle.t_core.specs.declared.forms.FormKind.{FormKind}
use Rattle.t_core.specs.declared.forms.FormKind.TheVariants.{Define, Lset, Operation, Plain}
use Rattle.t_core.specs.declared.forms.UnitCore.{UnitCore}
use Rattle.t_core.specs.Limits.{limit_of}
use Rattle.t_core.specs.Whole.{IsWhole as IsWholeUnit, IsDefinition, defines_global, defines_op}
use Rattle.t_meaning.specs.Programs.{node_at}
use Rattle.t_meaning.specs.State.{Procedure}
use Rattle.t_meaning.specs.Operations.{procedure_of, lambda_of, default_in}
use Rattle.t_meaning.specs.Units.{defined_by, definition_in, definitions, first_closures}
use Rattle.cps_ir.specs.declared.args.Arg.{Arg}
use Rattle.cps_ir.specs.declared.terms.Lam.{Lam}
use Rattle.cps_ir.specs.declared.terms.Term.{Term}
use Rattle.cps_walk.specs.Walks.{root_places, own_places, lambda_places, part_places}
use Rattle.cps_ir.specs.Parts.{global_lams, Part, own_parts, root_lams, lambda_at, lambdas_of, first_lams, lams_of}
use Rattle.cps_ir.specs.Whole.{HasNames, IsLambda, most_operands, IsShaped, IsArgThere, IsArgShaped}
use Rattle.cps_ir.specs.Terms.{args_of}
use Rattle.cps_ir.proofs.ProperLists.{some_same, each_found, each_left, each_taken, none_some, all_at, each_more, each_of_two, each_right, each_of_all, all_head}
use Rattle.cps_ir.proofs.Closed.{all_of_each, same_number}
use Rattle.cps_conversion.specs.Conversion.{Translation, IsTranslated, variables, adding}
use Rattle.cps_order.specs.Order.{one, tally}
use Rattle.cps_order.proofs.Reached.{flat_some, flat_has}
use Rattle.conversion_laws.specs.Owed.{IsOwed, named_lams}
use Rattle.conversion_laws.specs.Shapes.{AreShaped, ConvertedIsShaped}
use Rattle.conversion_laws.proofs.Visits.{Table, FormTable, LamIs, Full, variables_count, assigned_count}
use Rattle.conversion_laws.proofs.Roots.{RootTable, tallied, first_good, all_full}
use Rattle.conversion_laws.proofs.Firsts.{default_found}
use Rattle.conversion_laws.proofs.Defaults.{default_self}
use Rattle.conversion_laws.proofs.Widths.{node_narrow}
use Rattle.conversion_laws.proofs.Shapes.{FineArg, FineTerm, FineLam, no_proc, fine_table}

-- ---- the procedure of a root is a LAMBDA

-- the procedure has the parameters of a LAMBDA of the unit
record IsOfNode (unit : UnitCore) (f : Procedure) : Type 0 where
  form : ℕ
  key : ℕ
  body : ℕ
  node : node_at unit form key ≡ Some (Node.Lambda f.params body)

same_procedure : (f g : Procedure) → Some f ≡ Some g → f ≡ g
same_procedure f g e = cc

of_node : (unit : UnitCore) (at i key : ℕ) (o : Option Core) (f : Procedure) → node_at unit i key ≡ o → procedure_of at o ≡ Some f → IsOfNode unit f
of_node unit at i key None f q e = none_some f e
of_node unit at i key (Some (Node.Lambda params body)) f q e =
    subst (IsOfNode unit) (same_procedure (record { params = params; form = at; body = body; env = [] }) f e) (record { form = i; key = key; body = body; node = q })
of_node unit at i key (Some (Node.Const c)) f q e = none_some f e
of_node unit at i key (Some (Node.Local v)) f q e = none_some f e
of_node unit at i key (Some (Node.Global g)) f q e = none_some f e
of_node unit at i key (Some (Node.Builtin b)) f q e = none_some f e
of_node unit at i key (Some (Node.Op o)) f q e = none_some f e
of_node unit at i key (Some (Node.If test first second)) f q e = none_some f e
of_node unit at i key (Some (Node.Block items)) f q e = none_some f e
of_node unit at i key (Some (Node.Let vars values body)) f q e = none_some f e
of_node unit at i key (Some (Node.Labels vars lambdas body)) f q e = none_some f e
of_node unit at i key (Some (Node.SetLocal v value)) f q e = none_some f e
of_node unit at i key (Some (Node.SetGlobal g value)) f q e = none_some f e
of_node unit at i key (Some (Node.Catch v body)) f q e = none_some f e
of_node unit at i key (Some (Node.Object proc methods)) f q e = none_some f e
of_node unit at i key (Some (Node.Call operator operands tail)) f q e = none_some f e
of_node unit at i key (Some (Node.Prim b operands)) f q e = none_some f e

module _ (unit : UnitCore) where
  abbrev AreAt : ℕ → List Form → Type 0
  AreAt shift forms = (i : ℕ) (g : Form) → slice_get forms i ≡ Some g → slice_get unit.forms.items (shift + i) ≡ Some g

  -- the LAMBDA of a form
  of_form : (at i : ℕ) (form : Form) (f : Procedure) → slice_get unit.forms.items i ≡ Some form → lambda_of at form ≡ Some f → IsOfNode unit f
  of_form at i form f there e = of_node unit at i form.root (slice_get form.nodes.items form.root) f (ap (λ o. option_and_then (λ (g : Form). slice_get g.nodes.items form.root) o) there) e

  first_form : (shift : ℕ) (form : Form) (forms : List Form) → AreAt shift (form ∷ forms) → slice_get unit.forms.items shift ≡ Some form
  first_form shift form forms all = subst (λ n. slice_get unit.forms.items n ≡ Some form) (omega arith) (all 0 form refl)

  later_forms : (shift : ℕ) (form : Form) (forms : List Form) → AreAt shift (form ∷ forms) → AreAt (suc shift) forms
  later_forms shift form forms all i g e = subst (λ n. slice_get unit.forms.items n ≡ Some g) (omega arith) (all (suc i) g e)

  by_kind : (kind : FormKind) (p : Option Procedure) (f : Procedure) → defined_by kind p ≡ Some f → p ≡ Some f
  by_kind (Define g) p f e = e
  by_kind (Lset g) p f e = none_some f e
  by_kind (Operation o) p f e = none_some f e
  by_kind Plain p f e = none_some f e

  definition_of : (g at : ℕ) (forms : List Form) (f : Procedure) → AreAt at forms → definition_in g at forms ≡ Some f → IsOfNode unit f
  definition_of g at [] f all e = none_some f e
  definition_of g at (form ∷ forms) f all e = by (defines_global g form.kind) e (definition_of g (suc at) forms f (later_forms at form forms all))
    where
      by : (b : Bool) → (if b then defined_by form.kind (lambda_of at form) else definition_in g (suc at) forms) ≡ Some f → (definition_in g (suc at) forms ≡ Some f → IsOfNode unit f) → IsOfNode unit f
      by true e go = of_form at at form f (first_form at form forms all) (by_kind form.kind (lambda_of at form) f e)
      by false e go = go e

  closure_of : (g : ℕ) (globals : List Global1) (i : ℕ) (f : Procedure) → slice_get (first_closures (definitions g globals unit.forms.items)) i ≡ Some f → IsOfNode unit f
  closure_of g [] i f e = none_some f e
  closure_of g (info ∷ globals) i f e = by (definition_in g 0 unit.forms.items) refl i e (λ j. closure_of (suc g) globals j f)
    where
      by : (o : Option Procedure) → definition_in g 0 unit.forms.items ≡ o → (i : ℕ) → slice_get (first_closures (o ∷ definitions (suc g) globals unit.forms.items)) i ≡ Some f
          → ((j : ℕ) → slice_get (first_closures (definitions (suc g) globals unit.forms.items)) j ≡ Some f → IsOfNode unit f) → IsOfNode unit f
      by None q i e go = go i e
      by (Some p) q zero e go = definition_of g 0 unit.forms.items f (λ i h there. subst (λ n. slice_get unit.forms.items n ≡ Some h) (omega arith) there) (q ∙ e)
      by (Some p) q (suc i) e go = go i e

  default_node : (o at : ℕ) (forms : List Form) (f : Procedure) → AreAt at forms → default_in o at forms ≡ Some f → IsOfNode unit f
  default_node o at [] f all e = none_some f e
  default_node o at (form ∷ forms) f all e = by (defines_op o form.kind) e (default_node o (suc at) forms f (later_forms at form forms all))
    where
      by : (b : Bool) → (if b then lambda_of at form else default_in o (suc at) forms) ≡ Some f → (default_in o (suc at) forms ≡ Some f → IsOfNode unit f) → IsOfNode unit f
      by true e go = of_form at at form f (first_form at form forms all) e
      by false e go = go e

  narrow_lam : limit_of unit ≡ Ok tt → (f : Procedure) (lam : Lam) → IsOfNode unit f → length lam.params ≡ length f.params → length lam.params ≤ most_operands
  narrow_lam small f lam n e = let k = node_narrow unit small n.form n.key (Node.Lambda f.params n.body) n.node in omega (arith, k, e)

-- ---- all that is listed

listed : {X : Type 0} (Q : X → Type 0) (xs : List X) → ((i : ℕ) (y : X) → slice_get xs i ≡ Some y → Q y) → All Q xs
listed Q xs f k d lt = f k (get_or xs k d) (slice_get-get_or xs k d lt)

module _ (x : Translation) (w : IsWholeUnit x.unit) (small : limit_of x.unit ≡ Ok tt) (tr : IsTranslated x) (owed : IsOwed x.cps) where
  abbrev A : Arg → Type 0
  A = FineArg x w small tr.shared

  abbrev P : Term → Type 0
  P = FineTerm x w small tr.shared

  abbrev R : Lam → Type 0
  R = FineLam x w small tr.shared

  defined_there : (kind : FormKind) (g : ℕ) (nodes : List Core) (root : ℕ) → (kind ≡ Define g) ⊎ (kind ≡ Lset g) → IsDefinition x.unit.shared kind nodes root → g < length x.cps.shared.globals.items
  defined_there kind g nodes root k d = subst (λ (s : Shared). g < length s.globals.items) (sym tr.shared) (by k)
    where
      within : (o : Option Global1) (Q : Global1 → Type 0) → slice_get x.unit.shared.globals.items g ≡ o → IsSomeAnd o Q → g < length x.unit.shared.globals.items
      within None Q e h = absurd h
      within (Some info) Q e h = slice_get_within x.unit.shared.globals.items g info e

      by : (kind ≡ Define g) ⊎ (kind ≡ Lset g) → g < length x.unit.shared.globals.items
      by (inl e) = within (slice_get x.unit.shared.globals.items g) _ refl (subst (λ k. IsDefinition x.unit.shared k nodes root) e d).1
      by (inr e) = within (slice_get x.unit.shared.globals.items g) _ refl (subst (λ k. IsDefinition x.unit.shared k nodes root) e d).1

  form_table : FormTable x A P R
  form_table = record {
    init = λ at f g a k there kind proc h. (
      defined_there f.kind g f.nodes.items f.root kind (all_at (λ (form : Form). IsDefinition x.unit.shared form.kind form.nodes.items form.root) x.unit.forms.items at f w.definitions.forms there),
      no_proc x w small tr.shared g proc,
      (h, tt),
    );
  }

  root_table : RootTable x A P R
  root_table = record {
    closure = λ i f lam there n. narrow_lam x.unit small f lam (closure_of x.unit 0 x.unit.shared.globals.items i f there) n;
    default = λ o f lam there n. narrow_lam x.unit small f lam (default_node x.unit o 0 x.unit.forms.items f (λ i h e. subst (λ m. slice_get x.unit.forms.items m ≡ Some h) (omega arith) e) there) n;
  }

  abbrev table : Table x A P R
  table = fine_table x w small tr.shared

  term_fine : (t : ℕ) (term : Term) → slice_get x.cps.terms.items t ≡ Some term → Full x A P R term
  term_fine t term e = all_full x A P R table form_table root_table tr owed.ordered t term e

  -- a procedure that isn't named by a term is a global's or an operation's
  lam_fine : (l : ℕ) (lam : Lam) → slice_get x.cps.lams.items l ≡ Some lam → R lam
  lam_fine l lam e = elim (cases_lt l (first_lams x.cps)) [
    | inl low ↦ ((first_good x A P R table form_table root_table tr l low).1 lam e).0
    | inr high ↦ named (nat_lt l (first_lams x.cps)) refl (omega (arith, high)) (owed.lams_once l (slice_get_within x.cps.lams.items l lam e))
  ]
    where
      from_term : 1 ≤ tally (named_lams x.cps) l → R lam
      from_term h =
          let r = flat_some lams_of x.cps.terms.items l h in
          (tallied (LamIs x A P R) (lams_of r.1) l (term_fine r.0 r.1 r.2).1 r.3).1 lam e

      named : (b : Bool) → nat_lt l (first_lams x.cps) ≡ b → first_lams x.cps ≤ l → tally (named_lams x.cps) l ≡ one (not b) → R lam
      named false q le h = from_term (omega (arith, h))
      named true q le h = let lt = ltb-true l (first_lams x.cps) q in absurd (omega (arith, lt, le))

  -- ---- places

  each_tallied : (ls : List ℕ) → AllByRecursion (λ l. 1 ≤ tally ls l) ls
  each_tallied [] = tt
  each_tallied (l ∷ ls) = (
    subst (λ b. 1 ≤ one b + tally ls l) (sym (same_number l l refl)) (omega arith),
    each_more (λ m. 1 ≤ tally ls m) (λ m. 1 ≤ tally (l ∷ ls) m) ls (λ m h. omega (arith, h)) (each_tallied ls),
  )

  -- a procedure that a term names is none of a global or an operation
  behind : (t : ℕ) (term : Term) (l : ℕ) → slice_get x.cps.terms.items t ≡ Some term → 1 ≤ tally (lams_of term) l → l < length x.cps.lams.items → first_lams x.cps ≤ l
  behind t term l e h lt = by (nat_lt l (first_lams x.cps)) refl (owed.lams_once l lt) (flat_has lams_of x.cps.terms.items l t term e h)
    where
      by : (b : Bool) → nat_lt l (first_lams x.cps) ≡ b → tally (named_lams x.cps) l ≡ one (not b) → 1 ≤ tally (named_lams x.cps) l → first_lams x.cps ≤ l
      by true q n h = absurd (omega (arith, n, h))
      by false q n h = ltb-false l (first_lams x.cps) q

  lambdas_fine : (t : ℕ) (term : Term) → slice_get x.cps.terms.items t ≡ Some term → AllByRecursion (IsLambda x.cps) (lams_of term)
  lambdas_fine t term e = each_of_two (LamIs x A P R) (λ l. 1 ≤ tally (lams_of term) l) (IsLambda x.cps) (lams_of term) (λ l is h. (behind t term l e h is.0, is.0)) (term_fine t term e).1 (each_tallied (lams_of term))

  each_mapped : {X Y : Type 0} (Q : Y → Type 0) (f : X → Y) (xs : List X) → AllByRecursion Q (map f xs) → AllByRecursion (λ y. Q (f y)) xs
  each_mapped Q f [] h = tt
  each_mapped Q f (y ∷ xs) h = (h.0, each_mapped Q f xs h.1)

  parts_there : (t : ℕ) (term : Term) → slice_get x.cps.terms.items t ≡ Some term → AllByRecursion (λ (p : Part). p.at < length x.cps.terms.items) (own_parts [] term)
  parts_there t term e =
      let within = slice_get_within x.cps.terms.items t term e in
      each_more (λ (p : Part). p.at < t) (λ (p : Part). p.at < length x.cps.terms.items) (own_parts [] term) (λ p h. omega (arith, h, within))
      (each_mapped (λ u. u < t) (λ (p : Part). p.at) (own_parts [] term) (each_right (λ u. u < t) (lambda_places x.cps term) (own_places term) (each_of_all (λ u. u < t) (part_places x.cps term) (owed.ordered.lower t term e))))

  parts_below : (t : ℕ) (term : Term) → slice_get x.cps.terms.items t ≡ Some term → AllByRecursion (λ u. u < length x.cps.terms.items) (part_places x.cps term)
  parts_below t term e =
      let within = slice_get_within x.cps.terms.items t term e in
      each_more (λ u. u < t) (λ u. u < length x.cps.terms.items) (part_places x.cps term) (λ u h. omega (arith, h, within)) (each_of_all (λ u. u < t) (part_places x.cps term) (owed.ordered.lower t term e))

  named_body : (t : ℕ) (term : Term) (l : ℕ) (lam : Lam) → slice_get x.cps.terms.items t ≡ Some term → 1 ≤ tally (lams_of term) l → lambda_at x.cps l ≡ Some lam → lam.body < length x.cps.terms.items
  named_body t term l lam e h q =
      tallied (λ m. (z : Lam) → lambda_at x.cps m ≡ Some z → z.body < length x.cps.terms.items) (lams_of term) l
      (each_found (lambda_at x.cps) (λ (z : Lam). z.body < length x.cps.terms.items) (lams_of term)
      (each_mapped (λ u. u < length x.cps.terms.items) (λ (z : Lam). z.body) (lambdas_of x.cps term) (each_left (λ u. u < length x.cps.terms.items) (lambda_places x.cps term) (own_places term) (parts_below t term e)))) h lam q

  body_there : (l : ℕ) (lam : Lam) → slice_get x.cps.lams.items l ≡ Some lam → lam.body < length x.cps.terms.items
  body_there l lam e = elim (cases_lt l (first_lams x.cps)) [
    | inl low ↦ each_taken (λ u. u < length x.cps.terms.items) (λ (z : Lam). z.body) (first_lams x.cps) x.cps.lams.items l lam (each_of_all (λ u. u < length x.cps.terms.items) (root_places x.cps) owed.ordered.roots).1 low e
    | inr high ↦ named (nat_lt l (first_lams x.cps)) refl (omega (arith, high)) (owed.lams_once l (slice_get_within x.cps.lams.items l lam e))
  ]
    where
      named : (b : Bool) → nat_lt l (first_lams x.cps) ≡ b → first_lams x.cps ≤ l → tally (named_lams x.cps) l ≡ one (not b) → lam.body < length x.cps.terms.items
      named false q le h = let r = flat_some lams_of x.cps.terms.items l (omega (arith, h)) in named_body r.0 r.1 l lam r.2 r.3 (ap (λ b. if b then None else slice_get x.cps.lams.items l) q ∙ e)
      named true q le h = let lt = ltb-true l (first_lams x.cps) q in absurd (omega (arith, lt, le))

  firsts_there : first_lams x.cps ≤ length x.cps.lams.items
  firsts_there = by (first_lams x.cps) (λ l lt. (first_good x A P R table form_table root_table tr l lt).0)
    where
      by : (n : ℕ) → ((l : ℕ) → l < n → l < length x.cps.lams.items) → n ≤ length x.cps.lams.items
      by zero f = omega arith
      by (suc n) f = let h = f n (omega arith) in omega (arith, h)

  taken_there : (n : ℕ) (lams : List Lam) (i : ℕ) (lam : Lam) → slice_get (take n lams) i ≡ Some lam → (slice_get lams i ≡ Some lam) × (i < n)
  taken_there zero lams i lam e = none_some lam e
  taken_there (suc n) [] i lam e = none_some lam e
  taken_there (suc n) (l ∷ lams) zero lam e = (e, omega arith)
  taken_there (suc n) (l ∷ lams) (suc i) lam e = let r = taken_there n lams i lam e in let lt = r.1 in (r.0, omega (arith, lt))

  dropped_there : (g : ℕ) (lams : List Lam) (i : ℕ) (lam : Lam) → slice_get (drop g lams) i ≡ Some lam → (j : ℕ) × (j ≡ g + i) × (slice_get lams j ≡ Some lam)
  dropped_there zero lams i lam e = (i, omega arith, e)
  dropped_there (suc g) [] i lam e = none_some lam e
  dropped_there (suc g) (l ∷ lams) i lam e = let r = dropped_there g lams i lam e in let q = r.1 in (suc r.0, omega (arith, q), r.2)

  default_fine : (i : ℕ) (lam : Lam) → slice_get (drop (global_lams x.cps) (take (first_lams x.cps) x.cps.lams.items)) i ≡ Some lam → 0 < length lam.params
  default_fine i lam e =
      let d = dropped_there (global_lams x.cps) (take (first_lams x.cps) x.cps.lams.items) i lam e in
      let t = taken_there (first_lams x.cps) x.cps.lams.items d.0 lam d.2 in
      let at_j = d.1 in
      let r = default_found x tr d.0 (omega (arith, at_j)) t.1 in
      let self = default_self x.unit.shared r.at 0 r.info x.unit.forms.items r.f (subst (λ (s : Shared). slice_get s.ops.items r.at ≡ Some r.info) tr.shared r.there) r.has w.definitions.forms r.is in
      let z = r.as_root in
      let count : length z.0.params ≡ length r.f.params = sym (variables_count x A P R z.0.params) ∙ assigned_count x A P R (adding z.0.params []) r.f.params (variables z.0.params) z.0.body z.2.start z.2.assigned in
      subst (λ (m : Lam). 0 < length m.params) (some_same z.0 lam (sym z.1 ∙ t.0)) (omega (arith, self, count))

  is_shaped : AreShaped x.cps
  is_shaped = record {
    names = listed (HasNames x.cps) x.cps.terms.items (λ t term e. let f = (term_fine t term e).0 in record { args = all_of_each (IsArgThere x.cps.shared) (args_of term) (each_more A (IsArgThere x.cps.shared) (args_of term) (λ a h. h.0) f.2); names = f.0; terms = all_of_each (λ (p : Part). p.at < length x.cps.terms.items) (own_parts [] term) (parts_there t term e); lams = all_of_each (IsLambda x.cps) (lams_of term) (lambdas_fine t term e) });
    entry = all_head (λ u. u < length x.cps.terms.items) x.cps.entry (map (λ (lam : Lam). lam.body) (root_lams x.cps)) owed.ordered.roots;
    shared = subst IsWholeShared (sym tr.shared) w.shared.parts;
    firsts = firsts_there;
    bodies = listed (λ (lam : Lam). lam.body < length x.cps.terms.items) x.cps.lams.items body_there;
    shapes = record {
      terms = listed (IsShaped x.cps) x.cps.terms.items (λ t term e. let f = (term_fine t term e).0 in record { args = all_of_each (IsArgShaped x.cps.shared) (args_of term) (each_more A (IsArgShaped x.cps.shared) (args_of term) (λ a h. h.1) f.2); lists = f.1 });
      parameters = listed (λ (lam : Lam). length lam.params ≤ most_operands) x.cps.lams.items lam_fine;
      defaults = listed (λ (lam : Lam). 0 < length lam.params) (drop (global_lams x.cps) (take (first_lams x.cps) x.cps.lams.items)) default_fine;
    };
  }

pub converted_is_shaped : ConvertedIsShaped
converted_is_shaped unit cps w small c owed = is_shaped (record { unit = unit; cps = cps; origins = c.origins }) w small c.translated owed
