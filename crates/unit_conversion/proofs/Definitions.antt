-- What globals and operations are from the start.
use Rattle.std.proofs.Common.{◌≡◌, ℕ, zero, suc, ◌+◌, ◌<◌, ◌≤◌, Bool, true, false, cond, if◌then◌else◌, List, [], ◌∷◌, Option, Some, None, length, slice_get, count_by, IsSomeAnd, refl, sym, ap, ◌∙◌, subst, arith}
use Rattle.std.specs.Option.{option_map_or}
use Rattle.std.proofs.lemmas.Bool.{true≢false, eqb-true}
use Rattle.std.proofs.lemmas.Option.{same_Some}
use Rattle.std.proofs.lemmas.List.Sums.{sum_by-cons}
use Rattle.t_base.specs.declared.shared_parts.Global1.{Global1}
use Rattle.t_base.specs.declared.shared_parts.OpInfo.{OpInfo}
use Rattle.t_base.specs.declared.shared_parts.GlobalKind.{GlobalKind}
use Rattle.t_base.specs.declared.shared_parts.GlobalKind.TheVariants.{Proc, Value, Variable}
use Rattle.t_core.specs.declared.forms.Core.{Core}
use Rattle.t_core.specs.declared.forms.FormKind.{FormKind}
use Rattle.t_core.specs.declared.forms.FormKind.TheVariants.{Define, Lset, Operation, Plain}
use Rattle.t_core.specs.declared.forms.Form.{Form}
use Rattle.t_core.specs.declared.forms.UnitCore.{UnitCore}
use Rattle.t_core.specs.Whole.{is_lambda_at, DefinesAs, IsDefault, IsDefinition, defines_global, defines_op, IsWhole}
use Rattle.t_prim.proofs.RowParts.{all_at}
use Rattle.t_meaning.specs.Operations.{procedure_of, lambda_of, default_in}
use Rattle.t_meaning.specs.Units.{defined_by, definition_in}
use Rattle.cps_ir.specs.Parts.{is_proc, is_procedure}
use Rattle.cps_ir.proofs.Closed.{same_number}
use Rattle.expand_laws.proofs.Standing.{counted_none}
use Rattle.cps_convert.proofs.Roots.{no_lambda}

-- ---- the one form that defines something

few_behind : (p : Form → Bool) (f : Form) (fs : List Form) → count_by p (f ∷ fs) ≤ 1 → p f ≡ true → count_by p fs ≡ 0
few_behind p f fs few e =
    let s : count_by p (f ∷ fs) ≡ cond (p f) 1 0 + count_by p fs = sum_by-cons (λ z. cond (p z) 1 0) f fs in
    let o : ◌≡◌ {A = ℕ} (cond (p f) 1 0) 1 = ap (λ b. cond b 1 0) e in
    omega (arith, few, s, o)

few_less : (p : Form → Bool) (f : Form) (fs : List Form) → count_by p (f ∷ fs) ≤ 1 → count_by p fs ≤ 1
few_less p f fs few = let s : count_by p (f ∷ fs) ≡ cond (p f) 1 0 + count_by p fs = sum_by-cons (λ z. cond (p z) 1 0) f fs in omega (arith, few, s)

pub only_definition : (g s : ℕ) (forms : List Form) (i : ℕ) (form : Form) → count_by (λ f. defines_global g f.kind) forms ≤ 1 → slice_get forms i ≡ Some form → form.kind ≡ Define g → definition_in g s forms ≡ lambda_of (s + i) form
only_definition g s [] i form few there is = cc
only_definition g s (f ∷ fs) zero form few there is =
    let here : s ≡ s + 0 = omega arith in
    subst (λ z. definition_in g s (z ∷ fs) ≡ lambda_of (s + 0) form) (sym (same_Some f form there))
    (subst (λ k. (if defines_global g k then defined_by k (lambda_of s form) else definition_in g (suc s) fs) ≡ lambda_of (s + 0) form) (sym is)
    (subst (λ b. (if b then lambda_of s form else definition_in g (suc s) fs) ≡ lambda_of (s + 0) form) (sym (same_number g g refl)) (ap (λ n. lambda_of n form) here)))
only_definition g s (f ∷ fs) (suc i) form few there is =
    by (defines_global g f.kind) refl (only_definition g (suc s) fs i form (few_less (λ z. defines_global g z.kind) f fs few) there is)
  where
    next : suc s + i ≡ s + suc i
    next = omega arith

    by : (b : Bool) → defines_global g f.kind ≡ b → definition_in g (suc s) fs ≡ lambda_of (suc s + i) form → (if b then defined_by f.kind (lambda_of s f) else definition_in g (suc s) fs) ≡ lambda_of (s + suc i) form
    by true e rest =
        absurd (counted_none (λ z. defines_global g z.kind) fs i form (few_behind (λ z. defines_global g z.kind) f fs few e) (ap (defines_global g) is ∙ same_number g g refl) there)
    by false e rest = rest ∙ ap (λ n. lambda_of n form) next

pub only_default : (o s : ℕ) (forms : List Form) (i : ℕ) (form : Form) → count_by (λ f. defines_op o f.kind) forms ≤ 1 → slice_get forms i ≡ Some form → form.kind ≡ Operation o → default_in o s forms ≡ lambda_of (s + i) form
only_default o s [] i form few there is = cc
only_default o s (f ∷ fs) zero form few there is =
    let here : s ≡ s + 0 = omega arith in
    subst (λ z. default_in o s (z ∷ fs) ≡ lambda_of (s + 0) form) (sym (same_Some f form there))
    (subst (λ k. (if defines_op o k then lambda_of s form else default_in o (suc s) fs) ≡ lambda_of (s + 0) form) (sym is)
    (subst (λ b. (if b then lambda_of s form else default_in o (suc s) fs) ≡ lambda_of (s + 0) form) (sym (same_number o o refl)) (ap (λ n. lambda_of n form) here)))
only_default o s (f ∷ fs) (suc i) form few there is =
    by (defines_op o f.kind) refl (only_default o (suc s) fs i form (few_less (λ z. defines_op o z.kind) f fs few) there is)
  where
    next : suc s + i ≡ s + suc i
    next = omega arith

    by : (b : Bool) → defines_op o f.kind ≡ b → default_in o (suc s) fs ≡ lambda_of (suc s + i) form → (if b then lambda_of s f else default_in o (suc s) fs) ≡ lambda_of (s + suc i) form
    by true e rest = absurd (counted_none (λ z. defines_op o z.kind) fs i form (few_behind (λ z. defines_op o z.kind) f fs few e) (ap (defines_op o) is ∙ same_number o o refl) there)
    by false e rest = rest ∙ ap (λ n. lambda_of n form) next

-- ---- what has no procedure

no_definition : (g s : ℕ) (forms : List Form) → ((i n : ℕ) (f : Form) → slice_get forms i ≡ Some f → defines_global g f.kind ≡ true → defined_by f.kind (lambda_of n f) ≡ None) → definition_in g s forms ≡ None
no_definition g s [] h = refl
no_definition g s (f ∷ fs) h = by (defines_global g f.kind) refl (no_definition g (suc s) fs (λ i n z e d. h (suc i) n z e d))
  where
    by : (b : Bool) → defines_global g f.kind ≡ b → definition_in g (suc s) fs ≡ None → (if b then defined_by f.kind (lambda_of s f) else definition_in g (suc s) fs) ≡ None
    by true e rest = h 0 s f refl e
    by false e rest = rest

no_default : (o s : ℕ) (forms : List Form) → ((i n : ℕ) (f : Form) → slice_get forms i ≡ Some f → defines_op o f.kind ≡ true → lambda_of n f ≡ None) → default_in o s forms ≡ None
no_default o s [] h = refl
no_default o s (f ∷ fs) h = by (defines_op o f.kind) refl (no_default o (suc s) fs (λ i n z e d. h (suc i) n z e d))
  where
    by : (b : Bool) → defines_op o f.kind ≡ b → default_in o (suc s) fs ≡ None → (if b then lambda_of s f else default_in o (suc s) fs) ≡ None
    by true e rest = h 0 s f refl e
    by false e rest = rest

module _ (unit : UnitCore) (whole : IsWhole unit) where
  definition_at : (i : ℕ) (f : Form) → slice_get unit.forms.items i ≡ Some f → IsDefinition unit.shared f.kind f.nodes.items f.root
  definition_at i f there = all_at (λ z. IsDefinition unit.shared z.kind z.nodes.items z.root) unit.forms.items i f whole.definitions.forms there

  as_value : (nodes : List Core) (root : ℕ) (k : GlobalKind) → is_proc k ≡ false → DefinesAs nodes root k → is_lambda_at nodes root ≡ false
  as_value nodes root Proc e d = absurd (true≢false e)
  as_value nodes root Value e d = d
  as_value nodes root Variable e d = absurd d

  undefined_by : (g n : ℕ) (info : Global1) (nodes : List Core) (root : ℕ) (kind : FormKind) → slice_get unit.shared.globals.items g ≡ Some info → is_procedure info ≡ false → IsDefinition unit.shared kind nodes root → defines_global g kind ≡ true
      → defined_by kind (procedure_of n (slice_get nodes root)) ≡ None
  undefined_by g n info nodes root (Define h) there free d e =
      let same : g ≡ h = eqb-true g h e in
      no_lambda n (slice_get nodes root)
      (as_value nodes root info.kind free (subst (λ o. IsSomeAnd o (λ i. DefinesAs nodes root i.kind)) (subst (λ m. slice_get unit.shared.globals.items m ≡ Some info) same there) d.1))
  undefined_by g n info nodes root (Lset h) there free d e = refl
  undefined_by g n info nodes root (Operation o) there free d e = absurd (true≢false (sym e))
  undefined_by g n info nodes root Plain there free d e = absurd (true≢false (sym e))

  -- a global that isn't a procedure
  pub undefined : (g : ℕ) (info : Global1) → slice_get unit.shared.globals.items g ≡ Some info → is_procedure info ≡ false → definition_in g 0 unit.forms.items ≡ None
  undefined g info there free = no_definition g 0 unit.forms.items (λ i n f at e. undefined_by g n info f.nodes.items f.root f.kind there free (definition_at i f at) e)

  undefaulted_by : (o n : ℕ) (nodes : List Core) (root : ℕ) (kind : FormKind) → option_map_or (λ (info : OpInfo). info.default) (slice_get unit.shared.ops.items o) false ≡ false → IsDefinition unit.shared kind nodes root → defines_op o kind ≡ true
      → procedure_of n (slice_get nodes root) ≡ None
  undefaulted_by o n nodes root (Define h) free d e = absurd (true≢false (sym e))
  undefaulted_by o n nodes root (Lset h) free d e = absurd (true≢false (sym e))
  undefaulted_by o n nodes root Plain free d e = absurd (true≢false (sym e))
  undefaulted_by o n nodes root (Operation p) free d e = by (slice_get unit.shared.ops.items o) free (subst (λ m. IsSomeAnd (slice_get unit.shared.ops.items m) (λ i. IsDefault nodes root i.default)) (sym (eqb-true o p e)) d.1)
    where
      empty : (b : Bool) → b ≡ false → IsDefault nodes root b → procedure_of n (slice_get nodes root) ≡ None
      empty true e d = absurd (true≢false e)
      empty false e d = ap (λ l. procedure_of n (slice_get l root)) d.0

      by : (x : Option OpInfo) → option_map_or (λ (info : OpInfo). info.default) x false ≡ false → IsSomeAnd x (λ i. IsDefault nodes root i.default) → procedure_of n (slice_get nodes root) ≡ None
      by None free d = absurd d
      by (Some i) free d = empty i.default free d

  -- an operation without a default
  pub undefaulted : (o : ℕ) → option_map_or (λ (info : OpInfo). info.default) (slice_get unit.shared.ops.items o) false ≡ false → default_in o 0 unit.forms.items ≡ None
  undefaulted o free = no_default o 0 unit.forms.items (λ i n f at e. undefaulted_by o n f.nodes.items f.root f.kind free (definition_at i f at) e)

  pub defined_once : (g at : ℕ) (form : Form) → g < length unit.shared.globals.items → slice_get unit.forms.items at ≡ Some form → form.kind ≡ Define g → definition_in g 0 unit.forms.items ≡ lambda_of at form
  defined_once g at form below there is =
      let once = whole.definitions.globals_once g below in
      let here : 0 + at ≡ at = omega arith in
      only_definition g 0 unit.forms.items at form (omega (arith, once)) there is ∙ ap (λ n. lambda_of n form) here

  pub defaulted_once : (o at : ℕ) (form : Form) → o < length unit.shared.ops.items → slice_get unit.forms.items at ≡ Some form → form.kind ≡ Operation o → default_in o 0 unit.forms.items ≡ lambda_of at form
  defaulted_once o at form below there is =
      let d = subst (λ k. IsDefinition unit.shared k form.nodes.items form.root) is (definition_at at form there) in
      let once = whole.definitions.ops_once o d.0 below in
      let here : 0 + at ≡ at = omega arith in
      only_default o 0 unit.forms.items at form (omega (arith, once)) there is ∙ ap (λ n. lambda_of n form) here
