-- How many of the forms define a global, or an operation.
use Rattle.std.proofs.Common.{◌≡◌, ◌⊎◌, inl, inr, ℕ, suc, ◌+◌, ◌<◌, ◌≤◌, ◌==◌, Bool, true, false, cond, List, ◌∷◌, length, count_by, refl, ap, ◌∙◌, arith}
use Rattle.std.proofs.lemmas.Bool.{cases_eq}
use Rattle.std.proofs.lemmas.Bool.Decides.{Decides-eqb}
use Rattle.std.proofs.lemmas.List.Sums.{sum_by-cons}
use Rattle.t_base.specs.declared.shared_parts.Global1.{Global1}
use Rattle.t_base.specs.declared.shared_parts.OpInfo.{OpInfo}
use Rattle.t_core.specs.declared.forms.FormKind.{FormKind}
use Rattle.t_core.specs.declared.forms.FormKind.TheVariants as kind
use Rattle.t_core.specs.declared.forms.Form.{Form}
use Rattle.t_core.specs.Whole.{defines_global, defines_op}
use Rattle.expansion.specs.Units.{Top}
use Rattle.expand_laws.proofs.Tables.{Tabled, no_more, a_define, an_lset, an_operation, an_expression}

count_one : (test : FormKind → Bool) (f : Form) (fs : List Form) (k : FormKind) → f.kind ≡ k → test k ≡ true
    → count_by (λ (form : Form). test form.kind) (f ∷ fs) ≡ 1 + count_by (λ (form : Form). test form.kind) fs
count_one test f fs k e h =
    let t : test f.kind ≡ true = ap test e ∙ h in
    let c : count_by (λ (form : Form). test form.kind) (f ∷ fs) ≡ cond {A = ℕ} (test f.kind) 1 0 + count_by (λ (form : Form). test form.kind) fs =
    sum_by-cons (λ (form : Form). cond {A = ℕ} (test form.kind) 1 0) f fs in
    let d : cond {A = ℕ} (test f.kind) 1 0 ≡ 1 = ap (λ (x : Bool). cond {A = ℕ} x 1 0) t in
    omega (arith, c, d)

count_other : (test : FormKind → Bool) (f : Form) (fs : List Form) (k : FormKind) → f.kind ≡ k → test k ≡ false
    → count_by (λ (form : Form). test form.kind) (f ∷ fs) ≡ count_by (λ (form : Form). test form.kind) fs
count_other test f fs k e h =
    let t : test f.kind ≡ false = ap test e ∙ h in
    let c : count_by (λ (form : Form). test form.kind) (f ∷ fs) ≡ cond {A = ℕ} (test f.kind) 1 0 + count_by (λ (form : Form). test form.kind) fs =
    sum_by-cons (λ (form : Form). cond {A = ℕ} (test form.kind) 1 0) f fs in
    let d : cond {A = ℕ} (test f.kind) 1 0 ≡ 0 = ap (λ (x : Bool). cond {A = ℕ} x 1 0) t in
    omega (arith, c, d)

same_number : (a b : ℕ) → a ≡ b → (a == b) ≡ true
same_number a b e = (Decides-eqb a b).1 e

other_number : (a b : ℕ) → (a ≡ b → ⊥) → (a == b) ≡ false
other_number a b n = by (a == b) refl
  where
    by : (x : Bool) → (a == b) ≡ x → x ≡ false
    by true e = absurd (n ((Decides-eqb a b).0 e))
    by false e = refl

-- ---- globals

global_low : (names : List (List ℕ)) (k g o : ℕ) (ts : List Top) (fs : List Form) (gs : List Global1) (os : List OpInfo) → Tabled names g o ts fs gs os → k < g
    → count_by (λ form. defines_global k form.kind) fs ≡ 0
global_low names k g o ts fs gs os (no_more _ _) less = refl
global_low names k g o ts fs gs os (a_define g1 o1 b d us f hs info is ps c some kinded at rest) less = count_other (defines_global k) f hs (kind.Define g1) c (other_number k g1 (λ e. omega (arith, less, e))) ∙ global_low names k (g1 + 1) o1 us hs is ps rest (omega (arith, less))
global_low names k g o ts fs gs os (an_lset g1 o1 b d us f hs info is ps c some kinded at rest) less = count_other (defines_global k) f hs (kind.Lset g1) c (other_number k g1 (λ e. omega (arith, less, e))) ∙ global_low names k (g1 + 1) o1 us hs is ps rest (omega (arith, less))
global_low names k g o ts fs gs os (an_operation g1 o1 b qs d us f hs info is ps c kinded at rest) less = count_other (defines_global k) f hs (kind.Operation o1) c refl ∙ global_low names k g1 (o1 + 1) us hs is ps rest less
global_low names k g o ts fs gs os (an_expression g1 o1 d us f hs is ps c some rest) less = count_other (defines_global k) f hs (kind.Plain) c refl ∙ global_low names k g1 o1 us hs is ps rest less

global_step : (k n rest : ℕ) (f : Form) (fs : List Form) (c : FormKind) → f.kind ≡ c → ((x : Bool) → (k == n) ≡ x → defines_global k c ≡ x) → n ≤ k → k < n + suc rest
    → (k < n + 1 → count_by (λ form. defines_global k form.kind) fs ≡ 0) → (n + 1 ≤ k → k < n + 1 + rest → count_by (λ form. defines_global k form.kind) fs ≡ 1)
    → count_by (λ form. defines_global k form.kind) (f ∷ fs) ≡ 1
global_step k n rest f fs c e test le less low more = by (cases_eq k n)
  where
    by : (k ≡ n) ⊎ (k ≡ n → ⊥) → count_by (λ form. defines_global k form.kind) (f ∷ fs) ≡ 1
    by (inl same) =
        let a = count_one (defines_global k) f fs c e (test true (same_number k n same)) in
        let b = low (omega (arith, same)) in
        omega (arith, a, b)
    by (inr other) =
        count_other (defines_global k) f fs c e (test false (other_number k n other)) ∙ more (omega (arith, le, other)) (omega (arith, less))

pub global_once : (names : List (List ℕ)) (k g o : ℕ) (ts : List Top) (fs : List Form) (gs : List Global1) (os : List OpInfo) → Tabled names g o ts fs gs os → g ≤ k
    → k < g + length gs → count_by (λ form. defines_global k form.kind) fs ≡ 1
global_once names k g o ts fs gs os (no_more _ _) le less = absurd (omega (arith, le, less))
global_once names k g o ts fs gs os (a_define g1 o1 b d us f hs info is ps c some kinded at rest) le less =
    global_step k g1 (length is) f hs (kind.Define g1) c (λ x t. t) le less (λ l. global_low names k (g1 + 1) o1 us hs is ps rest l) (λ l m. global_once names k (g1 + 1) o1 us hs is ps rest l m)
global_once names k g o ts fs gs os (an_lset g1 o1 b d us f hs info is ps c some kinded at rest) le less =
    global_step k g1 (length is) f hs (kind.Lset g1) c (λ x t. t) le less (λ l. global_low names k (g1 + 1) o1 us hs is ps rest l) (λ l m. global_once names k (g1 + 1) o1 us hs is ps rest l m)
global_once names k g o ts fs gs os (an_operation g1 o1 b qs d us f hs info is ps c kinded at rest) le less = count_other (defines_global k) f hs (kind.Operation o1) c refl ∙ global_once names k g1 (o1 + 1) us hs is ps rest le less
global_once names k g o ts fs gs os (an_expression g1 o1 d us f hs is ps c some rest) le less = count_other (defines_global k) f hs (kind.Plain) c refl ∙ global_once names k g1 o1 us hs is ps rest le less

-- ---- operations

op_low : (names : List (List ℕ)) (k g o : ℕ) (ts : List Top) (fs : List Form) (gs : List Global1) (os : List OpInfo) → Tabled names g o ts fs gs os → k < o
    → count_by (λ form. defines_op k form.kind) fs ≡ 0
op_low names k g o ts fs gs os (no_more _ _) less = refl
op_low names k g o ts fs gs os (a_define g1 o1 b d us f hs info is ps c some kinded at rest) less = count_other (defines_op k) f hs (kind.Define g1) c refl ∙ op_low names k (g1 + 1) o1 us hs is ps rest less
op_low names k g o ts fs gs os (an_lset g1 o1 b d us f hs info is ps c some kinded at rest) less = count_other (defines_op k) f hs (kind.Lset g1) c refl ∙ op_low names k (g1 + 1) o1 us hs is ps rest less
op_low names k g o ts fs gs os (an_operation g1 o1 b qs d us f hs info is ps c kinded at rest) less = count_other (defines_op k) f hs (kind.Operation o1) c (other_number k o1 (λ e. omega (arith, less, e))) ∙ op_low names k g1 (o1 + 1) us hs is ps rest (omega (arith, less))
op_low names k g o ts fs gs os (an_expression g1 o1 d us f hs is ps c some rest) less = count_other (defines_op k) f hs (kind.Plain) c refl ∙ op_low names k g1 o1 us hs is ps rest less

op_step : (k n rest : ℕ) (f : Form) (fs : List Form) (c : FormKind) → f.kind ≡ c → ((x : Bool) → (k == n) ≡ x → defines_op k c ≡ x) → n ≤ k → k < n + suc rest
    → (k < n + 1 → count_by (λ form. defines_op k form.kind) fs ≡ 0) → (n + 1 ≤ k → k < n + 1 + rest → count_by (λ form. defines_op k form.kind) fs ≡ 1)
    → count_by (λ form. defines_op k form.kind) (f ∷ fs) ≡ 1
op_step k n rest f fs c e test le less low more = by (cases_eq k n)
  where
    by : (k ≡ n) ⊎ (k ≡ n → ⊥) → count_by (λ form. defines_op k form.kind) (f ∷ fs) ≡ 1
    by (inl same) =
        let a = count_one (defines_op k) f fs c e (test true (same_number k n same)) in
        let b = low (omega (arith, same)) in
        omega (arith, a, b)
    by (inr other) =
        count_other (defines_op k) f fs c e (test false (other_number k n other)) ∙ more (omega (arith, le, other)) (omega (arith, less))

pub op_once : (names : List (List ℕ)) (k g o : ℕ) (ts : List Top) (fs : List Form) (gs : List Global1) (os : List OpInfo) → Tabled names g o ts fs gs os → o ≤ k
    → k < o + length os → count_by (λ form. defines_op k form.kind) fs ≡ 1
op_once names k g o ts fs gs os (no_more _ _) le less = absurd (omega (arith, le, less))
op_once names k g o ts fs gs os (a_define g1 o1 b d us f hs info is ps c some kinded at rest) le less = count_other (defines_op k) f hs (kind.Define g1) c refl ∙ op_once names k (g1 + 1) o1 us hs is ps rest le less
op_once names k g o ts fs gs os (an_lset g1 o1 b d us f hs info is ps c some kinded at rest) le less = count_other (defines_op k) f hs (kind.Lset g1) c refl ∙ op_once names k (g1 + 1) o1 us hs is ps rest le less
op_once names k g o ts fs gs os (an_operation g1 o1 b qs d us f hs info is ps c kinded at rest) le less =
    op_step k o1 (length ps) f hs (kind.Operation o1) c (λ x t. t) le less (λ l. op_low names k g1 (o1 + 1) us hs is ps rest l) (λ l m. op_once names k g1 (o1 + 1) us hs is ps rest l m)
op_once names k g o ts fs gs os (an_expression g1 o1 d us f hs is ps c some rest) le less = count_other (defines_op k) f hs (kind.Plain) c refl ∙ op_once names k g1 o1 us hs is ps rest le less
