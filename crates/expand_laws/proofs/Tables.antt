-- The globals and operations of forms: one for each definition, in order.
use Rattle.std.proofs.Common.{◌≡◌, ℕ, ◌+◌, ◌<◌, Bool, true, false, not, is_some, List, [], ◌∷◌, length, map, All, Option, Some, slice_get, refl, sym, ap, ◌∙◌}
use Rattle.std.specs.List.{filter}
use Rattle.std.proofs.lemmas.List.Elements.{All-nil, All-cons}
use Rattle.std.proofs.lemmas.Option.{slice_get_within}
use Rattle.t_base.specs.declared.basics.Name.{Name as NamePlace}
use Rattle.t_base.specs.declared.shared_parts.Global1.{Global1}
use Rattle.t_base.specs.declared.shared_parts.GlobalKind.{GlobalKind}
use Rattle.t_base.specs.declared.shared_parts.GlobalKind.TheVariants.{Proc, Value, Variable}
use Rattle.t_base.specs.declared.shared_parts.OpInfo.{OpInfo}
use Rattle.t_core.specs.declared.forms.Core.{Core}
use Rattle.t_core.specs.declared.forms.FormKind.{FormKind}
use Rattle.t_core.specs.declared.forms.FormKind.TheVariants as kind
use Rattle.t_core.specs.declared.forms.Form.{Form}
use Rattle.t_core.specs.Whole.{DefinesAs, IsDefault, is_lambda_at}
use Rattle.t_forms.specs.Data.{Datum, Binder, Name}
use Rattle.t_forms.specs.Names.{Bound}
use Rattle.t_rows.specs.Rows.{Definition, define, lset, operation_form}
use Rattle.expansion.specs.Units.{Top, defining, broken, expression, entry, is_global, text_of, texts, meaning_of}
use Rattle.expand_laws.proofs.Numbering.{definitions, own, AreNumbered}
use Rattle.expand_laws.proofs.OneTop.{IsNamed, IsFineTop}
use Rattle.expand_laws.proofs.TopsMade.{AreFilled, kind_meant}

abbrev pub AreFine : List (List ℕ) → List Top → Type 0
AreFine names [] = Unit {0}
AreFine names (t ∷ ts) = IsFineTop names t × AreFine names ts

-- the place of a name
abbrev pub IsNameAt : List (List ℕ) → NamePlace → Name → Type 0
IsNameAt names p n = slice_get names p.0 ≡ Some (text_of n)

-- The forms of these definitions, with their globals, from a number on, and their operations, from another number on.
pub data Tabled (names : List (List ℕ)) : ℕ → ℕ → List Top → List Form → List Global1 → List OpInfo → Type 0 where
  no_more : (g o : ℕ) → Tabled names g o [] [] [] []
  a_define : (g o : ℕ) (b : Binder) (d : Datum) (ts : List Top) (f : Form) (fs : List Form) (info : Global1) (gs : List Global1) (os : List OpInfo) → f.kind ≡ kind.Define g
      → 0 < length f.nodes.items → DefinesAs f.nodes.items f.root info.kind → IsNameAt names info.name b.name → Tabled names (g + 1) o ts fs gs os
      → Tabled names g o (defining (define b d) ∷ ts) (f ∷ fs) (info ∷ gs) os
  an_lset : (g o : ℕ) (b : Binder) (d : Datum) (ts : List Top) (f : Form) (fs : List Form) (info : Global1) (gs : List Global1) (os : List OpInfo) → f.kind ≡ kind.Lset g
      → 0 < length f.nodes.items → info.kind ≡ Variable → IsNameAt names info.name b.name → Tabled names (g + 1) o ts fs gs os
      → Tabled names g o (defining (lset b d) ∷ ts) (f ∷ fs) (info ∷ gs) os
  an_operation : (g o : ℕ) (b : Binder) (ps : List Binder) (d : Option Datum) (ts : List Top) (f : Form) (fs : List Form) (info : OpInfo) (gs : List Global1) (os : List OpInfo)
      → f.kind ≡ kind.Operation o → IsDefault f.nodes.items f.root info.default → IsNameAt names info.name b.name → Tabled names g (o + 1) ts fs gs os
      → Tabled names g o (defining (operation_form b ps d) ∷ ts) (f ∷ fs) gs (info ∷ os)
  an_expression : (g o : ℕ) (d : Datum) (ts : List Top) (f : Form) (fs : List Form) (gs : List Global1) (os : List OpInfo) → f.kind ≡ kind.Plain → 0 < length f.nodes.items
      → Tabled names g o ts fs gs os → Tabled names g o (expression d ∷ ts) (f ∷ fs) gs os

-- ---- there are such

pub record HasTables (names : List (List ℕ)) (g o : ℕ) (ts : List Top) (fs : List Form) : Type 0 where
  pub globals : List Global1
  pub ops : List OpInfo
  pub are : Tabled names g o ts fs globals ops

named_at : (names : List (List ℕ)) (n : Name) (h : IsNamed names n) → slice_get names h.place ≡ Some (text_of n)
named_at names n h = h.at ∙ ap (λ (x : Name). Some (text_of x)) (sym h.is)

defined_kind : Bool → GlobalKind
defined_kind true = Proc
defined_kind false = Value

defines_as : (nodes : List Core) (root : ℕ) (b : Bool) → is_lambda_at nodes root ≡ b → DefinesAs nodes root (defined_kind b)
unfolding defined_kind
defines_as nodes root true e = e
defines_as nodes root false e = e

pub kept : (defined : List Bound) (d : Definition) (g o : ℕ) (k : FormKind) → k ≡ kind_meant (meaning_of defined d) → meaning_of defined d ≡ Some (own g o d) → k ≡ kind_meant (Some (own g o d))
kept defined d g o k e m = e ∙ ap kind_meant m

pub tabled : (names : List (List ℕ)) (defined : List Bound) (g o : ℕ) (ts : List Top) (fs : List Form) → AreFine names ts → AreFilled defined ts fs → AreNumbered defined g o ts
    → HasTables names g o ts fs
tabled names defined g o [] [] fine filled are = record { globals = []; ops = []; are = no_more g o }
tabled names defined g o [] (f ∷ fs) fine filled are = absurd filled
tabled names defined g o (t ∷ ts) [] fine filled are = absurd filled
tabled names defined g o (defining (define b d) ∷ ts) (f ∷ fs) fine filled are =
    let rest = tabled names defined (g + 1) o ts fs fine.1 filled.2 are.1 in
    let n : IsNamed names b.name = fine.0.0 in
    record {
      globals = record { name = record { 0 = n.place }; kind = defined_kind (is_lambda_at f.nodes.items f.root) } ∷ rest.globals;
      ops = rest.ops;
      are =
          a_define g o b d ts f fs (record { name = record { 0 = n.place }; kind = defined_kind (is_lambda_at f.nodes.items f.root) }) rest.globals rest.ops
          (kept defined (define b d) g o f.kind filled.0 are.0) filled.1 (defines_as f.nodes.items f.root (is_lambda_at f.nodes.items f.root) refl) (named_at names b.name n) rest.are;
    }
tabled names defined g o (defining (lset b d) ∷ ts) (f ∷ fs) fine filled are =
    let rest = tabled names defined (g + 1) o ts fs fine.1 filled.2 are.1 in
    let n : IsNamed names b.name = fine.0.0 in
    record {
      globals = record { name = record { 0 = n.place }; kind = Variable } ∷ rest.globals;
      ops = rest.ops;
      are =
          an_lset g o b d ts f fs (record { name = record { 0 = n.place }; kind = Variable }) rest.globals rest.ops (kept defined (lset b d) g o f.kind filled.0 are.0) filled.1 refl
          (named_at names b.name n) rest.are;
    }
tabled names defined g o (defining (operation_form b ps d) ∷ ts) (f ∷ fs) fine filled are =
    let rest = tabled names defined g (o + 1) ts fs fine.1 filled.2 are.1 in
    let n : IsNamed names b.name = fine.0.0 in
    record {
      globals = rest.globals;
      ops = record { name = record { 0 = n.place }; default = is_some d } ∷ rest.ops;
      are =
          an_operation g o b ps d ts f fs (record { name = record { 0 = n.place }; default = is_some d }) rest.globals rest.ops (kept defined (operation_form b ps d) g o f.kind filled.0 are.0)
          filled.1 (named_at names b.name n) rest.are;
    }
tabled names defined g o (broken s ∷ ts) (f ∷ fs) fine filled are = absurd filled.1
tabled names defined g o (expression d ∷ ts) (f ∷ fs) fine filled are =
    let rest = tabled names defined g o ts fs fine.1 filled.2 are in
    record { globals = rest.globals; ops = rest.ops; are = an_expression g o d ts f fs rest.globals rest.ops filled.0 filled.1 rest.are }

-- ---- their names

pub globals_named : (names : List (List ℕ)) (g o : ℕ) (ts : List Top) (fs : List Form) (gs : List Global1) (os : List OpInfo) → Tabled names g o ts fs gs os
    → map (λ text. Some text) (texts (filter (λ e. is_global e.by) (map entry (definitions ts)))) ≡ map (λ x. slice_get names x.name.0) gs
globals_named names g o ts fs gs os (no_more _ _) = refl
globals_named names g o ts fs gs os (a_define g1 o1 b d us f hs info is ps k some kinded at rest) =
    ap (λ l. Some (text_of b.name) ∷ l) (globals_named names (g1 + 1) o1 us hs is ps rest) ∙ ap (λ x. x ∷ map (λ x. slice_get names x.name.0) is) (sym at)
globals_named names g o ts fs gs os (an_lset g1 o1 b d us f hs info is ps k some kinded at rest) =
    ap (λ l. Some (text_of b.name) ∷ l) (globals_named names (g1 + 1) o1 us hs is ps rest) ∙ ap (λ x. x ∷ map (λ x. slice_get names x.name.0) is) (sym at)
globals_named names g o ts fs gs os (an_operation g1 o1 b qs d us f hs info is ps k kinded at rest) = globals_named names g1 (o1 + 1) us hs is ps rest
globals_named names g o ts fs gs os (an_expression g1 o1 d us f hs is ps k some rest) = globals_named names g1 o1 us hs is ps rest

pub ops_named : (names : List (List ℕ)) (g o : ℕ) (ts : List Top) (fs : List Form) (gs : List Global1) (os : List OpInfo) → Tabled names g o ts fs gs os
    → map (λ text. Some text) (texts (filter (λ e. not (is_global e.by)) (map entry (definitions ts)))) ≡ map (λ x. slice_get names x.name.0) os
ops_named names g o ts fs gs os (no_more _ _) = refl
ops_named names g o ts fs gs os (a_define g1 o1 b d us f hs info is ps k some kinded at rest) = ops_named names (g1 + 1) o1 us hs is ps rest
ops_named names g o ts fs gs os (an_lset g1 o1 b d us f hs info is ps k some kinded at rest) = ops_named names (g1 + 1) o1 us hs is ps rest
ops_named names g o ts fs gs os (an_operation g1 o1 b qs d us f hs info is ps k kinded at rest) =
    ap (λ l. Some (text_of b.name) ∷ l) (ops_named names g1 (o1 + 1) us hs is ps rest) ∙ ap (λ x. x ∷ map (λ x. slice_get names x.name.0) ps) (sym at)
ops_named names g o ts fs gs os (an_expression g1 o1 d us f hs is ps k some rest) = ops_named names g1 o1 us hs is ps rest

pub globals_there : (names : List (List ℕ)) (g o : ℕ) (ts : List Top) (fs : List Form) (gs : List Global1) (os : List OpInfo) → Tabled names g o ts fs gs os
    → All (λ x. x.name.0 < length names) gs
globals_there names g o ts fs gs os (no_more _ _) = All-nil (λ (x : Global1). x.name.0 < length names)
globals_there names g o ts fs gs os (a_define g1 o1 b d us f hs info is ps k some kinded at rest) =
    All-cons (λ (x : Global1). x.name.0 < length names) info is (slice_get_within names info.name.0 (text_of b.name) at) (globals_there names (g1 + 1) o1 us hs is ps rest)
globals_there names g o ts fs gs os (an_lset g1 o1 b d us f hs info is ps k some kinded at rest) =
    All-cons (λ (x : Global1). x.name.0 < length names) info is (slice_get_within names info.name.0 (text_of b.name) at) (globals_there names (g1 + 1) o1 us hs is ps rest)
globals_there names g o ts fs gs os (an_operation g1 o1 b qs d us f hs info is ps k kinded at rest) = globals_there names g1 (o1 + 1) us hs is ps rest
globals_there names g o ts fs gs os (an_expression g1 o1 d us f hs is ps k some rest) = globals_there names g1 o1 us hs is ps rest

pub ops_there : (names : List (List ℕ)) (g o : ℕ) (ts : List Top) (fs : List Form) (gs : List Global1) (os : List OpInfo) → Tabled names g o ts fs gs os
    → All (λ x. x.name.0 < length names) os
ops_there names g o ts fs gs os (no_more _ _) = All-nil (λ (x : OpInfo). x.name.0 < length names)
ops_there names g o ts fs gs os (a_define g1 o1 b d us f hs info is ps k some kinded at rest) = ops_there names (g1 + 1) o1 us hs is ps rest
ops_there names g o ts fs gs os (an_lset g1 o1 b d us f hs info is ps k some kinded at rest) = ops_there names (g1 + 1) o1 us hs is ps rest
ops_there names g o ts fs gs os (an_operation g1 o1 b qs d us f hs info is ps k kinded at rest) =
    All-cons (λ (x : OpInfo). x.name.0 < length names) info ps (slice_get_within names info.name.0 (text_of b.name) at) (ops_there names g1 (o1 + 1) us hs is ps rest)
ops_there names g o ts fs gs os (an_expression g1 o1 d us f hs is ps k some rest) = ops_there names g1 o1 us hs is ps rest
