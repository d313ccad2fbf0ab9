-- Globals and operations of two units whose forms are alike: the same kinds and defaults.
use Rattle.std.proofs.Common.{◌≡◌, ℕ, ◌<◌, ◌≤◌, Bool, true, false, List, [], ◌∷◌, map, slice_get, Option, Some, None, IsSomeAnd, ⊎_elim, refl, sym, ap, subst, ◌∙◌}
use Rattle.std.specs.List.{AllZip}
use Rattle.std.specs.Option.{option_map}
use Rattle.std.proofs.lemmas.Bool.{cases_lt}
use Rattle.std.proofs.lemmas.Bool.Decides.{Decides-eqb}
use Rattle.std.proofs.lemmas.Option.{slice_get_within, same_Some}
use Rattle.t_base.specs.declared.basics.Span.{Span}
use Rattle.t_base.specs.declared.shared_parts.Global1.{Global1}
use Rattle.t_base.specs.declared.shared_parts.GlobalKind.{GlobalKind}
use Rattle.t_base.specs.declared.shared_parts.GlobalKind.TheVariants.{Proc, Value, Variable}
use Rattle.t_base.specs.declared.shared_parts.OpInfo.{OpInfo}
use Rattle.t_base.specs.declared.shared_parts.Shared.{Shared}
use Rattle.t_prim.specs.SharedParts.{builtin_ops}
use Rattle.t_core.specs.declared.forms.Core.{Core}
use Rattle.t_core.specs.declared.forms.Form.{Form}
use Rattle.t_core.specs.declared.forms.FormKind.{FormKind}
use Rattle.t_core.specs.declared.forms.FormKind.TheVariants.{Define, Lset, Operation, Plain}
use Rattle.t_core.specs.declared.forms.UnitCore.{UnitCore}
use Rattle.t_core.specs.Whole.{is_lambda_at, DefinesAs, IsDefault, IsDefinition, defines_global, defines_op, IsWhole}
use Rattle.expand_laws.specs.Renaming.{Renaming, FormsAlike, IsSameGlobal, IsSameOp}
use Rattle.expand_laws.proofs.Collecting.{zip_each}
use Rattle.expand_laws.proofs.CountedOnce.{IsThere, counted_there}
use Rattle.expand_laws.proofs.FormsBeside.{FormBeside, form_beside}
use Rattle.expand_laws.proofs.Paired.{all_at}
use Rattle.expand_laws.proofs.Roots.{SameRoots, same_roots, none_here}

-- ---- globals

and_at : {X : Type 0} (P : X → Type 0) (o : Option X) (x : X) → o ≡ Some x → IsSomeAnd o P → P x
and_at P (Some y) x e h = subst P (same_Some y x e) h
and_at P None x e h = cc

same_kinds : (nodes others : List Core) (root top : ℕ) (a b : GlobalKind) → is_lambda_at nodes root ≡ is_lambda_at others top → DefinesAs nodes root a
    → DefinesAs others top b → a ≡ b
same_kinds nodes others root top Proc Proc e g h = refl
same_kinds nodes others root top Proc Value e g h = cc
same_kinds nodes others root top Value Proc e g h = cc
same_kinds nodes others root top Value Value e g h = refl
same_kinds nodes others root top Variable b e g h = absurd g
same_kinds nodes others root top Proc Variable e g h = absurd h
same_kinds nodes others root top Value Variable e g h = absurd h

global_kind : (shared other : Shared) (g : ℕ) (k : FormKind) (nodes others : List Core) (root top : ℕ) (a b : Global1) → slice_get shared.globals.items g ≡ Some a
    → slice_get other.globals.items g ≡ Some b → defines_global g k ≡ true → IsDefinition shared k nodes root → IsDefinition other k others top
    → is_lambda_at nodes root ≡ is_lambda_at others top → a.kind ≡ b.kind
global_kind shared other g (Define h) nodes others root top a b p q is m n e =
    let same : g ≡ h = (Decides-eqb g h).0 is in
    let left : slice_get shared.globals.items h ≡ Some a = subst (λ x. slice_get shared.globals.items x ≡ Some a) same p in
    let right : slice_get other.globals.items h ≡ Some b = subst (λ x. slice_get other.globals.items x ≡ Some b) same q in
    same_kinds nodes others root top a.kind b.kind e (and_at (λ info. DefinesAs nodes root info.kind) (slice_get shared.globals.items h) a left m.1)
    (and_at (λ info. DefinesAs others top info.kind) (slice_get other.globals.items h) b right n.1)
global_kind shared other g (Lset h) nodes others root top a b p q is m n e =
    let same : g ≡ h = (Decides-eqb g h).0 is in
    let left : slice_get shared.globals.items h ≡ Some a = subst (λ x. slice_get shared.globals.items x ≡ Some a) same p in
    let right : slice_get other.globals.items h ≡ Some b = subst (λ x. slice_get other.globals.items x ≡ Some b) same q in
    and_at (λ info. info.kind ≡ Variable) (slice_get shared.globals.items h) a left m.1
    ∙ sym (and_at (λ info. info.kind ≡ Variable) (slice_get other.globals.items h) b right n.1)
global_kind shared other g (Operation o) nodes others root top a b p q is m n e = cc
global_kind shared other g Plain nodes others root top a b p q is m n e = cc

-- ---- operations

same_defaults : (nodes others : List Core) (root top : ℕ) (a b : Bool) → SameRoots nodes others root top → IsDefault nodes root a → IsDefault others top b → a ≡ b
same_defaults nodes others root top true true same g h = refl
same_defaults nodes others root top true false same g h = absurd (none_here others h.0 (same.some g.0))
same_defaults nodes others root top false true same g h = absurd (none_here nodes g.0 (same.all h.0))
same_defaults nodes others root top false false same g h = refl

op_default : (shared other : Shared) (o : ℕ) (k : FormKind) (nodes others : List Core) (root top : ℕ) (a b : OpInfo) → slice_get shared.ops.items o ≡ Some a
    → slice_get other.ops.items o ≡ Some b → defines_op o k ≡ true → IsDefinition shared k nodes root → IsDefinition other k others top
    → SameRoots nodes others root top → a.default ≡ b.default
op_default shared other o (Operation h) nodes others root top a b p q is m n e =
    let same : o ≡ h = (Decides-eqb o h).0 is in
    let left : slice_get shared.ops.items h ≡ Some a = subst (λ x. slice_get shared.ops.items x ≡ Some a) same p in
    let right : slice_get other.ops.items h ≡ Some b = subst (λ x. slice_get other.ops.items x ≡ Some b) same q in
    same_defaults nodes others root top a.default b.default e (and_at (λ info. IsDefault nodes root info.default) (slice_get shared.ops.items h) a left m.1)
    (and_at (λ info. IsDefault others top info.default) (slice_get other.ops.items h) b right n.1)
op_default shared other o (Define h) nodes others root top a b p q is m n e = cc
op_default shared other o (Lset h) nodes others root top a b p q is m n e = cc
op_default shared other o Plain nodes others root top a b p q is m n e = cc

-- ---- units

-- the texts are equal one by one
zip_of_maps : {A B C : Type 0} (f : A → C) (g : B → C) (xs : List A) (ys : List B) → map f xs ≡ map g ys → AllZip (λ x y. f x ≡ g y) xs ys
zip_of_maps f g [] [] h = tt
zip_of_maps f g [] (y ∷ ys) h = cc
zip_of_maps f g (x ∷ xs) [] h = cc
zip_of_maps f g (x ∷ xs) (y ∷ ys) h = (cc, zip_of_maps f g xs ys cc)

module _ (unit other : UnitCore) (whole : IsWhole unit) (also : IsWhole other) (renaming : Renaming) (spans others : List (List Span))
    (forms : FormsAlike renaming unit.shared other.shared unit.forms.items spans other.forms.items others) where
  definition_at : (at : UnitCore) → IsWhole at → (i : ℕ) (form : Form) → slice_get at.forms.items i ≡ Some form → IsDefinition at.shared form.kind form.nodes.items form.root
  definition_at at w i form is = all_at (λ f. IsDefinition at.shared f.kind f.nodes.items f.root) at.forms.items i form is w.definitions.forms

  pub same_global : (g : ℕ) (a b : Global1) → slice_get unit.shared.globals.items g ≡ Some a → slice_get other.shared.globals.items g ≡ Some b → a.kind ≡ b.kind
  same_global g a b p q =
      let there : IsThere (λ (form : Form). defines_global g form.kind) unit.forms.items =
      counted_there (λ (form : Form). defines_global g form.kind) unit.forms.items
      (whole.definitions.globals_once g (slice_get_within unit.shared.globals.items g a p))
      in
      let form : Form = there.x in
      let beside : FormBeside renaming unit.shared other.shared other.forms.items there.i form =
      form_beside renaming unit.shared other.shared unit.forms.items spans other.forms.items others there.i form forms there.found
      in
      let twin : Form = beside.twin in
      let same : SameRoots form.nodes.items twin.nodes.items form.root twin.root =
      same_roots renaming unit.shared other.shared form twin beside.ss beside.ts beside.roots
      in
      global_kind unit.shared other.shared g form.kind form.nodes.items twin.nodes.items form.root twin.root a b p q there.passes
      (definition_at unit whole there.i form there.found)
      (subst (λ k. IsDefinition other.shared k twin.nodes.items twin.root) (sym beside.kinds) (definition_at other also there.i twin beside.found)) same.lambdas

  builtin_default : (at : UnitCore) → IsWhole at → (o : ℕ) (a : OpInfo) → o < builtin_ops → slice_get at.shared.ops.items o ≡ Some a → a.default ≡ false
  builtin_default at w o a below is =
      same_Some a.default false (sym (ap (option_map (λ (info : OpInfo). info.default)) is) ∙ w.shared.parts.builtins o below)

  unit_op : (o : ℕ) (a b : OpInfo) → slice_get unit.shared.ops.items o ≡ Some a → slice_get other.shared.ops.items o ≡ Some b → builtin_ops ≤ o → a.default ≡ b.default
  unit_op o a b p q above =
      let there : IsThere (λ (form : Form). defines_op o form.kind) unit.forms.items =
      counted_there (λ (form : Form). defines_op o form.kind) unit.forms.items
      (whole.definitions.ops_once o above (slice_get_within unit.shared.ops.items o a p))
      in
      let form : Form = there.x in
      let beside : FormBeside renaming unit.shared other.shared other.forms.items there.i form =
      form_beside renaming unit.shared other.shared unit.forms.items spans other.forms.items others there.i form forms there.found
      in
      let twin : Form = beside.twin in
      let same : SameRoots form.nodes.items twin.nodes.items form.root twin.root =
      same_roots renaming unit.shared other.shared form twin beside.ss beside.ts beside.roots
      in
      op_default unit.shared other.shared o form.kind form.nodes.items twin.nodes.items form.root twin.root a b p q there.passes
      (definition_at unit whole there.i form there.found)
      (subst (λ k. IsDefinition other.shared k twin.nodes.items twin.root) (sym beside.kinds) (definition_at other also there.i twin beside.found)) same

  pub same_op : (o : ℕ) (a b : OpInfo) → slice_get unit.shared.ops.items o ≡ Some a → slice_get other.shared.ops.items o ≡ Some b → a.default ≡ b.default
  same_op o a b p q =
      ⊎_elim (λ (below : o < builtin_ops). builtin_default unit whole o a below p ∙ sym (builtin_default other also o b below q))
      (λ (above : builtin_ops ≤ o). unit_op o a b p q above) (cases_lt o builtin_ops)

  pub globals_same : map (λ g. slice_get unit.shared.names g.name.0) unit.shared.globals.items ≡ map (λ g. slice_get other.shared.names g.name.0) other.shared.globals.items
      → AllZip (IsSameGlobal unit.shared other.shared) unit.shared.globals.items other.shared.globals.items
  globals_same texts =
      zip_each (λ g h. slice_get unit.shared.names g.name.0 ≡ slice_get other.shared.names h.name.0) (IsSameGlobal unit.shared other.shared) unit.shared.globals.items
      other.shared.globals.items (λ i a b p q e. (same_global i a b p q, e))
      (zip_of_maps (λ (g : Global1). slice_get unit.shared.names g.name.0) (λ (g : Global1). slice_get other.shared.names g.name.0) unit.shared.globals.items other.shared.globals.items texts)

  pub ops_same : map (λ o. slice_get unit.shared.names o.name.0) unit.shared.ops.items ≡ map (λ o. slice_get other.shared.names o.name.0) other.shared.ops.items
      → AllZip (IsSameOp unit.shared other.shared) unit.shared.ops.items other.shared.ops.items
  ops_same texts =
      zip_each (λ g h. slice_get unit.shared.names g.name.0 ≡ slice_get other.shared.names h.name.0) (IsSameOp unit.shared other.shared) unit.shared.ops.items
      other.shared.ops.items (λ i a b p q e. (same_op i a b p q, e))
      (zip_of_maps (λ (g : OpInfo). slice_get unit.shared.names g.name.0) (λ (g : OpInfo). slice_get other.shared.names g.name.0) unit.shared.ops.items other.shared.ops.items texts)
