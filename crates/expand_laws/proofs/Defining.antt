-- What the forms of a unit define: each global and each operation is defined by one of them.
use Rattle.std.proofs.Common.{◌≡◌, ℕ, ◌+◌, ◌≤◌, ◌++◌, List, [], ◌∷◌, length, All, Option, Some, slice_get, refl, sym, ap, subst, ◌∙◌, append_assoc, arith}
use Rattle.std.specs.Option.{IsSomeAnd}
use Rattle.std.proofs.lemmas.List.{length-append}
use Rattle.std.proofs.lemmas.List.Elements.{All-nil, All-cons}
use Rattle.t_base.specs.declared.shared_parts.Global1.{Global1}
use Rattle.t_base.specs.declared.shared_parts.OpInfo.{OpInfo}
use Rattle.t_base.specs.declared.shared_parts.Shared.{Shared}
use Rattle.t_core.specs.declared.forms.FormKind.{FormKind}
use Rattle.t_core.specs.declared.forms.FormKind.TheVariants as kind
use Rattle.t_core.specs.declared.forms.Form.{Form}
use Rattle.t_core.specs.Whole.{IsDefinition}
use Rattle.expansion.specs.Units.{Top}
use Rattle.expand_laws.proofs.Tables.{Tabled, no_more, a_define, an_lset, an_operation, an_expression}

-- ---- each form is a definition

-- the whole tables are these behind those before
pub record IsSplit (shared : Shared) (g o : ℕ) (gs : List Global1) (os : List OpInfo) : Type 0 where
  pub globals : List Global1
  pub ops : List OpInfo
  pub global_count : length globals ≡ g
  pub op_count : length ops ≡ o
  pub globals_are : shared.globals.items ≡ globals ++ gs
  pub ops_are : shared.ops.items ≡ ops ++ os

at_count : {A : Type 0} (xs ys : List A) (x : A) (n : ℕ) → length xs ≡ n → slice_get (xs ++ x ∷ ys) n ≡ Some x
at_count [] ys x n e = ap (λ k. slice_get (x ∷ ys) k) (sym e)
at_count (z ∷ xs) ys x n e = ap (λ k. slice_get (z ∷ (xs ++ x ∷ ys)) k) (sym e) ∙ at_count xs ys x (length xs) refl

pub one_longer : {A : Type 0} (xs : List A) (x : A) (n : ℕ) → length xs ≡ n → length (xs ++ x ∷ []) ≡ n + 1
one_longer xs x n e = let l = length-append xs (x ∷ []) in omega (arith, l, e)

pub global_at : (shared : Shared) (g o : ℕ) (info : Global1) (gs : List Global1) (os : List OpInfo) → IsSplit shared g o (info ∷ gs) os → slice_get shared.globals.items g ≡ Some info
global_at shared g o info gs os s = ap (λ l. slice_get l g) s.globals_are ∙ at_count s.globals gs info g s.global_count

pub op_at : (shared : Shared) (g o : ℕ) (info : OpInfo) (gs : List Global1) (os : List OpInfo) → IsSplit shared g o gs (info ∷ os) → slice_get shared.ops.items o ≡ Some info
op_at shared g o info gs os s = ap (λ l. slice_get l o) s.ops_are ∙ at_count s.ops os info o s.op_count

pub past_global : (shared : Shared) (g o : ℕ) (info : Global1) (gs : List Global1) (os : List OpInfo) → IsSplit shared g o (info ∷ gs) os → IsSplit shared (g + 1) o gs os
past_global shared g o info gs os s = record {
  globals = s.globals ++ info ∷ [];
  ops = s.ops;
  global_count = one_longer s.globals info g s.global_count;
  op_count = s.op_count;
  globals_are = s.globals_are ∙ sym (append_assoc s.globals (info ∷ []) gs);
  ops_are = s.ops_are;
}

pub past_op : (shared : Shared) (g o : ℕ) (info : OpInfo) (gs : List Global1) (os : List OpInfo) → IsSplit shared g o gs (info ∷ os) → IsSplit shared g (o + 1) gs os
past_op shared g o info gs os s = record {
  globals = s.globals;
  ops = s.ops ++ info ∷ [];
  global_count = s.global_count;
  op_count = one_longer s.ops info o s.op_count;
  globals_are = s.globals_are;
  ops_are = s.ops_are ∙ sym (append_assoc s.ops (info ∷ []) os);
}

is_some_and : {A : Type 0} (P : A → Type 0) (o : Option A) (x : A) → o ≡ Some x → P x → IsSomeAnd o P
is_some_and P o x e p = subst (λ y. IsSomeAnd y P) (sym e) p

abbrev IsDefinitionOf : Shared → Form → Type 0
IsDefinitionOf shared form = IsDefinition shared form.kind form.nodes.items form.root

of_kind : (shared : Shared) (f : Form) (k : FormKind) → f.kind ≡ k → IsDefinition shared k f.nodes.items f.root → IsDefinitionOf shared f
of_kind shared f k e h = subst (λ x. IsDefinition shared x f.nodes.items f.root) (sym e) h

pub forms_defined : (names : List (List ℕ)) (shared : Shared) (g o : ℕ) (ts : List Top) (fs : List Form) (gs : List Global1) (os : List OpInfo) → 3 ≤ o → Tabled names g o ts fs gs os
    → IsSplit shared g o gs os → All (λ form. IsDefinition shared form.kind form.nodes.items form.root) fs
forms_defined names shared g o ts fs gs os le (no_more _ _) s = All-nil (IsDefinitionOf shared)
forms_defined names shared g o ts fs gs os le (a_define g1 o1 b d us f hs info is ps k some kinded at rest) s =
    All-cons (IsDefinitionOf shared) f hs (of_kind shared f (kind.Define g1) k (some, is_some_and _ _ info (global_at shared g1 o1 info is ps s) kinded))
    (forms_defined names shared (g1 + 1) o1 us hs is ps le rest (past_global shared g1 o1 info is ps s))
forms_defined names shared g o ts fs gs os le (an_lset g1 o1 b d us f hs info is ps k some kinded at rest) s =
    All-cons (IsDefinitionOf shared) f hs (of_kind shared f (kind.Lset g1) k (some, is_some_and _ _ info (global_at shared g1 o1 info is ps s) kinded))
    (forms_defined names shared (g1 + 1) o1 us hs is ps le rest (past_global shared g1 o1 info is ps s))
forms_defined names shared g o ts fs gs os le (an_operation g1 o1 b qs d us f hs info is ps k kinded at rest) s =
    All-cons (IsDefinitionOf shared) f hs (of_kind shared f (kind.Operation o1) k (le, is_some_and _ _ info (op_at shared g1 o1 info is ps s) kinded))
    (forms_defined names shared g1 (o1 + 1) us hs is ps (omega (arith, le)) rest (past_op shared g1 o1 info is ps s))
forms_defined names shared g o ts fs gs os le (an_expression g1 o1 d us f hs is ps k some rest) s =
    All-cons (IsDefinitionOf shared) f hs (of_kind shared f kind.Plain k some) (forms_defined names shared g1 o1 us hs is ps le rest s)
