-- Defining forms elsewhere than at top level.
use Rattle.std.proofs.Common.{◌≡◌, ℕ, true, false, List, [], ◌∷◌, Option, Some, None, is_some, refl, ap, ◌∙◌}
use Rattle.std.specs.Global.{Vec}
use Rattle.t_rows.specs.Bindings.{IsAllOf}
use Rattle.std.specs.Option.{option_map, option_and_then}
use Rattle.t_base.specs.declared.basics.Span.{Span}
use Rattle.t_forms.specs.declared.arena.Cell.{Cell}
use Rattle.form_rows.specs.declared.definitions.Definition.{Definition as CodeDefinition}
use Rattle.t_rows.specs.declared.refusal.SyntaxKind.TheVariants.{NotTopLevel}
use Rattle.t_forms.specs.Data.{Atom, Datum, atom, cons, items_of, Binder, binder_of, binders_of, listed}
use Rattle.t_rows.specs.Lists.{IsShort, is_pair}
use Rattle.form_rows.specs.Definitions.{IsDefinitionIf}
use Rattle.t_rows.specs.Rows.{Definition, define, operation_form, lambda_form, define_procedure, define_of, default_of, define_operation_with, define_operation_of, inner_definition, bad}

no_pair : (s : Span) (a : Atom) → is_pair (atom s a) ≡ true → ⊥
no_pair s a e = cc

pub is_none_of : {A : Type 0} (o : Option A) → false ≡ is_some o → o ≡ None
is_none_of None e = refl
is_none_of (Some x) e = cc

pub is_some_of : {A : Type 0} (o : Option A) → true ≡ is_some o → (x : A) × (o ≡ Some x)
is_some_of None e = cc
is_some_of (Some x) e = (x, refl)

pub all_is_some : {A B : Type 0} (R : A → B → Type 0) (v : Option (Vec A)) (o : Option (List B)) → IsAllOf R v o → is_some v ≡ is_some o
all_is_some R None o h = rw h refl
all_is_some R (Some v) o h = rw h.1 refl

pub same_is_some : (names : List (List ℕ)) (cells : List Cell) (c : Option CodeDefinition) (o : Option Definition) → IsDefinitionIf names cells c o → is_some c ≡ is_some o
same_is_some names cells c None h = rw h refl
same_is_some names cells c (Some d) h = rw h.1 refl

pub not_defining : (s : Span) (o : Option Definition) → false ≡ is_some o → inner_definition s o ≡ inner_definition s None
not_defining s None h = refl
not_defining s (Some d) h = cc

pub inner_refused : (s : Span) (o : Option Definition) → true ≡ is_some o → inner_definition s o ≡ bad NotTopLevel s
inner_refused s None h = cc
inner_refused s (Some d) h = refl

-- ---- DEFINE

pub procedure_params : (s : Span) (f : Datum) (xs : List Datum) (b : Datum) (bs : List Datum) → binders_of xs ≡ None → define_procedure s (f ∷ xs) (b ∷ bs) ≡ None
procedure_params s f xs b bs e = rw e refl

pub procedure_name : (s : Span) (f : Datum) (xs : List Datum) (b : Datum) (bs : List Datum) (ps : List Binder) → binders_of xs ≡ Some ps → binder_of f ≡ None
    → define_procedure s (f ∷ xs) (b ∷ bs) ≡ None
procedure_name s f xs b bs ps e n = rw (e, n) refl

pub procedure_is : (s : Span) (f : Datum) (xs : List Datum) (b : Datum) (bs : List Datum) (ps : List Binder) (g : Binder) → binders_of xs ≡ Some ps → binder_of f ≡ Some g
    → define_procedure s (f ∷ xs) (b ∷ bs) ≡ Some (define g (lambda_form s (listed s xs) (b ∷ bs)))
procedure_is s f xs b bs ps g e n = rw (e, n) refl

pub define_pair : (s : Span) (d : Datum) (bs : List Datum) → is_pair d ≡ true → define_of s (d ∷ bs) ≡ option_and_then (λ fs. define_procedure s fs bs) (items_of d)
define_pair s (atom t a) bs e = absurd (no_pair t a e)
define_pair s (cons t head tail) bs e = refl

pub define_no_name : (s : Span) (x e : Datum) → is_pair x ≡ false → binder_of x ≡ None → define_of s (x ∷ e ∷ []) ≡ None
define_no_name s (atom t a) e p n = rw n refl
define_no_name s (cons t head tail) e p n = cc

pub define_is : (s : Span) (x e : Datum) (g : Binder) → is_pair x ≡ false → binder_of x ≡ Some g → define_of s (x ∷ e ∷ []) ≡ Some (define g e)
define_is s (atom t a) e g p n = rw n refl
define_is s (cons t head tail) e g p n = cc

pub define_bare : (s : Span) (x : Datum) → is_pair x ≡ false → define_of s (x ∷ []) ≡ None
define_bare s (atom t a) p = refl
define_bare s (cons t head tail) p = cc

pub define_long : (s : Span) (x e f : Datum) (ds : List Datum) → is_pair x ≡ false → define_of s (x ∷ e ∷ f ∷ ds) ≡ None
define_long s (atom t a) e f ds p = refl
define_long s (cons t head tail) e f ds p = cc

-- ---- DEFINE-OPERATION

pub operation_params : (s : Span) (op me : Datum) (xs : List Datum) (bs : List Datum) → binders_of (me ∷ xs) ≡ None → define_operation_with s (op ∷ me ∷ xs) bs ≡ None
operation_params s op me xs bs e = ap (λ o. option_and_then (λ ps. option_map (λ g. operation_form g ps (default_of s (me ∷ xs) bs)) (binder_of op)) o) e

pub operation_name : (s : Span) (op me : Datum) (xs : List Datum) (bs : List Datum) (ps : List Binder) → binders_of (me ∷ xs) ≡ Some ps → binder_of op ≡ None
    → define_operation_with s (op ∷ me ∷ xs) bs ≡ None
operation_name s op me xs bs ps e n =
    ap (λ o. option_and_then (λ qs. option_map (λ g. operation_form g qs (default_of s (me ∷ xs) bs)) (binder_of op)) o) e
    ∙ ap (λ o. option_map (λ g. operation_form g ps (default_of s (me ∷ xs) bs)) o) n

pub operation_is : (s : Span) (op me : Datum) (xs : List Datum) (bs : List Datum) (ps : List Binder) (g : Binder) → binders_of (me ∷ xs) ≡ Some ps → binder_of op ≡ Some g
    → define_operation_with s (op ∷ me ∷ xs) bs ≡ Some (operation_form g ps (default_of s (me ∷ xs) bs))
operation_is s op me xs bs ps g e n =
    ap (λ o. option_and_then (λ qs. option_map (λ x. operation_form x qs (default_of s (me ∷ xs) bs)) (binder_of op)) o) e
    ∙ ap (λ o. option_map (λ x. operation_form x ps (default_of s (me ∷ xs) bs)) o) n

pub operation_pair : (s : Span) (d : Datum) (bs : List Datum) → is_pair d ≡ true
    → define_operation_of s (d ∷ bs) ≡ option_and_then (λ os. define_operation_with s os bs) (items_of d)
operation_pair s (atom t a) bs e = absurd (no_pair t a e)
operation_pair s (cons t head tail) bs e = refl

pub operation_short : (s : Span) (os bs : List Datum) → IsShort os → define_operation_with s os bs ≡ None
operation_short s [] bs h = refl
operation_short s (d ∷ []) bs h = refl
operation_short s (d ∷ e ∷ ds) bs h = absurd h

pub operation_no_name : (s : Span) (x : Datum) → is_pair x ≡ false → binder_of x ≡ None → define_operation_of s (x ∷ []) ≡ None
operation_no_name s (atom t a) p n = rw n refl
operation_no_name s (cons t head tail) p n = cc

pub operation_named : (s : Span) (x : Datum) (g : Binder) → is_pair x ≡ false → binder_of x ≡ Some g → define_operation_of s (x ∷ []) ≡ Some (operation_form g [] None)
operation_named s (atom t a) g p n = rw n refl
operation_named s (cons t head tail) g p n = cc

pub operation_long : (s : Span) (x e : Datum) (ds : List Datum) → is_pair x ≡ false → define_operation_of s (x ∷ e ∷ ds) ≡ None
operation_long s (atom t a) e ds p = refl
operation_long s (cons t head tail) e ds p = cc
