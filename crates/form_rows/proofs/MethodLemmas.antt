-- The methods of OBJECT.
use Rattle.std.proofs.Common.{◌≡◌, ℕ, List, [], ◌∷◌, ◌++◌, map, Option, Some, None, is_some, if◌then◌else◌, option_to_list, refl, sym, ap, ◌∙◌, append_assoc}
use Rattle.std.specs.List.{AllZip, filter_map, flat_map}
use Rattle.std.specs.Option.{option_map}
use Rattle.std.proofs.lemmas.List.{map-append, append-nil}
use Rattle.std.proofs.lemmas.List.Elements.{filter_map-append}
use Rattle.std.proofs.lemmas.Grind.{flat_map-append}
use Rattle.t_base.specs.declared.basics.Span.{Span}
use Rattle.t_forms.specs.declared.arena.Cell.{Cell}
use Rattle.t_forms.specs.Data.{operation, Datum, atom, span_of, Binder, binders_of, names}
use Rattle.t_forms.specs.Names.{Scope}
use Rattle.form_rows.specs.declared.object.Method.{Method as CodeMethod}
use Rattle.t_rows.specs.declared.refusal.Refusal.{Refusal}
use Rattle.t_rows.specs.declared.refusal.SyntaxKind.TheVariants.{NotOperation}
use Rattle.t_rows.specs.declared.rows.Part.{Part as CodePart}
use Rattle.t_rows.specs.Given.{IsPart}
use Rattle.t_rows.specs.Lists.{Grows, IsShort}
use Rattle.form_rows.specs.Methods.{IsMethod, IsMethodIf, IsObject, method_of, method_part, fixed_operation}
use Rattle.t_rows.specs.Rows.{Method, refusal, twice, plain, body, meant, method_of_head, method_of_items, operation_meant, operation_of, method_refusals}
use Rattle.t_rows.proofs.Growth.{held_grows}
use Rattle.t_rows.proofs.ZipLemmas.{zip_weaker}
use Rattle.t_rows.proofs.AllLemmas.{AllSoFar}

pub no_method : (names : List (List ℕ)) (cells : List Cell) (o : Option Method) → IsMethodIf names cells None o → o ≡ None
no_method names cells None h = refl
no_method names cells (Some m) h = cc

pub some_method : (names : List (List ℕ)) (cells : List Cell) (c : CodeMethod) (o : Option Method) → IsMethodIf names cells (Some c) o
    → (m : Method) × (o ≡ Some m) × IsMethod names cells c m
some_method names cells c None h = cc
some_method names cells c (Some m) h = let same : h.0 ≡ c = cc in (m, refl, rw same at h.2)

pub head_short : (s : Span) (bs hs : List Datum) → IsShort hs → method_of_head s bs hs ≡ None
head_short s bs [] h = refl
head_short s bs (d ∷ []) h = refl
head_short s bs (d ∷ e ∷ ds) h = absurd h

pub head_params : (s : Span) (bs : List Datum) (op me : Datum) (xs : List Datum) → binders_of (me ∷ xs) ≡ None → method_of_head s bs (op ∷ me ∷ xs) ≡ None
head_params s bs op me xs e = ap (option_map (λ ps. record { op = op; params = ps; form = body s bs })) e

pub head_is : (s : Span) (bs : List Datum) (op me : Datum) (xs : List Datum) (ps : List Binder) → binders_of (me ∷ xs) ≡ Some ps
    → method_of_head s bs (op ∷ me ∷ xs) ≡ Some (record { op = op; params = ps; form = body s bs })
head_is s bs op me xs ps e = ap (option_map (λ qs. record { op = op; params = qs; form = body s bs })) e

pub items_short : (s : Span) (ds : List Datum) → IsShort ds → method_of_items s ds ≡ None
items_short s [] h = refl
items_short s (d ∷ []) h = refl
items_short s (d ∷ e ∷ ds) h = absurd h

pub methods_grow : {a b : List Cell} → Grows a b → (names : List (List ℕ)) (s : Span) (cs : List CodeMethod) (ds : List Datum) → AllSoFar (IsMethod names a) (method_of s) cs ds
    → AllSoFar (IsMethod names b) (method_of s) cs ds
methods_grow {a = a} {b = b} g names s cs ds h = record {
  found = h.found;
  are = h.are;
  each = zip_weaker (IsMethod names a) (IsMethod names b) (λ x y r. (held_grows g names x.op y.op r.0, r.1, held_grows g names x.form y.form r.2)) cs h.found h.each;
}

pub fixed_is : (scope : Scope) (d : Datum) (o : ℕ) → Some o ≡ fixed_operation d → Some o ≡ operation_of scope d
fixed_is scope (atom s (operation n)) o e = e
fixed_is scope _ o e = cc

pub meant_is : (scope : Scope) (d : Datum) (o : Option ℕ) → None ≡ fixed_operation d → o ≡ operation_meant (meant scope d) → o ≡ operation_of scope d
meant_is scope (atom s (operation n)) o e p = cc
meant_is scope _ o e p = p

-- ---- one more method

one_filtered : {A B : Type 0} (f : A → Option B) (x : A) (o : Option B) → f x ≡ o → filter_map f (x ∷ []) ≡ option_to_list o
one_filtered f x None e = rw e refl
one_filtered f x (Some y) e = rw e refl

filter_last : {A B : Type 0} (f : A → Option B) (xs : List A) (x : A) → filter_map f (xs ++ x ∷ []) ≡ filter_map f xs ++ option_to_list (f x)
filter_last f xs x = filter_map-append f xs (x ∷ []) ∙ ap (λ ys. filter_map f xs ++ ys) (one_filtered f x (f x) refl)

flat_last : {A B : Type 0} (f : A → List B) (xs : List A) (x : A) → flat_map f (xs ++ x ∷ []) ≡ flat_map f xs ++ f x
flat_last f xs x = flat_map-append f xs (x ∷ []) ∙ ap (λ ys. flat_map f xs ++ ys) (append-nil (f x))

-- what is refused of a method
abbrev pub refused : Option ℕ → Span → List Refusal
refused o at = if is_some o then [] else refusal NotOperation at ∷ []

refused_is : (scope : Scope) (m : Method) (o : Option ℕ) (at : Span) → o ≡ operation_of scope m.op → at ≡ span_of m.op → refused o at ++ twice m.params ≡ method_refusals scope m
refused_is scope m o at e p = ap (λ x. refused x at ++ twice m.params) e ∙ ap (λ x. refused (operation_of scope m.op) x ++ twice m.params) p

pub one_method : (names : List (List ℕ)) (cells : List Cell) (scope : Scope) (p : Datum) (ops ops1 : List ℕ) (rs rs1 rs2 : List Refusal) (parts parts1 : List CodePart) (ms : List Method) (m : Method)
    (o : Option ℕ) (at : Span) → IsObject names cells scope p ops rs parts ms → o ≡ operation_of scope m.op → at ≡ span_of m.op → ops1 ≡ ops ++ option_to_list o → rs1 ≡ rs ++ refused o at
    → rs2 ≡ rs1 ++ twice m.params → AllZip (IsPart names cells) parts1 ((plain p ∷ map method_part ms) ++ method_part m ∷ [])
    → IsObject names cells scope p ops1 rs2 parts1 (ms ++ m ∷ [])
one_method names cells scope p ops ops1 rs rs1 rs2 parts parts1 ms m o at so_far eo ea e1 e2 e3 z = record {
  ops = e1 ∙ ap (λ x. x ++ option_to_list o) so_far.ops ∙ ap (λ x. filter_map (λ n. operation_of scope n.op) ms ++ option_to_list x) eo
      ∙ sym (filter_last (λ n. operation_of scope n.op) ms m);
  refusals = e3 ∙ ap (λ x. x ++ twice m.params) e2 ∙ append_assoc rs (refused o at) (twice m.params) ∙ ap (λ x. x ++ (refused o at ++ twice m.params)) so_far.refusals
      ∙ ap (λ x. flat_map (method_refusals scope) ms ++ x) (refused_is scope m o at eo ea) ∙ sym (flat_last (method_refusals scope) ms m);
  parts = rw (map-append method_part ms (m ∷ [])) z;
}
