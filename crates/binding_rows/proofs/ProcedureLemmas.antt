-- The procedures of LABELS.
use Rattle.std.proofs.Common.{◌≡◌, ◌≢◌, ℕ, true, false, List, [], ◌∷◌, ◌++◌, length, map, Option, Some, None, refl, sym, subst}
use Rattle.std.proofs.lemmas.List.{map-append}
use Rattle.std.specs.List.{AllZip}
use Rattle.std.specs.Option.{option_and_then}
use Rattle.t_base.specs.declared.basics.Span.{Span}
use Rattle.t_forms.specs.declared.arena.Cell.{Cell}
use Rattle.t_forms.specs.Data.{Datum, Name, atom, cons, items_of, Binder, binder_of}
use Rattle.t_forms.specs.Held.{Held}
use Rattle.binding_rows.specs.declared.labels.Procedure.{Procedure}
use Rattle.t_rows.specs.declared.rows.Part.{Part as CodePart}
use Rattle.t_rows.specs.Given.{AreBinds, AreParts}
use Rattle.t_rows.specs.Lists.{Grows, is_pair}
use Rattle.binding_rows.specs.Procedures.{IsProcedure, IsProcedureIf, labels_item_of}
use Rattle.t_rows.specs.Rows.{Binding, inside, binding, is_lambda_word, lambda_item, procedure_item, labels_item}
use Rattle.t_rows.proofs.Growth.{held_grows}
use Rattle.t_rows.proofs.ZipLemmas.{zip_weaker, ZipLast, zip_last}
use Rattle.t_rows.proofs.PartLemmas.{one_more_same}
use Rattle.t_rows.proofs.AllLemmas.{AllSoFar}

pub no_procedure : (names : List (List ℕ)) (cells : List Cell) (o : Option Binding) → IsProcedureIf names cells None o → o ≡ None
no_procedure names cells None h = refl
no_procedure names cells (Some b) h = cc

pub some_procedure : (names : List (List ℕ)) (cells : List Cell) (p : Procedure) (o : Option Binding) → IsProcedureIf names cells (Some p) o
    → (b : Binding) × (o ≡ Some b) × IsProcedure names cells p b
some_procedure names cells p None h = cc
some_procedure names cells p (Some b) h = let same : h.0 ≡ p = cc in (b, refl, rw same at h.2)

pub item_no_pair : (f d : Datum) → is_pair d ≡ false → lambda_item f (d ∷ []) ≡ None
item_no_pair f (atom s a) e = refl
item_no_pair f (cons s head tail) e = cc

pub item_more : (f d e : Datum) (ds : List Datum) → lambda_item f (d ∷ e ∷ ds) ≡ None
item_more f (atom s a) e ds = refl
item_more f (cons s head tail) e ds = refl

pub item_no_lambda : (f d : Datum) (s : Span) (head tail : Datum) → d ≡ cons s head tail → is_lambda_word head ≡ false → lambda_item f (d ∷ []) ≡ None
item_no_lambda f d s head tail e w = rw (e, w) refl

pub item_no_name : (f d : Datum) (s : Span) (head tail : Datum) → d ≡ cons s head tail → is_lambda_word head ≡ true → binder_of f ≡ None → lambda_item f (d ∷ []) ≡ None
item_no_name f d s head tail e w n = rw (e, w, n) refl

pub item_is : (f d : Datum) (s : Span) (head tail : Datum) (b : Binder) → d ≡ cons s head tail → is_lambda_word head ≡ true → binder_of f ≡ Some b
    → lambda_item f (d ∷ []) ≡ Some (binding d b)
item_is f d s head tail b e w n = rw (e, w, n) refl

pub labels_pair : (s : Span) (d : Datum) (bs : List Datum) → is_pair d ≡ true → labels_item s (d ∷ bs) ≡ option_and_then (procedure_item s bs) (items_of d)
labels_pair s (atom t a) bs e = cc
labels_pair s (cons t head tail) bs e = refl

pub labels_atom : (s : Span) (d : Datum) (bs : List Datum) → is_pair d ≡ false → labels_item s (d ∷ bs) ≡ lambda_item d bs
labels_atom s (atom t a) bs e = refl
labels_atom s (cons t head tail) bs e = cc

pub all_grow : {a b : List Cell} → Grows a b → (names : List (List ℕ)) (s : Span) (ps : List Procedure) (ds : List Datum) → AllSoFar (IsProcedure names a) (labels_item_of s) ps ds
    → AllSoFar (IsProcedure names b) (labels_item_of s) ps ds
all_grow {a = a} {b = b} g names s ps ds h = record {
  found = h.found;
  are = h.are;
  each = zip_weaker (IsProcedure names a) (IsProcedure names b) (λ x y r. (r.0, held_grows g names x.value y.value r.1)) ps h.found h.each;
}

pub procedures_grow : {a b : List Cell} → Grows a b → (names : List (List ℕ)) (ps : List Procedure) (xs : List Binding) → AllZip (IsProcedure names a) ps xs → AllZip (IsProcedure names b) ps xs
procedures_grow {a = a} {b = b} g names ps xs h =
    zip_weaker (IsProcedure names a) (IsProcedure names b) (λ x y r. (r.0, held_grows g names x.value y.value r.1)) ps xs h

-- ---- their parts

pub no_parts : (texts : List (List ℕ)) (cells : List Cell) (ns : List Name) (xs : List Binding) → AllZip (IsProcedure texts cells) [] xs
    → AreParts texts cells [] [] (map (λ x. inside ns x.value) xs)
no_parts texts cells ns [] h = refl
no_parts texts cells ns (x ∷ xs) h = absurd h

pub one_more_part : (texts : List (List ℕ)) (cells : List Cell) (ns : List Name) (ks : List Procedure) (k : Procedure) (cs : List CodePart) (c : CodePart)
    → ((ys : List Binding) → AllZip (IsProcedure texts cells) ks ys → AreParts texts cells [] cs (map (λ x. inside ns x.value) ys))
    → ((before : List Name) → (length cs ≢ 0 → before ≡ ns) → AreBinds texts before c.binds ns) → c.form ≡ k.value → (xs : List Binding)
    → AllZip (IsProcedure texts cells) (ks ++ k ∷ []) xs → AreParts texts cells [] (cs ++ c ∷ []) (map (λ x. inside ns x.value) xs)
one_more_part texts cells ns ks k cs c so_far named form xs h =
    let l : ZipLast (IsProcedure texts cells) ks k xs = zip_last (IsProcedure texts cells) ks k xs h in
    let held : Held texts cells c.form l.last.value = subst (λ i. Held texts cells i l.last.value) (sym form) l.zip_last.1 in
    rw (l.parts, map-append (λ (x : Binding). inside ns x.value) l.before (l.last ∷ []))
    (one_more_same (λ (x : Binding). x.value) texts cells ns cs c l.before l.last.value (so_far l.before l.zip_before) named held)
