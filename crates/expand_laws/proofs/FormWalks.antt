-- Forms that are what one list of data stands for are alike, and their variables are bound together.
use Rattle.std.proofs.Common.{◌≡◌, suc, true, false, List, [], ◌∷◌, ◌++◌, Option, Some, None, inl, inr, refl, sym, ◌∙◌}
use Rattle.std.proofs.lemmas.List.Elements.{Contains-append_left, Contains-append_right}
use Rattle.t_base.specs.declared.basics.Span.{Span}
use Rattle.t_base.specs.declared.basics.Var.{Var}
use Rattle.t_base.specs.declared.shared_parts.Shared.{Shared}
use Rattle.t_core.specs.declared.forms.Form.{Form}
use Rattle.t_core.specs.declared.forms.FormKind.{FormKind}
use Rattle.t_forms.specs.Data.{Datum}
use Rattle.t_forms.specs.Names.{Meaning, Bound, a_global, an_op}
use Rattle.t_rows.specs.Rows.{Definition, define, lset, operation_form}
use Rattle.expansion.specs.Meaning.{ValueMeans, RootMeans, IsKind, FormMeans, FormsMean, top_scope}
use Rattle.expansion.specs.Units.{Top, defining, broken, expression, meaning_of}
use Rattle.expand_laws.specs.Renaming.{Renaming, RootsAlike, FormsAlike, nodes_of}
use Rattle.expand_laws.proofs.Collecting.{Includes, EachPair, Walked, each_of_both, no_pairs}
use Rattle.expand_laws.proofs.Paired.{BoundIn, BoundTogether, at_roots}
use Rattle.expand_laws.proofs.Walking.{walked}

-- ---- one form

record ValueWalked (form twin : Form) (ss ts : List Span) (shared other : Shared) : Type 0 where
  pairs : Renaming
  each : EachPair (BoundIn form twin) pairs
  roots : (all : Renaming) → Includes all pairs → RootsAlike all shared other form ss twin ts

record FormWalked (form twin : Form) (ss ts : List Span) (shared other : Shared) : Type 0 where
  kinds : form.kind ≡ twin.kind
  value : ValueWalked form twin ss ts shared other

same_kind : (k l : FormKind) (d : Definition) (m : Option Meaning) → IsKind k d m → IsKind l d m → k ≡ l
same_kind k l (define b d) (Some (a_global g false)) p q = p ∙ sym q
same_kind k l (lset b d) (Some (a_global g true)) p q = p ∙ sym q
same_kind k l (operation_form b ps d) (Some (an_op o)) p q = p ∙ sym q
same_kind k l _ _ p q = absurd p

module _ (defined : List Bound) (shared other : Shared) where
  root_walked : (form twin : Form) (ss ts : List Span) (d : Datum) → RootMeans defined shared (nodes_of form ss) d form.root
      → RootMeans defined other (nodes_of twin ts) d twin.root → ValueWalked form twin ss ts shared other
  root_walked form twin ss ts d m n =
      let w : Walked form twin ss ts shared other [] [] false form.root twin.root =
      walked form twin ss ts shared other [] [] (top_scope defined) d false form.root twin.root m n (at_roots form.root twin.root refl refl)
      in
      record { pairs = w.pairs; each = w.each; roots = λ all includes. inr (w.same all includes tt) }

  value_walked : (form twin : Form) (ss ts : List Span) (d : Definition) → ValueMeans defined shared (nodes_of form ss) d form.root
      → ValueMeans defined other (nodes_of twin ts) d twin.root → ValueWalked form twin ss ts shared other
  value_walked form twin ss ts (define b d) m n = root_walked form twin ss ts d m n
  value_walked form twin ss ts (lset b d) m n = root_walked form twin ss ts d m n
  value_walked form twin ss ts (operation_form b ps (Some d)) m n = root_walked form twin ss ts d m n
  value_walked form twin ss ts (operation_form b ps None) m n =
      record { pairs = []; each = no_pairs (BoundIn form twin); roots = λ all includes. inl (m.1, n.1, m.2 ∙ sym n.2) }

  form_walked : (form twin : Form) (ss ts : List Span) (top : Top) → FormMeans defined shared form ss top → FormMeans defined other twin ts top
      → FormWalked form twin ss ts shared other
  form_walked form twin ss ts (defining d) m n =
      record { kinds = same_kind form.kind twin.kind d (meaning_of defined d) (m.1).0 (n.1).0; value = value_walked form twin ss ts d (m.1).1 (n.1).1 }
  form_walked form twin ss ts (broken s) m n = absurd m.1
  form_walked form twin ss ts (expression d) m n = record { kinds = (m.1).0 ∙ sym (n.1).0; value = root_walked form twin ss ts d (m.1).1 (n.1).1 }

-- ---- all forms

pub record FormsWalked (forms twins : List Form) (sss tss : List (List Span)) (shared other : Shared) : Type 0 where
  pub pairs : Renaming
  pub each : EachPair (BoundTogether forms twins) pairs
  pub forms_alike : (all : Renaming) → Includes all pairs → FormsAlike all shared other forms sss twins tss

first_together : (form twin : Form) (forms twins : List Form) (v w : Var) → BoundIn form twin v w → BoundTogether (form ∷ forms) (twin ∷ twins) v w
first_together form twin forms twins v w b = record { f = 0; form = form; other = twin; form_is = refl; other_is = refl; within = b }

later_together : (form twin : Form) (forms twins : List Form) (v w : Var) → BoundTogether forms twins v w → BoundTogether (form ∷ forms) (twin ∷ twins) v w
later_together form twin forms twins v w b =
    record { f = suc b.f; form = b.form; other = b.other; form_is = b.form_is; other_is = b.other_is; within = b.within }

one_form_more : (form twin : Form) (forms twins : List Form) (ss ts : List Span) (sss tss : List (List Span)) (shared other : Shared)
    → FormWalked form twin ss ts shared other → FormsWalked forms twins sss tss shared other
    → FormsWalked (form ∷ forms) (twin ∷ twins) (ss ∷ sss) (ts ∷ tss) shared other
one_form_more form twin forms twins ss ts sss tss shared other first rest = record {
  pairs = first.value.pairs ++ rest.pairs;
  each =
      each_of_both (BoundTogether (form ∷ forms) (twin ∷ twins)) first.value.pairs rest.pairs (λ p c. first_together form twin forms twins p.0 p.1 (first.value.each p c))
      (λ p c. later_together form twin forms twins p.0 p.1 (rest.each p c));
  forms_alike = λ all includes. (
    first.kinds,
    first.value.roots all (λ p c. includes p (Contains-append_left first.value.pairs rest.pairs p c)),
    rest.forms_alike all (λ p c. includes p (Contains-append_right first.value.pairs rest.pairs p c)),
  );
}

pub forms_walked : (defined : List Bound) (shared other : Shared) (forms : List Form) (sss : List (List Span)) (tops : List Top) (twins : List Form) (tss : List (List Span))
    → FormsMean defined shared forms sss tops → FormsMean defined other twins tss tops → FormsWalked forms twins sss tss shared other
forms_walked defined shared other [] [] [] [] [] m n = record { pairs = []; each = no_pairs (BoundTogether [] []); forms_alike = λ all includes. tt }
forms_walked defined shared other [] [] [] [] (t ∷ tss) m n = absurd n
forms_walked defined shared other [] [] [] (g ∷ twins) [] m n = absurd n
forms_walked defined shared other [] [] [] (g ∷ twins) (t ∷ tss) m n = absurd n
forms_walked defined shared other [] [] (top ∷ tops) twins tss m n = absurd m
forms_walked defined shared other [] (s ∷ sss) [] twins tss m n = absurd m
forms_walked defined shared other [] (s ∷ sss) (top ∷ tops) twins tss m n = absurd m
forms_walked defined shared other (f ∷ forms) [] [] twins tss m n = absurd m
forms_walked defined shared other (f ∷ forms) [] (top ∷ tops) twins tss m n = absurd m
forms_walked defined shared other (f ∷ forms) (s ∷ sss) [] twins tss m n = absurd m
forms_walked defined shared other (f ∷ forms) (s ∷ sss) (top ∷ tops) [] [] m n = absurd n
forms_walked defined shared other (f ∷ forms) (s ∷ sss) (top ∷ tops) [] (t ∷ tss) m n = absurd n
forms_walked defined shared other (f ∷ forms) (s ∷ sss) (top ∷ tops) (g ∷ twins) [] m n = absurd n
forms_walked defined shared other (f ∷ forms) (s ∷ sss) (top ∷ tops) (g ∷ twins) (t ∷ tss) m n =
    one_form_more f g forms twins s t sss tss shared other (form_walked defined shared other f g s t top m.0 n.0)
    (forms_walked defined shared other forms sss tops twins tss m.1 n.1)
