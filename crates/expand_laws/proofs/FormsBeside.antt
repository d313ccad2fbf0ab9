-- Forms at one place of two lists that are alike.
use Rattle.std.proofs.Common.{◌≡◌, ℕ, zero, suc, List, [], ◌∷◌, slice_get, Some, refl, subst}
use Rattle.std.proofs.lemmas.Option.{same_Some}
use Rattle.t_base.specs.declared.basics.Span.{Span}
use Rattle.t_base.specs.declared.shared_parts.Shared.{Shared}
use Rattle.t_core.specs.declared.forms.Form.{Form}
use Rattle.expand_laws.specs.Renaming.{Renaming, RootsAlike, FormsAlike}

-- the form beside this one
pub record FormBeside (renaming : Renaming) (shared other : Shared) (twins : List Form) (i : ℕ) (form : Form) : Type 0 where
  pub twin : Form
  pub ss : List Span
  pub ts : List Span
  pub found : slice_get twins i ≡ Some twin
  pub kinds : form.kind ≡ twin.kind
  pub roots : RootsAlike renaming shared other form ss twin ts

pub form_beside : (renaming : Renaming) (shared other : Shared) (forms : List Form) (sss : List (List Span)) (twins : List Form) (tss : List (List Span)) (i : ℕ) (form : Form)
    → FormsAlike renaming shared other forms sss twins tss → slice_get forms i ≡ Some form → FormBeside renaming shared other twins i form
form_beside renaming shared other [] sss twins tss i form h is = cc
form_beside renaming shared other (f ∷ forms) [] twins tss i form h is = absurd h
form_beside renaming shared other (f ∷ forms) (s ∷ sss) [] tss i form h is = absurd h
form_beside renaming shared other (f ∷ forms) (s ∷ sss) (g ∷ twins) [] i form h is = absurd h
form_beside renaming shared other (f ∷ forms) (s ∷ sss) (g ∷ twins) (t ∷ tss) zero form h is =
    subst (λ x. FormBeside renaming shared other (g ∷ twins) 0 x) (same_Some f form is)
    (record { twin = g; ss = s; ts = t; found = refl; kinds = h.0; roots = h.1 })
form_beside renaming shared other (f ∷ forms) (s ∷ sss) (g ∷ twins) (t ∷ tss) (suc i) form h is =
    let rest : FormBeside renaming shared other twins i form = form_beside renaming shared other forms sss twins tss i form h.2 is in
    record { twin = rest.twin; ss = rest.ss; ts = rest.ts; found = rest.found; kinds = rest.kinds; roots = rest.roots }

-- and the form that this one stands beside
pub record FormBefore (renaming : Renaming) (shared other : Shared) (forms : List Form) (i : ℕ) (twin : Form) : Type 0 where
  pub form : Form
  pub ss : List Span
  pub ts : List Span
  pub found : slice_get forms i ≡ Some form
  pub roots : RootsAlike renaming shared other form ss twin ts

pub form_before : (renaming : Renaming) (shared other : Shared) (forms : List Form) (sss : List (List Span)) (twins : List Form) (tss : List (List Span)) (i : ℕ) (twin : Form)
    → FormsAlike renaming shared other forms sss twins tss → slice_get twins i ≡ Some twin → FormBefore renaming shared other forms i twin
form_before renaming shared other [] [] [] tss i twin h is = cc
form_before renaming shared other [] (s ∷ sss) [] tss i twin h is = cc
form_before renaming shared other [] [] (g ∷ twins) tss i twin h is = absurd h
form_before renaming shared other [] (s ∷ sss) (g ∷ twins) tss i twin h is = absurd h
form_before renaming shared other (f ∷ forms) [] twins tss i twin h is = absurd h
form_before renaming shared other (f ∷ forms) (s ∷ sss) [] tss i twin h is = absurd h
form_before renaming shared other (f ∷ forms) (s ∷ sss) (g ∷ twins) [] i twin h is = absurd h
form_before renaming shared other (f ∷ forms) (s ∷ sss) (g ∷ twins) (t ∷ tss) zero twin h is =
    subst (λ x. FormBefore renaming shared other (f ∷ forms) 0 x) (same_Some g twin is) (record { form = f; ss = s; ts = t; found = refl; roots = h.1 })
form_before renaming shared other (f ∷ forms) (s ∷ sss) (g ∷ twins) (t ∷ tss) (suc i) twin h is =
    let rest : FormBefore renaming shared other forms i twin = form_before renaming shared other forms sss twins tss i twin h.2 is in
    record { form = rest.form; ss = rest.ss; ts = rest.ts; found = rest.found; roots = rest.roots }
