-- The forms of a unit are put out one behind the other.
use Rattle.std.proofs.Common.{◌≡◌, ℕ, List, [], ◌∷◌, ◌++◌, refl, sym, ap, ◌∙◌, subst, append_assoc, append-nil}
use Rattle.t_core.specs.declared.forms.Core.{Core}
use Rattle.t_core.specs.declared.forms.Form.{Form}
use Rattle.orbit_build.specs.Sums.{Term, IsTermAt, IsTermForm, AreTerms}
use Rattle.orbit_build.specs.Code.{term_code, terms_code}

-- with the code of the forms that are left behind it, what was put out is this
pub record FormsLead (forms : List Form) (out total : List ℕ) : Type 0 where
  pub rest : List Term
  pub are : AreTerms forms rest
  pub total_is : out ++ terms_code rest ≡ total

-- the first form that is left, by its term
record First (form : Form) (forms : List Form) (ts : List Term) : Type 0 where
  it : Term
  others : List Term
  is : IsTermForm form it
  are : AreTerms forms others
  ts_are : ts ≡ it ∷ others

first : (form : Form) (forms : List Form) (ts : List Term) → AreTerms (form ∷ forms) ts → First form forms ts
first form forms [] h = absurd h
first form forms (t ∷ ts) h = record { it = t; others = ts; is = h.0; are = h.1; ts_are = refl }

pub forms_begin : (forms left_ : List Form) (ts : List Term) (out : List ℕ) → left_ ≡ forms → AreTerms forms ts → FormsLead left_ out (out ++ terms_code ts)
forms_begin forms left_ ts out e h = record { rest = ts; are = subst (λ (l : List Form). AreTerms l ts) (sym e) h; total_is = refl }

pub form_next : (left_ : List Form) (form : Form) (forms : List Form) (out total : List ℕ) → left_ ≡ form ∷ forms → FormsLead left_ out total → (t : Term) × IsTermAt form.nodes.items form.root t
form_next left_ form forms out total e h = let f = first form forms h.rest (subst (λ (l : List Form). AreTerms l h.rest) e h.are) in (f.it, f.is.1)

pub form_put : (left_ : List Form) (form : Form) (forms : List Form) (nodes : List Core) (out now total : List ℕ) → left_ ≡ form ∷ forms → nodes ≡ form.nodes.items → ((t : Term) → IsTermAt nodes form.root t → now ≡ out ++ term_code 0 t) → FormsLead left_ out total → FormsLead forms now total
form_put left_ form forms nodes out now total e n put h =
    let f = first form forms h.rest (subst (λ (l : List Form). AreTerms l h.rest) e h.are) in
    record {
      rest = f.others;
      are = f.are;
      total_is = ap (λ (l : List ℕ). l ++ terms_code f.others) (put f.it (subst (λ (l : List Core). IsTermAt l form.root f.it) (sym n) f.is.1)) ∙ append_assoc out (term_code 0 f.it) (terms_code f.others) ∙ ap (λ (l : List Term). out ++ terms_code l) (sym f.ts_are) ∙ h.total_is;
    }

pub forms_end : (left_ : List Form) (out total : List ℕ) → left_ ≡ [] → FormsLead left_ out total → out ≡ total
forms_end left_ out total e h = by_rest h.rest (subst (λ (l : List Form). AreTerms l h.rest) e h.are) h.total_is
  where
    by_rest : (ts : List Term) → AreTerms [] ts → out ++ terms_code ts ≡ total → out ≡ total
    by_rest [] a t = sym (append-nil out) ∙ t
    by_rest (t ∷ ts) a x = absurd a
