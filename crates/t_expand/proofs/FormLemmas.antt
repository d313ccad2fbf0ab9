-- What is refused in a form, by its row; and a form that becomes a frame.
use Rattle.std.proofs.Common.{◌≡◌, ◌⊎◌, inl, inr, ℕ, List, [], ◌∷◌, map, Contains, Option, None, refl, sym, ap, subst, ◌∙◌, arith}
use Rattle.std.proofs.lemmas.List.Elements.{Contains-push, Contains-push_cases, Contains-append_left, Contains-append_right, Contains-append_cases}
use Rattle.t_base.specs.declared.basics.Var.{Var}
use Rattle.t_forms.specs.declared.arena.Cell.{Cell}
use Rattle.t_forms.specs.Data.{Datum, span_of}
use Rattle.t_forms.specs.Names.{Scope, within}
use Rattle.t_forms.specs.Held.{Held, Around, IsScope, vars_of}
use Rattle.t_rows.specs.declared.refusal.Refusal.{Refusal}
use Rattle.t_rows.specs.declared.rows.Row.{Row as CodeRow}
use Rattle.t_rows.specs.declared.rows.Row.TheVariants as coded
use Rattle.t_rows.specs.Rows.{Shape, Part, Row, stands_for, node, row}
use Rattle.t_rows.specs.Given.{IsRow, IsShape, AreParts}
use Rattle.t_rows.specs.Given.{IsRowOrNext}
use Rattle.expansion.specs.Meaning.{as_form, AllMean, no_parts}
use Rattle.expansion.specs.Refusals.{Refused, in_form, at_form, in_part}
use Rattle.core_frames.specs.Building.{part_of}
use Rattle.t_expand.specs.Expanding.{IsCovered, IsFirst}
use Rattle.t_expand.specs.Driving.{SameForm, Among, Finds, Opens}
use Rattle.t_expand.specs.declared.driver_state.Expansion.{Expansion}
use Rattle.core_frames.specs.Frames.{Frame, opened}
use Rattle.t_expand.specs.declared.driver.NodeRow.{NodeRow}
use Rattle.t_expand.proofs.RefusalLemmas.{none_covers}

-- ---- refusals by the row

refused_form : (around : Scope) (d e : Datum) (r : Refusal) → row around d ≡ stands_for e → Refused around d r → Refused around e r
refused_form around d e r is (in_form _ _ f _ h i) = let q : stands_for f ≡ stands_for e = sym h ∙ is in let s : f ≡ e = cc in subst (λ x. Refused around x r) s i
refused_form around d e r is (at_form _ _ _ s rs ps h i) = let q : node s rs ps ≡ stands_for e = sym h ∙ is in absurd (cc)
refused_form around d e r is (in_part _ _ _ s rs ps p h i j) = let q : node s rs ps ≡ stands_for e = sym h ∙ is in absurd (cc)

pub refused_node : (around : Scope) (d : Datum) (r : Refusal) (s : Shape) (rs : List Refusal) (ps : List Part) → row around d ≡ node s rs ps → Refused around d r → Contains rs r ⊎ Among around ps r
refused_node around d r s rs ps is (in_form _ _ f _ h i) = let q : stands_for f ≡ node s rs ps = sym h ∙ is in absurd (cc)
refused_node around d r s rs ps is (at_form _ _ _ s' rs' ps' h i) =
    let q : node s' rs' ps' ≡ node s rs ps = sym h ∙ is in let e : rs' ≡ rs = cc in inl (subst (λ l. Contains l r) e i)
refused_node around d r s rs ps is (in_part _ _ _ s' rs' ps' p h i j) =
    let q : node s' rs' ps' ≡ node s rs ps = sym h ∙ is in let e : ps' ≡ ps = cc in inr (record { part = p; has = subst (λ l. Contains l p) e i; refused = j })

pub among_node : (around : Scope) (d : Datum) (r : Refusal) (s : Shape) (rs : List Refusal) (ps : List Part) → row around d ≡ node s rs ps → Among around ps r → Refused around d r
among_node around d r s rs ps is a = in_part around d r s rs ps a.part is a.has a.refused

-- ---- forms that stand for the same

pub same_self : (around : Scope) (d : Datum) → SameForm around d d
same_self around d = record { means = λ shared n vars tail k h. h; into = λ r h. h; back = λ r h. h }

pub same_more : (around : Scope) (d e f : Datum) → SameForm around d e → row around e ≡ stands_for f → SameForm around d f
same_more around d e f s is = record {
  means = λ shared n vars tail k h. s.means shared n vars tail k (as_form vars around e f tail k is h);
  into = λ r h. refused_form around e f r is (s.into r h);
  back = λ r h. s.back r (in_form around e f r is h);
}

-- ---- parts one by one

pub first_part : (around : Scope) (p : Part) (ps : List Part) (r : Refusal) → Refused (within around p.binds) p.form r → Among around (p ∷ ps) r
first_part around p ps r h = record { part = p; has = Contains-append_left (p ∷ []) ps p (Contains-push [] p); refused = h }

pub later_part : (around : Scope) (p : Part) (ps : List Part) (r : Refusal) → Among around ps r → Among around (p ∷ ps) r
later_part around p ps r a = record { part = a.part; has = Contains-append_right (p ∷ []) ps a.part a.has; refused = a.refused }

pub part_cases : (around : Scope) (p : Part) (ps : List Part) (r : Refusal) → Among around (p ∷ ps) r → Refused (within around p.binds) p.form r ⊎ Among around ps r
part_cases around p ps r a = by (Contains-append_cases (p ∷ []) ps a.part a.has)
  where
    one : Contains [] a.part ⊎ (p ≡ a.part) → Refused (within around p.binds) p.form r ⊎ Among around ps r
    one (inl c) = let h = c.1 in absurd (omega arith)
    one (inr e) = inl (subst (λ q. Refused (within around q.binds) q.form r) (sym e) a.refused)

    by : Contains (p ∷ []) a.part ⊎ Contains ps a.part → Refused (within around p.binds) p.form r ⊎ Among around ps r
    by (inl c) = one (Contains-push_cases [] p a.part c)
    by (inr c) = inr (record { part = a.part; has = c; refused = a.refused })

pub among_none : (around : Scope) (r : Refusal) → Among around [] r → ⊥
among_none around r a = let c = a.has in let h = c.1 in omega arith

-- ---- a frame

none_refused : (rs : List Refusal) (first : Option Refusal) → first ≡ None → ((r : Refusal) → Contains rs r → IsCovered first r) → rs ≡ []
none_refused [] first e covers = refl
none_refused (x ∷ xs) first e covers =
    absurd (none_covers x (subst (λ o. IsCovered o x) e (covers x (Contains-append_left (x ∷ []) xs x (Contains-push [] x)))))

-- the form of a row stands for the same
pub form_found : (names : List (List ℕ)) (cells : List Cell) (vars : List Var) (around : Scope) (d e : Datum) (k : ℕ) (r : CodeRow) → r ≡ coded.StandsFor k → SameForm around d e
    → IsRow names cells vars r (row around e) → (g : Datum) × Held names cells k g × SameForm around d g
form_found names cells vars around d e k r is same h = by (row around e) refl h
  where
    by : (t : Row) → row around e ≡ t → IsRow names cells vars r t → (g : Datum) × Held names cells k g × SameForm around d g
    by (stands_for g) eq i =
        let q : coded.StandsFor i.0 ≡ coded.StandsFor k = sym i.1 ∙ is in let p : i.0 ≡ k = cc in
        (g, subst (λ x. Held names cells x g) p i.2, same_more around d e g same eq)
    by (node shape refusals parts) eq i = let q : coded.Node i.0 i.1 i.2 ≡ coded.StandsFor k = sym i.3 ∙ is in absurd (cc)

-- the form at a place, or one that it stands for and that has the row
record Found (names : List (List ℕ)) (cells : List Cell) (vars : List Var) (around : Scope) (d : Datum) (r : CodeRow) : Type 0 where
  form : Datum
  same : SameForm around d form
  span : span_of form ≡ span_of d
  is : IsRow names cells vars r (row around form)

found_by : (names : List (List ℕ)) (cells : List Cell) (vars : List Var) (around : Scope) (d : Datum) (r : CodeRow) → IsRowOrNext names cells vars around d r → Found names cells vars around d r
found_by names cells vars around d r (inl is) = record { form = d; same = same_self around d; span = refl; is = is }
found_by names cells vars around d r (inr a) = record { form = a.form; same = same_more around d d a.form (same_self around d) a.stands; span = a.span; is = a.is }

same_through : (around : Scope) (d e f : Datum) → SameForm around d e → SameForm around e f → SameForm around d f
same_through around d e f s t = record {
  means = λ shared n vars tail k h. s.means shared n vars tail k (t.means shared n vars tail k h);
  into = λ r h. t.into r (s.into r h);
  back = λ r h. s.back r (t.back r h);
}

-- the same of the form at a place, or of one that it stands for
pub form_found_or_next : (names : List (List ℕ)) (cells : List Cell) (vars : List Var) (around : Scope) (d e : Datum) (k : ℕ) (r : CodeRow) → r ≡ coded.StandsFor k → SameForm around d e
    → IsRowOrNext names cells vars around e r → (g : Datum) × Held names cells k g × SameForm around d g
form_found_or_next names cells vars around d e k r is same h =
    let a = found_by names cells vars around e r h in form_found names cells vars around d a.form k r is (same_through around d e a.form same a.same) a.is

pub node_found : (names : List (List ℕ)) (cells : List Cell) (at : Around) (around : Scope) (d e : Datum) (found : NodeRow) (r : CodeRow) → r ≡ coded.Node found.shape found.refusals found.parts
    → SameForm around d e → found.span ≡ span_of e → IsRowOrNext names cells (vars_of at) around e r → Finds names cells at around d found
node_found names cells at around d e found r is same span h =
    let a = found_by names cells (vars_of at) around e r h in
    record {
      form = a.form;
      same = same_through around d e a.form same a.same;
      span = span ∙ sym a.span;
      is = subst (λ x. IsRow names cells (vars_of at) x (row around a.form)) is a.is;
    }

-- a frame for the node of a row
pub frame_opens : (old new : Expansion) (around : Scope) (d : Datum) (f : Frame) (found : NodeRow) → Finds new.shared.names new.forms old.scope around d found → IsScope new.shared.names old.scope around
    → f ≡ opened found.shape found.span f.state.tail found.parts.items → IsFirst old.first found.refusals.items new.first → Opens old new around d f
frame_opens old new around d f found finds scope is first = by (row around finds.form) refl finds.is
  where
    by : (t : Row) → row around finds.form ≡ t → IsRow new.shared.names new.forms (vars_of old.scope) (coded.Node found.shape found.refusals found.parts) t → Opens old new around d f
    by (stands_for g) eq h = let q = h.1 in absurd (cc)
    by (node shape refusals parts) eq h =
        let q = h.3 in
        let same_shape : h.0 ≡ found.shape = cc in
        let same_items : found.refusals ≡ h.1 = cc in
        let same_parts : h.2 ≡ found.parts = cc in
        let same_rs : found.refusals.items ≡ refusals = ap (λ v. v.items) same_items ∙ h.5 in
        let done : f.done ≡ [] = ap (λ g. g.done) is in
        record {
          top = record { at = old.scope; around = around; form = finds.form; shape = shape; refusals = refusals; before = []; last = []; after = parts };
          opened = record {
            scope = scope;
            row_is = eq;
            span = ap (λ g. g.state.span) is ∙ finds.span;
            shape = subst (λ x. IsShape new.shared.names new.forms (vars_of old.scope) x shape) (same_shape ∙ sym (ap (λ g. g.state.shape) is)) h.4;
            refused = λ n. none_refused refusals new.first n (λ x i. first.least x (subst (λ l. Contains l x) (sym same_rs) i));
            made = λ n. subst (λ l. AllMean new.shared new.nodes (vars_of old.scope) around [] (map part_of l)) (sym done) (no_parts (vars_of old.scope) around);
          };
          at = refl;
          around_is = refl;
          before = refl;
          last = refl;
          left = subst (λ l. AreParts new.shared.names new.forms [] l parts) (ap (λ v. v.items) same_parts ∙ sym (ap (λ g. g.left) is)) h.6;
          bound = ap (λ g. g.state.bound.count) is;
          same = finds.same;
          first = subst (λ l. IsFirst old.first l new.first) same_rs first;
        }
