-- All refusals in a form on which the table of forms ends.
use Rattle.std.proofs.Common.{◌≡◌, ◌⊎◌, inl, inr, List, [], ◌∷◌, ◌++◌, Contains, sym, subst, ◌∙◌}
use Rattle.std.proofs.lemmas.List.Elements.{Contains-append_left, Contains-append_right, Contains-append_cases}
use Rattle.t_forms.specs.Data.{Datum}
use Rattle.t_forms.specs.Names.{Scope, within}
use Rattle.t_rows.specs.declared.refusal.Refusal.{Refusal}
use Rattle.t_rows.specs.Rows.{stands_for, node, Shape, Part, row}
use Rattle.expansion.specs.Refusals.{Refused, in_form, at_form, in_part}
use Rattle.expansion.proofs.Places.{contains_none}
use Rattle.expansion.proofs.Places.{none_in}
use Rattle.expand_laws.specs.Ends.{Ends, as_form, as_node, AllEnd, no_parts, one_part}
use Rattle.expand_laws.proofs.ListedRefusals.{Listed, contains_cases, contains_first, contains_later}

abbrev mutual
  pub refusals_of : (scope : Scope) (d : Datum) → Ends scope d → List Refusal
  refusals_of scope d (as_form sc dd e at x) = refusals_of sc e x
  refusals_of scope d (as_node sc dd shape rs parts at all) = rs ++ refusals_among sc parts all

  pub refusals_among : (scope : Scope) (ps : List Part) → AllEnd scope ps → List Refusal
  refusals_among scope ps (no_parts sc) = []
  refusals_among scope ps (one_part sc p qs x rest) = refusals_of (within sc p.binds) p.form x ++ refusals_among sc qs rest

-- ---- each is listed

same_form : (d e : Datum) → stands_for d ≡ stands_for e → d ≡ e
same_form d e h = cc

no_node : (d : Datum) (s : Shape) (rs : List Refusal) (ps : List Part) → stands_for d ≡ node s rs ps → ⊥
no_node d s rs ps h = cc

same_refusals : (s t : Shape) (rs qs : List Refusal) (ps ns : List Part) → node s rs ps ≡ node t qs ns → rs ≡ qs
same_refusals s t rs qs ps ns h = cc

same_parts : (s t : Shape) (rs qs : List Refusal) (ps ns : List Part) → node s rs ps ≡ node t qs ns → ps ≡ ns
same_parts s t rs qs ps ns h = cc

pub formed : (P : Refusal → Type 0) (scope : Scope) (d e : Datum) (r : Refusal) → row scope d ≡ stands_for e → ((x : Refusal) → Refused scope e x → P x)
    → Refused scope d r → P r
formed P scope d e r at rest (in_form sc dd g rr there x) = rest rr (subst (λ y. Refused sc y rr) (same_form g e (sym there ∙ at)) x)
formed P scope d e r at rest (at_form sc dd rr s rs ps there h) = absurd (no_node e s rs ps (sym at ∙ there))
formed P scope d e r at rest (in_part sc dd rr s rs ps p there h x) = absurd (no_node e s rs ps (sym at ∙ there))

pub noded : (P : Refusal → Type 0) (scope : Scope) (d : Datum) (shape : Shape) (refusals : List Refusal) (parts : List Part) (r : Refusal)
    → row scope d ≡ node shape refusals parts → ((x : Refusal) → Contains refusals x → P x)
    → ((p : Part) (x : Refusal) → Contains parts p → Refused (within scope p.binds) p.form x → P x) → Refused scope d r → P r
noded P scope d shape refusals parts r at here rest (in_form sc dd g rr there x) = absurd (no_node g shape refusals parts (sym there ∙ at))
noded P scope d shape refusals parts r at here rest (at_form sc dd rr s rs ps there h) =
    here rr (subst (λ l. Contains l rr) (sym (same_refusals shape s refusals rs parts ps (sym at ∙ there))) h)
noded P scope d shape refusals parts r at here rest (in_part sc dd rr s rs ps p there h x) =
    rest p rr (subst (λ l. Contains l p) (sym (same_parts shape s refusals rs parts ps (sym at ∙ there))) h) x

here_or : (P : Type 0) (scope : Scope) (f : Part) (ps : List Part) (p : Part) (r : Refusal) → (Refused (within scope f.binds) f.form r → P)
    → (Contains ps p → Refused (within scope p.binds) p.form r → P) → (f ≡ p) ⊎ Contains ps p → Refused (within scope p.binds) p.form r → P
here_or P scope f ps p r here rest (inl e) x = here (subst (λ y. Refused (within scope y.binds) y.form r) (sym e) x)
here_or P scope f ps p r here rest (inr c) x = rest c x

mutual
  pub all_listed : (scope : Scope) (d : Datum) (ends : Ends scope d) (r : Refusal) → Refused scope d r → Contains (refusals_of scope d ends) r
  all_listed scope d (as_form sc dd e at y) r x =
      formed (λ s. Contains (refusals_of sc e y) s) sc dd e r at (λ s z. all_listed sc e y s z) x
  all_listed scope d (as_node sc dd shape rs parts at all) r x =
      noded (λ s. Contains (rs ++ refusals_among sc parts all) s) sc dd shape rs parts r at
      (λ s c. Contains-append_left rs (refusals_among sc parts all) s c)
      (λ p s c z. Contains-append_right rs (refusals_among sc parts all) s (among_listed sc parts all p s c z)) x

  among_listed : (scope : Scope) (ps : List Part) (all : AllEnd scope ps) (p : Part) (r : Refusal) → Contains ps p → Refused (within scope p.binds) p.form r
      → Contains (refusals_among scope ps all) r
  among_listed scope ps (no_parts sc) p r c x = absurd (none_in p c)
  among_listed scope ps (one_part sc q qs y rest) p r c x =
      here_or (Contains (refusals_of (within sc q.binds) q.form y ++ refusals_among sc qs rest) r) sc q qs p r
      (λ z. Contains-append_left (refusals_of (within sc q.binds) q.form y) (refusals_among sc qs rest) r (all_listed (within sc q.binds) q.form y r z))
      (λ i z. Contains-append_right (refusals_of (within sc q.binds) q.form y) (refusals_among sc qs rest) r (among_listed sc qs rest p r i z))
      (contains_cases q qs p c) x

-- ---- each that is listed stands

pub record RefusedPart (scope : Scope) (ps : List Part) (r : Refusal) : Type 0 where
  pub part : Part
  pub there : Contains ps part
  pub stands : Refused (within scope part.binds) part.form r

later_part : (scope : Scope) (p : Part) (ps : List Part) (r : Refusal) → RefusedPart scope ps r → RefusedPart scope (p ∷ ps) r
later_part scope p ps r x = record { part = x.part; there = contains_later p ps x.part x.there; stands = x.stands }

at_or_in : (scope : Scope) (d : Datum) (r : Refusal) (shape : Shape) (rs : List Refusal) (ps : List Part) → row scope d ≡ node shape rs ps
    → Contains rs r ⊎ RefusedPart scope ps r → Refused scope d r
at_or_in scope d r shape rs ps at (inl c) = at_form scope d r shape rs ps at c
at_or_in scope d r shape rs ps at (inr x) = in_part scope d r shape rs ps x.part at x.there x.stands

first_or_later : (scope : Scope) (p : Part) (ps : List Part) (r : Refusal) → Refused (within scope p.binds) p.form r ⊎ RefusedPart scope ps r
    → RefusedPart scope (p ∷ ps) r
first_or_later scope p ps r (inl x) = record { part = p; there = contains_first p ps; stands = x }
first_or_later scope p ps r (inr x) = later_part scope p ps r x

either_way : (P Q R S : Type 0) → (P → R) → (Q → S) → P ⊎ Q → R ⊎ S
either_way P Q R S f g (inl p) = inl (f p)
either_way P Q R S f g (inr q) = inr (g q)

mutual
  pub each_refused : (scope : Scope) (d : Datum) (ends : Ends scope d) (r : Refusal) → Contains (refusals_of scope d ends) r → Refused scope d r
  each_refused scope d (as_form sc dd e at y) r c = in_form sc dd e r at (each_refused sc e y r c)
  each_refused scope d (as_node sc dd shape rs parts at all) r c =
      at_or_in sc dd r shape rs parts at
      (either_way (Contains rs r) (Contains (refusals_among sc parts all) r) (Contains rs r) (RefusedPart sc parts r) (λ i. i)
      (λ i. among_refused sc parts all r i) (Contains-append_cases rs (refusals_among sc parts all) r c))

  among_refused : (scope : Scope) (ps : List Part) (all : AllEnd scope ps) (r : Refusal) → Contains (refusals_among scope ps all) r → RefusedPart scope ps r
  among_refused scope ps (no_parts sc) r c = absurd (contains_none r c)
  among_refused scope ps (one_part sc q qs y rest) r c =
      first_or_later sc q qs r
      (either_way (Contains (refusals_of (within sc q.binds) q.form y) r) (Contains (refusals_among sc qs rest) r) (Refused (within sc q.binds) q.form r)
      (RefusedPart sc qs r) (λ i. each_refused (within sc q.binds) q.form y r i) (λ i. among_refused sc qs rest r i)
      (Contains-append_cases (refusals_of (within sc q.binds) q.form y) (refusals_among sc qs rest) r c))

-- the refusals in a form
pub listed_form : (scope : Scope) (d : Datum) → Ends scope d → Listed (Refused scope d)
listed_form scope d ends = record { list = refusals_of scope d ends; all = λ r x. all_listed scope d ends r x; each = λ r c. each_refused scope d ends r c }
