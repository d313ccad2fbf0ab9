-- No data have both a core and a refusal.
use Rattle.std.proofs.Common.{◌≡◌, ℕ, suc, zero, ◌<◌, Bool, false, List, [], ◌∷◌, ◌++◌, length, get_or, Some, None, Contains, sym, subst, ◌∙◌, arith}
use Rattle.t_base.specs.declared.basics.Var.{Var}
use Rattle.t_base.specs.declared.shared_parts.Shared.{Shared}
use Rattle.t_core.specs.Nodes.{parts_of, Part}
use Rattle.t_forms.specs.Data.{Datum}
use Rattle.t_forms.specs.Names.{Scope, Bound, within}
use Rattle.t_rows.specs.declared.refusal.Refusal.{Refusal}
use Rattle.t_rows.specs.Rows.{stands_for, node, Shape, Part as RowPart, row, Definition, define, lset, operation_form}
use Rattle.expansion.specs.Meaning.{Nodes, Means, as_form, as_node, AllMean, no_parts, one_part, ValueMeans, top_scope}
use Rattle.expansion.specs.Refusals.{Refused, in_form, at_form, in_part, RefusedDefinition}
use Rattle.expansion.proofs.Places.{contains_none}

same_form : (d e : Datum) → stands_for d ≡ stands_for e → d ≡ e
same_form d e h = cc

no_node : (d : Datum) (s : Shape) (rs : List Refusal) (ps : List RowPart) → stands_for d ≡ node s rs ps → ⊥
no_node d s rs ps h = cc

same_refusals : (s t : Shape) (rs qs : List Refusal) (ps ns : List RowPart) → node s rs ps ≡ node t qs ns → rs ≡ qs
same_refusals s t rs qs ps ns h = cc

same_parts : (s t : Shape) (rs qs : List Refusal) (ps ns : List RowPart) → node s rs ps ≡ node t qs ns → ps ≡ ns
same_parts s t rs qs ps ns h = cc

formed : (scope : Scope) (d e : Datum) (r : Refusal) → row scope d ≡ stands_for e → ((x : Refusal) → Refused scope e x → ⊥) → Refused scope d r → ⊥
formed scope d e r at rest (in_form sc dd g rr there x) = rest rr (subst (λ y. Refused sc y rr) (same_form g e (sym there ∙ at)) x)
formed scope d e r at rest (at_form sc dd rr s rs ps there h) = no_node e s rs ps (sym at ∙ there)
formed scope d e r at rest (in_part sc dd rr s rs ps p there h x) = no_node e s rs ps (sym at ∙ there)

noded : (scope : Scope) (d : Datum) (shape : Shape) (parts : List RowPart) (r : Refusal) → row scope d ≡ node shape [] parts
    → ((p : RowPart) (x : Refusal) → Contains parts p → Refused (within scope p.binds) p.form x → ⊥) → Refused scope d r → ⊥
noded scope d shape parts r at rest (in_form sc dd g rr there x) = no_node g shape [] parts (sym there ∙ at)
noded scope d shape parts r at rest (at_form sc dd rr s rs ps there h) =
    contains_none rr (subst (λ l. Contains l rr) (sym (same_refusals shape s [] rs parts ps (sym at ∙ there))) h)
noded scope d shape parts r at rest (in_part sc dd rr s rs ps p there h x) =
    rest p rr (subst (λ l. Contains l p) (sym (same_parts shape s [] rs parts ps (sym at ∙ there))) h) x

here_or : (scope : Scope) (f : RowPart) (ps : List RowPart) (p : RowPart) (r : Refusal) → ((x : Refusal) → Refused (within scope f.binds) f.form x → ⊥)
    → (Contains ps p → Refused (within scope p.binds) p.form r → ⊥) → (i : ℕ) → i < length (f ∷ ps) → get_or (f ∷ ps) i p ≡ p
    → Refused (within scope p.binds) p.form r → ⊥
here_or scope f ps p r here rest zero below e x = here r (subst (λ y. Refused (within scope y.binds) y.form r) (sym e) x)
here_or scope f ps p r here rest (suc i) below e x = rest (i, omega (arith, below), e) x

mutual
  pub not_both : (shared : Shared) (n : Nodes) (vars : List Var) (scope : Scope) (d : Datum) (tail : Bool) (k : ℕ) (r : Refusal) → Means shared n vars scope d tail k
      → Refused scope d r → ⊥
  not_both shared n vars scope d tail k r (as_form vs sc dd e t kk at m) x = formed sc dd e r at (λ rr y. not_both shared n vs sc e t kk rr m y) x
  not_both shared n vars scope d tail k r (as_node vs sc dd t kk shape parts c at here span f all) x =
      noded sc dd shape parts r at (λ p rr h y. none_among shared n vs sc parts (parts_of c t) p rr all h y) x

  none_among : (shared : Shared) (n : Nodes) (vars : List Var) (scope : Scope) (ps : List RowPart) (qs : List Part) (p : RowPart) (r : Refusal)
      → AllMean shared n vars scope ps qs → Contains ps p → Refused (within scope p.binds) p.form r → ⊥
  none_among shared n vars scope ps qs p r (no_parts vs sc) h x = absurd (omega (arith, h.1))
  none_among shared n vars scope ps qs p r (one_part vs sc f q pps qqs l m rest) h x =
      here_or sc f pps p r (λ rr y. not_both shared n (q.binds ++ vs) (within sc f.binds) f.form q.tail q.at rr m y)
      (λ g y. none_among shared n vs sc pps qqs p r rest g y) h.0 h.1 h.2 x

-- what a definition defines
pub not_both_value : (shared : Shared) (defined : List Bound) (n : Nodes) (d : Definition) (root : ℕ) (r : Refusal) → ValueMeans defined shared n d root
    → RefusedDefinition defined d r → ⊥
not_both_value shared defined n (define b d) root r m x = not_both shared n [] (top_scope defined) d false root r m x
not_both_value shared defined n (lset b d) root r m x = not_both shared n [] (top_scope defined) d false root r m x
not_both_value shared defined n (operation_form b ps (Some d)) root r m x = not_both shared n [] (top_scope defined) d false root r m x
not_both_value shared defined n (operation_form b ps None) root r m x = contains_none r (subst (λ l. Contains l r) m.0 x)
