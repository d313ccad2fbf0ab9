-- What is the same for nodes that are alike has one sum over the nodes of forms that are alike, and what is the same for such forms is the
-- same one by one.
use Rattle.std.proofs.Common.{◌≡◌, ℕ, ◌+◌, ◌<◌, Bool, false, List, [], ◌∷◌, length, map, slice_get, All, Some, inl, inr, refl, sym, ap, ◌∙◌, arith}
use Rattle.std.specs.List.{AllZip, sum_by}
use Rattle.std.proofs.lemmas.List.Elements.{All-head, All-tail}
use Rattle.std.proofs.lemmas.List.Sums.{sum_by-cons}
use Rattle.std.proofs.lemmas.Option.{slice_get_within}
use Rattle.t_base.specs.declared.basics.Span.{Span}
use Rattle.t_base.specs.declared.shared_parts.Shared.{Shared}
use Rattle.t_core.specs.declared.forms.Core.{Core}
use Rattle.t_core.specs.declared.forms.Form.{Form}
use Rattle.t_core.specs.Nodes.{Part, parts_of, places_of}
use Rattle.t_core.specs.Whole.{IsTree, HasPlaces}
use Rattle.expand_laws.specs.Renaming.{Renaming, Renames, IsSameNode, Alike, AllAlike, alike, no_parts, one_part, RootsAlike, FormsAlike, nodes_of}
use Rattle.expand_laws.proofs.Around.{Around, around}
use Rattle.expand_laws.proofs.Beside.{places_are}
use Rattle.expand_laws.proofs.Roots.{SameRoots}
use Rattle.expand_laws.proofs.TreeSums.{total, total_is, total_of_root}

-- the numbers are the same for nodes that are alike
abbrev pub SameForNodes : Renaming → Shared → Shared → (Core → ℕ) → (Core → ℕ) → Type 0
SameForNodes renaming shared other left right =
    (c d : Core) (tail : Bool) → IsSameNode shared other (Renames renaming) c d → AllZip (Around renaming) (parts_of c tail) (parts_of d tail) → left c ≡ right d

module _ (renaming : Renaming) (shared other : Shared) (left right : Core → ℕ) (same_for : SameForNodes renaming shared other left right) where
  module _ (form twin : Form) (ss ts : List Span) (tree : IsTree form.nodes.items form.root) (trees : IsTree twin.nodes.items twin.root) where
    abbrev left_total : ℕ → ℕ
    left_total k = total left form.nodes.items k

    abbrev right_total : ℕ → ℕ
    right_total j = total right twin.nodes.items j

    node_total : (tail : Bool) (k j : ℕ) (c d : Core) → slice_get form.nodes.items k ≡ Some c → slice_get twin.nodes.items j ≡ Some d → left c ≡ right d
        → sum_by left_total (map (λ p. p.at) (parts_of c tail)) ≡ sum_by right_total (map (λ p. p.at) (parts_of d tail)) → left_total k ≡ right_total j
    node_total tail k j c d g h same parts =
        let these : sum_by left_total (places_of c) ≡ sum_by right_total (places_of d) =
        ap (λ l. sum_by left_total l) (sym (places_are c tail)) ∙ parts ∙ ap (λ l. sum_by right_total l) (places_are d tail)
        in
        total_is left form.nodes.items form.root tree k c g ∙ ap (λ n. n + sum_by left_total (places_of c)) same ∙ ap (λ n. right d + n) these
        ∙ sym (total_is right twin.nodes.items twin.root trees j d h)

    mutual
      same_total : (tail : Bool) (k j : ℕ) → Alike renaming shared other (nodes_of form ss) (nodes_of twin ts) tail k j → left_total k ≡ right_total j
      same_total tail k j (alike t kk jj c d s g h p q same parts) =
          node_total t kk jj c d g h
          (same_for c d t same (around renaming shared other (nodes_of form ss) (nodes_of twin ts) (parts_of c t) (parts_of d t) parts))
          (same_totals (parts_of c t) (parts_of d t) parts)

      same_totals : (ps qs : List Part) → AllAlike renaming shared other (nodes_of form ss) (nodes_of twin ts) ps qs
          → sum_by left_total (map (λ p. p.at) ps) ≡ sum_by right_total (map (λ p. p.at) qs)
      same_totals ps qs no_parts = refl
      same_totals ps qs (one_part p q pps qqs z e a rest) =
          sum_by-cons left_total p.at (map (λ (x : Part). x.at) pps) ∙ ap (λ n. n + sum_by left_total (map (λ (x : Part). x.at) pps)) (same_total p.tail p.at q.at a)
          ∙ ap (λ n. right_total q.at + n) (same_totals pps qqs rest)
          ∙ sym (sum_by-cons right_total q.at (map (λ (x : Part). x.at) qqs))

    sums_same : Alike renaming shared other (nodes_of form ss) (nodes_of twin ts) false form.root twin.root → sum_by left form.nodes.items ≡ sum_by right twin.nodes.items
    sums_same a =
        sym (total_of_root left form.nodes.items form.root tree) ∙ same_total false form.root twin.root a ∙ total_of_root right twin.nodes.items twin.root trees

  -- ---- forms

  some_node : (form twin : Form) (ss ts : List Span) (tail : Bool) (k j : ℕ) → Alike renaming shared other (nodes_of form ss) (nodes_of twin ts) tail k j
      → 0 < length form.nodes.items
  some_node form twin ss ts tail k j (alike t kk jj c d s g h p q same parts) =
      let there : kk < length form.nodes.items = slice_get_within form.nodes.items kk c g in omega arith

  pub nodes_same : (form twin : Form) (ss ts : List Span) → HasPlaces shared form → HasPlaces other twin → RootsAlike renaming shared other form ss twin ts
      → SameRoots form.nodes.items twin.nodes.items form.root twin.root → sum_by left form.nodes.items ≡ sum_by right twin.nodes.items
  nodes_same form twin ss ts places also_places (inl none) roots = ap (λ l. sum_by left l) none.0 ∙ ap (λ l. sum_by right l) (sym none.1)
  nodes_same form twin ss ts places also_places (inr a) roots =
      let some : 0 < length form.nodes.items = some_node form twin ss ts false form.root twin.root a in
      sums_same form twin ss ts (places.tree some) (also_places.tree (roots.some some)) a

-- ---- lists of forms

-- the numbers are the same for forms that are alike
abbrev pub SameForForms : Renaming → Shared → Shared → (Form → ℕ) → (Form → ℕ) → Type 0
SameForForms renaming shared other left right =
    (form twin : Form) (ss ts : List Span) → HasPlaces shared form → HasPlaces other twin → form.kind ≡ twin.kind → RootsAlike renaming shared other form ss twin ts
    → left form ≡ right twin

pub forms_same : (renaming : Renaming) (shared other : Shared) (left right : Form → ℕ) → SameForForms renaming shared other left right → (forms : List Form)
    (sss : List (List Span)) (twins : List Form) (tss : List (List Span)) → FormsAlike renaming shared other forms sss twins tss → All (HasPlaces shared) forms
    → All (HasPlaces other) twins → map left forms ≡ map right twins
forms_same renaming shared other left right same [] [] [] [] h places others = refl
forms_same renaming shared other left right same (f ∷ forms) (s ∷ sss) (g ∷ twins) (t ∷ tss) h places others =
    ap (λ n. n ∷ map left forms)
    (same f g s t (All-head (HasPlaces shared) f forms places) (All-head (HasPlaces other) g twins others) h.0 h.1)
    ∙ ap (λ ns. right g ∷ ns)
    (forms_same renaming shared other left right same forms sss twins tss h.2 (All-tail (HasPlaces shared) f forms places) (All-tail (HasPlaces other) g twins others))
forms_same renaming shared other left right same _ _ _ _ h places others = absurd h
