-- Nodes of two forms that are what one datum stands for: they are alike, and their variables are bound together.
use Rattle.std.proofs.Common.{◌≡◌, ℕ, Bool, List, [], ◌∷◌, ◌++◌, length, slice_get, Some, sym, subst, ◌∙◌}
use Rattle.std.specs.List.{AllZip}
use Rattle.t_base.specs.declared.basics.Span.{Span}
use Rattle.t_base.specs.declared.basics.Var.{Var}
use Rattle.t_base.specs.declared.shared_parts.Shared.{Shared}
use Rattle.t_core.specs.declared.forms.Core.{Core}
use Rattle.t_core.specs.declared.forms.Form.{Form}
use Rattle.t_core.specs.Nodes.{Part, parts_of, binders_of}
use Rattle.t_forms.specs.Data.{Datum, span_of}
use Rattle.t_forms.specs.Names.{Scope, within}
use Rattle.t_rows.specs.declared.refusal.Refusal.{Refusal}
use Rattle.t_rows.specs.Rows.{stands_for, node, Shape, Part as RowPart, row}
use Rattle.t_rows.proofs.ZipLemmas.{zip_weaker}
use Rattle.expansion.specs.Meaning.{Fits, Nodes, Means, as_form, as_node, AllMean, no_parts, one_part}
use Rattle.expand_laws.specs.Renaming.{Renames, alike, nodes_of}
use Rattle.expand_laws.proofs.Beside.{Beside, PartsBeside, SameCount, parts_beside, place_of_part}
use Rattle.expand_laws.proofs.Collecting.{Walked, AllWalked, PartsPaired, none_walked, one_more, zip_got, zip_each}
use Rattle.expand_laws.proofs.Paired.{Paired, at_parts, BoundIn}
use Rattle.expand_laws.proofs.SameNodes.{same_node}

-- ---- one row

same_form : (d e : Datum) → stands_for d ≡ stands_for e → d ≡ e
same_form d e h = cc

no_node : (d : Datum) (s : Shape) (rs : List Refusal) (ps : List RowPart) → stands_for d ≡ node s rs ps → ⊥
no_node d s rs ps h = cc

same_shape : (s t : Shape) (rs qs : List Refusal) (ps ns : List RowPart) → node s rs ps ≡ node t qs ns → s ≡ t
same_shape s t rs qs ps ns h = cc

same_parts : (s t : Shape) (rs qs : List Refusal) (ps ns : List RowPart) → node s rs ps ≡ node t qs ns → ps ≡ ns
same_parts s t rs qs ps ns h = cc

-- what the form of the row stands for
as_its_form : (shared : Shared) (n : Nodes) (vars : List Var) (scope : Scope) (d e : Datum) (tail : Bool) (k : ℕ) → row scope d ≡ stands_for e
    → Means shared n vars scope d tail k → Means shared n vars scope e tail k
as_its_form shared n vars scope d e tail k at (as_form vs sc dd g t kk there m) = subst (λ x. Means shared n vs sc x t kk) (same_form g e (sym there ∙ at)) m
as_its_form shared n vars scope d e tail k at (as_node vs sc dd t kk shape parts c there here span f all) = absurd (no_node e shape [] parts (sym at ∙ there))

-- a node of the row's shape
pub record IsNode (shared : Shared) (n : Nodes) (vars : List Var) (scope : Scope) (d : Datum) (tail : Bool) (k : ℕ) (shape : Shape) (parts : List RowPart) : Type 0 where
  pub c : Core
  pub here : slice_get n.nodes k ≡ Some c
  pub span : slice_get n.spans k ≡ Some (span_of d)
  pub fits : Fits shared vars tail shape c
  pub all : AllMean shared n vars scope parts (parts_of c tail)

pub as_its_node : (shared : Shared) (n : Nodes) (vars : List Var) (scope : Scope) (d : Datum) (tail : Bool) (k : ℕ) (shape : Shape) (parts : List RowPart)
    → row scope d ≡ node shape [] parts → Means shared n vars scope d tail k → IsNode shared n vars scope d tail k shape parts
as_its_node shared n vars scope d tail k shape parts at (as_form vs sc dd g t kk there m) = absurd (no_node g shape [] parts (sym there ∙ at))
as_its_node shared n vars scope d tail k shape parts at (as_node vs sc dd t kk s ps c there here span f all) = record {
  c = c;
  here = here;
  span = span;
  fits = subst (λ x. Fits shared vs t x c) (same_shape s shape [] [] ps parts (sym there ∙ at)) f;
  all = subst (λ x. AllMean shared n vs sc x (parts_of c t)) (same_parts s shape [] [] ps parts (sym there ∙ at)) all;
}

-- ---- the parts of two nodes

-- as many variables are bound around each as the row binds names
count_after : (shared : Shared) (n : Nodes) (vars : List Var) (scope : Scope) (p : RowPart) (q : Part) (ps : List RowPart) (qs rs : List Part)
    → length p.binds ≡ length q.binds → ((os : List Part) → AllMean shared n vars scope ps os → AllZip SameCount qs os) → AllMean shared n vars scope (p ∷ ps) rs
    → AllZip SameCount (q ∷ qs) rs
count_after shared n vars scope p q ps qs rs e rest (one_part vs sc pp r pps os l m more) = (sym e ∙ l, rest os more)

count_none : (shared : Shared) (n : Nodes) (vars : List Var) (scope : Scope) (rs : List Part) → AllMean shared n vars scope [] rs → AllZip SameCount [] rs
count_none shared n vars scope rs (no_parts vs sc) = tt

same_counts : (shared other : Shared) (n m : Nodes) (vars others : List Var) (scope : Scope) (ps : List RowPart) (qs rs : List Part) → AllMean shared n vars scope ps qs
    → AllMean other m others scope ps rs → AllZip SameCount qs rs
same_counts shared other n m vars others scope ps qs rs (no_parts vs sc) h = count_none other m others sc rs h
same_counts shared other n m vars others scope ps qs rs (one_part vs sc p q pps qqs l x rest) h =
    count_after other m others sc p q pps qqs rs l (λ os more. same_counts shared other n m vs others sc pps qqs os rest more) h

-- ---- two forms

module _ (form twin : Form) (ss ts : List Span) (shared other : Shared) where
  abbrev Left : List Var → Scope → Datum → Bool → ℕ → Type 0
  Left vars scope d tail k = Means shared (nodes_of form ss) vars scope d tail k

  abbrev Right : List Var → Scope → Datum → Bool → ℕ → Type 0
  Right vars scope d tail k = Means other (nodes_of twin ts) vars scope d tail k

  abbrev Both : ℕ → ℕ → Type 0
  Both k j = Paired form.nodes.items twin.nodes.items form.root twin.root k j

  -- the parts of nodes that are paired
  paired_parts : (k j : ℕ) (c d : Core) (tail : Bool) → Both k j → slice_get form.nodes.items k ≡ Some c → slice_get twin.nodes.items j ≡ Some d
      → AllZip (PartsBeside (binders_of c) (binders_of d)) (parts_of c tail) (parts_of d tail) → AllZip (PartsPaired form twin) (parts_of c tail) (parts_of d tail)
  paired_parts k j c d tail both g h beside =
      zip_each (PartsBeside (binders_of c) (binders_of d)) (PartsPaired form twin) (parts_of c tail) (parts_of d tail)
      (λ i q r p o s. (
        at_parts k j i q.at r.at c d both g h (place_of_part c tail i q p) (place_of_part d tail i r o),
        s.0,
        zip_weaker (Beside (binders_of c) (binders_of d)) (BoundIn form twin)
            (λ v w b. record { k = k; j = j; i = b.i; c = c; d = d; paired = both; node_is = g; other_is = h; left = b.left; right = b.right }) q.binds r.binds s.1,
      ))
      beside

  -- a node with the parts that are walked
  node_walked : (vars others : List Var) (scope : Scope) (e : Datum) (tail : Bool) (k j : ℕ) (shape : Shape) (c d : Core) → slice_get form.nodes.items k ≡ Some c
      → slice_get twin.nodes.items j ≡ Some d → slice_get ss k ≡ Some (span_of e) → slice_get ts j ≡ Some (span_of e) → Fits shared vars tail shape c
      → Fits other others tail shape d → AllWalked form twin ss ts shared other vars others (parts_of c tail) (parts_of d tail)
      → Walked form twin ss ts shared other vars others tail k j
  node_walked vars others scope e tail k j shape c d g h p q f o all = record {
    pairs = all.pairs;
    each = all.each;
    same = λ renaming includes related.
        alike tail k j c d (span_of e) g h p q
        (same_node shared other vars others tail (Renames renaming) (λ i v w a b. zip_got (Renames renaming) vars others i v w related a b) shape c d f o)
        (all.same renaming includes related);
  }

  beside_of : (vars others : List Var) (scope : Scope) (tail : Bool) (shape : Shape) (parts : List RowPart) (c d : Core) → Fits shared vars tail shape c
      → Fits other others tail shape d → AllMean shared (nodes_of form ss) vars scope parts (parts_of c tail)
      → AllMean other (nodes_of twin ts) others scope parts (parts_of d tail)
      → AllZip (PartsBeside (binders_of c) (binders_of d)) (parts_of c tail) (parts_of d tail)
  beside_of vars others scope tail shape parts c d f o all more =
      parts_beside shared other c d tail (same_node shared other vars others tail (λ v w. Unit {0}) (λ i v w a b. tt) shape c d f o)
      (same_counts shared other (nodes_of form ss) (nodes_of twin ts) vars others scope parts (parts_of c tail) (parts_of d tail) all more)

  part_walked : (vars others : List Var) (scope : Scope) (p : RowPart) (q : Part) (ps : List RowPart) (qs rs : List Part)
      → ((r : Part) → Right (r.binds ++ others) (within scope p.binds) p.form r.tail r.at → Both q.at r.at → q.tail ≡ r.tail
      → Walked form twin ss ts shared other (q.binds ++ vars) (r.binds ++ others) q.tail q.at r.at)
      → ((os : List Part) → AllMean other (nodes_of twin ts) others scope ps os → AllZip (PartsPaired form twin) qs os
      → AllWalked form twin ss ts shared other vars others qs os)
      → AllMean other (nodes_of twin ts) others scope (p ∷ ps) rs → AllZip (PartsPaired form twin) (q ∷ qs) rs
      → AllWalked form twin ss ts shared other vars others (q ∷ qs) rs
  part_walked vars others scope p q ps qs rs first rest (one_part vs sc pp r pps os l m more) paired =
      one_more form twin ss ts shared other vars vs q r qs os paired.0 (first r m (paired.0).0 (paired.0).1) (rest os more paired.1)

  mutual
    pub walked : (vars others : List Var) (scope : Scope) (d : Datum) (tail : Bool) (k j : ℕ) → Left vars scope d tail k → Right others scope d tail j → Both k j
        → Walked form twin ss ts shared other vars others tail k j
    walked vars others scope d tail k j (as_form vs sc dd e t kk at m) right both =
        walked vs others sc e t kk j m (as_its_form other (nodes_of twin ts) others sc dd e t j at right) both
    walked vars others scope d tail k j (as_node vs sc dd t kk shape parts c at here span f all) right both =
        let twin_node : IsNode other (nodes_of twin ts) others sc dd t j shape parts = as_its_node other (nodes_of twin ts) others sc dd t j shape parts at right in
        node_walked vs others sc dd t kk j shape c twin_node.c here twin_node.here span twin_node.span f twin_node.fits
        (all_walked vs others sc parts (parts_of c t) (parts_of twin_node.c t) all twin_node.all
        (paired_parts kk j c twin_node.c t both here twin_node.here (beside_of vs others sc t shape parts c twin_node.c f twin_node.fits all twin_node.all)))

    pub all_walked : (vars others : List Var) (scope : Scope) (ps : List RowPart) (qs rs : List Part) → AllMean shared (nodes_of form ss) vars scope ps qs
        → AllMean other (nodes_of twin ts) others scope ps rs → AllZip (PartsPaired form twin) qs rs → AllWalked form twin ss ts shared other vars others qs rs
    all_walked vars others scope ps qs rs (no_parts vs sc) right paired = none_walked form twin ss ts shared other vs others rs paired
    all_walked vars others scope ps qs rs (one_part vs sc p q pps qqs l m rest) right paired =
        part_walked vs others sc p q pps qqs rs
        (λ r mean both e. walked (q.binds ++ vs) (r.binds ++ others) (within sc p.binds) p.form q.tail q.at r.at m
        (subst (λ t. Right (r.binds ++ others) (within sc p.binds) p.form t r.at) (sym e) mean) both)
        (λ os more pairs. all_walked vs others sc pps qqs os rest more pairs) right paired
