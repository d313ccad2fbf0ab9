-- The forms of a unit that stand for the data of a text, each a tree, have shapes and places, whoever made them.
use Rattle.std.proofs.Common.{◌≡◌, ℕ, ◌<◌, List, [], ◌∷◌, length, map, All, Some, None, ap, arith}
use Rattle.std.proofs.lemmas.List.Elements.{All-nil, All-cons, All-head, All-tail, All-weaker}
use Rattle.t_base.specs.declared.basics.Span.{Span}
use Rattle.t_base.specs.declared.shared_parts.Shared.{Shared}
use Rattle.t_core.specs.declared.forms.Form.{Form}
use Rattle.t_core.specs.declared.forms.FormKind.{FormKind}
use Rattle.t_core.specs.Whole.{NamesAreThere, IsShaped, IsTree, HasPlaces, HasShapes}
use Rattle.t_reader.specs.declared.unit.Unit.{Unit as TextUnit}
use Rattle.t_reader.specs.Grammar.{Tree}
use Rattle.t_reader.specs.Unit.{IsWhole, HoldTrees}
use Rattle.t_forms.specs.Data.{Datum, datum_of}
use Rattle.t_forms.specs.Names.{Bound}
use Rattle.t_rows.specs.Rows.{Definition, define, lset, operation_form}
use Rattle.expansion.specs.Meaning.{Nodes, top_scope, RootMeans, ValueMeans, TopMeans, FormsMean}
use Rattle.expansion.specs.Units.{Top, defining, broken, expression, tops_of, definitions_of}
use Rattle.expand_laws.proofs.CoresMade.{made_values, form_fine}
use Rattle.expand_laws.proofs.DataSizes.{trees_pure}
use Rattle.expand_laws.proofs.Made.{IsRight, HasDefined}
use Rattle.expand_laws.proofs.NameShapes.{DefinesOwn, definitions_own}
use Rattle.expand_laws.proofs.NodesWhole.{WholeNode, IsQuotedNode, nodes_whole}
use Rattle.expand_laws.proofs.OneTop.{IsFineDefinition, IsFineTop}
use Rattle.expand_laws.proofs.Premises.{IsFormOf}
use Rattle.expand_laws.proofs.Reached.{Comes}
use Rattle.expand_laws.proofs.TableEnds.{comes_within}
use Rattle.expand_laws.proofs.Tables.{AreFine}
use Rattle.expand_laws.proofs.TopsFine.{all_fine}

-- the nodes of a form make a tree, if it has any
abbrev pub MakesTree : Form → Type 0
MakesTree form = 0 < length form.nodes.items → IsTree form.nodes.items form.root

-- what is known of each node of a form
abbrev pub WholeNodes : List (List ℕ) → Shared → Form → Type 0
WholeNodes names shared form = All (WholeNode names shared form.nodes.items) form.nodes.items

form_comes : (names : List (List ℕ)) (defined : List Bound) (d : Datum) → IsFormOf names d → Comes (IsRight names) (top_scope defined) d
form_comes names defined d form = let c = comes_within (IsRight names) (made_values names) (top_scope defined) d (form_fine names d form) in c.0

module _ (names : List (List ℕ)) (defined : List Bound) (shared : Shared) (own : DefinesOwn defined) (h : HasDefined defined shared) where
  abbrev Are : Nodes → Type 0
  Are n = All (WholeNode names shared n.nodes) n.nodes

  root_whole : (n : Nodes) (root : ℕ) (d : Datum) → IsFormOf names d → (0 < length n.nodes → IsTree n.nodes root) → RootMeans defined shared n d root → Are n
  root_whole n root d form tree m k c there =
      let some : 0 < length n.nodes = omega (arith, there) in
      nodes_whole names defined shared n root d own h (tree some) m (form_comes names defined d form) k c there

  none_whole : (n : Nodes) → n.nodes ≡ [] → Are n
  none_whole n e k c there = absurd (let z : length n.nodes ≡ 0 = ap length e in omega (arith, there, z))

  value_whole : (n : Nodes) (root : ℕ) (d : Definition) → IsFineDefinition names d → (0 < length n.nodes → IsTree n.nodes root) → ValueMeans defined shared n d root → Are n
  value_whole n root (define b d) fine tree m = root_whole n root d fine.1 tree m
  value_whole n root (lset b d) fine tree m = root_whole n root d fine.1 tree m
  value_whole n root (operation_form b ps (Some d)) fine tree m = root_whole n root d (fine.1).0 tree m
  value_whole n root (operation_form b ps None) fine tree m = none_whole n m.1

  top_whole : (n : Nodes) (kind : FormKind) (root : ℕ) (t : Top) → IsFineTop names t → (0 < length n.nodes → IsTree n.nodes root) → TopMeans defined shared n kind root t → Are n
  top_whole n kind root (defining d) fine tree m = value_whole n root d fine tree m.1
  top_whole n kind root (broken s) fine tree m = absurd m
  top_whole n kind root (expression d) fine tree m = root_whole n root d fine tree m.1

  all_whole : (fs : List Form) (spans : List (List Span)) (ts : List Top) → AreFine names ts → All MakesTree fs → FormsMean defined shared fs spans ts
      → All (WholeNodes names shared) fs
  all_whole [] [] [] fine trees m = All-nil (WholeNodes names shared)
  all_whole [] [] (t ∷ ts) fine trees m = absurd m
  all_whole [] (s ∷ spans) [] fine trees m = absurd m
  all_whole [] (s ∷ spans) (t ∷ ts) fine trees m = absurd m
  all_whole (f ∷ fs) [] [] fine trees m = absurd m
  all_whole (f ∷ fs) [] (t ∷ ts) fine trees m = absurd m
  all_whole (f ∷ fs) (s ∷ spans) [] fine trees m = absurd m
  all_whole (f ∷ fs) (s ∷ spans) (t ∷ ts) fine trees m =
      All-cons (WholeNodes names shared) f fs
      (top_whole (record { nodes = f.nodes.items; spans = s }) f.kind f.root t fine.0 (All-head MakesTree f fs trees) (m.0).1)
      (all_whole fs spans ts fine.1 (All-tail MakesTree f fs trees) m.1)

-- each constant of a form is a datum of the text
abbrev pub HasQuoted : List (List ℕ) → Shared → Form → Type 0
HasQuoted names shared form = All (IsQuotedNode names shared) form.nodes.items

-- forms that stand for the forms of a text
pub record WholeForms (names : List (List ℕ)) (shared : Shared) (fs : List Form) : Type 0 where
  pub shapes : All (HasShapes shared) fs
  pub places : All (HasPlaces shared) fs
  pub quoted : All (HasQuoted names shared) fs

pub forms_whole : (names : List (List ℕ)) (shared : Shared) (fs : List Form) (spans : List (List Span)) (ts : List Top) → AreFine names ts
    → HasDefined (definitions_of ts) shared → All MakesTree fs → FormsMean (definitions_of ts) shared fs spans ts → WholeForms names shared fs
forms_whole names shared fs spans ts fine h trees m =
    let all = all_whole names (definitions_of ts) shared (definitions_own ts) h fs spans ts fine trees m in
    record {
      shapes = All-weaker (WholeNodes names shared) (HasShapes shared)
          (λ form w. All-weaker (WholeNode names shared form.nodes.items) (IsShaped shared form.nodes.items) (λ c x. x.shaped) form.nodes.items w) fs all;
      places = λ k form there. record {
        names = All-weaker (WholeNode names shared _) (NamesAreThere shared) (λ c x. x.named) _ (all k form there);
        tree = trees k form there;
      };
      quoted = All-weaker (WholeNodes names shared) (HasQuoted names shared)
          (λ form w. All-weaker (WholeNode names shared form.nodes.items) (IsQuotedNode names shared) (λ c x. x.quoted) form.nodes.items w) fs all;
    }

-- the same of the forms of a whole text unit
pub unit_forms_whole : (u : TextUnit) (trees : List Tree) (shared : Shared) (fs : List Form) (spans : List (List Span)) → IsWhole u
    → HoldTrees u.names u.nodes.items u.forms.items trees → HasDefined (definitions_of (tops_of (map datum_of trees))) shared → All MakesTree fs
    → FormsMean (definitions_of (tops_of (map datum_of trees))) shared fs spans (tops_of (map datum_of trees)) → WholeForms u.names shared fs
unit_forms_whole u trees shared fs spans whole hold h are m =
    let fine = all_fine u.names (map datum_of trees) (trees_pure u trees whole hold) in
    forms_whole u.names shared fs spans (tops_of (map datum_of trees)) fine.0 h are m
