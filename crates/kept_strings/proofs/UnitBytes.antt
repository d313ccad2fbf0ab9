-- A core in which each string and each pair is named once has no more bytes of strings than its text.
use Rattle.std.proofs.Common.{◌≡◌, ℕ, ◌+◌, ◌<◌, ◌≤◌, ◌++◌, false, List, [], ◌∷◌, length, map, All, Some, None, refl, sym, ap, subst, ◌∙◌, arith}
use Rattle.std.specs.List.{AllByRecursion, flat_map, sum_by}
use Rattle.std.proofs.lemmas.List.Elements.{All-head, All-tail}
use Rattle.std.proofs.lemmas.List.Sums.{sum_by-cons}
use Rattle.t_base.specs.declared.basics.Span.{Span}
use Rattle.t_base.specs.declared.shared_parts.Const.{Const}
use Rattle.t_base.specs.declared.shared_parts.Shared.{Shared}
use Rattle.t_prim.specs.SharedParts.{HasLowerParts}
use Rattle.t_core.specs.declared.forms.Core.{Core}
use Rattle.t_core.specs.declared.forms.Form.{Form}
use Rattle.t_core.specs.declared.forms.FormKind.{FormKind}
use Rattle.t_core.specs.declared.forms.UnitCore.{UnitCore}
use Rattle.t_core.specs.Whole.{HasPlaces, IsTree, pair_in, pair_of}
use Rattle.t_reader.specs.declared.unit.Unit.{Unit as TextUnit}
use Rattle.t_reader.specs.Grammar.{Tree}
use Rattle.t_reader.specs.Unit.{HoldTrees, IsWhole, string_bytes}
use Rattle.t_forms.specs.Data.{Datum, datum_of}
use Rattle.t_forms.specs.Names.{Bound}
use Rattle.t_rows.specs.Rows.{Definition, define, lset, operation_form}
use Rattle.std.proofs.lemmas.List.{append-nil}
use Rattle.expansion.specs.Counting.{EachOnce}
use Rattle.expand_laws.proofs.Once.{times}
use Rattle.expansion.specs.Meaning.{IsCoreOf, Nodes, top_scope, RootMeans, ValueMeans, TopMeans, FormsMean}
use Rattle.expansion.specs.Strings.{string_in, string_of, named_strings}
use Rattle.expansion.specs.Units.{Top, defining, broken, expression, tops_of, definitions_of}
use Rattle.expand_laws.proofs.Always.{weigh}
use Rattle.expand_laws.proofs.TreeSums.{total_of_root}
use Rattle.expand_laws.proofs.Weights.{listed_total}
use Rattle.kept_strings.specs.Named.{NamesEach}
use Rattle.kept_strings.proofs.Arenas.{listed_append, listed_flat, sum_both, parted, turned, weighed}
use Rattle.kept_strings.proofs.Bytes.{bytes}
use Rattle.kept_strings.proofs.ConstantBytes.{nothing_named, string_at, pair_strings, pair_pairs, pair_at, node_bytes, strings_ordered, pairs_ordered}
use Rattle.kept_strings.proofs.NodeBytes.{means_named}
use Rattle.kept_strings.proofs.TextBytes.{definition_bytes, top_bytes, tops_fit, text_bytes}

-- ---- the nodes of forms

abbrev form_bytes : Shared → Form → ℕ
form_bytes shared form = sum_by (node_bytes shared) form.nodes.items

module _ (shared : Shared) (lower : HasLowerParts shared.pairs.items) (defined : List Bound) where
  root_few : (n : Nodes) (root : ℕ) (d : Datum) → (0 < length n.nodes → IsTree n.nodes root) → RootMeans defined shared n d root → sum_by (node_bytes shared) n.nodes ≤ bytes d
  root_few n root d tree m = by n.nodes refl
    where
      by : (nodes : List Core) → n.nodes ≡ nodes → sum_by (node_bytes shared) n.nodes ≤ bytes d
      by [] e = let z : sum_by (node_bytes shared) n.nodes ≡ 0 = ap (sum_by (node_bytes shared)) e in omega (arith, z)
      by (c ∷ cs) e =
          let some : 0 < length n.nodes = let l = ap length e in omega (arith, l) in
          let all = total_of_root (node_bytes shared) n.nodes root (tree some) in
          let few = means_named shared lower n root (tree some) [] (top_scope defined) d false root m in
          omega (arith, all, few)

  none_few : (n : Nodes) (k : ℕ) → n.nodes ≡ [] → sum_by (node_bytes shared) n.nodes ≤ k
  none_few n k e = let z : sum_by (node_bytes shared) n.nodes ≡ 0 = ap (sum_by (node_bytes shared)) e in omega (arith, z)

  value_few : (n : Nodes) (root : ℕ) (d : Definition) → (0 < length n.nodes → IsTree n.nodes root) → ValueMeans defined shared n d root
      → sum_by (node_bytes shared) n.nodes ≤ definition_bytes d
  value_few n root (define b d) tree m = root_few n root d tree m
  value_few n root (lset b d) tree m = root_few n root d tree m
  value_few n root (operation_form b ps (Some d)) tree m = root_few n root d tree m
  value_few n root (operation_form b ps None) tree m = none_few n 0 m.1

  top_few : (n : Nodes) (kind : FormKind) (root : ℕ) (t : Top) → (0 < length n.nodes → IsTree n.nodes root) → TopMeans defined shared n kind root t
      → sum_by (node_bytes shared) n.nodes ≤ top_bytes t
  top_few n kind root (defining d) tree m = value_few n root d tree m.1
  top_few n kind root (broken s) tree m = absurd m
  top_few n kind root (expression d) tree m = root_few n root d tree m.1

  forms_few : (fs : List Form) (spans : List (List Span)) (ts : List Top) → All (HasPlaces shared) fs → FormsMean defined shared fs spans ts
      → sum_by (form_bytes shared) fs ≤ weigh top_bytes ts
  forms_few [] [] [] places m = omega arith
  forms_few [] [] (t ∷ ts) places m = absurd m
  forms_few [] (s ∷ spans) [] places m = absurd m
  forms_few [] (s ∷ spans) (t ∷ ts) places m = absurd m
  forms_few (f ∷ fs) [] [] places m = absurd m
  forms_few (f ∷ fs) [] (t ∷ ts) places m = absurd m
  forms_few (f ∷ fs) (s ∷ spans) [] places m = absurd m
  forms_few (f ∷ fs) (s ∷ spans) (t ∷ ts) places m =
      let here = top_few (record { nodes = f.nodes.items; spans = s }) f.kind f.root t (All-head (HasPlaces shared) f fs places).tree (m.0).1 in
      let rest = forms_few fs spans ts (All-tail (HasPlaces shared) f fs places) m.1 in
      let first = sum_by-cons (form_bytes shared) f fs in
      omega (arith, here, rest, first)

-- ---- strings

none_named : (xs : List (List ℕ)) → flat_map nothing_named xs ≡ []
none_named [] = refl
none_named (x ∷ xs) = none_named xs

module _ (unit : UnitCore) (lower : HasLowerParts unit.shared.pairs.items) (each : NamesEach unit) where
  abbrev strings : List (List ℕ)
  strings = unit.shared.strings.items

  abbrev pairs : List (Const × Const)
  pairs = unit.shared.pairs.items

  abbrev by_pairs : (Const → List ℕ) → List ℕ
  by_pairs at = flat_map (λ (p : Const × Const). at p.0 ++ at p.1) pairs

  abbrev by_forms : (Core → List ℕ) → List ℕ
  by_forms of = flat_map (λ (form : Form). flat_map of form.nodes.items) unit.forms.items

  -- what the nodes of all forms name
  forms_total : (f : ℕ → ℕ) (of : Core → List ℕ) → listed_total f (by_forms of) ≡ sum_by (λ (form : Form). listed_total f (flat_map of form.nodes.items)) unit.forms.items
  forms_total f of = listed_flat Form f (λ (form : Form). flat_map of form.nodes.items) unit.forms.items

  forms_sum : (fs : List Form)
      → sum_by (λ (form : Form). listed_total (string_at strings) (flat_map string_of form.nodes.items)) fs
      + sum_by (λ (form : Form). listed_total (pair_at strings pairs) (flat_map pair_of form.nodes.items)) fs
      ≡ sum_by (form_bytes unit.shared) fs
  forms_sum [] = refl
  forms_sum (form ∷ fs) =
      let f : Form → ℕ = λ x. listed_total (string_at strings) (flat_map string_of x.nodes.items) in
      let g : Form → ℕ = λ x. listed_total (pair_at strings pairs) (flat_map pair_of x.nodes.items) in
      let a = sum_by-cons f form fs in
      let b = sum_by-cons g form fs in
      let c = sum_by-cons (form_bytes unit.shared) form fs in
      let d = listed_flat Core (string_at strings) string_of form.nodes.items in
      let e = listed_flat Core (pair_at strings pairs) pair_of form.nodes.items in
      let h = sum_both Core (λ x. listed_total (string_at strings) (string_of x)) (λ x. listed_total (pair_at strings pairs) (pair_of x)) form.nodes.items in
      let rest = forms_sum fs in
      omega (arith, a, b, c, d, e, h, rest)

  -- all strings are named by pairs and nodes
  strings_total : sum_by length strings ≡ listed_total (string_at strings) (by_pairs string_in) + listed_total (string_at strings) (by_forms string_of)
  strings_total =
      let none = none_named strings in
      let p = parted (length strings) (named_strings unit) [] (subst (EachOnce (length strings)) (sym (append-nil (named_strings unit))) each.strings) in
      let w = weighed (List ℕ) length nothing_named strings (strings_ordered strings) (named_strings unit)
      (record { first_low = p.first_low; second_low = subst (AllByRecursion (λ j. j < length strings)) (sym none) tt; once = subst (λ ks. (k : ℕ) → k < length strings → times k (named_strings unit) + times k ks ≡ 1) (sym none) p.once }) in
      let both = listed_append (string_at strings) (by_pairs string_in) (by_forms string_of) in
      omega (arith, w, both)

  -- the pairs that nodes name have all strings that pairs name
  pairs_total : listed_total (pair_at strings pairs) (by_forms pair_of) ≡ listed_total (string_at strings) (by_pairs string_in)
  pairs_total =
      let p = parted (length pairs) (by_forms pair_of) (by_pairs pair_in) (turned (length pairs) (by_pairs pair_in) (by_forms pair_of) each.pairs) in
      weighed (Const × Const) (pair_strings strings) pair_pairs pairs (pairs_ordered strings pairs lower) (by_forms pair_of) p
      ∙ sym (listed_flat (Const × Const) (string_at strings) (λ q. string_in q.0 ++ string_in q.1) pairs)

  all_strings : sum_by length strings ≡ sum_by (form_bytes unit.shared) unit.forms.items
  all_strings =
      let a = strings_total in
      let b = pairs_total in
      let c = forms_total (string_at strings) string_of in
      let d = forms_total (pair_at strings pairs) pair_of in
      let e = forms_sum unit.forms.items in
      omega (arith, a, b, c, d, e)

-- ---- the unit

pub unit_few : (text : TextUnit) (trees : List Tree) (unit : UnitCore) (spans : List (List Span)) → IsWhole text
    → HoldTrees text.names text.nodes.items text.forms.items trees → IsCoreOf trees unit spans → NamesEach unit
    → sum_by length unit.shared.strings.items ≤ string_bytes text.nodes.items
unit_few text trees unit spans whole held core each =
    let lower = core.whole.shared.parts.lower in
    let all = all_strings unit lower each in
    let few = forms_few unit.shared lower (definitions_of (tops_of (map datum_of trees))) unit.forms.items spans (tops_of (map datum_of trees)) core.whole.places core.forms in
    let tops = tops_fit (map datum_of trees) in
    let same = text_bytes text trees whole held in
    omega (arith, all, few, tops, same)
