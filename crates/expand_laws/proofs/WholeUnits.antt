-- A unit is whole by what is known of its forms and its shared parts, one by one.
use Rattle.std.proofs.Common.{◌≡◌, ◌≢◌, ℕ, ◌<◌, ◌≤◌, List, ◌++◌, length, All, AllPairs, arith, ◌⊎◌, inl, inr}
use Rattle.std.specs.List.{flat_map}
use Rattle.std.proofs.lemmas.Bool.{cases_lt}
use Rattle.t_base.specs.declared.basics.Span.{Span}
use Rattle.t_base.specs.declared.shared_parts.Const.{Const}
use Rattle.t_prim.specs.SharedParts.{IsWholeShared}
use Rattle.t_core.specs.declared.forms.Form.{Form}
use Rattle.t_core.specs.declared.forms.UnitCore.{UnitCore}
use Rattle.t_core.specs.Counts.{form_count}
use Rattle.t_core.specs.Limits.{greatest}
use Rattle.t_core.specs.Whole.{IsWhole, HasPlaces, HasShapes, HasDefinitions, binders, pair_in, pair_of}
use Rattle.expansion.specs.Counting.{times, Once, EachOnce, numbers}
use Rattle.expansion.specs.Meaning.{FormsMean}
use Rattle.expansion.specs.Strings.{string_in, string_of, named_strings}
use Rattle.expansion.specs.Units.{Top}
use Rattle.expansion.proofs.WholeLemmas.{forms_scoped}
use Rattle.t_forms.specs.Names.{Bound}
use Rattle.expand_laws.proofs.Counting.{times_append, once_pairs}
use Rattle.expand_laws.proofs.DistinctVariables.{distinct_vars}

-- what stands once stands at most once
at_most : (count : ℕ) (ks : List ℕ) → EachOnce count ks → Once 0 count ks
at_most count ks e = record {
  below = λ k h. absurd (omega arith);
  above = e.above;
  once = λ k. by k (cases_lt k count);
}
  where
    by : (k : ℕ) → (k < count) ⊎ (count ≤ k) → times k ks ≤ 1
    by k (inl lt) = omega (arith, e.within k lt)
    by k (inr le) = omega (arith, e.above k le)

-- the lists the other way round
turned : (count : ℕ) (xs ys : List ℕ) → EachOnce count (xs ++ ys) → EachOnce count (ys ++ xs)
turned count xs ys e = record {
  within = λ k h. omega (arith, times_append k xs ys, times_append k ys xs, e.within k h);
  above = λ k h. omega (arith, times_append k xs ys, times_append k ys xs, e.above k h);
}

pub distinct_each : (count : ℕ) (xs ys : List ℕ) → EachOnce count (xs ++ ys) → AllPairs (λ j k. j ≢ k) (ys ++ xs)
distinct_each count xs ys e = once_pairs 0 count (ys ++ xs) (at_most count (ys ++ xs) (turned count xs ys e))

-- what is known of a unit
pub record HasParts (unit : UnitCore) (next : ℕ) : Type 0 where
  pub places : All (HasPlaces unit.shared) unit.forms.items
  pub shapes : All (HasShapes unit.shared) unit.forms.items
  pub definitions : HasDefinitions unit
  pub shared : IsWholeShared unit.shared
  pub variables : Once 0 next (numbers (binders unit))
  pub strings : EachOnce (length unit.shared.strings.items) (flat_map (λ (form : Form). flat_map string_of form.nodes.items) unit.forms.items ++ flat_map (λ (p : Const × Const). string_in p.0 ++ string_in p.1) unit.shared.pairs.items)
  pub pairs : EachOnce (length unit.shared.pairs.items) (flat_map (λ (form : Form). flat_map pair_of form.nodes.items) unit.forms.items ++ flat_map (λ (p : Const × Const). pair_in p.0 ++ pair_in p.1) unit.shared.pairs.items)
  pub size : unit.shared.size ≡ greatest (form_count unit.shared.pairs.items) unit.forms.items

pub whole_unit : (unit : UnitCore) (next : ℕ) (defined : List Bound) (spans : List (List Span)) (ts : List Top) → HasParts unit next
    → FormsMean defined unit.shared unit.forms.items spans ts → IsWhole unit
whole_unit unit next defined spans ts h m = record {
  places = h.places;
  scopes = record {
    bound_once = distinct_vars (binders unit) (once_pairs 0 next (numbers (binders unit)) h.variables);
    used = forms_scoped unit.shared defined unit.forms.items spans ts m h.places;
  };
  shapes = h.shapes;
  definitions = h.definitions;
  shared = record {
    parts = h.shared;
    pairs_once = distinct_each (length unit.shared.pairs.items) (flat_map (λ (form : Form). flat_map pair_of form.nodes.items) unit.forms.items)
        (flat_map (λ (p : Const × Const). pair_in p.0 ++ pair_in p.1) unit.shared.pairs.items) h.pairs;
    size = h.size;
  };
}

pub strings_once : (unit : UnitCore) (next : ℕ) → HasParts unit next → AllPairs (λ k l. k ≢ l) (named_strings unit)
strings_once unit next h =
    distinct_each (length unit.shared.strings.items) (flat_map (λ (form : Form). flat_map string_of form.nodes.items) unit.forms.items)
    (flat_map (λ (p : Const × Const). string_in p.0 ++ string_in p.1) unit.shared.pairs.items) h.strings
