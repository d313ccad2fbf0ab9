-- What is known of the unit of forms that are made.
use Rattle.std.proofs.Common.{◌≡◌, ◌≢◌, ℕ, ◌≤◌, List, ◌++◌, length, map, sum_by, All, AllPairs, sym, ap, subst, ◌∙◌}
use Rattle.t_base.specs.declared.basics.Span.{Span}
use Rattle.t_base.specs.declared.shared_parts.OpInfo.{OpInfo}
use Rattle.t_prim.specs.SharedParts.{IsWholeShared, HasLowerParts}
use Rattle.t_reader.specs.Grammar.{Tree}
use Rattle.t_reader.specs.Unit.{string_bytes}
use Rattle.t_objects.specs.Operations.{IsTableOf}
use Rattle.t_core.specs.declared.forms.UnitCore.{UnitCore}
use Rattle.t_core.specs.Whole.{pair_in, pair_of}
use Rattle.t_forms.specs.Data.{datum_of}
use Rattle.t_rows.specs.declared.refusal.Refusal.{Refusal}
use Rattle.expansion.specs.Counting.{Once, EachOnce}
use Rattle.expansion.specs.Meaning.{IsCoreOf, FormsMean}
use Rattle.expansion.specs.Refusals.{RefusedIn}
use Rattle.expansion.specs.Settling.{all_settled}
use Rattle.expansion.specs.Strings.{string_in, string_of}
use Rattle.expansion.specs.Units.{tops_of, definitions_of}
use Rattle.expand_laws.proofs.DataSizes.{trees_pure}
use Rattle.expand_laws.proofs.FormsWhole.{MakesTree}
use Rattle.expand_laws.proofs.PartsWhole.{WholeMade, unit_parts_whole}
use Rattle.expand_laws.proofs.Tables.{AreFine}
use Rattle.expand_laws.proofs.TopsFine.{all_fine}
use Rattle.expand_laws.proofs.UnitMade.{AreNames, names_are}
use Rattle.expand_laws.proofs.UnitTables.{IsUnitDefined, unit_defined}
use Rattle.expand_laws.proofs.WholeUnits.{HasParts}
use Rattle.kept_strings.proofs.Arenas.{turned}
use Rattle.kept_strings.proofs.UnitBytes.{unit_few}
use Rattle.t_expand.specs.Growth.{Keeps}
use Rattle.t_expand.specs.Outcome.{IsPrepared, IsText, IsFinished}
use Rattle.t_expand.specs.Tallies.{AreTallied, bound_by, named_by, named_by_pairs}
use Rattle.t_expand.specs.declared.driver_state.Expansion.{Expansion}
use Rattle.unit_tops.specs.declared.tops.Top.{Top as CodeTop}
use Rattle.t_expand.specs.declared.unit_all.FormList.{FormList}
use Rattle.t_expand.proofs.OperationTables.{table_same}

-- the tallies of the forms, of a unit of them
record UnitTallied (unit : UnitCore) (next : ℕ) : Type 0 where
  trees : All MakesTree unit.forms.items
  variables : Once 0 next (bound_by unit.forms.items)
  strings : EachOnce (length unit.shared.strings.items) (named_by string_of unit.forms.items ++ named_by_pairs string_in unit.shared.pairs.items)
  pairs : EachOnce (length unit.shared.pairs.items) (named_by pair_of unit.forms.items ++ named_by_pairs pair_in unit.shared.pairs.items)
  lower : HasLowerParts unit.shared.pairs.items

unit_tallied : (end : Expansion) (list : FormList) (unit : UnitCore) (spans : List (List Span)) → AreTallied list.forms.items end
    → IsFinished end.shared list unit spans → UnitTallied unit end.next
unit_tallied end list unit spans t f = record {
  trees = rw f.forms t.trees;
  variables = rw f.forms t.variables;
  strings = rw (f.forms, f.strings, f.pairs) t.named.strings_once;
  pairs = rw (f.forms, f.pairs) t.named.pairs_once;
  lower = rw f.pairs t.named.lower;
}

module _ (trees : List Tree) (names : List (List ℕ)) (start end : Expansion) (tops : List CodeTop) (list : FormList) (unit : UnitCore)
    (spans : List (List Span)) (text : IsText names trees) (p : IsPrepared names trees start tops) (keeps : Keeps start end)
    (none : (r : Refusal) → RefusedIn (tops_of (map datum_of trees)) r → ⊥) (t : AreTallied list.forms.items end)
    (settled : end.shared.globals.items ≡ all_settled start.shared.globals.items list.forms.items) (f : IsFinished end.shared list unit spans)
    (means : FormsMean (definitions_of (tops_of (map datum_of trees))) unit.shared unit.forms.items spans (tops_of (map datum_of trees))) where
  same_names : unit.shared.names ≡ names
  same_names = f.grown.names ∙ keeps.shared.names ∙ p.names_are

  fine : AreFine names (tops_of (map datum_of trees))
  fine = subst (λ ns. AreFine ns (tops_of (map datum_of trees))) text.names_are (all_fine text.text.names (map datum_of trees) (trees_pure text.text trees text.whole text.held)).0

  right_names : AreNames names
  right_names = subst AreNames text.names_are (names_are text.text text.whole)

  defined : IsUnitDefined (tops_of (map datum_of trees)) unit
  defined =
      unit_defined unit (tops_of (map datum_of trees)) spans start.shared.globals.items means (rw same_names fine) none
      (rw same_names (record { named = p.globals; kinds = p.kinds }))
      (f.globals ∙ settled ∙ ap (λ fs. all_settled start.shared.globals.items fs) (sym f.forms))
      (rw (same_names, f.ops, keeps.ops) (record { named = p.ops; defaults = p.defaults }))

  tallied : UnitTallied unit end.next
  tallied = unit_tallied end list unit spans t f

  made : WholeMade text.text.names unit.shared unit.forms.items
  made =
      unit_parts_whole text.text trees unit.shared unit.forms.items spans text.whole text.held defined.defined tallied.trees means tallied.lower tallied.strings tallied.pairs

  shared : IsWholeShared unit.shared
  shared = record {
    names = rw same_names right_names.texts;
    distinct = rw same_names right_names.distinct;
    strings = made.parts.strings;
    pairs = made.parts.pairs;
    lower = tallied.lower;
    globals = defined.globals;
    ops = defined.ops;
    builtins = defined.builtins;
  }

  pub unit_parts : HasParts unit end.next
  unit_parts = record {
    places = made.forms.places;
    shapes = made.forms.shapes;
    definitions = defined.definitions;
    shared = shared;
    variables = tallied.variables;
    strings = tallied.strings;
    pairs = tallied.pairs;
    size = f.size.largest_is;
  }

-- its strings have no more bytes than those of the text
pub unit_strings : (trees : List Tree) (names : List (List ℕ)) (end : Expansion) (list : FormList) (unit : UnitCore) (spans : List (List Span)) (text : IsText names trees)
    → IsCoreOf trees unit spans → AreTallied list.forms.items end → IsFinished end.shared list unit spans
    → sum_by length unit.shared.strings.items ≤ string_bytes text.text.nodes.items
unit_strings trees names end list unit spans text core t f =
    let is = unit_tallied end list unit spans t f in
    unit_few text.text trees unit spans text.whole text.held core
    (record {
      strings = turned (length unit.shared.strings.items) (named_by string_of unit.forms.items) (named_by_pairs string_in unit.shared.pairs.items) is.strings;
      pairs = turned (length unit.shared.pairs.items) (named_by pair_of unit.forms.items) (named_by_pairs pair_in unit.shared.pairs.items) is.pairs;
    })

-- the operations are those of the table that is given
pub unit_table : (trees : List Tree) (names : List (List ℕ)) (start end : Expansion) (tops : List CodeTop) (list : FormList) (unit : UnitCore)
    (spans : List (List Span)) (table : List OpInfo) → IsText names trees → IsPrepared names trees start tops → Keeps start end
    → ((r : Refusal) → RefusedIn (tops_of (map datum_of trees)) r → ⊥) → IsFinished end.shared list unit spans → IsTableOf names trees table
    → unit.shared.ops.items ≡ table
unit_table trees names start end tops list unit spans table text p keeps none f is =
    let fine : AreFine names (tops_of (map datum_of trees)) =
    subst (λ ns. AreFine ns (tops_of (map datum_of trees))) text.names_are (all_fine text.text.names (map datum_of trees) (trees_pure text.text trees text.whole text.held)).0 in
    let apart : AllPairs (λ a b. a ≢ b) names = subst (λ ns. AllPairs (λ a b. a ≢ b) ns) text.names_are text.whole.names_distinct in
    table_same names apart trees text.whole.names_begin.0 unit.shared.ops.items table (sym text.names_are ∙ text.whole.names_begin.1) fine none
    (rw (f.ops, keeps.ops) (record { named = p.ops; defaults = p.defaults })) is
