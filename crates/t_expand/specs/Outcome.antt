-- What the expansion of a unit comes to.
use Rattle.std.specs.Prelude.{◌≡◌, ℕ, false, not, List, [], ◌∷◌, map, slice_get, Result, Ok, Err, Some, None}
use Rattle.std.specs.List.{filter}
use Rattle.std.specs.Global.{Vec}
use Rattle.t_base.specs.declared.basics.Span.{Span}
use Rattle.t_base.specs.declared.shared_parts.Shared.{Shared}
use Rattle.t_core.specs.declared.forms.UnitCore.{UnitCore}
use Rattle.core_size.specs.Sizes.{IsLargest}
use Rattle.t_forms.specs.declared.arena.Cell.{Cell}
use Rattle.t_rows.specs.declared.refusal.Refusal.{Refusal}
use Rattle.t_expand.specs.declared.driver_state.Expansion.{Expansion}
use Rattle.unit_tops.specs.declared.entries.Entries.{Entries}
use Rattle.t_expand.specs.declared.fault.SyntaxFault.{SyntaxFault}
use Rattle.t_expand.specs.declared.fault.SyntaxFault.TheVariants as faults
use Rattle.t_expand.specs.declared.unit_all.FormList.{FormList}
use Rattle.t_expand.specs.Growth.{IsGrown, IsReady}
use Rattle.expansion.specs.Meaning.{IsCoreOf}
use Rattle.expansion.specs.Refusals.{RefusedIn, IsFirstRefusal}
use Rattle.unit_tops.specs.Tops.{AreTops}
use Rattle.expansion.specs.Settling.{first_kind, has_default}
use Rattle.expansion.specs.Units.{tops_of, definitions_of, entries_of, is_global, global_texts, op_texts}
use Rattle.unit_tops.specs.declared.tops.Top.{Top as CodeTop}
use Rattle.t_rows.specs.Rows.{refusal}
use Rattle.t_forms.specs.Data.{datum_of}
use Rattle.t_reader.specs.Grammar.{Tree}
use Rattle.t_reader.specs.Unit.{HoldTrees, IsWhole}
use Rattle.t_reader.specs.declared.unit.Unit.{Unit as TextUnit}

-- a refusal of this kind at this place, unless memory ran out
abbrev pub IsRefusedWith : {A : Type 0} → Refusal → Result A SyntaxFault → Type 0
IsRefusedWith r (Ok x) = ⊥
IsRefusedWith r (Err faults.Memory) = Unit {0}
IsRefusedWith r (Err (faults.Fault kind span)) = (kind ≡ r.kind) × (span.start ≡ r.span.start)

-- before the first form: nothing is bound, and nothing is made or refused yet
pub record IsStarted (names : List (List ℕ)) (forms : List Cell) (entries : Entries) (e : Expansion) : Type 0 where
  pub forms_are : e.forms ≡ forms
  pub names_are : e.shared.names ≡ names
  pub globals : e.shared.globals.items ≡ entries.globals.items
  pub ops : e.shared.ops.items ≡ entries.ops.items
  pub table : e.scope.table ≡ entries.table.items
  pub outside : e.scope.locals ≡ []
  pub first : e.first ≡ None
  pub strings : e.shared.strings.items ≡ []
  pub pairs : e.shared.pairs.items ≡ []

-- the data of a whole text, whose names are these
pub record IsText (names : List (List ℕ)) (trees : List Tree) : Type 0 where
  pub text : TextUnit
  pub whole : IsWhole text
  pub held : HoldTrees text.names text.nodes.items text.forms.items trees
  pub names_are : text.names ≡ names

-- the unit of these forms and shared parts
pub record IsFinished (shared : Shared) (list : FormList) (unit : UnitCore) (spans : List (List Span)) : Type 0 where
  pub size : IsLargest unit.shared.pairs.items unit.forms.items unit.shared.size
  pub grown : IsGrown shared unit.shared
  pub strings : unit.shared.strings.items ≡ shared.strings.items
  pub pairs : unit.shared.pairs.items ≡ shared.pairs.items
  pub globals : unit.shared.globals.items ≡ shared.globals.items
  pub ops : unit.shared.ops.items ≡ shared.ops.items
  pub forms : unit.forms.items ≡ list.forms.items
  pub spans_are : spans ≡ list.spans.items

-- The forms at top level are those of the data, and the names mean what they define.
pub record IsPrepared (names : List (List ℕ)) (trees : List Tree) (e : Expansion) (tops : List CodeTop) : Type 0 where
  pub ready : IsReady e (definitions_of (tops_of (map datum_of trees)))
  pub tops_are : AreTops e.shared.names e.forms tops (tops_of (map datum_of trees))
  pub first : e.first ≡ None
  pub names_are : e.shared.names ≡ names
  pub globals : map (λ text. Some text) (global_texts (tops_of (map datum_of trees))) ≡ map (λ g. slice_get names g.name.0) e.shared.globals.items
  pub ops : map (λ text. Some text) (op_texts (tops_of (map datum_of trees))) ≡ map (λ o. slice_get names o.name.0) e.shared.ops.items
  pub kinds : map (λ g. g.kind) e.shared.globals.items ≡ map (λ x. first_kind x.by) (filter (λ x. is_global x.by) (entries_of (tops_of (map datum_of trees))))
  pub defaults : map (λ o. o.default) e.shared.ops.items
      ≡ false ∷ false ∷ false ∷ map (λ x. has_default x.by) (filter (λ x. not (is_global x.by)) (entries_of (tops_of (map datum_of trees))))

-- a core, and then nothing is refused; or the first refusal; or memory ran out
abbrev pub IsOutcome : List Tree → Result (UnitCore × Vec (List Span)) SyntaxFault → Type 0
IsOutcome trees (Ok x) = IsCoreOf trees x.0 x.1.items × ((r : Refusal) → RefusedIn (tops_of (map datum_of trees)) r → ⊥)
IsOutcome trees (Err faults.Memory) = Unit {0}
IsOutcome trees (Err (faults.Fault kind span)) = IsFirstRefusal trees (refusal kind span)
