-- The forms of two cores of one list of data are alike.
use Rattle.std.proofs.Common.{List, map}
use Rattle.t_base.specs.declared.basics.Span.{Span}
use Rattle.t_core.specs.declared.forms.UnitCore.{UnitCore}
use Rattle.t_reader.specs.Grammar.{Tree}
use Rattle.t_forms.specs.Data.{datum_of}
use Rattle.expansion.specs.Units.{tops_of, definitions_of}
use Rattle.expansion.specs.Meaning.{IsCoreOf}
use Rattle.expand_laws.specs.Renaming.{FormsAlike}
use Rattle.expand_laws.proofs.FormWalks.{FormsWalked, forms_walked}

module _ (trees : List Tree) (unit other : UnitCore) (spans others : List (List Span)) (core : IsCoreOf trees unit spans) (also : IsCoreOf trees other others) where
  pub cores_walked : FormsWalked unit.forms.items other.forms.items spans others unit.shared other.shared
  cores_walked =
      forms_walked (definitions_of (tops_of (map datum_of trees))) unit.shared other.shared unit.forms.items spans (tops_of (map datum_of trees))
      other.forms.items others core.forms also.forms

  pub cores_alike : FormsAlike cores_walked.pairs unit.shared other.shared unit.forms.items spans other.forms.items others
  cores_alike = cores_walked.forms_alike cores_walked.pairs (λ p h. h)
