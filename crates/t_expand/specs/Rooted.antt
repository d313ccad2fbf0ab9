-- The nodes of a form, and what it is kept as.
use Rattle.std.specs.Prelude.{true, false, Option, Some, None}
use Rattle.t_core.specs.declared.forms.FormKind.{FormKind}
use Rattle.t_core.specs.declared.forms.FormKind.TheVariants as kind
use Rattle.t_forms.specs.declared.scope.Meant.{Meant}
use Rattle.t_forms.specs.declared.scope.Meant.TheVariants as meant
use Rattle.form_rows.specs.declared.definitions.Definition.{Definition}
use Rattle.form_rows.specs.declared.definitions.Definition.TheVariants as code
use Rattle.t_expand.specs.declared.unit_top.Rooted.{Rooted}
use Rattle.expansion.specs.Meaning.{Nodes}

abbrev pub nodes_of : Rooted → Nodes
nodes_of x = record { nodes = x.nodes.items; spans = x.spans.items }

-- what a definition is kept as, by what its name means
abbrev pub kind_of : Definition → Meant → Option FormKind
kind_of (code.Define n k) (meant.Global g false) = Some (kind.Define g)
kind_of (code.Lset n k) (meant.Global g true) = Some (kind.Lset g)
kind_of (code.Operation n ps k) (meant.Operation o) = Some (kind.Operation o)
kind_of _ _ = None
