use Rattle.std.proofs.Common.{take}
use Rattle.t_objects.proofs.TableLemmas.{IsTableSoFar}
use Rattle.t_objects.proofs.operations.resolve_ops.Given as goal

abbrev pub invariant-forms : goal.invariant-forms
invariant-forms l =
    IsTableSoFar l.unit.names l.unit.nodes.items (take l.form-index l.unit.forms.items) l.ops.items l.found.items
