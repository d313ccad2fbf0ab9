use Rattle.std.proofs.Common.{◌≡◌, ◌||◌, take}
use Rattle.std.specs.List.{list_any}
use Rattle.t_base.specs.declared.basics.Var.{Var}
use Rattle.t_meaning.specs.Costs.{assigns}
use Rattle.cps_walk.specs.Marked.{is_marked}
use Rattle.cps_units.proofs.marks.mark_nodes.Given as goal

abbrev pub invariant-nodes : goal.invariant-nodes
invariant-nodes l = (v : Var) → is_marked l.marks.items v.0 ≡ (is_marked l.fn.marks.items v.0 || list_any (assigns v) (take l.node-index l.nodes))
