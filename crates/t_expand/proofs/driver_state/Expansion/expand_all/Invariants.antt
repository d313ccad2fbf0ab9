use Rattle.std.proofs.Common.{◌≡◌, List, [], take, None}
use Rattle.t_forms.specs.Names.{Bound}
use Rattle.t_expand.specs.Growth.{IsReady}
use Rattle.expansion.specs.Settling.{all_settled}
use Rattle.t_expand.specs.SoFar.{SoFar}
use Rattle.t_expand.specs.Tallies.{AreTallied}
use Rattle.unit_tops.specs.Tops.{AreTops}
use Rattle.expansion.specs.Units.{Top}
use Rattle.t_expand.proofs.driver_state.Expansion.expand_all.Given as goal

abbrev pub invariant-tops : goal.invariant-tops
invariant-tops l = record {
  so_far : (ts : List Top) (defined : List Bound) → IsReady l.initial.self defined → AreTops l.initial.self.shared.names l.initial.self.forms l.tops ts
      → SoFar l.initial.self l.self l.marks l.list (take l.top-index ts) defined;
  globals : l.self.shared.globals.items ≡ all_settled l.initial.self.shared.globals.items l.list.forms.items;
  tallied : (l.initial.self.first ≡ None → AreTallied [] l.initial.self) → l.self.first ≡ None → AreTallied l.list.forms.items l.self;
}
