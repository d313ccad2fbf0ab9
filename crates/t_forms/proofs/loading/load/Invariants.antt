use Rattle.std.proofs.Common.{◌≡◌, ℕ, ◌<◌, length}
use Rattle.t_reader.specs.Grammar.{Tree}
use Rattle.t_reader.specs.Unit.{Holds}
use Rattle.t_forms.specs.Data.{datum_of}
use Rattle.t_forms.specs.Held.{Held}
use Rattle.t_forms.proofs.loading.load.Given as goal

abbrev pub invariant-nodes : goal.invariant-nodes
invariant-nodes l = record {
  count : length l.forms ≡ l.node-index;
  held : (k : ℕ) (t : Tree) → k < l.node-index → Holds l.names l.nodes k t → Held l.names l.forms k (datum_of t);
}
