-- The parts of a datum stand at lower places.
use Rattle.std.proofs.Common.{ℕ, ◌<◌, List, Some, arith, rules}
use Rattle.t_reader.specs.Grammar.{Tree, leaf, pair}
use Rattle.t_reader.specs.declared.unit.Node.{Node}
use Rattle.t_objects.specs.Lists.{ArePartsOf}

pub tail_below : (names : List (List ℕ)) (nodes : List Node) (key : ℕ) (t : Tree) (h l : ℕ) → ArePartsOf names nodes key t (Some (h, l)) → l < key
tail_below names nodes key (leaf s v) h l parts = search (rules, parts)
tail_below names nodes key (pair s head tail) h l parts = grind (arith, parts)
