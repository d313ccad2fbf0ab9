-- The marks of a unit are those after any round from which on nothing changes.
use Rattle.std.proofs.Common.{◌≡◌, ℕ, suc, ◌≤◌, List, length, subst, le_trans}
use Rattle.escape_marks.specs.Rules.{marks}
use Rattle.t_meaning.specs.EscapeFacts.{Tree, trees_of, facts_of}
use Rattle.t_meaning.specs.Escape.{node_total, escaping}
use Rattle.escape_marks.proofs.MarkLaws.{marks_stay}
use Rattle.t_meaning.proofs.EscapeBounds.{subjects_within}
use Rattle.rows_escape.specs.Rows.{Escape}

pub from_round : (k : ℕ) (trees : List Tree) → k ≤ length (facts_of trees).subjects → marks (suc k) (facts_of trees) ≡ marks k (facts_of trees) → Escape trees (marks k (facts_of trees))
from_round k trees le fixed unit e =
    let P : List Tree → Type 0 = λ ts. k ≤ length (facts_of ts).subjects → marks (suc k) (facts_of ts) ≡ marks k (facts_of ts) → escaping unit ≡ marks k (facts_of ts) in
    let same : P (trees_of unit) = λ within settled. let facts = facts_of (trees_of unit) in marks_stay facts k (node_total unit) settled (le_trans within (subjects_within unit)) in
    subst P e same le fixed
