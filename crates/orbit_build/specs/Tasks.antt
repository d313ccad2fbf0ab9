-- The code that is still to be put out.
use Rattle.std.specs.Prelude.{◌≡◌, ℕ, zero, suc, ◌+◌, ◌*◌, ◌<◌, List, [], ◌∷◌, ◌++◌}
use Rattle.m68020_code.specs.Table.{spelling}
use Rattle.t_core.specs.declared.forms.Core.{Core}
use Rattle.orbit_build.specs.declared.term.Task.{Task}
use Rattle.orbit_build.specs.declared.term.Task.TheVariants as task
use Rattle.orbit_build.specs.Sums.{Term, IsTerm, HasFixnums, most_open}
use Rattle.orbit_build.specs.Code.{save, add_saved, bytes_of, term_code}

-- a node whose term has this code, under so many sums whose second operand it is part of
pub record IsNodeCode (nodes : List Core) (key depth : ℕ) (code : List ℕ) : Type 0 where
  pub term : Term
  pub is : IsTerm nodes key term
  pub fixnums : HasFixnums term
  pub low : depth + key < most_open
  pub code_is : code ≡ term_code depth term

-- the task puts out this code
abbrev pub IsCodeOf : List Core → Task → List ℕ → Type 0
IsCodeOf nodes (task.Node key depth) code = IsNodeCode nodes key depth code
IsCodeOf nodes (task.Save depth) code = (depth < most_open) × (code ≡ spelling (save depth))
IsCodeOf nodes (task.Add depth) code = (depth < most_open) × (code ≡ bytes_of (add_saved depth))

-- the tasks put out this code, the last one first
abbrev pub AreCode : List Core → List Task → List ℕ → Type 0
AreCode nodes [] code = code ≡ []
AreCode nodes (t ∷ ts) code = (early : List ℕ) × (late : List ℕ) × AreCode nodes ts early × IsCodeOf nodes t late × (code ≡ early ++ late)

-- with the code of the tasks behind it, what was put out is this
pub record Leads (nodes : List Core) (tasks : List Task) (out total : List ℕ) : Type 0 where
  pub rest : List ℕ
  pub code : AreCode nodes tasks rest
  pub total_is : out ++ rest ≡ total

-- at most so many steps put out the node at a place
abbrev pub node_steps : ℕ → ℕ
node_steps zero = 2
node_steps (suc key) = 4 * node_steps key

abbrev pub steps : Task → ℕ
steps (task.Node key depth) = node_steps key
steps (task.Save depth) = 1
steps (task.Add depth) = 1
