-- Arguments go to their homes at once: first the words of variables, by moves one after another that have the effect of all, then the
-- words that need no home's.
use Rattle.std.specs.Prelude.{◌≡◌, ◌≢◌, ℕ, Bool, IsTrue, ◌*◌, ◌≤◌, List, [], ◌∷◌, ◌++◌, length, map}
use Rattle.word_ir.specs.declared.operands.Operand.{Operand}
use Rattle.word_ir.specs.declared.operands.Operand.TheVariants as operand
use Rattle.word_ir.specs.declared.placed.Home.{Home}
use Rattle.parallel_moves.specs.declared.Move.{Move}
use Rattle.parallel_moves.specs.declared.OneMove.{OneMove}
use Rattle.parallel_moves.specs.Moves.{scratch, after, at_once, MovesPass, StepsPass}
use Rattle.m68020_asm.specs.declared.item.Item.{Item}
use Rattle.lap_items.specs.Homes.{home_of, at_home, put_into, number_of_home, home_at}
use Rattle.lap_items.specs.Operands.{source_items, source_of}

-- what comes of each argument and its place, as long as there are both
abbrev pub each_pair : {X Y Z : Type 0} → (X → Y → List Z) → List X → List Y → List Z
each_pair f [] places = []
each_pair f (x ∷ args) [] = []
each_pair f (x ∷ args) (to ∷ places) = f x to ++ each_pair f args places

abbrev pub move_between : Home → Home → Move
move_between from to = record { from = number_of_home from; to = number_of_home to }

-- the move of a variable
unfoldable pub moving : List Home → Operand → Home → List Move
moving homes (operand.Var v) to = move_between (home_of homes v) to ∷ []
moving homes (operand.Word n) to = []
moving homes (operand.Static place) to = []
moving homes (operand.Code block) to = []
moving homes (operand.Slot bytes) to = []

abbrev pub moves_to : List Home → List Operand → List Home → List Move
moves_to homes args places = each_pair (moving homes) args places

-- an argument that isn't a variable goes to its place
unfoldable pub filling : List Home → Operand → Home → List Item
filling homes (operand.Var v) to = []
filling homes (operand.Word n) to = put_into (source_of homes (operand.Word n)) to ∷ []
filling homes (operand.Static place) to = put_into (source_of homes (operand.Static place)) to ∷ []
filling homes (operand.Code block) to = source_items (operand.Code block) ++ put_into (source_of homes (operand.Code block)) to ∷ []
filling homes (operand.Slot bytes) to = source_items (operand.Slot bytes) ++ put_into (source_of homes (operand.Slot bytes)) to ∷ []

abbrev pub fill_items : List Home → List Operand → List Home → List Item
fill_items homes args places = each_pair (filling homes) args places

-- one move after another
abbrev pub one_item : OneMove → Item
one_item m = put_into (at_home (home_at m.from)) (home_at m.to)

abbrev pub moved_items : List OneMove → List Item
moved_items done = map one_item done

-- These moves one after another have the effect of those at once, touch no other place but the one between them, and are few.
pub record DoesAtOnce (moves : List Move) (done : List OneMove) : Type 0 where
  pub effect : (holds : ℕ → ℕ) (p : ℕ) → p ≢ scratch → after done holds p ≡ at_once moves holds p
  pub places : (test : ℕ → Bool) → IsTrue (test scratch) → MovesPass test moves → StepsPass test done
  pub few : length done ≤ 3 * length moves
