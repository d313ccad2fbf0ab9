-- Homes of variables as operands of instructions, and by number.
use Rattle.std.specs.Prelude.{ℕ, ◌+◌, ◌*◌, ◌/◌, ◌%◌, ◌==◌, if◌then◌else◌, min, pos, List, [], ◌∷◌, slice_index_or}
use Rattle.t_base.specs.declared.basics.Var.{Var}
use Rattle.word_ir.specs.declared.placed.Home.{Home}
use Rattle.word_ir.specs.declared.placed.Home.TheVariants as home
use Rattle.word_ir.specs.Storage.{static_at}
use Rattle.word_ir.specs.Word.{wrap}
use Rattle.word_ir.specs.WholePlaced.{farthest}
use Rattle.parallel_moves.specs.Moves.{scratch}
use Rattle.m68020_code.specs.declared.instr.Ea.{Ea}
use Rattle.m68020_code.specs.declared.instr.Ea.TheVariants.{D, A, Disp, Abs}
use Rattle.m68020_code.specs.declared.instr.Instr.TheVariants.{MoveL, MoveaL}
use Rattle.m68020_asm.specs.declared.item.Item.{Item}
use Rattle.m68020_asm.specs.declared.item.Item.TheVariants.{Plain}

-- the home of a variable; one without a home is never used
abbrev pub home_of : List Home → Var → Home
home_of homes v = slice_index_or homes v.0 (home.D 0)

-- A word of the stack that is a home is at most the farthest one above the newest.
abbrev pub at_home : Home → Ea
at_home (home.D i) = D i
at_home (home.A i) = A i
at_home (home.Stack n) = Disp 7 (pos (4 * min n farthest))
at_home (home.Static place) = Abs (static_at place)

-- what puts an operand's word into a home
abbrev pub put_into : Ea → Home → Item
put_into from (home.D i) = Plain (MoveL from (D i))
put_into from (home.A i) = Plain (MoveaL from i)
put_into from (home.Stack n) = Plain (MoveL from (at_home (home.Stack n)))
put_into from (home.Static place) = Plain (MoveL from (at_home (home.Static place)))

-- ---- numbers of homes, for moves that are done at once

abbrev pub number_of_home : Home → ℕ
number_of_home (home.D i) = 4 * i
number_of_home (home.A i) = 4 * i + 1
number_of_home (home.Static place) = wrap (4 * place) + 2
number_of_home (home.Stack n) = wrap (4 * n) + 3

-- the place between them is D7
abbrev pub home_at : ℕ → Home
home_at n =
    if n == scratch then home.D 7
    else if n % 4 == 0 then home.D (min (n / 4) 7)
    else if n % 4 == 1 then home.A (min (n / 4) 7)
    else if n % 4 == 2 then home.Static (n / 4)
    else home.Stack (n / 4)

-- ---- between blocks

-- where an Enter puts its arguments, and a block whose code is taken has its parameters at first
abbrev pub convention : List Home
convention = home.D 0 ∷ home.A 0 ∷ home.D 1 ∷ home.D 2 ∷ home.D 3 ∷ home.D 4 ∷ home.D 5 ∷ []
