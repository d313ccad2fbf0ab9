-- A number for each local name, by which it is found again.
use Rattle.std.specs.Prelude.{ℕ, ◌+◌, ◌*◌}
use Rattle.t_forms.specs.declared.arena.New.{New}
use Rattle.t_forms.specs.declared.arena.New.TheVariants as new
use Rattle.t_forms.specs.declared.scope.LocalName.{LocalName}
use Rattle.t_forms.specs.declared.scope.LocalName.TheVariants as key

abbrev pub number_of_new : New → ℕ
number_of_new new.Answer = 1
number_of_new new.Chosen = 3
number_of_new new.Turn = 5
number_of_new new.Start = 7
number_of_new new.Own = 9
number_of_new new.Content = 11
number_of_new (new.Part i) = i * 2 + 13

abbrev pub number_of_name : LocalName → ℕ
number_of_name (key.Written n) = n.0 * 2
number_of_name (key.Made v) = number_of_new v
