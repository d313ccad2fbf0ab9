-- The command that the code holds.
use Rattle.std.specs.Prelude.{IsTrue}
use Rattle.m68020_step.specs.declared.machine.Sizes.{Sizes}
use Rattle.m68020_step.specs.Boot.{is_size}
use Rattle.orbit_cli.specs.declared.words.Command.{Command}
use Rattle.orbit_cli.specs.declared.words.Command.TheVariants as held
use Rattle.orbit_cli.specs.Words.{Command as Asked, Compile, Run, Go, Check, Listing}

abbrev pub view_of : Command → Asked
view_of (held.Compile src img) = Compile src.now img.now
view_of (held.Run img bounds) = Run img.now bounds
view_of (held.Go src img bounds) = Go src.now img.now bounds
view_of (held.Check src) = Check src.now
view_of (held.List img) = Listing img.now

-- sizes that a machine takes
pub record AreSizes (sizes : Sizes) : Type 0 where
  pub heap : IsTrue (is_size sizes.heap)
  pub stack : IsTrue (is_size sizes.stack)

-- where it is a run, its sizes are so
abbrev pub HasBounds : Command → Type 0
HasBounds (held.Compile src img) = Unit {0}
HasBounds (held.Run img bounds) = AreSizes bounds.sizes
HasBounds (held.Go src img bounds) = AreSizes bounds.sizes
HasBounds (held.Check src) = Unit {0}
HasBounds (held.List img) = Unit {0}
