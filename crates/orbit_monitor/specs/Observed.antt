-- The run of an image as a run of a program, as every form of it has one.
use Rattle.program_runs.specs.Runs.{Run}
use Rattle.image_file.specs.Grammar.{Parts}
use Rattle.m68020_step.specs.declared.machine.Sizes.{Sizes}
use Rattle.machine_services.specs.Observed.{observed_from}
use Rattle.orbit_monitor.specs.Run.{booted}

abbrev pub observed : Parts → Sizes → Run
observed image sizes = observed_from image.names (booted image sizes)
