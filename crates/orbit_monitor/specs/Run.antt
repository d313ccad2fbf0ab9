-- The run of an image: what has come of it after so many instructions.
use Rattle.std.specs.Prelude.{ℕ}
use Rattle.image_file.specs.Grammar.{Parts}
use Rattle.m68020_step.specs.declared.machine.Sizes.{Sizes}
use Rattle.m68020_step.specs.Boot.{boot_of}
use Rattle.m68020_step.specs.Step.{State}
use Rattle.machine_services.specs.Runs.{Progress, start_of, run_from}

-- the state at boot
abbrev pub booted : Parts → Sizes → State
booted image sizes = boot_of image.code image.statics image.entry sizes

-- the run of an image, from boot on
abbrev pub run : Parts → Sizes → ℕ → Progress
run image sizes m = run_from image.names (start_of (booted image sizes)) m
