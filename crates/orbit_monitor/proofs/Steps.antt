-- The run of every image is the run of a machine, only goes on, and has its steps as its moves.
use Rattle.std.proofs.Common.{◌≡◌}
use Rattle.program_runs.specs.Follows.{GoesOn, runs}
use Rattle.program_runs.specs.LawsOfKeeps.{CountsSteps}
use Rattle.image_file.specs.Grammar.{Parts}
use Rattle.m68020_step.specs.declared.machine.Sizes.{Sizes}
use Rattle.machine_services.specs.Runs.{start_of}
use Rattle.machine_services.specs.Observed.{service_machine}
use Rattle.machine_services.proofs.Steps.{observed_is_machine, observed_goes_on, observed_counts}
use Rattle.orbit_monitor.specs.Run.{booted}
use Rattle.orbit_monitor.specs.Observed.{observed}

pub observed-counts : (image : Parts) (sizes : Sizes) → CountsSteps (observed image sizes)
observed-counts image sizes = observed_counts image.names (booted image sizes)

pub observed-goes_on : (image : Parts) (sizes : Sizes) → GoesOn (observed image sizes)
observed-goes_on image sizes = observed_goes_on image.names (booted image sizes)

pub observed-runs : (image : Parts) (sizes : Sizes) → runs (service_machine image.names) (start_of (booted image sizes)) ≡ observed image sizes
observed-runs image sizes = observed_is_machine image.names (booted image sizes)
