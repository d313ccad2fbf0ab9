-- The statuses and their numbers.
use Rattle.std.specs.Prelude.{ℕ}
use Rattle.orbit_cli.specs.declared.status.Status.{Status}
use Rattle.orbit_cli.specs.declared.status.Status.TheVariants as status

abbrev pub number_of : Status → ℕ
number_of status.Done = 0
number_of status.Usage = 1
number_of status.SourceRefused = 2
number_of status.SourceFault = 3
number_of status.HeapFull = 4
number_of status.StackFull = 5
number_of status.StepLimit = 6
number_of status.BadImage = 7
number_of status.FetchFault = 8
number_of status.WriteFault = 9
number_of status.Memory = 10
number_of status.Limit = 11
number_of status.MachineStop = 12
number_of status.LongFile = 13
number_of status.Unbuilt = 14
