-- What is seen of the machine at some progress of its run, as of every form of a program.
use Rattle.std.specs.Prelude.{ℕ, ◌-◌, ◌/◌, List, slice_index, option_map}
use Rattle.program_runs.specs.Runs.{Observation, Run}
use Rattle.program_runs.specs.Runs.{End, Value, Faulted, Full, Broken}
use Rattle.program_runs.specs.Follows.{Machine}
use Rattle.word_faces.specs.Faces.{shown_of}
use Rattle.m68020_step.specs.declared.storage.TheConstants.{HEAP_START}
use Rattle.m68020_step.specs.Step.{State}
use Rattle.machine_services.specs.declared.exit.Exit.{Exit}
use Rattle.machine_services.specs.declared.exit.Exit.TheVariants as exit
use Rattle.machine_services.specs.Runs.{Progress, start_of, further, run_from}

-- no program that was compiled stops
abbrev pub end_of : List (List ℕ) → Exit → End
end_of names (exit.Done face) = Value (shown_of names face)
end_of names (exit.Fault fault) = Faulted fault
end_of names (exit.Full stack asked left) = Full stack asked left
end_of names (exit.Stop why at) = Broken

-- words below A4, the next free address of the heap
abbrev pub heap_words : State → ℕ
heap_words s = (slice_index s.registers.a 4 - HEAP_START) / 4

-- The evaluations that wait are in the stack, so none is counted apart.
abbrev pub observation_of : List (List ℕ) → Progress → Observation
observation_of names p = record {
  output = p.output;
  end = option_map (end_of names) p.end;
  heap = heap_words p.state;
  waiting = 0;
  moves = p.instructions;
}

-- the run from a state on, for a program with these names
abbrev pub observed_from : List (List ℕ) → State → Run
observed_from names s n = observation_of names (run_from names (start_of s) n)

-- the machine whose run this is: a step is one instruction with its service, until the program has ended
abbrev pub service_machine : List (List ℕ) → Machine Progress
service_machine names = record { step = λ p. further names p p.end; seen = observation_of names }
